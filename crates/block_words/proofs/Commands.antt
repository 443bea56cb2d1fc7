-- The block of a live ticket has its message and its command.
use Rattle.std.proofs.Common.{arith, ◌≡◌, ◌⊎◌, inl, inr, ℕ, zero, suc, ◌+◌, ◌%◌, ◌<◌, ◌≤◌, Bool, true, false, List, [], ◌∷◌, ◌++◌, length, take, drop, slice_index, slice_index_or, get_or, refl, sym, ap, subst, ◌∙◌}
use Rattle.std.specs.Prelude.{◌&&◌, ◌==◌, ◌-◌, replicate, option_map}
use Rattle.std.proofs.lemmas.Bool.{false≢true}
use Rattle.std.proofs.lemmas.List.{get_or-set_same}
use Rattle.std.proofs.lemmas.Bool.Decides.{nat_tests}
use Rattle.std.proofs.lemmas.Option.{same_Some}
use Rattle.bench_words.specs.Bytes.{IsBytes}
use Rattle.bench_words.specs.Memory.{word_at, put_word, put_bytes, bytes_at}
use Rattle.bench_words.proofs.Cells.{word_at-plus}
use Rattle.bench_words.proofs.MemoryLaws.{word_apart, bytes_apart, bytes_same, length-put_bytes}
use Rattle.rig_types.specs.Ranges.{IsRig}
use Rattle.rig_types.specs.declared.commands.Command.{Command}
use Rattle.rig_types.specs.declared.rig.Unit.{Unit as RigUnit}
use Rattle.rig_types.specs.declared.step.Line.{Line}
use Rattle.rig_types.specs.declared.step.Step.{Step}
use Rattle.rig_types.specs.declared.step.Step.TheVariants as step
use Rattle.unit_law.specs.Request.{RequestData, plain}
use Rattle.sense_job.specs.Turning.{turned, request_sense, with_fields, sense_fields}
use Rattle.bench_words.proofs.Bytes.{bytes-put_bytes, bytes-put_word, bytes-cons, bytes-nil}
use Rattle.sense_job.proofs.FieldLists.{length-with_fields}
use Rattle.sense_job.proofs.TurningLaws.{turned_is, command_bytes}
use Rattle.cmd_block.specs.Block.{offset}
use Rattle.cmd_block.specs.declared.Field.{Field}
use Rattle.desk_law.specs.declared.ticket.Piece.{Piece}
use Rattle.desk_law.specs.declared.ticket.Ticket.{Ticket}
use Rattle.desk_law.specs.declared.stage.Stage.TheVariants as stage
use Rattle.desk_law.specs.Blocks.{message_bytes, with_block, with_buffer, segment_fields}
use Rattle.desk_law.specs.Building.{new_ticket}
use Rattle.desk_law.specs.Calls.{sense_memory}
use Rattle.desk_law.specs.Desk.{ticket, unit, no_unit, no_ticket, lives}
use Rattle.world_law.specs.Enabling.{Enabled}
use Rattle.world_law.specs.Laws.{KeepsTicket}
use Rattle.world_law.specs.Opening.{opened}
use Rattle.world_law.specs.Runs.{Moment, Steps, IsRun, last}
use Rattle.world_law.specs.Steps.{Does}
use Rattle.world_law.specs.World.{BenchSetting, IsBenchSetting, World, request_at}
use Rattle.world_law.proofs.RunLaws.{goes_on, ends_after}
use Rattle.world_law.proofs.TicketsKept.{keeps_tickets}
use Rattle.word_owners.specs.BenchSteps.{IsOwned}
use Rattle.word_owners.specs.BuiltTickets.{AreBuilt}
use Rattle.word_owners.specs.Spaces.{no_piece}
use Rattle.word_owners.specs.Tickets.{IsLive}
use Rattle.word_owners.specs.Worlds.{HasBytes}
use Rattle.word_owners.proofs.BuiltBlocks.{head}
use Rattle.word_owners.proofs.BuiltMemory.{reads-low, here, is-new, short, above, target-low}
use Rattle.word_owners.proofs.KeptDesks.{swept-active}
use Rattle.word_owners.proofs.Lists.{live-within}
use Rattle.word_owners.proofs.Worlds.{words_are_owned, depths_are_kept}
use Rattle.run_joined.proofs.Rigs.{rig-stays}
use Rattle.block_words.specs.Commands.{HasCommand, command_by, HasItsCommand, CommandsAreTold}
use Rattle.block_words.specs.KeptWords.{MayChange, IsKept}
use Rattle.block_words.proofs.KeptWords.{words-stay}
use Rattle.block_words.proofs.RunSteps.{by-steps, stage-lives, IsAccepted, lived-or-built}
use Rattle.block_words.proofs.Turned.{turned_of, turned-same}

-- ---- bytes of words
low-byte : (m : List ℕ) (a : ℕ) → IsBytes m → slice_index m a ≡ word_at m a % 256
low-byte m a h = let e = word_at-plus m a in let b = h.below a in omega (arith, e, b)

pub bytes-kept : (m n : List ℕ) (a k : ℕ) → IsBytes m → IsBytes n → ((i : ℕ) → i < k → word_at n (a + i) ≡ word_at m (a + i)) → bytes_at n a k ≡ bytes_at m a k
unfolding bytes_at
bytes-kept m n a zero h o e = refl
bytes-kept m n a (suc k) h o e =
    let first : slice_index n a ≡ slice_index m a = low-byte n a o ∙ ap (λ (x : ℕ). x % 256) (let z : a + 0 ≡ a = omega arith in ap (word_at n) (sym z) ∙ e 0 (omega arith) ∙ ap (word_at m) z) ∙ sym (low-byte m a h) in
    let rest : bytes_at n (suc a) k ≡ bytes_at m (suc a) k = bytes-kept m n (suc a) k h o (λ i l. let z : a + suc i ≡ suc a + i = omega arith in ap (word_at n) (sym z) ∙ e (suc i) (omega (arith, l)) ∙ ap (word_at m) z) in
    ap (λ (x : ℕ). x ∷ bytes_at n (suc a) k) first ∙ ap (λ (xs : List ℕ). slice_index m a ∷ xs) rest

buffer-bytes-low : (m : List ℕ) (ps : List Piece) (bytes : List ℕ) (a n : ℕ) → a + n ≤ 0x200000 → ((i : ℕ) → i < length ps → 0x200000 ≤ (get_or ps i no_piece).chunk.base) → bytes_at (with_buffer m ps bytes) a n ≡ bytes_at m a n
buffer-bytes-low m [] bytes a n l h = refl
buffer-bytes-low m (p ∷ ps) bytes a n l h =
    let b : 0x200000 ≤ p.chunk.base = h 0 (omega arith) in
    buffer-bytes-low (put_bytes m p.chunk.base (take p.len bytes)) ps (drop p.len bytes) a n l (λ i k. h (suc i) (omega (arith, k)))
    ∙ bytes_apart m p.chunk.base a n (take p.len bytes) (inl (omega (arith, b, l)))

-- ---- a block with its command, where the words that have it stay
moved-command : (m n : List ℕ) (u : RigUnit) (k j : Ticket) (cdb : List ℕ) → IsBytes m → IsBytes n → j.block ≡ k.block → j.tag ≡ k.tag → length cdb ≤ 12 → ((o : ℕ) → 0x20 ≤ o → IsKept o → word_at n (k.block + o) ≡ word_at m (k.block + o)) → HasCommand m u k cdb
    → HasCommand n u j cdb
moved-command m n u k j cdb h o b t short same c = record {
  message =
      ap (λ (i : ℕ). bytes_at n (i + 0xE0) 3) b
      ∙ bytes-kept m n (k.block + 0xE0) 3 h o (λ i l. let z : k.block + 0xE0 + i ≡ k.block + (0xE0 + i) = omega arith in ap (word_at n) z ∙ same (0xE0 + i) (omega arith) (inr (inr (inr (omega arith, omega (arith, l))))) ∙ ap (word_at m) (sym z))
      ∙ c.message ∙ ap (λ (i : ℕ). (0xC0 + u.lun) ∷ 0x20 ∷ i ∷ []) (sym t);
  count = ap (λ (i : ℕ). word_at n (i + 0x28)) b ∙ same 0x28 (omega arith) (inr (inr (inl (omega arith, omega arith)))) ∙ c.count;
  command =
      ap (λ (i : ℕ). bytes_at n (i + 0xF0) (length cdb)) b
      ∙ bytes-kept m n (k.block + 0xF0) (length cdb) h o (λ i l. let z : k.block + 0xF0 + i ≡ k.block + (0xF0 + i) = omega arith in ap (word_at n) z ∙ same (0xF0 + i) (omega arith) (inr (inr (inr (omega arith, omega (arith, l, short))))) ∙ ap (word_at m) (sym z))
      ∙ c.command;
}

-- a block that is turned
bytes-fields : (m : List ℕ) (b : ℕ) (fs : List (Field × ℕ)) → IsBytes m → IsBytes (with_fields m b fs)
bytes-fields m b [] h = h
bytes-fields m b (f ∷ fs) h = bytes-fields (put_word m (b + offset f.0) f.1) b fs (bytes-put_word m (b + offset f.0) f.1 h)

bytes-turned : (m : List ℕ) (b : ℕ) → IsBytes m → IsBytes (turned m b)
bytes-turned m b h =
    bytes-put_bytes (with_fields m b (sense_fields b)) (b + 0xF0) request_sense (bytes-fields m b (sense_fields b) h)
    (bytes-cons 3 _ (omega arith) (bytes-cons 0 _ (omega arith) (bytes-cons 0 _ (omega arith) (bytes-cons 0 _ (omega arith) (bytes-cons 0x12 _ (omega arith) (bytes-cons 0 [] (omega arith) bytes-nil))))))

module _ (g : BenchSetting) (setting : IsBenchSetting g) (bytes : HasBytes g) where
  abbrev Told : World → Type 0
  Told w = (t : ℕ) → lives (ticket w.desk t) ≡ true → HasItsCommand g w t

  module _ (ms : List Moment) (m : Moment) (r : IsRun g (opened g) ms) (s : Steps g (last (opened g) ms) m) (h : Told (last (opened g) ms)) where
    abbrev old : World
    old = last (opened g) ms

    own : IsOwned g.version g.units old
    own = words_are_owned g setting bytes ms r

    -- memory stays bytes
    bytes-after : IsBytes m.after.memory
    bytes-after = (subst (IsOwned g.version g.units) (ends_after (opened g) ms m) (words_are_owned g setting bytes (ms ++ m ∷ []) (goes_on g (opened g) ms m r s))).holds.bytes

    units-same : m.after.desk.units ≡ old.desk.units
    units-same = (rig-stays g old m.entry.caller m.entry.step m.reply m.after s.does).units

    -- ---- a ticket that lived
    module _ (t : ℕ) (l : t < length old.desk.tickets) (alive : lives (ticket old.desk t) ≡ true) where
      live : IsLive (ticket old.desk t).stage
      live = stage-lives old.desk t alive

      kept : KeepsTicket (ticket old.desk t) (ticket m.after.desk t)
      kept = keeps_tickets g old m t s l

      abbrev b : ℕ
      b = (ticket old.desk t).block

      unit-same : unit m.after.desk (ticket m.after.desk t).unit ≡ unit old.desk (ticket old.desk t).unit
      unit-same = ap (λ (us : List RigUnit). slice_index_or us (ticket m.after.desk t).unit no_unit) units-same ∙ ap (λ (i : ℕ). slice_index_or old.desk.units i no_unit) kept.unit

      few : word_at old.memory (b + 0x28) ≤ 12
      few = (own.holds.parts.blocks t live).command.0

      -- the words and the flag stay
      still : turned_of (ticket m.after.desk t) ≡ turned_of (ticket old.desk t) → ((o : ℕ) → 0x20 ≤ o → IsKept o → word_at m.after.memory (b + o) ≡ word_at old.memory (b + o)) → HasItsCommand g m.after t
      still e same x is =
          let c = h t alive x (ap (request_at g) (sym kept.line) ∙ is) in
          let cdb = command_by (turned_of (ticket old.desk t)) x in
          subst (λ (f : Bool). HasCommand m.after.memory (unit m.after.desk (ticket m.after.desk t).unit) (ticket m.after.desk t) (command_by f x)) (sym e)
          (subst (λ (u : RigUnit). HasCommand m.after.memory u (ticket m.after.desk t) cdb) (sym unit-same)
          (moved-command old.memory m.after.memory (unit old.desk (ticket old.desk t).unit) (ticket old.desk t) (ticket m.after.desk t) cdb own.holds.bytes bytes-after kept.block kept.tag (omega (arith, c.count, few)) same c))

      -- Sense of it
      sensed : m.entry.step ≡ step.Sense t → HasItsCommand g m.after t
      sensed e x is =
          let may = subst (λ (y : Step). Enabled g old m.entry.caller y) e s.enabled in
          let d = (subst (λ (y : Step). Does g old m.entry.caller y m.reply m.after) e s.does).1 in
          let c = h t alive x (ap (request_at g) (sym kept.line) ∙ is) in
          let k : Ticket = record (ticket old.desk t) { stage = stage.Sensing } in
          let now : ticket m.after.desk t ≡ k = ap (λ (w : World). ticket w.desk t) d ∙ get_or-set_same old.desk.tickets t k no_ticket (live-within old.desk.tickets t live) in
          let flag : turned_of (ticket m.after.desk t) ≡ true = ap turned_of now ∙ ap (λ (f : Bool). f && true) (own.holds.checked t (inl may.2)) in
          let first = turned old.memory b in
          let p = own.holds.tickets.block t live in
          let q = turned_is old.memory b own.holds.size p in
          let memory : m.after.memory ≡ sense_memory old.desk t old.memory = ap (λ (w : World). w.memory) d in
          let above : (a : ℕ) → 0x10000 ≤ a → word_at m.after.memory a ≡ word_at first a = λ a low. ap (λ (i : List ℕ). word_at i a) memory ∙ word_apart first 0x1000 a b (inr (omega (arith, low))) in
          let bytes-first : IsBytes first = bytes-turned old.memory b own.holds.bytes in
          let made : HasCommand m.after.memory (unit old.desk (ticket old.desk t).unit) (ticket m.after.desk t) request_sense = record {
            message =
                ap (λ (i : ℕ). bytes_at m.after.memory (i + 0xE0) 3) kept.block
                ∙ bytes-kept old.memory m.after.memory (b + 0xE0) 3 own.holds.bytes bytes-after (λ i j. above (b + 0xE0 + i) (omega (arith, p.from)) ∙ q.other (b + 0xE0 + i) (omega arith) (omega arith) (omega arith) (omega arith) (omega (arith, j)))
                ∙ c.message ∙ ap (λ (i : ℕ). (0xC0 + (unit old.desk (ticket old.desk t).unit).lun) ∷ 0x20 ∷ i ∷ []) (sym kept.tag);
            count = ap (λ (i : ℕ). word_at m.after.memory (i + 0x28)) kept.block ∙ above (b + 0x28) (omega (arith, p.from)) ∙ q.entry.0;
            command =
                ap (λ (i : ℕ). bytes_at m.after.memory (i + 0xF0) 6) kept.block
                ∙ bytes-kept first m.after.memory (b + 0xF0) 6 bytes-first bytes-after (λ i j. above (b + 0xF0 + i) (omega (arith, p.from)))
                ∙ command_bytes old.memory b own.holds.size p;
          } in
          subst (λ (f : Bool). HasCommand m.after.memory (unit m.after.desk (ticket m.after.desk t).unit) (ticket m.after.desk t) (command_by f x)) (sym flag)
          (subst (λ (u : RigUnit). HasCommand m.after.memory u (ticket m.after.desk t) request_sense) (sym unit-same) made)

      flag-or : (m.entry.step ≡ step.Sense t) ⊎ (turned_of (ticket m.after.desk t) ≡ turned_of (ticket old.desk t))
      flag-or = turned-same old (λ u n. live-within old.desk.tickets u n) own.holds.tickets.turned t l g m.after m.entry.caller m.entry.step m.reply s.enabled s.does
          (λ u e. swept-active old (ticket old.desk u) (subst (λ (y : Step). Enabled g old m.entry.caller y) e s.enabled).1)

      word-or : (o : ℕ) → 0x20 ≤ o → IsKept o → (m.entry.step ≡ step.Sense t) ⊎ (word_at m.after.memory (b + o) ≡ word_at old.memory (b + o))
      word-or o low k = elim (words-stay g setting bytes ms r m s t o alive k) [
        | inr e ↦ inr (ap (λ (i : ℕ). word_at m.after.memory (i + o)) (sym kept.block) ∙ e)
        | inl c ↦ inl (is-sense m.entry.step c)
      ]
        where
          is-sense : (x : Step) → MayChange g old x t o → x ≡ step.Sense t
          is-sense (step.Act i) c = absurd (omega (arith, low, c.1))
          is-sense (step.Sense i) c = ap (λ (j : ℕ). step.Sense j) c
          is-sense x c = absurd c

      lived : HasItsCommand g m.after t
      lived = elim flag-or [ inl e ↦ sensed e | inr f ↦ by-sense (is-sense m.entry.step) refl f ]
        where
          is-sense : Step → Bool
          is-sense (step.Sense x) = x == t
          is-sense x = false

          same-test : (i : ℕ) → (i == i) ≡ true
          same-test i = grind (arith, nat_tests)

          by-sense : (x : Bool) → is-sense m.entry.step ≡ x → turned_of (ticket m.after.desk t) ≡ turned_of (ticket old.desk t) → HasItsCommand g m.after t
          by-sense true e f = sensed (it-is m.entry.step e)
            where
              it-is : (x : Step) → is-sense x ≡ true → x ≡ step.Sense t
              it-is (step.Sense x) e = ap (λ (i : ℕ). step.Sense i) (grind (arith, nat_tests))
              it-is x e = absurd cc
          by-sense false e f = still f (λ o low k. elim (word-or o low k) [ inl z ↦ absurd (false≢true (sym e ∙ ap is-sense z ∙ same-test t)) | inr z ↦ z ])

    -- ---- a ticket that the step builds
    rig-here : IsRig old.desk.version old.desk.units g.retries g.step_limit
    rig-here =
        subst (λ (v : ℕ). IsRig v old.desk.units g.retries g.step_limit) (sym own.holds.version_is)
        (subst (λ (us : List RigUnit). IsRig g.version us g.retries g.step_limit) (sym own.holds.units_are) setting.rig)

    built-command : (l : Line) (t : ℕ) → IsAccepted g old m.after l t → HasItsCommand g m.after t
    built-command l t x y is =
        let desks = depths_are_kept g setting bytes ms r in
        let fit = bytes l x.command x.is in
        let q : RequestData = plain x.command.request in
        let built : AreBuilt old.desk = record { tickets = own.holds.tickets; depths = desks.depths; space = desks.space } in
        let d = x.accepts.builds in
        let k = new_ticket old.desk l q d.chunks in
        let u = unit old.desk q.unit in
        let now = here g.retries g.step_limit old m.after.desk m.after.memory l q t rig-here fit own.holds.size own.holds.bytes own.holds.checked built d in
        let new = is-new g.retries g.step_limit old m.after.desk m.after.memory l q t rig-here fit own.holds.size own.holds.bytes own.holds.checked built d in
        let small = short g.retries g.step_limit old m.after.desk m.after.memory l q t rig-here fit own.holds.size own.holds.bytes own.holds.checked built d in
        let low_target = target-low g.retries g.step_limit old m.after.desk m.after.memory l q t rig-here fit own.holds.size own.holds.bytes own.holds.checked built d in
        let high = above g.retries g.step_limit old m.after.desk m.after.memory l q t rig-here fit own.holds.size own.holds.bytes own.holds.checked built d in
        let p = new.block in
        let blocked = with_block old.memory u k q.cdb in
        let tabled = with_fields (with_fields (put_bytes old.memory k.block (replicate 0x200 0)) k.block (head u k (length q.cdb))) k.block (segment_fields (16 - length k.pieces) k.pieces) in
        let size : length tabled ≡ 0x400000 = length-with_fields _ k.block (segment_fields (16 - length k.pieces) k.pieces) ∙ length-with_fields _ k.block (head u k (length q.cdb)) ∙ length-put_bytes old.memory k.block (replicate 0x200 0) ∙ own.holds.size in
        let messaged = put_bytes tabled (k.block + 0xE0) (message_bytes u k) in
        let messaged-size : length messaged ≡ 0x400000 = length-put_bytes tabled (k.block + 0xE0) (message_bytes u k) ∙ size in
        let from-block : (a n : ℕ) → a + n ≤ 0x200000 → bytes_at m.after.memory a n ≡ bytes_at blocked a n = λ a n i. ap (λ (z : List ℕ). bytes_at z a n) d.wrote ∙ buffer-bytes-low blocked k.pieces q.bytes a n i high in
        let same : y ≡ q = same_Some y q (sym is ∙ ap (λ (z : Ticket). request_at g z.line) now ∙ ap (option_map (λ (c : Command). plain c.request)) x.is) in
        let made : HasCommand m.after.memory u k q.cdb = record {
          message =
              from-block (k.block + 0xE0) 3 (omega (arith, p.below))
              ∙ bytes_apart messaged (k.block + 0xF0) (k.block + 0xE0) 3 q.cdb (inl (omega arith))
              ∙ bytes_same tabled (k.block + 0xE0) (message_bytes u k) (omega (arith, size, p.below));
          count = reads-low g.retries g.step_limit old m.after.desk m.after.memory l q t rig-here fit own.holds.size own.holds.bytes own.holds.checked built d 10 (omega arith) (omega arith);
          command =
              from-block (k.block + 0xF0) (length q.cdb) (omega (arith, p.below, small))
              ∙ bytes_same messaged (k.block + 0xF0) q.cdb (omega (arith, messaged-size, p.below, small));
        } in
        subst (λ (z : Ticket). HasCommand m.after.memory (unit m.after.desk z.unit) z (command_by (turned_of z) y)) (sym now)
        (subst (λ (us : List RigUnit). HasCommand m.after.memory (slice_index_or us q.unit no_unit) k (command_by false y)) (sym units-same)
        (subst (λ (z : RequestData). HasCommand m.after.memory u k z.cdb) (sym same) made))

    told-after : Told m.after
    told-after t e = elim (lived-or-built g old m s t e) [
      | inl k ↦ lived t k.0 k.1
      | inr k ↦ built-command k.0 t k.3
    ]

  told : (ms : List Moment) → IsRun g (opened g) ms → Told (last (opened g) ms)
  told = by-steps g (λ (ms : List Moment). Told (last (opened g) ms)) (λ t e. absurd cc)
      (λ ms m r s h. subst Told (sym (ends_after (opened g) ms m)) (told-after ms m r s h))

pub commands-are-told : CommandsAreTold
commands-are-told g setting bytes ms r t e = told g setting bytes ms r t e
