-- No step changes the kept words of a live ticket's block, but an abort of the ticket and its Sense.
use Rattle.std.proofs.Common.{arith, ◌≡◌, ◌≢◌, ◌⊎◌, inl, inr, ℕ, ◌+◌, ◌-◌, ◌*◌, ◌<◌, ◌≤◌, ◌==◌, nat_eq, Bool, true, false, List, length, slice_index, Option, Some, None, refl, sym, ap, subst, ◌∙◌}
use Rattle.std.specs.Prelude.{slice_get, not, if◌then◌else◌}
use Rattle.std.proofs.lemmas.Bool.{false≢true}
use Rattle.std.proofs.lemmas.Bool.Decides.{nat_tests}
use Rattle.std.proofs.lemmas.List.FromFn.{get_or-range_with_len, length-range_with_len}
use Rattle.bench_words.specs.Memory.{word_at, put_word}
use Rattle.bench_words.specs.Views.{Outside, WroteWithin}
use Rattle.bench_words.proofs.Cells.{word_at-plus}
use Rattle.bench_words.proofs.MemoryLaws.{word_apart}
use Rattle.host_map.specs.declared.TheConstants.{FRONT, FRONT_IDLE, START_RING, IDLE, JOB}
use Rattle.host_map.specs.Places.{tag_entry, IsCommandBlock}
use Rattle.job_rings.specs.Rings.{next_slot}
use Rattle.rig_types.specs.Ranges.{IsRig}
use Rattle.rig_types.specs.declared.acts.Act.{Act}
use Rattle.rig_types.specs.declared.acts.ActKind.{ActKind}
use Rattle.rig_types.specs.declared.acts.ActKind.TheVariants.{Abort, Device, Bus}
use Rattle.rig_types.specs.declared.commands.Command.{Command}
use Rattle.rig_types.specs.declared.rig.Unit.{Unit as RigUnit}
use Rattle.rig_types.specs.declared.step.Line.{Line}
use Rattle.rig_types.specs.declared.step.Step.{Step}
use Rattle.rig_types.specs.declared.step.Step.TheVariants as step
use Rattle.unit_law.specs.Request.{plain}
use Rattle.cmd_block.specs.Block.{field_of}
use Rattle.cmd_block.specs.declared.Field.TheVariants.{Savep}
use Rattle.sense_job.specs.Turning.{sense_area, turned}
use Rattle.sense_job.proofs.TurningLaws.{turned_is, turned-within}
use Rattle.phase_fix.specs.Remain.{count_of}
use Rattle.phase_fix.specs.Repair.{free_context, with_rest, repaired}
use Rattle.phase_fix.specs.declared.moves.DataMove.{DataMove}
use Rattle.desk_law.specs.declared.refused.Refused.{Refused}
use Rattle.desk_law.specs.declared.stage.Stage.{Stage}
use Rattle.desk_law.specs.declared.stage.Stage.TheVariants as stage
use Rattle.desk_law.specs.Desk.{ticket, is_freed, lives}
use Rattle.desk_law.specs.Calls.{begun_anew, queue_memory, sense_memory}
use Rattle.desk_law.specs.Rings.{done_ticket}
use Rattle.run_law.specs.Changes.{has_kind, is_accepted_as, is_abort_of}
use Rattle.world_law.specs.Acts.{ActsOf, acts_by, aborts, marks, device_resets, bus_resets, is_late}
use Rattle.world_law.specs.Builds.{Accepts, BuildsBy, BuildsOf, refuses, is_tried_again}
use Rattle.world_law.specs.ChipSteps.{RunsChip}
use Rattle.world_law.specs.Enabling.{Enabled}
use Rattle.world_law.specs.Opening.{opened}
use Rattle.world_law.specs.Repairs.{Fixes}
use Rattle.world_law.specs.Resets.{idle_if}
use Rattle.world_law.specs.Runs.{Moment, Steps, IsRun, last}
use Rattle.world_law.specs.Steps.{Does, TakesOf}
use Rattle.world_law.specs.World.{BenchSetting, IsBenchSetting, World, command_at, decided, front}
use Rattle.world_law.specs.declared.reply.Decided.{Decided}
use Rattle.world_law.specs.declared.reply.Decided.TheVariants as line
use Rattle.world_law.specs.declared.reply.Reply.{Reply}
use Rattle.world_law.specs.declared.reply.Reply.TheVariants as reply
use Rattle.world_law.specs.declared.reply.Stop.{Stop}
use Rattle.world_law.specs.declared.reply.Stop.TheVariants as stop
use Rattle.world_law.proofs.Effects.{not-freed-within}
use Rattle.world_law.proofs.TicketsKept.{keeps_tickets}
use Rattle.word_owners.specs.Footprints.{IsScripts, IsDatum}
use Rattle.word_owners.specs.Holds.{Spot, Holds, Running, Mismatched, NotData, Fixed as Repaired, TimedOut, JobOver, ResetAt, Broken}
use Rattle.word_owners.specs.KeptDesks.{AreKept}
use Rattle.word_owners.specs.Parts.{Counts}
use Rattle.word_owners.specs.Tickets.{Fixed, tickets_of, IsLive}
use Rattle.word_owners.specs.Worlds.{HasBytes}
use Rattle.word_owners.proofs.BufferWrites.{script_writes_only}
use Rattle.word_owners.proofs.BuiltMemory.{build_adds}
use Rattle.word_owners.proofs.Frames.{active-live, same_or}
use Rattle.word_owners.proofs.KeptDesks.{alive-at, ended-lives, queue-lives, swept-lives}
use Rattle.word_owners.proofs.Patches.{few}
use Rattle.word_owners.proofs.Worlds.{words_are_owned, depths_are_kept}
use Rattle.block_words.specs.KeptWords.{IsKept, word_of, MayChange, WordsStay}

-- ---- offsets

-- a word that the chip or a patch may write: LASTP, SAVEP, STATE, STATUS, GATE, and the contexts
abbrev IsLoose : ℕ → Type 0
IsLoose e = ((0x08 ≤ e) × (e + 4 ≤ 0x18)) ⊎ (((0x1C ≤ e) × (e + 4 ≤ 0x20)) ⊎ ((0xC0 ≤ e) × (e + 4 ≤ 0xE0)))

kept-low : (o : ℕ) → IsKept o → o + 4 ≤ 0x100
kept-low o (inl h) = omega (arith, h)
kept-low o (inr (inl h)) = omega (arith, h.1)
kept-low o (inr (inr (inl h))) = omega (arith, h.1)
kept-low o (inr (inr (inr h))) = omega (arith, h.1)

beside-loose : (o e : ℕ) → IsKept o → IsLoose e → (o + 4 ≤ e) ⊎ (e + 4 ≤ o)
beside-loose o e (inl h) (inl g) = inl (omega (arith, h, g.0))
beside-loose o e (inl h) (inr (inl g)) = inl (omega (arith, h, g.0))
beside-loose o e (inl h) (inr (inr g)) = inl (omega (arith, h, g.0))
beside-loose o e (inr (inl h)) (inl g) = inr (omega (arith, h.0, g.1))
beside-loose o e (inr (inl h)) (inr (inl g)) = inl (omega (arith, h.1, g.0))
beside-loose o e (inr (inl h)) (inr (inr g)) = inl (omega (arith, h.1, g.0))
beside-loose o e (inr (inr (inl h))) (inl g) = inr (omega (arith, h.0, g.1))
beside-loose o e (inr (inr (inl h))) (inr (inl g)) = inr (omega (arith, h.0, g.1))
beside-loose o e (inr (inr (inl h))) (inr (inr g)) = inl (omega (arith, h.1, g.0))
beside-loose o e (inr (inr (inr h))) (inl g) = inr (omega (arith, h.0, g.1))
beside-loose o e (inr (inr (inr h))) (inr (inl g)) = inr (omega (arith, h.0, g.1))
beside-loose o e (inr (inr (inr h))) (inr (inr g)) = inr (omega (arith, h.0, g.1))

one-of-two : (b : Bool) → (if b then 1 else 0) ≤ 1
one-of-two true = omega arith
one-of-two false = omega arith

pub few-context : (savep : ℕ) → free_context savep ≤ 1
few-context savep = one-of-two _

accepted-as : (x t : ℕ) → x ≡ t → (x == t) ≡ true
accepted-as x t e = grind (arith, nat_tests)

module _ (version : ℕ) (units : List RigUnit) (s : Spot) (c : Counts) (w : World) (h : Holds version units s c w) (t : ℕ) (live : IsLive (ticket w.desk t).stage) (o : ℕ) (kept : IsKept o) where
  abbrev b : ℕ
  b = (ticket w.desk t).block

  place : IsCommandBlock b
  place = h.tickets.block t live

  abbrev Stays : List ℕ → Type 0
  Stays m = word_at m (b + o) ≡ word_at w.memory (b + o)

  -- a write below the blocks
  low : (m : List ℕ) (a v : ℕ) → a + 4 ≤ 0x10000 → Stays m → Stays (put_word m a v)
  low m a v l e = word_apart m a (b + o) v (inr (omega (arith, l, place.from))) ∙ e

  -- a write in the block of a live ticket, beside the kept words where it is this one
  in-block : (u e : ℕ) → IsLive (ticket w.desk u).stage → e + 4 ≤ 0x200 → (u ≡ t → (o + 4 ≤ e) ⊎ (e + 4 ≤ o)) → (m : List ℕ) (v : ℕ) → Stays m → Stays (put_word m ((ticket w.desk u).block + e) v)
  in-block u e alive fits beside m v k = word_apart m ((ticket w.desk u).block + e) (b + o) v apart ∙ k
    where
      apart : (b + o + 4 ≤ (ticket w.desk u).block + e) ⊎ ((ticket w.desk u).block + e + 4 ≤ b + o)
      apart = elim (same_or u t) [
        | inl z ↦
            let q : (ticket w.desk u).block ≡ b = ap (λ (i : ℕ). (ticket w.desk i).block) z in
            elim (beside z) [ inl x ↦ inl (omega (arith, q, x)) | inr x ↦ inr (omega (arith, q, x)) ]
        | inr z ↦
            let p = h.tickets.block u alive in
            let ne : (ticket w.desk u).block ≢ b = h.tickets.blocks u t alive live z in
            let l = kept-low o kept in
            elim (below-or b (ticket w.desk u).block) [
              | inl x ↦ inl (omega (arith, p.aligned, place.aligned, ne, x, l))
              | inr x ↦ inr (omega (arith, p.aligned, place.aligned, ne, x, fits))
            ]
      ]
        where
          below-or : (x y : ℕ) → (x ≤ y) ⊎ (y ≤ x)
          below-or x y = grind arith

  loose : (u e : ℕ) → IsLive (ticket w.desk u).stage → IsLoose e → e + 4 ≤ 0x200 → (m : List ℕ) (v : ℕ) → Stays m → Stays (put_word m ((ticket w.desk u).block + e) v)
  loose u e alive is fits m v k = in-block u e alive fits (λ z. beside-loose o e kept is) m v k

  -- ---- the chip

  -- what a ticket moves lies beside the front of each block
  moved-beside : (f : Fixed) (i : ℕ) → b ≤ i → i < b + 0x100 → IsCommandBlock f.block → ((j : ℕ) → j < length f.own → 0x200000 ≤ slice_index f.own j) → (x : Bool) → f.turned ≡ x → (j : ℕ) → j < length (if x then sense_area f.block else f.own)
      → slice_index (if x then sense_area f.block else f.own) j ≡ i → ⊥
  moved-beside f i l g p within false turned_is j k e = let z = within j k in omega (arith, z, e, g, place.below)
  moved-beside f i l g p within true turned_is j k e =
      let n : length (sense_area f.block) ≡ 18 = length-range_with_len (f.block + 0x100) 18 in
      let at : slice_index (sense_area f.block) j ≡ f.block + 0x100 + j = get_or-range_with_len (f.block + 0x100) 18 j 0 (omega (arith, k)) in
      omega (arith, at, e, k, n, l, g, p.aligned, place.aligned)

  -- so no byte of a kept word is one that the script writes or a data move fills
  byte-kept : (i : ℕ) → b + o ≤ i → i < b + o + 4 → IsScripts w i ⊎ IsDatum w i → ⊥
  byte-kept i l g (inl (inl x)) = omega (arith, x.1, l, place.from)
  byte-kept i l g (inl (inr (inl x))) = omega (arith, x.1, h.donep.is, l, place.from)
  byte-kept i l g (inl (inr (inr x))) =
      let p = h.tickets.block x.number (active-live _ x.active) in
      let low_end = kept-low o kept in
      elim (same_or x.number t) [
        | inl z ↦
            let q : w.regs.dsa ≡ b = x.dsa ∙ ap (λ (j : ℕ). (ticket w.desk j).block) z in
            elim x.field [
              | inl y ↦ elim (beside-loose o 0x08 kept (inl (omega arith, omega arith))) [
                | inl k ↦ omega (arith, q, y, g, k)
                | inr k ↦ elim (beside-loose o 0x14 kept (inl (omega arith, omega arith))) [
                  | inl k2 ↦ kept-gap k k2
                  | inr k2 ↦ omega (arith, q, y, l, k2)
                ]
              ]
              | inr y ↦ elim (beside-loose o 0x1C kept (inr (inl (omega arith, omega arith)))) [ inl k ↦ omega (arith, q, y, g, k) | inr k ↦ omega (arith, q, y, l, k) ]
            ]
        | inr z ↦
            let ne : (ticket w.desk x.number).block ≢ b = h.tickets.blocks x.number t (active-live _ x.active) live z in
            let q : w.regs.dsa ≡ (ticket w.desk x.number).block = x.dsa in
            elim x.field [
              | inl y ↦ omega (arith, q, y, l, g, low_end, p.aligned, place.aligned, ne)
              | inr y ↦ omega (arith, q, y, l, g, low_end, p.aligned, place.aligned, ne)
            ]
      ]
    where
      -- no kept word lies between LASTP and STATUS
      kept-gap : 0x08 + 4 ≤ o → o + 4 ≤ 0x14 → ⊥
      kept-gap j k = elim kept [ inl e ↦ omega (arith, e, j) | inr (inl e) ↦ omega (arith, e, k) | inr (inr (inl e)) ↦ omega (arith, e, k) | inr (inr (inr e)) ↦ omega (arith, e, k) ]
  byte-kept i l g (inr x) =
      let f = (tickets_of w.desk).fixed x.number in
      let low_end = kept-low o kept in
      moved-beside f i (omega (arith, l)) (omega (arith, g, low_end)) (h.tickets.block x.number (active-live _ x.active)) (λ j k. (h.tickets.within x.number j (active-live _ x.active) k).0) f.turned refl x.own.0 x.own.1 x.own.2

  pub chip-stays : (m : List ℕ) → ((i : ℕ) → slice_index m i ≢ slice_index w.memory i → IsScripts w i ⊎ IsDatum w i) → Stays m
  chip-stays m only =
      let e0 = same-byte (b + o) (omega arith) (omega arith) in
      let e1 = same-byte (b + o + 1) (omega arith) (omega arith) in
      let e2 = same-byte (b + o + 2) (omega arith) (omega arith) in
      let e3 = same-byte (b + o + 3) (omega arith) (omega arith) in
      omega (arith, word_at-plus m (b + o), word_at-plus w.memory (b + o), e0, e1, e2, e3)
    where
      same-byte : (i : ℕ) → b + o ≤ i → i < b + o + 4 → slice_index m i ≡ slice_index w.memory i
      same-byte i l g = elim (same_or (slice_index m i) (slice_index w.memory i)) [ inl e ↦ e | inr ne ↦ absurd (byte-kept i l g (only i ne)) ]

  -- ---- the patches

  entry-low : (u : ℕ) → IsLive (ticket w.desk u).stage → tag_entry (ticket w.desk u).unit (ticket w.desk u).tag + 4 ≤ 0x10000
  entry-low u alive = let z : (ticket w.desk u).unit < 16 = omega (arith, h.tickets.unit u alive, few version units s c w u h) in omega (arith, z, h.tickets.tag u alive)

  -- Queue
  anew-stays : (u : ℕ) → IsLive (ticket w.desk u).stage → (x : Stage) → Stays (begun_anew x (ticket w.desk u) w.memory)
  anew-stays u alive stage.Again =
      loose u 0x0C alive (inl (omega arith, omega arith)) (omega arith) _ _
      (loose u 0x08 alive (inl (omega arith, omega arith)) (omega arith) _ _
      (loose u 0x14 alive (inl (omega arith, omega arith)) (omega arith) _ _
      (loose u 0x10 alive (inl (omega arith, omega arith)) (omega arith) _ _ refl)))
  anew-stays u alive stage.Built = refl
  anew-stays u alive stage.Linked = refl
  anew-stays u alive stage.Queued = refl
  anew-stays u alive stage.Check = refl
  anew-stays u alive stage.Sensing = refl
  anew-stays u alive (stage.Ended x) = refl
  anew-stays u alive stage.Unlinked = refl
  anew-stays u alive stage.Freed = refl

  queue-stays : (u : ℕ) → IsLive (ticket w.desk u).stage → Stays (queue_memory w.desk u w.memory)
  queue-stays u alive = low _ w.desk.put _ (omega (arith, h.put)) (low _ (next_slot START_RING w.desk.put) IDLE (omega arith) (anew-stays u alive (ticket w.desk u).stage))

  -- Sense of another ticket
  sense-stays : (u : ℕ) → IsLive (ticket w.desk u).stage → u ≢ t → Stays (sense_memory w.desk u w.memory)
  sense-stays u alive z = low (turned w.memory (ticket w.desk u).block) FRONT (ticket w.desk u).block (omega arith) (r.other (b + o) outside)
    where
      p : IsCommandBlock (ticket w.desk u).block
      p = h.tickets.block u alive

      r : WroteWithin (word_at w.memory) (word_at (turned w.memory (ticket w.desk u).block)) ((ticket w.desk u).block + 0) ((ticket w.desk u).block + 0xF0 + 6)
      r = turned-within (word_at w.memory) (word_at (turned w.memory (ticket w.desk u).block)) (ticket w.desk u).block (turned_is w.memory (ticket w.desk u).block h.size p)

      outside : Outside (b + o) ((ticket w.desk u).block + 0) ((ticket w.desk u).block + 0xF0 + 6)
      outside = let ne : (ticket w.desk u).block ≢ b = h.tickets.blocks u t alive live z in let l = kept-low o kept in omega (arith, p.aligned, place.aligned, ne, l)

  -- Fix
  context-stays : (u k : ℕ) → IsLive (ticket w.desk u).stage → k ≤ 1 → (m : List ℕ) (count address return : ℕ) → Stays m
      → Stays (put_word (put_word (put_word m ((ticket w.desk u).block + (0xC0 + 0x10 * k)) count) ((ticket w.desk u).block + (0xC4 + 0x10 * k)) address) ((ticket w.desk u).block + (0xC8 + 0x10 * k)) return)
  context-stays u k alive l m count address return e =
      loose u (0xC8 + 0x10 * k) alive (inr (inr (omega arith, omega (arith, l)))) (omega (arith, l)) _ return
      (loose u (0xC4 + 0x10 * k) alive (inr (inr (omega arith, omega (arith, l)))) (omega (arith, l)) _ address
      (loose u (0xC0 + 0x10 * k) alive (inr (inr (omega arith, omega (arith, l)))) (omega (arith, l)) m count e))

  repair-stays : (u dsp left : ℕ) (x : DataMove) → IsLive (ticket w.desk u).stage → Stays (repaired w.memory (ticket w.desk u).block dsp left x)
  repair-stays u dsp left x alive = by (nat_eq left (count_of (word_at w.memory) (ticket w.desk u).block x.entry))
    where
      by : (y : Bool) → Stays (if y then put_word w.memory ((ticket w.desk u).block + 0x08) (dsp - 8) else with_rest w.memory (ticket w.desk u).block dsp left x (free_context (field_of w.memory (ticket w.desk u).block Savep)))
      by true = loose u 0x08 alive (inl (omega arith, omega arith)) (omega arith) w.memory (dsp - 8) refl
      by false =
          loose u 0x08 alive (inl (omega arith, omega arith)) (omega arith) _ _
          (context-stays u (free_context (field_of w.memory (ticket w.desk u).block Savep)) alive (few-context (field_of w.memory (ticket w.desk u).block Savep)) w.memory _ _ _ refl)

  -- an abort
  mark-stays : (u : ℕ) → IsLive (ticket w.desk u).stage → (u ≡ t → 0x08 ≤ o) → Stays (put_word (put_word w.memory ((ticket w.desk u).block + 0x00) 0x1F8) ((ticket w.desk u).block + 0x04) 0x278)
  mark-stays u alive beside =
      in-block u 0x04 alive (omega arith) (λ z. let y = beside z in inr (omega (arith, y))) _ 0x278
      (in-block u 0x00 alive (omega arith) (λ z. let y = beside z in inr (omega (arith, y))) w.memory 0x1F8 refl)

  -- a sweep
  sweep-stays : (u : ℕ) → IsLive (ticket w.desk u).stage → Stays (put_word (put_word w.memory ((ticket w.desk u).block + 0x10) 4) ((ticket w.desk u).block + 0x1C) 0x1C0)
  sweep-stays u alive =
      loose u 0x1C alive (inr (inl (omega arith, omega arith))) (omega arith) _ 0x1C0
      (loose u 0x10 alive (inl (omega arith, omega arith)) (omega arith) w.memory 4 refl)

  idle-stays : (x : Bool) → Stays (idle_if x w.memory)
  idle-stays true = low w.memory FRONT FRONT_IDLE (omega arith) refl
  idle-stays false = refl

  -- ---- the steps of the driver

  abbrev StaysIn : World → Type 0
  StaysIn new = Stays new.memory

  of-made : (made new : World) → new ≡ made → StaysIn made → StaysIn new
  of-made made new e k = subst StaysIn (sym e) k

  lives-live : (u : ℕ) → lives (ticket w.desk u) ≡ true → IsLive (ticket w.desk u).stage
  lives-live u e f = false≢true (sym (ap (λ (x : Stage). not (is_freed x)) f) ∙ e)

  fixes-stay : (new : World) → w.stop ≡ stop.Mismatch → Fixes w new → StaysIn new
  fixes-stay new at (inr r) = of-made _ new r.1 refl
  fixes-stay new at (inl r) = by s h
    where
      not-here : (x : Stop) → w.stop ≡ x → (stop.Mismatch ≡ x → ⊥) → StaysIn new
      not-here x f miss = absurd (miss (sym at ∙ f))

      by : (q : Spot) → Holds version units q c w → StaysIn new
      by (Mismatched u x left) k =
          let alive : IsLive (ticket w.desk u).stage = active-live (ticket w.desk u).stage k.works.plays.begun.stage in
          of-made _ new r.world (subst (λ (i : ℕ). Stays (repaired w.memory i w.regs.dsp w.regs.dbc r.move)) (sym k.stays.3.dsa) (repair-stays u w.regs.dsp w.regs.dbc r.move alive))
      by NotData k = (let z : None ≡ Some r.move = sym k.stays.3 ∙ r.is in absurd cc)
      by (Running p) k = not-here stop.Run k.stays.0 (λ z. absurd cc)
      by (Repaired u) k = not-here stop.Clear k.stays.0 (λ z. absurd cc)
      by (TimedOut u) k = not-here stop.Clear k.stays.0 (λ z. absurd cc)
      by JobOver k = not-here stop.Clear k.stays.0 (λ z. absurd cc)
      by (ResetAt p) k = not-here stop.Clear k.stays.0 (λ z. absurd cc)
      by Broken k = not-here stop.MustReset k.stays.0 (λ z. absurd cc)

  takes-stay : (x : Option ℕ) (new : World) (answer : Reply) → TakesOf x w answer new → StaysIn new
  takes-stay None new answer d = absurd d
  takes-stay (Some u) new answer d = of-made _ new d.1 (low w.memory w.desk.take IDLE (omega (arith, h.take)) refl)

  -- an abort of the ticket, and where it isn't one
  marks-stay : (late : Bool) (u : ℕ) → is_late (ticket w.desk u).stage ≡ late → ((u == t) ≡ true × (o + 4 ≤ 0x08)) ⊎ StaysIn (marks late w u).world
  marks-stay true u e = inr refl
  marks-stay false u e =
      let alive : IsLive (ticket w.desk u).stage = λ f. false≢true (sym e ∙ ap is_late f) in
      elim (same_or u t) [
        | inl z ↦ elim (beside-loose o 0x08 kept (inl (omega arith, omega arith))) [
          | inl k ↦ inl (accepted-as u t z, k)
          | inr k ↦ inr (mark-stays u alive (λ q. omega (arith, k)))
        ]
        | inr z ↦ inr (mark-stays u alive (λ q. absurd (z q)))
      ]

  aborts-stay : (x : Decided) → (is_accepted_as t x ≡ true × (o + 4 ≤ 0x08)) ⊎ StaysIn (aborts w x).world
  aborts-stay line.Open = inr refl
  aborts-stay (line.Accepted u) = marks-stay (is_late (ticket w.desk u).stage) u refl
  aborts-stay (line.Refused r) = inr refl

  device-stays : (idle : Bool) (target : ℕ) → StaysIn (device_resets idle w target).world
  device-stays true target = low _ FRONT JOB (omega arith) (low w.memory (JOB + 0x18) (target * 0x10000) (omega arith) refl)
  device-stays false target = refl

  bus-stays : (x : Stop) → StaysIn (bus_resets x w).world
  bus-stays stop.Run = low w.memory FRONT FRONT_IDLE (omega arith) refl
  bus-stays stop.Mismatch = refl
  bus-stays stop.Clear = refl
  bus-stays stop.MustReset = low w.memory FRONT FRONT_IDLE (omega arith) refl

  acts-stay : (k : ActKind) → (is_abort_of t w k ≡ true × (o + 4 ≤ 0x08)) ⊎ StaysIn (acts_by w k).world
  acts-stay (Abort l) = aborts-stay (decided w l)
  acts-stay (Device target) = inr (device-stays (front w == FRONT_IDLE) target)
  acts-stay Bus = inr (bus-stays w.stop)

  acted-stays : (x : Option Act) (new : World) (answer : Reply) → ActsOf x w answer new → (has_kind (is_abort_of t w) x ≡ true × (o + 4 ≤ 0x08)) ⊎ StaysIn new
  acted-stays None new answer d = absurd d
  acted-stays (Some a) new answer d = elim (acts-stay a.kind) [ inl k ↦ inl k | inr k ↦ inr (of-made _ new d.1 k) ]

  -- ---- Build

  refused-stays : (again : Bool) (l : Line) (r : Refused) → StaysIn (refuses again w l r)
  refused-stays true l r = refl
  refused-stays false l r = refl

  module _ (g : BenchSetting) (setting : IsBenchSetting g) (bytes : HasBytes g) (desks : AreKept w.desk) (version_is : version ≡ g.version) (units_are : units ≡ g.units) where
    rig-here : IsRig w.desk.version w.desk.units g.retries g.step_limit
    rig-here =
        subst (λ (v : ℕ). IsRig v w.desk.units g.retries g.step_limit) (sym (h.version_is ∙ version_is))
        (subst (λ (us : List RigUnit). IsRig g.version us g.retries g.step_limit) (sym (h.units_are ∙ units_are)) setting.rig)

    accepts-stay : (new : World) (l : Line) (k : Command) (u : ℕ) → command_at g l ≡ Some k → Accepts w l (plain k.request) u new → StaysIn new
    accepts-stay new l k u e d =
        let added = (build_adds g.retries g.step_limit w new.desk new.memory l (plain k.request) u rig-here (bytes l k e) h.size h.bytes h.checked (record { tickets = h.tickets; depths = desks.depths; space = desks.space }) d.builds).added in
        let ts = tickets_of w.desk in
        let other : t ≢ u = λ z. live (ap (λ (i : ℕ). (ticket w.desk i).stage) z ∙ added.was) in
        let fixed_same : (tickets_of new.desk).fixed t ≡ ts.fixed t = added.fixeds t other in
        let stage_same : (tickets_of new.desk).stage t ≡ ts.stage t = added.stages t other in
        let alive : IsLive ((tickets_of new.desk).stage t) = λ z. live (sym stage_same ∙ z) in
        let built_live : IsLive ((tickets_of new.desk).stage u) = λ z. (let y : stage.Built ≡ stage.Freed = sym added.stage ∙ z in absurd cc) in
        let q : ((tickets_of new.desk).fixed t).block ≡ b = ap (λ (f : Fixed). f.block) fixed_same in
        let ne = added.tickets.blocks t u alive built_live other in
        let p = added.tickets.block u built_live in
        let l2 = kept-low o kept in
        added.outside (b + o) (omega (arith, l2, place.below)) (omega (arith, p.aligned, place.aligned, ne, q, l2))

    builds-by : (new : World) (l : Line) (k : Command) (answer : Reply) → command_at g l ≡ Some k → BuildsBy w l k answer new → StaysIn new
    builds-by new l k (reply.Built u) e d = accepts-stay new l k u e d
    builds-by new l k (reply.Refused r) e d = of-made _ new d.1 (refused-stays (is_tried_again k.when_full r) l r)
    builds-by new l k _ e d = absurd d

    builds-of : (x : Option Command) (new : World) (l : Line) (answer : Reply) → command_at g l ≡ x → BuildsOf x w l answer new → StaysIn new
    builds-of None new l answer e d = absurd d
    builds-of (Some k) new l answer e d = builds-by new l k answer e d

    pub step-stays : ((m : List ℕ) → w.stop ≡ stop.Run → (word : ℕ) (answer : Reply) (new : World) → RunsChip w word answer new → (i : ℕ) → slice_index new.memory i ≢ slice_index w.memory i → IsScripts w i ⊎ IsDatum w i)
        → (new : World) (caller : ℕ) (x : Step) (answer : Reply) → Enabled g w caller x → Does g w caller x answer new → MayChange g w x t o ⊎ StaysIn new
    step-stays only new caller (step.Build l) answer may d = inr (builds-of (command_at g l) new l answer refl d)
    step-stays only new caller (step.Chip word) answer may d = inr (chip-stays new.memory (only new.memory may.1 word answer new d))
    step-stays only new caller (step.Link u) answer may d =
        inr (of-made _ new d.1 (low w.memory _ (ticket w.desk u).block (entry-low u (lives-live u (alive-at (ticket w.desk u) stage.Built may.0 refl))) refl))
    step-stays only new caller (step.Queue u) answer may d = inr (of-made _ new d.1 (queue-stays u (lives-live u (queue-lives w caller (ticket w.desk u) (ticket w.desk u).stage refl may))))
    step-stays only new caller step.Signal answer may d = inr (of-made _ new d.1 refl)
    step-stays only new caller step.Fix answer may d = inr (fixes-stay new may.1 d.1)
    step-stays only new caller (step.Sweep u) answer may d = inr (of-made _ new d.1 (sweep-stays u (lives-live u (swept-lives w (ticket w.desk u) may.1))))
    step-stays only new caller step.Restart answer may d = inr (of-made _ new d.1 (idle-stays _))
    step-stays only new caller step.TakeDone answer may d = inr (takes-stay (done_ticket w.memory w.desk) new answer d)
    step-stays only new caller (step.Unlink u) answer may d =
        inr (of-made _ new d.1 (low w.memory _ _ (entry-low u (lives-live u (ended-lives (ticket w.desk u) (ticket w.desk u).stage refl may.1))) refl))
    step-stays only new caller (step.Free u) answer may d = inr (ap (λ (v : World). word_at v.memory (b + o)) d.world)
    step-stays only new caller (step.Act k) answer may d = acted-stays (slice_get g.acts k) new answer d
    step-stays only new caller step.ResetBus answer may d = inr (of-made _ new d.1 (low w.memory FRONT FRONT_IDLE (omega arith) refl))
    step-stays only new caller (step.Sense u) answer may d = elim (same_or u t) [
      | inl z ↦ inl z
      | inr z ↦ inr (of-made _ new d.1 (sense-stays u (lives-live u (alive-at (ticket w.desk u) stage.Check may.2 refl)) z))
    ]

-- ---- every world of a run

module _ (g : BenchSetting) (setting : IsBenchSetting g) (bytes : HasBytes g) (ms : List Moment) (r : IsRun g (opened g) ms) (m : Moment) (step_is : Steps g (last (opened g) ms) m) (t o : ℕ) (live : lives (ticket (last (opened g) ms).desk t) ≡ true) (kept : IsKept o) where
  abbrev w : World
  w = last (opened g) ms

  stage-live : IsLive (ticket w.desk t).stage
  stage-live f = false≢true (sym (ap (λ (x : Stage). not (is_freed x)) f) ∙ live)

  block-same : (ticket m.after.desk t).block ≡ (ticket w.desk t).block
  block-same = (keeps_tickets g w m t step_is (not-freed-within w.desk.tickets t (not-not (is_freed (ticket w.desk t).stage) live))).block
    where
      not-not : (x : Bool) → not x ≡ true → x ≡ false
      not-not true e = absurd cc
      not-not false e = refl

  pub stays : MayChange g w m.entry.step t o ⊎ (word_of m.after t o ≡ word_of w t o)
  stays =
      let own = words_are_owned g setting bytes ms r in
      elim (step-stays g.version g.units own.spot own.counts w own.holds t stage-live o kept g setting bytes (depths_are_kept g setting bytes ms r) refl refl
      (λ n runs word answer new run i ne. script_writes_only g setting bytes ms r new word answer i runs run ne) m.after m.entry.caller m.entry.step m.reply step_is.enabled step_is.does) [
        | inl k ↦ inl k
        | inr k ↦ inr (ap (λ (i : ℕ). word_at m.after.memory (i + o)) block-same ∙ k)
      ]

pub words-stay : WordsStay
words-stay g setting bytes ms r m s t o live kept = stays g setting bytes ms r m s t o live kept
