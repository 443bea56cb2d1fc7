-- No step changes the buffer of a live ticket that isn't Queued.
use Rattle.std.proofs.Common.{arith, ◌≡◌, ◌≢◌, ◌⊎◌, inl, inr, ℕ, zero, suc, ◌+◌, ◌-◌, ◌*◌, ◌<◌, ◌≤◌, Bool, true, false, List, [], ◌∷◌, ◌++◌, length, length-append, length-take, take, drop, get_or, slice_index, replicate, Some, refl, sym, ap, subst, ◌∙◌}
use Rattle.std.specs.Prelude.{◌&&◌, not, flat_map, if◌then◌else◌}
use Rattle.std.specs.List.{range_with_len}
use Rattle.std.proofs.lemmas.Bool.{cases_lt}
use Rattle.std.proofs.lemmas.List.{length-replicate, get_or-append-add, get_or_append_left}
use Rattle.std.proofs.lemmas.List.Concat.{flat_map-cons}
use Rattle.std.proofs.lemmas.List.FromFn.{get_or-range_with_len, length-range_with_len}
use Rattle.bench_words.specs.Memory.{put_word, put_bytes, bytes_at}
use Rattle.bench_words.proofs.MemoryLaws.{byte_outside}
use Rattle.rig_types.specs.Ranges.{IsRig}
use Rattle.rig_types.specs.declared.commands.Command.{Command}
use Rattle.rig_types.specs.declared.rig.Unit.{Unit as RigUnit}
use Rattle.rig_types.specs.declared.step.Line.{Line}
use Rattle.unit_law.specs.Request.{plain}
use Rattle.cmd_block.specs.Block.{offset}
use Rattle.cmd_block.specs.declared.Field.{Field}
use Rattle.sense_job.specs.Turning.{sense_area, with_fields, sense_fields, request_sense, turned}
use Rattle.desk_law.specs.declared.ticket.Piece.{Piece}
use Rattle.desk_law.specs.declared.stage.Stage.{Stage}
use Rattle.desk_law.specs.declared.stage.Stage.TheVariants as stage
use Rattle.desk_law.specs.declared.ticket.Ticket.{Ticket}
use Rattle.desk_law.specs.Blocks.{own, with_buffer, segment_fields, block_fields, message_bytes, with_block}
use Rattle.desk_law.specs.Building.{new_ticket}
use Rattle.desk_law.specs.Desk.{ticket, unit}
use Rattle.world_law.specs.Builds.{Accepts}
use Rattle.world_law.specs.ChipSteps.{RunsChip}
use Rattle.world_law.specs.Opening.{opened}
use Rattle.world_law.specs.Runs.{Moment, Steps, last}
use Rattle.world_law.specs.World.{BenchSetting, IsBenchSetting, World, command_at}
use Rattle.world_law.specs.declared.reply.Reply.{Reply}
use Rattle.world_law.specs.declared.reply.Stop.TheVariants as stop
use Rattle.world_law.proofs.TicketsKept.{keeps_tickets}
use Rattle.word_owners.specs.Buffers.{IsOwn}
use Rattle.word_owners.specs.BuiltTickets.{AreBuilt}
use Rattle.word_owners.specs.Footprints.{IsScripts, IsDatum}
use Rattle.word_owners.specs.Holds.{Spot, Holds}
use Rattle.word_owners.specs.KeptDesks.{AreKept}
use Rattle.word_owners.specs.Parts.{Counts}
use Rattle.word_owners.specs.Tickets.{Fixed, tickets_of, is_check, IsLive, IsActive}
use Rattle.word_owners.specs.Worlds.{HasBytes}
use Rattle.word_owners.proofs.BufferWrites.{script_writes_only}
use Rattle.word_owners.proofs.BuiltMemory.{build_adds, here, is-new, short}
use Rattle.word_owners.proofs.Frames.{active-live, same_or}
use Rattle.word_owners.proofs.Lists.{live-within}
use Rattle.word_owners.proofs.Worlds.{words_are_owned, depths_are_kept}
use Rattle.block_words.specs.EndedWords.{BuffersStay}
use Rattle.block_words.proofs.RunSteps.{stage-lives}
use Rattle.block_words.proofs.WrittenMemory.{IsOpen, open-live, each-step-stays}

-- ---- the addresses of a buffer, piece by piece

abbrev pub ranges : List Piece → List ℕ
ranges ps = flat_map (λ (p : Piece). range_with_len p.chunk.base p.len) ps

module _ (p : Piece) (ps : List Piece) where
  both : ranges (p ∷ ps) ≡ range_with_len p.chunk.base p.len ++ ranges ps
  both = flat_map-cons (λ (x : Piece). range_with_len x.chunk.base x.len) p ps

  long : length (ranges (p ∷ ps)) ≡ p.len + length (ranges ps)
  long = ap length both ∙ length-append (range_with_len p.chunk.base p.len) (ranges ps) ∙ ap (λ (n : ℕ). n + length (ranges ps)) (length-range_with_len p.chunk.base p.len)

  head-at : (i : ℕ) → i < p.len → slice_index (ranges (p ∷ ps)) i ≡ p.chunk.base + i
  head-at i l =
      ap (λ (xs : List ℕ). get_or xs i 0) both
      ∙ get_or_append_left (range_with_len p.chunk.base p.len) (ranges ps) 0 i (omega (arith, l, length-range_with_len p.chunk.base p.len))
      ∙ get_or-range_with_len p.chunk.base p.len i 0 l

  rest-at : (j : ℕ) → slice_index (ranges (p ∷ ps)) (p.len + j) ≡ slice_index (ranges ps) j
  rest-at j =
      ap (λ (xs : List ℕ). get_or xs (p.len + j) 0) both
      ∙ ap (λ (n : ℕ). get_or (range_with_len p.chunk.base p.len ++ ranges ps) (n + j) 0) (sym (length-range_with_len p.chunk.base p.len))
      ∙ get_or-append-add (range_with_len p.chunk.base p.len) (ranges ps) j 0

bytes-as : (m n : List ℕ) (a k : ℕ) → ((i : ℕ) → i < k → slice_index n (a + i) ≡ slice_index m (a + i)) → bytes_at n a k ≡ bytes_at m a k
unfolding bytes_at
bytes-as m n a zero e = refl
bytes-as m n a (suc k) e =
    let first : slice_index n a ≡ slice_index m a = let z : a + 0 ≡ a = omega arith in subst (λ (x : ℕ). slice_index n x ≡ slice_index m x) z (e 0 (omega arith)) in
    let rest : bytes_at n (suc a) k ≡ bytes_at m (suc a) k = bytes-as m n (suc a) k (λ i l. let z : a + suc i ≡ suc a + i = omega arith in subst (λ (x : ℕ). slice_index n x ≡ slice_index m x) z (e (suc i) (omega (arith, l)))) in
    ap (λ (x : ℕ). x ∷ bytes_at n (suc a) k) first ∙ ap (λ (xs : List ℕ). slice_index m a ∷ xs) rest

-- a buffer is as before where each of its bytes is
pub buffers-as : (m n : List ℕ) (ps : List Piece) → ((j : ℕ) → j < length (ranges ps) → slice_index n (slice_index (ranges ps) j) ≡ slice_index m (slice_index (ranges ps) j))
    → flat_map (λ (p : Piece). bytes_at n p.chunk.base p.len) ps ≡ flat_map (λ (p : Piece). bytes_at m p.chunk.base p.len) ps
buffers-as m n [] e = refl
buffers-as m n (p ∷ ps) e =
    let first = bytes-as m n p.chunk.base p.len (λ i l. subst (λ (x : ℕ). slice_index n x ≡ slice_index m x) (head-at p ps i l) (e i (omega (arith, l, long p ps)))) in
    let rest = buffers-as m n ps (λ j l. subst (λ (x : ℕ). slice_index n x ≡ slice_index m x) (rest-at p ps j) (e (p.len + j) (omega (arith, l, long p ps)))) in
    flat_map-cons (λ (x : Piece). bytes_at n x.chunk.base x.len) p ps ∙ ap (λ (xs : List ℕ). xs ++ flat_map (λ (x : Piece). bytes_at n x.chunk.base x.len) ps) first
    ∙ ap (λ (xs : List ℕ). bytes_at m p.chunk.base p.len ++ xs) rest ∙ sym (flat_map-cons (λ (x : Piece). bytes_at m x.chunk.base x.len) p ps)

-- ---- bytes that a write leaves

pub word-beside : (m : List ℕ) (a x v : ℕ) → a + 4 ≤ x → slice_index (put_word m a v) x ≡ slice_index m x
unfolding put_word
word-beside m a x v l = byte_outside m a x _ (inr (omega (arith, l)))

abbrev AllLow : ℕ → List (Field × ℕ) → Type 0
AllLow b [] = Unit {0}
AllLow b (f ∷ fs) = (b + offset f.0 + 4 ≤ 0x200000) × AllLow b fs

fields-beside : (m : List ℕ) (b : ℕ) (fs : List (Field × ℕ)) (x : ℕ) → 0x200000 ≤ x → AllLow b fs → slice_index (with_fields m b fs) x ≡ slice_index m x
fields-beside m b [] x l h = refl
fields-beside m b (f ∷ fs) x l h = fields-beside (put_word m (b + offset f.0) f.1) b fs x l h.1 ∙ word-beside m (b + offset f.0) x f.1 (omega (arith, l, h.0))

segments-low : (b j : ℕ) (ps : List Piece) → b + 0x48 + 8 * (j + length ps) ≤ 0x200000 → AllLow b (segment_fields j ps)
segments-low b j [] h = tt
segments-low b j (p ∷ ps) h = (omega (arith, h), (omega (arith, h), segments-low b (j + 1) ps (omega (arith, h))))

turned-beside : (m : List ℕ) (b x : ℕ) → b + 0x200 ≤ 0x200000 → 0x200000 ≤ x → slice_index (turned m b) x ≡ slice_index m x
turned-beside m b x l h =
    byte_outside (with_fields m b (sense_fields b)) (b + 0xF0) x request_sense (inr (omega (arith, l, h)))
    ∙ fields-beside m b (sense_fields b) x h
    (omega (arith, l), (omega (arith, l), (omega (arith, l), (omega (arith, l), (omega (arith, l), (omega (arith, l), (omega (arith, l), (omega (arith, l), (omega (arith, l), tt)))))))))

block-beside : (m : List ℕ) (u : RigUnit) (k : Ticket) (cdb : List ℕ) (x : ℕ) → k.block + 0x200 ≤ 0x200000 → length k.pieces ≤ 16 → length cdb ≤ 12 → 0x200000 ≤ x → slice_index (with_block m u k cdb) x ≡ slice_index m x
block-beside m u k cdb x l few short h =
    let zeros : List ℕ = replicate 0x200 0 in
    let z : length zeros ≡ 0x200 = length-replicate {A = ℕ} 0x200 0 in
    let cleared = put_bytes m k.block zeros in
    let fields = with_fields cleared k.block (block_fields u k (length cdb)) in
    byte_outside (put_bytes fields (k.block + 0xE0) (message_bytes u k)) (k.block + 0xF0) x cdb (inr (omega (arith, l, h, short)))
    ∙ byte_outside fields (k.block + 0xE0) x (message_bytes u k) (inr (omega (arith, l, h)))
    ∙ fields-beside cleared k.block (block_fields u k (length cdb)) x h
    (omega (arith, l), (omega (arith, l), (omega (arith, l), (omega (arith, l), (omega (arith, l), (omega (arith, l), (omega (arith, l), (omega (arith, l), (omega (arith, l), (omega (arith, l), (omega (arith, l), (omega (arith, l), (omega (arith, l), (omega (arith, l), segments-low k.block (16 - length k.pieces) k.pieces (omega (arith, l, few))))))))))))))))
    ∙ byte_outside m k.block x zeros (inr (omega (arith, l, h, z)))

-- the bytes of a new buffer lie at its addresses
filled-beside : (m : List ℕ) (ps : List Piece) (bytes : List ℕ) (x : ℕ) → ((j : ℕ) → j < length (ranges ps) → slice_index (ranges ps) j ≢ x) → slice_index (with_buffer m ps bytes) x ≡ slice_index m x
filled-beside m [] bytes x h = refl
filled-beside m (p ∷ ps) bytes x h =
    filled-beside (put_bytes m p.chunk.base (take p.len bytes)) ps (drop p.len bytes) x (λ j l e. h (p.len + j) (omega (arith, l, long p ps)) (rest-at p ps j ∙ e))
    ∙ byte_outside m p.chunk.base x (take p.len bytes) (beside (cases_lt x p.chunk.base) (cases_lt x (p.chunk.base + p.len)))
  where
    beside : (x < p.chunk.base) ⊎ (p.chunk.base ≤ x) → (x < p.chunk.base + p.len) ⊎ (p.chunk.base + p.len ≤ x) → (x < p.chunk.base) ⊎ (p.chunk.base + length (take p.len bytes) ≤ x)
    beside (inl l) q = inl l
    beside (inr l) (inr q) = inr (omega (arith, q, length-take p.len bytes))
    beside (inr l) (inl q) =
        let i : ℕ = x - p.chunk.base in
        let low : i < p.len = omega (arith, l, q) in
        absurd (h i (omega (arith, low, long p ps)) (head-at p ps i low ∙ omega (arith, l)))

module _ (version : ℕ) (units : List RigUnit) (s : Spot) (c : Counts) (w : World) (h : Holds version units s c w) (t : ℕ) (live : IsLive (ticket w.desk t).stage) (still : (ticket w.desk t).stage ≢ stage.Queued) (i : ℕ) (inside_it : i < length (own (ticket w.desk t))) where
  abbrev x : ℕ
  x = slice_index (own (ticket w.desk t)) i

  high : 0x200000 ≤ x
  high = (h.tickets.within t i live inside_it).0

  abbrev Stays : List ℕ → Type 0
  Stays m = slice_index m x ≡ slice_index w.memory x

  low : (m : List ℕ) (a v : ℕ) → a + 4 ≤ 0x10000 → Stays m → Stays (put_word m a v)
  low m a v l e = word-beside m a x v (omega (arith, l, high)) ∙ e

  inside : (u e : ℕ) → IsOpen (ticket w.desk u).stage → e + 4 ≤ 0x200 → (m : List ℕ) (v : ℕ) → Stays m → Stays (put_word m ((ticket w.desk u).block + e) v)
  inside u e o fits m v k = let p = h.tickets.block u (open-live (ticket w.desk u).stage o) in word-beside m ((ticket w.desk u).block + e) x v (omega (arith, fits, p.below, high)) ∙ k

  turns : (u : ℕ) → IsOpen (ticket w.desk u).stage → Stays (turned w.memory (ticket w.desk u).block)
  turns u o = let p = h.tickets.block u (open-live (ticket w.desk u).stage o) in turned-beside w.memory (ticket w.desk u).block x (omega (arith, p.below)) high

  -- ---- the chip

  -- a sense area lies below all buffers
  area-low : (u j : ℕ) → IsLive (ticket w.desk u).stage → j < length (sense_area (ticket w.desk u).block) → slice_index (sense_area (ticket w.desk u).block) j ≡ x → ⊥
  area-low u j alive k e =
      let b = (ticket w.desk u).block in
      let p = h.tickets.block u alive in
      let n : length (sense_area b) ≡ 18 = length-range_with_len (b + 0x100) 18 in
      let at : slice_index (sense_area b) j ≡ b + 0x100 + j = get_or-range_with_len (b + 0x100) 18 j 0 (omega (arith, k)) in
      omega (arith, at, e, k, n, p.below, high)

  -- another ticket moves other bytes
  other-moves : (u : ℕ) → IsLive (ticket w.desk u).stage → u ≢ t → (y : Bool) (j : ℕ) → j < length (if y then sense_area (ticket w.desk u).block else own (ticket w.desk u)) → slice_index (if y then sense_area (ticket w.desk u).block else own (ticket w.desk u)) j ≡ x → ⊥
  other-moves u alive ne true j k e = area-low u j alive k e
  other-moves u alive ne false j k e = h.tickets.apart u t j i alive live ne k inside_it e

  -- the ticket itself moves its sense area, if anything
  turned-so : (ticket w.desk t).stage ≡ stage.Sensing → ((tickets_of w.desk).fixed t).turned ≡ true
  turned-so e = ap (λ (f : Bool). f && not (is_check (ticket w.desk t).stage)) (h.checked t (inr e)) ∙ ap (λ (q : Stage). not (is_check q)) e

  own-moves : IsActive (ticket w.desk t).stage → IsOwn ((tickets_of w.desk).fixed t) x → ⊥
  own-moves (inl e) o = still e
  own-moves (inr e) o =
      let b = (ticket w.desk t).block in
      let z = subst (λ (y : Bool). (j : ℕ) × (j < length (if y then sense_area b else own (ticket w.desk t))) × (slice_index (if y then sense_area b else own (ticket w.desk t)) j ≡ x)) (turned-so e) o in
      area-low t z.0 live z.1 z.2

  byte-kept : IsScripts w x ⊎ IsDatum w x → ⊥
  byte-kept (inl (inl y)) = omega (arith, y.1, high)
  byte-kept (inl (inr (inl y))) = omega (arith, y.1, h.donep.is, high)
  byte-kept (inl (inr (inr y))) =
      let p = h.tickets.block y.number (active-live (ticket w.desk y.number).stage y.active) in
      let q : w.regs.dsa ≡ (ticket w.desk y.number).block = y.dsa in
      elim y.field [ inl z ↦ omega (arith, z.1, q, p.below, high) | inr z ↦ omega (arith, z.1, q, p.below, high) ]
  byte-kept (inr y) = elim (same_or y.number t) [
    | inl z ↦ own-moves (subst (λ (u : ℕ). IsActive (ticket w.desk u).stage) z y.active) (subst (λ (u : ℕ). IsOwn ((tickets_of w.desk).fixed u) x) z y.own)
    | inr z ↦ other-moves y.number (active-live (ticket w.desk y.number).stage y.active) z ((tickets_of w.desk).fixed y.number).turned y.own.0 y.own.1 y.own.2
  ]

  chip-stays : (m : List ℕ) → (slice_index m x ≢ slice_index w.memory x → IsScripts w x ⊎ IsDatum w x) → Stays m
  chip-stays m only = elim (same_or (slice_index m x) (slice_index w.memory x)) [ inl e ↦ e | inr ne ↦ absurd (byte-kept (only ne)) ]

  -- ---- Build
  module _ (g : BenchSetting) (setting : IsBenchSetting g) (bytes : HasBytes g) (desks : AreKept w.desk) (version_is : version ≡ g.version) (units_are : units ≡ g.units) where
    rig-here : IsRig w.desk.version w.desk.units g.retries g.step_limit
    rig-here =
        subst (λ (v : ℕ). IsRig v w.desk.units g.retries g.step_limit) (sym (h.version_is ∙ version_is))
        (subst (λ (us : List RigUnit). IsRig g.version us g.retries g.step_limit) (sym (h.units_are ∙ units_are)) setting.rig)

    built : AreBuilt w.desk
    built = record { tickets = h.tickets; depths = desks.depths; space = desks.space }

    accepts-stay : (new : World) (l : Line) (k : Command) (u : ℕ) → command_at g l ≡ Some k → Accepts w l (plain k.request) u new → Stays new.memory
    accepts-stay new l k u e d =
        let r = plain k.request in
        let n = new_ticket w.desk l r d.builds.chunks in
        let added = (build_adds g.retries g.step_limit w new.desk new.memory l r u rig-here (bytes l k e) h.size h.bytes h.checked built d.builds).added in
        let fresh = is-new g.retries g.step_limit w new.desk new.memory l r u rig-here (bytes l k e) h.size h.bytes h.checked built d.builds in
        let few = short g.retries g.step_limit w new.desk new.memory l r u rig-here (bytes l k e) h.size h.bytes h.checked built d.builds in
        let at : ticket new.desk u ≡ n = here g.retries g.step_limit w new.desk new.memory l r u rig-here (bytes l k e) h.size h.bytes h.checked built d.builds in
        let other : t ≢ u = λ z. live (ap (λ (v : ℕ). (ticket w.desk v).stage) z ∙ added.was) in
        let own_same : ((tickets_of new.desk).fixed t).own ≡ own (ticket w.desk t) = ap (λ (f : Fixed). f.own) (added.fixeds t other) in
        let alive : IsLive ((tickets_of new.desk).stage t) = λ z. live (sym (added.stages t other) ∙ z) in
        let built_live : IsLive ((tickets_of new.desk).stage u) = λ z. (let y : stage.Built ≡ stage.Freed = sym added.stage ∙ z in absurd cc) in
        let apart : (j : ℕ) → j < length (own n) → slice_index (own n) j ≢ x = λ j low z.
        let own_new : own (ticket new.desk u) ≡ own n = ap own at in
        added.tickets.apart u t j i built_live alive (λ q. other (sym q)) (omega (arith, low, ap length own_new)) (omega (arith, inside_it, ap length own_same))
        (ap (λ (xs : List ℕ). slice_index xs j) own_new ∙ z ∙ sym (ap (λ (xs : List ℕ). slice_index xs i) own_same)) in
        ap (λ (m : List ℕ). slice_index m x) d.builds.wrote
        ∙ filled-beside (with_block w.memory (unit w.desk n.unit) n r.cdb) n.pieces r.bytes x apart
        ∙ block-beside w.memory (unit w.desk n.unit) n r.cdb x (let p = fresh.block in omega (arith, p.below)) fresh.few few high

    pub byte-stays : (only : (new : World) (word : ℕ) (answer : Reply) → w.stop ≡ stop.Run → RunsChip w word answer new → (a : ℕ) → slice_index new.memory a ≢ slice_index w.memory a → IsScripts w a ⊎ IsDatum w a) → (m : Moment) → Steps g w m → Stays m.after.memory
    byte-stays only m steps =
        each-step-stays version units s c w h Stays refl low inside turns (λ new word answer runs run. chip-stays new.memory (only new word answer runs run x)) g accepts-stay m.after m.entry.caller m.entry.step m.reply steps.enabled steps.does

-- ---- every world of a run

pub buffers-stay : BuffersStay
buffers-stay g setting bytes ms r m steps t lives_so still =
    let w = last (opened g) ms in
    let is_owned = words_are_owned g setting bytes ms r in
    let live = stage-lives w.desk t lives_so in
    let pieces = (keeps_tickets g w m t steps (live-within w.desk.tickets t live)).pieces in
    ap (λ (ps : List Piece). flat_map (λ (p : Piece). bytes_at m.after.memory p.chunk.base p.len) ps) pieces
    ∙ buffers-as w.memory m.after.memory (ticket w.desk t).pieces (λ i l. byte-stays g.version g.units is_owned.spot is_owned.counts w is_owned.holds t live still i l g setting bytes (depths_are_kept g setting bytes ms r) refl refl
    (λ new word answer runs run a ne. script_writes_only g setting bytes ms r new word answer a runs run ne) m steps)
