-- Bytes stay below 256 over a step: the walk over the instructions.
use Rattle.std.proofs.Common.{ℕ, zero, suc, ◌+◌, ◌/◌, ◌%◌, ◌^◌, ◌<◌, Bool, true, false, ◌&&◌, ◌||◌, nat_eq, nat_lt, nat_le, Option, Some, None, List, length, slice_index, slice_set, MatchBool, sym, subst, inl, inr, arith}
use Rattle.std.specs.Prelude.{if◌then◌else◌}
use Rattle.std.proofs.lemmas.Nat.{or_of_8, and_le_l}
use Rattle.scsi_words.specs.Phases.{phase_code}
use Rattle.scsi_words.specs.declared.phases.kinds.Phase.{Phase}
use Rattle.bench_words.specs.Memory.{word_at}
use Rattle.bench_words.specs.Bytes.{IsBytes}
use Rattle.bench_words.proofs.Bytes.{bytes-set, word_at-below}
use Rattle.scripts_ops.specs.Table.{row}
use Rattle.scripts_ops.specs.declared.values.Op.{Op}
use Rattle.scripts_ops.specs.declared.values.Op.TheVariants as op
use Rattle.scripts_ops.specs.declared.values.Change.{Change}
use Rattle.scripts_ops.specs.declared.values.Change.TheVariants.{Or, And, Add}
use Rattle.scripts_ops.specs.declared.values.Condition.{Condition}
use Rattle.chip_regs.specs.Registers.{byte_at, written, after_read}
use Rattle.chip_regs.proofs.Bytes.{IsNarrow, narrow-from_bytes, bytes-from_narrow, narrow-scntl3, narrow-sxfer, narrow-sdid, narrow-sfbr, narrow-ssid, narrow-dcmd, narrow-written, narrow-after_read, narrow-stop}
use Rattle.chip_regs.specs.declared.registers.Regs.{Regs}
use Rattle.chip_regs.specs.declared.registers.Cause.{Cause}
use Rattle.chip_regs.specs.declared.registers.Cause.TheVariants.{Sir, Ma, Udc, Sto}
use Rattle.chip_step.specs.Event as event
use Rattle.chip_step.specs.Event.{Event}
use Rattle.chip_step.specs.Laws.{Signals, IsLawful}
use Rattle.chip_step.specs.Chip.{Chip, Ends, Becomes, Stops}
use Rattle.chip_step.specs.Addresses.{place_of, address_of, low_bits}
use Rattle.chip_step.specs.Bytes.{TakesIn}
use Rattle.chip_step.specs.Blocks.{loaded, after_bytes, Moves, MovesAt, BlockMoves, MovesBy}
use Rattle.chip_step.specs.Connection.{with_table, reselected_by, WaitsAt, ReselectsBy, SettlesAs, SelectsBy}
use Rattle.chip_step.specs.Transfers.{TransfersAt, Transfers}
use Rattle.chip_step.specs.Memory.{filled, stored, copied, LoadsAt, StoresAt}
use Rattle.chip_step.specs.Instructions.{changed, Does}
use Rattle.chip_step.specs.Step as chip_step
use Rattle.chip_step.specs.Step.{ChipStep, after_fetch}
use Rattle.chip_step.specs.declared.scsi_bus.Settled.{Settled}
use Rattle.chip_step.specs.declared.scsi_bus.Settled.TheVariants.{Selected, Reselected, TimedOut}
use Rattle.chip_step.specs.declared.outcome.StepEnd.{StepEnd}
use Rattle.chip_rows.specs.Bytes.{AnswersFit, StepsKeepBytes}

-- memory of bytes, and registers of one byte
record Good {B : Type 0} (chip : Chip B) : Type 0 where
  memory : IsBytes chip.memory
  regs : IsNarrow chip.regs

by : (b : Bool) {C X Y : Type 0} → (X → C) → (Y → C) → MatchBool b X Y → C
by true f g h = f h
by false f g h = g h

one_of : (b : Bool) (x y : ℕ) → x < 256 → y < 256 → (if b then x else y) < 256
one_of true x y h k = h
one_of false x y h k = k

table_fits : (w : ℕ) (r : Regs) → IsNarrow r → w < 2 ^ 32 → IsNarrow (with_table w r)
table_fits w r f h =
    record { are = (narrow-sxfer (record r { scntl3 = w / 16777216; sdid = w / 65536 % 256 }) (w / 256 % 256) (narrow-sdid (record r { scntl3 = w / 16777216 }) (w / 65536 % 256) (narrow-scntl3 r (w / 16777216) f (omega arith)) (omega arith)) (omega arith)).are }

reselected_fits : (by : ℕ) (r : Regs) → IsNarrow r → by < 8 → IsNarrow (reselected_by by r)
reselected_fits by r f h = record { are = (narrow-ssid r (128 + by) f (omega arith)).are }

moved_fits : (phase left : ℕ) (m : List ℕ) (r : Regs) → IsNarrow r → IsBytes m → IsNarrow (after_bytes phase left m r)
moved_fits phase left m r f h =
    let b : (if (nat_eq phase 7 || nat_eq phase 3) && nat_lt left r.dbc then slice_index m r.dnad else r.sfbr) < 256 = one_of ((nat_eq phase 7 || nat_eq phase 3) && nat_lt left r.dbc) (slice_index m r.dnad) r.sfbr (h.below r.dnad) f.are.sfbr_fits in
    record { are = (narrow-sfbr r _ f b).are }

changed_fits : (c : Change) (a b : ℕ) → a < 256 → b < 256 → changed c a b < 256
changed_fits Or a b h k = or_of_8 a b h k
changed_fits And a b h k = omega (arith, and_le_l a b)
changed_fits Add a b h k = omega arith

filled_fits : (n r : ℕ) (m : List ℕ) (a : ℕ) (regs : Regs) → IsBytes m → IsNarrow regs → IsNarrow (filled n r m a regs)
filled_fits zero r m a regs h f = f
filled_fits (suc n) r m a regs h f = filled_fits n (r + 1) m (a + 1) (written r (slice_index m a) regs) h (narrow-written r (slice_index m a) regs f (h.below a))

stored_fits : (n r : ℕ) (m : List ℕ) (a : ℕ) (regs : Regs) → IsBytes m → IsNarrow regs → IsBytes (stored n r m a regs)
stored_fits zero r m a regs h f = h
stored_fits (suc n) r m a regs h f = stored_fits n (r + 1) (slice_set m a (byte_at r regs)) (a + 1) regs (bytes-set m a (byte_at r regs) h ((bytes-from_narrow regs f).below r)) f

copied_fits : (n : ℕ) (m : List ℕ) (s t : ℕ) → IsBytes m → IsBytes (copied n m s t)
copied_fits zero m s t h = h
copied_fits (suc n) m s t h = copied_fits n (slice_set m t (slice_index m s)) (s + 1) (t + 1) (bytes-set m t (slice_index m s) h (h.below s))

module _ {B : Type 0} (moves : B → Event → B → Type 0) (fit : AnswersFit moves) where
  ends : (how : StepEnd) (memory : List ℕ) (regs : Regs) (end : StepEnd) (new : Chip B) → IsBytes memory → IsNarrow regs → Ends how memory regs end new → Good new
  ends how memory regs end new m r h = record { memory = subst IsBytes (sym h.memory_is) m; regs = subst IsNarrow (sym h.regs_are) r }

  becomes : (regs : Regs) (old : Chip B) (end : StepEnd) (new : Chip B) → IsBytes old.memory → IsNarrow regs → Becomes regs old end new → Good new
  becomes regs old end new m r h = ends _ _ _ end new m r h.ends

  stops : (cause : Cause) (old : Chip B) (end : StepEnd) (new : Chip B) → Good old → Stops cause old end new → Good new
  stops cause old end new g h = ends _ _ _ end new g.memory (narrow-stop cause old.regs g.regs) h.ends

  takes : (message later : Bool) (n : ℕ) (m : List ℕ) (at : ℕ) (bus : B) (left : ℕ) (m' : List ℕ) (bus' : B) → IsBytes m → TakesIn moves message later n m at bus left m' bus' → IsBytes m'
  takes message later zero m at bus left m' bus' g h = subst IsBytes (sym h.1) g
  takes message later (suc n) m at bus left m' bus' g h = elim h.2 [
    | inl e ↦ subst IsBytes (sym e.same) g
    | inr x ↦ takes message true n (slice_set m at x.0) (at + 1) x.1 left m' bus' (bytes-set m at x.0 g (fit.byte h.0 x.1 x.0 x.2)) x.3
  ]

  moved : (phase : ℕ) (old : Chip B) (end : StepEnd) (new : Chip B) → Good old → Moves moves phase old end new → Good new
  moved phase old end new g h =
      let m : IsBytes new.memory = by (nat_eq (phase % 2) 1) (takes (nat_eq phase 7) false old.regs.dbc old.memory old.regs.dnad old.bus h.left new.memory h.bus g.memory) (λ x. subst IsBytes (sym x.1) g.memory) h.carries in
      let r : IsNarrow (after_bytes phase h.left new.memory old.regs) = moved_fits phase h.left new.memory old.regs g.regs m in
      by (nat_eq h.left 0)
      (λ x. record { memory = m; regs = subst IsNarrow (sym x.2) r })
      (λ x. record { memory = m; regs = subst IsNarrow (sym x.2) (narrow-stop Ma (after_bytes phase h.left new.memory old.regs) r) }) h.finishes

  moves_at : (word : ℕ) (shown : Option Phase) (phase : ℕ) (old : Chip B) (bus : B) (end : StepEnd) (new : Chip B) → Good old → MovesAt moves word shown phase old bus end new → Good new
  moves_at word None phase old bus end new g h = stops _ (record old { bus = bus }) end new (record { memory = g.memory; regs = g.regs }) h
  moves_at word (Some shown) phase old bus end new g h =
      let o : Good (record old { bus = bus }) = record { memory = g.memory; regs = g.regs } in
      by (nat_eq (phase_code shown) phase) (moved phase (record old { bus = bus }) end new o) (stops _ (record old { bus = bus }) end new o) h

  block_moves : (word phase : ℕ) (old : Chip B) (end : StepEnd) (new : Chip B) → Good old → BlockMoves moves word phase old end new → Good new
  block_moves word phase old end new g h =
      by (nat_eq old.regs.dbc 0) (stops _ old end new g)
      (by (nat_le (old.regs.dnad + old.regs.dbc) (length old.memory)) (λ x. moves_at word x.shown phase old x.bus end new g x.moved) (stops _ old end new g)) h

  with_count : (n a : ℕ) (old : Chip B) → Good old → Good (loaded n a old)
  with_count n a old g = record { memory = g.memory; regs = record { are = g.regs.are } }

  moves_by : (word : ℕ) (place : Option ℕ) (phase : ℕ) (old : Chip B) (end : StepEnd) (new : Chip B) → Good old → MovesBy moves word place phase old end new → Good new
  moves_by word None phase old end new g h = stops _ old end new g h
  moves_by word (Some e) phase old end new g h = block_moves word phase (loaded (word_at old.memory e % 16777216) (word_at old.memory (e + 4)) old) end new (with_count _ _ old g) h

  settles : (word : ℕ) (s : Settled) (alternate : ℕ) (regs : Regs) (old : Chip B) (end : StepEnd) (new : Chip B) → IsBytes old.memory → IsNarrow regs → SettlesAs moves word s alternate regs old end new → Good new
  settles word Selected alternate regs old end new m r h = ends _ _ _ end new m (record { are = r.are }) h.3
  settles word (Reselected target) alternate regs old end new m r h =
      ends _ _ _ end new m (record { are = (reselected_fits target regs r (fit.selected old.bus new.bus regs.sdid word target h.0)).are }) h.1
  settles word TimedOut alternate regs old end new m r h = ends _ _ _ end new m (narrow-stop Sto regs r) h.1

  selects_by : (word : ℕ) (place : Option ℕ) (alternate : ℕ) (old : Chip B) (end : StepEnd) (new : Chip B) → Good old → SelectsBy moves word place alternate old end new → Good new
  selects_by word None alternate old end new g h = stops _ old end new g h
  selects_by word (Some e) alternate old end new g h =
      settles word h.0 alternate (with_table (word_at old.memory e) old.regs) old end new g.memory (table_fits (word_at old.memory e) old.regs g.regs (word_at-below old.memory e g.memory)) h.1

  waits_at : (gone : Bool) (old : Chip B) (end : StepEnd) (new : Chip B) → Good old → WaitsAt gone old end new → Good new
  waits_at true old end new g h = ends _ _ _ end new g.memory (record { are = g.regs.are }) h
  waits_at false old end new g h = ends _ _ _ end new g.memory (record { are = g.regs.are }) h

  reselects_by : (word : ℕ) (target : Option ℕ) (before old : Chip B) (end : StepEnd) (new : Chip B) → Good before → Good old → moves old.bus (event.Reselect word target) new.bus → ReselectsBy target before old end new → Good new
  reselects_by word None before old end new b g m h = subst (λ (c : Chip B). Good c) (sym h.1) b
  reselects_by word (Some target) before old end new b g m h = ends _ _ _ end new g.memory (reselected_fits target old.regs g.regs (fit.reselected old.bus new.bus word target m)) h

  transfers_at : (d : Option Bool) (how : StepEnd) (regs : Regs) (old : Chip B) (end : StepEnd) (new : Chip B) → Good old → IsNarrow regs → TransfersAt d how regs old end new → Good new
  transfers_at None how regs old end new g r h = ends _ _ _ end new g.memory (narrow-stop Udc old.regs g.regs) h
  transfers_at (Some true) how regs old end new g r h = ends _ _ _ end new g.memory r h
  transfers_at (Some false) how regs old end new g r h = ends _ _ _ end new g.memory g.regs h

  transfers : (word : ℕ) (on : Condition) (how : StepEnd) (regs : Regs) (old : Chip B) (end : StepEnd) (new : Chip B) → Good old → IsNarrow regs → Transfers moves word on how regs old end new → Good new
  transfers word on how regs old end new g r h = transfers_at h.decision how regs old end new g r h.transfers

  loads_at : (place : Option ℕ) (register n : ℕ) (old : Chip B) (end : StepEnd) (new : Chip B) → Good old → LoadsAt place register n old end new → Good new
  loads_at None register n old end new g h = stops _ old end new g h
  loads_at (Some a) register n old end new g h = becomes _ old end new g.memory (filled_fits n register old.memory a old.regs g.memory g.regs) h

  stores_at : (place : Option ℕ) (register n : ℕ) (old : Chip B) (end : StepEnd) (new : Chip B) → Good old → StoresAt place register n old end new → Good new
  stores_at None register n old end new g h = stops _ old end new g h
  stores_at (Some a) register n old end new g h = becomes _ _ end new (stored_fits n register old.memory a old.regs g.memory g.regs) g.regs h

  does : (word : ℕ) (x : Op) (before old : Chip B) (end : StepEnd) (new : Chip B) → (row x).fields → Good before → Good old → Does moves word x before old end new → Good new
  does word (op.Move n a p) before old end new f b g h = block_moves word p (loaded n a old) end new (with_count n a old g) h
  does word (op.MoveFrom o p) before old end new f b g h = moves_by word (place_of old.memory old.regs.dsa o 8) p old end new g h
  does word (op.Select o alternate) before old end new f b g h = by old.regs.con (stops _ old end new g) (selects_by word (place_of old.memory old.regs.dsa o 4) alternate old end new g) h
  does word op.WaitDisconnect before old end new f b g h = waits_at h.0 old end new g h.2
  does word (op.WaitReselect alternate) before old end new f b g h =
      by old.regs.con (stops _ old end new g) (by old.regs.sigp (becomes _ old end new g.memory (record { are = g.regs.are })) (λ x. reselects_by word x.0 before old end new b g x.1 x.2)) h
  does word (op.Set ack atn) before old end new f b g h = ends _ _ _ end new g.memory g.regs h.ends
  does word (op.Clear ack atn) before old end new f b g h = ends _ _ _ end new g.memory g.regs h.ends
  does word (op.FromSfbr c d r) before old end new f b g h = becomes _ old end new g.memory (narrow-written r (changed c old.regs.sfbr d) old.regs g.regs (changed_fits c old.regs.sfbr d g.regs.are.sfbr_fits f.2)) h
  does word (op.ToSfbr r c d) before old end new f b g h =
      becomes _ old end new g.memory (narrow-sfbr (after_read r old.regs) (changed c (byte_at r old.regs) d) (narrow-after_read r old.regs g.regs) (changed_fits c (byte_at r old.regs) d ((bytes-from_narrow old.regs g.regs).below r) f.1)) h
  does word (op.Modify r c d) before old end new f b g h =
      becomes _ old end new g.memory (narrow-written r (changed c (byte_at r old.regs) d) old.regs g.regs (changed_fits c (byte_at r old.regs) d ((bytes-from_narrow old.regs g.regs).below r) f.2)) h
  does word (op.Put d r) before old end new f b g h = becomes _ old end new g.memory (narrow-written r d old.regs g.regs f.1) h
  does word (op.Jump on a) before old end new f b g h = transfers word on _ _ old end new g (record { are = g.regs.are }) h
  does word (op.Call on a) before old end new f b g h = transfers word on _ _ old end new g (record { are = g.regs.are }) h
  does word (op.Return on) before old end new f b g h = transfers word on _ _ old end new g (record { are = g.regs.are }) h
  does word (op.Int on vector) before old end new f b g h = transfers word on _ _ old end new g (narrow-stop (Sir vector) old.regs g.regs) h
  does word (op.IntFly on) before old end new f b g h = transfers word on _ _ old end new g (record { are = g.regs.are }) h
  does word op.Nop before old end new f b g h = becomes _ old end new g.memory g.regs h
  does word (op.MoveMemory n s t) before old end new f b g h =
      by (nat_eq (s % 4) (t % 4)) (by (nat_le (s + n) (length old.memory) && nat_le (t + n) (length old.memory)) (becomes _ _ end new (copied_fits n old.memory s t g.memory) g.regs) (stops _ old end new g)) (stops _ old end new g) h
  does word (op.Load r n place) before old end new f b g h =
      by (nat_eq (low_bits old.regs.dsa place) (r % 4)) (loads_at (address_of old.memory old.regs.dsa place n) r n old end new g) (stops _ old end new g) h
  does word (op.Store r n place) before old end new f b g h =
      by (nat_eq (low_bits old.regs.dsa place) (r % 4)) (stores_at (address_of old.memory old.regs.dsa place n) r n old end new g) (stops _ old end new g) h

  fetched_good : (old : Chip B) → Good old → Good (after_fetch old)
  fetched_good old g =
      let w : word_at old.memory old.regs.dsp < 2 ^ 32 = word_at-below old.memory old.regs.dsp g.memory in
      record { memory = g.memory; regs = record { are = (narrow-dcmd old.regs (word_at old.memory old.regs.dsp / 16777216) g.regs (omega arith)).are } }

  step_good : (word : ℕ) (old : Chip B) (end : StepEnd) (new : Chip B) → Good old → ChipStep moves word old end new → Good new
  step_good word old end new g (chip_step.idle s e n) = subst (λ (c : Chip B). Good c) (sym n) g
  step_good word old end new g (chip_step.unfetched s c h) = stops _ old end new g h
  step_good word old end new g (chip_step.unspelled s c n h) = stops _ (after_fetch old) end new (fetched_good old g) h
  step_good word old end new g (chip_step.does s c o at h) = does word o old (after_fetch old) end new at.fields g (fetched_good old g) h

  pub steps_keep_bytes : StepsKeepBytes moves
  steps_keep_bytes word old end new g h =
      let n : Good new = step_good word old end new (record { memory = g.memory; regs = narrow-from_bytes old.regs g.regs }) h in
      record { memory = n.memory; regs = bytes-from_narrow new.regs n.regs }

-- the answers of a lawful bus fit
pub lawful-fit : {B : Type 0} (moves : B → Event → B → Type 0) (signals : B → Signals) → ((old : B) (e : Event) (new : B) → moves old e new → IsLawful signals old e new) → AnswersFit moves
lawful-fit moves signals lawful = record {
  byte = λ old new b m. (lawful old (event.ByteIn (Some b)) new m).0;
  selected = λ old new target word by m. lawful old (event.Select target word (Reselected by)) new m;
  reselected = λ old new word by m. lawful old (event.Reselect word (Some by)) new m;
}
