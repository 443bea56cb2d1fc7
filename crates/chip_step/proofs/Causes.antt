-- A step that stops leaves its cause in the registers.
use Rattle.std.proofs.Common.{◌≡◌, ℕ, ℤ, ◌+◌, ◌%◌, Bool, true, false, ◌||◌, nat_eq, nat_le, ◌&&◌, cond, length, refl, ap, ◌∙◌, Option, Some, None, MatchBool}
use Rattle.bench_words.specs.Memory.{word_at}
use Rattle.scsi_words.specs.Phases.{phase_code}
use Rattle.scsi_words.specs.declared.phases.kinds.Phase.{Phase}
use Rattle.scripts_ops.specs.declared.values.Op.{Op}
use Rattle.scripts_ops.specs.declared.values.Op.TheVariants.{Move, MoveFrom, Select, WaitDisconnect, WaitReselect, Set, Clear, FromSfbr, ToSfbr, Modify, Put, Jump, Call, Return, Int, IntFly, Nop, MoveMemory, Load, Store}
use Rattle.scripts_ops.specs.declared.values.Condition.{Condition}
use Rattle.chip_regs.specs.Registers.{is_stopped, stop_with, cause_of}
use Rattle.chip_regs.specs.declared.registers.Regs.{Regs}
use Rattle.chip_regs.specs.declared.registers.Cause.{Cause}
use Rattle.chip_regs.specs.declared.registers.Cause.TheVariants.{Sir, Iid, Bf, Ma, Udc, Rst, Sto}
use Rattle.chip_step.specs.Event as event
use Rattle.chip_step.specs.Event.{Event}
use Rattle.chip_step.specs.Chip.{Chip, Becomes, Stops}
use Rattle.chip_step.specs.Addresses.{place_of, address_of, low_bits}
use Rattle.chip_step.specs.Blocks.{BlockMoves, AsksAndMoves, MovesAt, Moves, MovesBy, loaded, after_bytes, ReleasesAtn}
use Rattle.chip_step.specs.Connection.{Waits, Selects, SelectsBy, SettlesAs, Reselects, ReselectsBy, with_table}
use Rattle.chip_step.specs.Transfers.{Transfers, TransfersAt}
use Rattle.chip_step.specs.Memory.{LoadsAt, StoresAt, Copies, copied}
use Rattle.chip_step.specs.Instructions.{Does}
use Rattle.chip_step.specs.Step.{ChipStep, idle, unfetched, unspelled, does, after_fetch}
use Rattle.chip_step.specs.declared.scsi_bus.Settled.{Settled}
use Rattle.chip_step.specs.declared.scsi_bus.Settled.TheVariants.{Selected, Reselected, TimedOut}
use Rattle.chip_step.specs.declared.outcome.StepEnd.{StepEnd}
use Rattle.chip_step.specs.declared.outcome.StepEnd.TheVariants as ends

-- no stop bit is set
record Runs (r : Regs) : Type 0 where
  sir : r.sir ≡ false
  iid : r.iid ≡ false
  bf : r.bf ≡ false
  ma : r.ma ≡ false
  udc : r.udc ≡ false
  rst : r.rst ≡ false

off_1 : (a b c d e f g : Bool) → (a || b || c || d || e || f || g) ≡ false → a ≡ false
off_1 true b c d e f g h = cc
off_1 false b c d e f g h = refl

off_2 : (a b c d e f g : Bool) → (a || b || c || d || e || f || g) ≡ false → b ≡ false
off_2 true b c d e f g h = cc
off_2 false true c d e f g h = cc
off_2 false false c d e f g h = refl

off_3 : (a b c d e f g : Bool) → (a || b || c || d || e || f || g) ≡ false → c ≡ false
off_3 true b c d e f g h = cc
off_3 false true c d e f g h = cc
off_3 false false true d e f g h = cc
off_3 false false false d e f g h = refl

off_4 : (a b c d e f g : Bool) → (a || b || c || d || e || f || g) ≡ false → d ≡ false
off_4 true b c d e f g h = cc
off_4 false true c d e f g h = cc
off_4 false false true d e f g h = cc
off_4 false false false true e f g h = cc
off_4 false false false false e f g h = refl

off_5 : (a b c d e f g : Bool) → (a || b || c || d || e || f || g) ≡ false → e ≡ false
off_5 true b c d e f g h = cc
off_5 false true c d e f g h = cc
off_5 false false true d e f g h = cc
off_5 false false false true e f g h = cc
off_5 false false false false true f g h = cc
off_5 false false false false false f g h = refl

off_6 : (a b c d e f g : Bool) → (a || b || c || d || e || f || g) ≡ false → f ≡ false
off_6 true b c d e f g h = cc
off_6 false true c d e f g h = cc
off_6 false false true d e f g h = cc
off_6 false false false true e f g h = cc
off_6 false false false false true f g h = cc
off_6 false false false false false true g h = cc
off_6 false false false false false false g h = refl

runs : (r : Regs) → is_stopped r ≡ false → Runs r
runs r h = record {
  sir = off_1 r.sir r.iid r.bf r.ma r.udc r.rst r.sto h;
  iid = off_2 r.sir r.iid r.bf r.ma r.udc r.rst r.sto h;
  bf = off_3 r.sir r.iid r.bf r.ma r.udc r.rst r.sto h;
  ma = off_4 r.sir r.iid r.bf r.ma r.udc r.rst r.sto h;
  udc = off_5 r.sir r.iid r.bf r.ma r.udc r.rst r.sto h;
  rst = off_6 r.sir r.iid r.bf r.ma r.udc r.rst r.sto h;
}

stopped_cause : (cause : Cause) (r : Regs) → is_stopped r ≡ false → cause_of (stop_with cause r) ≡ Some cause
stopped_cause (Sir v) r h = refl
stopped_cause Iid r h = let k = runs r h in rw k.sir refl
stopped_cause Bf r h = let k = runs r h in rw (k.sir, k.iid) refl
stopped_cause Ma r h = let k = runs r h in rw (k.sir, k.iid, k.bf) refl
stopped_cause Udc r h = let k = runs r h in rw (k.sir, k.iid, k.bf, k.ma) refl
stopped_cause Rst r h = let k = runs r h in rw (k.sir, k.iid, k.bf, k.ma, k.udc) refl
stopped_cause Sto r h = let k = runs r h in rw (k.sir, k.iid, k.bf, k.ma, k.udc, k.rst) refl

-- registers that give a cause are stopped
by_bits : (a b c d e f g : Bool) (x1 x2 x3 x4 x5 x6 x7 cause : Cause) → cond a (Some x1) (cond b (Some x2) (cond c (Some x3) (cond d (Some x4) (cond e (Some x5) (cond f (Some x6) (cond g (Some x7) None)))))) ≡ Some cause → (a || b || c || d || e || f || g) ≡ true
by_bits true b c d e f g x1 x2 x3 x4 x5 x6 x7 cause h = refl
by_bits false true c d e f g x1 x2 x3 x4 x5 x6 x7 cause h = refl
by_bits false false true d e f g x1 x2 x3 x4 x5 x6 x7 cause h = refl
by_bits false false false true e f g x1 x2 x3 x4 x5 x6 x7 cause h = refl
by_bits false false false false true f g x1 x2 x3 x4 x5 x6 x7 cause h = refl
by_bits false false false false false true g x1 x2 x3 x4 x5 x6 x7 cause h = refl
by_bits false false false false false false true x1 x2 x3 x4 x5 x6 x7 cause h = refl
by_bits false false false false false false false x1 x2 x3 x4 x5 x6 x7 cause h = absurd cc

pub caused : (r : Regs) (cause : Cause) → cause_of r ≡ Some cause → is_stopped r ≡ true
caused r cause h = by_bits r.sir r.iid r.bf r.ma r.udc r.rst r.sto (Sir r.dsps) Iid Bf Ma Udc Rst Sto cause h

-- the cause with which a step ends is the cause that its registers give
abbrev pub Stopping : {B : Type 0} → StepEnd → Chip B → Type 0
Stopping end new = (cause : Cause) → end ≡ ends.Stopped cause → cause_of new.regs ≡ Some cause

goes_on : {B : Type 0} (end : StepEnd) (new : Chip B) → end ≡ ends.Ran → Stopping end new
goes_on end new e cause f = absurd cc

rests : {B : Type 0} (end : StepEnd) (new : Chip B) → end ≡ ends.Idle → Stopping end new
rests end new e cause f = absurd cc

stops_with : {B : Type 0} (c : Cause) (r : Regs) (end : StepEnd) (new : Chip B) → end ≡ ends.Stopped c → new.regs ≡ stop_with c r → is_stopped r ≡ false → Stopping end new
stops_with c r end new e q h cause f =
    let same : c ≡ cause = cc in
    ap cause_of q ∙ stopped_cause c r h ∙ ap (λ (x : Cause). Some x) same

stops : {B : Type 0} (c : Cause) (old : Chip B) (end : StepEnd) (new : Chip B) → Stops c old end new → is_stopped old.regs ≡ false → Stopping end new
stops c old end new s h = stops_with c old.regs end new s.ends.is s.ends.regs_are h

by_bool : (P Q C : Type 0) (b : Bool) → MatchBool b P Q → (P → C) → (Q → C) → C
by_bool P Q C true h f g = f h
by_bool P Q C false h f g = g h

module _ {B : Type 0} (moves : B → Event → B → Type 0) where
  Moves-stops : (phase : ℕ) (old : Chip B) (end : StepEnd) (new : Chip B) → Moves moves phase old end new → is_stopped old.regs ≡ false → Stopping end new
  Moves-stops phase old end new t h =
      let r : Regs = after_bytes phase t.left new.memory old.regs in
      by_bool (ReleasesAtn moves (nat_eq phase 6) t.bus new.bus × (end ≡ ends.Ran) × (new.regs ≡ r)) ((new.bus ≡ t.bus) × (end ≡ ends.Stopped Ma) × (new.regs ≡ stop_with Ma r))
      (Stopping end new) (nat_eq t.left 0) t.finishes
      (λ f. goes_on end new f.1)
      (λ f. stops_with Ma r end new f.1 f.2 h)

module _ {B : Type 0} (moves : B → Event → B → Type 0) (word : ℕ) where
  MovesAt-stops : (shown : Option Phase) (phase : ℕ) (old : Chip B) (bus : B) (end : StepEnd) (new : Chip B) → MovesAt moves word shown phase old bus end new → is_stopped old.regs ≡ false → Stopping end new
  MovesAt-stops None phase old bus end new m h = stops Udc (record old { bus = bus }) end new m h
  MovesAt-stops (Some shown) phase old bus end new m h =
      by_bool (Moves moves phase (record old { bus = bus }) end new) (Stops Ma (record old { bus = bus }) end new) (Stopping end new) (nat_eq (phase_code shown) phase) m
      (λ x. Moves-stops moves phase (record old { bus = bus }) end new x h)
      (λ x. stops Ma (record old { bus = bus }) end new x h)

  BlockMoves-stops : (phase : ℕ) (old : Chip B) (end : StepEnd) (new : Chip B) → BlockMoves moves word phase old end new → is_stopped old.regs ≡ false → Stopping end new
  BlockMoves-stops phase old end new m h =
      by_bool (Stops Iid old end new) (MatchBool (nat_le (old.regs.dnad + old.regs.dbc) (length old.memory)) (AsksAndMoves moves word phase old end new) (Stops Bf old end new))
      (Stopping end new) (nat_eq old.regs.dbc 0) m
      (λ x. stops Iid old end new x h)
      (λ x. by_bool (AsksAndMoves moves word phase old end new) (Stops Bf old end new) (Stopping end new) (nat_le (old.regs.dnad + old.regs.dbc) (length old.memory)) x
      (λ y. MovesAt-stops y.shown phase old y.bus end new y.moved h)
      (λ y. stops Bf old end new y h))

  MovesBy-stops : (place : Option ℕ) (phase : ℕ) (old : Chip B) (end : StepEnd) (new : Chip B) → MovesBy moves word place phase old end new → is_stopped old.regs ≡ false → Stopping end new
  MovesBy-stops None phase old end new m h = stops Bf old end new m h
  MovesBy-stops (Some e) phase old end new m h = BlockMoves-stops phase (loaded (word_at old.memory e % 16777216) (word_at old.memory (e + 4)) old) end new m h

  SettlesAs-stops : (s : Settled) (alternate : ℕ) (r : Regs) (old : Chip B) (end : StepEnd) (new : Chip B) → SettlesAs moves word s alternate r old end new → is_stopped r ≡ false → Stopping end new
  SettlesAs-stops Selected alternate r old end new s h = goes_on end new s.3.is
  SettlesAs-stops (Reselected by) alternate r old end new s h = goes_on end new s.1.is
  SettlesAs-stops TimedOut alternate r old end new s h = stops_with Sto r end new s.1.is s.1.regs_are h

  SelectsBy-stops : (place : Option ℕ) (alternate : ℕ) (old : Chip B) (end : StepEnd) (new : Chip B) → SelectsBy moves word place alternate old end new → is_stopped old.regs ≡ false → Stopping end new
  SelectsBy-stops None alternate old end new s h = stops Bf old end new s h
  SelectsBy-stops (Some e) alternate old end new s h = SettlesAs-stops s.0 alternate (with_table (word_at old.memory e) old.regs) old end new s.1 h

  Selects-stops : (o : ℤ) (alternate : ℕ) (old : Chip B) (end : StepEnd) (new : Chip B) → Selects moves word o alternate old end new → is_stopped old.regs ≡ false → Stopping end new
  Selects-stops o alternate old end new s h =
      by_bool (Stops Iid old end new) (SelectsBy moves word (place_of old.memory old.regs.dsa o 4) alternate old end new) (Stopping end new) old.regs.con s
      (λ x. stops Iid old end new x h)
      (λ x. SelectsBy-stops (place_of old.memory old.regs.dsa o 4) alternate old end new x h)

  Waits-stops : (old : Chip B) (end : StepEnd) (new : Chip B) → Waits moves word old end new → is_stopped old.regs ≡ false → Stopping end new
  Waits-stops old end new (true, _, w) h = goes_on end new w.is
  Waits-stops old end new (false, _, w) h = stops_with Ma (record old.regs { dbc = 0 }) end new w.is w.regs_are h

  ReselectsBy-stops : (target : Option ℕ) (before old : Chip B) (end : StepEnd) (new : Chip B) → ReselectsBy target before old end new → Stopping end new
  ReselectsBy-stops None before old end new r = rests end new r.0
  ReselectsBy-stops (Some target) before old end new r = goes_on end new r.is

  Reselects-stops : (alternate : ℕ) (before old : Chip B) (end : StepEnd) (new : Chip B) → Reselects moves word alternate before old end new → is_stopped old.regs ≡ false → Stopping end new
  Reselects-stops alternate before old end new s h =
      by_bool (Stops Iid old end new)
      (MatchBool old.regs.sigp (Becomes (record old.regs { dsp = alternate }) old end new) ((target : Option ℕ) × moves old.bus (event.Reselect word target) new.bus × ReselectsBy target before old end new))
      (Stopping end new) old.regs.con s
      (λ x. stops Iid old end new x h)
      (λ x. by_bool (Becomes (record old.regs { dsp = alternate }) old end new) ((target : Option ℕ) × moves old.bus (event.Reselect word target) new.bus × ReselectsBy target before old end new) (Stopping end new) old.regs.sigp x
      (λ y. goes_on end new y.ends.is)
      (λ y. ReselectsBy-stops y.0 before old end new y.2))

  -- a transfer whose registers give the cause of its end
  TransfersAt-stops : (decision : Option Bool) (how : StepEnd) (regs : Regs) (old : Chip B) (end : StepEnd) (new : Chip B) → TransfersAt decision how regs old end new → is_stopped old.regs ≡ false →
      ((cause : Cause) → how ≡ ends.Stopped cause → cause_of regs ≡ Some cause) → Stopping end new
  TransfersAt-stops None how regs old end new t h k = stops_with Udc old.regs end new t.is t.regs_are h
  TransfersAt-stops (Some true) how regs old end new t h k = λ cause f. let e : how ≡ ends.Stopped cause = cc (t.is, f) in ap cause_of t.regs_are ∙ k cause e
  TransfersAt-stops (Some false) how regs old end new t h k = goes_on end new t.is

  runs_on : (regs : Regs) (cause : Cause) → ends.Ran ≡ ends.Stopped cause → cause_of regs ≡ Some cause
  runs_on regs cause e = absurd cc

  Jump-stops : (on : Condition) (regs : Regs) (old : Chip B) (end : StepEnd) (new : Chip B) → Transfers moves word on ends.Ran regs old end new → is_stopped old.regs ≡ false → Stopping end new
  Jump-stops on regs old end new t h = TransfersAt-stops t.decision ends.Ran regs old end new t.transfers h (runs_on regs)

  Int-stops : (on : Condition) (v : ℕ) (old : Chip B) (end : StepEnd) (new : Chip B) → Transfers moves word on (ends.Stopped (Sir v)) (stop_with (Sir v) old.regs) old end new → is_stopped old.regs ≡ false → Stopping end new
  Int-stops on v old end new t h =
      TransfersAt-stops t.decision (ends.Stopped (Sir v)) (stop_with (Sir v) old.regs) old end new t.transfers h
      (λ cause e. let same : Sir v ≡ cause = cc in ap (λ (x : Cause). Some x) same)

  LoadsAt-stops : (at : Option ℕ) (r n : ℕ) (old : Chip B) (end : StepEnd) (new : Chip B) → LoadsAt at r n old end new → is_stopped old.regs ≡ false → Stopping end new
  LoadsAt-stops None r n old end new l h = stops Bf old end new l h
  LoadsAt-stops (Some a) r n old end new l h = goes_on end new l.ends.is

  StoresAt-stops : (at : Option ℕ) (r n : ℕ) (old : Chip B) (end : StepEnd) (new : Chip B) → StoresAt at r n old end new → is_stopped old.regs ≡ false → Stopping end new
  StoresAt-stops None r n old end new l h = stops Bf old end new l h
  StoresAt-stops (Some a) r n old end new l h = goes_on end new l.ends.is

  Copies-stops : (n s t : ℕ) (old : Chip B) (end : StepEnd) (new : Chip B) → Copies n s t old end new → is_stopped old.regs ≡ false → Stopping end new
  Copies-stops n s t old end new c h =
      by_bool (MatchBool (nat_le (s + n) (length old.memory) && nat_le (t + n) (length old.memory)) (Becomes old.regs (record old { memory = copied n old.memory s t }) end new) (Stops Bf old end new))
      (Stops Iid old end new) (Stopping end new) (nat_eq (s % 4) (t % 4)) c
      (λ x. by_bool (Becomes old.regs (record old { memory = copied n old.memory s t }) end new) (Stops Bf old end new) (Stopping end new) (nat_le (s + n) (length old.memory) && nat_le (t + n) (length old.memory)) x
      (λ y. goes_on end new y.ends.is)
      (λ y. stops Bf old end new y h))
      (λ x. stops Iid old end new x h)

  Does-stops : (op : Op) (before old : Chip B) (end : StepEnd) (new : Chip B) → Does moves word op before old end new → is_stopped old.regs ≡ false → Stopping end new
  Does-stops (Move n a p) before old end new d h = BlockMoves-stops p (loaded n a old) end new d h
  Does-stops (MoveFrom o p) before old end new d h = MovesBy-stops (place_of old.memory old.regs.dsa o 8) p old end new d h
  Does-stops (Select o alternate) before old end new d h = Selects-stops o alternate old end new d h
  Does-stops WaitDisconnect before old end new d h = Waits-stops old end new d h
  Does-stops (WaitReselect alternate) before old end new d h = Reselects-stops alternate before old end new d h
  Does-stops (Set ack atn) before old end new d h = goes_on end new d.ends.is
  Does-stops (Clear ack atn) before old end new d h = goes_on end new d.ends.is
  Does-stops (FromSfbr c e r) before old end new d h = goes_on end new d.ends.is
  Does-stops (ToSfbr r c e) before old end new d h = goes_on end new d.ends.is
  Does-stops (Modify r c e) before old end new d h = goes_on end new d.ends.is
  Does-stops (Put e r) before old end new d h = goes_on end new d.ends.is
  Does-stops (Jump on a) before old end new d h = Jump-stops on (record old.regs { dsp = a }) old end new d h
  Does-stops (Call on a) before old end new d h = Jump-stops on (record old.regs { temp = old.regs.dsp; dsp = a }) old end new d h
  Does-stops (Return on) before old end new d h = Jump-stops on (record old.regs { dsp = old.regs.temp }) old end new d h
  Does-stops (Int on v) before old end new d h = Int-stops on v old end new d h
  Does-stops (IntFly on) before old end new d h = Jump-stops on (record old.regs { intf = true }) old end new d h
  Does-stops Nop before old end new d h = goes_on end new d.ends.is
  Does-stops (MoveMemory n s t) before old end new d h = Copies-stops n s t old end new d h
  Does-stops (Load r n place) before old end new d h =
      by_bool (LoadsAt (address_of old.memory old.regs.dsa place n) r n old end new) (Stops Iid old end new) (Stopping end new) (nat_eq (low_bits old.regs.dsa place) (r % 4)) d
      (λ x. LoadsAt-stops (address_of old.memory old.regs.dsa place n) r n old end new x h)
      (λ x. stops Iid old end new x h)
  Does-stops (Store r n place) before old end new d h =
      by_bool (StoresAt (address_of old.memory old.regs.dsa place n) r n old end new) (Stops Iid old end new) (Stopping end new) (nat_eq (low_bits old.regs.dsa place) (r % 4)) d
      (λ x. StoresAt-stops (address_of old.memory old.regs.dsa place n) r n old end new x h)
      (λ x. stops Iid old end new x h)

  -- a step that stops leaves its cause in the registers
  pub ChipStep-stops : (old : Chip B) (end : StepEnd) (new : Chip B) → ChipStep moves word old end new → Stopping end new
  ChipStep-stops old end new (idle s e q) = rests end new e
  ChipStep-stops old end new (unfetched s c t) = stops Bf old end new t s
  ChipStep-stops old end new (unspelled s c n t) = stops Iid (after_fetch old) end new t s
  ChipStep-stops old end new (does s c op at d) = Does-stops op old (after_fetch old) end new d s
