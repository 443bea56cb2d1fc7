-- Only INT stops the chip with a vector, and it is the instruction's.
use Rattle.std.proofs.Common.{◌≡◌, ℕ, ◌+◌, ◌%◌, Bool, true, false, ◌&&◌, nat_eq, nat_le, length, sym, ◌∙◌, Option, Some, None, MatchBool}
use Rattle.bench_words.specs.Memory.{word_at}
use Rattle.scsi_words.specs.Phases.{phase_code}
use Rattle.scsi_words.specs.declared.phases.kinds.Phase.{Phase}
use Rattle.scripts_ops.specs.declared.values.Op.{Op}
use Rattle.scripts_ops.specs.declared.values.Op.TheVariants as op
use Rattle.chip_regs.specs.Registers.{stop_with}
use Rattle.chip_regs.specs.declared.registers.Cause.TheVariants.{Sir, Iid, Bf, Ma, Udc, Sto}
use Rattle.chip_regs.specs.declared.registers.Regs.{Regs}
use Rattle.chip_step.specs.Addresses.{place_of, address_of, low_bits}
use Rattle.chip_step.specs.Blocks.{BlockMoves, AsksAndMoves, MovesAt, Moves, MovesBy, loaded, after_bytes, ReleasesAtn}
use Rattle.chip_step.specs.Chip.{Chip, Becomes, Stops}
use Rattle.chip_step.specs.Connection.{SelectsBy, SettlesAs, ReselectsBy, WaitsAt, with_table}
use Rattle.chip_step.specs.Event as event
use Rattle.chip_step.specs.Event.{Event}
use Rattle.chip_step.specs.Instructions.{Does}
use Rattle.chip_step.specs.Memory.{LoadsAt, StoresAt, copied}
use Rattle.chip_step.specs.Transfers.{TransfersAt}
use Rattle.chip_step.specs.declared.outcome.StepEnd.{StepEnd}
use Rattle.chip_step.specs.declared.outcome.StepEnd.TheVariants.{Ran, Idle, Stopped}
use Rattle.chip_step.specs.declared.scsi_bus.Settled.{Settled}
use Rattle.chip_step.specs.declared.scsi_bus.Settled.TheVariants.{Selected, Reselected, TimedOut}

-- INT with this vector, and nothing else
abbrev pub IsInt : ℕ → Op → Type 0
IsInt v (op.Int on n) = n ≡ v
IsInt v _ = ⊥

-- the step ends without a vector
abbrev Silent : StepEnd → Type 0
Silent end = (v : ℕ) → end ≡ Stopped (Sir v) → ⊥

ran : (end : StepEnd) → end ≡ Ran → Silent end
ran end e v f = let z : Ran ≡ Stopped (Sir v) = sym e ∙ f in absurd cc

idle : (end : StepEnd) → end ≡ Idle → Silent end
idle end e v f = let z : Idle ≡ Stopped (Sir v) = sym e ∙ f in absurd cc

iid : (end : StepEnd) → end ≡ Stopped Iid → Silent end
iid end e v f = let z : Stopped Iid ≡ Stopped (Sir v) = sym e ∙ f in absurd cc

bf : (end : StepEnd) → end ≡ Stopped Bf → Silent end
bf end e v f = let z : Stopped Bf ≡ Stopped (Sir v) = sym e ∙ f in absurd cc

ma : (end : StepEnd) → end ≡ Stopped Ma → Silent end
ma end e v f = let z : Stopped Ma ≡ Stopped (Sir v) = sym e ∙ f in absurd cc

udc : (end : StepEnd) → end ≡ Stopped Udc → Silent end
udc end e v f = let z : Stopped Udc ≡ Stopped (Sir v) = sym e ∙ f in absurd cc

sto : (end : StepEnd) → end ≡ Stopped Sto → Silent end
sto end e v f = let z : Stopped Sto ≡ Stopped (Sir v) = sym e ∙ f in absurd cc

by_bool : (P Q C : Type 0) (b : Bool) → MatchBool b P Q → (P → C) → (Q → C) → C
by_bool P Q C true h f g = f h
by_bool P Q C false h f g = g h

module _ {B : Type 0} (moves : B → Event → B → Type 0) (word : ℕ) where
  moved : (phase : ℕ) (old : Chip B) (end : StepEnd) (new : Chip B) → Moves moves phase old end new → Silent end
  moved phase old end new t =
      let r : Regs = after_bytes phase t.left new.memory old.regs in
      by_bool (ReleasesAtn moves (nat_eq phase 6) t.bus new.bus × (end ≡ Ran) × (new.regs ≡ r)) ((new.bus ≡ t.bus) × (end ≡ Stopped Ma) × (new.regs ≡ stop_with Ma r)) (Silent end) (nat_eq t.left 0) t.finishes
      (λ f. ran end f.1) (λ f. ma end f.1)

  moved-at : (shown : Option Phase) (phase : ℕ) (old : Chip B) (bus : B) (end : StepEnd) (new : Chip B) → MovesAt moves word shown phase old bus end new → Silent end
  moved-at None phase old bus end new m = udc end m.ends.is
  moved-at (Some shown) phase old bus end new m =
      by_bool (Moves moves phase (record old { bus = bus }) end new) (Stops Ma (record old { bus = bus }) end new) (Silent end) (nat_eq (phase_code shown) phase) m
      (λ x. moved phase (record old { bus = bus }) end new x) (λ x. ma end x.ends.is)

  block : (phase : ℕ) (old : Chip B) (end : StepEnd) (new : Chip B) → BlockMoves moves word phase old end new → Silent end
  block phase old end new m =
      by_bool (Stops Iid old end new) (MatchBool (nat_le (old.regs.dnad + old.regs.dbc) (length old.memory)) (AsksAndMoves moves word phase old end new) (Stops Bf old end new)) (Silent end) (nat_eq old.regs.dbc 0) m
      (λ x. iid end x.ends.is)
      (λ x. by_bool (AsksAndMoves moves word phase old end new) (Stops Bf old end new) (Silent end) (nat_le (old.regs.dnad + old.regs.dbc) (length old.memory)) x
      (λ y. moved-at y.shown phase old y.bus end new y.moved) (λ y. bf end y.ends.is))

  moved-by : (o : Option ℕ) (phase : ℕ) (old : Chip B) (end : StepEnd) (new : Chip B) → MovesBy moves word o phase old end new → Silent end
  moved-by None phase old end new m = bf end m.ends.is
  moved-by (Some e) phase old end new m = block phase (loaded (word_at old.memory e % 16777216) (word_at old.memory (e + 4)) old) end new m

  settled : (s : Settled) (alternate : ℕ) (r : Regs) (old : Chip B) (end : StepEnd) (new : Chip B) → SettlesAs moves word s alternate r old end new → Silent end
  settled Selected alternate r old end new d = ran end d.3.is
  settled (Reselected by) alternate r old end new d = ran end d.1.is
  settled TimedOut alternate r old end new d = sto end d.1.is

  selected-by : (o : Option ℕ) (alternate : ℕ) (old : Chip B) (end : StepEnd) (new : Chip B) → SelectsBy moves word o alternate old end new → Silent end
  selected-by None alternate old end new d = bf end d.ends.is
  selected-by (Some e) alternate old end new d = settled d.0 alternate (with_table (word_at old.memory e) old.regs) old end new d.1

  reselected-by : (o : Option ℕ) (before old : Chip B) (end : StepEnd) (new : Chip B) → ReselectsBy o before old end new → Silent end
  reselected-by None before old end new d = idle end d.0
  reselected-by (Some t) before old end new d = ran end d.is

  waited : (gone : Bool) (old : Chip B) (end : StepEnd) (new : Chip B) → WaitsAt gone old end new → Silent end
  waited true old end new d = ran end d.is
  waited false old end new d = ma end d.is

  loaded-at : (o : Option ℕ) (r n : ℕ) (old : Chip B) (end : StepEnd) (new : Chip B) → LoadsAt o r n old end new → Silent end
  loaded-at None r n old end new d = bf end d.ends.is
  loaded-at (Some a) r n old end new d = ran end d.ends.is

  stored-at : (o : Option ℕ) (r n : ℕ) (old : Chip B) (end : StepEnd) (new : Chip B) → StoresAt o r n old end new → Silent end
  stored-at None r n old end new d = bf end d.ends.is
  stored-at (Some a) r n old end new d = ran end d.ends.is

  transferred : (o : Option Bool) (r : Regs) (old : Chip B) (end : StepEnd) (new : Chip B) → TransfersAt o Ran r old end new → Silent end
  transferred None r old end new d = udc end d.is
  transferred (Some true) r old end new d = ran end d.is
  transferred (Some false) r old end new d = ran end d.is

  interrupted : (o : Option Bool) (n : ℕ) (r : Regs) (old : Chip B) (end : StepEnd) (new : Chip B) → TransfersAt o (Stopped (Sir n)) r old end new → (v : ℕ) → end ≡ Stopped (Sir v) → n ≡ v
  interrupted None n r old end new d v f = absurd (udc end d.is v f)
  interrupted (Some true) n r old end new d v f = let z : Stopped (Sir n) ≡ Stopped (Sir v) = sym d.is ∙ f in cc
  interrupted (Some false) n r old end new d v f = absurd (ran end d.is v f)

  -- which instruction it was
  pub vector-of : (o : Op) (before old : Chip B) (end : StepEnd) (new : Chip B) (v : ℕ) → Does moves word o before old end new → end ≡ Stopped (Sir v) → IsInt v o
  vector-of (op.Move n a p) before old end new v d f = block p (loaded n a old) end new d v f
  vector-of (op.MoveFrom o p) before old end new v d f = moved-by (place_of old.memory old.regs.dsa o 8) p old end new d v f
  vector-of (op.Select o alternate) before old end new v d f =
      by_bool (Stops Iid old end new) (SelectsBy moves word (place_of old.memory old.regs.dsa o 4) alternate old end new) (Silent end) old.regs.con d
      (λ x. iid end x.ends.is) (λ x. selected-by (place_of old.memory old.regs.dsa o 4) alternate old end new x) v f
  vector-of op.WaitDisconnect before old end new v d f = waited d.0 old end new d.2 v f
  vector-of (op.WaitReselect alternate) before old end new v d f =
      by_bool (Stops Iid old end new) (MatchBool old.regs.sigp (Becomes (record old.regs { dsp = alternate }) old end new) ((target : Option ℕ) × moves old.bus (event.Reselect word target) new.bus × ReselectsBy target before old end new))
      (Silent end) old.regs.con d (λ x. iid end x.ends.is)
      (λ x. by_bool (Becomes (record old.regs { dsp = alternate }) old end new) ((target : Option ℕ) × moves old.bus (event.Reselect word target) new.bus × ReselectsBy target before old end new) (Silent end) old.regs.sigp x
      (λ y. ran end y.ends.is) (λ y. reselected-by y.0 before old end new y.2)) v f
  vector-of (op.Set ack atn) before old end new v d f = ran end d.ends.is v f
  vector-of (op.Clear ack atn) before old end new v d f = ran end d.ends.is v f
  vector-of (op.FromSfbr c n r) before old end new v d f = ran end d.ends.is v f
  vector-of (op.ToSfbr r c n) before old end new v d f = ran end d.ends.is v f
  vector-of (op.Modify r c n) before old end new v d f = ran end d.ends.is v f
  vector-of (op.Put n r) before old end new v d f = ran end d.ends.is v f
  vector-of (op.Jump on a) before old end new v d f = transferred d.decision (record old.regs { dsp = a }) old end new d.transfers v f
  vector-of (op.Call on a) before old end new v d f = transferred d.decision (record old.regs { temp = old.regs.dsp; dsp = a }) old end new d.transfers v f
  vector-of (op.Return on) before old end new v d f = transferred d.decision (record old.regs { dsp = old.regs.temp }) old end new d.transfers v f
  vector-of (op.Int on n) before old end new v d f = interrupted d.decision n (stop_with (Sir n) old.regs) old end new d.transfers v f
  vector-of (op.IntFly on) before old end new v d f = transferred d.decision (record old.regs { intf = true }) old end new d.transfers v f
  vector-of op.Nop before old end new v d f = ran end d.ends.is v f
  vector-of (op.MoveMemory n s t) before old end new v d f =
      by_bool (MatchBool (nat_le (s + n) (length old.memory) && nat_le (t + n) (length old.memory)) (Becomes old.regs (record old { memory = copied n old.memory s t }) end new) (Stops Bf old end new)) (Stops Iid old end new) (Silent end) (nat_eq (s % 4) (t % 4)) d
      (λ x. by_bool (Becomes old.regs (record old { memory = copied n old.memory s t }) end new) (Stops Bf old end new) (Silent end) (nat_le (s + n) (length old.memory) && nat_le (t + n) (length old.memory)) x
      (λ y. ran end y.ends.is) (λ y. bf end y.ends.is))
      (λ x. iid end x.ends.is) v f
  vector-of (op.Load r n place) before old end new v d f =
      by_bool (LoadsAt (address_of old.memory old.regs.dsa place n) r n old end new) (Stops Iid old end new) (Silent end) (nat_eq (low_bits old.regs.dsa place) (r % 4)) d
      (λ x. loaded-at (address_of old.memory old.regs.dsa place n) r n old end new x) (λ x. iid end x.ends.is) v f
  vector-of (op.Store r n place) before old end new v d f =
      by_bool (StoresAt (address_of old.memory old.regs.dsa place n) r n old end new) (Stops Iid old end new) (Silent end) (nat_eq (low_bits old.regs.dsa place) (r % 4)) d
      (λ x. stored-at (address_of old.memory old.regs.dsa place n) r n old end new x) (λ x. iid end x.ends.is) v f
