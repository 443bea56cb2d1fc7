-- What an instruction writes lies in its place of the footprint.
use Rattle.std.proofs.Common.{ℕ, ℤ, ◌+◌, ◌-◌, ◌≤◌, inl, inr, Bool, true, false, nat_le, Option, Some, None, List, length, subst, arith}
use Rattle.std.specs.Prelude.{if◌then◌else◌}
use Rattle.scripts_ops.specs.declared.values.Address.{Address}
use Rattle.scripts_ops.specs.declared.values.Address.TheVariants.{At, FromDsa}
use Rattle.scripts_ops.specs.declared.values.Op.{Op}
use Rattle.scripts_ops.specs.declared.values.Op.TheVariants as op
use Rattle.chip_step.specs.Event.{Event}
use Rattle.chip_step.specs.Addresses.{address_of}
use Rattle.chip_step.specs.Chip.{Chip}
use Rattle.chip_rows.specs.Touched.{Range, IsIn, Block, block_of, came, is_in, range, range_at, of_block, writes}
use Rattle.chip_rows.specs.Leaving.{ChangesWithin}
use Rattle.chip_rows.proofs.StepWrites.{writes_within}
use Rattle.driver_script.specs.Script.{instruction}
use Rattle.ownership.specs.Footprint.{Place, Nowhere, Fixed, Entry, ranges}
use Rattle.ownership.specs.Steps.{WritesOnly}
use Rattle.ownership.proofs.Instructions.{written_by, stored_at, written_as}
use Rattle.ownership.proofs.Steps.{stands_at}

pub shorter : (a n m x : ℕ) → m ≤ n → IsIn (range a m) x → IsIn (range a n) x
shorter a n m x h (inl i) = inl (i.0, omega (arith, i.1))
shorter a n m x h (inr i) = absurd i

pub in_memory : (b : Bool) (a n x : ℕ) → IsIn (range_at (if b then Some a else None) n) x → IsIn (range a n) x
in_memory true a n x h = h
in_memory false a n x h = absurd h

module _ {B : Type 0} (chip : Chip B) (left x : ℕ) where
  stored : (n : ℕ) (place : Address) → IsIn (range_at (address_of chip.memory chip.regs.dsa place n) n) x → IsIn (ranges (stored_at n place) chip left) x
  stored n (At a) h = in_memory (nat_le (a + n) (length chip.memory)) a n x h
  stored n (FromDsa o) h = h

  moved : (b : Bool) (n a : ℕ) → IsIn (came b left (record { count = n; address = a })) x → IsIn (ranges (if b then Fixed n a else Nowhere) chip left) x
  moved true n a h = shorter a n (n - left) x (omega arith) h
  moved false n a h = h

  nothing : (entry : Option Block) → IsIn (of_block (came false left) entry) x → ⊥
  nothing None h = h
  nothing (Some e) h = h

  moved_from : (b : Bool) (o : ℤ) (phase : ℕ) → IsIn (of_block (came b left) (block_of (op.MoveFrom o phase) chip)) x → IsIn (ranges (if b then Entry o else Nowhere) chip left) x
  moved_from true o phase h = h
  moved_from false o phase h = nothing (block_of (op.MoveFrom o phase) chip) h

  writes_in : (o : Op) → IsIn (writes o chip left) x → IsIn (ranges (written_by o) chip left) x
  writes_in (op.Move n a p) h = moved (is_in p) n a h
  writes_in (op.MoveFrom o p) h = moved_from (is_in p) o p h
  writes_in (op.Select o a) h = h
  writes_in op.WaitDisconnect h = h
  writes_in (op.WaitReselect a) h = h
  writes_in (op.Set ack atn) h = h
  writes_in (op.Clear ack atn) h = h
  writes_in (op.FromSfbr c d r) h = h
  writes_in (op.ToSfbr r c d) h = h
  writes_in (op.Modify r c d) h = h
  writes_in (op.Put d r) h = h
  writes_in (op.Jump on a) h = h
  writes_in (op.Call on a) h = h
  writes_in (op.Return on) h = h
  writes_in (op.Int on v) h = h
  writes_in (op.IntFly on) h = h
  writes_in op.Nop h = h
  writes_in (op.MoveMemory n s t) h = h
  writes_in (op.Load r n place) h = h
  writes_in (op.Store r n place) h = stored n place h

pub wider : (a b : List Range) (old new : List ℕ) → ((x : ℕ) → IsIn a x → IsIn b x) → ChangesWithin a old new → ChangesWithin b old new
wider a b old new sub c = record { size = c.size; others = λ x h. c.others x (λ i. h (sub x i)) }

module _ {B : Type 0} (moves : B → Event → B → Type 0) where
  pub writes_only : WritesOnly moves
  writes_only version k word old end new s r =
      let op : Op = instruction k version in
      let left : ℕ = new.regs.dbc in
      let c = writes_within moves word old end new op (stands_at version k old s) r in
      let d : ChangesWithin (ranges (written_by op) old left) old.memory new.memory =
      wider (writes op old left) (ranges (written_by op) old left) old.memory new.memory (λ x i. writes_in old left x op i) c in
      subst (λ (p : Place). ChangesWithin (ranges p old left) old.memory new.memory) (written_as k version s.inside) d
