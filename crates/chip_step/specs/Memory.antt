-- LOAD, STORE and MOVE MEMORY.
use Rattle.std.specs.Prelude.{ℕ, zero, suc, ◌+◌, ◌%◌, nat_eq, nat_le, ◌&&◌, Option, Some, None, List, length, slice_index, slice_set, MatchBool}
use Rattle.scripts_ops.specs.declared.values.Address.{Address}
use Rattle.chip_regs.specs.Registers.{byte_at, written}
use Rattle.chip_regs.specs.declared.registers.Regs.{Regs}
use Rattle.chip_regs.specs.declared.registers.Cause.TheVariants.{Iid, Bf}
use Rattle.chip_step.specs.Chip.{Chip, Becomes, Stops}
use Rattle.chip_step.specs.Addresses.{address_of, low_bits}
use Rattle.chip_step.specs.declared.outcome.StepEnd.{StepEnd}

-- so many bytes of memory into a register, byte by byte
abbrev pub filled : ℕ → ℕ → List ℕ → ℕ → Regs → Regs
filled zero r memory a regs = regs
filled (suc n) r memory a regs = filled n (r + 1) memory (a + 1) (written r (slice_index memory a) regs)

-- so many bytes of a register into memory
abbrev pub stored : ℕ → ℕ → List ℕ → ℕ → Regs → List ℕ
stored zero r memory a regs = memory
stored (suc n) r memory a regs = stored n (r + 1) (slice_set memory a (byte_at r regs)) (a + 1) regs

-- so many bytes within memory upwards, byte by byte: a byte that was copied is read again where the ranges overlap
abbrev pub copied : ℕ → List ℕ → ℕ → ℕ → List ℕ
copied zero memory s t = memory
copied (suc n) memory s t = copied n (slice_set memory t (slice_index memory s)) (s + 1) (t + 1)

module _ {B : Type 0} where
  -- LOAD and STORE: low two bits that differ from the register's are IID, and then a range outside memory BF
  abbrev pub LoadsAt : Option ℕ → ℕ → ℕ → Chip B → StepEnd → Chip B → Type 0
  LoadsAt None r n old end new = Stops Bf old end new
  LoadsAt (Some a) r n old end new = Becomes (filled n r old.memory a old.regs) old end new

  abbrev pub Loads : ℕ → ℕ → Address → Chip B → StepEnd → Chip B → Type 0
  Loads r n place old end new =
      MatchBool (nat_eq (low_bits old.regs.dsa place) (r % 4))
      (LoadsAt (address_of old.memory old.regs.dsa place n) r n old end new)
      (Stops Iid old end new)

  abbrev pub StoresAt : Option ℕ → ℕ → ℕ → Chip B → StepEnd → Chip B → Type 0
  StoresAt None r n old end new = Stops Bf old end new
  StoresAt (Some a) r n old end new =
      Becomes old.regs (record old { memory = stored n r old.memory a old.regs }) end new

  abbrev pub Stores : ℕ → ℕ → Address → Chip B → StepEnd → Chip B → Type 0
  Stores r n place old end new =
      MatchBool (nat_eq (low_bits old.regs.dsa place) (r % 4))
      (StoresAt (address_of old.memory old.regs.dsa place n) r n old end new)
      (Stops Iid old end new)

  -- MOVE MEMORY: low two bits that differ are IID, a range outside memory is BF, and neither copies anything
  abbrev pub Copies : ℕ → ℕ → ℕ → Chip B → StepEnd → Chip B → Type 0
  Copies n s t old end new =
      MatchBool (nat_eq (s % 4) (t % 4))
      (MatchBool (nat_le (s + n) (length old.memory) && nat_le (t + n) (length old.memory))
      (Becomes old.regs (record old { memory = copied n old.memory s t }) end new)
      (Stops Bf old end new))
      (Stops Iid old end new)
