-- What stops of the chip the invariant knows, by the stop stage (own).
use Rattle.std.specs.Prelude.{◌≡◌, ◌⊎◌, ℕ, true, false, List, Some}
use Rattle.rig_types.specs.declared.rig.Unit.{Unit as RigUnit}
use Rattle.chip_regs.specs.Registers.{is_stopped, cause_of}
use Rattle.chip_regs.specs.declared.registers.Cause.{Cause}
use Rattle.chip_regs.specs.declared.registers.Cause.TheVariants.{Ma, Sto, Rst, Sir}
use Rattle.world_law.specs.World.{World}
use Rattle.world_law.specs.Stops.{job_done}
use Rattle.world_law.specs.declared.reply.Stop.TheVariants.{Run, Mismatch, Clear, MustReset}
use Rattle.word_owners.specs.Parts.{Counts}
use Rattle.word_owners.specs.Holds.{Spot, Holds}

-- a data move that was repaired, a selection that nobody answered, a bus reset, or a device reset that is done
abbrev pub IsCleared : Cause → Type 0
IsCleared c = (c ≡ Ma) ⊎ (c ≡ Sto) ⊎ (c ≡ Rst) ⊎ (c ≡ Sir job_done)

pub record AreStops (w : World) : Type 0 where
  pub run : w.stop ≡ Run → is_stopped w.regs ≡ false
  pub mismatch : w.stop ≡ Mismatch → cause_of w.regs ≡ Some Ma
  pub clear : w.stop ≡ Clear → (cause : Cause) × (cause_of w.regs ≡ Some cause) × IsCleared cause
  pub reset : w.stop ≡ MustReset → is_stopped w.regs ≡ true

-- a chip that isn't stopped is in no stop stage, and each stop stage has the causes that it is for
abbrev pub StopsAreHandled : Type 0
StopsAreHandled = (version : ℕ) (units : List RigUnit) (s : Spot) (c : Counts) (w : World) → Holds version units s c w → AreStops w
