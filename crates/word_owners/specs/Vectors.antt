-- With which vectors the chip stops, and when it overruns, in every world of a run.
use Rattle.std.specs.Prelude.{◌≡◌, ◌≢◌, ◌⊎◌, ℕ, ◌<◌, ◌≤◌, List, Some, None}
use Rattle.chip_regs.specs.declared.registers.Cause.TheVariants.{Sir}
use Rattle.chip_step.specs.declared.outcome.StepEnd.TheVariants.{Stopped}
use Rattle.driver_script.specs.Script.{label_of}
use Rattle.driver_script.specs.declared.labels.Name.TheVariants as label
use Rattle.world_law.specs.ChipSteps.{RunsChip}
use Rattle.world_law.specs.Opening.{opened}
use Rattle.world_law.specs.Runs.{Moment, IsRun, last}
use Rattle.world_law.specs.World.{BenchSetting, IsBenchSetting, World}
use Rattle.world_law.specs.declared.reply.Reply.{Reply}
use Rattle.world_law.specs.declared.reply.Stop.TheVariants.{Run}
use Rattle.word_owners.specs.StopCauses.{AreStops}
use Rattle.word_owners.specs.Tickets.{tickets_of, block_of, target_of, IsActive}
use Rattle.word_owners.specs.Worlds.{HasBytes}

-- the vectors of the script and of the chains: from 1 to 0x0A, but 7, which only the straight script has, and 6 for an overrun
abbrev pub IsVector : ℕ → Type 0
IsVector v = (0 < v) × (v ≤ 0x0A) × (v ≢ 7)

abbrev pub overrun : ℕ
overrun = 6

-- DSP is OVER and DSA the block of a ticket that is with the chip, and no other target than its unit's is connected
pub record IsOver (w : World) : Type 0 where
  pub at : w.regs.dsp ≡ label_of label.Over
  pub number : ℕ
  pub active : IsActive ((tickets_of w.desk).stage number)
  pub dsa : w.regs.dsa ≡ block_of (tickets_of w.desk) number
  pub linked : (w.bus.connected ≡ Some (target_of (tickets_of w.desk) number)) ⊎ (w.bus.connected ≡ None)

-- the second instruction of DATA, which goes to the data pointer that the first one has loaded
abbrev pub at_return : ℕ
at_return = 0x0C0

-- Each stop stage has the causes that it is for. A step that INT stops has such a vector, and 6 exactly at OVER. The chip comes to OVER only by DATA's
-- RETURN, where the data pointer in TEMP is OVER: the target has shown a data phase though the pointer denotes no byte.
pub record TellsVectors (w : World) : Type 0 where
  pub stops : AreStops w
  pub vectors : (new : World) (word : ℕ) (answer : Reply) (v : ℕ) → w.stop ≡ Run → (run : RunsChip w word answer new) → run.end ≡ Stopped (Sir v) → IsVector v
  pub at_over : (new : World) (word : ℕ) (answer : Reply) → w.stop ≡ Run → (run : RunsChip w word answer new) → run.end ≡ Stopped (Sir overrun) → IsOver w
  pub over : (new : World) (word : ℕ) (answer : Reply) → w.stop ≡ Run → (run : RunsChip w word answer new) → w.regs.dsp ≡ label_of label.Over → run.end ≡ Stopped (Sir overrun)
  pub comes : (new : World) (word : ℕ) (answer : Reply) → w.stop ≡ Run → RunsChip w word answer new → new.regs.dsp ≡ label_of label.Over → new.stop ≡ Run
      → (w.regs.dsp ≡ at_return) × (w.regs.temp ≡ label_of label.Over)

-- in every world of every run
abbrev pub VectorsAreTold : Type 0
VectorsAreTold = (g : BenchSetting) → IsBenchSetting g → HasBytes g → (moments : List Moment) → IsRun g (opened g) moments → TellsVectors (last (opened g) moments)
