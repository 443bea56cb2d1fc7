-- A step of the chip in the world, and the stop stage to which a stop of the chip leads (own).
use Rattle.std.specs.Prelude.{◌≡◌, ℕ, ◌==◌, if◌then◌else◌}
use Rattle.chip_regs.specs.declared.registers.Cause.{Cause}
use Rattle.chip_regs.specs.declared.registers.Cause.TheVariants.{Sir, Iid, Bf, Ma, Udc, Rst, Sto}
use Rattle.chip_step.specs.Chip.{Chip, state}
use Rattle.chip_step.specs.Step.{ChipStep}
use Rattle.chip_step.specs.declared.outcome.StepEnd.{StepEnd}
use Rattle.chip_step.specs.declared.outcome.StepEnd.TheVariants.{Idle, Stopped}
use Rattle.bus_law.specs.Bus.{BusState}
use Rattle.bus_law.specs.Moves.{moves}
use Rattle.world_law.specs.declared.reply.Reply.{Reply}
use Rattle.world_law.specs.declared.reply.Reply.TheVariants as reply
use Rattle.world_law.specs.declared.reply.Stop.{Stop}
use Rattle.world_law.specs.declared.reply.Stop.TheVariants as stop
use Rattle.world_law.specs.World.{World, live}
use Rattle.world_law.specs.Stops.{job_done}

abbrev pub chip_of : World → Chip BusState
chip_of w = state w.memory w.regs w.bus

-- A phase mismatch can be repaired. A selection that timed out and the end of a device reset leave tickets to sweep. After any other stop the
-- bus is to be reset.
abbrev pub stop_for : Cause → Stop
stop_for Ma = stop.Mismatch
stop_for Sto = stop.Clear
stop_for (Sir vector) = if vector == job_done then stop.Clear else stop.MustReset
stop_for Iid = stop.MustReset
stop_for Bf = stop.MustReset
stop_for Udc = stop.MustReset
stop_for Rst = stop.MustReset

abbrev pub stop_after : StepEnd → Stop → Stop
stop_after (Stopped cause) old = stop_for cause
stop_after _ old = old

abbrev pub after_chip : World → StepEnd → Chip BusState → World
after_chip w end c = record w { memory = c.memory; regs = c.regs; bus = c.bus; stop = stop_after end w.stop }

abbrev pub reply_for : StepEnd → Reply
reply_for Idle = reply.Idle
reply_for _ = reply.Made

-- the chip makes a step with this word, over the bus of the rig with the desk's live tickets
pub record RunsChip (old : World) (word : ℕ) (answer : Reply) (new : World) : Type 0 where
  pub end : StepEnd
  pub chip : Chip BusState
  pub ran : ChipStep (moves old.desk.units (live old.desk)) word (chip_of old) end chip
  pub answer_is : answer ≡ reply_for end
  pub world : new ≡ after_chip old end chip
