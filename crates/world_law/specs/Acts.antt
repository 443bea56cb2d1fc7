-- The acts: an abort marks its ticket, a device reset goes to FRONT, a bus reset resets the bus (own; the messages ABORT TAG and BUS DEVICE
-- RESET are SCSI-2's).
use Rattle.std.specs.Prelude.{◌≡◌, ℕ, ◌==◌, Bool, true, false, [], ◌∷◌, ◌++◌, Option, Some, None, unwrap_or}
use Rattle.rig_types.specs.declared.acts.Act.{Act}
use Rattle.rig_types.specs.declared.acts.ActKind.{ActKind}
use Rattle.rig_types.specs.declared.acts.ActKind.TheVariants.{Abort, Device, Bus}
use Rattle.chip_regs.specs.Registers.{cause_of}
use Rattle.chip_regs.specs.declared.registers.Cause.{Cause}
use Rattle.chip_regs.specs.declared.registers.Cause.TheVariants.{Rst}
use Rattle.host_map.specs.declared.TheConstants.{FRONT_IDLE}
use Rattle.abort_reset.specs.Patches.{marked, job_at_front}
use Rattle.desk_law.specs.declared.stage.Stage.{Stage}
use Rattle.desk_law.specs.declared.stage.Stage.TheVariants as stage
use Rattle.desk_law.specs.Desk.{aborter, ticket, owed}
use Rattle.world_law.specs.declared.reply.Decided.{Decided}
use Rattle.world_law.specs.declared.reply.Decided.TheVariants as line
use Rattle.world_law.specs.declared.reply.Reply.{Reply}
use Rattle.world_law.specs.declared.reply.Reply.TheVariants as reply
use Rattle.world_law.specs.declared.reply.Stop.{Stop}
use Rattle.world_law.specs.declared.reply.Stop.TheVariants as stop
use Rattle.world_law.specs.World.{World, decided, front}
use Rattle.bus_law.specs.Rooms.{with_room_at}
use Rattle.world_law.specs.Resets.{resets}

-- what an act answers, and the world after it
pub record Acted : Type 0 where
  pub answer : Reply
  pub world : World

-- the next act is decided by this answer
abbrev pub answers : World → Reply → Acted
answers w x = record { answer = x; world = record w { acts = w.acts ++ x ∷ [] } }

-- the act isn't decided, and nothing changes
abbrev pub is_busy : World → Reply → Acted
is_busy w x = record { answer = x; world = w }

-- an abort comes too late once the unit has answered or the ticket has ended
abbrev pub is_late : Stage → Bool
is_late stage.Check = true
is_late stage.Sensing = true
is_late (stage.Ended o) = true
is_late stage.Unlinked = true
is_late stage.Freed = true
is_late _ = false

abbrev pub marks : (late : Bool) → World → ℕ → Acted
marks true w t = answers w reply.TooLate
marks false w t = answers (record w { memory = marked w.memory (ticket w.desk t).block }) reply.Marked

abbrev pub aborts : World → Decided → Acted
aborts w (line.Accepted t) = marks (is_late (ticket w.desk t).stage) w t
aborts w _ = answers w reply.NeverAccepted

-- a device reset goes to FRONT, where that is idle, and a signal is due of the aborter
abbrev pub device_resets : (idle : Bool) → World → ℕ → Acted
device_resets true w target =
    answers
    (record w { memory = job_at_front w.memory target; desk = owed w.desk (aborter w.desk); bus = with_room_at w.bus target })
    reply.Started
device_resets false w target = is_busy w (reply.BusyFront (front w))

-- the bus isn't reset while a mismatch is to be repaired or tickets are to be swept; a stop without a cause reads as a bus reset
abbrev pub cause_at : World → Cause
cause_at w = unwrap_or (cause_of w.regs) Rst

abbrev pub bus_resets : Stop → World → Acted
bus_resets stop.Mismatch w = is_busy w (reply.BusyStop (cause_at w))
bus_resets stop.Clear w = is_busy w (reply.BusyStop (cause_at w))
bus_resets _ w = answers (resets w) reply.Started

abbrev pub acts_by : World → ActKind → Acted
acts_by w (Abort l) = aborts w (decided w l)
acts_by w (Device target) = device_resets (front w == FRONT_IDLE) w target
acts_by w Bus = bus_resets w.stop w

abbrev pub ActsOf : Option Act → World → Reply → World → Type 0
ActsOf None old answer new = ⊥
ActsOf (Some a) old answer new = (answer ≡ (acts_by old a.kind).answer) × (new ≡ (acts_by old a.kind).world)
