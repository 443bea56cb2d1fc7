-- Which tickets are to be swept while a stop waits, and whether the done slot has one to take (own).
use Rattle.std.specs.Prelude.{ℕ, ◌/◌, ◌==◌, ◌&&◌, ◌||◌, nat_le, not, Bool, true, false, position, Option, Some, None}
use Rattle.chip_regs.specs.Registers.{cause_of}
use Rattle.chip_regs.specs.declared.registers.Cause.{Cause}
use Rattle.chip_regs.specs.declared.registers.Cause.TheVariants.{Sir, Rst}
use Rattle.host_map.specs.declared.TheConstants.{JOB}
use Rattle.cmd_block.specs.Block.{field_of}
use Rattle.cmd_block.specs.declared.Field.TheVariants.{Sel}
use Rattle.cmd_block.specs.declared.TheConstants.{LIVE, ENDED, NO_TARGET}
use Rattle.driver_script.specs.Script.{label_of}
use Rattle.driver_script.specs.declared.labels.Name.TheVariants as label
use Rattle.desk_law.specs.declared.ticket.Ticket.{Ticket}
use Rattle.desk_law.specs.Desk.{ticket, unit, is_sensing, is_queued}
use Rattle.desk_law.specs.Rings.{passed, done_ticket}
use Rattle.desk_law.specs.Taking.{state_of}
use Rattle.world_law.specs.declared.reply.Stop.{Stop}
use Rattle.world_law.specs.declared.reply.Stop.TheVariants.{Clear}
use Rattle.world_law.specs.World.{World}

-- ---- the tail of the script, where an ended block goes to the done ring

abbrev pub last_of_tail : ℕ
last_of_tail = 0x270

abbrev pub in_tail : ℕ → Bool
in_tail dsp = (nat_le (label_of label.Tail) dsp && nat_le dsp last_of_tail) || dsp == label_of label.Dropped

abbrev pub resumes_in_tail : Option ℕ → Bool
resumes_in_tail None = false
resumes_in_tail (Some dsp) = in_tail dsp

-- the tail's block is that at DSA, where the chip is to go on in the tail
abbrev pub is_tails : World → Ticket → Bool
is_tails w k = resumes_in_tail w.resume && w.regs.dsa == k.block

-- ---- what a reset loses

-- the target of the device reset, in bits 23 to 16 of the JOB's SEL
abbrev pub job_target : World → ℕ
job_target w = field_of w.memory JOB Sel / 0x10000

-- the vector with which the script ends a device reset
abbrev pub job_done : ℕ
job_done = 5

-- a bus reset loses what is passed and what senses; a device reset what is passed and of its target
abbrev pub loses : World → Ticket → Option Cause → Bool
loses w k (Some Rst) = passed w.memory w.desk k || is_sensing k.stage
loses w k (Some (Sir vector)) = vector == job_done && (passed w.memory w.desk k && (unit w.desk k.unit).target == job_target w)
loses w k _ = false

abbrev pub is_clear : Stop → Bool
is_clear Clear = true
is_clear _ = false

-- a ticket is to be swept where the reset loses it, the script hasn't ended it, and it isn't the tail's
abbrev pub to_sweep : World → Ticket → Bool
to_sweep w k = is_clear w.stop && (state_of w.memory k == LIVE && (not (is_tails w k) && loses w k (cause_of w.regs)))

-- the least of them
abbrev pub sweep : World → Option ℕ
sweep w = position (to_sweep w) w.desk.tickets

-- ---- the done ring

-- a ticket to take is Queued or Sensing, and the script has ended it: STATE is 1, 2 or 3
abbrev pub is_ended_by_script : World → Ticket → Bool
is_ended_by_script w k = (is_queued k.stage || is_sensing k.stage) && (nat_le ENDED (state_of w.memory k) && nat_le (state_of w.memory k) NO_TARGET)

abbrev pub is_done_by : World → Option ℕ → Bool
is_done_by w None = false
is_done_by w (Some t) = is_ended_by_script w (ticket w.desk t)

abbrev pub is_done : World → Bool
is_done w = is_done_by w (done_ticket w.memory w.desk)
