-- What the message and the command of a live ticket's block are, in every world of a run. Source: own; the messages are SCSI-2's, 6.6.7 IDENTIFY
-- and 6.6.17.3 SIMPLE QUEUE TAG, and the command of a sense its 8.2.14.
use Rattle.std.specs.Prelude.{◌≡◌, ℕ, ◌+◌, Bool, true, false, List, length, Some}
use Rattle.bench_words.specs.Memory.{bytes_at}
use Rattle.rig_types.specs.declared.rig.Unit.{Unit as RigUnit}
use Rattle.cmd_block.specs.Block.{field_of}
use Rattle.cmd_block.specs.declared.Field.TheVariants.{CmdCount}
use Rattle.cmd_block.specs.declared.TheConstants.{MESSAGE, CDB}
use Rattle.sense_job.specs.Turning.{request_sense}
use Rattle.desk_law.specs.declared.ticket.Ticket.{Ticket}
use Rattle.desk_law.specs.Blocks.{message_bytes}
use Rattle.desk_law.specs.Desk.{ticket, unit, lives}
use Rattle.unit_law.specs.Request.{RequestData}
use Rattle.world_law.specs.Opening.{opened}
use Rattle.world_law.specs.Runs.{Moment, IsRun, last}
use Rattle.world_law.specs.World.{BenchSetting, IsBenchSetting, World, request_at}
use Rattle.word_owners.specs.Tickets.{fixed_of}
use Rattle.word_owners.specs.Worlds.{HasBytes}

-- the block has the message of its ticket, and this command with its length
pub record HasCommand (m : List ℕ) (u : RigUnit) (k : Ticket) (cdb : List ℕ) : Type 0 where
  pub message : bytes_at m (k.block + MESSAGE) 3 ≡ message_bytes u k
  pub count : field_of m k.block CmdCount ≡ length cdb
  pub command : bytes_at m (k.block + CDB) (length cdb) ≡ cdb

-- the command of the request, and from the Sense of the ticket on REQUEST SENSE
abbrev pub command_by : (turned : Bool) → RequestData → List ℕ
command_by true r = request_sense
command_by false r = r.cdb

abbrev pub HasItsCommand : BenchSetting → World → ℕ → Type 0
HasItsCommand g w t =
    (r : RequestData) → request_at g (ticket w.desk t).line ≡ Some r → HasCommand w.memory (unit w.desk (ticket w.desk t).unit) (ticket w.desk t) (command_by (fixed_of (ticket w.desk t)).turned r)

-- so it is of each live ticket in every world of every run
abbrev pub CommandsAreTold : Type 0
CommandsAreTold =
    (g : BenchSetting) → IsBenchSetting g → HasBytes g → (ms : List Moment) → IsRun g (opened g) ms → (t : ℕ) → lives (ticket (last (opened g) ms).desk t) ≡ true → HasItsCommand g (last (opened g) ms) t
