-- Worked rows: what the definitions of the bench give for small inputs, in numbers that are written out (own).
use Rattle.std.specs.Prelude.{◌≡◌, ℕ, ◌*◌, true, false, Bool, List, [], ◌∷◌, map, replicate, Some, None}
use Rattle.std.specs.List.{range_with_len}
use Rattle.scsi_words.specs.declared.phases.kinds.Direction.{Direction}
use Rattle.scsi_words.specs.declared.phases.kinds.Direction.TheVariants.{In, Out, None as NoData}
use Rattle.bench_words.specs.Memory.{word_at, bytes_at}
use Rattle.rig_types.specs.declared.rig.Unit.{Unit as RigUnit}
use Rattle.rig_types.specs.declared.rig.Pattern.TheVariants.{Zero}
use Rattle.rig_types.specs.declared.commands.Command.{Command}
use Rattle.rig_types.specs.declared.acts.Act.{Act}
use Rattle.rig_types.specs.declared.acts.ActKind.TheVariants.{Abort, Device}
use Rattle.rig_types.specs.declared.report.Outcome.TheVariants.{Done, Cut, NoTarget, Broken}
use Rattle.rig_types.specs.declared.step.Step.{Step}
use Rattle.rig_types.specs.declared.step.Step.TheVariants as step
use Rattle.unit_law.specs.Request.{RequestData}
use Rattle.unit_law.specs.declared.entry.LogEntry.{LogEntry}
use Rattle.unit_law.specs.declared.entry.LogEntry.TheVariants.{Look, End, Clear}
use Rattle.unit_law.specs.Log.{tally}
use Rattle.unit_law.specs.Report.{TicketHistory}
use Rattle.chip_regs.specs.Registers.{cleared}
use Rattle.cmd_block.specs.declared.Field.TheVariants.{Restart, Lastp, State, Status, SegCount, SegAt, CtxCount, CtxAt, CtxReturn}
use Rattle.sense_job.specs.Turning.{with_fields}
use Rattle.cdb_codec.specs.declared.commands.Cdb.TheVariants.{TestUnitReady}
use Rattle.chip_step.specs.declared.scsi_bus.Settled.TheVariants.{Selected, TimedOut}
use Rattle.target_law.specs.declared.task_phase.ReselectByte.TheVariants.{Identify}
use Rattle.target_law.specs.declared.rogue_phase.RoguePhase.TheVariants.{Reselection}
use Rattle.target_law.specs.Session.{Task, began}
use Rattle.target_law.specs.Target.{BusFree, RogueConnected}
use Rattle.target_law.specs.Devices.{DeviceState}
use Rattle.bus_law.specs.Bus.{BusState, device_at, bus_opened}
use Rattle.bus_law.specs.Reselections.{Candidate, all_candidates, candidate_named, device_reselected, can_select, settles}
use Rattle.desk_law.specs.declared.refused.Kind.TheVariants.{NoUnit, CdbLength, TooManySegments, NoSegment, ZeroSegment, TooLarge, Direction as OtherDirection, TooShort}
use Rattle.desk_law.specs.declared.stage.Stage.{Stage}
use Rattle.desk_law.specs.declared.stage.Stage.TheVariants as stage
use Rattle.desk_law.specs.declared.ticket.Ticket.{Ticket}
use Rattle.desk_law.specs.Desk.{DeskState, no_ticket, desk_opened}
use Rattle.desk_law.specs.Rings.{slots_from, waiting_count}
use Rattle.desk_law.specs.Refusals.{kind_of, is_full}
use Rattle.desk_law.specs.Building.{free_block, free_tag}
use Rattle.desk_law.specs.Blocks.{with_block}
use Rattle.desk_law.specs.Taking.{taken}
use Rattle.desk_law.specs.Reporting.{residual_of}
use Rattle.world_law.specs.declared.owner.Owner.TheVariants as owner
use Rattle.world_law.specs.declared.reply.Decided.TheVariants.{Accepted}
use Rattle.world_law.specs.declared.reply.Reply.{Reply}
use Rattle.world_law.specs.declared.reply.Reply.TheVariants as reply
use Rattle.world_law.specs.declared.reply.Stop.TheVariants.{Run, MustReset}
use Rattle.world_law.specs.World.{BenchSetting, World}
use Rattle.world_law.specs.Stops.{in_tail}
use Rattle.world_law.specs.Resets.{resume_at}
use Rattle.world_law.specs.Owners.{owner_of}
use Rattle.run_law.specs.Changes.{Change}
use Rattle.run_law.specs.History.{noted_by, no_history}
use Rattle.run_law.specs.Serial.{next_word, eager, tries_reaper}
use Rattle.run_law.specs.Bound.{bound}

-- ---- requests

-- unit 0.0 of 64 blocks, of which two tickets may live
abbrev pub a_unit : RigUnit
a_unit = record { target = 0; lun = 0; blocks = 64; pattern = Zero; depth = 2; disconnects = 2; refusals = 0; absent = false; rogue = false }

-- READ(10) of block 3, and TEST UNIT READY
abbrev pub read_block : List ℕ
read_block = 0x28 ∷ 0 ∷ 0 ∷ 0 ∷ 0 ∷ 3 ∷ 0 ∷ 0 ∷ 1 ∷ 0 ∷ []

abbrev pub test_ready : List ℕ
test_ready = 0 ∷ 0 ∷ 0 ∷ 0 ∷ 0 ∷ 0 ∷ []

abbrev pub asks : (unit : ℕ) → (cdb segments : List ℕ) → Direction → RequestData
asks unit cdb segments way = record { unit = unit; cdb = cdb; segments = segments; direction = way; bytes = [] }

-- each is wrong in its own way and in all that are tested later, as far as they go together; the last two are right
abbrev pub requests : List RequestData
requests =
    asks 1 (0x28 ∷ []) (replicate 17 0) In ∷ asks 0 (0x28 ∷ 0 ∷ 0 ∷ 0 ∷ 0 ∷ 0 ∷ []) (replicate 17 0) Out ∷ asks 0 read_block (replicate 17 0) Out ∷
    asks 0 read_block [] Out ∷ asks 0 read_block (0 ∷ 131072 ∷ []) Out ∷ asks 0 read_block (65536 ∷ 1 ∷ []) Out ∷ asks 0 read_block (511 ∷ []) Out ∷
    asks 0 test_ready (512 ∷ []) NoData ∷ asks 0 read_block (511 ∷ []) In ∷ asks 0 read_block (512 ∷ []) In ∷ asks 0 test_ready (512 ∷ []) Out ∷ []

abbrev pub RequestRows : Type 0
RequestRows =
    map (kind_of (a_unit ∷ [])) requests
    ≡ (Some NoUnit ∷ Some CdbLength ∷ Some TooManySegments ∷ Some NoSegment ∷ Some ZeroSegment ∷ Some TooLarge ∷ Some OtherDirection ∷
    Some OtherDirection ∷ Some (TooShort 512 511) ∷ None ∷ None ∷ [])

-- ---- tags and blocks

abbrev pub a_desk : (version : ℕ) → List Ticket → DeskState
a_desk version tickets = record (desk_opened version (a_unit ∷ a_unit ∷ []) 1 true 1) { tickets = tickets }

-- seven tickets of unit 1, whose tags are so far apart
abbrev pub seven : (apart : ℕ) → List Ticket
seven apart = map (λ (n : ℕ). record no_ticket { unit = 1; tag = apart * n; stage = stage.Queued }) (range_with_len 0 7)

abbrev pub with_block_at : ℕ → Stage → Ticket
with_block_at block s = record no_ticket { block = block; stage = s }

-- the eighth ticket of a unit, and a block that was freed between two that weren't; two live tickets are all that a unit of depth 2 has
abbrev pub TagRows : Type 0
TagRows =
    (free_tag (a_desk 2 (seven 1)) 1 ≡ 7) × (free_tag (a_desk 1 (seven 4)) 1 ≡ 28) × (free_tag (a_desk 1 (seven 4)) 0 ≡ 0)
    × (free_block (a_desk 1 (with_block_at 0x10000 stage.Built ∷ with_block_at 0x10200 stage.Freed ∷ with_block_at 0x10400 stage.Unlinked ∷ [])) ≡ 0x10200)
    × (is_full (a_desk 1 (with_block_at 0x10000 stage.Built ∷ with_block_at 0x10200 stage.Freed ∷ [])) 0 ≡ false)
    × (is_full (a_desk 1 (with_block_at 0x10000 stage.Built ∷ with_block_at 0x10200 stage.Unlinked ∷ [])) 0 ≡ true)

-- ---- the block

-- a block at 0, in memory of 512 bytes, of a READ(10) with one segment of 512 bytes
abbrev pub a_ticket : Ticket
a_ticket = record no_ticket { direction = In; pieces = record { chunk = record { base = 0x200000; size = 512 }; len = 512 } ∷ []; stage = stage.Built }

abbrev pub a_block : List ℕ
a_block = with_block (replicate 512 0xEE) a_unit a_ticket read_block

abbrev pub words_of : List ℕ → List ℕ → List ℕ
words_of memory places = map (word_at memory) places

-- the fields of the head in their order, segments 14 and 15, context 0; then the message and the command
abbrev pub BlockRows : Type 0
BlockRows =
    (words_of a_block (0x00 ∷ 0x04 ∷ 0x08 ∷ 0x0C ∷ 0x10 ∷ 0x14 ∷ 0x18 ∷ 0x1C ∷ 0x20 ∷ 0x24 ∷ 0x28 ∷ 0x2C ∷ 0x30 ∷ 0x34 ∷ 0xB0 ∷ 0xB8 ∷ 0xBC ∷ 0xC0 ∷ [])
    ≡ (0x60 ∷ 0x128 ∷ 0x338 ∷ 0x338 ∷ 0 ∷ 0xFF ∷ 0 ∷ 0x1C0 ∷ 3 ∷ 0xE0 ∷ 10 ∷ 0xF0 ∷ 1 ∷ 0x14 ∷ 0 ∷ 512 ∷ 0x200000 ∷ 0 ∷ []))
    × (bytes_at a_block 0xE0 4 ≡ (0xC0 ∷ 0x20 ∷ 0 ∷ 0 ∷ [])) × (bytes_at a_block 0xF0 11 ≡ (0x28 ∷ 0 ∷ 0 ∷ 0 ∷ 0 ∷ 3 ∷ 0 ∷ 0 ∷ 1 ∷ 0 ∷ 0 ∷ []))

-- ---- TakeDone and the report

abbrev pub ended_block : (state status restart : ℕ) → List ℕ
ended_block state status restart = with_fields (replicate 512 0) 0 ((State, state) ∷ (Status, status) ∷ (Restart, restart) ∷ [])

-- the stage after it, of a ticket that was queued so often, with one retry
abbrev pub stage_after : Stage → (tries state status restart : ℕ) → Stage
stage_after s tries state status restart =
    (taken (a_desk 1 []) (ended_block state status restart) (record a_ticket { stage = s; tries = tries })).stage

-- QUEUE FULL and BUSY with and without a try left; GOOD; CHECK CONDITION without and with an abort; no status; cut and no target; and a
-- REQUEST SENSE that was refused
abbrev pub TakingRows : Type 0
TakingRows =
    (stage_after stage.Queued 1 1 0x28 0x128 ≡ stage.Again) × (stage_after stage.Queued 2 1 0x28 0x128 ≡ stage.Ended Done)
    × (stage_after stage.Queued 1 1 0x08 0x128 ≡ stage.Again) × (stage_after stage.Queued 1 1 0x00 0x128 ≡ stage.Ended Done)
    × (stage_after stage.Queued 1 1 0x02 0x128 ≡ stage.Check) × (stage_after stage.Queued 1 1 0x02 0x278 ≡ stage.Ended Done)
    × (stage_after stage.Queued 1 1 0xFF 0x128 ≡ stage.Ended Broken) × (stage_after stage.Queued 1 2 0x28 0x128 ≡ stage.Ended Cut)
    × (stage_after stage.Queued 1 3 0xFF 0x128 ≡ stage.Ended NoTarget) × (stage_after stage.Sensing 1 1 0x08 0x128 ≡ stage.Ended Done)

-- segments of 100, 300 and 112 bytes, of which 60 were moved before the rest of the first became context 0
abbrev pub broken_off : (lastp : ℕ) → List ℕ
broken_off lastp =
    with_fields (replicate 512 0) 0 ((SegCount 13, 100) ∷ (SegAt 13, 0x200000) ∷ (SegCount 14, 300) ∷ (SegAt 14, 0x200200) ∷ (SegCount 15, 112) ∷ (SegAt 15, 0x200400) ∷
    (CtxCount 0, 40) ∷ (CtxAt 0, 0x20003C) ∷ (CtxReturn 0, 0x330) ∷ (Lastp, lastp) ∷ [])

-- nothing moved, 60 bytes moved, all moved, by the data pointer; and all of the buffer where the status isn't GOOD
abbrev pub ResidualRows : Type 0
ResidualRows =
    (residual_of 0x00 (broken_off 0x328) a_ticket ≡ 512) × (residual_of 0x00 (broken_off 0x3E0) a_ticket ≡ 452)
    × (residual_of 0x00 (broken_off 0x2B8) a_ticket ≡ 0) × (residual_of 0x02 (broken_off 0x2B8) a_ticket ≡ 512)

-- ---- the start ring and the tail

-- slots that wait, once across the ring's end, none where RINGP is no slot
abbrev pub RingRows : Type 0
RingRows =
    (waiting_count 0x2000 0x2010 ≡ 2) × (waiting_count 0x2FF8 0x2008 ≡ 2) × (waiting_count 0x2008 0x2000 ≡ 511) × (waiting_count 0x2010 0x2010 ≡ 0)
    × (waiting_count 0x2004 0x2010 ≡ 0) × (waiting_count 0x3000 0x2010 ≡ 0) × (slots_from 3 0x2FF0 ≡ (0x2FF0 ∷ 0x2FF8 ∷ 0x2000 ∷ []))

-- the first and the last address of the tail with their neighbours, and DROPPED; where the chip goes on after a bus reset
abbrev pub TailRows : Type 0
TailRows =
    (map in_tail (0x1C8 ∷ 0x1D0 ∷ 0x270 ∷ 0x278 ∷ 0x288 ∷ 0x290 ∷ 0x298 ∷ []) ≡ (false ∷ true ∷ true ∷ false ∷ false ∷ true ∷ false ∷ []))
    × (resume_at Run 0x1F0 ≡ Some 0x1F0) × (resume_at Run 0x090 ≡ None) × (resume_at MustReset 0x1F0 ≡ None)

-- ---- owners

-- a rig with one unit, with one live ticket and one that is freed
abbrev pub owned_desk : DeskState
owned_desk = record (desk_opened 1 (a_unit ∷ []) 1 true 1) { tickets = with_block_at 0x10000 stage.Freed ∷ record a_ticket { block = 0x10200 } ∷ [] }

-- by pairs: the first and the last word of the script's page, of the control words, of the rings, of the table of unit 0, and what follows
-- it; of the chains, and what follows them; a freed block, a live one, and the next; a chunk, and what follows it
abbrev pub OwnerRows : Type 0
OwnerRows =
    map (owner_of owned_desk)
    (0x0000 ∷ 0x0FFC ∷ 0x1000 ∷ 0x1FFC ∷ 0x2000 ∷ 0x2FFC ∷ 0x3000 ∷ 0x3FFC ∷ 0x4000 ∷ 0x43FC ∷ 0x4400 ∷ 0x7FFC ∷ 0x8000 ∷ 0x8FFC ∷ 0x9000 ∷ 0x10000 ∷ 0x10200 ∷ 0x103FC ∷
    0x10400 ∷ 0x200000 ∷ 0x2001FC ∷ 0x200200 ∷ [])
    ≡ (owner.Program ∷ owner.Program ∷ owner.Control ∷ owner.Control ∷ owner.StartRing ∷ owner.StartRing ∷ owner.DoneRing ∷ owner.DoneRing ∷ owner.Table 0 ∷ owner.Table 0 ∷
    owner.Free ∷ owner.Free ∷ owner.Program ∷ owner.Program ∷ owner.Free ∷ owner.Free ∷ owner.Block 1 ∷ owner.Block 1 ∷ owner.Free ∷ owner.Chunk 1 ∷ owner.Chunk 1 ∷ owner.Free ∷ [])

-- ---- the serial run

-- the words of the first four rounds, from seed 0
abbrev pub WordRows : Type 0
WordRows =
    (eager (next_word 0) ≡ 0xBC6EF35F) × (eager (next_word (next_word 0)) ≡ 0xC7502932) × (eager (next_word (next_word (next_word 0))) ≡ 0xD1CCF6E9)
    × (eager (next_word (next_word (next_word (next_word 0)))) ≡ 0xAAF95334)

-- a world in which the chip runs and these tickets stand
abbrev pub a_world : List Ticket → World
a_world tickets = record {
  memory = [];
  regs = cleared;
  bus = bus_opened [];
  desk = a_desk 1 tickets;
  stop = Run;
  resume = None;
  lines = [];
  acts = [];
  reports = [];
}

abbrev pub of_stages : List Stage → List Ticket
of_stages ss = map (λ (s : Stage). record no_ticket { stage = s }) ss

-- what the reaper tries, in its order: of each stage the least ticket
abbrev pub ReaperRow : Type 0
ReaperRow =
    tries_reaper (a_world (of_stages (stage.Freed ∷ stage.Ended Done ∷ stage.Unlinked ∷ stage.Check ∷ stage.Again ∷ stage.Again ∷ stage.Ended Cut ∷ [])))
    ≡ (step.Fix ∷ step.ResetBus ∷ step.Restart ∷ step.Signal ∷ step.Queue 4 ∷ step.Sense 3 ∷ step.Free 2 ∷ step.Unlink 1 ∷ step.TakeDone ∷ [])

-- ---- the bound

abbrev pub a_setting : (retries : ℕ) → (autosense : Bool) → List (List Command) → List Act → BenchSetting
a_setting retries autosense submitters acts = record {
  version = 1;
  units = a_unit ∷ record a_unit { disconnects = 1 } ∷ [];
  retries = retries;
  step_limit = 1048576;
  autosense = autosense;
  submitters = submitters;
  acts = acts;
}

abbrev pub three_acts : List Act
three_acts =
    record { kind = Abort (record { submitter = 0; number = 0 }); after = 0 } ∷ record { kind = Abort (record { submitter = 1; number = 0 }); after = 0 } ∷
    record { kind = Device 0; after = 5 } ∷ []

-- one command; forty with two aborts and a device reset, without and with autosense
abbrev pub BoundRows : Type 0
BoundRows =
    (c : Command) → (bound (a_setting 3 false ((c ∷ []) ∷ []) []) ≡ 4352) × (bound (a_setting 3 false (replicate 4 (replicate 10 c)) three_acts) ≡ 165888)
    × (bound (a_setting 3 true (replicate 4 (replicate 10 c)) three_acts) ≡ 176128)

-- ---- the history of a ticket

-- a step in a world whose one ticket, of line 0.0, is at this stage and was queued once
abbrev pub change_by : Stage → Step → Reply → Change
change_by s x answer =
    let w : World = record (a_world (record a_ticket { stage = s; tries = 1 } ∷ [])) { lines = (Accepted 0 ∷ []) ∷ [] } in
    record { before = w; moment = record { entry = record { caller = 0; step = x }; reply = answer; after = w } }

abbrev pub row_setting : BenchSetting
row_setting = a_setting 3 false [] three_acts

abbrev pub none_noted : TicketHistory
none_noted = no_history row_setting

-- what is noted of ticket 0, where the log of its unit was this one and then that one
abbrev pub noted_of : Change → (before after : List LogEntry) → TicketHistory → TicketHistory
noted_of c before after h = noted_by row_setting 0 0 (tally 0 before) (tally 0 after) h c

-- an abort marks, and the mark stays; a Clear counts while the ticket is under way; a bus reset counts between End and Free, and causes its
-- Clear; an entry of a freed ticket is outside its life, and a Clear without a reset is uncaused
abbrev pub HistoryRows : Type 0
HistoryRows =
    (noted_of (change_by stage.Queued (step.Act 0) reply.Marked) [] [] none_noted ≡ record none_noted { marked = true })
    × (noted_of (change_by stage.Queued (step.Act 0) reply.TooLate) [] [] none_noted ≡ none_noted)
    × (noted_of (change_by stage.Queued (step.Act 1) reply.Marked) [] [] none_noted ≡ none_noted)
    × (noted_of (change_by stage.Queued step.Signal reply.Made) [] [] (record none_noted { marked = true }) ≡ record none_noted { marked = true })
    × (noted_of (change_by stage.Queued step.ResetBus reply.Started) [] (Clear ∷ []) none_noted ≡ record none_noted { clears = 1 })
    × (noted_of (change_by stage.Queued step.ResetBus reply.Started) (End 0 ∷ []) (End 0 ∷ Clear ∷ []) none_noted ≡ record none_noted { clears = 1; bus_reset = true })
    × (noted_of (change_by stage.Freed step.ResetBus reply.Started) (End 0 ∷ []) (End 0 ∷ Clear ∷ []) none_noted ≡ none_noted)
    × (noted_of (change_by stage.Freed (step.Chip 0) reply.Made) (Look 1 ∷ []) (Look 1 ∷ Look 0 ∷ []) none_noted ≡ record none_noted { outside = 1 })
    × (noted_of (change_by stage.Queued (step.Chip 0) reply.Made) [] (Look 0 ∷ []) none_noted ≡ none_noted)
    × (noted_of (change_by stage.Queued (step.Chip 0) reply.Made) [] (Clear ∷ []) none_noted ≡ record none_noted { clears = 1; uncaused_clears = 1 })

-- ---- reselection and selection

-- a target with one unit, of LUN 0
abbrev pub device_with : RigUnit → List Task → DeviceState
device_with r tasks = record {
  target = record { units = Some (record { rig = r; plain = record { disk = []; sense = None; attention = false }; log = []; tasks = tasks }) ∷ []; link = BusFree };
  rooms = [];
}

-- unit 1.0 breaks the rules and stands first in the rig, unit 0.0 has two tasks that aren't connected; the other targets have no unit
abbrev pub two_units : List RigUnit
two_units = record a_unit { target = 1; rogue = true } ∷ a_unit ∷ []

abbrev pub tagged : ℕ → Task
tagged tag = began tag 0 TestUnitReady 2 false

abbrev pub a_bus : BusState
a_bus = record {
  devices = device_with a_unit (tagged 4 ∷ tagged 8 ∷ []) ∷ device_with (record a_unit { target = 1; rogue = true }) [] ∷ [];
  connected = None;
  atn = false;
  ack = false;
  asked = None;
}

abbrev pub nth : (target number : ℕ) → Candidate
nth target number = record { target = target; lun = 0; number = number }

-- The candidates in their order, and which one a word names: none without bit 31. A unit that breaks the rules has the tag that the word says. A
-- target without units isn't selected, and a selection loses to a reselection.
abbrev pub CandidateRows : Type 0
CandidateRows =
    (all_candidates two_units a_bus ≡ (nth 1 0 ∷ nth 0 0 ∷ nth 0 1 ∷ [])) × (candidate_named two_units a_bus 0x80000002 ≡ Some (nth 0 1))
    × (candidate_named two_units a_bus 0x80000003 ≡ Some (nth 1 0)) × (candidate_named two_units a_bus 0x7F000002 ≡ None)
    × (candidate_named two_units (record a_bus { connected = Some 0 }) 0x80000002 ≡ None)
    × ((device_reselected (device_at a_bus 1) 0x80001200 (nth 1 0)).target.link ≡ RogueConnected (Reselection Identify false) (Some (record { lun = 0; tag = 0x12 })))
    × (settles None (can_select a_bus 0) ≡ Selected) × (settles None (can_select a_bus 5) ≡ TimedOut)
