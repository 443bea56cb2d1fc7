-- What holds of the ticket, the unit or the target that the chip works on (own).
use Rattle.std.specs.Prelude.{◌≡◌, ◌⊎◌, ℕ, true, ◌+◌, ◌%◌, ◌<◌, ◌≤◌, length, slice_index_or, Option, Some, None}
use Rattle.host_map.specs.declared.TheConstants.{CUR}
use Rattle.host_map.specs.Places.{start_slot, done_slot, table_at, tag_entry, IsCommandBlock}
use Rattle.cmd_block.specs.declared.Field.TheVariants.{Gate}
use Rattle.cmd_block.specs.declared.TheConstants.{ENDED, NO_TARGET}
use Rattle.driver_script.specs.Script.{label_of}
use Rattle.driver_script.specs.declared.labels.Name.TheVariants as label
use Rattle.rig_chains.specs.Chains.{has_target, target_ops, lun_ops}
use Rattle.phase_fix.specs.Remain.{field, segments_from}
use Rattle.chip_regs.specs.declared.registers.Regs.{Regs}
use Rattle.desk_law.specs.Desk.{no_unit}
use Rattle.word_owners.specs.Tickets.{Tickets, block_of, target_of, goal, way, IsLive}
use Rattle.word_owners.specs.Pointers.{IsSuffix, IsPointer, Names, AreFilled, IsWay, move_place}
use Rattle.word_owners.specs.Points.{Work, Head, Entering, Selected, Front, Begun, Ending, Carrying, Moving, Behind, Returning, Naming, ChoosingTarget, Finding, Listed, Tagged, InTable, Offset, Candidate, Over, Saved, Value, Number, OwnBlock, ThisStart, NextStart, NextDone, LastDone, Table, TagEntry, Held}
use Rattle.word_owners.specs.Parts.{Counts, Waits, IsBegun, IsOver, Asks, NotStarting, NotEntered, MayWork, IsThere, Queues}

-- ---- the ticket at work

-- it is the first of the start ring, is at FRONT, may be worked on, is to end, or is over
pub data Role : Type 0 where
  Nothing : Role
  First : ℕ → Role
  Asked : ℕ → Role
  Working : ℕ → Role
  Closing : ℕ → Role
  Done : ℕ → Role

abbrev pub role : Work → Role
role (Head t) = First t
role (Entering t a) = First t
role (Selected t) = First t
role (Front t) = Asked t
role (Begun t) = Working t
role (Ending t v) = Closing t
role (Carrying t p) = Working t
role (Moving t x) = Working t
role (Behind t phase j) = Working t
role (Returning t a) = Working t
role (Over t) = Done t
role (Saved t) = Done t
role _ = Nothing

abbrev pub Plays : Role → (ℕ → ℕ) → Tickets → Counts → Type 0
Plays Nothing w ts c = Unit {0}
Plays (First t) w ts c = (c.started < c.queued) × (w (start_slot c.started) ≡ block_of ts t) × Waits w ts t
Plays (Asked t) w ts c = Asks w ts t × IsThere ts t
Plays (Working t) w ts c = MayWork w ts c t
Plays (Closing t) w ts c = IsBegun w ts t × NotStarting w c (block_of ts t)
Plays (Done t) w ts c = IsOver w ts t × NotEntered w c (block_of ts t)

-- ---- what else holds

abbrev pub unit_target : Tickets → ℕ → ℕ
unit_target ts u = (slice_index_or ts.units u no_unit).target

-- a unit of the rig and of this target
abbrev pub IsUnitOf : Tickets → (u r : ℕ) → Type 0
IsUnitOf ts u r = (u < length ts.units) × (unit_target ts u ≡ r)

-- the live ticket with this block is one of this target, unless the block's GATE is BADTASK
pub record IsTicketOf (ts : Tickets) (block r t : ℕ) : Type 0 where
  pub live : IsLive (ts.stage t)
  pub block_is : block_of ts t ≡ block
  pub target_is : target_of ts t ≡ r

abbrev pub Extra : Work → (ℕ → ℕ) → Tickets → Type 0
Extra (Entering t a) w ts = Queues a
Extra (Selected t) w ts = IsThere ts t
Extra (Ending t v) w ts = (ENDED ≤ v) × (v ≤ NO_TARGET) × (v ≡ ENDED → IsThere ts t)
Extra (Carrying t p) w ts = IsPointer w (block_of ts t) (way (ts.fixed t)) (goal (ts.fixed t)) p
Extra (Moving t x) w ts = Names w (block_of ts t) (way (ts.fixed t)) (goal (ts.fixed t)) (move_place x.phase x.entry) x
Extra (Behind t phase j) w ts =
    (j ≤ 16) × IsSuffix (segments_from w (block_of ts t) j) (goal (ts.fixed t)) × AreFilled w (block_of ts t) j × IsWay (way (ts.fixed t)) phase
Extra (Returning t a) w ts = (a ≡ label_of label.Restore) ⊎ (a ≡ label_of label.Abort)
Extra (Naming r) w ts = r < 8
Extra (ChoosingTarget r j) w ts = (r < 8) × (j < length (target_ops ts.units))
Extra (Finding r j) w ts = (r < 8) × (has_target ts.units r ≡ true) × (j < length (lun_ops ts.units r))
Extra (Listed u r) w ts = IsUnitOf ts u r
Extra (Tagged u g r) w ts = IsUnitOf ts u r × (g < 256)
Extra (InTable u s g r) w ts = IsUnitOf ts u r × (s < 4) × (g < 256)
Extra (Offset u s k r) w ts = IsUnitOf ts u r × (s < 4) × (k < 256) × (k % 4 ≡ 0)
Extra (Candidate b r) w ts = IsCommandBlock b × ((field w b Gate ≡ label_of label.Badtask) ⊎ ((t : ℕ) × IsTicketOf ts b r t))
Extra (Saved t) w ts = w CUR ≡ block_of ts t
Extra _ w ts = Unit {0}

pub record Works (k : Work) (w : ℕ → ℕ) (ts : Tickets) (c : Counts) : Type 0 where
  pub plays : Plays (role k) w ts c
  pub extra : Extra k w ts

-- ---- registers

-- the block of the ticket at work, 0 where there is none
abbrev pub worker : Role → Option ℕ
worker Nothing = None
worker (First t) = Some t
worker (Asked t) = Some t
worker (Working t) = Some t
worker (Closing t) = Some t
worker (Done t) = Some t

abbrev pub block_by : Tickets → Option ℕ → ℕ
block_by ts None = 0
block_by ts (Some t) = block_of ts t

abbrev pub own_block : Tickets → Work → ℕ
own_block ts k = block_by ts (worker (role k))

-- a value: block is that of the ticket at work
abbrev pub value : (block started entered : ℕ) → Value → ℕ
value block started entered (Number n) = n
value block started entered OwnBlock = block
value block started entered ThisStart = start_slot started
value block started entered NextStart = start_slot (started + 1)
value block started entered NextDone = done_slot entered
value block started entered LastDone = done_slot (entered + 511)
value block started entered (Table u s) = table_at u s
value block started entered (TagEntry u g) = tag_entry u g

abbrev pub Has : (block started entered : ℕ) → Option Value → ℕ → Type 0
Has block started entered None r = Unit {0}
Has block started entered (Some v) r = r ≡ value block started entered v

pub record Holding (block started entered : ℕ) (h : Held) (r : Regs) : Type 0 where
  pub dsa : Has block started entered h.dsa r.dsa
  pub temp : Has block started entered h.temp r.temp
  pub scratcha : Has block started entered h.scratcha r.scratcha
  pub scratchb : Has block started entered h.scratchb r.scratchb
  pub ssid : Has block started entered h.ssid r.ssid
  pub sfbr : Has block started entered h.sfbr r.sfbr
