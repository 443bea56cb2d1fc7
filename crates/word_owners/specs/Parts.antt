-- What memory says, seen by words, at every moment: a part for each region (own).
use Rattle.std.specs.Prelude.{◌≡◌, ◌≢◌, ◌⊎◌, ℕ, false, ◌+◌, ◌*◌, ◌<◌, ◌≤◌, Option, Some}
use Rattle.host_map.specs.declared.TheConstants.{FRONT, RINGP, IDLE, NOTASK, FRONT_IDLE, JOB}
use Rattle.host_map.specs.Places.{start_slot, done_slot, tag_entry}
use Rattle.cmd_block.specs.Block.{offset}
use Rattle.cmd_block.specs.declared.Field.TheVariants.{Start, Restart, Lastp, Savep, State, Status, Sel, Gate, MsgCount, MsgAt, CmdCount, CmdAt, StatCount, StatAt}
use Rattle.cmd_block.specs.declared.TheConstants.{MESSAGE, CDB, LIVE, ENDED, NO_TARGET}
use Rattle.driver_script.specs.Script.{label_of, IsLoaded}
use Rattle.driver_script.specs.declared.labels.Name.TheVariants as label
use Rattle.rig_chains.specs.Chains.{IsLaid}
use Rattle.opening_memory.specs.Laws.{HasConstants, HasFixedBlocks}
use Rattle.phase_fix.specs.Remain.{field, ReturnsToSegments}
use Rattle.desk_law.specs.declared.stage.Stage.{Stage}
use Rattle.desk_law.specs.declared.stage.Stage.TheVariants.{Built, Linked, Queued, Check, Sensing, Ended, Unlinked}
use Rattle.word_owners.specs.Tickets.{Fixed, Tickets, block_of, unit_of, target_of, goal, way, IsLive, IsActive, IsBound}
use Rattle.word_owners.specs.Pointers.{IsPointer}

-- how many start slots the script has passed and the driver has filled, and how many done slots the driver has taken and the script has filled
pub record Counts : Type 0 where
  pub started : ℕ
  pub queued : ℕ
  pub taken : ℕ
  pub entered : ℕ

-- ---- what becomes of a ticket

-- it waits in the start ring
pub record Waits (w : ℕ → ℕ) (ts : Tickets) (t : ℕ) : Type 0 where
  pub stage : ts.stage t ≡ Queued
  pub live : field w (block_of ts t) State ≡ LIVE

-- it is with the chip, and the script hasn't ended it
pub record IsBegun (w : ℕ → ℕ) (ts : Tickets) (t : ℕ) : Type 0 where
  pub stage : IsActive (ts.stage t)
  pub live : field w (block_of ts t) State ≡ LIVE

-- the script has ended it, and it isn't taken yet
pub record IsOver (w : ℕ → ℕ) (ts : Tickets) (t : ℕ) : Type 0 where
  pub stage : IsActive (ts.stage t)
  pub some : ENDED ≤ field w (block_of ts t) State
  pub most : field w (block_of ts t) State ≤ NO_TARGET

-- its unit answers selections
abbrev pub IsThere : Tickets → ℕ → Type 0
IsThere ts t = (unit_of ts t).absent ≡ false

-- ---- the rings

-- The slots from the one that RINGP names up to the driver's next one hold, in order, blocks of tickets that wait, each once; the driver's next one
-- is idle.
pub record StartRing (w : ℕ → ℕ) (ts : Tickets) (started queued : ℕ) : Type 0 where
  pub order : started ≤ queued
  pub entry : (i : ℕ) → started ≤ i → i < queued → (t : ℕ) × (w (start_slot i) ≡ block_of ts t) × Waits w ts t
  pub once : (i j : ℕ) → started ≤ i → i < j → j < queued → w (start_slot i) ≢ w (start_slot j)
  pub idle : w (start_slot queued) ≡ IDLE
  pub next : (i : ℕ) → w (start_slot i + 4) ≡ start_slot (i + 1)

-- The slots from the driver's next one up to the script's hold, in order, blocks of tickets that are over, each once; all others are idle.
pub record DoneRing (w : ℕ → ℕ) (ts : Tickets) (taken entered : ℕ) : Type 0 where
  pub order : taken ≤ entered
  pub entry : (i : ℕ) → taken ≤ i → i < entered → (t : ℕ) × (w (done_slot i) ≡ block_of ts t) × IsOver w ts t
  pub once : (i j : ℕ) → taken ≤ i → i < j → j < entered → w (done_slot i) ≢ w (done_slot j)
  pub idle : (i : ℕ) → entered ≤ i → i < taken + 512 → w (done_slot i) ≡ IDLE
  pub next : (i : ℕ) → w (done_slot i + 4) ≡ done_slot (i + 1)

-- a block is neither in the start ring nor at FRONT
pub record NotStarting (w : ℕ → ℕ) (c : Counts) (block : ℕ) : Type 0 where
  pub ring : (i : ℕ) → c.started ≤ i → i < c.queued → w (start_slot i) ≢ block
  pub front : w FRONT ≢ block

-- nor is it in the done ring
abbrev pub NotEntered : (ℕ → ℕ) → Counts → ℕ → Type 0
NotEntered w c block = (i : ℕ) → c.taken ≤ i → i < c.entered → w (done_slot i) ≢ block

-- ---- FRONT, the tag tables and the blocks

-- FRONT has the idle block, the job, or the block of a ticket whose sense is to be asked for
pub record Asks (w : ℕ → ℕ) (ts : Tickets) (t : ℕ) : Type 0 where
  pub is : w FRONT ≡ block_of ts t
  pub stage : ts.stage t ≡ Sensing
  pub live : field w (block_of ts t) State ≡ LIVE

abbrev pub IsFront : (ℕ → ℕ) → Tickets → Type 0
IsFront w ts = (w FRONT ≡ FRONT_IDLE) ⊎ (w FRONT ≡ JOB) ⊎ ((t : ℕ) × Asks w ts t)

-- the ticket whose block the entry of a tag holds
pub record IsEntryOf (w : ℕ → ℕ) (ts : Tickets) (unit tag t : ℕ) : Type 0 where
  pub bound : IsBound (ts.stage t)
  pub unit_is : (ts.fixed t).unit ≡ unit
  pub tag_is : (ts.fixed t).tag ≡ tag
  pub block_is : w (tag_entry unit tag) ≡ block_of ts t

abbrev pub IsEntry : (ℕ → ℕ) → Tickets → (unit tag : ℕ) → Type 0
IsEntry w ts unit tag = (w (tag_entry unit tag) ≡ NOTASK) ⊎ ((t : ℕ) × IsEntryOf w ts unit tag t)

-- each entry has the block of its ticket, or none, and the entry of each bound ticket has its block
pub record TagTables (w : ℕ → ℕ) (ts : Tickets) : Type 0 where
  pub entries : (unit tag : ℕ) → unit < 16 → tag < 256 → IsEntry w ts unit tag
  pub entered : (t : ℕ) → IsBound (ts.stage t) → w (tag_entry (ts.fixed t).unit (ts.fixed t).tag) ≡ block_of ts t

-- START is SELECT or, after an abort, CANCEL; of a ticket whose sense is asked for it is SENSE, and of one that has ended any of the three
abbrev pub Queues : ℕ → Type 0
Queues v = (v ≡ label_of label.Select) ⊎ (v ≡ label_of label.Cancel)

abbrev pub IsStart : Stage → ℕ → Type 0
IsStart Sensing v = v ≡ label_of label.Sense
IsStart (Ended o) v = Queues v ⊎ (v ≡ label_of label.Sense)
IsStart Unlinked v = Queues v ⊎ (v ≡ label_of label.Sense)
IsStart _ v = Queues v

-- the block of a live ticket
pub record IsBlock (w : ℕ → ℕ) (stage : Stage) (f : Fixed) (target : ℕ) : Type 0 where
  pub start : IsStart stage (field w f.block Start)
  pub restart : (field w f.block Restart ≡ label_of label.Restore) ⊎ (field w f.block Restart ≡ label_of label.Abort)
  pub last : IsPointer w f.block (way f) (goal f) (field w f.block Lastp)
  pub saved : IsPointer w f.block (way f) (goal f) (field w f.block Savep)
  pub begins : f.turned ≡ false → IsPointer w f.block (way f) (goal f) f.begins
  pub sel : field w f.block Sel ≡ target * 0x10000
  pub gate : (field w f.block Gate ≡ label_of label.Open) ⊎ (field w f.block Gate ≡ label_of label.Badtask)
  pub message : (field w f.block MsgCount ≡ 3) × (field w f.block MsgAt ≡ f.block + MESSAGE)
  pub command : (field w f.block CmdCount ≤ 12) × (field w f.block CmdAt ≡ f.block + CDB)
  pub status : (field w f.block StatCount ≡ 1) × (field w f.block StatAt ≡ f.block + offset Status)
  pub returns : ReturnsToSegments w f.block

-- a ticket on which the chip may be at work: it is begun, doesn't start again, and its unit is there
pub record MayWork (w : ℕ → ℕ) (ts : Tickets) (c : Counts) (t : ℕ) : Type 0 where
  pub begun : IsBegun w ts t
  pub out : NotStarting w c (block_of ts t)
  pub there : IsThere ts t

-- the unit of a ticket whose command ended is there
abbrev pub HasAnswered : (ℕ → ℕ) → Tickets → ℕ → Type 0
HasAnswered w ts t = (ts.stage t ≡ Check) ⊎ (ts.stage t ≡ Sensing) ⊎ (field w (block_of ts t) State ≡ ENDED)

abbrev pub IsFresh : Stage → Type 0
IsFresh s = (s ≡ Built) ⊎ (s ≡ Linked)

-- The parts beside the tag tables. GATE is open only for a ticket on which the chip may be at work, but for the one that the script is just closing.
pub record Parts (version : ℕ) (w : ℕ → ℕ) (ts : Tickets) (c : Counts) (closing : Option ℕ) : Type 0 where
  pub loaded : IsLoaded w version
  pub chains : IsLaid w ts.units
  pub constants : HasConstants w
  pub fixed : HasFixedBlocks w
  pub front : IsFront w ts
  pub ringp : w RINGP ≡ start_slot c.started
  pub start : StartRing w ts c.started c.queued
  pub done : DoneRing w ts c.taken c.entered
  pub blocks : (t : ℕ) → IsLive (ts.stage t) → IsBlock w (ts.stage t) (ts.fixed t) (target_of ts t)
  pub fresh : (t : ℕ) → IsFresh (ts.stage t) → field w (block_of ts t) State ≡ LIVE
  pub there : (t : ℕ) → IsLive (ts.stage t) → HasAnswered w ts t → IsThere ts t
  pub gates : (t : ℕ) → IsLive (ts.stage t) → closing ≢ Some t → field w (block_of ts t) Gate ≡ label_of label.Open → MayWork w ts c t
