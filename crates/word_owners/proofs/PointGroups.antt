-- Groups of points by the instructions that stand there.
use Rattle.std.specs.Prelude.{Option, Some, None, ◌≡◌, ℕ, Bool, true, false, List}
use Rattle.cmd_block.specs.declared.TheConstants.{ENDED, CUT, NO_TARGET}
use Rattle.rig_types.specs.declared.rig.Unit.{Unit as RigUnit}
use Rattle.world_law.specs.declared.reply.Reply.{Reply}
use Rattle.world_law.specs.World.{World}
use Rattle.world_law.specs.ChipSteps.{RunsChip}
use Rattle.word_owners.specs.Answering.{AreAnswering}
use Rattle.word_owners.specs.Points.{Point, At000, At008, At010Idle, At010Job, At010Sense, At018Idle, At018Job, At018Sense, At020, At028, At030, At038, At038Idle, At040, At040Idle, At048, At050, At058, At060, At068, At070, At078, At080, At088, At090, At098, At0A0, At0A8, At0B0, At0B8, At0C0, At0C8, At0D0, At0D8, At0E0, At0E8, At0F0, At0F8, At100, At108, At110, At118, At120, At128, At130, At138, At140, At148, At150, At158, At160, At168, At170, At178, At180, At188, At190, At198, At1A0, At1A0None, At1A8, At1A8Bad, At1A8None, At1B0, At1B0None, At1B8, At1B8None, At1C0, At1C8, At1D0, At1D8, At1E0, At1E8, At1F0, At1F8, At200, At208, At210, At218, At220, At228, At230, At238, At240, At248, At250, At258, At260, At268, At270, At278, At280, At288, At290, At298, At2A0, At2A8, At2B0, At2B8, At340, At3C8, At3D0, At3D8, At440, At448, At450, At458, At460, At468, At470, At478, At480, At488, At490, At498, At4A0, At4A8, At4B0, AtUnit, BehindContext, BehindUnit, InLuns, InTargets, LeavesContext}
use Rattle.word_owners.specs.Parts.{Counts}
use Rattle.word_owners.specs.Holds.{Holds, Running}
use Rattle.word_owners.specs.Nexts.{IsNext, Leads}

-- a step of the chip at each of these points
abbrev pub StepsHold : (Point → Bool) → Type 0
StepsHold among =
    (version : ℕ) (units : List RigUnit) (p : Point) (c : Counts) (w new : World) (word : ℕ) (answer : Reply) → among p ≡ true → RunsChip w word answer new
    → Holds version units (Running p) c w → Leads (IsNext p) version units c new

-- the LOADs from a block or a slot at DSA, the LOAD of FRONT, and the RETURNs by what was loaded from a ticket's block
abbrev pub from_dsa : Point → Bool
from_dsa At008 = true
from_dsa At010Idle = true
from_dsa At010Job = true
from_dsa (At010Sense t) = true
from_dsa At028 = true
from_dsa At030 = true
from_dsa At038Idle = true
from_dsa (At038 t) = true
from_dsa (At040 t a) = true
from_dsa (At0B8 t) = true
from_dsa (At0C0 t p) = true
from_dsa (At108 t) = true
from_dsa (At128 t) = true
from_dsa (At1A0 b r) = true
from_dsa At1A0None = true
from_dsa (At1B0 t) = true
from_dsa At1B0None = true
from_dsa (At1B8 t a) = true
from_dsa At258 = true
from_dsa _ = false

-- the instructions that leave memory: ACK and ATN, WAIT, the jumps by a phase or a byte, INT, and the read of CTEST2
abbrev pub asks_bus : Point → Bool
asks_bus (At118 t) = true
asks_bus (At138 t) = true
asks_bus (At148 t) = true
asks_bus (At1C8 t) = true
asks_bus (At280 t) = true
asks_bus (At278 t) = true
asks_bus At150 = true
asks_bus (At1D0 t) = true
asks_bus (At1E8 t) = true
asks_bus At2A8 = true
asks_bus (At090 t) = true
asks_bus (At098 t) = true
asks_bus (At0A0 t) = true
asks_bus (At0A8 t) = true
asks_bus (At0E0 t) = true
asks_bus (At0E8 t) = true
asks_bus (At0F0 t) = true
asks_bus (At0F8 t) = true
asks_bus (At0B0 t) = true
asks_bus (At100 t) = true
asks_bus At1C0 = true
asks_bus (At2B8 t) = true
asks_bus At2B0 = true
asks_bus At268 = true
asks_bus At000 = true
asks_bus At048 = true
asks_bus _ = false

-- the STOREs
abbrev pub stores : Point → Bool
stores (At068 t) = true
stores (At1F8 t) = true
stores (At210 t) = true
stores (At078 t) = true
stores (At110 t p) = true
stores (At130 t p) = true
stores (At3D0 t) = true
stores (At220 t v) = true
stores (At230 t) = true
stores (At238 t) = true
stores (At250 t) = true
stores At260 = true
stores (At450 t) = true
stores _ = false

-- the moves of messages, commands and the status
abbrev pub moves_messages : Point → Bool
moves_messages (At080 t) = true
moves_messages (At088 t) = true
moves_messages (At0C8 t) = true
moves_messages (At0D8 t) = true
moves_messages (At288 t) = true
moves_messages At2A0 = true
moves_messages _ = false

-- the SELECTs
abbrev pub selects : Point → Bool
selects (At060 t) = true
selects At298 = true
selects (At440 t) = true
selects _ = false

-- They need that a unit that isn't absent answers: a selection for a sense never times out.
abbrev pub SelectsHold : Type 0
SelectsHold =
    (version : ℕ) (units : List RigUnit) (p : Point) (c : Counts) (w new : World) (word : ℕ) (answer : Reply) → selects p ≡ true → AreAnswering units w.bus
    → RunsChip w word answer new → Holds version units (Running p) c w → Leads (IsNext p) version units c new

-- the tag of a reselection
abbrev pub of_tags : Point → Bool
of_tags (At160 u r) = true
of_tags (At178 u r) = true
of_tags (At168 u r) = true
of_tags (At170 u r) = true
of_tags (At180 u r) = true
of_tags (At188 u g r) = true
of_tags (At460 u g r) = true
of_tags (At468 u g r) = true
of_tags (At470 u g r) = true
of_tags (At478 u g r) = true
of_tags (At488 u g r) = true
of_tags (At498 u g r) = true
of_tags (At480 u g r) = true
of_tags (At490 u g r) = true
of_tags (At4A0 u g r) = true
of_tags (At4A8 u s g r) = true
of_tags (At4B0 u s k r) = true
of_tags (At190 u s k r) = true
of_tags (At198 u g r) = true
of_tags _ = false

-- behind the move of a context
abbrev pub of_contexts : Point → Bool
of_contexts (BehindContext t phase k) = true
of_contexts (LeavesContext t phase j k) = true
of_contexts _ = false

-- ---- points that only one point follows

-- where the jumps of the script lead that always hold, from DISPATCH's routines, the tail and the data moves
abbrev pub jump_point : Point → Option Point
jump_point (At0D0 t) = Some (At090 t)
jump_point (At120 t) = Some (At090 t)
jump_point (At140 t) = Some (At090 t)
jump_point At158 = Some At000
jump_point (At1E0 t) = Some (At220 t ENDED)
jump_point (At1F0 t) = Some (At200 t)
jump_point (At208 t) = Some (At220 t CUT)
jump_point At270 = Some At000
jump_point (At290 t) = Some (At1E8 t)
jump_point (At340 t) = Some (At3C8 t)
jump_point (At3D8 t) = Some (At090 t)
jump_point (At458 t) = Some (At070 t)
jump_point _ = None

abbrev pub JumpsHold : Type 0
JumpsHold = (version : ℕ) (units : List RigUnit) (p q : Point) (c : Counts) (w new : World) (word : ℕ) (answer : Reply) → jump_point p ≡ Some q → RunsChip w word answer new → Holds version units (Running p) c w
    → Holds version units (Running q) c new

-- where the LOADs of the script lead that have their word at an address of their own, but the one of FRONT
abbrev pub load_point : Point → Option Point
load_point At020 = Some At028
load_point (At070 t) = Some (At078 t)
load_point (At1D8 t) = Some (At1E0 t)
load_point (At200 t) = Some (At208 t)
load_point (At218 t) = Some (At220 t NO_TARGET)
load_point (At228 t) = Some (At230 t)
load_point (At240 t) = Some (At248 t)
load_point (At248 t) = Some (At250 t)
load_point (At3C8 t) = Some (At3D0 t)
load_point (At448 t) = Some (At450 t)
load_point _ = None

abbrev pub LoadsHold : Type 0
LoadsHold = (version : ℕ) (units : List RigUnit) (p q : Point) (c : Counts) (w new : World) (word : ℕ) (answer : Reply) → load_point p ≡ Some q → RunsChip w word answer new → Holds version units (Running p) c w
    → Holds version units (Running q) c new

-- where the RETURNs lead by which the blocks at FRONT, an idle slot and the gates of candidates are entered
abbrev pub return_point : Point → Option Point
return_point At018Idle = Some At020
return_point At018Job = Some At298
return_point (At018Sense t) = Some (At440 t)
return_point At040Idle = Some At048
return_point (At1A8 t) = Some (At1B0 t)
return_point At1A8Bad = Some At1C0
return_point At1A8None = Some At1B0None
return_point At1B8None = Some At1C0
return_point _ = None

abbrev pub ReturnsHold : Type 0
ReturnsHold = (version : ℕ) (units : List RigUnit) (p q : Point) (c : Counts) (w new : World) (word : ℕ) (answer : Reply) → return_point p ≡ Some q → RunsChip w word answer new → Holds version units (Running p) c w
    → Holds version units (Running q) c new

-- where the chains find the unit of a target that has reselected
abbrev pub of_chains : Point → Bool
of_chains (At050 r) = true
of_chains (At058 r) = true
of_chains (InTargets r j) = true
of_chains (InLuns r j) = true
of_chains (AtUnit u r) = true
of_chains (BehindUnit u r) = true
of_chains _ = false
