-- Laws of the invariant.
use Rattle.std.specs.Prelude.{◌≡◌, ◌⊎◌, ◌+◌, ◌<◌, ◌≤◌, ℕ, Bool, true, false, List, length, Some}
use Rattle.rig_types.specs.declared.rig.Unit.{Unit as RigUnit}
use Rattle.host_map.specs.declared.TheConstants.{FRONT_IDLE}
use Rattle.abort_reset.specs.Patches.{marked, job_at_front}
use Rattle.desk_law.specs.declared.stage.Stage.TheVariants.{Built, Linked, Again, Check, Unlinked}
use Rattle.desk_law.specs.Desk.{ticket, owed, paid}
use Rattle.desk_law.specs.Rings.{done_ticket}
use Rattle.desk_law.specs.Calls.{links, link_memory, unlinks, unlink_memory, queues, queue_memory, senses, sense_memory, signalled}
use Rattle.world_law.specs.World.{BenchSetting, World, front}
use Rattle.world_law.specs.Enabling.{IsEnded}
use Rattle.world_law.specs.declared.reply.Stop.TheVariants.{Run, Mismatch, Clear, MustReset}
use Rattle.world_law.specs.Stops.{to_sweep, in_tail, is_ended_by_script}
use Rattle.world_law.specs.Steps.{taken as with_taken, FreesTicket}
use Rattle.world_law.specs.declared.reply.Reply.{Reply}
use Rattle.world_law.specs.Repairs.{Fixes}
use Rattle.world_law.specs.Resets.{sweeps, resets, restarts}
use Rattle.bus_law.specs.Rooms.{with_room_at}
use Rattle.world_law.specs.Acts.{is_late}
use Rattle.world_law.specs.Opening.{opened}
use Rattle.word_owners.specs.Points.{Point, about, At000, At090, At210}
use Rattle.word_owners.specs.Parts.{Counts}
use Rattle.word_owners.specs.Holds.{Spot, Holds, Running, Mismatched, Fixed, TimedOut, ResetAt, Broken}

-- nothing was queued or taken
abbrev pub no_counts : Counts
no_counts = record { started = 0; queued = 0; taken = 0; entered = 0 }

-- it holds at the opening, where the chip stands at START
abbrev pub HoldsOpened : Type 0
HoldsOpened = (g : BenchSetting) → length g.units ≤ 16 → Holds g.version g.units (Running At000) no_counts (opened g)

-- ---- each step of the driver keeps it

-- Signal sets SIGP
abbrev pub SignalHolds : Type 0
SignalHolds = (version : ℕ) (units : List RigUnit) (s : Spot) (c : Counts) (w : World) (caller : ℕ) → Holds version units s c w
    → Holds version units s c (record w { regs = signalled w.regs; desk = paid w.desk caller })

-- Link enters the ticket's block under its tag, Unlink frees the entry
abbrev pub LinkHolds : Type 0
LinkHolds = (version : ℕ) (units : List RigUnit) (s : Spot) (c : Counts) (w : World) (t : ℕ) → Holds version units s c w → (ticket w.desk t).stage ≡ Built
    → Holds version units s c (record w { memory = link_memory w.desk t w.memory; desk = links w.desk t })

abbrev pub UnlinkHolds : Type 0
UnlinkHolds = (version : ℕ) (units : List RigUnit) (s : Spot) (c : Counts) (w : World) (t : ℕ) → Holds version units s c w → IsEnded (ticket w.desk t).stage
    → Holds version units s c (record w { memory = unlink_memory w.desk t w.memory; desk = unlinks w.desk t })

-- an abort that isn't late marks a block
abbrev pub MarkHolds : Type 0
MarkHolds = (version : ℕ) (units : List RigUnit) (s : Spot) (c : Counts) (w : World) (t : ℕ) → Holds version units s c w → is_late (ticket w.desk t).stage ≡ false
    → Holds version units s c (record w { memory = marked w.memory (ticket w.desk t).block })

-- a sweep of the ticket that is to be swept
abbrev pub SweepHolds : Type 0
SweepHolds = (version : ℕ) (units : List RigUnit) (s : Spot) (c : Counts) (w : World) (t : ℕ) → Holds version units s c w → to_sweep w (ticket w.desk t) ≡ true
    → Holds version units s c (sweeps w t)

-- After the reset of the bus the chip goes on where it was, if that is in the tail, else at START.
abbrev pub resets_to : (in_the_tail : Bool) → Point → Point
resets_to true p = p
resets_to false p = At000

abbrev pub reset_spot : Spot → Spot
reset_spot (Running p) = ResetAt (resets_to (in_tail (about p).place) p)
reset_spot s = ResetAt At000

abbrev pub ResetHolds : Type 0
ResetHolds = (version : ℕ) (units : List RigUnit) (s : Spot) (c : Counts) (w : World) → (w.stop ≡ Run) ⊎ (w.stop ≡ MustReset) → Holds version units s c w
    → Holds version units (reset_spot s) c (resets w)

-- Restart after the stops that are clear: where the chip goes on
abbrev pub restart_point : Spot → Point
restart_point (Fixed t) = At090 t
restart_point (TimedOut t) = At210 t
restart_point (ResetAt p) = p
restart_point s = At000

abbrev pub RestartHolds : Type 0
RestartHolds = (version : ℕ) (units : List RigUnit) (s : Spot) (c : Counts) (w : World) → w.stop ≡ Clear → Holds version units s c w
    → Holds version units (Running (restart_point s)) c (restarts w)

-- the device reset puts the job at FRONT, where that is idle, and makes room in the logs of its target
abbrev pub JobHolds : Type 0
JobHolds = (version : ℕ) (units : List RigUnit) (s : Spot) (c : Counts) (w : World) (caller target : ℕ) → front w ≡ FRONT_IDLE → target < 256 → Holds version units s c w
    → Holds version units s c (record w { memory = job_at_front w.memory target; desk = owed w.desk caller; bus = with_room_at w.bus target })

-- Queue puts a Linked ticket, or one that is to be queued again, into the start ring
abbrev pub QueueHolds : Type 0
QueueHolds = (version : ℕ) (units : List RigUnit) (s : Spot) (c : Counts) (w : World) (t : ℕ) → Holds version units s c w → ((ticket w.desk t).stage ≡ Linked) ⊎ ((ticket w.desk t).stage ≡ Again)
    → Holds version units s (record c { queued = c.queued + 1 }) (record w { memory = queue_memory w.desk t w.memory; desk = queues w.desk t })

-- TakeDone of the ticket in the done slot, which the script has ended
abbrev pub TakeHolds : Type 0
TakeHolds = (version : ℕ) (units : List RigUnit) (s : Spot) (c : Counts) (w : World) (t : ℕ) → done_ticket w.memory w.desk ≡ Some t → is_ended_by_script w (ticket w.desk t) ≡ true → Holds version units s c w
    → Holds version units s (record c { taken = c.taken + 1 }) (with_taken w t)

-- Fix repairs a data move that was broken off, and asks for a reset exactly where another instruction was
abbrev pub fix_spot : Spot → Spot
fix_spot (Mismatched t x left) = Fixed t
fix_spot s = Broken

abbrev pub FixHolds : Type 0
FixHolds = (version : ℕ) (units : List RigUnit) (s : Spot) (c : Counts) (w new : World) → w.stop ≡ Mismatch → Fixes w new → Holds version units s c w → Holds version units (fix_spot s) c new

-- Free of an Unlinked ticket
abbrev pub FreeHolds : Type 0
FreeHolds = (version : ℕ) (units : List RigUnit) (s : Spot) (c : Counts) (w new : World) (t : ℕ) (answer : Reply) → (ticket w.desk t).stage ≡ Unlinked → FreesTicket w t answer new → Holds version units s c w → Holds version units s c new

-- Sense turns the block of a ticket in Check into a REQUEST SENSE and puts it at FRONT, where that is idle
abbrev pub SenseHolds : Type 0
SenseHolds = (version : ℕ) (units : List RigUnit) (s : Spot) (c : Counts) (w : World) (t : ℕ) → w.stop ≡ Run → (ticket w.desk t).stage ≡ Check → front w ≡ FRONT_IDLE → Holds version units s c w
    → Holds version units s c (record w { memory = sense_memory w.desk t w.memory; desk = senses w.desk t })
