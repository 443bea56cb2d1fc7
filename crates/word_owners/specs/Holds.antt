-- The invariant: where the chip is, and what holds of the world there (own).
use Rattle.std.specs.Prelude.{◌≡◌, ◌⊎◌, ℕ, true, false, ◌+◌, ◌-◌, ◌<◌, ◌≤◌, List, length, if◌then◌else◌, Option, Some, None}
use Rattle.bench_words.specs.Memory.{word_at}
use Rattle.bench_words.specs.Bytes.{IsBytes}
use Rattle.rig_types.specs.declared.rig.Unit.{Unit as RigUnit}
use Rattle.host_map.specs.declared.TheConstants.{FRONT, DONEP, FRONT_IDLE, JOB}
use Rattle.host_map.specs.Places.{start_slot, done_slot}
use Rattle.driver_script.specs.Script.{label_of}
use Rattle.driver_script.specs.declared.labels.Name.TheVariants as label
use Rattle.phase_fix.specs.declared.moves.DataMove.{DataMove}
use Rattle.phase_fix.specs.Moves.{move_at, IsEntry}
use Rattle.phase_fix.specs.Remain.{count_of, address_of}
use Rattle.chip_regs.specs.Registers.{is_stopped, cause_of}
use Rattle.chip_regs.specs.declared.registers.Regs.{Regs}
use Rattle.chip_regs.specs.declared.registers.Cause.{Cause}
use Rattle.chip_regs.specs.declared.registers.Cause.TheVariants.{Ma, Sto, Rst, Sir}
use Rattle.bus_law.specs.Bus.{BusState}
use Rattle.world_law.specs.declared.reply.Stop.{Stop}
use Rattle.world_law.specs.declared.reply.Stop.TheVariants as stop
use Rattle.world_law.specs.World.{World}
use Rattle.world_law.specs.Stops.{job_done, in_tail}
use Rattle.word_owners.specs.Tickets.{Tickets, tickets_of, AreTickets, AreChecked, block_of, target_of}
use Rattle.word_owners.specs.Pointers.{move_place}
use Rattle.word_owners.specs.Points.{Point, Work, Free, Head, Begun, Moving, Link, OfTicket, OfTarget, Nobody, Anyone, about, At000}
use Rattle.word_owners.specs.Parts.{Counts, Parts, TagTables}
use Rattle.word_owners.specs.Works.{Works, Holding, own_block}

-- Where the chip is, or how it stands in a stop.
pub data Spot : Type 0 where
  -- it runs
  Running : Point → Spot
  -- a data move of a ticket was broken off with so many bytes left
  Mismatched : ℕ → DataMove → ℕ → Spot
  -- another instruction was
  NotData : Spot
  -- the ticket's data pointer is repaired
  Fixed : ℕ → Spot
  -- nobody answered the selection for a ticket
  TimedOut : ℕ → Spot
  -- nobody answered that for the job, or the job is done
  JobOver : Spot
  -- the bus was reset, and the chip goes on at this point
  ResetAt : Point → Spot
  -- any other stop: the bus is to be reset
  Broken : Spot

abbrev pub work_at : Spot → Work
work_at (Running p) = (about p).work
work_at (Mismatched t x left) = Moving t x
work_at (Fixed t) = Begun t
work_at (TimedOut t) = Head t
work_at (ResetAt p) = (about p).work
work_at _ = Free

abbrev pub link_at : Spot → Link
link_at (Running p) = (about p).link
link_at (Mismatched t x left) = OfTicket t
link_at (Fixed t) = OfTicket t
link_at (TimedOut t) = Nobody
link_at JobOver = Nobody
link_at (ResetAt p) = Nobody
link_at _ = Anyone

abbrev pub ahead_at : Spot → ℕ
ahead_at (Running p) = (about p).ahead
ahead_at (ResetAt p) = (about p).ahead
ahead_at _ = 0

abbrev pub closing_at : Spot → Option ℕ
closing_at (Running p) = (about p).closing
closing_at (ResetAt p) = (about p).closing
closing_at _ = None

-- a stop of the chip for a cause
pub record StoppedFor (cause : Cause) (r : Regs) : Type 0 where
  pub stopped : is_stopped r ≡ true
  pub is : cause_of r ≡ Some cause

-- a data move that was broken off: DSP is behind it, DBC has the bytes that are left, and its range lies in memory
pub record BrokenOff (view : ℕ → ℕ) (block : ℕ) (x : DataMove) (left : ℕ) (r : Regs) : Type 0 where
  pub dsp : r.dsp ≡ move_place x.phase x.entry + 8
  pub dsa : r.dsa ≡ block
  pub dbc : r.dbc ≡ left
  pub entry : IsEntry x.entry
  pub some : 0 < left
  pub most : left ≤ count_of view block x.entry
  pub within : address_of view block x.entry + count_of view block x.entry ≤ 0x400000

-- after a reset the chip goes on in the tail, or at START
abbrev pub resumed : ℕ → Option ℕ
resumed dsp = if in_tail dsp then Some dsp else None

abbrev pub IsJobOver : Cause → Regs → Type 0
IsJobOver Sto r = r.dsa ≡ JOB
IsJobOver (Sir vector) r = vector ≡ job_done
IsJobOver _ r = ⊥

-- the registers hold what stands at the point
abbrev pub AtPoint : Point → Tickets → Counts → Regs → Type 0
AtPoint p ts c r = Holding (own_block ts (about p).work) c.started c.entered (about p).held r

-- FRONT asks for no sense
abbrev pub IsUnasked : (ℕ → ℕ) → Type 0
IsUnasked view = (view FRONT ≡ FRONT_IDLE) ⊎ (view FRONT ≡ JOB)

-- the stop stage, where the chip is to go on, and the registers
abbrev pub Stays : Spot → Stop → (resume : Option ℕ) → Regs → (ℕ → ℕ) → Tickets → Counts → Type 0
Stays (Running p) at resume r view ts c = (at ≡ stop.Run) × (resume ≡ None) × (is_stopped r ≡ false) × (r.dsp ≡ (about p).place) × AtPoint p ts c r
Stays (Mismatched t x left) at resume r view ts c = (at ≡ stop.Mismatch) × (resume ≡ None) × StoppedFor Ma r × BrokenOff view (block_of ts t) x left r
Stays NotData at resume r view ts c = (at ≡ stop.Mismatch) × (resume ≡ None) × StoppedFor Ma r × (move_at (r.dsp - 8) ≡ None)
Stays (Fixed t) at resume r view ts c = (at ≡ stop.Clear) × (resume ≡ Some (label_of label.Dispatch)) × StoppedFor Ma r × (r.dsa ≡ block_of ts t)
Stays (TimedOut t) at resume r view ts c =
    (at ≡ stop.Clear) × (resume ≡ None) × StoppedFor Sto r × (r.dsa ≡ block_of ts t) × (r.scratchb ≡ start_slot (c.started + 1))
Stays JobOver at resume r view ts c = (at ≡ stop.Clear) × (resume ≡ None) × ((cause : Cause) × StoppedFor cause r × IsJobOver cause r)
Stays (ResetAt p) at resume r view ts c =
    (at ≡ stop.Clear) × (resume ≡ resumed (about p).place) × StoppedFor Rst r × ((in_tail (about p).place ≡ true) ⊎ (p ≡ At000)) × AtPoint p ts c r
    × IsUnasked view
Stays Broken at resume r view ts c = (at ≡ stop.MustReset) × (resume ≡ None) × (is_stopped r ≡ true)

-- who is connected
abbrev pub Linked : Link → Tickets → BusState → Regs → Type 0
Linked (OfTicket t) ts b r = (b.connected ≡ Some (target_of ts t)) ⊎ (b.connected ≡ None)
Linked (OfTarget i) ts b r = (b.connected ≡ Some i) ⊎ (b.connected ≡ None)
Linked Nobody ts b r = (b.connected ≡ None) × (r.con ≡ false)
Linked Anyone ts b r = Unit {0}

-- DONEP is the slot that the script fills next, or the one that it has just filled
pub record IsDonep (view : ℕ → ℕ) (c : Counts) (ahead : ℕ) : Type 0 where
  pub before : ℕ
  pub entered : c.entered ≡ before + ahead
  pub is : view DONEP ≡ done_slot before

-- the invariant, for the tickets that the desk has
pub record HoldsFor (version : ℕ) (units : List RigUnit) (s : Spot) (c : Counts) (w : World) (ts : Tickets) : Type 0 where
  pub size : length w.memory ≡ 0x400000
  pub bytes : IsBytes w.memory
  pub units_are : ts.units ≡ units
  pub few_units : length units ≤ 16
  pub version_is : w.desk.version ≡ version
  pub tickets : AreTickets ts
  pub checked : AreChecked w.desk
  pub put : w.desk.put ≡ start_slot c.queued
  pub take : w.desk.take ≡ done_slot c.taken
  pub parts : Parts version (word_at w.memory) ts c (closing_at s)
  pub tags : TagTables (word_at w.memory) ts
  pub donep : IsDonep (word_at w.memory) c (ahead_at s)
  pub works : Works (work_at s) (word_at w.memory) ts c
  pub stays : Stays s w.stop w.resume w.regs (word_at w.memory) ts c
  pub linked : Linked (link_at s) ts w.bus w.regs

abbrev pub Holds : ℕ → List RigUnit → Spot → Counts → World → Type 0
Holds version units s c w = HoldsFor version units s c w (tickets_of w.desk)
