-- What a connected target does when it is to choose: the word names one of its lawful moves. Source: own.
use Rattle.std.specs.Prelude.{ℕ, Bool, true, List, length, slice_get, Option, Some, None, option_and_then}
use Rattle.scsi_words.specs.declared.phases.kinds.Phase.{Phase as BusPhase}
use Rattle.target_law.specs.declared.moves.Move.{Move}
use Rattle.target_law.specs.declared.moves.Move.TheVariants.{Rogue}
use Rattle.target_law.specs.Bytes.{Connection}
use Rattle.target_law.specs.Choice.{offered, index}
use Rattle.target_law.specs.Target.{LogicalUnit, ConnectionState, BusFree, TaskConnected, RogueConnected, Target, unit_at, session, linked, parted}
use Rattle.target_law.specs.Calls.{link_phase, target_acted, asked_by}
use Rattle.target_law.specs.Lawful.{refused_so_far}
use Rattle.target_law.specs.Devices.{DeviceState, where_room}
use Rattle.bus_law.specs.Bus.{BusState, device_at, becomes}

-- the lawful moves of a connected task with this word, in their order, and the one that the word names
abbrev pub moves_of : LogicalUnit → Connection → ℕ → List Move
moves_of u c word = offered (session u c) u.rig.refusals (refused_so_far u c.task.ticket) word

abbrev pub named_by : LogicalUnit → Connection → ℕ → Option Move
named_by u c word = slice_get (moves_of u c word) (index word (length (moves_of u c word)))

-- a unit that breaks the rules moves by the word itself
abbrev pub named : ConnectionState → Target → ℕ → Option Move
named (TaskConnected c) t word = option_and_then (λ u. named_by u c word) (unit_at t.units c.lun)
named (RogueConnected s n) t word = Some (Rogue word)
named _ t word = None

abbrev pub acts : Option Move → DeviceState → DeviceState
acts (Some m) d = where_room d (target_acted d.target m)
acts None d = d

-- while ATN is asserted, a task shows MSG_OUT instead
abbrev pub chooses : ConnectionState → (atn : Bool) → ℕ → DeviceState → DeviceState
chooses (TaskConnected c) true word d = record d { target = linked d.target (asked_by (TaskConnected c)) }
chooses l atn word d = acts (named l d.target word) d

-- A target that still shows no phase leaves the bus, its task away as by DISCONNECT: that was its move, or it had none for which its log has
-- room.
abbrev pub left_by : Option BusPhase → DeviceState → DeviceState
left_by None d = record d { target = linked (parted d.target.link d.target) BusFree }
left_by (Some shown) d = d

abbrev pub left_where : DeviceState → DeviceState
left_where d = left_by (link_phase d.target.link) d

-- the device after its turn; one that shows a phase stays
abbrev pub turned_by : Option BusPhase → (atn : Bool) → ℕ → DeviceState → DeviceState
turned_by None atn word d = left_where (chooses d.target.link atn word d)
turned_by (Some shown) atn word d = d

abbrev pub turned : (atn : Bool) → ℕ → DeviceState → DeviceState
turned atn word d = turned_by (link_phase d.target.link) atn word d

-- the bus after the turn of its connected device, and the phase that it shows then
abbrev pub after_turn : Option ℕ → ℕ → BusState → BusState
after_turn None word b = b
after_turn (Some id) word b = becomes b id (turned b.atn word (device_at b id))

abbrev pub phase_after : Option ℕ → ℕ → BusState → Option BusPhase
phase_after None word b = None
phase_after (Some id) word b = link_phase (turned b.atn word (device_at b id)).target.link
