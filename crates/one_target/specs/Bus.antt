-- The bus of one target, whose units keep the rules. The bus keeps ATN and ACK and the phase that was asked for last, and knows the room of
-- each log. Sources: SCSI-2 6.1 phases, 6.2.1 attention condition; own are the live ticket, and what a target does whose log is full.
use Rattle.std.specs.Prelude.{◌≡◌, ℕ, ◌%◌, ◌==◌, ◌&&◌, not, if◌then◌else◌, is_none, Bool, true, false, List, Option, Some, None, option_map, ◌⊎◌}
use Rattle.scsi_words.specs.declared.phases.kinds.Phase.{Phase as BusPhase}
use Rattle.scsi_words.specs.declared.phases.kinds.Phase.TheVariants as phase
use Rattle.chip_step.specs.Event.{Event, Phase, Shown, ByteIn, ByteOut, Select, Reselect, SetAtn, ClearAck, Leave}
use Rattle.chip_step.specs.Laws.{Signals}
use Rattle.chip_step.specs.declared.scsi_bus.Settled.{Settled}
use Rattle.chip_step.specs.declared.scsi_bus.Settled.TheVariants.{Selected, TimedOut}
use Rattle.target_law.specs.declared.moves.Move.{Move}
use Rattle.target_law.specs.declared.nexus.Nexus.{Nexus}
use Rattle.target_law.specs.Bytes.{Connection}
use Rattle.target_law.specs.Target.{LogicalUnit, ConnectionState, TaskConnected, Target, unit_at, linked, leaves}
use Rattle.target_law.specs.Beginning.{target_took}
use Rattle.target_law.specs.Calls.{is_free, link_phase, target_selected, target_acted, asked_by, link_byte, sent_if, link_takes, target_messaged, target_acked}
use Rattle.target_law.specs.Lawful.{NamesOf}
use Rattle.target_law.specs.Devices.{DeviceState, lie_within}

-- a bus with its one target: how many entries each log may have, by LUN; ATN and ACK; and the phase that was asked for last
pub record BusState : Type 0 where
  pub target : Target
  pub rooms : List ℕ
  pub atn : Bool
  pub ack : Bool
  pub asked : Option BusPhase

-- a call whose entries don't fit changes nothing
abbrev pub if_fits : Bool → (old new : Target) → Target
if_fits true old new = new
if_fits false old new = old

abbrev pub with_room : List ℕ → (old new : Target) → Target
with_room rooms old new = if_fits (lie_within new.units rooms) old new

-- the target has changed; where it has left the bus free, neither ATN nor ACK stays asserted
abbrev pub become : Bool → BusState → Target → BusState
become true b t = record b { target = t; atn = false; ack = false }
become false b t = record b { target = t }

abbrev pub becomes : BusState → Target → BusState
becomes b t = become (is_free t.link) b t

-- the one ticket: 0 under tag 0 of LUN 0
abbrev pub live_ticket : Nexus → Option ℕ
live_ticket n = if n.lun == 0 && n.tag == 0 then Some 0 else None

abbrev pub ticket_at : Option Nexus → Option ℕ
ticket_at None = None
ticket_at (Some n) = live_ticket n

-- connected, and no phase is shown
abbrev pub is_to_choose : ConnectionState → Bool
is_to_choose l = not (is_free l) && is_none (link_phase l)

-- A target that is to choose makes the move that the word names. One whose log has no room for the move's entries leaves the bus, its task away
-- as by DISCONNECT.
pub record LeavesBus (t t' : Target) : Type 0 where
  pub connection : Connection
  pub working : t.link ≡ TaskConnected connection
  pub unit : LogicalUnit
  pub unit_is : unit_at t.units connection.lun ≡ Some unit
  pub left : t' ≡ leaves t connection unit

abbrev pub SettlesWhere : (to_choose : Bool) → (t t' : Target) → Type 0
SettlesWhere true t t' = LeavesBus t t'
SettlesWhere false t t' = t' ≡ t

abbrev pub Settles : (t t' : Target) → Type 0
Settles t t' = SettlesWhere (is_to_choose t.link) t t'

pub record Acts (rooms : List ℕ) (word : ℕ) (t : Target) (c : Connection) (t' : Target) : Type 0 where
  pub unit : LogicalUnit
  pub unit_is : unit_at t.units c.lun ≡ Some unit
  pub move : Move
  pub named : NamesOf unit c word move
  pub after : Settles (with_room rooms t (target_acted t move)) t'

abbrev pub ActsAt : ConnectionState → List ℕ → (word : ℕ) → (t t' : Target) → Type 0
ActsAt (TaskConnected c) rooms word t t' = Acts rooms word t c t'
ActsAt _ rooms word t t' = ⊥

-- while ATN is asserted it shows MSG_OUT instead
abbrev pub Chooses : ConnectionState → (atn : Bool) → List ℕ → (word : ℕ) → (t t' : Target) → Type 0
Chooses (TaskConnected c) true rooms word t t' = t' ≡ linked t (asked_by (TaskConnected c))
Chooses (TaskConnected c) false rooms word t t' = Acts rooms word t c t'
Chooses _ atn rooms word t t' = ⊥

abbrev pub ChoosesWhere : (to_choose atn : Bool) → List ℕ → (word : ℕ) → (t t' : Target) → Type 0
ChoosesWhere true atn rooms word t t' = Chooses t.link atn rooms word t t'
ChoosesWhere false atn rooms word t t' = t' ≡ t

-- the bus after the target's turn: a free bus stays
pub record GoesOn (word : ℕ) (b b' : BusState) : Type 0 where
  pub target : Target
  pub chooses : ChoosesWhere (is_to_choose b.target.link) b.atn b.rooms word b.target target
  pub becomes_it : b' ≡ becomes b target

abbrev pub TurnsWhere : (free : Bool) → (word : ℕ) → (b b' : BusState) → Type 0
TurnsWhere true word b b' = b' ≡ b
TurnsWhere false word b b' = GoesOn word b b'

abbrev pub Turns : (word : ℕ) → (b b' : BusState) → Type 0
Turns word b b' = TurnsWhere (is_free b.target.link) word b b'

-- a byte of MSG_IN asserts ACK
abbrev pub ack_by : Option ℕ → Option BusPhase → Bool → Bool
ack_by (Some byte) (Some phase.MsgIn) ack = true
ack_by _ shown ack = ack

-- a byte is below 256
abbrev pub as_byte : Option ℕ → Option ℕ
as_byte byte = option_map (λ (x : ℕ). x % 256) byte

-- a byte comes only in the phase that was asked for
pub record ComesIn (b : BusState) (byte : Option ℕ) (b' : BusState) : Type 0 where
  pub asked : b.asked ≡ link_phase b.target.link
  pub byte_is : byte ≡ as_byte (link_byte b.target.link)
  pub after : b' ≡ record b {
    target = linked b.target (sent_if (link_byte b.target.link) b.target.link);
    ack = ack_by (link_byte b.target.link) (link_phase b.target.link) b.ack;
  }

pub record StaysOut (b : BusState) (byte : Option ℕ) (b' : BusState) : Type 0 where
  pub unasked : b.asked ≡ link_phase b.target.link → ⊥
  pub none : byte ≡ None
  pub same : b' ≡ b

-- a byte is taken, with which a task begins where it is the last one of its descriptor block
abbrev pub taken_where : (taken : Bool) → BusState → (byte : ℕ) → BusState
taken_where true b byte = becomes b (target_took live_ticket b.target byte)
taken_where false b byte = b

-- target 0 alone is there, and answers where the bus is free
abbrev pub SelectsWhere : Bool → BusState → Settled → BusState → Type 0
SelectsWhere true b settled b' = (settled ≡ Selected) × (b' ≡ record b { target = target_selected b.target })
SelectsWhere false b settled b' = (settled ≡ TimedOut) × (b' ≡ b)

-- ATN is released; while MSG_OUT is shown, its message then acts
abbrev pub is_message : Option BusPhase → Bool
is_message (Some phase.MsgOut) = true
is_message _ = false

abbrev pub messaged_where : Bool → BusState → BusState
messaged_where true b = becomes b (with_room b.rooms b.target (target_messaged b.target))
messaged_where false b = b

abbrev pub after_atn : Bool → BusState → BusState
after_atn true b = record b { atn = true }
after_atn false b = record (messaged_where (is_message (link_phase b.target.link)) b) { atn = false }

-- ACK is released, by which the target acts on its message byte
abbrev pub acked_where : Bool → BusState → BusState
acked_where true b = record (becomes b (with_room b.rooms b.target (target_acked b.target))) { ack = false }
acked_where false b = b

abbrev pub after_ack : BusState → BusState
after_ack b = acked_where b.ack b

-- what each call answers, and what it makes of the bus
abbrev pub moves : BusState → Event → BusState → Type 0
moves b (Phase word shown) b' = (mid : BusState) × Turns word b mid × (shown ≡ link_phase mid.target.link) × (b' ≡ record mid { asked = shown })
moves b (Shown shown) b' = (shown ≡ link_phase b.target.link) × (b' ≡ b)
moves b (ByteIn byte) b' = ComesIn b byte b' ⊎ StaysOut b byte b'
moves b (ByteOut byte taken) b' = (taken ≡ link_takes b.target.link) × (b' ≡ taken_where (link_takes b.target.link) b byte)
moves b (Select target word settled) b' = SelectsWhere (target == 0 && is_free b.target.link) b settled b'
moves b (Reselect word by) b' = (by ≡ None) × (b' ≡ b)
moves b (SetAtn on) b' = b' ≡ after_atn on b
moves b ClearAck b' = b' ≡ after_ack b
moves b (Leave word gone) b' = Turns word b b' × (gone ≡ is_free b'.target.link)

abbrev pub signals_of : BusState → Signals
signals_of b = record { free = is_free b.target.link; atn = b.atn; ack = b.ack; shown = link_phase b.target.link }

-- the bus of a device, with its lines and the phase that was asked for
abbrev pub bus_of : DeviceState → (atn ack : Bool) → Option BusPhase → BusState
bus_of d atn ack asked = record { target = d.target; rooms = d.rooms; atn = atn; ack = ack; asked = asked }
