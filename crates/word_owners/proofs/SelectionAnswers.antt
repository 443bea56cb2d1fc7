-- Each call of the bus, and so each step of the chip, leaves what the rig says of the units, and which targets answer.
use Rattle.std.proofs.Common.{◌≡◌, ℕ, zero, suc, List, [], ◌∷◌, refl, sym, ap, subst, ◌∙◌, ◌/◌, ◌%◌, Bool, true, false, Option, Some, None}
use Rattle.std.specs.Prelude.{not, ◌||◌, fold, map, slice_index_or, slice_set}
use Rattle.std.specs.List.{list_any, range_with_len}
use Rattle.scsi_words.specs.declared.phases.kinds.Phase.{Phase as BusPhase}
use Rattle.rig_types.specs.declared.rig.Unit.{Unit as RigUnit}
use Rattle.chip_step.specs.Event as event
use Rattle.chip_step.specs.Event.{Event}
use Rattle.chip_rows.proofs.RelatedBuses.{steps_show}
use Rattle.target_law.specs.declared.nexus.Nexus.{Nexus}
use Rattle.target_law.specs.Calls.{answers, slot_answers, link_phase, target_acted, target_messaged, target_acked}
use Rattle.target_law.specs.Devices.{DeviceState, reserved_for, device_reserved}
use Rattle.target_law.specs.Rigs.{rigs}
use Rattle.target_law.specs.Target.{Target, LogicalUnit, ConnectionState, BusFree, Selected, TakingCommand, TaskConnected, RogueConnected, unit_at, on_unit, parted, leaves, unit_left, target_reset}
use Rattle.target_law.proofs.Rigs.{rigs-with_unit, rigs-acted, rigs-messaged, rigs-acked, rigs-reselected, rigs-reset, rigs-took, rigs-where_room}
use Rattle.target_law.specs.declared.moves.Move.{Move}
use Rattle.bus_law.specs.Bus.{BusState, no_device, device_at, link_on, with_device, free_if, becomes, device_reset, bus_reset}
use Rattle.bus_law.specs.Choices.{named, acts, chooses, left_by, turned_by, turned, after_turn}
use Rattle.bus_law.specs.Bytes.{sent, after_byte_in, after_byte_out, device_took}
use Rattle.bus_law.specs.Reselections.{Candidate, candidate_named, after_reselection, can_select, device_selected, device_reselected, after_selection}
use Rattle.bus_law.specs.Attention.{is_message_out, device_messaged, messaged, after_atn, device_acked, acked, after_ack}
use Rattle.bus_law.specs.Moves.{moves}
use Rattle.bus_law.specs.Rooms.{reserve_of, with_room_for, with_room_of, with_room, with_room_at, with_all_room}
use Rattle.world_law.specs.World.{World, live}
use Rattle.world_law.specs.ChipSteps.{chip_of}
use Rattle.word_owners.specs.Answering as own
use Rattle.word_owners.specs.Answering.{AreAnswering, AnsweringStays}

-- what the rig says of the units of a device
abbrev rigs_of : DeviceState → List (Option RigUnit)
rigs_of d = rigs d.target.units

-- whether a unit answers is told by what the rig says of it
abbrev rig_answers : Option RigUnit → Bool
rig_answers None = false
rig_answers (Some r) = not r.absent

by-rigs : (us : List (Option LogicalUnit)) → list_any slot_answers us ≡ list_any rig_answers (rigs us)
by-rigs [] = refl
by-rigs (None ∷ us) = by-rigs us
by-rigs (Some u ∷ us) = ap (λ (b : Bool). not u.rig.absent || b) (by-rigs us)

answers-rigs : (t u : Target) → rigs t.units ≡ rigs u.units → answers t ≡ answers u
unfolding answers
answers-rigs t u e = by-rigs t.units ∙ ap (λ (rs : List (Option RigUnit)). list_any rig_answers rs) e ∙ sym (by-rigs u.units)

-- ---- every device of the bus

abbrev Same : BusState → BusState → Type 0
Same b n = (id : ℕ) → rigs_of (device_at n id) ≡ rigs_of (device_at b id)

device-set : (ds : List DeviceState) (id : ℕ) (d : DeviceState) → rigs_of d ≡ rigs_of (slice_index_or ds id no_device) → (k : ℕ) → rigs_of (slice_index_or (slice_set ds id d) k no_device) ≡ rigs_of (slice_index_or ds k no_device)
device-set [] id d e k = refl
device-set (x ∷ ds) zero d e zero = e
device-set (x ∷ ds) zero d e (suc k) = refl
device-set (x ∷ ds) (suc id) d e zero = refl
device-set (x ∷ ds) (suc id) d e (suc k) = device-set ds id d e k

with-same : (b : BusState) (id : ℕ) (d : DeviceState) → rigs_of d ≡ rigs_of (device_at b id) → Same b (with_device b id d)
with-same b id d e k = device-set b.devices id d e k

free-same : (gone : Bool) (b n : BusState) → Same b n → Same b (free_if gone n)
free-same true b n s = s
free-same false b n s = s

becomes-same : (b : BusState) (id : ℕ) (d : DeviceState) → rigs_of d ≡ rigs_of (device_at b id) → Same b (becomes b id d)
becomes-same b id d e = free-same _ b (with_device b id d) (with-same b id d e)

-- ---- the calls

on-same : (o : Option LogicalUnit) (t : Target) (f : LogicalUnit → Target) → ((u : LogicalUnit) → o ≡ Some u → rigs (f u).units ≡ rigs t.units) → rigs (on_unit o f t).units ≡ rigs t.units
on-same None t f g = refl
on-same (Some u) t f g = g u refl

parted-same : (l : ConnectionState) (t : Target) → rigs (parted l t).units ≡ rigs t.units
parted-same BusFree t = refl
parted-same (Selected heard) t = refl
parted-same (TakingCommand n taken) t = refl
parted-same (TaskConnected c) t = on-same (unit_at t.units c.lun) t (leaves t c) (λ u e. rigs-with_unit t.units c.lun u (unit_left u c.task) e refl)
parted-same (RogueConnected s n) t = refl

acts-same : (o : Option Move) (d : DeviceState) → rigs_of (acts o d) ≡ rigs_of d
acts-same None d = refl
acts-same (Some m) d = rigs-where_room d (target_acted d.target m) (rigs-acted d.target m)

chooses-same : (l : ConnectionState) (atn : Bool) (word : ℕ) (d : DeviceState) → rigs_of (chooses l atn word d) ≡ rigs_of d
chooses-same BusFree true word d = acts-same (named BusFree d.target word) d
chooses-same (Selected heard) true word d = acts-same (named (Selected heard) d.target word) d
chooses-same (TakingCommand n taken) true word d = acts-same (named (TakingCommand n taken) d.target word) d
chooses-same (TaskConnected c) true word d = refl
chooses-same (RogueConnected s n) true word d = acts-same (named (RogueConnected s n) d.target word) d
chooses-same BusFree false word d = acts-same (named BusFree d.target word) d
chooses-same (Selected heard) false word d = acts-same (named (Selected heard) d.target word) d
chooses-same (TakingCommand n taken) false word d = acts-same (named (TakingCommand n taken) d.target word) d
chooses-same (TaskConnected c) false word d = acts-same (named (TaskConnected c) d.target word) d
chooses-same (RogueConnected s n) false word d = acts-same (named (RogueConnected s n) d.target word) d

left-same : (shown : Option BusPhase) (d : DeviceState) → rigs_of (left_by shown d) ≡ rigs_of d
left-same None d = parted-same d.target.link d.target
left-same (Some p) d = refl

turned-same : (shown : Option BusPhase) (atn : Bool) (word : ℕ) (d : DeviceState) → rigs_of (turned_by shown atn word d) ≡ rigs_of d
turned-same None atn word d =
    let x : DeviceState = chooses d.target.link atn word d in
    left-same (link_phase x.target.link) x ∙ chooses-same d.target.link atn word d
turned-same (Some p) atn word d = refl

turn : (o : Option ℕ) (word : ℕ) (b : BusState) → Same b (after_turn o word b)
turn None word b = λ id. refl
turn (Some id) word b = becomes-same b id (turned b.atn word (device_at b id)) (turned-same (link_phase (device_at b id).target.link) b.atn word (device_at b id))

byte-in : (o byte : Option ℕ) (b : BusState) → Same b (after_byte_in o byte b)
byte-in None None b = λ id. refl
byte-in None (Some x) b = λ id. refl
byte-in (Some id) None b = λ id. refl
byte-in (Some id) (Some x) b = with-same b id (sent (Some x) (device_at b id)) refl

byte-out : (live : ℕ → Nexus → Option ℕ) (taken : Bool) (o : Option ℕ) (byte : ℕ) (b : BusState) → Same b (after_byte_out live taken o byte b)
byte-out live true None byte b = λ id. refl
byte-out live true (Some id) byte b = becomes-same b id (device_took live id (device_at b id) byte) (rigs-took (live id) (device_at b id).target byte)
byte-out live false None byte b = λ id. refl
byte-out live false (Some id) byte b = λ id. refl

message : (shown : Bool) (o : Option ℕ) (b : BusState) → Same b (messaged shown o b)
message true None b = λ id. refl
message true (Some id) b = becomes-same b id (device_messaged (device_at b id)) (rigs-where_room (device_at b id) (target_messaged (device_at b id).target) (rigs-messaged (device_at b id).target))
message false None b = λ id. refl
message false (Some id) b = λ id. refl

attention : (on : Bool) (b : BusState) → Same b (after_atn on b)
attention true b = λ id. refl
attention false b = message (is_message_out (link_phase (link_on b))) b.connected b

acks : (o : Option ℕ) (b : BusState) → Same b (acked o b)
acks None b = λ id. refl
acks (Some id) b = becomes-same b id (device_acked (device_at b id)) (rigs-where_room (device_at b id) (target_acked (device_at b id).target) (rigs-acked (device_at b id).target))

acknowledge : (ack : Bool) (b : BusState) → Same b (after_ack ack b)
acknowledge true b = acks b.connected b
acknowledge false b = λ id. refl

comes : (o : Option Candidate) (word : ℕ) (b : BusState) → Same b (after_reselection o word b)
comes None word b = λ id. refl
comes (Some c) word b = with-same b c.target (device_reselected (device_at b c.target) word c) (rigs-reselected (device_at b c.target).target c.lun c.number (word / 256 % 256))

selects : (o : Option Candidate) (there : Bool) (id word : ℕ) (b : BusState) → Same b (after_selection o there id word b)
selects (Some c) there id word b = comes (Some c) word b
selects None true id word b = with-same b id (device_selected (device_at b id)) refl
selects None false id word b = λ id. refl

by : (old to new : BusState) → new ≡ to → Same old to → Same old new
by old to new e s = subst (Same old) (sym e) s

calls-same : (units : List RigUnit) (live : ℕ → Nexus → Option ℕ) (old : BusState) (e : Event) (new : BusState) → moves units live old e new → Same old new
calls-same units live old (event.Phase word shown) new m = by old _ new m.1 (turn old.connected word old)
calls-same units live old (event.Shown shown) new m = by old old new m.1 (λ id. refl)
calls-same units live old (event.ByteIn byte) new m = by old _ new m.1 (byte-in old.connected byte old)
calls-same units live old (event.ByteOut byte taken) new m = by old _ new m.1 (byte-out live taken old.connected byte old)
calls-same units live old (event.Select target word settled) new m = by old _ new m.1 (selects (candidate_named units old word) (can_select old target) target word old)
calls-same units live old (event.Reselect word who) new m = by old _ new m.1 (comes (candidate_named units old word) word old)
calls-same units live old (event.SetAtn on) new m = by old _ new m (attention on old)
calls-same units live old event.ClearAck new m = by old _ new m (acknowledge old.ack old)
calls-same units live old (event.Leave word gone) new m = by old _ new m.1 (turn old.connected word old)

pub answering-same : (units : List RigUnit) (b n : BusState) → Same b n → AreAnswering units b → AreAnswering units n
answering-same units b n s a = record {
  target = a.target;
  answering = λ u l. let id : ℕ = (own.unit_at units u).target in answers-rigs (device_at n id).target (device_at b id).target (s id) ∙ a.answering u l;
}

-- ---- steps of the driver: room is made in logs, and the bus is reset

reserved-target : (d : DeviceState) (lun n : ℕ) (o : Option LogicalUnit) → (reserved_for d lun n o).target ≡ d.target
reserved-target d lun n None = refl
reserved-target d lun n (Some u) = refl

room-for : (d : DeviceState) (lun : ℕ) (o : Option LogicalUnit) → (with_room_for d lun o).target ≡ d.target
unfolding device_reserved
room-for d lun None = refl
room-for d lun (Some u) = reserved-target d lun (reserve_of u.rig) (unit_at d.target.units lun)

room-fold : (luns : List ℕ) (d : DeviceState) → (fold with_room_of d luns).target ≡ d.target
room-fold [] d = refl
room-fold (lun ∷ luns) d = room-fold luns (with_room_of d lun) ∙ room-for d lun (unit_at d.target.units lun)

room-rigs : (d : DeviceState) → rigs_of (with_room d) ≡ rigs_of d
room-rigs d = ap (λ (t : Target). rigs t.units) (room-fold (range_with_len 0 8) d)

map-rigs : (f : DeviceState → DeviceState) → ((d : DeviceState) → rigs_of (f d) ≡ rigs_of d) → (ds : List DeviceState) (k : ℕ) → rigs_of (slice_index_or (map f ds) k no_device) ≡ rigs_of (slice_index_or ds k no_device)
map-rigs f h [] k = refl
map-rigs f h (d ∷ ds) zero = h d
map-rigs f h (d ∷ ds) (suc k) = map-rigs f h ds k

pub answering-room : (units : List RigUnit) (b : BusState) (target : ℕ) → AreAnswering units b → AreAnswering units (with_room_at b target)
answering-room units b target a = answering-same units b (with_room_at b target) (with-same b target (with_room (device_at b target)) (room-rigs (device_at b target))) a

pub answering-reset : (units : List RigUnit) (b : BusState) → AreAnswering units b → AreAnswering units (bus_reset (with_all_room b))
answering-reset units b a =
    answering-same units b (bus_reset (with_all_room b))
    (λ k. map-rigs device_reset (λ d. rigs-where_room d (target_reset d.target) (rigs-reset d.target)) (map with_room b.devices) k ∙ map-rigs with_room room-rigs b.devices k) a

pub answering_stays : AnsweringStays
answering_stays units w new word answer run a =
    let bus_moves : BusState → Event → BusState → Type 0 = moves w.desk.units (live w.desk) in
    let x = steps_show (λ (b : BusState). b) (AreAnswering units) bus_moves bus_moves
    (λ b e n h m. (answering-same units b n (calls-same w.desk.units (live w.desk) b e n m) h, m)) word (chip_of w) run.end run.chip a run.ran in
    subst (λ (v : World). AreAnswering units v.bus) (sym run.world) x.0
