-- No call of the bus changes what the rig says of a unit, and none makes its disk smaller; nor do resets.
use Rattle.std.proofs.Common.{◌≡◌, ℕ, zero, suc, Bool, true, false, List, [], ◌∷◌, map, slice_set, slice_index_or, refl, sym, subst, Option, Some, None}
use Rattle.std.specs.Prelude.{fold}
use Rattle.std.specs.List.{range_with_len}
use Rattle.scsi_words.specs.declared.phases.kinds.Phase.{Phase as BusPhase}
use Rattle.rig_types.specs.declared.rig.Unit.{Unit as RigUnit}
use Rattle.chip_step.specs.Event.{Event, Phase, Shown, ByteIn, ByteOut, Select, Reselect, SetAtn, ClearAck, Leave}
use Rattle.chip_step.specs.Chip.{Chip}
use Rattle.chip_step.specs.Step.{ChipStep}
use Rattle.chip_step.specs.declared.outcome.StepEnd.{StepEnd}
use Rattle.chip_rows.specs.Following.{Follows}
use Rattle.chip_rows.proofs.RelatedBuses.{steps_follow}
use Rattle.target_law.specs.declared.moves.Move.{Move}
use Rattle.target_law.specs.declared.nexus.Nexus.{Nexus}
use Rattle.target_law.specs.Target.{LogicalUnit, ConnectionState, BusFree, Selected, TakingCommand, TaskConnected, RogueConnected, unit_at}
use Rattle.target_law.specs.Calls.{link_phase, is_free, target_acted, target_messaged, target_acked}
use Rattle.target_law.specs.Devices.{DeviceState, device_reserved, reserved_for}
use Rattle.bus_law.specs.Bus.{BusState, no_device, device_at, link_on, with_device, free_if, becomes, device_reset, bus_reset}
use Rattle.bus_law.specs.Choices.{named, acts, chooses, left_by, left_where, turned_by, turned, after_turn}
use Rattle.bus_law.specs.Bytes.{sent, after_byte_in, device_took, after_byte_out}
use Rattle.bus_law.specs.Reselections.{Candidate, candidate_named, device_reselected, reselected, after_reselection, can_select, device_selected, after_selection}
use Rattle.bus_law.specs.Attention.{is_message_out, device_messaged, messaged, after_atn, device_acked, acked, after_ack}
use Rattle.bus_law.specs.Moves.{moves}
use Rattle.bus_law.specs.Rooms.{reserve_of, with_room_for, with_room_of, with_room, with_room_at, with_all_room}
use Rattle.bench_core.proofs.UnitsGrow.{TargetGrows, units_stay, units_on, acted_grows, parted_grows, reset_grows, messaged_grows, acked_grows, reselected_grows, took_grows, room_grows}

-- ---- devices

abbrev pub DeviceGrows : DeviceState → DeviceState → Type 0
DeviceGrows d e = TargetGrows d.target e.target

stays : (d : DeviceState) → DeviceGrows d d
stays d = units_stay d.target.units

on : (d e f : DeviceState) → DeviceGrows d e → DeviceGrows e f → DeviceGrows d f
on d e f g h = units_on d.target.units e.target.units f.target.units g h

acts-grow : (o : Option Move) (d : DeviceState) → DeviceGrows d (acts o d)
acts-grow (Some m) d = room_grows d (target_acted d.target m) (acted_grows d.target m)
acts-grow None d = stays d

chooses-grow : (l : ConnectionState) (atn : Bool) (word : ℕ) (d : DeviceState) → DeviceGrows d (chooses l atn word d)
chooses-grow (TaskConnected c) true word d = stays d
chooses-grow (TaskConnected c) false word d = acts-grow (named (TaskConnected c) d.target word) d
chooses-grow BusFree atn word d = acts-grow (named BusFree d.target word) d
chooses-grow (Selected heard) atn word d = acts-grow (named (Selected heard) d.target word) d
chooses-grow (TakingCommand n taken) atn word d = acts-grow (named (TakingCommand n taken) d.target word) d
chooses-grow (RogueConnected s n) atn word d = acts-grow (named (RogueConnected s n) d.target word) d

left_by-grows : (shown : Option BusPhase) (d : DeviceState) → DeviceGrows d (left_by shown d)
left_by-grows None d = parted_grows d.target.link d.target
left_by-grows (Some p) d = stays d

turned_by-grows : (shown : Option BusPhase) (atn : Bool) (word : ℕ) (d : DeviceState) → DeviceGrows d (turned_by shown atn word d)
turned_by-grows None atn word d =
    on d (chooses d.target.link atn word d) (left_where (chooses d.target.link atn word d)) (chooses-grow d.target.link atn word d)
    (left_by-grows (link_phase (chooses d.target.link atn word d).target.link) (chooses d.target.link atn word d))
turned_by-grows (Some p) atn word d = stays d

-- ---- the bus

abbrev pub BusGrows : BusState → BusState → Type 0
BusGrows b b' = (id : ℕ) → DeviceGrows (device_at b id) (device_at b' id)

pub bus_stays : (b : BusState) → BusGrows b b
bus_stays b id = stays (device_at b id)

pub bus_on : (b c d : BusState) → BusGrows b c → BusGrows c d → BusGrows b d
bus_on b c d g h id = on (device_at b id) (device_at c id) (device_at d id) (g id) (h id)

set-grows : (ds : List DeviceState) (id : ℕ) (d : DeviceState) → DeviceGrows (slice_index_or ds id no_device) d → (k : ℕ)
    → DeviceGrows (slice_index_or ds k no_device) (slice_index_or (slice_set ds id d) k no_device)
set-grows [] id d g k = stays no_device
set-grows (x ∷ xs) zero d g zero = g
set-grows (x ∷ xs) zero d g (suc k) = stays (slice_index_or xs k no_device)
set-grows (x ∷ xs) (suc id) d g zero = stays x
set-grows (x ∷ xs) (suc id) d g (suc k) = set-grows xs id d g k

with-device : (b : BusState) (id : ℕ) (d : DeviceState) → DeviceGrows (device_at b id) d → BusGrows b (with_device b id d)
with-device b id d g k = set-grows b.devices id d g k

free-grows : (free : Bool) (b c : BusState) → BusGrows b c → BusGrows b (free_if free c)
free-grows true b c g id = g id
free-grows false b c g id = g id

becomes-grows : (b : BusState) (id : ℕ) (d : DeviceState) → DeviceGrows (device_at b id) d → BusGrows b (becomes b id d)
becomes-grows b id d g = free-grows (is_free d.target.link) b (with_device b id d) (with-device b id d g)

turn-grows : (connected : Option ℕ) (word : ℕ) (b : BusState) → BusGrows b (after_turn connected word b)
turn-grows None word b = bus_stays b
turn-grows (Some id) word b =
    becomes-grows b id (turned b.atn word (device_at b id)) (turned_by-grows (link_phase (device_at b id).target.link) b.atn word (device_at b id))

byte-in-grows : (connected byte : Option ℕ) (b : BusState) → BusGrows b (after_byte_in connected byte b)
byte-in-grows (Some id) (Some byte) b = λ k. with-device b id (sent (Some byte) (device_at b id)) (stays (device_at b id)) k
byte-in-grows (Some id) None b = bus_stays b
byte-in-grows None (Some byte) b = bus_stays b
byte-in-grows None None b = bus_stays b

byte-out-grows : (live : ℕ → Nexus → Option ℕ) (taken : Bool) (connected : Option ℕ) (byte : ℕ) (b : BusState) → BusGrows b (after_byte_out live taken connected byte b)
byte-out-grows live true (Some id) byte b = becomes-grows b id (device_took live id (device_at b id) byte) (took_grows (live id) (device_at b id).target byte)
byte-out-grows live true None byte b = bus_stays b
byte-out-grows live false (Some id) byte b = bus_stays b
byte-out-grows live false None byte b = bus_stays b

reselected-bus-grows : (b : BusState) (word : ℕ) (c : Candidate) → BusGrows b (reselected b word c)
reselected-bus-grows b word c = λ k. with-device b c.target (device_reselected (device_at b c.target) word c) (reselected_grows (device_at b c.target).target c.lun c.number _) k

reselection-grows : (o : Option Candidate) (word : ℕ) (b : BusState) → BusGrows b (after_reselection o word b)
reselection-grows None word b = bus_stays b
reselection-grows (Some c) word b = reselected-bus-grows b word c

selection-grows : (o : Option Candidate) (there : Bool) (id word : ℕ) (b : BusState) → BusGrows b (after_selection o there id word b)
selection-grows (Some c) there id word b = reselected-bus-grows b word c
selection-grows None true id word b = λ k. with-device b id (device_selected (device_at b id)) (stays (device_at b id)) k
selection-grows None false id word b = bus_stays b

messaged-grows : (shown : Bool) (connected : Option ℕ) (b : BusState) → BusGrows b (messaged shown connected b)
messaged-grows true (Some id) b =
    becomes-grows b id (device_messaged (device_at b id)) (room_grows (device_at b id) (target_messaged (device_at b id).target) (messaged_grows (device_at b id).target))
messaged-grows true None b = bus_stays b
messaged-grows false (Some id) b = bus_stays b
messaged-grows false None b = bus_stays b

atn-grows : (on : Bool) (b : BusState) → BusGrows b (after_atn on b)
atn-grows true b = bus_stays b
atn-grows false b = λ k. messaged-grows (is_message_out (link_phase (link_on b))) b.connected b k

acked-grows : (connected : Option ℕ) (b : BusState) → BusGrows b (acked connected b)
acked-grows None b = bus_stays b
acked-grows (Some id) b =
    becomes-grows b id (device_acked (device_at b id)) (room_grows (device_at b id) (target_acked (device_at b id).target) (acked_grows (device_at b id).target))

ack-grows : (ack : Bool) (b : BusState) → BusGrows b (after_ack ack b)
ack-grows true b = λ k. acked-grows b.connected b k
ack-grows false b = bus_stays b

led : (b made new : BusState) → new ≡ made → BusGrows b made → BusGrows b new
led b made new e g = subst (λ (x : BusState). BusGrows b x) (sym e) g

pub call_grows : (units : List RigUnit) (live : ℕ → Nexus → Option ℕ) (b : BusState) (event : Event) (new : BusState) → moves units live b event new → BusGrows b new
call_grows units live b (Phase word shown) new m = led b _ new m.1 (λ k. turn-grows b.connected word b k)
call_grows units live b (Shown shown) new m = led b b new m.1 (bus_stays b)
call_grows units live b (ByteIn byte) new m = led b _ new m.1 (byte-in-grows b.connected byte b)
call_grows units live b (ByteOut byte taken) new m = led b _ new m.1 (byte-out-grows live taken b.connected byte b)
call_grows units live b (Select target word settled) new m = led b _ new m.1 (selection-grows (candidate_named units b word) (can_select b target) target word b)
call_grows units live b (Reselect word by) new m = led b _ new m.1 (reselection-grows (candidate_named units b word) word b)
call_grows units live b (SetAtn on) new m = led b _ new m (atn-grows on b)
call_grows units live b ClearAck new m = led b _ new m (ack-grows b.ack b)
call_grows units live b (Leave word gone) new m = led b _ new m.1 (turn-grows b.connected word b)

-- ---- a step of the chip: the bus grows from what it was

abbrev Anything : {A : Type 0} → A → Event → A → Type 0
Anything x e y = Unit {0}

abbrev GrownFrom : BusState → BusState → Bool → Type 0
GrownFrom b x u = BusGrows b x × (u ≡ true)

pub step_grows : (units : List RigUnit) (live : ℕ → Nexus → Option ℕ) (word : ℕ) (old : Chip BusState) (end : StepEnd) (new : Chip BusState)
    → ChipStep (moves units live) word old end new → BusGrows old.bus new.bus
step_grows units live word old end new h =
    let follows : Follows (moves units live) Anything (GrownFrom old.bus) = λ x u event y r m.
    (true, tt, (bus_on old.bus x y r.0 (call_grows units live x event y m), refl), λ q. sym r.1) in
    let s = steps_follow (moves units live) Anything (GrownFrom old.bus) follows word old true end new (bus_stays old.bus, refl) h in
    s.2.0

-- ---- rooms and resets

reserved-grows : (o : Option LogicalUnit) (d : DeviceState) (lun n : ℕ) → DeviceGrows d (reserved_for d lun n o)
reserved-grows None d lun n = stays d
reserved-grows (Some u) d lun n = stays d

room-for-grows : (o : Option LogicalUnit) (d : DeviceState) (lun : ℕ) → DeviceGrows d (with_room_for d lun o)
unfolding device_reserved
room-for-grows None d lun = stays d
room-for-grows (Some u) d lun = reserved-grows (unit_at d.target.units lun) d lun (reserve_of u.rig)

rooms-grow : (luns : List ℕ) (d : DeviceState) → DeviceGrows d (fold with_room_of d luns)
rooms-grow [] d = stays d
rooms-grow (lun ∷ luns) d =
    on d (with_room_of d lun) (fold with_room_of (with_room_of d lun) luns) (room-for-grows (unit_at d.target.units lun) d lun) (rooms-grow luns (with_room_of d lun))

room-grows : (d : DeviceState) → DeviceGrows d (with_room d)
room-grows d = rooms-grow (range_with_len 0 8) d

pub room_at_grows : (b : BusState) (target : ℕ) → BusGrows b (with_room_at b target)
room_at_grows b target = with-device b target (with_room (device_at b target)) (room-grows (device_at b target))

mapped-grow : (f : DeviceState → DeviceState) → ((d : DeviceState) → DeviceGrows d (f d)) → (ds : List DeviceState) (k : ℕ)
    → DeviceGrows (slice_index_or ds k no_device) (slice_index_or (map f ds) k no_device)
mapped-grow f g [] k = stays no_device
mapped-grow f g (d ∷ ds) zero = g d
mapped-grow f g (d ∷ ds) (suc k) = mapped-grow f g ds k

all-room-grows : (b : BusState) → BusGrows b (with_all_room b)
all-room-grows b k = mapped-grow with_room room-grows b.devices k

pub reset_bus_grows : (b : BusState) → BusGrows b (bus_reset (with_all_room b))
reset_bus_grows b =
    bus_on b (with_all_room b) (bus_reset (with_all_room b)) (all-room-grows b)
    (λ k. mapped-grow device_reset (λ d. room_grows d _ (reset_grows d.target)) (with_all_room b).devices k)
