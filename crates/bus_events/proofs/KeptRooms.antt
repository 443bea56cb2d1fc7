-- No call of the bus changes how many entries a log has room for.
use Rattle.std.proofs.Common.{◌≡◌, ℕ, zero, suc, Bool, true, false, List, [], ◌∷◌, length, length-set, slice_index_or, slice_set, refl, ap, ◌∙◌, Option, Some, None, cond}
use Rattle.scsi_words.specs.declared.phases.kinds.Phase.{Phase as BusPhase}
use Rattle.rig_types.specs.declared.rig.Unit.{Unit as RigUnit}
use Rattle.chip_step.specs.Event.{Event, Phase, Shown, ByteIn, ByteOut, Select, Reselect, SetAtn, ClearAck, Leave}
use Rattle.target_law.specs.declared.moves.Move.{Move}
use Rattle.target_law.specs.declared.nexus.Nexus.{Nexus}
use Rattle.target_law.specs.Target.{ConnectionState, BusFree, TakingCommand, TaskConnected, RogueConnected, Target}
use Rattle.target_law.specs.Target as connection_state
use Rattle.target_law.specs.Calls.{is_free, link_phase, target_acted, target_messaged, target_acked}
use Rattle.target_law.specs.Devices.{DeviceState, where_room, lie_within}
use Rattle.bus_law.specs.Bus.{BusState, no_device, device_at, link_on, free_if, with_device, becomes}
use Rattle.bus_law.specs.Choices.{named, acts, chooses, left_by, turned_by, turned, after_turn}
use Rattle.bus_law.specs.Bytes.{sent, after_byte_in, device_took, after_byte_out}
use Rattle.bus_law.specs.Reselections.{Candidate, candidate_named, device_reselected, after_reselection, can_select, device_selected, after_selection}
use Rattle.bus_law.specs.Attention.{is_message_out, device_messaged, messaged, after_atn, device_acked, acked, after_ack}
use Rattle.bus_law.specs.Moves.{moves}

-- the rooms of each device
abbrev pub rooms : BusState → ℕ → List ℕ
rooms b i = (device_at b i).rooms

rooms-set : (ds : List DeviceState) (id : ℕ) (d : DeviceState) → d.rooms ≡ (slice_index_or ds id no_device).rooms → (j : ℕ) → (slice_index_or (slice_set ds id d) j no_device).rooms ≡ (slice_index_or ds j no_device).rooms
rooms-set [] id d e j = refl
rooms-set (x ∷ xs) zero d e zero = e
rooms-set (x ∷ xs) zero d e (suc j) = refl
rooms-set (x ∷ xs) (suc id) d e zero = refl
rooms-set (x ∷ xs) (suc id) d e (suc j) = rooms-set xs id d e j

abbrev Keep : (old new : BusState) → Type 0
Keep old new = (j : ℕ) → rooms new j ≡ rooms old j

free-keeps : (f : Bool) (b : BusState) → Keep b (free_if f b)
free-keeps true b j = refl
free-keeps false b j = refl

becomes-keeps : (b : BusState) (id : ℕ) (d : DeviceState) → d.rooms ≡ rooms b id → Keep b (becomes b id d)
becomes-keeps b id d e j = free-keeps (is_free d.target.link) (with_device b id d) j ∙ rooms-set b.devices id d e j

pub where-rooms : (d : DeviceState) (t : Target) → (where_room d t).rooms ≡ d.rooms
unfolding where_room
where-rooms d t = by (lie_within t.units d.rooms)
  where
    by : (b : Bool) → (cond b (record { target = t; rooms = d.rooms }) d).rooms ≡ d.rooms
    by true = refl
    by false = refl

acts-rooms : (o : Option Move) (d : DeviceState) → (acts o d).rooms ≡ d.rooms
acts-rooms (Some m) d = where-rooms d (target_acted d.target m)
acts-rooms None d = refl

chooses-rooms : (l : ConnectionState) (atn : Bool) (word : ℕ) (d : DeviceState) → (chooses l atn word d).rooms ≡ d.rooms
chooses-rooms (TaskConnected c) true word d = refl
chooses-rooms (TaskConnected c) false word d = acts-rooms (named (TaskConnected c) d.target word) d
chooses-rooms BusFree atn word d = acts-rooms (named BusFree d.target word) d
chooses-rooms (connection_state.Selected heard) atn word d = acts-rooms (named (connection_state.Selected heard) d.target word) d
chooses-rooms (TakingCommand n taken) atn word d = acts-rooms (named (TakingCommand n taken) d.target word) d
chooses-rooms (RogueConnected s n) atn word d = acts-rooms (named (RogueConnected s n) d.target word) d

left-rooms : (o : Option BusPhase) (d : DeviceState) → (left_by o d).rooms ≡ d.rooms
left-rooms None d = refl
left-rooms (Some p) d = refl

turned-rooms : (o : Option BusPhase) (atn : Bool) (word : ℕ) (d : DeviceState) → (turned_by o atn word d).rooms ≡ d.rooms
turned-rooms None atn word d = let y = chooses d.target.link atn word d in left-rooms (link_phase y.target.link) y ∙ chooses-rooms d.target.link atn word d
turned-rooms (Some p) atn word d = refl

turn-keeps : (o : Option ℕ) (word : ℕ) (b : BusState) → Keep b (after_turn o word b)
turn-keeps None word b j = refl
turn-keeps (Some id) word b j = becomes-keeps b id (turned b.atn word (device_at b id)) (turned-rooms (link_phase (device_at b id).target.link) b.atn word (device_at b id)) j

byte-in-keeps : (o byte : Option ℕ) (b : BusState) → Keep b (after_byte_in o byte b)
byte-in-keeps None None b j = refl
byte-in-keeps None (Some x) b j = refl
byte-in-keeps (Some id) None b j = refl
byte-in-keeps (Some id) (Some x) b j = rooms-set b.devices id (sent (Some x) (device_at b id)) refl j

byte-out-keeps : (live : ℕ → Nexus → Option ℕ) (taken : Bool) (o : Option ℕ) (byte : ℕ) (b : BusState) → Keep b (after_byte_out live taken o byte b)
byte-out-keeps live true None byte b j = refl
byte-out-keeps live true (Some id) byte b j = becomes-keeps b id (device_took live id (device_at b id) byte) refl j
byte-out-keeps live false o byte b j = refl

reselected-keeps : (o : Option Candidate) (word : ℕ) (b : BusState) → Keep b (after_reselection o word b)
reselected-keeps None word b j = refl
reselected-keeps (Some c) word b j = rooms-set b.devices c.target (device_reselected (device_at b c.target) word c) refl j

selected-keeps : (o : Option Candidate) (there : Bool) (id word : ℕ) (b : BusState) → Keep b (after_selection o there id word b)
selected-keeps (Some c) there id word b j = rooms-set b.devices c.target (device_reselected (device_at b c.target) word c) refl j
selected-keeps None true id word b j = rooms-set b.devices id (device_selected (device_at b id)) refl j
selected-keeps None false id word b j = refl

message-keeps : (shown : Bool) (o : Option ℕ) (b : BusState) → Keep b (messaged shown o b)
message-keeps true None b j = refl
message-keeps true (Some id) b j = becomes-keeps b id (device_messaged (device_at b id)) (where-rooms (device_at b id) (target_messaged (device_at b id).target)) j
message-keeps false o b j = refl

attention-keeps : (on : Bool) (b : BusState) → Keep b (after_atn on b)
attention-keeps true b j = refl
attention-keeps false b j = message-keeps (is_message_out (link_phase (link_on b))) b.connected b j

acked-keeps : (o : Option ℕ) (b : BusState) → Keep b (acked o b)
acked-keeps None b j = refl
acked-keeps (Some id) b j = becomes-keeps b id (device_acked (device_at b id)) (where-rooms (device_at b id) (target_acked (device_at b id).target)) j

ack-keeps : (ack : Bool) (b : BusState) → Keep b (after_ack ack b)
ack-keeps true b j = acked-keeps b.connected b j
ack-keeps false b j = refl

made : (old new b : BusState) → new ≡ b → Keep old b → Keep old new
made old new b e k j = ap (λ z. rooms z j) e ∙ k j

pub rooms-stay : (units : List RigUnit) (live : ℕ → Nexus → Option ℕ) (old : BusState) (event : Event) (new : BusState) → moves units live old event new → (j : ℕ) → rooms new j ≡ rooms old j
rooms-stay units live old (Phase word shown) new m = made old new _ m.1 (turn-keeps old.connected word old)
rooms-stay units live old (Shown shown) new m = made old new old m.1 (λ j. refl)
rooms-stay units live old (ByteIn byte) new m = made old new _ m.1 (byte-in-keeps old.connected byte old)
rooms-stay units live old (ByteOut byte taken) new m = made old new _ m.1 (byte-out-keeps live taken old.connected byte old)
rooms-stay units live old (Select target word settled) new m = made old new _ m.1 (selected-keeps (candidate_named units old word) (can_select old target) target word old)
rooms-stay units live old (Reselect word by) new m = made old new _ m.1 (reselected-keeps (candidate_named units old word) word old)
rooms-stay units live old (SetAtn on) new m = made old new _ m (attention-keeps on old)
rooms-stay units live old ClearAck new m = made old new _ m (ack-keeps old.ack old)
rooms-stay units live old (Leave word gone) new m = made old new _ m.1 (turn-keeps old.connected word old)

-- ---- no device comes or goes
abbrev SameSize : (old new : BusState) → Type 0
SameSize old new = length new.devices ≡ length old.devices

becomes-size : (b : BusState) (id : ℕ) (d : DeviceState) → SameSize b (becomes b id d)
becomes-size b id d = by (is_free d.target.link) ∙ length-set b.devices id d
  where
    by : (f : Bool) → length (free_if f (with_device b id d)).devices ≡ length (with_device b id d).devices
    by true = refl
    by false = refl

turn-size : (o : Option ℕ) (word : ℕ) (b : BusState) → SameSize b (after_turn o word b)
turn-size None word b = refl
turn-size (Some id) word b = becomes-size b id (turned b.atn word (device_at b id))

byte-in-size : (o byte : Option ℕ) (b : BusState) → SameSize b (after_byte_in o byte b)
byte-in-size None None b = refl
byte-in-size None (Some x) b = refl
byte-in-size (Some id) None b = refl
byte-in-size (Some id) (Some x) b = length-set b.devices id (sent (Some x) (device_at b id))

byte-out-size : (live : ℕ → Nexus → Option ℕ) (taken : Bool) (o : Option ℕ) (byte : ℕ) (b : BusState) → SameSize b (after_byte_out live taken o byte b)
byte-out-size live true None byte b = refl
byte-out-size live true (Some id) byte b = becomes-size b id (device_took live id (device_at b id) byte)
byte-out-size live false o byte b = refl

reselected-size : (o : Option Candidate) (word : ℕ) (b : BusState) → SameSize b (after_reselection o word b)
reselected-size None word b = refl
reselected-size (Some c) word b = length-set b.devices c.target (device_reselected (device_at b c.target) word c)

selected-size : (o : Option Candidate) (there : Bool) (id word : ℕ) (b : BusState) → SameSize b (after_selection o there id word b)
selected-size (Some c) there id word b = length-set b.devices c.target (device_reselected (device_at b c.target) word c)
selected-size None true id word b = length-set b.devices id (device_selected (device_at b id))
selected-size None false id word b = refl

message-size : (shown : Bool) (o : Option ℕ) (b : BusState) → SameSize b (messaged shown o b)
message-size true None b = refl
message-size true (Some id) b = becomes-size b id (device_messaged (device_at b id))
message-size false o b = refl

attention-size : (on : Bool) (b : BusState) → SameSize b (after_atn on b)
attention-size true b = refl
attention-size false b = message-size (is_message_out (link_phase (link_on b))) b.connected b

acked-size : (o : Option ℕ) (b : BusState) → SameSize b (acked o b)
acked-size None b = refl
acked-size (Some id) b = becomes-size b id (device_acked (device_at b id))

ack-size : (ack : Bool) (b : BusState) → SameSize b (after_ack ack b)
ack-size true b = acked-size b.connected b
ack-size false b = refl

sized : (old new b : BusState) → new ≡ b → SameSize old b → SameSize old new
sized old new b e k = ap (λ (z : BusState). length z.devices) e ∙ k

pub devices-stay : (units : List RigUnit) (live : ℕ → Nexus → Option ℕ) (old : BusState) (event : Event) (new : BusState) → moves units live old event new → length new.devices ≡ length old.devices
devices-stay units live old (Phase word shown) new m = sized old new _ m.1 (turn-size old.connected word old)
devices-stay units live old (Shown shown) new m = sized old new old m.1 refl
devices-stay units live old (ByteIn byte) new m = sized old new _ m.1 (byte-in-size old.connected byte old)
devices-stay units live old (ByteOut byte taken) new m = sized old new _ m.1 (byte-out-size live taken old.connected byte old)
devices-stay units live old (Select target word settled) new m = sized old new _ m.1 (selected-size (candidate_named units old word) (can_select old target) target word old)
devices-stay units live old (Reselect word by) new m = sized old new _ m.1 (reselected-size (candidate_named units old word) word old)
devices-stay units live old (SetAtn on) new m = sized old new _ m (attention-size on old)
devices-stay units live old ClearAck new m = sized old new _ m (ack-size old.ack old)
devices-stay units live old (Leave word gone) new m = sized old new _ m.1 (turn-size old.connected word old)
