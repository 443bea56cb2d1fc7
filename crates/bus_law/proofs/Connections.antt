-- Who is connected after each call.
use Rattle.std.proofs.Common.{◌≡◌, ℕ, Bool, true, false, List, Option, Some, None, option_map, refl, sym, ap, ◌∙◌, ◌⊎◌, inl, inr}
use Rattle.rig_types.specs.declared.rig.Unit.{Unit as RigUnit}
use Rattle.chip_step.specs.Event.{Event, Phase, Shown, ByteIn, ByteOut, Select, Reselect, SetAtn, ClearAck, Leave}
use Rattle.chip_step.specs.declared.scsi_bus.Settled.{Settled}
use Rattle.chip_step.specs.declared.scsi_bus.Settled.TheVariants.{Selected, Reselected, TimedOut}
use Rattle.target_law.specs.declared.nexus.Nexus.{Nexus}
use Rattle.target_law.specs.Calls.{link_phase}
use Rattle.target_law.specs.Devices.{DeviceState}
use Rattle.bus_law.specs.Bus.{BusState, link_on, free_if, with_device}
use Rattle.bus_law.specs.Choices.{after_turn}
use Rattle.bus_law.specs.Bytes.{after_byte_in, after_byte_out}
use Rattle.bus_law.specs.Reselections.{Candidate, candidate_named, target_of, after_reselection, can_select, settles, after_selection}
use Rattle.bus_law.specs.Attention.{messaged, is_message_out, acked, after_atn, after_ack}
use Rattle.bus_law.specs.Moves.{moves}
use Rattle.bus_law.specs.Laws.{Connects}

abbrev Holds : BusState → BusState → Type 0
Holds old new = (new.connected ≡ old.connected) ⊎ (new.connected ≡ None)

by : (old made new : BusState) → new ≡ made → Holds old made → Holds old new
by old made new e h = elim h [
  | inl x ↦ inl (ap (λ (b : BusState). b.connected) e ∙ x)
  | inr x ↦ inr (ap (λ (b : BusState). b.connected) e ∙ x)
]

left : (f : Bool) (b : BusState) (id : ℕ) (d : DeviceState) → Holds b (free_if f (with_device b id d))
left true b id d = inr refl
left false b id d = inl refl

turn : (id : Option ℕ) (word : ℕ) (b : BusState) → Holds b (after_turn id word b)
turn None word b = inl refl
turn (Some id) word b = left _ b id _

byte_in : (id byte : Option ℕ) (b : BusState) → Holds b (after_byte_in id byte b)
byte_in (Some id) (Some x) b = inl refl
byte_in (Some id) None b = inl refl
byte_in None (Some x) b = inl refl
byte_in None None b = inl refl

byte_out : (live : ℕ → Nexus → Option ℕ) (taken : Bool) (id : Option ℕ) (byte : ℕ) (b : BusState) → Holds b (after_byte_out live taken id byte b)
byte_out live true (Some id) byte b = left _ b id _
byte_out live true None byte b = inl refl
byte_out live false id byte b = inl refl

message : (shown : Bool) (id : Option ℕ) (b : BusState) → Holds b (messaged shown id b)
message true (Some id) b = left _ b id _
message true None b = inl refl
message false id b = inl refl

atn : (on : Bool) (b : BusState) → Holds b (after_atn on b)
atn true b = inl refl
atn false b = message (is_message_out (link_phase (link_on b))) b.connected b

acks : (id : Option ℕ) (b : BusState) → Holds b (acked id b)
acks None b = inl refl
acks (Some id) b = left _ b id _

ack : (on : Bool) (b : BusState) → Holds b (after_ack on b)
ack true b = acks b.connected b
ack false b = inl refl

selects : (o : Option Candidate) (there : Bool) (target word : ℕ) (left_where : Settled) (old new : BusState) → left_where ≡ settles o there → new ≡ after_selection o there target word old → Connects old (Select target word left_where) new
selects (Some c) there target word Selected old new e m = absurd cc
selects (Some c) there target word (Reselected by) old new e m = let f : by ≡ c.target = cc in ap (λ (b : BusState). b.connected) m ∙ ap (λ (n : ℕ). Some n) (sym f)
selects (Some c) there target word TimedOut old new e m = absurd cc
selects None true target word Selected old new e m = ap (λ (b : BusState). b.connected) m
selects None true target word (Reselected by) old new e m = absurd cc
selects None true target word TimedOut old new e m = absurd cc
selects None false target word Selected old new e m = absurd cc
selects None false target word (Reselected by) old new e m = absurd cc
selects None false target word TimedOut old new e m = inl (ap (λ (b : BusState). b.connected) m)

reselects : (o : Option Candidate) (word : ℕ) (who : Option ℕ) (old new : BusState) → who ≡ option_map target_of o → new ≡ after_reselection o word old → Connects old (Reselect word who) new
reselects (Some c) word (Some x) old new e m = let f : x ≡ c.target = cc in ap (λ (b : BusState). b.connected) m ∙ ap (λ (n : ℕ). Some n) (sym f)
reselects (Some c) word None old new e m = absurd cc
reselects None word (Some x) old new e m = absurd cc
reselects None word None old new e m = inl (ap (λ (b : BusState). b.connected) m)

pub connects : (units : List RigUnit) (live : ℕ → Nexus → Option ℕ) (old : BusState) (event : Event) (new : BusState) → moves units live old event new → Connects old event new
connects units live old (Phase word shown) new m = by old _ new m.1 (turn old.connected word old)
connects units live old (Shown shown) new m = by old old new m.1 (inl refl)
connects units live old (ByteIn byte) new m = by old _ new m.1 (byte_in old.connected byte old)
connects units live old (ByteOut byte taken) new m = by old _ new m.1 (byte_out live taken old.connected byte old)
connects units live old (Select target word left_where) new m = selects (candidate_named units old word) (can_select old target) target word left_where old new m.0 m.1
connects units live old (Reselect word who) new m = reselects (candidate_named units old word) word who old new m.0 m.1
connects units live old (SetAtn on) new m = by old _ new m (atn on old)
connects units live old ClearAck new m = by old _ new m (ack old.ack old)
connects units live old (Leave word gone) new m = by old _ new m.1 (turn old.connected word old)
