-- The connected device isn't free, and every other one is.
use Rattle.std.proofs.Common.{arith, ◌≡◌, ◌≢◌, ◌<◌, ◌≤◌, ◌+◌, ◌%◌, ℕ, zero, suc, Bool, true, false, nat_lt, is_none, length, slice_get, slice_set, slice_index_or, List, [], ◌∷◌, ◌++◌, map, Option, Some, None, refl, sym, ap, subst, ◌∙◌, ◌⊎◌, inl, inr}
use Rattle.std.specs.List.{range_with_len}
use Rattle.std.proofs.lemmas.List.{get_or-set_same, get_or-set_other}
use Rattle.std.proofs.lemmas.Bool.{and_parts}
use Rattle.rig_types.specs.declared.rig.Unit.{Unit as RigUnit}
use Rattle.chip_step.specs.Event.{Event, Phase, Shown, ByteIn, ByteOut, Select, Reselect, SetAtn, ClearAck, Leave}
use Rattle.target_law.specs.declared.nexus.Nexus.{Nexus}
use Rattle.target_law.specs.Session.{Task}
use Rattle.target_law.specs.Target.{LogicalUnit, ConnectionState, BusFree, Selected, TakingCommand, TaskConnected, RogueConnected, Target, unit_at, on_unit, target_opened, target_reset}
use Rattle.target_law.specs.Calls.{answers, is_free, link_phase, sent_if, is_rogue, selected_by, candidates_by, task_reselected, reselected_by, target_reselected}
use Rattle.target_law.specs.Devices.{DeviceState, device_opened, lie_within, where_room}
use Rattle.bus_law.specs.Bus.{BusState, no_device, device_at, link_on, free_if, with_device, becomes, units_of, bus_opened, device_reset, bus_reset}
use Rattle.bus_law.specs.Choices.{turned, after_turn}
use Rattle.bus_law.specs.Bytes.{sent, after_byte_in, device_took, after_byte_out}
use Rattle.bus_law.specs.Reselections.{Candidate, candidate_count, candidates_of, all_candidates, if_id, with_id, named_if, calls, candidate_named, device_reselected, reselected, after_reselection, can_select, device_selected, after_selection}
use Rattle.bus_law.specs.Attention.{is_message_out, device_messaged, messaged, after_atn, device_acked, acked, after_ack}
use Rattle.bus_law.specs.Moves.{moves}
use Rattle.bus_law.specs.Laws.{OneConnected, HasResetRoom}

abbrev free_at : List DeviceState → ℕ → Bool
free_at ds id = is_free (slice_index_or ds id no_device).target.link

-- ---- who is connected

some-is : (a b : ℕ) → Some a ≡ Some b → a ≡ b
some-is a b e = cc

not-none : (a : ℕ) → None ≡ Some a → ⊥
not-none a e = absurd cc

-- the device that isn't free stands on the bus
within : (ds : List DeviceState) (id : ℕ) → free_at ds id ≡ false → id < length ds
within [] id h = absurd cc
within (d ∷ ds) zero h = omega arith
within (d ∷ ds) (suc id) h = omega (arith, within ds id h)

-- a device of a free bus, or the connected one, changes
all-free : (b : BusState) → b.connected ≡ None → OneConnected b → (id : ℕ) → is_free (device_at b id).target.link ≡ true
all-free b e c id = c.others id (λ h. not-none id (sym e ∙ h))

set-here : (ds : List DeviceState) (id k : ℕ) (d : DeviceState) → id < length ds → k ≡ id → slice_index_or (slice_set ds id d) k no_device ≡ d
set-here ds id k d h e = ap (λ (n : ℕ). slice_index_or (slice_set ds id d) n no_device) e ∙ get_or-set_same ds id d no_device h

held-here : (b : BusState) (id : ℕ) (d : DeviceState) → id < length b.devices → is_free d.target.link ≡ false → ((k : ℕ) → k ≢ id → free_at b.devices k ≡ true)
    → OneConnected (record (with_device b id d) { connected = Some id })
held-here b id d l f o = record {
  connected = λ k e. ap (λ (x : DeviceState). is_free x.target.link) (set-here b.devices id k d l (some-is k id (sym e))) ∙ f;
  others = λ k n. let m : k ≢ id = λ e. n (ap (λ (x : ℕ). Some x) (sym e)) in
      ap (λ (x : DeviceState). is_free x.target.link) (get_or-set_other b.devices id k d no_device m) ∙ o k m;
}

-- the same with ATN, ACK and the phase that was asked for left open
carry : (a b : BusState) → a.devices ≡ b.devices → a.connected ≡ b.connected → OneConnected b → OneConnected a
carry a b d e c = record {
  connected = λ k h. ap (λ (ds : List DeviceState). free_at ds k) d ∙ c.connected k (sym e ∙ h);
  others = λ k h. ap (λ (ds : List DeviceState). free_at ds k) d ∙ c.others k (λ x. h (e ∙ x));
}

others-free : (b : BusState) (id : ℕ) → b.connected ≡ Some id → OneConnected b → (k : ℕ) → k ≢ id → free_at b.devices k ≡ true
others-free b id e c k n = c.others k (λ h. n (sym (some-is id k (sym e ∙ h))))

is-within : (b : BusState) (id : ℕ) → b.connected ≡ Some id → OneConnected b → id < length b.devices
is-within b id e c = within b.devices id (c.connected id e)

-- the connected device goes on
stays-held : (b : BusState) (id : ℕ) (d : DeviceState) → b.connected ≡ Some id → is_free d.target.link ≡ false → OneConnected b → OneConnected (with_device b id d)
stays-held b id d e f c =
    carry (with_device b id d) (record (with_device b id d) { connected = Some id }) refl e (held-here b id d (is-within b id e c) f (others-free b id e c))

-- the connected device changes, and may leave the bus
free-now : (b : BusState) (id : ℕ) (d : DeviceState) → id < length b.devices → is_free d.target.link ≡ true → ((k : ℕ) → k ≢ id → free_at b.devices k ≡ true) → (k : ℕ) → (k ≡ id) ⊎ (k ≢ id)
    → free_at (slice_set b.devices id d) k ≡ true
free-now b id d l f o k (inl e) = ap (λ (x : DeviceState). is_free x.target.link) (set-here b.devices id k d l e) ∙ f
free-now b id d l f o k (inr n) = ap (λ (x : DeviceState). is_free x.target.link) (get_or-set_other b.devices id k d no_device n) ∙ o k n

pub same-or-not : (a b : ℕ) → (a ≡ b) ⊎ (a ≢ b)
same-or-not zero zero = inl refl
same-or-not zero (suc b) = inr (λ e. absurd (omega (arith, e)))
same-or-not (suc a) zero = inr (λ e. absurd (omega (arith, e)))
same-or-not (suc a) (suc b) = elim (same-or-not a b) [
  | inl e ↦ inl (ap (λ (n : ℕ). suc n) e)
  | inr n ↦ inr (λ e. n (omega (arith, e)))
]

changed : (gone : Bool) (b : BusState) (id : ℕ) (d : DeviceState) → is_free d.target.link ≡ gone → b.connected ≡ Some id → OneConnected b → OneConnected (free_if gone (with_device b id d))
changed true b id d f e c = record {
  connected = λ k h. absurd (not-none k h);
  others = λ k n. free-now b id d (is-within b id e c) f (others-free b id e c) k (same-or-not k id);
}
changed false b id d f e c = stays-held b id d e f c

comes-to : (b : BusState) (id : ℕ) (d : DeviceState) → b.connected ≡ Some id → OneConnected b → OneConnected (becomes b id d)
comes-to b id d e c = changed (is_free d.target.link) b id d refl e c

-- ---- the calls

turn : (o : Option ℕ) (word : ℕ) (b : BusState) → b.connected ≡ o → OneConnected b → OneConnected (after_turn o word b)
turn None word b e c = c
turn (Some id) word b e c = comes-to b id (turned b.atn word (device_at b id)) e c

sent-holds : (byte : Option ℕ) (l : ConnectionState) → is_free l ≡ false → is_free (sent_if byte l) ≡ false
sent-holds None l h = h
sent-holds (Some x) BusFree h = absurd cc
sent-holds (Some x) (Selected heard) h = refl
sent-holds (Some x) (TakingCommand n taken) h = refl
sent-holds (Some x) (TaskConnected c) h = refl
sent-holds (Some x) (RogueConnected s n) h = refl

byte-in : (o byte : Option ℕ) (b : BusState) → b.connected ≡ o → OneConnected b → OneConnected (after_byte_in o byte b)
byte-in None None b e c = c
byte-in None (Some x) b e c = c
byte-in (Some id) None b e c = c
byte-in (Some id) (Some x) b e c =
    carry _ (with_device b id (sent (Some x) (device_at b id))) refl refl
    (stays-held b id (sent (Some x) (device_at b id)) e (sent-holds (Some x) (device_at b id).target.link (c.connected id e)) c)

byte-out : (live : ℕ → Nexus → Option ℕ) (taken : Bool) (o : Option ℕ) (byte : ℕ) (b : BusState) → b.connected ≡ o → OneConnected b → OneConnected (after_byte_out live taken o byte b)
byte-out live true None byte b e c = c
byte-out live true (Some id) byte b e c = comes-to b id (device_took live id (device_at b id) byte) e c
byte-out live false None byte b e c = c
byte-out live false (Some id) byte b e c = c

message : (shown : Bool) (o : Option ℕ) (b : BusState) → b.connected ≡ o → OneConnected b → OneConnected (messaged shown o b)
message true None b e c = c
message true (Some id) b e c = comes-to b id (device_messaged (device_at b id)) e c
message false None b e c = c
message false (Some id) b e c = c

attention : (on : Bool) (b : BusState) → OneConnected b → OneConnected (after_atn on b)
attention true b c = carry (after_atn true b) b refl refl c
attention false b c =
    let x : BusState = messaged (is_message_out (link_phase (link_on b))) b.connected b in
    carry (after_atn false b) x refl refl (message (is_message_out (link_phase (link_on b))) b.connected b refl c)

acks : (o : Option ℕ) (b : BusState) → b.connected ≡ o → OneConnected b → OneConnected (acked o b)
acks None b e c = c
acks (Some id) b e c = comes-to b id (device_acked (device_at b id)) e c

acknowledges : (ack : Bool) (b : BusState) → OneConnected b → OneConnected (after_ack ack b)
acknowledges true b c = carry (after_ack true b) (acked b.connected b) refl refl (acks b.connected b refl c)
acknowledges false b c = c

-- ---- candidates: each is one of its unit's

abbrev IsCandidate : BusState → Candidate → Type 0
IsCandidate b c = c.number < candidate_count (unit_at (device_at b c.target).target.units c.lun)

abbrev AreCandidates : BusState → List Candidate → Type 0
AreCandidates b [] = Unit {0}
AreCandidates b (c ∷ cs) = IsCandidate b c × AreCandidates b cs

of-unit : (b : BusState) (r : RigUnit) (from n : ℕ) → from + n ≤ candidate_count (unit_at (device_at b r.target).target.units r.lun)
    → AreCandidates b (map (λ (k : ℕ). record { target = r.target; lun = r.lun; number = k }) (range_with_len from n))
of-unit b r from zero h = tt
of-unit b r from (suc n) h = (omega (arith, h), of-unit b r (from + 1) n (omega (arith, h)))

both : (b : BusState) (cs ds : List Candidate) → AreCandidates b cs → AreCandidates b ds → AreCandidates b (cs ++ ds)
both b [] ds h k = k
both b (c ∷ cs) ds h k = (h.0, both b cs ds h.1 k)

of-rig : (b : BusState) (units : List RigUnit) → AreCandidates b (all_candidates units b)
of-rig b [] = tt
of-rig b (r ∷ rs) = both b (candidates_of b r) (all_candidates rs b) (of-unit b r 0 _ (omega arith)) (of-rig b rs)

at-place : (b : BusState) (cs : List Candidate) (k : ℕ) (c : Candidate) → AreCandidates b cs → slice_get cs k ≡ Some c → IsCandidate b c
at-place b [] k c h e = absurd cc
at-place b (x ∷ xs) zero c h e = let f : x ≡ c = cc in subst (IsCandidate b) f h.0
at-place b (x ∷ xs) (suc k) c h e = at-place b xs k c h.1 e

kept : (k : Bool) (x c : Candidate) → if_id k x ≡ Some c → x ≡ c
kept true x c e = cc
kept false x c e = absurd cc

with-place : (b : BusState) (o : Option Candidate) (c : Candidate) → ((x : Candidate) → o ≡ Some x → IsCandidate b x) → with_id o ≡ Some c → IsCandidate b c
with-place b None c h e = absurd cc
with-place b (Some x) c h e = subst (IsCandidate b) (kept (nat_lt x.target 8) x c e) (h x refl)

is-candidate : (b : BusState) (called : Bool) (cs : List Candidate) (word : ℕ) (c : Candidate) → AreCandidates b cs → named_if called cs word ≡ Some c → IsCandidate b c
is-candidate b true cs word c h e = with-place b (slice_get cs (word % 256 % length cs)) c (λ x f. at-place b cs (word % 256 % length cs) x h f) e
is-candidate b false cs word c h e = absurd cc

-- ---- a device that a reselection or a selection connects isn't free

task-holds : (t : Target) (lun n : ℕ) (u : LogicalUnit) (ks : List Task) (o : Option Task) → n < length ks → slice_get ks n ≡ o → is_free (task_reselected t lun n u o).link ≡ false
task-holds t lun n u ks (Some k) l e = refl
task-holds t lun n u [] None l e = absurd (omega (arith, l))
task-holds t lun zero u (k ∷ ks) None l e = absurd cc
task-holds t lun (suc n) u (k ∷ ks) None l e = let z : is_free (task_reselected t lun n u None).link ≡ false = task-holds t lun n u ks None (omega (arith, l)) e in z

unit-holds : (rogue : Bool) (t : Target) (lun n tag : ℕ) (u : LogicalUnit) → n < candidates_by rogue u → is_free (reselected_by rogue t lun n tag u).link ≡ false
unit-holds true t lun n tag u l = refl
unit-holds false t lun n tag u l = task-holds t lun n u u.tasks (slice_get u.tasks n) l refl

at-unit : (o : Option LogicalUnit) (t : Target) (lun n tag : ℕ) → n < candidate_count o → is_free (on_unit o (λ u. reselected_by u.rig.rogue t lun n tag u) t).link ≡ false
at-unit None t lun n tag l = absurd (omega (arith, l))
at-unit (Some u) t lun n tag l = unit-holds u.rig.rogue t lun n tag u l

reselected-holds : (t : Target) (lun n tag : ℕ) → n < candidate_count (unit_at t.units lun) → is_free (target_reselected t lun n tag).link ≡ false
unfolding target_reselected
reselected-holds t lun n tag l = at-unit (unit_at t.units lun) t lun n tag l

selected-holds : (rogue : Bool) → is_free (selected_by rogue) ≡ false
selected-holds true = refl
selected-holds false = refl

-- a device with a unit stands on the bus
stands : (ds : List DeviceState) (id : ℕ) → (slice_index_or ds id no_device ≡ no_device → ⊥) → id < length ds
stands [] id h = absurd (h refl)
stands (d ∷ ds) zero h = omega arith
stands (d ∷ ds) (suc id) h = omega (arith, stands ds id h)

nobody-there : (lun : ℕ) → candidate_count (unit_at [] lun) ≡ 0
unfolding unit_at
nobody-there lun = refl

candidate-stands : (b : BusState) (c : Candidate) → IsCandidate b c → c.target < length b.devices
candidate-stands b c h =
    stands b.devices c.target
    (λ e. let z : c.number < candidate_count (unit_at [] c.lun) = subst (λ (d : DeviceState). c.number < candidate_count (unit_at d.target.units c.lun)) e h in
    absurd (omega (arith, z, nobody-there c.lun)))

nobody-answers : answers no_device.target ≡ true → ⊥
unfolding answers
nobody-answers h = absurd cc

answers-stands : (b : BusState) (id : ℕ) → answers (device_at b id).target ≡ true → id < length b.devices
answers-stands b id h = stands b.devices id (λ e. nobody-answers (subst (λ (d : DeviceState). answers d.target ≡ true) e h))

-- ---- selection and reselection

none-is : (o : Option ℕ) → is_none o ≡ true → o ≡ None
none-is None h = refl
none-is (Some x) h = absurd cc

connects-candidate : (b : BusState) (word : ℕ) (c : Candidate) → b.connected ≡ None → IsCandidate b c → OneConnected b → OneConnected (reselected b word c)
connects-candidate b word c e h o =
    held-here b c.target (device_reselected (device_at b c.target) word c) (candidate-stands b c h)
    (reselected-holds (device_at b c.target).target c.lun c.number _ h) (λ k n. all-free b e o k)

was-called : (called : Bool) (cs : List Candidate) (word : ℕ) (c : Candidate) → named_if called cs word ≡ Some c → called ≡ true
was-called true cs word c e = refl
was-called false cs word c e = absurd cc

named-connects : (units : List RigUnit) (b : BusState) (word : ℕ) (c : Candidate) → candidate_named units b word ≡ Some c → OneConnected b → OneConnected (reselected b word c)
named-connects units b word c e o =
    let called : calls b word ≡ true = was-called (calls b word) (all_candidates units b) word c e in
    connects-candidate b word c (none-is b.connected (and_parts (is_none b.connected) _ called).0)
    (is-candidate b (calls b word) (all_candidates units b) word c (of-rig b units) e) o

reselects : (units : List RigUnit) (o : Option Candidate) (word : ℕ) (b : BusState) → candidate_named units b word ≡ o → OneConnected b → OneConnected (after_reselection o word b)
reselects units None word b e c = c
reselects units (Some x) word b e c = named-connects units b word x e c

selects : (units : List RigUnit) (o : Option Candidate) (there : Bool) (id word : ℕ) (b : BusState) → candidate_named units b word ≡ o → can_select b id ≡ there → OneConnected b
    → OneConnected (after_selection o there id word b)
selects units (Some x) there id word b e t c = named-connects units b word x e c
selects units None true id word b e t c =
    let h : (is_none b.connected ≡ true) × (answers (device_at b id).target ≡ true) = and_parts (is_none b.connected) (answers (device_at b id).target) t in
    held-here b id (device_selected (device_at b id)) (answers-stands b id h.1) (selected-holds (is_rogue (device_at b id).target))
    (λ k n. all-free b (none-is b.connected h.0) c k)
selects units None false id word b e t c = c

-- ---- the laws

by : (new made : BusState) → new ≡ made → OneConnected made → OneConnected new
by new made e c = subst (λ (b : BusState). OneConnected b) (sym e) c

pub stays_connected : (units : List RigUnit) (live : ℕ → Nexus → Option ℕ) (old : BusState) (event : Event) (new : BusState) → OneConnected old → moves units live old event new → OneConnected new
stays_connected units live old (Phase word shown) new c m = by new _ m.1 (carry _ (after_turn old.connected word old) refl refl (turn old.connected word old refl c))
stays_connected units live old (Shown shown) new c m = by new old m.1 c
stays_connected units live old (ByteIn byte) new c m = by new _ m.1 (byte-in old.connected byte old refl c)
stays_connected units live old (ByteOut byte taken) new c m = by new _ m.1 (byte-out live taken old.connected byte old refl c)
stays_connected units live old (Select target word settled) new c m =
    by new _ m.1 (selects units (candidate_named units old word) (can_select old target) target word old refl refl c)
stays_connected units live old (Reselect word who) new c m = by new _ m.1 (reselects units (candidate_named units old word) word old refl c)
stays_connected units live old (SetAtn on) new c m = by new _ m (attention on old c)
stays_connected units live old ClearAck new c m = by new _ m (acknowledges old.ack old c)
stays_connected units live old (Leave word gone) new c m = by new _ m.1 (turn old.connected word old refl c)

opened-free : (units : List RigUnit) → is_free (target_opened units).link ≡ true
unfolding target_opened
opened-free units = refl

all-opened : (units : List RigUnit) (from n k : ℕ) → free_at (map (λ (id : ℕ). device_opened (units_of units id)) (range_with_len from n)) k ≡ true
all-opened units from zero k = refl
all-opened units from (suc n) zero = opened-free (units_of units from)
all-opened units from (suc n) (suc k) = all-opened units (from + 1) n k

pub opens_connected : (units : List RigUnit) → OneConnected (bus_opened units)
opens_connected units = record { connected = λ k h. absurd (not-none k h); others = λ k n. all-opened units 0 7 k }

reset-free : (t : Target) → is_free (target_reset t).link ≡ true
unfolding target_reset
reset-free t = refl

room-free : (fits : Bool) (d : DeviceState) → lie_within (target_reset d.target).units d.rooms ≡ fits → fits ≡ true → is_free (device_reset d).target.link ≡ true
unfolding where_room
room-free true d e f = rw (e) (reset-free d.target)
room-free false d e f = absurd cc

all-reset : (ds : List DeviceState) (k : ℕ) → ((id : ℕ) → HasResetRoom (slice_index_or ds id no_device)) → free_at (map device_reset ds) k ≡ true
all-reset [] k h = refl
all-reset (d ∷ ds) zero h = room-free (lie_within (target_reset d.target).units d.rooms) d refl (h 0)
all-reset (d ∷ ds) (suc k) h = all-reset ds k (λ id. h (suc id))

pub resets_connected : (b : BusState) → ((id : ℕ) → HasResetRoom (device_at b id)) → OneConnected (bus_reset b)
resets_connected b h = record { connected = λ k e. absurd (not-none k e); others = λ k n. all-reset b.devices k h }
