-- A candidate reselects, and a target is selected.
use Rattle.std.proofs.Common.{◌≡◌, ◌<◌, ◌≤◌, ◌⊎◌, inl, inr, ◌&&◌, ℕ, zero, suc, Bool, true, false, is_none, List, [], ◌∷◌, length, slice_set, slice_index_or, Option, Some, None, option_map, refl, sym, ap, subst, ◌∙◌, arith, ◌/◌, ◌%◌}
use Rattle.std.proofs.lemmas.List.{length-set}
use Rattle.rig_types.specs.declared.rig.Unit.{Unit as RigUnit}
use Rattle.chip_step.specs.Event.{Select, Reselect}
use Rattle.chip_step.specs.declared.scsi_bus.Settled.TheVariants.{Selected}
use Rattle.target_law.specs.declared.nexus.Nexus.{Nexus}
use Rattle.target_law.specs.Target.{unit_at}
use Rattle.target_law.specs.Calls.{is_free, answers, WaitsForAck, target_selected, target_reselected}
use Rattle.target_law.specs.Devices.{DeviceState}
use Rattle.bus_law.specs.Bus.{BusState, no_device, device_at, device_of, with_device}
use Rattle.bus_law.specs.Reselections as law
use Rattle.bus_law.specs.Reselections.{candidate_named, target_of, device_reselected, reselected, after_reselection, can_select, settles, device_selected, selected, after_selection}
use Rattle.bus_law.specs.Laws.{OneConnected}
use Rattle.bus_law.proofs.OneConnected.{stays_connected}
use Rattle.target_bus.specs.Fields.{bus_of, IsHeldBus}
use Rattle.target_bus.specs.Candidates.{IsOfUnit}
use Rattle.target_bus.proofs.BusInvariant.{quiet, read-is}
use Rattle.target_bus.proofs.CandidateCounts.{count-past}

not-some : (id : ℕ) → None ≡ Some id → ⊥
not-some id e = absurd cc

-- on a free bus ACK isn't asserted, and each device is free
pub free-quiet : (n : ℕ) (b : BusState) → IsHeldBus n b → b.connected ≡ None → b.ack ≡ false
free-quiet n b h e = quiet b.ack (λ a. subst (λ (o : Option ℕ). WaitsForAck (device_of b o).target.link) e (h.acknowledges a))

pub all-free : (n : ℕ) (b : BusState) (id : ℕ) (r : DeviceState) → IsHeldBus n b → b.connected ≡ None → id < 7 → r ≡ slice_index_or b.devices id r → (r ≡ device_at b id) × (is_free r.target.link ≡ true)
all-free n b id r h e l i =
    let here : r ≡ device_at b id = read-is b.devices id r (omega (arith, l, h.seven)) i in
    (here, ap (λ (d : DeviceState). is_free d.target.link) here ∙ h.one.others id (λ f. not-some id (sym e ∙ f)))

below : (a b : ℕ) → (a < b) ⊎ (b ≤ a)
below a zero = inr (omega arith)
below zero (suc b) = inl (omega arith)
below (suc a) (suc b) = elim (below a b) [
  | inl l ↦ inl (omega (arith, l))
  | inr g ↦ inr (omega (arith, g))
]

by-place : (l n : ℕ) (ds : List DeviceState) (id lun : ℕ) → n < law.candidate_count (unit_at (slice_index_or ds id no_device).target.units lun) → l ≡ length ds → id < l
by-place l n ds id lun c e = elim (below id (length ds)) [
  | inl b ↦ omega (arith, b, e)
  | inr a ↦ absurd (omega (arith, c, count-past ds id lun a))
]

pub candidate-within : (n : ℕ) (b : BusState) (c : law.Candidate) → IsHeldBus n b → IsOfUnit b c → c.target < 7
candidate-within n b c h i = by-place 7 c.number b.devices c.target c.lun i (sym h.seven)

-- ---- reselection

not-both : (a : Bool) → a ≡ true → a ≡ false → ⊥
not-both true e f = absurd cc
not-both false e f = absurd cc

connected-by : (n : ℕ) (b : BusState) (id : ℕ) (d : DeviceState) → IsHeldBus n b → b.connected ≡ None → OneConnected (record (with_device b id d) { connected = Some id })
    → IsHeldBus n (record (with_device b id d) { connected = Some id })
connected-by n b id d h e o = record {
  counted = h.counted;
  seven = length-set b.devices id d ∙ h.seven;
  one = o;
  acknowledges = λ a. absurd (not-both b.ack a (free-quiet n b h e));
}

pub reselected-held : (n : ℕ) (units : List RigUnit) (b : BusState) (word : ℕ) (c : law.Candidate) → IsHeldBus n b → Some c ≡ candidate_named units b word → b.connected ≡ None
    → IsHeldBus n (reselected b word c)
reselected-held n units b word c h named e =
    let one : OneConnected (reselected b word c) =
    stays_connected units (λ (i : ℕ) (x : Nexus). None) b (Reselect word (Some c.target)) (reselected b word c) h.one
    (ap (λ (o : Option law.Candidate). option_map target_of o) named, ap (λ (o : Option law.Candidate). after_reselection o word b) named) in
    connected-by n b c.target (device_reselected (device_at b c.target) word c) h e one

pub reselected-is : (b : BusState) (word : ℕ) (c : law.Candidate) (r d : DeviceState) → r ≡ device_at b c.target
    → d ≡ record { target = target_reselected r.target c.lun c.number (word / 256 % 256); rooms = r.rooms }
    → bus_of (slice_set b.devices c.target d) (Some c.target) b.atn b.ack b.asked ≡ reselected b word c
reselected-is b word c r d i e =
    ap (λ (x : DeviceState). bus_of (slice_set b.devices c.target x) (Some c.target) b.atn b.ack b.asked)
    (e ∙ ap (λ (x : DeviceState). record { target = target_reselected x.target c.lun c.number (word / 256 % 256); rooms = x.rooms }) i)

-- ---- selection

pub selected-held : (n : ℕ) (units : List RigUnit) (b : BusState) (id word : ℕ) → IsHeldBus n b → None ≡ candidate_named units b word → true ≡ can_select b id → b.connected ≡ None
    → IsHeldBus n (selected b id)
selected-held n units b id word h named can e =
    let one : OneConnected (selected b id) =
    stays_connected units (λ (i : ℕ) (x : Nexus). None) b (Select id word Selected) (selected b id) h.one (
      ap (λ (t : Bool). settles None t) can ∙ ap (λ (o : Option law.Candidate). settles o (can_select b id)) named,
      ap (λ (t : Bool). after_selection None t id word b) can ∙ ap (λ (o : Option law.Candidate). after_selection o (can_select b id) id word b) named,
    ) in
    connected-by n b id (device_selected (device_at b id)) h e one

pub selected-is : (b : BusState) (id : ℕ) (r d : DeviceState) → r ≡ device_at b id → d ≡ record { target = target_selected r.target; rooms = r.rooms }
    → bus_of (slice_set b.devices id d) (Some id) b.atn b.ack b.asked ≡ selected b id
selected-is b id r d i e =
    ap (λ (x : DeviceState). bus_of (slice_set b.devices id x) (Some id) b.atn b.ack b.asked) (e ∙ ap (λ (x : DeviceState). record { target = target_selected x.target; rooms = x.rooms }) i)

nobody-answers : answers no_device.target ≡ false
unfolding answers
nobody-answers = refl

answers-past : (ds : List DeviceState) (id : ℕ) → length ds ≤ id → answers (slice_index_or ds id no_device).target ≡ false
answers-past [] id l = nobody-answers
answers-past (d ∷ ds) zero l = absurd (omega (arith, l))
answers-past (d ∷ ds) (suc id) l = answers-past ds id (omega (arith, l))

and-false : (a b : Bool) → b ≡ false → false ≡ (a && b)
and-false true b e = sym e
and-false false b e = refl

-- on a bus that isn't free, or past the devices, nobody answers
pub cannot-busy : (b : BusState) (id : ℕ) → is_none b.connected ≡ false → false ≡ can_select b id
cannot-busy b id e = sym (ap (λ (t : Bool). t && answers (device_at b id).target) e)

pub cannot-past : (n : ℕ) (b : BusState) (id : ℕ) → IsHeldBus n b → 7 ≤ id → false ≡ can_select b id
cannot-past n b id h l = and-false (is_none b.connected) (answers (device_at b id).target) (answers-past b.devices id (omega (arith, l, h.seven)))

pub can-there : (n : ℕ) (b : BusState) (id : ℕ) (r : DeviceState) (t : Bool) → IsHeldBus n b → is_none b.connected ≡ true → id < 7 → r ≡ slice_index_or b.devices id r → t ≡ answers r.target → t ≡ can_select b id
can-there n b id r t h e l i a =
    a ∙ ap (λ (d : DeviceState). answers d.target) (read-is b.devices id r (omega (arith, l, h.seven)) i)
    ∙ sym (ap (λ (free : Bool). free && answers (device_at b id).target) e)

both : (a b : Bool) → (a && b) ≡ true → (a ≡ true) × (b ≡ true)
both true b h = (refl, h)
both false b h = absurd (let f : false ≡ true = h in cc)

free-of : (o : Option ℕ) → is_none o ≡ true → o ≡ None
free-of None e = refl
free-of (Some x) e = absurd (let f : false ≡ true = e in cc)

-- where it can be selected, the bus is free, and it answers
pub can-parts : (b : BusState) (id : ℕ) → true ≡ can_select b id → (b.connected ≡ None) × (answers (device_at b id).target ≡ true)
can-parts b id e =
    let h = both (is_none b.connected) (answers (device_at b id).target) (sym e) in
    (free-of b.connected h.0, h.1)
