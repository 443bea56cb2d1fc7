-- Each move of the bus keeps the laws of a bus.
use Rattle.std.proofs.Common.{arith, ◌≡◌, ◌<◌, ℕ, Bool, true, false, ◌||◌, nat_lt, is_none, ◌%◌, length, slice_get, List, Option, Some, None, option_map, refl, sym, ap, subst, ◌∙◌}
use Rattle.std.proofs.lemmas.Bool.Decides.{nat_tests}
use Rattle.scsi_words.specs.declared.phases.kinds.Phase.{Phase as BusPhase}
use Rattle.scsi_words.specs.declared.phases.kinds.Phase.TheVariants.{MsgIn}
use Rattle.rig_types.specs.declared.rig.Unit.{Unit as RigUnit}
use Rattle.chip_step.specs.Event.{Event, Phase, Shown, ByteIn, ByteOut, Select, Reselect, SetAtn, ClearAck, Leave}
use Rattle.chip_step.specs.Laws.{IsLawful}
use Rattle.chip_step.specs.declared.scsi_bus.Settled.TheVariants.{Selected, Reselected, TimedOut}
use Rattle.target_law.specs.declared.nexus.Nexus.{Nexus}
use Rattle.target_law.specs.Target as connection_state
use Rattle.target_law.specs.Target.{ConnectionState, BusFree, TakingCommand, TaskConnected, RogueConnected}
use Rattle.target_law.specs.Calls.{is_free, link_phase, link_byte}
use Rattle.target_law.specs.Devices.{DeviceState}
use Rattle.bus_law.specs.Bus.{BusState, device_at, device_of, link_on, signals_of, free_if, with_device}
use Rattle.bus_law.specs.Choices.{chooses, left_by, turned_by, turned, after_turn, phase_after}
use Rattle.bus_law.specs.Bytes.{if_asked, is_same_phase, byte_of, is_message_in, after_byte_in}
use Rattle.bus_law.specs.Reselections.{Candidate, if_id, with_id, named_if, calls, candidate_named, target_of, after_reselection, settles, all_candidates}
use Rattle.bus_law.specs.Attention.{after_ack}
use Rattle.bus_law.specs.Moves.{moves}

unfree : (l : ConnectionState) (p : BusPhase) → Some p ≡ link_phase l → is_free l ≡ false
unfree BusFree p e = absurd cc
unfree (connection_state.Selected heard) p e = refl
unfree (TakingCommand n taken) p e = refl
unfree (TaskConnected c) p e = refl
unfree (RogueConnected s n) p e = refl

-- a target that has had its turn and shows nothing has left the bus
left-free : (shown : Option BusPhase) (d : DeviceState) → link_phase d.target.link ≡ shown → link_phase (left_by shown d).target.link ≡ None → is_free (left_by shown d).target.link ≡ true
left-free None d e h = refl
left-free (Some p) d e h = let f : Some p ≡ None = sym e ∙ h in absurd cc

turned-free : (shown : Option BusPhase) (atn : Bool) (word : ℕ) (d : DeviceState) → link_phase d.target.link ≡ shown → link_phase (turned_by shown atn word d).target.link ≡ None
    → is_free (turned_by shown atn word d).target.link ≡ true
turned-free None atn word d e h =
    let x : DeviceState = chooses d.target.link atn word d in left-free (link_phase x.target.link) x refl h
turned-free (Some p) atn word d e h = let f : Some p ≡ None = sym e ∙ h in absurd cc

turn-frees : (id : Option ℕ) (b : BusState) (word : ℕ) → b.connected ≡ id → None ≡ phase_after id word b → is_none (after_turn id word b).connected ≡ true
turn-frees None b word e h = ap (λ (x : Option ℕ). is_none x) e
turn-frees (Some id) b word e h =
    let d : DeviceState = device_at b id in
    let t : DeviceState = turned b.atn word d in
    ap (λ (f : Bool). is_none (free_if f (with_device b id t)).connected) (turned-free (link_phase d.target.link) b.atn word d refl (sym h))

turn-holds : (id : Option ℕ) (b : BusState) (word : ℕ) (p : BusPhase) → b.connected ≡ id → Some p ≡ phase_after id word b → is_none (after_turn id word b).connected ≡ false
turn-holds None b word p e h = absurd cc
turn-holds (Some id) b word p e h =
    let t : DeviceState = turned b.atn word (device_at b id) in
    ap (λ (f : Bool). is_none (free_if f (with_device b id t)).connected) (unfree t.target.link p h) ∙ ap (λ (x : Option ℕ). is_none x) e

-- bytes
no_byte : (asked : Bool) → if_asked asked None ≡ None
no_byte true = refl
no_byte false = refl

byte-below : (asked : Bool) (o : Option ℕ) (byte : ℕ) → Some byte ≡ if_asked asked o → byte < 256
byte-below true (Some x) byte e =
    let f : byte ≡ x % 256 = cc in omega (arith, f)
byte-below true None byte e = absurd cc
byte-below false o byte e = absurd cc

byte-acks : (id : Option ℕ) (b new : BusState) (byte : ℕ) → b.connected ≡ id → Some byte ≡ byte_of b → new ≡ after_byte_in id (Some byte) b → link_phase (link_on b) ≡ Some MsgIn → new.ack ≡ true
byte-acks None b new byte e h m shown =
    let free : link_on b ≡ BusFree = ap (λ (x : Option ℕ). (device_of b x).target.link) e in
    let f : Some byte ≡ None = h ∙ ap (λ (l : ConnectionState). if_asked (is_same_phase b.asked (link_phase l)) (link_byte l)) free ∙ no_byte (is_same_phase b.asked None) in
    absurd cc
byte-acks (Some id) b new byte e h m shown = ap (λ (x : BusState). x.ack) m ∙ ap (λ (p : Option BusPhase). is_message_in p || b.ack) shown

no_byte-stays : (id : Option ℕ) (b : BusState) → after_byte_in id None b ≡ b
no_byte-stays None b = refl
no_byte-stays (Some id) b = refl

-- a candidate's ID is below 8
kept-below : (k : Bool) (x c : Candidate) → nat_lt x.target 8 ≡ k → if_id k x ≡ Some c → c.target < 8
kept-below true x c e h =
    let same : Candidate = x in
    let f : x ≡ c = cc in
    subst (λ (y : Candidate). y.target < 8) f (grind (arith, nat_tests, e))
kept-below false x c e h = absurd cc

in_range-below : (o : Option Candidate) (c : Candidate) → with_id o ≡ Some c → c.target < 8
in_range-below None c h = absurd cc
in_range-below (Some x) c h = kept-below (nat_lt x.target 8) x c refl h

candidate-below : (called : Bool) (cs : List Candidate) (word : ℕ) (c : Candidate) → named_if called cs word ≡ Some c → c.target < 8
candidate-below true cs word c h = in_range-below (slice_get cs (word % 256 % length cs)) c h
candidate-below false cs word c h = absurd cc

settles-below : (o : Option Candidate) (there : Bool) (by : ℕ) → ((c : Candidate) → o ≡ Some c → c.target < 8) → Reselected by ≡ settles o there → by < 8
settles-below (Some c) there by below h = let e : by ≡ c.target = cc in subst (λ (n : ℕ). n < 8) (sym e) (below c refl)
settles-below None true by below h = absurd cc
settles-below None false by below h = absurd cc

answer-below : (o : Option Candidate) (by : ℕ) → ((c : Candidate) → o ≡ Some c → c.target < 8) → Some by ≡ option_map target_of o → by < 8
answer-below (Some c) by below h = let e : by ≡ c.target = cc in subst (λ (n : ℕ). n < 8) (sym e) (below c refl)
answer-below None by below h = absurd cc

nobody-stays : (o : Option Candidate) (word : ℕ) (b : BusState) → None ≡ option_map target_of o → after_reselection o word b ≡ b
nobody-stays None word b h = refl
nobody-stays (Some c) word b h = absurd cc

unacknowledged : (ack : Bool) (b : BusState) → ack ≡ false → after_ack ack b ≡ b
unacknowledged true b e = absurd cc
unacknowledged false b e = refl

free-stays : (id : Option ℕ) (word : ℕ) (b : BusState) → is_none id ≡ true → after_turn id word b ≡ b
free-stays None word b e = refl
free-stays (Some id) word b e = absurd cc

pub moves_lawfully : (units : List RigUnit) (live : ℕ → Nexus → Option ℕ) (old : BusState) (event : Event) (new : BusState) → moves units live old event new → IsLawful signals_of old event new
moves_lawfully units live old (Phase word None) new m = ap (λ (b : BusState). is_none b.connected) m.1 ∙ turn-frees old.connected old word refl m.0
moves_lawfully units live old (Phase word (Some p)) new m = ap (λ (b : BusState). is_none b.connected) m.1 ∙ turn-holds old.connected old word p refl m.0
moves_lawfully units live old (Shown shown) new m = m.0
moves_lawfully units live old (ByteIn (Some byte)) new m =
    (byte-below (is_same_phase old.asked (link_phase (link_on old))) (link_byte (link_on old)) byte m.0, λ shown. byte-acks old.connected old new byte refl m.0 m.1 shown)
moves_lawfully units live old (ByteIn None) new m = m.1 ∙ no_byte-stays old.connected old
moves_lawfully units live old (ByteOut byte true) new m = tt
moves_lawfully units live old (ByteOut byte false) new m = m.1
moves_lawfully units live old (Select target word Selected) new m = tt
moves_lawfully units live old (Select target word (Reselected by)) new m =
    settles-below (candidate_named units old word) _ by (λ c h. candidate-below (calls old word) (all_candidates units old) word c h) m.0
moves_lawfully units live old (Select target word TimedOut) new m = tt
moves_lawfully units live old (Reselect word (Some by)) new m =
    answer-below (candidate_named units old word) by (λ c h. candidate-below (calls old word) (all_candidates units old) word c h) m.0
moves_lawfully units live old (Reselect word None) new m = m.1 ∙ nobody-stays (candidate_named units old word) word old m.0
moves_lawfully units live old (SetAtn true) new m = λ e. let with : Bool → BusState = λ a. record old { atn = a } in m ∙ ap with (sym e)
moves_lawfully units live old (SetAtn false) new m = tt
moves_lawfully units live old ClearAck new m = λ e. m ∙ unacknowledged old.ack old e
moves_lawfully units live old (Leave word gone) new m = (m.0 ∙ ap (λ (b : BusState). is_none b.connected) (sym m.1), λ e. m.1 ∙ free-stays old.connected word old e)
