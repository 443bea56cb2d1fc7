-- What holds of the bus between its calls holds after each call.
use Rattle.std.proofs.Common.{◌≡◌, ◌<◌, ◌&&◌, ◌||◌, not, ℕ, Bool, true, false, length, slice_set, slice_index_or, List, [], Option, Some, None, refl, sym, ap, subst, ◌∙◌, ◌⊎◌, inl, inr, zero, suc, ◌∷◌, ◌++◌, arith}
use Rattle.std.proofs.lemmas.List.{get_or-set_same, length-set}
use Rattle.scsi_words.specs.declared.phases.kinds.Phase.{Phase as BusPhase}
use Rattle.scsi_words.specs.declared.phases.kinds.Phase.TheVariants as phase
use Rattle.chip_step.specs.Event.{ByteIn, ByteOut, SetAtn, ClearAck}
use Rattle.target_law.specs.declared.nexus.Nexus.{Nexus}
use Rattle.target_law.specs.declared.task_phase.TargetMessage.{TargetMessage}
use Rattle.target_law.specs.declared.task_phase.TaskPhase.{TaskPhase}
use Rattle.target_law.specs.declared.task_phase.TaskPhase.TheVariants.{ToChoose, MessageOut, DataIn, DataOut, Status, MessageIn}
use Rattle.target_law.specs.declared.rogue_phase.RoguePhase.{RoguePhase}
use Rattle.target_law.specs.declared.rogue_phase.RoguePhase.TheVariants as rogue_shows
use Rattle.target_law.specs.Bytes.{Connection, phase_of, byte_by, takes_by, sent_by}
use Rattle.target_law.specs.RoguePhases.{rogue_phase, rogue_byte, rogue_takes, rogue_sent}
use Rattle.target_law.specs.Target.{LogicalUnit, linked, ConnectionState, BusFree, Selected, TakingCommand, TaskConnected, RogueConnected, Target, unit_at}
use Rattle.target_law.specs.Beginning.{has_place, where_placed, begins_if, took_where, target_took}
use Rattle.target_law.specs.Calls.{is_free, link_phase, link_byte, link_takes, link_sent, sent_if, WaitsForAck, nexus_of, is_whole, target_begun}
use Rattle.target_law.specs.Devices.{DeviceState}
use Rattle.bus_law.specs.Bus.{BusState, no_device, device_at, link_on, free_if, with_device, becomes}
use Rattle.bus_law.specs.Bytes.{sent, byte_of, if_asked, is_same_phase, is_message_in, after_byte_in, after_byte_out, device_took}
use Rattle.bus_law.specs.Attention.{is_message_out, device_messaged, device_acked, messaged, acked, after_ack}
use Rattle.bus_law.specs.Laws.{OneConnected}
use Rattle.bus_law.proofs.OneConnected.{stays_connected}
use Rattle.target_bus.specs.Fields.{bus_of, IsHeldBus, kept_if, ticket_on, ack_by}

-- what is known while a message byte waits for ACK
pub record Waits (l : ConnectionState) : Type 0 where
  pub shown : link_phase l ≡ Some phase.MsgIn
  pub takes : link_takes l ≡ false
  pub none : link_byte l ≡ None

pub waits : (l : ConnectionState) → WaitsForAck l → Waits l
waits BusFree w = absurd w
waits (Selected heard) w = absurd w
waits (TakingCommand n taken) w = absurd w
waits (TaskConnected c) w = record { shown = ap phase_of w.1; takes = ap takes_by w.1; none = ap (λ (s : TaskPhase). byte_by s c.task c.lun) w.1 }
waits (RogueConnected s n) (inl w) = record { shown = ap rogue_phase w.1; takes = ap rogue_takes w.1; none = ap (λ (x : RoguePhase). rogue_byte x n) w.1 }
waits (RogueConnected s n) (inr w) = record { shown = ap rogue_phase w.1; takes = ap rogue_takes w.1; none = ap (λ (x : RoguePhase). rogue_byte x n) w.1 }

-- a byte of MSG_IN that is sent waits for it
said : (s : TaskPhase) (c : Connection) → phase_of s ≡ Some phase.MsgIn → (n : TargetMessage) × ((sent_by s c).shows ≡ MessageIn n true)
said ToChoose c e = absurd cc
said MessageOut c e = absurd (let f : Some phase.MsgOut ≡ Some phase.MsgIn = e in cc)
said (DataIn n) c e = absurd (let f : Some phase.DataIn ≡ Some phase.MsgIn = e in cc)
said (DataOut n) c e = absurd (let f : Some phase.DataOut ≡ Some phase.MsgIn = e in cc)
said (Status v) c e = absurd (let f : Some phase.Status ≡ Some phase.MsgIn = e in cc)
said (MessageIn n sent) c e = (n, refl)

strays-said : (s : RoguePhase) (n : Option Nexus) → rogue_phase s ≡ Some phase.MsgIn → WaitsForAck (RogueConnected (rogue_sent s) n)
strays-said rogue_shows.ToChoose n e = absurd cc
strays-said rogue_shows.MessageOut n e = absurd (let f : Some phase.MsgOut ≡ Some phase.MsgIn = e in cc)
strays-said (rogue_shows.DataIn left b) n e = absurd (let f : Some phase.DataIn ≡ Some phase.MsgIn = e in cc)
strays-said (rogue_shows.DataOut left) n e = absurd (let f : Some phase.DataOut ≡ Some phase.MsgIn = e in cc)
strays-said (rogue_shows.Command left) n e = absurd (let f : Some phase.Command ≡ Some phase.MsgIn = e in cc)
strays-said (rogue_shows.Status b) n e = absurd (let f : Some phase.Status ≡ Some phase.MsgIn = e in cc)
strays-said (rogue_shows.MessageIn b sent) n e = inl (b, refl)
strays-said (rogue_shows.Reselection p sent) n e = inr (p, refl)

sent-waits : (l : ConnectionState) → link_phase l ≡ Some phase.MsgIn → WaitsForAck (link_sent l)
sent-waits BusFree e = absurd cc
sent-waits (Selected heard) e = absurd (let f : Some phase.MsgOut ≡ Some phase.MsgIn = e in cc)
sent-waits (TakingCommand n taken) e = absurd (let f : Some phase.Command ≡ Some phase.MsgIn = e in cc)
sent-waits (TaskConnected c) e = said c.shows c e
sent-waits (RogueConnected s n) e = strays-said s n e

is-in : (p : Option BusPhase) → is_message_in p ≡ true → p ≡ Some phase.MsgIn
is-in (Some phase.MsgIn) e = refl
is-in None e = absurd cc
is-in (Some phase.DataOut) e = absurd cc
is-in (Some phase.DataIn) e = absurd cc
is-in (Some phase.Command) e = absurd cc
is-in (Some phase.Status) e = absurd cc
is-in (Some phase.MsgOut) e = absurd cc

or-cases : (a b : Bool) → (a || b) ≡ true → (a ≡ true) ⊎ (b ≡ true)
or-cases true b e = inl refl
or-cases false b e = inr e

not-both : (a : Bool) → a ≡ true → a ≡ false → ⊥
not-both true e f = absurd cc
not-both false e f = absurd cc

pub quiet : (a : Bool) → (a ≡ true → ⊥) → a ≡ false
quiet true h = absurd (h refl)
quiet false h = refl

-- the link of the connected device
pub link-is : (b : BusState) (id : ℕ) → b.connected ≡ Some id → link_on b ≡ (device_at b id).target.link
link-is b id e = rw e refl

-- where the device takes a byte, or shows MSG_OUT, ACK isn't asserted
pub taking-quiet : (n : ℕ) (b : BusState) → IsHeldBus n b → link_takes (link_on b) ≡ true → b.ack ≡ false
taking-quiet n b h e = quiet b.ack (λ a. not-both (link_takes (link_on b)) e (waits (link_on b) (h.acknowledges a)).takes)

pub hearing-quiet : (n : ℕ) (b : BusState) → IsHeldBus n b → is_message_out (link_phase (link_on b)) ≡ true → b.ack ≡ false
hearing-quiet n b h e = quiet b.ack (λ a. not-both (is_message_out (link_phase (link_on b))) e (ap is_message_out (waits (link_on b) (h.acknowledges a)).shown))

-- ---- the connected device becomes another

and-true : (a : Bool) → (a && true) ≡ a
and-true true = refl
and-true false = refl

and-false : (a : Bool) → (a && false) ≡ false
and-false true = refl
and-false false = refl

becomes-by : (gone : Bool) (b : BusState) (id : ℕ) (d : DeviceState) → b.connected ≡ Some id →
    bus_of (slice_set b.devices id d) (kept_if (not gone) id) (b.atn && not gone) (b.ack && not gone) b.asked ≡ free_if gone (with_device b id d)
becomes-by true b id d e =
    ap (λ (x : Bool). bus_of (slice_set b.devices id d) None x (b.ack && false) b.asked) (and-false b.atn) ∙ ap (λ (x : Bool). bus_of (slice_set b.devices id d) None false x b.asked) (and-false b.ack)
becomes-by false b id d e =
    ap (λ (x : Option ℕ). bus_of (slice_set b.devices id d) x (b.atn && true) (b.ack && true) b.asked) (sym e)
    ∙ ap (λ (x : Bool). bus_of (slice_set b.devices id d) b.connected x (b.ack && true) b.asked) (and-true b.atn)
    ∙ ap (λ (x : Bool). bus_of (slice_set b.devices id d) b.connected b.atn x b.asked) (and-true b.ack)

pub becomes-is : (b : BusState) (id : ℕ) (d : DeviceState) (bound : Bool) → b.connected ≡ Some id → bound ≡ not (is_free d.target.link) →
    bus_of (slice_set b.devices id d) (kept_if bound id) (b.atn && bound) (b.ack && bound) b.asked ≡ becomes b id d
becomes-is b id d bound e f = rw f (becomes-by (is_free d.target.link) b id d e)

held-by : (gone : Bool) (n : ℕ) (b : BusState) (id : ℕ) (d : DeviceState) → n ≡ 7 → length b.devices ≡ 7 → b.ack ≡ false → OneConnected (free_if gone (with_device b id d))
    → IsHeldBus n (free_if gone (with_device b id d))
held-by true n b id d c s q o = record { counted = c; seven = length-set b.devices id d ∙ s; one = o; acknowledges = λ e. absurd cc }
held-by false n b id d c s q o = record { counted = c; seven = length-set b.devices id d ∙ s; one = o; acknowledges = λ e. absurd (not-both b.ack e q) }

pub becomes-held : (n : ℕ) (b : BusState) (id : ℕ) (d : DeviceState) → n ≡ 7 → length b.devices ≡ 7 → b.ack ≡ false → OneConnected (becomes b id d) → IsHeldBus n (becomes b id d)
becomes-held n b id d c s q o = held-by (is_free d.target.link) n b id d c s q o

pub messaged-is : (b : BusState) (id : ℕ) → b.connected ≡ Some id → is_message_out (link_phase (link_on b)) ≡ true
    → becomes b id (device_messaged (device_at b id)) ≡ messaged (is_message_out (link_phase (link_on b))) b.connected b
messaged-is b id e m = sym (ap (λ (x : Bool). messaged x b.connected b) m ∙ ap (λ (x : Option ℕ). messaged true x b) e)

pub took-is : (live : ℕ → Nexus → Option ℕ) (b : BusState) (id byte : ℕ) → b.connected ≡ Some id
    → becomes b id (device_took live id (device_at b id) byte) ≡ after_byte_out live true b.connected byte b
took-is live b id byte e = sym (ap (λ (x : Option ℕ). after_byte_out live true x byte b) e)

-- the message acts
heard-one : (b : BusState) (id : ℕ) → b.connected ≡ Some id → is_message_out (link_phase (link_on b)) ≡ true → OneConnected b → OneConnected (becomes b id (device_messaged (device_at b id)))
heard-one b id e m o =
    let s = stays_connected [] (λ (i : ℕ) (x : Nexus). None) b (SetAtn false) _ o refl in
    let t : OneConnected (messaged (is_message_out (link_phase (link_on b))) b.connected b) = record { connected = s.connected; others = s.others } in
    subst OneConnected (sym (messaged-is b id e m)) t

pub heard-held : (n : ℕ) (b : BusState) (id : ℕ) → IsHeldBus n b → b.connected ≡ Some id → is_message_out (link_phase (link_on b)) ≡ true → IsHeldBus n (becomes b id (device_messaged (device_at b id)))
heard-held n b id h e m = becomes-held n b id _ h.counted h.seven (hearing-quiet n b h m) (heard-one b id e m h.one)

-- the message byte acts
acked-one : (b : BusState) (id : ℕ) → b.connected ≡ Some id → b.ack ≡ true → OneConnected b → OneConnected (becomes b id (device_acked (device_at b id)))
acked-one b id e a o =
    let s : OneConnected (after_ack b.ack b) = stays_connected [] (λ (i : ℕ) (x : Nexus). None) b ClearAck _ o refl in
    let same : after_ack b.ack b ≡ record (becomes b id (device_acked (device_at b id))) { ack = false } =
    ap (λ (x : Bool). after_ack x b) a ∙ ap (λ (x : Option ℕ). record (acked x b) { ack = false }) e in
    let t : OneConnected (record (becomes b id (device_acked (device_at b id))) { ack = false }) = subst OneConnected same s in
    record { connected = t.connected; others = t.others }

acked-by : (gone : Bool) (n : ℕ) (b : BusState) (id : ℕ) (d : DeviceState) → n ≡ 7 → length b.devices ≡ 7 → OneConnected (free_if gone (with_device b id d))
    → IsHeldBus n (record (free_if gone (with_device b id d)) { ack = false })
acked-by true n b id d c s o = record { counted = c; seven = length-set b.devices id d ∙ s; one = record { connected = o.connected; others = o.others }; acknowledges = λ e. absurd cc }
acked-by false n b id d c s o = record { counted = c; seven = length-set b.devices id d ∙ s; one = record { connected = o.connected; others = o.others }; acknowledges = λ e. absurd cc }

pub acked-held : (n : ℕ) (b : BusState) (id : ℕ) → IsHeldBus n b → b.connected ≡ Some id → b.ack ≡ true → IsHeldBus n (record (becomes b id (device_acked (device_at b id))) { ack = false })
acked-held n b id h e a =
    let d : DeviceState = device_acked (device_at b id) in
    acked-by (is_free d.target.link) n b id d h.counted h.seven (acked-one b id e a h.one)

-- a byte is taken
pub took-held : (n : ℕ) (live : ℕ → Nexus → Option ℕ) (b : BusState) (id byte : ℕ) → IsHeldBus n b → b.connected ≡ Some id → link_takes (link_on b) ≡ true
    → IsHeldBus n (becomes b id (device_took live id (device_at b id) byte))
took-held n live b id byte h e t =
    let s : OneConnected (after_byte_out live true b.connected byte b) = stays_connected [] live b (ByteOut byte true) _ h.one (sym t, refl) in
    let o : OneConnected (becomes b id (device_took live id (device_at b id) byte)) = subst OneConnected (sym (took-is live b id byte e)) s in
    becomes-held n b id _ h.counted h.seven (taking-quiet n b h t) o

-- ---- what is read at a place

pub read-is : (ds : List DeviceState) (id : ℕ) (d : DeviceState) → id < length ds → d ≡ slice_index_or ds id d → d ≡ slice_index_or ds id no_device
read-is [] id d l e = absurd (omega (arith, l))
read-is (x ∷ ds) zero d l e = e
read-is (x ∷ ds) (suc id) d l e = read-is ds id d (omega (arith, l)) e

free-past : (ds : List DeviceState) (id : ℕ) → is_free (slice_index_or ds id no_device).target.link ≡ false → id < length ds
free-past [] id h = absurd cc
free-past (d ∷ ds) zero h = omega arith
free-past (d ∷ ds) (suc id) h = omega (arith, free-past ds id h)

pub within : (n : ℕ) (b : BusState) (id : ℕ) → IsHeldBus n b → b.connected ≡ Some id → id < length b.devices
within n b id h e = free-past b.devices id (h.one.connected id e)

pub here-is : (n : ℕ) (b : BusState) (id : ℕ) (r : DeviceState) → IsHeldBus n b → b.connected ≡ Some id → r ≡ slice_index_or b.devices id r → r ≡ device_at b id
here-is n b id r h e i = read-is b.devices id r (within n b id h e) i

pub changed-is : (n : ℕ) (b : BusState) (id : ℕ) (d r : DeviceState) (bound : Bool) (o : Option ℕ) → IsHeldBus n b → b.connected ≡ Some id → r ≡ slice_index_or (slice_set b.devices id d) id r
    → bound ≡ not (is_free r.target.link) → o ≡ kept_if bound id → bus_of (slice_set b.devices id d) o (b.atn && bound) (b.ack && bound) b.asked ≡ becomes b id d
changed-is n b id d r bound o h e i f k =
    let s : r ≡ d = i ∙ get_or-set_same b.devices id d r (within n b id h e) in
    ap (λ (x : Option ℕ). bus_of (slice_set b.devices id d) x (b.atn && bound) (b.ack && bound) b.asked) k
    ∙ becomes-is b id d bound e (f ∙ ap (λ (x : DeviceState). not (is_free x.target.link)) s)

-- where a device takes no byte, it stays
pub untook : (live : Nexus → Option ℕ) (t : Target) (byte : ℕ) → link_takes t.link ≡ false → target_took live t byte ≡ t
unfolding target_took
untook live t byte e = rw e refl

pub set-same : (ds : List DeviceState) (id : ℕ) (d : DeviceState) → d ≡ slice_index_or ds id no_device → slice_set ds id d ≡ ds
set-same [] id d e = refl
set-same (x ∷ ds) zero d e = ap (λ (y : DeviceState). y ∷ ds) e
set-same (x ∷ ds) (suc id) d e = ap (λ (ys : List DeviceState). x ∷ ys) (set-same ds id d e)

pub stays-is : (n : ℕ) (b : BusState) (id : ℕ) (d r : DeviceState) → IsHeldBus n b → b.connected ≡ Some id → r ≡ slice_index_or b.devices id r → d ≡ r
    → bus_of (slice_set b.devices id d) b.connected b.atn b.ack b.asked ≡ b
stays-is n b id d r h e i f = ap (λ (ds : List DeviceState). bus_of ds b.connected b.atn b.ack b.asked) (set-same b.devices id d (f ∙ here-is n b id r h e i))

-- the live ticket of the connection's nexus is that of each nexus that the byte may name
begins-live : (o : Option ℕ) (live : Nexus → Option ℕ) (whole : Bool) (us : List (Option LogicalUnit)) (n : Nexus) (taken : List ℕ) → o ≡ live n →
    begins_if (λ m. o) whole (record { units = us; link = TakingCommand n taken }) ≡ begins_if live whole (record { units = us; link = TakingCommand n taken })
begins-live o live false us n taken e = refl
begins-live o live true us n taken e = ap (λ (x : Option ℕ). target_begun (record { units = us; link = TakingCommand n taken }) (where_placed (has_place (unit_at us n.lun) n.tag) x)) e

took_where-live : (o : Option ℕ) (live : Nexus → Option ℕ) (taken : Bool) (l : ConnectionState) (us : List (Option LogicalUnit)) (byte : ℕ) → o ≡ ticket_on live (nexus_of l) →
    took_where (λ n. o) taken (record { units = us; link = l }) byte ≡ took_where live taken (record { units = us; link = l }) byte
took_where-live o live false l us byte e = refl
took_where-live o live true BusFree us byte e = refl
took_where-live o live true (Selected heard) us byte e = refl
took_where-live o live true (TakingCommand n taken) us byte e = begins-live o live (is_whole (taken ++ byte ∷ [])) us n (taken ++ byte ∷ []) e
took_where-live o live true (TaskConnected c) us byte e = refl
took_where-live o live true (RogueConnected s n) us byte e = refl

pub took-live : (o : Option ℕ) (live : Nexus → Option ℕ) (t : Target) (byte : ℕ) → o ≡ ticket_on live (nexus_of t.link) → target_took (λ n. o) t byte ≡ target_took live t byte
unfolding target_took
took-live o live t byte e = took_where-live o live (link_takes t.link) t.link t.units byte e

-- a byte is sent
sent-link : (byte : ℕ) (b : BusState) (id : ℕ) → id < length b.devices → b.connected ≡ Some id
    → link_on (record (with_device b id (sent (Some byte) (device_at b id))) { ack = is_message_in (link_phase (link_on b)) || b.ack }) ≡ link_sent (link_on b)
sent-link byte b id l e = rw e (ap (λ (d : DeviceState). d.target.link) (get_or-set_same b.devices id (sent (Some byte) (device_at b id)) no_device l))

sent-acks : (n byte : ℕ) (b : BusState) → IsHeldBus n b → link_byte (link_on b) ≡ Some byte → (is_message_in (link_phase (link_on b)) || b.ack) ≡ true → WaitsForAck (link_sent (link_on b))
sent-acks n byte b h x e = elim (or-cases (is_message_in (link_phase (link_on b))) b.ack e) [
  | inl m ↦ sent-waits (link_on b) (is-in (link_phase (link_on b)) m)
  | inr a ↦ absurd (let f : None ≡ Some byte = sym (waits (link_on b) (h.acknowledges a)).none ∙ x in cc)
]

sent-held : (o : Option ℕ) (n : ℕ) (b : BusState) (id : ℕ) → IsHeldBus n b → b.connected ≡ Some id → o ≡ link_byte (link_on b) → OneConnected (after_byte_in (Some id) (if_asked true o) b)
    → IsHeldBus n (after_byte_in (Some id) (if_asked true o) b)
sent-held None n b id h e f c = h
sent-held (Some x) n b id h e f c = record {
  counted = h.counted;
  seven = length-set b.devices id (sent (Some x) (device_at b id)) ∙ h.seven;
  one = c;
  acknowledges = λ a. subst WaitsForAck (sym (sent-link x b id (within n b id h e) e)) (sent-acks n x b h (sym f) a);
}

-- the byte that is asked for
pub asked-byte : (o : Option ℕ) (b : BusState) → is_same_phase b.asked (link_phase (link_on b)) ≡ true → o ≡ link_byte (link_on b) → if_asked true o ≡ byte_of b
asked-byte o b s f = ap (λ (x : Option ℕ). if_asked true x) f ∙ ap (λ (x : Bool). if_asked x (link_byte (link_on b))) (sym s)

pub unasked-byte : (b : BusState) → is_same_phase b.asked (link_phase (link_on b)) ≡ false → None ≡ byte_of b
unasked-byte b s = ap (λ (x : Bool). if_asked x (link_byte (link_on b))) (sym s)

gave-by : (o : Option ℕ) (n : ℕ) (b : BusState) (id : ℕ) (d : DeviceState) → IsHeldBus n b → b.connected ≡ Some id
    → d ≡ record { target = linked (device_at b id).target (sent_if o (device_at b id).target.link); rooms = (device_at b id).rooms }
    → bus_of (slice_set b.devices id d) b.connected b.atn (ack_by o (link_phase (link_on b)) b.ack) b.asked ≡ after_byte_in (Some id) (if_asked true o) b
gave-by None n b id d h e f = ap (λ (ds : List DeviceState). bus_of ds b.connected b.atn b.ack b.asked) (set-same b.devices id d f)
gave-by (Some x) n b id d h e f = ap (λ (y : DeviceState). bus_of (slice_set b.devices id y) b.connected b.atn (is_message_in (link_phase (link_on b)) || b.ack) b.asked) f

pub record Gives (n : ℕ) (b after : BusState) (o : Option ℕ) : Type 0 where
  pub byte : if_asked true o ≡ byte_of b
  pub state : after ≡ after_byte_in b.connected (if_asked true o) b
  pub held : IsHeldBus n after

pub gives : (o : Option ℕ) (n : ℕ) (b : BusState) (id : ℕ) (r d : DeviceState) (shown : Option BusPhase) (ack : Bool) → IsHeldBus n b → b.connected ≡ Some id → r ≡ device_at b id
    → shown ≡ link_phase (link_on b) → is_same_phase b.asked (link_phase (link_on b)) ≡ true → o ≡ link_byte r.target.link
    → d ≡ record { target = linked r.target (sent_if (link_byte r.target.link) r.target.link); rooms = r.rooms } → ack ≡ ack_by o shown b.ack
    → Gives n b (bus_of (slice_set b.devices id d) b.connected b.atn ack b.asked) o
gives o n b id r d shown ack h e i s asks f g k =
    let byte : o ≡ link_byte (device_at b id).target.link = f ∙ ap (λ (x : DeviceState). link_byte x.target.link) i in
    let has : o ≡ link_byte (link_on b) = byte ∙ ap link_byte (sym (link-is b id e)) in
    let state : d ≡ record { target = linked (device_at b id).target (sent_if o (device_at b id).target.link); rooms = (device_at b id).rooms } =
    g ∙ ap (λ (x : DeviceState). record { target = linked x.target (sent_if (link_byte x.target.link) x.target.link); rooms = x.rooms }) i
    ∙ ap (λ (x : Option ℕ). record { target = linked (device_at b id).target (sent_if x (device_at b id).target.link); rooms = (device_at b id).rooms }) (sym byte) in
    let gave : bus_of (slice_set b.devices id d) b.connected b.atn ack b.asked ≡ after_byte_in (Some id) (if_asked true o) b =
    ap (λ (x : Bool). bus_of (slice_set b.devices id d) b.connected b.atn x b.asked) (k ∙ ap (λ (p : Option BusPhase). ack_by o p b.ack) s) ∙ gave-by o n b id d h e state in
    let one : OneConnected (after_byte_in b.connected (if_asked true o) b) = stays_connected [] (λ (j : ℕ) (x : Nexus). None) b (ByteIn (if_asked true o)) _ h.one (asked-byte o b asks has, refl) in
    let one' : OneConnected (after_byte_in (Some id) (if_asked true o) b) = subst (λ (x : Option ℕ). OneConnected (after_byte_in x (if_asked true o) b)) e one in
    record {
      byte = asked-byte o b asks has;
      state = gave ∙ ap (λ (x : Option ℕ). after_byte_in x (if_asked true o) b) (sym e);
      held = subst (IsHeldBus n) (sym gave) (sent-held o n b id h e has one');
    }
