-- Each move of the bus of `one` keeps what holds of it between its calls.
use Rattle.std.proofs.Common.{◌≡◌, ℕ, ◌==◌, ◌&&◌, ◌||◌, if◌then◌else◌, nat_lt, Bool, true, false, List, [], ◌∷◌, refl, ap, sym, ◌∙◌, subst, ◌⊎◌, inl, inr, Option, Some, None}
use Rattle.scsi_words.specs.declared.phases.kinds.Phase.{Phase as BusPhase}
use Rattle.scsi_words.specs.declared.phases.kinds.Phase.TheVariants as phase
use Rattle.chip_step.specs.Event.{Event, Phase, Shown, ByteIn, ByteOut, Select, Reselect, SetAtn, ClearAck, Leave}
use Rattle.chip_step.specs.declared.scsi_bus.Settled.{Settled}
use Rattle.target_law.specs.declared.nexus.Nexus.{Nexus}
use Rattle.target_law.specs.declared.task_phase.TaskPhase.{TaskPhase}
use Rattle.target_law.specs.declared.task_phase.TaskPhase.TheVariants.{ToChoose, MessageOut, DataIn, DataOut, Status, MessageIn}
use Rattle.target_law.specs.Session.{Task, began}
use Rattle.target_law.specs.Bytes.{Connection, phase_of, byte_by, takes_by, sent_by}
use Rattle.target_law.specs.Target.{LogicalUnit, ConnectionState, BusFree, Selected, TakingCommand, TaskConnected, RogueConnected, Target, unit_at, with_unit, on_unit, linked, unit_left}
use Rattle.target_law.specs.Beginning.{begins_if, ticket_for, took_where, target_took}
use Rattle.target_law.specs.Calls.{is_free, link_phase, nexus_of, whole_by, target_selected, target_acted, asked_by, link_byte, link_sent, sent_if, link_takes, link_took, target_messaged, target_acked, target_begun, begun, begun_with, begun_by, has_tag, has_ended}
use Rattle.one_target.specs.Bus.{BusState, if_fits, with_room, become, live_ticket, taken_where, is_to_choose, SettlesWhere, LeavesBus, Acts, Chooses, ChoosesWhere, GoesOn, TurnsWhere, Turns, ack_by, ComesIn, StaysOut, SelectsWhere, is_message, messaged_where, after_atn, acked_where, moves}
use Rattle.target_law.specs.Devices.{lie_within}
use Rattle.cdb_codec.specs.declared.commands.Cdb.{Cdb}
use Rattle.cdb_codec.specs.Blocks.{cdb_of}
use Rattle.cdb_codec.specs.Forms.{need_of}
use Rattle.one_target.proofs.Slots.{slots, unit_at-slots, with_unit-slots}
use Rattle.one_target.specs.Holding.{is_usual, is_alone, is_of_one, is_said, awaits_ack, IsHeld}
use Rattle.one_target.proofs.MoveLaws.{IsKept, alone-of, kept-acted, kept-messaged, kept-acked, kept-begun, kept-linked, kept-sent, kept-took, kept-selected, zero-of}

pub kept-of : (b : BusState) → IsHeld b → IsKept b.target
kept-of b h = record { alone = alone-of b.target.units h.alone; of_one = h.of_one }

pub held : (b : BusState) → IsKept b.target → lie_within b.target.units b.rooms ≡ true → (b.ack ≡ true → awaits_ack b.target.link ≡ true) → IsHeld b
held b k f a = record { fits = f; alone = ap is_alone k.alone.units_are ∙ k.alone.usual; of_one = k.of_one; acknowledges = a }

-- what is known while a message byte waits for ACK
said-phase : (s : TaskPhase) → is_said s ≡ true → phase_of s ≡ Some phase.MsgIn
said-phase ToChoose e = absurd cc
said-phase MessageOut e = absurd cc
said-phase (DataIn n) e = absurd cc
said-phase (DataOut n) e = absurd cc
said-phase (Status v) e = absurd cc
said-phase (MessageIn n sent) e = refl

said-byte : (s : TaskPhase) (k : Task) (lun : ℕ) → is_said s ≡ true → byte_by s k lun ≡ None
said-byte ToChoose k lun e = absurd cc
said-byte MessageOut k lun e = absurd cc
said-byte (DataIn n) k lun e = absurd cc
said-byte (DataOut n) k lun e = absurd cc
said-byte (Status v) k lun e = absurd cc
said-byte (MessageIn n true) k lun e = refl
said-byte (MessageIn n false) k lun e = absurd cc

said-takes : (s : TaskPhase) → is_said s ≡ true → takes_by s ≡ false
said-takes ToChoose e = absurd cc
said-takes MessageOut e = absurd cc
said-takes (DataIn n) e = absurd cc
said-takes (DataOut n) e = absurd cc
said-takes (Status v) e = absurd cc
said-takes (MessageIn n sent) e = refl

pub record Waits (l : ConnectionState) : Type 0 where
  pub bound : is_free l ≡ false
  pub phase : link_phase l ≡ Some phase.MsgIn
  pub takes : link_takes l ≡ false
  pub none : link_byte l ≡ None

pub waits : (l : ConnectionState) → awaits_ack l ≡ true → Waits l
waits (TaskConnected c) e = record { bound = refl; phase = said-phase c.shows e; takes = said-takes c.shows e; none = said-byte c.shows c.task c.lun e }
waits BusFree e = absurd cc
waits (Selected heard) e = absurd cc
waits (TakingCommand n taken) e = absurd cc
waits (RogueConnected s n) e = absurd cc

sent-said : (s : TaskPhase) (c : Connection) → phase_of s ≡ Some phase.MsgIn → is_said (sent_by s c).shows ≡ true
sent-said ToChoose c e = absurd cc
sent-said MessageOut c e = absurd (let f : Some phase.MsgOut ≡ Some phase.MsgIn = e in cc)
sent-said (DataIn n) c e = absurd (let f : Some phase.DataIn ≡ Some phase.MsgIn = e in cc)
sent-said (DataOut n) c e = absurd (let f : Some phase.DataOut ≡ Some phase.MsgIn = e in cc)
sent-said (Status v) c e = absurd (let f : Some phase.Status ≡ Some phase.MsgIn = e in cc)
sent-said (MessageIn n sent) c e = refl

sent-awaits : (l : ConnectionState) → is_of_one l ≡ true → link_phase l ≡ Some phase.MsgIn → awaits_ack (link_sent l) ≡ true
sent-awaits (TaskConnected c) o e = sent-said c.shows c e
sent-awaits BusFree o e = absurd cc
sent-awaits (Selected heard) o e = absurd (let f : Some phase.MsgOut ≡ Some phase.MsgIn = e in cc)
sent-awaits (TakingCommand n taken) o e = absurd (let f : Some phase.Command ≡ Some phase.MsgIn = e in cc)
sent-awaits (RogueConnected s n) o e = absurd cc

-- a byte is taken, and a task may begin
kept-begins : (live : Nexus → Option ℕ) (whole : Bool) (t : Target) → IsKept t → IsKept (begins_if live whole t)
kept-begins live true t k = kept-begun t (ticket_for live t (nexus_of t.link)) k
kept-begins live false t k = k

kept-took_where : (live : Nexus → Option ℕ) (taken : Bool) (t : Target) (byte : ℕ) → IsKept t → IsKept (took_where live taken t byte)
kept-took_where live true t byte k =
    let after : Target = linked t (link_took t.link byte) in
    kept-begins live (whole_by after.link) after (kept-took t true byte k)
kept-took_where live false t byte k = k

kept-target_took : (t : Target) (byte : ℕ) → IsKept t → IsKept (target_took live_ticket t byte)
unfolding target_took
kept-target_took t byte k = kept-took_where live_ticket (link_takes t.link) t byte k

-- the target's turn
kept-if_fits : (fits : Bool) (old new : Target) → IsKept old → IsKept new → IsKept (if_fits fits old new)
kept-if_fits true old new k l = l
kept-if_fits false old new k l = k

pub kept-with_room : (rooms : List ℕ) (old new : Target) → IsKept old → IsKept new → IsKept (with_room rooms old new)
kept-with_room rooms old new k l = kept-if_fits (lie_within new.units rooms) old new k l

-- the logs lie within their rooms
if_fits-fits : (rooms : List ℕ) (fits : Bool) (old new : Target) → lie_within new.units rooms ≡ fits → lie_within old.units rooms ≡ true → lie_within (if_fits fits old new).units rooms ≡ true
if_fits-fits rooms true old new e f = e
if_fits-fits rooms false old new e f = f

pub with_room-fits : (rooms : List ℕ) (old new : Target) → lie_within old.units rooms ≡ true → lie_within (with_room rooms old new).units rooms ≡ true
with_room-fits rooms old new f = if_fits-fits rooms (lie_within new.units rooms) old new refl f

same_log-fits : (u v : LogicalUnit) (rooms : List ℕ) → v.log ≡ u.log → lie_within (slots u) rooms ≡ true → lie_within (slots v) rooms ≡ true
unfolding lie_within
same_log-fits u v [] e f = rw e f
same_log-fits u v (n ∷ ns) e f = rw e f

-- a task leaves the bus
pub record HasLeftBus (t t' : Target) (rooms : List ℕ) : Type 0 where
  pub kept : IsKept t'
  pub fits : lie_within t.units rooms ≡ true → lie_within t'.units rooms ≡ true

pub left-is : (t t' : Target) (rooms : List ℕ) → IsKept t → LeavesBus t t' → HasLeftBus t t' rooms
left-is t t' rooms k m =
    let w : LogicalUnit = k.alone.unit in
    let c : Connection = m.connection in
    let left : LogicalUnit = unit_left m.unit c.task in
    let one : c.lun == 0 ≡ true = ap is_of_one (sym m.working) ∙ k.of_one in
    let z : c.lun ≡ 0 = zero-of c.lun one in
    let there : unit_at t.units c.lun ≡ Some w = ap (λ (us : List (Option LogicalUnit)). unit_at us c.lun) k.alone.units_are ∙ ap (λ (n : ℕ). unit_at (slots w) n) z ∙ unit_at-slots w in
    let same : Some m.unit ≡ Some w = sym m.unit_is ∙ there in
    let unit_is : m.unit ≡ w = cc in
    let units : with_unit t.units c.lun left ≡ slots left = ap (λ (us : List (Option LogicalUnit)). with_unit us c.lun left) k.alone.units_are ∙ ap (λ (n : ℕ). with_unit (slots w) n left) z ∙ with_unit-slots w left in
    let units' : t'.units ≡ slots left = ap (λ (x : Target). x.units) m.left ∙ units in
    record {
      kept = record { alone = record { unit = left; units_are = units'; usual = ap (λ (x : LogicalUnit). is_usual x.rig) unit_is ∙ k.alone.usual }; of_one = ap (λ (x : Target). is_of_one x.link) m.left };
      fits = λ f.
          let f0 : lie_within (slots w) rooms ≡ true = ap (λ (us : List (Option LogicalUnit)). lie_within us rooms) (sym k.alone.units_are) ∙ f in
          ap (λ (us : List (Option LogicalUnit)). lie_within us rooms) units' ∙ same_log-fits w left rooms (ap (λ (x : LogicalUnit). x.log) unit_is) f0;
    }

settles-left : (still : Bool) (t t' : Target) (rooms : List ℕ) → IsKept t → SettlesWhere still t t' → HasLeftBus t t' rooms
settles-left true t t' rooms k m = left-is t t' rooms k m
settles-left false t t' rooms k m = record { kept = subst IsKept (sym m) k; fits = λ f. ap (λ (x : Target). lie_within x.units rooms) m ∙ f }

acts-left : (rooms : List ℕ) (word : ℕ) (t t' : Target) (c : Connection) → IsKept t → Acts rooms word t c t' → HasLeftBus t t' rooms
acts-left rooms word t t' c k a =
    let after : Target = with_room rooms t (target_acted t a.move) in
    let l : HasLeftBus after t' rooms = settles-left (is_to_choose after.link) after t' rooms (kept-with_room rooms t (target_acted t a.move) k (kept-acted t a.move k)) a.after in
    record { kept = l.kept; fits = λ f. l.fits (with_room-fits rooms t (target_acted t a.move) f) }

chooses-left : (l : ConnectionState) (atn : Bool) (rooms : List ℕ) (word : ℕ) (t t' : Target) → is_of_one l ≡ true → IsKept t → Chooses l atn rooms word t t' → HasLeftBus t t' rooms
chooses-left (TaskConnected c) true rooms word t t' e k m = record { kept = subst IsKept (sym m) (kept-linked t (asked_by (TaskConnected c)) e k); fits = λ f. ap (λ (x : Target). lie_within x.units rooms) m ∙ f }
chooses-left (TaskConnected c) false rooms word t t' e k m = acts-left rooms word t t' c k m
chooses-left BusFree atn rooms word t t' e k m = absurd m
chooses-left (Selected heard) atn rooms word t t' e k m = absurd m
chooses-left (TakingCommand n taken) atn rooms word t t' e k m = absurd m
chooses-left (RogueConnected s n) atn rooms word t t' e k m = absurd m

chooses_where-left : (to_choose atn : Bool) (rooms : List ℕ) (word : ℕ) (t t' : Target) → IsKept t → ChoosesWhere to_choose atn rooms word t t' → HasLeftBus t t' rooms
chooses_where-left true atn rooms word t t' k m = chooses-left t.link atn rooms word t t' k.of_one k m
chooses_where-left false atn rooms word t t' k m = record { kept = subst IsKept (sym m) k; fits = λ f. ap (λ (x : Target). lie_within x.units rooms) m ∙ f }

-- a task that begins changes no unit
begun_if-units : (refused : Bool) (t : Target) (l : ConnectionState) → (if refused then linked t BusFree else linked t l).units ≡ t.units
begun_if-units true t l = refl
begun_if-units false t l = refl

begun_at-units : (o : Option LogicalUnit) (t : Target) (n : Nexus) (c : Cdb) (ticket : ℕ) → (on_unit o (λ u. begun t n c u ticket) t).units ≡ t.units
begun_at-units None t n c ticket = refl
begun_at-units (Some u) t n c ticket = begun_if-units (has_tag u.tasks n.tag || nat_lt 65536 (need_of c).bytes) t
    (TaskConnected (record { lun = n.lun; reselected = false; heard = []; task = began n.tag ticket c u.rig.disconnects (has_ended u.log ticket); shows = ToChoose }))

begun_with-units : (o : Option ℕ) (t : Target) (n : Nexus) (c : Cdb) → (begun_with t n c o).units ≡ t.units
begun_with-units None t n c = refl
begun_with-units (Some ticket) t n c = begun_at-units (unit_at t.units n.lun) t n c ticket

begun_by-units : (l : ConnectionState) (t : Target) (o : Option ℕ) → (begun_by l t o).units ≡ t.units
begun_by-units BusFree t o = refl
begun_by-units (Selected heard) t o = refl
begun_by-units (TakingCommand n taken) t o = begun_with-units o t n (cdb_of taken)
begun_by-units (TaskConnected c) t o = refl
begun_by-units (RogueConnected s n) t o = refl

begun-units : (t : Target) (o : Option ℕ) → (target_begun t o).units ≡ t.units
unfolding target_begun
begun-units t o = begun_by-units t.link t o

begins-units : (live : Nexus → Option ℕ) (whole : Bool) (t : Target) → (begins_if live whole t).units ≡ t.units
begins-units live true t = begun-units t (ticket_for live t (nexus_of t.link))
begins-units live false t = refl

took_where-units : (live : Nexus → Option ℕ) (taken : Bool) (t : Target) (byte : ℕ) → (took_where live taken t byte).units ≡ t.units
took_where-units live true t byte =
    let after : Target = linked t (link_took t.link byte) in
    begins-units live (whole_by after.link) after
took_where-units live false t byte = refl

target_took-units : (t : Target) (byte : ℕ) → (target_took live_ticket t byte).units ≡ t.units
unfolding target_took
target_took-units t byte = took_where-units live_ticket (link_takes t.link) t byte

become-held : (free : Bool) (b : BusState) (t : Target) → IsKept t → lie_within t.units b.rooms ≡ true → (b.ack ≡ true → awaits_ack t.link ≡ true) → IsHeld (become free b t)
become-held true b t k f a = held (become true b t) k f (λ e. absurd cc)
become-held false b t k f a = held (become false b t) k f a

-- a target whose message byte waits makes no turn
waiting-chooses : (t : Target) → Waits t.link → is_to_choose t.link ≡ false
waiting-chooses t w = rw (w.bound, w.phase) refl

waiting-turns : (b : BusState) (word : ℕ) (t' : Target) → Waits b.target.link → ChoosesWhere (is_to_choose b.target.link) b.atn b.rooms word b.target t' → t' ≡ b.target
waiting-turns b word t' w m = rw (waiting-chooses b.target w) at m

goes-held : (b b' : BusState) (word : ℕ) → IsHeld b → GoesOn word b b' → IsHeld b'
goes-held b b' word h g =
    let l : HasLeftBus b.target g.target b.rooms = chooses_where-left (is_to_choose b.target.link) b.atn b.rooms word b.target g.target (kept-of b h) g.chooses in
    let f : lie_within g.target.units b.rooms ≡ true = l.fits h.fits in
    let a : b.ack ≡ true → awaits_ack g.target.link ≡ true = λ e.
    ap (λ (t : Target). awaits_ack t.link) (waiting-turns b word g.target (waits b.target.link (h.acknowledges e)) g.chooses) ∙ h.acknowledges e in
    subst IsHeld (sym g.becomes_it) (become-held (is_free g.target.link) b g.target l.kept f a)

turns_where-held : (free : Bool) (b b' : BusState) (word : ℕ) → IsHeld b → TurnsWhere free word b b' → IsHeld b'
turns_where-held true b b' word h m = subst IsHeld (sym m) h
turns_where-held false b b' word h m = goes-held b b' word h m

pub turns-held : (b b' : BusState) (word : ℕ) → IsHeld b → Turns word b b' → IsHeld b'
turns-held b b' word h m = turns_where-held (is_free b.target.link) b b' word h m

-- bytes
ack-cases : (o : Option ℕ) (p : Option BusPhase) (a : Bool) → ack_by o p a ≡ true → (a ≡ true) ⊎ (((x : ℕ) × (o ≡ Some x)) × (p ≡ Some phase.MsgIn))
ack-cases None p a e = inl e
ack-cases (Some x) (Some phase.MsgIn) a e = inr ((x, refl), refl)
ack-cases (Some x) None a e = inl e
ack-cases (Some x) (Some phase.DataOut) a e = inl e
ack-cases (Some x) (Some phase.DataIn) a e = inl e
ack-cases (Some x) (Some phase.Command) a e = inl e
ack-cases (Some x) (Some phase.Status) a e = inl e
ack-cases (Some x) (Some phase.MsgOut) a e = inl e

comes-awaits : (o : Option ℕ) (l : ConnectionState) (a : Bool) → o ≡ link_byte l → is_of_one l ≡ true → (a ≡ true → awaits_ack l ≡ true) → ack_by o (link_phase l) a ≡ true → awaits_ack (sent_if o l) ≡ true
comes-awaits o l a same one w e = elim (ack-cases o (link_phase l) a e) [
  | inl x ↦ ap (λ (p : Option ℕ). awaits_ack (sent_if p l)) (same ∙ (waits l (w x)).none) ∙ w x
  | inr x ↦ ap (λ (p : Option ℕ). awaits_ack (sent_if p l)) x.0.1 ∙ sent-awaits l one x.1
]

byte_in-held : (b b' : BusState) (byte : Option ℕ) → IsHeld b → ComesIn b byte b' ⊎ StaysOut b byte b' → IsHeld b'
byte_in-held b b' byte h m = elim m [
  | inl x ↦ subst IsHeld (sym x.after) (held (record b { target = linked b.target (sent_if (link_byte b.target.link) b.target.link); ack = ack_by (link_byte b.target.link) (link_phase b.target.link) b.ack })
      (kept-sent b.target (link_byte b.target.link) (kept-of b h)) h.fits (comes-awaits (link_byte b.target.link) b.target.link b.ack refl h.of_one h.acknowledges))
  | inr x ↦ subst IsHeld (sym x.same) h
]

pub taken-held : (taken : Bool) (b : BusState) (byte : ℕ) → link_takes b.target.link ≡ taken → IsHeld b → IsHeld (taken_where taken b byte)
taken-held false b byte e h = h
taken-held true b byte e h =
    let t : Target = target_took live_ticket b.target byte in
    let f : lie_within t.units b.rooms ≡ true = ap (λ (us : List (Option LogicalUnit)). lie_within us b.rooms) (target_took-units b.target byte) ∙ h.fits in
    become-held (is_free t.link) b t (kept-target_took b.target byte (kept-of b h)) f
    (λ a. let w : link_takes b.target.link ≡ false = (waits b.target.link (h.acknowledges a)).takes in absurd cc)

-- selection
free_and : (a f : Bool) → a && f ≡ true → f ≡ true
free_and true f e = e
free_and false f e = absurd cc

pub selects-held : (there : Bool) (b b' : BusState) (settled : Settled) → (there ≡ true → is_free b.target.link ≡ true) → IsHeld b → SelectsWhere there b settled b' → IsHeld b'
selects-held true b b' settled f h m =
    subst IsHeld (sym m.1) (held (record b { target = target_selected b.target }) (kept-selected b.target (kept-of b h)) h.fits
    (λ e. let g : is_free b.target.link ≡ false = (waits b.target.link (h.acknowledges e)).bound in let i : is_free b.target.link ≡ true = f refl in absurd cc))
selects-held false b b' settled f h m = subst IsHeld (sym m.1) h

-- signals
pub messaged-held : (shown : Bool) (b : BusState) → is_message (link_phase b.target.link) ≡ shown → IsHeld b → IsHeld (messaged_where shown b)
messaged-held false b e h = h
messaged-held true b e h =
    let t : Target = with_room b.rooms b.target (target_messaged b.target) in
    become-held (is_free t.link) b t (kept-with_room b.rooms b.target (target_messaged b.target) (kept-of b h) (kept-messaged b.target (kept-of b h))) (with_room-fits b.rooms b.target (target_messaged b.target) h.fits)
    (λ a. let p : is_message (link_phase b.target.link) ≡ false = ap is_message (waits b.target.link (h.acknowledges a)).phase in absurd cc)

atn-held : (on : Bool) (b : BusState) → IsHeld b → IsHeld (after_atn on b)
atn-held true b h = held (record b { atn = true }) (kept-of b h) h.fits h.acknowledges
atn-held false b h =
    let m : BusState = messaged_where (is_message (link_phase b.target.link)) b in
    let k : IsHeld m = messaged-held (is_message (link_phase b.target.link)) b refl h in
    held (record m { atn = false }) (kept-of m k) k.fits k.acknowledges

become-quiet : (free : Bool) (b : BusState) (t : Target) → IsKept t → lie_within t.units b.rooms ≡ true → IsHeld (record (become free b t) { ack = false })
become-quiet true b t k f = held (record (become true b t) { ack = false }) k f (λ e. absurd cc)
become-quiet false b t k f = held (record (become false b t) { ack = false }) k f (λ e. absurd cc)

pub acked-held : (ack : Bool) (b : BusState) → IsHeld b → IsHeld (acked_where ack b)
acked-held true b h =
    let t : Target = with_room b.rooms b.target (target_acked b.target) in
    become-quiet (is_free t.link) b t (kept-with_room b.rooms b.target (target_acked b.target) (kept-of b h) (kept-acked b.target (kept-of b h))) (with_room-fits b.rooms b.target (target_acked b.target) h.fits)
acked-held false b h = h

pub moves-held : (b : BusState) (event : Event) (b' : BusState) → moves b event b' → IsHeld b → IsHeld b'
moves-held b (Phase word shown) b' m h =
    let k : IsHeld m.0 = turns-held b m.0 word h m.1 in
    subst IsHeld (sym m.3) (held (record m.0 { asked = shown }) (kept-of m.0 k) k.fits k.acknowledges)
moves-held b (Shown shown) b' m h = subst IsHeld (sym m.1) h
moves-held b (ByteIn byte) b' m h = byte_in-held b b' byte h m
moves-held b (ByteOut byte taken) b' m h = subst IsHeld (sym m.1) (taken-held (link_takes b.target.link) b byte refl h)
moves-held b (Select target word settled) b' m h = selects-held (target == 0 && is_free b.target.link) b b' settled (λ e. free_and (target == 0) (is_free b.target.link) e) h m
moves-held b (Reselect word by) b' m h = subst IsHeld (sym m.1) h
moves-held b (SetAtn on) b' m h = subst IsHeld (sym m) (atn-held on b h)
moves-held b ClearAck b' m h = subst IsHeld (sym m) (acked-held b.ack b h)
moves-held b (Leave word gone) b' m h = turns-held b b' word h m.0
