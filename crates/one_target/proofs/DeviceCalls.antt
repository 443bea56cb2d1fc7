-- What the calls of the device want and give, where the bus of `one` holds.
use Rattle.std.proofs.Common.{◌≡◌, ℕ, ◌==◌, ◌&&◌, not, nat_lt, if◌then◌else◌, Bool, true, false, List, [], ◌∷◌, ◌++◌, refl, ap, sym, ◌∙◌, subst, Option, Some, None}
use Rattle.scsi_words.specs.declared.phases.kinds.Phase.{Phase as BusPhase}
use Rattle.chip_step.specs.declared.scsi_bus.Settled.TheVariants.{Selected}
use Rattle.rig_types.specs.declared.rig.Unit.{Unit as RigUnit}
use Rattle.target_law.specs.declared.moves.Move.{Move}
use Rattle.target_law.specs.declared.nexus.Nexus.{Nexus}
use Rattle.target_law.specs.Bytes.{Connection}
use Rattle.target_law.specs.Target as connection_state
use Rattle.target_law.specs.Target.{LogicalUnit, ConnectionState, BusFree, TakingCommand, TaskConnected, RogueConnected, Target, unit_at, linked, leaves}
use Rattle.target_law.specs.Beginning.{has_place, where_placed, begins_if, took_where, target_took}
use Rattle.target_law.specs.Calls.{is_free, link_phase, nexus_of, is_whole, target_begun, link_takes, is_rogue_connected, is_absent, answers, target_selected, target_acted, asked_by, target_messaged, target_acked}
use Rattle.target_law.specs.Lawful.{IsThere, Named, NamesOf}
use Rattle.target_law.specs.Devices.{DeviceState, lie_within, where_room}
use Rattle.scsi_target.specs.Devices.{IsPresent}
use Rattle.one_target.specs.Bus.{BusState, bus_of, if_fits, with_room, live_ticket, ticket_at, taken_where, is_to_choose, LeavesBus, Settles, SettlesWhere, ActsAt, become, becomes, ChoosesWhere, GoesOn, TurnsWhere, Turns, is_message, messaged_where, acked_where, after_ack}
use Rattle.one_target.specs.Holding.{is_usual, is_of_one, IsHeld, IsHeldDevice}
use Rattle.one_target.proofs.Slots.{slots, unit_at-slots}
use Rattle.one_target.proofs.MoveLaws.{IsKept, kept-acted, zero-of}
use Rattle.one_target.proofs.Between.{kept-of, held, kept-with_room, with_room-fits, HasLeftBus, left-is, selects-held}

pub kept-device : (d : DeviceState) → IsHeldDevice d → IsKept d.target
kept-device d h = kept-of (bus_of d false false None) h

-- the one unit
unit-there : (t : Target) (k : IsKept t) → unit_at t.units 0 ≡ Some k.alone.unit
unit-there t k = ap (λ (us : List (Option LogicalUnit)). unit_at us 0) k.alone.units_are ∙ unit_at-slots k.alone.unit

-- no units that break the rules are connected
rogue_connected-none : (l : ConnectionState) → is_of_one l ≡ true → is_rogue_connected l ≡ false
rogue_connected-none BusFree e = refl
rogue_connected-none (connection_state.Selected heard) e = refl
rogue_connected-none (TakingCommand n taken) e = refl
rogue_connected-none (TaskConnected c) e = refl
rogue_connected-none (RogueConnected s n) e = absurd cc

pub lawful-link : (d : DeviceState) → IsHeldDevice d → is_rogue_connected d.target.link ≡ false
lawful-link d h = rogue_connected-none d.target.link h.of_one

-- a call whose entries may not fit
room-by : (fits : Bool) (d : DeviceState) (t : Target) → (if fits then record { target = t; rooms = d.rooms } else d) ≡ record { target = if_fits fits d.target t; rooms = d.rooms }
room-by true d t = refl
room-by false d t = refl

pub where_room-is : (d : DeviceState) (t : Target) → where_room d t ≡ record { target = with_room d.rooms d.target t; rooms = d.rooms }
unfolding where_room
where_room-is d t = room-by (lie_within t.units d.rooms) d t

pub acted-held : (d : DeviceState) (m : Move) → IsHeldDevice d → IsHeldDevice (where_room d (target_acted d.target m))
acted-held d m h =
    let t : Target = with_room d.rooms d.target (target_acted d.target m) in
    let e : IsHeldDevice (record { target = t; rooms = d.rooms }) =
    held (bus_of (record { target = t; rooms = d.rooms }) false false None) (kept-with_room d.rooms d.target (target_acted d.target m) (kept-device d h) (kept-acted d.target m (kept-device d h))) (with_room-fits d.rooms d.target (target_acted d.target m) h.fits) (λ f. absurd cc) in
    subst IsHeldDevice (sym (where_room-is d (target_acted d.target m))) e

-- a task that leaves the bus for want of room
there-of : (o : Option LogicalUnit) (P : LogicalUnit → Type 0) → IsThere o P → (u : LogicalUnit) × (o ≡ Some u) × P u
there-of (Some u) P p = (u, refl, p)
there-of None P p = absurd p

unit-of-task : (t : Target) (c : Connection) → IsKept t → t.link ≡ TaskConnected c → (u : LogicalUnit) × (unit_at t.units c.lun ≡ Some u)
unit-of-task t c k e =
    let one : c.lun == 0 ≡ true = ap is_of_one (sym e) ∙ k.of_one in
    let z : c.lun ≡ 0 = zero-of c.lun one in
    (k.alone.unit, ap (λ (x : ℕ). unit_at t.units x) z ∙ unit-there t k)

messaged-leaves : (t : Target) (c : Connection) (u : LogicalUnit) → unit_at t.units c.lun ≡ Some u → target_messaged (record { units = t.units; link = asked_by (TaskConnected c) }) ≡ leaves t c u
unfolding target_messaged
messaged-leaves t c u e = rw e refl

pub leaving : (l : ConnectionState) (d : DeviceState) → d.target.link ≡ l → is_to_choose l ≡ true → IsHeldDevice d →
    LeavesBus d.target (where_room (record { target = linked d.target (asked_by d.target.link); rooms = d.rooms }) (target_messaged (linked d.target (asked_by d.target.link)))).target
leaving (TaskConnected c) d e f h =
    let t : Target = d.target in
    let asked : DeviceState = record { target = linked t (asked_by t.link); rooms = d.rooms } in
    let k : IsKept t = kept-device d h in
    let u : (x : LogicalUnit) × (unit_at t.units c.lun ≡ Some x) = unit-of-task t c k e in
    let after : target_messaged (linked t (asked_by t.link)) ≡ leaves t c u.0 = ap (λ (x : ConnectionState). target_messaged (linked t (asked_by x))) e ∙ messaged-leaves t c u.0 u.1 in
    let l : HasLeftBus t (leaves t c u.0) d.rooms = left-is t (leaves t c u.0) d.rooms k (record { connection = c; working = e; unit = u.0; unit_is = u.1; left = refl }) in
    let fits : lie_within (leaves t c u.0).units d.rooms ≡ true = l.fits h.fits in
    let is : (where_room asked (target_messaged asked.target)).target ≡ leaves t c u.0 =
    ap (λ (x : DeviceState). x.target) (where_room-is asked (target_messaged asked.target)) ∙ ap (λ (x : Target). with_room d.rooms asked.target x) after ∙ ap (λ (x : Bool). if_fits x asked.target (leaves t c u.0)) fits in
    record { connection = c; working = e; unit = u.0; unit_is = u.1; left = is }
leaving BusFree d e f h = absurd cc
leaving (connection_state.Selected heard) d e f h = absurd cc
leaving (TakingCommand n taken) d e f h = absurd cc
leaving (RogueConnected s n) d e f h = absurd (let g : is_of_one (RogueConnected s n) ≡ true = ap is_of_one (sym e) ∙ h.of_one in cc)

-- the move of a target that is to choose
pub acting : (l : ConnectionState) (d : DeviceState) (word : ℕ) (m : Move) (t' : Target) → d.target.link ≡ l → is_to_choose l ≡ true → IsHeldDevice d → Named d.target word m →
    Settles (where_room d (target_acted d.target m)).target t' → ActsAt l d.rooms word d.target t'
acting (TaskConnected c) d word m t' e f h named s =
    let n : IsThere (unit_at d.target.units c.lun) (λ u. NamesOf u c word m) = rw e at named in
    let u : (x : LogicalUnit) × (unit_at d.target.units c.lun ≡ Some x) × NamesOf x c word m = there-of (unit_at d.target.units c.lun) (λ x. NamesOf x c word m) n in
    let after : Settles (with_room d.rooms d.target (target_acted d.target m)) t' = subst (λ (x : DeviceState). Settles x.target t') (where_room-is d (target_acted d.target m)) s in
    record { unit = u.0; unit_is = u.1; move = m; named = u.2; after = after }
acting BusFree d word m t' e f h named s = absurd cc
acting (connection_state.Selected heard) d word m t' e f h named s = absurd cc
acting (TakingCommand n taken) d word m t' e f h named s = absurd cc
acting (RogueConnected s n) d word m t' e f h named o = absurd (let g : is_of_one (RogueConnected s n) ≡ true = ap is_of_one (sym e) ∙ h.of_one in cc)

settles-by : (to_choose : Bool) (t t' : Target) → to_choose ≡ true → LeavesBus t t' → SettlesWhere to_choose t t'
settles-by true t t' e m = m
settles-by false t t' e m = absurd cc

pub where_room-rooms : (d : DeviceState) (t : Target) → (where_room d t).rooms ≡ d.rooms
where_room-rooms d t = ap (λ (x : DeviceState). x.rooms) (where_room-is d t)

pub record Settled (d d' : DeviceState) : Type 0 where
  pub settles : Settles d.target d'.target
  pub rooms : d'.rooms ≡ d.rooms

pub settled : (d asked d' : DeviceState) → is_to_choose d.target.link ≡ true → IsHeldDevice d → asked ≡ record { target = linked d.target (asked_by d.target.link); rooms = d.rooms } →
    d' ≡ where_room asked (target_messaged asked.target) → Settled d d'
settled d asked d' e h a m =
    let b : DeviceState = record { target = linked d.target (asked_by d.target.link); rooms = d.rooms } in
    let n : d' ≡ where_room b (target_messaged b.target) = m ∙ ap (λ (x : DeviceState). where_room x (target_messaged x.target)) a in
    let l : LeavesBus d.target d'.target = subst (λ (x : DeviceState). LeavesBus d.target x.target) (sym n) (leaving d.target.link d refl e h) in
    record {
      settles = settles-by (is_to_choose d.target.link) d.target d'.target e l;
      rooms = ap (λ (x : DeviceState). x.rooms) n ∙ where_room-rooms b (target_messaged b.target);
    }

pub act-rooms : (d after d' : DeviceState) (t : Target) → after ≡ where_room d t → d'.rooms ≡ after.rooms → d'.rooms ≡ d.rooms
act-rooms d after d' t e f = f ∙ ap (λ (x : DeviceState). x.rooms) e ∙ where_room-rooms d t

-- the live ticket of the connection's nexus is that of each nexus that the byte may name
begins-live : (o : Option ℕ) (whole : Bool) (us : List (Option LogicalUnit)) (n : Nexus) (taken : List ℕ) → o ≡ live_ticket n →
    begins_if (λ m. o) whole (record { units = us; link = TakingCommand n taken }) ≡ begins_if live_ticket whole (record { units = us; link = TakingCommand n taken })
begins-live o false us n taken e = refl
begins-live o true us n taken e = ap (λ (x : Option ℕ). target_begun (record { units = us; link = TakingCommand n taken }) (where_placed (has_place (unit_at us n.lun) n.tag) x)) e

took-where-live : (o : Option ℕ) (taken : Bool) (l : ConnectionState) (us : List (Option LogicalUnit)) (byte : ℕ) → o ≡ ticket_at (nexus_of l) →
    took_where (λ n. o) taken (record { units = us; link = l }) byte ≡ took_where live_ticket taken (record { units = us; link = l }) byte
took-where-live o false l us byte e = refl
took-where-live o true BusFree us byte e = refl
took-where-live o true (connection_state.Selected heard) us byte e = refl
took-where-live o true (TakingCommand n taken) us byte e = begins-live o (is_whole (taken ++ byte ∷ [])) us n (taken ++ byte ∷ []) e
took-where-live o true (TaskConnected c) us byte e = refl
took-where-live o true (RogueConnected s n) us byte e = refl

pub device-held : (d : DeviceState) (atn ack : Bool) (asked : Option BusPhase) → IsHeld (bus_of d atn ack asked) → IsHeldDevice d
device-held d atn ack asked h = held (bus_of d false false None) (kept-of (bus_of d atn ack asked) h) h.fits (λ e. absurd cc)

pub took-live : (o : Option ℕ) (t : Target) (byte : ℕ) → o ≡ ticket_at (nexus_of t.link) → target_took (λ n. o) t byte ≡ target_took live_ticket t byte
unfolding target_took
took-live o t byte e = took-where-live o (link_takes t.link) t.link t.units byte e

and_true : (a : Bool) → a && true ≡ a
and_true true = refl
and_true false = refl

and_false : (a : Bool) → a && false ≡ false
and_false true = refl
and_false false = refl

become-is : (free : Bool) (b : BusState) (t : Target) → record { target = t; rooms = b.rooms; atn = b.atn && not free; ack = b.ack && not free; asked = b.asked } ≡ become free b t
become-is true b t =
    ap (λ (x : Bool). record { target = t; rooms = b.rooms; atn = x; ack = b.ack && false; asked = b.asked }) (and_false b.atn)
    ∙ ap (λ (x : Bool). record { target = t; rooms = b.rooms; atn = false; ack = x; asked = b.asked }) (and_false b.ack)
become-is false b t =
    ap (λ (x : Bool). record { target = t; rooms = b.rooms; atn = x; ack = b.ack && true; asked = b.asked }) (and_true b.atn)
    ∙ ap (λ (x : Bool). record { target = t; rooms = b.rooms; atn = b.atn; ack = x; asked = b.asked }) (and_true b.ack)

-- the lines after a change of the target
pub hushed : (d d' : DeviceState) (atn ack bound : Bool) (asked : Option BusPhase) → d'.rooms ≡ d.rooms → bound ≡ not (is_free d'.target.link) →
    bus_of d' (atn && bound) (ack && bound) asked ≡ becomes (bus_of d atn ack asked) d'.target
hushed d d' atn ack bound asked r e =
    let free : Bool = is_free d'.target.link in
    ap (λ (x : List ℕ). record { target = d'.target; rooms = x; atn = atn && bound; ack = ack && bound; asked = asked }) r
    ∙ ap (λ (x : Bool). record { target = d'.target; rooms = d.rooms; atn = atn && x; ack = ack && x; asked = asked }) e
    ∙ become-is free (bus_of d atn ack asked) d'.target

turns-by : (free : Bool) (word : ℕ) (b b' : BusState) → free ≡ false → GoesOn word b b' → TurnsWhere free word b b'
turns-by true word b b' e g = absurd cc
turns-by false word b b' e g = g

not-true : (free bound : Bool) → bound ≡ not free → bound ≡ true → free ≡ false
not-true true bound e f = absurd cc
not-true false bound e f = refl

pub turned : (d d' : DeviceState) (atn ack was bound : Bool) (asked : Option BusPhase) (word : ℕ) → was ≡ not (is_free d.target.link) → was ≡ true →
    ChoosesWhere (is_to_choose d.target.link) atn d.rooms word d.target d'.target → d'.rooms ≡ d.rooms → bound ≡ not (is_free d'.target.link) →
    Turns word (bus_of d atn ack asked) (bus_of d' (atn && bound) (ack && bound) asked)
turned d d' atn ack was bound asked word w t m r f =
    turns-by (is_free d.target.link) word (bus_of d atn ack asked) (bus_of d' (atn && bound) (ack && bound) asked) (not-true (is_free d.target.link) was w t)
    (record { target = d'.target; chooses = m; becomes_it = hushed d d' atn ack bound asked r f })

-- a byte that isn't taken leaves the device
pub untaken-device : (d d' : DeviceState) (o : Option ℕ) (byte : ℕ) → link_takes d.target.link ≡ false → d' ≡ record { target = target_took (λ n. o) d.target byte; rooms = d.rooms } → d' ≡ d
unfolding target_took
untaken-device d d' o byte t m =
    let e : took_where (λ n. o) (link_takes d.target.link) d.target byte ≡ d.target = ap (λ (x : Bool). took_where (λ n. o) x d.target byte) t in
    m ∙ ap (λ (x : Target). record { target = x; rooms = d.rooms }) e

pub untaken-is : (d d' : DeviceState) (atn ack : Bool) (asked : Option BusPhase) (o : Option ℕ) (byte : ℕ) → link_takes d.target.link ≡ false →
    d' ≡ record { target = target_took (λ n. o) d.target byte; rooms = d.rooms } → bus_of d' atn ack asked ≡ taken_where (link_takes d.target.link) (bus_of d atn ack asked) byte
untaken-is d d' atn ack asked o byte t m =
    ap (λ (x : DeviceState). bus_of x atn ack asked) (untaken-device d d' o byte t m) ∙ ap (λ (x : Bool). taken_where x (bus_of d atn ack asked) byte) (sym t)

-- a byte that is taken
pub taken-is : (d d' : DeviceState) (atn ack bound : Bool) (asked : Option BusPhase) (o : Option ℕ) (byte : ℕ) → link_takes d.target.link ≡ true → o ≡ ticket_at (nexus_of d.target.link) →
    d' ≡ record { target = target_took (λ n. o) d.target byte; rooms = d.rooms } → bound ≡ not (is_free d'.target.link) →
    bus_of d' (atn && bound) (ack && bound) asked ≡ taken_where (link_takes d.target.link) (bus_of d atn ack asked) byte
taken-is d d' atn ack bound asked o byte t e m f =
    let b : BusState = bus_of d atn ack asked in
    let r : d'.target ≡ target_took live_ticket d.target byte = ap (λ (x : DeviceState). x.target) m ∙ took-live o d.target byte e in
    hushed d d' atn ack bound asked (ap (λ (x : DeviceState). x.rooms) m) f
    ∙ ap (λ (x : Target). becomes b x) r
    ∙ ap (λ (x : Bool). taken_where x b byte) (sym t)

-- signals
pub heard-is : (d d' : DeviceState) (atn ack bound : Bool) (asked : Option BusPhase) (shown : Option BusPhase) (message : Bool) → shown ≡ link_phase d.target.link → message ≡ is_message shown → message ≡ true →
    d' ≡ where_room d (target_messaged d.target) → bound ≡ not (is_free d'.target.link) →
    bus_of d' (atn && bound) (ack && bound) asked ≡ messaged_where (is_message (link_phase d.target.link)) (bus_of d atn ack asked)
heard-is d d' atn ack bound asked shown message p q t m f =
    let b : BusState = bus_of d atn ack asked in
    let r : d' ≡ record { target = with_room d.rooms d.target (target_messaged d.target); rooms = d.rooms } = m ∙ where_room-is d (target_messaged d.target) in
    let e : is_message (link_phase d.target.link) ≡ true = ap is_message (sym p) ∙ sym q ∙ t in
    hushed d d' atn ack bound asked (ap (λ (x : DeviceState). x.rooms) r) f
    ∙ ap (λ (x : Target). becomes b x) (ap (λ (x : DeviceState). x.target) r)
    ∙ ap (λ (x : Bool). messaged_where x b) (sym e)

pub released-is : (d d' : DeviceState) (atn ack bound : Bool) (asked : Option BusPhase) → ack ≡ true → d' ≡ where_room d (target_acked d.target) → bound ≡ not (is_free d'.target.link) →
    bus_of d' (atn && bound) false asked ≡ after_ack (bus_of d atn ack asked)
released-is d d' atn ack bound asked t m f =
    let b : BusState = bus_of d atn ack asked in
    let r : d' ≡ record { target = with_room d.rooms d.target (target_acked d.target); rooms = d.rooms } = m ∙ where_room-is d (target_acked d.target) in
    let h : bus_of d' (atn && bound) (ack && bound) asked ≡ becomes b d'.target = hushed d d' atn ack bound asked (ap (λ (x : DeviceState). x.rooms) r) f in
    ap (λ (x : BusState). record x { ack = false }) h
    ∙ ap (λ (x : Target). record (becomes b x) { ack = false }) (ap (λ (x : DeviceState). x.target) r)
    ∙ ap (λ (x : Bool). acked_where x b) (sym t)

present-by : (rogue absent deep : Bool) → not rogue && (not absent && deep) ≡ true → absent ≡ false
present-by rogue false deep e = refl
present-by true true deep e = absurd cc
present-by false true deep e = absurd cc

present-of : (r : RigUnit) → is_usual r ≡ true → r.absent ≡ false
present-of r e = present-by r.rogue r.absent (nat_lt 0 r.depth) e

absent-by : (u : LogicalUnit) (l : ConnectionState) → u.rig.absent ≡ false → is_absent (record { units = slots u; link = l }) ≡ false
unfolding is_absent answers
absent-by u l e = rw e refl

pub is-present : (d : DeviceState) → IsKept d.target → IsPresent d
is-present d k =
    let here : k.alone.unit.rig.absent ≡ false = present-of k.alone.unit.rig k.alone.usual in
    ap (λ (us : List (Option LogicalUnit)). is_absent (record { units = us; link = d.target.link })) k.alone.units_are ∙ absent-by k.alone.unit d.target.link here

-- a selection
not-false : (free bound : Bool) → bound ≡ not free → bound ≡ false → free ≡ true
not-false true bound e f = refl
not-false false bound e f = absurd cc

pub selected-held : (d d' : DeviceState) (atn ack bound : Bool) (asked : Option BusPhase) → IsHeld (bus_of d atn ack asked) → bound ≡ not (is_free d.target.link) → bound ≡ false →
    d' ≡ record { target = target_selected d.target; rooms = d.rooms } → IsHeld (bus_of d' atn ack asked)
selected-held d d' atn ack bound asked h w e m =
    let b : BusState = bus_of d atn ack asked in
    subst (λ (x : DeviceState). IsHeld (bus_of x atn ack asked)) (sym m) (selects-held true b (record b { target = target_selected b.target }) Selected (λ t. not-false (is_free d.target.link) bound w e) h (refl, refl))
