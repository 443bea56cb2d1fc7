-- A target with its one unit, of LUN 3: what the calls of the device want.
use Rattle.std.proofs.Common.{◌≡◌, ℕ, zero, suc, ◌+◌, ◌||◌, Bool, true, false, List, [], ◌∷◌, refl, ap, sym, ◌∙◌, subst, inl, inr, Option, Some, None, slice_get, max, length}
use Rattle.std.specs.Prelude.{◌<◌, ◌≤◌, ◌↔◌, ◌&&◌, not, nat_lt, if◌then◌else◌, is_some, IsTrue}
use Rattle.std.proofs.Common.{arith}
use Rattle.std.proofs.lemmas.Bool.Decides.{nat_tests}
use Rattle.scsi_words.specs.declared.phases.kinds.Phase.{Phase}
use Rattle.target_rows.specs.Calls.{is_message_in}
use Rattle.std.specs.List.{list_any}
use Rattle.scsi_words.specs.declared.phases.kinds.Phase.TheVariants as phase
use Rattle.rig_types.specs.declared.rig.Unit.{Unit as RigUnit}
use Rattle.target_law.specs.declared.task_phase.TaskPhase.{TaskPhase}
use Rattle.target_law.specs.declared.task_phase.TaskPhase.TheVariants.{ToChoose, MessageOut, DataIn, DataOut, Status, MessageIn}
use Rattle.target_law.specs.declared.rogue_phase.RoguePhase.{RoguePhase}
use Rattle.target_law.specs.declared.rogue_phase.RoguePhase.TheVariants as rogue_shows
use Rattle.target_law.specs.declared.nexus.Nexus.{Nexus}
use Rattle.target_law.specs.Bytes.{Connection, phase_of, byte_by, sent_by}
use Rattle.target_law.specs.RoguePhases.{rogue_phase, rogue_byte, rogue_sent}
use Rattle.target_law.specs.Target.{LogicalUnit, unit_opened, ConnectionState, BusFree, Selected, TakingCommand, TaskConnected, RogueConnected, Target, unit_at, with_unit, target_opened}
use Rattle.target_law.specs.Calls.{is_free, link_phase, link_byte, sent_if, candidates, is_rogue, slot_answers, slot_has_unit, answers, is_absent, IsToChoose, WaitsForAck}
use Rattle.target_law.specs.Devices.{DeviceState, device_opened, lie_within, where_room, room_at, reserved_for, device_reserved}
use Rattle.target_law.proofs.Rooms.{device_reserved-target}
use Rattle.target_law.proofs.Rigs.{Same}
use Rattle.target_law.specs.Lawful.{IsThere}
use Rattle.target_law.specs.Rigs.{rigs}
use Rattle.target_rows.specs.Rigs.{alone, IsPresent, IsHeld}

pub opened-rigs : (r : RigUnit) → r.lun ≡ 3 → rigs (target_opened (r ∷ [])).units ≡ alone r
unfolding target_opened with_unit
opened-rigs r e = rw e refl

-- the unit of a place
there-by : (us : List (Option LogicalUnit)) (n : ℕ) (r : RigUnit) → slice_get (rigs us) n ≡ Some (Some r) → IsThere (unit_at us n) (λ u. u.rig ≡ r)
unfolding unit_at
there-by [] n r e = cc
there-by (None ∷ us) zero r e = cc
there-by (Some u ∷ us) zero r e = cc
there-by (x ∷ us) (suc n) r e = there-by us n r e

there-weak : (o : Option LogicalUnit) (r : RigUnit) → IsThere o (λ u. u.rig ≡ r) → IsThere o (λ u. Unit {0})
there-weak (Some u) r e = tt
there-weak None r e = e

pub unit-there : (us : List (Option LogicalUnit)) (r : RigUnit) → IsHeld us r → IsThere (unit_at us r.lun) (λ u. Unit {0})
unit-there us r h =
    subst (λ n. IsThere (unit_at us n) (λ u. Unit {0})) (sym h.unit.lun)
    (there-weak (unit_at us 3) r (there-by us 3 r (ap (λ rs. slice_get rs 3) h.rigs_are)))

-- the target isn't absent
abbrev answers_by : Option RigUnit → Bool
answers_by None = false
answers_by (Some r) = not r.absent

answers-is : (us : List (Option LogicalUnit)) → list_any slot_answers us ≡ list_any answers_by (rigs us)
answers-is [] = refl
answers-is (None ∷ us) = ap (λ b. false || b) (answers-is us)
answers-is (Some u ∷ us) = ap (λ b. not u.rig.absent || b) (answers-is us)

not-or : (b : Bool) → b ≡ false → (not b || false) ≡ true
not-or false e = refl
not-or true e = cc

and-not : (a b : Bool) → b ≡ true → (a && not b) ≡ false
and-not true true e = refl
and-not false true e = refl
and-not a false e = cc

pub present-is : (t : Target) (r : RigUnit) → IsHeld t.units r → is_absent t ≡ false
unfolding is_absent answers
present-is t r h =
    let a : list_any slot_answers t.units ≡ true = answers-is t.units ∙ ap (λ rs. list_any answers_by rs) h.rigs_are ∙ not-or r.absent h.unit.present in
    and-not (list_any slot_has_unit t.units) (list_any slot_answers t.units) a

-- connected, and no phase is shown
shows-none : (s : TaskPhase) → phase_of s ≡ None → s ≡ ToChoose
shows-none ToChoose e = refl
shows-none MessageOut e = cc
shows-none (DataIn n) e = cc
shows-none (DataOut n) e = cc
shows-none (Status v) e = cc
shows-none (MessageIn n sent) e = cc

rogue-none : (s : RoguePhase) → rogue_phase s ≡ None → s ≡ rogue_shows.ToChoose
rogue-none rogue_shows.ToChoose e = refl
rogue-none rogue_shows.MessageOut e = cc
rogue-none (rogue_shows.DataIn left b) e = cc
rogue-none (rogue_shows.DataOut left) e = cc
rogue-none (rogue_shows.Command left) e = cc
rogue-none (rogue_shows.Status b) e = cc
rogue-none (rogue_shows.MessageIn b sent) e = cc
rogue-none (rogue_shows.Reselection p sent) e = cc

pub to-choose : (l : ConnectionState) → is_free l ≡ false → link_phase l ≡ None → IsToChoose l
to-choose BusFree e f = cc
to-choose (Selected heard) e f = cc
to-choose (TakingCommand n taken) e f = cc
to-choose (TaskConnected c) e f = shows-none c.shows f
to-choose (RogueConnected s n) e f = rogue-none s f

-- a byte of a message was sent
waits-working : (s : TaskPhase) (c : Connection) (b : ℕ) → c.shows ≡ s → phase_of s ≡ Some phase.MsgIn → byte_by s c.task c.lun ≡ Some b → WaitsForAck (TaskConnected (sent_by s c))
waits-working ToChoose c b i e f = cc
waits-working MessageOut c b i e f = cc
waits-working (DataIn n) c b i e f = cc
waits-working (DataOut n) c b i e f = cc
waits-working (Status v) c b i e f = cc
waits-working (MessageIn n sent) c b i e f = (n, refl)

waits-rogue : (s : RoguePhase) (n : Option Nexus) (b : ℕ) → rogue_phase s ≡ Some phase.MsgIn → rogue_byte s n ≡ Some b → WaitsForAck (RogueConnected (rogue_sent s) n)
waits-rogue rogue_shows.ToChoose n b e f = cc
waits-rogue rogue_shows.MessageOut n b e f = cc
waits-rogue (rogue_shows.DataIn left x) n b e f = cc
waits-rogue (rogue_shows.DataOut left) n b e f = cc
waits-rogue (rogue_shows.Command left) n b e f = cc
waits-rogue (rogue_shows.Status x) n b e f = cc
waits-rogue (rogue_shows.MessageIn x sent) n b e f = inl (x, refl)
waits-rogue (rogue_shows.Reselection p sent) n b e f = inr (p, refl)

waits-by : (l : ConnectionState) (b : ℕ) → link_phase l ≡ Some phase.MsgIn → link_byte l ≡ Some b → WaitsForAck (sent_if (Some b) l)
waits-by BusFree b e f = cc
waits-by (Selected heard) b e f = cc
waits-by (TakingCommand n taken) b e f = cc
waits-by (TaskConnected c) b e f = waits-working c.shows c b refl e f
waits-by (RogueConnected s n) b e f = waits-rogue s n b e f

pub waits : (l : ConnectionState) (b : ℕ) → link_phase l ≡ Some phase.MsgIn → link_byte l ≡ Some b → WaitsForAck (sent_if (link_byte l) l)
waits l b e f = subst (λ o. WaitsForAck (sent_if o l)) (sym f) (waits-by l b e f)

-- the other way round
shows-choosing : (s : TaskPhase) → s ≡ ToChoose → phase_of s ≡ None
shows-choosing s e = ap phase_of e

pub choosing-free : (l : ConnectionState) → IsToChoose l → is_free l ≡ false
choosing-free BusFree i = absurd i
choosing-free (Selected heard) i = absurd i
choosing-free (TakingCommand n taken) i = absurd i
choosing-free (TaskConnected c) i = refl
choosing-free (RogueConnected s n) i = refl

pub choosing-none : (l : ConnectionState) → IsToChoose l → link_phase l ≡ None
choosing-none BusFree i = absurd i
choosing-none (Selected heard) i = absurd i
choosing-none (TakingCommand n taken) i = absurd i
choosing-none (TaskConnected c) i = ap phase_of i
choosing-none (RogueConnected s n) i = ap rogue_phase i

-- what holds goes on to hold where the rigs stay
pub held-same : (us vs : List (Option LogicalUnit)) (r : RigUnit) → IsHeld us r → rigs vs ≡ rigs us → IsHeld vs r
held-same us vs r h e = record { rigs_are = e ∙ h.rigs_are; unit = h.unit }

room-by : (fits : Bool) (d : DeviceState) (t : Target) (r : RigUnit) → IsHeld d.target.units r → Same d.target t → IsHeld (if fits then record { target = t; rooms = d.rooms } else d).target.units r
room-by true d t r h e = held-same d.target.units t.units r h e
room-by false d t r h e = h

pub held-room : (d : DeviceState) (t : Target) (r : RigUnit) → IsHeld d.target.units r → Same d.target t → IsHeld (where_room d t).target.units r
unfolding where_room
held-room d t r h e = room-by (lie_within t.units d.rooms) d t r h e

-- what is known of the unit of LUN 3
pub at-three : (us : List (Option LogicalUnit)) (r : RigUnit) (P : LogicalUnit → Type 0) → IsHeld us r → IsThere (unit_at us r.lun) P → IsThere (unit_at us 3) P
at-three us r P h p = subst (λ n. IsThere (unit_at us n) P) h.unit.lun p

below-by : (o : Option LogicalUnit) (n count : ℕ) → IsThere o (λ u. count ≡ candidates u) → n < count → IsThere o (λ u. n < candidates u)
below-by (Some u) n count e l = subst (λ x. n < x) e l
below-by None n count e l = e

pub below : (us : List (Option LogicalUnit)) (lun n count : ℕ) → IsThere (unit_at us lun) (λ u. count ≡ candidates u) → n < count → IsThere (unit_at us lun) (λ u. n < candidates u)
below us lun n count e l = below-by (unit_at us lun) n count e l

some-byte : (o : Option ℕ) → is_some o ≡ true → (b : ℕ) × (o ≡ Some b)
some-byte None e = absurd cc
some-byte (Some b) e = (b, refl)

pub waits-after : (l : ConnectionState) (byte : Option ℕ) → byte ≡ link_byte l → is_some byte ≡ true → link_phase l ≡ Some phase.MsgIn → WaitsForAck (sent_if (link_byte l) l)
waits-after l byte e s p =
    let b : (x : ℕ) × (byte ≡ Some x) = some-byte byte s in
    waits l b.0 p (sym e ∙ b.1)

pub held-where : (d d' : DeviceState) (t : Target) (r : RigUnit) → IsHeld d.target.units r → Same d.target t → d' ≡ where_room d t → IsHeld d'.target.units r
held-where d d' t r h e f = subst (λ (x : DeviceState). IsHeld x.target.units r) (sym f) (held-room d t r h e)

pub held-by : (d d' : DeviceState) (t : Target) (r : RigUnit) → IsHeld d.target.units r → Same d.target t → d' ≡ record { target = t; rooms = d.rooms } → IsHeld d'.target.units r
held-by d d' t r h e f = subst (λ (x : DeviceState). IsHeld x.target.units r) (sym f) (held-same d.target.units t.units r h e)

pub held-opened : (d : DeviceState) (r : RigUnit) → IsPresent r → d.target ≡ target_opened (r ∷ []) → IsHeld d.target.units r
held-opened d r p e = record { rigs_are = ap (λ (t : Target). rigs t.units) e ∙ opened-rigs r p.lun; unit = p }

pub held-target : (d d' : DeviceState) (r : RigUnit) → IsHeld d.target.units r → d'.target ≡ d.target → IsHeld d'.target.units r
held-target d d' r h e = subst (λ (t : Target). IsHeld t.units r) (sym e) h

pub is-in : (o : Option Phase) → is_message_in o ≡ true → o ≡ Some phase.MsgIn
is-in None e = cc
is-in (Some phase.DataOut) e = cc
is-in (Some phase.DataIn) e = cc
is-in (Some phase.Command) e = cc
is-in (Some phase.Status) e = cc
is-in (Some phase.MsgOut) e = cc
is-in (Some phase.MsgIn) e = refl

-- no reselection of a connected target, nor of a task that isn't there
no-free : (o : Option LogicalUnit) (n : ℕ) (free : Bool) → IsThere o (λ u. Unit {0}) → free ≡ false → IsThere o (λ u. false ≡ (free && nat_lt n (candidates u)))
no-free (Some u) n true t e = absurd cc
no-free (Some u) n false t e = refl
no-free None n free t e = t

not-free : (free bound : Bool) → bound ≡ not free → bound ≡ true → free ≡ false
not-free true bound e f = absurd cc
not-free false bound e f = refl

pub stays-connected : (i d : DeviceState) (r : RigUnit) (n : ℕ) (bound : Bool) → IsHeld i.target.units r → i ≡ d → bound ≡ not (is_free i.target.link) → bound ≡ true → IsThere (unit_at d.target.units 3) (λ u. false ≡ (is_free d.target.link && nat_lt n (candidates u)))
stays-connected i d r n bound h e b f =
    subst (λ (x : DeviceState). IsThere (unit_at x.target.units 3) (λ u. false ≡ (is_free x.target.link && nat_lt n (candidates u)))) e
    (no-free (unit_at i.target.units 3) n (is_free i.target.link) (at-three i.target.units r (λ u. Unit {0}) h (unit-there i.target.units r h)) (not-free (is_free i.target.link) bound b f))

and-false : (a b : Bool) → b ≡ false → false ≡ (a && b)
and-false true b e = sym e
and-false false b e = refl

not-below : (n count : ℕ) → count ≤ n → nat_lt n count ≡ false
not-below n count l = grind (arith, nat_tests)

no-such : (o : Option LogicalUnit) (n count : ℕ) (free : Bool) → IsThere o (λ u. count ≡ candidates u) → count ≤ n → IsThere o (λ u. false ≡ (free && nat_lt n (candidates u)))
no-such (Some u) n count free e l = and-false free (nat_lt n (candidates u)) (not-below n (candidates u) (subst (λ x. x ≤ n) e l))
no-such None n count free e l = e

pub stays-without : (i d : DeviceState) (r : RigUnit) (n count : ℕ) → IsHeld i.target.units r → i ≡ d → IsThere (unit_at i.target.units r.lun) (λ u. count ≡ candidates u) → count ≤ n → IsThere (unit_at d.target.units 3) (λ u. false ≡ (is_free d.target.link && nat_lt n (candidates u)))
stays-without i d r n count h e c l =
    subst (λ (x : DeviceState). IsThere (unit_at x.target.units 3) (λ u. false ≡ (is_free x.target.link && nat_lt n (candidates u)))) e
    (no-such (unit_at i.target.units 3) n count (is_free i.target.link) (at-three i.target.units r (λ u. count ≡ candidates u) h c) l)

-- whether the target hears of ATN
abbrev Asks : DeviceState → Type 0
Asks d = (is_rogue d.target ≡ false) × IsToChoose d.target.link

pub asks-rogue : (d : DeviceState) (rogue : Bool) → rogue ≡ is_rogue d.target → rogue ≡ true → IsTrue false ↔ Asks d
asks-rogue d rogue e f = (λ t. absurd cc, λ a. let k : is_rogue d.target ≡ false = a.0 in absurd cc)

pub asks-not : (d : DeviceState) (is : Bool) → is ≡ false → (IsToChoose d.target.link → IsTrue is) → IsTrue false ↔ Asks d
asks-not d is e f = (λ t. absurd cc, λ a. subst (λ (x : Bool). IsTrue x) e (f a.1))

pub asks-so : (d : DeviceState) (rogue is : Bool) → rogue ≡ is_rogue d.target → rogue ≡ false → is ≡ true → (IsTrue is → IsToChoose d.target.link) → IsTrue true ↔ Asks d
asks-so d rogue is e f g k = (λ t. (sym e ∙ f, k (subst (λ (x : Bool). IsTrue x) (sym g) t)), λ b. refl)

-- the room that the unit's log is given at the opening
opened-unit : (r : RigUnit) → r.lun ≡ 3 → unit_at (target_opened (r ∷ [])).units 3 ≡ Some (unit_opened r)
unfolding target_opened with_unit unit_at
opened-unit r e = rw e refl

none-before : (n : ℕ) → max 0 (0 + n) ≡ n
none-before n = omega arith

reserved-room : (r : RigUnit) (room : ℕ) → r.lun ≡ 3 → room_at (device_reserved (device_opened (r ∷ [])) 3 room) 3 ≡ room
unfolding device_reserved
reserved-room r room e = ap (λ (o : Option LogicalUnit). room_at (reserved_for (device_opened (r ∷ [])) 3 room o) 3) (opened-unit r e) ∙ none-before room

pub opened-room : (r : RigUnit) (room : ℕ) (d d' : DeviceState) → r.lun ≡ 3 → d ≡ device_opened (r ∷ []) → d' ≡ device_reserved d r.lun room → room_at d' 3 ≡ room
opened-room r room d d' lun o m =
    ap (λ (x : DeviceState). room_at x 3) (m ∙ ap (λ (x : DeviceState). device_reserved x r.lun room) o ∙ ap (λ (n : ℕ). device_reserved (device_opened (r ∷ [])) n room) lun)
    ∙ reserved-room r room lun

pub opened-target : (r : RigUnit) (room : ℕ) (d d' : DeviceState) → d ≡ device_opened (r ∷ []) → d' ≡ device_reserved d r.lun room → d'.target ≡ target_opened (r ∷ [])
opened-target r room d d' o m = ap (λ (x : DeviceState). x.target) m ∙ device_reserved-target d r.lun room ∙ ap (λ (x : DeviceState). x.target) o
