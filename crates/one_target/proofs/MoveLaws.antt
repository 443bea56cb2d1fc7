-- Each move of the bus of `one` keeps what holds of it.
use Rattle.std.proofs.Common.{◌≡◌, ℕ, zero, suc, ◌==◌, ◌||◌, if◌then◌else◌, Bool, true, false, nat_lt, List, [], ◌∷◌, map, refl, ap, sym, ◌∙◌, subst, arith, Option, Some, None, slice_get}
use Rattle.std.proofs.lemmas.Bool.Decides.{nat_tests}
use Rattle.cdb_codec.specs.declared.commands.Cdb.{Cdb}
use Rattle.cdb_codec.specs.Blocks.{cdb_of}
use Rattle.cdb_codec.specs.Forms.{need_of}
use Rattle.rig_types.specs.declared.rig.Unit.{Unit as RigUnit}
use Rattle.target_law.specs.declared.task_phase.ReselectByte.TheVariants as part
use Rattle.target_law.specs.declared.task_phase.TargetMessage.{TargetMessage}
use Rattle.target_law.specs.declared.task_phase.TargetMessage.TheVariants as target_message
use Rattle.target_law.specs.declared.task_phase.TaskPhase.{TaskPhase}
use Rattle.target_law.specs.declared.task_phase.TaskPhase.TheVariants.{ToChoose, MessageOut, DataIn, DataOut, Status, MessageIn}
use Rattle.target_law.specs.declared.moves.Move.{Move}
use Rattle.target_law.specs.declared.nexus.Nexus.{Nexus}
use Rattle.target_law.specs.Session.{acted, closed, began}
use Rattle.target_law.specs.Bytes.{Connection, sent_by, took_by, heard_by}
use Rattle.target_law.specs.Target.{LogicalUnit, ConnectionState, BusFree, Selected, TakingCommand, TaskConnected, RogueConnected, Target, flat, unit_at, with_unit, at_lun, on_unit, session, unit_after, goes_on, ends, leaves, linked, unit_left, drops, unit_reset, slot_reset, parted, target_reset}
use Rattle.target_law.specs.Calls.{is_rogue, target_selected, selected_by, target_acted, acted_by, asked_by, sent_if, took_if, InitiatorMessage, Names, Resets, AbortsTag, Other, message_of, greeted, aborted, told, messaged_by, target_messaged, message_acked, shown_acked, acked_by, target_acked, begun, begun_with, begun_by, target_begun, has_tag, has_ended}
use Rattle.one_target.specs.Holding.{is_usual, is_alone, is_of_one}
use Rattle.one_target.proofs.Slots.{slots, unit_at-slots, with_unit-slots}
use Rattle.target_law.proofs.Rigs.{rig-drops_by, rig-unit_reset}

-- the unit of a target that has it alone
pub record Alone (units : List (Option LogicalUnit)) : Type 0 where
  pub unit : LogicalUnit
  pub units_are : units ≡ slots unit
  pub usual : is_usual unit.rig ≡ true

pub alone-of : (units : List (Option LogicalUnit)) → is_alone units ≡ true → Alone units
alone-of (Some u ∷ None ∷ None ∷ None ∷ None ∷ None ∷ None ∷ None ∷ []) e = record { unit = u; units_are = refl; usual = e }
alone-of _ e = absurd cc

-- a target with the unit alone, whose link is one of LUN 0
pub record IsKept (t : Target) : Type 0 where
  pub alone : Alone t.units
  pub of_one : is_of_one t.link ≡ true

no_unit : (k : ℕ) → flat (slice_get (None ∷ None ∷ None ∷ None ∷ None ∷ None ∷ None ∷ []) k) ≡ None
no_unit zero = refl
no_unit (suc zero) = refl
no_unit (suc (suc zero)) = refl
no_unit (suc (suc (suc zero))) = refl
no_unit (suc (suc (suc (suc zero)))) = refl
no_unit (suc (suc (suc (suc (suc zero))))) = refl
no_unit (suc (suc (suc (suc (suc (suc zero)))))) = refl
no_unit (suc (suc (suc (suc (suc (suc (suc k))))))) = refl

-- every other LUN has no unit
pub unit_at-other : (u : LogicalUnit) (k : ℕ) → unit_at (slots u) (suc k) ≡ None
unfolding unit_at
unit_at-other u k = no_unit k

made : (u : LogicalUnit) (l : ConnectionState) → is_usual u.rig ≡ true → is_of_one l ≡ true → IsKept (record { units = slots u; link = l })
made u l q e = record { alone = record { unit = u; units_are = refl; usual = q }; of_one = e }

-- what is done at a LUN keeps it, where it does so at LUN 0
at-lun : (u : LogicalUnit) (t : Target) (lun : ℕ) (f : LogicalUnit → Target) → t.units ≡ slots u → IsKept t → (lun ≡ 0 → IsKept (f u)) → IsKept (at_lun t lun f)
at-lun u t zero f e k g = subst (λ (o : Option LogicalUnit). IsKept (on_unit o f t)) (sym (ap (λ (us : List (Option LogicalUnit)). unit_at us 0) e ∙ unit_at-slots u)) (g refl)
at-lun u t (suc n) f e k g = subst (λ (o : Option LogicalUnit). IsKept (on_unit o f t)) (sym (ap (λ (us : List (Option LogicalUnit)). unit_at us (suc n)) e ∙ unit_at-other u n)) k

-- a unit changes, and its rig doesn't
changed : (u v : LogicalUnit) (lun : ℕ) (l : ConnectionState) → lun ≡ 0 → v.rig ≡ u.rig → is_usual u.rig ≡ true → is_of_one l ≡ true → IsKept (record { units = with_unit (slots u) lun v; link = l })
changed u v lun l z r q e =
    let units_are : with_unit (slots u) lun v ≡ slots v = ap (λ (n : ℕ). with_unit (slots u) n v) z ∙ with_unit-slots u v in
    record { alone = record { unit = v; units_are = units_are; usual = ap is_usual r ∙ q }; of_one = e }

abbrev at_one : LogicalUnit → ConnectionState → Target
at_one u l = record { units = slots u; link = l }

-- links that stay of LUN 0
sent-lun : (s : TaskPhase) (c : Connection) → (sent_by s c).lun ≡ c.lun
sent-lun ToChoose c = refl
sent-lun MessageOut c = refl
sent-lun (DataIn n) c = refl
sent-lun (DataOut n) c = refl
sent-lun (Status v) c = refl
sent-lun (MessageIn n sent) c = refl

took-lun : (s : TaskPhase) (c : Connection) (b : ℕ) → (took_by s c b).lun ≡ c.lun
took-lun ToChoose c b = refl
took-lun MessageOut c b = refl
took-lun (DataIn n) c b = refl
took-lun (DataOut n) c b = refl
took-lun (Status v) c b = refl
took-lun (MessageIn n sent) c b = refl

abbrev is_zero : ℕ → Bool
is_zero n = n == 0

sent-of_one : (o : Option ℕ) (l : ConnectionState) → is_of_one l ≡ true → is_of_one (sent_if o l) ≡ true
sent-of_one None l e = e
sent-of_one (Some b) BusFree e = refl
sent-of_one (Some b) (Selected heard) e = refl
sent-of_one (Some b) (TakingCommand n taken) e = e
sent-of_one (Some b) (TaskConnected c) e = ap is_zero (sent-lun c.shows c) ∙ e
sent-of_one (Some b) (RogueConnected s n) e = absurd cc

took-of_one : (takes : Bool) (l : ConnectionState) (b : ℕ) → is_of_one l ≡ true → is_of_one (took_if takes l b) ≡ true
took-of_one false l b e = e
took-of_one true BusFree b e = refl
took-of_one true (Selected heard) b e = refl
took-of_one true (TakingCommand n taken) b e = e
took-of_one true (TaskConnected c) b e = ap is_zero (took-lun c.shows c b) ∙ e
took-of_one true (RogueConnected s n) b e = absurd cc

pub asked-of_one : (l : ConnectionState) → is_of_one l ≡ true → is_of_one (asked_by l) ≡ true
asked-of_one BusFree e = refl
asked-of_one (Selected heard) e = refl
asked-of_one (TakingCommand n taken) e = e
asked-of_one (TaskConnected c) e = e
asked-of_one (RogueConnected s n) e = absurd cc

pub zero-of : (n : ℕ) → n == 0 ≡ true → n ≡ 0
zero-of n e = grind (arith, nat_tests)

-- a task leaves the bus
left-kept : (u : LogicalUnit) (l : ConnectionState) (c : Connection) → is_usual u.rig ≡ true → is_of_one l ≡ true → IsKept (at_lun (at_one u l) c.lun (leaves (at_one u l) c))
left-kept u l c q e = at-lun u (at_one u l) c.lun (leaves (at_one u l) c) refl (made u l q e) (λ z. changed u (unit_left u c.task) c.lun BusFree z refl q refl)

-- a move
acted-kept : (u : LogicalUnit) (l : ConnectionState) (m : Move) → is_usual u.rig ≡ true → is_of_one l ≡ true → IsKept (acted_by l (at_one u l) m)
acted-kept u BusFree m q e = made u BusFree q e
acted-kept u (Selected heard) m q e = made u (Selected heard) q e
acted-kept u (TakingCommand n taken) m q e = made u (TakingCommand n taken) q e
acted-kept u (TaskConnected c) m q e =
    at-lun u (at_one u (TaskConnected c)) c.lun (λ v. goes_on (at_one u (TaskConnected c)) c v (acted m (session v c))) refl (made u (TaskConnected c) q e)
    (λ z. changed u (unit_after u (acted m (session u c))) c.lun (TaskConnected (record c { task = (acted m (session u c)).task; shows = (acted m (session u c)).shows })) z refl q e)
acted-kept u (RogueConnected s n) m q e = absurd cc

-- a reset
reset-alone : (t : Target) → IsKept t → IsKept (record { units = map slot_reset t.units; link = BusFree })
reset-alone t k =
    let v : LogicalUnit = k.alone.unit in
    let e : map slot_reset t.units ≡ slots (unit_reset v) = ap (λ (us : List (Option LogicalUnit)). map slot_reset us) k.alone.units_are in
    record { alone = record { unit = unit_reset v; units_are = e; usual = ap is_usual (rig-unit_reset v) ∙ k.alone.usual }; of_one = refl }

parted-kept : (u : LogicalUnit) (l m : ConnectionState) → is_usual u.rig ≡ true → is_of_one l ≡ true → IsKept (parted m (at_one u l))
parted-kept u l BusFree q e = made u l q e
parted-kept u l (Selected heard) q e = made u l q e
parted-kept u l (TakingCommand n taken) q e = made u l q e
parted-kept u l (TaskConnected c) q e = left-kept u l c q e
parted-kept u l (RogueConnected s n) q e = made u l q e

reset-kept : (u : LogicalUnit) (l : ConnectionState) → is_usual u.rig ≡ true → is_of_one l ≡ true → IsKept (target_reset (at_one u l))
unfolding target_reset
reset-kept u l q e = reset-alone (parted l (at_one u l)) (parted-kept u l l q e)

-- a message to the target
named-zero : (n : ℕ) → n ≡ 0 → n == 0 ≡ true
named-zero n z = grind (arith, nat_tests)

greeted-kept : (u : LogicalUnit) (l : ConnectionState) (h : InitiatorMessage) → is_usual u.rig ≡ true → is_of_one l ≡ true → IsKept (greeted (at_one u l) h)
greeted-kept u l (Names n) q e =
    at-lun u (at_one u BusFree) n.lun (λ v. linked (at_one u l) (TakingCommand n [])) refl (made u BusFree q refl) (λ z. made u (TakingCommand n []) q (named-zero n.lun z))
greeted-kept u l Resets q e = reset-kept u l q e
greeted-kept u l AbortsTag q e = made u BusFree q refl
greeted-kept u l Other q e = made u BusFree q refl

aborted-kept : (reselected : Bool) (u : LogicalUnit) (l : ConnectionState) (c : Connection) → is_usual u.rig ≡ true → is_of_one l ≡ true → IsKept (at_lun (at_one u l) c.lun (aborted reselected (at_one u l) c))
aborted-kept true u l c q e = at-lun u (at_one u l) c.lun (aborted true (at_one u l) c) refl (made u l q e) (λ z. changed u (drops u c.task) c.lun BusFree z (rig-drops_by c.task.senses u c.task) q refl)
aborted-kept false u l c q e = left-kept u l c q e

told-kept : (h : InitiatorMessage) (u : LogicalUnit) (l : ConnectionState) (c : Connection) → is_usual u.rig ≡ true → is_of_one l ≡ true → IsKept (told h (at_one u l) c)
told-kept (Names n) u l c q e = left-kept u l c q e
told-kept Resets u l c q e = reset-kept u l q e
told-kept AbortsTag u l c q e = aborted-kept c.reselected u l c q e
told-kept Other u l c q e = left-kept u l c q e

messaged-kept : (u : LogicalUnit) (l : ConnectionState) → is_usual u.rig ≡ true → is_of_one l ≡ true → IsKept (messaged_by l (at_one u l))
messaged-kept u BusFree q e = made u BusFree q e
messaged-kept u (Selected heard) q e = greeted-kept u (Selected heard) (message_of heard) q e
messaged-kept u (TakingCommand n taken) q e = made u (TakingCommand n taken) q e
messaged-kept u (TaskConnected c) q e = told-kept (message_of c.heard) u (TaskConnected c) c q e
messaged-kept u (RogueConnected s n) q e = absurd cc

-- a message of the target is acknowledged
message_acked-kept : (n : TargetMessage) (u : LogicalUnit) (c : Connection) → is_usual u.rig ≡ true → c.lun == 0 ≡ true → IsKept (message_acked n (at_one u (TaskConnected c)) c)
message_acked-kept (target_message.CommandComplete v) u c q e =
    at-lun u (at_one u (TaskConnected c)) c.lun (λ w. ends (at_one u (TaskConnected c)) c w (closed v (session w c))) refl (made u (TaskConnected c) q e)
    (λ z. changed u (unit_after u (closed v (session u c))) c.lun BusFree z refl q refl)
message_acked-kept target_message.Disconnect u c q e = left-kept u (TaskConnected c) c q e
message_acked-kept (target_message.Reselection part.Identify) u c q e = made u (TaskConnected (heard_by (target_message.Reselection part.Identify) c)) q e
message_acked-kept (target_message.Reselection part.SimpleQueueTag) u c q e = made u (TaskConnected (heard_by (target_message.Reselection part.SimpleQueueTag) c)) q e
message_acked-kept (target_message.Reselection part.Tag) u c q e = made u (TaskConnected (heard_by (target_message.Reselection part.Tag) c)) q e
message_acked-kept target_message.SaveThenDisconnect u c q e = made u (TaskConnected (heard_by target_message.SaveThenDisconnect c)) q e
message_acked-kept target_message.SaveDataPointer u c q e = made u (TaskConnected (heard_by target_message.SaveDataPointer c)) q e
message_acked-kept target_message.RestorePointers u c q e = made u (TaskConnected (heard_by target_message.RestorePointers c)) q e

shown-kept : (s : TaskPhase) (u : LogicalUnit) (c : Connection) → is_usual u.rig ≡ true → c.lun == 0 ≡ true → IsKept (shown_acked s (at_one u (TaskConnected c)) c)
shown-kept ToChoose u c q e = made u (TaskConnected c) q e
shown-kept MessageOut u c q e = made u (TaskConnected c) q e
shown-kept (DataIn n) u c q e = made u (TaskConnected c) q e
shown-kept (DataOut n) u c q e = made u (TaskConnected c) q e
shown-kept (Status v) u c q e = made u (TaskConnected c) q e
shown-kept (MessageIn n sent) u c q e = message_acked-kept n u c q e

acked-kept : (u : LogicalUnit) (l : ConnectionState) → is_usual u.rig ≡ true → is_of_one l ≡ true → IsKept (acked_by l (at_one u l))
acked-kept u BusFree q e = made u BusFree q e
acked-kept u (Selected heard) q e = made u (Selected heard) q e
acked-kept u (TakingCommand n taken) q e = made u (TakingCommand n taken) q e
acked-kept u (TaskConnected c) q e = shown-kept c.shows u c q e
acked-kept u (RogueConnected s n) q e = absurd cc

-- a task begins
begun_where-kept : (refused : Bool) (u : LogicalUnit) (l k : ConnectionState) → is_usual u.rig ≡ true → is_of_one k ≡ true → IsKept (if refused then linked (at_one u l) BusFree else linked (at_one u l) k)
begun_where-kept true u l k q e = made u BusFree q refl
begun_where-kept false u l k q e = made u k q e

begun-kept : (u : LogicalUnit) (l : ConnectionState) (n : Nexus) (c : Cdb) (ticket : ℕ) → is_usual u.rig ≡ true → is_of_one l ≡ true → IsKept (at_lun (at_one u l) n.lun (λ v. begun (at_one u l) n c v ticket))
begun-kept u l n c ticket q e =
    at-lun u (at_one u l) n.lun (λ v. begun (at_one u l) n c v ticket) refl (made u l q e)
    (λ z. begun_where-kept (has_tag u.tasks n.tag || nat_lt 65536 (need_of c).bytes) u l
    (TaskConnected (record { lun = n.lun; reselected = false; heard = []; task = began n.tag ticket c u.rig.disconnects (has_ended u.log ticket); shows = ToChoose })) q (named-zero n.lun z))

begun_with-kept : (o : Option ℕ) (u : LogicalUnit) (l : ConnectionState) (n : Nexus) (c : Cdb) → is_usual u.rig ≡ true → is_of_one l ≡ true → IsKept (begun_with (at_one u l) n c o)
begun_with-kept None u l n c q e = made u BusFree q refl
begun_with-kept (Some ticket) u l n c q e = begun-kept u l n c ticket q e

begun_by-kept : (u : LogicalUnit) (l : ConnectionState) (o : Option ℕ) → is_usual u.rig ≡ true → is_of_one l ≡ true → IsKept (begun_by l (at_one u l) o)
begun_by-kept u BusFree o q e = made u BusFree q e
begun_by-kept u (Selected heard) o q e = made u (Selected heard) q e
begun_by-kept u (TakingCommand n taken) o q e = begun_with-kept o u (TakingCommand n taken) n (cdb_of taken) q e
begun_by-kept u (TaskConnected c) o q e = made u (TaskConnected c) q e
begun_by-kept u (RogueConnected s n) o q e = absurd cc

-- a target with its units told
told_so : (f : Target → Target) (t : Target) → ((u : LogicalUnit) (l : ConnectionState) → is_usual u.rig ≡ true → is_of_one l ≡ true → IsKept (f (at_one u l))) → IsKept t → IsKept (f t)
told_so f t g k =
    subst (λ (us : List (Option LogicalUnit)). IsKept (f (record { units = us; link = t.link }))) (sym k.alone.units_are) (g k.alone.unit t.link k.alone.usual k.of_one)

pub kept-acted : (t : Target) (m : Move) → IsKept t → IsKept (target_acted t m)
unfolding target_acted
kept-acted t m k = told_so (λ x. acted_by x.link x m) t (λ u l q e. acted-kept u l m q e) k

pub kept-messaged : (t : Target) → IsKept t → IsKept (target_messaged t)
unfolding target_messaged
kept-messaged t k = told_so (λ x. messaged_by x.link x) t (λ u l q e. messaged-kept u l q e) k

pub kept-acked : (t : Target) → IsKept t → IsKept (target_acked t)
unfolding target_acked
kept-acked t k = told_so (λ x. acked_by x.link x) t (λ u l q e. acked-kept u l q e) k

pub kept-begun : (t : Target) (ticket : Option ℕ) → IsKept t → IsKept (target_begun t ticket)
unfolding target_begun
kept-begun t ticket k = told_so (λ x. begun_by x.link x ticket) t (λ u l q e. begun_by-kept u l ticket q e) k

pub kept-linked : (t : Target) (l : ConnectionState) → is_of_one l ≡ true → IsKept t → IsKept (linked t l)
kept-linked t l e k = record { alone = k.alone; of_one = e }

pub kept-sent : (t : Target) (o : Option ℕ) → IsKept t → IsKept (linked t (sent_if o t.link))
kept-sent t o k = kept-linked t (sent_if o t.link) (sent-of_one o t.link k.of_one) k

pub kept-took : (t : Target) (takes : Bool) (b : ℕ) → IsKept t → IsKept (linked t (took_if takes t.link b))
kept-took t takes b k = kept-linked t (took_if takes t.link b) (took-of_one takes t.link b k.of_one) k

pub kept-asked : (t : Target) → IsKept t → IsKept (linked t (asked_by t.link))
kept-asked t k = kept-linked t (asked_by t.link) (asked-of_one t.link k.of_one) k

pub kept-left : (t : Target) (c : Connection) → IsKept t → IsKept (at_lun t c.lun (leaves t c))
kept-left t c k = told_so (λ x. at_lun x c.lun (leaves x c)) t (λ u l q e. left-kept u l c q e) k

-- no unit of it is rogue, so a selection leads to its message
pub quiet-of : (r : RigUnit) → is_usual r ≡ true → r.rogue ≡ false
quiet-of r e = grind arith

pub not_rogue : (t : Target) → IsKept t → is_rogue t ≡ false
unfolding is_rogue
not_rogue t k = rw (k.alone.units_are, quiet-of k.alone.unit.rig k.alone.usual) refl

pub kept-selected : (t : Target) → IsKept t → IsKept (target_selected t)
kept-selected t k = kept-linked t (selected_by (is_rogue t)) (ap (λ (x : Bool). is_of_one (selected_by x)) (not_rogue t k)) k
