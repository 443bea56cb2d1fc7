-- What holds of a device after one of its units or its link has changed.
use Rattle.std.proofs.Common.{◌≡◌, ◌≢◌, ℕ, zero, suc, ◌+◌, ◌<◌, Bool, true, false, List, [], ◌∷◌, refl, ap, sym, ◌∙◌, Option, Some, None, length, slice_set, subst, ◌⊎◌, inl, inr, map, option_map, ◌||◌}
use Rattle.std.specs.Prelude.{slice_get}
use Rattle.std.specs.List.{list_any}
use Rattle.std.proofs.lemmas.List.{length-set}
use Rattle.std.proofs.lemmas.Option.{slice_get-map}
use Rattle.unit_law.proofs.Views.{same_or_not}
use Rattle.unit_law.specs.declared.entry.LogEntry.{LogEntry}
use Rattle.unit_log.specs.LogState.{LogState}
use Rattle.target_law.specs.Sound.{IsSound}
use Rattle.target_law.specs.Bytes.{Connection}
use Rattle.unit_tasks.specs.declared.queued.QueuedUnit.{QueuedUnit}
use Rattle.target_law.specs.Target.{LogicalUnit}
use Rattle.target_law.specs.Calls.{slot_is_rogue}
use Rattle.scsi_target.specs.Slots.{slot_of, At}
use Rattle.scsi_target.specs.Views.{busy, IsSlot, IsConnected, IsLinked, IsDevice}
use Rattle.scsi_target.specs.declared.connection_state.ConnectionState.{ConnectionState as HeldState}
use Rattle.scsi_target.specs.declared.connection_state.ConnectionState.TheVariants as held
use Rattle.scsi_target.proofs.Places.{place_set, place_other, within}

same_some : (q r : QueuedUnit) → Some (Some q) ≡ Some (Some r) → q ≡ r
same_some q r e = cc

-- a unit's place is as before where as many tasks of its LUN are connected
slot_keeps : (breaks : Bool) (old new : HeldState) (place : ℕ) (q : QueuedUnit) → busy new place ≡ busy old place → IsSlot breaks old place q → IsSlot breaks new place q
slot_keeps breaks old new place q b i = record {
  lun = i.lun;
  unit = i.unit;
  rogue = i.rogue;
  depth = i.depth;
  places = ap (λ n. length q.tasks.tasks + q.tasks.idle + n) b ∙ i.places;
  waiting = i.waiting;
  log = i.log;
}

pub slot_after_set : (slots : List (Option QueuedUnit)) (old new : HeldState) (breaks : Bool) (lun : ℕ) (q : QueuedUnit) → ((k : ℕ) (p : QueuedUnit) → slice_get slots k ≡ Some (Some p) → IsSlot breaks old k p)
    → lun < length slots → IsSlot breaks new lun q → ((k : ℕ) → k ≢ lun → busy new k ≡ busy old k)
    → (k : ℕ) (p : QueuedUnit) → slice_get (slice_set slots lun (Some q)) k ≡ Some (Some p) → (k ≡ lun) ⊎ (k ≢ lun) → IsSlot breaks new k p
slot_after_set slots old new breaks lun q all l s b k p e (inl same) =
    let here : q ≡ p = same_some q p (sym (place_set slots lun q l) ∙ subst (λ x. slice_get (slice_set slots lun (Some q)) x ≡ Some (Some p)) same e) in
    subst (λ x. IsSlot breaks new x p) (sym same) (subst (λ x. IsSlot breaks new lun x) here s)
slot_after_set slots old new breaks lun q all l s b k p e (inr other) = slot_keeps breaks old new k p (b k other) (all k p (sym (place_other slots lun k (Some q) other) ∙ e))

-- some unit breaks the rules, or none does
or_true : (a b : Bool) → b ≡ true → (a || b) ≡ true
or_true true b h = refl
or_true false b h = h

or_false : (a b : Bool) → a ≡ false → b ≡ false → (a || b) ≡ false
or_false true b h g = cc
or_false false b h g = g

any_at : {A : Type 0} (f : A → Bool) (xs : List A) (i : ℕ) (x : A) → slice_get xs i ≡ Some x → f x ≡ true → list_any f xs ≡ true
any_at f [] i x e h = cc
any_at f (y ∷ ys) zero x e h = let same : y ≡ x = cc in rw same rw h refl
any_at f (y ∷ ys) (suc i) x e h = or_true (f y) (list_any f ys) (any_at f ys i x e h)

none_any : {A : Type 0} (f : A → Bool) (xs : List A) → ((i : ℕ) (x : A) → slice_get xs i ≡ Some x → f x ≡ false) → list_any f xs ≡ false
none_any f [] h = refl
none_any f (y ∷ ys) h = or_false (f y) (list_any f ys) (h 0 y refl) (none_any f ys (λ i x e. h (suc i) x e))

slot_rogue : (breaks : Bool) (o : Option QueuedUnit) → ((q : QueuedUnit) → o ≡ Some q → q.rig.rogue ≡ false) → slot_is_rogue (slot_of o) ≡ false
slot_rogue breaks None h = refl
slot_rogue breaks (Some q) h = h q refl

-- as the unit of one place does, whichever it is
none_in : (slots : List (Option QueuedUnit)) (i : ℕ) (x : Option LogicalUnit) (o : Option (Option QueuedUnit)) → slice_get slots i ≡ o → ((k : ℕ) (p : QueuedUnit) → slice_get slots k ≡ Some (Some p) → p.rig.rogue ≡ false)
    → slice_get (map slot_of slots) i ≡ Some x → slot_is_rogue x ≡ false
none_in slots i x None e h f = let g : None ≡ Some x = sym (slice_get-map slot_of slots i ∙ ap (λ o. option_map slot_of o) e) ∙ f in cc
none_in slots i x (Some o) e h f =
    let g : Some (slot_of o) ≡ Some x = sym (slice_get-map slot_of slots i ∙ ap (λ a. option_map slot_of a) e) ∙ f in
    let same : slot_of o ≡ x = cc in
    subst (λ y. slot_is_rogue y ≡ false) same (slot_rogue false o (λ q d. h i q (e ∙ ap Some d)))

pub known_by : (slots : List (Option QueuedUnit)) (breaks : Bool) (lun : ℕ) (q : QueuedUnit) → slice_get slots lun ≡ Some (Some q) → ((k : ℕ) (p : QueuedUnit) → slice_get slots k ≡ Some (Some p) → p.rig.rogue ≡ breaks)
    → list_any slot_is_rogue (map slot_of slots) ≡ breaks
known_by slots true lun q e h = any_at slot_is_rogue (map slot_of slots) lun (slot_of (Some q)) (slice_get-map slot_of slots lun ∙ ap (λ o. option_map slot_of o) e) (h lun q e)
known_by slots false lun q e h = none_any slot_is_rogue (map slot_of slots) (λ i x f. none_in slots i x (slice_get slots i) refl h f)

-- one unit has changed, and the link
pub device_set : (count : ℕ) (slots : List (Option QueuedUnit)) (old new : HeldState) (breaks : Bool) (lun : ℕ) (q : QueuedUnit) → IsDevice count slots old breaks → lun < length slots
    → IsSlot breaks new lun q → ((k : ℕ) → k ≢ lun → busy new k ≡ busy old k) → IsLinked new (slice_set slots lun (Some q)) breaks → IsDevice count (slice_set slots lun (Some q)) new breaks
device_set count slots old new breaks lun q i l s b n = record {
  counted = i.counted;
  eight = length-set slots lun (Some q) ∙ i.eight;
  slots_are = λ k p e. slot_after_set slots old new breaks lun q i.slots_are l s b k p e (same_or_not k lun);
  known = known_by (slice_set slots lun (Some q)) breaks lun q (place_set slots lun q l) (λ k p e. (slot_after_set slots old new breaks lun q i.slots_are l s b k p e (same_or_not k lun)).rogue);
  linked = n;
}

-- the link alone has changed
pub device_relinked : (count : ℕ) (slots : List (Option QueuedUnit)) (old new : HeldState) (breaks : Bool) → IsDevice count slots old breaks → ((k : ℕ) → busy new k ≡ busy old k) → IsLinked new slots breaks
    → IsDevice count slots new breaks
device_relinked count slots old new breaks i b n = record {
  counted = i.counted;
  eight = i.eight;
  slots_are = λ k p e. slot_keeps breaks old new k p (b k) (i.slots_are k p e);
  known = i.known;
  linked = n;
}

-- what is said of a unit, after one unit has changed
at_by : (slots : List (Option QueuedUnit)) (lun k : ℕ) (q : QueuedUnit) (P : QueuedUnit → Type 0) → lun < length slots → At slots k P → (k ≡ lun → P q) → (k ≡ lun) ⊎ (k ≢ lun)
    → At (slice_set slots lun (Some q)) k P
at_by slots lun k q P l a f (inl same) = (q, subst (λ x. slice_get (slice_set slots lun (Some q)) x ≡ Some (Some q)) (sym same) (place_set slots lun q l), f same)
at_by slots lun k q P l a f (inr other) = (a.0, place_other slots lun k (Some q) other ∙ a.1, a.2)

pub at_set : (slots : List (Option QueuedUnit)) (lun k : ℕ) (q : QueuedUnit) (P : QueuedUnit → Type 0) → lun < length slots → At slots k P → (k ≡ lun → P q) → At (slice_set slots lun (Some q)) k P
at_set slots lun k q P l a f = at_by slots lun k q P l a f (same_or_not k lun)

-- the link holds on, where a connected task of the changed unit does
pub linked_set : (slots : List (Option QueuedUnit)) (link : HeldState) (breaks : Bool) (lun : ℕ) (q : QueuedUnit) → lun < length slots → IsLinked link slots breaks
    → ((c : Connection) → link ≡ held.TaskConnected c → c.lun ≡ lun → IsConnected breaks c q) → IsLinked link (slice_set slots lun (Some q)) breaks
linked_set slots held.BusFree breaks lun q l i f = i
linked_set slots (held.Selected heard) breaks lun q l i f = i
linked_set slots (held.TakingCommand n block) breaks lun q l i f = (i.0, i.1, at_set slots lun n.lun q (λ p. Unit {0}) l i.2 (λ e. tt))
linked_set slots (held.TaskConnected c) breaks lun q l i f = at_set slots lun c.lun q (IsConnected breaks c) l i (f c refl)
linked_set slots (held.RogueConnected s n) breaks lun q l i f = i

pub same_link : (slots : List (Option QueuedUnit)) (link : HeldState) (breaks : Bool) (c : Connection) → IsLinked link slots breaks → link ≡ held.TaskConnected c → At slots c.lun (IsConnected breaks c)
same_link slots link breaks c i e = subst (λ l. IsLinked l slots breaks) e i

one_unit : (slots : List (Option QueuedUnit)) (k lun : ℕ) (p q : QueuedUnit) → slice_get slots k ≡ Some (Some p) → slice_get slots lun ≡ Some (Some q) → k ≡ lun → p ≡ q
one_unit slots k lun p q e f same = same_some p q (sym e ∙ ap (λ x. slice_get slots x) same ∙ f)

-- the link holds on, where a task that is connected to the old unit is to the new one
pub linked_by : (slots : List (Option QueuedUnit)) (link : HeldState) (breaks : Bool) (lun : ℕ) (old new : QueuedUnit) → slice_get slots lun ≡ Some (Some old) → IsLinked link slots breaks
    → ((c : Connection) → IsConnected breaks c old → IsConnected breaks c new) → IsLinked link (slice_set slots lun (Some new)) breaks
linked_by slots link breaks lun old new e i f =
    linked_set slots link breaks lun new (within slots lun old e) i (λ c is same.
    let a = same_link slots link breaks c i is in f c (subst (IsConnected breaks c) (one_unit slots c.lun lun a.0 old a.1 e same) a.2))

-- a unit whose log has the same entries
pub connected_log : (breaks : Bool) (c : Connection) (q : QueuedUnit) (j : LogState) → j.entries ≡ q.core.log.entries → IsConnected breaks c q
    → IsConnected breaks c (record { rig = q.rig; core = record { lun = q.core.lun; log = j }; tasks = q.tasks })
connected_log breaks c q j e h = record {
  keeps = h.keeps;
  sound = subst (λ (log : List LogEntry). IsSound (record { unit = q.core.lun; log = log; task = c.task; shows = c.shows })) (sym e) h.sound;
}
