-- What a reset of all units asks of their logs, and what it makes of a device.
use Rattle.std.proofs.Common.{◌≡◌, ℕ, zero, suc, ◌+◌, ◌-◌, ◌≤◌, ◌<◌, Bool, true, false, List, [], ◌∷◌, refl, ap, arith, sym, ◌∙◌, Option, Some, None, nat_le, nat_lt, ◌&&◌, not, length, subst, slice_set, get_or, drop, map, option_map, if◌then◌else◌}
use Rattle.std.proofs.lemmas.Bool.{and_parts}
use Rattle.std.specs.Prelude.{slice_get}
use Rattle.std.proofs.lemmas.Bool.Decides.{nat_tests}
use Rattle.std.specs.List.{list_any}
use Rattle.std.proofs.lemmas.List.{length-map}
use Rattle.std.proofs.lemmas.Option.{slice_get-map}
use Rattle.target_law.specs.Session.{Task}
use Rattle.target_law.specs.Bytes.{Connection, away}
use Rattle.target_law.specs.Target.{LogicalUnit, BusFree, Target, with_unit, by_tag, unit_left, unit_reset, slot_reset, parted, leaves, target_reset}
use Rattle.target_law.specs.Calls.{slot_is_rogue}
use Rattle.unit_tasks.specs.Units.{unit_of}
use Rattle.unit_tasks.specs.Queue.{AllWait}
use Rattle.unit_tasks.specs.Resets.{can_reset, reset_by, reset_entries, drop_entries}
use Rattle.unit_tasks.specs.declared.queued.QueuedUnit.{QueuedUnit}
use Rattle.unit_tasks.proofs.Drops.{drop_entries-by_tag, length-unit_reset}
use Rattle.rig_types.specs.Ranges.{IsUnit}
use Rattle.target_law.specs.Devices.{DeviceState, lie_within, where_room}
use Rattle.scsi_target.specs.Slots.{slot_of, room_of, slot_after, slot_can_reset, all_can_reset}
use Rattle.scsi_target.specs.Views.{busy, link_of, device_of, IsSlot, IsDevice}
use Rattle.scsi_target.specs.TaskExits.{target_by}
use Rattle.scsi_target.specs.Resettings.{with_task, reset_first, HasNoTask}
use Rattle.scsi_target.specs.declared.connection_state.ConnectionState.{ConnectionState as HeldState}
use Rattle.scsi_target.specs.declared.connection_state.ConnectionState.TheVariants as held
use Rattle.scsi_target.specs.declared.task_exit.TaskExit.TheVariants.{Disconnected}
use Rattle.scsi_target.proofs.Places.{units_with, rooms_stay, room_for_reset, units_reset, rooms_reset}
use Rattle.target_law.proofs.Rigs.{rig-unit_reset}
use Rattle.target_law.proofs.Rooms.{where_true, where_false}
use Rattle.scsi_target.proofs.Parted.{device_lies, lie_by, on_there, state_same}

-- a unit's log has room with one more task
with_true : (n d e room : ℕ) → e ≡ d + 0 → nat_le (n + (d + 1)) room ≡ nat_le (n + (e + 1)) room
with_true n d e room h = grind (arith, nat_tests)

with_false : (n d e room : ℕ) → e ≡ d + 1 → nat_lt (d + 1) (room - n) ≡ nat_le (n + (e + 1)) room
with_false n d e room h = grind (arith, nat_tests)

more_drops : (q : QueuedUnit) (k : Task) (b : Bool) → k.senses ≡ b → drop_entries (by_tag (away k) q.tasks.tasks) ≡ drop_entries q.tasks.tasks + (if not b then 1 else 0)
more_drops q k b e = drop_entries-by_tag (away k) q.tasks.tasks ∙ ap (λ (x : Bool). drop_entries q.tasks.tasks + (if not x then 1 else 0)) e

pub room_of_sense : (q : QueuedUnit) (k : Task) → k.senses ≡ true → can_reset q ≡ can_reset (with_task q k)
room_of_sense q k e = with_true (length q.core.log.entries) (drop_entries q.tasks.tasks) _ q.core.log.room (more_drops q k true e)

pub room_of_drop : (q : QueuedUnit) (k : Task) → k.senses ≡ false → nat_lt (reset_entries q.tasks.tasks) (q.core.log.room - length q.core.log.entries) ≡ can_reset (with_task q k)
room_of_drop q k e = with_false (length q.core.log.entries) (drop_entries q.tasks.tasks) _ q.core.log.room (more_drops q k false e)

le_of : (n m : ℕ) → nat_le n m ≡ true → n ≤ m
le_of n m e = grind (arith, nat_tests)

le_is : (n m : ℕ) → n ≤ m → nat_le n m ≡ true
le_is n m l = grind (arith, nat_tests)

less_with : (n d e room : ℕ) → d ≤ e → nat_le (n + (e + 1)) room ≡ true → nat_le (n + (d + 1)) room ≡ true
less_with n d e room l h = grind (arith, nat_tests)

fewer_drops : (q : QueuedUnit) (k : Task) → drop_entries q.tasks.tasks ≤ drop_entries (by_tag (away k) q.tasks.tasks)
fewer_drops q k = let e = drop_entries-by_tag (away k) q.tasks.tasks in omega arith

room_without : (q : QueuedUnit) (k : Task) → can_reset (with_task q k) ≡ true → can_reset q ≡ true
room_without q k e = less_with (length q.core.log.entries) (drop_entries q.tasks.tasks) (drop_entries (by_tag (away k) q.tasks.tasks)) q.core.log.room (fewer_drops q k) e

-- one more task decides by its own unit
first_set : (p q r : Bool) → (p ≡ true → q ≡ true) → (p && r) ≡ ((q && r) && p)
first_set true true true f = refl
first_set true true false f = refl
first_set true false r f = let e : false ≡ true = f refl in cc
first_set false true true f = refl
first_set false true false f = refl
first_set false false r f = refl

and-assoc : (a b c : Bool) → (a && (b && c)) ≡ ((a && b) && c)
and-assoc true b c = refl
and-assoc false b c = refl

all_can_set : (slots : List (Option QueuedUnit)) (lun : ℕ) (q p : QueuedUnit) → slice_get slots lun ≡ Some (Some q) → (can_reset p ≡ true → can_reset q ≡ true)
    → all_can_reset (slice_set slots lun (Some p)) ≡ (all_can_reset slots && can_reset p)
unfolding all_can_reset
all_can_set [] lun q p e f = cc
all_can_set (None ∷ slots) zero q p e f = cc
all_can_set (Some x ∷ slots) zero q p e f =
    let same : x ≡ q = cc in
    first_set (can_reset p) (can_reset x) (all_can_reset slots) (λ h. ap can_reset same ∙ f h)
all_can_set (x ∷ slots) (suc lun) q p e f = ap (λ b. slot_can_reset x && b) (all_can_set slots lun q p e f) ∙ and-assoc (slot_can_reset x) (all_can_reset slots) (can_reset p)

all_at : (slots : List (Option QueuedUnit)) (k : ℕ) (q : QueuedUnit) → all_can_reset slots ≡ true → slice_get slots k ≡ Some (Some q) → can_reset q ≡ true
unfolding all_can_reset
all_at [] k q a e = cc
all_at (None ∷ slots) zero q a e = cc
all_at (Some x ∷ slots) zero q a e = let same : x ≡ q = cc in ap can_reset (sym same) ∙ (and_parts (can_reset x) (all_can_reset slots) a).0
all_at (x ∷ slots) (suc k) q a e = all_at slots k q (and_parts (slot_can_reset x) (all_can_reset slots) a).1 e

-- a unit after its reset
tasks_reset : (u : LogicalUnit) → (unit_reset u).tasks ≡ []
unfolding unit_reset
tasks_reset u = refl

none_wait : (q : QueuedUnit) (ks : List Task) → ks ≡ [] → AllWait q.core.lun ks
none_wait q ks e = λ k d l. let n = ap length e in absurd (omega arith)

slot_after_reset : (breaks : Bool) (link : HeldState) (place : ℕ) (q : QueuedUnit) → IsSlot breaks link place q → busy link place ≡ 0 → can_reset q ≡ true → IsSlot breaks held.BusFree place (reset_by true q)
slot_after_reset breaks link place q s b r = record {
  lun = ap (λ x. x.lun) (rig-unit_reset (unit_of q)) ∙ s.lun;
  unit = subst (λ x. (version : ℕ) × IsUnit version x) (sym (rig-unit_reset (unit_of q))) s.unit;
  rogue = ap (λ x. x.rogue) (rig-unit_reset (unit_of q)) ∙ s.rogue;
  depth = s.depth ∙ sym (ap (λ x. x.depth) (rig-unit_reset (unit_of q)));
  places = let n = ap length (tasks_reset (unit_of q)) in let p = s.places in omega arith;
  waiting = none_wait (reset_by true q) (unit_reset (unit_of q)).tasks (tasks_reset (unit_of q));
  log = let n = length-unit_reset (unit_of q) in let l = le_of (length q.core.log.entries + reset_entries q.tasks.tasks) q.core.log.room r in omega arith;
}

slot_by : (slots : List (Option QueuedUnit)) (breaks : Bool) (link : HeldState) (place : ℕ) (q : QueuedUnit) (o : Option (Option QueuedUnit)) → slice_get slots place ≡ o → option_map slot_after o ≡ Some (Some q)
    → ((p : QueuedUnit) → slice_get slots place ≡ Some (Some p) → IsSlot breaks link place p) → busy link place ≡ 0 → all_can_reset slots ≡ true → IsSlot breaks held.BusFree place q
slot_by slots breaks link place q (Some (Some p)) e h s b a =
    let same : reset_by true p ≡ q = cc in
    subst (IsSlot breaks held.BusFree place) same (slot_after_reset breaks link place p (s p e) b (all_at slots place p a e))
slot_by slots breaks link place q (Some None) e h s b a = cc
slot_by slots breaks link place q None e h s b a = cc

-- a reset leaves each unit its rig
rogue_reset : (slots : List (Option QueuedUnit)) → list_any slot_is_rogue (map slot_of (map slot_after slots)) ≡ list_any slot_is_rogue (map slot_of slots)
rogue_reset [] = refl
rogue_reset (None ∷ qs) = rogue_reset qs
rogue_reset (Some q ∷ qs) = rw (ap (λ x. x.rogue) (rig-unit_reset (unit_of q))) rw (rogue_reset qs) refl

-- the device after a reset
pub device_reset : (count : ℕ) (slots : List (Option QueuedUnit)) (link : HeldState) (breaks : Bool) → IsDevice count slots link breaks → ((k : ℕ) → busy link k ≡ 0) → all_can_reset slots ≡ true
    → IsDevice count (map slot_after slots) held.BusFree breaks
device_reset count slots link breaks i b a = record {
  counted = i.counted;
  eight = length-map slots slot_after ∙ i.eight;
  slots_are = λ place q e. slot_by slots breaks link place q (slice_get slots place) refl (sym (slice_get-map slot_after slots place) ∙ e) (i.slots_are place) (b place) a;
  known = rogue_reset slots ∙ i.known;
  linked = tt;
}

pub none_busy : (link : HeldState) → HasNoTask link → (k : ℕ) → busy link k ≡ 0
none_busy held.BusFree h k = refl
none_busy (held.Selected heard) h k = refl
none_busy (held.TakingCommand n block) h k = refl
none_busy (held.TaskConnected c) h k = absurd h
none_busy (held.RogueConnected s n) h k = refl

free_busy : (link : HeldState) → link_of link ≡ BusFree → (k : ℕ) → busy link k ≡ 0
free_busy held.BusFree e k = refl
free_busy (held.Selected heard) e k = cc
free_busy (held.TakingCommand n block) e k = cc
free_busy (held.TaskConnected c) e k = cc
free_busy (held.RogueConnected s n) e k = cc

pub no_task : (link : HeldState) → ((c : Connection) → link ≡ held.TaskConnected c → ⊥) → HasNoTask link
no_task held.BusFree f = tt
no_task (held.Selected heard) f = tt
no_task (held.TakingCommand n block) f = tt
no_task (held.TaskConnected c) f = f c refl
no_task (held.RogueConnected s n) f = tt

-- what a reset makes of the target
reset_is : (t : Target) → target_reset t ≡ record { units = map slot_reset (parted t.link t).units; link = BusFree }
unfolding target_reset
reset_is t = refl

without_is : (slots : List (Option QueuedUnit)) (link : HeldState) → HasNoTask link → target_reset (device_of slots link).target ≡ record { units = map slot_reset (map slot_of slots); link = BusFree }
without_is slots held.BusFree h = reset_is _
without_is slots (held.Selected heard) h = reset_is _
without_is slots (held.TakingCommand n block) h = reset_is _
without_is slots (held.TaskConnected c) h = absurd h
without_is slots (held.RogueConnected s n) h = reset_is _

with_is : (slots : List (Option QueuedUnit)) (c : Connection) → target_reset (device_of slots (held.TaskConnected c)).target ≡ record { units = map slot_reset (target_by Disconnected (device_of slots (held.TaskConnected c)).target c).units; link = BusFree }
with_is slots c = reset_is _

-- the places after a reset, as the target sees them
pub reset_state : (slots : List (Option QueuedUnit)) → device_of (map slot_after slots) held.BusFree ≡ record { target = record { units = map slot_reset (map slot_of slots); link = BusFree }; rooms = map room_of slots }
reset_state slots = state_same _ _ _ _ _ _ (units_reset slots) refl (rooms_reset slots)

pub without_state : (slots : List (Option QueuedUnit)) (link : HeldState) → HasNoTask link → all_can_reset slots ≡ true
    → device_of (map slot_after slots) held.BusFree ≡ where_room (device_of slots link) (target_reset (device_of slots link).target)
without_state slots link h a =
    let d = device_of slots link in
    let is = without_is slots link h in
    reset_state slots ∙ ap (λ (t : Target). record { target = t; rooms = map room_of slots }) (sym is)
    ∙ sym (where_true (device_of slots link) (target_reset (device_of slots link).target) (ap (λ (t : Target). lie_within t.units (map room_of slots)) is ∙ room_for_reset slots ∙ a))

pub without_room : (slots : List (Option QueuedUnit)) (link : HeldState) → HasNoTask link → all_can_reset slots ≡ false
    → device_of slots link ≡ where_room (device_of slots link) (target_reset (device_of slots link).target)
without_room slots link h a =
    sym (where_false (device_of slots link) (target_reset (device_of slots link).target) (ap (λ (t : Target). lie_within t.units (map room_of slots)) (without_is slots link h) ∙ room_for_reset slots ∙ a))

-- with a connected task among the others
left_units : (slots : List (Option QueuedUnit)) (c : Connection) (q : QueuedUnit) → slice_get slots c.lun ≡ Some (Some q)
    → target_by Disconnected (device_of slots (held.TaskConnected c)).target c ≡ record { units = with_unit (map slot_of slots) c.lun (unit_left (unit_of q) c.task); link = BusFree }
left_units slots c q e = on_there slots c.lun q (leaves (device_of slots (held.TaskConnected c)).target c) (device_of slots (held.TaskConnected c)).target e

pub with_lies : (slots : List (Option QueuedUnit)) (c : Connection) (q : QueuedUnit) → slice_get slots c.lun ≡ Some (Some q)
    → (all_can_reset slots && can_reset (with_task q c.task)) ≡ lie_within (target_reset (device_of slots (held.TaskConnected c)).target).units (map room_of slots)
with_lies slots c q e =
    let news : List (Option QueuedUnit) = slice_set slots c.lun (Some (with_task q c.task)) in
    let units : (target_by Disconnected (device_of slots (held.TaskConnected c)).target c).units ≡ map slot_of news = ap (λ (t : Target). t.units) (left_units slots c q e) ∙ units_with slots c.lun (with_task q c.task) in
    let rooms : map room_of news ≡ map room_of slots = rooms_stay slots c.lun q (with_task q c.task) e refl in
    sym (ap (λ (t : Target). lie_within t.units (map room_of slots)) (with_is slots c)
    ∙ ap (λ (us : List (Option LogicalUnit)). lie_within (map slot_reset us) (map room_of slots)) units
    ∙ ap (λ (rs : List ℕ). lie_within (map slot_reset (map slot_of news)) rs) (sym rooms)
    ∙ room_for_reset news
    ∙ all_can_set slots c.lun q (with_task q c.task) e (room_without q c.task))

left_state : (count : ℕ) (slots : List (Option QueuedUnit)) (c : Connection) → IsDevice count slots (held.TaskConnected c) false
    → where_room (device_of slots (held.TaskConnected c)) (target_by Disconnected (device_of slots (held.TaskConnected c)).target c) ≡ record { target = target_by Disconnected (device_of slots (held.TaskConnected c)).target c; rooms = map room_of slots }
left_state count slots c i =
    let q : QueuedUnit = i.linked.0 in
    let e : slice_get slots c.lun ≡ Some (Some q) = i.linked.1 in
    let s : IsSlot false (held.TaskConnected c) c.lun q = i.slots_are c.lun q e in
    where_true (device_of slots (held.TaskConnected c)) (target_by Disconnected (device_of slots (held.TaskConnected c)).target c)
    (ap (λ (t : Target). lie_within t.units (map room_of slots)) (left_units slots c q e)
    ∙ lie_by slots c.lun q (unit_left (unit_of q) c.task) (device_lies count slots (held.TaskConnected c) false i) e ∙ le_is _ _ s.log)

left_link : (count : ℕ) (slots : List (Option QueuedUnit)) (c : Connection) → IsDevice count slots (held.TaskConnected c) false → (target_by Disconnected (device_of slots (held.TaskConnected c)).target c).link ≡ BusFree
left_link count slots c i = ap (λ (t : Target). t.link) (left_units slots c i.linked.0 i.linked.1)

-- what `part` has left
module _ (count : ℕ) (slots news : List (Option QueuedUnit)) (c : Connection) (to : HeldState) (i : IsDevice count slots (held.TaskConnected c) false)
    (state : device_of news to ≡ where_room (device_of slots (held.TaskConnected c)) (target_by Disconnected (device_of slots (held.TaskConnected c)).target c)) where
  now : device_of news to ≡ record { target = target_by Disconnected (device_of slots (held.TaskConnected c)).target c; rooms = map room_of slots }
  now = state ∙ left_state count slots c i

  pub with_can : lie_within (target_reset (device_of slots (held.TaskConnected c)).target).units (map room_of slots) ≡ true → all_can_reset news ≡ true
  with_can r =
      sym (room_for_reset news) ∙ ap (λ (d : DeviceState). lie_within (map slot_reset d.target.units) d.rooms) now
      ∙ sym (ap (λ (t : Target). lie_within t.units (map room_of slots)) (with_is slots c)) ∙ r

  pub with_state : lie_within (target_reset (device_of slots (held.TaskConnected c)).target).units (map room_of slots) ≡ true
      → device_of (map slot_after news) held.BusFree ≡ where_room (device_of slots (held.TaskConnected c)) (target_reset (device_of slots (held.TaskConnected c)).target)
  with_state r =
      reset_state news ∙ ap (λ (d : DeviceState). record { target = record { units = map slot_reset d.target.units; link = BusFree }; rooms = d.rooms }) now
      ∙ ap (λ (t : Target). record { target = t; rooms = map room_of slots }) (sym (with_is slots c))
      ∙ sym (where_true (device_of slots (held.TaskConnected c)) (target_reset (device_of slots (held.TaskConnected c)).target) r)

  pub with_busy : (k : ℕ) → busy to k ≡ 0
  with_busy k = free_busy to (ap (λ (d : DeviceState). d.target.link) now ∙ left_link count slots c i) k

-- the places one after the other
pub first_none : (slots : List (Option QueuedUnit)) → reset_first 0 slots ≡ slots
unfolding reset_first
first_none slots = refl

pub first_at : (n : ℕ) (slots : List (Option QueuedUnit)) (d : Option QueuedUnit) → get_or (reset_first n slots) n d ≡ get_or slots n d
unfolding reset_first
first_at zero slots d = refl
first_at (suc n) [] d = refl
first_at (suc n) (q ∷ slots) d = first_at n slots d

pub first_more : (n : ℕ) (slots : List (Option QueuedUnit)) (d : Option QueuedUnit) → n < length slots → slice_set (reset_first n slots) n (slot_after (get_or slots n d)) ≡ reset_first (suc n) slots
unfolding reset_first
first_more n [] d l = let f : ⊥ = omega arith in absurd f
first_more zero (q ∷ slots) d l = refl
first_more (suc n) (q ∷ slots) d l = ap (λ xs. slot_after q ∷ xs) (first_more n slots d (omega arith))

pub first_all : (n : ℕ) (slots : List (Option QueuedUnit)) → n ≡ length slots → reset_first n slots ≡ map slot_after slots
unfolding reset_first
first_all zero [] e = refl
first_all zero (q ∷ slots) e = let f : ⊥ = omega arith in absurd f
first_all (suc n) [] e = refl
first_all (suc n) (q ∷ slots) e = ap (λ xs. slot_after q ∷ xs) (first_all n slots (omega arith))

pub first_length : (n : ℕ) (slots : List (Option QueuedUnit)) → length (reset_first n slots) ≡ length slots
unfolding reset_first
first_length zero slots = refl
first_length (suc n) [] = refl
first_length (suc n) (q ∷ slots) = ap suc (first_length n slots)

pub can_at : (n : ℕ) (slots : List (Option QueuedUnit)) (d : Option QueuedUnit) → all_can_reset slots ≡ true → n < length slots → slot_can_reset (get_or slots n d) ≡ true
unfolding all_can_reset
can_at n [] d a l = let f : ⊥ = omega arith in absurd f
can_at zero (q ∷ slots) d a l = (and_parts (slot_can_reset q) (all_can_reset slots) a).0
can_at (suc n) (q ∷ slots) d a l = can_at n slots d (and_parts (slot_can_reset q) (all_can_reset slots) a).1 (omega arith)

-- and whether each can
can_drop : (n : ℕ) (slots : List (Option QueuedUnit)) (d : Option QueuedUnit) → n < length slots → all_can_reset (drop n slots) ≡ (slot_can_reset (get_or slots n d) && all_can_reset (drop (suc n) slots))
unfolding all_can_reset
can_drop n [] d l = let f : ⊥ = omega arith in absurd f
can_drop zero (q ∷ slots) d l = refl
can_drop (suc n) (q ∷ slots) d l = can_drop n slots d (omega arith)

next : (n : ℕ) → suc n ≡ n + 1
next n = omega arith

can_past : (n : ℕ) (slots : List (Option QueuedUnit)) → length slots ≤ n → all_can_reset (drop n slots) ≡ true
unfolding all_can_reset
can_past zero [] l = refl
can_past (suc n) [] l = refl
can_past zero (q ∷ slots) l = let f : ⊥ = omega arith in absurd f
can_past (suc n) (q ∷ slots) l = can_past n slots (omega arith)

read_can : (xs slots : List (Option QueuedUnit)) (n : ℕ) (x : Option QueuedUnit) (b : Bool) → xs ≡ slots → x ≡ get_or xs n x → slot_can_reset x ≡ b → slot_can_reset (get_or slots n x) ≡ b
read_can xs slots n x b e h f = ap slot_can_reset (ap (λ ys. get_or ys n x) (sym e) ∙ sym h) ∙ f

and_true : (a b : Bool) → a ≡ true → (a && b) ≡ b
and_true true b e = refl
and_true false b e = cc

and_false : (a b : Bool) → a ≡ false → (a && b) ≡ false
and_false false b e = refl
and_false true b e = cc

pub loop_more : (xs slots : List (Option QueuedUnit)) (n : ℕ) (x : Option QueuedUnit) → xs ≡ slots → n < length xs → x ≡ get_or xs n x → slot_can_reset x ≡ true → all_can_reset (drop n slots) ≡ all_can_reset slots
    → all_can_reset (drop (n + 1) slots) ≡ all_can_reset slots
loop_more xs slots n x e l h f i =
    ap (λ m. all_can_reset (drop m slots)) (sym (next n))
    ∙ sym (and_true (slot_can_reset (get_or slots n x)) (all_can_reset (drop (suc n) slots)) (read_can xs slots n x true e h f))
    ∙ sym (can_drop n slots x (subst (λ ys. n < length ys) e l)) ∙ i

pub loop_stops : (xs slots : List (Option QueuedUnit)) (n : ℕ) (x : Option QueuedUnit) → xs ≡ slots → n < length xs → x ≡ get_or xs n x → slot_can_reset x ≡ false → all_can_reset (drop n slots) ≡ all_can_reset slots
    → false ≡ all_can_reset slots
loop_stops xs slots n x e l h f i =
    sym (can_drop n slots x (subst (λ ys. n < length ys) e l) ∙ and_false (slot_can_reset (get_or slots n x)) (all_can_reset (drop (suc n) slots)) (read_can xs slots n x false e h f)) ∙ i

pub loop_ends : (xs slots : List (Option QueuedUnit)) (n : ℕ) → xs ≡ slots → length xs ≤ n → all_can_reset (drop n slots) ≡ all_can_reset slots → true ≡ all_can_reset slots
loop_ends xs slots n e l i = sym (can_past n slots (subst (λ ys. length ys ≤ n) e l)) ∙ i

first_read : (slots items : List (Option QueuedUnit)) (n : ℕ) (x : Option QueuedUnit) → items ≡ reset_first n slots → x ≡ get_or items n x → x ≡ get_or slots n x
first_read slots items n x e h = h ∙ ap (λ ys. get_or ys n x) e ∙ first_at n slots x

pub step_can : (slots items : List (Option QueuedUnit)) (n : ℕ) (x : Option QueuedUnit) → items ≡ reset_first n slots → x ≡ get_or items n x → all_can_reset slots ≡ true → n < length slots → slot_can_reset x ≡ true
step_can slots items n x e h a l = ap slot_can_reset (first_read slots items n x e h) ∙ can_at n slots x a l

pub step_more : (slots items : List (Option QueuedUnit)) (n : ℕ) (x y : Option QueuedUnit) → items ≡ reset_first n slots → x ≡ get_or items n x → y ≡ slot_after x → n < length slots
    → slice_set items n y ≡ reset_first (n + 1) slots
step_more slots items n x y e h f l =
    ap (λ ys. slice_set ys n y) e ∙ ap (λ z. slice_set (reset_first n slots) n z) (f ∙ ap slot_after (first_read slots items n x e h))
    ∙ first_more n slots x l ∙ ap (λ m. reset_first m slots) (next n)

pub with_then : (a b r s l : Bool) → r ≡ a → r ≡ true → s ≡ b → (a && b) ≡ l → s ≡ l
with_then true b r s l e f g h = g ∙ h
with_then false b r s l e f g h = cc

pub with_else : (a b r l : Bool) → r ≡ a → r ≡ false → (a && b) ≡ l → r ≡ l
with_else false b r l e f h = f ∙ h
with_else true b r l e f h = cc
