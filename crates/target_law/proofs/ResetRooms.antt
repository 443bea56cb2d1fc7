-- How many entries a reset logs.
use Rattle.std.proofs.Common.{◌≡◌, ◌≢◌, ℕ, zero, suc, ◌+◌, ◌≤◌, ◌==◌, Bool, true, false, List, [], ◌∷◌, ◌++◌, map, fold, length, length-append, refl, ap, sym, subst, ◌∙◌, Option, Some, None, ◌⊎◌, inl, inr, nat_eq, nat_lt, if◌then◌else◌, arith}
use Rattle.unit_law.proofs.Views.{eq-test}
use Rattle.unit_law.specs.declared.entry.LogEntry.TheVariants.{Drop, Clear}
use Rattle.target_law.specs.Session.{Task}
use Rattle.target_law.specs.Bytes.{Connection, away}
use Rattle.target_law.specs.Sound.{tasks_at, HaveFewTasks}
use Rattle.target_law.specs.Target.{LogicalUnit, ConnectionState, BusFree, Selected, TakingCommand, TaskConnected, RogueConnected, Target, unit_at, with_unit, on_unit, leaves, unit_left, by_tag, drops, drops_by, unit_reset, slot_reset, parted, target_reset}
use Rattle.target_law.specs.Devices.{DeviceState, room_at, lie_within}
use Rattle.target_law.proofs.Rooms.{lie_within-all}
use Rattle.target_law.proofs.Tags.{at-with}

-- a drop logs one entry at most
one-drop : (senses : Bool) (u : LogicalUnit) (k : Task) → length (drops_by senses u k).log ≤ length u.log + 1
one-drop true u k = omega arith
one-drop false u k = let e = length-append u.log (Drop k.ticket k.high ∷ []) in omega arith

most-drops : (ks : List Task) (u : LogicalUnit) → length (fold drops u ks).log ≤ length u.log + length ks
most-drops [] u = omega arith
most-drops (k ∷ ks) u = let a = one-drop k.senses u k in let b = most-drops ks (drops u k) in omega arith

most-reset : (u : LogicalUnit) → length (unit_reset u).log ≤ length u.log + (length u.tasks + 1)
unfolding unit_reset
most-reset u = let a = most-drops u.tasks u in let e = length-append (fold drops u u.tasks).log (Clear ∷ []) in omega arith

length-by : (before : Bool) (k x : Task) (xs ys : List Task) → length ys ≡ length xs + 1 → length (if before then k ∷ (x ∷ xs) else x ∷ ys) ≡ length (x ∷ xs) + 1
length-by true k x xs ys e = omega arith
length-by false k x xs ys e = omega arith

length-by_tag : (k : Task) (xs : List Task) → length (by_tag k xs) ≡ length xs + 1
unfolding by_tag
length-by_tag k [] = refl
length-by_tag k (x ∷ xs) = length-by (nat_lt k.tag x.tag) k x xs (by_tag k xs) (length-by_tag k xs)

-- a unit once the connected task is among the others: it has the log of this one, and no more tasks
record Gathers (us : List (Option LogicalUnit)) (l : ConnectionState) (lun : ℕ) (v : LogicalUnit) : Type 0 where
  unit : LogicalUnit
  there : unit_at us lun ≡ Some unit
  log : v.log ≡ unit.log
  tasks : length v.tasks ≤ length (tasks_at l lun unit)

same-or-more : (here : Bool) (k : Task) (ks : List Task) → length ks ≤ length (if here then k ∷ ks else ks)
same-or-more true k ks = omega arith
same-or-more false k ks = omega arith

waits : (l : ConnectionState) (lun : ℕ) (v : LogicalUnit) → length v.tasks ≤ length (tasks_at l lun v)
waits BusFree lun v = omega arith
waits (Selected heard) lun v = omega arith
waits (TakingCommand n taken) lun v = omega arith
waits (TaskConnected c) lun v = same-or-more (nat_eq c.lun lun) c.task v.tasks
waits (RogueConnected s n) lun v = omega arith

itself : (us : List (Option LogicalUnit)) (l : ConnectionState) (lun : ℕ) (v : LogicalUnit) → unit_at us lun ≡ Some v → Gathers us l lun v
itself us l lun v e = record { unit = v; there = e; log = refl; tasks = waits l lun v }

left-tasks : (c : Connection) (u : LogicalUnit) → length (by_tag (away c.task) u.tasks) ≤ length (tasks_at (TaskConnected c) c.lun u)
left-tasks c u = let e = length-by_tag (away c.task) u.tasks in rw (eq-test c.lun) (omega arith)

left-one : (us : List (Option LogicalUnit)) (c : Connection) (u v : LogicalUnit) (lun : ℕ) → unit_at us c.lun ≡ Some u → ((lun ≡ c.lun) × (v ≡ unit_left u c.task)) ⊎ ((lun ≢ c.lun) × (unit_at us lun ≡ Some v))
    → Gathers us (TaskConnected c) lun v
left-one us c u v lun e (inl p) =
    subst (λ (n : ℕ). Gathers us (TaskConnected c) n v) (sym p.0) (subst (λ (w : LogicalUnit). Gathers us (TaskConnected c) c.lun w) (sym p.1)
    (record { unit = u; there = e; log = refl; tasks = left-tasks c u }))
left-one us c u v lun e (inr p) = itself us (TaskConnected c) lun v p.1

left-on : (o : Option LogicalUnit) (t : Target) (c : Connection) (lun : ℕ) (v : LogicalUnit) → unit_at t.units c.lun ≡ o → unit_at (on_unit o (leaves t c) t).units lun ≡ Some v → Gathers t.units (TaskConnected c) lun v
left-on None t c lun v e h = itself t.units (TaskConnected c) lun v h
left-on (Some u) t c lun v e h = left-one t.units c u v lun e (at-with t.units c.lun lun (unit_left u c.task) v h)

parted-gathers : (l : ConnectionState) (t : Target) (lun : ℕ) (v : LogicalUnit) → unit_at (parted l t).units lun ≡ Some v → Gathers t.units l lun v
parted-gathers BusFree t lun v e = itself t.units BusFree lun v e
parted-gathers (Selected heard) t lun v e = itself t.units (Selected heard) lun v e
parted-gathers (TakingCommand n taken) t lun v e = itself t.units (TakingCommand n taken) lun v e
parted-gathers (TaskConnected c) t lun v e = left-on (unit_at t.units c.lun) t c lun v refl e
parted-gathers (RogueConnected s n) t lun v e = itself t.units (RogueConnected s n) lun v e

-- the unit of a LUN after the reset of each
reset-at : (us : List (Option LogicalUnit)) (lun : ℕ) (w : LogicalUnit) → unit_at (map slot_reset us) lun ≡ Some w → (v : LogicalUnit) × (unit_at us lun ≡ Some v) × (w ≡ unit_reset v)
unfolding unit_at
reset-at [] lun w e = cc
reset-at (None ∷ us) zero w e = cc
reset-at (Some v ∷ us) zero w e = let same : w ≡ unit_reset v = cc in (v, refl, same)
reset-at (x ∷ us) (suc lun) w e = reset-at us lun w e

fits : (d : DeviceState) → HaveFewTasks d.target → ((lun : ℕ) (u : LogicalUnit) → unit_at d.target.units lun ≡ Some u → length u.log + (u.rig.depth + 1) ≤ room_at d lun) → (lun : ℕ) (v : LogicalUnit)
    → Gathers d.target.units d.target.link lun v → length (unit_reset v).log ≤ room_at d lun
fits d few room lun v g =
    let most = most-reset v in
    let log = ap length g.log in
    let tasks = g.tasks in
    let depth = few lun g.unit g.there in
    let within = room lun g.unit g.there in
    omega arith

pub reset-lies : (d : DeviceState) → HaveFewTasks d.target → ((lun : ℕ) (u : LogicalUnit) → unit_at d.target.units lun ≡ Some u → length u.log + (u.rig.depth + 1) ≤ room_at d lun)
    → lie_within (target_reset d.target).units d.rooms ≡ true
unfolding target_reset
reset-lies d few room =
    lie_within-all (map slot_reset (parted d.target.link d.target).units) d.rooms (λ lun w e.
    let r = reset-at (parted d.target.link d.target).units lun w e in
    subst (λ (x : LogicalUnit). length x.log ≤ room_at d lun) (sym r.2) (fits d few room lun r.0 (parted-gathers d.target.link d.target lun r.0 r.1)))
