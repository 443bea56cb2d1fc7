-- What the drops of tasks make of a unit, seen as its core and as the state of a target sees it.
use Rattle.std.proofs.Common.{◌≡◌, ℕ, ◌+◌, Bool, true, false, List, [], ◌∷◌, length, length-append, refl, ◌∙◌, if◌then◌else◌, not, arith}
use Rattle.std.specs.List.{fold}
use Rattle.std.proofs.lemmas.List.Sums.{sum_by-cons}
use Rattle.std.proofs.lemmas.Bool.Decides.{nat_tests}
use Rattle.unit_law.specs.declared.entry.LogEntry.TheVariants.{Drop, Clear}
use Rattle.unit_core.specs.declared.Core.{Core}
use Rattle.target_law.specs.Session.{Task}
use Rattle.target_law.specs.Target.{LogicalUnit, drops, drops_by, by_tag, unit_reset}
use Rattle.unit_tasks.specs.Resets.{core_drops, core_drops_by, drop_entries, logs_drop, reset_entries}

-- the core of a unit whose log has this room
abbrev pub core_of : LogicalUnit → ℕ → Core
core_of u room = record { lun = u.plain; log = record { entries = u.log; room = room } }

core_drops_by-is : (b : Bool) (u : LogicalUnit) (room : ℕ) (k : Task) → core_drops_by b (core_of u room) k ≡ core_of (drops_by b u k) room
core_drops_by-is true u room k = refl
core_drops_by-is false u room k = refl

-- the drops change the core as they change the unit
pub fold-core_drops : (ks : List Task) (u : LogicalUnit) (room : ℕ) → fold core_drops (core_of u room) ks ≡ core_of (fold drops u ks) room
fold-core_drops [] u room = refl
fold-core_drops (k ∷ ks) u room = rw (core_drops_by-is k.senses u room k) (fold-core_drops ks (drops u k) room)

-- how many entries the drop of one task logs
abbrev entry_count : Task → ℕ
entry_count k = if logs_drop k then 1 else 0

-- from the old core to the new one n entries were logged, and the room stays
pub record Logged (old new : Core) (n : ℕ) : Type 0 where
  pub entries : length new.log.entries ≡ length old.log.entries + n
  pub room : new.log.room ≡ old.log.room

logged-one : (b : Bool) (c : Core) (k : Task) → Logged c (core_drops_by b c k) (if not b then 1 else 0)
logged-one true c k = record { entries = omega arith; room = refl }
logged-one false c k = record { entries = length-append c.log.entries (Drop k.ticket k.high ∷ []); room = refl }

pub logged : (ks : List Task) (c : Core) → Logged c (fold core_drops c ks) (drop_entries ks)
logged [] c = record { entries = omega arith; room = refl }
logged (k ∷ ks) c =
    let first = logged-one k.senses c k in
    let rest = logged ks (core_drops c k) in
    record { entries = omega (arith, first.entries, rest.entries, sum_by-cons entry_count k ks); room = rest.room ∙ first.room }

-- a task that goes among the others is counted once more
pub drop_entries-by_tag : (k : Task) (ks : List Task) → drop_entries (by_tag k ks) ≡ drop_entries ks + (if logs_drop k then 1 else 0)
unfolding by_tag
drop_entries-by_tag k [] = omega (arith, sum_by-cons entry_count k [])
drop_entries-by_tag k (x ∷ ks) =
    grind (arith, nat_tests, sum_by-cons entry_count x ks, sum_by-cons entry_count k (x ∷ ks), sum_by-cons entry_count x (by_tag k ks), drop_entries-by_tag k ks)

-- a reset logs as many entries as are counted
pub length-unit_reset : (u : LogicalUnit) → length (unit_reset u).log ≡ length u.log + reset_entries u.tasks
unfolding unit_reset
length-unit_reset u =
    let log = logged u.tasks (core_of u 0) in
    let entries : length (fold drops u u.tasks).log ≡ length u.log + drop_entries u.tasks = rw fold-core_drops at log.entries in
    omega (arith, entries, length-append (fold drops u u.tasks).log (Clear ∷ []))
