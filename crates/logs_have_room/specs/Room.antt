-- The room of a unit's log. A ticket adds at most as many refusals as its unit makes of one ticket, one Look, one End or Drop, and one Sense.
-- Source: own.
use Rattle.std.specs.Prelude.{◌≡◌, ℕ, zero, suc, ◌+◌, ◌-◌, ◌<◌, ◌≤◌, Bool, true, false, List, length}
use Rattle.scsi_words.specs.declared.statuses.kinds.Status.{Status}
use Rattle.unit_law.specs.declared.entry.LogEntry.{LogEntry}
use Rattle.unit_law.specs.declared.entry.LogEntry.TheVariants.{Refuse, Look, End, Drop, Sense}
use Rattle.unit_law.specs.Log.{Tally, tally}

-- how many entries a ticket has
abbrev pub entries : Tally → ℕ
entries k = k.refusals + k.looks + k.ends + k.drops + k.senses

-- no more than it may have; `limit` is how many refusals of one ticket the unit makes
pub record IsFew (limit : ℕ) (k : Tally) : Type 0 where
  pub refusals : k.refusals ≤ limit
  pub looks : k.looks ≤ 1
  pub closes : k.ends + k.drops ≤ 1
  pub senses : k.senses ≤ 1

-- the entries that it may add: a refusal below the limit, its first Look, its only End or Drop, its first Sense
pub data MayAdd (limit t : ℕ) (k : Tally) : LogEntry → Type 0 where
  refuses : (s : Status) → k.refusals < limit → MayAdd limit t k (Refuse t s)
  looks : k.looks ≡ 0 → MayAdd limit t k (Look t)
  ends : k.ends ≡ 0 → k.drops ≡ 0 → MayAdd limit t k (End t)
  drops : (high : ℕ) → k.ends ≡ 0 → k.drops ≡ 0 → MayAdd limit t k (Drop t high)
  senses : k.senses ≡ 0 → MayAdd limit t k (Sense t)

-- how many entries it may still add; a ticket that isn't live adds none
abbrev pub left : ℕ → Bool → Tally → ℕ
left limit true k = limit + 3 - entries k
left limit false k = 0

abbrev pub total : (ℕ → ℕ) → ℕ → ℕ
total f zero = 0
total f (suc n) = total f n + f n

-- the room of a log suffices for its entries and for all that its live tickets, of so many that are built, may still add
abbrev pub IsReserved : ℕ → (ℕ → Bool) → ℕ → List LogEntry → ℕ → Type 0
IsReserved limit live built log room = length log + total (λ t. left limit (live t) (tally t log)) built ≤ room
