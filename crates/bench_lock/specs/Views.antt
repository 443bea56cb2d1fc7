-- What each call and each atomic step makes of a seat's view. Source: own.
use Rattle.std.specs.Prelude.{◌≡◌, ℕ, ◌≤◌, ◌<◌, true, false, List, [], ◌∷◌, ◌++◌, length, drop, Some, None, MatchBool, ◌==◌, ◌||◌, cond, ltb, zero, suc, ◌-◌}
use Rattle.atomic_table.specs.Table.{Me, Step, rest}
use Rattle.atomic_table.specs.Seated.{TableId}
use Rattle.atomic_table.specs.declared.shared.Seat.{Seat}
use Rattle.bench_lock.specs.declared.view.View.{View}
use Rattle.bench_lock.specs.Log.{entries_of, Begins, has, without}

-- a seat as contracts see it: the lock that it is of, and its view
pub record Held (O T : Type 0) : Type 0 where
  pub lock : TableId
  pub view : View O T

-- three words and one slot
abbrev pub IsSized : TableId → Type 0
IsSized z = (z.words ≡ 3) × (z.slots ≡ 1)

abbrev pub IsSameSeat : {M V : Type 0} → Seat M V → Seat M V → Type 0
IsSameSeat old new = (new.table_id ≡ old.table_id) × (new.id ≡ old.id)

abbrev pub longer : {E : Type 0} → List E → List E → List E
longer xs ys = cond (ltb (length xs) (length ys)) ys xs

abbrev pub shorter : {E : Type 0} → List E → List E → List E
shorter xs ys = cond (ltb (length xs) (length ys)) xs ys

-- the n numbers from k on
abbrev pub numbers_from : ℕ → ℕ → List ℕ
numbers_from k zero = []
numbers_from k (suc n) = k ∷ numbers_from (suc k) n

-- A seat's entries in a list
module _ {O T : Type 0} where
  -- in the list es, from the length at opening on, the entries of the seat's caller are just the seat's own
  abbrev pub IsOwn : View O T → List (ℕ × T) → Type 0
  IsOwn v es = (v.base ≤ length es) × (v.own ≡ entries_of v.caller (drop v.base es))

  -- the list es is what the seat has seen, with entries of others behind it
  abbrev pub OthersSince : View O T → List (ℕ × T) → Type 0
  OthersSince v es = (others : List (ℕ × T)) × (es ≡ v.seen ++ others) × (entries_of v.caller others ≡ [])

-- The calls
module _ {O T : Type 0} where
  -- open: the caller is 0 and all other callers are spare. The machine has the opening o and the list es
  abbrev pub first_view : O → List (ℕ × T) → ℕ → View O T
  first_view o es callers = record { live = true; caller = 0; spare = numbers_from 1 (callers - 1); retired = []; has_ticket = false; ticket = 0; turn = false; seen = es; told = []; own = []; opening = Some o; base = length es; callers = callers }

  -- split: the old seat loses the spare caller x
  abbrev pub left_view : ℕ → View O T → View O T
  left_view x w = record w { spare = without x w.spare }

  -- split: the new seat has the caller x, no other number and no entries
  abbrev pub right_view : ℕ → View O T → View O T
  right_view x w = record w { caller = x; spare = []; retired = []; own = [] }

  -- join: the longer seen list, the spare callers of both, and the retired callers of both with the caller of w
  abbrev pub joined_view : View O T → View O T → View O T
  joined_view v w = record v { seen = longer v.seen w.seen; told = []; spare = v.spare ++ w.spare; retired = (v.retired ++ w.caller ∷ []) ++ w.retired }

  -- join: the other seat is spent
  abbrev pub spent_view : View O T
  spent_view = record { live = false; caller = 0; spare = []; retired = []; has_ticket = false; ticket = 0; turn = false; seen = []; told = []; own = []; opening = None; base = 0; callers = 0 }

  -- the number x is the seat's caller, or a spare or retired one of its callers
  abbrev pub Owns : View O T → ℕ → Type 0
  Owns v x = ((x == v.caller) || (has x v.spare || has x v.retired)) ≡ true

  -- close: the seat owns each number below the number of callers
  abbrev pub HasAllCallers : View O T → Type 0
  HasAllCallers v = (x : ℕ) → x < v.callers → Owns v x

  -- What calls leave of a seat's view v, which is w then: it has lost no number and nothing that was seen. For the contracts of callers above
  pub record Follows (v w : View O T) : Type 0 where
    pub opening : w.opening ≡ v.opening
    pub callers : w.callers ≡ v.callers
    pub caller : w.caller ≡ v.caller
    pub seen : Begins v.seen w.seen
    pub owns : (x : ℕ) → Owns v x → Owns w x

-- The atomic steps
module _ {O T : Type 0} where
  -- a seat between its calls: it has no ticket
  abbrev pub Rests : View O T → Type 0
  Rests w = (w.live ≡ true) × (w.has_ticket ≡ false) × (w.turn ≡ false) × (w.ticket ≡ 0)

  abbrev pub with_ticket : ℕ → View O T → View O T
  with_ticket t w = record w { has_ticket = true; ticket = t }

  abbrev pub with_turn : List (ℕ × T) → View O T → View O T
  with_turn es w = record w { turn = true; seen = es }

  -- the list es is seen, and what it has beyond the list seen before is the seat's own
  abbrev pub with_list : List (ℕ × T) → View O T → View O T
  with_list es w = record w { seen = es; own = w.own ++ drop (length w.seen) es }

  abbrev pub without_ticket : View O T → View O T
  without_ticket w = record w { has_ticket = false; ticket = 0; turn = false }

  -- the two seats are one, and what the one with the shorter list had seen isn't compared yet
  abbrev pub merged_view : View O T → View O T → View O T
  merged_view v w = record v { seen = longer v.seen w.seen; told = shorter v.seen w.seen; spare = v.spare ++ w.spare; retired = (v.retired ++ w.caller ∷ []) ++ w.retired }

  abbrev pub compared_view : View O T → View O T
  compared_view v = record v { told = [] }

-- What each atomic step tells its seat, of the seat before, the number found and the seat after
abbrev pub Seated : Type 0 → Type 0 → Type 0 → Type 0
Seated M O T = Me M (View O T)

module _ {M O T : Type 0} where
  -- draw: the number found is the seat's ticket
  abbrev pub Draws : Step M → Seated M O T → ℕ → Seated M O T → Type 0
  Draws st v n w = w ≡ (with_ticket n v.0, v.1)

  -- pass on: the ticket and the turn end, and the machine is given back
  abbrev pub Passes : Step M → Seated M O T → ℕ → Seated M O T → Type 0
  Passes st v n w = w ≡ (without_ticket v.0, rest v.1)

  -- compare: of the two lists of a joined seat the shorter begins the longer
  abbrev pub Compares : Step M → Seated M O T → ℕ → Seated M O T → Type 0
  Compares st v n w = (w ≡ (compared_view v.0, v.1)) × (length v.0.told ≤ length v.0.seen → Begins v.0.told v.0.seen) × (v.0.live ≡ true → IsOwn v.0 v.0.seen)

  -- know: all entries of a seat's caller in what it has seen are its own
  abbrev pub Knows : Step M → Seated M O T → ℕ → Seated M O T → Type 0
  Knows st v n w = (w ≡ v) × (v.0.live ≡ true → IsOwn v.0 v.0.seen)

module _ {M O T : Type 0} (opening : M → O) (list : M → List (ℕ × T)) where
  -- the seat has the turn and the machine y, whose list it sees: it is what the seat had seen with entries of others behind it, and from the length at opening on has of its caller just its own entries
  abbrev pub Takes : Seated M O T → M → Seated M O T → Type 0
  Takes v y w = (w ≡ (with_turn (list y) v.0, (0, y) ∷ v.1)) × OthersSince v.0 (list y) × (v.0.opening ≡ Some (opening y)) × IsOwn v.0 (list y)

  -- look: the machine is taken exactly where the number found is the seat's ticket
  abbrev pub Looks : Step M → Seated M O T → ℕ → Seated M O T → Type 0
  Looks st v n w = MatchBool (n == v.0.ticket) ((y : M) × Takes v y w) (w ≡ v)

  -- count: the list of the machine that the seat holds is seen
  abbrev pub Counts : Step M → Seated M O T → ℕ → Seated M O T → Type 0
  Counts st v n w = (y : M) → v.1 ≡ (0, y) ∷ [] → w ≡ (with_list (list y) v.0, v.1)
