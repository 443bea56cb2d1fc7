-- What a whole step of a seat is. Source: own.
use Rattle.std.specs.Prelude.{◌≡◌, ℕ, Bool, List, [], ◌++◌, length, Some}
use Rattle.bench_lock.specs.declared.view.View.{View}
use Rattle.bench_lock.specs.Log.{entry, added, entries_of}
use Rattle.bench_lock.specs.Views.{IsOwn, OthersSince}

module _ {O T Y : Type 0} (allows : O → List (ℕ × T) → ℕ → T → Y → Type 0) (records : O → T → Y → Bool) where
  -- What a step made of a seat's view v, which is w then. There is one list, `before`, from which the machine stepped
  pub record Stepped (o : O) (v w : View O T) (step : T) (reply : Y) (front : ℕ) : Type 0 where
    pub before : List (ℕ × T)
    -- it is all that the seat had seen, with entries of others behind it: no entry of the seat's caller came between two steps of the seat
    pub others : OthersSince v before
    pub own_before : IsOwn v before
    -- the reply is the machine's at that place
    pub opening_is : v.opening ≡ Some o
    pub allowed : allows o before v.caller step reply
    -- where the step is recorded, the last entry is this caller and step; where it isn't, the list is unchanged. The seat has seen the whole list
    pub seen_is : w.seen ≡ added before (records o step reply) (entry v.caller step)
    -- the list's length just after the step
    pub front_is : front ≡ length w.seen
    -- from the length at opening on, the list has of the seat's caller exactly the entries that this seat made, each once, in its order
    pub own_is : w.own ≡ added v.own (records o step reply) (entry v.caller step)
    pub each_once : IsOwn w w.seen
    pub else_same : w ≡ record v { seen = w.seen; own = w.own }

  -- Where a seat steps, the machine's list is what the seat had seen, then entries of others, then the step where it is recorded; and the reply is the machine's just before it
  abbrev pub StepsAfterOthers : Type 0
  StepsAfterOthers = (o : O) (v w : View O T) (step : T) (reply : Y) (front : ℕ) → Stepped o v w step reply front
      → (others : List (ℕ × T)) × (entries_of v.caller others ≡ []) × allows o (v.seen ++ others) v.caller step reply × (w.seen ≡ added (v.seen ++ others) (records o step reply) (entry v.caller step))
