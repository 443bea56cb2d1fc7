-- Each atomic step keeps the rule in its five parts, and what the last seat knows at the end.
use Rattle.std.proofs.Common.{◌≡◌, ◌≢◌, ℕ, ◌+◌, ◌%◌, ◌^◌, ◌<◌, ◌≤◌, List, [], ◌∷◌, ◌++◌, length, true, false, Some, subst, sym}
use mathlib.Core.Option.{some}
use lib.ListN.{get_elem?}
use Rattle.atomic_table.specs.Table.{State, Me, step, Allows, Splits, Joins, Final, Seen}
use Rattle.atomic_table.specs.Table as Table
use mathlib.Core.Option.{none}
use Rattle.bench_lock.specs.declared.view.View.{View}
use Rattle.bench_lock.specs.Log.{entries_of, Begins, has}
use Rattle.bench_lock.specs.Rule.{Rule}
use Rattle.bench_lock.specs.Views.{Rests, HasAllCallers, first_view, left_view, right_view, merged_view, spent_view, Draws, Looks, Counts, Passes, Compares, Knows, IsOwn}
use Rattle.bench_lock.proofs.Seatwise.{Kept, by_seats, by_parts, allows_as, splits_as, joins_as, final_as}
use Rattle.bench_lock.proofs.SeatSteps as seatwise

module _ {M O T : Type 0} (opening : M → O) (list : M → List (ℕ × T)) (o : O) (base callers : ℕ) where
  abbrev St : Type 0
  St = State M (View O T)

  abbrev Sat : Type 0
  Sat = Me M (View O T)

  abbrev K : St → Type 0
  K = Kept opening list o base callers

  abbrev R : St → Type 0
  R = Rule opening list o base callers

  to : (s : St) → K s → R s
  to = by_parts opening list o base callers

  from : (s : St) → R s → K s
  from = by_seats opening list o base callers

  pub draws : (slots id : ℕ) (v : Sat) → Rests v.0 → Allows R slots id v 0 (λ n. (n + 1) % 2 ^ 64) (Draws (step slots 0 1 0 none) v)
  draws slots id v rests = allows_as K R to from slots id v 0 (λ n. (n + 1) % 2 ^ 64) (Draws (step slots 0 1 0 none) v) (seatwise.draws opening list o base callers slots id v rests)

  pub looks : (slots id : ℕ) (v : Sat) → v.0.has_ticket ≡ true → v.0.turn ≡ false → Allows R slots id v 1 (λ n. n) (Looks opening list (step slots 1 0 0 none) v)
  looks slots id v on off = allows_as K R to from slots id v 1 (λ n. n) (Looks opening list (step slots 1 0 0 none) v) (seatwise.looks opening list o base callers slots id v on off)

  pub counts : (slots id : ℕ) (v : Sat) (y : M) (es : List (ℕ × T)) (k : ℕ) → v.0.live ≡ true → v.0.turn ≡ true → v.1 ≡ (0, y) ∷ [] → length (list y) < 2 ^ 32 → list y ≡ v.0.seen ++ es → k ≡ length es
      → entries_of v.0.caller es ≡ es → ((x : ℕ) → x ≢ v.0.caller → entries_of x es ≡ []) → Allows R slots id v 2 (λ n. (n + k) % 2 ^ 64) (Counts opening list (step slots 2 k 0 none) v)
  counts slots id v y es k live on held short adds many own others =
      allows_as K R to from slots id v 2 (λ n. (n + k) % 2 ^ 64) (Counts opening list (step slots 2 k 0 none) v) (seatwise.counts opening list o base callers slots id v y es k live on held short adds many own others)

  pub passes : (slots id : ℕ) (v : Sat) (y : M) → v.0.turn ≡ true → v.1 ≡ (0, y) ∷ [] → list y ≡ v.0.seen → v.0.opening ≡ Some (opening y)
      → Allows R slots id v 1 (λ n. (n + 1) % 2 ^ 64) (Passes (step slots 1 1 0 none) v)
  passes slots id v y on held lists opens =
      allows_as K R to from slots id v 1 (λ n. (n + 1) % 2 ^ 64) (Passes (step slots 1 1 0 none) v) (seatwise.passes opening list o base callers slots id v y on held lists opens)

  pub compares : (slots id : ℕ) (v : Sat) → Allows R slots id v 0 (λ n. n) (Compares (step slots 0 0 0 none) v)
  compares slots id v = allows_as K R to from slots id v 0 (λ n. n) (Compares (step slots 0 0 0 none) v) (seatwise.compares opening list o base callers slots id v)

  pub knows : (slots id : ℕ) (v : Sat) → Allows R slots id v 0 (λ n. n) (Knows (step slots 0 0 0 none) v)
  knows slots id v = allows_as K R to from slots id v 0 (λ n. n) (Knows (step slots 0 0 0 none) v) (seatwise.knows opening list o base callers slots id v)

  pub splits : (x id : ℕ) (v : View O T) → Rests v → has x v.spare ≡ true → Splits R id v (left_view x v) (right_view x v)
  splits x id v rests mine = splits_as K R to from id v (left_view x v) (right_view x v) (seatwise.splits opening list o base callers x id v rests mine)

  pub joins : (id : ℕ) (v : View O T) (other : ℕ) (w : View O T) → Rests v → Rests w → Joins R id v other w (merged_view v w) spent_view
  joins id v other w rests theirs = joins_as K R to from id v other w (merged_view v w) spent_view (seatwise.joins opening list o base callers id v other w rests theirs)

  -- v is the last seat's view in the table, and u the same one as contracts see it
  pub closes : (id : ℕ) (v u : View O T) (ws : List ℕ) (xs : List M) → v ≡ u → Rests v → HasAllCallers u → Final (Seen R id v) ws xs → (y : M) → get_elem? xs 0 ≡ some y
      → (u.opening ≡ Some (opening y)) × Begins u.seen (list y) × IsOwn u (list y)
  closes id v u ws xs is rests all last y there = subst (λ (z : View O T). (z.opening ≡ Some (opening y)) × Begins z.seen (list y) × IsOwn z (list y)) is
      (seatwise.closes opening list o base callers id v ws xs rests (subst (λ (z : View O T). HasAllCallers z) (sym is) all) (final_as K R to from id v ws xs last) y there)

module _ {M O T : Type 0} (opening : M → O) (list : M → List (ℕ × T)) where
  pub opens : (m : M) (callers c : ℕ) → 1 ≤ callers → callers < 2 ^ 32 → c ≡ length (list m)
      → Rule opening list (opening m) (length (list m)) callers (Table.opening (0 ∷ 0 ∷ c ∷ []) (m ∷ []) (first_view (opening m) (list m) callers))
  opens m callers c some_caller few count = by_parts opening list (opening m) (length (list m)) callers _ (seatwise.opens opening list m callers c some_caller few count)
