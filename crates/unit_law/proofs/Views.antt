-- What one more entry changes in the views of a log.
use Rattle.std.proofs.Common.{◌≡◌, ◌≢◌, ℕ, ◌+◌, Bool, true, false, List, [], ◌∷◌, ◌++◌, refl, ap, arith, sym, ◌∙◌, Option, Some, None, nat_eq, ◌⊎◌, inl, inr}
use Rattle.std.proofs.lemmas.Bool.Decides.{nat_tests}
use Rattle.std.proofs.lemmas.List.Sums.{fold-append}
use Rattle.scsi_words.specs.declared.statuses.kinds.Status.{Status}
use Rattle.plain_lun.specs.Unit.{UnitState}
use Rattle.plain_lun.specs.Performing.{Answered}
use Rattle.unit_law.specs.declared.entry.LogEntry.{LogEntry}
use Rattle.unit_law.specs.declared.entry.LogEntry.TheVariants.{Refuse, Look, End, Drop, Clear, Sense}
use Rattle.unit_law.specs.Request.{RequestData}
use Rattle.unit_law.specs.Log.{with_at, LogResult, ended, entered, run_log, log_result_none, Tally, noted, none_of, one_where_none, tally}

pub eq-test : (x : ℕ) → nat_eq x x ≡ true
eq-test x = grind (arith, nat_tests)

pub ne-test : (x y : ℕ) → x ≢ y → nat_eq x y ≡ false
ne-test x y d = grind (arith, nat_tests)

decided : (x y : ℕ) (b : Bool) → nat_eq x y ≡ b → (x ≡ y) ⊎ (x ≢ y)
decided x y true e = inl (grind (arith, nat_tests))
decided x y false e = let d : x ≢ y = grind (arith, nat_tests) in inr d

pub same_or_not : (x y : ℕ) → (x ≡ y) ⊎ (x ≢ y)
same_or_not x y = decided x y (nat_eq x y) refl

pub with_at-same : {A : Type 0} (f : ℕ → A) (k : ℕ) (v : A) → with_at f k v k ≡ v
unfolding with_at
with_at-same f k v = rw (eq-test k) refl

pub with_at-other : {A : Type 0} (f : ℕ → A) (k : ℕ) (v : A) (x : ℕ) → x ≢ k → with_at f k v x ≡ f x
unfolding with_at
with_at-other f k v x d = rw (ne-test x k d) refl

-- a log one entry longer
pub tally-push : (t : ℕ) (log : List LogEntry) (e : LogEntry) → tally t (log ++ e ∷ []) ≡ noted t (tally t log) e
unfolding tally
tally-push t log e = fold-append (noted t) none_of log (e ∷ [])

pub run-push : (requests : ℕ → RequestData) (u : UnitState) (log : List LogEntry) (e : LogEntry) → run_log requests u (log ++ e ∷ []) ≡ entered requests (run_log requests u log) e
unfolding run_log
run-push requests u log e = fold-append (entered requests) (log_result_none u) log (e ∷ [])

-- the entry is one of ticket t
abbrev pub IsOf : ℕ → LogEntry → Type 0
IsOf t (Refuse x s) = x ≡ t
IsOf t (Look x) = x ≡ t
IsOf t (End x) = x ≡ t
IsOf t (Drop x high) = x ≡ t
IsOf t Clear = ⊥
IsOf t (Sense x) = x ≡ t

-- an entry of another ticket changes no view of this one
noted-other : (x t : ℕ) (k : Tally) (e : LogEntry) → IsOf t e → x ≢ t → noted x k e ≡ k
noted-other x t k (Refuse y s) i d = let n : y ≢ x = λ q. d (sym q ∙ i) in rw (ne-test y x n) refl
noted-other x t k (Look y) i d = let n : y ≢ x = λ q. d (sym q ∙ i) in rw (ne-test y x n) refl
noted-other x t k (End y) i d = let n : y ≢ x = λ q. d (sym q ∙ i) in rw (ne-test y x n) refl
noted-other x t k (Drop y high) i d = let n : y ≢ x = λ q. d (sym q ∙ i) in rw (ne-test y x n) refl
noted-other x t k Clear i d = absurd i
noted-other x t k (Sense y) i d = let n : y ≢ x = λ q. d (sym q ∙ i) in rw (ne-test y x n) refl

ended-answer : (requests : ℕ → RequestData) (r : LogResult) (x t : ℕ) (o : Option Answered) → x ≢ t → (ended requests r t o).answers x ≡ r.answers x
ended-answer requests r x t None d = with_at-other _ t _ x d
ended-answer requests r x t (Some a) d = refl

ended-sense : (requests : ℕ → RequestData) (r : LogResult) (x t : ℕ) (o : Option Answered) → (ended requests r t o).senses x ≡ r.senses x
ended-sense requests r x t None = refl
ended-sense requests r x t (Some a) = refl

entered-answer : (requests : ℕ → RequestData) (r : LogResult) (x t : ℕ) (e : LogEntry) → IsOf t e → x ≢ t → (entered requests r e).answers x ≡ r.answers x
entered-answer requests r x t (Refuse y s) i d = refl
entered-answer requests r x t (Look y) i d = with_at-other _ y _ x (λ q. d (q ∙ i))
entered-answer requests r x t (End y) i d = ended-answer requests r x y (r.answers y) (λ q. d (q ∙ i))
entered-answer requests r x t (Drop y high) i d = refl
entered-answer requests r x t Clear i d = refl
entered-answer requests r x t (Sense y) i d = refl

entered-sense : (requests : ℕ → RequestData) (r : LogResult) (x t : ℕ) (e : LogEntry) → IsOf t e → x ≢ t → (entered requests r e).senses x ≡ r.senses x
entered-sense requests r x t (Refuse y s) i d = refl
entered-sense requests r x t (Look y) i d = refl
entered-sense requests r x t (End y) i d = ended-sense requests r x y (r.answers y)
entered-sense requests r x t (Drop y high) i d = refl
entered-sense requests r x t Clear i d = refl
entered-sense requests r x t (Sense y) i d = with_at-other _ y _ x (λ q. d (q ∙ i))

pub tally-other : (x t : ℕ) (log : List LogEntry) (e : LogEntry) → IsOf t e → x ≢ t → tally x (log ++ e ∷ []) ≡ tally x log
tally-other x t log e i d = tally-push x log e ∙ noted-other x t (tally x log) e i d

pub answers-other : (requests : ℕ → RequestData) (u : UnitState) (x t : ℕ) (log : List LogEntry) (e : LogEntry) → IsOf t e → x ≢ t
    → (run_log requests u (log ++ e ∷ [])).answers x ≡ (run_log requests u log).answers x
answers-other requests u x t log e i d = ap (λ r. r.answers x) (run-push requests u log e) ∙ entered-answer requests (run_log requests u log) x t e i d

pub senses-other : (requests : ℕ → RequestData) (u : UnitState) (x t : ℕ) (log : List LogEntry) (e : LogEntry) → IsOf t e → x ≢ t
    → (run_log requests u (log ++ e ∷ [])).senses x ≡ (run_log requests u log).senses x
senses-other requests u x t log e i d = ap (λ r. r.senses x) (run-push requests u log e) ∙ entered-sense requests (run_log requests u log) x t e i d

-- the tally of the ticket itself
pub tally-refuse : (t : ℕ) (s : Status) (log : List LogEntry) → tally t (log ++ Refuse t s ∷ []) ≡ record (tally t log) { refusals = (tally t log).refusals + 1; refused = Some s }
tally-refuse t s log = tally-push t log (Refuse t s) ∙ rw (eq-test t) refl

pub tally-look : (t : ℕ) (log : List LogEntry) → tally t (log ++ Look t ∷ []) ≡ record (tally t log) { looks = (tally t log).looks + 1 }
tally-look t log = tally-push t log (Look t) ∙ rw (eq-test t) refl

pub tally-end : (t : ℕ) (log : List LogEntry) → tally t (log ++ End t ∷ []) ≡ record (tally t log) { ends = (tally t log).ends + 1 }
tally-end t log = tally-push t log (End t) ∙ rw (eq-test t) refl

pub tally-drop : (t high : ℕ) (log : List LogEntry) → tally t (log ++ Drop t high ∷ []) ≡ record (tally t log) { drops = (tally t log).drops + 1; high = high }
tally-drop t high log = tally-push t log (Drop t high) ∙ rw (eq-test t) refl

pub tally-sense : (t : ℕ) (log : List LogEntry) → tally t (log ++ Sense t ∷ []) ≡ record (tally t log) { senses = (tally t log).senses + 1; early = (tally t log).early + one_where_none (tally t log).ends }
tally-sense t log = tally-push t log (Sense t) ∙ rw (eq-test t) refl

pub tally-clear : (t : ℕ) (log : List LogEntry) → tally t (log ++ Clear ∷ []) ≡ record (tally t log) { clears = (tally t log).clears + 1 }
tally-clear t log = tally-push t log Clear
