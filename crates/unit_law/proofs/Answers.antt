-- Every answer of a log is one of the unit's, so it is GOOD or CHECK CONDITION, and no longer than the need.
use Rattle.std.proofs.Common.{◌≡◌, ◌≢◌, ℕ, ◌≤◌, List, [], ◌∷◌, length, ap, sym, ◌∙◌, Option, Some, None, ◌⊎◌, inl, inr}
use Rattle.std.specs.Prelude.{fold}
use Rattle.scsi_words.specs.declared.statuses.kinds.Status.TheVariants.{Good, Check}
use Rattle.cdb_codec.specs.Forms.{need_of}
use Rattle.plain_lun.specs.Unit.{UnitState}
use Rattle.plain_lun.specs.Performing.{Answered, perform}
use Rattle.plain_lun.proofs.Laws.{good_or_check, bytes-most}
use Rattle.unit_law.specs.declared.entry.LogEntry.{LogEntry}
use Rattle.unit_law.specs.declared.entry.LogEntry.TheVariants.{Refuse, Look, End, Drop, Clear, Sense}
use Rattle.unit_law.specs.Request.{RequestData, command, received_of}
use Rattle.unit_law.specs.Log.{with_at, LogResult, performs, ended, entered, run_log, log_result_none}
use Rattle.unit_law.proofs.Views.{same_or_not, with_at-same, with_at-other}

pub record OfUnit (requests : ℕ → RequestData) (t : ℕ) (a : Answered) : Type 0 where
  pub ends : (a.status ≡ Good) ⊎ (a.status ≡ Check)
  pub most : length a.bytes ≤ (need_of (command (requests t))).bytes

abbrev AllOfUnit : (ℕ → RequestData) → LogResult → Type 0
AllOfUnit requests r = (t : ℕ) (a : Answered) → r.answers t ≡ Some a → OfUnit requests t a

of-with : (requests : ℕ → RequestData) (answers : ℕ → Option Answered) (t x : ℕ) (a b : Answered) → OfUnit requests t a → (answers x ≡ Some b → OfUnit requests x b)
    → with_at answers t (Some a) x ≡ Some b → (x ≡ t) ⊎ (x ≢ t) → OfUnit requests x b
of-with requests answers t x a b h f e (inr d) = f (sym (with_at-other answers t (Some a) x d) ∙ e)
of-with requests answers t x a b h f e (inl q) =
    let s : Some a ≡ Some b = sym (with_at-same answers t (Some a)) ∙ ap (with_at answers t (Some a)) (sym q) ∙ e in
    let i : a ≡ b = cc in
    let h2 : OfUnit requests x a = rw q h in
    rw (sym i) h2

of-performs : (requests : ℕ → RequestData) (r : LogResult) (t : ℕ) → AllOfUnit requests r → AllOfUnit requests (performs requests r t)
of-performs requests r t g x b e =
    let c = command (requests t) in
    let bs = received_of (requests t) in
    of-with requests r.answers t x (perform r.unit c bs).answer b (record { ends = good_or_check r.unit c bs; most = bytes-most r.unit c bs }) (g x b) e (same_or_not x t)

of-ended : (requests : ℕ → RequestData) (r : LogResult) (t : ℕ) (o : Option Answered) → AllOfUnit requests r → AllOfUnit requests (ended requests r t o)
of-ended requests r t None g = of-performs requests r t g
of-ended requests r t (Some a) g = g

of-entered : (requests : ℕ → RequestData) (r : LogResult) (e : LogEntry) → AllOfUnit requests r → AllOfUnit requests (entered requests r e)
of-entered requests r (Refuse t s) g = g
of-entered requests r (Look t) g = of-performs requests r t g
of-entered requests r (End t) g = of-ended requests r t (r.answers t) g
of-entered requests r (Drop t high) g = g
of-entered requests r Clear g = g
of-entered requests r (Sense t) g = g

of-fold : (requests : ℕ → RequestData) (log : List LogEntry) (r : LogResult) → AllOfUnit requests r → AllOfUnit requests (fold (entered requests) r log)
of-fold requests [] r g = g
of-fold requests (e ∷ log) r g = of-fold requests log (entered requests r e) (of-entered requests r e g)

pub answer-of-unit : (requests : ℕ → RequestData) (u : UnitState) (log : List LogEntry) (t : ℕ) (a : Answered) → (run_log requests u log).answers t ≡ Some a → OfUnit requests t a
unfolding run_log
answer-of-unit requests u log t a e = of-fold requests log (log_result_none u) (λ x b q. cc) t a e
