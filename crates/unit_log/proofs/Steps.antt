-- What one more entry changes in what a log says of a ticket.
use Rattle.std.proofs.Common.{◌≡◌, ℕ, ◌+◌, ◌≤◌, List, [], ◌∷◌, ◌++◌, length, ltb, refl, ap, ◌∙◌, arith}
use Rattle.std.proofs.lemmas.Bool.Decides.{nat_tests}
use Rattle.std.specs.List.{fold}
use Rattle.unit_law.specs.declared.entry.LogEntry.{LogEntry}
use Rattle.unit_law.specs.declared.entry.LogEntry.TheVariants.{Refuse, Look, End, Drop, Clear, Sense}
use Rattle.unit_law.specs.Log.{Tally, tally, noted, none_of}
use Rattle.unit_law.proofs.Views.{tally-push}
use Rattle.unit_log.specs.declared.ticket_counts.TicketCounts.{TicketCounts}
use Rattle.unit_log.specs.Counts.{counts_of, after}

-- the counts that a tally comes to
abbrev counts_by : ℕ → Tally → TicketCounts
counts_by t k = record { ticket = t; refusals = k.refusals; ended = ltb 0 k.ends }

counts_by-noted : (t : ℕ) (k : Tally) (e : LogEntry) → counts_by t (noted t k e) ≡ after (counts_by t k) e
counts_by-noted t k (Refuse x s) = grind (arith, nat_tests)
counts_by-noted t k (Look x) = grind (arith, nat_tests)
counts_by-noted t k (End x) = grind (arith, nat_tests)
counts_by-noted t k (Drop x high) = grind (arith, nat_tests)
counts_by-noted t k Clear = refl
counts_by-noted t k (Sense x) = grind (arith, nat_tests)

pub counts_of-push : (log : List LogEntry) (e : LogEntry) (t : ℕ) → counts_of (log ++ e ∷ []) t ≡ after (counts_of log t) e
counts_of-push log e t = ap (counts_by t) (tally-push t log e) ∙ counts_by-noted t (tally t log) e

-- a ticket has no more refusals than there are entries
refusals-noted : (t : ℕ) (k : Tally) (e : LogEntry) → (noted t k e).refusals ≤ k.refusals + 1
refusals-noted t k (Refuse x s) = grind (arith, nat_tests)
refusals-noted t k (Look x) = grind (arith, nat_tests)
refusals-noted t k (End x) = grind (arith, nat_tests)
refusals-noted t k (Drop x high) = grind (arith, nat_tests)
refusals-noted t k Clear = omega arith
refusals-noted t k (Sense x) = grind (arith, nat_tests)

refusals-fold : (t : ℕ) (log : List LogEntry) (k : Tally) → (fold (noted t) k log).refusals ≤ k.refusals + length log
refusals-fold t [] k = omega arith
refusals-fold t (e ∷ log) k = omega (arith, refusals-fold t log (noted t k e), refusals-noted t k e)

pub refusals-tally : (t : ℕ) (log : List LogEntry) → (tally t log).refusals ≤ length log
unfolding tally
refusals-tally t log = omega (arith, refusals-fold t log none_of)
