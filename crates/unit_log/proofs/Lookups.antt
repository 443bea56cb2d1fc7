-- What `counts_in` finds in a list of counts, and what an edit of the list does to it.
use Rattle.std.proofs.Common.{◌≡◌, ℕ, zero, suc, ◌<◌, eqb, ◌≢◌, List, [], ◌∷◌, length, get_or, set, if◌then◌else◌, refl, arith}
use Rattle.std.specs.List.{insert}
use Rattle.std.proofs.lemmas.Bool.Decides.{nat_tests}
use Rattle.unit_log.specs.declared.ticket_counts.TicketCounts.{TicketCounts}
use Rattle.unit_log.specs.Counts.{empty_counts, counts_in, ticket_at, IsAt}

-- no counts before place i are the ticket's
abbrev pub NoneBefore : List TicketCounts → ℕ → ℕ → Type 0
NoneBefore counts t i = (j : ℕ) → j < i → ticket_at counts j ≢ t

-- new gives these counts to their ticket, and to any other what old does
abbrev pub GivesAlso : List TicketCounts → List TicketCounts → TicketCounts → Type 0
GivesAlso old new n = (q : ℕ) → counts_in new q ≡ (if eqb n.ticket q then n else counts_in old q)

none_before_tail : (x : TicketCounts) (counts : List TicketCounts) (t i : ℕ) → NoneBefore (x ∷ counts) t (suc i) → NoneBefore counts t i
none_before_tail x counts t i none j lt = none (suc j) (omega arith)

is_at_tail : (x : TicketCounts) (counts : List TicketCounts) (t i : ℕ) → IsAt (x ∷ counts) t (suc i) → IsAt counts t i
is_at_tail x counts t i is_at = record { in_range = omega (arith, is_at.in_range); has_ticket = is_at.has_ticket }

-- the counts that are found have the ticket
pub ticket-counts_in : (counts : List TicketCounts) (t : ℕ) → (counts_in counts t).ticket ≡ t
ticket-counts_in [] t = refl
ticket-counts_in (x ∷ counts) t = grind (arith, nat_tests, ticket-counts_in counts t)

-- a ticket without counts has empty ones
pub counts_in-absent : (counts : List TicketCounts) (t : ℕ) → NoneBefore counts t (length counts) → counts_in counts t ≡ empty_counts t
counts_in-absent [] t none = refl
counts_in-absent (x ∷ counts) t none = grind (arith, nat_tests, none 0 (omega arith), counts_in-absent counts t (none_before_tail x counts t _ none))

-- the first counts of the ticket are those that are found
pub counts_in-present : (counts : List TicketCounts) (t i : ℕ) → IsAt counts t i → NoneBefore counts t i → counts_in counts t ≡ get_or counts i (empty_counts 0)
counts_in-present [] t i is_at none = absurd (omega (arith, is_at.in_range))
counts_in-present (x ∷ counts) t zero is_at none = grind (arith, nat_tests, is_at.has_ticket)
counts_in-present (x ∷ counts) t (suc i) is_at none = grind (arith, nat_tests, none 0 (omega arith), counts_in-present counts t i (is_at_tail x counts t i is_at) (none_before_tail x counts t i none))

-- counts that are written over the first ones of their ticket
pub counts_in-set : (counts : List TicketCounts) (n : TicketCounts) (i : ℕ) → IsAt counts n.ticket i → NoneBefore counts n.ticket i → GivesAlso counts (set counts i n) n
counts_in-set [] n i is_at none q = absurd (omega (arith, is_at.in_range))
counts_in-set (x ∷ counts) n zero is_at none q = grind (arith, nat_tests, is_at.has_ticket)
counts_in-set (x ∷ counts) n (suc i) is_at none q = grind (arith, nat_tests, none 0 (omega arith), counts_in-set counts n i (is_at_tail x counts n.ticket i is_at) (none_before_tail x counts n.ticket i none) q)

-- counts that are put in before any of their ticket
pub counts_in-insert : (counts : List TicketCounts) (n : TicketCounts) (i : ℕ) → NoneBefore counts n.ticket i → GivesAlso counts (insert counts i n) n
counts_in-insert counts n zero none q = refl
counts_in-insert [] n (suc i) none q = refl
counts_in-insert (x ∷ counts) n (suc i) none q = grind (arith, nat_tests, none 0 (omega arith), counts_in-insert counts n i (none_before_tail x counts n.ticket i none) q)
