-- What writing over a ticket's counts changes in what is found.
use Rattle.std.proofs.Common.{◌≡◌, ℕ, ◌==◌, List, get_or, set, if◌then◌else◌, sym, ◌∙◌, ap, arith}
use Rattle.std.proofs.lemmas.List.{get_or_default}
use Rattle.std.proofs.lemmas.Bool.Decides.{nat_tests}
use Rattle.unit_log.specs.declared.ticket_counts.TicketCounts.{TicketCounts}
use Rattle.unit_log.specs.Counts.{empty_counts, counts_in, IsRising, IsAt}
use Rattle.unit_log.proofs.Lookups.{ticket-counts_in}
use Rattle.unit_log.proofs.Places.{counts_at, gives-set}

-- the ticket x has its counts m at this place in a list that gives every ticket what old does
module _ (old counts : List TicketCounts) (rising : IsRising counts) (x at : ℕ) (is_at : IsAt counts x at) (same : (t : ℕ) → counts_in counts t ≡ counts_in old t)
    (m : TicketCounts) (read : m ≡ get_or counts at m) where
  pub counts_is : m ≡ counts_in old x
  counts_is = read ∙ get_or_default counts at m (empty_counts 0) is_at.in_range ∙ sym (counts_at counts rising x at is_at) ∙ same x

  has_ticket : m.ticket ≡ x
  has_ticket = ap (λ (n : TicketCounts). n.ticket) counts_is ∙ ticket-counts_in old x

  -- f of these counts in their place changes the ticket's alone
  pub written : (f : TicketCounts → TicketCounts) → ((n : TicketCounts) → (f n).ticket ≡ n.ticket) → (t : ℕ)
      → counts_in (set counts at (f m)) t ≡ (if x == (counts_in old t).ticket then f (counts_in old t) else counts_in old t)
  written f keeps t =
      let own : (f m).ticket ≡ x = keeps m ∙ has_ticket in
      let gives = gives-set counts rising (f m) at (rw own is_at) t in
      grind (arith, nat_tests, gives, own, counts_is, ticket-counts_in old t, same t, λ (q : x ≡ t). ap (counts_in old) q)
