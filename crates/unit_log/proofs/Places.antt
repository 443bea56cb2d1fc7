-- What a search finds among counts whose tickets rise, and what an edit at that place does.
use Rattle.std.proofs.Common.{◌≡◌, ℕ, ◌≤◌, List, length, get_or, set, Result, Ok, Err, IfOk, IfErr, sym, ap, arith}
use Rattle.std.specs.List.{insert}
use Rattle.std.specs.List.Sorted.{IsSearchInRange, IsBinarySearchResult, IsNonDecreasingBy}
use Rattle.std.specs.Ordering.{nat_cmp, ordering_index}
use Rattle.std.proofs.lemmas.Cmp.{ranked}
use Rattle.std.proofs.lemmas.List.Sorted.{IsNonDecreasingBy-from_default}
use Rattle.std.proofs.lemmas.Bool.Decides.{nat_tests}
use Rattle.unit_log.specs.declared.ticket_counts.TicketCounts.{TicketCounts}
use Rattle.unit_log.specs.Counts.{empty_counts, counts_in, ticket_at, IsRising, IsAt, IsGapFor}
use Rattle.unit_log.proofs.Lookups.{NoneBefore, GivesAlso, counts_in-absent, counts_in-present, counts_in-set, counts_in-insert}

module _ (counts : List TicketCounts) (rising : IsRising counts) (t : ℕ) where
  -- the comparisons with the ticket rise along the list, as a binary search asks
  comparisons_rise : IsNonDecreasingBy (λ n. ordering_index (nat_cmp n.ticket t)) counts
  comparisons_rise = IsNonDecreasingBy-from_default (λ n. ordering_index (nat_cmp n.ticket t)) counts (empty_counts 0) (λ i j le in_range.
      let tickets_rise : ticket_at counts i ≤ ticket_at counts j = grind (arith, rising i j, λ (same : i ≡ j). ap (ticket_at counts) same) in
      grind (arith, nat_tests))

  -- a binary search by ticket ends at the ticket's counts, or at the gap for it
  pub searched : (r : Result ℕ ℕ) → IsSearchInRange r (length counts) → IsBinarySearchResult (λ n. nat_cmp n.ticket t) counts r → record { found : IfOk r (IsAt counts t); absent : IfErr r (IsGapFor counts t) }
  searched (Ok at) in_range equal = record { found = record { in_range = in_range; has_ticket = ranked _ t _ (sym (equal (empty_counts 0))) }; absent = tt }
  searched (Err at) in_range parted = record {
    found = tt;
    absent = record {
      in_range = in_range;
      lower_before = λ j lt. ranked _ t _ (sym ((parted comparisons_rise).0 j (empty_counts 0) (omega arith) lt));
      higher_after = λ j le lt. ranked _ t _ (sym ((parted comparisons_rise).1 j (empty_counts 0) le lt));
    };
  }

module _ (counts : List TicketCounts) (rising : IsRising counts) (t at : ℕ) (is_at : IsAt counts t at) where
  -- the tickets before the place are lower
  none_before_at : NoneBefore counts t at
  none_before_at j lt same = omega (arith, rising j at lt is_at.in_range, is_at.has_ticket)

  -- the ticket's counts are the ones at its place
  pub counts_at : counts_in counts t ≡ get_or counts at (empty_counts 0)
  counts_at = counts_in-present counts t at is_at none_before_at

module _ (counts : List TicketCounts) (rising : IsRising counts) (n : TicketCounts) (at : ℕ) (is_at : IsAt counts n.ticket at) where
  -- counts that are written over their ticket's change that ticket alone
  pub gives-set : GivesAlso counts (set counts at n) n
  gives-set = counts_in-set counts n at is_at (none_before_at counts rising n.ticket at is_at)

module _ (counts : List TicketCounts) (t at : ℕ) (gap : IsGapFor counts t at) where
  -- a ticket that has a gap has no counts
  pub counts_in-gap : counts_in counts t ≡ empty_counts t
  counts_in-gap = counts_in-absent counts t (λ j lt same. grind (arith, gap.lower_before j, gap.higher_after j))

  -- empty counts in the gap change nothing that is found
  pub same-insert : (q : ℕ) → counts_in (insert counts at (empty_counts t)) q ≡ counts_in counts q
  same-insert q =
      let gives = counts_in-insert counts (empty_counts t) at (λ j lt same. omega (arith, gap.lower_before j lt)) q in
      grind (arith, nat_tests, gives, counts_in-gap, λ (same : t ≡ q). ap (counts_in counts) same, λ (same : t ≡ q). ap empty_counts same)
