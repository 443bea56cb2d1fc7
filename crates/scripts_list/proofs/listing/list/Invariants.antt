use Rattle.std.proofs.Common.{◌≡◌, ◌+◌, ◌*◌, ℕ, List, ◌++◌, length, string_bytes}
use Rattle.scripts_list.specs.Listing.{IsListing}
use Rattle.scripts_list.proofs.listing.list.Given as goal

abbrev pub invariant-loop-words : goal.invariant-loop-words
invariant-loop-words l = record {
  small : l.address + 4 * length l.words ≡ 4 * length l.initial.words;
  goes_on : (text : List ℕ) → IsListing l.address l.words text → IsListing 0 l.initial.words (string_bytes l.out ++ text);
}

abbrev pub decreases-loop-words : goal.decreases-loop-words
decreases-loop-words l = length l.words
