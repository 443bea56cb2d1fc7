use Rattle.std.proofs.Common.{◌≡◌, ◌++◌, [], length, rules, subst, List, ℕ, string_bytes}
use Rattle.std.proofs.lemmas.List.{append-nil}
use Rattle.scripts_list.specs.Listing.{IsListing}
use Rattle.scripts_list.proofs.Entries.{ends_at}
use Rattle.scripts_list.proofs.listing.list.Goals as goal

pub returns : goal.returns
returns c =
    let empty : length c.loop-words.words.now ≡ 0 = search rules in
    let P : List ℕ → Type 0 = λ xs. IsListing 0 c.args.words.now xs in
    rw c.of.ensures (subst P (append-nil (string_bytes c.loop-words.out)) (c.loop-words.invariant.goes_on [] (ends_at c.loop-words.address c.loop-words.words.now empty)))
