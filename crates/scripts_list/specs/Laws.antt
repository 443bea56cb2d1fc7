-- That words have one listing. Source: own, the listing of docs/SCRIPTS.md.
use Rattle.std.specs.Prelude.{◌≡◌, ℕ, List}
use Rattle.scripts_list.specs.Listing.{IsListing}

-- From this address on, the words have a listing, and no other.
pub record OneListing (address : ℕ) (words : List ℕ) : Type 0 where
  pub some : (text : List ℕ) × IsListing address words text
  pub one : (t u : List ℕ) → IsListing address words t → IsListing address words u → t ≡ u
