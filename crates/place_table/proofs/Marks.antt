-- Groups of places that are all free.
use Rattle.std.proofs.Common.{arith, ◌≡◌, ℕ, ◌+◌, ◌*◌, ◌/◌, ◌%◌, ◌<◌, ◌≤◌, true, List, [], ◌∷◌, ◌++◌, length, length-append, replicate, Option, None, refl, sym, ap, ◌∙◌, ⊎_elim, get_or}
use Rattle.std.specs.Option.{is_none}
use Rattle.std.proofs.lemmas.Bool.{cases_lt}
use Rattle.std.proofs.lemmas.List.{length-replicate, get_or-replicate}
use Rattle.std.proofs.Math.ListN.{get_or-append}
use Rattle.std.proofs.Math.Seq.{get_or-append_seam}
use Rattle.byte_set.specs.Bits.{holds}
use Rattle.place_table.specs.Places.{IsMarked, AreWhole}

pub none_marked : (groups : ℕ) (free : List (List ℕ)) → AreWhole groups free → IsMarked (replicate (256 * groups) None) free
none_marked groups free w = record {
  size = length-replicate {A = Option ℕ} (256 * groups) None ∙ ap (λ (n : ℕ). 256 * n) (sym w.count);
  bits = λ i low. let below : i < 256 * groups = omega (arith, low, length-replicate {A = Option ℕ} (256 * groups) None) in
      w.bits (i / 256) (i % 256) (omega (arith, below)) (omega arith)
      ∙ sym (ap is_none (get_or-replicate {A = Option ℕ} (256 * groups) i None None below));
}

-- ---- groups

pub no_group : AreWhole 0 []
no_group = record { count = refl; bits = λ g n none low. absurd (omega (arith, none)) }

pub one_group_more : (groups : ℕ) (free : List (List ℕ)) (ws : List ℕ) → AreWhole groups free → ((n : ℕ) → n < 256 → holds ws n ≡ true)
    → AreWhole (groups + 1) (free ++ ws ∷ [])
one_group_more groups free ws w full = record {
  count = omega (arith, length-append free (ws ∷ []), w.count);
  bits = λ g n below low. ⊎_elim
      (λ (less : g < groups). ap (λ (v : List ℕ). holds v n) (get_or-append free (ws ∷ []) [] g (omega (arith, less, w.count))) ∙ w.bits g n less low)
      (λ (ge : groups ≤ g). let at : g ≡ length free = omega (arith, ge, below, w.count) in
      ap (λ (k : ℕ). holds (get_or (free ++ ws ∷ []) k []) n) at ∙ ap (λ (v : List ℕ). holds v n) (get_or-append_seam free ws [] []) ∙ full n low)
      (cases_lt g groups);
}
