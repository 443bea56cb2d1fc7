-- Each submitter has at most as many commands as all have together.
use Rattle.std.proofs.Common.{arith, ◌<◌, ◌≤◌, ℕ, zero, suc, List, [], ◌∷◌, length, sum, slice_index_or}
use Rattle.std.proofs.lemmas.List.Sums.{sum_by-cons}
use Rattle.rig_types.specs.declared.commands.Command.{Command}
use Rattle.rig_types.specs.Works.{counts_of}

pub count_within : (css : List (List Command)) (i : ℕ) (d : List Command) → i < length css → length (slice_index_or css i d) ≤ sum (counts_of css)
count_within [] i d l = absurd (omega arith)
count_within (cs ∷ css) zero d l = omega (arith, sum_by-cons (λ (n : ℕ). n) (length cs) (counts_of css))
count_within (cs ∷ css) (suc i) d l = omega (arith, sum_by-cons (λ (n : ℕ). n) (length cs) (counts_of css), count_within css i d (omega arith))
