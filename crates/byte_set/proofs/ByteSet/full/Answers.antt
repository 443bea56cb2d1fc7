use Rattle.std.proofs.Common.{◌-◌, ◌^◌, ℕ, [], ◌∷◌}
use Rattle.byte_set.proofs.Masks.{whole_words, four_words}
use Rattle.byte_set.proofs.ByteSet.full.Goals as goal

pub returns : goal.returns
returns c =
    let word : ℕ = 2 ^ 64 - 1 in
    whole_words (word ∷ word ∷ word ∷ word ∷ []) (four_words word)
