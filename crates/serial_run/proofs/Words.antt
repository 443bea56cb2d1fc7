-- The words of the commands of a submitter, and its lines, one at a time.
use Rattle.std.proofs.Common.{◌≡◌, ℕ, ◌+◌, suc, List, [], ◌∷◌, ◌++◌, map, refl, sym, ap, ◌∙◌, arith}
use Rattle.std.specs.List.{range_with_len}
use Rattle.std.proofs.lemmas.List.{map-append}
use Rattle.std.proofs.lemmas.List.FromFn.{map-range_with_len_more}
use Rattle.rig_types.specs.declared.commands.Command.{Command}
use Rattle.run_law.specs.Serial.{next_word}
use Rattle.serial_run.specs.Generated.{CommandData, command_of, data_of, number_of, word_for}

-- four commands later
pub fourth_word-is : (seed s j : ℕ) → next_word (next_word (next_word (next_word (word_for seed (number_of s j))))) ≡ word_for seed (number_of s (j + 1))
fourth_word-is seed s j =
    let later : number_of s (j + 1) ≡ suc (suc (suc (suc (number_of s j)))) = omega arith in
    rw later refl

-- one more line
pub lines-more : (seed s j : ℕ) (cs : List Command) (c : Command) → map data_of cs ≡ map (λ (i : ℕ). command_of seed (number_of s i)) (range_with_len 0 j) → data_of c ≡ command_of seed (number_of s j) → map data_of (cs ++ c ∷ []) ≡ map (λ (i : ℕ). command_of seed (number_of s i)) (range_with_len 0 (j + 1))
lines-more seed s j cs c front is =
    let from : 0 + j ≡ j = omega arith in
    map-append data_of cs (c ∷ []) ∙ ap (λ ds. ds ++ data_of c ∷ []) front
    ∙ ap (λ (d : CommandData). map (λ (i : ℕ). command_of seed (number_of s i)) (range_with_len 0 j) ++ d ∷ []) is
    ∙ sym (map-range_with_len_more (λ (i : ℕ). command_of seed (number_of s i)) 0 j j from)
