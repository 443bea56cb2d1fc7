-- Writes within ranges and regions.
use Rattle.std.proofs.Common.{◌<◌, ◌⊎◌, inl, inr, ◌≡◌, ◌≢◌, ℕ, refl, ◌∙◌, arith}
use Rattle.std.proofs.lemmas.Bool.{cases_order}
use Rattle.bench_words.specs.Views.{Outside}
use Rattle.host_map.specs.Regions.{Region, first, behind, IsWordOf}
use Rattle.host_map.specs.Writes.{WordsAreWithin, LargerRanges, OneAfterAnother, NothingWritten, LeavesOthers, WordsAreIn, KeptOn}
use Rattle.host_map.proofs.MapLaws.{number, before, same_number}

pub words_are_within : WordsAreWithin
words_are_within old new a value low high from to wrote = record { other = λ x out. wrote.other x (omega arith) }

pub larger_ranges : LargerRanges
larger_ranges old new low high lower higher from to wrote = record { other = λ x out. wrote.other x (omega arith) }

pub one_after_another : OneAfterAnother
one_after_another u v w low high low' high' one two =
    record { other = λ x out. two.other x (omega arith) ∙ one.other x (omega arith) }

pub nothing_written : NothingWritten
nothing_written u low high = record { other = λ x out. refl }

outside_by : (r s : Region) (a : ℕ) → (number r ≡ number s) ⊎ ((number r < number s) ⊎ (number s < number r)) → r ≢ s → IsWordOf s a → Outside a (first r) (behind r)
outside_by r s a (inl e) n word = absurd (n (same_number r s e))
outside_by r s a (inr (inl h)) n word = omega (arith, before r s h, word.from)
outside_by r s a (inr (inr h)) n word = omega (arith, before s r h, word.to)

pub leaves_others : LeavesOthers
leaves_others r s old new n wrote =
    record { at = λ a word. wrote.other a (outside_by r s a (cases_order (number r) (number s)) n word) }

pub words_are_in : WordsAreIn
words_are_in r old new a value word wrote =
    words_are_within old new a value (first r) (behind r) word.from word.to wrote

pub kept_on : KeptOn
kept_on r u v w one two = record { at = λ a word. two.at a word ∙ one.at a word }
