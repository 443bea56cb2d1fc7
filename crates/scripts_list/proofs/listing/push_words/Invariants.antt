use Rattle.std.proofs.Common.{◌≡◌, ◌++◌, length, string_bytes}
use Rattle.scripts_list.specs.Listing.{words_text}
use Rattle.scripts_list.proofs.listing.push_words.Given as goal

abbrev pub invariant-loop-words : goal.invariant-loop-words
invariant-loop-words l = string_bytes l.out ++ words_text l.words ≡ string_bytes l.initial.out ++ words_text l.initial.words

abbrev pub decreases-loop-words : goal.decreases-loop-words
decreases-loop-words l = length l.words
