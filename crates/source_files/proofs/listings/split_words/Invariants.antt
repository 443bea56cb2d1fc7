use Rattle.std.proofs.Common.{◌≡◌, ◌+◌, ◌*◌, ◌++◌, length, vec_len}
use Rattle.source_files.specs.Images.{words_of, last_of}
use Rattle.source_files.proofs.listings.split_words.Given as goal

abbrev pub invariant-loop-bytes : goal.invariant-loop-bytes
invariant-loop-bytes l = record {
  words : l.words.items ++ words_of l.bytes ≡ words_of l.initial.bytes;
  last : last_of l.bytes ≡ last_of l.initial.bytes;
  size : 4 * vec_len l.words + length l.bytes ≡ length l.initial.bytes;
}

abbrev pub decreases-loop-bytes : goal.decreases-loop-bytes
decreases-loop-bytes l = length l.bytes
