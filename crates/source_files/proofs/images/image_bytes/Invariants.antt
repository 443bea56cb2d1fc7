use Rattle.std.proofs.Common.{◌≡◌, ◌++◌, length}
use Rattle.source_files.specs.Images.{image_bytes}
use Rattle.source_files.proofs.images.image_bytes.Given as goal

abbrev pub invariant-loop-words : goal.invariant-loop-words
invariant-loop-words l = l.bytes.items ++ image_bytes l.words ≡ image_bytes l.initial.words

abbrev pub decreases-loop-words : goal.decreases-loop-words
decreases-loop-words l = length l.words
