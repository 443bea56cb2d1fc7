use Rattle.std.proofs.Common.{◌≡◌, map, string_bytes}
use Rattle.sym_top.proofs.words.words_of.Given as goal

abbrev pub invariant-loop-word : goal.invariant-loop-word
invariant-loop-word l = l.words.items ≡ map string_bytes l.yielded
