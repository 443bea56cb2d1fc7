use Rattle.std.proofs.Common.{◌≡◌, take}
use Rattle.bench_words.specs.Memory.{bytes_at}
use Rattle.bench_words.proofs.Words.copy_out.Given as goal

abbrev pub invariant-loop-i : goal.invariant-loop-i
invariant-loop-i l = take l.i l.into ≡ bytes_at l.fn.self l.address l.i
