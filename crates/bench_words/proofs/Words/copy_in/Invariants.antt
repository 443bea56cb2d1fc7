use Rattle.std.proofs.Common.{◌≡◌, ◌+◌, length, drop}
use Rattle.bench_words.specs.Memory.{put_bytes}
use Rattle.bench_words.proofs.Words.copy_in.Given as goal

abbrev pub invariant-loop-i : goal.invariant-loop-i
invariant-loop-i l = record {
  size : length l.self ≡ length l.fn.self;
  rest : put_bytes l.self (l.address + l.i) (drop l.i l.bytes) ≡ put_bytes l.fn.self l.address l.bytes;
}
