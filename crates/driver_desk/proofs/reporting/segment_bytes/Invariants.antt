use Rattle.std.proofs.Common.{◌≡◌, ◌+◌, ◌*◌, ◌≤◌, length}
use Rattle.bench_words.specs.Memory.{word_at}
use Rattle.phase_fix.specs.Remain.{segments_from}
use Rattle.driver_desk.proofs.reporting.segment_bytes.Given as goal

abbrev pub invariant-loop-j : goal.invariant-loop-j
invariant-loop-j l =
    (l.bytes + length (segments_from (word_at l.words) l.block l.j) ≡ length (segments_from (word_at l.words) l.block l.first)) × (l.bytes ≤ 0x1000000 * l.j)
