use Rattle.std.proofs.Common.{◌≡◌, ◌+◌, drop, length}
use Rattle.sense_job.specs.Turning.{with_fields}
use Rattle.desk_law.specs.Blocks.{segment_fields}
use Rattle.driver_desk.proofs.blocks.write_segments.Given as goal

abbrev pub invariant-loop-i : goal.invariant-loop-i
invariant-loop-i l =
    (length l.words ≡ 0x400000)
    × (with_fields l.words l.block (segment_fields (l.first + l.i) (drop l.i l.pieces)) ≡ with_fields l.initial.words l.block (segment_fields l.first l.pieces))
