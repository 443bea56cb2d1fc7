use Rattle.std.proofs.Common.{◌≡◌, ◌+◌, drop, length}
use Rattle.desk_law.specs.Blocks.{with_buffer}
use Rattle.driver_desk.specs.Kept.{total}
use Rattle.driver_desk.proofs.blocks.write_buffer.Given as goal

abbrev pub invariant-loop-i : goal.invariant-loop-i
invariant-loop-i l =
    (length l.words ≡ 0x400000) × (l.from + total (drop l.i l.pieces) ≡ length l.bytes)
    × (with_buffer l.words (drop l.i l.pieces) (drop l.from l.bytes) ≡ with_buffer l.initial.words l.pieces l.bytes)
