use Rattle.std.proofs.Common.{◌≡◌, ◌+◌, drop, take, length}
use Rattle.std.specs.List.{flat_map}
use Rattle.bench_words.specs.Memory.{bytes_at}
use Rattle.desk_law.specs.declared.ticket.Piece.{Piece}
use Rattle.driver_desk.specs.Kept.{total}
use Rattle.driver_desk.proofs.reporting.read_buffer.Given as goal

abbrev pub invariant-loop-i : goal.invariant-loop-i
invariant-loop-i l =
    (l.from + total (drop l.i l.pieces) ≡ length l.into)
    × (take l.from l.into ≡ flat_map (λ (p : Piece). bytes_at l.words p.chunk.base p.len) (take l.i l.pieces))
