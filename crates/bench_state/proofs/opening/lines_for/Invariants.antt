use Rattle.std.proofs.Common.{◌≡◌, [], length, replicate}
use Rattle.bench_state.specs.States.{decided_of}
use Rattle.bench_state.proofs.OpeningLines.{HasRoomsBelow}
use Rattle.bench_state.proofs.opening.lines_for.Given as goal

abbrev pub invariant-loop-s : goal.invariant-loop-s
invariant-loop-s l =
    (length l.lines.items ≡ l.s) × (decided_of l.lines.items ≡ replicate l.s []) × HasRoomsBelow l.submitters l.lines.items l.s
