use Rattle.std.proofs.Common.{◌≡◌, ◌++◌, ◌+◌, ◌≤◌, length}
use Rattle.trace_text.specs.Grammar.{trace_of, AreLines}
use Rattle.trace_text.proofs.reading.read.Given as goal

abbrev pub invariant-loop-rest : goal.invariant-loop-rest
invariant-loop-rest l = record {
  spelled : l.fn.bytes ≡ trace_of l.version l.lines.items ++ l.rest;
  lines : AreLines l.lines.items;
  few : length l.lines.items + length l.rest ≤ length l.fn.bytes;
}

abbrev pub decreases-loop-rest : goal.decreases-loop-rest
decreases-loop-rest l = length l.rest
