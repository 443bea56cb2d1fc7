use Rattle.std.proofs.Common.{◌≡◌, map, take}
use Rattle.trace_text.specs.Grammar.{line_of, trace_of, AreLines}
use Rattle.trace_text.proofs.writing.write.Given as goal

abbrev pub invariant-loop-entry : goal.invariant-loop-entry
invariant-loop-entry l = record {
  text : l.out.items ≡ trace_of l.version (map line_of (take l.entry-index l.entries));
  lines : AreLines (map line_of (take l.entry-index l.entries));
}
