use Rattle.std.proofs.Common.{◌≡◌, ℕ, length, map}
use Rattle.std.specs.List.{All, range_with_len}
use Rattle.rig_types.specs.Works.{IsCommand}
use Rattle.serial_run.specs.Generated.{command_of, data_of, number_of, word_for}
use Rattle.serial_run.proofs.work.lines_of.Given as goal

abbrev pub invariant-loop-line : goal.invariant-loop-line
invariant-loop-line l = record {
  lines : map data_of l.lines.items ≡ map (λ (j : ℕ). command_of l.seed (number_of l.submitter j)) (range_with_len 0 l.line);
  in_range : All IsCommand l.lines.items;
  count : length l.lines.items ≡ l.line;
  word : l.word ≡ word_for l.seed (number_of l.submitter l.line);
}
