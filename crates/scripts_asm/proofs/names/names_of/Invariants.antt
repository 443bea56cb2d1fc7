use Rattle.std.proofs.Common.{◌≡◌, ◌+◌, ◌*◌, ◌≤◌, ℕ, List, length}
use Rattle.std.specs.Option.{option_or}
use Rattle.scripts_asm.specs.Assembled.{names_from, first_giving}
use Rattle.scripts_asm.specs.Seen.{all_lines}
use Rattle.scripts_asm.specs.SeenNames.{giving_in}
use Rattle.scripts_asm.proofs.names.names_of.Given as goal

abbrev pub invariant-loop-lines : goal.invariant-loop-lines
invariant-loop-lines l = record {
  small : l.address + 12 * length l.lines ≤ 12 * length l.initial.lines;
  placed : l.place + 2 * length l.lines ≤ 2 * length l.initial.lines;
  goes_on : (q : List ℕ) → option_or (giving_in l.names q) (first_giving l.place (names_from l.address (all_lines l.lines)) q) ≡ first_giving 0 (names_from 0 (all_lines l.initial.lines)) q;
}

abbrev pub decreases-loop-lines : goal.decreases-loop-lines
decreases-loop-lines l = length l.lines
