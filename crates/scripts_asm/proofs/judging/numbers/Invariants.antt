use Rattle.std.proofs.Common.{◌≡◌, ◌++◌, length}
use Rattle.scripts_forms.specs.Seen.{all_seen}
use Rattle.scripts_asm.specs.Assembled.{numbers}
use Rattle.scripts_asm.specs.SeenNames.{giving_in}
use Rattle.scripts_asm.proofs.judging.numbers.Given as goal

abbrev pub invariant-loop-items : goal.invariant-loop-items
invariant-loop-items l = l.numbers.items ++ numbers (giving_in l.names) l.items (all_seen l.values) ≡ numbers (giving_in l.names) l.initial.items (all_seen l.initial.values)

abbrev pub decreases-loop-items : goal.decreases-loop-items
decreases-loop-items l = length l.items
