use Rattle.std.proofs.Common.{◌≡◌, length}
use Rattle.std.specs.List.{list_any}
use Rattle.scripts_forms.specs.Seen.{all_seen}
use Rattle.scripts_forms.specs.Lines.{is_bad}
use Rattle.scripts_asm.proofs.lines.has_bad.Given as goal

abbrev pub invariant-loop-tokens : goal.invariant-loop-tokens
invariant-loop-tokens l = list_any is_bad (all_seen l.tokens) ≡ list_any is_bad (all_seen l.initial.tokens)

abbrev pub decreases-loop-tokens : goal.decreases-loop-tokens
decreases-loop-tokens l = length l.tokens
