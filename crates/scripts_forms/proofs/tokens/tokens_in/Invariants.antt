use Rattle.std.proofs.Common.{◌≡◌, ◌++◌, length}
use Rattle.scripts_forms.specs.Tokens.{tokens_in}
use Rattle.scripts_forms.specs.Seen.{all_seen}
use Rattle.scripts_forms.proofs.tokens.tokens_in.Given as goal

abbrev pub invariant-loop-text : goal.invariant-loop-text
invariant-loop-text l = all_seen l.tokens.items ++ tokens_in l.text ≡ tokens_in l.initial.text

abbrev pub decreases-loop-text : goal.decreases-loop-text
decreases-loop-text l = length l.text
