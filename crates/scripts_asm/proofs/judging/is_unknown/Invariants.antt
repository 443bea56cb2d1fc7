use Rattle.std.proofs.Common.{◌≡◌, length}
use Rattle.scripts_forms.specs.Seen.{all_seen}
use Rattle.scripts_asm.specs.Assembled.{is_unknown}
use Rattle.scripts_asm.specs.SeenNames.{giving_in}
use Rattle.scripts_asm.proofs.judging.is_unknown.Given as goal

abbrev pub invariant-loop-values : goal.invariant-loop-values
invariant-loop-values l = is_unknown (giving_in l.names) (all_seen l.values) ≡ is_unknown (giving_in l.names) (all_seen l.initial.values)

abbrev pub decreases-loop-values : goal.decreases-loop-values
decreases-loop-values l = length l.values
