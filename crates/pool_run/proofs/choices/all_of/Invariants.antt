use Rattle.std.proofs.Common.{◌≡◌, ◌++◌, drop}
use Rattle.pool_run.specs.Callers.{choices_of}
use Rattle.pool_run.proofs.choices.all_of.Given as goal

-- with the submitters from here on the choices are whole
abbrev pub invariant-loop-commands : goal.invariant-loop-commands
invariant-loop-commands l = l.held.items ++ choices_of (drop l.commands-index l.submitters) ≡ choices_of l.submitters
