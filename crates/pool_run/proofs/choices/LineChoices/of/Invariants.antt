use Rattle.std.proofs.Common.{◌≡◌, ◌++◌, drop}
use Rattle.pool_run.specs.Callers.{line_choices}
use Rattle.pool_run.proofs.choices.LineChoices.of.Given as goal

-- with the commands from here on the choices are whole
abbrev pub invariant-loop-command : goal.invariant-loop-command
invariant-loop-command l = l.held.items ++ line_choices (drop l.command-index l.commands) ≡ line_choices l.commands
