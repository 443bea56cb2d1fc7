use Rattle.phase_fix.proofs.ScriptMoves.{finds_moves, misses_none}
use Rattle.phase_fix.proofs.laws.moves_of_script.Goals as goal

pub returns : goal.returns
returns c = record { found = finds_moves; all = misses_none }
