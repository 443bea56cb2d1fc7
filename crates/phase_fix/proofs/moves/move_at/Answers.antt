use Rattle.phase_fix.specs.Moves.{move_at}
use Rattle.phase_fix.proofs.moves.move_at.Goals as goal

pub returns-clause-found : goal.returns-clause-found
unfolding move_at
returns-clause-found c = cc (c.or.ensures, c.or-2.ensures, c.or-3.ensures, c.segment_move.ensures, c.segment_move-2.ensures, c.context_move.ensures, c.context_move-2.ensures)
