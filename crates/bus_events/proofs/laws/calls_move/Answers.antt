use Rattle.bus_events.proofs.CallsMove.{calls-move, calls-stay-joined}
use Rattle.bus_events.proofs.laws.calls_move.Goals as goal

pub returns : goal.returns
returns c = record { moves = calls-move; joined = calls-stay-joined }
