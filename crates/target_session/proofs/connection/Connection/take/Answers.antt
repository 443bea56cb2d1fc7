use Rattle.std.proofs.Common.{◌≡◌}
use Rattle.target_law.specs.declared.task_phase.TaskPhase.TheVariants.{DataOut}
use Rattle.target_session.proofs.DataRoom.{receiving-room}
use Rattle.target_session.proofs.connection.Connection.take.Goals as goal

pub receive-requires-clause-within : goal.receive-requires-clause-within
receive-requires-clause-within c =
    let e : c.args.self.now.shows ≡ DataOut c.in-DataOut.left = rw (← c.self.view_is) c.in-DataOut.is in
    let r = receiving-room c.requires.0 c.args.self.now c.in-DataOut.left c.requires.1 e in
    rw (← c.self.view_is) at r
