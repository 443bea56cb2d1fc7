use Rattle.std.proofs.Common.{◌≡◌, length, take, set, arith}
use Rattle.std.proofs.lemmas.Grind.{common_steps}
use Rattle.unit_task.proofs.Received.{kept-same, take-put}
use Rattle.unit_task.proofs.task.Task.receive.Goals as goal

pub returns-clause-task : goal.returns-clause-task
returns-clause-task c =
    let items = c.self.inside.buffer.items in
    let at = c.self.inside.position in
    let got = c.self.inside.got in
    let b = c.args.b in
    let none = rw (← c.self.view_is) at c.requires.nothing_kept in
    let low = rw (← c.self.view_is) at c.requires.no_gap in
    let within = rw (← c.self.view_is) at c.requires.within in
    let size = c.self.invariant.size in
    let g = c.self.invariant.received in
    let n : length (take got items) ≡ got = grind (arith, common_steps) in
    let k = kept-same c.self.inside.kept items (set items at b) none in
    let r = take-put items at b got (omega arith) (omega arith) (omega arith) in
    rw (← c.self.view_is) (cc (k, r, c.max-self-inside.ensures, c.max-self-inside-2.ensures))
