use Rattle.std.proofs.Common.{◌<◌, ◌≤◌, length, arith}
use Rattle.std.proofs.lemmas.Bool.Decides.{nat_tests}
use Rattle.scsi_target.proofs.TaskExits.{made_ended, made_unended}
use Rattle.scsi_target.proofs.task_exit.end.Goals as goal

pub returns-then-spare-eq0 : goal.returns-then-spare-eq0
returns-then-spare-eq0 c =
    let full : c.args.unit.now.core.log.room ≤ length c.args.unit.now.core.log.entries = grind (arith, nat_tests, c.spare.ensures, c.if-spare-eq0.true) in
    made_unended c.args.unit.now c.args.connection c.requires.slot c.requires.connected c.requires.last full

pub returns : goal.returns
returns c =
    let room : length c.args.unit.now.core.log.entries < c.args.unit.now.core.log.room = grind (arith, nat_tests, c.spare.ensures, c.if-spare-eq0.false) in
    made_ended c.args.unit.now c.close.new.core c.args.connection c.give_back.new.self c.requires.slot c.requires.last room c.close.ensures.core c.close.ensures.others c.give_back.ensures
