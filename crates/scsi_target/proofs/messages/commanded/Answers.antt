use Rattle.std.proofs.Common.{arith}
use Rattle.scsi_target.proofs.Tells.{named_past, named_none, named_there, named_linked}
use Rattle.scsi_target.proofs.messages.commanded.Goals as goal

pub returns-then-len-nexus-clause-link : goal.returns-then-len-nexus-clause-link
returns-then-len-nexus-clause-link c =
    let ok = c.args.units.now.ok in
    named_past c.args.units.now.items c.args.nexus (omega arith)

pub returns-in-Some-clause-link : goal.returns-in-Some-clause-link
returns-in-Some-clause-link c =
    let ok = c.args.units.now.ok in
    named_there c.args.units.now.items c.args.nexus c.index.result.now c.in-Some.field-0 c.new.result.bytes.items (omega arith) c.index.ensures c.in-Some.is c.new.ensures

pub returns-in-Some-clause-linked : goal.returns-in-Some-clause-linked
returns-in-Some-clause-linked c =
    let ok = c.args.units.now.ok in
    named_linked c.args.units.now.items c.args.nexus c.index.result.now c.in-Some.field-0 c.new.result (omega arith) c.index.ensures c.in-Some.is c.new.ensures

pub returns-in-None-clause-link : goal.returns-in-None-clause-link
returns-in-None-clause-link c =
    let ok = c.args.units.now.ok in
    named_none c.args.units.now.items c.args.nexus c.index.result.now (omega arith) c.index.ensures c.in-None.is
