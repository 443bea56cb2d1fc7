use Rattle.target_law.specs.Calls.{target_reselected}
use Rattle.target_law.proofs.Rigs.{rigs-reselected}
use Rattle.target_rows.proofs.OneUnit.{unit-there, held-by, stays-connected, stays-without}
use Rattle.target_rows.proofs.initiator.Initiator.reselect.Goals.{then-connected-via-then-connected, then-connected-via-else-connected+then-n-can_reselect}
use Rattle.target_rows.proofs.initiator.Initiator.reselect.Goals as goal

pub can_reselect-requires : goal.can_reselect-requires
can_reselect-requires c = unit-there c.self.inside.device.target.units c.self.inside.unit c.self.invariant

pub returns-then-connected-clause-reselects : goal.returns-then-connected-clause-reselects
returns-then-connected-clause-reselects c = elim c.then-connected.branch [
  | then-connected-via-then-connected w ↦ stays-connected c.self.inside.device c.args.self.now c.self.inside.unit c.args.n c.connected.result c.self.invariant c.self.view_is c.connected.ensures w.if-connected.true
  | then-connected-via-else-connected+then-n-can_reselect w ↦ stays-without c.self.inside.device c.args.self.now c.self.inside.unit c.args.n w.can_reselect.result c.self.invariant c.self.view_is w.can_reselect.ensures w.if-n-can_reselect.true
]

pub invariant_of-self : goal.invariant_of-self
invariant_of-self c =
    held-by c.self.inside.device c.reselect.new.self (target_reselected c.self.inside.device.target c.self.inside.unit.lun c.args.n c.args.tag) c.self.inside.unit c.self.invariant
    (rigs-reselected c.self.inside.device.target c.self.inside.unit.lun c.args.n c.args.tag) c.reselect.ensures
