use Rattle.std.proofs.Common.{ap, ◌∙◌}
use Rattle.target_law.specs.Calls.{is_rogue}
use Rattle.target_law.specs.Devices.{DeviceState}
use Rattle.target_rows.proofs.OneUnit.{asks-rogue, asks-not, asks-so}
use Rattle.target_rows.proofs.initiator.Initiator.ask.Goals as goal

pub returns-then-is_rogue-clause-asks : goal.returns-then-is_rogue-clause-asks
returns-then-is_rogue-clause-asks c =
    asks-rogue c.args.self.now c.is_rogue.result (c.is_rogue.ensures.rogue ∙ ap (λ (d : DeviceState). is_rogue d.target) c.self.view_is) c.if-is_rogue.true

pub returns-then-not-is_to_choose-clause-asks : goal.returns-then-not-is_to_choose-clause-asks
returns-then-not-is_to_choose-clause-asks c = asks-not c.args.self.now c.is_to_choose.result c.if-not-is_to_choose.true c.is_to_choose.ensures.1

pub ask_message-requires : goal.ask_message-requires
ask_message-requires c = c.is_rogue.ensures.link c.if-is_rogue.false

pub returns-clause-asks : goal.returns-clause-asks
returns-clause-asks c =
    asks-so c.args.self.now c.is_rogue.result c.is_to_choose.result (c.is_rogue.ensures.rogue ∙ ap (λ (d : DeviceState). is_rogue d.target) c.self.view_is) c.if-is_rogue.false c.if-not-is_to_choose.false
    c.is_to_choose.ensures.0
