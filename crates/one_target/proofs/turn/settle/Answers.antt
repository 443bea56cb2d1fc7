use Rattle.std.proofs.Common.{sym, ◌∙◌}
use Rattle.one_target.proofs.DeviceCalls.{lawful-link, settled}
use Rattle.one_target.proofs.turn.settle.Goals as goal

pub ask_message-requires : goal.ask_message-requires
ask_message-requires c = lawful-link c.args.device.now c.requires

pub returns-then-is_to_choose-clause-settles : goal.returns-then-is_to_choose-clause-settles
returns-then-is_to_choose-clause-settles c =
    (settled c.args.device.now c.ask_message.new.self c.end_message.new.self (sym c.is_to_choose.ensures ∙ c.if-is_to_choose.true) c.requires c.ask_message.ensures c.end_message.ensures).settles

pub returns-then-is_to_choose-clause-rooms : goal.returns-then-is_to_choose-clause-rooms
returns-then-is_to_choose-clause-rooms c =
    (settled c.args.device.now c.ask_message.new.self c.end_message.new.self (sym c.is_to_choose.ensures ∙ c.if-is_to_choose.true) c.requires c.ask_message.ensures c.end_message.ensures).rooms
