use Rattle.one_target.proofs.DeviceCalls.{lawful-link}
use Rattle.one_target.proofs.turn.choose.Goals as goal

pub ask_message-requires : goal.ask_message-requires
ask_message-requires c = lawful-link c.args.device.now c.requires
