use Rattle.std.proofs.Common.{◌∙◌, ◌&&◌, not, ap, sym, Bool}
use Rattle.target_bus.proofs.ConnectedTurns.{to-choose, named-is, asks-is, acts-is}
use Rattle.target_bus.proofs.turns.choose.Goals as goal

pub choose-chosen-requires : goal.choose-chosen-requires
choose-chosen-requires c = to-choose c.args.device.now.target.link c.requires.connected c.requires.none

pub returns-then-asks : goal.returns-then-asks
returns-then-asks c =
    c.ask_message.ensures
    ∙ asks-is c.args.device.now.target.link c.args.device.now c.args.atn c.args.word (to-choose c.args.device.now.target.link c.requires.connected c.requires.none)
    (ap (λ (r : Bool). c.args.atn && not r) (sym c.is_rogue_connected.ensures) ∙ c.if-asks.true)

pub returns : goal.returns
returns c =
    c.act.ensures
    ∙ acts-is c.args.device.now.target.link c.args.device.now c.args.atn c.args.word c.choose-chosen.result (to-choose c.args.device.now.target.link c.requires.connected c.requires.none)
    (ap (λ (r : Bool). c.args.atn && not r) (sym c.is_rogue_connected.ensures) ∙ c.if-asks.false)
    (named-is c.args.device.now.target.link c.args.device.now.target c.args.word c.choose-chosen.result c.choose-chosen.ensures.named)
