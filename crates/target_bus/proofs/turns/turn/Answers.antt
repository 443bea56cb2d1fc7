use Rattle.std.proofs.Common.{◌≡◌, ◌∙◌, ap, sym, is_some, None}
use Rattle.target_law.specs.Calls.{link_phase}
use Rattle.bus_law.specs.Choices.{left_where}
use Rattle.target_bus.proofs.ConnectedTurns.{turned-stays, is-none, turned-none, left-none, left-some}
use Rattle.target_bus.proofs.turns.turn.Goals as goal

pub choose-requires-clause-none : goal.choose-requires-clause-none
choose-requires-clause-none c = is-none (link_phase c.args.device.now.target.link) (ap is_some (sym c.shown.ensures) ∙ sym c.is_some.ensures ∙ c.if-is_some.false)

pub returns-then-is_some : goal.returns-then-is_some
returns-then-is_some c = sym (turned-stays c.args.atn c.args.word c.args.device.now (ap is_some (sym c.shown.ensures) ∙ sym c.is_some.ensures ∙ c.if-is_some.true))

pub returns-then-is_some-2 : goal.returns-then-is_some-2
returns-then-is_some-2 c =
    let none : link_phase c.args.device.now.target.link ≡ None = is-none (link_phase c.args.device.now.target.link) (ap is_some (sym c.shown.ensures) ∙ sym c.is_some.ensures ∙ c.if-is_some.false) in
    left-some c.choose.new.device (ap is_some (sym c.shown-2.ensures) ∙ sym c.is_some-2.ensures ∙ c.if-is_some-2.true)
    ∙ ap left_where c.choose.ensures ∙ turned-none c.args.atn c.args.word c.args.device.now none

pub returns : goal.returns
returns c =
    let none : link_phase c.args.device.now.target.link ≡ None = is-none (link_phase c.args.device.now.target.link) (ap is_some (sym c.shown.ensures) ∙ sym c.is_some.ensures ∙ c.if-is_some.false) in
    c.leave.ensures
    ∙ left-none c.choose.new.device (is-none (link_phase c.choose.new.device.target.link) (ap is_some (sym c.shown-2.ensures) ∙ sym c.is_some-2.ensures ∙ c.if-is_some-2.false))
    ∙ ap left_where c.choose.ensures ∙ turned-none c.args.atn c.args.word c.args.device.now none
