use Rattle.std.proofs.Common.{sym, ◌∙◌}
use Rattle.serial_run.proofs.Turns.{turn_made}
use Rattle.serial_run.proofs.driving.turn.Goals as goal

pub returns-in_default : goal.returns-in_default
returns-in_default c =
    turn_made c.args.caller c.args.word c.args.bench.now c.step.new.self c.in-Some.step c.step.result
    (λ e. c.if-length-rig.false (c.length.ensures ∙ e ∙ sym c.rig.ensures.step_limit))
    c.in-Some.ensures c.in_default.not-OutOfMemory c.step.ensures.setting c.step.ensures.answers c.step.ensures.entries
