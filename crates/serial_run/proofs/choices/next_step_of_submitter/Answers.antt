use Rattle.std.proofs.Common.{List, subst}
use Rattle.rig_types.specs.declared.step.Step.{Step}
use Rattle.run_law.specs.Serial.{IsFirst}
use Rattle.serial_run.proofs.Submitters.{first_of_submitter}
use Rattle.serial_run.proofs.choices.next_step_of_submitter.Goals as goal

pub returns : goal.returns
returns c =
    first_of_submitter c.args.bench.now.setting c.args.bench.now.entries c.args.bench.now.world c.args.submitter c.first_enabled.result c.list_is_lawful.ensures.lawful
    c.requires.there c.requires.own
    (subst (λ (ss : List Step). IsFirst c.args.bench.now.setting c.args.bench.now.world c.args.submitter ss c.first_enabled.result) c.tries_of_submitter.ensures c.first_enabled.ensures)
