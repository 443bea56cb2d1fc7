use Rattle.std.proofs.Common.{Bool, ap, ◌∙◌, List, Option}
use Rattle.std.specs.List.{list_any}
use Rattle.unit_tasks.specs.declared.queued.QueuedUnit.{QueuedUnit}
use Rattle.scsi_target.specs.Slots.{answers_in}
use Rattle.scsi_target.proofs.Views.{answers_of, present_of}
use Rattle.scsi_target.proofs.device.Device.answers.Goals as goal

pub returns-clause-answers : goal.returns-clause-answers
returns-clause-answers c = c.answers.ensures ∙ ap (λ (slots : List (Option QueuedUnit)). list_any answers_in slots) c.deref.ensures.value ∙ answers_of _ _ c.self.inside.link c.self.view_is

pub returns-clause-present : goal.returns-clause-present
returns-clause-present c = present_of c.args.self.now.target c.answers.result (returns-clause-answers c)
