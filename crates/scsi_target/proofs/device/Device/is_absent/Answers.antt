use Rattle.std.proofs.Common.{Bool, ◌&&◌, not, ap, ◌∙◌, List, Option}
use Rattle.std.specs.List.{list_any}
use Rattle.unit_tasks.specs.declared.queued.QueuedUnit.{QueuedUnit}
use Rattle.scsi_target.specs.Slots.{has_unit_in, answers_in}
use Rattle.scsi_target.proofs.Views.{absent_of}
use Rattle.scsi_target.proofs.device.Device.is_absent.Goals as goal

pub returns : goal.returns
returns c =
    ap (λ (some : Bool). some && not c.answers-none_answers.result) (c.has_units-some.ensures ∙ ap (λ (slots : List (Option QueuedUnit)). list_any has_unit_in slots) c.deref.ensures.value)
    ∙ ap (λ (answer : Bool). list_any has_unit_in c.self.inside.units.items && not answer) (c.answers-none_answers.ensures ∙ ap (λ (slots : List (Option QueuedUnit)). list_any answers_in slots) c.deref-2.ensures.value)
    ∙ absent_of _ _ c.self.inside.link c.self.view_is
