-- The end of an answered task, by its unit and its entry.
use Rattle.std.proofs.Common.{◌≡◌, Bool, true, false, [], ◌∷◌, ◌++◌, refl, Option, Some, None}
use Rattle.scsi_words.specs.declared.statuses.kinds.Status.{Status}
use Rattle.plain_lun.specs.Performing.{Answered, Performed, perform}
use Rattle.target_law.specs.declared.task_phase.Completion.TheVariants.{Answered as HasAnswered}
use Rattle.target_law.specs.Session.{Session, ended, closed_by, closed}
use Rattle.unit_task.specs.Ending.{performed_once, unit_ended_by, unit_ended}
use Rattle.target_session.specs.Sessions.{end_entry}

ended-as : (o : Option Answered) (s : Session) (p : Performed) → ended o s p ≡ record s { unit = performed_once o s.unit p; log = s.log ++ end_entry false s.task.ticket ∷ [] }
ended-as (Some kept) s p = refl
ended-as None s p = refl

closed-by-as : (b : Bool) (s : Session) → closed_by b s ≡ record s { unit = unit_ended_by b s.unit s.task; log = s.log ++ end_entry b s.task.ticket ∷ [] }
closed-by-as true s = refl
closed-by-as false s = ended-as s.task.kept s (perform s.unit s.task.cdb s.task.received)

pub closed-as : (s : Session) (st : Status) → closed (HasAnswered st) s ≡ record s { unit = unit_ended s.unit s.task; log = s.log ++ end_entry s.task.senses s.task.ticket ∷ [] }
unfolding closed
closed-as s st = closed-by-as s.task.senses s
