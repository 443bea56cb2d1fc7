-- The data pointers of a task follow its bytes and messages.
use Rattle.std.proofs.Common.{◌≡◌, ℕ, zero, suc, Bool, true, false, [], refl, Option, Some, None}
use Rattle.scsi_words.specs.declared.phases.kinds.Direction.{Direction}
use Rattle.scsi_words.specs.declared.phases.kinds.Direction.TheVariants.{In, Out, None as NoData}
use Rattle.cdb_codec.specs.Forms.{need_of}
use Rattle.plain_lun.specs.Performing.{Answered, Performed, perform}
use Rattle.target_law.specs.declared.moves.Move.{Move}
use Rattle.target_law.specs.declared.moves.Move.TheVariants as move
use Rattle.target_law.specs.declared.task_phase.ReselectByte.TheVariants as part
use Rattle.target_law.specs.declared.task_phase.TargetMessage.{TargetMessage}
use Rattle.target_law.specs.declared.task_phase.TargetMessage.TheVariants.{Reselection, CommandComplete, SaveThenDisconnect, SaveDataPointer, RestorePointers, Disconnect}
use Rattle.target_law.specs.declared.task_phase.TaskPhase.{TaskPhase}
use Rattle.target_law.specs.declared.task_phase.TaskPhase.TheVariants.{ToChoose, MessageOut, DataIn, DataOut, Status, MessageIn}
use Rattle.target_law.specs.Session.{Session, remaining, acted, gone, phased, looked, looked_by}
use Rattle.target_law.specs.Bytes.{Connection, sent_by, took_by, heard_by}
use Rattle.ticket_link.specs.Pointers.{PointersStay, moves_pointers, moves_data, PointersFollow}

-- a choice
looked-by-stay : (b : Bool) (s : Session) (p : Performed) → PointersStay s.task (looked_by b s p).task
looked-by-stay true s p = record { position = refl; saved = refl }
looked-by-stay false s p = record { position = refl; saved = refl }

looked-stay : (o : Option Answered) (s : Session) → PointersStay s.task (looked o s).task
looked-stay (Some a) s = record { position = refl; saved = refl }
looked-stay None s = looked-by-stay s.task.senses s (perform s.unit s.task.cdb [])

phased-stay : (d : Direction) (s : Session) (n : ℕ) → PointersStay s.task (phased d s n).task
phased-stay In s n = let h = looked-stay s.task.kept s in record { position = h.position; saved = h.saved }
phased-stay Out s n = record { position = refl; saved = refl }
phased-stay NoData s n = record { position = refl; saved = refl }

gone-stay : (r : ℕ) (s : Session) (n : ℕ) → PointersStay s.task (gone r s n).task
gone-stay zero s n = record { position = refl; saved = refl }
gone-stay (suc r) s n = phased-stay (need_of s.task.cdb).direction s n

acted-stay : (m : Move) (s : Session) → PointersStay s.task (acted m s).task
unfolding acted
acted-stay (move.Go n) s = gone-stay (remaining s) s n
acted-stay move.Busy s = record { position = refl; saved = refl }
acted-stay move.QueueFull s = record { position = refl; saved = refl }
acted-stay move.Leave s = record { position = refl; saved = refl }
acted-stay move.SaveLeave s = record { position = refl; saved = refl }
acted-stay move.Save s = record { position = refl; saved = refl }
acted-stay move.Restore s = record { position = refl; saved = refl }
acted-stay (move.Rogue word) s = record { position = refl; saved = refl }

-- a byte
sent-stay : (sh : TaskPhase) (c : Connection) → moves_data sh ≡ false → PointersStay c.task (sent_by sh c).task
sent-stay ToChoose c e = record { position = refl; saved = refl }
sent-stay MessageOut c e = record { position = refl; saved = refl }
sent-stay (DataIn n) c e = cc
sent-stay (DataOut n) c e = cc
sent-stay (Status v) c e = record { position = refl; saved = refl }
sent-stay (MessageIn n s) c e = record { position = refl; saved = refl }

taken-stay : (sh : TaskPhase) (c : Connection) (b : ℕ) → moves_data sh ≡ false → PointersStay c.task (took_by sh c b).task
taken-stay ToChoose c b e = record { position = refl; saved = refl }
taken-stay MessageOut c b e = record { position = refl; saved = refl }
taken-stay (DataIn n) c b e = cc
taken-stay (DataOut n) c b e = cc
taken-stay (Status v) c b e = record { position = refl; saved = refl }
taken-stay (MessageIn n s) c b e = record { position = refl; saved = refl }

-- a message
heard-stay : (n : TargetMessage) (c : Connection) → moves_pointers n ≡ false → PointersStay c.task (heard_by n c).task
heard-stay (Reselection part.Identify) c e = record { position = refl; saved = refl }
heard-stay (Reselection part.SimpleQueueTag) c e = record { position = refl; saved = refl }
heard-stay (Reselection part.Tag) c e = record { position = refl; saved = refl }
heard-stay (CommandComplete v) c e = record { position = refl; saved = refl }
heard-stay SaveThenDisconnect c e = cc
heard-stay SaveDataPointer c e = cc
heard-stay RestorePointers c e = cc
heard-stay Disconnect c e = record { position = refl; saved = refl }

pub pointers-follow : PointersFollow
pointers-follow = record {
  chosen = acted-stay;
  sent_data = λ n c. record { position = refl; saved = refl };
  taken_data = λ n c b. record { position = refl; saved = refl };
  sent = sent-stay;
  taken = taken-stay;
  saves = λ c. (refl, refl);
  saves_first = λ c. (refl, refl);
  restores = λ c. (refl, refl);
  heard = heard-stay;
  left = λ k. (refl, refl);
}
