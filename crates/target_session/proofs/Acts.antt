-- A lawful move leads from a sound session to a sound one, and the unit's other tasks wait as before.
use Rattle.std.proofs.Common.{◌≡◌, ℕ, zero, suc, ◌-◌, ◌<◌, Bool, true, false, [], length, refl, arith, Option, Some, None}
use Rattle.scsi_words.specs.declared.phases.kinds.Direction.{Direction}
use Rattle.scsi_words.specs.declared.phases.kinds.Direction.TheVariants.{In, Out, None as NoData}
use Rattle.cdb_codec.specs.Forms.{need_of}
use Rattle.plain_lun.specs.Performing.{Answered, perform, wants_now}
use Rattle.plain_lun.proofs.Laws.{sends}
use Rattle.target_law.specs.declared.moves.Move.{Move}
use Rattle.target_law.specs.declared.moves.Move.TheVariants as move
use Rattle.target_law.specs.declared.task_phase.TaskPhase.TheVariants.{DataIn}
use Rattle.target_law.specs.Session.{Task, Session, remaining, Can, CanGo, acted, gone, phased, looked, looked_by, moves}
use Rattle.target_law.specs.Sound.{IsSound, IsWaiting}
use Rattle.unit_task.proofs.SoundTasks.{marked-sound, looked-sound}
use Rattle.unit_task.proofs.Ends.{others-looked}

-- a data phase of a command that sends
looked-by-sound : (b : Bool) (s : Session) (n : ℕ) → (need_of s.task.cdb).direction ≡ In → s.task.kept ≡ None → 0 < remaining s → IsSound s → CanGo s n
    → IsSound (moves (looked_by b s (perform s.unit s.task.cdb [])) (DataIn n))
looked-by-sound b s n d k r i g =
    let answer = (perform s.unit s.task.cdb []).answer in
    let l : length answer.bytes ≡ (wants_now s.unit s.task.cdb).bytes = sends s.unit s.task.cdb [] d in
    let same : remaining s ≡ (wants_now s.unit s.task.cdb).bytes - s.task.position = rw k refl in
    let some = g.some r in
    let most = g.most in
    let all = g.all in
    elim b as (λ b. IsSound (moves (looked_by b s (perform s.unit s.task.cdb [])) (DataIn n))) [
      | true ↦ record {
        task = marked-sound s.unit (record s.task { kept = Some answer }) s.task.budget false true (looked-sound s.unit s.unit s.task [] d k i.task);
        worth = record { some = some; kept = (answer, refl); most = omega arith; all = λ z. let e = all z in omega arith };
      }
      | false ↦ record {
        task = marked-sound (perform s.unit s.task.cdb []).unit (record s.task { kept = Some answer }) s.task.budget false true (looked-sound s.unit (perform s.unit s.task.cdb []).unit s.task [] d k i.task);
        worth = record { some = some; kept = (answer, refl); most = omega arith; all = λ z. let e = all z in omega arith };
      }
    ]

looked-worth : (o : Option Answered) (s : Session) (n : ℕ) → (need_of s.task.cdb).direction ≡ In → s.task.kept ≡ o → 0 < remaining s → IsSound s → CanGo s n → IsSound (moves (looked o s) (DataIn n))
looked-worth (Some a) s n d k r i g = record {
  task = marked-sound s.unit s.task s.task.budget false true i.task;
  worth = record { some = g.some r; kept = (a, k); most = g.most; all = g.all };
}
looked-worth None s n d k r i g = looked-by-sound s.task.senses s n d k r i g

phased-sound : (d : Direction) (s : Session) (n : ℕ) → (need_of s.task.cdb).direction ≡ d → 0 < remaining s → IsSound s → CanGo s n → IsSound (phased d s n)
phased-sound In s n e r i g = looked-worth s.task.kept s n e refl r i g
phased-sound Out s n e r i g = record {
  task = marked-sound s.unit s.task s.task.budget false true i.task;
  worth = record { some = g.some r; way = e; most = g.most; all = g.all };
}
phased-sound NoData s n e r i g = i

gone-sound : (r : ℕ) (s : Session) (n : ℕ) → remaining s ≡ r → IsSound s → CanGo s n → IsSound (gone r s n)
gone-sound zero s n e i g = record { task = marked-sound s.unit s.task s.task.budget false false i.task; worth = (e, refl) }
gone-sound (suc r) s n e i g = phased-sound (need_of s.task.cdb).direction s n refl (omega arith) i g

pub acted-sound : (m : Move) (s : Session) (limit refused : ℕ) → IsSound s → Can m s limit refused → IsSound (acted m s)
unfolding acted
acted-sound (move.Go n) s limit refused i h = gone-sound (remaining s) s n refl i h
acted-sound move.Busy s limit refused i h = record { task = marked-sound s.unit s.task s.task.budget false false i.task; worth = tt }
acted-sound move.QueueFull s limit refused i h = record { task = marked-sound s.unit s.task s.task.budget false false i.task; worth = tt }
acted-sound move.Leave s limit refused i h = record { task = marked-sound s.unit s.task (s.task.budget - 1) false false i.task; worth = refl }
acted-sound move.SaveLeave s limit refused i h = record { task = marked-sound s.unit s.task (s.task.budget - 1) false false i.task; worth = refl }
acted-sound move.Save s limit refused i h = record { task = marked-sound s.unit s.task (s.task.budget - 1) false false i.task; worth = refl }
acted-sound move.Restore s limit refused i h = record { task = marked-sound s.unit s.task (s.task.budget - 1) false false i.task; worth = refl }
acted-sound (move.Rogue word) s limit refused i h = i

-- the other tasks
looked-by-others : (b : Bool) (s : Session) → (need_of s.task.cdb).direction ≡ In → (k : Task) → IsWaiting s.unit k → IsWaiting (looked_by b s (perform s.unit s.task.cdb [])).unit k
looked-by-others true s d k w = w
looked-by-others false s d k w = others-looked s.unit s.task d k w

looked-others : (o : Option Answered) (s : Session) → (need_of s.task.cdb).direction ≡ In → (k : Task) → IsWaiting s.unit k → IsWaiting (looked o s).unit k
looked-others (Some a) s d k w = w
looked-others None s d k w = looked-by-others s.task.senses s d k w

phased-others : (d : Direction) (s : Session) (n : ℕ) → (need_of s.task.cdb).direction ≡ d → (k : Task) → IsWaiting s.unit k → IsWaiting (phased d s n).unit k
phased-others In s n e k w = looked-others s.task.kept s e k w
phased-others Out s n e k w = w
phased-others NoData s n e k w = w

gone-others : (r : ℕ) (s : Session) (n : ℕ) (k : Task) → IsWaiting s.unit k → IsWaiting (gone r s n).unit k
gone-others zero s n k w = w
gone-others (suc r) s n k w = phased-others (need_of s.task.cdb).direction s n refl k w

pub acted-others : (m : Move) (s : Session) (k : Task) → IsWaiting s.unit k → IsWaiting (acted m s).unit k
unfolding acted
acted-others (move.Go n) s k w = gone-others (remaining s) s n k w
acted-others move.Busy s k w = w
acted-others move.QueueFull s k w = w
acted-others move.Leave s k w = w
acted-others move.SaveLeave s k w = w
acted-others move.Save s k w = w
acted-others move.Restore s k w = w
acted-others (move.Rogue word) s k w = w
