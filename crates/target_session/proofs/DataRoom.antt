-- The room for a byte of a data phase.
use Rattle.std.proofs.Common.{◌≡◌, ℕ, ◌<◌, arith}
use Rattle.unit_core.specs.declared.Core.{Core}
use Rattle.target_law.specs.declared.task_phase.TaskPhase.TheVariants.{DataOut}
use Rattle.target_law.specs.Bytes.{Connection}
use Rattle.target_law.specs.Sound.{IsSound, IsReceiving}
use Rattle.unit_task.proofs.SoundTasks.{total-most}
use Rattle.target_session.specs.Sessions.{session_of}

pub receiving-room : (core : Core) (c : Connection) (n : ℕ) → IsSound (session_of core c) → c.shows ≡ DataOut n → c.task.position < 65536
receiving-room core c n i e =
    let w : IsReceiving (record (session_of core c) { shows = DataOut n }) n = rw e at i.worth in
    let some = w.some in
    let most = w.most in
    let t = total-most core.lun c.task i.task in
    omega arith
