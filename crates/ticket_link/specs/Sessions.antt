-- What holds of a task beside its soundness. Source: own.
use Rattle.std.specs.Prelude.{◌≡◌, ℕ, ◌<◌, true, false, None, Some, slice_get}
use Rattle.target_law.specs.Session.{Task}
use Rattle.target_law.specs.Bytes.{Connection}
use Rattle.target_law.specs.Target.{LogicalUnit, TaskConnected, Target, unit_at}
use Rattle.ticket_fate.specs.Tickets.{Plan, Ticket}
use Rattle.ticket_fate.specs.Linked.{ShownFits, ShownBySense}
use Rattle.ticket_fate.specs.Laws.{Reached}

-- a fresh task has moved nothing, and keeps no answer
abbrev pub FreshIsNew : Task → Type 0
FreshIsNew k = k.fresh ≡ true → (k.high ≡ 0) × (k.kept ≡ None)

-- A connected task that asks for no sense: a refusal comes before anything has moved and isn't GOOD, and a data phase isn't fresh; and so of
-- a task that waits a fresh one is new. A sense task refuses nothing, and sends no message but COMMAND COMPLETE.
pub record TasksSayMore (g : Plan) (count : ℕ) (ns : ℕ → Ticket) (us : ℕ → Target) : Type 0 where
  pub shown : (i : ℕ) (c : Connection) → (us i).link ≡ TaskConnected c → c.task.senses ≡ false → ShownFits c.shows c.task
  pub fresh : (i : ℕ) (c : Connection) → (us i).link ≡ TaskConnected c → c.task.senses ≡ false → FreshIsNew c.task
  pub senses : (i : ℕ) (c : Connection) → (us i).link ≡ TaskConnected c → c.task.senses ≡ true → ShownBySense c.shows
  pub waits : (n m : ℕ) (u : LogicalUnit) (k : Task) → n < count → unit_at (us (g.units n).target).units (g.units n).lun ≡ Some u → slice_get u.tasks m ≡ Some k → FreshIsNew k

abbrev pub SessionsSayMore : Type 0
SessionsSayMore = (g : Plan) (count : ℕ) (ns : ℕ → Ticket) (us : ℕ → Target) → Reached g count ns us → TasksSayMore g count ns us
