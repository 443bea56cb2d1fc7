-- What holds of all tickets and all targets together: each target is kept, and each connected ticket is the one that its target's link names. No public contract rests on it; lemmas do.
-- Source: own.
use Rattle.std.specs.Prelude.{◌≡◌, ℕ}
use Rattle.target_law.specs.Target.{ConnectionState, TaskConnected, Target}
use Rattle.ticket_fate.specs.Tickets.{Plan, Connected, Ticket}
use Rattle.ticket_fate.specs.Linked.{TargetKept}
use Rattle.ticket_fate.specs.Moves.{target_of}

abbrev pub AtLink : ConnectionState → ℕ → Type 0
AtLink (TaskConnected c) x = c.task.ticket ≡ x
AtLink _ x = ⊥

pub record AllKept (g : Plan) (count : ℕ) (ks : ℕ → Ticket) (ts : ℕ → Target) : Type 0 where
  pub each : (i : ℕ) → TargetKept g count i ks (ts i)
  pub here : (x : ℕ) → (ks x).life ≡ Connected → AtLink (ts (target_of g x)).link x
