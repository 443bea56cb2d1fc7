-- What an enabled step tells of the ticket that it names.
use Rattle.std.proofs.Common.{◌≡◌, ℕ, true, Option, Some, None, refl, ap}
use Rattle.std.specs.Prelude.{IsSome, unwrap_or}
use Rattle.desk_law.specs.declared.stage.Stage.{Stage}
use Rattle.desk_law.specs.declared.stage.Stage.TheVariants as stage
use Rattle.desk_law.specs.declared.ticket.Ticket.{Ticket}
use Rattle.desk_law.specs.Desk.{ticket}
use Rattle.desk_law.specs.Rings.{done_ticket}
use Rattle.driver_desk.specs.Conditions as desk
use Rattle.driver_desk.specs.Conditions.{next_done}
use Rattle.world_law.specs.declared.reply.Reply.TheVariants as reply
use Rattle.world_law.specs.World.{World}
use Rattle.world_law.specs.Stops.{is_done, is_done_by}
use Rattle.world_law.specs.Enabling.{MayQueue, IsEnded}
use Rattle.world_law.specs.Steps.{taken, TakesOf}

queues : (w : World) (caller : ℕ) (k : Ticket) (s : Stage) → MayQueue w caller k s → desk.MayQueue s
queues w caller k stage.Linked h = tt
queues w caller k stage.Again h = tt
queues w caller k stage.Built h = absurd h
queues w caller k stage.Queued h = absurd h
queues w caller k stage.Check h = absurd h
queues w caller k stage.Sensing h = absurd h
queues w caller k (stage.Ended o) h = absurd h
queues w caller k stage.Unlinked h = absurd h
queues w caller k stage.Freed h = absurd h

pub may_queue : (w : World) (caller t : ℕ) → MayQueue w caller (ticket w.desk t) (ticket w.desk t).stage → desk.MayQueue (ticket w.desk t).stage
may_queue w caller t h = queues w caller (ticket w.desk t) (ticket w.desk t).stage h

ended : (s : Stage) → IsEnded s → desk.IsEnded s
ended (stage.Ended o) h = tt
ended stage.Built h = absurd h
ended stage.Linked h = absurd h
ended stage.Queued h = absurd h
ended stage.Again h = absurd h
ended stage.Check h = absurd h
ended stage.Sensing h = absurd h
ended stage.Unlinked h = absurd h
ended stage.Freed h = absurd h

pub is_ended : (w : World) (t : ℕ) → IsEnded (ticket w.desk t).stage → desk.IsEnded (ticket w.desk t).stage
is_ended w t h = ended (ticket w.desk t).stage h

some-done : (w : World) (o : Option ℕ) → is_done_by w o ≡ true → IsSome o
some-done w None h = absurd cc
some-done w (Some t) h = refl

pub done_is_some : (w : World) → is_done w ≡ true → IsSome (done_ticket w.memory w.desk)
done_is_some w h = some-done w (done_ticket w.memory w.desk) h

by-found : (old new : World) (o : Option ℕ) (t : ℕ) → t ≡ unwrap_or o 0 → IsSome o → new ≡ taken old (unwrap_or o 0) → TakesOf o old (reply.Taken t) new
by-found old new None t e some n = absurd cc
by-found old new (Some u) t e some n = (ap reply.Taken e, n)

pub takes_done : (old new : World) (t : ℕ) → t ≡ next_done old.memory old.desk → IsSome (done_ticket old.memory old.desk)
    → new ≡ taken old (next_done old.memory old.desk) → TakesOf (done_ticket old.memory old.desk) old (reply.Taken t) new
takes_done old new t e some n = by-found old new (done_ticket old.memory old.desk) t e some n
