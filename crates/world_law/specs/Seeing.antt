-- What a caller sees whose step isn't enabled (own).
use Rattle.std.specs.Prelude.{ℕ, length, slice_get, Option, Some, None, option_map}
use Rattle.rig_types.specs.declared.step.Step.{Step}
use Rattle.rig_types.specs.declared.step.Step.TheVariants as step
use Rattle.desk_law.specs.declared.stage.Stage.{Stage}
use Rattle.desk_law.specs.declared.ticket.Ticket.{Ticket}
use Rattle.desk_law.specs.Desk.{DeskState, due}
use Rattle.world_law.specs.declared.reply.Seen.{Seen}
use Rattle.world_law.specs.World.{BenchSetting, World, lines_of}
use Rattle.world_law.specs.Lines.{settled, blocking, drained}
use Rattle.world_law.specs.Stops.{sweep, is_done}

-- the ticket that a step names
abbrev pub ticket_named : Step → Option ℕ
ticket_named (step.Link t) = Some t
ticket_named (step.Queue t) = Some t
ticket_named (step.Sweep t) = Some t
ticket_named (step.Unlink t) = Some t
ticket_named (step.Free t) = Some t
ticket_named (step.Sense t) = Some t
ticket_named _ = None

abbrev pub stage_of : DeskState → Option ℕ → Option Stage
stage_of d None = None
stage_of d (Some t) = option_map (λ (k : Ticket). k.stage) (slice_get d.tickets t)

abbrev pub seen : BenchSetting → World → (caller : ℕ) → Step → Seen
seen g w caller s = record {
  stage = stage_of w.desk (ticket_named s);
  next_line = length (lines_of w caller);
  next_act = length w.acts;
  due = due w.desk caller;
  settled = settled w;
  blocking = blocking g w caller;
  stop = w.stop;
  sweep = sweep w;
  done = is_done w;
  drained = drained g w;
}
