-- Which steps a caller may make (own).
use Rattle.std.specs.Prelude.{◌≡◌, ℕ, ◌<◌, ◌≤◌, Bool, true, false, length, slice_get, Some, None}
use Rattle.rig_types.specs.declared.acts.Act.{Act}
use Rattle.rig_types.specs.declared.acts.ActKind.{ActKind}
use Rattle.rig_types.specs.declared.acts.ActKind.TheVariants.{Abort}
use Rattle.rig_types.specs.declared.step.Line.{Line}
use Rattle.rig_types.specs.declared.step.Step.{Step}
use Rattle.rig_types.specs.declared.step.Step.TheVariants as step
use Rattle.host_map.specs.declared.TheConstants.{FRONT_IDLE}
use Rattle.desk_law.specs.declared.stage.Stage.{Stage}
use Rattle.desk_law.specs.declared.stage.Stage.TheVariants as stage
use Rattle.desk_law.specs.declared.ticket.Ticket.{Ticket}
use Rattle.desk_law.specs.Desk.{aborter, reaper, chip, ticket, due}
use Rattle.world_law.specs.declared.reply.Decided.{Decided}
use Rattle.world_law.specs.declared.reply.Decided.TheVariants as line
use Rattle.world_law.specs.declared.reply.Stop.TheVariants.{Run, Mismatch, Clear, MustReset}
use Rattle.world_law.specs.World.{BenchSetting, World, commands_of, lines_of, decided, front}
use Rattle.world_law.specs.Lines.{settled, blocking, drained}
use Rattle.world_law.specs.Stops.{to_sweep, sweep, is_done}

-- the submitter's next line, once its signals are made and its earlier tickets don't block
pub record MayBuild (g : BenchSetting) (w : World) (caller : ℕ) (l : Line) : Type 0 where
  pub own : caller ≡ l.submitter
  pub next : l.number ≡ length (lines_of w l.submitter)
  pub there : l.number < length (commands_of g l.submitter)
  pub none_due : due w.desk caller ≡ 0
  pub unblocked : blocking g w caller ≡ None

-- a Linked ticket by its submitter, one that is to be queued again by the reaper
abbrev pub MayQueue : World → (caller : ℕ) → Ticket → Stage → Type 0
MayQueue w caller k stage.Linked = caller ≡ k.line.submitter
MayQueue w caller k stage.Again = caller ≡ reaper w.desk
MayQueue w caller k _ = ⊥

abbrev pub IsEnded : Stage → Type 0
IsEnded (stage.Ended o) = Unit {0}
IsEnded _ = ⊥

-- the aborter's next act, once so many lines are settled as it asks for; an abort only of a line that is decided
abbrev pub is_open : Decided → Bool
is_open line.Open = true
is_open _ = false

abbrev pub aborts_open : World → ActKind → Bool
aborts_open w (Abort l) = is_open (decided w l)
aborts_open w _ = false

pub record MayAct (g : BenchSetting) (w : World) (caller k : ℕ) : Type 0 where
  pub by : caller ≡ aborter w.desk
  pub next : k ≡ length w.acts
  pub act : Act
  pub is : slice_get g.acts k ≡ Some act
  pub reached : act.after ≤ settled w
  pub none_due : due w.desk caller ≡ 0
  pub decided : aborts_open w act.kind ≡ false

abbrev pub Enabled : BenchSetting → World → (caller : ℕ) → Step → Type 0
Enabled g w caller (step.Build l) = MayBuild g w caller l
Enabled g w caller (step.Link t) = ((ticket w.desk t).stage ≡ stage.Built) × (caller ≡ (ticket w.desk t).line.submitter)
Enabled g w caller (step.Queue t) = MayQueue w caller (ticket w.desk t) (ticket w.desk t).stage
Enabled g w caller step.Signal = 0 < due w.desk caller
Enabled g w caller (step.Chip word) = (caller ≡ chip w.desk) × (w.stop ≡ Run) × (drained g w ≡ false)
Enabled g w caller step.Fix = (caller ≡ reaper w.desk) × (w.stop ≡ Mismatch)
Enabled g w caller (step.Sweep t) = (caller ≡ reaper w.desk) × (to_sweep w (ticket w.desk t) ≡ true)
Enabled g w caller step.Restart = (caller ≡ reaper w.desk) × (w.stop ≡ Clear) × (sweep w ≡ None)
Enabled g w caller step.TakeDone = (caller ≡ reaper w.desk) × (is_done w ≡ true)
Enabled g w caller (step.Unlink t) = (caller ≡ reaper w.desk) × IsEnded (ticket w.desk t).stage
Enabled g w caller (step.Free t) = (caller ≡ reaper w.desk) × ((ticket w.desk t).stage ≡ stage.Unlinked)
Enabled g w caller (step.Act k) = MayAct g w caller k
Enabled g w caller step.ResetBus = (caller ≡ reaper w.desk) × (w.stop ≡ MustReset)
Enabled g w caller (step.Sense t) =
    (caller ≡ reaper w.desk) × (w.stop ≡ Run) × ((ticket w.desk t).stage ≡ stage.Check) × (front w ≡ FRONT_IDLE)
