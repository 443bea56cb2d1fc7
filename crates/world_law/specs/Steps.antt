-- What each step answers, and what it makes of the world (own).
use Rattle.std.specs.Prelude.{◌≡◌, ℕ, false, [], ◌∷◌, ◌++◌, slice_get, Option, Some, None}
use Rattle.rig_types.specs.declared.step.Step.{Step}
use Rattle.rig_types.specs.declared.step.Step.TheVariants as step
use Rattle.desk_law.specs.Desk.{paid}
use Rattle.desk_law.specs.Rings.{done_ticket}
use Rattle.desk_law.specs.Calls.{links, link_memory, unlinks, unlink_memory, queues, queue_memory, senses, sense_memory, Frees, signalled}
use Rattle.desk_law.specs.Taking.{takes, take_memory}
use Rattle.desk_law.specs.Reporting.{report_at}
use Rattle.world_law.specs.declared.reply.Reply.{Reply}
use Rattle.world_law.specs.declared.reply.Reply.TheVariants as reply
use Rattle.world_law.specs.World.{BenchSetting, World, command_at}
use Rattle.world_law.specs.ChipSteps.{RunsChip}
use Rattle.world_law.specs.Repairs.{Fixes}
use Rattle.world_law.specs.Resets.{sweeps, restarts, resets}
use Rattle.world_law.specs.Builds.{BuildsOf}
use Rattle.world_law.specs.Acts.{ActsOf}

-- the answer is this one, and the world after it that one
abbrev pub Leads : (answer_is : Reply) → (made : World) → Reply → World → Type 0
Leads answer_is made answer new = (answer ≡ answer_is) × (new ≡ made)

abbrev pub Makes : (made : World) → Reply → World → Type 0
Makes made answer new = Leads reply.Made made answer new

-- INTF is cleared with the slot
abbrev pub taken : World → ℕ → World
taken w t = record w { memory = take_memory w.desk w.memory; desk = takes w.desk w.memory t; regs = record w.regs { intf = false } }

abbrev pub TakesOf : Option ℕ → World → Reply → World → Type 0
TakesOf None old answer new = ⊥
TakesOf (Some t) old answer new = Leads (reply.Taken t) (taken old t) answer new

-- the report is made, and the chunks are given back
pub record FreesTicket (old : World) (t : ℕ) (answer : Reply) (new : World) : Type 0 where
  pub answer_is : answer ≡ reply.Made
  pub frees : Frees old.desk t new.desk
  pub world : new ≡ record old { desk = new.desk; reports = old.reports ++ report_at old.desk old.memory t ∷ [] }

-- what a step that is enabled answers, and what it makes of the world
abbrev pub Does : BenchSetting → World → (caller : ℕ) → Step → Reply → World → Type 0
Does g old caller (step.Build l) answer new = BuildsOf (command_at g l) old l answer new
Does g old caller (step.Link t) answer new = Makes (record old { memory = link_memory old.desk t old.memory; desk = links old.desk t }) answer new
Does g old caller (step.Queue t) answer new = Makes (record old { memory = queue_memory old.desk t old.memory; desk = queues old.desk t }) answer new
Does g old caller step.Signal answer new = Makes (record old { regs = signalled old.regs; desk = paid old.desk caller }) answer new
Does g old caller (step.Chip word) answer new = RunsChip old word answer new
Does g old caller step.Fix answer new = (answer ≡ reply.Made) × Fixes old new
Does g old caller (step.Sweep t) answer new = Makes (sweeps old t) answer new
Does g old caller step.Restart answer new = Makes (restarts old) answer new
Does g old caller step.TakeDone answer new = TakesOf (done_ticket old.memory old.desk) old answer new
Does g old caller (step.Unlink t) answer new = Makes (record old { memory = unlink_memory old.desk t old.memory; desk = unlinks old.desk t }) answer new
Does g old caller (step.Free t) answer new = FreesTicket old t answer new
Does g old caller (step.Act k) answer new = ActsOf (slice_get g.acts k) old answer new
Does g old caller step.ResetBus answer new = Leads reply.Started (resets old) answer new
Does g old caller (step.Sense t) answer new = Makes (record old { memory = sense_memory old.desk t old.memory; desk = senses old.desk t }) answer new
