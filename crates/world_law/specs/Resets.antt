-- Sweep, Restart, and the reset of the bus (own).
use Rattle.std.specs.Prelude.{ℕ, ◌==◌, if◌then◌else◌, Bool, true, false, List, Option, Some, None, unwrap_or}
use Rattle.rig_types.specs.declared.report.Outcome.{Outcome}
use Rattle.rig_types.specs.declared.report.Outcome.TheVariants.{Done, Reset, Broken}
use Rattle.chip_regs.specs.Registers.{cause_of, without_stops, stop_with}
use Rattle.chip_regs.specs.declared.registers.Cause.{Cause}
use Rattle.chip_regs.specs.declared.registers.Cause.TheVariants.{Sir, Ma, Rst, Sto}
use Rattle.bus_law.specs.Bus.{bus_reset}
use Rattle.host_map.specs.declared.TheConstants.{JOB}
use Rattle.driver_script.specs.Script.{label_of}
use Rattle.driver_script.specs.declared.labels.Name.TheVariants as label
use Rattle.abort_reset.specs.Patches.{idle_at_front, swept}
use Rattle.desk_law.specs.Desk.{ticket, is_rogue, is_sensing}
use Rattle.desk_law.specs.Calls.{ends}
use Rattle.world_law.specs.declared.reply.Stop.{Stop}
use Rattle.world_law.specs.declared.reply.Stop.TheVariants as stop
use Rattle.world_law.specs.World.{World}
use Rattle.world_law.specs.Stops.{in_tail}
use Rattle.bus_law.specs.Rooms.{with_all_room}

-- ---- Sweep

-- a ticket whose sense was asked for has its status; one of a unit that breaks the rules is Broken
abbrev pub sweep_outcome : (sensing rogue : Bool) → Outcome
sweep_outcome true rogue = Done
sweep_outcome false true = Broken
sweep_outcome false false = Reset

abbrev pub sweeps : World → ℕ → World
sweeps w t = record w {
  memory = swept w.memory (ticket w.desk t).block;
  desk = ends w.desk t (sweep_outcome (is_sensing (ticket w.desk t).stage) (is_rogue w.desk (ticket w.desk t)));
}

-- ---- Restart

-- where the chip goes on, and whether FRONT becomes idle
pub record Restarted : Type 0 where
  pub dsp : ℕ
  pub front_idle : Bool

abbrev pub after_timeout : (job : Bool) → Restarted
after_timeout true = record { dsp = label_of label.Start; front_idle = true }
after_timeout false = record { dsp = label_of label.Notarget; front_idle = false }

abbrev pub restarted : World → Option Cause → Restarted
restarted w (Some Sto) = after_timeout (w.regs.dsa == JOB)
restarted w (Some (Sir vector)) = record { dsp = label_of label.Start; front_idle = true }
restarted w (Some Rst) = record { dsp = unwrap_or w.resume (label_of label.Start); front_idle = false }
restarted w (Some Ma) = record { dsp = label_of label.Dispatch; front_idle = false }
restarted w _ = record { dsp = label_of label.Start; front_idle = false }

abbrev pub idle_if : Bool → List ℕ → List ℕ
idle_if true m = idle_at_front m
idle_if false m = m

abbrev pub goes_on : World → Restarted → World
goes_on w r = record w { memory = idle_if r.front_idle w.memory; regs = record (without_stops w.regs) { dsp = r.dsp }; stop = stop.Run; resume = None }

abbrev pub restarts : World → World
restarts w = goes_on w (restarted w (cause_of w.regs))

-- ---- the bus reset

-- a chip that ran in the tail goes on there
abbrev pub resume_at : Stop → (dsp : ℕ) → Option ℕ
resume_at stop.Run dsp = if in_tail dsp then Some dsp else None
resume_at _ dsp = None

-- FRONT is idle, RST is the one cause of the stop, and the chip isn't connected
abbrev pub resets : World → World
resets w = record w {
  memory = idle_at_front w.memory;
  regs = stop_with Rst (record (without_stops w.regs) { con = false });
  bus = bus_reset (with_all_room w.bus);
  stop = stop.Clear;
  resume = resume_at w.stop w.regs.dsp;
}
