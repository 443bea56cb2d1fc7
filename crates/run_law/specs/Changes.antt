-- A run as its changes: each moment with the world before it (own).
use Rattle.std.specs.Prelude.{ℕ, ◌==◌, ◌&&◌, Bool, true, false, List, [], ◌∷◌, zip, slice_get, Option, Some, None}
use Rattle.std.specs.List.{list_any}
use Rattle.rig_types.specs.declared.acts.Act.{Act}
use Rattle.rig_types.specs.declared.acts.ActKind.{ActKind}
use Rattle.rig_types.specs.declared.acts.ActKind.TheVariants.{Abort, Device, Bus}
use Rattle.rig_types.specs.declared.step.Step.{Step}
use Rattle.rig_types.specs.declared.step.Step.TheVariants as step
use Rattle.host_map.specs.declared.TheConstants.{JOB}
use Rattle.world_law.specs.declared.reply.Decided.{Decided}
use Rattle.world_law.specs.declared.reply.Decided.TheVariants.{Accepted}
use Rattle.world_law.specs.declared.reply.Reply.{Reply}
use Rattle.world_law.specs.declared.reply.Reply.TheVariants.{Marked, Started}
use Rattle.world_law.specs.World.{BenchSetting, World, decided}
use Rattle.world_law.specs.Runs.{Moment}

pub record Change : Type 0 where
  pub before : World
  pub moment : Moment

abbrev pub changes : World → List Moment → List Change
changes w [] = []
changes w (m ∷ ms) = record { before = w; moment = m } ∷ changes m.after ms

-- ---- what a moment is

abbrev pub is_accepted_as : ℕ → Decided → Bool
is_accepted_as t (Accepted x) = x == t
is_accepted_as t _ = false

abbrev pub is_abort_of : ℕ → World → ActKind → Bool
is_abort_of t w (Abort l) = is_accepted_as t (decided w l)
is_abort_of t w _ = false

abbrev pub is_marked : Reply → Bool
is_marked Marked = true
is_marked _ = false

abbrev pub is_started : Reply → Bool
is_started Started = true
is_started _ = false

abbrev pub is_bus : ActKind → Bool
is_bus Bus = true
is_bus _ = false

abbrev pub is_device_of : (target : ℕ) → ActKind → Bool
is_device_of target (Device x) = x == target
is_device_of target _ = false

-- the kind of the act, if there is one, is such
abbrev pub has_kind : (ActKind → Bool) → Option Act → Bool
has_kind is None = false
has_kind is (Some a) = is a.kind

abbrev pub is_connected_to : (target : ℕ) → Option ℕ → Bool
is_connected_to target (Some x) = x == target
is_connected_to target None = false

module _ (g : BenchSetting) where
  -- an abort of the ticket answers Marked
  abbrev pub marks_by : ℕ → Change → Step → Bool
  marks_by t c (step.Act k) = has_kind (is_abort_of t c.before) (slice_get g.acts k) && is_marked c.moment.reply
  marks_by t c _ = false

  abbrev pub marks : ℕ → Change → Bool
  marks t c = marks_by t c c.moment.entry.step

  -- the bus is reset, by the reaper or by an act
  abbrev pub resets_bus_by : Change → Step → Bool
  resets_bus_by c step.ResetBus = true
  resets_bus_by c (step.Act k) = has_kind is_bus (slice_get g.acts k) && is_started c.moment.reply
  resets_bus_by c _ = false

  abbrev pub resets_bus : Change → Bool
  resets_bus c = resets_bus_by c c.moment.entry.step

  -- The chip is at the connection of a device reset of the target that an earlier act started.
  abbrev pub has_started : (target : ℕ) → Act × Reply → Bool
  has_started target x = is_device_of target x.0.kind && is_started x.1

  abbrev pub resets_device : (target : ℕ) → Change → Bool
  resets_device target c =
      c.before.regs.dsa == JOB && (is_connected_to target c.before.bus.connected && list_any (has_started target) (zip g.acts c.before.acts))
