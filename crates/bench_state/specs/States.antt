-- The rig and the work, with the world of a run over them.
use Rattle.std.specs.Prelude.{ℕ, ◌≤◌, List, [], length, map, slice_index_or, vec_capacity}
use Rattle.rig_types.specs.declared.commands.Command.{Command}
use Rattle.rig_types.specs.declared.rig.Rig.{Rig}
use Rattle.rig_types.specs.declared.work.Work.{Work}
use Rattle.world_law.specs.declared.reply.Decided.{Decided}
use Rattle.bench_state.specs.declared.state.Lines.{Lines}
use Rattle.world_law.specs.World.{BenchSetting, World}

pub record BenchState : Type 0 where
  pub setting : BenchSetting
  pub world : World

abbrev pub setting_of : Rig → Work → BenchSetting
setting_of rig work = record {
  version = rig.version;
  units = rig.units;
  retries = rig.retries;
  step_limit = rig.step_limit;
  autosense = rig.autosense;
  submitters = work.submitters;
  acts = work.acts;
}

-- another world of the same rig and work
abbrev pub with_world : BenchState → World → BenchState
with_world b w = record b { world = w }

-- what was decided of the lines of each submitter, and the room that is there for it
abbrev pub decided_of : List Lines → List (List Decided)
decided_of ls = map (λ (l : Lines). l.decided.items) ls

abbrev pub rooms_of : List Lines → List ℕ
rooms_of ls = map (λ (l : Lines). vec_capacity l.decided) ls

-- there is room for all lines of each submitter
abbrev pub HasLineRooms : List (List Command) → List Lines → Type 0
HasLineRooms css ls = (s : ℕ) → length (slice_index_or css s []) ≤ slice_index_or (rooms_of ls) s 0
