-- What a device tells of its units.
use Rattle.std.proofs.Common.{◌≡◌, ℕ, List, slice_get, Option, Some, None, refl}
use Rattle.unit_law.specs.declared.entry.LogEntry.{LogEntry}
use Rattle.plain_lun.specs.Performing.{blocks_at}
use Rattle.target_law.specs.Target.{LogicalUnit}
use Rattle.target_law.specs.Lawful.{IsThere}
use Rattle.target_law.specs.Rigs.{rig_of}
use Rattle.world_law.specs.World.{log_by}
use Rattle.bench_state.specs.Reading.{disk_of, block_at}

pub entry_there : (o : Option LogicalUnit) (n : ℕ) (entry : Option LogEntry) → IsThere o (λ u. entry ≡ slice_get u.log n) → entry ≡ slice_get (log_by o) n
entry_there (Some u) n entry h = h
entry_there None n entry h = absurd h

pub entry_nowhere : (o : Option LogicalUnit) (n : ℕ) → rig_of o ≡ None → slice_get (log_by o) n ≡ None
entry_nowhere None n e = refl
entry_nowhere (Some u) n e = absurd cc

pub block_there : (o : Option LogicalUnit) (n : ℕ) (into : List ℕ) → IsThere o (λ u. into ≡ blocks_at u.plain.disk n 1) → into ≡ block_at (disk_of o) n
unfolding blocks_at
block_there (Some u) n into h = h
block_there None n into h = absurd h
