-- Memory at the opening of a world is memory at the opening by its table.
use Rattle.std.proofs.Common.{◌≡◌, ◌≤◌, ℕ, zero, suc, length, replicate, slice_index, refl}
use Rattle.std.proofs.lemmas.List.{length-replicate}
use Rattle.bench_words.specs.Memory.{IsZero}
use Rattle.host_map.specs.declared.TheConstants.{MEMORY_BYTES}
use Rattle.opening_memory.specs.Opening.{IsOpening}
use Rattle.opening_memory.proofs.OpeningLaws.{is_written}
use Rattle.world_law.specs.World.{BenchSetting}
use Rattle.world_law.specs.Opening.{memory_opened}

all-zero : (n i : ℕ) → slice_index (replicate n 0) i ≡ 0
all-zero zero i = refl
all-zero (suc n) zero = refl
all-zero (suc n) (suc i) = all-zero n i

zeros : (n : ℕ) → IsZero (replicate n 0) n
zeros n = record { size = length-replicate n 0; zeros = all-zero n }

pub opens : (g : BenchSetting) → length g.units ≤ 16 → IsOpening (memory_opened g.version g.units) g.version g.units
unfolding memory_opened
opens g few = is_written (replicate MEMORY_BYTES 0) g.version g.units few (zeros MEMORY_BYTES)
