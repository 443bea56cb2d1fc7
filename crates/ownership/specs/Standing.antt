-- A chip that runs the driver script (own).
use Rattle.std.specs.Prelude.{◌≡◌, ℕ, ◌*◌, ◌<◌, false, length}
use Rattle.bench_words.specs.Memory.{word_at}
use Rattle.chip_regs.specs.Registers.{is_stopped}
use Rattle.chip_step.specs.Chip.{Chip}
use Rattle.driver_script.specs.Script.{IsLoaded}

-- memory has 4 MiB and holds the script in this version, and the chip runs and stands at instruction k of it
pub record StandsAt {B : Type 0} (version k : ℕ) (chip : Chip B) : Type 0 where
  pub size : length chip.memory ≡ 0x400000
  pub loaded : IsLoaded (word_at chip.memory) version
  pub running : is_stopped chip.regs ≡ false
  pub dsp : chip.regs.dsp ≡ 8 * k
  pub inside : k < 151
