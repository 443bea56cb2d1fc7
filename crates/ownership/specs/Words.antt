-- LOAD and STORE of the script, by words (own).
use Rattle.std.specs.Prelude.{◌≡◌, ℕ, pos, negsuc, ◌+◌, ◌%◌, ◌≤◌}
use Rattle.bench_words.specs.Bytes.{IsBytes}
use Rattle.bench_words.specs.Memory.{word_at, put_word}
use Rattle.scripts_ops.specs.declared.values.Address.{Address}
use Rattle.scripts_ops.specs.declared.values.Address.TheVariants.{At, FromDsa}
use Rattle.scripts_ops.specs.declared.values.Op.TheVariants.{Load, Store}
use Rattle.chip_regs.specs.Bytes.{Wide, base_of, held, holding}
use Rattle.chip_step.specs.Event.{Event}
use Rattle.chip_step.specs.Chip.{Chip, Becomes}
use Rattle.chip_step.specs.Step.{ChipStep, after_fetch}
use Rattle.chip_step.specs.declared.outcome.StepEnd.{StepEnd}
use Rattle.driver_script.specs.Script.{instruction}
use Rattle.ownership.specs.Standing.{StandsAt}

-- DSA is a multiple of 4, and the words of a block's head lie in memory from there on
pub record IsHead (dsa : ℕ) : Type 0 where
  pub aligned : dsa % 4 ≡ 0
  pub inside : dsa + 0xE0 ≤ 0x400000

-- a place from DSA on needs it, an absolute one nothing
abbrev pub IsReached : Address → ℕ → Type 0
IsReached (At a) dsa = Unit {0}
IsReached (FromDsa o) dsa = IsHead dsa

-- where LOAD and STORE find their word; the script has no offset below 0
abbrev pub place_from : ℕ → Address → ℕ
place_from dsa (At a) = a
place_from dsa (FromDsa (pos o)) = dsa + o
place_from dsa (FromDsa (negsuc o)) = 0

-- a LOAD goes on with the word in one of the four wide registers
pub record LoadedWord {B : Type 0} (r : ℕ) (place : Address) (old : Chip B) (end : StepEnd) (new : Chip B) : Type 0 where
  pub register : Wide
  pub named : base_of register ≡ r
  pub becomes : Becomes (holding register (word_at old.memory (place_from old.regs.dsa place)) (after_fetch old).regs) (after_fetch old) end new

-- a STORE goes on with the register's word in memory
pub record StoredWord {B : Type 0} (r : ℕ) (place : Address) (old : Chip B) (end : StepEnd) (new : Chip B) : Type 0 where
  pub register : Wide
  pub named : base_of register ≡ r
  pub becomes : Becomes (after_fetch old).regs (record (after_fetch old) { memory = put_word old.memory (place_from old.regs.dsa place) (held register old.regs) }) end new

abbrev pub LoadsWord : {B : Type 0} → (B → Event → B → Type 0) → Type 0
LoadsWord {B} moves =
    (version k word r n : ℕ) (place : Address) (old : Chip B) (end : StepEnd) (new : Chip B) → StandsAt version k old → IsBytes old.memory
    → IsReached place old.regs.dsa → instruction k version ≡ Load r n place → ChipStep moves word old end new → LoadedWord r place old end new

abbrev pub StoresWord : {B : Type 0} → (B → Event → B → Type 0) → Type 0
StoresWord {B} moves =
    (version k word r n : ℕ) (place : Address) (old : Chip B) (end : StepEnd) (new : Chip B) → StandsAt version k old
    → IsReached place old.regs.dsa → instruction k version ≡ Store r n place → ChipStep moves word old end new → StoredWord r place old end new
