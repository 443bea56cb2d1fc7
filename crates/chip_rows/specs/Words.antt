-- LOAD and STORE of four bytes as one word.
use Rattle.std.specs.Prelude.{◌≡◌, ℕ, pos, ◌+◌, ◌%◌, ◌≤◌, List, length, Some}
use Rattle.bench_words.specs.Memory.{word_at, put_word}
use Rattle.bench_words.specs.Bytes.{IsBytes}
use Rattle.scripts_ops.specs.declared.values.Address.{Address}
use Rattle.scripts_ops.specs.declared.values.Address.TheVariants.{At, FromDsa}
use Rattle.chip_regs.specs.Bytes.{Wide, base_of, held, holding}
use Rattle.chip_regs.specs.declared.registers.Regs.{Regs}
use Rattle.chip_step.specs.Chip.{Chip, Becomes}
use Rattle.chip_step.specs.Addresses.{address_of, low_bits}
use Rattle.chip_step.specs.Memory.{filled, stored, Loads, Stores}
use Rattle.chip_step.specs.declared.outcome.StepEnd.{StepEnd}

-- four bytes of memory into a wide register are the word there; four bytes of it into memory are its word
pub record MovesWords : Type 0 where
  pub load : (x : Wide) (memory : List ℕ) (a : ℕ) (r : Regs) → IsBytes memory → filled 4 (base_of x) memory a r ≡ holding x (word_at memory a) r
  pub store : (x : Wide) (memory : List ℕ) (a : ℕ) (r : Regs) → stored 4 (base_of x) memory a r ≡ put_word memory a (held x r)

-- LOAD and STORE find a word of memory here: at a multiple of 4, with its four bytes in memory
pub record IsWordAt (memory : List ℕ) (dsa : ℕ) (place : Address) (a : ℕ) : Type 0 where
  pub low : low_bits dsa place ≡ 0
  pub at : address_of memory dsa place 4 ≡ Some a

pub record FindsWords : Type 0 where
  pub absolute : (memory : List ℕ) (dsa a : ℕ) → a % 4 ≡ 0 → a + 4 ≤ length memory → IsWordAt memory dsa (At a) a
  pub from_dsa : (memory : List ℕ) (dsa o : ℕ) → (dsa + o) % 4 ≡ 0 → dsa + o + 4 ≤ length memory → IsWordAt memory dsa (FromDsa (pos o)) (dsa + o)

-- the rows of LOAD and STORE at such a place, over a type of bus
abbrev pub LoadsWords : Type 0 → Type 0
LoadsWords B =
    (x : Wide) (place : Address) (a : ℕ) (old : Chip B) (end : StepEnd) (new : Chip B) → IsBytes old.memory → IsWordAt old.memory old.regs.dsa place a
    → Loads (base_of x) 4 place old end new → Becomes (holding x (word_at old.memory a) old.regs) old end new

abbrev pub StoresWords : Type 0 → Type 0
StoresWords B =
    (x : Wide) (place : Address) (a : ℕ) (old : Chip B) (end : StepEnd) (new : Chip B) → IsWordAt old.memory old.regs.dsa place a
    → Stores (base_of x) 4 place old end new → Becomes old.regs (record old { memory = put_word old.memory a (held x old.regs) }) end new
