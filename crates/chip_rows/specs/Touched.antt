-- Which addresses a step of the chip reads and which it writes (own).
use Rattle.std.specs.Prelude.{ℕ, ◌+◌, ◌-◌, ◌%◌, ◌<◌, ◌≤◌, nat_eq, if◌then◌else◌, Bool, true, false, List, [], ◌∷◌, ◌++◌, Option, Some, None, ◌⊎◌}
use Rattle.bench_words.specs.Memory.{word_at}
use Rattle.scripts_ops.specs.declared.values.Op.{Op}
use Rattle.scripts_ops.specs.declared.values.Op.TheVariants.{Move, MoveFrom, Select, MoveMemory, Load, Store}
use Rattle.chip_step.specs.Addresses.{place_of, address_of}
use Rattle.chip_step.specs.Chip.{Chip}
use Rattle.chip_step.specs.Step.{len_of}

-- so many addresses from one on
pub record Range : Type 0 where
  pub from : ℕ
  pub len : ℕ

abbrev pub range : ℕ → ℕ → List Range
range from len = record { from = from; len = len } ∷ []

-- the address lies in one of the ranges
abbrev pub IsIn : List Range → ℕ → Type 0
IsIn [] x = ⊥
IsIn (r ∷ rs) x = ((r.from ≤ x) × (x < r.from + r.len)) ⊎ IsIn rs x

-- so many bytes at a place; no address where they don't all lie in memory
abbrev pub range_at : Option ℕ → ℕ → List Range
range_at None len = []
range_at (Some a) len = range a len

-- the count and the address of a block move: those that it names, or those of a table entry that lies in memory
pub record Block : Type 0 where
  pub count : ℕ
  pub address : ℕ

abbrev pub entry_of : List ℕ → Option ℕ → Option Block
entry_of memory None = None
entry_of memory (Some e) = Some (record { count = word_at memory e % 16777216; address = word_at memory (e + 4) })

abbrev pub block_of : {B : Type 0} → Op → Chip B → Option Block
block_of (Move n a phase) chip = Some (record { count = n; address = a })
block_of (MoveFrom o phase) chip = entry_of chip.memory (place_of chip.memory chip.regs.dsa o 8)
block_of _ chip = None

-- The odd phases write the bytes that came. The even ones read the bytes that went, and where some are left the next,
-- which the target didn't take.
abbrev pub is_in : ℕ → Bool
is_in phase = nat_eq (phase % 2) 1

abbrev pub came : Bool → (left : ℕ) → Block → List Range
came true left b = range b.address (b.count - left)
came false left b = []

abbrev pub untaken : (left : ℕ) → ℕ
untaken left = if nat_eq left 0 then 0 else 1

abbrev pub went : Bool → (left : ℕ) → Block → List Range
went true left b = []
went false left b = range b.address (b.count - left + untaken left)

abbrev pub of_block : (Block → List Range) → Option Block → List Range
of_block ranges None = []
of_block ranges (Some b) = ranges b

-- what an instruction writes, which leaves so much in DBC
abbrev pub writes : {B : Type 0} → Op → Chip B → (left : ℕ) → List Range
writes (Move n a phase) chip left = of_block (came (is_in phase) left) (block_of (Move n a phase) chip)
writes (MoveFrom o phase) chip left = of_block (came (is_in phase) left) (block_of (MoveFrom o phase) chip)
writes (MoveMemory n s t) chip left = range t n
writes (Store r n place) chip left = range_at (address_of chip.memory chip.regs.dsa place n) n
writes _ chip left = []

-- what it reads beside its own words
abbrev pub reads : {B : Type 0} → Op → Chip B → (left : ℕ) → List Range
reads (Move n a phase) chip left = of_block (went (is_in phase) left) (block_of (Move n a phase) chip)
reads (MoveFrom o phase) chip left =
    range_at (place_of chip.memory chip.regs.dsa o 8) 8 ++ of_block (went (is_in phase) left) (block_of (MoveFrom o phase) chip)
reads (Select o alternate) chip left = range_at (place_of chip.memory chip.regs.dsa o 4) 4
reads (MoveMemory n s t) chip left = range s n
reads (Load r n place) chip left = range_at (address_of chip.memory chip.regs.dsa place n) n
reads _ chip left = []

-- its own words
abbrev pub fetches : {B : Type 0} → Chip B → List Range
fetches chip = range chip.regs.dsp (len_of (word_at chip.memory chip.regs.dsp))

-- all that the instruction at DSP reads or writes, which leaves so much in DBC
abbrev pub touched : {B : Type 0} → Op → Chip B → (left : ℕ) → List Range
touched op chip left = fetches chip ++ reads op chip left ++ writes op chip left
