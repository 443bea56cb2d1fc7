-- The words of the command line.
use Rattle.std.specs.Prelude.{◌≡◌, ◌≢◌, ℕ, ◌<◌, ◌≤◌, ◌^◌, List, [], ◌∷◌, length, slice_index, codes}
use Rattle.std.specs.Fmt.{decimal}

-- a word is the decimal of a number that fits 32 bits: no sign, no blank, no leading zero
pub record IsNumber (word : List ℕ) (n : ℕ) : Type 0 where
  pub is : word ≡ decimal n
  pub fits : n < 2 ^ 32

-- a word that begins as such a number may: with no sign, and with 0 only alone
pub record IsPlain (word : List ℕ) : Type 0 where
  pub some : 0 < length word
  pub unsigned : slice_index word 0 ≢ 43
  pub no_zeros : slice_index word 0 ≡ 48 → length word ≡ 1

-- the most commands that `load` takes
abbrev pub most_commands : ℕ
most_commands = 2000

-- a command with its words
pub data Command : Type 0 where
  one : (lba : ℕ) → Command
  asm : (file out : List ℕ) → Command
  list : (file : List ℕ) → Command
  step : (rig work : List ℕ) (seed : ℕ) (trace : List ℕ) → Command
  replay : (rig work trace : List ℕ) → Command
  load : (count seed : ℕ) → Command

-- these words, after the program's own name, are the command's
abbrev pub Spells : List (List ℕ) → Command → Type 0
Spells words (one lba) = (word : List ℕ) × (words ≡ codes "one" ∷ word ∷ []) × IsNumber word lba
Spells words (asm file out) = words ≡ codes "asm" ∷ file ∷ out ∷ []
Spells words (list file) = words ≡ codes "list" ∷ file ∷ []
Spells words (step rig work seed trace) = (word : List ℕ) × (words ≡ codes "step" ∷ rig ∷ work ∷ word ∷ trace ∷ []) × IsNumber word seed
Spells words (replay rig work trace) = words ≡ codes "replay" ∷ rig ∷ work ∷ trace ∷ []
Spells words (load count seed) =
    (first : List ℕ) × (second : List ℕ) × (words ≡ codes "load" ∷ first ∷ second ∷ []) × IsNumber first count × (count ≤ most_commands) × IsNumber second seed
