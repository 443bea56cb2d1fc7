-- The grammar of a trace, as a spelling: which bytes each line has, and which line of a text is the first outside it.
-- Own: the format is this project's.
use Rattle.std.specs.Prelude.{◌≡◌, ◌≢◌, ◌⊎◌, length, ℕ, ◌+◌, ◌/◌, ◌%◌, ◌^◌, ◌<◌, nat_lt, List, [], ◌∷◌, ◌++◌, codes, Option, Some, None, unwrap_or, if◌then◌else◌}
use Rattle.std.specs.List.{flat_map, AllByRecursion}
use Rattle.std.specs.Fmt.{decimal}
use Rattle.trace_text.specs.declared.types.TraceFault.{TraceFault}
use Rattle.trace_text.specs.declared.types.TraceFault.TheVariants.{Line, OutOfMemory}
use Rattle.rig_types.specs.declared.step.Step.{Step}
use Rattle.rig_types.specs.declared.step.Step.TheVariants.{Build, Link, Queue, Signal, Chip, Fix, Sweep, Restart, TakeDone, Unlink, Free, Act, ResetBus, Sense}
use Rattle.rig_types.specs.declared.step.Entry.{Entry}
use Rattle.trace_text.specs.declared.types.TraceLine.{TraceLine}

-- ---- numbers

-- a hexadecimal digit, in lower case
abbrev pub hex_digit : ℕ → ℕ
hex_digit n = if nat_lt n 10 then 48 + n else 87 + n

-- the eight hexadecimal digits of a word
abbrev pub hex_8 : ℕ → List ℕ
hex_8 w =
    hex_digit (w / 0x10000000 % 16) ∷ hex_digit (w / 0x1000000 % 16) ∷ hex_digit (w / 0x100000 % 16) ∷ hex_digit (w / 0x10000 % 16)
    ∷ hex_digit (w / 0x1000 % 16) ∷ hex_digit (w / 0x100 % 16) ∷ hex_digit (w / 0x10 % 16) ∷ hex_digit (w % 16) ∷ []

-- ---- lines

-- The line of a step, without its line feed. `decimal` writes no leading zero. A caller is written in the line of a Signal;
-- that of a Build is its submitter.
abbrev pub step_text : Step → ℕ → List ℕ
step_text (Build l) caller = codes "b " ++ decimal l.submitter ++ codes " " ++ decimal l.number
step_text (Link t) caller = codes "l " ++ decimal t
step_text (Queue t) caller = codes "q " ++ decimal t
step_text Signal caller = codes "s " ++ decimal caller
step_text (Chip w) caller = codes "c " ++ hex_8 w
step_text Fix caller = codes "f"
step_text (Sweep t) caller = codes "w " ++ decimal t
step_text Restart caller = codes "r"
step_text TakeDone caller = codes "d"
step_text (Unlink t) caller = codes "u " ++ decimal t
step_text (Free t) caller = codes "e " ++ decimal t
step_text (Act k) caller = codes "a " ++ decimal k
step_text ResetBus caller = codes "z"
step_text (Sense t) caller = codes "n " ++ decimal t

-- the caller that a step's line gives, where the step was made by this caller
abbrev pub line_caller : Step → ℕ → Option ℕ
line_caller (Build l) caller = Some l.submitter
line_caller Signal caller = Some caller
line_caller _ caller = None

-- the line of an entry
abbrev pub line_of : Entry → TraceLine
line_of e = record { step = e.step; caller = line_caller e.step e.caller }

-- the numbers of a step fit: 16 bits for a submitter, 32 for any other
abbrev pub StepFits : Step → Type 0
StepFits (Build l) = (l.submitter < 2 ^ 16) × (l.number < 2 ^ 32)
StepFits (Link t) = t < 2 ^ 32
StepFits (Queue t) = t < 2 ^ 32
StepFits (Chip w) = w < 2 ^ 32
StepFits (Sweep t) = t < 2 ^ 32
StepFits (Unlink t) = t < 2 ^ 32
StepFits (Free t) = t < 2 ^ 32
StepFits (Act k) = k < 2 ^ 32
StepFits (Sense t) = t < 2 ^ 32
StepFits _ = Unit {0}

-- a line of the grammar: its numbers fit, and it has a caller exactly where it gives one
pub record IsLine (l : TraceLine) : Type 0 where
  pub fits : StepFits l.step
  pub caller : l.caller ≡ line_caller l.step (unwrap_or l.caller 0)
  pub small : unwrap_or l.caller 0 < 2 ^ 32

-- each of these is a line of the grammar
abbrev pub AreLines : List TraceLine → Type 0
AreLines ls = AllByRecursion IsLine ls

-- a line with its line feed
abbrev pub line_text : TraceLine → List ℕ
line_text l = step_text l.step (unwrap_or l.caller 0) ++ 10 ∷ []

-- ---- texts

-- the first line of a trace of a version, with its line feed
abbrev pub first_line : ℕ → List ℕ
first_line version = codes "sym-trace " ++ decimal version ++ 10 ∷ []

-- the text of a trace
abbrev pub trace_of : ℕ → List TraceLine → List ℕ
trace_of version ls = first_line version ++ flat_map line_text ls

-- these bytes are the trace of these lines, each a line of the grammar, in this version
pub record IsTrace (version : ℕ) (bytes : List ℕ) (ls : List TraceLine) : Type 0 where
  pub lines : AreLines ls
  pub text : bytes ≡ trace_of version ls

-- these bytes begin with no line of the grammar
abbrev pub BeginsWithNoLine : List ℕ → Type 0
BeginsWithNoLine rest = (l : TraceLine) (more : List ℕ) → IsLine l → rest ≢ line_text l ++ more

-- The first line outside the grammar is the n-th, from 1. It is line 1 where the text doesn't begin with the first line.
-- Otherwise the text begins with the lines before it and goes on, and what follows begins with no line of the grammar.
abbrev pub IsFirstFault : ℕ → List ℕ → ℕ → Type 0
IsFirstFault version bytes n =
    ((n ≡ 1) × ((rest : List ℕ) → bytes ≢ first_line version ++ rest))
    ⊎ ((ls : List TraceLine) × (rest : List ℕ) × AreLines ls × (bytes ≡ trace_of version ls ++ rest) × (rest ≢ []) × (n ≡ length ls + 2)
    × BeginsWithNoLine rest)

-- a line that is refused is the first outside the grammar; want of memory says nothing of the text
abbrev pub IsFaultOf : ℕ → List ℕ → TraceFault → Type 0
IsFaultOf version bytes (Line n) = IsFirstFault version bytes n
IsFaultOf version bytes OutOfMemory = Unit {0}
