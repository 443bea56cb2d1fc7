-- The words that aborts and resets write (own).
use Rattle.std.specs.Prelude.{◌≡◌, ◌⊎◌, ℕ, ◌+◌, ◌*◌, ◌≤◌, List}
use Rattle.bench_words.specs.Memory.{put_word}
use Rattle.bench_words.specs.Views.{Apart}
use Rattle.host_map.specs.declared.TheConstants.{FRONT, FRONT_IDLE, JOB}
use Rattle.cmd_block.specs.Block.{offset}
use Rattle.cmd_block.specs.declared.Field.TheVariants.{Start, Restart, State, Sel, Gate}
use Rattle.cmd_block.specs.declared.TheConstants.{SWEPT}
use Rattle.driver_script.specs.Script.{label_of}
use Rattle.driver_script.specs.declared.labels.Name.TheVariants as label

-- START becomes CANCEL, and RESTART becomes ABORT
abbrev pub marked : List ℕ → ℕ → List ℕ
marked m block = put_word (put_word m (block + offset Start) (label_of label.Cancel)) (block + offset Restart) (label_of label.Abort)

-- JOB's SEL has the target in bits 23 to 16, and FRONT is JOB
abbrev pub job_at_front : List ℕ → ℕ → List ℕ
job_at_front m target = put_word (put_word m (JOB + offset Sel) (target * 0x10000)) FRONT JOB

abbrev pub idle_at_front : List ℕ → List ℕ
idle_at_front m = put_word m FRONT FRONT_IDLE

-- STATE becomes 4, and GATE becomes BADTASK
abbrev pub swept : List ℕ → ℕ → List ℕ
swept m block = put_word (put_word m (block + offset State) SWEPT) (block + offset Gate) (label_of label.Badtask)

-- The same by words: which words have which values, and that every word apart from them is as before.
pub record Marked (old new : ℕ → ℕ) (block : ℕ) : Type 0 where
  pub start : new (block + offset Start) ≡ label_of label.Cancel
  pub restart : new (block + offset Restart) ≡ label_of label.Abort
  pub other : (a : ℕ) → Apart (block + offset Start) a → Apart (block + offset Restart) a → new a ≡ old a

pub record JobAtFront (old new : ℕ → ℕ) (target : ℕ) : Type 0 where
  pub sel : new (JOB + offset Sel) ≡ target * 0x10000
  pub front : new FRONT ≡ JOB
  pub other : (a : ℕ) → Apart (JOB + offset Sel) a → Apart FRONT a → new a ≡ old a

pub record Swept (old new : ℕ → ℕ) (block : ℕ) : Type 0 where
  pub state : new (block + offset State) ≡ SWEPT
  pub gate : new (block + offset Gate) ≡ label_of label.Badtask
  pub other : (a : ℕ) → Apart (block + offset State) a → Apart (block + offset Gate) a → new a ≡ old a

-- from TAIL to the jump behind PUT, or DROPPED
abbrev pub InTail : ℕ → Type 0
InTail dsp = ((label_of label.Tail ≤ dsp) × (dsp ≤ 0x270)) ⊎ (dsp ≡ label_of label.Dropped)
