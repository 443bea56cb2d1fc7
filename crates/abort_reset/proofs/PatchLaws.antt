-- What the calls do to the words of memory.
use Rattle.std.proofs.Common.{◌≡◌, ℕ, ◌+◌, ◌*◌, ◌<◌, List, length, ◌∙◌, arith, lit<}
use Rattle.bench_words.specs.Memory.{word_at, put_word}
use Rattle.bench_words.specs.Views.{Wrote, WroteWithin}
use Rattle.bench_words.proofs.MemoryLaws.{length-put_word, wrote-put_word}
use Rattle.host_map.specs.declared.TheConstants.{FRONT, FRONT_IDLE, JOB}
use Rattle.host_map.specs.Places.{IsCommandBlock}
use Rattle.cmd_block.specs.Block.{offset}
use Rattle.cmd_block.specs.declared.Field.TheVariants.{Start, Restart, State, Sel, Gate}
use Rattle.cmd_block.specs.declared.TheConstants.{SWEPT}
use Rattle.driver_script.specs.Script.{label_of}
use Rattle.driver_script.specs.declared.labels.Name.TheVariants as label
use Rattle.abort_reset.specs.Patches.{marked, job_at_front, idle_at_front, swept, Marked, JobAtFront, Swept}

pub marked_is : (m : List ℕ) (block : ℕ) → length m ≡ 0x400000 → IsCommandBlock block → Marked (word_at m) (word_at (marked m block)) block
marked_is m block size is =
    let m1 = put_word m (block + offset Start) (label_of label.Cancel) in
    let s1 = length-put_word m (block + offset Start) (label_of label.Cancel) ∙ size in
    let first = wrote-put_word m (block + offset Start) (label_of label.Cancel) (omega (arith, is.below)) (lit< tt) in
    let second = wrote-put_word m1 (block + offset Restart) (label_of label.Abort) (omega (arith, is.below)) (lit< tt) in
    record {
      start = second.other (block + offset Start) (omega arith) ∙ first.same;
      restart = second.same;
      other = λ a start restart. second.other a restart ∙ first.other a start;
    }

pub swept_is : (m : List ℕ) (block : ℕ) → length m ≡ 0x400000 → IsCommandBlock block → Swept (word_at m) (word_at (swept m block)) block
swept_is m block size is =
    let m1 = put_word m (block + offset State) SWEPT in
    let s1 = length-put_word m (block + offset State) SWEPT ∙ size in
    let first = wrote-put_word m (block + offset State) SWEPT (omega (arith, is.below)) (lit< tt) in
    let second = wrote-put_word m1 (block + offset Gate) (label_of label.Badtask) (omega (arith, is.below)) (lit< tt) in
    record {
      state = second.other (block + offset State) (omega arith) ∙ first.same;
      gate = second.same;
      other = λ a state gate. second.other a gate ∙ first.other a state;
    }

pub job_at_front_is : (m : List ℕ) (target : ℕ) → length m ≡ 0x400000 → target < 256 → JobAtFront (word_at m) (word_at (job_at_front m target)) target
job_at_front_is m target size fits =
    let m1 = put_word m (JOB + offset Sel) (target * 0x10000) in
    let s1 = length-put_word m (JOB + offset Sel) (target * 0x10000) ∙ size in
    let first = wrote-put_word m (JOB + offset Sel) (target * 0x10000) (omega arith) (omega arith) in
    let second = wrote-put_word m1 FRONT JOB (omega arith) (lit< tt) in
    record {
      sel = second.other (JOB + offset Sel) (omega arith) ∙ first.same;
      front = second.same;
      other = λ a sel front. second.other a front ∙ first.other a sel;
    }

pub idle_at_front_is : (m : List ℕ) → length m ≡ 0x400000 → Wrote (word_at m) (word_at (idle_at_front m)) FRONT FRONT_IDLE
idle_at_front_is m size = wrote-put_word m FRONT FRONT_IDLE (omega arith) (lit< tt)

-- a command is marked and swept in its block alone
pub marked-within : (w n : ℕ → ℕ) (block : ℕ) → Marked w n block → WroteWithin w n (block + offset Start) (block + offset Restart + 4)
marked-within w n block is = record { other = λ a out. is.other a (omega arith) (omega arith) }

pub swept-within : (w n : ℕ → ℕ) (block : ℕ) → Swept w n block → WroteWithin w n (block + offset State) (block + offset Gate + 4)
swept-within w n block is = record { other = λ a out. is.other a (omega arith) (omega arith) }
