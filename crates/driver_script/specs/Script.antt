-- The driver script: its labels, instructions and words, and memory that holds it (own).
use Rattle.std.specs.Prelude.{◌≡◌, ℕ, ◌*◌, ◌/◌, ◌%◌, ◌<◌, ◌⊎◌, zero, suc, List, slice_index, slice_index_or, nat_eq, ◌&&◌, if◌then◌else◌}
use Rattle.bench_words.specs.Memory.{put_word}
use Rattle.scripts_ops.specs.Table.{words_of}
use Rattle.scripts_ops.specs.declared.values.Op.{Op}
use Rattle.scripts_ops.specs.declared.values.Op.TheVariants.{Jump, Nop}
use Rattle.scripts_ops.specs.declared.values.Condition.TheVariants.{Always}
use Rattle.driver_script.specs.declared.script.TheConstants.{SCRIPT}
use Rattle.driver_script.specs.declared.labels.Name.{Name}
use Rattle.driver_script.specs.declared.labels.Name.TheVariants.{Start, Ring, Waitr, Reselect, Select, Dispatch, Data, Status, Msg, Save, Restore, Leave, Tag, Open, Badtask, Complete, Tail, Aborted, Cancel, Cut, Notarget, Put, Abort, Dropped, Resetjob, Over, Datain, Indone, Dataout, Allmoved, Pmin0, Pmin1, Pmout0, Pmout1, Sense}

-- the address of each label
abbrev pub label_of : Name → ℕ
label_of Start = 0x000
label_of Ring = 0x020
label_of Waitr = 0x048
label_of Reselect = 0x050
label_of Select = 0x060
label_of Dispatch = 0x090
label_of Data = 0x0B8
label_of Status = 0x0C8
label_of Msg = 0x0D8
label_of Save = 0x108
label_of Restore = 0x128
label_of Leave = 0x148
label_of Tag = 0x160
label_of Open = 0x1B0
label_of Badtask = 0x1C0
label_of Complete = 0x1C8
label_of Tail = 0x1D0
label_of Aborted = 0x1E8
label_of Cancel = 0x1F8
label_of Cut = 0x200
label_of Notarget = 0x210
label_of Put = 0x220
label_of Abort = 0x278
label_of Dropped = 0x290
label_of Resetjob = 0x298
label_of Over = 0x2B8
label_of Datain = 0x2C0
label_of Indone = 0x340
label_of Dataout = 0x348
label_of Allmoved = 0x3C8
label_of Pmin0 = 0x3E0
label_of Pmin1 = 0x3F8
label_of Pmout0 = 0x410
label_of Pmout1 = 0x428
label_of Sense = 0x440

abbrev pub IsVersion : ℕ → Type 0
IsVersion version = (version ≡ 1) ⊎ (version ≡ 2)

-- Instruction k, below 151, lies at 8k. In version 2 the one at 188 goes to the part that finds the tag's table.
unfoldable pub instruction : ℕ → ℕ → Op
instruction k version =
    if nat_eq k 0x31 && nat_eq version 2 then Jump Always 0x460 else slice_index_or SCRIPT k Nop

-- word n of the script, below 302, lies at 4n
unfoldable pub image : ℕ → ℕ → ℕ
image n version = slice_index (words_of (instruction (n / 2) version)) (n % 2)

-- memory with the first n words of the script at 0
unfoldable pub laid : List ℕ → ℕ → ℕ → List ℕ
laid memory version zero = memory
laid memory version (suc n) = put_word (laid memory version n) (4 * n) (image n version)

-- the script lies at 0 in memory that is seen by words
pub record IsLoaded (view : ℕ → ℕ) (version : ℕ) : Type 0 where
  pub at : (n : ℕ) → n < 302 → view (4 * n) ≡ image n version
