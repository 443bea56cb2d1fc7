-- Where the chip holds ATN asserted, in every world of a run. Source: own.
use Rattle.std.specs.Prelude.{◌≡◌, ℕ, ◌+◌, ◌==◌, ◌&&◌, ◌||◌, nat_le, Bool, true, List}
use Rattle.driver_script.specs.Script.{label_of}
use Rattle.driver_script.specs.declared.labels.Name.TheVariants as label
use Rattle.world_law.specs.Opening.{opened}
use Rattle.world_law.specs.Runs.{Moment, IsRun, last}
use Rattle.world_law.specs.World.{BenchSetting, IsBenchSetting}
use Rattle.world_law.specs.declared.reply.Stop.TheVariants.{Run}
use Rattle.word_owners.specs.Worlds.{HasBytes}

-- behind a selection up to the message: of SELECT from 0x068 to 0x080, of SENSE from 0x448 to 0x458, of RESETJOB at 0x2A0; and behind SET ATN of ABORT
abbrev pub asserts_atn : (dsp : ℕ) → Bool
asserts_atn dsp =
    (nat_le (label_of label.Select + 0x08) dsp && nat_le dsp 0x080)
    || ((nat_le (label_of label.Sense + 0x08) dsp && nat_le dsp 0x458) || (dsp == 0x2A0 || (dsp == label_of label.Abort + 0x08 || dsp == label_of label.Abort + 0x10)))

-- where the chip runs, ATN is asserted only there
abbrev pub AttentionIsTold : Type 0
AttentionIsTold =
    (g : BenchSetting) → IsBenchSetting g → HasBytes g → (ms : List Moment) → IsRun g (opened g) ms → (last (opened g) ms).stop ≡ Run → (last (opened g) ms).bus.atn ≡ true
    → asserts_atn (last (opened g) ms).regs.dsp ≡ true
