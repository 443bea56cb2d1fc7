-- The chip is woken where there is work: the wake rule.
use Rattle.std.specs.Prelude.{◌≡◌, ◌≢◌, ◌⊎◌, ℕ, ◌<◌, ◌==◌, ◌&&◌, ◌||◌, nat_le, Bool, true, false, List}
use Rattle.bench_words.specs.Memory.{word_at}
use Rattle.host_map.specs.declared.TheConstants.{RINGP, IDLE, FRONT_IDLE}
use Rattle.driver_script.specs.Script.{label_of}
use Rattle.driver_script.specs.declared.labels.Name.TheVariants as label
use Rattle.desk_law.specs.Desk.{due}
use Rattle.world_law.specs.World.{BenchSetting, IsBenchSetting, World, front}
use Rattle.world_law.specs.Opening.{opened}
use Rattle.world_law.specs.Runs.{Moment, IsRun, last}
use Rattle.world_law.specs.declared.reply.Stop.TheVariants.{Run}
use Rattle.word_owners.specs.Worlds.{HasBytes}

-- The chip goes on to WAIT RESELECT at 0x048, and doesn't read the start slot at RINGP before: it has found the slot idle.
abbrev pub passed_slot : (dsp dsa temp : ℕ) → Bool
passed_slot dsp dsa temp = (dsp == 0x038 && dsa == IDLE) || ((dsp == 0x040 && temp == label_of label.Waitr) || dsp == 0x048)

-- nor does it read FRONT: it has found the idle block there, and is on its way to the slot, or has passed it too
abbrev pub passed_front : (dsp dsa temp : ℕ) → Bool
passed_front dsp dsa temp =
    (dsp == 0x010 && dsa == FRONT_IDLE) || ((dsp == 0x018 && temp == label_of label.Ring) || ((nat_le 0x020 dsp && nat_le dsp 0x030) || passed_slot dsp dsa temp))

-- a signal is due, or SIGP is set
abbrev pub IsCalled : World → Type 0
IsCalled w = ((caller : ℕ) × (0 < due w.desk caller)) ⊎ (w.regs.sigp ≡ true)

-- a word of work comes to the chip: it is called, or stands in a stop, or hasn't passed the word
abbrev pub IsWoken : World → (passed : Bool) → Type 0
IsWoken w passed = IsCalled w ⊎ (w.stop ≢ Run) ⊎ (passed ≡ false)

-- where FRONT isn't idle, and where the start slot at RINGP isn't
pub record Wakes (w : World) : Type 0 where
  pub front : front w ≢ FRONT_IDLE → IsWoken w (passed_front w.regs.dsp w.regs.dsa w.regs.temp)
  pub slot : word_at w.memory (word_at w.memory RINGP) ≢ IDLE → IsWoken w (passed_slot w.regs.dsp w.regs.dsa w.regs.temp)

-- in every world of every run
abbrev pub RunsWake : Type 0
RunsWake = (g : BenchSetting) → IsBenchSetting g → HasBytes g → (moments : List Moment) → IsRun g (opened g) moments → Wakes (last (opened g) moments)
