-- What is connected behind a selection, while the message to it isn't sent. Source: own.
use Rattle.std.specs.Prelude.{◌≡◌, ◌≢◌, ℕ, ◌+◌, ◌==◌, ◌&&◌, ◌||◌, nat_le, Bool, true, List, [], Some}
use Rattle.driver_script.specs.Script.{label_of}
use Rattle.driver_script.specs.declared.labels.Name.TheVariants as label
use Rattle.target_law.specs.Target as connection_state
use Rattle.target_law.specs.Target.{ConnectionState, BusFree, RogueConnected}
use Rattle.bus_law.specs.Bus.{BusState}
use Rattle.bus_events.specs.Targets.{targets}
use Rattle.world_law.specs.Opening.{opened}
use Rattle.world_law.specs.Runs.{Moment, IsRun, last}
use Rattle.world_law.specs.World.{BenchSetting, IsBenchSetting}
use Rattle.world_law.specs.declared.reply.Stop.TheVariants.{Run}
use Rattle.word_owners.specs.Worlds.{HasBytes}

-- a target that was selected and heard nothing yet, units that break the rules, or nothing
abbrev pub IsGreeted : ConnectionState → Type 0
IsGreeted (connection_state.Selected heard) = heard ≡ []
IsGreeted (RogueConnected s n) = Unit {0}
IsGreeted BusFree = Unit {0}
IsGreeted l = ⊥

abbrev pub AreGreeted : BusState → Type 0
AreGreeted b = (i : ℕ) → b.connected ≡ Some i → IsGreeted (targets b i).link

-- where the chip runs with ATN asserted, but at the two addresses behind SET ATN of an abort
abbrev pub GreetingsAreTold : Type 0
GreetingsAreTold =
    (g : BenchSetting) → IsBenchSetting g → HasBytes g → (ms : List Moment) → IsRun g (opened g) ms → (last (opened g) ms).stop ≡ Run → (last (opened g) ms).bus.atn ≡ true
    → (last (opened g) ms).regs.dsp ≢ 0x280 → (last (opened g) ms).regs.dsp ≢ 0x288 → AreGreeted (last (opened g) ms).bus

-- behind a selection, up to the message to the target: of SELECT, of SENSE and of RESETJOB
abbrev pub is_behind_selection : (dsp : ℕ) → Bool
is_behind_selection dsp =
    (nat_le (label_of label.Select + 0x08) dsp && nat_le dsp 0x080) || ((nat_le (label_of label.Sense + 0x08) dsp && nat_le dsp 0x458) || dsp == 0x2A0)

-- where the chip runs at such an address, with ATN asserted or not
abbrev pub SelectionsAreGreeted : Type 0
SelectionsAreGreeted =
    (g : BenchSetting) → IsBenchSetting g → HasBytes g → (ms : List Moment) → IsRun g (opened g) ms → (last (opened g) ms).stop ≡ Run → is_behind_selection (last (opened g) ms).regs.dsp ≡ true
    → AreGreeted (last (opened g) ms).bus
