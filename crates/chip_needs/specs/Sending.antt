-- Where only units that break the rules are connected, or nothing is. Source: own.
use Rattle.std.specs.Prelude.{◌≡◌, ℕ, List, [], ◌∷◌, ◌++◌, Some}
use Rattle.rig_types.specs.declared.step.Step.TheVariants as step
use Rattle.target_law.specs.Target.{ConnectionState, BusFree, RogueConnected}
use Rattle.bus_law.specs.Bus.{BusState}
use Rattle.bus_events.specs.Targets.{targets}
use Rattle.ticket_fate.specs.Tickets.{Plan}
use Rattle.world_law.specs.Opening.{opened}
use Rattle.world_law.specs.Runs.{Moment, Steps, IsRun, last}
use Rattle.world_law.specs.World.{BenchSetting, IsBenchSetting}
use Rattle.word_owners.specs.Worlds.{HasBytes}
use Rattle.run_joined.specs.JoinedRuns.{IsJoinedRun}

-- units that break the rules, or nothing
abbrev pub IsRogueOrFree : ConnectionState → Type 0
IsRogueOrFree (RogueConnected s n) = Unit {0}
IsRogueOrFree BusFree = Unit {0}
IsRogueOrFree l = ⊥

-- no target that keeps the rules is connected
abbrev pub NoneOfRules : BusState → Type 0
NoneOfRules b = (i : ℕ) → b.connected ≡ Some i → IsRogueOrFree (targets b i).link

-- then a step of the chip leaves a run joined that was so, at every address
abbrev pub RogueStepsJoin : Type 0
RogueStepsJoin =
    (g : BenchSetting) → IsBenchSetting g → HasBytes g → (p : Plan) (ms : List Moment) (m : Moment) (word : ℕ) → IsRun g (opened g) ms → Steps g (last (opened g) ms) m → m.entry.step ≡ step.Chip word
    → NoneOfRules (last (opened g) ms).bus → IsJoinedRun g p ms → IsJoinedRun g p (ms ++ m ∷ [])
