-- The step of the chip that sends the message behind a selection. Source: own; the message is SCSI-2's, 6.6.7 IDENTIFY and 6.6.17.3 SIMPLE QUEUE TAG.
use Rattle.std.specs.Prelude.{◌≡◌, ℕ, List, [], ◌∷◌, ◌++◌}
use Rattle.rig_types.specs.declared.step.Step.TheVariants as step
use Rattle.ticket_fate.specs.Tickets.{Plan}
use Rattle.world_law.specs.Opening.{opened}
use Rattle.world_law.specs.Runs.{Moment, Steps, IsRun, last}
use Rattle.world_law.specs.World.{BenchSetting, IsBenchSetting}
use Rattle.word_owners.specs.Worlds.{HasBytes}
use Rattle.run_joined.specs.JoinedRuns.{IsJoinedRun}

-- it leaves a run joined that was so, whatever is connected
abbrev pub MessageStepsJoin : Type 0
MessageStepsJoin =
    (g : BenchSetting) → IsBenchSetting g → HasBytes g → (p : Plan) (ms : List Moment) (m : Moment) (word : ℕ) → IsRun g (opened g) ms → Steps g (last (opened g) ms) m → m.entry.step ≡ step.Chip word
    → (last (opened g) ms).regs.dsp ≡ 0x080 → IsJoinedRun g p ms → IsJoinedRun g p (ms ++ m ∷ [])
