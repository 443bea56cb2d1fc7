-- The block of a ticket that has its outcome, and the buffer of each ticket that isn't with the chip: no step changes them. Source: own.
use Rattle.std.specs.Prelude.{◌≡◌, ◌≢◌, ℕ, ◌+◌, ◌≤◌, true, List}
use Rattle.desk_law.specs.declared.stage.Stage.{Stage}
use Rattle.desk_law.specs.declared.stage.Stage.TheVariants.{Queued, Ended, Unlinked}
use Rattle.desk_law.specs.Blocks.{buffer}
use Rattle.desk_law.specs.Desk.{ticket, lives}
use Rattle.world_law.specs.Opening.{opened}
use Rattle.world_law.specs.Runs.{Moment, Steps, IsRun, last}
use Rattle.world_law.specs.World.{BenchSetting, IsBenchSetting}
use Rattle.word_owners.specs.Worlds.{HasBytes}
use Rattle.block_words.specs.KeptWords.{word_of}

-- a ticket has its outcome, and is not yet freed
abbrev pub IsEndedOrUnlinked : Stage → Type 0
IsEndedOrUnlinked (Ended o) = Unit {0}
IsEndedOrUnlinked Unlinked = Unit {0}
IsEndedOrUnlinked s = ⊥

-- no step changes a word of the block of such a ticket, its sense area with it, in every world of every run
abbrev pub EndedBlocksStay : Type 0
EndedBlocksStay =
    (g : BenchSetting) → IsBenchSetting g → HasBytes g → (ms : List Moment) → IsRun g (opened g) ms → (m : Moment) → Steps g (last (opened g) ms) m → (t o : ℕ) → IsEndedOrUnlinked (ticket (last (opened g) ms).desk t).stage → o + 4 ≤ 0x200
    → word_of m.after t o ≡ word_of (last (opened g) ms) t o

-- nor the bytes of the buffer of a live ticket that isn't Queued; while its sense is asked for it moves only its sense area
abbrev pub BuffersStay : Type 0
BuffersStay =
    (g : BenchSetting) → IsBenchSetting g → HasBytes g → (ms : List Moment) → IsRun g (opened g) ms → (m : Moment) → Steps g (last (opened g) ms) m → (t : ℕ) → lives (ticket (last (opened g) ms).desk t) ≡ true
    → (ticket (last (opened g) ms).desk t).stage ≢ Queued → buffer m.after.memory (ticket m.after.desk t) ≡ buffer (last (opened g) ms).memory (ticket (last (opened g) ms).desk t)
