-- The words of a live ticket's block that no step changes but an abort of the ticket and its Sense. Source: own.
use Rattle.std.specs.Prelude.{◌≡◌, ◌⊎◌, ℕ, ◌+◌, ◌≤◌, true, List, slice_get}
use Rattle.bench_words.specs.Memory.{word_at}
use Rattle.rig_types.specs.declared.step.Step.{Step}
use Rattle.rig_types.specs.declared.step.Step.TheVariants as step
use Rattle.cmd_block.specs.Block.{offset}
use Rattle.cmd_block.specs.declared.Field.TheVariants.{Lastp, Sel, Gate, MsgCount, CtxCount}
use Rattle.cmd_block.specs.declared.TheConstants.{MESSAGE, SENSE}
use Rattle.desk_law.specs.Desk.{ticket, lives}
use Rattle.run_law.specs.Changes.{has_kind, is_abort_of}
use Rattle.world_law.specs.Opening.{opened}
use Rattle.world_law.specs.Runs.{Moment, Steps, IsRun, last}
use Rattle.world_law.specs.World.{BenchSetting, IsBenchSetting, World}
use Rattle.word_owners.specs.Worlds.{HasBytes}

-- a word at an offset in a block beside the pointers, STATE, STATUS, GATE, the contexts and the sense area: START and RESTART, SEL, the entries of
-- message, command, status and segments, the message and the command
abbrev pub IsKept : ℕ → Type 0
IsKept o =
    (o + 4 ≤ offset Lastp) ⊎ (((offset Sel ≤ o) × (o + 4 ≤ offset Gate)) ⊎ (((offset MsgCount ≤ o) × (o + 4 ≤ offset (CtxCount 0))) ⊎ ((MESSAGE ≤ o) × (o + 4 ≤ SENSE))))

-- the word of a ticket's block at an offset
abbrev pub word_of : World → (t o : ℕ) → ℕ
word_of w t o = word_at w.memory ((ticket w.desk t).block + o)

-- an abort of the ticket may change START and RESTART, its Sense the block
abbrev pub MayChange : BenchSetting → World → Step → (t o : ℕ) → Type 0
MayChange g w (step.Act k) t o = (has_kind (is_abort_of t w) (slice_get g.acts k) ≡ true) × (o + 4 ≤ offset Lastp)
MayChange g w (step.Sense x) t o = x ≡ t
MayChange g w _ t o = ⊥

-- no other step changes such a word of a live ticket's block, in every world of every run
abbrev pub WordsStay : Type 0
WordsStay =
    (g : BenchSetting) → IsBenchSetting g → HasBytes g → (ms : List Moment) → IsRun g (opened g) ms → (m : Moment) → Steps g (last (opened g) ms) m → (t o : ℕ) → lives (ticket (last (opened g) ms).desk t) ≡ true → IsKept o
    → MayChange g (last (opened g) ms) m.entry.step t o ⊎ (word_of m.after t o ≡ word_of (last (opened g) ms) t o)
