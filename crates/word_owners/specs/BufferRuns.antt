-- The buffers in every world of a run.
use Rattle.std.specs.Prelude.{◌≡◌, ◌≢◌, ℕ, ◌≤◌, List, slice_index}
use Rattle.bench_words.specs.Memory.{word_at}
use Rattle.phase_fix.specs.declared.moves.DataMove.{DataMove}
use Rattle.world_law.specs.declared.reply.Reply.{Reply}
use Rattle.world_law.specs.declared.reply.Stop.TheVariants.{Run}
use Rattle.world_law.specs.ChipSteps.{RunsChip}
use Rattle.world_law.specs.Opening.{opened}
use Rattle.world_law.specs.Runs.{Moment, IsRun, last}
use Rattle.world_law.specs.World.{BenchSetting, IsBenchSetting, World}
use Rattle.word_owners.specs.Tickets.{tickets_of, IsLive}
use Rattle.word_owners.specs.Buffers.{PointersStay, IsOwn, DataStays}
use Rattle.word_owners.specs.Worlds.{HasBytes}

-- Both data pointers of each live ticket denote a suffix of what it moves; two live tickets move no byte in common; and where the chip runs, a step
-- of it that changes a byte of the buffer region is the data move of a live ticket, which changes only bytes of that ticket.
pub record KeepsBuffers (w : World) : Type 0 where
  pub pointers : (t : ℕ) → IsLive ((tickets_of w.desk).stage t) → PointersStay (word_at w.memory) ((tickets_of w.desk).fixed t)
  pub apart : (t u a : ℕ) → IsLive ((tickets_of w.desk).stage t) → IsLive ((tickets_of w.desk).stage u) → t ≢ u → IsOwn ((tickets_of w.desk).fixed t) a → IsOwn ((tickets_of w.desk).fixed u) a → ⊥
  pub steps : (new : World) (word : ℕ) (answer : Reply) (a : ℕ) → w.stop ≡ Run → RunsChip w word answer new → 0x200000 ≤ a → slice_index new.memory a ≢ slice_index w.memory a → (t : ℕ) × (x : DataMove) × DataStays t x w new

-- so it is in every world of every run
abbrev pub RunsKeepBuffers : Type 0
RunsKeepBuffers = (g : BenchSetting) → IsBenchSetting g → HasBytes g → (moments : List Moment) → IsRun g (opened g) moments → KeepsBuffers (last (opened g) moments)
