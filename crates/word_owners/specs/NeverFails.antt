-- What the driver tests, and what its patches rest on: none of these tests ever fails.
use Rattle.std.specs.Prelude.{◌≡◌, ◌≢◌, ◌⊎◌, ℕ, ◌-◌, ◌<◌, ◌≤◌, true, false, List, Some, None}
use Rattle.bench_words.specs.Memory.{word_at}
use Rattle.host_map.specs.declared.TheConstants.{RINGP, IDLE, NOTASK}
use Rattle.host_map.specs.Places.{tag_entry, IsCommandBlock}
use Rattle.cmd_block.specs.declared.TheConstants.{LIVE}
use Rattle.phase_fix.specs.Moves.{move_at}
use Rattle.phase_fix.specs.declared.moves.DataMove.{DataMove}
use Rattle.desk_law.specs.Desk.{ticket, unit}
use Rattle.desk_law.specs.Rings.{is_start_slot, waiting_count, waits}
use Rattle.desk_law.specs.Taking.{state_of}
use Rattle.desk_law.specs.declared.stage.Stage.{Stage}
use Rattle.desk_law.specs.declared.stage.Stage.TheVariants.{Built, Linked, Again, Check, Unlinked, Freed}
use Rattle.world_law.specs.Enabling.{IsEnded}
use Rattle.world_law.specs.Opening.{opened}
use Rattle.world_law.specs.Repairs.{CanFix}
use Rattle.world_law.specs.Runs.{Moment, IsRun, last}
use Rattle.world_law.specs.Stops.{is_done, to_sweep}
use Rattle.world_law.specs.World.{BenchSetting, IsBenchSetting, World, front}
use Rattle.world_law.specs.declared.reply.Stop.TheVariants.{Mismatch}
use Rattle.word_owners.specs.Worlds.{HasBytes}

-- a ticket's tag entry
abbrev pub entry_of : World → ℕ → ℕ
entry_of w t = word_at w.memory (tag_entry (ticket w.desk t).unit (ticket w.desk t).tag)

abbrev pub MayBeQueued : Stage → Type 0
MayBeQueued s = (s ≡ Linked) ⊎ (s ≡ Again)

-- its block waits in the start ring no more, and FRONT doesn't have it
pub record IsOut (w : World) (t : ℕ) : Type 0 where
  pub ring : waits w.memory w.desk (ticket w.desk t) ≡ false
  pub front : front w ≢ (ticket w.desk t).block

-- the start ring has room for one block more, in a slot that is idle
pub record HasRoom (w : World) : Type 0 where
  pub slot : is_start_slot w.desk.put ≡ true
  pub idle : word_at w.memory w.desk.put ≡ IDLE
  pub few : waiting_count (word_at w.memory RINGP) w.desk.put ≤ 256

-- What each patch finds: every live ticket has a command block, a unit with a table and a tag of a byte; Link an entry without a task and Unlink that
-- of its own ticket; Queue a slot, for a ticket that doesn't wait yet; Sweep a ticket that is out, with STATE 0; and Free a ticket whose block no tag entry has.
pub record PatchesFit (w : World) : Type 0 where
  pub block : (t : ℕ) → (ticket w.desk t).stage ≢ Freed → IsCommandBlock (ticket w.desk t).block
  pub table : (t : ℕ) → (ticket w.desk t).stage ≢ Freed → ((ticket w.desk t).unit < 16) × ((ticket w.desk t).tag < 256)
  pub link : (t : ℕ) → (ticket w.desk t).stage ≡ Built → entry_of w t ≡ NOTASK
  pub unlink : (t : ℕ) → IsEnded (ticket w.desk t).stage → entry_of w t ≡ (ticket w.desk t).block
  pub queue : (t : ℕ) → MayBeQueued (ticket w.desk t).stage → HasRoom w × IsOut w t
  pub sense : (t : ℕ) → (ticket w.desk t).stage ≡ Check → ((unit w.desk (ticket w.desk t).unit).absent ≡ false) × IsOut w t
  pub sweep : (t : ℕ) → to_sweep w (ticket w.desk t) ≡ true → (state_of w.memory (ticket w.desk t) ≡ LIVE) × IsOut w t
  pub free : (t u g : ℕ) → (ticket w.desk t).stage ≡ Unlinked → u < 16 → g < 256 → word_at w.memory (tag_entry u g) ≢ (ticket w.desk t).block

-- RINGP is a start slot; a done slot that isn't idle has a ticket to take; after a phase mismatch Fix finds nothing to repair exactly where no data move was
-- broken off; and the patches find what they rest on.
pub record NeverFails (w : World) : Type 0 where
  pub ringp : is_start_slot (word_at w.memory RINGP) ≡ true
  pub done : word_at w.memory w.desk.take ≢ IDLE → is_done w ≡ true
  pub repair : (x : DataMove) → w.stop ≡ Mismatch → move_at (w.regs.dsp - 8) ≡ Some x → CanFix w
  pub no_move : w.stop ≡ Mismatch → move_at (w.regs.dsp - 8) ≡ None → CanFix w → ⊥
  pub patches : PatchesFit w

-- in every world of every run
abbrev pub TestsNeverFail : Type 0
TestsNeverFail = (g : BenchSetting) → IsBenchSetting g → HasBytes g → (moments : List Moment) → IsRun g (opened g) moments → NeverFails (last (opened g) moments)
