-- What a data pointer of a live ticket is: OVER, or a data move that denotes, with all behind it, a suffix of what its ticket moves (own).
use Rattle.std.specs.Prelude.{◌≡◌, ◌≢◌, ◌⊎◌, ℕ, ◌+◌, ◌*◌, ◌<◌, ◌≤◌, List, length, slice_index, Some}
use Rattle.scsi_words.specs.declared.phases.kinds.Direction.{Direction}
use Rattle.scsi_words.specs.declared.phases.kinds.Direction.TheVariants as direction
use Rattle.cmd_block.specs.declared.Field.TheVariants.{CtxReturn}
use Rattle.driver_script.specs.Script.{label_of}
use Rattle.driver_script.specs.declared.labels.Name.TheVariants as label
use Rattle.phase_fix.specs.declared.moves.DataMove.{DataMove}
use Rattle.phase_fix.specs.declared.moves.DataPhase.{DataPhase}
use Rattle.phase_fix.specs.declared.moves.DataPhase.TheVariants.{In, Out}
use Rattle.phase_fix.specs.declared.moves.Entry.{Entry}
use Rattle.phase_fix.specs.declared.moves.Entry.TheVariants.{Segment, Context}
use Rattle.phase_fix.specs.Moves.{first_segment, context_label, move_at}
use Rattle.phase_fix.specs.Remain.{count_of, field, remain}

-- the address of a data move
abbrev pub move_place : DataPhase → Entry → ℕ
move_place phase (Segment j) = first_segment phase + 8 * j
move_place phase (Context k) = context_label phase 0 + 0x18 * k

-- one after another in xs from some place on to its end
pub record IsSuffix (ys xs : List ℕ) : Type 0 where
  pub from : ℕ
  pub within : from + length ys ≡ length xs
  pub at : (i : ℕ) → i < length ys → slice_index ys i ≡ slice_index xs (from + i)

-- the data of a request go in its phase
abbrev pub IsWay : Direction → DataPhase → Type 0
IsWay direction.In phase = phase ≡ In
IsWay direction.Out phase = phase ≡ Out
IsWay direction.None phase = ⊥

-- no segment from this one on is empty
abbrev pub AreFilled : (ℕ → ℕ) → ℕ → ℕ → Type 0
AreFilled w block j = (i : ℕ) → j ≤ i → i < 16 → count_of w block (Segment i) ≢ 0

-- the return of a context is a segment's move of its phase, or the end behind the last
pub record GoesBack (w : ℕ → ℕ) (block : ℕ) (phase : DataPhase) (k : ℕ) : Type 0 where
  pub segment : ℕ
  pub within : segment ≤ 16
  pub return : field w block (CtxReturn k) ≡ first_segment phase + 8 * segment
  pub filled : AreFilled w block segment

-- a move and all that follow it move bytes
abbrev pub Follows : (ℕ → ℕ) → ℕ → DataPhase → Entry → Type 0
Follows w block phase (Segment j) = AreFilled w block j
Follows w block phase (Context k) = (count_of w block (Context k) ≢ 0) × GoesBack w block phase k

-- p is the address of data move x, of the request's phase; it and all that follow it move bytes, and denote a suffix of these addresses
pub record Names (w : ℕ → ℕ) (block : ℕ) (goes : Direction) (xs : List ℕ) (p : ℕ) (x : DataMove) : Type 0 where
  pub at : move_at p ≡ Some x
  pub rest : IsSuffix (remain w block p) xs
  pub follows : Follows w block x.phase x.entry
  pub way : IsWay goes x.phase

abbrev pub IsPointer : (ℕ → ℕ) → ℕ → Direction → List ℕ → ℕ → Type 0
IsPointer w block goes xs p = (p ≡ label_of label.Over) ⊎ ((x : DataMove) × Names w block goes xs p x)
