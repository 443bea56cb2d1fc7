-- Sets of the tickets of a stage as flags by number (own). Lemmas speak of it; no public contract rests on it.
use Rattle.std.specs.Prelude.{◌≡◌, ℕ, ◌≤◌, Bool, false, List, length, slice_index_or, slice_set}
use Rattle.desk_law.specs.declared.stage.Stage.{Stage}
use Rattle.desk_law.specs.declared.ticket.Ticket.{Ticket}
use Rattle.driver_desk.specs.declared.stage_sets.StageSets.{StageSets}
use Rattle.driver_desk.specs.Held.{at}
use Rattle.driver_desk.specs.Stages.{is_again, is_check, is_ended, is_unlinked}

-- ---- one set

-- the same flags; behind them more that aren't set
pub record IsFlagged (old new : List Bool) : Type 0 where
  pub same : (i : ℕ) → slice_index_or new i false ≡ slice_index_or old i false
  pub longer : length old ≤ length new

-- a ticket's flag tells whether its stage is such a one, and numbers that no ticket has aren't in the set
pub record IsOf (is : Stage → Bool) (flags : List Bool) (xs : List Ticket) : Type 0 where
  pub room : length xs ≤ length flags
  pub same : (i : ℕ) → slice_index_or flags i false ≡ is (at xs i).stage

-- ---- the four sets

pub record HasNumbers (n : ℕ) (s : StageSets) : Type 0 where
  pub again : n ≤ length s.again
  pub check : n ≤ length s.check
  pub ended : n ≤ length s.ended
  pub unlinked : n ≤ length s.unlinked

pub record AreFlagged (old new : StageSets) : Type 0 where
  pub again : IsFlagged old.again new.again
  pub check : IsFlagged old.check new.check
  pub ended : IsFlagged old.ended new.ended
  pub unlinked : IsFlagged old.unlinked new.unlinked

pub record Marks (old : StageSets) (t : ℕ) (stage : Stage) (new : StageSets) : Type 0 where
  pub again : new.again ≡ slice_set old.again t (is_again stage)
  pub check : new.check ≡ slice_set old.check t (is_check stage)
  pub ended : new.ended ≡ slice_set old.ended t (is_ended stage)
  pub unlinked : new.unlinked ≡ slice_set old.unlinked t (is_unlinked stage)

pub record AreOf (s : StageSets) (xs : List Ticket) : Type 0 where
  pub again : IsOf is_again s.again xs
  pub check : IsOf is_check s.check xs
  pub ended : IsOf is_ended s.ended xs
  pub unlinked : IsOf is_unlinked s.unlinked xs
