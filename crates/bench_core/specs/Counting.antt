-- What is at most as many as the entries of a list (own). Lemmas speak of it; no public contract rests on it.
use Rattle.std.specs.Prelude.{ℕ, ◌≤◌, List, length, sum, sum_by}
use Rattle.world_law.specs.declared.reply.Decided.{Decided}
use Rattle.world_law.specs.World.{World}

abbrev pub line_count : List (List Decided) → ℕ
line_count lss = sum_by (λ (ls : List Decided). length ls) lss

-- at most so many signals are due, and at most so many tickets were built and lines decided
pub record HasFew (count : ℕ) (w : World) : Type 0 where
  pub due : sum w.desk.due ≤ count
  pub tickets : length w.desk.tickets ≤ count
  pub lines : line_count w.lines ≤ count
