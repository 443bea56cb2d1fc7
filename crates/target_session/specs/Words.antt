-- The word of a move: its place among the lawful moves, and the low bits. No public contract rests on these. Source: own.
use Rattle.std.specs.Prelude.{ℕ, ◌+◌, ◌-◌, Bool, if◌then◌else◌}
use Rattle.target_law.specs.declared.moves.Move.{Move}
use Rattle.target_law.specs.declared.moves.Move.TheVariants.{Go, Busy, QueueFull, Leave, SaveLeave, Save, Restore, Rogue}

abbrev pub place_of : Move → (go refuse : Bool) → ℕ
place_of (Go n) go refuse = 0
place_of Busy go refuse = if go then 1 else 0
place_of QueueFull go refuse = (if go then 1 else 0) + 1
place_of Leave go refuse = (if go then 1 else 0) + (if refuse then 2 else 0)
place_of SaveLeave go refuse = (if go then 1 else 0) + (if refuse then 2 else 0) + 1
place_of Save go refuse = (if go then 1 else 0) + (if refuse then 2 else 0) + 2
place_of Restore go refuse = (if go then 1 else 0) + (if refuse then 2 else 0) + 3
place_of (Rogue word) go refuse = 0

abbrev pub low_of : Move → ℕ
low_of (Go n) = n - 1
low_of _ = 0
