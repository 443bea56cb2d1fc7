-- A law of choices. Source: own.
use Rattle.std.specs.Prelude.{◌≡◌, ℕ}
use Rattle.target_law.specs.declared.moves.Move.{Move}
use Rattle.target_law.specs.Target.{Target}
use Rattle.target_law.specs.Lawful.{Named}

-- a word names at most one move of a target
abbrev pub OneMoveAWord : Type 0
OneMoveAWord = (t : Target) (word : ℕ) (a b : Move) → Named t word a → Named t word b → a ≡ b
