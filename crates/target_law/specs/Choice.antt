-- The lawful moves of a task that is to choose, in their order, and which of them a word names. Source: own.
use Rattle.std.specs.Prelude.{◌≡◌, ℕ, ◌+◌, ◌/◌, ◌%◌, ◌==◌, nat_lt, ◌&&◌, not, if◌then◌else◌, Bool, true, false, List, [], ◌∷◌, ◌++◌, length, Some, slice_get}
use Rattle.target_law.specs.declared.moves.Move.{Move}
use Rattle.target_law.specs.declared.moves.Move.TheVariants.{Go, Busy, QueueFull, Leave, SaveLeave, Save, Restore}
use Rattle.target_law.specs.Session.{Session, remaining}

abbrev pub if_can : Bool → List Move → List Move
if_can true ms = ms
if_can false ms = []

-- the lawful moves in their order, with a Go of n bytes
abbrev pub offers : (go refuse spend : Bool) → ℕ → List Move
offers go refuse spend n = if_can go (Go n ∷ []) ++ (if_can refuse (Busy ∷ QueueFull ∷ []) ++ if_can spend (Leave ∷ SaveLeave ∷ Save ∷ Restore ∷ []))

abbrev pub can_go : Session → Bool
can_go s = not (s.task.just_moved && nat_lt 0 (remaining s))

abbrev pub can_refuse : Session → ℕ → ℕ → Bool
can_refuse s limit refused = s.task.fresh && (not s.task.senses && nat_lt refused limit)

abbrev pub can_spend : Session → Bool
can_spend s = nat_lt 0 s.task.budget

-- how many bytes a Go moves: with the budget spent all, else a number from 1 on by the word's low 24 bits
abbrev pub go_bytes : Session → ℕ → ℕ
go_bytes s word = if s.task.budget == 0 then remaining s else (if remaining s == 0 then 0 else 1 + word % 16777216 % remaining s)

abbrev pub offered : Session → (limit refused word : ℕ) → List Move
offered s limit refused word = offers (can_go s) (can_refuse s limit refused) (can_spend s) (go_bytes s word)

-- bits 30 to 24 of the word, counted round
abbrev pub index : ℕ → ℕ → ℕ
index word n = word / 16777216 % 128 % n

-- the word names this move
abbrev pub Names : Session → (limit refused word : ℕ) → Move → Type 0
Names s limit refused word m = slice_get (offered s limit refused word) (index word (length (offered s limit refused word))) ≡ Some m

-- the list of lawful moves isn't empty
abbrev pub Choosable : Session → Type 0
Choosable s = s.task.just_moved ≡ true → s.task.budget ≡ 0 → remaining s ≡ 0
