-- A word names at most one move.
use Rattle.std.proofs.Common.{◌≡◌, ℕ, sym, ◌∙◌, Option, Some, None, length}
use Rattle.std.specs.Prelude.{slice_get}
use Rattle.target_law.specs.declared.moves.Move.{Move}
use Rattle.target_law.specs.Bytes.{Connection}
use Rattle.target_law.specs.Target.{LogicalUnit, ConnectionState, BusFree, Selected, TakingCommand, TaskConnected, RogueConnected, Target, unit_at}
use Rattle.target_law.specs.Lawful.{IsThere, NamesOf, NamedBy, Named}

named_once : (o : Option Move) (a b : Move) → o ≡ Some a → o ≡ Some b → a ≡ b
named_once o a b e h = let s : Some a ≡ Some b = sym e ∙ h in cc

there_once : (o : Option LogicalUnit) (c : Connection) (word : ℕ) (a b : Move) → IsThere o (λ u. NamesOf u c word a) → IsThere o (λ u. NamesOf u c word b) → a ≡ b
there_once (Some u) c word a b e h = named_once _ a b e h
there_once None c word a b e h = absurd e

once : (l : ConnectionState) (t : Target) (word : ℕ) (a b : Move) → NamedBy l t word a → NamedBy l t word b → a ≡ b
once (TaskConnected c) t word a b e h = there_once (unit_at t.units c.lun) c word a b e h
once (RogueConnected s n) t word a b e h = e ∙ sym h
once BusFree t word a b e h = absurd e
once (Selected heard) t word a b e h = absurd e
once (TakingCommand n taken) t word a b e h = absurd e

pub one_move : (t : Target) (word : ℕ) (a b : Move) → Named t word a → Named t word b → a ≡ b
one_move t word a b e h = once t.link t word a b e h
