-- The lines of a submitter, as the code keeps them, are those of the world.
use Rattle.std.proofs.Common.{◌≡◌, ◌∙◌, ℕ, zero, suc, List, [], ◌∷◌, slice_get, slice_index_or, Option, Some, None, refl, ap}
use Rattle.world_law.specs.declared.reply.Decided.{Decided}
use Rattle.bench_state.specs.declared.state.Lines.{Lines}
use Rattle.bench_state.specs.States.{decided_of}

abbrev held-by : Option Lines → List Decided
held-by None = []
held-by (Some l) = l.decided.items

held-at : (ls : List Lines) (s : ℕ) → slice_index_or (decided_of ls) s [] ≡ held-by (slice_get ls s)
held-at [] s = refl
held-at (x ∷ xs) zero = refl
held-at (x ∷ xs) (suc s) = held-at xs s

pub lines_at : (ls : List Lines) (s : ℕ) (l : Lines) → slice_get ls s ≡ Some l → slice_index_or (decided_of ls) s [] ≡ l.decided.items
lines_at ls s l e = held-at ls s ∙ ap held-by e

pub no_lines_at : (ls : List Lines) (s : ℕ) → slice_get ls s ≡ None → slice_index_or (decided_of ls) s [] ≡ []
no_lines_at ls s e = held-at ls s ∙ ap held-by e
