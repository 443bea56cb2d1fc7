-- When every line is decided.
use Rattle.std.proofs.Common.{arith, ◌≡◌, ◌<◌, ◌==◌, true, false, ℕ, zero, suc, List, [], ◌∷◌, length, slice_index_or, refl, sym, ◌∙◌}
use Rattle.std.proofs.lemmas.Bool.{and_from, and_left, and_right}
use Rattle.rig_types.specs.declared.commands.Command.{Command}
use Rattle.world_law.specs.declared.reply.Decided.{Decided}
use Rattle.world_law.specs.World.{BenchSetting, World, commands_of, lines_of}
use Rattle.world_law.specs.Lines.{all_decided}

all : (css : List (List Command)) (lss : List (List Decided)) → length lss ≡ length css
    → ((k : ℕ) → k < length lss → (length (slice_index_or css k []) == length (slice_index_or lss k [])) ≡ true) → all_decided css lss ≡ true
all [] lss e h = refl
all (cs ∷ css) [] e h = absurd (omega (arith, e))
all (cs ∷ css) (ls ∷ lss) e h =
    and_from (length cs == length ls) (all_decided css lss) (h 0 (omega arith)) (all css lss (omega (arith, e)) (λ k l. h (suc k) (omega (arith, l))))

one : (css : List (List Command)) (lss : List (List Decided)) (k : ℕ) → length lss ≡ length css → k < length lss
    → (length (slice_index_or css k []) == length (slice_index_or lss k [])) ≡ false → all_decided css lss ≡ false
one css [] k e l n = absurd (omega (arith, l))
one [] (ls ∷ lss) k e l n = absurd (omega (arith, e))
one (cs ∷ css) (ls ∷ lss) zero e l n = and_left (length cs == length ls) (all_decided css lss) n
one (cs ∷ css) (ls ∷ lss) (suc k) e l n =
    and_right (length cs == length ls) (all_decided css lss) (one css lss k (omega (arith, e)) (omega (arith, l)) n)

pub decided_all : (g : BenchSetting) (w : World) (n : ℕ) → n ≡ length w.lines → n ≡ length g.submitters
    → ((s : ℕ) → s < n → (length (commands_of g s) == length (lines_of w s)) ≡ true) → all_decided g.submitters w.lines ≡ true
decided_all g w n e f h = all g.submitters w.lines (sym e ∙ f) (λ k l. h k (omega (arith, e, l)))

pub undecided_at : (g : BenchSetting) (w : World) (s n : ℕ) → n ≡ length w.lines → n ≡ length g.submitters → s < n
    → (length (commands_of g s) == length (lines_of w s)) ≡ false → all_decided g.submitters w.lines ≡ false
undecided_at g w s n e f l x = one g.submitters w.lines s (sym e ∙ f) (omega (arith, e, l)) x
