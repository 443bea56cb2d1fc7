-- The words of `run` are those of no other command, and spell one command.
use Rattle.std.proofs.Common.{◌≡◌, ℕ, List, [], ◌∷◌, sym, ap, ◌∙◌, subst}
use Rattle.std.specs.Prelude.{codes}
use Rattle.sym_top.specs.CommandLine.{Command, one, asm, list, step, replay, load, Spells, IsNumber}
use Rattle.sym_top.specs.Running.{RunWords, SpellsRun}
use Rattle.sym_top.proofs.OneCommand.{one_number}

pub apart : (words : List (List ℕ)) (a : RunWords) (c : Command) → SpellsRun words a → Spells words c → ⊥
apart words a (one n) (x, e, i) (v, f, j) = let both : codes "run" ∷ a.rig ∷ a.work ∷ x ∷ a.trace ∷ [] ≡ codes "one" ∷ v ∷ [] = sym e ∙ f in cc
apart words a (asm file out) (x, e, i) f = let both : codes "run" ∷ a.rig ∷ a.work ∷ x ∷ a.trace ∷ [] ≡ codes "asm" ∷ file ∷ out ∷ [] = sym e ∙ f in cc
apart words a (list file) (x, e, i) f = let both : codes "run" ∷ a.rig ∷ a.work ∷ x ∷ a.trace ∷ [] ≡ codes "list" ∷ file ∷ [] = sym e ∙ f in cc
apart words a (step r w s t) (x, e, i) (v, f, j) = let both : codes "run" ∷ a.rig ∷ a.work ∷ x ∷ a.trace ∷ [] ≡ codes "step" ∷ r ∷ w ∷ v ∷ t ∷ [] = sym e ∙ f in cc
apart words a (replay r w t) (x, e, i) f = let both : codes "run" ∷ a.rig ∷ a.work ∷ x ∷ a.trace ∷ [] ≡ codes "replay" ∷ r ∷ w ∷ t ∷ [] = sym e ∙ f in cc
apart words a (load n s) (x, e, i) (v, y, f, j, few, k) = let both : codes "run" ∷ a.rig ∷ a.work ∷ x ∷ a.trace ∷ [] ≡ codes "load" ∷ v ∷ y ∷ [] = sym e ∙ f in cc

words-of : (rig work : List ℕ) (seed : ℕ) (trace : List ℕ) → RunWords
words-of rig work seed trace = record { rig = rig; work = work; seed = seed; trace = trace }

pub one_run : (words : List (List ℕ)) (a b : RunWords) → SpellsRun words a → SpellsRun words b → a ≡ b
unfolding words-of
one_run words a b (x, e, i) (y, f, j) =
    let both : codes "run" ∷ a.rig ∷ a.work ∷ x ∷ a.trace ∷ [] ≡ codes "run" ∷ b.rig ∷ b.work ∷ y ∷ b.trace ∷ [] = sym e ∙ f in
    let same : x ≡ y = cc in
    let seeds : a.seed ≡ b.seed = one_number y a.seed b.seed (subst (λ (z : List ℕ). IsNumber z a.seed) same i) j in
    let rigs : a.rig ≡ b.rig = cc in
    let works : a.work ≡ b.work = cc in
    let traces : a.trace ≡ b.trace = cc in
    ap (λ (v : List ℕ). words-of v a.work a.seed a.trace) rigs ∙ ap (λ (v : List ℕ). words-of b.rig v a.seed a.trace) works ∙ ap (λ (n : ℕ). words-of b.rig b.work n a.trace) seeds
    ∙ ap (λ (v : List ℕ). words-of b.rig b.work b.seed v) traces

-- what holds of the command that the words spell holds of each that they spell
pub spelled_run : (P : RunWords → Type 0) (words : List (List ℕ)) (a : RunWords) → SpellsRun words a → P a → (b : RunWords) → SpellsRun words b → P b
spelled_run P words a s p b t = subst P (one_run words a b s t) p

-- words behind the name `run` that spell no command
pub run_words : (name rig work seed trace : List ℕ) → name ≡ codes "run" → ((a : RunWords) → SpellsRun (codes "run" ∷ rig ∷ work ∷ seed ∷ trace ∷ []) a → ⊥) → (a : RunWords)
    → SpellsRun (name ∷ rig ∷ work ∷ seed ∷ trace ∷ []) a → ⊥
run_words name rig work seed trace is none a s = none a (subst (λ (n : List ℕ). SpellsRun (n ∷ rig ∷ work ∷ seed ∷ trace ∷ []) a) is s)
