-- Words that begin with the name of a command and spell none.
use Rattle.std.proofs.Common.{◌≡◌, ◌<◌, ◌≤◌, ℕ, List, [], ◌∷◌, subst, arith}
use Rattle.std.specs.Prelude.{codes}
use Rattle.sym_top.specs.CommandLine.{Command, one, asm, list, step, replay, load, Spells, IsNumber, most_commands}
use Rattle.sym_top.proofs.OneCommand.{one_number}

pub too_many : (a b x y : List ℕ) (n count : ℕ) → IsNumber a n → 2000 < n → codes "load" ∷ a ∷ b ∷ [] ≡ codes "load" ∷ x ∷ y ∷ [] → IsNumber x count → count ≤ most_commands → ⊥
too_many a b x y n count i more e j few =
    let same : a ≡ x = cc in
    let counts : n ≡ count = one_number x n count (subst (λ (w : List ℕ). IsNumber w n) same i) j in
    omega (arith, more, few, counts)

pub two_words : (name a b : List ℕ) → name ≡ codes "load" → ((n s : ℕ) → Spells (codes "load" ∷ a ∷ b ∷ []) (load n s) → ⊥) → (c : Command) → Spells (name ∷ a ∷ b ∷ []) c → ⊥
two_words name a b is none (one lba) (w, e, i) = cc
two_words name a b is none (asm file out) e = let both : codes "load" ∷ a ∷ b ∷ [] ≡ codes "asm" ∷ file ∷ out ∷ [] = subst (λ (n : List ℕ). n ∷ a ∷ b ∷ [] ≡ codes "asm" ∷ file ∷ out ∷ []) is e in cc
two_words name a b is none (list file) e = cc
two_words name a b is none (step r w s t) (x, e, i) = cc
two_words name a b is none (replay r w t) e = cc
two_words name a b is none (load n s) spells = none n s (subst (λ (x : List ℕ). Spells (x ∷ a ∷ b ∷ []) (load n s)) is spells)

pub four_words : (name a b d f : List ℕ) → name ≡ codes "step" → ((r w : List ℕ) (n : ℕ) (t : List ℕ) → Spells (codes "step" ∷ a ∷ b ∷ d ∷ f ∷ []) (step r w n t) → ⊥) → (c : Command)
    → Spells (name ∷ a ∷ b ∷ d ∷ f ∷ []) c → ⊥
four_words name a b d f is none (one lba) (w, e, i) = cc
four_words name a b d f is none (asm file out) e = cc
four_words name a b d f is none (list file) e = cc
four_words name a b d f is none (step r w n t) spells = none r w n t (subst (λ (x : List ℕ). Spells (x ∷ a ∷ b ∷ d ∷ f ∷ []) (step r w n t)) is spells)
four_words name a b d f is none (replay r w t) e = cc
four_words name a b d f is none (load n s) (x, y, e, i, few, j) = cc
