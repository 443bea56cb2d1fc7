-- The lists of lines at the opening: none is decided, and there is room for all.
use Rattle.std.proofs.Common.{arith, ◌≡◌, ◌<◌, ◌≤◌, ◌⊎◌, inl, inr, ◌+◌, ◌++◌, ◌∷◌, ℕ, zero, suc, List, [], length, replicate, slice_index_or, vec_capacity, refl, sym, ap, subst, ◌∙◌}
use Rattle.std.proofs.lemmas.Bool.{cases_lt}
use Rattle.rig_types.specs.declared.commands.Command.{Command}
use Rattle.world_law.specs.declared.reply.Decided.{Decided}
use Rattle.bench_state.specs.declared.state.Lines.{Lines}
use Rattle.bench_state.specs.States.{decided_of, rooms_of, HasLineRooms}

-- the first so many submitters have room
abbrev pub HasRoomsBelow : List (List Command) → List Lines → ℕ → Type 0
HasRoomsBelow css ls n = (s : ℕ) → s < n → length (slice_index_or css s []) ≤ slice_index_or (rooms_of ls) s 0

pushed : (ls : List Lines) (l : Lines) → decided_of (ls ++ l ∷ []) ≡ decided_of ls ++ l.decided.items ∷ []
pushed [] l = refl
pushed (x ∷ xs) l = ap (λ (lss : List (List Decided)). x.decided.items ∷ lss) (pushed xs l)

repeated : (n : ℕ) (x : List Decided) → replicate n x ++ x ∷ [] ≡ replicate (suc n) x
repeated zero x = refl
repeated (suc n) x = ap (λ (lss : List (List Decided)). x ∷ lss) (repeated n x)

pub one_more_decided : (ls : List Lines) (l : Lines) (s : ℕ) → decided_of ls ≡ replicate s [] → l.decided.items ≡ [] → decided_of (ls ++ l ∷ []) ≡ replicate (s + 1) []
one_more_decided ls l s e f =
    pushed ls l ∙ ap (λ (lss : List (List Decided)). lss ++ l.decided.items ∷ []) e ∙ ap (λ (x : List Decided). replicate s [] ++ x ∷ []) f
    ∙ repeated s [] ∙ ap (λ (n : ℕ). replicate n []) (plus s)
  where
    plus : (n : ℕ) → suc n ≡ n + 1
    plus n = omega arith

-- ---- rooms

earlier : (ls : List Lines) (l : Lines) (s : ℕ) → s < length ls → slice_index_or (rooms_of (ls ++ l ∷ [])) s 0 ≡ slice_index_or (rooms_of ls) s 0
earlier [] l s h = absurd (omega (arith, h))
earlier (x ∷ xs) l zero h = refl
earlier (x ∷ xs) l (suc s) h = earlier xs l s (omega (arith, h))

latest : (ls : List Lines) (l : Lines) → slice_index_or (rooms_of (ls ++ l ∷ [])) (length ls) 0 ≡ vec_capacity l.decided
latest [] l = refl
latest (x ∷ xs) l = latest xs l

split-below : (s n : ℕ) → s < n + 1 → (s < n) ⊎ (s ≡ n)
split-below zero zero h = inr refl
split-below zero (suc n) h = inl (omega arith)
split-below (suc s) zero h = absurd (omega (arith, h))
split-below (suc s) (suc n) h = elim (split-below s n (omega (arith, h))) [
  | inl a ↦ inl (omega (arith, a))
  | inr e ↦ inr (omega (arith, e))
]

pub one_more_room : (css : List (List Command)) (ls : List Lines) (l : Lines) (n : ℕ) → length ls ≡ n → HasRoomsBelow css ls n
    → length (slice_index_or css n []) ≤ vec_capacity l.decided → HasRoomsBelow css (ls ++ l ∷ []) (n + 1)
one_more_room css ls l n count h room s below = elim (split-below s n below) [
  | inl a ↦ subst (λ (r : ℕ). length (slice_index_or css s []) ≤ r) (sym (earlier ls l s (omega (arith, a, count)))) (h s a)
  | inr e ↦ subst (λ (k : ℕ). length (slice_index_or css k []) ≤ slice_index_or (rooms_of (ls ++ l ∷ [])) k 0) (sym e)
      (subst (λ (r : ℕ). length (slice_index_or css n []) ≤ r)
      (sym (ap (λ (k : ℕ). slice_index_or (rooms_of (ls ++ l ∷ [])) k 0) (sym count) ∙ latest ls l)) room)
]

none-past : (css : List (List Command)) (s : ℕ) → length css ≤ s → length (slice_index_or css s []) ≡ 0
none-past [] s h = refl
none-past (cs ∷ css) zero h = absurd (omega (arith, h))
none-past (cs ∷ css) (suc s) h = none-past css s (omega (arith, h))

pub rooms_all : (css : List (List Command)) (ls : List Lines) (n : ℕ) → length css ≤ n → HasRoomsBelow css ls n → HasLineRooms css ls
rooms_all css ls n all h s = elim (cases_lt s (length css)) [
  | inl a ↦ h s (omega (arith, a, all))
  | inr b ↦ omega (arith, none-past css s b)
]
