-- A byte of the data that is moved again, or for the first time, leaves the buffer filled as far as the data have moved.
use Rattle.std.proofs.Common.{◌≡◌, ℕ, ◌+◌, ◌-◌, ◌≤◌, ◌<◌, max, Bool, true, false, List, [], ◌∷◌, ◌++◌, length, refl, ap, arith, sym, ◌∙◌, nat_le, take, drop, append_assoc, zero, suc, Some, ◌⊎◌, inl, inr}
use Rattle.std.specs.Prelude.{slice_get}
use Rattle.std.proofs.lemmas.Bool.Decides.{nat_tests}
use Rattle.std.proofs.lemmas.List.{length-take-le, take-take, take-append-le, drop-append-le, take-append-drop, drop-drop, append-nil}
use Rattle.std.proofs.lemmas.Option.{slice_get_within}
use Rattle.std.proofs.Math.Seq.{take-add, drop-append-add}
use Rattle.unit_law.specs.Report.{filled}
use Rattle.target_law.specs.Bytes.{put}

take-one : (d : List ℕ) (p b : ℕ) → slice_get d p ≡ Some b → take 1 (drop p d) ≡ b ∷ []
take-one [] p b e = cc
take-one (x ∷ d) zero b e = let f : x ≡ b = cc in ap (λ y. y ∷ []) f
take-one (x ∷ d) (suc p) b e = take-one d p b e

behind : (p : ℕ) (d : List ℕ) (h : ℕ) (sub : List ℕ) → p ≤ h → h ≤ length d → take p (take h d ++ drop h sub) ≡ take p d
behind p d h sub a b =
    let l : length (take h d) ≡ h = length-take-le h d b in
    take-append-le p (take h d) (drop h sub) (omega arith) ∙ take-take p h d a

order : (h m : ℕ) (b : Bool) → nat_le h m ≡ b → (h ≤ m) ⊎ (m < h)
order h m true e = inl (grind (arith, nat_tests))
order h m false e = inr (grind (arith, nat_tests))

-- what lies past the first m bytes
ahead : (m : ℕ) (d : List ℕ) (h : ℕ) (sub : List ℕ) → (h ≤ m) ⊎ (m < h) → h ≤ length d → m ≤ length d → take m d ++ drop m (take h d ++ drop h sub) ≡ take (max h m) d ++ drop (max h m) sub
ahead m d h sub (inl le) u v =
    let l : length (take h d) ≡ h = length-take-le h d u in
    let at : length (take h d) + (m - h) ≡ m = omega arith in
    let top : max h m ≡ m = omega arith in
    ap (λ x. take m d ++ x) (
    ap (λ n. drop n (take h d ++ drop h sub)) (sym at) ∙ drop-append-add (take h d) (drop h sub) (m - h)
    ∙ drop-drop (m - h) h sub ∙ ap (λ n. drop n sub) (omega arith)) ∙ ap (λ n. take n d ++ drop n sub) (sym top)
ahead m d h sub (inr lt) u v =
    let l : length (take h d) ≡ h = length-take-le h d u in
    let top : max h m ≡ h = omega arith in
    ap (λ x. take m d ++ x) (drop-append-le m (take h d) (drop h sub) (omega arith))
    ∙ sym (append_assoc (take m d) (drop m (take h d)) (drop h sub))
    ∙ ap (λ x. x ++ drop h sub) (ap (λ x. x ++ drop m (take h d)) (sym (take-take m h d (omega arith))) ∙ take-append-drop m (take h d))
    ∙ ap (λ n. take n d ++ drop n sub) (sym top)

-- byte p of the data
pub filled-put : (p b : ℕ) (d : List ℕ) (h : ℕ) (sub : List ℕ) → p ≤ h → h ≤ length d → slice_get d p ≡ Some b → put (filled d h sub) p b ≡ filled d (max h (p + 1)) sub
unfolding filled
filled-put p b d h sub a u e =
    let c : p < length d = slice_get_within d p b e in
    ap (λ x. x ++ b ∷ drop (p + 1) (take h d ++ drop h sub)) (behind p d h sub a u)
    ∙ ap (λ (x : List ℕ). take p d ++ (x ++ drop (p + 1) (take h d ++ drop h sub))) (sym (take-one d p b e))
    ∙ sym (append_assoc (take p d) (take 1 (drop p d)) _)
    ∙ ap (λ x. x ++ drop (p + 1) (take h d ++ drop h sub)) (sym (take-add p 1 d))
    ∙ ahead (p + 1) d h sub (order h (p + 1) (nat_le h (p + 1)) refl) u (omega arith)

drop-none : (h : ℕ) → drop {A = ℕ} h [] ≡ []
drop-none zero = refl
drop-none (suc h) = refl

-- the same of what a unit receives
pub taken-put : (p b : ℕ) (d : List ℕ) (h : ℕ) → p ≤ h → h ≤ length d → slice_get d p ≡ Some b → put (take h d) p b ≡ take (max h (p + 1)) d
unfolding filled
taken-put p b d h a u e =
    let whole : (n : ℕ) → take n d ++ drop n [] ≡ take n d = λ n. ap (λ x. take n d ++ x) (drop-none n) ∙ append-nil (take n d) in
    ap (λ x. put x p b) (sym (whole h)) ∙ filled-put p b d h [] a u e ∙ whole (max h (p + 1))

-- a byte that lies in the front part of a list
pub get-take : (d : List ℕ) (n p b : ℕ) → p < n → slice_get d p ≡ Some b → slice_get (take n d) p ≡ Some b
get-take [] n p b l e = cc
get-take (x ∷ d) zero p b l e = absurd (omega arith)
get-take (x ∷ d) (suc n) zero b l e = e
get-take (x ∷ d) (suc n) (suc p) b l e = get-take d n p b (omega arith) e
