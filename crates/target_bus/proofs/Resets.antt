-- Every device changed in turn.
use Rattle.std.proofs.Common.{◌≡◌, ◌≢◌, ◌<◌, ◌+◌, ◌∙◌, ◌⊎◌, inl, inr, true, ℕ, zero, suc, List, [], ◌∷◌, length, map, slice_set, slice_index_or, false, refl, ap, sym, subst, arith}
use Rattle.std.proofs.lemmas.List.{length-map}
use Rattle.unit_law.proofs.Views.{same_or_not}
use Rattle.bus_law.specs.Bus.{BusState, device_at, bus_reset, device_reset}
use Rattle.bus_law.specs.Laws.{HasResetRoom}
use Rattle.bus_law.proofs.OneConnected.{resets_connected}
use Rattle.target_bus.specs.Fields.{IsHeldBus}
use Rattle.target_bus.proofs.BusRooms.{read-any}

-- the first n elements changed
pub first_changed : {A : Type 0} → (A → A) → ℕ → List A → List A
first_changed f zero xs = xs
first_changed f (suc n) [] = []
first_changed f (suc n) (x ∷ xs) = f x ∷ first_changed f n xs

pub first-none : {A : Type 0} (f : A → A) (xs : List A) → first_changed f 0 xs ≡ xs
unfolding first_changed
first-none f xs = refl

first-at : {A : Type 0} (f : A → A) (n : ℕ) (xs : List A) (d : A) → slice_index_or (first_changed f n xs) n d ≡ slice_index_or xs n d
unfolding first_changed
first-at f zero xs d = refl
first-at f (suc n) [] d = refl
first-at f (suc n) (x ∷ xs) d = first-at f n xs d

first-more : {A : Type 0} (f : A → A) (n : ℕ) (xs : List A) (d : A) → n < length xs → slice_set (first_changed f n xs) n (f (slice_index_or xs n d)) ≡ first_changed f (suc n) xs
unfolding first_changed
first-more f zero [] d l = absurd (omega (arith, l))
first-more f zero (x ∷ xs) d l = refl
first-more f (suc n) [] d l = absurd (omega (arith, l))
first-more f (suc n) (x ∷ xs) d l = ap (λ (ys : List _). f x ∷ ys) (first-more f n xs d (omega (arith, l)))

pub first-all : {A : Type 0} (f : A → A) (n : ℕ) (xs : List A) → n ≡ length xs → first_changed f n xs ≡ map f xs
unfolding first_changed
first-all f zero [] e = refl
first-all f zero (x ∷ xs) e = absurd (omega (arith, e))
first-all f (suc n) [] e = absurd (omega (arith, e))
first-all f (suc n) (x ∷ xs) e = ap (λ (ys : List _). f x ∷ ys) (first-all f n xs (omega (arith, e)))

-- one element more was changed
pub step-more : {A : Type 0} (f : A → A) (olds items : List A) (n : ℕ) (x y : A) → items ≡ first_changed f n olds → x ≡ slice_index_or items n x → y ≡ f x → n < length olds
    → slice_set items n y ≡ first_changed f (n + 1) olds
step-more {A} f olds items n x y e i h l =
    let here : x ≡ slice_index_or olds n x = i ∙ ap (λ (xs : List A). slice_index_or xs n x) e ∙ first-at f n olds x in
    ap (λ (xs : List A). slice_set xs n y) e ∙ ap (λ (z : A). slice_set (first_changed f n olds) n z) (h ∙ ap f here) ∙ first-more f n olds x l
    ∙ ap (λ (k : ℕ). first_changed f k olds) (omega arith)

-- what holds of the elements that were read so far
pub read-first : {A : Type 0} (f : A → A) (olds items : List A) (n : ℕ) (x d : A) → items ≡ first_changed f n olds → x ≡ slice_index_or items n x → n < length olds → x ≡ slice_index_or olds n d
read-first {A} f olds items n x d e i l = read-any olds n x d l (i ∙ ap (λ (xs : List A). slice_index_or xs n x) e ∙ first-at f n olds x)

at-or-below : (n k : ℕ) → k < n + 1 → k ≢ n → k < n
at-or-below n k l e = grind (arith, e)

one-by : {A : Type 0} (P : A → Type 0) (olds : List A) (d : A) (n k : ℕ) (x : A) → ((j : ℕ) → j < n → P (slice_index_or olds j d)) → x ≡ slice_index_or olds n d → P x → k < n + 1 → (k ≡ n) ⊎ (k ≢ n)
    → P (slice_index_or olds k d)
one-by {A} P olds d n k x f e p l (inl same) = subst (λ (j : ℕ). P (slice_index_or olds j d)) (sym same) (subst P e p)
one-by {A} P olds d n k x f e p l (inr other) = f k (at-or-below n k l other)

pub one-more : {A : Type 0} (P : A → Type 0) (olds : List A) (d : A) (n : ℕ) → ((j : ℕ) → j < n → P (slice_index_or olds j d)) → {x : A} → x ≡ slice_index_or olds n d → P x
    → (k : ℕ) → k < n + 1 → P (slice_index_or olds k d)
one-more P olds d n f {x} e p k l = one-by P olds d n k x f e p l (same_or_not k n)

pub reset-held : (n m : ℕ) (b : BusState) → IsHeldBus n b → ((id : ℕ) → HasResetRoom (device_at b id)) → m ≡ n → IsHeldBus m (bus_reset b)
reset-held n m b h r e = record {
  counted = e ∙ h.counted;
  seven = length-map b.devices device_reset ∙ h.seven;
  one = resets_connected b r;
  acknowledges = λ a. absurd (let f : false ≡ true = a in cc);
}
