-- A bus that gives a list of bytes: what a block move then leaves.
use Rattle.std.proofs.Common.{◌≡◌, ℕ, zero, suc, ◌+◌, ◌≤◌, inl, inr, Bool, true, false, List, [], ◌∷◌, length, set, take, sym, ap, ◌∙◌, arith, Some, None}
use Rattle.bench_words.specs.Memory.{put_bytes}
use Rattle.bench_words.proofs.Cells.{put_bytes-cons, put_bytes-nil}
use Rattle.chip_step.specs.Event.{Event, ByteIn}
use Rattle.chip_step.specs.Bytes.{TakesIn}

-- the bytes that a bus has left, and that its calls give them one by one
pub record GivesBytes {B : Type 0} (moves : B → Event → B → Type 0) (rest : B → List ℕ) : Type 0 where
  pub some : (old new : B) (b : ℕ) → moves old (ByteIn (Some b)) new → rest old ≡ b ∷ rest new
  pub none : (old new : B) → moves old (ByteIn None) new → rest old ≡ []

pub record Took (n : ℕ) (xs : List ℕ) (m : List ℕ) (at left : ℕ) (m' : List ℕ) : Type 0 where
  pub all : left ≡ 0
  pub memory : m' ≡ put_bytes m at (take n xs)

short : (n : ℕ) (xs : List ℕ) → xs ≡ [] → suc n ≤ length xs → ⊥
short n xs e h = let z : length xs ≡ 0 = ap length e in omega arith

step : (n b : ℕ) (xs ys m : List ℕ) (at left : ℕ) (m' : List ℕ) → xs ≡ b ∷ ys → Took n ys (set m at b) (at + 1) left m' → Took (suc n) xs m at left m'
step n b xs ys m at left m' e t = record {
  all = t.all;
  memory = rw e (t.memory ∙ sym (put_bytes-cons m at b (take n ys)));
}

pub TakesIn-gives : {B : Type 0} (moves : B → Event → B → Type 0) (rest : B → List ℕ) → GivesBytes moves rest →
    (later : Bool) (n : ℕ) (m : List ℕ) (at : ℕ) (b : B) (left : ℕ) (m' : List ℕ) (b' : B) →
    TakesIn moves false later n m at b left m' b' → n ≤ length (rest b) → Took n (rest b) m at left m'
TakesIn-gives moves rest g later zero m at b left m' b' t h = record { all = t.0; memory = t.1 ∙ sym (put_bytes-nil m at) }
TakesIn-gives moves rest g later (suc n) m at b left m' b' t h =
    elim t.2 [
      | inl e ↦ absurd (short n (rest b) (ap rest (sym t.1) ∙ g.none t.0 b' e.call) h)
      | inr r ↦
          let e : rest b ≡ r.0 ∷ rest r.1 = ap rest (sym t.1) ∙ g.some t.0 r.1 r.0 r.2 in
          let fits : n ≤ length (rest r.1) = omega (arith, ap length e) in
          step n r.0 (rest b) (rest r.1) m at left m' e (TakesIn-gives moves rest g true n (set m at r.0) (at + 1) r.1 left m' b' r.3 fits)
    ]
