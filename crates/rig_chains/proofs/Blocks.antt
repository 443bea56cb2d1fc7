-- Steps that each write in a block of their own, made at rising numbers one after another.
use Rattle.std.proofs.Common.{◌≡◌, ℕ, zero, suc, ◌+◌, ◌<◌, ◌≤◌, ◌⊎◌, inl, inr, Bool, true, false, cond, List, [], ◌∷◌, length, filter, fold, refl, sym, ◌∙◌, arith}
use Rattle.std.specs.List.{range_with_len}
use Rattle.std.proofs.lemmas.Bool.{cases_order}
use Rattle.bench_words.specs.Memory.{word_at}

-- the step at i writes in the block of this size at `place i` alone, and the blocks rise
pub record KeepsBlocks (place : ℕ → ℕ) (size : ℕ) (step : List ℕ → ℕ → List ℕ) : Type 0 where
  pub kept : (m : List ℕ) (i : ℕ) → length (step m i) ≡ length m
  pub clear : (m : List ℕ) (i x : ℕ) → (x + 4 ≤ place i) ⊎ (place i + size ≤ x) → word_at (step m i) x ≡ word_at m x
  pub rises : (i j : ℕ) → i < j → place i + size ≤ place j

-- the numbers rise, from low on and below high
abbrev pub Rising : ℕ → ℕ → List ℕ → Type 0
Rising low high [] = Unit {0}
Rising low high (i ∷ is) = (low ≤ i) × (i < high) × Rising (suc i) high is

abbrev pub IsIn : ℕ → List ℕ → Type 0
IsIn i [] = ⊥
IsIn i (j ∷ js) = (i ≡ j) ⊎ IsIn i js

pub rising_range : (low n high : ℕ) → low + n ≤ high → Rising low high (range_with_len low n)
rising_range low zero high h = tt
rising_range low (suc n) high h =
    let e : low + 1 ≡ suc low = omega arith in
    (omega arith, omega arith, rw e (rising_range (suc low) n high (omega arith)))

rising_lower : (low low' high : ℕ) (is : List ℕ) → low ≤ low' → Rising low' high is → Rising low high is
rising_lower low low' high [] h r = tt
rising_lower low low' high (i ∷ is) h r = (omega (arith, r.0), r.1, r.2)

rising_cond : (b : Bool) (low i high : ℕ) (is : List ℕ) → low ≤ i → i < high → Rising (suc i) high is → Rising low high (cond b (i ∷ is) is)
rising_cond true low i high is h k r = (h, k, r)
rising_cond false low i high is h k r = rising_lower low (suc i) high is (omega arith) r

pub rising_filter : (p : ℕ → Bool) (low high : ℕ) (is : List ℕ) → Rising low high is → Rising low high (filter p is)
rising_filter p low high [] r = tt
rising_filter p low high (i ∷ is) r = rising_cond (p i) low i high (filter p is) r.0 r.1 (rising_filter p (suc i) high is r.2)

first_or_later : (low n i : ℕ) → (low ≡ i) ⊎ ((low < i) ⊎ (i < low)) → low ≤ i → (low < i → IsIn i (range_with_len (low + 1) n)) → IsIn i (range_with_len low (suc n))
first_or_later low n i (inl e) h later = inl (sym e)
first_or_later low n i (inr (inl l)) h later = inr (later l)
first_or_later low n i (inr (inr l)) h later = absurd (omega arith)

pub in_range : (low n i : ℕ) → low ≤ i → i < low + n → IsIn i (range_with_len low n)
in_range low zero i h k = omega arith
in_range low (suc n) i h k =
    first_or_later low n i (cases_order low i) h (λ l. in_range (low + 1) n i (omega arith) (omega arith))

in_cond : (b : Bool) (i j : ℕ) (js : List ℕ) → IsIn i js → IsIn i (cond b (j ∷ js) js)
in_cond true i j js h = inr h
in_cond false i j js h = h

pub in_filter : (p : ℕ → Bool) (i : ℕ) (js : List ℕ) → p i ≡ true → IsIn i js → IsIn i (filter p js)
in_filter p i [] h is = is
in_filter p i (j ∷ js) h (inl e) =
    let passes : p j ≡ true = rw e at h in rw passes (inl e)
in_filter p i (j ∷ js) h (inr is) = in_cond (p j) i j (filter p js) (in_filter p i js h is)

-- ---- memory after the steps

pub length-fold : {place : ℕ → ℕ} {size : ℕ} {step : List ℕ → ℕ → List ℕ} → KeepsBlocks place size step → (m : List ℕ) (is : List ℕ) → length (fold step m is) ≡ length m
length-fold b m [] = refl
length-fold {step = step} b m (i ∷ is) = length-fold b (step m i) is ∙ b.kept m i

place-rises : {place : ℕ → ℕ} {size : ℕ} {step : List ℕ → ℕ → List ℕ} → KeepsBlocks place size step → (i j : ℕ) → (i ≡ j) ⊎ ((i < j) ⊎ (j < i)) → i ≤ j → place i ≤ place j
place-rises {place = place} b i j (inl e) h = rw e (omega arith)
place-rises b i j (inr (inl l)) h = omega (arith, b.rises i j l)
place-rises b i j (inr (inr l)) h = absurd (omega arith)

-- a word before the blocks, and one behind them
pub fold_before : {place : ℕ → ℕ} {size : ℕ} {step : List ℕ → ℕ → List ℕ} → KeepsBlocks place size step → (m : List ℕ) (low high x : ℕ) (is : List ℕ) → Rising low high is → x + 4 ≤ place low → word_at (fold step m is) x ≡ word_at m x
fold_before b m low high x [] r h = refl
fold_before {step = step} b m low high x (i ∷ is) r h =
    let up = place-rises b low i (cases_order low i) r.0 in
    fold_before b (step m i) (suc i) high x is r.2 (omega (arith, up, b.rises i (suc i) (omega arith))) ∙ b.clear m i x (inl (omega (arith, up)))

pub fold_behind : {place : ℕ → ℕ} {size : ℕ} {step : List ℕ → ℕ → List ℕ} → KeepsBlocks place size step → (m : List ℕ) (low high x : ℕ) (is : List ℕ) → Rising low high is → place high ≤ x → word_at (fold step m is) x ≡ word_at m x
fold_behind b m low high x [] r h = refl
fold_behind {step = step} b m low high x (i ∷ is) r h =
    fold_behind b (step m i) (suc i) high x is r.2 h ∙ b.clear m i x (inr (omega (arith, b.rises i high r.1)))

-- the words of a block are those that the step of the block left
pub record LeftBy (place : ℕ → ℕ) (size : ℕ) (step : List ℕ → ℕ → List ℕ) (m n : List ℕ) (i : ℕ) : Type 0 where
  pub before : List ℕ
  pub kept : length before ≡ length m
  pub same : (x : ℕ) → place i ≤ x → x + 4 ≤ place i + size → word_at n x ≡ word_at (step before i) x

pub fold_at : {place : ℕ → ℕ} {size : ℕ} {step : List ℕ → ℕ → List ℕ} → KeepsBlocks place size step → (m : List ℕ) (low high i : ℕ) (is : List ℕ) → Rising low high is → IsIn i is → LeftBy place size step m (fold step m is) i
fold_at b m low high i [] r h = absurd h
fold_at {place = place} {size = size} {step = step} b m low high i (j ∷ js) r (inl e) =
    record {
      before = m;
      kept = refl;
      same = λ x from to.
          let next = b.rises j (suc j) (omega arith) in
          let here : x + 4 ≤ place j + size = rw e at to in
          rw e (fold_before b (step m j) (suc j) high x js r.2 (omega arith));
    }
fold_at {step = step} b m low high i (j ∷ js) r (inr h) =
    let rest = fold_at b (step m j) (suc j) high i js r.2 h in
    record { before = rest.before; kept = rest.kept ∙ b.kept m j; same = rest.same }
