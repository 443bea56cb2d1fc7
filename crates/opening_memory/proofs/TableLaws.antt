-- What tables of words give at an address, and memory after they were written.
use Rattle.std.proofs.Common.{◌≡◌, ◌≢◌, ◌++◌, ℕ, zero, suc, ◌+◌, ◌*◌, ◌%◌, ◌^◌, ◌<◌, ◌≤◌, ◌⊎◌, inl, inr, Bool, true, false, nat_eq, nat_lt, nat_le, ◌&&◌, List, [], ◌∷◌, length, flat_map, fold, map, refl, sym, ap, ◌∙◌, arith}
use Rattle.std.specs.Prelude.{if◌then◌else◌}
use Rattle.std.specs.List.{All, range_with_len}
use Rattle.std.proofs.lemmas.Bool.{and_parts, cases_order}
use Rattle.std.proofs.lemmas.Bool.Decides.{nat_tests}
use Rattle.std.proofs.lemmas.List.Elements.{All-head, All-tail}
use Rattle.std.proofs.lemmas.List.FromFn.{map-range_with_len_more}
use Rattle.bench_words.specs.Memory.{word_at, put_word}
use Rattle.bench_words.proofs.MemoryLaws.{length-put_word, word_same, word_apart}
use Rattle.scripts_ops.specs.declared.values.Op.{Op}
use Rattle.rig_chains.specs.Chains.{put_op, put_ops}
use Rattle.rig_chains.proofs.Blocks.{Rising}
use Rattle.rig_chains.proofs.ChainLaws.{IsPlain}
use Rattle.opening_memory.specs.Tables.{value_at, written, spread, spelled}

-- every pair is a word from low up to high: its address is a multiple of 4, its value below 2^32
abbrev pub Lie : ℕ → ℕ → List (ℕ × ℕ) → Type 0
Lie low high [] = Unit {0}
Lie low high (p ∷ ps) = (low ≤ p.0) × (p.0 + 4 ≤ high) × (p.0 % 4 ≡ 0) × (p.1 < 2 ^ 32) × Lie low high ps

pub lie-append : (low high : ℕ) (ps qs : List (ℕ × ℕ)) → Lie low high ps → Lie low high qs → Lie low high (ps ++ qs)
lie-append low high [] qs a b = b
lie-append low high (p ∷ ps) qs a b = (a.0, a.1, a.2, a.3, lie-append low high ps qs a.4 b)

pub lie-wider : (low high lower higher : ℕ) (ps : List (ℕ × ℕ)) → lower ≤ low → high ≤ higher → Lie low high ps → Lie lower higher ps
lie-wider low high lower higher [] h k l = tt
lie-wider low high lower higher (p ∷ ps) h k l =
    (omega (arith, l.0), omega (arith, l.1), l.2, l.3, lie-wider low high lower higher ps h k l.4)

-- a test of tables of numerals
abbrev pub lies : ℕ → ℕ → List (ℕ × ℕ) → Bool
lies low high [] = true
lies low high (p ∷ ps) =
    (nat_le low p.0 && nat_le (p.0 + 4) high) && ((nat_eq (p.0 % 4) 0 && nat_lt p.1 4294967296) && lies low high ps)

most : (a b : ℕ) → nat_le a b ≡ true → a ≤ b
most a b h = grind (arith, nat_tests)

less : (a b : ℕ) → nat_lt a b ≡ true → a < b
less a b h = grind (arith, nat_tests)

same : (a b : ℕ) → nat_eq a b ≡ true → a ≡ b
same a b h = grind (arith, nat_tests)

differ : (a b : ℕ) → a ≢ b → nat_eq a b ≡ false
differ a b h = grind (arith, nat_tests)

equal : (a b : ℕ) → a ≡ b → nat_eq a b ≡ true
equal a b h = grind (arith, nat_tests)

pub lies_so : (low high : ℕ) (ps : List (ℕ × ℕ)) → lies low high ps ≡ true → Lie low high ps
lies_so low high [] h = tt
lies_so low high (p ∷ ps) h =
    let parts = and_parts (nat_le low p.0 && nat_le (p.0 + 4) high) ((nat_eq (p.0 % 4) 0 && nat_lt p.1 4294967296) && lies low high ps) h in
    let range = and_parts (nat_le low p.0) (nat_le (p.0 + 4) high) parts.0 in
    let rest = and_parts (nat_eq (p.0 % 4) 0 && nat_lt p.1 4294967296) (lies low high ps) parts.1 in
    let word = and_parts (nat_eq (p.0 % 4) 0) (nat_lt p.1 4294967296) rest.0 in (
      most low p.0 range.0,
      most (p.0 + 4) high range.1,
      same (p.0 % 4) 0 word.0,
      less p.1 4294967296 word.1,
      lies_so low high ps rest.1,
    )

-- ---- values

pub value-append : (ps qs : List (ℕ × ℕ)) (x old : ℕ) → value_at (ps ++ qs) x old ≡ value_at qs x (value_at ps x old)
unfolding value_at
value-append [] qs x old = refl
value-append (p ∷ ps) qs x old = value-append ps qs x (if nat_eq p.0 x then p.1 else old)

-- a table has no word at an address outside its range
pub value-outside : (low high : ℕ) (ps : List (ℕ × ℕ)) (x old : ℕ) → Lie low high ps → (x + 4 ≤ low) ⊎ (high ≤ x) → value_at ps x old ≡ old
unfolding value_at
value-outside low high [] x old l h = refl
value-outside low high (p ∷ ps) x old l h =
    let from = l.0 in
    let to = l.1 in
    let other : p.0 ≢ x = elim h [ inl k ↦ omega arith | inr k ↦ omega arith ] in
    rw (differ p.0 x other) (value-outside low high ps x old l.4 h)

-- a value is either the table's or the old one
abbrev Settled : (ℕ → ℕ) → Type 0
Settled f = ((o o' : ℕ) → f o ≡ f o') ⊎ ((o : ℕ) → f o ≡ o)

settled_by : (b : Bool) (v : ℕ) (f : ℕ → ℕ) → Settled f → Settled (λ o. f (if b then v else o))
settled_by b v f (inl k) = inl (λ o o'. k (if b then v else o) (if b then v else o'))
settled_by true v f (inr k) = inl (λ o o'. refl)
settled_by false v f (inr k) = inr k

settled : (ps : List (ℕ × ℕ)) (x : ℕ) → Settled (λ o. value_at ps x o)
unfolding value_at
settled [] x = inr (λ o. refl)
settled (p ∷ ps) x = settled_by (nat_eq p.0 x) p.1 (λ o. value_at ps x o) (settled ps x)

once : (f : ℕ → ℕ) (o : ℕ) → Settled f → f (f o) ≡ f o
once f o (inl k) = k (f o) o
once f o (inr k) = k (f o)

-- writing a table twice is writing it once
pub value-twice : (ps : List (ℕ × ℕ)) (x old : ℕ) → value_at ps x (value_at ps x old) ≡ value_at ps x old
value-twice ps x old = once (λ o. value_at ps x o) old (settled ps x)

-- ---- memory

pub length-written : (m : List ℕ) (ps : List (ℕ × ℕ)) → length (written m ps) ≡ length m
unfolding written
length-written m [] = refl
length-written m (p ∷ ps) = length-written (put_word m p.0 p.1) ps ∙ length-put_word m p.0 p.1

put-value : (m : List ℕ) (a v x : ℕ) → a + 4 ≤ length m → v < 2 ^ 32 → a % 4 ≡ 0 → x % 4 ≡ 0 → (a ≡ x) ⊎ ((a < x) ⊎ (x < a)) → word_at (put_word m a v) x ≡ (if nat_eq a x then v else word_at m x)
put-value m a v x fits small ha hx (inl e) = rw (equal a x e) (rw (← e) (word_same m a v fits small))
put-value m a v x fits small ha hx (inr (inl h)) =
    let n : a ≢ x = omega arith in rw (differ a x n) (word_apart m a x v (inr (omega arith)))
put-value m a v x fits small ha hx (inr (inr h)) =
    let n : a ≢ x = omega arith in rw (differ a x n) (word_apart m a x v (inl (omega arith)))

-- a word of memory after a table was written
pub word-written : (m : List ℕ) (ps : List (ℕ × ℕ)) (low high x : ℕ) → Lie low high ps → high ≤ length m → x % 4 ≡ 0 → word_at (written m ps) x ≡ value_at ps x (word_at m x)
unfolding written value_at
word-written m [] low high x l h hx = refl
word-written m (p ∷ ps) low high x l h hx =
    let to = l.1 in
    word-written (put_word m p.0 p.1) ps low high x l.4 (omega (arith, length-put_word m p.0 p.1)) hx
    ∙ ap (λ (o : ℕ). value_at ps x o) (put-value m p.0 p.1 x (omega arith) l.3 l.2 hx (cases_order p.0 x))

pub written-append : (m : List ℕ) (ps qs : List (ℕ × ℕ)) → written m (ps ++ qs) ≡ written (written m ps) qs
unfolding written
written-append m [] qs = refl
written-append m (p ∷ ps) qs = written-append (put_word m p.0 p.1) ps qs

pub written-flat : (f : ℕ → List (ℕ × ℕ)) (step : List ℕ → ℕ → List ℕ) (one : (m : List ℕ) (i : ℕ) → written m (f i) ≡ step m i) (m : List ℕ) (is : List ℕ) → written m (flat_map f is) ≡ fold step m is
unfolding written
written-flat f step one m [] = refl
written-flat f step one m (i ∷ is) =
    written-append m (f i) (flat_map f is)
    ∙ ap (λ (n : List ℕ). written n (flat_map f is)) (one m i)
    ∙ written-flat f step one (step m i) is

pub lie-flat : (f : ℕ → List (ℕ × ℕ)) (low high bound : ℕ) (each : (i : ℕ) → i < bound → Lie low high (f i)) (least : ℕ) (is : List ℕ) → Rising least bound is → Lie low high (flat_map f is)
lie-flat f low high bound each least [] r = tt
lie-flat f low high bound each least (i ∷ is) r =
    lie-append low high (f i) (flat_map f is) (each i r.1) (lie-flat f low high bound each (suc i) is r.2)

-- ---- words at equal distances

abbrev run : ℕ → ℕ → (ℕ → ℕ) → ℕ → ℕ → List (ℕ × ℕ)
run base step word low n = map (λ (k : ℕ). (base + step * k, word k)) (range_with_len low n)

-- word k lies in a range
abbrev pub Lies : ℕ → ℕ → (ℕ → ℕ) → ℕ → ℕ → ℕ → Type 0
Lies base step word low high k =
    (low ≤ base + step * k) × (base + step * k + 4 ≤ high) × ((base + step * k) % 4 ≡ 0) × (word k < 2 ^ 32)

run-lie : (base step : ℕ) (word : ℕ → ℕ) (low high count a n : ℕ) → ((k : ℕ) → k < count → Lies base step word low high k) → a + n ≤ count → Lie low high (run base step word a n)
run-lie base step word low high count a zero each h = tt
run-lie base step word low high count a (suc n) each h =
    let here = each a (omega arith) in
    (here.0, here.1, here.2, here.3, run-lie base step word low high count (a + 1) n each (omega arith))

pub spread-lie : (base step : ℕ) (word : ℕ → ℕ) (count low high : ℕ) → ((k : ℕ) → k < count → Lies base step word low high k) → Lie low high (spread base step word count)
unfolding spread
spread-lie base step word count low high each = run-lie base step word low high count 0 count each (omega arith)

value-cons : (a v : ℕ) (ps : List (ℕ × ℕ)) (x old : ℕ) → value_at ((a, v) ∷ ps) x old ≡ value_at ps x (if nat_eq a x then v else old)
unfolding value_at
value-cons a v ps x old = refl

not_here : (a v : ℕ) (ps : List (ℕ × ℕ)) (x old : ℕ) → a ≢ x → value_at ((a, v) ∷ ps) x old ≡ value_at ps x old
not_here a v ps x old n =
    value-cons a v ps x old
    ∙ ap (λ (b : Bool). value_at ps x (if b then v else old)) (differ a x n)

here : (a v : ℕ) (ps : List (ℕ × ℕ)) (x old : ℕ) → a ≡ x → value_at ((a, v) ∷ ps) x old ≡ value_at ps x v
here a v ps x old e =
    value-cons a v ps x old
    ∙ ap (λ (b : Bool). value_at ps x (if b then v else old)) (equal a x e)

value-none : (x old : ℕ) → value_at [] x old ≡ old
unfolding value_at
value-none x old = refl

run-off : (base step : ℕ) (word : ℕ → ℕ) (a n x old : ℕ) → ((k : ℕ) → a ≤ k → k < a + n → base + step * k ≢ x) → value_at (run base step word a n) x old ≡ old
run-off base step word a zero x old off = value-none x old
run-off base step word a (suc n) x old off =
    not_here (base + step * a) (word a) (run base step word (a + 1) n) x old (off a (omega arith) (omega arith))
    ∙ run-off base step word (a + 1) n x old (λ k l u. off k (omega arith) (omega arith))

run-at : (base step : ℕ) (word : ℕ → ℕ) (a n k old : ℕ) → ((i j : ℕ) → i ≢ j → base + step * i ≢ base + step * j) → a ≤ k → k < a + n → (a ≡ k) ⊎ ((a < k) ⊎ (k < a)) → value_at (run base step word a n) (base + step * k) old ≡ word k
run-at base step word a zero k old apart l u o = absurd (omega arith)
run-at base step word a (suc n) k old apart l u (inl e) =
    here (base + step * a) (word a) (run base step word (a + 1) n) (base + step * k) old (ap (λ (i : ℕ). base + step * i) e)
    ∙ run-off base step word (a + 1) n (base + step * k) (word a) (λ i li ui. apart i k (omega arith))
    ∙ ap word e
run-at base step word a (suc n) k old apart l u (inr (inl h)) =
    not_here (base + step * a) (word a) (run base step word (a + 1) n) (base + step * k) old (apart a k (omega arith))
    ∙ run-at base step word (a + 1) n k old apart (omega arith) (omega arith) (cases_order (a + 1) k)
run-at base step word a (suc n) k old apart l u (inr (inr h)) = absurd (omega arith)

pub spread-at : (base step : ℕ) (word : ℕ → ℕ) (count k old : ℕ) → ((i j : ℕ) → i ≢ j → base + step * i ≢ base + step * j) → k < count → value_at (spread base step word count) (base + step * k) old ≡ word k
unfolding spread
spread-at base step word count k old apart h =
    run-at base step word 0 count k old apart (omega arith) (omega arith) (cases_order 0 k)

pub spread-off : (base step : ℕ) (word : ℕ → ℕ) (count x old : ℕ) → ((k : ℕ) → base + step * k ≢ x) → value_at (spread base step word count) x old ≡ old
unfolding spread
spread-off base step word count x old off = run-off base step word 0 count x old (λ k l u. off k)

one_word : (m : List ℕ) (a v : ℕ) → written m ((a, v) ∷ []) ≡ put_word m a v
unfolding written
one_word m a v = refl

-- no word, and one word more
pub spread-none : (m : List ℕ) (base step : ℕ) (word : ℕ → ℕ) → written m (spread base step word 0) ≡ m
unfolding written spread
spread-none m base step word = refl

spread-more : (base step : ℕ) (word : ℕ → ℕ) (n : ℕ) → spread base step word (n + 1) ≡ spread base step word n ++ (base + step * n, word n) ∷ []
unfolding spread
spread-more base step word n = map-range_with_len_more (λ (k : ℕ). (base + step * k, word k)) 0 n n (omega arith)

pub spread-next : (m : List ℕ) (base step : ℕ) (word : ℕ → ℕ) (n : ℕ) → put_word (written m (spread base step word n)) (base + step * n) (word n) ≡ written m (spread base step word (n + 1))
spread-next m base step word n =
    sym (
    ap (λ (ps : List (ℕ × ℕ)). written m ps) (spread-more base step word n)
    ∙ written-append m (spread base step word n) ((base + step * n, word n) ∷ [])
    ∙ one_word (written m (spread base step word n)) (base + step * n) (word n)
    )

-- ---- instructions

pub spelled-lie : (a low high : ℕ) (ops : List Op) → All IsPlain ops → low ≤ a → a % 4 ≡ 0 → a + 8 * length ops ≤ high → Lie low high (spelled a ops)
unfolding spelled
spelled-lie a low high [] plain l m h = tt
spelled-lie a low high (op ∷ ops) plain l m h =
    let here = All-head IsPlain op ops plain in (
      l,
      omega arith,
      m,
      here.first,
      (omega arith, omega arith, omega arith, here.second, spelled-lie (a + 8) low high ops (All-tail IsPlain op ops plain) (omega arith) (omega arith) (omega arith)),
    )

pub last-word : (m : List ℕ) (ps : List (ℕ × ℕ)) (a v : ℕ) → written m (ps ++ (a, v) ∷ []) ≡ put_word (written m ps) a v
last-word m ps a v = written-append m ps ((a, v) ∷ []) ∙ one_word (written m ps) a v

pub written-spelled : (m : List ℕ) (a : ℕ) (ops : List Op) → written m (spelled a ops) ≡ put_ops m a ops
unfolding written spelled put_ops
written-spelled m a [] = refl
written-spelled m a (op ∷ ops) = written-spelled (put_op m a op) (a + 8) ops
