-- Words laid one after another, and what memory then reads.
use Rattle.std.proofs.Common.{◌≡◌, ◌≢◌, ℕ, ◌+◌, ◌%◌, ◌<◌, ◌≤◌, ◌⊎◌, Bool, true, false, ◌&&◌, nat_eq, nat_lt, cond, List, [], ◌∷◌, ◌++◌, length, get_or, drop, refl, ap, ◌∙◌, arith, IsTrue}
use Rattle.std.proofs.lemmas.List.{drop_more}
use Rattle.std.proofs.lemmas.Bool.Decides.{nat_tests}
use Rattle.bench_words.specs.Memory.{word_at, put_word}
use Rattle.bench_words.proofs.MemoryLaws.{length-put_word, word_apart, word_same}
use Rattle.straight_run.specs.Opening.{put_words, all_fit}

pub put_words-cons : (m : List ℕ) (p : ℕ × ℕ) (ps : List (ℕ × ℕ)) → put_words m (p ∷ ps) ≡ put_words (put_word m p.0 p.1) ps
unfolding put_words
put_words-cons m p ps = refl

pub put_words-nil : (m : List ℕ) → put_words m [] ≡ m
unfolding put_words
put_words-nil m = refl

pub put_words-append : (m : List ℕ) (ps qs : List (ℕ × ℕ)) → put_words m (ps ++ qs) ≡ put_words (put_words m ps) qs
unfolding put_words
put_words-append m [] qs = refl
put_words-append m (p ∷ ps) qs = put_words-append (put_word m p.0 p.1) ps qs

pub put_words-one : (m : List ℕ) (a w : ℕ) → put_words m ((a, w) ∷ []) ≡ put_word m a w
unfolding put_words
put_words-one m a w = refl

pub length-put_words : (m : List ℕ) (ps : List (ℕ × ℕ)) → length (put_words m ps) ≡ length m
unfolding put_words
length-put_words m [] = refl
length-put_words m (p ∷ ps) = length-put_words (put_word m p.0 p.1) ps ∙ length-put_word m p.0 p.1

and_right : (a b : Bool) → a && b ≡ true → b ≡ true
and_right true b h = h
and_right false b h = cc

and_left : (a b : Bool) → a && b ≡ true → a ≡ true
and_left true b h = refl
and_left false b h = h

pub put_words_step : (m : List ℕ) (i : ℕ) (ps : List (ℕ × ℕ)) → i < length ps → put_words m (drop i ps) ≡ put_words (put_word m (get_or ps i (0, 0)).0 (get_or ps i (0, 0)).1) (drop (i + 1) ps)
put_words_step m i ps h = rw (drop_more ps i (0, 0) h) (put_words-cons m (get_or ps i (0, 0)) (drop (i + 1) ps))

pub all_fit_step : (n i : ℕ) (ps : List (ℕ × ℕ)) → i < length ps → IsTrue (all_fit n (drop i ps)) → IsTrue (all_fit n (drop (i + 1) ps))
all_fit_step n i ps h f =
    let e : drop i ps ≡ get_or ps i (0, 0) ∷ drop (i + 1) ps = drop_more ps i (0, 0) h in
    and_right (nat_eq ((get_or ps i (0, 0)).0 % 4) 0 && nat_lt (get_or ps i (0, 0)).0 n) (all_fit n (drop (i + 1) ps)) (rw e at f)

-- what a table has at an address, the last word that it has there, or d
abbrev pub looked : List (ℕ × ℕ) → ℕ → ℕ → ℕ
looked [] a d = d
looked (p ∷ ps) a d = looked ps a (cond (nat_eq p.0 a) p.1 d)

-- each word of the table is a word
abbrev pub all_words : List (ℕ × ℕ) → Bool
all_words [] = true
all_words (p ∷ ps) = nat_lt p.1 4294967296 && all_words ps

aligned_apart : (a k : ℕ) → a % 4 ≡ 0 → k % 4 ≡ 0 → a ≢ k → (k + 4 ≤ a) ⊎ (a + 4 ≤ k)
aligned_apart a k x y n = grind arith

one_word : (m : List ℕ) (p : ℕ × ℕ) (k : ℕ) → k % 4 ≡ 0 → (b : Bool) → nat_eq p.0 k ≡ b → IsTrue (nat_eq (p.0 % 4) 0 && nat_lt p.0 (length m)) → length m % 4 ≡ 0 → p.1 < 4294967296 →
    word_at (put_word m p.0 p.1) k ≡ cond b p.1 (word_at m k)
one_word m p k h true e f l w =
    let same : p.0 ≡ k = grind (arith, nat_tests) in
    let inside : p.0 < length m = grind (arith, nat_tests) in
    rw (← same) (word_same m p.0 p.1 (omega arith) w)
one_word m p k h false e f l w =
    let other : p.0 ≢ k = grind (arith, nat_tests) in
    let al : p.0 % 4 ≡ 0 = grind (arith, nat_tests) in
    word_apart m p.0 k p.1 (aligned_apart p.0 k al h other)

pub word_at-put_words : (ps : List (ℕ × ℕ)) (m : List ℕ) (k : ℕ) → k % 4 ≡ 0 → length m % 4 ≡ 0 → IsTrue (all_fit (length m) ps) → IsTrue (all_words ps) → word_at (put_words m ps) k ≡ looked ps k (word_at m k)
unfolding put_words
word_at-put_words [] m k h l f w = refl
word_at-put_words (p ∷ ps) m k h l f w =
    let size : length (put_word m p.0 p.1) ≡ length m = length-put_word m p.0 p.1 in
    let here : IsTrue (nat_eq (p.0 % 4) 0 && nat_lt p.0 (length m)) = and_left (nat_eq (p.0 % 4) 0 && nat_lt p.0 (length m)) (all_fit (length m) ps) f in
    let rest : IsTrue (all_fit (length m) ps) = and_right (nat_eq (p.0 % 4) 0 && nat_lt p.0 (length m)) (all_fit (length m) ps) f in
    let word : nat_lt p.1 4294967296 ≡ true = and_left (nat_lt p.1 4294967296) (all_words ps) w in
    let small : p.1 < 4294967296 = grind (arith, nat_tests) in
    word_at-put_words ps (put_word m p.0 p.1) k h (rw size l) (rw size rest) (and_right (nat_lt p.1 4294967296) (all_words ps) w)
    ∙ ap (λ (d : ℕ). looked ps k d) (one_word m p k h (nat_eq p.0 k) refl here l small)
