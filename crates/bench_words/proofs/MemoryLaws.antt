-- What memory reads after a write: laws over lists of bytes, for the crates above.
use Rattle.std.proofs.Common.{◌≡◌, ◌≢◌, ◌++◌, ℕ, zero, suc, ◌+◌, ◌/◌, ◌%◌, ◌^◌, ◌<◌, ◌≤◌, ◌⊎◌, inl, List, [], ◌∷◌, length, get_or, set, refl, ◌∙◌, arith, add-zero, get_or-set_same, get_or-set_other, length-set}
use Rattle.bench_words.specs.Memory.{word_at, put_word, put_bytes, bytes_at}
use Rattle.bench_words.specs.Views.{Apart, Outside, Wrote, WroteWithin}

pub length-put_bytes : (m : List ℕ) (a : ℕ) (bs : List ℕ) → length (put_bytes m a bs) ≡ length m
unfolding put_bytes
length-put_bytes m a [] = refl
length-put_bytes m a (b ∷ bs) = length-put_bytes (set m a b) (suc a) bs ∙ length-set m a b

pub length-put_word : (m : List ℕ) (a w : ℕ) → length (put_word m a w) ≡ length m
unfolding put_word
length-put_word m a w = length-put_bytes m a (w % 256 ∷ w / 256 % 256 ∷ w / 65536 % 256 ∷ w / 16777216 % 256 ∷ [])

-- a byte outside what was written
pub byte_outside : (m : List ℕ) (a k : ℕ) (bs : List ℕ) → (k < a) ⊎ (a + length bs ≤ k) → get_or (put_bytes m a bs) k 0 ≡ get_or m k 0
unfolding put_bytes
byte_outside m a k [] h = refl
byte_outside m a k (b ∷ bs) h =
    let apart : k ≢ a = omega arith in
    byte_outside (set m a b) (suc a) k bs (grind arith) ∙ get_or-set_other m a k b 0 apart

-- a byte of what was written
pub byte_inside : (m : List ℕ) (a i : ℕ) (bs : List ℕ) → a + length bs ≤ length m → i < length bs → get_or (put_bytes m a bs) (a + i) 0 ≡ get_or bs i 0
unfolding put_bytes
byte_inside m a i [] fits h = absurd (omega arith)
byte_inside m a zero (b ∷ bs) fits h =
    rw add-zero (byte_outside (set m a b) (suc a) a bs (inl (omega arith)) ∙ get_or-set_same m a b 0 (omega arith))
byte_inside m a (suc i) (b ∷ bs) fits h =
    let e : a + suc i ≡ suc a + i = omega arith in
    rw e (byte_inside (set m a b) (suc a) i bs (omega (arith, length-set m a b)) (omega arith))

-- a word apart from what was written
pub word_outside : (m : List ℕ) (a k : ℕ) (bs : List ℕ) → (k + 4 ≤ a) ⊎ (a + length bs ≤ k) → word_at (put_bytes m a bs) k ≡ word_at m k
unfolding word_at
word_outside m a k bs h =
    rw (byte_outside m a k bs (grind arith), byte_outside m a (suc k) bs (grind arith), byte_outside m a (suc (suc k)) bs (grind arith), byte_outside m a (suc (suc (suc k))) bs (grind arith)) refl

pub word_apart : (m : List ℕ) (a k w : ℕ) → (k + 4 ≤ a) ⊎ (a + 4 ≤ k) → word_at (put_word m a w) k ≡ word_at m k
unfolding put_word
word_apart m a k w h = word_outside m a k (w % 256 ∷ w / 256 % 256 ∷ w / 65536 % 256 ∷ w / 16777216 % 256 ∷ []) h

pub word_same : (m : List ℕ) (a w : ℕ) → a + 4 ≤ length m → w < 2 ^ 32 → word_at (put_word m a w) a ≡ w
unfolding word_at put_word
word_same m a w fits h =
    let bs : List ℕ = w % 256 ∷ w / 256 % 256 ∷ w / 65536 % 256 ∷ w / 16777216 % 256 ∷ [] in
    let e0 : get_or (put_bytes m a bs) a 0 ≡ w % 256 = rw add-zero at (byte_inside m a 0 bs fits (omega arith)) in
    let n1 : a + 1 ≡ suc a = omega arith in
    let n2 : a + 2 ≡ suc (suc a) = omega arith in
    let n3 : a + 3 ≡ suc (suc (suc a)) = omega arith in
    let e1 : get_or (put_bytes m a bs) (suc a) 0 ≡ w / 256 % 256 = rw n1 at (byte_inside m a 1 bs fits (omega arith)) in
    let e2 : get_or (put_bytes m a bs) (suc (suc a)) 0 ≡ w / 65536 % 256 = rw n2 at (byte_inside m a 2 bs fits (omega arith)) in
    let e3 : get_or (put_bytes m a bs) (suc (suc (suc a))) 0 ≡ w / 16777216 % 256 = rw n3 at (byte_inside m a 3 bs fits (omega arith)) in
    rw (e0, e1, e2, e3) (omega arith)

bytes_at-same : (m n : List ℕ) (a k : ℕ) → ((i : ℕ) → i < k → get_or m (a + i) 0 ≡ get_or n (a + i) 0) → bytes_at m a k ≡ bytes_at n a k
unfolding bytes_at
bytes_at-same m n a zero h = refl
bytes_at-same m n a (suc k) h =
    let here : get_or m a 0 ≡ get_or n a 0 = rw add-zero at (h 0 (omega arith)) in
    let rest : bytes_at m (suc a) k ≡ bytes_at n (suc a) k =
    bytes_at-same m n (suc a) k (λ i b. let e : a + suc i ≡ suc a + i = omega arith in rw e at (h (suc i) (omega arith))) in
    cc (here, rest)

apart_from : (m : List ℕ) (a k n : ℕ) (bs : List ℕ) → (k + n ≤ a) ⊎ (a + length bs ≤ k) → (i : ℕ) → i < n → (k + i < a) ⊎ (a + length bs ≤ k + i)
apart_from m a k n bs h i b = grind arith

pub bytes_apart : (m : List ℕ) (a k n : ℕ) (bs : List ℕ) → (k + n ≤ a) ⊎ (a + length bs ≤ k) → bytes_at (put_bytes m a bs) k n ≡ bytes_at m k n
bytes_apart m a k n bs h = bytes_at-same (put_bytes m a bs) m k n (λ i b. byte_outside m a (k + i) bs (apart_from m a k n bs h i b))

pub bytes_same : (m : List ℕ) (a : ℕ) (bs : List ℕ) → a + length bs ≤ length m → bytes_at (put_bytes m a bs) a (length bs) ≡ bs
unfolding put_bytes bytes_at
bytes_same m a [] h = refl
bytes_same m a (b ∷ bs) h =
    let here : get_or (put_bytes (set m a b) (suc a) bs) a 0 ≡ b = byte_outside (set m a b) (suc a) a bs (inl (omega arith)) ∙ get_or-set_same m a b 0 (omega arith) in
    let rest : bytes_at (put_bytes (set m a b) (suc a) bs) (suc a) (length bs) ≡ bs = bytes_same (set m a b) (suc a) bs (omega (arith, length-set m a b)) in
    cc (here, rest)

-- two writes in a row
pub put_bytes-put_bytes : (m : List ℕ) (a : ℕ) (bs cs : List ℕ) → put_bytes (put_bytes m a bs) (a + length bs) cs ≡ put_bytes m a (bs ++ cs)
unfolding put_bytes
put_bytes-put_bytes m a [] cs = rw add-zero refl
put_bytes-put_bytes m a (b ∷ bs) cs =
    let e : a + suc (length bs) ≡ suc a + length bs = omega arith in
    rw e (put_bytes-put_bytes (set m a b) (suc a) bs cs)

-- ---- one byte

pub length-set_byte : (m : List ℕ) (a b : ℕ) → length (set m a b) ≡ length m
length-set_byte m a b = length-set m a b

-- a word apart from the byte that was written
pub word-set_outside : (m : List ℕ) (a b k : ℕ) → (k + 4 ≤ a) ⊎ (a + 1 ≤ k) → word_at (set m a b) k ≡ word_at m k
unfolding word_at
word-set_outside m a b k h =
    let n0 : k ≢ a = omega arith in
    let n1 : suc k ≢ a = omega arith in
    let n2 : suc (suc k) ≢ a = omega arith in
    let n3 : suc (suc (suc k)) ≢ a = omega arith in
    rw (get_or-set_other m a k b 0 n0, get_or-set_other m a (suc k) b 0 n1, get_or-set_other m a (suc (suc k)) b 0 n2, get_or-set_other m a (suc (suc (suc k))) b 0 n3) refl

-- the word whose lowest byte was written has the new byte in place of the old one
pub word-set_lowest : (m : List ℕ) (a b : ℕ) → a < length m → word_at (set m a b) a + get_or m a 0 ≡ word_at m a + b
unfolding word_at
word-set_lowest m a b h =
    let n1 : suc a ≢ a = omega arith in
    let n2 : suc (suc a) ≢ a = omega arith in
    let n3 : suc (suc (suc a)) ≢ a = omega arith in
    rw (get_or-set_same m a b 0 h, get_or-set_other m a (suc a) b 0 n1, get_or-set_other m a (suc (suc a)) b 0 n2, get_or-set_other m a (suc (suc (suc a))) b 0 n3) (omega arith)

-- ---- views by words

apart_cases : (a k : ℕ) → Apart a k → (k + 4 ≤ a) ⊎ (a + 4 ≤ k)
apart_cases a k h = grind arith

outside_cases : (k low high : ℕ) → Outside k low high → (k + 4 ≤ low) ⊎ (high ≤ k)
outside_cases k low high h = grind arith

pub wrote-put_word : (m : List ℕ) (a w : ℕ) → a + 4 ≤ length m → w < 2 ^ 32 → Wrote (word_at m) (word_at (put_word m a w)) a w
wrote-put_word m a w fits h = record { same = word_same m a w fits h; other = λ x apart. word_apart m a x w (apart_cases a x apart) }

pub wrote-put_bytes : (m : List ℕ) (a : ℕ) (bs : List ℕ) → WroteWithin (word_at m) (word_at (put_bytes m a bs)) a (a + length bs)
wrote-put_bytes m a bs = record { other = λ x out. word_outside m a x bs (outside_cases x a (a + length bs) out) }

pub wrote-set_byte : (m : List ℕ) (a b : ℕ) → WroteWithin (word_at m) (word_at (set m a b)) a (a + 1)
wrote-set_byte m a b = record { other = λ x out. word-set_outside m a b x (outside_cases x a (a + 1) out) }
