-- What host memory holds after the straight script.
use Rattle.std.proofs.Common.{◌≡◌, ℕ, zero, suc, ◌+◌, ◌≤◌, inr, Bool, true, false, ◌&&◌, nat_le, List, [], ◌∷◌, length, get_or, replicate, refl, ap, sym, ◌∙◌, arith, lit≤}
use Rattle.std.proofs.lemmas.Bool.Decides.{nat_tests}
use Rattle.bench_words.specs.Memory.{put_bytes, put_word, bytes_at, IsZero}
use Rattle.bench_words.proofs.Cells.{put_bytes-nil}
use Rattle.bench_words.proofs.MemoryLaws.{length-put_bytes, byte_outside, byte_inside, bytes_apart, bytes_same}
use Rattle.straight_run.specs.Opening.{put_words, table, cdb, laid}
use Rattle.straight_run.proofs.LaidWords.{length-put_words}
use Rattle.one_target.specs.Reporting.{submitted}

-- words that lie before a range leave it
word_before : (m : List ℕ) (a w k n : ℕ) → a + 4 ≤ k → bytes_at (put_word m a w) k n ≡ bytes_at m k n
unfolding put_word
word_before m a w k n h = bytes_apart m a k n _ (inr h)

abbrev all_before : ℕ → List (ℕ × ℕ) → Bool
all_before k [] = true
all_before k (p ∷ ps) = nat_le (p.0 + 4) k && all_before k ps

first_before : (a b : Bool) → a && b ≡ true → a ≡ true
first_before true b h = refl
first_before false b h = h

rest_before : (a b : Bool) → a && b ≡ true → b ≡ true
rest_before true b h = h
rest_before false b h = cc

is_before : (a k : ℕ) → nat_le a k ≡ true → a ≤ k
is_before a k h = grind (arith, nat_tests)

words_before : (ps : List (ℕ × ℕ)) (m : List ℕ) (k n : ℕ) → all_before k ps ≡ true → bytes_at (put_words m ps) k n ≡ bytes_at m k n
unfolding put_words
words_before [] m k n h = refl
words_before (p ∷ ps) m k n h =
    words_before ps (put_word m p.0 p.1) k n (rest_before (nat_le (p.0 + 4) k) (all_before k ps) h)
    ∙ word_before m p.0 p.1 k n (is_before (p.0 + 4) k (first_before (nat_le (p.0 + 4) k) (all_before k ps) h))

zeros-at : (m : List ℕ) (a n : ℕ) → ((i : ℕ) → get_or m i 0 ≡ 0) → bytes_at m a n ≡ replicate n 0
unfolding bytes_at
zeros-at m a zero z = refl
zeros-at m a (suc n) z = rw (z a, zeros-at m (suc a) n z) refl

submitted-is : replicate 512 0 ≡ submitted
unfolding submitted
submitted-is = refl

-- the buffer of the opening
laid-buffer : (lba : ℕ) (m : List ℕ) → IsZero m 4194304 → bytes_at (laid lba m) 0x200000 512 ≡ submitted
laid-buffer lba m z =
    bytes_apart (put_words m table) 0x100f0 0x200000 512 (cdb lba) (inr (lit≤ tt))
    ∙ words_before table m 0x200000 512 refl
    ∙ zeros-at m 0x200000 512 z.zeros
    ∙ submitted-is

length-laid : (lba : ℕ) (m : List ℕ) → IsZero m 4194304 → length (laid lba m) ≡ 4194304
length-laid lba m z = length-put_bytes (put_words m table) 0x100f0 (cdb lba) ∙ length-put_words m table ∙ z.size

-- memory after data, a status and a message
abbrev pub memory_after : ℕ → List ℕ → ℕ → List ℕ → List ℕ
memory_after lba bytes status m = put_bytes (put_bytes (put_bytes (laid lba m) 0x200000 bytes) 0x10014 (status ∷ [])) 0x1010 (0 ∷ [])

pub length-after : (lba : ℕ) (bytes : List ℕ) (status : ℕ) (m : List ℕ) → IsZero m 4194304 → length (memory_after lba bytes status m) ≡ 4194304
length-after lba bytes status m z =
    length-put_bytes (put_bytes (put_bytes (laid lba m) 0x200000 bytes) 0x10014 (status ∷ [])) 0x1010 (0 ∷ [])
    ∙ length-put_bytes (put_bytes (laid lba m) 0x200000 bytes) 0x10014 (status ∷ [])
    ∙ length-put_bytes (laid lba m) 0x200000 bytes
    ∙ length-laid lba m z

pub status-after : (lba : ℕ) (bytes : List ℕ) (status : ℕ) (m : List ℕ) → IsZero m 4194304 → get_or (memory_after lba bytes status m) 0x10014 0 ≡ status
status-after lba bytes status m z =
    let held : List ℕ = put_bytes (laid lba m) 0x200000 bytes in
    let size : length held ≡ 4194304 = length-put_bytes (laid lba m) 0x200000 bytes ∙ length-laid lba m z in
    byte_outside (put_bytes held 0x10014 (status ∷ [])) 0x1010 0x10014 (0 ∷ []) (inr (lit≤ tt))
    ∙ byte_inside held 0x10014 0 (status ∷ []) (omega arith) (omega arith)

-- the buffer doesn't change after the data
buffer_kept : (lba : ℕ) (bytes : List ℕ) (status : ℕ) (m : List ℕ) → bytes_at (memory_after lba bytes status m) 0x200000 512 ≡ bytes_at (put_bytes (laid lba m) 0x200000 bytes) 0x200000 512
buffer_kept lba bytes status m =
    bytes_apart (put_bytes (put_bytes (laid lba m) 0x200000 bytes) 0x10014 (status ∷ [])) 0x1010 0x200000 512 (0 ∷ []) (inr (lit≤ tt))
    ∙ bytes_apart (put_bytes (laid lba m) 0x200000 bytes) 0x10014 0x200000 512 (status ∷ []) (inr (lit≤ tt))

pub buffer-read : (lba : ℕ) (bytes : List ℕ) (status : ℕ) (m : List ℕ) → IsZero m 4194304 → length bytes ≡ 512 → bytes_at (memory_after lba bytes status m) 0x200000 512 ≡ bytes
buffer-read lba bytes status m z l =
    let size : length (laid lba m) ≡ 4194304 = length-laid lba m z in
    let same : bytes_at (put_bytes (laid lba m) 0x200000 bytes) 0x200000 (length bytes) ≡ bytes = bytes_same (laid lba m) 0x200000 bytes (omega arith) in
    buffer_kept lba bytes status m ∙ ap (λ (n : ℕ). bytes_at (put_bytes (laid lba m) 0x200000 bytes) 0x200000 n) (sym l) ∙ same

pub buffer-refused : (lba : ℕ) (status : ℕ) (m : List ℕ) → IsZero m 4194304 → bytes_at (memory_after lba [] status m) 0x200000 512 ≡ submitted
buffer-refused lba status m z =
    buffer_kept lba [] status m
    ∙ ap (λ (x : List ℕ). bytes_at x 0x200000 512) (put_bytes-nil (laid lba m) 0x200000)
    ∙ laid-buffer lba m z
