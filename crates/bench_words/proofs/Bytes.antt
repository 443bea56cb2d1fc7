-- Bytes stay below 256.
use Rattle.std.proofs.Common.{ℕ, zero, suc, ◌/◌, ◌%◌, ◌^◌, ◌<◌, List, [], ◌∷◌, get_or, set, arith}
use Rattle.bench_words.specs.Memory.{bytes_of, word_at, put_bytes, put_word, bytes_at, IsZero}
use Rattle.bench_words.specs.Bytes.{IsBytes, WritesKeepBytes, ReadsBytes}

cons-below : (b : ℕ) (bs : List ℕ) (i : ℕ) → b < 256 → IsBytes bs → get_or (b ∷ bs) i 0 < 256
cons-below b bs zero h t = h
cons-below b bs (suc i) h t = t.below i

-- a byte in front of bytes
pub bytes-cons : (b : ℕ) (bs : List ℕ) → b < 256 → IsBytes bs → IsBytes (b ∷ bs)
bytes-cons b bs h t = record { below = λ i. cons-below b bs i h t }

pub bytes-nil : IsBytes []
bytes-nil = record { below = λ i. omega arith }

pub bytes-front : (b : ℕ) (bs : List ℕ) → IsBytes (b ∷ bs) → b < 256
bytes-front b bs h = h.below 0

pub bytes-rest : (b : ℕ) (bs : List ℕ) → IsBytes (b ∷ bs) → IsBytes bs
bytes-rest b bs h = record { below = λ i. h.below (suc i) }

digits : (w : ℕ) (bs : List ℕ) → IsBytes bs → IsBytes (w % 256 ∷ w / 256 % 256 ∷ w / 65536 % 256 ∷ w / 16777216 % 256 ∷ bs)
digits w bs t =
    bytes-cons (w % 256) (w / 256 % 256 ∷ w / 65536 % 256 ∷ w / 16777216 % 256 ∷ bs) (omega arith)
    (bytes-cons (w / 256 % 256) (w / 65536 % 256 ∷ w / 16777216 % 256 ∷ bs) (omega arith)
    (bytes-cons (w / 65536 % 256) (w / 16777216 % 256 ∷ bs) (omega arith)
    (bytes-cons (w / 16777216 % 256) bs (omega arith) t)))

pub bytes-bytes_of : (ws : List ℕ) → IsBytes (bytes_of ws)
unfolding bytes_of
bytes-bytes_of [] = bytes-nil
bytes-bytes_of (w ∷ ws) = digits w (bytes_of ws) (bytes-bytes_of ws)

pub bytes-zeros : (m : List ℕ) (n : ℕ) → IsZero m n → IsBytes m
bytes-zeros m n z = record { below = λ i. omega (arith, z.zeros i) }

set-below : (m : List ℕ) (a b i : ℕ) → IsBytes m → b < 256 → get_or (set m a b) i 0 < 256
set-below [] a b i m h = omega arith
set-below (x ∷ xs) zero b zero m h = h
set-below (x ∷ xs) zero b (suc i) m h = m.below (suc i)
set-below (x ∷ xs) (suc a) b zero m h = m.below 0
set-below (x ∷ xs) (suc a) b (suc i) m h = set-below xs a b i (bytes-rest x xs m) h

pub bytes-set : (m : List ℕ) (a b : ℕ) → IsBytes m → b < 256 → IsBytes (set m a b)
bytes-set m a b m-bytes h = record { below = λ i. set-below m a b i m-bytes h }

pub bytes-put_bytes : (m : List ℕ) (a : ℕ) (bs : List ℕ) → IsBytes m → IsBytes bs → IsBytes (put_bytes m a bs)
unfolding put_bytes
bytes-put_bytes m a [] h t = h
bytes-put_bytes m a (b ∷ bs) h t = bytes-put_bytes (set m a b) (suc a) bs (bytes-set m a b h (bytes-front b bs t)) (bytes-rest b bs t)

pub bytes-put_word : (m : List ℕ) (a w : ℕ) → IsBytes m → IsBytes (put_word m a w)
unfolding put_word
bytes-put_word m a w h = bytes-put_bytes m a (w % 256 ∷ w / 256 % 256 ∷ w / 65536 % 256 ∷ w / 16777216 % 256 ∷ []) h (digits w [] bytes-nil)

pub bytes-bytes_at : (m : List ℕ) (a n : ℕ) → IsBytes m → IsBytes (bytes_at m a n)
unfolding bytes_at
bytes-bytes_at m a zero h = bytes-nil
bytes-bytes_at m a (suc n) h = bytes-cons (get_or m a 0) (bytes_at m (suc a) n) (h.below a) (bytes-bytes_at m (suc a) n h)

pub word_at-below : (m : List ℕ) (a : ℕ) → IsBytes m → word_at m a < 2 ^ 32
unfolding word_at
word_at-below m a h = omega (arith, h.below a, h.below (suc a), h.below (suc (suc a)), h.below (suc (suc (suc a))))

pub writes_keep_bytes : WritesKeepBytes
writes_keep_bytes = record {
  words = bytes-bytes_of;
  zeros = bytes-zeros;
  byte = bytes-set;
  bytes = bytes-put_bytes;
  word = bytes-put_word;
}

pub reads_bytes : ReadsBytes
reads_bytes = record { bytes = bytes-bytes_at; word = word_at-below }
