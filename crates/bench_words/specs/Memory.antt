-- Host memory as a list of bytes, and words in it. A word is 32 bits in four bytes, the lowest first
-- (little-endian, as the SYM53C810A fetches them).
use Rattle.std.specs.Prelude.{◌≡◌, ℕ, zero, suc, ◌+◌, ◌*◌, ◌/◌, ◌%◌, List, [], ◌∷◌, length, slice_index, slice_set}

-- the bytes of words, the lowest byte of each word first
unfoldable pub bytes_of : List ℕ → List ℕ
bytes_of [] = []
bytes_of (w ∷ ws) = w % 256 ∷ w / 256 % 256 ∷ w / 65536 % 256 ∷ w / 16777216 % 256 ∷ bytes_of ws

-- the word at any address: its four bytes, the lowest first
unfoldable pub word_at : List ℕ → ℕ → ℕ
word_at bytes a =
    slice_index bytes a + 256 * slice_index bytes (suc a) + 65536 * slice_index bytes (suc (suc a))
    + 16777216 * slice_index bytes (suc (suc (suc a)))

-- memory after bytes were written, one after another, from an address on
unfoldable pub put_bytes : List ℕ → ℕ → List ℕ → List ℕ
put_bytes bytes a [] = bytes
put_bytes bytes a (b ∷ bs) = put_bytes (slice_set bytes a b) (suc a) bs

-- memory after a word was written at an address
unfoldable pub put_word : List ℕ → ℕ → ℕ → List ℕ
put_word bytes a w = put_bytes bytes a (w % 256 ∷ w / 256 % 256 ∷ w / 65536 % 256 ∷ w / 16777216 % 256 ∷ [])

-- so many bytes from an address on
unfoldable pub bytes_at : List ℕ → ℕ → ℕ → List ℕ
bytes_at bytes a zero = []
bytes_at bytes a (suc n) = slice_index bytes a ∷ bytes_at bytes (suc a) n

-- memory of so many bytes that are 0
pub record IsZero (bytes : List ℕ) (n : ℕ) : Type 0 where
  pub size : length bytes ≡ n
  pub zeros : (i : ℕ) → slice_index bytes i ≡ 0
