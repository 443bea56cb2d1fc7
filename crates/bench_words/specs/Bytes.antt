-- Bytes are numbers below 256, and stay so under each write.
use Rattle.std.specs.Prelude.{ℕ, ◌^◌, ◌<◌, List, slice_index, slice_set}
use Rattle.bench_words.specs.Memory.{bytes_of, word_at, put_bytes, put_word, bytes_at, IsZero}

-- every byte is below 256; past the end a byte reads as 0
pub record IsBytes (bytes : List ℕ) : Type 0 where
  pub below : (i : ℕ) → slice_index bytes i < 256

-- Words and zeros are bytes. The write of a byte, of bytes or of a word leaves bytes, a word whatever its number is.
pub record WritesKeepBytes : Type 0 where
  pub words : (words : List ℕ) → IsBytes (bytes_of words)
  pub zeros : (memory : List ℕ) (n : ℕ) → IsZero memory n → IsBytes memory
  pub byte : (memory : List ℕ) (a b : ℕ) → IsBytes memory → b < 256 → IsBytes (slice_set memory a b)
  pub bytes : (memory : List ℕ) (a : ℕ) (bs : List ℕ) → IsBytes memory → IsBytes bs → IsBytes (put_bytes memory a bs)
  pub word : (memory : List ℕ) (a w : ℕ) → IsBytes memory → IsBytes (put_word memory a w)

-- what is read from bytes: bytes, and a word below 2 ^ 32
pub record ReadsBytes : Type 0 where
  pub bytes : (memory : List ℕ) (a n : ℕ) → IsBytes memory → IsBytes (bytes_at memory a n)
  pub word : (memory : List ℕ) (a : ℕ) → IsBytes memory → word_at memory a < 2 ^ 32
