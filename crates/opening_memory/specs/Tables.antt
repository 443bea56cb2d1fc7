-- Tables of words: pairs of an address and a word, and memory after such words were written (own).
use Rattle.std.specs.Prelude.{ℕ, ◌+◌, ◌*◌, nat_eq, if◌then◌else◌, List, [], ◌∷◌, map}
use Rattle.std.specs.List.{range_with_len}
use Rattle.bench_words.specs.Memory.{put_word}
use Rattle.scripts_ops.specs.Table.{row}
use Rattle.scripts_ops.specs.declared.values.Op.{Op}

-- the word at an address that had `old` before the words of a table were written: the last one for this address counts
unfoldable pub value_at : List (ℕ × ℕ) → ℕ → ℕ → ℕ
value_at [] x old = old
value_at (p ∷ ps) x old = value_at ps x (if nat_eq p.0 x then p.1 else old)

-- memory after the words of a table were written, one after another
unfoldable pub written : List ℕ → List (ℕ × ℕ) → List ℕ
written m [] = m
written m (p ∷ ps) = written (put_word m p.0 p.1) ps

-- so many words at equal distances from an address on, each by its number
unfoldable pub spread : ℕ → ℕ → (ℕ → ℕ) → ℕ → List (ℕ × ℕ)
spread base step word count = map (λ (n : ℕ). (base + step * n, word n)) (range_with_len 0 count)

-- the words of instructions of two words, one behind the other from an address on
unfoldable pub spelled : ℕ → List Op → List (ℕ × ℕ)
spelled a [] = []
spelled a (op ∷ ops) = (a, (row op).first) ∷ (a + 4, (row op).second) ∷ spelled (a + 8) ops
