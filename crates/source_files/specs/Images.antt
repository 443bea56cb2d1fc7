-- Words as the bytes of a file, four for each, the lowest first; and back. Source: own, the image of docs/SCRIPTS.md.
use Rattle.std.specs.Prelude.{◌≡◌, ℕ, ◌^◌, ◌<◌, List, [], ◌∷◌, ◌++◌, codes}
use Rattle.std.specs.Fmt.{decimal}
use Rattle.std.specs.Int.{w32, to_le_bytes, from_le_bytes}
use Rattle.std.specs.List.{AllByRecursion}

abbrev pub image_bytes : List ℕ → List ℕ
image_bytes [] = []
image_bytes (w ∷ ws) = to_le_bytes w32 w ++ image_bytes ws

abbrev pub words_of : List ℕ → List ℕ
words_of (a ∷ b ∷ c ∷ d ∷ bs) = from_le_bytes w32 (a ∷ b ∷ c ∷ d ∷ []) ∷ words_of bs
words_of _ = []

-- the bytes behind the last word, fewer than four
abbrev pub last_of : List ℕ → List ℕ
last_of (a ∷ b ∷ c ∷ d ∷ bs) = last_of bs
last_of bs = bs

-- what is printed of an image with so many words
abbrev pub words_line : ℕ → List ℕ
words_line count = codes "words " ++ decimal count ++ codes "\n"

-- The bytes of words are read as the same words, and none is left.
abbrev pub ReadsBack : Type 0
ReadsBack = (ws : List ℕ) → AllByRecursion (λ w. w < 2 ^ 32) ws → (words_of (image_bytes ws) ≡ ws) × (last_of (image_bytes ws) ≡ [])
