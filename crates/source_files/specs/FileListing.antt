-- The listing of a file. Source: own, the listing of docs/SCRIPTS.md.
use Rattle.std.specs.Prelude.{◌≡◌, ℕ, ◌+◌, ◌*◌, ◌/◌, ◌%◌, List, [], ◌∷◌, ◌++◌, length, codes}
use Rattle.std.specs.Char.{digit_char}
use Rattle.scripts_list.specs.Listing.{IsListing, word_text}
use Rattle.scripts_list.specs.Texts.{number_text}
use Rattle.source_files.specs.Images.{words_of, last_of}

-- The line of a byte that is in no word: its address, two blanks, two digits, two blanks, `.byte` and its number.
abbrev pub byte_front : ℕ → ℕ → List ℕ
byte_front address b = word_text address ++ 32 ∷ 32 ∷ digit_char (b / 16) ∷ digit_char (b % 16) ∷ []

abbrev pub byte_line : ℕ → ℕ → List ℕ
byte_line address b = byte_front address b ++ codes "  .byte " ++ number_text b ++ codes "\n"

abbrev pub byte_lines : ℕ → List ℕ → List ℕ
byte_lines address [] = []
byte_lines address (b ∷ bs) = byte_line address b ++ byte_lines (address + 1) bs

-- The listing of its words, the first at address 0, and the lines of the bytes behind them.
pub record IsFileListing (file text : List ℕ) : Type 0 where
  pub listing : List ℕ
  pub listed : IsListing 0 (words_of file) listing
  pub text_is : text ≡ listing ++ byte_lines (4 * length (words_of file)) (last_of file)
