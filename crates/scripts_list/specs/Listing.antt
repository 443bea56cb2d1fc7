-- The listing of words: a relation. Source: own, the listing of docs/SCRIPTS.md.
use Rattle.std.specs.Prelude.{◌≡◌, ℕ, ◌+◌, ◌*◌, ◌/◌, ◌%◌, nat_eq, nat_lt, Bool, true, false, if◌then◌else◌, List, [], ◌∷◌, ◌++◌, length, drop, codes, flat_map, zero, suc}
use Rattle.std.specs.Char.{digit_char}
use Rattle.scripts_ops.specs.declared.values.Op.{Op}
use Rattle.scripts_ops.specs.Table.{row}
use Rattle.scripts_asm.specs.Assembled.{words_of_op}
use Rattle.std.specs.List.{AllByRecursion}
use Rattle.scripts_list.specs.Texts.{text_of, number_text}
use Rattle.scripts_list.specs.RoundTrip.{IsSpelled, words_of_ops}

-- Eight hexadecimal digits.
unfoldable pub word_text : ℕ → List ℕ
word_text n = digit_char (n / 0x10000000 % 16) ∷ digit_char (n / 0x1000000 % 16) ∷ digit_char (n / 0x100000 % 16) ∷ digit_char (n / 0x10000 % 16) ∷ digit_char (n / 0x1000 % 16) ∷ digit_char (n / 0x100 % 16) ∷ digit_char (n / 0x10 % 16) ∷ digit_char (n % 16) ∷ []

-- Words, each behind a blank.
abbrev pub words_text : List ℕ → List ℕ
words_text [] = []
words_text (w ∷ ws) = 32 ∷ word_text w ++ words_text ws

-- A line: the address, two blanks, the words, two blanks, the text, a line feed.
unfoldable pub line : ℕ → List ℕ → List ℕ → List ℕ
line address words text = word_text address ++ 32 ∷ words_text words ++ 32 ∷ 32 ∷ text ++ 10 ∷ []

-- The text part of a word that begins no instruction.
abbrev pub word_part : ℕ → List ℕ
word_part w = codes ".word " ++ number_text w

-- An instruction begins here.
pub record Starts (words : List ℕ) (op : Op) : Type 0 where
  pub fields : (row op).fields
  pub rest : List ℕ
  pub words_are : words ≡ words_of_op op ++ rest

-- From an address on, these words have this listing: a line for each instruction that begins, and one for each word
-- where none begins.
pub data IsListing : ℕ → List ℕ → List ℕ → Type 0 where
  ends : {a : ℕ} → IsListing a [] []
  shows : {a : ℕ} {rest text : List ℕ} (op : Op) → (row op).fields → IsListing (a + 4 * length (words_of_op op)) rest text → IsListing a (words_of_op op ++ rest) (line a (words_of_op op) (text_of op) ++ text)
  word : {a w : ℕ} {rest text : List ℕ} → ((op : Op) → Starts (w ∷ rest) op → ⊥) → IsListing (a + 4) rest text → IsListing a (w ∷ rest) (line a (w ∷ []) (word_part w) ++ text)

-- A line is put to the text, and what is listed behind it is listed with it.
abbrev pub Adds : ℕ → List ℕ → ℕ → List ℕ → List ℕ → Type 0
Adds a words shown old new = (text : List ℕ) → IsListing (a + 4 * shown) (drop shown words) text → (more : List ℕ) × (new ++ text ≡ old ++ more) × IsListing a words more

-- A line for each instruction.
abbrev pub listed : ℕ → List Op → List ℕ
listed a [] = []
listed a (op ∷ ops) = line a (words_of_op op) (text_of op) ++ listed (a + 4 * length (words_of_op op)) ops

-- The words of instructions have one listing, whose text parts are their texts.
abbrev pub ListsAll : Type 0
ListsAll = (ops : List Op) → AllByRecursion IsSpelled ops → (text : List ℕ) → IsListing 0 (words_of_ops ops) text → text ≡ listed 0 ops
