-- The tokens of a line. Source: own, the grammar of docs/SCRIPTS.md.
use Rattle.std.specs.Prelude.{◌≡◌, ℕ, ◌+◌, ◌*◌, nat_eq, nat_lt, nat_le, min, Bool, true, false, not, ◌||◌, ◌&&◌, if◌then◌else◌, List, [], ◌∷◌, ◌++◌, length, drop, take, map, filter, Option, Some, None, codes}
use Rattle.std.specs.Char.{is_ascii_alphanumeric, is_ascii_digit, digit_value, is_digit}
use Rattle.std.specs.List.{before_first, list_all, starts_with, prefix_len}
use Rattle.std.specs.Str.Parse.{digits_value}
use Rattle.scripts_forms.specs.declared.words.Word.{Word}
use Rattle.scripts_forms.specs.Words.{word_of, meant}

-- A number of more than 32 bits counts as 2 ^ 32, since each field is narrower. A mark is its byte.
pub data Token : Type 0 where
  Reserved : Word → Token
  Mark : ℕ → Token
  Number : ℕ → Token
  Name : List ℕ → Token
  Bad : Token

-- A letter, a digit or `_`.
abbrev pub in_run : ℕ → Bool
in_run b = is_ascii_alphanumeric b || nat_eq b 95

abbrev pub is_blank : ℕ → Bool
is_blank b = nat_eq b 32 || nat_eq b 9

-- One of : , | & + =
abbrev pub is_mark : ℕ → Bool
is_mark b = nat_eq b 58 || nat_eq b 44 || nat_eq b 124 || nat_eq b 38 || nat_eq b 43 || nat_eq b 61

-- The pieces of a text: each run of letters, digits and `_` as far as it goes, and each other byte.
abbrev pub first_in_run : List ℕ → Bool
first_in_run [] = false
first_in_run (b ∷ bs) = in_run b

abbrev pub onto : ℕ → List (List ℕ) → List (List ℕ)
onto b [] = (b ∷ []) ∷ []
onto b (piece ∷ pieces) = if in_run b && first_in_run piece then (b ∷ piece) ∷ pieces else (b ∷ []) ∷ piece ∷ pieces

abbrev pub pieces_of : List ℕ → List (List ℕ)
pieces_of [] = []
pieces_of (b ∷ bs) = onto b (pieces_of bs)

-- The number that digits of a radix write.
abbrev pub numeral : ℕ → List ℕ → Option ℕ
numeral radix [] = None
numeral radix (b ∷ bs) = if list_all (λ c. is_digit c radix) (b ∷ bs) then Some (min (digits_value radix (b ∷ bs)) 4294967296) else None

-- The same digit by digit, behind those of n.
abbrev pub numeral_after : ℕ → ℕ → List ℕ → Option ℕ
numeral_after radix n [] = Some n
numeral_after radix n (b ∷ bs) = if is_digit b radix then numeral_after radix (min (n * radix + digit_value b) 4294967296) bs else None

-- `0x` and hexadecimal digits, or decimal digits.
abbrev pub number_of : List ℕ → Option ℕ
number_of run = if starts_with nat_eq run (codes "0x") then numeral 16 (drop 2 run) else numeral 10 run

abbrev pub number_token : Option ℕ → Token
number_token None = Bad
number_token (Some n) = Number n

-- A run that is no reserved word is a name, of at most 31 characters.
abbrev pub word_token : Option Word → List ℕ → Token
word_token (Some w) run = Reserved (meant w)
word_token None run = if nat_le (length run) 31 then Name run else Bad

-- A run as a token: one that begins with a digit is a number.
unfoldable pub run_token : List ℕ → Token
run_token [] = Bad
run_token (b ∷ bs) = if is_ascii_digit b then number_token (number_of (b ∷ bs)) else word_token (word_of (b ∷ bs)) (b ∷ bs)

abbrev pub mark_token : ℕ → Token
mark_token b = if is_mark b then Mark b else Bad

-- A piece as a token.
abbrev pub token_of : List ℕ → Token
token_of [] = Bad
token_of (b ∷ bs) = if in_run b then run_token (b ∷ bs) else mark_token b

abbrev pub is_gap : List ℕ → Bool
is_gap [] = false
is_gap (b ∷ bs) = is_blank b

-- The tokens of a text without a comment.
unfoldable pub tokens_in : List ℕ → List Token
tokens_in text = map token_of (filter (λ piece. not (is_gap piece)) (pieces_of text))

-- The tokens of a line: those before the `;` of its comment.
abbrev pub tokens_of : List ℕ → List Token
tokens_of line = tokens_in (before_first (λ b. nat_eq b 59) line)
