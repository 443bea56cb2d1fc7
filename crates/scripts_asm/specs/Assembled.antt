-- What a text assembles to: the names that its lines give, then the words of its lines or the first fault.
-- Source: own, the rules of docs/SCRIPTS.md.
use Rattle.std.specs.Prelude.{◌≡◌, ℕ, ◌+◌, nat_le, nat_lt, Bool, true, false, not, ◌&&◌, ◌||◌, if◌then◌else◌, List, [], ◌∷◌, ◌++◌, length, Option, Some, None, is_some, option_map, Result, Ok, Err, bytes_eq}
use Rattle.scripts_ops.specs.declared.values.Op.{Op}
use Rattle.scripts_ops.specs.Table.{row, Row}
use Rattle.scripts_forms.specs.declared.shapes.Shape.{Shape}
use Rattle.scripts_forms.specs.declared.shapes.Shape.TheVariants.{MoveMemory}
use Rattle.scripts_forms.specs.declared.shapes.Item.{Item}
use Rattle.scripts_forms.specs.declared.shapes.Item.TheVariants as item
use Rattle.scripts_forms.specs.Tokens.{Token, Reserved, Mark, Number, Name, Bad}
use Rattle.scripts_forms.specs.Shapes.{items}
use Rattle.scripts_forms.specs.Lines.{Line, Body, Nothing, Absolute, Instruction, BadToken, BadForm}
use Rattle.scripts_asm.specs.declared.faults.Kind.{Kind}
use Rattle.scripts_asm.specs.declared.faults.Kind.TheVariants as kinds
use Rattle.scripts_asm.specs.declared.names.Giving.{Giving}
use Rattle.scripts_asm.specs.Ops.{Numbers, allowed, op_of}

-- ---- first pass: where each line stands, and the names that it gives

-- A line in the form of an instruction takes its bytes, whatever its registers and values; every other line none.
abbrev pub size_of_shape : Shape → ℕ
size_of_shape MoveMemory = 12
size_of_shape _ = 8

abbrev pub size_of : Body → ℕ
size_of (Instruction s vs) = size_of_shape s
size_of _ = 0

-- Names with their values, in the order of the text. An address is exact, also beyond 32 bits.
abbrev pub Names : Type 0
Names = List (List ℕ × ℕ)

abbrev pub label_given : Option (List ℕ) → ℕ → Names
label_given None a = []
label_given (Some name) a = (name, a) ∷ []

abbrev pub absolute_given : Body → Names
absolute_given (Absolute name n) = (name, n) ∷ []
absolute_given _ = []

-- What a line at an address gives: a label, then an ABSOLUTE.
abbrev pub given : ℕ → Line → Names
given a l = label_given l.label a ++ absolute_given l.body

abbrev pub names_from : ℕ → List Line → Names
names_from a [] = []
names_from a (l ∷ ls) = given a l ++ names_from (a + size_of l.body) ls

abbrev pub labels_from : ℕ → List Line → Names
labels_from a [] = []
labels_from a (l ∷ ls) = label_given l.label a ++ labels_from (a + size_of l.body) ls

-- Where a name is given first, and what it stands for. Places count all givings of the text.
abbrev pub Givings : Type 0
Givings = List ℕ → Option Giving

-- The first giving of a name, where the names have the places from k on.
abbrev pub first_giving : ℕ → Names → Givings
first_giving k [] name = None
first_giving k (g ∷ gs) name = if bytes_eq name g.0 then Some (record { place = k; value = g.1 }) else first_giving (k + 1) gs name

-- ---- second pass: values, faults and words

abbrev pub value_of : Givings → Token → Option ℕ
value_of first (Number n) = Some n
value_of first (Name name) = option_map (λ g. g.value) (first name)
value_of first _ = None

abbrev pub fits_in : ℕ → Option ℕ → Option ℕ
fits_in most None = None
fits_in most (Some n) = if nat_le n most then Some n else None

-- The numbers of the values that are known and fit their fields.
abbrev pub numbers : Givings → List Item → List Token → Numbers
numbers first [] vs = []
numbers first (item.Value most ∷ is) [] = []
numbers first (item.Value most ∷ is) (v ∷ vs) = fits_in most (value_of first v) ∷ numbers first is vs
numbers first (i ∷ is) vs = numbers first is vs

abbrev pub numbers_of : Givings → Body → Numbers
numbers_of first (Instruction s vs) = numbers first (items s) vs
numbers_of first _ = []

abbrev pub is_unknown : Givings → List Token → Bool
is_unknown first [] = false
is_unknown first (v ∷ vs) = not (is_some (value_of first v)) || is_unknown first vs

abbrev pub all_known : Numbers → Bool
all_known [] = true
all_known (n ∷ ns) = is_some n && all_known ns

abbrev pub is_bad_token : Body → Bool
is_bad_token BadToken = true
is_bad_token _ = false

-- No form, or one that the table doesn't allow with those of its numbers that are known.
abbrev pub has_bad_form : Body → Numbers → Bool
has_bad_form BadForm ns = true
has_bad_form (Instruction s vs) ns = not (allowed s ns)
has_bad_form _ ns = false

-- The names that a line gives.
abbrev pub label_name : Option (List ℕ) → List (List ℕ)
label_name None = []
label_name (Some name) = name ∷ []

abbrev pub absolute_name : Body → List (List ℕ)
absolute_name (Absolute name n) = name ∷ []
absolute_name _ = []

abbrev pub names_given : Line → List (List ℕ)
names_given l = label_name l.label ++ absolute_name l.body

-- A name at this place was given before.
abbrev pub is_again : ℕ → Option Giving → Bool
is_again k None = false
is_again k (Some g) = nat_lt g.place k

abbrev pub is_twice : Givings → ℕ → List (List ℕ) → Bool
is_twice first k [] = false
is_twice first k (name ∷ names) = is_again k (first name) || is_twice first (k + 1) names

abbrev pub has_unknown : Givings → Body → Bool
has_unknown first (Instruction s vs) = is_unknown first vs
has_unknown first _ = false

abbrev pub has_wide : Body → Numbers → Bool
has_wide (Absolute name n) ns = nat_le 4294967296 n
has_wide (Instruction s vs) ns = not (all_known ns)
has_wide _ ns = false

abbrev pub is_instruction : Body → Bool
is_instruction (Instruction s vs) = true
is_instruction _ = false

-- The fault of a line that counts, behind so many instructions; its names have the places from k on.
abbrev pub fault_by : Givings → ℕ → ℕ → Line → Numbers → Option Kind
fault_by first k count l ns =
    if is_bad_token l.body then Some kinds.BadToken else
    if has_bad_form l.body ns then Some kinds.BadForm else
    if is_twice first k (names_given l) then Some kinds.TwiceLabel else
    if has_unknown first l.body then Some kinds.UnknownLabel else
    if has_wide l.body ns then Some kinds.TooWide else
    if is_instruction l.body && nat_le 1024 count then Some kinds.TooLong else None

abbrev pub fault_of : Givings → ℕ → ℕ → Line → Option Kind
fault_of first k count l = fault_by first k count l (numbers_of first l.body)

abbrev pub third_word : Option ℕ → List ℕ
third_word None = []
third_word (Some w) = w ∷ []

-- The words of an instruction, by its row of the table.
abbrev pub words_of_op : Op → List ℕ
words_of_op op = (row op).first ∷ (row op).second ∷ third_word (row op).third

abbrev pub words_of : Body → Numbers → List ℕ
words_of (Instruction s vs) ns = words_of_op (op_of s ns)
words_of _ ns = []

-- The words of the lines, or the first fault with the number of its line.
abbrev pub Judged : Type 0
Judged = Result (List ℕ) (ℕ × Kind)

abbrev pub behind : List ℕ → Judged → Judged
behind ws (Ok more) = Ok (ws ++ more)
behind ws (Err e) = Err e

abbrev pub unless : Option Kind → ℕ → Judged → Judged
unless None n judged = judged
unless (Some kind) n judged = Err (n, kind)

abbrev pub one_if : Bool → ℕ
one_if true = 1
one_if false = 0

-- From line n on, behind so many instructions; the names have the places from k on.
abbrev pub judged : Givings → ℕ → ℕ → ℕ → List Line → Judged
judged first k count n [] = Ok []
judged first k count n (l ∷ ls) =
    unless (fault_of first k count l) n
    (behind (words_of l.body (numbers_of first l.body)) (judged first (k + length (names_given l)) (count + one_if (is_instruction l.body)) (n + 1) ls))

-- Lines count from 1.
abbrev pub assembled : List Line → Judged
assembled ls = judged (first_giving 0 (names_from 0 ls)) 0 0 1 ls
