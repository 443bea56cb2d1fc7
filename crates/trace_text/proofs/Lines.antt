-- A line that is read is spelled so, and what is spelled so is read.
use Rattle.std.proofs.Common.{◌≡◌, ℕ, ◌+◌, ◌*◌, ◌/◌, ◌%◌, ◌^◌, ◌<◌, ◌≤◌, Bool, true, false, cond, eqb, ltb, leb, ◌&&◌, ◌||◌, not, List, [], ◌∷◌, ◌++◌, length, get_or, Option, Some, None, option_map, refl, sym, ap, subst, ◌∙◌, rules, arith, inl, inr, append_assoc}
use Rattle.std.specs.Prelude.{unwrap_or, option_and_then}
use Rattle.std.specs.Fmt.{decimal}
use Rattle.std.specs.Char.{is_ascii_digit}
use Rattle.std.specs.Str.{all_ascii_digits, bytes_eq}
use Rattle.std.proofs.lemmas.Bool.{cases_Bool, cases_lt, eqb-true, eq-eqb, lt-ltb, ltb-true, leb-true, le-ltb, and_parts}
use Rattle.std.proofs.lemmas.Bool.Decides.{nat_tests}
use Rattle.std.proofs.lemmas.Slice.Eq.{bytes_eq-Decides}
use Rattle.std.proofs.lemmas.Str.Parse.{IsNumeralModel, numerals_by_fold}
use Rattle.std.proofs.lemmas.Fmt.{decimal-digits_value, digits_decimal, digits_value-decimal, decimal_nonempty, first_decimal, decimal_digit}
use Rattle.rig_types.specs.declared.step.Step.{Step}
use Rattle.rig_types.specs.declared.step.Step.TheVariants.{Build, Link, Queue, Signal, Chip, Fix, Sweep, Restart, TakeDone, Unlink, Free, Act, ResetBus, Sense}
use Rattle.trace_text.specs.declared.types.TraceLine.{TraceLine}
use Rattle.trace_text.specs.Grammar.{hex_digit, hex_8, step_text, line_caller, StepFits, IsLine}
use Rattle.trace_text.specs.Reading.{value_after, digits_in, is_plain, number_in, digit_value, word_value, word_in, split_in, silent, bare_in, numbered_in, build_at, build_in, worded_in, line_in}

own : IsNumeralModel (λ ds. all_ascii_digits ds ≡ true) (value_after 0)
own = numerals_by_fold _ (search rules) value_after (search rules)

-- ---- options

abbrev pub some : {A : Type 0} → A → Option A
some x = Some x

pub map_some : {A B : Type 0} (f : A → B) (o : Option A) (y : B) → option_map f o ≡ Some y → (x : A) × (o ≡ Some x) × (f x ≡ y)
map_some f None y e = absurd cc
map_some f (Some x) y e = (x, refl, cc)

pub then_some : {A B : Type 0} (f : A → Option B) (o : Option A) (y : B) → option_and_then f o ≡ Some y → (x : A) × (o ≡ Some x) × (f x ≡ Some y)
then_some f None y e = absurd cc
then_some f (Some x) y e = (x, refl, e)

pub guard_some : {A : Type 0} (b : Bool) (x y : A) → cond b (Some x) None ≡ Some y → (b ≡ true) × (x ≡ y)
guard_some true x y e = (refl, cc)
guard_some false x y e = absurd cc

guard_then : {A : Type 0} (b : Bool) (o : Option A) (y : A) → cond b o None ≡ Some y → (b ≡ true) × (o ≡ Some y)
guard_then true o y e = (refl, e)
guard_then false o y e = absurd cc

-- ---- numbers

if_so : (a b : Bool) → (not a || b) ≡ true → a ≡ true → b ≡ true
if_so true b h e = h
if_so false b h e = absurd cc

pub number_takes : (bs : List ℕ) (n : ℕ) → number_in bs ≡ Some n → (bs ≡ decimal n) × (n < 2 ^ 32)
number_takes bs n e =
    let g = guard_then (is_plain bs) (digits_in bs) n e in
    let d = guard_some (all_ascii_digits bs && ltb (value_after 0 bs) (2 ^ 32)) (value_after 0 bs) n g.1 in
    let parts = and_parts (all_ascii_digits bs) (ltb (value_after 0 bs) (2 ^ 32)) d.0 in
    let small : value_after 0 bs < 2 ^ 32 = ltb-true _ _ parts.1 in
    let plain = and_parts (ltb 0 (length bs)) (not (eqb (get_or bs 0 0) 48) || eqb (length bs) 1) g.0 in
    let some : 0 < length bs = ltb-true _ _ plain.0 in
    let one : get_or bs 0 0 ≡ 48 → length bs ≡ 1 = λ z. eqb-true _ _ (if_so _ _ plain.1 (eq-eqb _ _ z)) in
    let back : decimal (value_after 0 bs) ≡ bs = decimal-digits_value own bs parts.0 some one (omega arith) in
    (sym back ∙ ap decimal d.1, omega (arith, d.1))

is_plain_when : (a b : Bool) (x : Bool) → a ≡ true → ((b ≡ true) → x ≡ true) → (a && (not b || x)) ≡ true
is_plain_when true true x ha hb = hb refl
is_plain_when true false x ha hb = refl
is_plain_when false b x ha hb = absurd cc

plain_decimal : (n : ℕ) → n < 2 ^ 64 → get_or (decimal n) 0 0 ≡ 48 → length (decimal n) ≡ 1
plain_decimal n lt e =
    elim (cases_lt 0 n) [
      | inl some ↦ absurd (omega (arith, first_decimal n some lt))
      | inr none ↦ ap length (decimal_digit n (omega arith))
    ]

pub number_again : (n : ℕ) → n < 2 ^ 32 → number_in (decimal n) ≡ Some n
number_again n lt =
    let wide : n < 2 ^ 64 = omega arith in
    let plain : is_plain (decimal n) ≡ true = is_plain_when (ltb 0 (length (decimal n))) (eqb (get_or (decimal n) 0 0) 48) (eqb (length (decimal n)) 1) (lt-ltb _ _ (decimal_nonempty n wide)) (λ z. eq-eqb _ _ (plain_decimal n wide (eqb-true _ _ z))) in
    let digits : all_ascii_digits (decimal n) ≡ true = digits_decimal own n wide in
    let value : value_after 0 (decimal n) ≡ n = digits_value-decimal own n wide in
    let small : ltb (value_after 0 (decimal n)) (2 ^ 32) ≡ true = lt-ltb _ _ (omega (arith, value)) in
    rw (plain, digits, small, value) refl

-- ---- words

digit_value-hex_digit : (d : ℕ) → d < 16 → digit_value (hex_digit d) ≡ d
digit_value-hex_digit d lt =
    elim (cases_lt d 10) [
      | inl low ↦ let a : ltb d 10 ≡ true = lt-ltb _ _ low in let b : ltb (48 + d) 97 ≡ true = lt-ltb _ _ (omega arith) in rw (a, b) (omega arith)
      | inr high ↦ let a : ltb d 10 ≡ false = le-ltb _ _ high in let b : ltb (87 + d) 97 ≡ false = le-ltb _ _ (omega arith) in rw (a, b) (omega arith)
    ]

digit_value_small : (b : ℕ) → digit_value b < 16
digit_value_small b = elim (cases_Bool (ltb b 97)) [ inl low ↦ rw low (omega arith) | inr high ↦ rw high (omega arith) ]

word_small : (a b c d e f g h : ℕ) → a < 16 → b < 16 → c < 16 → d < 16 → e < 16 → f < 16 → g < 16 → h < 16 → (((a * 16 + b) * 16 + c) * 16 + d) * 65536 + (((e * 16 + f) * 16 + g) * 16 + h) < 2 ^ 32
word_small a b c d e f g h ha hb hc hd he hf hg hh = omega arith

word_value_small : (bs : List ℕ) → word_value bs < 2 ^ 32
word_value_small bs = word_small _ _ _ _ _ _ _ _ (digit_value_small (get_or bs 0 0)) (digit_value_small (get_or bs 1 0)) (digit_value_small (get_or bs 2 0)) (digit_value_small (get_or bs 3 0)) (digit_value_small (get_or bs 4 0)) (digit_value_small (get_or bs 5 0)) (digit_value_small (get_or bs 6 0)) (digit_value_small (get_or bs 7 0))

pub word_takes : (bs : List ℕ) (w : ℕ) → word_in bs ≡ Some w → (bs ≡ hex_8 w) × (w < 2 ^ 32)
word_takes bs w e =
    let g = guard_some (eqb (length bs) 8 && bytes_eq (hex_8 (word_value bs)) bs) (word_value bs) w e in
    let parts = and_parts (eqb (length bs) 8) (bytes_eq (hex_8 (word_value bs)) bs) g.0 in
    (sym ((bytes_eq-Decides (hex_8 (word_value bs)) bs).0 parts.1) ∙ ap hex_8 g.1, subst (λ (x : ℕ). x < 2 ^ 32) g.1 (word_value_small bs))

word_value-hex_8 : (w : ℕ) → w < 2 ^ 32 → word_value (hex_8 w) ≡ w
word_value-hex_8 w lt =
    rw (
      digit_value-hex_digit (w / 0x10000000 % 16) (omega arith),
      digit_value-hex_digit (w / 0x1000000 % 16) (omega arith),
      digit_value-hex_digit (w / 0x100000 % 16) (omega arith),
      digit_value-hex_digit (w / 0x10000 % 16) (omega arith),
      digit_value-hex_digit (w / 0x1000 % 16) (omega arith),
      digit_value-hex_digit (w / 0x100 % 16) (omega arith),
      digit_value-hex_digit (w / 0x10 % 16) (omega arith),
      digit_value-hex_digit (w % 16) (omega arith),
    ) (omega arith)

word_when : (bs : List ℕ) (w : ℕ) → length bs ≡ 8 → word_value bs ≡ w → bytes_eq (hex_8 (word_value bs)) bs ≡ true → word_in bs ≡ Some w
word_when bs w len value same = rw (eq-eqb _ _ len, same, value) refl

pub word_again : (w : ℕ) → w < 2 ^ 32 → word_in (hex_8 w) ≡ Some w
word_again w lt =
    let value : word_value (hex_8 w) ≡ w = word_value-hex_8 w lt in
    word_when (hex_8 w) w refl value ((bytes_eq-Decides _ _).1 (ap hex_8 value))

-- ---- splits

pub some_is : {A : Type 0} (x y : A) → some x ≡ some y → x ≡ y
some_is x y e = cc

pub split_takes : (at : ℕ) (bs : List ℕ) (p : List ℕ × List ℕ) → split_in at bs ≡ Some p → bs ≡ p.0 ++ at ∷ p.1
split_takes at [] p e = absurd cc
split_takes at (b ∷ bs) p e =
    elim (cases_Bool (eqb b at)) [
      | inl here ↦
          let q : ([], bs) ≡ p = some_is ([], bs) p (rw here at e) in
          subst (λ (x : List ℕ × List ℕ). b ∷ bs ≡ x.0 ++ at ∷ x.1) q (ap (λ (y : ℕ). y ∷ bs) (eqb-true b at here))
      | inr other ↦
          let m = map_some (λ (x : List ℕ × List ℕ). (b ∷ x.0, x.1)) (split_in at bs) p (rw other at e) in
          subst (λ (x : List ℕ × List ℕ). b ∷ bs ≡ x.0 ++ at ∷ x.1) m.2 (ap (λ (y : List ℕ). b ∷ y) (split_takes at bs m.0 m.1))
    ]

abbrev pub lacks : ℕ → List ℕ → Type 0
lacks at [] = Unit {0}
lacks at (b ∷ bs) = (eqb b at ≡ false) × lacks at bs

pub split_again : (at : ℕ) (xs ys : List ℕ) → lacks at xs → split_in at (xs ++ at ∷ ys) ≡ Some (xs, ys)
split_again at [] ys h = rw (eq-eqb at at refl) refl
split_again at (x ∷ xs) ys h = rw (h.0, split_again at xs ys h.1) refl

-- ---- lines

pub record Takes (bs : List ℕ) (l : TraceLine) : Type 0 where
  pub text : bs ≡ step_text l.step (unwrap_or l.caller 0)
  pub line : IsLine l

pick : (k c : ℕ) (tail : List ℕ) (m l : TraceLine) (other : Option TraceLine) → cond (eqb k c) (Some m) other ≡ Some l → Takes (c ∷ tail) m → (other ≡ Some l → Takes (k ∷ tail) l) → Takes (k ∷ tail) l
pick k c tail m l other e here later =
    elim (cases_Bool (eqb k c)) [
      | inl same ↦
          let q : m ≡ l = some_is m l (rw same at e) in
          subst (λ (x : TraceLine). Takes (k ∷ tail) x) q (subst (λ (y : ℕ). Takes (y ∷ tail) m) (sym (eqb-true k c same)) here)
      | inr not_so ↦ later (rw not_so at e)
    ]

bare_takes : (k : ℕ) (l : TraceLine) → bare_in k ≡ Some l → Takes (k ∷ []) l
bare_takes k l e =
    pick k 102 [] (silent Fix) l _ e (record { text = refl; line = record { fits = tt; caller = refl; small = omega arith } })
    (λ e. pick k 114 [] (silent Restart) l _ e (record { text = refl; line = record { fits = tt; caller = refl; small = omega arith } })
    (λ e. pick k 100 [] (silent TakeDone) l _ e (record { text = refl; line = record { fits = tt; caller = refl; small = omega arith } })
    (λ e. pick k 122 [] (silent ResetBus) l _ e (record { text = refl; line = record { fits = tt; caller = refl; small = omega arith } }) (λ e. absurd cc))))

numbered_takes : (k n : ℕ) (l : TraceLine) → n < 2 ^ 32 → numbered_in k n ≡ Some l → Takes (k ∷ 32 ∷ decimal n) l
numbered_takes k n l lt e =
    let tail = 32 ∷ decimal n in
    pick k 108 tail (silent (Link n)) l _ e (record { text = refl; line = record { fits = lt; caller = refl; small = omega arith } })
    (λ e. pick k 113 tail (silent (Queue n)) l _ e (record { text = refl; line = record { fits = lt; caller = refl; small = omega arith } })
    (λ e. pick k 119 tail (silent (Sweep n)) l _ e (record { text = refl; line = record { fits = lt; caller = refl; small = omega arith } })
    (λ e. pick k 117 tail (silent (Unlink n)) l _ e (record { text = refl; line = record { fits = lt; caller = refl; small = omega arith } })
    (λ e. pick k 101 tail (silent (Free n)) l _ e (record { text = refl; line = record { fits = lt; caller = refl; small = omega arith } })
    (λ e. pick k 97 tail (silent (Act n)) l _ e (record { text = refl; line = record { fits = lt; caller = refl; small = omega arith } })
    (λ e. pick k 110 tail (silent (Sense n)) l _ e (record { text = refl; line = record { fits = lt; caller = refl; small = omega arith } })
    (λ e. pick k 115 tail (record { step = Signal; caller = Some n }) l _ e (record { text = refl; line = record { fits = tt; caller = refl; small = lt } }) (λ e. absurd cc))))))))

build_parts : (o : Option (List ℕ × List ℕ)) (l : TraceLine) → build_in o ≡ Some l → (p : List ℕ × List ℕ) × (o ≡ Some p) × (option_and_then (λ s. option_and_then (build_at s) (number_in p.1)) (number_in p.0) ≡ Some l)
build_parts None l e = absurd cc
build_parts (Some p) l e = (p, refl, e)

build_takes : (rest : List ℕ) (l : TraceLine) → build_in (split_in 32 rest) ≡ Some l → Takes (98 ∷ 32 ∷ rest) l
build_takes rest l e =
    let parts = build_parts (split_in 32 rest) l e in
    let p = parts.0 in
    let first = then_some (λ s. option_and_then (build_at s) (number_in p.1)) (number_in p.0) l parts.2 in
    let s = first.0 in
    let second = then_some (build_at s) (number_in p.1) l first.2 in
    let n = second.0 in
    let m : TraceLine = record { step = Build (record { submitter = s; number = n }); caller = Some s } in
    let made = guard_some (ltb s 65536) m l second.2 in
    let small : s < 65536 = ltb-true _ _ made.0 in
    let text : rest ≡ decimal s ++ 32 ∷ decimal n = rw (← (number_takes p.0 s first.1).0, ← (number_takes p.1 n second.1).0) (split_takes 32 rest p parts.1) in
    let whole : 98 ∷ 32 ∷ rest ≡ step_text m.step s = ap (λ (x : List ℕ). 98 ∷ 32 ∷ x) (text ∙ sym (append_assoc (decimal s) (32 ∷ []) (decimal n))) in
    subst (λ (x : TraceLine). Takes (98 ∷ 32 ∷ rest) x) made.1
    (record { text = whole; line = record { fits = (small, (number_takes p.1 n second.1).1); caller = refl; small = omega arith } })

chip_takes : (rest : List ℕ) (l : TraceLine) → option_map (λ w. silent (Chip w)) (word_in rest) ≡ Some l → Takes (99 ∷ 32 ∷ rest) l
chip_takes rest l e =
    let m = map_some (λ w. silent (Chip w)) (word_in rest) l e in
    let t = word_takes rest m.0 m.1 in
    subst (λ (x : TraceLine). Takes (99 ∷ 32 ∷ rest) x) m.2
    (record { text = ap (λ (x : List ℕ). 99 ∷ 32 ∷ x) t.0; line = record { fits = t.1; caller = refl; small = omega arith } })

number_line_takes : (k : ℕ) (rest : List ℕ) (l : TraceLine) → option_and_then (numbered_in k) (number_in rest) ≡ Some l → Takes (k ∷ 32 ∷ rest) l
number_line_takes k rest l e =
    let m = then_some (numbered_in k) (number_in rest) l e in
    let t = number_takes rest m.0 m.1 in
    rw t.0 (numbered_takes k m.0 l t.1 m.2)

worded_takes : (k : ℕ) (rest : List ℕ) (l : TraceLine) → worded_in k rest ≡ Some l → Takes (k ∷ 32 ∷ rest) l
worded_takes k rest l e =
    elim (cases_Bool (eqb k 98)) [
      | inl b ↦ subst (λ (y : ℕ). Takes (y ∷ 32 ∷ rest) l) (sym (eqb-true k 98 b)) (build_takes rest l (rw b at e))
      | inr not_b ↦
          elim (cases_Bool (eqb k 99)) [
            | inl c ↦ subst (λ (y : ℕ). Takes (y ∷ 32 ∷ rest) l) (sym (eqb-true k 99 c)) (chip_takes rest l (rw (not_b, c) at e))
            | inr not_c ↦ number_line_takes k rest l (rw (not_b, not_c) at e)
          ]
    ]

pub line_takes : (bs : List ℕ) (l : TraceLine) → line_in bs ≡ Some l → Takes bs l
line_takes [] l e = absurd cc
line_takes (k ∷ []) l e = bare_takes k l e
line_takes (k ∷ s ∷ rest) l e =
    let g = guard_then (eqb s 32) (worded_in k rest) l e in
    subst (λ (y : ℕ). Takes (k ∷ y ∷ rest) l) (sym (eqb-true s 32 g.0)) (worded_takes k rest l g.1)

-- ---- what lines lack

digit_is_not : (d at : ℕ) → at < 48 → is_ascii_digit d ≡ true → eqb d at ≡ false
digit_is_not d at lt h = let low : 48 ≤ d = leb-true _ _ (and_parts (leb 48 d) (leb d 57) h).0 in grind (arith, nat_tests)

digits_lack : (at : ℕ) (ds : List ℕ) → at < 48 → all_ascii_digits ds ≡ true → lacks at ds
digits_lack at [] lt h = tt
digits_lack at (d ∷ ds) lt h =
    let parts = and_parts (is_ascii_digit d) (all_ascii_digits ds) h in
    (digit_is_not d at lt parts.0, digits_lack at ds lt parts.1)

pub decimal_lacks : (at n : ℕ) → at < 48 → n < 2 ^ 64 → lacks at (decimal n)
decimal_lacks at n lt wide = digits_lack at (decimal n) lt (digits_decimal own n wide)

-- ---- what is spelled so is read

build_again : (s n : ℕ) → s < 2 ^ 16 → n < 2 ^ 32 → build_in (split_in 32 (decimal s ++ 32 ∷ decimal n)) ≡ Some (record { step = Build (record { submitter = s; number = n }); caller = Some s })
build_again s n hs hn =
    let wide : s < 2 ^ 32 = omega arith in
    let small : ltb s 65536 ≡ true = lt-ltb _ _ hs in
    rw (split_again 32 (decimal s) (decimal n) (decimal_lacks 32 s (omega arith) (omega arith)), number_again s wide, number_again n hn, small) refl

line_step_again : (step : Step) (caller : ℕ) → StepFits step → caller < 2 ^ 32 → line_in (step_text step caller) ≡ Some (record { step = step; caller = line_caller step caller })
line_step_again (Build l) caller fits small = ap (λ (x : List ℕ). line_in (98 ∷ 32 ∷ x)) (append_assoc (decimal l.submitter) (32 ∷ []) (decimal l.number)) ∙ build_again l.submitter l.number fits.0 fits.1
line_step_again (Link t) caller fits small = rw (number_again t fits) refl
line_step_again (Queue t) caller fits small = rw (number_again t fits) refl
line_step_again Signal caller fits small = rw (number_again caller small) refl
line_step_again (Chip w) caller fits small = ap (λ (o : Option ℕ). option_map (λ w'. silent (Chip w')) o) (word_again w fits)
line_step_again Fix caller fits small = refl
line_step_again (Sweep t) caller fits small = rw (number_again t fits) refl
line_step_again Restart caller fits small = refl
line_step_again TakeDone caller fits small = refl
line_step_again (Unlink t) caller fits small = rw (number_again t fits) refl
line_step_again (Free t) caller fits small = rw (number_again t fits) refl
line_step_again (Act t) caller fits small = rw (number_again t fits) refl
line_step_again ResetBus caller fits small = refl
line_step_again (Sense t) caller fits small = rw (number_again t fits) refl

pub line_again : (l : TraceLine) → IsLine l → line_in (step_text l.step (unwrap_or l.caller 0)) ≡ Some l
line_again l h =
    let again = line_step_again l.step (unwrap_or l.caller 0) h.fits h.small in
    again ∙ ap (λ (o : Option ℕ). some (record { step = l.step; caller = o })) (sym h.caller)

lacks-append : (at : ℕ) (xs ys : List ℕ) → lacks at xs → lacks at ys → lacks at (xs ++ ys)
lacks-append at [] ys a b = b
lacks-append at (x ∷ xs) ys a b = (a.0, lacks-append at xs ys a.1 b)

numbered_lacks : (k n : ℕ) → eqb k 10 ≡ false → n < 2 ^ 32 → lacks 10 (k ∷ 32 ∷ decimal n)
numbered_lacks k n not_so lt = (not_so, (refl, decimal_lacks 10 n (omega arith) (omega arith)))

hex_digit_is_not : (d : ℕ) → d < 16 → eqb (hex_digit d) 10 ≡ false
hex_digit_is_not d lt = elim (cases_Bool (ltb d 10)) [ inl low ↦ rw low (grind (arith, nat_tests)) | inr high ↦ rw high (grind (arith, nat_tests)) ]

hex_8_lacks : (w : ℕ) → lacks 10 (hex_8 w)
hex_8_lacks w = (
  hex_digit_is_not (w / 0x10000000 % 16) (omega arith),
  (
    hex_digit_is_not (w / 0x1000000 % 16) (omega arith),
    (
      hex_digit_is_not (w / 0x100000 % 16) (omega arith),
      (
        hex_digit_is_not (w / 0x10000 % 16) (omega arith),
        (hex_digit_is_not (w / 0x1000 % 16) (omega arith), (hex_digit_is_not (w / 0x100 % 16) (omega arith), (hex_digit_is_not (w / 0x10 % 16) (omega arith), (hex_digit_is_not (w % 16) (omega arith), tt)))),
      ),
    ),
  ),
)

pub text_lacks : (step : Step) (caller : ℕ) → StepFits step → caller < 2 ^ 32 → lacks 10 (step_text step caller)
text_lacks (Build l) caller fits small = (refl, (refl, lacks-append 10 (decimal l.submitter ++ 32 ∷ []) (decimal l.number) (lacks-append 10 (decimal l.submitter) (32 ∷ []) (decimal_lacks 10 l.submitter (omega arith) (omega (arith, fits.0))) (refl, tt)) (decimal_lacks 10 l.number (omega arith) (omega (arith, fits.1)))))
text_lacks (Link t) caller fits small = numbered_lacks 108 t refl fits
text_lacks (Queue t) caller fits small = numbered_lacks 113 t refl fits
text_lacks Signal caller fits small = numbered_lacks 115 caller refl small
text_lacks (Chip w) caller fits small = (refl, (refl, hex_8_lacks w))
text_lacks Fix caller fits small = (refl, tt)
text_lacks (Sweep t) caller fits small = numbered_lacks 119 t refl fits
text_lacks Restart caller fits small = (refl, tt)
text_lacks TakeDone caller fits small = (refl, tt)
text_lacks (Unlink t) caller fits small = numbered_lacks 117 t refl fits
text_lacks (Free t) caller fits small = numbered_lacks 101 t refl fits
text_lacks (Act t) caller fits small = numbered_lacks 97 t refl fits
text_lacks ResetBus caller fits small = (refl, tt)
text_lacks (Sense t) caller fits small = numbered_lacks 110 t refl fits
