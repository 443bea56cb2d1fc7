-- The first giving of a name among the names of several lines.
use Rattle.std.proofs.Common.{◌≡◌, ℕ, suc, ◌+◌, ◌-◌, ◌≤◌, List, [], ◌∷◌, ◌++◌, length, take, drop, get_or, cond, false, Option, Some, None, is_some, length-append, refl, sym, ◌∙◌, ap, arith, inl, inr, bytes_eq}
use Rattle.std.proofs.lemmas.Grind.{common_steps}
use Rattle.std.proofs.lemmas.Bool.{cases_Bool, true≢false}
use Rattle.std.proofs.lemmas.Bool.Decides.{same_from_decides, Decides-like}
use Rattle.std.proofs.lemmas.Slice.Eq.{bytes_eq-Decides}
use Rattle.std.specs.Option.{option_or}
use Rattle.scripts_forms.specs.Lines.{Line, Body, Nothing, Absolute, Instruction, BadToken, BadForm}
use Rattle.scripts_asm.specs.declared.names.Giving.{Giving}
use Rattle.scripts_asm.specs.declared.lines.Line as code
use Rattle.scripts_asm.specs.Seen.{seen_line, seen_body, all_lines}
use Rattle.scripts_asm.specs.Assembled.{Names, Givings, given, names_given, names_from, first_giving, size_of, label_given, label_name, absolute_given, absolute_name}

pub or_none : (x : Option Giving) → option_or x None ≡ x
or_none None = refl
or_none (Some g) = refl

or_or : (x y z : Option Giving) → option_or (option_or x y) z ≡ option_or x (option_or y z)
or_or None y z = refl
or_or (Some g) y z = refl

of_both : (k : ℕ) (xs ys : Names) (q : List ℕ) → first_giving k (xs ++ ys) q ≡ option_or (first_giving k xs q) (first_giving (k + length xs) ys q)
of_both k [] ys q = let e : k + 0 ≡ k = omega arith in rw e refl
of_both k (x ∷ xs) ys q = elim (cases_Bool (bytes_eq q x.0)) [
  | inl h ↦ rw h refl
  | inr h ↦ (let e : k + suc (length xs) ≡ k + 1 + length xs = omega arith in rw (h, e) (of_both (k + 1) xs ys q))
]

label_length : (a : ℕ) (o : Option (List ℕ)) → length (label_given o a) ≡ length (label_name o)
label_length a None = refl
label_length a (Some name) = refl

absolute_length : (b : Body) → length (absolute_given b) ≡ length (absolute_name b)
absolute_length (Absolute name n) = refl
absolute_length Nothing = refl
absolute_length (Instruction s vs) = refl
absolute_length BadToken = refl
absolute_length BadForm = refl

given_length : (a : ℕ) (l : Line) → length (given a l) ≡ length (names_given l)
given_length a l =
    let (e, f) : (length (label_given l.label a) ≡ length (label_name l.label)) × (length (absolute_given l.body) ≡ length (absolute_name l.body)) = (label_length a l.label, absolute_length l.body) in
    omega (arith, length-append (label_given l.label a) (absolute_given l.body), length-append (label_name l.label) (absolute_name l.body), e, f)

-- a table that has the names of a line, before the names of the lines behind it
pub one_more_line : (old : Option Giving) (k a : ℕ) (l : Line) (ls : List Line) (q : List ℕ) → option_or (option_or old (first_giving k (given a l) q)) (first_giving (k + length (names_given l)) (names_from (a + size_of l.body) ls) q) ≡ option_or old (first_giving k (names_from a (l ∷ ls)) q)
one_more_line old k a l ls q =
    or_or old (first_giving k (given a l) q) (first_giving (k + length (names_given l)) (names_from (a + size_of l.body) ls) q)
    ∙ ap (λ (n : ℕ). option_or old (option_or (first_giving k (given a l) q) (first_giving (k + n) (names_from (a + size_of l.body) ls) q))) (sym (given_length a l))
    ∙ ap (option_or old) (sym (of_both k (given a l) (names_from (a + size_of l.body) ls) q))

-- ---- the loop over the lines

rest_is : (x : code.Line) (xs : List code.Line) → take (length (x ∷ xs) - 1) (drop 1 (x ∷ xs)) ≡ xs
rest_is x xs = grind (arith, common_steps)

pub next_names : (lines : List code.Line) (line : code.Line) (old new : Option Giving) (k k' a a' : ℕ) (q : List ℕ) → 1 ≤ length lines → line ≡ get_or lines 0 line → new ≡ option_or old (first_giving k (given a (seen_line line)) q) → k' ≡ k + length (names_given (seen_line line)) → a' ≡ a + size_of (seen_body line.body) → option_or new (first_giving k' (names_from a' (all_lines (take (length lines - 1) (drop 1 lines)))) q) ≡ option_or old (first_giving k (names_from a (all_lines lines)) q)
next_names [] line old new k k' a a' q some is e f g = absurd (omega arith)
next_names (x ∷ xs) line old new k k' a a' q some is e f g = rw (e, f, g, rest_is x xs, is) (one_more_line old k a (seen_line x) (all_lines xs) q)

pub no_more_names : (lines : List code.Line) (x : Option Giving) (k a : ℕ) (q : List ℕ) → length lines ≡ 0 → option_or x (first_giving k (names_from a (all_lines lines)) q) ≡ x
no_more_names [] x k a q e = or_none x
no_more_names (l ∷ ls) x k a q e = absurd (omega arith)

-- ---- one more name

same_bytes : (xs ys : List ℕ) → bytes_eq xs ys ≡ bytes_eq ys xs
same_bytes xs ys = same_from_decides (bytes_eq xs ys) (bytes_eq ys xs) (bytes_eq-Decides xs ys) (Decides-like (bytes_eq ys xs) (λ (e : ys ≡ xs). sym e) (λ (e : xs ≡ ys). sym e) (bytes_eq-Decides ys xs))

pub not_some : (x : Option Giving) → is_some x ≡ false → x ≡ None
not_some None e = refl
not_some (Some g) e = absurd (true≢false e)

-- a table that has no value for a name, given one
pub given_now : (old new : Givings) (name : List ℕ) (g : Giving) → old name ≡ None → ((q : List ℕ) → new q ≡ cond (bytes_eq name q) (Some g) (old q)) → (q : List ℕ) → new q ≡ option_or (old q) (cond (bytes_eq q name) (Some g) None)
given_now old new name g none is q = elim (cases_Bool (bytes_eq name q)) [
  | inl k ↦ (let same : name ≡ q = (bytes_eq-Decides name q).0 k in let nothing : old q ≡ None = ap old (sym same) ∙ none in rw (is q, k, same_bytes q name, k, nothing) refl)
  | inr k ↦ rw (is q, k, same_bytes q name, k) (sym (or_none (old q)))
]
