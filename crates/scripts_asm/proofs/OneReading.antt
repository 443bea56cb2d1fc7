-- A text is read in one way.
use Rattle.std.proofs.Common.{◌≡◌, ◌≢◌, ℕ, List, [], ◌∷◌, Bool, true, false, Option, Some, None, refl, sym, ◌∙◌, ap}
use Rattle.std.proofs.lemmas.Bool.{false≢true, true≢false}
use Rattle.std.specs.List.{list_any}
use Rattle.scripts_forms.specs.declared.shapes.Shape.{Shape}
use Rattle.scripts_forms.specs.declared.shapes.Shape.TheVariants as shapes
use Rattle.scripts_forms.specs.declared.shapes.Item.{Item}
use Rattle.scripts_forms.specs.declared.shapes.Item.TheVariants as item
use Rattle.scripts_forms.specs.Tokens.{Token, Reserved, Mark, Number, Name, Bad, tokens_of}
use Rattle.scripts_forms.specs.Shapes.{items}
use Rattle.scripts_forms.specs.Reading.{HasForm, Matches, values_of as value_tokens}
use Rattle.scripts_forms.specs.Guess.{guessed}
use Rattle.scripts_forms.proofs.OneForm.{guessed_of_form}
use Rattle.scripts_forms.specs.Lines.{Line, Body, Nothing, Absolute, Instruction, BadToken, BadForm, IsLine, IsBody, AreLines, unlabelled, is_bad, absolute, HasNoForm, OneReading}

-- ---- tokens with a form have no other body

not_bad : (is : List Item) (ts : List Token) → Matches is ts → list_any is_bad ts ≡ false
not_bad [] [] h = refl
not_bad [] (t ∷ ts) h = absurd h
not_bad (i ∷ is) [] h = absurd h
not_bad (item.Fixed w ∷ is) (t ∷ ts) h = rw (h.0, not_bad is ts h.1) refl
not_bad (item.Mark m ∷ is) (t ∷ ts) h = rw (h.0, not_bad is ts h.1) refl
not_bad (item.Value most ∷ is) (Number n ∷ ts) h = not_bad is ts h.1
not_bad (item.Value most ∷ is) (Name n ∷ ts) h = not_bad is ts h.1
not_bad (item.Value most ∷ is) (Reserved w ∷ ts) h = absurd (false≢true h.0)
not_bad (item.Value most ∷ is) (Mark m ∷ ts) h = absurd (false≢true h.0)
not_bad (item.Value most ∷ is) (Bad ∷ ts) h = absurd (false≢true h.0)

not_empty : (s : Shape) → HasForm s [] → ⊥
not_empty (shapes.Move p) h = h
not_empty s h = h

no_guess_absolute : (name : List ℕ) (n : ℕ) → guessed (absolute name n) ≡ None
unfolding guessed
no_guess_absolute name n = refl

not_absolute : (s : Shape) (name : List ℕ) (n : ℕ) → HasForm s (absolute name n) → ⊥
not_absolute s name n h = let e : guessed (absolute name n) ≡ Some s = guessed_of_form s (absolute name n) h in let f : guessed (absolute name n) ≡ None = no_guess_absolute name n in cc

one_shape : (s q : Shape) (ts : List Token) → HasForm s ts → HasForm q ts → q ≡ s
one_shape s q ts h k = let e : guessed ts ≡ Some s = guessed_of_form s ts h in let f : guessed ts ≡ Some q = guessed_of_form q ts k in cc

pub body_is_form : (s : Shape) (ts : List Token) (b : Body) → HasForm s ts → IsBody ts b → b ≡ Instruction s (value_tokens ts)
body_is_form s ts Nothing h is = absurd (not_empty s (rw is at h))
body_is_form s ts (Absolute name n) h is = absurd (not_absolute s name n (rw is at h))
body_is_form s ts (Instruction q vs) h is = let e : q ≡ s = one_shape s q ts h is.0 in rw (e, is.1) refl
body_is_form s ts BadToken h is = let e : list_any is_bad ts ≡ false = not_bad (items s) ts h in absurd (cc)
body_is_form s ts BadForm h is = absurd (is.no_instruction s h)

pub body_is_nothing : (b : Body) → IsBody [] b → b ≡ Nothing
body_is_nothing Nothing is = refl
body_is_nothing (Absolute name n) is = absurd (cc)
body_is_nothing (Instruction q vs) is = absurd (not_empty q is.0)
body_is_nothing BadToken is = absurd (false≢true is)
body_is_nothing BadForm is = absurd (is.some refl)

absolute_is : (ts : List Token) (name : List ℕ) (n : ℕ) (b : Body) → ts ≡ absolute name n → IsBody ts b → b ≡ Absolute name n
absolute_is ts name n Nothing e is = absurd (cc)
absolute_is ts name n (Absolute name' n') e is = let f : absolute name n ≡ absolute name' n' = sym e ∙ is in let g : name ≡ name' = cc in let h : n ≡ n' = cc in rw (g, h) refl
absolute_is ts name n (Instruction s vs) e is = absurd (not_absolute s name n (rw e at is.0))
absolute_is ts name n BadToken e is = absurd (false≢true (rw e at is))
absolute_is ts name n BadForm e is = absurd (is.no_absolute name n e)

bad_token_is : (ts : List Token) (b : Body) → list_any is_bad ts ≡ true → IsBody ts b → b ≡ BadToken
bad_token_is ts Nothing e is = absurd (false≢true (rw is at e))
bad_token_is ts (Absolute name n) e is = absurd (false≢true (rw is at e))
bad_token_is ts (Instruction s vs) e is = let f : list_any is_bad ts ≡ false = not_bad (items s) ts is.0 in absurd (cc)
bad_token_is ts BadToken e is = refl
bad_token_is ts BadForm e is = let f : list_any is_bad ts ≡ false = is.tokens in absurd (cc)

bad_form_is : (ts : List Token) (b : Body) → HasNoForm ts → IsBody ts b → b ≡ BadForm
bad_form_is ts Nothing e is = absurd (e.some is)
bad_form_is ts (Absolute name n) e is = absurd (e.no_absolute name n is)
bad_form_is ts (Instruction s vs) e is = absurd (e.no_instruction s is.0)
bad_form_is ts BadToken e is = let f : list_any is_bad ts ≡ false = e.tokens in absurd (cc)
bad_form_is ts BadForm e is = refl

one_body : (ts : List Token) (b c : Body) → IsBody ts b → IsBody ts c → b ≡ c
one_body ts Nothing c i j = sym (body_is_nothing c (rw i at j))
one_body ts (Absolute name n) c i j = sym (absolute_is ts name n c i j)
one_body ts (Instruction s vs) c i j = ap (λ (ws : List Token). Instruction s ws) i.1 ∙ sym (body_is_form s ts c i.0 j)
one_body ts BadToken c i j = sym (bad_token_is ts c i j)
one_body ts BadForm c i j = sym (bad_form_is ts c i j)

one_line : (text : List ℕ) (l m : Line) → IsLine text l → IsLine text m → l ≡ m
one_line text l m i j =
    let label : l.label ≡ m.label = i.label ∙ sym j.label in
    let body : l.body ≡ m.body = one_body (unlabelled (tokens_of text)) l.body m.body i.body j.body in
    let first : Option (List ℕ) → Line = λ x. record { label = x; body = l.body } in
    let second : Body → Line = λ x. record { label = m.label; body = x } in
    ap first label ∙ ap second body

pub one_reading : OneReading
one_reading [] [] [] i j = refl
one_reading [] [] (m ∷ ms) i j = absurd j
one_reading [] (l ∷ ls) ms i j = absurd i
one_reading (t ∷ ts) [] ms i j = absurd i
one_reading (t ∷ ts) (l ∷ ls) [] i j = absurd j
one_reading (t ∷ ts) (l ∷ ls) (m ∷ ms) i j = let e : l ≡ m = one_line t l m i.0 j.0 in let f : ls ≡ ms = one_reading ts ls ms i.1 j.1 in rw (e, f) refl
