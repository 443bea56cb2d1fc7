-- Every text is read.
use Rattle.std.proofs.Common.{◌≡◌, ◌≢◌, ◌⊎◌, ℕ, List, [], ◌∷◌, Option, Some, None, get_or, refl, sym, ap, ◌∙◌, subst, inl, inr, ⊎_elim}
use Rattle.std.specs.List.{list_any}
use Rattle.std.proofs.lemmas.Bool.{cases_Bool, cases_eq}
use Rattle.scripts_forms.specs.declared.words.Key.{Key}
use Rattle.scripts_forms.specs.declared.words.Key.TheVariants.{Absolute as AbsoluteKey, Ack, And, Atn, Call, Clear, Disconnect, From, If, Int, IntFly, Jump, Load, Mask, Memory, Move, Nop, Not, Reselect, Return, Select, Set, Store, To, Wait, When}
use Rattle.scripts_forms.specs.declared.words.Word.{Word}
use Rattle.scripts_forms.specs.declared.words.Word.TheVariants as word
use Rattle.scripts_forms.specs.declared.shapes.Shape.{Shape}
use Rattle.scripts_forms.specs.declared.shapes.Item.{Item}
use Rattle.scripts_forms.specs.declared.shapes.Item.TheVariants as item
use Rattle.scripts_forms.specs.Words.{meant}
use Rattle.scripts_forms.specs.Tokens.{Token, Reserved, Mark as MarkToken, Number, Name, tokens_of}
use Rattle.scripts_forms.specs.Shapes.{items}
use Rattle.scripts_forms.specs.Reading.{Takes, Matches, HasForm, is_value, values_of}
use Rattle.scripts_forms.specs.Guess.{guessed}
use Rattle.scripts_forms.specs.Lines.{Line, Body, Nothing, Absolute, Instruction, BadToken, BadForm, IsLine, IsBody, AreLines, label_of, unlabelled, is_bad, absolute}
use Rattle.scripts_forms.proofs.OneForm.{guessed_of_form}
use Rattle.scripts_asm.specs.Laws.{SomeReading}

abbrev OrNot : Type 0 → Type 0
OrNot P = P ⊎ (P → ⊥)

both_or_not : (P Q : Type 0) → OrNot P → OrNot Q → OrNot (P × Q)
both_or_not P Q p q = ⊎_elim
    (λ yes. ⊎_elim (λ also. inl (yes, also)) (λ no. inr (λ h. no h.1)) q)
    (λ no. inr (λ h. no h.0))
    p

-- ---- which word

abbrev keys : List Key
keys = AbsoluteKey ∷ Ack ∷ And ∷ Atn ∷ Call ∷ Clear ∷ Disconnect ∷ From ∷ If ∷ Int ∷ IntFly ∷ Jump ∷ Load ∷ Mask ∷ Memory ∷ Move ∷ Nop ∷ Not ∷ Reselect ∷ Return ∷ Select ∷ Set ∷ Store ∷ To ∷ Wait ∷ When ∷ []

place_in_keys : (k : Key) → (n : ℕ) × (k ≡ get_or keys n When)
place_in_keys AbsoluteKey = (0, refl)
place_in_keys Ack = (1, refl)
place_in_keys And = (2, refl)
place_in_keys Atn = (3, refl)
place_in_keys Call = (4, refl)
place_in_keys Clear = (5, refl)
place_in_keys Disconnect = (6, refl)
place_in_keys From = (7, refl)
place_in_keys If = (8, refl)
place_in_keys Int = (9, refl)
place_in_keys IntFly = (10, refl)
place_in_keys Jump = (11, refl)
place_in_keys Load = (12, refl)
place_in_keys Mask = (13, refl)
place_in_keys Memory = (14, refl)
place_in_keys Move = (15, refl)
place_in_keys Nop = (16, refl)
place_in_keys Not = (17, refl)
place_in_keys Reselect = (18, refl)
place_in_keys Return = (19, refl)
place_in_keys Select = (20, refl)
place_in_keys Set = (21, refl)
place_in_keys Store = (22, refl)
place_in_keys To = (23, refl)
place_in_keys Wait = (24, refl)
place_in_keys When = (25, refl)

key_or_not : (k q : Key) → OrNot (k ≡ q)
key_or_not k q = ⊎_elim
    (λ same. inl ((place_in_keys k).1 ∙ ap (λ n. get_or keys n When) same ∙ sym (place_in_keys q).1))
    (λ other. inr (λ e. other (ap (λ (x : Key). (place_in_keys x).0) e)))
    (cases_eq (place_in_keys k).0 (place_in_keys q).0)

word_or_not : (v w : Word) → OrNot (v ≡ w)
word_or_not (word.Key k) (word.Key q) = ⊎_elim (λ e. inl (ap word.Key e)) (λ ne. inr (λ e. let f : k ≡ q = cc in ne f)) (key_or_not k q)
word_or_not (word.Phase m) (word.Phase n) = ⊎_elim (λ e. inl (ap word.Phase e)) (λ ne. inr (λ e. let f : m ≡ n = cc in ne f)) (cases_eq m n)
word_or_not (word.Register m) (word.Register n) = ⊎_elim (λ e. inl (ap word.Register e)) (λ ne. inr (λ e. let f : m ≡ n = cc in ne f)) (cases_eq m n)
word_or_not (word.Whole m) (word.Whole n) = ⊎_elim (λ e. inl (ap word.Whole e)) (λ ne. inr (λ e. let f : m ≡ n = cc in ne f)) (cases_eq m n)
word_or_not v w = inr (λ e. absurd cc)

-- ---- which token

reserved_or_not : (w : Word) (t : Token) → OrNot (t ≡ Reserved w)
reserved_or_not w (Reserved v) = ⊎_elim (λ e. inl (ap Reserved e)) (λ ne. inr (λ e. let f : v ≡ w = cc in ne f)) (word_or_not v w)
reserved_or_not w t = inr (λ e. absurd cc)

mark_or_not : (m : ℕ) (t : Token) → OrNot (t ≡ MarkToken m)
mark_or_not m (MarkToken n) = ⊎_elim (λ e. inl (ap MarkToken e)) (λ ne. inr (λ e. let f : n ≡ m = cc in ne f)) (cases_eq n m)
mark_or_not m t = inr (λ e. absurd cc)

name_or_not : (t : Token) → ((name : List ℕ) × (t ≡ Name name)) ⊎ ((name : List ℕ) → t ≢ Name name)
name_or_not (Name name) = inl (name, refl)
name_or_not t = inr (λ name e. absurd cc)

number_or_not : (t : Token) → ((n : ℕ) × (t ≡ Number n)) ⊎ ((n : ℕ) → t ≢ Number n)
number_or_not (Number n) = inl (n, refl)
number_or_not t = inr (λ n e. absurd cc)

-- ---- which form

takes_or_not : (i : Item) (t : Token) → OrNot (Takes i t)
takes_or_not (item.Fixed w) t = reserved_or_not (meant w) t
takes_or_not (item.Mark m) t = mark_or_not m t
takes_or_not (item.Value most) t = ⊎_elim (λ yes. inl yes) (λ no. inr (λ yes. absurd cc)) (cases_Bool (is_value t))

matches_or_not : (is : List Item) (ts : List Token) → OrNot (Matches is ts)
matches_or_not [] [] = inl tt
matches_or_not [] (t ∷ ts) = inr (λ h. h)
matches_or_not (i ∷ is) [] = inr (λ h. h)
matches_or_not (i ∷ is) (t ∷ ts) = both_or_not (Takes i t) (Matches is ts) (takes_or_not i t) (matches_or_not is ts)

guess_is : (o : Option Shape) → (o ≡ None) ⊎ ((s : Shape) × (o ≡ Some s))
guess_is None = inl refl
guess_is (Some s) = inr (s, refl)

same_guess : (o : Option Shape) (s q : Shape) → o ≡ Some s → o ≡ Some q → q ≡ s
same_guess o s q e f = cc

no_guess : (o : Option Shape) (s : Shape) → o ≡ None → o ≡ Some s → ⊥
no_guess o s e f = cc

form_or_not : (ts : List Token) → ((s : Shape) × HasForm s ts) ⊎ ((s : Shape) → HasForm s ts → ⊥)
form_or_not ts = ⊎_elim
    (λ none. inr (λ s h. no_guess (guessed ts) s none (guessed_of_form s ts h)))
    (λ found. ⊎_elim
    (λ yes. inl (found.0, yes))
    (λ no. inr (λ q h. no (subst (λ (x : Shape). HasForm x ts) (same_guess (guessed ts) found.0 q found.1 (guessed_of_form q ts h)) h)))
    (matches_or_not (items found.0) ts))
    (guess_is (guessed ts))

abbrev IsAbsolute : List Token → Type 0
IsAbsolute ts = (name : List ℕ) × (n : ℕ) × (ts ≡ absolute name n)

absolute_by : (t u v w : Token) (name : List ℕ) (n : ℕ) → t ≡ Reserved (word.Key AbsoluteKey) → u ≡ Name name → v ≡ MarkToken 61 → w ≡ Number n → t ∷ u ∷ v ∷ w ∷ [] ≡ absolute name n
absolute_by t u v w name n a b c d = rw (a, b, c, d) refl

absolute_parts : (t u v w : Token) (name : List ℕ) (n : ℕ) → t ∷ u ∷ v ∷ w ∷ [] ≡ absolute name n → (t ≡ Reserved (word.Key AbsoluteKey)) × (u ≡ Name name) × (v ≡ MarkToken 61) × (w ≡ Number n)
absolute_parts t u v w name n e = (cc, cc, cc, cc)

absolute_or_not : (ts : List Token) → IsAbsolute ts ⊎ ((name : List ℕ) (n : ℕ) → ts ≢ absolute name n)
absolute_or_not [] = inr (λ name n e. absurd cc)
absolute_or_not (t ∷ []) = inr (λ name n e. absurd cc)
absolute_or_not (t ∷ u ∷ []) = inr (λ name n e. absurd cc)
absolute_or_not (t ∷ u ∷ v ∷ []) = inr (λ name n e. absurd cc)
absolute_or_not (t ∷ u ∷ v ∷ w ∷ x ∷ ts) = inr (λ name n e. absurd cc)
absolute_or_not (t ∷ u ∷ v ∷ w ∷ []) = ⊎_elim
    (λ a. ⊎_elim
    (λ b. ⊎_elim
    (λ c. ⊎_elim
    (λ d. inl (b.0, d.0, absolute_by t u v w b.0 d.0 a b.1 c d.1))
    (λ no. inr (λ name n e. no n (absolute_parts t u v w name n e).3))
    (number_or_not w))
    (λ no. inr (λ name n e. no (absolute_parts t u v w name n e).2))
    (mark_or_not 61 v))
    (λ no. inr (λ name n e. no name (absolute_parts t u v w name n e).1))
    (name_or_not u))
    (λ no. inr (λ name n e. no (absolute_parts t u v w name n e).0))
    (reserved_or_not (word.Key AbsoluteKey) t)

-- ---- a body, a line, lines

nil_or_not : (ts : List Token) → OrNot (ts ≡ [])
nil_or_not [] = inl refl
nil_or_not (t ∷ ts) = inr (λ e. absurd cc)

some_body : (ts : List Token) → (b : Body) × IsBody ts b
some_body ts = ⊎_elim
    (λ bad. (BadToken, bad))
    (λ good. ⊎_elim
    (λ nil. (Nothing, nil))
    (λ some. ⊎_elim
    (λ found. (Absolute found.0 found.1, found.2))
    (λ no-absolute. ⊎_elim
    (λ form. (Instruction form.0 (values_of ts), (form.1, refl)))
    (λ no-form. (BadForm, record { tokens = good; some = some; no_absolute = no-absolute; no_instruction = no-form }))
    (form_or_not ts))
    (absolute_or_not ts))
    (nil_or_not ts))
    (cases_Bool (list_any is_bad ts))

some_line : (text : List ℕ) → (l : Line) × IsLine text l
some_line text =
    let body : (b : Body) × IsBody (unlabelled (tokens_of text)) b = some_body (unlabelled (tokens_of text)) in
    (record { label = label_of (tokens_of text); body = body.0 }, record { label = refl; body = body.1 })

pub some_reading : SomeReading
some_reading [] = ([], tt)
some_reading (t ∷ ts) =
    let line : (l : Line) × IsLine t l = some_line t in
    let rest : (ls : List Line) × AreLines ts ls = some_reading ts in
    (line.0 ∷ rest.0, (line.1, rest.1))
