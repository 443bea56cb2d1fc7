-- The tokens of a form are guessed right.
use Rattle.std.proofs.Common.{◌≡◌, ℕ, ◌+◌, nat_eq, nat_lt, nat_le, cond, List, [], ◌∷◌, ◌++◌, length, Bool, true, false, IsTrue, Option, Some, None, refl, sym, ◌∙◌, ap, subst}
use Rattle.std.proofs.lemmas.Bool.{false≢true}
use Rattle.std.proofs.lemmas.Grind.{common_steps}
use Rattle.scripts_ops.specs.declared.values.Change.TheVariants as changes
use Rattle.scripts_forms.specs.declared.words.Key.TheVariants as keys
use Rattle.scripts_forms.specs.declared.words.Word.TheVariants as word
use Rattle.scripts_forms.specs.declared.shapes.On.{On}
use Rattle.scripts_forms.specs.declared.shapes.On.TheVariants as ons
use Rattle.scripts_forms.specs.declared.shapes.Flags.TheVariants as flagsets
use Rattle.scripts_forms.specs.declared.shapes.Shape.{Shape}
use Rattle.scripts_forms.specs.declared.shapes.Shape.TheVariants as shapes
use Rattle.scripts_forms.specs.declared.shapes.Item.{Item}
use Rattle.scripts_forms.specs.declared.shapes.Item.TheVariants as item
use Rattle.scripts_forms.specs.Tokens.{Token, Reserved, Mark, Number, Name, Bad}
use Rattle.scripts_forms.specs.Words.{meant}
use Rattle.scripts_forms.specs.Shapes as form
use Rattle.scripts_forms.specs.Reading.{HasForm, Matches, Takes}
use Rattle.scripts_forms.specs.Guess.{guessed, on_at}

-- what holds of each list of tokens that these items take
abbrev pub Each : List Item → (List Token → Type 0) → Type 0
Each [] P = P []
Each (item.Fixed w ∷ is) P = Each is (λ ts. P (Reserved (meant w) ∷ ts))
Each (item.Mark m ∷ is) P = Each is (λ ts. P (Mark m ∷ ts))
Each (item.Value most ∷ is) P = ((n : ℕ) → Each is (λ ts. P (Number n ∷ ts))) × ((name : List ℕ) → Each is (λ ts. P (Name name ∷ ts)))

-- the same, where other items follow
abbrev pub EachFront : List Item → List Item → (List Token → Type 0) → Type 0
EachFront [] tail P = (ts : List Token) → Matches tail ts → P ts
EachFront (item.Fixed w ∷ is) tail P = EachFront is tail (λ ts. P (Reserved (meant w) ∷ ts))
EachFront (item.Mark m ∷ is) tail P = EachFront is tail (λ ts. P (Mark m ∷ ts))
EachFront (item.Value most ∷ is) tail P = ((n : ℕ) → EachFront is tail (λ ts. P (Number n ∷ ts))) × ((name : List ℕ) → EachFront is tail (λ ts. P (Name name ∷ ts)))

pub of_each : (is : List Item) (P : List Token → Type 0) → Each is P → (ts : List Token) → Matches is ts → P ts
of_each [] P e [] h = e
of_each [] P e (t ∷ ts) h = absurd h
of_each (i ∷ is) P e [] h = absurd h
of_each (item.Fixed w ∷ is) P e (t ∷ ts) h =
    let Q : Token → Type 0 = λ u. P (u ∷ ts) in
    subst Q (sym h.0) (of_each is (λ us. P (Reserved (meant w) ∷ us)) e ts h.1)
of_each (item.Mark m ∷ is) P e (t ∷ ts) h =
    let Q : Token → Type 0 = λ u. P (u ∷ ts) in
    subst Q (sym h.0) (of_each is (λ us. P (Mark m ∷ us)) e ts h.1)
of_each (item.Value most ∷ is) P e (Number n ∷ ts) h = of_each is (λ us. P (Number n ∷ us)) (e.0 n) ts h.1
of_each (item.Value most ∷ is) P e (Name name ∷ ts) h = of_each is (λ us. P (Name name ∷ us)) (e.1 name) ts h.1
of_each (item.Value most ∷ is) P e (Reserved w ∷ ts) h = absurd (false≢true h.0)
of_each (item.Value most ∷ is) P e (Mark m ∷ ts) h = absurd (false≢true h.0)
of_each (item.Value most ∷ is) P e (Bad ∷ ts) h = absurd (false≢true h.0)

pub of_each_front : (is tail : List Item) (P : List Token → Type 0) → EachFront is tail P → (ts : List Token) → Matches (is ++ tail) ts → P ts
of_each_front [] tail P e ts h = e ts h
of_each_front (i ∷ is) tail P e [] h = absurd h
of_each_front (item.Fixed w ∷ is) tail P e (t ∷ ts) h =
    let Q : Token → Type 0 = λ u. P (u ∷ ts) in
    subst Q (sym h.0) (of_each_front is tail (λ us. P (Reserved (meant w) ∷ us)) e ts h.1)
of_each_front (item.Mark m ∷ is) tail P e (t ∷ ts) h =
    let Q : Token → Type 0 = λ u. P (u ∷ ts) in
    subst Q (sym h.0) (of_each_front is tail (λ us. P (Mark m ∷ us)) e ts h.1)
of_each_front (item.Value most ∷ is) tail P e (Number n ∷ ts) h = of_each_front is tail (λ us. P (Number n ∷ us)) (e.0 n) ts h.1
of_each_front (item.Value most ∷ is) tail P e (Name name ∷ ts) h = of_each_front is tail (λ us. P (Name name ∷ us)) (e.1 name) ts h.1
of_each_front (item.Value most ∷ is) tail P e (Reserved w ∷ ts) h = absurd (false≢true h.0)
of_each_front (item.Value most ∷ is) tail P e (Mark m ∷ ts) h = absurd (false≢true h.0)
of_each_front (item.Value most ∷ is) tail P e (Bad ∷ ts) h = absurd (false≢true h.0)

-- a condition behind one token, and behind two
behind_one : (on : On) (t : Token) → Each (form.condition on) (λ ts. on_at (t ∷ ts) 1 ≡ on)
unfolding on_at
behind_one ons.Always t = refl
behind_one (ons.Phase true true p) t = refl
behind_one (ons.Phase true false p) t = refl
behind_one (ons.Phase false true p) t = refl
behind_one (ons.Phase false false p) t = refl
behind_one (ons.Byte true true) t = (λ n. (λ m. refl, λ m. refl), λ n. (λ m. refl, λ m. refl))
behind_one (ons.Byte true false) t = (λ n. refl, λ n. refl)
behind_one (ons.Byte false true) t = (λ n. (λ m. refl, λ m. refl), λ n. (λ m. refl, λ m. refl))
behind_one (ons.Byte false false) t = (λ n. refl, λ n. refl)

behind_two : (on : On) (s t : Token) → Each (form.condition on) (λ ts. on_at (s ∷ t ∷ ts) 2 ≡ on)
unfolding on_at
behind_two ons.Always s t = refl
behind_two (ons.Phase true true p) s t = refl
behind_two (ons.Phase true false p) s t = refl
behind_two (ons.Phase false true p) s t = refl
behind_two (ons.Phase false false p) s t = refl
behind_two (ons.Byte true true) s t = (λ n. (λ m. refl, λ m. refl), λ n. (λ m. refl, λ m. refl))
behind_two (ons.Byte true false) s t = (λ n. refl, λ n. refl)
behind_two (ons.Byte false true) s t = (λ n. (λ m. refl, λ m. refl), λ n. (λ m. refl, λ m. refl))
behind_two (ons.Byte false false) s t = (λ n. refl, λ n. refl)

on_behind_one : (on : On) (t : Token) (ts : List Token) → Matches (form.condition on) ts → on_at (t ∷ ts) 1 ≡ on
on_behind_one on t ts h = of_each (form.condition on) (λ us. on_at (t ∷ us) 1 ≡ on) (behind_one on t) ts h

on_behind_two : (on : On) (s t : Token) (ts : List Token) → Matches (form.condition on) ts → on_at (s ∷ t ∷ ts) 2 ≡ on
on_behind_two on s t ts h = of_each (form.condition on) (λ us. on_at (s ∷ t ∷ us) 2 ≡ on) (behind_two on s t) ts h

meant_either : (b : Bool) (r : ℕ) → meant (cond b (word.Whole r) (word.Register r)) ≡ word.Register r
meant_either true r = refl
meant_either false r = refl

meant_wide : (r : ℕ) → meant (form.wide_word r) ≡ word.Register r
meant_wide r = meant_either _ r

abbrev Guessed : Shape → List Token → Type 0
Guessed s ts = guessed ts ≡ Some s

pub guessed_of_form : (s : Shape) (ts : List Token) → HasForm s ts → Guessed s ts
unfolding guessed
guessed_of_form (shapes.Move p) ts h = of_each (form.items (shapes.Move p)) (Guessed (shapes.Move p)) (λ n. (λ m. refl, λ m. refl), λ n. (λ m. refl, λ m. refl)) ts h
guessed_of_form (shapes.MoveFrom p) ts h = of_each (form.items (shapes.MoveFrom p)) (Guessed (shapes.MoveFrom p)) (λ n. refl, λ n. refl) ts h
guessed_of_form shapes.MoveMemory ts h = of_each (form.items shapes.MoveMemory) (Guessed shapes.MoveMemory) (λ n. (λ m. (λ k. refl, λ k. refl), λ m. (λ k. refl, λ k. refl)), λ n. (λ m. (λ k. refl, λ k. refl), λ m. (λ k. refl, λ k. refl))) ts h
guessed_of_form (shapes.Modify r changes.Or s) ts h = of_each (form.items (shapes.Modify r changes.Or s)) (Guessed (shapes.Modify r changes.Or s)) (λ n. refl, λ n. refl) ts h
guessed_of_form (shapes.Modify r changes.And s) ts h = of_each (form.items (shapes.Modify r changes.And s)) (Guessed (shapes.Modify r changes.And s)) (λ n. refl, λ n. refl) ts h
guessed_of_form (shapes.Modify r changes.Add s) ts h = of_each (form.items (shapes.Modify r changes.Add s)) (Guessed (shapes.Modify r changes.Add s)) (λ n. refl, λ n. refl) ts h
guessed_of_form (shapes.Put r) ts h = of_each (form.items (shapes.Put r)) (Guessed (shapes.Put r)) (λ n. refl, λ n. refl) ts h
guessed_of_form shapes.Select ts h = of_each (form.items shapes.Select) (Guessed shapes.Select) (λ n. (λ m. refl, λ m. refl), λ n. (λ m. refl, λ m. refl)) ts h
guessed_of_form shapes.WaitDisconnect ts h = of_each (form.items shapes.WaitDisconnect) (Guessed shapes.WaitDisconnect) refl ts h
guessed_of_form shapes.WaitReselect ts h = of_each (form.items shapes.WaitReselect) (Guessed shapes.WaitReselect) (λ n. refl, λ n. refl) ts h
guessed_of_form (shapes.Set flagsets.Ack) ts h = of_each (form.items (shapes.Set flagsets.Ack)) (Guessed (shapes.Set flagsets.Ack)) refl ts h
guessed_of_form (shapes.Set flagsets.Atn) ts h = of_each (form.items (shapes.Set flagsets.Atn)) (Guessed (shapes.Set flagsets.Atn)) refl ts h
guessed_of_form (shapes.Set flagsets.Both) ts h = of_each (form.items (shapes.Set flagsets.Both)) (Guessed (shapes.Set flagsets.Both)) refl ts h
guessed_of_form (shapes.Clear flagsets.Ack) ts h = of_each (form.items (shapes.Clear flagsets.Ack)) (Guessed (shapes.Clear flagsets.Ack)) refl ts h
guessed_of_form (shapes.Clear flagsets.Atn) ts h = of_each (form.items (shapes.Clear flagsets.Atn)) (Guessed (shapes.Clear flagsets.Atn)) refl ts h
guessed_of_form (shapes.Clear flagsets.Both) ts h = of_each (form.items (shapes.Clear flagsets.Both)) (Guessed (shapes.Clear flagsets.Both)) refl ts h
guessed_of_form (shapes.Jump on) ts h = of_each_front (form.key keys.Jump ∷ form.address ∷ []) (form.condition on) (Guessed (shapes.Jump on)) (λ n us k. ap (λ (o : On). Some (shapes.Jump o)) (on_behind_two on (Reserved (word.Key keys.Jump)) (Number n) us k), λ name us k. ap (λ (o : On). Some (shapes.Jump o)) (on_behind_two on (Reserved (word.Key keys.Jump)) (Name name) us k)) ts h
guessed_of_form (shapes.Call on) ts h = of_each_front (form.key keys.Call ∷ form.address ∷ []) (form.condition on) (Guessed (shapes.Call on)) (λ n us k. ap (λ (o : On). Some (shapes.Call o)) (on_behind_two on (Reserved (word.Key keys.Call)) (Number n) us k), λ name us k. ap (λ (o : On). Some (shapes.Call o)) (on_behind_two on (Reserved (word.Key keys.Call)) (Name name) us k)) ts h
guessed_of_form (shapes.Int on) ts h = of_each_front (form.key keys.Int ∷ form.address ∷ []) (form.condition on) (Guessed (shapes.Int on)) (λ n us k. ap (λ (o : On). Some (shapes.Int o)) (on_behind_two on (Reserved (word.Key keys.Int)) (Number n) us k), λ name us k. ap (λ (o : On). Some (shapes.Int o)) (on_behind_two on (Reserved (word.Key keys.Int)) (Name name) us k)) ts h
guessed_of_form (shapes.Return on) ts h = of_each_front (form.key keys.Return ∷ []) (form.condition on) (Guessed (shapes.Return on)) (λ us k. ap (λ (o : On). Some (shapes.Return o)) (on_behind_one on (Reserved (word.Key keys.Return)) us k)) ts h
guessed_of_form (shapes.IntFly on) ts h = of_each_front (form.key keys.IntFly ∷ []) (form.condition on) (Guessed (shapes.IntFly on)) (λ us k. ap (λ (o : On). Some (shapes.IntFly o)) (on_behind_one on (Reserved (word.Key keys.IntFly)) us k)) ts h
guessed_of_form shapes.Nop ts h = of_each (form.items shapes.Nop) (Guessed shapes.Nop) refl ts h
guessed_of_form (shapes.Load r true) ts h = of_each (form.items (shapes.Load r true)) (Guessed (shapes.Load r true)) (λ n. (λ m. rw (meant_wide r) refl, λ m. rw (meant_wide r) refl), λ n. (λ m. rw (meant_wide r) refl, λ m. rw (meant_wide r) refl)) ts h
guessed_of_form (shapes.Load r false) ts h = of_each (form.items (shapes.Load r false)) (Guessed (shapes.Load r false)) (λ n. (λ m. rw (meant_wide r) refl, λ m. rw (meant_wide r) refl), λ n. (λ m. rw (meant_wide r) refl, λ m. rw (meant_wide r) refl)) ts h
guessed_of_form (shapes.Store r true) ts h = of_each (form.items (shapes.Store r true)) (Guessed (shapes.Store r true)) (λ n. (λ m. rw (meant_wide r) refl, λ m. rw (meant_wide r) refl), λ n. (λ m. rw (meant_wide r) refl, λ m. rw (meant_wide r) refl)) ts h
guessed_of_form (shapes.Store r false) ts h = of_each (form.items (shapes.Store r false)) (Guessed (shapes.Store r false)) (λ n. (λ m. rw (meant_wide r) refl, λ m. rw (meant_wide r) refl), λ n. (λ m. rw (meant_wide r) refl, λ m. rw (meant_wide r) refl)) ts h
