-- Every list of words has one listing.
use Rattle.std.proofs.Common.{◌≡◌, ℕ, zero, suc, ◌+◌, ◌*◌, ◌≤◌, List, [], ◌∷◌, ◌++◌, length, refl, sym, ap, ◌∙◌, subst, ⊎_elim, arith, length-append}
use Rattle.std.proofs.lemmas.List.{append_cancel_left}
use Rattle.scripts_ops.specs.declared.values.Op.{Op}
use Rattle.scripts_ops.specs.Table.{row}
use Rattle.scripts_asm.specs.Assembled.{words_of_op}
use Rattle.scripts_list.specs.Texts.{text_of}
use Rattle.scripts_list.specs.Listing.{Starts, IsListing, ends, shows, word, line, word_part}
use Rattle.scripts_list.specs.Laws.{OneListing}
use Rattle.scripts_list.proofs.Listed.{one_start}
use Rattle.scripts_list.proofs.Beginnings.{begins_or_not}

-- ---- a listing

abbrev Listing : ℕ → List ℕ → Type 0
Listing a ws = (text : List ℕ) × IsListing a ws text

of_start : (a : ℕ) (ws : List ℕ) (op : Op) (s : Starts ws op) → Listing (a + 4 * length (words_of_op op)) s.rest → Listing a ws
of_start a ws op s more = (
  line a (words_of_op op) (text_of op) ++ more.0,
  subst (λ (xs : List ℕ). IsListing a xs (line a (words_of_op op) (text_of op) ++ more.0)) (sym s.words_are) (shows op s.fields more.1),
)

fewer : (ws : List ℕ) (op : Op) (s : Starts ws op) → length s.rest + 2 ≤ length ws
fewer ws op s = omega (arith, ap length s.words_are, length-append (words_of_op op) s.rest)

some_by : (n a : ℕ) (ws : List ℕ) → length ws ≤ n → Listing a ws
some_by n a [] few = ([], ends)
some_by zero a (w ∷ ws) few = absurd (omega arith)
some_by (suc n) a (w ∷ ws) few = ⊎_elim
    (λ begins. of_start a (w ∷ ws) begins.0 begins.1 (some_by n (a + 4 * length (words_of_op begins.0)) begins.1.rest (omega (arith, few, fewer (w ∷ ws) begins.0 begins.1))))
    (λ none. let more : Listing (a + 4) ws = some_by n (a + 4) ws (omega arith) in (line a (w ∷ []) (word_part w) ++ more.0, word none more.1))
    (begins_or_not (w ∷ ws))

-- ---- no other

none_by : (rest : List ℕ) (op : Op) → [] ≡ words_of_op op ++ rest → ⊥
none_by rest op e = cc

begins : (op : Op) (rest : List ℕ) → (row op).fields → Starts (words_of_op op ++ rest) op
begins op rest h = record { fields = h; rest = rest; words_are = refl }

one : (a : ℕ) (ws vs t u : List ℕ) → ws ≡ vs → IsListing a ws t → IsListing a vs u → t ≡ u
one a ws vs t u e ends ends = refl
one a ws vs t u e ends (shows {rest = rest} {text = behind} op h more) = absurd (none_by rest op e)
one a ws vs t u e ends (word {w = w} {rest = rest} {text = behind} none more) = absurd cc
one a ws vs t u e (shows {rest = rest} {text = behind} op h more) ends = absurd (none_by rest op (sym e))
one a ws vs t u e (shows {rest = rest} {text = behind} op h more) (shows {rest = rest'} {text = behind'} op' h' more') =
    let same : op' ≡ op = one_start (words_of_op op' ++ rest') op' op (begins op' rest' h') (record { fields = h; rest = rest; words_are = sym e }) in
    let others : rest ≡ rest' = append_cancel_left (words_of_op op) rest rest' (e ∙ ap (λ (x : Op). words_of_op x ++ rest') same) in
    let again : IsListing (a + 4 * length (words_of_op op)) rest' behind' = subst (λ (x : Op). IsListing (a + 4 * length (words_of_op x)) rest' behind') same more' in
    let texts : behind ≡ behind' = one (a + 4 * length (words_of_op op)) rest rest' behind behind' others more again in
    ap (λ (xs : List ℕ). line a (words_of_op op) (text_of op) ++ xs) texts ∙ sym (ap (λ (x : Op). line a (words_of_op x) (text_of x) ++ behind') same)
one a ws vs t u e (shows {rest = rest} {text = behind} op h more) (word {w = w} {rest = rest'} {text = behind'} none more') =
    absurd (none op (record { fields = h; rest = rest; words_are = sym e }))
one a ws vs t u e (word {w = w} {rest = rest} {text = behind} none more) ends = absurd cc
one a ws vs t u e (word {w = w} {rest = rest} {text = behind} none more) (shows {rest = rest'} {text = behind'} op h more') =
    absurd (none op (record { fields = h; rest = rest'; words_are = e }))
one a ws vs t u e (word {w = w} {rest = rest} {text = behind} none more) (word {w = w'} {rest = rest'} {text = behind'} none' more') =
    let head : w ≡ w' = cc in
    let others : rest ≡ rest' = cc in
    let texts : behind ≡ behind' = one (a + 4) rest rest' behind behind' others more more' in
    ap (λ (x : ℕ). line a (x ∷ []) (word_part x) ++ behind) head ∙ ap (λ (xs : List ℕ). line a (w' ∷ []) (word_part w') ++ xs) texts

pub one_listing : (a : ℕ) (ws : List ℕ) → OneListing a ws
one_listing a ws = record { some = some_by (length ws) a ws (omega arith); one = λ t u g h. one a ws ws t u refl g h }
