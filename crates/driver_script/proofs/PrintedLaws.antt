-- The words of the script are those that are printed.
use Rattle.std.proofs.Common.{◌≡◌, ℕ, zero, suc, ◌/◌, ◌%◌, ◌<◌, Bool, true, false, ◌&&◌, nat_eq, List, [], ◌∷◌, get_or, refl, ◌∙◌, arith}
use Rattle.std.specs.Prelude.{if◌then◌else◌, slice_index, slice_index_or, unwrap_or}
use Rattle.std.proofs.lemmas.Bool.Decides.{nat_tests}
use Rattle.std.proofs.lemmas.Bool.{and_parts, false≢true}
use Rattle.scripts_ops.specs.Table.{row}
use Rattle.scripts_ops.specs.declared.values.Op.{Op}
use Rattle.scripts_ops.specs.declared.values.Op.TheVariants.{Jump, Nop}
use Rattle.scripts_ops.specs.declared.values.Condition.TheVariants.{Always}
use Rattle.driver_script.specs.declared.script.TheConstants.{SCRIPT}
use Rattle.driver_script.specs.Script.{instruction, image}
use Rattle.driver_script.specs.Printed.{first_printed, printed, printed_word}

abbrev has_words : Op → ℕ × ℕ → Bool
has_words op ws = nat_eq (row op).first ws.0 && nat_eq (row op).second ws.1

abbrev have_words : List Op → List (ℕ × ℕ) → Bool
have_words [] [] = true
have_words (op ∷ ops) (ws ∷ wss) = has_words op ws && have_words ops wss
have_words ops wss = false

-- a place behind both lists has NOP and its words
words_at : (ops : List Op) (wss : List (ℕ × ℕ)) (k : ℕ) → have_words ops wss ≡ true → has_words (get_or ops k Nop) (get_or wss k (0x80000000, 0x0)) ≡ true
words_at [] [] k h = refl
words_at [] (ws ∷ wss) k h = absurd (false≢true h)
words_at (op ∷ ops) [] k h = absurd (false≢true h)
words_at (op ∷ ops) (ws ∷ wss) zero h = (and_parts (has_words op ws) (have_words ops wss) h).0
words_at (op ∷ ops) (ws ∷ wss) (suc k) h = words_at ops wss k (and_parts (has_words op ws) (have_words ops wss) h).1

either : (b : Bool) (x y : Op) (v w : ℕ × ℕ) → has_words x v ≡ true → has_words y w ≡ true → has_words (if b then x else y) (if b then v else w) ≡ true
either true x y v w hx hy = hx
either false x y v w hx hy = hy

first_version : have_words SCRIPT first_printed ≡ true
unfolding first_printed
first_version = refl

instruction_printed : (k version : ℕ) → has_words (instruction k version) (printed k version) ≡ true
unfolding instruction printed
instruction_printed k version =
    either (nat_eq k 0x31 && nat_eq version 2) (Jump Always 0x460) (slice_index_or SCRIPT k Nop) (0x80080000, 0x460) (slice_index_or first_printed k (0x80000000, 0x0)) refl (words_at SCRIPT first_printed k first_version)

same : (a b : ℕ) → nat_eq a b ≡ true → a ≡ b
same a b h = grind (arith, nat_tests)

word_of : (w0 w1 w2 k : ℕ) → k < 2 → slice_index (w0 ∷ w1 ∷ w2 ∷ []) k ≡ (if nat_eq k 0 then w0 else w1)
word_of w0 w1 w2 zero h = refl
word_of w0 w1 w2 (suc zero) h = refl
word_of w0 w1 w2 (suc (suc k)) h = absurd (omega arith)

pub image-printed : (n version : ℕ) → image n version ≡ printed_word n version
unfolding image printed_word
image-printed n version =
    let op = instruction (n / 2) version in
    let ws = printed (n / 2) version in
    let h = and_parts (nat_eq (row op).first ws.0) (nat_eq (row op).second ws.1) (instruction_printed (n / 2) version) in
    let first = same (row op).first ws.0 h.0 in
    let second = same (row op).second ws.1 h.1 in
    word_of (row op).first (row op).second (unwrap_or (row op).third 0) (n % 2) (omega arith) ∙ rw (first, second) refl
