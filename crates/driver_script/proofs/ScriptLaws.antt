-- Every instruction of the script has a row in the instruction table, and memory that holds the script spells it.
use Rattle.std.proofs.Common.{◌≡◌, ◌≢◌, ℕ, zero, suc, ℤ, pos, negsuc, ◌+◌, ◌*◌, ◌/◌, ◌%◌, ◌^◌, ◌<◌, ◌≤◌, ◌⊎◌, inl, inr, Bool, true, false, ◌&&◌, ◌||◌, not, nat_eq, nat_lt, nat_le, IsTrue, Option, None, List, [], ◌∷◌, length, get_or, refl, ◌∙◌, arith}
use Rattle.std.specs.Prelude.{if◌then◌else◌, bit_and, slice_index, slice_index_or, unwrap_or}
use Rattle.std.proofs.lemmas.Bool.Decides.{nat_tests}
use Rattle.std.proofs.lemmas.Bool.{and_parts, cases_order, false≢true}
use Rattle.bench_words.specs.Memory.{word_at, put_word}
use Rattle.bench_words.specs.Views.{WroteWithin}
use Rattle.bench_words.proofs.MemoryLaws.{length-put_word, word_same, word_apart}
use Rattle.scripts_ops.specs.Table.{row, Spelled, IsOffset, IsPhase, IsCondition, IsPart, IsAddress, is_written, is_read, is_wide}
use Rattle.scripts_ops.specs.declared.values.Op.{Op}
use Rattle.scripts_ops.specs.declared.values.Op.TheVariants.{Move, MoveFrom, Select, WaitDisconnect, WaitReselect, Set, Clear, FromSfbr, ToSfbr, Modify, Put, Jump, Call, Return, Int, IntFly, Nop, MoveMemory, Load, Store}
use Rattle.scripts_ops.specs.declared.values.Condition.{Condition}
use Rattle.scripts_ops.specs.declared.values.Condition.TheVariants.{Always, Phase, Byte}
use Rattle.scripts_ops.specs.declared.values.Address.{Address}
use Rattle.scripts_ops.specs.declared.values.Address.TheVariants.{At, FromDsa}
use Rattle.driver_script.specs.declared.script.TheConstants.{SCRIPT}
use Rattle.driver_script.specs.Laws.{KeepsScript}
use Rattle.driver_script.specs.Script.{instruction, image, laid, IsLoaded}

-- ---- a test of the rows that the script uses

abbrev phase_fits : ℕ → Bool
phase_fits p = nat_lt p 8 && not (nat_eq p 4) && not (nat_eq p 5)

abbrev offset_fits : ℤ → Bool
offset_fits (pos n) = nat_lt n 8388608
offset_fits (negsuc n) = nat_lt n 8388608

abbrev condition_fits : Condition → Bool
condition_fits Always = true
condition_fits (Phase when not code) = phase_fits code
condition_fits (Byte not mask value) = nat_lt mask 256 && nat_lt value 256 && nat_eq (bit_and mask value) 0

abbrev part_fits : ℕ → ℕ → Bool
part_fits r n = is_wide r && nat_lt 0 n && nat_le (r % 4 + n) 4

abbrev address_fits : Address → Bool
address_fits (At a) = nat_lt a 4294967296
address_fits (FromDsa o) = offset_fits o

-- the rows that the script doesn't use are left out
abbrev fits : Op → Bool
fits (Move n a p) = phase_fits p && nat_lt 0 n && nat_lt n 16777216
fits (MoveFrom o p) = phase_fits p && offset_fits o
fits (Select o a) = offset_fits o
fits WaitDisconnect = true
fits (WaitReselect a) = true
fits (Set ack atn) = ack || atn
fits (Clear ack atn) = ack || atn
fits (FromSfbr c d r) = is_written r && not (nat_eq r 8) && nat_lt d 256
fits (ToSfbr r c d) = is_read r && nat_lt d 256
fits (Modify r c d) = is_written r && not (nat_eq r 8) && nat_lt d 256
fits (Put d r) = false
fits (Jump on a) = condition_fits on
fits (Call on a) = false
fits (Return on) = condition_fits on
fits (Int on v) = condition_fits on
fits (IntFly on) = condition_fits on
fits Nop = true
fits (MoveMemory n s t) = false
fits (Load r n place) = part_fits r n && address_fits place
fits (Store r n place) = part_fits r n && address_fits place

abbrev words_fit : Op → Bool
words_fit op = nat_lt (row op).first 4294967296 && nat_lt (row op).second 4294967296

abbrev all_fit : List Op → Bool
all_fit [] = true
all_fit (op ∷ ops) = (fits op && words_fit op) && all_fit ops

below : (a b : ℕ) → nat_lt a b ≡ true → a < b
below a b h = grind (arith, nat_tests)

most : (a b : ℕ) → nat_le a b ≡ true → a ≤ b
most a b h = grind (arith, nat_tests)

same : (a b : ℕ) → nat_eq a b ≡ true → a ≡ b
same a b h = grind (arith, nat_tests)

other : (a b : ℕ) → not (nat_eq a b) ≡ true → a ≢ b
other a b h = grind (arith, nat_tests)

phase : (p : ℕ) → phase_fits p ≡ true → IsPhase p
phase p h =
    let l = and_parts (nat_lt p 8 && not (nat_eq p 4)) (not (nat_eq p 5)) h in
    let m = and_parts (nat_lt p 8) (not (nat_eq p 4)) l.0 in
    (below p 8 m.0, other p 4 m.1, other p 5 l.1)

offset : (o : ℤ) → offset_fits o ≡ true → IsOffset o
offset (pos n) h = below n 8388608 h
offset (negsuc n) h = below n 8388608 h

condition : (on : Condition) → condition_fits on ≡ true → IsCondition on
condition Always h = tt
condition (Phase when not code) h = phase code h
condition (Byte not mask value) h =
    let l = and_parts (nat_lt mask 256 && nat_lt value 256) (nat_eq (bit_and mask value) 0) h in
    let m = and_parts (nat_lt mask 256) (nat_lt value 256) l.0 in
    (below mask 256 m.0, below value 256 m.1, same (bit_and mask value) 0 l.1)

part : (r n : ℕ) → part_fits r n ≡ true → IsPart r n
part r n h =
    let l = and_parts (is_wide r && nat_lt 0 n) (nat_le (r % 4 + n) 4) h in
    let m = and_parts (is_wide r) (nat_lt 0 n) l.0 in
    (m.0, below 0 n m.1, most (r % 4 + n) 4 l.1)

address : (place : Address) → address_fits place ≡ true → IsAddress place
address (At a) h = tt
address (FromDsa o) h = offset o h

register : (r d : ℕ) → is_written r && not (nat_eq r 8) && nat_lt d 256 ≡ true → IsTrue (is_written r) × (r ≢ 8) × (d < 256)
register r d h =
    let l = and_parts (is_written r && not (nat_eq r 8)) (nat_lt d 256) h in
    let m = and_parts (is_written r) (not (nat_eq r 8)) l.0 in
    (m.0, other r 8 m.1, below d 256 l.1)

fields : (op : Op) → fits op ≡ true → (row op).fields
fields (Move n a p) h =
    let l = and_parts (phase_fits p && nat_lt 0 n) (nat_lt n 16777216) h in
    let m = and_parts (phase_fits p) (nat_lt 0 n) l.0 in
    (phase p m.0, below 0 n m.1, below n 16777216 l.1)
fields (MoveFrom o p) h = let l = and_parts (phase_fits p) (offset_fits o) h in (phase p l.0, offset o l.1)
fields (Select o a) h = offset o h
fields WaitDisconnect h = tt
fields (WaitReselect a) h = tt
fields (Set ack atn) h = h
fields (Clear ack atn) h = h
fields (FromSfbr c d r) h = register r d h
fields (ToSfbr r c d) h = let l = and_parts (is_read r) (nat_lt d 256) h in (l.0, below d 256 l.1)
fields (Modify r c d) h = register r d h
fields (Put d r) h = absurd (false≢true h)
fields (Jump on a) h = condition on h
fields (Call on a) h = absurd (false≢true h)
fields (Return on) h = condition on h
fields (Int on v) h = condition on h
fields (IntFly on) h = condition on h
fields Nop h = tt
fields (MoveMemory n u t) h = absurd (false≢true h)
fields (Load r n place) h = let l = and_parts (part_fits r n) (address_fits place) h in (part r n l.0, address place l.1)
fields (Store r n place) h = let l = and_parts (part_fits r n) (address_fits place) h in (part r n l.0, address place l.1)

two_words : (op : Op) → fits op ≡ true → (row op).third ≡ None
two_words (Move n a p) h = refl
two_words (MoveFrom o p) h = refl
two_words (Select o a) h = refl
two_words WaitDisconnect h = refl
two_words (WaitReselect a) h = refl
two_words (Set ack atn) h = refl
two_words (Clear ack atn) h = refl
two_words (FromSfbr c d r) h = refl
two_words (ToSfbr r c d) h = refl
two_words (Modify r c d) h = refl
two_words (Put d r) h = refl
two_words (Jump on a) h = refl
two_words (Call on a) h = refl
two_words (Return on) h = refl
two_words (Int on v) h = refl
two_words (IntFly on) h = refl
two_words Nop h = refl
two_words (MoveMemory n u t) h = absurd (false≢true h)
two_words (Load r n place) h = refl
two_words (Store r n place) h = refl

-- ---- the script passes it

fit_at : (ops : List Op) (k : ℕ) → all_fit ops ≡ true → fits (get_or ops k Nop) && words_fit (get_or ops k Nop) ≡ true
fit_at [] k h = refl
fit_at (op ∷ ops) zero h = (and_parts (fits op && words_fit op) (all_fit ops) h).0
fit_at (op ∷ ops) (suc k) h = fit_at ops k (and_parts (fits op && words_fit op) (all_fit ops) h).1

either : (b : Bool) (x y : Op) → fits x && words_fit x ≡ true → fits y && words_fit y ≡ true → fits (if b then x else y) && words_fit (if b then x else y) ≡ true
either true x y hx hy = hx
either false x y hx hy = hy

instruction_fits : (k version : ℕ) → fits (instruction k version) && words_fit (instruction k version) ≡ true
unfolding instruction
instruction_fits k version =
    either (nat_eq k 0x31 && nat_eq version 2) (Jump Always 0x460) (slice_index_or SCRIPT k Nop) refl (fit_at SCRIPT k refl)

pub instruction_fields : (k version : ℕ) → (row (instruction k version)).fields
instruction_fields k version =
    fields (instruction k version) (and_parts (fits (instruction k version)) (words_fit (instruction k version)) (instruction_fits k version)).0

-- ---- its words

first_word : (w0 w1 w2 : ℕ) → slice_index (w0 ∷ w1 ∷ w2 ∷ []) 0 ≡ w0
first_word w0 w1 w2 = refl

second_word : (w0 w1 w2 : ℕ) → slice_index (w0 ∷ w1 ∷ w2 ∷ []) 1 ≡ w1
second_word w0 w1 w2 = refl

-- the script spells its instructions
pub script_spelled : (k version w2 : ℕ) → Spelled (image (2 * k) version) (image (2 * k + 1) version) w2 (instruction k version)
unfolding image
script_spelled k version w2 =
    let h0 : 2 * k / 2 ≡ k = omega arith in
    let h1 : (2 * k + 1) / 2 ≡ k = omega arith in
    let r0 : 2 * k % 2 ≡ 0 = omega arith in
    let r1 : (2 * k + 1) % 2 ≡ 1 = omega arith in
    let two : (row (instruction k version)).third ≡ None =
    two_words (instruction k version) (and_parts (fits (instruction k version)) (words_fit (instruction k version)) (instruction_fits k version)).0 in
    rw (h0, h1, r0, r1)
    (record { fields = instruction_fields k version; first = refl; second = refl; third = rw two tt })

-- memory that holds the script spells each instruction at its address
pub loaded_spelled : (view : ℕ → ℕ) (k version w2 : ℕ) → IsLoaded view version → k < 151 → Spelled (view (8 * k)) (view (8 * k + 4)) w2 (instruction k version)
loaded_spelled view k version w2 l h =
    let a : 4 * (2 * k) ≡ 8 * k = omega arith in
    let b : 4 * (2 * k + 1) ≡ 8 * k + 4 = omega arith in
    let first : view (8 * k) ≡ image (2 * k) version = rw a at (l.at (2 * k) (omega arith)) in
    let second : view (8 * k + 4) ≡ image (2 * k + 1) version = rw b at (l.at (2 * k + 1) (omega arith)) in
    rw (first, second) (script_spelled k version w2)

pub keeps_script : KeepsScript
keeps_script old new version kept l =
    record { at = λ n h. kept.at (4 * n) (record { from = omega arith; to = omega arith }) ∙ l.at n h }

-- ---- laying it

pub laid-zero : (m : List ℕ) (version : ℕ) → laid m version 0 ≡ m
unfolding laid
laid-zero m version = refl

pub laid-more : (m : List ℕ) (version n : ℕ) → laid m version (n + 1) ≡ put_word (laid m version n) (4 * n) (image n version)
unfolding laid
laid-more m version n = let e : n + 1 ≡ suc n = omega arith in rw e refl

pub length-laid : (m : List ℕ) (version n : ℕ) → length (laid m version n) ≡ length m
unfolding laid
length-laid m version zero = refl
length-laid m version (suc n) = length-put_word (laid m version n) (4 * n) (image n version) ∙ length-laid m version n

-- a word of the script is a word
word_fits : (w0 w1 k : ℕ) (w2 : Option ℕ) → k < 2 → w0 < 2 ^ 32 → w1 < 2 ^ 32 → slice_index (w0 ∷ w1 ∷ unwrap_or w2 0 ∷ []) k < 2 ^ 32
word_fits w0 w1 zero w2 h a b = a
word_fits w0 w1 (suc zero) w2 h a b = b
word_fits w0 w1 (suc (suc k)) w2 h a b = absurd (omega arith)

pub image-most : (n version : ℕ) → image n version < 2 ^ 32
unfolding image
image-most n version =
    let op : Op = instruction (n / 2) version in
    let f = (and_parts (fits op) (words_fit op) (instruction_fits (n / 2) version)).1 in
    let l = and_parts (nat_lt (row op).first 4294967296) (nat_lt (row op).second 4294967296) f in
    word_fits (row op).first (row op).second (n % 2) (row op).third (omega arith) (below (row op).first 4294967296 l.0) (below (row op).second 4294967296 l.1)

last_or : (m : List ℕ) (version n k : ℕ) → 4 * suc n ≤ length m → k < suc n → (k < n → word_at (laid m version n) (4 * k) ≡ image k version) → (k ≡ n) ⊎ ((k < n) ⊎ (n < k)) → word_at (put_word (laid m version n) (4 * n) (image n version)) (4 * k) ≡ image k version
last_or m version n k h b before (inl e) =
    rw e (word_same (laid m version n) (4 * n) (image n version) (omega (arith, length-laid m version n)) (image-most n version))
last_or m version n k h b before (inr (inl l)) =
    word_apart (laid m version n) (4 * n) (4 * k) (image n version) (inl (omega arith)) ∙ before l
last_or m version n k h b before (inr (inr l)) = absurd (omega arith)

laid_at : (m : List ℕ) (version n k : ℕ) → 4 * n ≤ length m → k < n → word_at (laid m version n) (4 * k) ≡ image k version
unfolding laid
laid_at m version zero k h b = absurd (omega arith)
laid_at m version (suc n) k h b =
    last_or m version n k h b (λ l. laid_at m version n k (omega arith) l) (cases_order k n)

pub laid-loaded : (m : List ℕ) (version : ℕ) → length m ≡ 0x400000 → IsLoaded (word_at (laid m version 302)) version
laid-loaded m version h = record { at = λ n b. laid_at m version 302 n (omega arith) b }

laid_other : (m : List ℕ) (version n x : ℕ) → 4 * n ≤ x → word_at (laid m version n) x ≡ word_at m x
unfolding laid
laid_other m version zero x h = refl
laid_other m version (suc n) x h = word_apart (laid m version n) (4 * n) x (image n version) (inr (omega arith)) ∙ laid_other m version n x (omega arith)

pub laid-within : (m : List ℕ) (version : ℕ) → WroteWithin (word_at m) (word_at (laid m version 302)) 0 0x4B8
laid-within m version = record { other = λ x out. laid_other m version 302 x (omega arith) }
