-- Fields of a block that are written one behind the other, no two of them one: each reads as it was written.
use Rattle.std.proofs.Common.{◌≡◌, ℕ, zero, suc, ◌+◌, ◌-◌, ◌^◌, ◌<◌, ◌≤◌, List, [], ◌∷◌, length, get_or, Bool, true, ◌&&◌, nat_le, refl, ◌∙◌, arith}
use Rattle.std.proofs.lemmas.Bool.{and_parts}
use Rattle.std.proofs.lemmas.Bool.Decides.{nat_tests}
use Rattle.bench_words.specs.Memory.{word_at, put_word}
use Rattle.bench_words.specs.Views.{Apart, Wrote}
use Rattle.bench_words.proofs.MemoryLaws.{length-put_word, wrote-put_word}
use Rattle.cmd_block.specs.Block.{IsField, offset}
use Rattle.cmd_block.specs.declared.Field.{Field}
use Rattle.cmd_block.specs.declared.Field.TheVariants.{Start}
use Rattle.cmd_block.proofs.FieldLaws.{offset_fits}
use Rattle.sense_job.specs.Turning.{with_fields}

-- each is a field, and its value a word
abbrev pub AllFit : List (Field × ℕ) → Type 0
AllFit [] = Unit {0}
AllFit (f ∷ fs) = IsField f.0 × (f.1 < 2 ^ 32) × AllFit fs

-- none shares a byte with the word at an address
abbrev pub AllApart : ℕ → List (Field × ℕ) → ℕ → Type 0
AllApart block [] a = Unit {0}
AllApart block (f ∷ fs) a = Apart (block + offset f.0) a × AllApart block fs a

-- tests of the offsets: none is that of a word here, and no two are one
abbrev pub are_apart : List (Field × ℕ) → ℕ → Bool
are_apart [] o = true
are_apart (f ∷ fs) o = nat_le 4 ((offset f.0 - o) + (o - offset f.0)) && are_apart fs o

abbrev pub are_distinct : List (Field × ℕ) → Bool
are_distinct [] = true
are_distinct (f ∷ fs) = are_apart fs (offset f.0) && are_distinct fs

apart_by : (block p o : ℕ) → nat_le 4 ((p - o) + (o - p)) ≡ true → Apart (block + p) (block + o)
apart_by block p o h = grind (arith, nat_tests)

all_apart : (block : ℕ) (fs : List (Field × ℕ)) (o : ℕ) → are_apart fs o ≡ true → AllApart block fs (block + o)
all_apart block [] o h = tt
all_apart block (f ∷ fs) o h =
    let b = and_parts (nat_le 4 ((offset f.0 - o) + (o - offset f.0))) (are_apart fs o) h in
    (apart_by block (offset f.0) o b.0, all_apart block fs o b.1)

wrote : (m : List ℕ) (block : ℕ) (f : Field × ℕ) → IsField f.0 → f.1 < 2 ^ 32 → block + 0x100 ≤ length m → Wrote (word_at m) (word_at (put_word m (block + offset f.0) f.1)) (block + offset f.0) f.1
wrote m block f is fits room =
    let low : offset f.0 + 4 ≤ 0xE0 = (offset_fits f.0 is).0 in
    wrote-put_word m (block + offset f.0) f.1 (omega arith) fits

pub length-with_fields : (m : List ℕ) (block : ℕ) (fs : List (Field × ℕ)) → length (with_fields m block fs) ≡ length m
length-with_fields m block [] = refl
length-with_fields m block (f ∷ fs) = length-with_fields (put_word m (block + offset f.0) f.1) block fs ∙ length-put_word m (block + offset f.0) f.1

pub with_fields-other : (m : List ℕ) (block : ℕ) (fs : List (Field × ℕ)) (a : ℕ) → block + 0x100 ≤ length m → AllFit fs → AllApart block fs a
    → word_at (with_fields m block fs) a ≡ word_at m a
with_fields-other m block [] a room fit apart = refl
with_fields-other m block (f ∷ fs) a room fit apart =
    with_fields-other (put_word m (block + offset f.0) f.1) block fs a (omega (arith, length-put_word m (block + offset f.0) f.1)) fit.2 apart.1
    ∙ (wrote m block f fit.0 fit.1 room).other a apart.0

-- the k-th of the fields
abbrev pub nth : List (Field × ℕ) → ℕ → Field × ℕ
nth fs k = get_or fs k (Start, 0)

pub with_fields-same : (m : List ℕ) (block : ℕ) (fs : List (Field × ℕ)) (k : ℕ) → block + 0x100 ≤ length m → AllFit fs → are_distinct fs ≡ true → k < length fs
    → word_at (with_fields m block fs) (block + offset (nth fs k).0) ≡ (nth fs k).1
with_fields-same m block [] k room fit distinct h = absurd (omega arith)
with_fields-same m block (f ∷ fs) zero room fit distinct h =
    let b = and_parts (are_apart fs (offset f.0)) (are_distinct fs) distinct in
    with_fields-other (put_word m (block + offset f.0) f.1) block fs (block + offset f.0) (omega (arith, length-put_word m (block + offset f.0) f.1)) fit.2 (all_apart block fs (offset f.0) b.0)
    ∙ (wrote m block f fit.0 fit.1 room).same
with_fields-same m block (f ∷ fs) (suc k) room fit distinct h =
    let b = and_parts (are_apart fs (offset f.0)) (are_distinct fs) distinct in
    with_fields-same (put_word m (block + offset f.0) f.1) block fs k (omega (arith, length-put_word m (block + offset f.0) f.1)) fit.2 b.1 (omega arith)
