-- Each instruction of the script, by a test of all: its place in the footprint, and that it has two words.
use Rattle.std.proofs.Common.{◌≡◌, ℕ, ℤ, ◌*◌, ◌<◌, Bool, true, false, ◌&&◌, not, nat_eq, refl, ap, arith}
use Rattle.std.specs.Prelude.{if◌then◌else◌, slice_index_or}
use Rattle.std.proofs.lemmas.Bool.{and_parts, false≢true}
use Rattle.std.proofs.lemmas.Bool.Decides.{nat_tests}
use Rattle.scripts_ops.specs.Table.{row}
use Rattle.scripts_ops.specs.declared.values.Op.{Op}
use Rattle.scripts_ops.specs.declared.values.Op.TheVariants.{Move, MoveFrom, MoveMemory, Store, Jump, Nop}
use Rattle.scripts_ops.specs.declared.values.Condition.TheVariants.{Always}
use Rattle.scripts_ops.specs.declared.values.Address.{Address}
use Rattle.scripts_ops.specs.declared.values.Address.TheVariants.{At, FromDsa}
use Rattle.chip_step.specs.Step.{has_third}
use Rattle.chip_rows.specs.Touched.{is_in}
use Rattle.driver_script.specs.declared.script.TheConstants.{SCRIPT}
use Rattle.driver_script.specs.Script.{instruction}
use Rattle.driver_script.specs.Moves.{data_move}
use Rattle.driver_script.proofs.ScriptTests.{all_below, both_versions, same_offset, same_offset-is}
use Rattle.ownership.specs.Footprint.{Place, Nowhere, Fixed, Relative, Entry, footprint}

-- where an instruction writes
abbrev pub stored_at : ℕ → Address → Place
stored_at n (At a) = Fixed n a
stored_at n (FromDsa o) = Relative n o

abbrev pub written_by : Op → Place
written_by (Move n a phase) = if is_in phase then Fixed n a else Nowhere
written_by (MoveFrom o phase) = if is_in phase then Entry o else Nowhere
written_by (MoveMemory n s t) = Fixed n t
written_by (Store r n place) = stored_at n place
written_by _ = Nowhere

abbrev same_place : Place → Place → Bool
same_place Nowhere Nowhere = true
same_place (Fixed n a) (Fixed m b) = nat_eq n m && nat_eq a b
same_place (Relative n o) (Relative m p) = nat_eq n m && same_offset o p
same_place (Entry o) (Entry p) = same_offset o p
same_place x y = false

abbrev agrees : Place → Op → Bool
agrees place op = same_place (written_by op) place && not (has_third (row op).first)

abbrev agrees_at : ℕ → Op → Bool
agrees_at k op = agrees (footprint (8 * k)) op

all_agree : all_below 151 (λ k. agrees_at k (slice_index_or SCRIPT k Nop)) ≡ true
unfolding footprint data_move
all_agree = refl

-- the one instruction in which the versions differ writes nothing
at_188 : agrees_at 0x31 (Jump Always 0x460) ≡ true
unfolding footprint data_move
at_188 = refl

agree_at : (k version : ℕ) → k < 151 → agrees (footprint (8 * k)) (instruction k version) ≡ true
agree_at k version h = both_versions agrees_at 151 all_agree at_188 k version h

-- ---- what it means

same-is : (a b : ℕ) → nat_eq a b ≡ true → a ≡ b
same-is a b h = grind (arith, nat_tests)

fixed : (n m a b : ℕ) → n ≡ m → a ≡ b → Fixed n a ≡ Fixed m b
fixed n m a b e f = rw (e, f) refl

relative : (n m : ℕ) (o p : ℤ) → n ≡ m → o ≡ p → Relative n o ≡ Relative m p
relative n m o p e f = rw (e, f) refl

same_place-is : (x y : Place) → same_place x y ≡ true → x ≡ y
same_place-is Nowhere Nowhere h = refl
same_place-is Nowhere (Fixed m b) h = absurd (false≢true h)
same_place-is Nowhere (Relative m p) h = absurd (false≢true h)
same_place-is Nowhere (Entry p) h = absurd (false≢true h)
same_place-is (Fixed n a) Nowhere h = absurd (false≢true h)
same_place-is (Fixed n a) (Fixed m b) h =
    let e = and_parts (nat_eq n m) (nat_eq a b) h in
    fixed n m a b (same-is n m e.0) (same-is a b e.1)
same_place-is (Fixed n a) (Relative m p) h = absurd (false≢true h)
same_place-is (Fixed n a) (Entry p) h = absurd (false≢true h)
same_place-is (Relative n o) Nowhere h = absurd (false≢true h)
same_place-is (Relative n o) (Fixed m b) h = absurd (false≢true h)
same_place-is (Relative n o) (Relative m p) h =
    let e = and_parts (nat_eq n m) (same_offset o p) h in
    relative n m o p (same-is n m e.0) (same_offset-is o p e.1)
same_place-is (Relative n o) (Entry p) h = absurd (false≢true h)
same_place-is (Entry o) Nowhere h = absurd (false≢true h)
same_place-is (Entry o) (Fixed m b) h = absurd (false≢true h)
same_place-is (Entry o) (Relative m p) h = absurd (false≢true h)
same_place-is (Entry o) (Entry p) h = ap Entry (same_offset-is o p h)

not-is : (b : Bool) → not b ≡ true → b ≡ false
not-is true h = absurd (false≢true h)
not-is false h = refl

pub written_as : (k version : ℕ) → k < 151 → written_by (instruction k version) ≡ footprint (8 * k)
written_as k version h =
    let op = instruction k version in
    same_place-is (written_by op) (footprint (8 * k)) (and_parts (same_place (written_by op) (footprint (8 * k))) (not (has_third (row op).first)) (agree_at k version h)).0

pub two_words : (k version : ℕ) → k < 151 → has_third (row (instruction k version)).first ≡ false
two_words k version h =
    let op = instruction k version in
    not-is (has_third (row op).first) (and_parts (same_place (written_by op) (footprint (8 * k))) (not (has_third (row op).first)) (agree_at k version h)).1
