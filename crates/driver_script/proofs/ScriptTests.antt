-- A test that holds of each instruction of the table holds of each instruction of both versions of the script.
use Rattle.std.proofs.Common.{◌≡◌, ℕ, ℤ, pos, negsuc, zero, suc, ◌<◌, ◌⊎◌, inl, inr, Bool, true, false, ◌&&◌, nat_eq, refl, ap, arith}
use Rattle.std.specs.Prelude.{if◌then◌else◌, slice_index_or}
use Rattle.std.proofs.lemmas.Bool.{and_parts, cases_order, false≢true}
use Rattle.std.proofs.lemmas.Bool.Decides.{nat_tests}
use Rattle.scripts_ops.specs.declared.values.Op.{Op}
use Rattle.scripts_ops.specs.declared.values.Op.TheVariants.{Jump, Nop}
use Rattle.scripts_ops.specs.declared.values.Condition.TheVariants.{Always}
use Rattle.driver_script.specs.declared.script.TheConstants.{SCRIPT}
use Rattle.driver_script.specs.Script.{instruction}

-- a test of every number below n
abbrev pub all_below : ℕ → (ℕ → Bool) → Bool
all_below zero t = true
all_below (suc n) t = t n && all_below n t

below_or : (n k : ℕ) (t : ℕ → Bool) → (t n ≡ true) × (all_below n t ≡ true) → (k < n → t k ≡ true) → (k ≡ n) ⊎ ((k < n) ⊎ (n < k)) → k < suc n → t k ≡ true
below_or n k t h rest (inl e) b = rw e h.0
below_or n k t h rest (inr (inl l)) b = rest l
below_or n k t h rest (inr (inr l)) b = absurd (omega arith)

pub below : (n k : ℕ) (t : ℕ → Bool) → all_below n t ≡ true → k < n → t k ≡ true
below zero k t h b = absurd (omega arith)
below (suc n) k t h b =
    let all = and_parts (t n) (all_below n t) h in
    below_or n k t all (λ l. below n k t all.1 l) (cases_order k n) b

either : (b : Bool) (t : Op → Bool) (x y : Op) → (b ≡ true → t x ≡ true) → t y ≡ true → t (if b then x else y) ≡ true
either true t x y hx hy = hx refl
either false t x y hx hy = hy

changed : (t : ℕ → Op → Bool) (k version : ℕ) → t 0x31 (Jump Always 0x460) ≡ true → nat_eq k 0x31 && nat_eq version 2 ≡ true → t k (Jump Always 0x460) ≡ true
changed t k version j h =
    let e : k ≡ 0x31 = grind (arith, nat_tests, and_parts (nat_eq k 0x31) (nat_eq version 2) h) in
    rw e j

-- at 0x31 version 2 has another instruction than the table
pub both_versions : (t : ℕ → Op → Bool) (n : ℕ) → all_below n (λ k. t k (slice_index_or SCRIPT k Nop)) ≡ true → t 0x31 (Jump Always 0x460) ≡ true → (k version : ℕ) → k < n → t k (instruction k version) ≡ true
unfolding instruction
both_versions t n h j k version b =
    either (nat_eq k 0x31 && nat_eq version 2) (t k) (Jump Always 0x460) (slice_index_or SCRIPT k Nop) (changed t k version j) (below n k (λ k. t k (slice_index_or SCRIPT k Nop)) h b)

abbrev pub same_offset : ℤ → ℤ → Bool
same_offset (pos a) (pos b) = nat_eq a b
same_offset a b = false

pub same_offset-is : (a b : ℤ) → same_offset a b ≡ true → a ≡ b
same_offset-is (pos a) (pos b) h = let e : a ≡ b = grind (arith, nat_tests) in ap pos e
same_offset-is (pos a) (negsuc b) h = absurd (false≢true h)
same_offset-is (negsuc a) b h = absurd (false≢true h)
