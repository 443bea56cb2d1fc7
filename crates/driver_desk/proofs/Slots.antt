-- The slots of a ring one after another.
use Rattle.std.proofs.Common.{arith, ◌≡◌, ℕ, suc, ◌+◌, ◌-◌, ◌%◌, ◌/◌, ◌==◌, ◌<◌, Bool, true, false, ◌||◌, if◌then◌else◌, List, map, refl, ap}
use Rattle.std.proofs.lemmas.Bool.Decides.{nat_tests}
use Rattle.std.specs.List.{list_any}
use Rattle.bench_words.specs.Memory.{word_at}
use Rattle.host_map.specs.declared.TheConstants.{START_RING}
use Rattle.job_rings.specs.Rings.{IsSlot, next_slot}
use Rattle.desk_law.specs.Rings.{slots_from, is_start_slot, waiting_count}

abbrev pub any_from : List ℕ → ℕ → ℕ → ℕ → Bool
any_from m block n slot = list_any (λ (b : ℕ). b == block) (map (word_at m) (slots_from n slot))

by-suc : (m : List ℕ) (block k n slot : ℕ) → k ≡ suc n → any_from m block k slot ≡ (word_at m slot == block || any_from m block n (next_slot START_RING slot))
by-suc m block k n slot e = ap (λ (x : ℕ). any_from m block x slot) e

pub one_slot : (m : List ℕ) (block count counter slot : ℕ) → counter < count
    → any_from m block (count - counter) slot ≡ (word_at m slot == block || any_from m block (count - (counter + 1)) (next_slot START_RING slot))
one_slot m block count counter slot h = by-suc m block (count - counter) (count - (counter + 1)) slot (omega (arith, h))

by-test : (b : Bool) (ringp put : ℕ) → b ≡ true → (if b then (put + 4096 - ringp) % 4096 / 8 else 0) ≡ (put + 4096 - ringp) % 4096 / 8
by-test true ringp put e = refl
by-test false ringp put e = absurd cc

pub counts_from_slot : (ringp put : ℕ) → IsSlot START_RING ringp → waiting_count ringp put ≡ (put + 4096 - ringp) % 4096 / 8
counts_from_slot ringp put h = by-test (is_start_slot ringp) ringp put (grind (arith, nat_tests, h.from, h.below, h.aligned))

pub aligned_slot : (slot : ℕ) → IsSlot START_RING slot → slot % 4 ≡ 0
aligned_slot slot h = omega (arith, h.from, h.aligned)

pub below_slot : (slot : ℕ) → IsSlot START_RING slot → slot < 0x400000
below_slot slot h = omega (arith, h.below)
