-- A flag of a byte, as the byte is tested and as it is put together.
use Rattle.std.proofs.Common.{◌≡◌, ℕ, zero, suc, ◌+◌, ◌*◌, ◌^◌, ◌<◌, Bool, true, false, nat_eq, refl, arith}
use Rattle.std.specs.Int.RustNames.{bit_and, bit_or}
use Rattle.std.specs.Int.{bit_at}
use Rattle.std.proofs.lemmas.Bool.Decides.{nat_tests}
use Rattle.std.proofs.lemmas.Nat.Bits.{and_pow, bit_at-lt}
use Rattle.std.proofs.lemmas.Nat.{pow_pos}
use Rattle.chip_regs.specs.Registers.{flag, has_flag}

one_or_none : (d p : ℕ) → d < 2 → 0 < p → nat_eq (d * p) p ≡ nat_eq d 1
one_or_none zero p h q = grind (arith, nat_tests)
one_or_none (suc zero) p h q = grind (arith, nat_tests)
one_or_none (suc (suc d)) p h q = absurd (omega arith)

-- the flag of bit k is in b
pub flag_test : (b k : ℕ) → nat_eq (bit_and b (2 ^ k)) (2 ^ k) ≡ has_flag b (2 ^ k)
flag_test b k = rw (and_pow b k) (one_or_none (bit_at b k) (2 ^ k) (bit_at-lt b k) (pow_pos k))

-- flags of distinct bits add up
pub dstat_flags : (a b c : Bool) → bit_or (bit_or (flag a 0x20) (flag b 0x04)) (flag c 0x01) ≡ flag a 0x20 + flag b 0x04 + flag c 0x01
dstat_flags true true true = refl
dstat_flags true true false = refl
dstat_flags true false true = refl
dstat_flags true false false = refl
dstat_flags false true true = refl
dstat_flags false true false = refl
dstat_flags false false true = refl
dstat_flags false false false = refl

pub sist0_flags : (a b c : Bool) → bit_or (bit_or (flag a 0x80) (flag b 0x04)) (flag c 0x02) ≡ flag a 0x80 + flag b 0x04 + flag c 0x02
sist0_flags true true true = refl
sist0_flags true true false = refl
sist0_flags true false true = refl
sist0_flags true false false = refl
sist0_flags false true true = refl
sist0_flags false true false = refl
sist0_flags false false true = refl
sist0_flags false false false = refl

pub istat_flags : (a b c d e : Bool) → bit_or (bit_or (bit_or (bit_or (flag a 0x20) (flag b 0x08)) (flag c 0x04)) (flag d 0x02)) (flag e 0x01) ≡ flag a 0x20 + flag b 0x08 + flag c 0x04 + flag d 0x02 + flag e 0x01
istat_flags true true true true true = refl
istat_flags true true true true false = refl
istat_flags true true true false true = refl
istat_flags true true true false false = refl
istat_flags true true false true true = refl
istat_flags true true false true false = refl
istat_flags true true false false true = refl
istat_flags true true false false false = refl
istat_flags true false true true true = refl
istat_flags true false true true false = refl
istat_flags true false true false true = refl
istat_flags true false true false false = refl
istat_flags true false false true true = refl
istat_flags true false false true false = refl
istat_flags true false false false true = refl
istat_flags true false false false false = refl
istat_flags false true true true true = refl
istat_flags false true true true false = refl
istat_flags false true true false true = refl
istat_flags false true true false false = refl
istat_flags false true false true true = refl
istat_flags false true false true false = refl
istat_flags false true false false true = refl
istat_flags false true false false false = refl
istat_flags false false true true true = refl
istat_flags false false true true false = refl
istat_flags false false true false true = refl
istat_flags false false true false false = refl
istat_flags false false false true true = refl
istat_flags false false false true false = refl
istat_flags false false false false true = refl
istat_flags false false false false false = refl
