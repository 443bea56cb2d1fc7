-- Where an instruction finds its bytes.
use Rattle.std.specs.Prelude.{ℕ, ℤ, pos, negsuc, suc, ◌+◌, ◌-◌, ◌%◌, nat_lt, nat_le, if◌then◌else◌, Option, Some, None, List, length}
use Rattle.scripts_ops.specs.Table.{offset_bits}
use Rattle.scripts_ops.specs.declared.values.Address.{Address}
use Rattle.scripts_ops.specs.declared.values.Address.TheVariants.{At, FromDsa}

-- a base with an offset, where it isn't below 0
abbrev pub offset_at : ℕ → ℤ → Option ℕ
offset_at base (pos n) = Some (base + n)
offset_at base (negsuc n) = if nat_lt n base then Some (base - suc n) else None

-- so many bytes from an address on, where they all lie in memory; the sum isn't reduced
abbrev pub place_in : List ℕ → ℕ → Option ℕ → Option ℕ
place_in memory len None = None
place_in memory len (Some a) = if nat_le (a + len) (length memory) then Some a else None

unfoldable pub place_of : List ℕ → ℕ → ℤ → ℕ → Option ℕ
place_of memory base offset len = place_in memory len (offset_at base offset)

-- the address of LOAD and STORE, absolute or from DSA
abbrev pub address_of : List ℕ → ℕ → Address → ℕ → Option ℕ
address_of memory dsa (At a) len = place_in memory len (Some a)
address_of memory dsa (FromDsa o) len = place_of memory dsa o len

-- Its low two bits, of the sum modulo 4, wherever it lies: the offset's 24 bits in two's complement are more than the
-- offset by 0 or by 2 ^ 24.
abbrev pub low_bits : ℕ → Address → ℕ
low_bits dsa (At a) = a % 4
low_bits dsa (FromDsa o) = (dsa + offset_bits o) % 4
