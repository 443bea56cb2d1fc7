-- The registers as bytes, and the wide ones as words.
use Rattle.std.specs.Prelude.{◌≡◌, ℕ, ◌+◌, ◌-◌, ◌*◌, ◌/◌, ◌%◌, ◌^◌, ◌<◌}
use Rattle.chip_regs.specs.Registers.{byte_at, written, after_read, stop_with, without_stops, cleared}
use Rattle.chip_regs.specs.declared.registers.Regs.{Regs}
use Rattle.chip_regs.specs.declared.registers.Cause.{Cause}

-- every byte of the registers is below 256
pub record HasBytes (r : Regs) : Type 0 where
  pub below : (place : ℕ) → byte_at place r < 256

-- it holds of registers that are 0, and stays so whatever is written, read, stopped or cleared
pub record RegistersKeepBytes : Type 0 where
  pub opening : HasBytes cleared
  pub write : (place b : ℕ) (r : Regs) → HasBytes r → b < 256 → HasBytes (written place b r)
  pub read : (place : ℕ) (r : Regs) → HasBytes r → HasBytes (after_read place r)
  pub stop : (cause : Cause) (r : Regs) → HasBytes r → HasBytes (stop_with cause r)
  pub clear : (r : Regs) → HasBytes r → HasBytes (without_stops r)

-- the registers of four bytes that an instruction may read and write
pub data Wide : Type 0 where
  Dsa : Wide
  Temp : Wide
  ScratchA : Wide
  ScratchB : Wide

-- the place of its lowest byte, the word that it holds, and the registers with another word in it
abbrev pub base_of : Wide → ℕ
base_of Dsa = 0x10
base_of Temp = 0x1c
base_of ScratchA = 0x34
base_of ScratchB = 0x5c

abbrev pub held : Wide → Regs → ℕ
held Dsa r = r.dsa
held Temp r = r.temp
held ScratchA r = r.scratcha
held ScratchB r = r.scratchb

abbrev pub holding : Wide → ℕ → Regs → Regs
holding Dsa w r = record r { dsa = w }
holding Temp w r = record r { temp = w }
holding ScratchA w r = record r { scratcha = w }
holding ScratchB w r = record r { scratchb = w }

-- byte k of a word, the lowest first, and the word with another byte k, as numbers
abbrev pub digit : ℕ → ℕ → ℕ
digit w k = w / 256 ^ k % 256

abbrev pub with_digit : ℕ → ℕ → ℕ → ℕ
with_digit w k b = w - 256 ^ k * digit w k + 256 ^ k * b

-- a byte of a wide register is read and written as that byte of its word
pub record WideByBytes : Type 0 where
  pub reads : (x : Wide) (k : ℕ) (r : Regs) → k < 4 → byte_at (base_of x + k) r ≡ digit (held x r) k
  pub writes : (x : Wide) (k b : ℕ) (r : Regs) → k < 4 → b < 256 → held x r < 2 ^ 32
      → written (base_of x + k) b r ≡ holding x (with_digit (held x r) k b) r
