-- The wide registers as words.
use Rattle.std.proofs.Common.{◌≡◌, ℕ, zero, suc, ◌+◌, ◌*◌, ◌/◌, ◌%◌, ◌^◌, ◌<◌, refl, ap, ◌∙◌, arith}
use Rattle.chip_regs.specs.Registers.{byte_at, written, with_byte, byte_of_word}
use Rattle.chip_regs.specs.Bytes.{Wide, Dsa, Temp, ScratchA, ScratchB, base_of, held, holding, digit, with_digit, WideByBytes}
use Rattle.chip_regs.specs.declared.registers.Regs.{Regs}

-- four bytes as a word, the lowest first
abbrev pub whole : ℕ → ℕ → ℕ → ℕ → ℕ
whole p q r s = p + q * 256 + r * 65536 + s * 16777216

pub record AreFour (p q r s : ℕ) : Type 0 where
  pub zeroth : p < 256
  pub first : q < 256
  pub second : r < 256
  pub third : s < 256

digits : (p q r s : ℕ) → AreFour p q r s → (whole p q r s % 256 ≡ p) × (whole p q r s / 256 % 256 ≡ q) × (whole p q r s / 65536 % 256 ≡ r) × (whole p q r s / 16777216 % 256 ≡ s)
digits p q r s h =
    let hp = h.zeroth in
    let hq = h.first in
    let hr = h.second in
    let hs = h.third in
    (omega arith, omega arith, omega arith, omega arith)

with-0 : (w b : ℕ) → with_byte w 0 b ≡ whole b (w / 256 % 256) (w / 65536 % 256) (w / 16777216 % 256)
with-0 w b = refl

with-1 : (p q r s b : ℕ) → AreFour p q r s → with_byte (whole p q r s) 1 b ≡ whole p b r s
with-1 p q r s b h = let e = digits p q r s h in cc (e.0, e.2, e.3)

with-2 : (p q r s b : ℕ) → AreFour p q r s → with_byte (whole p q r s) 2 b ≡ whole p q b s
with-2 p q r s b h = let e = digits p q r s h in cc (e.0, e.1, e.3)

with-3 : (p q r s b : ℕ) → AreFour p q r s → with_byte (whole p q r s) 3 b ≡ whole p q r b
with-3 p q r s b h = let e = digits p q r s h in cc (e.0, e.1, e.2)

-- all four bytes of any word are written, the lowest first
pub with_all : (w a b c d : ℕ) → AreFour a b c d → with_byte (with_byte (with_byte (with_byte w 0 a) 1 b) 2 c) 3 d ≡ whole a b c d
with_all w a b c d h =
    let q = w / 256 % 256 in
    let r = w / 65536 % 256 in
    let s = w / 16777216 % 256 in
    let hq : q < 256 = omega arith in
    let hr : r < 256 = omega arith in
    let hs : s < 256 = omega arith in
    ap (λ (x : ℕ). with_byte (with_byte (with_byte x 1 b) 2 c) 3 d) (with-0 w a)
    ∙ ap (λ (x : ℕ). with_byte (with_byte x 2 c) 3 d) (with-1 a q r s b (record { zeroth = h.zeroth; first = hq; second = hr; third = hs }))
    ∙ ap (λ (x : ℕ). with_byte x 3 d) (with-2 a b r s c (record { zeroth = h.zeroth; first = h.first; second = hr; third = hs }))
    ∙ with-3 a b c s d (record { zeroth = h.zeroth; first = h.first; second = h.second; third = hs })

-- ---- one byte as a number

pub byte_of_word-digit : (w k : ℕ) → k < 4 → byte_of_word w k ≡ digit w k
byte_of_word-digit w zero h = omega arith
byte_of_word-digit w (suc zero) h = refl
byte_of_word-digit w (suc (suc zero)) h = refl
byte_of_word-digit w (suc (suc (suc zero))) h = refl
byte_of_word-digit w (suc (suc (suc (suc k)))) h = absurd (omega arith)

pub with_byte-digit : (w k b : ℕ) → k < 4 → b < 256 → w < 2 ^ 32 → with_byte w k b ≡ with_digit w k b
with_byte-digit w zero b h hb hw = omega arith
with_byte-digit w (suc zero) b h hb hw = omega arith
with_byte-digit w (suc (suc zero)) b h hb hw = omega arith
with_byte-digit w (suc (suc (suc zero))) b h hb hw = omega arith
with_byte-digit w (suc (suc (suc (suc k)))) b h hb hw = absurd (omega arith)

-- ---- the places of a wide register

byte_at-wide : (x : Wide) (k : ℕ) (r : Regs) → k < 4 → byte_at (base_of x + k) r ≡ byte_of_word (held x r) k
unfolding byte_at
byte_at-wide Dsa zero r h = refl
byte_at-wide Dsa (suc zero) r h = refl
byte_at-wide Dsa (suc (suc zero)) r h = refl
byte_at-wide Dsa (suc (suc (suc zero))) r h = refl
byte_at-wide Temp zero r h = refl
byte_at-wide Temp (suc zero) r h = refl
byte_at-wide Temp (suc (suc zero)) r h = refl
byte_at-wide Temp (suc (suc (suc zero))) r h = refl
byte_at-wide ScratchA zero r h = refl
byte_at-wide ScratchA (suc zero) r h = refl
byte_at-wide ScratchA (suc (suc zero)) r h = refl
byte_at-wide ScratchA (suc (suc (suc zero))) r h = refl
byte_at-wide ScratchB zero r h = refl
byte_at-wide ScratchB (suc zero) r h = refl
byte_at-wide ScratchB (suc (suc zero)) r h = refl
byte_at-wide ScratchB (suc (suc (suc zero))) r h = refl
byte_at-wide x (suc (suc (suc (suc k)))) r h = absurd (omega arith)

written-wide : (x : Wide) (k b : ℕ) (r : Regs) → k < 4 → written (base_of x + k) b r ≡ holding x (with_byte (held x r) k b) r
unfolding written
written-wide Dsa zero b r h = refl
written-wide Dsa (suc zero) b r h = refl
written-wide Dsa (suc (suc zero)) b r h = refl
written-wide Dsa (suc (suc (suc zero))) b r h = refl
written-wide Temp zero b r h = refl
written-wide Temp (suc zero) b r h = refl
written-wide Temp (suc (suc zero)) b r h = refl
written-wide Temp (suc (suc (suc zero))) b r h = refl
written-wide ScratchA zero b r h = refl
written-wide ScratchA (suc zero) b r h = refl
written-wide ScratchA (suc (suc zero)) b r h = refl
written-wide ScratchA (suc (suc (suc zero))) b r h = refl
written-wide ScratchB zero b r h = refl
written-wide ScratchB (suc zero) b r h = refl
written-wide ScratchB (suc (suc zero)) b r h = refl
written-wide ScratchB (suc (suc (suc zero))) b r h = refl
written-wide x (suc (suc (suc (suc k)))) b r h = absurd (omega arith)

pub wide_by_bytes : WideByBytes
wide_by_bytes = record {
  reads = λ x k r h. byte_at-wide x k r h ∙ byte_of_word-digit (held x r) k h;
  writes = λ x k b r h hb hw. written-wide x k b r h ∙ ap (λ (w : ℕ). holding x w r) (with_byte-digit (held x r) k b h hb hw);
}
