-- How many rows there are, one row at a time.
use Rattle.std.proofs.Common.{◌≡◌, ℕ, suc, ◌+◌, ◌-◌, ◌<◌, min, List, ◌++◌, length, take, drop, refl, sym, ap, ◌∙◌, arith, length-drop, append_assoc, inl, inr}
use Rattle.std.proofs.lemmas.Bool.{cases_lt}
use Rattle.std.proofs.lemmas.List.{append-nil, drop_min, take_min}
use Rattle.report_lines.specs.Lines.{data_line, data_rows, row_count}

-- a row has 32 bytes, or all that are left
row_count-step : (n : ℕ) → 0 < n → row_count n ≡ suc (row_count (n - 32))
row_count-step n h = omega arith

-- no row of nothing
data_rows-none : (n a b : ℕ) (bytes : List ℕ) → n ≡ 0 → data_rows (row_count n) a bytes ≡ data_rows (row_count n) b bytes
data_rows-none n a b bytes e = rw e refl

-- the offset of the rows after a row, which counts only where there are any
data_rows-after : (offset : ℕ) (bytes : List ℕ) → data_rows (row_count (length bytes - 32)) (offset + 32) (drop 32 bytes) ≡ data_rows (row_count (length bytes - 32)) (offset + min 32 (length bytes)) (drop 32 bytes)
data_rows-after offset bytes =
    elim (cases_lt (length bytes) 32) [
      | inl h ↦ data_rows-none (length bytes - 32) (offset + 32) (offset + min 32 (length bytes)) (drop 32 bytes) (omega arith)
      | inr h ↦ let e : min 32 (length bytes) ≡ 32 = omega arith in rw e refl
    ]

data_rows-step : (offset : ℕ) (bytes : List ℕ) → 0 < length bytes → data_rows (row_count (length bytes)) offset bytes ≡ data_line offset (take 32 bytes) ++ data_rows (row_count (length (drop 32 bytes))) (offset + min 32 (length bytes)) (drop 32 bytes)
data_rows-step offset bytes h =
    rw (row_count-step (length bytes) h, length-drop) (ap (λ rows. data_line offset (take 32 bytes) ++ rows) (data_rows-after offset bytes))

-- what a row is worth that was put at the end of a text
pub data_rows-preserved : (text more total row others rest : List ℕ) (offset n : ℕ) → 0 < length rest → n ≡ min 32 (length rest) → row ≡ take n rest → others ≡ drop n rest → more ≡ text ++ data_line offset row → text ++ data_rows (row_count (length rest)) offset rest ≡ total → more ++ data_rows (row_count (length others)) (offset + n) others ≡ total
data_rows-preserved text more total row others rest offset n some is front back put all =
    let first : row ≡ take 32 rest = front ∙ ap (λ k. take k rest) is ∙ take_min 32 rest in
    let second : others ≡ drop 32 rest = back ∙ ap (λ k. drop k rest) is ∙ drop_min 32 rest in
    rw (put, is, first, second, append_assoc) (ap (λ rows. text ++ rows) (sym (data_rows-step offset rest some)) ∙ all)

-- no bytes are left
pub data_rows-done : (text total rest : List ℕ) (offset : ℕ) → length rest ≡ 0 → text ++ data_rows (row_count (length rest)) offset rest ≡ total → text ≡ total
data_rows-done text total rest offset none all = sym (append-nil text) ∙ rw none at all
