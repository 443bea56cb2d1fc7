-- Pairs of hexadecimal digits from left to right.
use Rattle.std.proofs.Common.{◌≡◌, ℕ, ◌+◌, ◌*◌, ◌≤◌, true, List, [], ◌∷◌, ◌++◌, length, get_or, drop, Option, Some, None, option_map, refl, ap, ◌∙◌, append_assoc, arith}
use Rattle.file_keys.specs.Keys.{is_hex, hex_digit, hex_of}

abbrev pub after : List ℕ → Option (List ℕ) → Option (List ℕ)
after front o = option_map (λ (bs : List ℕ). front ++ bs) o

regroup : (front : List ℕ) (x : ℕ) (o : Option (List ℕ)) → after (front ++ x ∷ []) o ≡ after front (option_map (λ (bs : List ℕ). x ∷ bs) o)
regroup front x None = refl
regroup front x (Some bs) = ap Some (append_assoc front (x ∷ []) bs)

pub hex_on : (front bs : List ℕ) (total : Option (List ℕ)) → 2 ≤ length bs → is_hex (get_or bs 0 0) ≡ true → is_hex (get_or bs 1 0) ≡ true → after front (hex_of bs) ≡ total
    → after (front ++ (16 * hex_digit (get_or bs 0 0) + hex_digit (get_or bs 1 0)) ∷ []) (hex_of (drop 2 bs)) ≡ total
hex_on front [] total long ha hb so_far = absurd (omega arith)
hex_on front (a ∷ []) total long ha hb so_far = absurd (omega arith)
hex_on front (a ∷ b ∷ bs) total long ha hb so_far = regroup front (16 * hex_digit a + hex_digit b) (hex_of bs) ∙ rw (ha, hb) at so_far
