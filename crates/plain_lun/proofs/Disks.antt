-- A disk that is filled byte by byte.
use Rattle.std.proofs.Common.{◌≡◌, ℕ, ◌+◌, ◌/◌, ◌%◌, [], ◌∷◌, ◌++◌, length, arith}
use Rattle.std.proofs.lemmas.List.FromFn.{map-range_with_len_more, length-map-range_with_len}
use Rattle.rig_types.specs.declared.rig.Pattern.{Pattern}
use Rattle.plain_lun.specs.Unit.{filled_disk, pattern_byte}

pub filled_disk_more : (pattern : Pattern) (k : ℕ) → filled_disk pattern (k + 1) ≡ filled_disk pattern k ++ pattern_byte pattern (k / 512) (k % 512) ∷ []
filled_disk_more pattern k = map-range_with_len_more (λ j. pattern_byte pattern (j / 512) (j % 512)) 0 k k (omega arith)

pub length-filled_disk : (pattern : Pattern) (n : ℕ) → length (filled_disk pattern n) ≡ n
length-filled_disk pattern n = length-map-range_with_len (λ j. pattern_byte pattern (j / 512) (j % 512)) 0 n
