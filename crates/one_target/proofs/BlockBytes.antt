-- The bytes that the target sends are below 256.
use Rattle.std.proofs.Common.{ℕ, zero, suc, ◌*◌, ◌/◌, ◌%◌, ◌<◌, List, [], ◌∷◌, map, take, drop, arith}
use Rattle.std.specs.List.{range_with_len}
use Rattle.scsi_words.specs.declared.statuses.kinds.Status.{Status}
use Rattle.scsi_words.specs.declared.statuses.kinds.Status.TheVariants.{Good, Check, Busy, Conflict, QueueFull}
use Rattle.scsi_words.specs.Statuses.{status_code}
use Rattle.bench_words.specs.Bytes.{IsBytes}
use Rattle.bench_words.proofs.Bytes.{bytes-nil, bytes-cons, bytes-front, bytes-rest}
use Rattle.rig_types.specs.declared.rig.Pattern.{Pattern}
use Rattle.rig_types.specs.declared.rig.Pattern.TheVariants.{Zero, Count}
use Rattle.plain_lun.specs.Unit.{pattern_byte, filled_disk}
use Rattle.plain_lun.specs.Performing.{blocks_at}

bytes-take : (n : ℕ) (bs : List ℕ) → IsBytes bs → IsBytes (take n bs)
bytes-take zero bs h = bytes-nil
bytes-take (suc n) [] h = bytes-nil
bytes-take (suc n) (b ∷ bs) h = bytes-cons b (take n bs) (bytes-front b bs h) (bytes-take n bs (bytes-rest b bs h))

bytes-drop : (n : ℕ) (bs : List ℕ) → IsBytes bs → IsBytes (drop n bs)
bytes-drop zero bs h = h
bytes-drop (suc n) [] h = bytes-nil
bytes-drop (suc n) (b ∷ bs) h = bytes-drop n bs (bytes-rest b bs h)

bytes-map : (f : ℕ → ℕ) (xs : List ℕ) → ((x : ℕ) → f x < 256) → IsBytes (map f xs)
bytes-map f [] h = bytes-nil
bytes-map f (x ∷ xs) h = bytes-cons (f x) (map f xs) (h x) (bytes-map f xs h)

pattern-below : (pattern : Pattern) (b i : ℕ) → pattern_byte pattern b i < 256
pattern-below Zero b i = omega arith
pattern-below Count b i = omega arith

-- of a disk as it is filled, and of a block of it
pub bytes-filled_disk : (pattern : Pattern) (n : ℕ) → IsBytes (filled_disk pattern n)
bytes-filled_disk pattern n = bytes-map (λ k. pattern_byte pattern (k / 512) (k % 512)) (range_with_len 0 n) (λ k. pattern-below pattern (k / 512) (k % 512))

pub bytes-blocks_at : (disk : List ℕ) (lba blocks : ℕ) → IsBytes disk → IsBytes (blocks_at disk lba blocks)
unfolding blocks_at
bytes-blocks_at disk lba blocks h = bytes-take (512 * blocks) (drop (512 * lba) disk) (bytes-drop (512 * lba) disk h)

pub status-below : (st : Status) → status_code st < 256
status-below Good = omega arith
status-below Check = omega arith
status-below Busy = omega arith
status-below Conflict = omega arith
status-below QueueFull = omega arith
