-- Segments that are written one behind the other.
use Rattle.std.proofs.Common.{◌≡◌, ℕ, ◌+◌, ◌<◌, ◌≤◌, List, length, get_or, take, drop, ◌∙◌}
use Rattle.std.proofs.lemmas.List.{at_drop_more, at_drop_all}
use Rattle.std.proofs.lemmas.List.Sums.{sum_by-cons}
use Rattle.bench_words.specs.Memory.{put_word, put_bytes}
use Rattle.cmd_block.specs.Block.{offset}
use Rattle.cmd_block.specs.declared.Field.TheVariants.{SegCount, SegAt}
use Rattle.sense_job.specs.Turning.{with_fields}
use Rattle.desk_law.specs.declared.ticket.Piece.{Piece}
use Rattle.desk_law.specs.Blocks.{segment_fields, with_buffer}
use Rattle.driver_desk.specs.Kept.{total}

pub one_segment : (m : List ℕ) (block j : ℕ) (ps : List Piece) (i : ℕ) (d : Piece) → i < length ps
    → with_fields m block (segment_fields j (drop i ps))
    ≡ with_fields (put_word (put_word m (block + offset (SegCount j)) (get_or ps i d).len) (block + offset (SegAt j)) (get_or ps i d).chunk.base) block
    (segment_fields (j + 1) (drop (i + 1) ps))
one_segment m block j ps i d h = at_drop_more (λ (qs : List Piece). with_fields m block (segment_fields j qs)) ps i d h

pub no_segment_left : (m : List ℕ) (block j : ℕ) (ps : List Piece) (i : ℕ) → length ps ≤ i → with_fields m block (segment_fields j (drop i ps)) ≡ m
no_segment_left m block j ps i h = at_drop_all (λ (qs : List Piece). with_fields m block (segment_fields j qs)) ps i h

pub one_piece : (m : List ℕ) (ps : List Piece) (i : ℕ) (d : Piece) (bytes : List ℕ) → i < length ps
    → with_buffer m (drop i ps) bytes
    ≡ with_buffer (put_bytes m (get_or ps i d).chunk.base (take (get_or ps i d).len bytes)) (drop (i + 1) ps) (drop (get_or ps i d).len bytes)
one_piece m ps i d bytes h = at_drop_more (λ (qs : List Piece). with_buffer m qs bytes) ps i d h

pub no_piece_left : (m : List ℕ) (ps : List Piece) (i : ℕ) (bytes : List ℕ) → length ps ≤ i → with_buffer m (drop i ps) bytes ≡ m
no_piece_left m ps i bytes h = at_drop_all (λ (qs : List Piece). with_buffer m qs bytes) ps i h

pub one_length : (ps : List Piece) (i : ℕ) (d : Piece) → i < length ps → total (drop i ps) ≡ (get_or ps i d).len + total (drop (i + 1) ps)
one_length ps i d h = at_drop_more total ps i d h ∙ sum_by-cons (λ (p : Piece). p.len) (get_or ps i d) (drop (i + 1) ps)
