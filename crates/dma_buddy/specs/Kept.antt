-- The fields of a list of chunks, from the list (own; nothing outside the crate cites it).
use Rattle.std.specs.Prelude.{◌≡◌, ℕ, List, length, take}
use Rattle.std.proofs.Common.{ap, ◌∙◌}
use Rattle.dma_buddy.specs.declared.buddies.Chunk.{Chunk}
use Rattle.dma_buddy.specs.declared.chunk_list.Chunks.TheInside.{Inside}
use Rattle.dma_buddy.specs.Lists.{padded, IsPadded, padded-taken, padded-length}

abbrev pub of_list : List Chunk → Inside
of_list cs = record { chunks = padded cs; len = length cs }

pub kept : (a : Inside) → IsPadded a.len a.chunks → of_list (take a.len a.chunks) ≡ a
kept a h =
    ap (λ (x : List Chunk). let r : Inside = record { chunks = x; len = length (take a.len a.chunks) } in r) (padded-taken a.len a.chunks h)
    ∙ ap (λ (n : ℕ). let r : Inside = record { chunks = a.chunks; len = n } in r) (padded-length a.len a.chunks h)
