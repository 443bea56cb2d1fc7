-- How a list of chunks stands in an array (own; nothing outside the crate cites it).
use Rattle.std.specs.Prelude.{◌≡◌, ℕ, ◌-◌, ◌<◌, ◌≤◌, List, ◌++◌, length, take, replicate, slice_index_or}
use Rattle.std.proofs.Common.{sym, ap, ◌∙◌, ⊎_elim, arith}
use Rattle.std.proofs.lemmas.Bool.{cases_lt}
use Rattle.std.proofs.lemmas.List.{length-take-le, length-append, length-replicate, ext_get_or, get_or_append_left, get_or-append_right, get_or-take, get_or-replicate, get_or_past}
use Rattle.dma_buddy.specs.declared.buddies.Chunk.{Chunk}

abbrev pub none : Chunk
none = record { base = 0; size = 0 }

abbrev pub padded : List Chunk → List Chunk
padded cs = cs ++ replicate (16 - length cs) none

pub record IsPadded (len : ℕ) (chunks : List Chunk) : Type 0 where
  pub room : length chunks ≡ 16
  pub within : len ≤ 16
  pub rest : (i : ℕ) → len ≤ i → slice_index_or chunks i none ≡ none

pub padded-taken : (len : ℕ) (chunks : List Chunk) → IsPadded len chunks → padded (take len chunks) ≡ chunks
padded-taken len chunks h =
    let n : length (take len chunks) ≡ len = length-take-le len chunks (omega (arith, h.room, h.within)) in
    let rest : length (replicate (16 - length (take len chunks)) none) ≡ 16 - len = length-replicate (16 - length (take len chunks)) none ∙ ap (λ v. 16 - v) n in
    ext_get_or none (padded (take len chunks)) chunks
    (omega (arith, length-append (take len chunks) (replicate (16 - length (take len chunks)) none), n, rest, h.room, h.within))
    (λ i l. ⊎_elim
    (λ (low : i < len).
    get_or_append_left (take len chunks) (replicate (16 - length (take len chunks)) none) none i (omega (arith, n, low))
    ∙ get_or-take len chunks i none low)
    (λ (high : len ≤ i).
    get_or-append_right (take len chunks) (replicate (16 - length (take len chunks)) none) len i none n high
    ∙ ⊎_elim
    (λ (within : i - len < 16 - length (take len chunks)). get_or-replicate (16 - length (take len chunks)) (i - len) none none within)
    (λ past. get_or_past (replicate (16 - length (take len chunks)) none) (i - len) none (omega (arith, past, length-replicate (16 - length (take len chunks)) none)))
    (cases_lt (i - len) (16 - length (take len chunks)))
    ∙ sym (h.rest i high))
    (cases_lt i len))

pub padded-length : (len : ℕ) (chunks : List Chunk) → IsPadded len chunks → length (take len chunks) ≡ len
padded-length len chunks h = length-take-le len chunks (omega (arith, h.room, h.within))
