-- The bytes of words are read as the same words.
use Rattle.std.proofs.Common.{◌≡◌, [], ◌∷◌, refl}
use Rattle.std.specs.Int.{w32, to_le_bytes, from_le_bytes}
use Rattle.std.proofs.lemmas.Nat.{from_le_bytes-to_le_bytes_4}
use Rattle.source_files.specs.Images.{image_bytes, words_of, last_of, ReadsBack}

pub reads_back : ReadsBack
reads_back [] fit = (refl, refl)
reads_back (w ∷ ws) fit =
    let first : from_le_bytes w32 (to_le_bytes w32 w) ≡ w = from_le_bytes-to_le_bytes_4 w fit.0 in
    let more : words_of (image_bytes ws) ≡ ws = (reads_back ws fit.1).0 in
    let none : last_of (image_bytes ws) ≡ [] = (reads_back ws fit.1).1 in
    (cc, cc)
