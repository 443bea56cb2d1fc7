-- What the calls do to the words of memory, and to the entries of other tags and units.
use Rattle.std.proofs.Common.{◌≡◌, ℕ, ◌^◌, ◌<◌, List, length, arith, lit<}
use Rattle.bench_words.specs.Memory.{word_at}
use Rattle.bench_words.specs.Views.{Wrote}
use Rattle.bench_words.proofs.MemoryLaws.{wrote-put_word}
use Rattle.host_map.specs.declared.TheConstants.{NOTASK}
use Rattle.host_map.specs.Places.{tag_entry}
use Rattle.host_map.proofs.MapLaws.{places_apart}
use Rattle.tag_tables.specs.Tables.{linked, unlinked, OthersStay}

pub linked_wrote : (m : List ℕ) (unit tag block : ℕ) → length m ≡ 0x400000 → unit < 16 → tag < 256 → block < 2 ^ 32 → Wrote (word_at m) (word_at (linked m unit tag block)) (tag_entry unit tag) block
linked_wrote m unit tag block size u g fits = wrote-put_word m (tag_entry unit tag) block (omega arith) fits

pub unlinked_wrote : (m : List ℕ) (unit tag : ℕ) → length m ≡ 0x400000 → unit < 16 → tag < 256 → Wrote (word_at m) (word_at (unlinked m unit tag)) (tag_entry unit tag) NOTASK
unlinked_wrote m unit tag size u g = wrote-put_word m (tag_entry unit tag) NOTASK (omega arith) (lit< tt)

-- the entry of another unit or tag is as before
others_stay : (m n : List ℕ) (unit tag block : ℕ) → tag < 256 → Wrote (word_at m) (word_at n) (tag_entry unit tag) block → OthersStay m n unit tag
others_stay m n unit tag block h wrote =
    record { at = λ v g k apart. wrote.other (tag_entry v g) (places_apart.tag_entries unit v tag g h k apart) }

pub linked_others : (m : List ℕ) (unit tag block : ℕ) → length m ≡ 0x400000 → unit < 16 → tag < 256 → block < 2 ^ 32 → OthersStay m (linked m unit tag block) unit tag
linked_others m unit tag block size u g fits =
    others_stay m (linked m unit tag block) unit tag block g (linked_wrote m unit tag block size u g fits)

pub unlinked_others : (m : List ℕ) (unit tag : ℕ) → length m ≡ 0x400000 → unit < 16 → tag < 256 → OthersStay m (unlinked m unit tag) unit tag
unlinked_others m unit tag size u g =
    others_stay m (unlinked m unit tag) unit tag NOTASK g (unlinked_wrote m unit tag size u g)
