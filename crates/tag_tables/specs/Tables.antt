-- The tag tables in memory (own): the word of a tag is at `tag_entry`.
use Rattle.std.specs.Prelude.{◌≡◌, ◌≢◌, ◌⊎◌, ℕ, ◌<◌, List}
use Rattle.bench_words.specs.Memory.{word_at, put_word}
use Rattle.host_map.specs.declared.TheConstants.{NOTASK}
use Rattle.host_map.specs.Places.{tag_entry}

-- the block in the entry of a tag
abbrev pub entry_of : List ℕ → ℕ → ℕ → ℕ
entry_of m unit tag = word_at m (tag_entry unit tag)

-- memory after a block was entered under a tag, and after a tag was freed
abbrev pub linked : List ℕ → ℕ → ℕ → ℕ → List ℕ
linked m unit tag block = put_word m (tag_entry unit tag) block

abbrev pub unlinked : List ℕ → ℕ → ℕ → List ℕ
unlinked m unit tag = put_word m (tag_entry unit tag) NOTASK

-- the entries of all other tags and units are as before
pub record OthersStay (old new : List ℕ) (unit tag : ℕ) : Type 0 where
  pub at : (v g : ℕ) → g < 256 → (unit ≢ v) ⊎ (tag ≢ g) → entry_of new v g ≡ entry_of old v g
