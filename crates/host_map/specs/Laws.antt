-- Where the places of memory lie, and that they share no byte (own).
use Rattle.std.specs.Prelude.{◌≡◌, ◌≢◌, ℕ, ◌+◌, ◌-◌, ◌/◌, ◌%◌, ◌<◌, ◌≤◌, ◌⊎◌}
use Rattle.bench_words.specs.Views.{Apart}
use Rattle.host_map.specs.Places.{block_at, start_slot, done_slot, tag_entry, target_chain, unit_chain, chunk_at, IsCommandBlock, IsBlockPlace}
use Rattle.host_map.specs.Regions.{Region, FixedBlocks, StartRing, DoneRing, TagTables, Chains, CommandBlocks, Buffers, IsWordOf}

-- the word at each offset of a place is a word of the place's region
pub record LieInRegions : Type 0 where
  pub fixed_block : (a i : ℕ) → IsBlockPlace a → a ≤ 0x1800 → i + 4 ≤ 0x200 → IsWordOf FixedBlocks (a + i)
  pub command_block : (a i : ℕ) → IsCommandBlock a → i + 4 ≤ 0x200 → IsWordOf CommandBlocks (a + i)
  pub start_slot : (n i : ℕ) → i + 4 ≤ 8 → IsWordOf StartRing (start_slot n + i)
  pub done_slot : (n i : ℕ) → i + 4 ≤ 8 → IsWordOf DoneRing (done_slot n + i)
  pub tag_entry : (u g : ℕ) → u < 16 → g < 256 → IsWordOf TagTables (tag_entry u g)
  pub target_chain : (t i : ℕ) → t < 8 → i + 4 ≤ 0x80 → IsWordOf Chains (target_chain t + i)
  pub unit_chain : (u i : ℕ) → u < 16 → i + 4 ≤ 0x20 → IsWordOf Chains (unit_chain u + i)
  pub chunk : (c i : ℕ) → c < 32 → i + 4 ≤ 0x10000 → IsWordOf Buffers (chunk_at c + i)

-- words of two regions share no byte
abbrev pub RegionsApart : Type 0
RegionsApart = (r s : Region) (a b : ℕ) → r ≢ s → IsWordOf r a → IsWordOf s b → Apart a b

-- nor do words of two places of one kind; slots count as two where fewer than 512 uses of their ring lie between
pub record PlacesApart : Type 0 where
  pub blocks : (a b i j : ℕ) → IsBlockPlace a → IsBlockPlace b → a ≢ b → i + 4 ≤ 0x200 → j + 4 ≤ 0x200 → Apart (a + i) (b + j)
  pub start_slots : (n m i j : ℕ) → n < m → m < n + 512 → i + 4 ≤ 8 → j + 4 ≤ 8 → Apart (start_slot n + i) (start_slot m + j)
  pub done_slots : (n m i j : ℕ) → n < m → m < n + 512 → i + 4 ≤ 8 → j + 4 ≤ 8 → Apart (done_slot n + i) (done_slot m + j)
  pub tag_entries : (u v g k : ℕ) → g < 256 → k < 256 → (u ≢ v) ⊎ (g ≢ k) → Apart (tag_entry u g) (tag_entry v k)
  pub target_chains : (s t i j : ℕ) → s ≢ t → i + 4 ≤ 0x80 → j + 4 ≤ 0x80 → Apart (target_chain s + i) (target_chain t + j)
  pub unit_chains : (u v i j : ℕ) → u ≢ v → i + 4 ≤ 0x20 → j + 4 ≤ 0x20 → Apart (unit_chain u + i) (unit_chain v + j)
  pub chunks : (c d i j : ℕ) → c ≢ d → i + 4 ≤ 0x10000 → j + 4 ≤ 0x10000 → Apart (chunk_at c + i) (chunk_at d + j)

-- the number of a command block, and its address
pub record NumbersBlocks : Type 0 where
  pub is_block : (b : ℕ) → b < 256 → IsCommandBlock (block_at b)
  pub is_place : (a : ℕ) → IsCommandBlock a → IsBlockPlace a
  pub number : (b : ℕ) → (block_at b - 0x10000) / 0x200 ≡ b
  pub address : (a : ℕ) → IsCommandBlock a → block_at ((a - 0x10000) / 0x200) ≡ a

-- all words of a block place are words of memory
abbrev pub PlacesFit : Type 0
PlacesFit = (a : ℕ) → IsBlockPlace a → (a + 0x200 ≤ 0x400000) × (a % 4 ≡ 0)
