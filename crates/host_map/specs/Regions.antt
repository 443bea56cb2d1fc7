-- The regions of host memory and the words in them (own).
use Rattle.std.specs.Prelude.{ℕ, ◌+◌, ◌≤◌}
use Rattle.host_map.specs.declared.TheConstants.{MEMORY_BYTES, SCRIPT, FRONT, IDLE, START_RING, DONE_RING, TAG_TABLES, CHAINS, BLOCKS, BUFFERS}

-- Control has the words from FRONT on that driver and script share; FixedBlocks are the four blocks that no command
-- has.
pub data Region : Type 0 where
  Script : Region
  Control : Region
  FixedBlocks : Region
  StartRing : Region
  DoneRing : Region
  TagTables : Region
  Chains : Region
  CommandBlocks : Region
  Buffers : Region

-- the first address of a region, and the first one behind it
abbrev pub first : Region → ℕ
first Script = SCRIPT
first Control = FRONT
first FixedBlocks = IDLE
first StartRing = START_RING
first DoneRing = DONE_RING
first TagTables = TAG_TABLES
first Chains = CHAINS
first CommandBlocks = BLOCKS
first Buffers = BUFFERS

abbrev pub behind : Region → ℕ
behind Script = FRONT
behind Control = IDLE
behind FixedBlocks = 0x1A00
behind StartRing = DONE_RING
behind DoneRing = TAG_TABLES
behind TagTables = CHAINS
behind Chains = 0x9000
behind CommandBlocks = 0x30000
behind Buffers = MEMORY_BYTES

-- the word at an address lies in a region
pub record IsWordOf (r : Region) (a : ℕ) : Type 0 where
  pub from : first r ≤ a
  pub to : a + 4 ≤ behind r
