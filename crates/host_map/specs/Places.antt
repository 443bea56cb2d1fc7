-- The places of host memory that are counted: blocks, slots, tables, chains, chunks (own).
use Rattle.std.specs.Prelude.{◌≡◌, ℕ, ◌+◌, ◌-◌, ◌*◌, ◌%◌, ◌<◌, ◌≤◌, ◌⊎◌}
use Rattle.host_map.specs.declared.TheConstants.{START_RING, DONE_RING, TAG_TABLES, CHAINS, BLOCKS, BLOCK_BYTES, BUFFERS, CHUNK_BYTES}

-- command block b, below 256
abbrev pub block_at : ℕ → ℕ
block_at b = BLOCKS + BLOCK_BYTES * b

-- the slot of each ring that the n-th use takes: the rings have 512 slots and go round
abbrev pub start_slot : ℕ → ℕ
start_slot n = START_RING + 8 * (n % 512)

abbrev pub done_slot : ℕ → ℕ
done_slot n = DONE_RING + 8 * (n % 512)

-- tag table s, below 4, of unit u, below 16
abbrev pub table_at : ℕ → ℕ → ℕ
table_at u s = TAG_TABLES + 0x400 * u + 0x100 * s

-- the word of a tag of unit u: tag g stands in table g mod 4, at the offset that is left of it
abbrev pub tag_entry : ℕ → ℕ → ℕ
tag_entry u g = table_at u (g % 4) + (g - g % 4)

-- the chain that finds the unit of target t by its LUN, and the one that enters unit u
abbrev pub target_chain : ℕ → ℕ
target_chain t = CHAINS + 0x100 + 0x80 * t

abbrev pub unit_chain : ℕ → ℕ
unit_chain u = CHAINS + 0x800 + 0x20 * u

-- chunk c of the buffer region, below 32
abbrev pub chunk_at : ℕ → ℕ
chunk_at c = BUFFERS + CHUNK_BYTES * c

-- one of the 256 command blocks
pub record IsCommandBlock (a : ℕ) : Type 0 where
  pub from : 0x10000 ≤ a
  pub below : a < 0x30000
  pub aligned : a % 0x200 ≡ 0

-- one of the 260 block places: a command block, or one of the blocks at 0x1200, 0x1400, 0x1600 and 0x1800
pub record IsBlockPlace (a : ℕ) : Type 0 where
  pub from : 0x1200 ≤ a
  pub gap : (a ≤ 0x1800) ⊎ (0x10000 ≤ a)
  pub below : a < 0x30000
  pub aligned : a % 0x200 ≡ 0
