-- The map of host memory, 4 MiB (own). The words from FRONT on stand between driver and script; each word named
-- .._STATE or .._ADDRESS holds a constant that the script loads. A block has 200 bytes, a slot of a ring two words.
use Rattle.std.specs.Prelude.{◌≡◌}
use Rattle.host_map.specs.declared.TheConstants.{MEMORY_BYTES, MEMORY_WORDS, SCRIPT, FRONT, RINGP, DONEP, CUR, MSGIN, ABORT_TAG, OVER_ADDRESS, ENDED_STATE, CUT_STATE, NO_TARGET_STATE, OPEN_ADDRESS, BADTASK_ADDRESS, FRONT_IDLE_ADDRESS, IDLE, NOTASK, FRONT_IDLE, JOB, START_RING, DONE_RING, SLOTS, TAG_TABLES, CHAINS, BLOCKS, BLOCK_BYTES, BLOCK_COUNT, BUFFERS, CHUNK_BYTES, CHUNK_COUNT}

pub record IsMap : Type 0 where
  pub memory : (MEMORY_BYTES ≡ 0x400000) × (MEMORY_WORDS ≡ 0x100000)
  pub script : SCRIPT ≡ 0
  pub front : FRONT ≡ 0x1000
  pub ringp : RINGP ≡ 0x1004
  pub donep : DONEP ≡ 0x1008
  pub cur : CUR ≡ 0x100C
  pub msgin : MSGIN ≡ 0x1010
  pub abort_tag : ABORT_TAG ≡ 0x1014
  pub over : OVER_ADDRESS ≡ 0x1018
  pub states : (ENDED_STATE ≡ 0x101C) × (CUT_STATE ≡ 0x1020) × (NO_TARGET_STATE ≡ 0x1024)
  pub gates : (OPEN_ADDRESS ≡ 0x1028) × (BADTASK_ADDRESS ≡ 0x102C)
  pub front_idle_address : FRONT_IDLE_ADDRESS ≡ 0x1030
  pub fixed_blocks : (IDLE ≡ 0x1200) × (NOTASK ≡ 0x1400) × (FRONT_IDLE ≡ 0x1600) × (JOB ≡ 0x1800)
  pub rings : (START_RING ≡ 0x2000) × (DONE_RING ≡ 0x3000) × (SLOTS ≡ 512)
  pub tag_tables : TAG_TABLES ≡ 0x4000
  pub chains : CHAINS ≡ 0x8000
  pub blocks : (BLOCKS ≡ 0x10000) × (BLOCK_BYTES ≡ 0x200) × (BLOCK_COUNT ≡ 256)
  pub buffers : (BUFFERS ≡ 0x200000) × (CHUNK_BYTES ≡ 0x10000) × (CHUNK_COUNT ≡ 32)
