-- Where fields lie, and that they share no byte (own).
use Rattle.std.specs.Prelude.{◌≡◌, ◌≢◌, ℕ, ◌+◌, ◌%◌, ◌^◌, ◌<◌, ◌≤◌, List, length}
use Rattle.bench_words.specs.Memory.{put_word}
use Rattle.bench_words.specs.Views.{Apart}
use Rattle.host_map.specs.Places.{IsBlockPlace}
use Rattle.cmd_block.specs.Block.{IsField, offset, field_of}
use Rattle.cmd_block.specs.declared.Field.{Field}

-- a field is an aligned word below the message bytes
abbrev pub FieldsFit : Type 0
FieldsFit = (f : Field) → IsField f → (offset f + 4 ≤ 0xE0) × (offset f % 4 ≡ 0)

-- two fields of one block share no byte, nor do fields of two blocks
pub record FieldsApart : Type 0 where
  pub one_block : (block : ℕ) (f g : Field) → IsField f → IsField g → f ≢ g → Apart (block + offset f) (block + offset g)
  pub two_blocks : (a b : ℕ) (f g : Field) → IsBlockPlace a → IsBlockPlace b → a ≢ b → IsField f → IsField g → Apart (a + offset f) (b + offset g)

-- memory after a field of a block was written: the field has the word, and every other one, of this block and of all
-- others, is as before
pub record WritesOneField : Type 0 where
  pub same : (m : List ℕ) (block w : ℕ) (f : Field) → length m ≡ 0x400000 → IsBlockPlace block → IsField f → w < 2 ^ 32
      → field_of (put_word m (block + offset f) w) block f ≡ w
  pub other : (m : List ℕ) (block w : ℕ) (f g : Field) → length m ≡ 0x400000 → IsBlockPlace block → IsField f → IsField g → f ≢ g → w < 2 ^ 32
      → field_of (put_word m (block + offset f) w) block g ≡ field_of m block g
  pub elsewhere : (m : List ℕ) (a b w : ℕ) (f g : Field) → length m ≡ 0x400000 → IsBlockPlace a → IsBlockPlace b → a ≢ b → IsField f → IsField g → w < 2 ^ 32
      → field_of (put_word m (a + offset f) w) b g ≡ field_of m b g
