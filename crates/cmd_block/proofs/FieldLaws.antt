-- Fields share no byte with each other, nor with the fields of another block: what a write leaves.
use Rattle.std.proofs.Common.{◌≡◌, ◌≢◌, ℕ, ◌+◌, ◌-◌, ◌*◌, ◌/◌, ◌%◌, ◌^◌, ◌<◌, ◌≤◌, List, length, nat_lt, nat_eq, refl, sym, ap, ◌∙◌, arith, lit≤}
use Rattle.std.specs.Prelude.{if◌then◌else◌}
use Rattle.std.proofs.lemmas.Bool.Decides.{nat_tests}
use Rattle.bench_words.specs.Memory.{word_at, put_word}
use Rattle.bench_words.specs.Views.{Apart, Wrote}
use Rattle.bench_words.proofs.MemoryLaws.{wrote-put_word}
use Rattle.host_map.specs.Places.{IsBlockPlace}
use Rattle.cmd_block.specs.Block.{IsField, offset, field_of, IsLayout, NamesOffsets}
use Rattle.cmd_block.specs.Laws.{FieldsFit, FieldsApart, WritesOneField}
use Rattle.cmd_block.specs.declared.Field.{Field}
use Rattle.cmd_block.specs.declared.Field.TheVariants.{Start, Restart, Lastp, Savep, State, Status, Sel, Gate, MsgCount, MsgAt, CmdCount, CmdAt, StatCount, StatAt, SegCount, SegAt, CtxCount, CtxAt, CtxReturn}

-- the constants of the code are those of the layout
pub is_layout : IsLayout
is_layout = record { message = refl; command = refl; sense = refl; states = (refl, refl, refl, refl, refl) }

pub names_offsets : NamesOffsets
names_offsets =
    record {
      starts = (refl, refl);
      pointers = (refl, refl);
      state = refl;
      sel = refl;
      gate = refl;
      entries = (refl, refl, refl);
      segment = refl;
      contexts = (refl, refl);
      returns = (refl, refl);
    }

-- a field is an aligned word below the message bytes
pub offset_fits : FieldsFit
offset_fits Start h = (lit≤ tt, refl)
offset_fits Restart h = (lit≤ tt, refl)
offset_fits Lastp h = (lit≤ tt, refl)
offset_fits Savep h = (lit≤ tt, refl)
offset_fits State h = (lit≤ tt, refl)
offset_fits Status h = (lit≤ tt, refl)
offset_fits Sel h = (lit≤ tt, refl)
offset_fits Gate h = (lit≤ tt, refl)
offset_fits MsgCount h = (lit≤ tt, refl)
offset_fits MsgAt h = (lit≤ tt, refl)
offset_fits CmdCount h = (lit≤ tt, refl)
offset_fits CmdAt h = (lit≤ tt, refl)
offset_fits StatCount h = (lit≤ tt, refl)
offset_fits StatAt h = (lit≤ tt, refl)
offset_fits (SegCount j) h = (omega arith, omega arith)
offset_fits (SegAt j) h = (omega arith, omega arith)
offset_fits (CtxCount j) h = (omega arith, omega arith)
offset_fits (CtxAt j) h = (omega arith, omega arith)
offset_fits (CtxReturn j) h = (omega arith, omega arith)

-- the field at an offset
abbrev fixed_at : ℕ → Field
fixed_at n =
    if nat_eq n 0x00 then Start else if nat_eq n 0x04 then Restart else
    if nat_eq n 0x08 then Lastp else if nat_eq n 0x0C then Savep else
    if nat_eq n 0x10 then State else if nat_eq n 0x14 then Status else
    if nat_eq n 0x18 then Sel else if nat_eq n 0x1C then Gate else
    if nat_eq n 0x20 then MsgCount else if nat_eq n 0x24 then MsgAt else
    if nat_eq n 0x28 then CmdCount else if nat_eq n 0x2C then CmdAt else
    if nat_eq n 0x30 then StatCount else StatAt

abbrev segment_at : ℕ → Field
segment_at n = if nat_eq (n % 8) 0 then SegCount ((n - 0x40) / 8) else SegAt ((n - 0x40) / 8)

abbrev context_at : ℕ → Field
context_at n =
    if nat_eq (n % 16) 0 then CtxCount ((n - 0xC0) / 16) else
    if nat_eq (n % 16) 4 then CtxAt ((n - 0xC0) / 16) else CtxReturn ((n - 0xC0) / 16)

abbrev field_at : ℕ → Field
field_at n = if nat_lt n 0x40 then fixed_at n else if nat_lt n 0xC0 then segment_at n else context_at n

segment_count : (j : ℕ) → j < 16 → field_at (0x40 + 8 * j) ≡ SegCount j
segment_count j h = grind (arith, nat_tests)

segment_address : (j : ℕ) → j < 16 → field_at (0x44 + 8 * j) ≡ SegAt j
segment_address j h = grind (arith, nat_tests)

context_count : (j : ℕ) → j < 2 → field_at (0xC0 + 0x10 * j) ≡ CtxCount j
context_count j h = grind (arith, nat_tests)

context_address : (j : ℕ) → j < 2 → field_at (0xC4 + 0x10 * j) ≡ CtxAt j
context_address j h = grind (arith, nat_tests)

context_return : (j : ℕ) → j < 2 → field_at (0xC8 + 0x10 * j) ≡ CtxReturn j
context_return j h = grind (arith, nat_tests)

again : (f : Field) → IsField f → field_at (offset f) ≡ f
again Start h = refl
again Restart h = refl
again Lastp h = refl
again Savep h = refl
again State h = refl
again Status h = refl
again Sel h = refl
again Gate h = refl
again MsgCount h = refl
again MsgAt h = refl
again CmdCount h = refl
again CmdAt h = refl
again StatCount h = refl
again StatAt h = refl
again (SegCount j) h = segment_count j h
again (SegAt j) h = segment_address j h
again (CtxCount j) h = context_count j h
again (CtxAt j) h = context_address j h
again (CtxReturn j) h = context_return j h

distinct : (f g : Field) → IsField f → IsField g → f ≢ g → offset f ≢ offset g
distinct f g hf hg n e = n (sym (again f hf) ∙ (ap field_at e ∙ again g hg))

-- two fields of one block share no byte, nor do fields of two blocks
pub fields_apart : (block : ℕ) (f g : Field) → IsField f → IsField g → f ≢ g → Apart (block + offset f) (block + offset g)
fields_apart block f g hf hg n =
    let d : offset f ≢ offset g = distinct f g hf hg n in
    omega (arith, (offset_fits f hf).1, (offset_fits g hg).1)

pub blocks_apart : (a b : ℕ) (f g : Field) → IsBlockPlace a → IsBlockPlace b → a ≢ b → IsField f → IsField g → Apart (a + offset f) (b + offset g)
blocks_apart a b f g ha hb n hf hg = omega (arith, ha.aligned, hb.aligned, (offset_fits f hf).0, (offset_fits g hg).0)

pub all_apart : FieldsApart
all_apart = record { one_block = fields_apart; two_blocks = blocks_apart }

-- what a write of a field does to memory seen by words
pub wrote-field : (m : List ℕ) (block w : ℕ) (f : Field) → length m ≡ 0x400000 → IsBlockPlace block → IsField f → w < 2 ^ 32 → Wrote (word_at m) (word_at (put_word m (block + offset f) w)) (block + offset f) w
wrote-field m block w f size place hf hw =
    let fits : offset f + 4 ≤ 0xE0 = (offset_fits f hf).0 in
    wrote-put_word m (block + offset f) w (omega (arith, place.below)) hw

pub field-same : (m : List ℕ) (block w : ℕ) (f : Field) → length m ≡ 0x400000 → IsBlockPlace block → IsField f → w < 2 ^ 32 → field_of (put_word m (block + offset f) w) block f ≡ w
field-same m block w f size place hf hw = (wrote-field m block w f size place hf hw).same

pub field-other : (m : List ℕ) (block w : ℕ) (f g : Field) → length m ≡ 0x400000 → IsBlockPlace block → IsField f → IsField g → f ≢ g → w < 2 ^ 32 → field_of (put_word m (block + offset f) w) block g ≡ field_of m block g
field-other m block w f g size place hf hg n hw =
    (wrote-field m block w f size place hf hw).other (block + offset g) (fields_apart block f g hf hg n)

pub field-elsewhere : (m : List ℕ) (a b w : ℕ) (f g : Field) → length m ≡ 0x400000 → IsBlockPlace a → IsBlockPlace b → a ≢ b → IsField f → IsField g → w < 2 ^ 32 → field_of (put_word m (a + offset f) w) b g ≡ field_of m b g
field-elsewhere m a b w f g size pa pb n hf hg hw =
    (wrote-field m a w f size pa hf hw).other (b + offset g) (blocks_apart a b f g pa pb n hf hg)

pub writes_one_field : WritesOneField
writes_one_field = record { same = field-same; other = field-other; elsewhere = field-elsewhere }
