-- A turned block: its words, the bytes of its command, and what its data pointers denote.
use Rattle.std.proofs.Common.{◌≡◌, ℕ, suc, ◌+◌, ◌*◌, ◌<◌, ◌≤◌, List, length, get_or, true, refl, ◌∙◌, arith, lit<, lit≤}
use Rattle.bench_words.specs.Memory.{word_at, put_bytes, bytes_at}
use Rattle.bench_words.specs.Views.{Apart, Outside, WroteWithin}
use Rattle.bench_words.proofs.MemoryLaws.{byte_inside, bytes_same, wrote-put_bytes}
use Rattle.host_map.specs.Places.{IsCommandBlock}
use Rattle.cmd_block.specs.Block.{offset}
use Rattle.cmd_block.specs.declared.Field.TheVariants.{Start, SegCount, SegAt}
use Rattle.cmd_block.specs.declared.TheConstants.{CDB, SENSE as SENSE_AREA}
use Rattle.driver_script.specs.Script.{label_of}
use Rattle.driver_script.specs.declared.labels.Name.TheVariants as label
use Rattle.phase_fix.specs.Moves.{move_at}
use Rattle.phase_fix.specs.Remain.{remain}
use Rattle.sense_job.specs.Turning.{with_fields, sense_fields, sense_area, request_sense, turned, Turned}
use Rattle.sense_job.proofs.FieldLists.{AllFit, are_distinct, nth, length-with_fields, with_fields-other, with_fields-same}

-- ---- the fields

fields_fit : (block : ℕ) → IsCommandBlock block → AllFit (sense_fields block)
fields_fit block is =
    (tt, lit< tt, (tt, lit< tt, (tt, lit< tt, (tt, lit< tt, (tt, lit< tt, (lit< tt, lit< tt, (lit< tt, omega (arith, is.below), (tt, lit< tt, (tt, omega (arith, is.below), tt)))))))))

fields_distinct : (block : ℕ) → are_distinct (sense_fields block) ≡ true
fields_distinct block = refl

before_command : (block o : ℕ) → o + 4 ≤ 0xF0 → Outside (block + o) (block + CDB) (block + CDB + 6)
before_command block o h = omega arith

-- the k-th of the fields
field-turned : (m : List ℕ) (block k : ℕ) → length m ≡ 0x400000 → IsCommandBlock block → k < 9 → offset (nth (sense_fields block) k).0 + 4 ≤ 0xF0
    → word_at (turned m block) (block + offset (nth (sense_fields block) k).0) ≡ (nth (sense_fields block) k).1
field-turned m block k size is h low =
    let o = offset (nth (sense_fields block) k).0 in
    (wrote-put_bytes (with_fields m block (sense_fields block)) (block + CDB) request_sense).other (block + o) (before_command block o low)
    ∙ with_fields-same m block (sense_fields block) k (omega (arith, is.below)) (fields_fit block is) (fields_distinct block) h

-- ---- the command

word_inside : (m : List ℕ) (a i : ℕ) (bs : List ℕ) → a + length bs ≤ length m → i + 4 ≤ length bs → word_at (put_bytes m a bs) (a + i) ≡ word_at bs i
unfolding word_at
word_inside m a i bs fits h =
    let n1 : a + suc i ≡ suc (a + i) = omega arith in
    let n2 : a + suc (suc i) ≡ suc (suc (a + i)) = omega arith in
    let n3 : a + suc (suc (suc i)) ≡ suc (suc (suc (a + i))) = omega arith in
    let e0 : get_or (put_bytes m a bs) (a + i) 0 ≡ get_or bs i 0 = byte_inside m a i bs fits (omega arith) in
    let e1 : get_or (put_bytes m a bs) (suc (a + i)) 0 ≡ get_or bs (suc i) 0 = rw n1 at (byte_inside m a (suc i) bs fits (omega arith)) in
    let e2 : get_or (put_bytes m a bs) (suc (suc (a + i))) 0 ≡ get_or bs (suc (suc i)) 0 = rw n2 at (byte_inside m a (suc (suc i)) bs fits (omega arith)) in
    let e3 : get_or (put_bytes m a bs) (suc (suc (suc (a + i)))) 0 ≡ get_or bs (suc (suc (suc i))) 0 = rw n3 at (byte_inside m a (suc (suc (suc i))) bs fits (omega arith)) in
    rw (e0, e1, e2, e3) refl

first_word : word_at request_sense 0 ≡ 0x03
unfolding word_at
first_word = refl

last_word : word_at request_sense 2 ≡ 0x120000
unfolding word_at
last_word = refl

command_fits : (m : List ℕ) (block : ℕ) → length m ≡ 0x400000 → IsCommandBlock block → block + CDB + 6 ≤ length (with_fields m block (sense_fields block))
command_fits m block size is = omega (arith, is.below, length-with_fields m block (sense_fields block))

pub command_bytes : (m : List ℕ) (block : ℕ) → length m ≡ 0x400000 → IsCommandBlock block → bytes_at (turned m block) (block + CDB) 6 ≡ request_sense
command_bytes m block size is = bytes_same (with_fields m block (sense_fields block)) (block + CDB) request_sense (command_fits m block size is)

-- ---- all words

apart_in : (block o low high a : ℕ) → low ≤ o → o + 4 ≤ high → Outside a (block + low) (block + high) → Apart (block + o) a
apart_in block o low high a h k out = omega arith

pub turned_is : (m : List ℕ) (block : ℕ) → length m ≡ 0x400000 → IsCommandBlock block → Turned (word_at m) (word_at (turned m block)) block
turned_is m block size is =
    let fields = with_fields m block (sense_fields block) in
    let fits = command_fits m block size is in
    let here : block + CDB + 0 ≡ block + CDB = omega arith in
    record {
      start = field-turned m block 0 size is (lit< tt) (lit≤ tt);
      state = field-turned m block 1 size is (lit< tt) (lit≤ tt);
      status = field-turned m block 2 size is (lit< tt) (lit≤ tt);
      last = field-turned m block 3 size is (lit< tt) (lit≤ tt);
      saved = field-turned m block 4 size is (lit< tt) (lit≤ tt);
      segment = (field-turned m block 5 size is (lit< tt) (lit≤ tt), field-turned m block 6 size is (lit< tt) (lit≤ tt));
      entry = (field-turned m block 7 size is (lit< tt) (lit≤ tt), field-turned m block 8 size is (lit< tt) (lit≤ tt));
      command = (rw here at (word_inside fields (block + CDB) 0 request_sense fits (lit≤ tt)) ∙ first_word, word_inside fields (block + CDB) 2 request_sense fits (lit≤ tt) ∙ last_word);
      other = λ a start pointers entry segment command.
          (wrote-put_bytes fields (block + CDB) request_sense).other a command
          ∙ with_fields-other m block (sense_fields block) a (omega (arith, is.below)) (fields_fit block is) (
            apart_in block 0x00 0x00 0x04 a (lit≤ tt) (lit≤ tt) start,
            (
              apart_in block 0x10 0x08 0x18 a (lit≤ tt) (lit≤ tt) pointers,
              (
                apart_in block 0x14 0x08 0x18 a (lit≤ tt) (lit≤ tt) pointers,
                (
                  apart_in block 0x08 0x08 0x18 a (lit≤ tt) (lit≤ tt) pointers,
                  (
                    apart_in block 0x0C 0x08 0x18 a (lit≤ tt) (lit≤ tt) pointers,
                    (
                      apart_in block 0xB8 0xB8 0xC0 a (lit≤ tt) (lit≤ tt) segment,
                      (
                        apart_in block 0xBC 0xB8 0xC0 a (lit≤ tt) (lit≤ tt) segment,
                        (
                          apart_in block 0x28 0x28 0x30 a (lit≤ tt) (lit≤ tt) entry,
                          (apart_in block 0x2C 0x28 0x30 a (lit≤ tt) (lit≤ tt) entry, tt),
                        ),
                      ),
                    ),
                  ),
                ),
              ),
            ),
          );
    }

-- a block is turned in itself alone
outside_in : (block low high a : ℕ) → high ≤ CDB + 6 → Outside a (block + offset Start) (block + CDB + 6) → Outside a (block + low) (block + high)
outside_in block low high a h out = omega arith

pub turned-within : (w n : ℕ → ℕ) (block : ℕ) → Turned w n block → WroteWithin w n (block + offset Start) (block + CDB + 6)
turned-within w n block is =
    record {
      other = λ a out.
          is.other a (outside_in block 0x00 0x04 a (lit≤ tt) out) (outside_in block 0x08 0x18 a (lit≤ tt) out)
          (outside_in block 0x28 0x30 a (lit≤ tt) out) (outside_in block 0xB8 0xC0 a (lit≤ tt) out) (omega arith);
    }

-- ---- the data pointers

-- the move of segment 15 denotes that segment alone
last_segment : (w : ℕ → ℕ) (block : ℕ) → w (block + offset (SegCount 15)) ≡ 18 → w (block + offset (SegAt 15)) ≡ block + SENSE_AREA
    → remain w block (label_of label.Datain + 8 * 15) ≡ sense_area block
unfolding move_at
last_segment w block count address = rw (count, address) refl

pub pointer-denotes : (w n : ℕ → ℕ) (block pointer : ℕ) → Turned w n block → pointer ≡ label_of label.Datain + 8 * 15 → remain n block pointer ≡ sense_area block
pointer-denotes w n block pointer is e = rw e (last_segment n block is.segment.0 is.segment.1)
