-- A READ(10) of one block: its descriptor block, and what the unit makes of it by itself.
use Rattle.std.proofs.Common.{◌≡◌, ℕ, ◌+◌, ◌*◌, ◌/◌, ◌%◌, ◌^◌, ◌<◌, ◌≤◌, true, false, List, [], length, drop, refl, ap, arith, length-drop}
use Rattle.std.proofs.lemmas.Bool.Decides.{nat_tests}
use Rattle.std.proofs.lemmas.List.{length-take-le}
use Rattle.cdb_codec.specs.declared.commands.Cdb.TheVariants.{Read}
use Rattle.cdb_codec.specs.Blocks.{cdb_of}
use Rattle.plain_lun.specs.Unit.{UnitState, blocks_of}
use Rattle.plain_lun.specs.Performing.{perform, wants_now, holds, blocks_at, transferred}
use Rattle.straight_run.specs.Opening.{cdb}

pub read-cdb : (lba : ℕ) → lba < 2 ^ 32 → cdb_of (cdb lba) ≡ Read lba 1 false
read-cdb lba h =
    let e : lba / 16777216 % 256 * 16777216 + lba / 65536 % 256 * 65536 + lba / 256 % 256 * 256 + lba % 256 ≡ lba = omega arith in
    ap (λ (x : ℕ). Read x 1 false) e

-- what is received plays no part
pub performed : (p : UnitState) (lba : ℕ) (received : List ℕ) → p.attention ≡ false → perform p (Read lba 1 false) received ≡ transferred (holds p lba 1) p p.disk (blocks_at p.disk lba 1)
unfolding perform
performed p lba received e = rw e refl

-- the whole block is wanted where the unit has it, and nothing where it hasn't
pub wants-there : (p : UnitState) (lba : ℕ) → p.attention ≡ false → holds p lba 1 ≡ true → (wants_now p (Read lba 1 false)).bytes ≡ 512
unfolding wants_now
wants-there p lba e h = rw (performed p lba [] e, h) refl

pub wants-past : (p : UnitState) (lba : ℕ) → p.attention ≡ false → holds p lba 1 ≡ false → (wants_now p (Read lba 1 false)).bytes ≡ 0
unfolding wants_now
wants-past p lba e h = rw (performed p lba [] e, h) refl

-- the unit has its first blocks
pub holds-there : (p : UnitState) (lba n : ℕ) → blocks_of p ≡ n → lba < n → holds p lba 1 ≡ true
unfolding holds
holds-there p lba n e h = let k : lba + 1 ≤ blocks_of p = omega arith in grind (arith, nat_tests)

pub holds-past : (p : UnitState) (lba n : ℕ) → blocks_of p ≡ n → n ≤ lba → holds p lba 1 ≡ false
unfolding holds
holds-past p lba n e h = let k : blocks_of p < lba + 1 = omega arith in grind (arith, nat_tests)

pub length-block : (disk : List ℕ) (lba : ℕ) → 512 * lba + 512 ≤ length disk → length (blocks_at disk lba 1) ≡ 512
unfolding blocks_at
length-block disk lba h = length-take-le 512 (drop (512 * lba) disk) (rw (length-drop (512 * lba) disk) (omega arith))
