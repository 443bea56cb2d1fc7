-- A dropped write stores the whole blocks of what it received.
use Rattle.std.proofs.Common.{◌≡◌, ℕ, ◌+◌, ◌-◌, ◌*◌, ◌/◌, ◌≤◌, ◌<◌, Bool, true, List, ◌++◌, length, take, drop, ap, sym, ◌∙◌, arith}
use Rattle.std.proofs.lemmas.Bool.Decides.{nat_tests}
use Rattle.std.specs.Prelude.{nat_le}
use Rattle.std.proofs.lemmas.Grind.{common_steps}
use Rattle.std.proofs.lemmas.List.{take-append-le, drop-append-le, drop-drop, take-append-drop}
use Rattle.std.proofs.Math.Seq.{drop-append-add}
use Rattle.cdb_codec.specs.declared.commands.Cdb.TheVariants.{Write}
use Rattle.plain_lun.specs.Unit.{UnitState, blocks_of}
use Rattle.plain_lun.specs.Performing.{blocks_at, holds, stored}
use Rattle.plain_lun.specs.Losing.{dropped, stored_within, whole_blocks}
use Rattle.unit_law.specs.Laws.{KeepsBlocks}

-- a part that lies in the front of a list, and one that lies behind it
in-front : (a b : List ℕ) (i m : ℕ) → i + m ≤ length a → take m (drop i (a ++ b)) ≡ take m (drop i a)
in-front a b i m h =
    let e : drop i (a ++ b) ≡ drop i a ++ b = drop-append-le i a b (omega arith) in
    let n : m ≤ length (drop i a) = grind (arith, common_steps) in
    ap (take m) e ∙ take-append-le m (drop i a) b n

in-behind : (a b : List ℕ) (i m : ℕ) → take m (drop (length a + i) (a ++ b)) ≡ take m (drop i b)
in-behind a b i m = ap (take m) (drop-append-add a b i)

-- the parts of a list with w in place of its part from k on
stored-front : (disk w : List ℕ) (k i m : ℕ) → k + length w ≤ length disk → i + m ≤ k → take m (drop i (stored disk k w)) ≡ take m (drop i disk)
unfolding stored
stored-front disk w k i m h le =
    let n : length (take k disk) ≡ k = grind (arith, common_steps) in
    in-front (take k disk) _ i m (omega arith) ∙ sym (in-front (take k disk) (drop k disk) i m (omega arith)) ∙ ap (λ d. take m (drop i d)) (take-append-drop k disk)

stored-part : (disk w : List ℕ) (k i m : ℕ) → k + length w ≤ length disk → i + m ≤ length w → take m (drop (k + i) (stored disk k w)) ≡ take m (drop i w)
unfolding stored
stored-part disk w k i m h le =
    let n : length (take k disk) ≡ k = grind (arith, common_steps) in
    let rest = w ++ drop (k + length w) disk in
    let e : drop (k + i) (take k disk ++ rest) ≡ drop i rest = ap (λ (j : ℕ). drop (j + i) (take k disk ++ rest)) (sym n) ∙ drop-append-add (take k disk) rest i in
    ap (take m) e ∙ in-front w _ i m le

stored-behind : (disk w : List ℕ) (k i : ℕ) → k + length w ≤ length disk → drop (k + (length w + i)) (stored disk k w) ≡ drop (k + length w + i) disk
unfolding stored
stored-behind disk w k i h =
    let n : length (take k disk) ≡ k = grind (arith, common_steps) in
    let rest = w ++ drop (k + length w) disk in
    let e : drop (k + (length w + i)) (take k disk ++ rest) ≡ drop (length w + i) rest =
    ap (λ (j : ℕ). drop (j + (length w + i)) (take k disk ++ rest)) (sym n) ∙ drop-append-add (take k disk) rest (length w + i) in
    e ∙ drop-append-add w (drop (k + length w) disk) i ∙ drop-drop i (k + length w) disk

-- the whole blocks of some bytes, and what lies in them
whole-size : (bytes : List ℕ) → length (whole_blocks bytes) ≡ 512 * (length bytes / 512)
whole-size bytes = grind (arith, common_steps)

whole-part : (bytes : List ℕ) (i m : ℕ) → i + m ≤ 512 * (length bytes / 512) → take m (drop i (whole_blocks bytes)) ≡ take m (drop i bytes)
whole-part bytes i m le =
    let k = 512 * (length bytes / 512) in
    let n : length (take k bytes) ≡ k = whole-size bytes in
    sym (in-front (take k bytes) (drop k bytes) i m (omega arith)) ∙ ap (λ (xs : List ℕ). take m (drop i xs)) (take-append-drop k bytes)

dropped-disk : (u : UnitState) (lba blocks : ℕ) (six : Bool) (bytes : List ℕ) → lba + length bytes / 512 ≤ blocks_of u
    → (dropped u (Write lba blocks six) bytes).disk ≡ stored u.disk (512 * lba) (whole_blocks bytes)
unfolding dropped holds
dropped-disk u lba blocks six bytes h =
    let e : nat_le (lba + length bytes / 512) (blocks_of u) ≡ true = grind (arith, nat_tests) in
    ap (λ b. (stored_within b u lba (whole_blocks bytes)).disk) e

pub keeps-blocks : (u : UnitState) (lba blocks : ℕ) (six : Bool) (bytes : List ℕ) (n : ℕ) → lba + length bytes / 512 ≤ blocks_of u → n < blocks_of u
    → KeepsBlocks u (dropped u (Write lba blocks six) bytes) lba bytes n
unfolding blocks_at
keeps-blocks u lba blocks six bytes n h there =
    let w = whole_blocks bytes in
    let d = dropped-disk u lba blocks six bytes h in
    let s : length w ≡ 512 * (length bytes / 512) = whole-size bytes in
    let fits : 512 * lba + length w ≤ length u.disk = omega arith in
    let after = stored u.disk (512 * lba) w in
    record {
      before = λ l. ap (λ (x : List ℕ). take (512 * 1) (drop (512 * n) x)) d ∙ stored-front u.disk w (512 * lba) (512 * n) (512 * 1) fits (omega arith);
      stored = λ l m.
          let e : 512 * n ≡ 512 * lba + 512 * (n - lba) = omega arith in
          ap (λ (x : List ℕ). take (512 * 1) (drop (512 * n) x)) d
          ∙ ap (λ (j : ℕ). take (512 * 1) (drop j after)) e
          ∙ stored-part u.disk w (512 * lba) (512 * (n - lba)) (512 * 1) fits (omega arith)
          ∙ whole-part bytes (512 * (n - lba)) (512 * 1) (omega arith);
      behind = λ l.
          let i = 512 * n - (512 * lba + length w) in
          let e : 512 * n ≡ 512 * lba + (length w + i) = omega arith in
          let f : 512 * lba + length w + i ≡ 512 * n = omega arith in
          ap (λ (x : List ℕ). take (512 * 1) (drop (512 * n) x)) d
          ∙ ap (λ (j : ℕ). take (512 * 1) (drop j after)) e
          ∙ ap (take (512 * 1)) (stored-behind u.disk w (512 * lba) i fits)
          ∙ ap (λ (j : ℕ). take (512 * 1) (drop j u.disk)) f;
    }
