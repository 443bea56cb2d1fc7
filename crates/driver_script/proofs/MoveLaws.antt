-- The data moves of the script, by a test of all its instructions.
use Rattle.std.proofs.Common.{◌≡◌, ℕ, ℤ, ◌*◌, ◌<◌, Bool, true, false, ◌&&◌, not, nat_eq, Option, Some, None, refl, ap, arith}
use Rattle.std.specs.Prelude.{slice_index_or}
use Rattle.std.proofs.lemmas.Bool.{and_parts, false≢true}
use Rattle.std.proofs.lemmas.Bool.Decides.{nat_tests}
use Rattle.scripts_ops.specs.declared.values.Op.{Op}
use Rattle.scripts_ops.specs.declared.values.Op.TheVariants.{Jump, Nop}
use Rattle.scripts_ops.specs.declared.values.Condition.TheVariants.{Always}
use Rattle.driver_script.specs.declared.script.TheConstants.{SCRIPT}
use Rattle.driver_script.specs.Script.{instruction}
use Rattle.driver_script.specs.Moves.{entry_moved, moves_directly, data_move, HasDataMoves}
use Rattle.driver_script.proofs.ScriptTests.{all_below, both_versions, same_offset, same_offset-is}

abbrev same_move : Option (ℤ × ℕ) → Option (ℤ × ℕ) → Bool
same_move None None = true
same_move (Some x) (Some y) = same_offset x.0 y.0 && nat_eq x.1 y.1
same_move x y = false

abbrev agrees : Option (ℤ × ℕ) → Op → Bool
agrees move op = same_move (entry_moved op) move && not (moves_directly op)

abbrev agrees_at : ℕ → Op → Bool
agrees_at k op = agrees (data_move (8 * k)) op

all_agree : all_below 151 (λ k. agrees_at k (slice_index_or SCRIPT k Nop)) ≡ true
unfolding data_move
all_agree = refl

-- the one instruction in which the versions differ moves no data
at_188 : agrees_at 0x31 (Jump Always 0x460) ≡ true
unfolding data_move
at_188 = refl

agree_at : (k version : ℕ) → k < 151 → agrees (data_move (8 * k)) (instruction k version) ≡ true
agree_at k version h = both_versions agrees_at 151 all_agree at_188 k version h

-- ---- what it means

abbrev pair : ℤ → ℕ → ℤ × ℕ
pair o phase = (o, phase)

same_pair : (a b : ℤ) (c d : ℕ) → a ≡ b → c ≡ d → pair a c ≡ pair b d
same_pair a b c d h k = rw (h, k) refl

same_move-is : (x y : Option (ℤ × ℕ)) → same_move x y ≡ true → x ≡ y
same_move-is None None h = refl
same_move-is None (Some y) h = absurd (false≢true h)
same_move-is (Some x) None h = absurd (false≢true h)
same_move-is (Some x) (Some y) h =
    let f = and_parts (same_offset x.0 y.0) (nat_eq x.1 y.1) h in
    let e : x.1 ≡ y.1 = grind (arith, nat_tests, f.1) in
    ap Some (same_pair x.0 y.0 x.1 y.1 (same_offset-is x.0 y.0 f.0) e)

not-is : (b : Bool) → not b ≡ true → b ≡ false
not-is true h = absurd (false≢true h)
not-is false h = refl

pub has_data_moves : HasDataMoves
has_data_moves =
    record {
      by_table = λ k version h.
          let op = instruction k version in
          same_move-is (entry_moved op) (data_move (8 * k)) (and_parts (same_move (entry_moved op) (data_move (8 * k))) (not (moves_directly op)) (agree_at k version h)).0;
      none_directly = λ k version h.
          let op = instruction k version in
          not-is (moves_directly op) (and_parts (same_move (entry_moved op) (data_move (8 * k))) (not (moves_directly op)) (agree_at k version h)).1;
    }
