-- The data moves are those of the script, in both versions: each stands where the script has MOVE FROM its entry, WHEN
-- its phase, and nowhere else has the script a move of a data phase.
use Rattle.std.proofs.Common.{◌≡◌, ℕ, pos, ◌*◌, ◌/◌, ◌%◌, ◌<◌, Bool, true, false, ◌&&◌, not, nat_eq, Option, Some, None, refl, arith}
use Rattle.std.specs.Prelude.{slice_index_or}
use Rattle.std.proofs.lemmas.Bool.{and_parts, false≢true}
use Rattle.std.proofs.lemmas.Bool.Decides.{nat_tests}
use Rattle.scripts_ops.specs.declared.values.Op.{Op}
use Rattle.scripts_ops.specs.declared.values.Op.TheVariants.{MoveFrom, Jump, Nop}
use Rattle.scripts_ops.specs.declared.values.Condition.TheVariants.{Always}
use Rattle.cmd_block.specs.Block.{offset}
use Rattle.driver_script.specs.declared.script.TheConstants.{SCRIPT}
use Rattle.driver_script.specs.Script.{instruction}
use Rattle.driver_script.proofs.ScriptTests.{all_below, both_versions}
use Rattle.phase_fix.specs.declared.moves.DataPhase.{DataPhase}
use Rattle.phase_fix.specs.declared.moves.DataPhase.TheVariants.{In, Out}
use Rattle.phase_fix.specs.declared.moves.Entry.{Entry}
use Rattle.phase_fix.specs.declared.moves.Entry.TheVariants.{Segment, Context}
use Rattle.phase_fix.specs.declared.moves.DataMove.{DataMove}
use Rattle.phase_fix.specs.InScript.{phase_code, instruction_of, is_data, FindsMoves, MissesNone}
use Rattle.phase_fix.specs.Moves.{IsEntry, count_field, move_at}
use Rattle.phase_fix.proofs.MoveLaws.{entry_place, move_stands}

-- ---- a test of the whole script

abbrev same : Op → DataMove → Bool
same (MoveFrom (pos o) p) x = nat_eq o (offset (count_field x.entry)) && nat_eq p (phase_code x.phase)
same op x = false

abbrev agrees : Option DataMove → Op → Bool
agrees None op = not (is_data op)
agrees (Some x) op = same op x

abbrev agrees_at : ℕ → Op → Bool
agrees_at k op = agrees (move_at (8 * k)) op

all_agree : all_below 151 (λ k. agrees_at k (slice_index_or SCRIPT k Nop)) ≡ true
unfolding move_at
all_agree = refl

-- the one instruction in which the versions differ is no data move
at_188 : agrees_at 0x31 (Jump Always 0x460) ≡ true
unfolding move_at
at_188 = refl

agree_at : (k version : ℕ) → k < 151 → agrees (move_at (8 * k)) (instruction k version) ≡ true
agree_at k version h = both_versions agrees_at 151 all_agree at_188 k version h

-- ---- what it means

same_fields : (o p q c : ℕ) → nat_eq o q && nat_eq p c ≡ true → (o ≡ q) × (p ≡ c)
same_fields o p q c h =
    let b = and_parts (nat_eq o q) (nat_eq p c) h in
    (grind (arith, nat_tests, b.0), grind (arith, nat_tests, b.1))

same-is : (op : Op) (x : DataMove) → same op x ≡ true → op ≡ instruction_of x
same-is (MoveFrom (pos o) p) x h =
    let f = same_fields o p (offset (count_field x.entry)) (phase_code x.phase) h in
    rw (f.0, f.1) refl
same-is op x h = absurd (false≢true h)

not-is : (b : Bool) → not b ≡ true → b ≡ false
not-is true h = absurd (false≢true h)
not-is false h = refl

aligned : (phase : DataPhase) (e : Entry) → IsEntry e → (entry_place phase e % 8 ≡ 0) × (entry_place phase e / 8 < 151)
aligned In (Segment j) h = (omega arith, omega arith)
aligned Out (Segment j) h = (omega arith, omega arith)
aligned In (Context k) h = (omega arith, omega arith)
aligned Out (Context k) h = (omega arith, omega arith)

-- at a data move the script has its instruction
pub finds_moves : FindsMoves
finds_moves a version x h =
    let s = move_stands a x h in
    let l = rw s.1 at (aligned x.phase x.entry s.0) in
    let e : 8 * (a / 8) ≡ a = omega (arith, l.0) in
    let t = rw (e, h) at (agree_at (a / 8) version l.1) in
    record { aligned = l.0; within = l.1; stands = same-is (instruction (a / 8) version) x t }

-- elsewhere its instruction is none of a data phase
pub misses_none : MissesNone
misses_none k version h none =
    let t = rw none at (agree_at k version h) in
    not-is (is_data (instruction k version)) t
