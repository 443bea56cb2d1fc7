-- The jumps of the script that always hold keep the invariant, over any state of the bus.
use Rattle.std.proofs.Common.{◌≡◌, ℕ, ◌*◌, ◌<◌, List, refl, subst, arith, Some}
use Rattle.rig_types.specs.declared.rig.Unit.{Unit as RigUnit}
use Rattle.scripts_ops.specs.declared.values.Condition.TheVariants.{Always}
use Rattle.scripts_ops.specs.declared.values.Op.TheVariants.{Jump}
use Rattle.driver_script.specs.Script.{instruction}
use Rattle.chip_regs.specs.declared.registers.Regs.{Regs}
use Rattle.bus_law.specs.Bus.{BusState}
use Rattle.world_law.specs.declared.reply.Reply.{Reply}
use Rattle.world_law.specs.World.{World}
use Rattle.world_law.specs.ChipSteps.{RunsChip}
use Rattle.word_owners.specs.Tickets.{Tickets, tickets_of}
use Rattle.word_owners.specs.Points.{Begun, Ending, Point, about, At000, At0D0, At090, At120, At140, At158, At1E0, At1F0, At200, At208, At220, At270, At290, At1E8, At340, At3C8, At3D8, At458, At070}
use Rattle.word_owners.specs.Parts.{Counts}
use Rattle.word_owners.specs.Works.{Works}
use Rattle.word_owners.specs.Holds.{Holds, Running, AtPoint, Linked}
use Rattle.word_owners.proofs.PointGroups.{JumpsHold}
use Rattle.word_owners.proofs.ChipSteps as step
use Rattle.bench_words.specs.Memory.{word_at}

-- what stands at two points alike
record Alike (p q : Point) : Type 0 where
  closing : (about p).closing ≡ (about q).closing
  ahead : (about p).ahead ≡ (about q).ahead
  works : (w : ℕ → ℕ) (ts : Tickets) (c : Counts) → Works (about p).work w ts c → Works (about q).work w ts c
  at : (ts : Tickets) (c : Counts) (r : Regs) → AtPoint p ts c r → AtPoint q ts c r
  linked : (ts : Tickets) (b : BusState) (r : Regs) → Linked (about p).link ts b r → Linked (about q).link ts b r

module _ (version : ℕ) (units : List RigUnit) (p q : Point) (c : Counts) (w new : World) (word : ℕ) (answer : Reply) (k a : ℕ) where
  jumped : k < 151 → (about p).place ≡ 8 * k → instruction k version ≡ Jump Always a → a ≡ (about q).place → Alike p q → RunsChip w word answer new → Holds version units (Running p) c w → Holds version units (Running q) c new
  jumped inside place here to alike s h = step.jumped version units p c w h new word answer s q k a inside place here to (record {
    closing = alike.closing;
    ahead = alike.ahead;
    works = alike.works (word_at w.memory) (tickets_of w.desk) c h.works;
    at = alike.at (tickets_of w.desk) c w.regs h.stays.4;
    linked = alike.linked (tickets_of w.desk) w.bus w.regs h.linked;
  })

ends-work : (t : ℕ) (w : ℕ → ℕ) (ts : Tickets) (c : Counts) → Works (Begun t) w ts c → Works (Ending t 1) w ts c
ends-work t w ts c h = record { plays = (h.plays.begun, h.plays.out); extra = (omega arith, omega arith, λ e. h.plays.there) }

-- where a jump leads is the point that it names
pub jump-to : (version : ℕ) (units : List RigUnit) (p x q : Point) (c : Counts) (new : World) → Some x ≡ Some q → Holds version units (Running x) c new → Holds version units (Running q) c new
jump-to version units p x q c new e h = let z : x ≡ q = cc in subst (λ (i : Point). Holds version units (Running i) c new) z h

pub jumps_hold : JumpsHold
unfolding instruction
jumps_hold version units (At0D0 t) q c w new word answer e s h = jump-to version units (At0D0 t) (At090 t) q c new e (jumped version units (At0D0 t) (At090 t) c w new word answer 26 0x90 (omega arith) refl refl refl (record { closing = refl; ahead = refl; works = λ v ts d x. x; at = λ ts d r x. x; linked = λ ts b r x. x }) s h)
jumps_hold version units (At120 t) q c w new word answer e s h = jump-to version units (At120 t) (At090 t) q c new e (jumped version units (At120 t) (At090 t) c w new word answer 36 0x90 (omega arith) refl refl refl (record { closing = refl; ahead = refl; works = λ v ts d x. x; at = λ ts d r x. x; linked = λ ts b r x. x }) s h)
jumps_hold version units (At140 t) q c w new word answer e s h = jump-to version units (At140 t) (At090 t) q c new e (jumped version units (At140 t) (At090 t) c w new word answer 40 0x90 (omega arith) refl refl refl (record { closing = refl; ahead = refl; works = λ v ts d x. x; at = λ ts d r x. x; linked = λ ts b r x. x }) s h)
jumps_hold version units At158 q c w new word answer e s h = jump-to version units At158 At000 q c new e (jumped version units At158 At000 c w new word answer 43 0 (omega arith) refl refl refl (record { closing = refl; ahead = refl; works = λ v ts d x. x; at = λ ts d r x. x; linked = λ ts b r x. x }) s h)
jumps_hold version units (At1E0 t) q c w new word answer e s h = jump-to version units (At1E0 t) (At220 t 1) q c new e (jumped version units (At1E0 t) (At220 t 1) c w new word answer 60 0x220 (omega arith) refl refl refl (record { closing = refl; ahead = refl; works = ends-work t; at = λ ts d r x. x; linked = λ ts b r x. x }) s h)
jumps_hold version units (At1F0 t) q c w new word answer e s h = jump-to version units (At1F0 t) (At200 t) q c new e (jumped version units (At1F0 t) (At200 t) c w new word answer 62 0x200 (omega arith) refl refl refl (record { closing = refl; ahead = refl; works = λ v ts d x. x; at = λ ts d r x. x; linked = λ ts b r x. x }) s h)
jumps_hold version units (At208 t) q c w new word answer e s h = jump-to version units (At208 t) (At220 t 2) q c new e (jumped version units (At208 t) (At220 t 2) c w new word answer 65 0x220 (omega arith) refl refl refl (record { closing = refl; ahead = refl; works = λ v ts d x. x; at = λ ts d r x. x; linked = λ ts b r x. x }) s h)
jumps_hold version units At270 q c w new word answer e s h = jump-to version units At270 At000 q c new e (jumped version units At270 At000 c w new word answer 78 0 (omega arith) refl refl refl (record { closing = refl; ahead = refl; works = λ v ts d x. x; at = λ ts d r x. x; linked = λ ts b r x. x }) s h)
jumps_hold version units (At290 t) q c w new word answer e s h = jump-to version units (At290 t) (At1E8 t) q c new e (jumped version units (At290 t) (At1E8 t) c w new word answer 82 0x1E8 (omega arith) refl refl refl (record { closing = refl; ahead = refl; works = λ v ts d x. x; at = λ ts d r x. x; linked = λ ts b r x. x }) s h)
jumps_hold version units (At340 t) q c w new word answer e s h = jump-to version units (At340 t) (At3C8 t) q c new e (jumped version units (At340 t) (At3C8 t) c w new word answer 104 0x3C8 (omega arith) refl refl refl (record { closing = refl; ahead = refl; works = λ v ts d x. x; at = λ ts d r x. x; linked = λ ts b r x. x }) s h)
jumps_hold version units (At3D8 t) q c w new word answer e s h = jump-to version units (At3D8 t) (At090 t) q c new e (jumped version units (At3D8 t) (At090 t) c w new word answer 123 0x90 (omega arith) refl refl refl (record { closing = refl; ahead = refl; works = λ v ts d x. x; at = λ ts d r x. x; linked = λ ts b r x. x }) s h)
jumps_hold version units (At458 t) q c w new word answer e s h = jump-to version units (At458 t) (At070 t) q c new e (jumped version units (At458 t) (At070 t) c w new word answer 139 0x70 (omega arith) refl refl refl (record { closing = refl; ahead = refl; works = λ v ts d x. x; at = λ ts d r x. x; linked = λ ts b r x. x }) s h)
jumps_hold version units _ q c w new word answer e s h = absurd cc
