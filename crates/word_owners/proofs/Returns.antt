-- RETURNs of the script keep the invariant, where the address in TEMP is one of the script's own.
use Rattle.std.proofs.Common.{◌≡◌, ℕ, ◌*◌, ◌<◌, List, refl, arith}
use Rattle.bench_words.specs.Memory.{word_at}
use Rattle.rig_types.specs.declared.rig.Unit.{Unit as RigUnit}
use Rattle.scripts_ops.specs.declared.values.Condition.TheVariants.{Always}
use Rattle.scripts_ops.specs.declared.values.Op.TheVariants.{Return}
use Rattle.driver_script.specs.Script.{instruction}
use Rattle.world_law.specs.declared.reply.Reply.{Reply}
use Rattle.world_law.specs.World.{World}
use Rattle.world_law.specs.ChipSteps.{RunsChip}
use Rattle.word_owners.specs.Tickets.{Tickets, tickets_of}
use Rattle.word_owners.specs.Points.{Point, about, At018Idle, At018Job, At018Sense, At020, At040Idle, At048, At1A8, At1A8Bad, At1A8None, At1B0, At1B0None, At1B8None, At1C0, At298, At440}
use Rattle.word_owners.specs.Parts.{Counts}
use Rattle.word_owners.specs.Works.{Works}
use Rattle.word_owners.specs.Holds.{Holds, Running, AtPoint, Linked}
use Rattle.word_owners.proofs.PointGroups.{ReturnsHold}
use Rattle.word_owners.proofs.Jumps.{jump-to}
use Rattle.word_owners.proofs.ChipSteps as step

-- what a RETURN from one point to another needs
record Returns (p q : Point) (ts : Tickets) (c : Counts) (w : World) : Type 0 where
  closing : (about p).closing ≡ (about q).closing
  ahead : (about p).ahead ≡ (about q).ahead
  works : Works (about p).work (word_at w.memory) ts c → Works (about q).work (word_at w.memory) ts c
  temp : AtPoint p ts c w.regs → w.regs.temp ≡ (about q).place
  at : AtPoint p ts c w.regs → AtPoint q ts c w.regs
  linked : Linked (about p).link ts w.bus w.regs → Linked (about q).link ts w.bus w.regs

module _ (version : ℕ) (units : List RigUnit) (p q : Point) (c : Counts) (w new : World) (word : ℕ) (answer : Reply) (k : ℕ) where
  returned : k < 151 → (about p).place ≡ 8 * k → instruction k version ≡ Return Always → RunsChip w word answer new → Holds version units (Running p) c w → Returns p q (tickets_of w.desk) c w → Holds version units (Running q) c new
  returned inside place here s h x = step.returned version units p c w h new word answer s q k inside place here (x.temp h.stays.4) (record {
    closing = x.closing;
    ahead = x.ahead;
    works = x.works h.works;
    at = x.at h.stays.4;
    linked = x.linked h.linked;
  })

pub returns_hold : ReturnsHold
unfolding instruction
returns_hold version units At018Idle q c w new word answer e s h = jump-to version units At018Idle At020 q c new e (returned version units At018Idle At020 c w new word answer 3 (omega arith) refl refl s h
    (record { closing = refl; ahead = refl; works = λ x. x; temp = λ x. x.temp; at = λ x. record { dsa = tt; temp = tt; scratcha = tt; scratchb = tt; ssid = tt; sfbr = tt }; linked = λ x. x }))
returns_hold version units At018Job q c w new word answer e s h = jump-to version units At018Job At298 q c new e (returned version units At018Job At298 c w new word answer 3 (omega arith) refl refl s h
    (record { closing = refl; ahead = refl; works = λ x. x; temp = λ x. x.temp; at = λ x. record { dsa = x.dsa; temp = tt; scratcha = tt; scratchb = tt; ssid = tt; sfbr = tt }; linked = λ x. x }))
returns_hold version units (At018Sense t) q c w new word answer e s h = jump-to version units (At018Sense t) (At440 t) q c new e (returned version units (At018Sense t) (At440 t) c w new word answer 3 (omega arith) refl refl s h
    (record { closing = refl; ahead = refl; works = λ x. x; temp = λ x. x.temp; at = λ x. record { dsa = x.dsa; temp = tt; scratcha = tt; scratchb = tt; ssid = tt; sfbr = tt }; linked = λ x. x }))
returns_hold version units At040Idle q c w new word answer e s h = jump-to version units At040Idle At048 q c new e (returned version units At040Idle At048 c w new word answer 8 (omega arith) refl refl s h
    (record { closing = refl; ahead = refl; works = λ x. x; temp = λ x. x.temp; at = λ x. record { dsa = tt; temp = tt; scratcha = tt; scratchb = tt; ssid = tt; sfbr = tt }; linked = λ x. x }))
returns_hold version units (At1A8 t) q c w new word answer e s h = jump-to version units (At1A8 t) (At1B0 t) q c new e (returned version units (At1A8 t) (At1B0 t) c w new word answer 53 (omega arith) refl refl s h
    (record { closing = refl; ahead = refl; works = λ x. x; temp = λ x. x.temp; at = λ x. record { dsa = x.dsa; temp = tt; scratcha = tt; scratchb = tt; ssid = tt; sfbr = tt }; linked = λ x. x }))
returns_hold version units At1A8Bad q c w new word answer e s h = jump-to version units At1A8Bad At1C0 q c new e (returned version units At1A8Bad At1C0 c w new word answer 53 (omega arith) refl refl s h
    (record { closing = refl; ahead = refl; works = λ x. x; temp = λ x. x.temp; at = λ x. record { dsa = tt; temp = tt; scratcha = tt; scratchb = tt; ssid = tt; sfbr = tt }; linked = λ x. x }))
returns_hold version units At1A8None q c w new word answer e s h = jump-to version units At1A8None At1B0None q c new e (returned version units At1A8None At1B0None c w new word answer 53 (omega arith) refl refl s h
    (record { closing = refl; ahead = refl; works = λ x. x; temp = λ x. x.temp; at = λ x. record { dsa = x.dsa; temp = tt; scratcha = tt; scratchb = tt; ssid = tt; sfbr = tt }; linked = λ x. x }))
returns_hold version units At1B8None q c w new word answer e s h = jump-to version units At1B8None At1C0 q c new e (returned version units At1B8None At1C0 c w new word answer 55 (omega arith) refl refl s h
    (record { closing = refl; ahead = refl; works = λ x. x; temp = λ x. x.temp; at = λ x. record { dsa = tt; temp = tt; scratcha = tt; scratchb = tt; ssid = tt; sfbr = tt }; linked = λ x. x }))
returns_hold version units _ q c w new word answer e s h = absurd cc
