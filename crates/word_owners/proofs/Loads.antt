-- The LOADs of the script that have their word at an address of their own keep the invariant.
use Rattle.std.proofs.Common.{◌≡◌, ℕ, ◌+◌, ◌*◌, ◌<◌, List, refl, ap, ◌∙◌, arith}
use Rattle.bench_words.specs.Memory.{word_at}
use Rattle.rig_types.specs.declared.rig.Unit.{Unit as RigUnit}
use Rattle.host_map.specs.Places.{done_slot}
use Rattle.scripts_ops.specs.declared.values.Address.TheVariants.{At}
use Rattle.scripts_ops.specs.declared.values.Op.TheVariants.{Load}
use Rattle.driver_script.specs.Script.{instruction}
use Rattle.chip_regs.specs.Bytes.{Wide, Dsa, ScratchA, base_of, holding}
use Rattle.chip_step.specs.Step.{after_fetch}
use Rattle.world_law.specs.declared.reply.Reply.{Reply}
use Rattle.world_law.specs.World.{World}
use Rattle.world_law.specs.ChipSteps.{chip_of, RunsChip}
use Rattle.word_owners.specs.Tickets.{Tickets, tickets_of}
use Rattle.word_owners.specs.Points.{Ending, Point, about, At020, At028, At070, At078, At1D8, At1E0, At200, At208, At218, At220, At228, At230, At240, At248, At250, At3C8, At3D0, At448, At450}
use Rattle.word_owners.specs.Parts.{Counts}
use Rattle.word_owners.specs.Works.{Works}
use Rattle.word_owners.specs.Holds.{Holds, Running, AtPoint, Linked}
use Rattle.word_owners.proofs.PointGroups.{LoadsHold}
use Rattle.word_owners.proofs.Jumps.{jump-to}
use Rattle.word_owners.proofs.ChipSteps as step

-- where two points follow each other by a LOAD into this register, of a word with this value
record Leads (p q : Point) (x : Wide) (v : ℕ) (ts : Tickets) (c : Counts) (w : World) : Type 0 where
  closing : (about p).closing ≡ (about q).closing
  ahead : (about p).ahead ≡ (about q).ahead
  works : Works (about p).work (word_at w.memory) ts c → Works (about q).work (word_at w.memory) ts c
  at : AtPoint p ts c w.regs → AtPoint q ts c (holding x v (after_fetch (chip_of w)).regs)
  linked : Linked (about p).link ts w.bus w.regs → Linked (about q).link ts w.bus w.regs

module _ (version : ℕ) (units : List RigUnit) (p q : Point) (c : Counts) (w new : World) (word : ℕ) (answer : Reply) (k a v : ℕ) (x : Wide) where
  loaded : k < 151 → (about p).place ≡ 8 * k → instruction k version ≡ Load (base_of x) 4 (At a) → (about q).place ≡ 8 * k + 8 → RunsChip w word answer new → Holds version units (Running p) c w
      → word_at w.memory a ≡ v → Leads p q x v (tickets_of w.desk) c w → Holds version units (Running q) c new
  loaded inside place here to s h value leads = step.loaded version units p c w h new word answer s q k v x (At a) inside place here to tt value (record {
    closing = leads.closing;
    ahead = leads.ahead;
    works = leads.works h.works;
    at = leads.at h.stays.4;
    linked = leads.linked h.linked;
  })

-- the word at DONEP where no slot is filled past it
donep-is : (version : ℕ) (units : List RigUnit) (t : ℕ) (c : Counts) (w : World) → Holds version units (Running (At248 t)) c w → word_at w.memory 0x1008 ≡ done_slot c.entered
donep-is version units t c w h = let e : h.donep.before ≡ c.entered = omega (arith, h.donep.entered) in h.donep.is ∙ ap done_slot e

no-target-work : (t : ℕ) (w : ℕ → ℕ) (ts : Tickets) (c : Counts) → Works (Ending t 3) w ts c → Works (Ending t 3) w ts c
no-target-work t w ts c h = h

pub loads_hold : LoadsHold
unfolding instruction
loads_hold version units At020 q c w new word answer e s h = jump-to version units At020 At028 q c new e
    (loaded version units At020 At028 c w new word answer 4 0x1004 _ Dsa (omega arith) refl refl refl s h h.parts.ringp
    (record { closing = refl; ahead = refl; works = λ x. x; at = λ x. record { dsa = refl; temp = tt; scratcha = tt; scratchb = tt; ssid = tt; sfbr = tt }; linked = λ x. x }))
loads_hold version units (At070 t) q c w new word answer e s h = jump-to version units (At070 t) (At078 t) q c new e
    (loaded version units (At070 t) (At078 t) c w new word answer 14 0x1028 0x1B0 ScratchA (omega arith) refl refl refl s h h.parts.constants.open_gate
    (record { closing = refl; ahead = refl; works = λ x. x; at = λ x. record { dsa = x.dsa; temp = tt; scratcha = refl; scratchb = tt; ssid = tt; sfbr = tt }; linked = λ x. x }))
loads_hold version units (At1D8 t) q c w new word answer e s h = jump-to version units (At1D8 t) (At1E0 t) q c new e
    (loaded version units (At1D8 t) (At1E0 t) c w new word answer 59 0x101C 1 ScratchA (omega arith) refl refl refl s h h.parts.constants.ended
    (record { closing = refl; ahead = refl; works = λ x. x; at = λ x. record { dsa = x.dsa; temp = tt; scratcha = refl; scratchb = tt; ssid = tt; sfbr = tt }; linked = λ x. x }))
loads_hold version units (At200 t) q c w new word answer e s h = jump-to version units (At200 t) (At208 t) q c new e
    (loaded version units (At200 t) (At208 t) c w new word answer 64 0x1020 2 ScratchA (omega arith) refl refl refl s h h.parts.constants.cut
    (record { closing = refl; ahead = refl; works = λ x. x; at = λ x. record { dsa = x.dsa; temp = tt; scratcha = refl; scratchb = tt; ssid = tt; sfbr = tt }; linked = λ x. x }))
loads_hold version units (At218 t) q c w new word answer e s h = jump-to version units (At218 t) (At220 t 3) q c new e
    (loaded version units (At218 t) (At220 t 3) c w new word answer 67 0x1024 3 ScratchA (omega arith) refl refl refl s h h.parts.constants.no_target
    (record { closing = refl; ahead = refl; works = λ x. x; at = λ x. record { dsa = x.dsa; temp = tt; scratcha = refl; scratchb = tt; ssid = tt; sfbr = tt }; linked = λ x. x }))
loads_hold version units (At228 t) q c w new word answer e s h = jump-to version units (At228 t) (At230 t) q c new e
    (loaded version units (At228 t) (At230 t) c w new word answer 69 0x102C 0x1C0 ScratchA (omega arith) refl refl refl s h h.parts.constants.bad_gate
    (record { closing = refl; ahead = refl; works = λ x. x; at = λ x. record { dsa = x.dsa; temp = tt; scratcha = refl; scratchb = tt; ssid = tt; sfbr = tt }; linked = λ x. x }))
loads_hold version units (At240 t) q c w new word answer e s h = jump-to version units (At240 t) (At248 t) q c new e
    (loaded version units (At240 t) (At248 t) c w new word answer 72 0x100C _ ScratchA (omega arith) refl refl refl s h h.works.extra
    (record { closing = refl; ahead = refl; works = λ x. record { plays = x.plays; extra = tt }; at = λ x. record { dsa = tt; temp = tt; scratcha = refl; scratchb = tt; ssid = tt; sfbr = tt }; linked = λ x. x }))
loads_hold version units (At248 t) q c w new word answer e s h = jump-to version units (At248 t) (At250 t) q c new e
    (loaded version units (At248 t) (At250 t) c w new word answer 73 0x1008 _ Dsa (omega arith) refl refl refl s h (donep-is version units t c w h)
    (record { closing = refl; ahead = refl; works = λ x. x; at = λ x. record { dsa = refl; temp = tt; scratcha = x.scratcha; scratchb = tt; ssid = tt; sfbr = tt }; linked = λ x. x }))
loads_hold version units (At3C8 t) q c w new word answer e s h = jump-to version units (At3C8 t) (At3D0 t) q c new e
    (loaded version units (At3C8 t) (At3D0 t) c w new word answer 121 0x1018 0x2B8 ScratchA (omega arith) refl refl refl s h h.parts.constants.over
    (record { closing = refl; ahead = refl; works = λ x. x; at = λ x. record { dsa = x.dsa; temp = tt; scratcha = refl; scratchb = tt; ssid = tt; sfbr = tt }; linked = λ x. x }))
loads_hold version units (At448 t) q c w new word answer e s h = jump-to version units (At448 t) (At450 t) q c new e
    (loaded version units (At448 t) (At450 t) c w new word answer 137 0x1030 0x1600 ScratchA (omega arith) refl refl refl s h h.parts.constants.front_idle
    (record { closing = refl; ahead = refl; works = λ x. x; at = λ x. record { dsa = x.dsa; temp = tt; scratcha = refl; scratchb = tt; ssid = tt; sfbr = tt }; linked = λ x. x }))
loads_hold version units _ q c w new word answer e s h = absurd cc
