-- Instructions that leave memory keep the invariant: ACK and ATN, WAIT, the jumps by a phase or a byte, INT, and WAIT RESELECT.
use Rattle.std.proofs.Common.{◌≡◌, ◌⊎◌, inl, inr, ℕ, List, true, false, refl, sym, ap, subst, ◌∙◌, arith, Option, Some, None}
use Rattle.std.specs.Prelude.{bit_or}
use Rattle.rig_types.specs.declared.rig.Unit.{Unit as RigUnit}
use Rattle.scripts_ops.specs.declared.values.Change.TheVariants as change
use Rattle.scripts_ops.specs.declared.values.Condition.TheVariants as condition
use Rattle.scripts_ops.specs.declared.values.Op.TheVariants as op
use Rattle.driver_script.specs.Script.{instruction}
use Rattle.chip_regs.specs.Registers.{byte_at, after_read}
use Rattle.chip_regs.specs.declared.registers.Cause.TheVariants.{Sir}
use Rattle.chip_regs.specs.declared.registers.Regs.{Regs}
use Rattle.chip_step.specs.Event as event
use Rattle.chip_step.specs.Chip.{Chip, Becomes}
use Rattle.chip_step.specs.Connection.{Reselects, ReselectsBy}
use Rattle.chip_step.specs.Step.{after_fetch}
use Rattle.chip_step.specs.declared.outcome.StepEnd.TheVariants.{Idle, Stopped}
use Rattle.chip_step.specs.declared.outcome.StepEnd.{StepEnd}
use Rattle.phase_fix.specs.Moves.{move_at}
use Rattle.bus_law.specs.Bus.{BusState}
use Rattle.bus_law.specs.Moves.{moves}
use Rattle.bus_law.specs.Reselections.{calls, all_candidates}
use Rattle.bus_law.proofs.Connections.{connects}
use Rattle.ownership.proofs.Transfers.{interrupts}
use Rattle.world_law.specs.declared.reply.Reply.{Reply}
use Rattle.world_law.specs.World.{World, live}
use Rattle.world_law.specs.ChipSteps.{chip_of, after_chip, RunsChip}
use Rattle.word_owners.specs.Points.{Point, At000, At008, At048, At050, At090, At098, At0A0, At0A8, At0B0, At0B8, At0C8, At0D8, At0E0, At0E8, At0F0, At0F8, At100, At108, At118, At120, At128, At138, At140, At148, At150, At158, At1C0, At1C8, At1D0, At1D8, At1E8, At1F0, At268, At270, At278, At280, At288, At2A8, At2B0, At2B8}
use Rattle.word_owners.specs.Parts.{Counts}
use Rattle.word_owners.specs.Holds.{Spot, Holds, Running, NotData, JobOver, Broken}
use Rattle.word_owners.specs.Nexts.{IsNext, Leads, Either, Asked, Waited}
use Rattle.word_owners.proofs.PointGroups.{asks_bus, StepsHold}
use Rattle.word_owners.proofs.BusCalls.{by_bool, when_false, id-below, cleared, sets, waited, either, asked, stops}
use Rattle.word_owners.proofs.ChipSteps.{arrives, lands, breaks, leads, row, past, stands, stopped-for}

module _ (version : ℕ) (units : List RigUnit) (p : Point) (c : Counts) (w : World) (h : Holds version units (Running p) c w) (new : World) (word : ℕ) (answer : Reply) (run : RunsChip w word answer new) where
  pub on-either : (q n : Point) → ((s : Spot) → Either q n s → IsNext p s) → Holds version units (Running q) c new ⊎ Holds version units (Running n) c new → Leads (IsNext p) version units c new
  on-either q n to (inl x) = leads version units p c w h new word answer run (IsNext p) (Running q) (to (Running q) (inl refl)) x
  on-either q n to (inr x) = leads version units p c w h new word answer run (IsNext p) (Running n) (to (Running n) (inr refl)) x

  on-asked : (q n : Point) → ((s : Spot) → Asked q n s → IsNext p s) → Holds version units (Running q) c new ⊎ (Holds version units (Running n) c new ⊎ Holds version units Broken c new) → Leads (IsNext p) version units c new
  on-asked q n to (inl x) = leads version units p c w h new word answer run (IsNext p) (Running q) (to (Running q) (inl refl)) x
  on-asked q n to (inr (inl x)) = leads version units p c w h new word answer run (IsNext p) (Running n) (to (Running n) (inr (inl refl))) x
  on-asked q n to (inr (inr x)) = leads version units p c w h new word answer run (IsNext p) Broken (to Broken (inr (inr refl))) x

  on-waited : (q : Point) → ((s : Spot) → Waited q s → IsNext p s) → Holds version units (Running q) c new ⊎ Holds version units NotData c new → Leads (IsNext p) version units c new
  on-waited q to (inl x) = leads version units p c w h new word answer run (IsNext p) (Running q) (to (Running q) (inl refl)) x
  on-waited q to (inr x) = leads version units p c w h new word answer run (IsNext p) NotData (to NotData (inr refl)) x

-- WAIT RESELECT: the chip rests, goes to START where it was signalled, or a target reselects
module _ (version : ℕ) (units : List RigUnit) (c : Counts) (w : World) (h : Holds version units (Running At048) c w) (new : World) (word : ℕ) (answer : Reply) (run : RunsChip w word answer new) where
  rests : run.end ≡ Idle → run.chip ≡ chip_of w → Leads (IsNext At048) version units c new
  rests e same =
      let z : new ≡ w = run.world ∙ ap (λ (i : StepEnd). after_chip w i run.chip) e ∙ ap (λ (i : Chip BusState). after_chip w Idle i) same in
      leads version units At048 c w h new word answer run (IsNext At048) (Running At048) (inl refl) (subst (Holds version units (Running At048) c) (sym z) h)

  signalled : Becomes (record (after_fetch (chip_of w)).regs { dsp = 0 }) (after_fetch (chip_of w)) run.end run.chip → Leads (IsNext At048) version units c new
  signalled b = leads version units At048 c w h new word answer run (IsNext At048) (Running At000) (inr (inl refl)) (arrives version units At048 c w h new word answer run At000 _ b.ends (record {
    closing = refl;
    ahead = refl;
    works = record { plays = tt; extra = tt };
    running = h.stays.2;
    dsp = refl;
    at = record { dsa = tt; temp = tt; scratcha = tt; scratchb = tt; ssid = tt; sfbr = tt };
    linked = (ap (λ (b : BusState). b.connected) b.bus_is ∙ h.linked.0, h.linked.1);
  }))

  called : (o : Option ℕ) → moves w.desk.units (live w.desk) w.bus (event.Reselect word o) run.chip.bus → ReselectsBy o (chip_of w) (after_fetch (chip_of w)) run.end run.chip → Leads (IsNext At048) version units c new
  called None m e = rests e.0 e.1
  called (Some r) m e = leads version units At048 c w h new word answer run (IsNext At048) (Running (At050 r)) (inr (inr (r, refl))) (arrives version units At048 c w h new word answer run (At050 r) _ e (record {
    closing = refl;
    ahead = refl;
    works = record { plays = tt; extra = id-below (calls w.bus word) (all_candidates w.desk.units w.bus) word r m.0 };
    running = h.stays.2;
    dsp = past version units At048 c w h new word answer run 9 (omega arith) refl;
    at = record { dsa = tt; temp = tt; scratcha = tt; scratchb = tt; ssid = refl; sfbr = tt };
    linked = inl (connects w.desk.units (live w.desk) w.bus (event.Reselect word (Some r)) run.chip.bus m);
  }))

  waits-reselect : Leads (IsNext At048) version units c new
  unfolding instruction
  waits-reselect =
      let old : Chip BusState = after_fetch (chip_of w) in
      let d : Reselects (moves w.desk.units (live w.desk)) word 0 (chip_of w) old run.end run.chip = row version units At048 c w h new word answer run 9 (op.WaitReselect 0) (omega arith) refl refl in
      let b = when_false _ _ w.regs.con h.linked.1 d in
      by_bool _ _ (Leads (IsNext At048) version units c new) w.regs.sigp b (λ z k. signalled k) (λ z k. called k.0 k.1 k.2)

pub keeps : StepsHold asks_bus
unfolding instruction move_at
keeps version units (At118 t) c w new word answer e run h = leads version units (At118 t) c w h new word answer run (IsNext (At118 t)) (Running (At120 t)) refl (cleared version units (At118 t) c w h new word answer run (At120 t) 35 (omega arith) refl refl refl (record { closing = refl; ahead = refl; works = h.works; at = record { dsa = h.stays.4.dsa; temp = tt; scratcha = tt; scratchb = tt; ssid = tt; sfbr = tt }; linked = h.linked }))
keeps version units (At138 t) c w new word answer e run h = leads version units (At138 t) c w h new word answer run (IsNext (At138 t)) (Running (At140 t)) refl (cleared version units (At138 t) c w h new word answer run (At140 t) 39 (omega arith) refl refl refl (record { closing = refl; ahead = refl; works = h.works; at = record { dsa = h.stays.4.dsa; temp = tt; scratcha = tt; scratchb = tt; ssid = tt; sfbr = tt }; linked = h.linked }))
keeps version units (At148 t) c w new word answer e run h = leads version units (At148 t) c w h new word answer run (IsNext (At148 t)) (Running At150) refl (cleared version units (At148 t) c w h new word answer run At150 41 (omega arith) refl refl refl (record { closing = refl; ahead = refl; works = (record { plays = tt; extra = tt }); at = record { dsa = tt; temp = tt; scratcha = tt; scratchb = tt; ssid = tt; sfbr = tt }; linked = tt }))
keeps version units (At1C8 t) c w new word answer e run h = leads version units (At1C8 t) c w h new word answer run (IsNext (At1C8 t)) (Running (At1D0 t)) refl (cleared version units (At1C8 t) c w h new word answer run (At1D0 t) 57 (omega arith) refl refl refl (record { closing = refl; ahead = refl; works = h.works; at = record { dsa = h.stays.4.dsa; temp = tt; scratcha = tt; scratchb = tt; ssid = tt; sfbr = tt }; linked = tt }))
keeps version units (At280 t) c w new word answer e run h = leads version units (At280 t) c w h new word answer run (IsNext (At280 t)) (Running (At288 t)) refl (cleared version units (At280 t) c w h new word answer run (At288 t) 80 (omega arith) refl refl refl (record { closing = refl; ahead = refl; works = h.works; at = record { dsa = h.stays.4.dsa; temp = tt; scratcha = tt; scratchb = tt; ssid = tt; sfbr = tt }; linked = h.linked }))
keeps version units (At278 t) c w new word answer e run h = leads version units (At278 t) c w h new word answer run (IsNext (At278 t)) (Running (At280 t)) refl (sets version units (At278 t) c w h new word answer run (At280 t) 79 (omega arith) refl refl refl (record { closing = refl; ahead = refl; works = h.works; at = record { dsa = h.stays.4.dsa; temp = tt; scratcha = tt; scratchb = tt; ssid = tt; sfbr = tt }; linked = h.linked }))
keeps version units At150 c w new word answer e run h = on-waited version units At150 c w h new word answer run At158 (λ s x. x) (waited version units At150 c w h new word answer run At158 42 (omega arith) refl refl refl refl refl refl refl refl refl (record { plays = tt; extra = tt }) (record { dsa = tt; temp = tt; scratcha = tt; scratchb = tt; ssid = tt; sfbr = tt }))
keeps version units (At1D0 t) c w new word answer e run h = on-waited version units (At1D0 t) c w h new word answer run (At1D8 t) (λ s x. x) (waited version units (At1D0 t) c w h new word answer run (At1D8 t) 58 (omega arith) refl refl refl refl refl refl refl refl refl h.works (record { dsa = h.stays.4.dsa; temp = tt; scratcha = tt; scratchb = tt; ssid = tt; sfbr = tt }))
keeps version units (At1E8 t) c w new word answer e run h = on-waited version units (At1E8 t) c w h new word answer run (At1F0 t) (λ s x. x) (waited version units (At1E8 t) c w h new word answer run (At1F0 t) 61 (omega arith) refl refl refl refl refl refl refl refl refl h.works (record { dsa = h.stays.4.dsa; temp = tt; scratcha = tt; scratchb = tt; ssid = tt; sfbr = tt }))
keeps version units At2A8 c w new word answer e run h = on-waited version units At2A8 c w h new word answer run At2B0 (λ s x. x) (waited version units At2A8 c w h new word answer run At2B0 85 (omega arith) refl refl refl refl refl refl refl refl refl (record { plays = tt; extra = tt }) (record { dsa = tt; temp = tt; scratcha = tt; scratchb = tt; ssid = tt; sfbr = tt }))
keeps version units (At090 t) c w new word answer e run h = on-asked version units (At090 t) c w h new word answer run (At0D8 t) (At098 t) (λ s x. x) (asked version units (At090 t) c w h new word answer run (At0D8 t) (At098 t) 18 0xD8 (condition.Phase true false 7) (omega arith) refl refl refl refl (record { closing = refl; ahead = refl; works = h.works; at = record { dsa = h.stays.4.dsa; temp = tt; scratcha = tt; scratchb = tt; ssid = tt; sfbr = tt }; linked = h.linked }) (record { closing = refl; ahead = refl; works = h.works; at = record { dsa = h.stays.4.dsa; temp = tt; scratcha = tt; scratchb = tt; ssid = tt; sfbr = tt }; linked = h.linked }) refl refl)
keeps version units (At098 t) c w new word answer e run h = on-either version units (At098 t) c w h new word answer run (At0C8 t) (At0A0 t) (λ s x. x) (either version units (At098 t) c w h new word answer run (At0C8 t) (At0A0 t) 19 0xC8 (condition.Phase false false 3) (omega arith) refl refl refl refl (record { closing = refl; ahead = refl; works = h.works; at = record { dsa = h.stays.4.dsa; temp = tt; scratcha = tt; scratchb = tt; ssid = tt; sfbr = tt }; linked = h.linked }) (record { closing = refl; ahead = refl; works = h.works; at = record { dsa = h.stays.4.dsa; temp = tt; scratcha = tt; scratchb = tt; ssid = tt; sfbr = tt }; linked = h.linked }) tt)
keeps version units (At0A0 t) c w new word answer e run h = on-either version units (At0A0 t) c w h new word answer run (At0B8 t) (At0A8 t) (λ s x. x) (either version units (At0A0 t) c w h new word answer run (At0B8 t) (At0A8 t) 20 0xB8 (condition.Phase false false 1) (omega arith) refl refl refl refl (record { closing = refl; ahead = refl; works = h.works; at = record { dsa = h.stays.4.dsa; temp = tt; scratcha = tt; scratchb = tt; ssid = tt; sfbr = tt }; linked = h.linked }) (record { closing = refl; ahead = refl; works = h.works; at = record { dsa = h.stays.4.dsa; temp = tt; scratcha = tt; scratchb = tt; ssid = tt; sfbr = tt }; linked = h.linked }) tt)
keeps version units (At0A8 t) c w new word answer e run h = on-either version units (At0A8 t) c w h new word answer run (At0B8 t) (At0B0 t) (λ s x. x) (either version units (At0A8 t) c w h new word answer run (At0B8 t) (At0B0 t) 21 0xB8 (condition.Phase false false 0) (omega arith) refl refl refl refl (record { closing = refl; ahead = refl; works = h.works; at = record { dsa = h.stays.4.dsa; temp = tt; scratcha = tt; scratchb = tt; ssid = tt; sfbr = tt }; linked = h.linked }) (record { closing = refl; ahead = refl; works = h.works; at = record { dsa = h.stays.4.dsa; temp = tt; scratcha = tt; scratchb = tt; ssid = tt; sfbr = tt }; linked = h.linked }) tt)
keeps version units (At0E0 t) c w new word answer e run h = on-either version units (At0E0 t) c w h new word answer run (At1C8 t) (At0E8 t) (λ s x. x) (either version units (At0E0 t) c w h new word answer run (At1C8 t) (At0E8 t) 28 0x1C8 (condition.Byte false 0 0) (omega arith) refl refl refl refl (record { closing = refl; ahead = refl; works = h.works; at = record { dsa = h.stays.4.dsa; temp = tt; scratcha = tt; scratchb = tt; ssid = tt; sfbr = tt }; linked = h.linked }) (record { closing = refl; ahead = refl; works = h.works; at = record { dsa = h.stays.4.dsa; temp = tt; scratcha = tt; scratchb = tt; ssid = tt; sfbr = tt }; linked = h.linked }) tt)
keeps version units (At0E8 t) c w new word answer e run h = on-either version units (At0E8 t) c w h new word answer run (At108 t) (At0F0 t) (λ s x. x) (either version units (At0E8 t) c w h new word answer run (At108 t) (At0F0 t) 29 0x108 (condition.Byte false 0 2) (omega arith) refl refl refl refl (record { closing = refl; ahead = refl; works = h.works; at = record { dsa = h.stays.4.dsa; temp = tt; scratcha = tt; scratchb = tt; ssid = tt; sfbr = tt }; linked = h.linked }) (record { closing = refl; ahead = refl; works = h.works; at = record { dsa = h.stays.4.dsa; temp = tt; scratcha = tt; scratchb = tt; ssid = tt; sfbr = tt }; linked = h.linked }) tt)
keeps version units (At0F0 t) c w new word answer e run h = on-either version units (At0F0 t) c w h new word answer run (At128 t) (At0F8 t) (λ s x. x) (either version units (At0F0 t) c w h new word answer run (At128 t) (At0F8 t) 30 0x128 (condition.Byte false 0 3) (omega arith) refl refl refl refl (record { closing = refl; ahead = refl; works = h.works; at = record { dsa = h.stays.4.dsa; temp = tt; scratcha = tt; scratchb = tt; ssid = tt; sfbr = tt }; linked = h.linked }) (record { closing = refl; ahead = refl; works = h.works; at = record { dsa = h.stays.4.dsa; temp = tt; scratcha = tt; scratchb = tt; ssid = tt; sfbr = tt }; linked = h.linked }) tt)
keeps version units (At0F8 t) c w new word answer e run h = on-either version units (At0F8 t) c w h new word answer run (At148 t) (At100 t) (λ s x. x) (either version units (At0F8 t) c w h new word answer run (At148 t) (At100 t) 31 0x148 (condition.Byte false 0 4) (omega arith) refl refl refl refl (record { closing = refl; ahead = refl; works = h.works; at = record { dsa = h.stays.4.dsa; temp = tt; scratcha = tt; scratchb = tt; ssid = tt; sfbr = tt }; linked = h.linked }) (record { closing = refl; ahead = refl; works = h.works; at = record { dsa = h.stays.4.dsa; temp = tt; scratcha = tt; scratchb = tt; ssid = tt; sfbr = tt }; linked = h.linked }) tt)
keeps version units (At0B0 t) c w new word answer e run h = leads version units (At0B0 t) c w h new word answer run (IsNext (At0B0 t)) (Broken) refl (let b = stops version units (At0B0 t) c w h new word answer run 22 1 (omega arith) refl refl in breaks version units (At0B0 t) c w h new word answer run (Sir 1) _ b.0 refl refl refl)
keeps version units (At100 t) c w new word answer e run h = leads version units (At100 t) c w h new word answer run (IsNext (At100 t)) (Broken) refl (let b = stops version units (At100 t) c w h new word answer run 32 2 (omega arith) refl refl in breaks version units (At100 t) c w h new word answer run (Sir 2) _ b.0 refl refl refl)
keeps version units At1C0 c w new word answer e run h = leads version units At1C0 c w h new word answer run (IsNext At1C0) (Broken) refl (let b = stops version units At1C0 c w h new word answer run 56 4 (omega arith) refl refl in breaks version units At1C0 c w h new word answer run (Sir 4) _ b.0 refl refl refl)
keeps version units (At2B8 t) c w new word answer e run h = leads version units (At2B8 t) c w h new word answer run (IsNext (At2B8 t)) (Broken) refl (let b = stops version units (At2B8 t) c w h new word answer run 87 6 (omega arith) refl refl in breaks version units (At2B8 t) c w h new word answer run (Sir 6) _ b.0 refl refl refl)
keeps version units At2B0 c w new word answer e run h = leads version units At2B0 c w h new word answer run (IsNext At2B0) (JobOver) refl (let b = stops version units At2B0 c w h new word answer run 86 5 (omega arith) refl refl in lands version units At2B0 c w h new word answer run JobOver (Stopped (Sir 5)) _ b.0 (record {
  closing = refl;
  ahead = refl;
  works = record { plays = tt; extra = tt };
  stays = (refl, h.stays.1, (Sir 5, stopped-for version units At2B0 c w h new word answer run (Sir 5) w.memory _ b.0, refl));
  linked = (ap (λ (b : BusState). b.connected) b.1 ∙ h.linked.0, h.linked.1);
}))
keeps version units At268 c w new word answer e run h = leads version units At268 c w h new word answer run (IsNext At268) (Running At270) refl (let b = interrupts (moves w.desk.units (live w.desk)) (chip_of w) run.end run.chip (record { version = version; k = 77; word = word; stands = stands version units At268 c w h 77 (omega arith) refl; here = refl; ran = run.ran }) in arrives version units At268 c w h new word answer run At270 _ b.ends (record {
  closing = refl;
  ahead = refl;
  works = record { plays = tt; extra = tt };
  running = h.stays.2;
  dsp = past version units At268 c w h new word answer run 77 (omega arith) refl;
  at = record { dsa = tt; temp = tt; scratcha = tt; scratchb = tt; ssid = tt; sfbr = tt };
  linked = (ap (λ (b : BusState). b.connected) b.bus_is ∙ h.linked.0, h.linked.1);
}))
keeps version units At000 c w new word answer e run h =
    let f : Regs = (after_fetch (chip_of w)).regs in
    let b : Becomes (record (after_read 0x1A f) { sfbr = bit_or (byte_at 0x1A f) 0 }) (after_fetch (chip_of w)) run.end run.chip = row version units At000 c w h new word answer run 0 (op.ToSfbr 0x1A change.Or 0) (omega arith) refl refl in
    leads version units At000 c w h new word answer run (IsNext At000) (Running At008) refl (arrives version units At000 c w h new word answer run At008 _ b.ends (record {
      closing = refl;
      ahead = refl;
      works = record { plays = tt; extra = tt };
      running = h.stays.2;
      dsp = past version units At000 c w h new word answer run 0 (omega arith) refl;
      at = record { dsa = tt; temp = tt; scratcha = tt; scratchb = tt; ssid = tt; sfbr = tt };
      linked = (ap (λ (b : BusState). b.connected) b.bus_is ∙ h.linked.0, h.linked.1);
    }))
keeps version units At048 c w new word answer e run h = waits-reselect version units c w h new word answer run
keeps version units _ c w new word answer e run h = absurd cc
