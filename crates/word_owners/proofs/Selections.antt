-- The three SELECTs of the script keep the invariant: the target is selected, another one reselects, or nobody answers.
use Rattle.std.proofs.Common.{◌≡◌, ◌⊎◌, inl, inr, ℕ, pos, ◌+◌, ◌*◌, ◌/◌, ◌%◌, ◌<◌, List, Bool, true, false, ◌&&◌, refl, sym, ap, subst, ◌∙◌, arith, Option, Some, None}
use Rattle.std.specs.Prelude.{is_none, not, option_map}
use Rattle.bench_words.specs.Memory.{word_at}
use Rattle.rig_types.specs.declared.rig.Unit.{Unit as RigUnit}
use Rattle.scripts_ops.specs.declared.values.Op.TheVariants.{Select}
use Rattle.driver_script.specs.Script.{instruction}
use Rattle.chip_regs.specs.Registers.{stop_with}
use Rattle.chip_regs.specs.declared.registers.Cause.TheVariants.{Sto}
use Rattle.chip_regs.specs.declared.registers.Regs.{Regs}
use Rattle.chip_step.specs.Event as event
use Rattle.chip_step.specs.Event.{Event}
use Rattle.chip_step.specs.Addresses.{place_of}
use Rattle.chip_step.specs.Chip.{Chip, Ends, Stops}
use Rattle.chip_step.specs.Connection.{Selects, SelectsBy, SettlesAs, with_table, reselected_by}
use Rattle.chip_step.specs.Step.{after_fetch}
use Rattle.chip_step.specs.declared.scsi_bus.Settled.{Settled}
use Rattle.chip_step.specs.declared.scsi_bus.Settled.TheVariants.{Selected, Reselected, TimedOut as Silent}
use Rattle.chip_step.specs.declared.outcome.StepEnd.{StepEnd}
use Rattle.chip_step.specs.declared.outcome.StepEnd.TheVariants.{Ran, Stopped}
use Rattle.chip_rows.proofs.Words as rows
use Rattle.bus_law.specs.Bus.{BusState}
use Rattle.bus_law.specs.Moves.{moves}
use Rattle.bus_law.specs.Reselections.{Candidate, calls, all_candidates, candidate_named, can_select, settles, after_selection, target_of as target_named}
use Rattle.bus_law.proofs.Connections.{connects}
use Rattle.ownership.specs.Words.{IsHead}
use Rattle.world_law.specs.declared.reply.Reply.{Reply}
use Rattle.world_law.specs.World.{World, live}
use Rattle.world_law.specs.ChipSteps.{chip_of, RunsChip}
use Rattle.word_owners.specs.Answering.{AreAnswering}
use Rattle.word_owners.specs.Tickets.{tickets_of, block_of, target_of, IsLive}
use Rattle.word_owners.specs.Points.{Point, about, At050, At060, At068, At298, At2A0, At440, At448}
use Rattle.word_owners.specs.Parts.{Counts, IsThere}
use Rattle.word_owners.specs.Holds.{Spot, Holds, Running, TimedOut, JobOver}
use Rattle.word_owners.specs.Nexts.{IsNext}
use Rattle.word_owners.proofs.PointGroups.{SelectsHold}
use Rattle.word_owners.proofs.BlockLoads.{head-block, head-at}
use Rattle.word_owners.proofs.BusCalls.{Still, both-true, id-below, when_false}
use Rattle.word_owners.proofs.ChipSteps.{arrives, lands, leads, past, row, stopped-for}
use Rattle.word_owners.proofs.Frames.{active-live}

-- ---- what the answer of the bus tells

selected-there : (o : Option Candidate) (there : Bool) → Selected ≡ settles o there → there ≡ true
selected-there (Some c) there e = absurd cc
selected-there None true e = refl
selected-there None false e = absurd cc

silent-none : (o : Option Candidate) (there : Bool) (id word : ℕ) (b : BusState) → Silent ≡ settles o there → (there ≡ false) × (after_selection o there id word b ≡ b)
silent-none (Some c) there id word b e = absurd cc
silent-none None true id word b e = absurd cc
silent-none None false id word b e = (refl, refl)

comes-from : (o : Option Candidate) (there : Bool) (r : ℕ) → Reselected r ≡ settles o there → Some r ≡ option_map target_named o
comes-from (Some c) there r e = let z : r ≡ c.target = cc in ap (λ (i : ℕ). Some i) z
comes-from None true r e = absurd cc
comes-from None false r e = absurd cc

last-true : (a b : Bool) → a && b ≡ true → b ≡ true
last-true true b e = e
last-true false b e = absurd cc

not-true : (a b : Bool) → a ≡ not b → a ≡ true → b ≡ false
not-true a true e f = let z : false ≡ true = sym e ∙ f in absurd cc
not-true a false e f = refl

is-true : (a b : Bool) → a ≡ not b → b ≡ false → a ≡ true
is-true a true e f = absurd cc
is-true a false e f = e

of-still : (b n : BusState) (x : ℕ) → b.connected ≡ Some x → Still b n → (n.connected ≡ Some x) ⊎ (n.connected ≡ None)
of-still b n x e (inl s) = inl (s ∙ e)
of-still b n x e (inr s) = inr s

-- a selection of a target by the table word of a block comes to one of three
data Settles (target : ℕ) (v : ℕ) (f : Regs) (w : World) (end : StepEnd) (new : Chip BusState) : Type 0 where
  chosen : Ends Ran w.memory (record (with_table v f) { con = true }) end new → (new.bus.connected ≡ Some target) ⊎ (new.bus.connected ≡ None) → can_select w.bus target ≡ true → Settles target v f w end new
  called : (r : ℕ) → r < 8 → new.bus.connected ≡ Some r → Ends Ran w.memory (record (reselected_by r (with_table v f)) { dsp = 0x50 }) end new → Settles target v f w end new
  silent : Ends (Stopped Sto) w.memory (stop_with Sto (with_table v f)) end new → can_select w.bus target ≡ false → new.bus ≡ w.bus → Settles target v f w end new

module _ (version : ℕ) (units : List RigUnit) (p : Point) (c : Counts) (w : World) (h : Holds version units (Running p) c w) (new : World) (word : ℕ) (answer : Reply) (run : RunsChip w word answer new) where
  abbrev f : Regs
  f = (after_fetch (chip_of w)).regs

  abbrev bus_moves : BusState → Event → BusState → Type 0
  bus_moves = moves w.desk.units (live w.desk)

  settled : (s : Settled) (v : ℕ) → SettlesAs bus_moves word s 0x50 (with_table v f) (after_fetch (chip_of w)) run.end run.chip → Settles (v / 65536 % 256) v f w run.end run.chip
  settled Selected v d =
      let x : ℕ = v / 65536 % 256 in
      let mid : d.0.connected ≡ Some x = connects w.desk.units (live w.desk) w.bus (event.Select x word Selected) d.0 d.1 in
      chosen d.3 (of-still d.0 run.chip.bus x mid (connects w.desk.units (live w.desk) d.0 (event.SetAtn true) run.chip.bus d.2)) (selected-there (candidate_named w.desk.units w.bus word) (can_select w.bus x) d.1.0)
  settled (Reselected r) v d =
      let x : ℕ = v / 65536 % 256 in
      called r (id-below (calls w.bus word) (all_candidates w.desk.units w.bus) word r (comes-from (candidate_named w.desk.units w.bus word) (can_select w.bus x) r d.0.0))
      (connects w.desk.units (live w.desk) w.bus (event.Select x word (Reselected r)) run.chip.bus d.0) d.1
  settled Silent v d =
      let x : ℕ = v / 65536 % 256 in
      let z = silent-none (candidate_named w.desk.units w.bus word) (can_select w.bus x) x word w.bus d.0.0 in
      silent d.1 z.0 (d.0.1 ∙ z.1)

  by-place : (o : Option ℕ) (e : ℕ) → o ≡ Some e → SelectsBy bus_moves word o 0x50 (after_fetch (chip_of w)) run.end run.chip → Settles (word_at w.memory e / 65536 % 256) (word_at w.memory e) f w run.end run.chip
  by-place None e q d = absurd cc
  by-place (Some i) e q d =
      let z : i ≡ e = cc in
      subst (λ (j : ℕ). Settles (word_at w.memory j / 65536 % 256) (word_at w.memory j) f w run.end run.chip) z (settled d.0 (word_at w.memory i) d.1)

  selects : (k : ℕ) → k < 151 → (about p).place ≡ 8 * k → instruction k version ≡ Select (pos 0x18) 0x50 → IsHead w.regs.dsa → w.regs.con ≡ false
      → Settles (word_at w.memory (w.regs.dsa + 0x18) / 65536 % 256) (word_at w.memory (w.regs.dsa + 0x18)) f w run.end run.chip
  selects k inside from here head con =
      let d : Selects bus_moves word (pos 0x18) 0x50 (after_fetch (chip_of w)) run.end run.chip = row version units p c w h new word answer run k (Select (pos 0x18) 0x50) inside from here in
      let at : place_of w.memory w.regs.dsa (pos 0x18) 4 ≡ Some (w.regs.dsa + 0x18) = (rows.finds_words.from_dsa w.memory w.regs.dsa 0x18 (omega (arith, head.aligned)) (omega (arith, h.size, head.inside))).at in
      by-place (place_of w.memory w.regs.dsa (pos 0x18) 4) (w.regs.dsa + 0x18) at
      (when_false (Stops _ (after_fetch (chip_of w)) run.end run.chip) (SelectsBy bus_moves word (place_of w.memory w.regs.dsa (pos 0x18) 4) 0x50 (after_fetch (chip_of w)) run.end run.chip) w.regs.con con d)

  -- a target has reselected
  comes : (r : ℕ) (v : ℕ) → (about p).closing ≡ None → (about p).ahead ≡ 0 → r < 8 → run.chip.bus.connected ≡ Some r → Ends Ran w.memory (record (reselected_by r (with_table v f)) { dsp = 0x50 }) run.end run.chip → Holds version units (Running (At050 r)) c new
  comes r v closing ahead l on e = arrives version units p c w h new word answer run (At050 r) (record (reselected_by r (with_table v f)) { dsp = 0x50 }) e (record {
    closing = closing;
    ahead = ahead;
    works = record { plays = tt; extra = l };
    running = h.stays.2;
    dsp = refl;
    at = record { dsa = tt; temp = tt; scratcha = tt; scratchb = tt; ssid = refl; sfbr = tt };
    linked = inl on;
  })

-- ---- a ticket's unit

module _ (version : ℕ) (units : List RigUnit) (s : Spot) (c : Counts) (w : World) (h : Holds version units s c w) (a : AreAnswering units w.bus) (t : ℕ) (live : IsLive ((tickets_of w.desk).stage t)) where
  answering : AreAnswering (tickets_of w.desk).units w.bus
  answering = subst (λ (us : List RigUnit). AreAnswering us w.bus) (sym h.units_are) a

  target-named : (v : ℕ) → v ≡ target_of (tickets_of w.desk) t * 0x10000 → v / 65536 % 256 ≡ target_of (tickets_of w.desk) t
  target-named v e = let l : target_of (tickets_of w.desk) t < 7 = answering.target ((tickets_of w.desk).fixed t).unit (h.tickets.unit t live) in omega (arith, e, l)

  there-if : can_select w.bus (target_of (tickets_of w.desk) t) ≡ true → IsThere (tickets_of w.desk) t
  there-if e = not-true _ _ (answering.answering ((tickets_of w.desk).fixed t).unit (h.tickets.unit t live)) (last-true _ _ e)

  not-silent : w.bus.connected ≡ None → IsThere (tickets_of w.desk) t → can_select w.bus (target_of (tickets_of w.desk) t) ≡ false → ⊥
  not-silent free there e =
      let z : can_select w.bus (target_of (tickets_of w.desk) t) ≡ true =
      both-true _ _ (ap (λ (o : Option ℕ). is_none o) free) (is-true _ _ (answering.answering ((tickets_of w.desk).fixed t).unit (h.tickets.unit t live)) there) in
      let y : false ≡ true = sym e ∙ z in absurd cc

pub keeps : SelectsHold
unfolding instruction
keeps version units (At060 t) c w new word answer e a run h =
    let ts = tickets_of w.desk in
    let live = active-live (ts.stage t) (inl h.works.plays.2.stage) in
    let v : ℕ = word_at w.memory (w.regs.dsa + 0x18) in
    let sel : v ≡ target_of ts t * 0x10000 = ap (λ (i : ℕ). word_at w.memory (i + 0x18)) h.stays.4.dsa ∙ (h.parts.blocks t live).sel in
    let to = target-named version units (Running (At060 t)) c w h a t live v sel in
    elim (selects version units (At060 t) c w h new word answer run 12 (omega arith) refl refl (head-block w.regs.dsa (block_of ts t) h.stays.4.dsa (h.tickets.block t live)) h.linked.1) [
      | chosen i on can ↦ leads version units (At060 t) c w h new word answer run (IsNext (At060 t)) (Running (At068 t)) (inl refl)
          (arrives version units (At060 t) c w h new word answer run (At068 t) _ i (record {
            closing = refl;
            ahead = refl;
            works = record { plays = h.works.plays; extra = there-if version units (Running (At060 t)) c w h a t live (subst (λ (j : ℕ). can_select w.bus j ≡ true) to can) };
            running = h.stays.2;
            dsp = past version units (At060 t) c w h new word answer run 12 (omega arith) refl;
            at = record { dsa = h.stays.4.dsa; temp = tt; scratcha = tt; scratchb = h.stays.4.scratchb; ssid = tt; sfbr = tt };
            linked = elim on [ inl j ↦ inl (j ∙ ap (λ (k : ℕ). Some k) to) | inr j ↦ inr j ];
          }))
      | called r l on i ↦ leads version units (At060 t) c w h new word answer run (IsNext (At060 t)) (Running (At050 r)) (inr (inl (r, refl))) (comes version units (At060 t) c w h new word answer run r v refl refl l on i)
      | silent i gone same ↦ leads version units (At060 t) c w h new word answer run (IsNext (At060 t)) (TimedOut t) (inr (inr refl))
          (lands version units (At060 t) c w h new word answer run (TimedOut t) (Stopped Sto) _ i (record {
            closing = refl;
            ahead = refl;
            works = h.works;
            stays = (refl, h.stays.1, stopped-for version units (At060 t) c w h new word answer run Sto w.memory _ i, h.stays.4.dsa, h.stays.4.scratchb);
            linked = (ap (λ (b : BusState). b.connected) same ∙ h.linked.0, h.linked.1);
          }))
    ]
keeps version units At298 c w new word answer e a run h =
    elim (selects version units At298 c w h new word answer run 83 (omega arith) refl refl (head-at w.regs.dsa 0x1800 h.stays.4.dsa refl (omega arith)) h.linked.1) [
      | chosen i on can ↦ leads version units At298 c w h new word answer run (IsNext At298) (Running At2A0) (inl refl)
          (arrives version units At298 c w h new word answer run At2A0 _ i (record {
            closing = refl;
            ahead = refl;
            works = record { plays = tt; extra = tt };
            running = h.stays.2;
            dsp = past version units At298 c w h new word answer run 83 (omega arith) refl;
            at = record { dsa = h.stays.4.dsa; temp = tt; scratcha = tt; scratchb = tt; ssid = tt; sfbr = tt };
            linked = tt;
          }))
      | called r l on i ↦ leads version units At298 c w h new word answer run (IsNext At298) (Running (At050 r)) (inr (inl (r, refl))) (comes version units At298 c w h new word answer run r _ refl refl l on i)
      | silent i gone same ↦ leads version units At298 c w h new word answer run (IsNext At298) JobOver (inr (inr refl))
          (lands version units At298 c w h new word answer run JobOver (Stopped Sto) _ i (record {
            closing = refl;
            ahead = refl;
            works = record { plays = tt; extra = tt };
            stays = (refl, h.stays.1, (Sto, stopped-for version units At298 c w h new word answer run Sto w.memory _ i, h.stays.4.dsa));
            linked = (ap (λ (b : BusState). b.connected) same ∙ h.linked.0, h.linked.1);
          }))
    ]
keeps version units (At440 t) c w new word answer e a run h =
    let ts = tickets_of w.desk in
    let live = active-live (ts.stage t) (inr h.works.plays.0.stage) in
    let v : ℕ = word_at w.memory (w.regs.dsa + 0x18) in
    let sel : v ≡ target_of ts t * 0x10000 = ap (λ (i : ℕ). word_at w.memory (i + 0x18)) h.stays.4.dsa ∙ (h.parts.blocks t live).sel in
    let to = target-named version units (Running (At440 t)) c w h a t live v sel in
    elim (selects version units (At440 t) c w h new word answer run 136 (omega arith) refl refl (head-block w.regs.dsa (block_of ts t) h.stays.4.dsa (h.tickets.block t live)) h.linked.1) [
      | chosen i on can ↦ leads version units (At440 t) c w h new word answer run (IsNext (At440 t)) (Running (At448 t)) (inl refl)
          (arrives version units (At440 t) c w h new word answer run (At448 t) _ i (record {
            closing = refl;
            ahead = refl;
            works = h.works;
            running = h.stays.2;
            dsp = past version units (At440 t) c w h new word answer run 136 (omega arith) refl;
            at = record { dsa = h.stays.4.dsa; temp = tt; scratcha = tt; scratchb = tt; ssid = tt; sfbr = tt };
            linked = elim on [ inl j ↦ inl (j ∙ ap (λ (k : ℕ). Some k) to) | inr j ↦ inr j ];
          }))
      | called r l on i ↦ leads version units (At440 t) c w h new word answer run (IsNext (At440 t)) (Running (At050 r)) (inr (r, refl)) (comes version units (At440 t) c w h new word answer run r v refl refl l on i)
      | silent i gone same ↦ absurd (not-silent version units (Running (At440 t)) c w h a t live h.linked.0 h.works.plays.1 (subst (λ (j : ℕ). can_select w.bus j ≡ false) to gone))
    ]
keeps version units _ c w new word answer e a run h = absurd cc
