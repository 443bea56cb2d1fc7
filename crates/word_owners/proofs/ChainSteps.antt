-- The steps of a reselection from the target's number to the unit, by the chains.
use Rattle.std.proofs.Common.{◌≡◌, ◌⊎◌, inl, inr, ℕ, zero, suc, ◌+◌, ◌-◌, ◌*◌, ◌%◌, ◌<◌, ◌≤◌, List, length, [], ◌∷◌, ◌++◌, Bool, true, false, ◌&&◌, nat_eq, nat_le, Option, Some, None, refl, sym, ap, subst, ◌∙◌, arith, bit_and, lit<, map, ◌/◌, length-append}
use Rattle.std.specs.Prelude.{if◌then◌else◌, slice_index_or}
use Rattle.std.proofs.lemmas.Bool.Decides.{nat_tests}
use Rattle.std.proofs.lemmas.Nat.{and_mask}
use Rattle.bench_words.specs.Memory.{word_at}
use Rattle.rig_types.specs.declared.rig.Unit.{Unit as RigUnit}
use Rattle.host_map.specs.declared.TheConstants.{CHAINS, MSGIN}
use Rattle.host_map.specs.Places.{target_chain, unit_chain}
use Rattle.scripts_ops.specs.Table.{row as table_row, Spelled}
use Rattle.scripts_ops.specs.declared.values.Op.{Op}
use Rattle.scripts_ops.specs.declared.values.Op.TheVariants.{Move, Jump, Int, ToSfbr, Load, Nop}
use Rattle.scripts_ops.specs.declared.values.Address.TheVariants.{At}
use Rattle.scripts_ops.specs.declared.values.Change.TheVariants.{And}
use Rattle.scripts_ops.specs.declared.values.Condition.TheVariants.{Always, Byte}
use Rattle.driver_script.specs.Script.{instruction}
use Rattle.phase_fix.specs.declared.moves.DataMove.{DataMove}
use Rattle.phase_fix.specs.declared.moves.DataPhase.TheVariants.{In, Out}
use Rattle.phase_fix.specs.declared.moves.Entry.TheVariants.{Segment, Context}
use Rattle.phase_fix.specs.declared.moves.Entry.{Entry}
use Rattle.phase_fix.specs.declared.moves.DataPhase.{DataPhase}
use Rattle.phase_fix.specs.Moves.{move_at, IsEntry}
use Rattle.phase_fix.proofs.MoveLaws.{entry_place, move_stands}
use Rattle.rig_chains.specs.Chains.{has_target, jump_if, targets, target_ops, identify_ops, lun_jumps, lun_ops, unit_ops, Spells}
use Rattle.rig_chains.proofs.ChainLaws.{target_ops-most, lun_ops-most}
use Rattle.chip_regs.specs.Bytes.{Dsa, holding}
use Rattle.chip_regs.specs.Registers.{byte_at, is_stopped, stop_with}
use Rattle.chip_regs.specs.declared.registers.Regs.{Regs}
use Rattle.chip_regs.specs.declared.registers.Cause.TheVariants.{Ma, Sir}
use Rattle.chip_step.specs.Chip.{Chip, Becomes, Ends}
use Rattle.chip_step.specs.Instructions.{Does}
use Rattle.chip_step.specs.Step.{ChipStep, after_fetch, can_fetch, has_third, len_of, third_at, IsAt}
use Rattle.chip_step.specs.Transfers.{Transfers, TransfersAt, is_byte, unless_not}
use Rattle.chip_step.specs.declared.outcome.StepEnd.{StepEnd}
use Rattle.chip_step.specs.declared.outcome.StepEnd.TheVariants.{Ran, Stopped}
use Rattle.chip_step.proofs.Made.{ChipStep-does}
use Rattle.chip_rows.proofs.Words as rows
use Rattle.chip_rows.proofs.StepWrites.{runs_on}
use Rattle.bus_law.specs.Bus.{BusState}
use Rattle.bus_law.specs.Moves.{moves}
use Rattle.desk_law.specs.Desk.{no_unit}
use Rattle.world_law.specs.declared.reply.Reply.{Reply}
use Rattle.world_law.specs.declared.reply.Stop.TheVariants as stop
use Rattle.world_law.specs.World.{World, live}
use Rattle.world_law.specs.ChipSteps.{chip_of, stop_for, RunsChip}
use Rattle.word_owners.specs.Tickets.{tickets_of}
use Rattle.word_owners.specs.Points.{Point, about, Link, OfTarget, At050, At058, At160, InTargets, InLuns, AtUnit, BehindUnit}
use Rattle.word_owners.specs.Parts.{Counts}
use Rattle.word_owners.specs.Works.{Works}
use Rattle.word_owners.specs.Holds.{Holds, Running, NotData, Broken, AtPoint, Linked}
use Rattle.word_owners.specs.Nexts.{IsNext, Leads}
use Rattle.word_owners.proofs.BlockMoves.{refused, broke, whole, moves_direct}
use Rattle.word_owners.proofs.BusCalls.{linked-still}
use Rattle.word_owners.proofs.ChainOps.{jumps, stops, JumpsToTarget, JumpsToUnit, target-op, lun-op}
use Rattle.word_owners.proofs.ChipSteps.{arrives, breaks, ended, jumped, leads, linked-con, past, row, stopped-for}
use Rattle.word_owners.proofs.MessageMoves.{spared, sparing-msgin}
use Rattle.word_owners.proofs.PointGroups.{StepsHold}
use Rattle.word_owners.proofs.PointGroups.{of_chains}

-- ---- bytes

-- SSID says which target reselected
number-of : (r : ℕ) → r < 8 → bit_and (128 + r) 7 ≡ r
number-of r h = let e : bit_and (128 + r) 7 ≡ (128 + r) % 8 = and_mask (128 + r) 3 in omega (arith, e)

-- a byte that is compared whole
same-byte : (v r : ℕ) → r < 256 → is_byte 0 v r ≡ true → v ≡ r
same-byte v r h e = let m : bit_and r 255 ≡ r % 256 = and_mask r 8 in let f : bit_and r 255 ≡ v = grind (arith, nat_tests, e) in omega (arith, m, f)

both-same : (a b c d : ℕ) → nat_eq a b && nat_eq c d ≡ true → (a ≡ b) × (c ≡ d)
both-same a b c d h = (grind (arith, nat_tests), grind (arith, nat_tests))

-- ---- no data move stands in the chains

low-entry : (phase : DataPhase) (e : Entry) → IsEntry e → entry_place phase e < 0x1000
low-entry In (Segment j) h = omega arith
low-entry In (Context k) h = omega arith
low-entry Out (Segment j) h = omega arith
low-entry Out (Context k) h = omega arith

none-from : (a : ℕ) (o : Option DataMove) → ((x : DataMove) → o ≡ Some x → a < 0x1000) → 0x1000 ≤ a → o ≡ None
none-from a None h l = refl
none-from a (Some x) h l = absurd (omega (arith, h x refl, l))

no-move : (a : ℕ) → 0x1000 ≤ a → move_at a ≡ None
no-move a l = none-from a (move_at a) (λ x e. let s = move_stands a x e in let k = low-entry x.phase x.entry s.0 in omega (arith, s.1, k)) l

-- ---- an instruction of a chain

len-most : (b : Bool) (n : ℕ) → n + 12 ≤ 0x400000 → nat_le (n + (if b then 12 else 8)) 0x400000 ≡ true
len-most true n h = grind (arith, nat_tests)
len-most false n h = grind (arith, nat_tests)

fetches : (m : List ℕ) (r : Regs) (a : ℕ) → length m ≡ 0x400000 → r.dsp ≡ a → a % 4 ≡ 0 → a + 12 ≤ 0x400000 → can_fetch m r ≡ true
fetches m r a s e al h =
    let x : nat_eq (r.dsp % 4) 0 ≡ true = grind (arith, nat_tests) in
    let y : nat_le (r.dsp + 8) 0x400000 ≡ true = grind (arith, nat_tests) in
    let z : nat_le (r.dsp + len_of (word_at m r.dsp)) 0x400000 ≡ true = len-most (has_third (word_at m r.dsp)) r.dsp (omega arith) in
    rw (s, x, y, z) refl

-- instruction j of these from address a on
pub record IsAtChain (p : Point) (a : ℕ) (ops : List Op) (j : ℕ) (op : Op) (w : World) : Type 0 where
  pub spells : Spells (word_at w.memory) a ops
  pub inside : j < length ops
  pub is : slice_index_or ops j Nop ≡ op
  pub place : (about p).place ≡ a + 8 * j
  pub aligned : a % 4 ≡ 0
  pub from : 0x8000 ≤ a
  pub below : a + 8 * j < 0x9000
  pub two : has_third (table_row op).first ≡ false

module _ (version : ℕ) (units : List RigUnit) (p : Point) (c : Counts) (w : World) (h : Holds version units (Running p) c w) (new : World) (word : ℕ) (answer : Reply) (run : RunsChip w word answer new) (a : ℕ) (ops : List Op) (j : ℕ) (op : Op) (i : IsAtChain p a ops j op w) where
  abbrev f : Regs
  f = (after_fetch (chip_of w)).regs

  dsp-is : w.regs.dsp ≡ a + 8 * j
  dsp-is = h.stays.3 ∙ i.place

  pub stands-here : IsAt (chip_of w) op
  stands-here =
      let z : ℕ = third_at w.memory w.regs in
      subst (λ (o : Op). IsAt (chip_of w) o) i.is
      (subst (λ (d : ℕ). Spelled (word_at w.memory d) (word_at w.memory (d + 4)) z (slice_index_or ops j Nop)) (sym dsp-is) (i.spells.at j z i.inside))

  pub does-here : Does (moves w.desk.units (live w.desk)) word op (chip_of w) (after_fetch (chip_of w)) run.end run.chip
  does-here = ChipStep-does (moves w.desk.units (live w.desk)) word (chip_of w) run.end run.chip op h.stays.2 (fetches w.memory w.regs (a + 8 * j) h.size dsp-is (omega (arith, i.aligned)) (omega (arith, i.below))) stands-here run.ran

  behind-here : f.dsp ≡ a + 8 * j + 8
  behind-here = let e : word_at w.memory w.regs.dsp ≡ (table_row op).first = stands-here.first in rw (e, i.two) (ap (λ (d : ℕ). d + 8) dsp-is)

  -- registers alone change
  record To (q : Point) (r : Regs) : Type 0 where
    closing : (about p).closing ≡ (about q).closing
    ahead : (about p).ahead ≡ (about q).ahead
    link : (about q).link ≡ (about p).link
    con : r.con ≡ w.regs.con
    running : is_stopped r ≡ is_stopped w.regs
    dsp : r.dsp ≡ (about q).place
    works : Works (about q).work (word_at w.memory) (tickets_of w.desk) c
    at : AtPoint q (tickets_of w.desk) c r

  goes-to : (q : Point) (r : Regs) → run.chip.bus ≡ w.bus → Ends Ran w.memory r run.end run.chip → To q r → Holds version units (Running q) c new
  goes-to q r b e x = arrives version units p c w h new word answer run q r e (record {
    closing = x.closing;
    ahead = x.ahead;
    works = x.works;
    running = x.running ∙ h.stays.2;
    dsp = x.dsp;
    at = x.at;
    linked = subst (λ (y : BusState). Linked (about q).link (tickets_of w.desk) y r) (sym b) (linked-con (about q).link (tickets_of w.desk) w.bus w.regs r x.con (subst (λ (l : Link). Linked l (tickets_of w.desk) w.bus w.regs) (sym x.link) h.linked));
  })

-- a transfer by a byte
by-test : (o : Option Bool) (d : Bool) (how : StepEnd) (r : Regs) (old : Chip BusState) (end : StepEnd) (new : Chip BusState) → o ≡ Some d → TransfersAt o how r old end new → (((d ≡ true) × Ends how old.memory r end new) ⊎ ((d ≡ false) × Ends Ran old.memory old.regs end new))
by-test None d how r old end new e t = absurd cc
by-test (Some true) d how r old end new e t = let z : true ≡ d = cc in inl (sym z, t)
by-test (Some false) d how r old end new e t = let z : false ≡ d = cc in inr (sym z, t)

some-targets : (us : List RigUnit) → 0 < length (target_ops us)
some-targets us = omega (arith, length-append (map (λ (t : ℕ). jump_if t (target_chain t)) (targets us)) (Int Always 0x0A ∷ []))

pub jump-two : (v to : ℕ) → v < 8 → has_third (table_row (jump_if v to)).first ≡ false
jump-two v to h =
    let e : (table_row (jump_if v to)).first / 16777216 ≡ 128 = omega arith in
    let f : nat_eq ((table_row (jump_if v to)).first / 16777216) 0xc0 ≡ false = grind (arith, nat_tests) in
    rw f refl

module _ (version : ℕ) (units : List RigUnit) (c : Counts) (w new : World) (word : ℕ) (answer : Reply) (run : RunsChip w word answer new) where
  abbrev us : List RigUnit
  us = (tickets_of w.desk).units

  abbrev g : Regs
  g = (after_fetch (chip_of w)).regs

  -- ---- the chain of the targets

  module _ (r j : ℕ) (h : Holds version units (Running (InTargets r j)) c w) where
    pub in-targets : (op : Op) → slice_index_or (target_ops us) j Nop ≡ op → has_third (table_row op).first ≡ false → IsAtChain (InTargets r j) CHAINS (target_ops us) j op w
    in-targets op e two =
        let m = target_ops-most us in
        record { spells = h.parts.chains.targets_laid; inside = h.works.extra.1; is = e; place = refl; aligned = refl; from = omega arith; below = omega (arith, m, h.works.extra.1); two = two }

    target-jump : (x : JumpsToTarget us (slice_index_or (target_ops us) j Nop)) → j + 1 < length (target_ops us) → Leads (IsNext (InTargets r j)) version units c new
    target-jump x more =
        let op = jump_if x.target (target_chain x.target) in
        let i = in-targets op x.is (jump-two x.target (target_chain x.target) x.below) in
        let d : Transfers (moves w.desk.units (live w.desk)) word (Byte false 0 x.target) Ran (record g { dsp = target_chain x.target }) (after_fetch (chip_of w)) run.end run.chip =
        does-here version units (InTargets r j) c w h new word answer run CHAINS (target_ops us) j op i in
        let past-it = behind-here version units (InTargets r j) c w h new word answer run CHAINS (target_ops us) j op i in
        elim (by-test d.decision (is_byte 0 x.target w.regs.sfbr) Ran (record g { dsp = target_chain x.target }) (after_fetch (chip_of w)) run.end run.chip d.decides.0 d.transfers) [
          | inl k ↦
              let same : x.target ≡ r = same-byte x.target r (omega (arith, h.works.extra.0)) (subst (λ (y : ℕ). is_byte 0 x.target y ≡ true) h.stays.4.sfbr k.0) in
              let has : has_target us r ≡ true = subst (λ (y : ℕ). has_target us y ≡ true) same x.has in
              leads version units (InTargets r j) c w h new word answer run (IsNext (InTargets r j)) (Running (InLuns r 0)) (inl refl)
              (goes-to version units (InTargets r j) c w h new word answer run CHAINS (target_ops us) j op i (InLuns r 0) (record g { dsp = target_chain x.target }) d.decides.1 k.1 (record {
                closing = refl;
                ahead = refl;
                link = refl;
                con = refl;
                running = refl;
                dsp = omega (arith, same);
                works = record { plays = tt; extra = (h.works.extra.0, has, omega (arith, length-append identify_ops (lun_jumps us r ++ Int Always 9 ∷ []))) };
                at = record { dsa = tt; temp = tt; scratcha = tt; scratchb = tt; ssid = tt; sfbr = tt };
              }))
          | inr k ↦
              leads version units (InTargets r j) c w h new word answer run (IsNext (InTargets r j)) (Running (InTargets r (j + 1))) (inr (inl refl))
              (goes-to version units (InTargets r j) c w h new word answer run CHAINS (target_ops us) j op i (InTargets r (j + 1)) g d.decides.1 k.1 (record {
                closing = refl;
                ahead = refl;
                link = refl;
                con = refl;
                running = refl;
                dsp = omega (arith, past-it);
                works = record { plays = tt; extra = (h.works.extra.0, more) };
                at = record { dsa = tt; temp = tt; scratcha = tt; scratchb = tt; ssid = tt; sfbr = h.stays.4.sfbr };
              }))
        ]

    target-stop : slice_index_or (target_ops us) j Nop ≡ Int Always 0x0A → Leads (IsNext (InTargets r j)) version units c new
    target-stop e =
        let i = in-targets (Int Always 0x0A) e refl in
        let d : Transfers (moves w.desk.units (live w.desk)) word Always (Stopped (Sir 0x0A)) (stop_with (Sir 0x0A) g) (after_fetch (chip_of w)) run.end run.chip =
        does-here version units (InTargets r j) c w h new word answer run CHAINS (target_ops us) j (Int Always 0x0A) i in
        elim (by-test d.decision true (Stopped (Sir 0x0A)) (stop_with (Sir 0x0A) g) (after_fetch (chip_of w)) run.end run.chip d.decides.0 d.transfers) [
          | inl k ↦ leads version units (InTargets r j) c w h new word answer run (IsNext (InTargets r j)) Broken (inr (inr refl))
              (breaks version units (InTargets r j) c w h new word answer run (Sir 0x0A) (stop_with (Sir 0x0A) g) k.1 refl refl refl)
          | inr k ↦ let z : true ≡ false = k.0 in absurd cc
        ]

    target-step : Leads (IsNext (InTargets r j)) version units c new
    target-step = elim (target-op us j h.works.extra.1) [ jumps x more ↦ target-jump x more | stops e ↦ target-stop e ]

  -- ---- the chain of a target

  module _ (r j : ℕ) (h : Holds version units (Running (InLuns r j)) c w) where
    pub in-luns : (op : Op) → slice_index_or (lun_ops us r) j Nop ≡ op → has_third (table_row op).first ≡ false → IsAtChain (InLuns r j) (target_chain r) (lun_ops us r) j op w
    in-luns op e two =
        let m = lun_ops-most us r in
        record {
          spells = h.parts.chains.luns_laid r h.works.extra.0 h.works.extra.1;
          inside = h.works.extra.2;
          is = e;
          place = refl;
          aligned = omega arith;
          from = omega arith;
          below = omega (arith, m, h.works.extra.0, h.works.extra.2);
          two = two;
        }

    unheld : (x : Regs) → AtPoint (InLuns r (j + 1)) (tickets_of w.desk) c x
    unheld x = record { dsa = tt; temp = tt; scratcha = tt; scratchb = tt; ssid = tt; sfbr = tt }

    -- IDENTIFY comes, the move is broken off, or it can't be made
    identify-came : slice_index_or (lun_ops us r) j Nop ≡ Move 1 MSGIN 7 → j + 1 < length (lun_ops us r) → Leads (IsNext (InLuns r j)) version units c new
    identify-came e more =
        let op = Move 1 MSGIN 7 in
        let i = in-luns op e refl in
        let past-it = behind-here version units (InLuns r j) c w h new word answer run (target_chain r) (lun_ops us r) j op i in
        let m = moves_direct w.desk.units (live w.desk) word 1 0x1010 7 (after_fetch (chip_of w)) run.end run.chip (does-here version units (InLuns r j) c w h new word answer run (target_chain r) (lun_ops us r) j op i) in
        elim m [
          | refused cause must end memory ↦ leads version units (InLuns r j) c w h new word answer run (IsNext (InLuns r j)) Broken (inr (inr (inr refl)))
              (breaks version units (InLuns r j) c w h new word answer run cause run.chip.regs (record { is = end; memory_is = memory; regs_are = refl }) must refl refl)
          | broke left some most fits filled end dbc dsp dsa still who ↦
              let z = sparing-msgin w.memory run.chip.memory (tickets_of w.desk) h.tickets (0x1010 + (1 - left)) (omega arith) filled in
              let d : run.chip.regs.dsp - 8 ≡ target_chain r + 8 * j = omega (arith, dsp, past-it) in
              let ends : Ends (Stopped Ma) run.chip.memory run.chip.regs run.end run.chip = record { is = end; memory_is = refl; regs_are = refl } in
              leads version units (InLuns r j) c w h new word answer run (IsNext (InLuns r j)) NotData (inr (inr (inl refl)))
              (subst (Holds version units NotData c) (sym (ended version units (InLuns r j) c w h new word answer run (Stopped Ma) run.chip.memory run.chip.regs ends))
              (spared version units (InLuns r j) c w h new word answer run NotData stop.Mismatch run.chip.memory run.chip.regs run.chip.bus z filled.size (filled.bytes h.bytes) refl refl (record { plays = tt; extra = tt })
              (refl, h.stays.1, stopped-for version units (InLuns r j) c w h new word answer run Ma run.chip.memory run.chip.regs ends, ap move_at d ∙ no-move (target_chain r + 8 * j) (omega arith)) tt))
          | whole fits filled end dsp dsa still who ↦
              let z = sparing-msgin w.memory run.chip.memory (tickets_of w.desk) h.tickets (0x1010 + 1) (omega arith) filled in
              let running : is_stopped run.chip.regs ≡ false = runs_on (moves w.desk.units (live w.desk)) word (chip_of w) run.chip (subst (λ (y : StepEnd). ChipStep (moves w.desk.units (live w.desk)) word (chip_of w) y run.chip) end run.ran) in
              leads version units (InLuns r j) c w h new word answer run (IsNext (InLuns r j)) (Running (InLuns r (j + 1))) (inl refl)
              (subst (Holds version units (Running (InLuns r (j + 1))) c) (sym (ended version units (InLuns r j) c w h new word answer run Ran run.chip.memory run.chip.regs (record { is = end; memory_is = refl; regs_are = refl })))
              (spared version units (InLuns r j) c w h new word answer run (Running (InLuns r (j + 1))) w.stop run.chip.memory run.chip.regs run.chip.bus z filled.size (filled.bytes h.bytes) refl refl (record { plays = tt; extra = (h.works.extra.0, h.works.extra.1, more) })
              (h.stays.0, h.stays.1, running, omega (arith, dsp, past-it), unheld run.chip.regs)
              (linked-still (OfTarget r) (tickets_of w.desk) w.bus run.chip.bus run.chip.regs still h.linked)))
        ]

    -- registers alone change, to the next instruction
    next-lun : (op : Op) (i : IsAtChain (InLuns r j) (target_chain r) (lun_ops us r) j op w) → j + 1 < length (lun_ops us r) → (x : Regs) → x.con ≡ w.regs.con → is_stopped x ≡ is_stopped w.regs → x.dsp ≡ g.dsp → run.chip.bus ≡ w.bus
        → Ends Ran w.memory x run.end run.chip → Leads (IsNext (InLuns r j)) version units c new
    next-lun op i more x con running dsp b e =
        leads version units (InLuns r j) c w h new word answer run (IsNext (InLuns r j)) (Running (InLuns r (j + 1))) (inl refl)
        (goes-to version units (InLuns r j) c w h new word answer run (target_chain r) (lun_ops us r) j op i (InLuns r (j + 1)) x b e (record {
          closing = refl;
          ahead = refl;
          link = refl;
          con = con;
          running = running;
          dsp = omega (arith, dsp, behind-here version units (InLuns r j) c w h new word answer run (target_chain r) (lun_ops us r) j op i);
          works = record { plays = tt; extra = (h.works.extra.0, h.works.extra.1, more) };
          at = unheld x;
        }))

    lun-broken : (v : ℕ) → stop_for (Sir v) ≡ stop.MustReset → Ends (Stopped (Sir v)) w.memory (stop_with (Sir v) g) run.end run.chip → Leads (IsNext (InLuns r j)) version units c new
    lun-broken v must e =
        leads version units (InLuns r j) c w h new word answer run (IsNext (InLuns r j)) Broken (inr (inr (inr refl))) (breaks version units (InLuns r j) c w h new word answer run (Sir v) (stop_with (Sir v) g) e must refl refl)

    -- another message than IDENTIFY is refused
    identify-tested : slice_index_or (lun_ops us r) j Nop ≡ Int (Byte true 0x7F 0x80) 8 → j + 1 < length (lun_ops us r) → Leads (IsNext (InLuns r j)) version units c new
    identify-tested e more =
        let i = in-luns (Int (Byte true 0x7F 0x80) 8) e refl in
        let d : Transfers (moves w.desk.units (live w.desk)) word (Byte true 0x7F 0x80) (Stopped (Sir 8)) (stop_with (Sir 8) g) (after_fetch (chip_of w)) run.end run.chip =
        does-here version units (InLuns r j) c w h new word answer run (target_chain r) (lun_ops us r) j (Int (Byte true 0x7F 0x80) 8) i in
        elim (by-test d.decision (unless_not true (is_byte 0x7F 0x80 w.regs.sfbr)) (Stopped (Sir 8)) (stop_with (Sir 8) g) (after_fetch (chip_of w)) run.end run.chip d.decides.0 d.transfers) [
          | inl k ↦ lun-broken 8 refl k.1
          | inr k ↦ next-lun (Int (Byte true 0x7F 0x80) 8) i more g refl refl refl d.decides.1 k.1
        ]

    -- the LUN of IDENTIFY is taken
    lun-taken : slice_index_or (lun_ops us r) j Nop ≡ ToSfbr 0x08 And 0x07 → j + 1 < length (lun_ops us r) → Leads (IsNext (InLuns r j)) version units c new
    lun-taken e more =
        let i = in-luns (ToSfbr 0x08 And 0x07) e refl in
        let d : Becomes (record g { sfbr = bit_and (byte_at 0x08 g) 0x07 }) (after_fetch (chip_of w)) run.end run.chip = does-here version units (InLuns r j) c w h new word answer run (target_chain r) (lun_ops us r) j (ToSfbr 0x08 And 0x07) i in
        next-lun (ToSfbr 0x08 And 0x07) i more (record g { sfbr = bit_and (byte_at 0x08 g) 0x07 }) refl refl refl d.bus_is d.ends

    lun-stop : slice_index_or (lun_ops us r) j Nop ≡ Int Always 9 → Leads (IsNext (InLuns r j)) version units c new
    lun-stop e =
        let i = in-luns (Int Always 9) e refl in
        let d : Transfers (moves w.desk.units (live w.desk)) word Always (Stopped (Sir 9)) (stop_with (Sir 9) g) (after_fetch (chip_of w)) run.end run.chip =
        does-here version units (InLuns r j) c w h new word answer run (target_chain r) (lun_ops us r) j (Int Always 9) i in
        elim (by-test d.decision true (Stopped (Sir 9)) (stop_with (Sir 9) g) (after_fetch (chip_of w)) run.end run.chip d.decides.0 d.transfers) [
          | inl k ↦ lun-broken 9 refl k.1
          | inr k ↦ let z : true ≡ false = k.0 in absurd cc
        ]

    lun-jump : JumpsToUnit us r (slice_index_or (lun_ops us r) j Nop) → j + 1 < length (lun_ops us r) → Leads (IsNext (InLuns r j)) version units c new
    lun-jump x more =
        let op = jump_if x.lun (unit_chain x.unit) in
        let i = in-luns op x.is (jump-two x.lun (unit_chain x.unit) x.small) in
        let d : Transfers (moves w.desk.units (live w.desk)) word (Byte false 0 x.lun) Ran (record g { dsp = unit_chain x.unit }) (after_fetch (chip_of w)) run.end run.chip =
        does-here version units (InLuns r j) c w h new word answer run (target_chain r) (lun_ops us r) j op i in
        elim (by-test d.decision (is_byte 0 x.lun w.regs.sfbr) Ran (record g { dsp = unit_chain x.unit }) (after_fetch (chip_of w)) run.end run.chip d.decides.0 d.transfers) [
          | inl k ↦ leads version units (InLuns r j) c w h new word answer run (IsNext (InLuns r j)) (Running (AtUnit x.unit r)) (inr (inl (x.unit, refl)))
              (goes-to version units (InLuns r j) c w h new word answer run (target_chain r) (lun_ops us r) j op i (AtUnit x.unit r) (record g { dsp = unit_chain x.unit }) d.decides.1 k.1 (record {
                closing = refl;
                ahead = refl;
                link = refl;
                con = refl;
                running = refl;
                dsp = refl;
                works = record { plays = tt; extra = (x.inside, (both-same (slice_index_or us x.unit no_unit).target r (slice_index_or us x.unit no_unit).lun x.lun x.of).0) };
                at = record { dsa = tt; temp = tt; scratcha = tt; scratchb = tt; ssid = tt; sfbr = tt };
              }))
          | inr k ↦ next-lun op i more g refl refl refl d.decides.1 k.1
        ]

  -- by the place in the chain
  lun-step : (r j : ℕ) (h : Holds version units (Running (InLuns r j)) c w) → Leads (IsNext (InLuns r j)) version units c new
  lun-step r zero h = identify-came r 0 h refl (omega (arith, length-append identify_ops (lun_jumps us r ++ Int Always 9 ∷ []), length-append (lun_jumps us r) (Int Always 9 ∷ [])))
  lun-step r (suc zero) h = identify-tested r 1 h refl (omega (arith, length-append identify_ops (lun_jumps us r ++ Int Always 9 ∷ []), length-append (lun_jumps us r) (Int Always 9 ∷ [])))
  lun-step r (suc (suc zero)) h = lun-taken r 2 h refl (omega (arith, length-append identify_ops (lun_jumps us r ++ Int Always 9 ∷ []), length-append (lun_jumps us r) (Int Always 9 ∷ [])))
  lun-step r (suc (suc (suc i))) h =
      let n : length (lun_ops us r) ≡ 3 + length (lun_jumps us r ++ Int Always 9 ∷ []) = length-append identify_ops (lun_jumps us r ++ Int Always 9 ∷ []) in
      elim (lun-op us r i (omega (arith, n, h.works.extra.2))) [
        | jumps x more ↦ lun-jump r (suc (suc (suc i))) h x (omega (arith, n, more))
        | stops e ↦ lun-stop r (suc (suc (suc i))) h e
      ]

  -- ---- the chain of a unit

  unit-step : (u r : ℕ) (h : Holds version units (Running (AtUnit u r)) c w) → Leads (IsNext (AtUnit u r)) version units c new
  unit-step u r h =
      let few : length us ≤ 16 = subst (λ (x : List RigUnit). length x ≤ 16) (sym h.units_are) h.few_units in
      let small : u < 16 = omega (arith, h.works.extra.0, few) in
      let op = Load 0x10 4 (At (unit_chain u + 0x10)) in
      let i : IsAtChain (AtUnit u r) (unit_chain u) (unit_ops u) 0 op w = record { spells = h.parts.chains.units_laid u h.works.extra.0; inside = lit< tt; is = refl; place = omega arith; aligned = omega arith; from = omega arith; below = omega arith; two = refl } in
      let d = does-here version units (AtUnit u r) c w h new word answer run (unit_chain u) (unit_ops u) 0 op i in
      let past-it = behind-here version units (AtUnit u r) c w h new word answer run (unit_chain u) (unit_ops u) 0 op i in
      let b : Becomes (holding Dsa (word_at w.memory (unit_chain u + 0x10)) g) (after_fetch (chip_of w)) run.end run.chip =
      rows.loads_words Dsa (At (unit_chain u + 0x10)) (unit_chain u + 0x10) (after_fetch (chip_of w)) run.end run.chip h.bytes (rows.finds_words.absolute w.memory w.regs.dsa (unit_chain u + 0x10) (omega arith) (omega (arith, h.size))) d in
      leads version units (AtUnit u r) c w h new word answer run (IsNext (AtUnit u r)) (Running (BehindUnit u r)) refl
      (goes-to version units (AtUnit u r) c w h new word answer run (unit_chain u) (unit_ops u) 0 op i (BehindUnit u r) (holding Dsa (word_at w.memory (unit_chain u + 0x10)) g) b.bus_is b.ends (record {
        closing = refl;
        ahead = refl;
        link = refl;
        con = refl;
        running = refl;
        dsp = omega (arith, past-it);
        works = h.works;
        at = record { dsa = h.parts.chains.tables_laid u h.works.extra.0; temp = tt; scratcha = tt; scratchb = tt; ssid = tt; sfbr = tt };
      }))

  behind-unit : (u r : ℕ) (h : Holds version units (Running (BehindUnit u r)) c w) → Leads (IsNext (BehindUnit u r)) version units c new
  behind-unit u r h =
      let few : length us ≤ 16 = subst (λ (x : List RigUnit). length x ≤ 16) (sym h.units_are) h.few_units in
      let small : u < 16 = omega (arith, h.works.extra.0, few) in
      let op = Jump Always 0x160 in
      let i : IsAtChain (BehindUnit u r) (unit_chain u) (unit_ops u) 1 op w = record { spells = h.parts.chains.units_laid u h.works.extra.0; inside = lit< tt; is = refl; place = refl; aligned = omega arith; from = omega arith; below = omega arith; two = refl } in
      let d : Transfers (moves w.desk.units (live w.desk)) word Always Ran (record g { dsp = 0x160 }) (after_fetch (chip_of w)) run.end run.chip = does-here version units (BehindUnit u r) c w h new word answer run (unit_chain u) (unit_ops u) 1 op i in
      elim (by-test d.decision true Ran (record g { dsp = 0x160 }) (after_fetch (chip_of w)) run.end run.chip d.decides.0 d.transfers) [
        | inl k ↦ leads version units (BehindUnit u r) c w h new word answer run (IsNext (BehindUnit u r)) (Running (At160 u r)) refl
            (goes-to version units (BehindUnit u r) c w h new word answer run (unit_chain u) (unit_ops u) 1 op i (At160 u r) (record g { dsp = 0x160 }) d.decides.1 k.1 (record {
              closing = refl;
              ahead = refl;
              link = refl;
              con = refl;
              running = refl;
              dsp = refl;
              works = h.works;
              at = record { dsa = h.stays.4.dsa; temp = tt; scratcha = tt; scratchb = tt; ssid = tt; sfbr = tt };
            }))
        | inr k ↦ let z : true ≡ false = k.0 in absurd cc
      ]

  -- ---- the target's number

  number-step : (r : ℕ) (h : Holds version units (Running (At050 r)) c w) → Leads (IsNext (At050 r)) version units c new
  unfolding instruction byte_at
  number-step r h =
      let d : Becomes (record g { sfbr = bit_and w.regs.ssid 0x07 }) (after_fetch (chip_of w)) run.end run.chip = row version units (At050 r) c w h new word answer run 10 (ToSfbr 0x0A And 0x07) (omega arith) refl refl in
      leads version units (At050 r) c w h new word answer run (IsNext (At050 r)) (Running (At058 r)) refl
      (arrives version units (At050 r) c w h new word answer run (At058 r) (record g { sfbr = bit_and w.regs.ssid 0x07 }) d.ends (record {
        closing = refl;
        ahead = refl;
        works = h.works;
        running = h.stays.2;
        dsp = past version units (At050 r) c w h new word answer run 10 (omega arith) refl;
        at = record { dsa = tt; temp = tt; scratcha = tt; scratchb = tt; ssid = tt; sfbr = ap (λ (y : ℕ). bit_and y 7) h.stays.4.ssid ∙ number-of r h.works.extra };
        linked = subst (λ (y : BusState). Linked (OfTarget r) (tickets_of w.desk) y (record g { sfbr = bit_and w.regs.ssid 0x07 })) (sym d.bus_is) h.linked;
      }))

  to-chains : (r : ℕ) (h : Holds version units (Running (At058 r)) c w) → Leads (IsNext (At058 r)) version units c new
  unfolding instruction
  to-chains r h =
      leads version units (At058 r) c w h new word answer run (IsNext (At058 r)) (Running (InTargets r 0)) refl
      (jumped version units (At058 r) c w h new word answer run (InTargets r 0) 11 0x8000 (omega arith) refl refl refl (record {
        closing = refl;
        ahead = refl;
        works = record { plays = tt; extra = (h.works.extra, some-targets us) };
        at = record { dsa = tt; temp = tt; scratcha = tt; scratchb = tt; ssid = tt; sfbr = h.stays.4.sfbr };
        linked = h.linked;
      }))

pub keeps : StepsHold of_chains
keeps version units (At050 r) c w new word answer e run h = number-step version units c w new word answer run r h
keeps version units (At058 r) c w new word answer e run h = to-chains version units c w new word answer run r h
keeps version units (InTargets r j) c w new word answer e run h = target-step version units c w new word answer run r j h
keeps version units (InLuns r j) c w new word answer e run h = lun-step version units c w new word answer run r j h
keeps version units (AtUnit u r) c w new word answer e run h = unit-step version units c w new word answer run u r h
keeps version units (BehindUnit u r) c w new word answer e run h = behind-unit version units c w new word answer run u r h
keeps version units _ c w new word answer e run h = absurd cc
