-- With which vectors INT stops the chip, and how it comes to OVER.
use Rattle.std.proofs.Common.{◌≡◌, inl, inr, ℕ, zero, suc, ◌+◌, ◌*◌, ◌<◌, ◌≤◌, ◌==◌, ◌&&◌, ◌||◌, nat_le, nat_lt, Bool, true, false, List, length, [], ◌∷◌, ◌++◌, refl, sym, ap, subst, ◌∙◌, arith, lit<, length-append}
use Rattle.std.specs.Prelude.{not, slice_index_or}
use Rattle.std.proofs.lemmas.Bool.Decides.{nat_tests}
use Rattle.host_map.specs.declared.TheConstants.{CHAINS, MSGIN}
use Rattle.host_map.specs.Places.{target_chain, unit_chain}
use Rattle.rig_chains.specs.Chains.{jump_if, identify_ops, target_ops, lun_ops, lun_jumps, unit_ops}
use Rattle.rig_types.specs.declared.rig.Unit.{Unit as RigUnit}
use Rattle.scripts_ops.specs.declared.values.Address.TheVariants.{At}
use Rattle.scripts_ops.specs.declared.values.Change.TheVariants.{And}
use Rattle.scripts_ops.specs.declared.values.Condition.TheVariants.{Always, Byte}
use Rattle.scripts_ops.specs.declared.values.Op.{Op}
use Rattle.scripts_ops.specs.declared.values.Op.TheVariants as op
use Rattle.driver_script.specs.Script.{instruction}
use Rattle.driver_script.specs.declared.script.TheConstants.{SCRIPT}
use Rattle.driver_script.proofs.ScriptTests.{all_below, both_versions}
use Rattle.chip_regs.specs.declared.registers.Cause.TheVariants.{Sir}
use Rattle.chip_step.specs.Step.{after_fetch}
use Rattle.chip_step.specs.declared.outcome.StepEnd.TheVariants.{Ran, Stopped}
use Rattle.bus_law.specs.Moves.{moves}
use Rattle.ownership.proofs.Transfers.{returns_to, stops_with}
use Rattle.world_law.specs.ChipSteps.{chip_of, RunsChip}
use Rattle.world_law.specs.Opening.{opened}
use Rattle.world_law.specs.Runs.{last}
use Rattle.world_law.specs.World.{World, live}
use Rattle.world_law.specs.declared.reply.Reply.{Reply}
use Rattle.world_law.specs.declared.reply.Stop.TheVariants as stop
use Rattle.word_owners.specs.BenchSteps.{IsOwned}
use Rattle.word_owners.specs.Holds.{Spot, Holds, Running, Mismatched, NotData, Fixed, TimedOut, JobOver, ResetAt, Broken}
use Rattle.word_owners.specs.Nexts.{IsNext}
use Rattle.word_owners.specs.Parts.{Counts}
use Rattle.word_owners.specs.Points.{Point, about, At0C0, At2B8, InTargets, InLuns, AtUnit, BehindUnit}
use Rattle.word_owners.specs.Tickets.{tickets_of}
use Rattle.word_owners.specs.Vectors.{IsVector, IsOver, TellsVectors, VectorsAreTold}
use Rattle.word_owners.proofs.AllSteps.{chip_steps_hold}
use Rattle.word_owners.proofs.ChainOps.{jumps, stops, target-op, lun-op}
use Rattle.word_owners.proofs.ChainSteps.{IsAtChain, does-here, in-targets, in-luns, jump-two}
use Rattle.word_owners.proofs.ChipSteps.{ended, row, stands}
use Rattle.word_owners.proofs.NextPlaces.{is_return, low, way, middle, high, over, places}
use Rattle.word_owners.proofs.RunningChip.{running}
use Rattle.word_owners.proofs.Standing.{script, at-over, in-chain, is_chain, stands-at}
use Rattle.word_owners.proofs.StopCauses.{stops_are_handled}
use Rattle.word_owners.proofs.Vectors.{IsInt, vector-of}
use Rattle.word_owners.proofs.Worlds.{words_are_owned}

-- ---- the instructions of the script

abbrev vector_fits : ℕ → Op → Bool
vector_fits k (op.Int on v) = (nat_lt 0 v && nat_le v 10) && (not (v == 7) && (not (v == 6) || k == 87))
vector_fits k _ = true

all_fit : all_below 151 (λ k. vector_fits k (slice_index_or SCRIPT k op.Nop)) ≡ true
all_fit = refl

fits-at : (k version : ℕ) → k < 151 → vector_fits k (instruction k version) ≡ true
fits-at k version l = both_versions vector_fits 151 all_fit refl k version l

-- what the test tells
means : (k : ℕ) (o : Op) (v : ℕ) → IsInt v o → vector_fits k o ≡ true → IsVector v × (v ≡ 6 → k ≡ 87)
means k (op.Int on n) v e t =
    let low : 0 < n = grind (arith, nat_tests, t) in
    let high : n ≤ 10 = grind (arith, nat_tests, t) in
    let seven : (n == 7) ≡ false = grind (arith, nat_tests, t) in
    let six : n ≡ 6 → k ≡ 87 = λ f. grind (arith, nat_tests, t, f) in
    ((omega (arith, e, low), omega (arith, e, high), λ f. (let z : n ≡ 7 = e ∙ f in grind (arith, nat_tests, seven, z))), λ f. six (e ∙ f))
means k _ v e t = absurd e

-- ---- the chains

module _ (version : ℕ) (units : List RigUnit) (c : Counts) (w new : World) (word : ℕ) (answer : Reply) (run : RunsChip w word answer new) (v : ℕ) (e : run.end ≡ Stopped (Sir v)) where
  -- an instruction of a chain tells its vector
  in-chain-is : (p : Point) (h : Holds version units (Running p) c w) (a : ℕ) (ops : List Op) (j : ℕ) (o : Op) → IsAtChain p a ops j o w → IsInt v o
  in-chain-is p h a ops j o i = vector-of (moves w.desk.units (live w.desk)) word o (chip_of w) (after_fetch (chip_of w)) run.end run.chip v (does-here version units p c w h new word answer run a ops j o i) e

  ten : v ≡ 10 → IsVector v × (v ≡ 6 → ⊥)
  ten f = ((omega (arith, f), omega (arith, f), λ z. omega (arith, f, z)), λ z. omega (arith, f, z))

  nine : v ≡ 9 → IsVector v × (v ≡ 6 → ⊥)
  nine f = ((omega (arith, f), omega (arith, f), λ z. omega (arith, f, z)), λ z. omega (arith, f, z))

  eight : v ≡ 8 → IsVector v × (v ≡ 6 → ⊥)
  eight f = ((omega (arith, f), omega (arith, f), λ z. omega (arith, f, z)), λ z. omega (arith, f, z))

  abbrev us : List RigUnit
  us = (tickets_of w.desk).units

  in-lun : (r i : ℕ) (h : Holds version units (Running (InLuns r i)) c w) → IsVector v × (v ≡ 6 → ⊥)
  in-lun r zero h = absurd (in-chain-is (InLuns r 0) h (target_chain r) (lun_ops us r) 0 (op.Move 1 MSGIN 7) (in-luns version units c w new word answer run r 0 h (op.Move 1 MSGIN 7) refl refl))
  in-lun r (suc zero) h = eight (sym (in-chain-is (InLuns r 1) h (target_chain r) (lun_ops us r) 1 (op.Int (Byte true 0x7F 0x80) 8) (in-luns version units c w new word answer run r 1 h (op.Int (Byte true 0x7F 0x80) 8) refl refl)))
  in-lun r (suc (suc zero)) h = absurd (in-chain-is (InLuns r 2) h (target_chain r) (lun_ops us r) 2 (op.ToSfbr 0x08 And 0x07) (in-luns version units c w new word answer run r 2 h (op.ToSfbr 0x08 And 0x07) refl refl))
  in-lun r (suc (suc (suc i))) h =
      let j = suc (suc (suc i)) in
      let n : length (lun_ops us r) ≡ 3 + length (lun_jumps us r ++ op.Int Always 9 ∷ []) = length-append identify_ops (lun_jumps us r ++ op.Int Always 9 ∷ []) in
      elim (lun-op us r i (omega (arith, n, h.works.extra.2))) [
        | jumps x more ↦ absurd (in-chain-is (InLuns r j) h (target_chain r) (lun_ops us r) j (jump_if x.lun (unit_chain x.unit)) (in-luns version units c w new word answer run r j h (jump_if x.lun (unit_chain x.unit)) x.is (jump-two x.lun (unit_chain x.unit) x.small)))
        | stops z ↦ nine (sym (in-chain-is (InLuns r j) h (target_chain r) (lun_ops us r) j (op.Int Always 9) (in-luns version units c w new word answer run r j h (op.Int Always 9) z refl)))
      ]

  chain-vector : (p : Point) → is_chain p ≡ true → Holds version units (Running p) c w → IsVector v × (v ≡ 6 → ⊥)
  chain-vector (InTargets r j) z h = elim (target-op us j h.works.extra.1) [
    | jumps x more ↦ absurd (in-chain-is (InTargets r j) h CHAINS (target_ops us) j (jump_if x.target (target_chain x.target)) (in-targets version units c w new word answer run r j h (jump_if x.target (target_chain x.target)) x.is (jump-two x.target (target_chain x.target) x.below)))
    | stops y ↦ ten (sym (in-chain-is (InTargets r j) h CHAINS (target_ops us) j (op.Int Always 0x0A) (in-targets version units c w new word answer run r j h (op.Int Always 0x0A) y refl)))
  ]
  chain-vector (InLuns r j) z h = in-lun r j h
  chain-vector (AtUnit u r) z h =
      let few : length us ≤ 16 = subst (λ (x : List RigUnit). length x ≤ 16) (sym h.units_are) h.few_units in
      let i : IsAtChain (AtUnit u r) (unit_chain u) (unit_ops u) 0 (op.Load 0x10 4 (At (unit_chain u + 0x10))) w = record { spells = h.parts.chains.units_laid u h.works.extra.0; inside = lit< tt; is = refl; place = omega arith; aligned = omega arith; from = omega arith; below = omega (arith, few, h.works.extra.0); two = refl } in
      absurd (in-chain-is (AtUnit u r) h (unit_chain u) (unit_ops u) 0 (op.Load 0x10 4 (At (unit_chain u + 0x10))) i)
  chain-vector (BehindUnit u r) z h =
      let few : length us ≤ 16 = subst (λ (x : List RigUnit). length x ≤ 16) (sym h.units_are) h.few_units in
      let i : IsAtChain (BehindUnit u r) (unit_chain u) (unit_ops u) 1 (op.Jump Always 0x160) w = record { spells = h.parts.chains.units_laid u h.works.extra.0; inside = lit< tt; is = refl; place = refl; aligned = omega arith; from = omega arith; below = omega (arith, few, h.works.extra.0); two = refl } in
      absurd (in-chain-is (BehindUnit u r) h (unit_chain u) (unit_ops u) 1 (op.Jump Always 0x160) i)
  chain-vector _ z h = absurd cc

  -- ---- each point

  script-vector : (p : Point) (k : ℕ) → k < 151 → (about p).place ≡ 8 * k → Holds version units (Running p) c w → IsVector v × (v ≡ 6 → k ≡ 87)
  script-vector p k l place h =
      means k (instruction k version) v (vector-of (moves w.desk.units (live w.desk)) word (instruction k version) (chip_of w) (after_fetch (chip_of w)) run.end run.chip v (row version units p c w h new word answer run k (instruction k version) l place refl) e)
      (fits-at k version l)

  over-at : (p : Point) (t : ℕ) → p ≡ At2B8 t → Holds version units (Running p) c w → IsOver w
  over-at p t z h =
      let g : Holds version units (Running (At2B8 t)) c w = subst (λ (q : Point). Holds version units (Running q) c w) z h in
      record { at = g.stays.3; number = t; active = g.works.plays.begun.stage; dsa = g.stays.4.dsa; linked = g.linked }

  point-vector : (p : Point) → Holds version units (Running p) c w → IsVector v × (v ≡ 6 → IsOver w)
  point-vector p h = elim (stands-at version units c w p h) [
    | script k l place side ↦ (let x = script-vector p k l place h in (x.0, λ f. elim side [ inl y ↦ absurd (omega (arith, y, x.1 f)) | inr y ↦ absurd (omega (arith, y, x.1 f)) ]))
    | at-over t z ↦ ((script-vector p 87 (omega arith) (ap (λ (q : Point). (about q).place) z) h).0, λ f. over-at p t z h)
    | in-chain z far ↦ (let x = chain-vector p z h in (x.0, λ f. absurd (x.1 f)))
  ]

-- ---- OVER

module _ (version : ℕ) (units : List RigUnit) (c : Counts) (w new : World) (word : ℕ) (answer : Reply) (run : RunsChip w word answer new) where
  over-stops : (p : Point) → Holds version units (Running p) c w → w.regs.dsp ≡ 0x2B8 → run.end ≡ Stopped (Sir 6)
  unfolding instruction
  over-stops p h at = elim (stands-at version units c w p h) [
    | script k l place side ↦ (let z = h.stays.3 ∙ place in elim side [ inl y ↦ absurd (omega (arith, y, z, at)) | inr y ↦ absurd (omega (arith, y, z, at)) ])
    | at-over t z ↦ (stops_with (moves w.desk.units (live w.desk)) 6 (chip_of w) run.end run.chip (record {
      version = version;
      k = 87;
      word = word;
      stands = stands version units p c w h 87 (omega arith) (ap (λ (q : Point). (about q).place) z);
      here = refl;
      ran = run.ran;
    })).ends.is
    | in-chain z far ↦ absurd (omega (arith, far, h.stays.3, at))
  ]

  by-return : (p : Point) → is_return p ≡ true → Holds version units (Running p) c w → new.regs.dsp ≡ 0x2B8 → (w.regs.dsp ≡ 0x0C0) × (w.regs.temp ≡ 0x2B8)
  unfolding instruction
  by-return (At0C0 t a) z h to =
      let b = returns_to (moves w.desk.units (live w.desk)) (chip_of w) run.end run.chip (record { version = version; k = 24; word = word; stands = stands version units (At0C0 t a) c w h 24 (omega arith) refl; here = refl; ran = run.ran }) in
      let e = ended version units (At0C0 t a) c w h new word answer run Ran w.memory (record (after_fetch (chip_of w)).regs { dsp = w.regs.temp }) b.ends in
      (h.stays.3, sym (ap (λ (v : World). v.regs.dsp) e) ∙ to)
  by-return _ z h to = absurd cc

  comes-by : (p : Point) (q : Point) → IsNext p (Running q) → (about q).place ≡ 0x2B8 → is_return p ≡ true
  comes-by p q n at = elim (places p (Running q) n) [
    | low l ↦ absurd (omega (arith, l, at))
    | way e l ↦ absurd (omega (arith, l, at))
    | middle l u ↦ absurd (omega (arith, u, at))
    | high l ↦ absurd (omega (arith, l, at))
    | over e l ↦ e
  ]

  by-spot : (p : Point) (s : Spot) (d : Counts) → IsNext p s → Holds version units (Running p) c w → Holds version units s d new → new.stop ≡ stop.Run → new.regs.dsp ≡ 0x2B8 → (w.regs.dsp ≡ 0x0C0) × (w.regs.temp ≡ 0x2B8)
  by-spot p (Running q) d n h k runs to = by-return p (comes-by p q n (sym k.stays.3 ∙ to)) h to
  by-spot p (Mismatched t x left) d n h k runs to = let z : stop.Run ≡ stop.Mismatch = sym runs ∙ k.stays.0 in absurd cc
  by-spot p NotData d n h k runs to = let z : stop.Run ≡ stop.Mismatch = sym runs ∙ k.stays.0 in absurd cc
  by-spot p (Fixed t) d n h k runs to = let z : stop.Run ≡ stop.Clear = sym runs ∙ k.stays.0 in absurd cc
  by-spot p (TimedOut t) d n h k runs to = let z : stop.Run ≡ stop.Clear = sym runs ∙ k.stays.0 in absurd cc
  by-spot p JobOver d n h k runs to = let z : stop.Run ≡ stop.Clear = sym runs ∙ k.stays.0 in absurd cc
  by-spot p (ResetAt q) d n h k runs to = let z : stop.Run ≡ stop.Clear = sym runs ∙ k.stays.0 in absurd cc
  by-spot p Broken d n h k runs to = let z : stop.Run ≡ stop.MustReset = sym runs ∙ k.stays.0 in absurd cc

-- ---- every world of a run

tells-vectors : (version : ℕ) (units : List RigUnit) (w : World) → IsOwned version units w → TellsVectors w
tells-vectors version units w o = record {
  stops = stops_are_handled version units o.spot o.counts w o.holds;
  vectors = λ new word answer v runs run e. (let k = running version units o.spot o.counts w runs o.holds in (point-vector version units o.counts w new word answer run v e k.0 k.1).0);
  at_over = λ new word answer runs run e. (let k = running version units o.spot o.counts w runs o.holds in (point-vector version units o.counts w new word answer run 6 e k.0 k.1).1 refl);
  over = λ new word answer runs run at. (let k = running version units o.spot o.counts w runs o.holds in over-stops version units o.counts w new word answer run k.0 k.1 at);
  comes = λ new word answer runs run to on.
      let k = running version units o.spot o.counts w runs o.holds in
      let x = chip_steps_hold version units k.0 o.counts w new word answer o.answering run k.1 in
      by-spot version units o.counts w new word answer run k.0 x.spot x.counts x.is k.1 x.holds on to;
}

pub vectors_are_told : VectorsAreTold
vectors_are_told g setting bytes ms r = tells-vectors g.version g.units (last (opened g) ms) (words_are_owned g setting bytes ms r)
