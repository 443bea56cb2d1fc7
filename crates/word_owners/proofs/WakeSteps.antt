-- A step of the chip passes a word of work only where the word is idle or the chip is called.
use Rattle.std.proofs.Common.{◌≡◌, ◌⊎◌, inl, inr, ℕ, pos, ◌+◌, ◌*◌, ◌<◌, ◌≤◌, ◌==◌, ◌&&◌, nat_le, List, Bool, true, false, refl, sym, ap, subst, ◌∙◌, arith, Option, Some, None}
use Rattle.std.proofs.lemmas.Bool.Decides.{nat_tests}
use Rattle.bench_words.specs.Memory.{word_at}
use Rattle.host_map.specs.declared.TheConstants.{FRONT, RINGP, IDLE, FRONT_IDLE}
use Rattle.rig_types.specs.declared.rig.Unit.{Unit as RigUnit}
use Rattle.scripts_ops.specs.declared.values.Address.{Address}
use Rattle.scripts_ops.specs.declared.values.Address.TheVariants.{At, FromDsa}
use Rattle.scripts_ops.specs.declared.values.Condition.TheVariants.{Always}
use Rattle.scripts_ops.specs.declared.values.Op.TheVariants as op
use Rattle.driver_script.specs.Script.{instruction}
use Rattle.chip_regs.specs.Bytes.{Wide, Dsa, Temp, ScratchA, ScratchB, base_of, holding}
use Rattle.chip_regs.specs.declared.registers.Regs.{Regs}
use Rattle.chip_step.specs.Chip.{Chip, Becomes}
use Rattle.chip_step.specs.Connection.{Reselects, ReselectsBy}
use Rattle.chip_step.specs.Step.{after_fetch}
use Rattle.chip_step.specs.declared.outcome.StepEnd.{StepEnd}
use Rattle.chip_step.specs.declared.outcome.StepEnd.TheVariants.{Ran, Idle}
use Rattle.bus_law.specs.Bus.{BusState}
use Rattle.bus_law.specs.Moves.{moves}
use Rattle.desk_law.specs.Desk.{DeskState, due}
use Rattle.ownership.specs.Words.{IsReached, place_from}
use Rattle.ownership.proofs.Transfers.{returns_to}
use Rattle.ownership.proofs.Words.{loads_word}
use Rattle.world_law.specs.declared.reply.Reply.{Reply}
use Rattle.world_law.specs.declared.reply.Stop.{Stop}
use Rattle.world_law.specs.declared.reply.Stop.TheVariants as stop
use Rattle.world_law.specs.World.{World, live, front}
use Rattle.world_law.specs.ChipSteps.{chip_of, after_chip, RunsChip}
use Rattle.word_owners.specs.Tickets.{tickets_of}
use Rattle.word_owners.specs.Points.{Point, about, At008, At010Idle, At010Job, At010Sense, At018Idle, At018Job, At018Sense, At020, At028, At030, At038, At038Idle, At040, At040Idle, At048}
use Rattle.word_owners.specs.Parts.{Counts}
use Rattle.word_owners.specs.Holds.{Spot, Holds, Running, Mismatched, NotData, Fixed, TimedOut, JobOver, ResetAt, Broken}
use Rattle.word_owners.specs.Nexts.{IsNext}
use Rattle.word_owners.specs.Wake.{passed_slot, passed_front, IsCalled}
use Rattle.word_owners.proofs.BlockLoads.{head-at, head-start}
use Rattle.word_owners.proofs.BusCalls.{by_bool, when_false}
use Rattle.word_owners.proofs.ChipSteps.{ended, past, row, same-wide, stands}
use Rattle.word_owners.proofs.Frames.{active-live}
use Rattle.word_owners.proofs.NextPlaces.{is_early, IsBeside, Late, late}

-- where the chip runs and has passed a word of work, the word is idle or the chip is called
pub record PassesIdle (w : World) : Type 0 where
  pub front : w.stop ≡ stop.Run → passed_front w.regs.dsp w.regs.dsa w.regs.temp ≡ true → (front w ≡ FRONT_IDLE) ⊎ IsCalled w
  pub slot : w.stop ≡ stop.Run → passed_slot w.regs.dsp w.regs.dsa w.regs.temp ≡ true → (word_at w.memory (word_at w.memory RINGP) ≡ IDLE) ⊎ IsCalled w

-- ---- places that aren't on the way

-- a test of three registers fails where DSP is here
shut : {R : Type 0} (test : (dsp dsa temp : ℕ) → Bool) (r : Regs) (d : ℕ) → r.dsp ≡ d → test d r.dsa r.temp ≡ false → test r.dsp r.dsa r.temp ≡ true → R
shut test r d e miss hit = let z : true ≡ false = sym hit ∙ ap (λ (i : ℕ). test i r.dsa r.temp) e ∙ miss in absurd cc

beside-slot : (dsp dsa temp : ℕ) → IsBeside dsp → passed_slot dsp dsa temp ≡ false
beside-slot dsp dsa temp l =
    let a : (dsp == 0x038) ≡ false = grind (arith, nat_tests, l) in
    let b : (dsp == 0x040) ≡ false = grind (arith, nat_tests, l) in
    let c : (dsp == 0x048) ≡ false = grind (arith, nat_tests, l) in
    rw (a, b, c) refl

beside-front : (dsp dsa temp : ℕ) → IsBeside dsp → passed_front dsp dsa temp ≡ false
beside-front dsp dsa temp l =
    let a : (dsp == 0x010) ≡ false = grind (arith, nat_tests, l) in
    let b : (dsp == 0x018) ≡ false = grind (arith, nat_tests, l) in
    let c : (nat_le 0x020 dsp && nat_le dsp 0x030) ≡ false = grind (arith, nat_tests, l) in
    rw (a, b, c) (beside-slot dsp dsa temp l)

pub beside-passes : (w : World) → IsBeside w.regs.dsp → PassesIdle w
beside-passes w l = record {
  front = λ r e. (let z : true ≡ false = sym e ∙ beside-front w.regs.dsp w.regs.dsa w.regs.temp l in absurd cc);
  slot = λ r e. (let z : true ≡ false = sym e ∙ beside-slot w.regs.dsp w.regs.dsa w.regs.temp l in absurd cc);
}

pub stopped-passes : (w : World) (x : Stop) → w.stop ≡ x → (stop.Run ≡ x → ⊥) → PassesIdle w
stopped-passes w x e miss = record { front = λ r i. absurd (miss (sym r ∙ e)); slot = λ r i. absurd (miss (sym r ∙ e)) }

pub late-passes : (version : ℕ) (units : List RigUnit) (s : Spot) (c : Counts) (w : World) → Late s → Holds version units s c w → PassesIdle w
late-passes version units (Running q) c w l h = beside-passes w (subst IsBeside (sym h.stays.3) l)
late-passes version units (Mismatched t x left) c w l h = stopped-passes w stop.Mismatch h.stays.0 (λ e. absurd cc)
late-passes version units NotData c w l h = stopped-passes w stop.Mismatch h.stays.0 (λ e. absurd cc)
late-passes version units (Fixed t) c w l h = stopped-passes w stop.Clear h.stays.0 (λ e. absurd cc)
late-passes version units (TimedOut t) c w l h = stopped-passes w stop.Clear h.stays.0 (λ e. absurd cc)
late-passes version units JobOver c w l h = stopped-passes w stop.Clear h.stays.0 (λ e. absurd cc)
late-passes version units (ResetAt p) c w l h = stopped-passes w stop.Clear h.stays.0 (λ e. absurd cc)
late-passes version units Broken c w l h = stopped-passes w stop.MustReset h.stays.0 (λ e. absurd cc)

-- ---- LOAD and RETURN leave memory, the desk and SIGP

holding-sigp : (x : Wide) (v : ℕ) (r : Regs) → (holding x v r).sigp ≡ r.sigp
holding-sigp Dsa v r = refl
holding-sigp Temp v r = refl
holding-sigp ScratchA v r = refl
holding-sigp ScratchB v r = refl

pub record Quiet (w new : World) : Type 0 where
  pub memory : new.memory ≡ w.memory
  pub desk : new.desk ≡ w.desk
  pub sigp : new.regs.sigp ≡ w.regs.sigp

pub called-on : (w new : World) → Quiet w new → IsCalled w → IsCalled new
called-on w new q (inl x) = inl (x.0, subst (λ (d : DeskState). 0 < due d x.0) (sym q.desk) x.1)
called-on w new q (inr x) = inr (q.sigp ∙ x)

front-on : (w new : World) → Quiet w new → (front w ≡ FRONT_IDLE) ⊎ IsCalled w → (front new ≡ FRONT_IDLE) ⊎ IsCalled new
front-on w new q (inl e) = inl (ap (λ (m : List ℕ). word_at m FRONT) q.memory ∙ e)
front-on w new q (inr x) = inr (called-on w new q x)

slot-on : (w new : World) → Quiet w new → (word_at w.memory (word_at w.memory RINGP) ≡ IDLE) ⊎ IsCalled w → (word_at new.memory (word_at new.memory RINGP) ≡ IDLE) ⊎ IsCalled new
slot-on w new q (inl e) = inl (ap (λ (m : List ℕ). word_at m (word_at m RINGP)) q.memory ∙ e)
slot-on w new q (inr x) = inr (called-on w new q x)

module _ (version : ℕ) (units : List RigUnit) (p : Point) (c : Counts) (w : World) (h : Holds version units (Running p) c w) (new : World) (word : ℕ) (answer : Reply) (run : RunsChip w word answer new) where
  abbrev f : Regs
  f = (after_fetch (chip_of w)).regs

  record Loads (x : Wide) (v : ℕ) : Type 0 where
    quiet : Quiet w new
    regs : new.regs ≡ holding x v f

  loads : (k : ℕ) (x : Wide) (place : Address) → k < 151 → (about p).place ≡ 8 * k → instruction k version ≡ op.Load (base_of x) 4 place → IsReached place w.regs.dsa → Loads x (word_at w.memory (place_from w.regs.dsa place))
  loads k x place inside from here reached =
      let a : ℕ = word_at w.memory (place_from w.regs.dsa place) in
      let d = loads_word (moves w.desk.units (live w.desk)) version k word (base_of x) 4 place (chip_of w) run.end run.chip (stands version units p c w h k inside from) h.bytes reached here run.ran in
      let b : Becomes (holding x a f) (after_fetch (chip_of w)) run.end run.chip = subst (λ (y : Wide). Becomes (holding y a f) (after_fetch (chip_of w)) run.end run.chip) (same-wide d.register x d.named) d.becomes in
      let e = ended version units p c w h new word answer run Ran w.memory (holding x a f) b.ends in
      record {
        quiet = record { memory = ap (λ (v : World). v.memory) e; desk = ap (λ (v : World). v.desk) e; sigp = ap (λ (v : World). v.regs.sigp) e ∙ holding-sigp x a f };
        regs = ap (λ (v : World). v.regs) e;
      }

  returns : (k : ℕ) → k < 151 → (about p).place ≡ 8 * k → instruction k version ≡ op.Return Always → Quiet w new
  returns k inside from here =
      let b = returns_to (moves w.desk.units (live w.desk)) (chip_of w) run.end run.chip (record { version = version; k = k; word = word; stands = stands version units p c w h k inside from; here = here; ran = run.ran }) in
      let e = ended version units p c w h new word answer run Ran w.memory (record f { dsp = w.regs.temp }) b.ends in
      record { memory = ap (λ (v : World). v.memory) e; desk = ap (λ (v : World). v.desk) e; sigp = ap (λ (v : World). v.regs.sigp) e }

-- ---- WAIT RESELECT: the chip rests, and nothing changes, or it goes on elsewhere

module _ (version : ℕ) (units : List RigUnit) (c : Counts) (w : World) (h : Holds version units (Running At048) c w) (new : World) (word : ℕ) (answer : Reply) (run : RunsChip w word answer new) where
  rests-or-goes : (o : Option ℕ) → ReselectsBy o (chip_of w) (after_fetch (chip_of w)) run.end run.chip → (new ≡ w) ⊎ IsBeside new.regs.dsp
  rests-or-goes None e = inl (run.world ∙ ap (λ (i : StepEnd). after_chip w i run.chip) e.0 ∙ ap (λ (i : Chip BusState). after_chip w Idle i) e.1)
  rests-or-goes (Some r) e =
      let z = ended version units At048 c w h new word answer run Ran w.memory _ e in
      let at : new.regs.dsp ≡ 0x050 = ap (λ (v : World). v.regs.dsp) z ∙ past version units At048 c w h new word answer run 9 (omega arith) refl in
      inr (inr (omega (arith, at)))

  waits : (new ≡ w) ⊎ IsBeside new.regs.dsp
  unfolding instruction
  waits =
      let d : Reselects (moves w.desk.units (live w.desk)) word 0 (chip_of w) (after_fetch (chip_of w)) run.end run.chip = row version units At048 c w h new word answer run 9 (op.WaitReselect 0) (omega arith) refl refl in
      let b = when_false _ _ w.regs.con h.linked.1 d in
      by_bool _ _ ((new ≡ w) ⊎ IsBeside new.regs.dsp) w.regs.sigp b
      (λ z k. (let e = ended version units At048 c w h new word answer run Ran w.memory _ k.ends in let at : new.regs.dsp ≡ 0 = ap (λ (v : World). v.regs.dsp) e in inr (inl (omega (arith, at)))))
      (λ z k. rests-or-goes k.0 k.2)

-- ---- the way from FRONT to WAIT RESELECT

-- FRONT alone was passed
on-front : (w new : World) (d : ℕ) → Quiet w new → new.regs.dsp ≡ d → passed_slot d new.regs.dsa new.regs.temp ≡ false → (w.stop ≡ stop.Run) → passed_front w.regs.dsp w.regs.dsa w.regs.temp ≡ true → PassesIdle w → PassesIdle new
on-front w new d q e miss runs hit h = record { front = λ r i. front-on w new q (h.front runs hit); slot = λ r i. shut passed_slot new.regs d e miss i }

-- both words were
on-both : (w new : World) → Quiet w new → w.stop ≡ stop.Run → passed_front w.regs.dsp w.regs.dsa w.regs.temp ≡ true → passed_slot w.regs.dsp w.regs.dsa w.regs.temp ≡ true → PassesIdle w → PassesIdle new
on-both w new q runs one other h = record { front = λ r i. front-on w new q (h.front runs one); slot = λ r i. slot-on w new q (h.slot runs other) }

-- neither was
on-neither : (w : World) (d : ℕ) → w.regs.dsp ≡ d → passed_front d w.regs.dsa w.regs.temp ≡ false → passed_slot d w.regs.dsa w.regs.temp ≡ false → PassesIdle w
on-neither w d e miss none = record { front = λ r i. shut passed_front w.regs d e miss i; slot = λ r i. shut passed_slot w.regs d e none i }

-- the test passes where DSP is here
open-at : (test : (dsp dsa temp : ℕ) → Bool) (r : Regs) (d : ℕ) → r.dsp ≡ d → test d r.dsa r.temp ≡ true → test r.dsp r.dsa r.temp ≡ true
open-at test r d e hit = ap (λ (i : ℕ). test i r.dsa r.temp) e ∙ hit

block-not-idle : (dsa temp : ℕ) → 0x10000 ≤ dsa → passed_front 0x010 dsa temp ≡ false
block-not-idle dsa temp l = let a : (dsa == 0x1600) ≡ false = grind (arith, nat_tests) in rw a refl

block-not-slot : (dsa temp : ℕ) → 0x10000 ≤ dsa → passed_slot 0x038 dsa temp ≡ false
block-not-slot dsa temp l = let a : (dsa == 0x1200) ≡ false = grind (arith, nat_tests) in rw a refl

block-not-front : (dsa temp : ℕ) → 0x10000 ≤ dsa → passed_front 0x038 dsa temp ≡ false
block-not-front dsa temp l = let a : (dsa == 0x1200) ≡ false = grind (arith, nat_tests) in rw a refl

start-not-waits : (dsa temp : ℕ) → (temp ≡ 0x060) ⊎ (temp ≡ 0x1F8) → passed_front 0x040 dsa temp ≡ false
start-not-waits dsa temp (inl e) = ap (λ (i : ℕ). passed_front 0x040 dsa i) e
start-not-waits dsa temp (inr e) = ap (λ (i : ℕ). passed_front 0x040 dsa i) e

start-not-passes : (dsa temp : ℕ) → (temp ≡ 0x060) ⊎ (temp ≡ 0x1F8) → passed_slot 0x040 dsa temp ≡ false
start-not-passes dsa temp (inl e) = ap (λ (i : ℕ). passed_slot 0x040 dsa i) e
start-not-passes dsa temp (inr e) = ap (λ (i : ℕ). passed_slot 0x040 dsa i) e

module _ (version : ℕ) (units : List RigUnit) where
  at-spot : (s : Spot) (q : Point) (c : Counts) (w : World) → s ≡ Running q → Holds version units s c w → Holds version units (Running q) c w
  at-spot s q c w e h = subst (λ (i : Spot). Holds version units i c w) e h

  -- a step of the chip on this way
  early : (p : Point) (s : Spot) (c d : Counts) (w new : World) (word : ℕ) (answer : Reply) → is_early p ≡ true → IsNext p s → RunsChip w word answer new → Holds version units (Running p) c w → Holds version units s d new
      → PassesIdle w → PassesIdle new
  unfolding instruction
  early At008 s c d w new word answer e (inl x) run h n i =
      let k = at-spot s At010Idle d new x n in
      let l = loads version units At008 c w h new word answer run 1 Dsa (At 0x1000) (omega arith) refl refl tt in
      record {
        front = λ r j. inl (ap (λ (m : List ℕ). word_at m FRONT) l.quiet.memory ∙ sym (ap (λ (v : Regs). v.dsa) l.regs) ∙ k.stays.4.dsa);
        slot = λ r j. shut passed_slot new.regs 0x010 k.stays.3 refl j;
      }
  early At008 s c d w new word answer e (inr (inl x)) run h n i =
      let k = at-spot s At010Job d new x n in
      on-neither new 0x010 k.stays.3 (ap (λ (a : ℕ). passed_front 0x010 a new.regs.temp) k.stays.4.dsa) refl
  early At008 s c d w new word answer e (inr (inr x)) run h n i =
      let k = at-spot s (At010Sense x.0) d new x.1 n in
      let live = active-live ((tickets_of new.desk).stage x.0) (inr k.works.plays.0.stage) in
      let far : 0x10000 ≤ new.regs.dsa = subst (λ (a : ℕ). 0x10000 ≤ a) (sym k.stays.4.dsa) (k.tickets.block x.0 live).from in
      on-neither new 0x010 k.stays.3 (block-not-idle new.regs.dsa new.regs.temp far) refl
  early At010Idle s c d w new word answer e x run h n i =
      let k = at-spot s At018Idle d new x n in
      let l = loads version units At010Idle c w h new word answer run 2 Temp (FromDsa (pos 0)) (omega arith) refl refl (head-at w.regs.dsa 0x1600 h.stays.4.dsa refl (omega arith)) in
      on-front w new 0x018 l.quiet k.stays.3 refl h.stays.0 (open-at passed_front w.regs 0x010 h.stays.3 (ap (λ (a : ℕ). passed_front 0x010 a w.regs.temp) h.stays.4.dsa)) i
  early At010Job s c d w new word answer e x run h n i =
      let k = at-spot s At018Job d new x n in
      on-neither new 0x018 k.stays.3 (ap (λ (a : ℕ). passed_front 0x018 new.regs.dsa a) k.stays.4.temp) refl
  early (At010Sense t) s c d w new word answer e x run h n i =
      let k = at-spot s (At018Sense t) d new x n in
      on-neither new 0x018 k.stays.3 (ap (λ (a : ℕ). passed_front 0x018 new.regs.dsa a) k.stays.4.temp) refl
  early At018Idle s c d w new word answer e x run h n i =
      let k = at-spot s At020 d new x n in
      on-front w new 0x020 (returns version units At018Idle c w h new word answer run 3 (omega arith) refl refl) k.stays.3 refl h.stays.0
      (open-at passed_front w.regs 0x018 h.stays.3 (ap (λ (a : ℕ). passed_front 0x018 w.regs.dsa a) h.stays.4.temp)) i
  early At018Job s c d w new word answer e x run h n i = late-passes version units s d new (subst Late (sym x) (inr (omega arith))) n
  early (At018Sense t) s c d w new word answer e x run h n i = late-passes version units s d new (subst Late (sym x) (inr (omega arith))) n
  early At020 s c d w new word answer e x run h n i =
      let k = at-spot s At028 d new x n in
      let l = loads version units At020 c w h new word answer run 4 Dsa (At 0x1004) (omega arith) refl refl tt in
      on-front w new 0x028 l.quiet k.stays.3 refl h.stays.0 (open-at passed_front w.regs 0x020 h.stays.3 refl) i
  early At028 s c d w new word answer e x run h n i =
      let k = at-spot s At030 d new x n in
      let l = loads version units At028 c w h new word answer run 5 ScratchB (FromDsa (pos 4)) (omega arith) refl refl (head-start w.regs.dsa c.started h.stays.4.dsa) in
      on-front w new 0x030 l.quiet k.stays.3 refl h.stays.0 (open-at passed_front w.regs 0x028 h.stays.3 refl) i
  early At030 s c d w new word answer e (inl x) run h n i =
      let k = at-spot s At038Idle d new x n in
      let l = loads version units At030 c w h new word answer run 6 Dsa (FromDsa (pos 0)) (omega arith) refl refl (head-start w.regs.dsa c.started h.stays.4.dsa) in
      let to : w.regs.dsa + 0 ≡ word_at w.memory RINGP = omega (arith, h.stays.4.dsa, h.parts.ringp) in
      record {
        front = λ r j. front-on w new l.quiet (i.front h.stays.0 (open-at passed_front w.regs 0x030 h.stays.3 refl));
        slot = λ r j. inl (ap (λ (m : List ℕ). word_at m (word_at m RINGP)) l.quiet.memory ∙ ap (word_at w.memory) (sym to) ∙ sym (ap (λ (v : Regs). v.dsa) l.regs) ∙ k.stays.4.dsa);
      }
  early At030 s c d w new word answer e (inr x) run h n i =
      let k = at-spot s (At038 x.0) d new x.1 n in
      let live = active-live ((tickets_of new.desk).stage x.0) (inl k.works.plays.2.stage) in
      let far : 0x10000 ≤ new.regs.dsa = subst (λ (a : ℕ). 0x10000 ≤ a) (sym k.stays.4.dsa) (k.tickets.block x.0 live).from in
      on-neither new 0x038 k.stays.3 (block-not-front new.regs.dsa new.regs.temp far) (block-not-slot new.regs.dsa new.regs.temp far)
  early At038Idle s c d w new word answer e x run h n i =
      let k = at-spot s At040Idle d new x n in
      let l = loads version units At038Idle c w h new word answer run 7 Temp (FromDsa (pos 0)) (omega arith) refl refl (head-at w.regs.dsa 0x1200 h.stays.4.dsa refl (omega arith)) in
      on-both w new l.quiet h.stays.0 (open-at passed_front w.regs 0x038 h.stays.3 (ap (λ (a : ℕ). passed_front 0x038 a w.regs.temp) h.stays.4.dsa))
      (open-at passed_slot w.regs 0x038 h.stays.3 (ap (λ (a : ℕ). passed_slot 0x038 a w.regs.temp) h.stays.4.dsa)) i
  early (At038 t) s c d w new word answer e x run h n i =
      let k = at-spot s (At040 t x.0) d new x.1 n in
      let start : (new.regs.temp ≡ 0x060) ⊎ (new.regs.temp ≡ 0x1F8) = elim k.works.extra [ inl y ↦ inl (k.stays.4.temp ∙ y) | inr y ↦ inr (k.stays.4.temp ∙ y) ] in
      on-neither new 0x040 k.stays.3 (start-not-waits new.regs.dsa new.regs.temp start) (start-not-passes new.regs.dsa new.regs.temp start)
  early At040Idle s c d w new word answer e x run h n i =
      on-both w new (returns version units At040Idle c w h new word answer run 8 (omega arith) refl refl) h.stays.0 (open-at passed_front w.regs 0x040 h.stays.3 (ap (λ (a : ℕ). passed_front 0x040 w.regs.dsa a) h.stays.4.temp))
      (open-at passed_slot w.regs 0x040 h.stays.3 (ap (λ (a : ℕ). passed_slot 0x040 w.regs.dsa a) h.stays.4.temp)) i
  early (At040 t a) s c d w new word answer e (inl x) run h n i = late-passes version units s d new (subst Late (sym x) (inr (omega arith))) n
  early (At040 t a) s c d w new word answer e (inr x) run h n i = late-passes version units s d new (subst Late (sym x) (inr (omega arith))) n
  early At048 s c d w new word answer e x run h n i = elim (waits version units c w h new word answer run) [ inl z ↦ subst PassesIdle (sym z) i | inr z ↦ beside-passes new z ]
  early _ s c d w new word answer e x run h n i = absurd cc

  -- each step of the chip
  pub chip-passes : (p : Point) (s : Spot) (c d : Counts) (w new : World) (word : ℕ) (answer : Reply) → IsNext p s → RunsChip w word answer new → Holds version units (Running p) c w → Holds version units s d new
      → PassesIdle w → PassesIdle new
  chip-passes p s c d w new word answer x run h n i = by (is_early p) refl
    where
      by : (b : Bool) → is_early p ≡ b → PassesIdle new
      by true e = early p s c d w new word answer e x run h n i
      by false e = late-passes version units s d new (late p s e x) n
