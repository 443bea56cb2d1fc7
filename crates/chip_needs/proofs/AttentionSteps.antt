-- In every world of a run in which the chip runs, ATN is asserted only where a message is to go out.
use Rattle.std.proofs.Common.{arith, ◌≡◌, ◌≢◌, inl, inr, ℕ, pos, ◌+◌, ◌-◌, ◌*◌, ◌<◌, ◌≤◌, ◌==◌, ◌||◌, nat_eq, Bool, true, false, List, Option, Some, None, refl, sym, ap, subst, ◌∙◌}
use Rattle.std.specs.Prelude.{slice_get, if◌then◌else◌}
use Rattle.std.proofs.lemmas.Bool.{false≢true}
use Rattle.std.proofs.lemmas.Bool.Decides.{nat_tests}
use Rattle.rig_types.specs.declared.acts.Act.{Act}
use Rattle.rig_types.specs.declared.acts.ActKind.{ActKind}
use Rattle.rig_types.specs.declared.acts.ActKind.TheVariants.{Abort, Device, Bus}
use Rattle.rig_types.specs.declared.commands.Command.{Command}
use Rattle.rig_types.specs.declared.rig.Unit.{Unit as RigUnit}
use Rattle.rig_types.specs.declared.step.Line.{Line}
use Rattle.rig_types.specs.declared.step.Step.{Step}
use Rattle.rig_types.specs.declared.step.Step.TheVariants as step
use Rattle.host_map.specs.declared.TheConstants.{FRONT_IDLE}
use Rattle.scripts_ops.specs.declared.values.Op.TheVariants as op
use Rattle.driver_script.specs.Script.{instruction}
use Rattle.chip_regs.specs.declared.registers.Cause.{Cause}
use Rattle.chip_regs.specs.declared.registers.Cause.TheVariants.{Sir, Iid, Bf, Ma, Udc, Rst, Sto}
use Rattle.chip_step.specs.Addresses.{place_of}
use Rattle.chip_step.specs.Blocks.{loaded}
use Rattle.chip_step.specs.Step.{after_fetch}
use Rattle.chip_step.specs.declared.outcome.StepEnd.{StepEnd}
use Rattle.desk_law.specs.declared.refused.Refused.{Refused}
use Rattle.desk_law.specs.Desk.{ticket}
use Rattle.desk_law.specs.Rings.{done_ticket}
use Rattle.phase_fix.specs.declared.moves.DataMove.{DataMove}
use Rattle.phase_fix.specs.declared.moves.DataPhase.{DataPhase}
use Rattle.phase_fix.specs.declared.moves.DataPhase.TheVariants.{In, Out}
use Rattle.phase_fix.specs.declared.moves.Entry.{Entry}
use Rattle.phase_fix.specs.declared.moves.Entry.TheVariants.{Segment, Context}
use Rattle.phase_fix.specs.Moves.{context_label, move_at, IsEntry}
use Rattle.phase_fix.proofs.MoveLaws.{move_stands}
use Rattle.bus_law.specs.Bus.{BusState}
use Rattle.world_law.specs.Acts.{ActsOf, acts_by, aborts, marks, device_resets, bus_resets, is_late}
use Rattle.world_law.specs.Builds.{BuildsBy, BuildsOf, refuses, is_tried_again}
use Rattle.world_law.specs.ChipSteps.{chip_of, stop_for, stop_after, RunsChip}
use Rattle.world_law.specs.Enabling.{Enabled}
use Rattle.world_law.specs.Opening.{opened}
use Rattle.world_law.specs.Repairs.{Fixes}
use Rattle.world_law.specs.Runs.{Moment, IsRun, last}
use Rattle.world_law.specs.Steps.{Does, TakesOf}
use Rattle.world_law.specs.World.{BenchSetting, IsBenchSetting, World, command_at, decided, front, live}
use Rattle.world_law.specs.declared.reply.Decided.{Decided}
use Rattle.world_law.specs.declared.reply.Decided.TheVariants as line
use Rattle.world_law.specs.declared.reply.Reply.{Reply}
use Rattle.world_law.specs.declared.reply.Reply.TheVariants as reply
use Rattle.world_law.specs.declared.reply.Stop.{Stop}
use Rattle.world_law.specs.declared.reply.Stop.TheVariants as stop
use Rattle.world_law.proofs.RunLaws.{ends_after}
use Rattle.word_owners.specs.Holds.{Spot, Holds, Running, Mismatched, NotData, Fixed, TimedOut, JobOver, ResetAt, Broken}
use Rattle.word_owners.specs.Nexts.{IsNext}
use Rattle.word_owners.specs.Parts.{Counts}
use Rattle.word_owners.specs.Points.{Point, about, At050, At060, At068, At070, At078, At080, At088, At278, At280, At288, At290, At298, At2A0, At2A8, At440, At448, At450, At458, BehindContext, LeavesContext, Moves, InTargets, InLuns, AtUnit, BehindUnit}
use Rattle.word_owners.specs.Pointers.{move_place}
use Rattle.word_owners.specs.Worlds.{HasBytes}
use Rattle.word_owners.proofs.AllSteps.{chip_steps_hold}
use Rattle.word_owners.proofs.ChipSteps.{row, past}
use Rattle.word_owners.proofs.NextPlaces.{move-high, context-high}
use Rattle.word_owners.proofs.RunningChip.{running}
use Rattle.word_owners.proofs.Worlds.{words_are_owned}
use Rattle.block_words.proofs.RunSteps.{by-steps}
use Rattle.chip_needs.specs.Attention.{asserts_atn, AttentionIsTold}
use Rattle.chip_needs.proofs.Attention.{Ended, Chose, message-moves, message-by, chose, calm-back}

-- ---- at each spot
abbrev Good : Spot → BusState → Type 0
Good (Running q) b = b.atn ≡ true → asserts_atn (about q).place ≡ true
Good NotData b = Unit {0}
Good Broken b = Unit {0}
Good s b = b.atn ≡ true → ⊥

-- a spot of the stop stage Clear
abbrev IsStopped : Spot → Type 0
IsStopped (TimedOut t) = Unit {0}
IsStopped JobOver = Unit {0}
IsStopped s = ⊥

-- the same by the stop stage and the registers
pub record Told (w : World) : Type 0 where
  pub runs : w.stop ≡ stop.Run → w.bus.atn ≡ true → asserts_atn w.regs.dsp ≡ true
  pub waits : w.stop ≡ stop.Clear → w.bus.atn ≡ true → ⊥
  pub repairs : (x : DataMove) → w.stop ≡ stop.Mismatch → move_at (w.regs.dsp - 8) ≡ Some x → w.bus.atn ≡ true → ⊥

pub clash : {R : Type 0} (w : World) (x y : Stop) → w.stop ≡ x → w.stop ≡ y → (x ≡ y → ⊥) → R
clash w x y e f n = absurd (n (sym e ∙ f))

told-at : (version : ℕ) (units : List RigUnit) (s : Spot) (c : Counts) (w : World) → Holds version units s c w → Good s w.bus → Told w
told-at version units (Running q) c w h k = record {
  runs = λ e a. ap asserts_atn h.stays.3 ∙ k a;
  waits = λ e. clash w stop.Clear stop.Run e h.stays.0 (λ z. absurd cc);
  repairs = λ x e. clash w stop.Mismatch stop.Run e h.stays.0 (λ z. absurd cc);
}
told-at version units (Mismatched t x left) c w h k = record {
  runs = λ e. clash w stop.Run stop.Mismatch e h.stays.0 (λ z. absurd cc);
  waits = λ e. clash w stop.Clear stop.Mismatch e h.stays.0 (λ z. absurd cc);
  repairs = λ y e f a. k a;
}
told-at version units NotData c w h k = record {
  runs = λ e. clash w stop.Run stop.Mismatch e h.stays.0 (λ z. absurd cc);
  waits = λ e. clash w stop.Clear stop.Mismatch e h.stays.0 (λ z. absurd cc);
  repairs = λ y e f a. (let z : None ≡ Some y = sym h.stays.3 ∙ f in absurd cc);
}
told-at version units (Fixed t) c w h k = record {
  runs = λ e. clash w stop.Run stop.Clear e h.stays.0 (λ z. absurd cc);
  waits = λ e a. k a;
  repairs = λ x e. clash w stop.Mismatch stop.Clear e h.stays.0 (λ z. absurd cc);
}
told-at version units (TimedOut t) c w h k = record {
  runs = λ e. clash w stop.Run stop.Clear e h.stays.0 (λ z. absurd cc);
  waits = λ e a. k a;
  repairs = λ x e. clash w stop.Mismatch stop.Clear e h.stays.0 (λ z. absurd cc);
}
told-at version units JobOver c w h k = record {
  runs = λ e. clash w stop.Run stop.Clear e h.stays.0 (λ z. absurd cc);
  waits = λ e a. k a;
  repairs = λ x e. clash w stop.Mismatch stop.Clear e h.stays.0 (λ z. absurd cc);
}
told-at version units (ResetAt p) c w h k = record {
  runs = λ e. clash w stop.Run stop.Clear e h.stays.0 (λ z. absurd cc);
  waits = λ e a. k a;
  repairs = λ x e. clash w stop.Mismatch stop.Clear e h.stays.0 (λ z. absurd cc);
}
told-at version units Broken c w h k = record {
  runs = λ e. clash w stop.Run stop.MustReset e h.stays.0 (λ z. absurd cc);
  waits = λ e. clash w stop.Clear stop.MustReset e h.stays.0 (λ z. absurd cc);
  repairs = λ x e. clash w stop.Mismatch stop.MustReset e h.stays.0 (λ z. absurd cc);
}

-- ---- a step of the chip
none-good : (s : Spot) (b : BusState) → (b.atn ≡ true → ⊥) → Good s b
none-good (Running q) b n = λ e. absurd (n e)
none-good NotData b n = tt
none-good Broken b n = tt
none-good (Mismatched t x left) b n = n
none-good (Fixed t) b n = n
none-good (TimedOut t) b n = n
none-good JobOver b n = n
none-good (ResetAt p) b n = n

-- no stop leads to Run
pub not-run : (cause : Cause) → stop_for cause ≡ stop.Run → ⊥
not-run (Sir v) e = by (v == 5) e
  where
    by : (b : Bool) → (if b then stop.Clear else stop.MustReset) ≡ stop.Run → ⊥
    by true z = absurd cc
    by false z = absurd cc
not-run Iid e = absurd cc
not-run Bf e = absurd cc
not-run Ma e = absurd cc
not-run Udc e = absurd cc
not-run Rst e = absurd cc
not-run Sto e = absurd cc

pub data-not : (d : ℕ) → 0x288 < d → d < 0x448 → d ≢ 0x2A0 → asserts_atn d ≡ false
data-not d l g ne = grind (arith, nat_tests)

pub chain-not : (d : ℕ) → 0x8000 ≤ d → asserts_atn d ≡ false
chain-not d l = grind (arith, nat_tests)

pub calm-data : (d : ℕ) → 0x2B8 < d → d < 0x440 → nat_eq d 0x60 || (nat_eq d 0x278 || (nat_eq d 0x298 || nat_eq d 0x440)) ≡ false
calm-data d l g = grind (arith, nat_tests)

pub calm-chain : (d : ℕ) → 0x8000 ≤ d → nat_eq d 0x60 || (nat_eq d 0x278 || (nat_eq d 0x298 || nat_eq d 0x440)) ≡ false
calm-chain d l = grind (arith, nat_tests)

pub move-below : (phase : DataPhase) (e : Entry) → IsEntry e → move_place phase e < 0x440
move-below In (Segment j) h = omega (arith, h)
move-below In (Context k) h = omega (arith, h)
move-below Out (Segment j) h = omega (arith, h)
move-below Out (Context k) h = omega (arith, h)

pub behind-below : (phase : DataPhase) (k : ℕ) → IsEntry (Context k) → move_place phase (Context k) + 8 < 0x440
behind-below In k h = omega (arith, h)
behind-below Out k h = omega (arith, h)

pub label-below : (phase : DataPhase) (k : ℕ) → context_label phase k + 16 < 0x440
label-below In k = by (nat_eq k 0)
  where
    by : (b : Bool) → (if b then 0x3E0 else 0x3F8) + 16 < 0x440
    by true = omega arith
    by false = omega arith
label-below Out k = by (nat_eq k 0)
  where
    by : (b : Bool) → (if b then 0x410 else 0x428) + 16 < 0x440
    by true = omega arith
    by false = omega arith

module _ (version : ℕ) (units : List RigUnit) (c : Counts) (w new : World) (word : ℕ) (answer : Reply) (run : RunsChip w word answer new) (running_is : w.stop ≡ stop.Run) (d : Counts) where
  bus-is : new.bus ≡ run.chip.bus
  bus-is = ap (λ (x : World). x.bus) run.world

  regs-are : new.regs.dsp ≡ run.chip.regs.dsp
  regs-are = ap (λ (x : World). x.regs.dsp) run.world

  stop-is : new.stop ≡ stop_after run.end w.stop
  stop-is = ap (λ (x : World). x.stop) run.world

  -- where the point neither selects nor asserts ATN
  calm-good : (p : Point) → Holds version units (Running p) c w → (w.bus.atn ≡ true → asserts_atn (about p).place ≡ true)
      → nat_eq (about p).place 0x60 || (nat_eq (about p).place 0x278 || (nat_eq (about p).place 0x298 || nat_eq (about p).place 0x440)) ≡ false → asserts_atn (about p).place ≡ false → (q : Spot) → Good q new.bus
  calm-good p h o calm none q = none-good q new.bus (λ e. false≢true (sym none ∙ o (calm-back version units c w new word answer run p calm h (sym (ap (λ (x : BusState). x.atn) bus-is) ∙ e))))

  -- behind a message that was whole
  told-good : (p q : Point) → Ended w.desk.units (live w.desk) run.end run.chip.bus → Holds version units (Running q) d new → Good (Running q) new.bus
  told-good p q (inl f) h e = absurd (false≢true (sym f ∙ sym (ap (λ (x : BusState). x.atn) bus-is) ∙ e))
  told-good p q (inr f) h e = absurd (not-run f.0 (ap (λ (x : StepEnd). stop_after x w.stop) (sym f.1) ∙ sym stop-is ∙ h.stays.0))

  -- behind a selection
  called-good : (p : Point) (k r : ℕ) → Holds version units (Running p) c w → (w.bus.atn ≡ true → asserts_atn (about p).place ≡ true) → asserts_atn (about p).place ≡ false → (about p).place ≡ 8 * k → 0x50 < 8 * k
      → (after_fetch (chip_of w)).regs.dsp ≡ 8 * k + 8 → Chose w.desk.units (live w.desk) (after_fetch (chip_of w)) run.end run.chip → Holds version units (Running (At050 r)) d new → Good (Running (At050 r)) new.bus
  called-good p k r h o none place high past (inl back) n e = absurd (false≢true (sym none ∙ o (back (sym (ap (λ (x : BusState). x.atn) bus-is) ∙ e))))
  called-good p k r h o none place high past (inr went) n e = absurd (omega (arith, n.stays.3, regs-are, went.1, past, high))

  stopped-good : (p : Point) (s : Spot) → IsStopped s → (w.bus.atn ≡ true → asserts_atn (about p).place ≡ true) → asserts_atn (about p).place ≡ false → Chose w.desk.units (live w.desk) (after_fetch (chip_of w)) run.end run.chip
      → new.stop ≡ stop.Clear → Good s new.bus
  stopped-good p s is o none (inl back) n = none-good s new.bus (λ e. false≢true (sym none ∙ o (back (sym (ap (λ (x : BusState). x.atn) bus-is) ∙ e))))
  stopped-good p s is o none (inr went) n = clash new stop.Clear stop.Run n (stop-is ∙ ap (λ (x : StepEnd). stop_after x w.stop) went.0 ∙ running_is) (λ z. absurd cc)

  keeps : (p : Point) → Holds version units (Running p) c w → (w.bus.atn ≡ true → asserts_atn (about p).place ≡ true) → (q : Spot) → IsNext p q → Holds version units q d new → Good q new.bus
  unfolding instruction
  keeps (At068 t) h o q is n = subst (λ (s : Spot). Good s new.bus) (sym is) (λ e. refl)
  keeps (At070 t) h o q is n = subst (λ (s : Spot). Good s new.bus) (sym is) (λ e. refl)
  keeps (At078 t) h o q is n = subst (λ (s : Spot). Good s new.bus) (sym is) (λ e. refl)
  keeps (At448 t) h o q is n = subst (λ (s : Spot). Good s new.bus) (sym is) (λ e. refl)
  keeps (At450 t) h o q is n = subst (λ (s : Spot). Good s new.bus) (sym is) (λ e. refl)
  keeps (At458 t) h o q is n = subst (λ (s : Spot). Good s new.bus) (sym is) (λ e. refl)
  keeps (At278 t) h o q is n = subst (λ (s : Spot). Good s new.bus) (sym is) (λ e. refl)
  keeps (At280 t) h o q is n = subst (λ (s : Spot). Good s new.bus) (sym is) (λ e. refl)
  keeps (At080 t) h o q (inl is) n = subst (λ (s : Spot). Good s new.bus) (sym is)
      (told-good (At080 t) (At088 t) (message-by w.desk.units (live w.desk) word (place_of w.memory (after_fetch (chip_of w)).regs.dsa (pos 0x20) 8) (after_fetch (chip_of w)) run.end run.chip (row version units (At080 t) c w h new word answer run 16 (op.MoveFrom (pos 0x20) 6) (omega arith) refl refl))
      (subst (λ (s : Spot). Holds version units s d new) is n))
  keeps (At080 t) h o q (inr (inl is)) n = subst (λ (s : Spot). Good s new.bus) (sym is) tt
  keeps (At080 t) h o q (inr (inr is)) n = subst (λ (s : Spot). Good s new.bus) (sym is) tt
  keeps (At288 t) h o q (inl is) n = subst (λ (s : Spot). Good s new.bus) (sym is)
      (told-good (At288 t) (At290 t) (message-moves w.desk.units (live w.desk) word (loaded 1 0x1014 (after_fetch (chip_of w))) run.end run.chip (row version units (At288 t) c w h new word answer run 81 (op.Move 1 0x1014 6) (omega arith) refl refl))
      (subst (λ (s : Spot). Holds version units s d new) is n))
  keeps (At288 t) h o q (inr (inl is)) n = subst (λ (s : Spot). Good s new.bus) (sym is) tt
  keeps (At288 t) h o q (inr (inr is)) n = subst (λ (s : Spot). Good s new.bus) (sym is) tt
  keeps At2A0 h o q (inl is) n = subst (λ (s : Spot). Good s new.bus) (sym is)
      (told-good At2A0 At2A8 (message-by w.desk.units (live w.desk) word (place_of w.memory (after_fetch (chip_of w)).regs.dsa (pos 0x20) 8) (after_fetch (chip_of w)) run.end run.chip (row version units At2A0 c w h new word answer run 84 (op.MoveFrom (pos 0x20) 6) (omega arith) refl refl))
      (subst (λ (s : Spot). Holds version units s d new) is n))
  keeps At2A0 h o q (inr (inl is)) n = subst (λ (s : Spot). Good s new.bus) (sym is) tt
  keeps At2A0 h o q (inr (inr is)) n = subst (λ (s : Spot). Good s new.bus) (sym is) tt
  keeps (At060 t) h o q (inl is) n = subst (λ (s : Spot). Good s new.bus) (sym is) (λ e. refl)
  keeps (At060 t) h o q (inr (inl is)) n = subst (λ (s : Spot). Good s new.bus) (sym is.1)
      (called-good (At060 t) 12 is.0 h o refl refl (omega arith) (past version units (At060 t) c w h new word answer run 12 (omega arith) refl) (chose w.desk.units (live w.desk) word 0x50 (place_of w.memory (after_fetch (chip_of w)).regs.dsa (pos 0x18) 4) (after_fetch (chip_of w)) run.end run.chip (row version units (At060 t) c w h new word answer run 12 (op.Select (pos 0x18) 0x50) (omega arith) refl refl))
      (subst (λ (s : Spot). Holds version units s d new) is.1 n))
  keeps (At060 t) h o q (inr (inr is)) n =
      let k : Holds version units (TimedOut t) d new = subst (λ (s : Spot). Holds version units s d new) is n in
      subst (λ (s : Spot). Good s new.bus) (sym is) (stopped-good (At060 t) (TimedOut t) tt o refl (chose w.desk.units (live w.desk) word 0x50 (place_of w.memory (after_fetch (chip_of w)).regs.dsa (pos 0x18) 4) (after_fetch (chip_of w)) run.end run.chip (row version units (At060 t) c w h new word answer run 12 (op.Select (pos 0x18) 0x50) (omega arith) refl refl)) k.stays.0)
  keeps (At440 t) h o q (inl is) n = subst (λ (s : Spot). Good s new.bus) (sym is) (λ e. refl)
  keeps (At440 t) h o q (inr is) n = subst (λ (s : Spot). Good s new.bus) (sym is.1)
      (called-good (At440 t) 136 is.0 h o refl refl (omega arith) (past version units (At440 t) c w h new word answer run 136 (omega arith) refl) (chose w.desk.units (live w.desk) word 0x50 (place_of w.memory (after_fetch (chip_of w)).regs.dsa (pos 0x18) 4) (after_fetch (chip_of w)) run.end run.chip (row version units (At440 t) c w h new word answer run 136 (op.Select (pos 0x18) 0x50) (omega arith) refl refl))
      (subst (λ (s : Spot). Holds version units s d new) is.1 n))
  keeps At298 h o q (inl is) n = subst (λ (s : Spot). Good s new.bus) (sym is) (λ e. refl)
  keeps At298 h o q (inr (inl is)) n = subst (λ (s : Spot). Good s new.bus) (sym is.1)
      (called-good At298 83 is.0 h o refl refl (omega arith) (past version units At298 c w h new word answer run 83 (omega arith) refl) (chose w.desk.units (live w.desk) word 0x50 (place_of w.memory (after_fetch (chip_of w)).regs.dsa (pos 0x18) 4) (after_fetch (chip_of w)) run.end run.chip (row version units At298 c w h new word answer run 83 (op.Select (pos 0x18) 0x50) (omega arith) refl refl))
      (subst (λ (s : Spot). Holds version units s d new) is.1 n))
  keeps At298 h o q (inr (inr is)) n =
      let k : Holds version units JobOver d new = subst (λ (s : Spot). Holds version units s d new) is n in
      subst (λ (s : Spot). Good s new.bus) (sym is) (stopped-good At298 JobOver tt o refl (chose w.desk.units (live w.desk) word 0x50 (place_of w.memory (after_fetch (chip_of w)).regs.dsa (pos 0x18) 4) (after_fetch (chip_of w)) run.end run.chip (row version units At298 c w h new word answer run 83 (op.Select (pos 0x18) 0x50) (omega arith) refl refl)) k.stays.0)
  keeps (Moves t x) h o q is n =
      let entry = (move_stands (move_place x.phase x.entry) x h.works.extra.at).0 in
      let low = move-below x.phase x.entry entry in
      let high = move-high x.phase x.entry in
      calm-good (Moves t x) h o (calm-data (move_place x.phase x.entry) high low) (data-not (move_place x.phase x.entry) (omega (arith, high)) (omega (arith, low)) (λ e. omega (arith, high, e))) q
  keeps (BehindContext t phase k) h o q is n =
      let entry = (move_stands (move_place phase (Context k)) (record { phase = phase; entry = Context k }) h.works.extra.at).0 in
      let low = behind-below phase k entry in
      let high = move-high phase (Context k) in
      calm-good (BehindContext t phase k) h o (calm-data (move_place phase (Context k) + 8) (omega (arith, high)) low) (data-not (move_place phase (Context k) + 8) (omega (arith, high)) (omega (arith, low)) (λ e. omega (arith, high, e))) q
  keeps (LeavesContext t phase j k) h o q is n =
      let low = label-below phase k in
      let high = context-high phase k in
      calm-good (LeavesContext t phase j k) h o (calm-data (context_label phase k + 16) (omega (arith, high)) low) (data-not (context_label phase k + 16) (omega (arith, high)) (omega (arith, low)) (λ e. omega (arith, high, e))) q
  keeps (InTargets r j) h o q is n = calm-good (InTargets r j) h o (calm-chain (about (InTargets r j)).place (omega arith)) (chain-not (about (InTargets r j)).place (omega arith)) q
  keeps (InLuns r j) h o q is n = calm-good (InLuns r j) h o (calm-chain (about (InLuns r j)).place (omega arith)) (chain-not (about (InLuns r j)).place (omega arith)) q
  keeps (AtUnit u r) h o q is n = calm-good (AtUnit u r) h o (calm-chain (about (AtUnit u r)).place (omega arith)) (chain-not (about (AtUnit u r)).place (omega arith)) q
  keeps (BehindUnit u r) h o q is n = calm-good (BehindUnit u r) h o (calm-chain (about (BehindUnit u r)).place (omega arith)) (chain-not (about (BehindUnit u r)).place (omega arith)) q
  keeps p h o q is n = calm-good p h o refl refl q

-- ---- the steps of the driver
module _ (w : World) (h : Told w) where
  of-made : (made new : World) → new ≡ made → Told made → Told new
  of-made made new e k = subst Told (sym e) k

  -- the bus, the stop stage and DSP as before
  same : (new : World) → new.bus.atn ≡ w.bus.atn → new.stop ≡ w.stop → new.regs.dsp ≡ w.regs.dsp → Told new
  same new a s d = record {
    runs = λ e z. ap asserts_atn d ∙ h.runs (sym s ∙ e) (sym a ∙ z);
    waits = λ e z. h.waits (sym s ∙ e) (sym a ∙ z);
    repairs = λ x e f z. h.repairs x (sym s ∙ e) (ap (λ (i : ℕ). move_at (i - 8)) (sym d) ∙ f) (sym a ∙ z);
  }

  silent : (new : World) → (new.bus.atn ≡ true → ⊥) → Told new
  silent new n = record { runs = λ e z. absurd (n z); waits = λ e z. n z; repairs = λ x e f z. n z }

  takes-told : (o : Option ℕ) (new : World) (answer : Reply) → TakesOf o w answer new → Told new
  takes-told None new answer d = absurd d
  takes-told (Some t) new answer d = of-made _ new d.1 (same _ refl refl refl)

  fixes-told : (new : World) → w.stop ≡ stop.Mismatch → Fixes w new → Told new
  fixes-told new s (inl r) = of-made _ new r.world (silent _ (λ z. h.repairs r.move s r.is z))
  fixes-told new s (inr r) = of-made _ new r.1 (record {
    runs = λ e. absurd cc;
    waits = λ e. absurd cc;
    repairs = λ x e. absurd cc;
  })

  marks-told : (late : Bool) (t : ℕ) → Told (marks late w t).world
  marks-told true t = same _ refl refl refl
  marks-told false t = same _ refl refl refl

  aborts-told : (x : Decided) → Told (aborts w x).world
  aborts-told line.Open = same _ refl refl refl
  aborts-told (line.Accepted t) = marks-told (is_late (ticket w.desk t).stage) t
  aborts-told (line.Refused r) = same _ refl refl refl

  device-told : (idle : Bool) (target : ℕ) → Told (device_resets idle w target).world
  device-told true target = same _ refl refl refl
  device-told false target = h

  bus-told : (x : Stop) → Told (bus_resets x w).world
  bus-told stop.Run = silent _ (λ z. absurd cc)
  bus-told stop.Mismatch = h
  bus-told stop.Clear = h
  bus-told stop.MustReset = silent _ (λ z. absurd cc)

  acts-told : (k : ActKind) → Told (acts_by w k).world
  acts-told (Abort l) = aborts-told (decided w l)
  acts-told (Device target) = device-told (front w == FRONT_IDLE) target
  acts-told Bus = bus-told w.stop

  acted-told : (o : Option Act) (new : World) (answer : Reply) → ActsOf o w answer new → Told new
  acted-told None new answer d = absurd d
  acted-told (Some a) new answer d = of-made _ new d.1 (acts-told a.kind)

  refuses-told : (again : Bool) (l : Line) (r : Refused) → Told (refuses again w l r)
  refuses-told true l r = h
  refuses-told false l r = same _ refl refl refl

  builds-by : (new : World) (l : Line) (c : Command) (answer : Reply) → BuildsBy w l c answer new → Told new
  builds-by new l c (reply.Built t) d = of-made _ new d.world (same _ refl refl refl)
  builds-by new l c (reply.Refused r) d = of-made _ new d.1 (refuses-told (is_tried_again c.when_full r) l r)
  builds-by new l c _ d = absurd d

  builds-of : (o : Option Command) (new : World) (l : Line) (answer : Reply) → BuildsOf o w l answer new → Told new
  builds-of None new l answer d = absurd d
  builds-of (Some c) new l answer d = builds-by new l c answer d

-- ---- each step of a run
step-told : (g : BenchSetting) → IsBenchSetting g → HasBytes g → (ms : List Moment) → IsRun g (opened g) ms → (caller : ℕ) (s : Step) (answer : Reply) (new : World) → Enabled g (last (opened g) ms) caller s → Does g (last (opened g) ms) caller s answer new
    → Told (last (opened g) ms) → Told new
step-told g setting bytes ms r caller (step.Build l) answer new may d h = builds-of (last (opened g) ms) h (command_at g l) new l answer d
step-told g setting bytes ms r caller (step.Chip word) answer new may d h =
    let w = last (opened g) ms in
    let own = words_are_owned g setting bytes ms r in
    let k = running g.version g.units own.spot own.counts w may.1 own.holds in
    let x = chip_steps_hold g.version g.units k.0 own.counts w new word answer own.answering d k.1 in
    told-at g.version g.units x.spot x.counts new x.holds
    (keeps g.version g.units own.counts w new word answer d may.1 x.counts k.0 k.1 (λ e. ap asserts_atn (sym k.1.stays.3) ∙ h.runs may.1 e) x.spot x.is x.holds)
step-told g setting bytes ms r caller (step.Link t) answer new may d h = of-made (last (opened g) ms) h _ new d.1 (same (last (opened g) ms) h _ refl refl refl)
step-told g setting bytes ms r caller (step.Queue t) answer new may d h = of-made (last (opened g) ms) h _ new d.1 (same (last (opened g) ms) h _ refl refl refl)
step-told g setting bytes ms r caller step.Signal answer new may d h = of-made (last (opened g) ms) h _ new d.1 (same (last (opened g) ms) h _ refl refl refl)
step-told g setting bytes ms r caller step.Fix answer new may d h = fixes-told (last (opened g) ms) h new may.1 d.1
step-told g setting bytes ms r caller (step.Sweep t) answer new may d h = of-made (last (opened g) ms) h _ new d.1 (same (last (opened g) ms) h _ refl refl refl)
step-told g setting bytes ms r caller step.Restart answer new may d h = of-made (last (opened g) ms) h _ new d.1 (silent (last (opened g) ms) h _ (λ z. h.waits may.1 z))
step-told g setting bytes ms r caller step.TakeDone answer new may d h = takes-told (last (opened g) ms) h (done_ticket (last (opened g) ms).memory (last (opened g) ms).desk) new answer d
step-told g setting bytes ms r caller (step.Unlink t) answer new may d h = of-made (last (opened g) ms) h _ new d.1 (same (last (opened g) ms) h _ refl refl refl)
step-told g setting bytes ms r caller (step.Free t) answer new may d h = of-made (last (opened g) ms) h _ new d.world (same (last (opened g) ms) h _ refl refl refl)
step-told g setting bytes ms r caller (step.Act k) answer new may d h = acted-told (last (opened g) ms) h (slice_get g.acts k) new answer d
step-told g setting bytes ms r caller step.ResetBus answer new may d h = of-made (last (opened g) ms) h _ new d.1 (silent (last (opened g) ms) h _ (λ z. absurd cc))
step-told g setting bytes ms r caller (step.Sense t) answer new may d h = of-made (last (opened g) ms) h _ new d.1 (same (last (opened g) ms) h _ refl refl refl)

pub told : (g : BenchSetting) → IsBenchSetting g → HasBytes g → (ms : List Moment) → IsRun g (opened g) ms → Told (last (opened g) ms)
told g setting bytes = by-steps g (λ (ms : List Moment). Told (last (opened g) ms)) (record { runs = λ e z. absurd cc; waits = λ e z. absurd cc; repairs = λ x e f z. absurd cc })
    (λ ms m r s h. subst Told (sym (ends_after (opened g) ms m)) (step-told g setting bytes ms r m.entry.caller m.entry.step m.reply m.after s.enabled s.does h))

pub attention-is-told : AttentionIsTold
attention-is-told g setting bytes ms r e z = (told g setting bytes ms r).runs e z
