-- What is connected behind a selection: each step of a run keeps what is told of it.
use Rattle.std.proofs.Common.{arith, ◌≡◌, ◌≢◌, ◌⊎◌, inl, inr, ℕ, pos, ◌+◌, ◌*◌, ◌<◌, ◌==◌, ◌||◌, nat_eq, ◌%◌, Bool, true, false, List, length, slice_set, MatchBool, Option, Some, None, refl, sym, ap, subst, ◌∙◌}
use Rattle.std.specs.Prelude.{slice_get}
use Rattle.std.proofs.lemmas.Bool.{false≢true}
use Rattle.rig_types.specs.declared.acts.Act.{Act}
use Rattle.rig_types.specs.declared.acts.ActKind.{ActKind}
use Rattle.rig_types.specs.declared.acts.ActKind.TheVariants.{Abort, Device, Bus}
use Rattle.rig_types.specs.declared.commands.Command.{Command}
use Rattle.rig_types.specs.declared.rig.Unit.{Unit as RigUnit}
use Rattle.rig_types.specs.declared.step.Line.{Line}
use Rattle.rig_types.specs.declared.step.Step.{Step}
use Rattle.rig_types.specs.declared.step.Step.TheVariants as step
use Rattle.host_map.specs.declared.TheConstants.{FRONT_IDLE}
use Rattle.scripts_ops.specs.declared.values.Op.TheVariants as op
use Rattle.driver_script.specs.Script.{instruction}
use Rattle.chip_regs.specs.declared.registers.Cause.{Cause}
use Rattle.chip_regs.specs.declared.registers.Cause.TheVariants.{Iid, Bf}
use Rattle.chip_step.specs.Addresses.{place_of, low_bits, address_of}
use Rattle.chip_step.specs.Blocks.{loaded}
use Rattle.chip_step.specs.Step.{after_fetch}
use Rattle.chip_step.specs.declared.outcome.StepEnd.{StepEnd}
use Rattle.desk_law.specs.declared.refused.Refused.{Refused}
use Rattle.desk_law.specs.Desk.{ticket, unit}
use Rattle.desk_law.specs.Rings.{done_ticket}
use Rattle.phase_fix.specs.declared.moves.Entry.TheVariants.{Context}
use Rattle.phase_fix.specs.Moves.{context_label}
use Rattle.phase_fix.proofs.MoveLaws.{move_stands}
use Rattle.bus_law.specs.Bus.{BusState}
use Rattle.world_law.specs.Acts.{ActsOf, acts_by, aborts, marks, device_resets, bus_resets, is_late}
use Rattle.world_law.specs.Builds.{BuildsBy, BuildsOf, refuses, is_tried_again}
use Rattle.world_law.specs.ChipSteps.{chip_of, stop_after, RunsChip}
use Rattle.world_law.specs.Enabling.{Enabled}
use Rattle.world_law.specs.Opening.{opened}
use Rattle.world_law.specs.Repairs.{Fixes}
use Rattle.world_law.specs.Runs.{Moment, IsRun, last}
use Rattle.world_law.specs.Steps.{Does, TakesOf}
use Rattle.world_law.specs.World.{BenchSetting, IsBenchSetting, World, command_at, decided, front, live}
use Rattle.world_law.specs.declared.reply.Decided.{Decided}
use Rattle.world_law.specs.declared.reply.Decided.TheVariants as line
use Rattle.world_law.specs.declared.reply.Reply.{Reply}
use Rattle.world_law.specs.declared.reply.Reply.TheVariants as reply
use Rattle.world_law.specs.declared.reply.Stop.{Stop}
use Rattle.world_law.specs.declared.reply.Stop.TheVariants as stop
use Rattle.world_law.proofs.RunLaws.{ends_after}
use Rattle.word_owners.specs.Holds.{Spot, Holds, Running}
use Rattle.word_owners.specs.Nexts.{IsNext}
use Rattle.word_owners.specs.Parts.{Counts}
use Rattle.word_owners.specs.Points.{Point, about, At060, At068, At070, At078, At080, At278, At280, At288, At298, At2A0, At440, At448, At450, At458, BehindContext, LeavesContext, Moves, InTargets, InLuns, AtUnit, BehindUnit}
use Rattle.word_owners.specs.Pointers.{move_place}
use Rattle.word_owners.specs.Worlds.{HasBytes}
use Rattle.word_owners.proofs.AllSteps.{chip_steps_hold}
use Rattle.word_owners.proofs.ChipSteps.{row}
use Rattle.word_owners.proofs.NextPlaces.{move-high, context-high}
use Rattle.word_owners.proofs.RunningChip.{running}
use Rattle.word_owners.proofs.Worlds.{words_are_owned}
use Rattle.block_words.proofs.RunSteps.{by-steps}
use Rattle.chip_needs.specs.Attention.{asserts_atn}
use Rattle.chip_needs.specs.Greeting.{IsGreeted, AreGreeted, GreetingsAreTold}
use Rattle.chip_needs.proofs.AttentionSteps.{Told, told, not-run, data-not, chain-not, calm-data, calm-chain, move-below, behind-below, label-below}
use Rattle.chip_needs.proofs.Attention.{Ended, message-moves, message-by, calm-back, call-atn}
use Rattle.bench_words.specs.Memory.{word_at}
use Rattle.std.proofs.lemmas.Bool.{cases_lt}
use Rattle.std.proofs.lemmas.List.{get_or-set_same, get_or_past, length-set}
use Rattle.scripts_ops.specs.declared.values.Op.{Op}
use Rattle.scripts_ops.specs.declared.values.Condition.TheVariants as condition
use Rattle.chip_regs.specs.declared.registers.Regs.{Regs}
use Rattle.chip_step.specs.Chip.{Chip, Stops}
use Rattle.chip_step.specs.Connection.{with_table, SettlesAs, SelectsBy}
use Rattle.chip_step.specs.Event as event
use Rattle.chip_step.specs.Event.{Event}
use Rattle.chip_step.specs.Instructions.{Does as Row}
use Rattle.chip_step.specs.Memory.{LoadsAt, StoresAt}
use Rattle.chip_step.specs.declared.scsi_bus.Settled.{Settled}
use Rattle.chip_step.specs.declared.scsi_bus.Settled.TheVariants as settled_as
use Rattle.target_law.specs.declared.nexus.Nexus.{Nexus}
use Rattle.target_law.specs.Calls.{selected_by, is_rogue}
use Rattle.target_law.specs.Devices.{DeviceState}
use Rattle.target_law.specs.Target.{Target}
use Rattle.bus_law.specs.Bus.{device_at, no_device, with_device}
use Rattle.bus_law.specs.Moves.{moves}
use Rattle.bus_law.specs.Rooms.{with_room_at}
use Rattle.bus_law.specs.Reselections.{Candidate, candidate_named, can_select, settles, selected, device_selected, after_selection}
use Rattle.bus_events.proofs.MadeRooms.{room-is-made}
use Rattle.std.proofs.lemmas.Option.{same_Some}

-- ---- a selection
greeted-by : (b : Bool) → IsGreeted (selected_by b)
greeted-by true = tt
greeted-by false = refl

selects-greeted : (b : BusState) (id : ℕ) → AreGreeted (selected b id)
selects-greeted b id j e = subst (λ (k : ℕ). IsGreeted (device_at (with_device b id (device_selected (device_at b id))) k).target.link) (same_Some id j e)
    (elim (cases_lt id (length b.devices)) [
      | inl l ↦ subst (λ (x : DeviceState). IsGreeted x.target.link) (sym (get_or-set_same b.devices id (device_selected (device_at b id)) no_device l)) (greeted-by (is_rogue (device_at b id).target))
      | inr l ↦ subst (λ (x : DeviceState). IsGreeted x.target.link) (sym (get_or_past (slice_set b.devices id (device_selected (device_at b id))) id no_device (omega (arith, l, length-set b.devices id (device_selected (device_at b id)))))) tt
    ])

pub settled-greeted : (o : Option Candidate) (there : Bool) (id word : ℕ) (b : BusState) → settled_as.Selected ≡ settles o there → AreGreeted (after_selection o there id word b)
settled-greeted (Some c) there id word b e = absurd cc
settled-greeted None true id word b e = selects-greeted b id
settled-greeted None false id word b e = absurd cc

pub by_bool : (P Q C : Type 0) (b : Bool) → (P → C) → (Q → C) → MatchBool b P Q → C
by_bool P Q C true f g h = f h
by_bool P Q C false f g h = g h

module _ (units : List RigUnit) (live_at : ℕ → Nexus → Option ℕ) where
  abbrev calls : BusState → Event → BusState → Type 0
  calls = moves units live_at

  -- SELECT leaves ATN, or selects
  abbrev Selects : Chip BusState → StepEnd → Chip BusState → Type 0
  Selects old end new = (new.bus.atn ≡ true → old.bus.atn ≡ true) ⊎ AreGreeted new.bus

  none-called : (cause : Cause) (old : Chip BusState) (end : StepEnd) (new : Chip BusState) → Stops cause old end new → Selects old end new
  none-called cause old end new s = inl (λ z. sym (ap (λ (b : BusState). b.atn) s.bus_is) ∙ z)

  settled : (word : ℕ) (s : Settled) (alternate : ℕ) (r : Regs) (old : Chip BusState) (end : StepEnd) (new : Chip BusState) → SettlesAs calls word s alternate r old end new → Selects old end new
  settled word settled_as.Selected alternate r old end new d =
      inr (subst AreGreeted (sym d.2) (λ i c. (let k : AreGreeted d.0 = subst AreGreeted (sym d.1.1) (settled-greeted (candidate_named units old.bus word) (can_select old.bus r.sdid) r.sdid word old.bus d.1.0) in k i c)))
  settled word (settled_as.Reselected by) alternate r old end new d = inl (call-atn units live_at old.bus (event.Select r.sdid word (settled_as.Reselected by)) new.bus tt d.0)
  settled word settled_as.TimedOut alternate r old end new d = inl (call-atn units live_at old.bus (event.Select r.sdid word settled_as.TimedOut) new.bus tt d.0)

  selects-by : (word : ℕ) (place : Option ℕ) (alternate : ℕ) (old : Chip BusState) (end : StepEnd) (new : Chip BusState) → SelectsBy calls word place alternate old end new → Selects old end new
  selects-by word None alternate old end new d = none-called Bf old end new d
  selects-by word (Some e) alternate old end new d = settled word d.0 alternate (with_table (word_at old.memory e) old.regs) old end new d.1

  selects : (word alternate : ℕ) (place : Option ℕ) (old : Chip BusState) (end : StepEnd) (new : Chip BusState) → MatchBool old.regs.con (Stops Iid old end new) (SelectsBy calls word place alternate old end new) → Selects old end new
  selects word alternate place old end new d = by_bool _ _ (Selects old end new) old.regs.con (none-called Iid old end new) (selects-by word place alternate old end new) d

  -- ---- an instruction that calls nothing
  abbrev pub is_silent : Op → Bool
  is_silent (op.Load r n place) = true
  is_silent (op.Store r n place) = true
  is_silent (op.Jump condition.Always a) = true
  is_silent _ = false

  loads-silent : (o : Option ℕ) (r n : ℕ) (old : Chip BusState) (end : StepEnd) (new : Chip BusState) → LoadsAt o r n old end new → new.bus ≡ old.bus
  loads-silent None r n old end new h = h.bus_is
  loads-silent (Some a) r n old end new h = h.bus_is

  stores-silent : (o : Option ℕ) (r n : ℕ) (old : Chip BusState) (end : StepEnd) (new : Chip BusState) → StoresAt o r n old end new → new.bus ≡ old.bus
  stores-silent None r n old end new h = h.bus_is
  stores-silent (Some a) r n old end new h = h.bus_is

  pub silent-op : (word : ℕ) (x : Op) → is_silent x ≡ true → (before old : Chip BusState) (end : StepEnd) (new : Chip BusState) → Row calls word x before old end new → new.bus ≡ old.bus
  silent-op word (op.Load r n place) e before old end new h = by_bool _ _ (new.bus ≡ old.bus) (nat_eq (low_bits old.regs.dsa place) (r % 4)) (loads-silent (address_of old.memory old.regs.dsa place n) r n old end new) (λ (s : Stops Iid old end new). s.bus_is) h
  silent-op word (op.Store r n place) e before old end new h = by_bool _ _ (new.bus ≡ old.bus) (nat_eq (low_bits old.regs.dsa place) (r % 4)) (stores-silent (address_of old.memory old.regs.dsa place n) r n old end new) (λ (s : Stops Iid old end new). s.bus_is) h
  silent-op word (op.Jump condition.Always a) e before old end new h = h.decides.1
  silent-op word x e before old end new h = absurd (false≢true e)

-- ---- a step of the chip
abbrev Greets : World → Type 0
Greets w = w.stop ≡ stop.Run → w.bus.atn ≡ true → w.regs.dsp ≢ 0x280 → w.regs.dsp ≢ 0x288 → AreGreeted w.bus

module _ (version : ℕ) (units : List RigUnit) (c : Counts) (w new : World) (word : ℕ) (answer : Reply) (run : RunsChip w word answer new) (running_is : w.stop ≡ stop.Run) (d : Counts) (told_before : w.bus.atn ≡ true → asserts_atn w.regs.dsp ≡ true) (greets_before : Greets w) where
  bus-is : new.bus ≡ run.chip.bus
  bus-is = ap (λ (x : World). x.bus) run.world

  regs-are : new.regs.dsp ≡ run.chip.regs.dsp
  regs-are = ap (λ (x : World). x.regs.dsp) run.world

  stop-is : new.stop ≡ stop_after run.end w.stop
  stop-is = ap (λ (x : World). x.stop) run.world

  atn-is : run.chip.bus.atn ≡ new.bus.atn
  atn-is = ap (λ (x : BusState). x.atn) (sym bus-is)

  old-told : (p : Point) → Holds version units (Running p) c w → w.bus.atn ≡ true → asserts_atn (about p).place ≡ true
  old-told p h e = ap asserts_atn (sym h.stays.3) ∙ told_before e

  none-asserted : (p : Point) → Holds version units (Running p) c w → asserts_atn (about p).place ≡ false → w.bus.atn ≡ true → ⊥
  none-asserted p h none e = false≢true (sym none ∙ old-told p h e)

  calm-greets : (p : Point) → Holds version units (Running p) c w
      → nat_eq (about p).place 0x60 || (nat_eq (about p).place 0x278 || (nat_eq (about p).place 0x298 || nat_eq (about p).place 0x440)) ≡ false → asserts_atn (about p).place ≡ false → Greets new
  calm-greets p h calm none e a = absurd (none-asserted p h none (calm-back version units c w new word answer run p calm h (atn-is ∙ a)))

  -- behind a message that was whole
  told-greets : Ended w.desk.units (live w.desk) run.end run.chip.bus → Greets new
  told-greets (inl f) e a = absurd (false≢true (sym f ∙ atn-is ∙ a))
  told-greets (inr f) e a = absurd (not-run f.0 (ap (λ (x : StepEnd). stop_after x w.stop) (sym f.1) ∙ sym stop-is ∙ e))

  select-greets : (p : Point) → Holds version units (Running p) c w → asserts_atn (about p).place ≡ false → Selects w.desk.units (live w.desk) (after_fetch (chip_of w)) run.end run.chip → Greets new
  select-greets p h none (inl back) e a = absurd (none-asserted p h none (back (atn-is ∙ a)))
  select-greets p h none (inr k) e a = λ x y. subst AreGreeted (sym bus-is) k

  -- an instruction that calls nothing, with the target greeted before
  quiet-greets : (p : Point) (k : ℕ) → Holds version units (Running p) c w → k < 151 → (about p).place ≡ 8 * k → is_silent w.desk.units (live w.desk) (instruction k version) ≡ true → (about p).place ≢ 0x280 → (about p).place ≢ 0x288 → Greets new
  quiet-greets p k h l place s x y e a =
      let same : run.chip.bus ≡ w.bus = silent-op w.desk.units (live w.desk) word (instruction k version) s (chip_of w) (after_fetch (chip_of w)) run.end run.chip (row version units p c w h new word answer run k (instruction k version) l place refl) in
      λ u v. subst AreGreeted (sym (bus-is ∙ same)) (greets_before running_is (ap (λ (b : BusState). b.atn) (sym (bus-is ∙ same)) ∙ a) (λ z. x (sym h.stays.3 ∙ z)) (λ z. y (sym h.stays.3 ∙ z)))

  at-280 : (t : ℕ) → Holds version units (Running (At280 t)) d new → Greets new
  at-280 t n e a x = absurd (x n.stays.3)

  at-288 : (t : ℕ) → Holds version units (Running (At288 t)) d new → Greets new
  at-288 t n e a x y = absurd (y n.stays.3)

  keeps : (p : Point) → Holds version units (Running p) c w → (q : Spot) → IsNext p q → Holds version units q d new → Greets new
  unfolding instruction
  keeps (At068 t) h q is n = quiet-greets (At068 t) 13 h (omega arith) refl refl (λ e. omega (arith, e)) (λ e. omega (arith, e))
  keeps (At070 t) h q is n = quiet-greets (At070 t) 14 h (omega arith) refl refl (λ e. omega (arith, e)) (λ e. omega (arith, e))
  keeps (At078 t) h q is n = quiet-greets (At078 t) 15 h (omega arith) refl refl (λ e. omega (arith, e)) (λ e. omega (arith, e))
  keeps (At448 t) h q is n = quiet-greets (At448 t) 137 h (omega arith) refl refl (λ e. omega (arith, e)) (λ e. omega (arith, e))
  keeps (At450 t) h q is n = quiet-greets (At450 t) 138 h (omega arith) refl refl (λ e. omega (arith, e)) (λ e. omega (arith, e))
  keeps (At458 t) h q is n = quiet-greets (At458 t) 139 h (omega arith) refl refl (λ e. omega (arith, e)) (λ e. omega (arith, e))
  keeps (At278 t) h q is n = at-280 t (subst (λ (s : Spot). Holds version units s d new) is n)
  keeps (At280 t) h q is n = at-288 t (subst (λ (s : Spot). Holds version units s d new) is n)
  keeps (At080 t) h q is n = told-greets (message-by w.desk.units (live w.desk) word (place_of w.memory (after_fetch (chip_of w)).regs.dsa (pos 0x20) 8) (after_fetch (chip_of w)) run.end run.chip (row version units (At080 t) c w h new word answer run 16 (op.MoveFrom (pos 0x20) 6) (omega arith) refl refl))
  keeps (At288 t) h q is n = told-greets (message-moves w.desk.units (live w.desk) word (loaded 1 0x1014 (after_fetch (chip_of w))) run.end run.chip (row version units (At288 t) c w h new word answer run 81 (op.Move 1 0x1014 6) (omega arith) refl refl))
  keeps At2A0 h q is n = told-greets (message-by w.desk.units (live w.desk) word (place_of w.memory (after_fetch (chip_of w)).regs.dsa (pos 0x20) 8) (after_fetch (chip_of w)) run.end run.chip (row version units At2A0 c w h new word answer run 84 (op.MoveFrom (pos 0x20) 6) (omega arith) refl refl))
  keeps (At060 t) h q is n = select-greets (At060 t) h refl (selects w.desk.units (live w.desk) word 0x50 (place_of w.memory (after_fetch (chip_of w)).regs.dsa (pos 0x18) 4) (after_fetch (chip_of w)) run.end run.chip (row version units (At060 t) c w h new word answer run 12 (op.Select (pos 0x18) 0x50) (omega arith) refl refl))
  keeps (At440 t) h q is n = select-greets (At440 t) h refl (selects w.desk.units (live w.desk) word 0x50 (place_of w.memory (after_fetch (chip_of w)).regs.dsa (pos 0x18) 4) (after_fetch (chip_of w)) run.end run.chip (row version units (At440 t) c w h new word answer run 136 (op.Select (pos 0x18) 0x50) (omega arith) refl refl))
  keeps At298 h q is n = select-greets At298 h refl (selects w.desk.units (live w.desk) word 0x50 (place_of w.memory (after_fetch (chip_of w)).regs.dsa (pos 0x18) 4) (after_fetch (chip_of w)) run.end run.chip (row version units At298 c w h new word answer run 83 (op.Select (pos 0x18) 0x50) (omega arith) refl refl))
  keeps (Moves t x) h q is n =
      let entry = (move_stands (move_place x.phase x.entry) x h.works.extra.at).0 in
      let low = move-below x.phase x.entry entry in
      let high = move-high x.phase x.entry in
      calm-greets (Moves t x) h (calm-data (move_place x.phase x.entry) high low) (data-not (move_place x.phase x.entry) (omega (arith, high)) (omega (arith, low)) (λ e. omega (arith, high, e)))
  keeps (BehindContext t phase k) h q is n =
      let entry = (move_stands (move_place phase (Context k)) (record { phase = phase; entry = Context k }) h.works.extra.at).0 in
      let low = behind-below phase k entry in
      let high = move-high phase (Context k) in
      calm-greets (BehindContext t phase k) h (calm-data (move_place phase (Context k) + 8) (omega (arith, high)) low) (data-not (move_place phase (Context k) + 8) (omega (arith, high)) (omega (arith, low)) (λ e. omega (arith, high, e)))
  keeps (LeavesContext t phase j k) h q is n =
      let low = label-below phase k in
      let high = context-high phase k in
      calm-greets (LeavesContext t phase j k) h (calm-data (context_label phase k + 16) (omega (arith, high)) low) (data-not (context_label phase k + 16) (omega (arith, high)) (omega (arith, low)) (λ e. omega (arith, high, e)))
  keeps (InTargets r j) h q is n = calm-greets (InTargets r j) h (calm-chain (about (InTargets r j)).place (omega arith)) (chain-not (about (InTargets r j)).place (omega arith))
  keeps (InLuns r j) h q is n = calm-greets (InLuns r j) h (calm-chain (about (InLuns r j)).place (omega arith)) (chain-not (about (InLuns r j)).place (omega arith))
  keeps (AtUnit u r) h q is n = calm-greets (AtUnit u r) h (calm-chain (about (AtUnit u r)).place (omega arith)) (chain-not (about (AtUnit u r)).place (omega arith))
  keeps (BehindUnit u r) h q is n = calm-greets (BehindUnit u r) h (calm-chain (about (BehindUnit u r)).place (omega arith)) (chain-not (about (BehindUnit u r)).place (omega arith))
  keeps p h q is n = calm-greets p h refl refl

-- ---- the steps of the driver
record Welcomes (w : World) : Type 0 where
  greets : Greets w

module _ (w : World) (k : Told w) (h : Welcomes w) where
  of-made : (made new : World) → new ≡ made → Welcomes made → Welcomes new
  of-made made new e g = subst Welcomes (sym e) g

  -- the bus, the stop stage and DSP as before
  same : (new : World) → new.bus ≡ w.bus → new.stop ≡ w.stop → new.regs.dsp ≡ w.regs.dsp → Welcomes new
  same new a s d = record { greets = λ e z x y. subst AreGreeted (sym a) (h.greets (sym s ∙ e) (ap (λ (b : BusState). b.atn) (sym a) ∙ z) (λ q. x (d ∙ q)) (λ q. y (d ∙ q))) }

  -- with room made in logs
  roomy : (new : World) (i : ℕ) → new.bus ≡ with_room_at w.bus i → new.stop ≡ w.stop → new.regs.dsp ≡ w.regs.dsp → Welcomes new
  roomy new i a s d = record {
    greets = λ e z x y.
        subst AreGreeted (sym a) (λ j c. subst (λ (f : ℕ → Target). IsGreeted (f j).link) (sym (room-is-made.same w.bus i))
        (h.greets (sym s ∙ e) (ap (λ (b : BusState). b.atn) (sym a) ∙ z) (λ q. x (d ∙ q)) (λ q. y (d ∙ q)) j c));
  }

  silent : (new : World) → (new.bus.atn ≡ true → ⊥) → Welcomes new
  silent new n = record { greets = λ e z. absurd (n z) }

  takes-greets : (o : Option ℕ) (new : World) (answer : Reply) → TakesOf o w answer new → Welcomes new
  takes-greets None new answer d = absurd d
  takes-greets (Some t) new answer d = of-made _ new d.1 (same _ refl refl refl)

  fixes-greets : (new : World) → w.stop ≡ stop.Mismatch → Fixes w new → Welcomes new
  fixes-greets new s (inl r) = of-made _ new r.world (silent _ (λ z. k.repairs r.move s r.is z))
  fixes-greets new s (inr r) = of-made _ new r.1 (record { greets = λ e. absurd cc })

  marks-greets : (late : Bool) (t : ℕ) → Welcomes (marks late w t).world
  marks-greets true t = same _ refl refl refl
  marks-greets false t = same _ refl refl refl

  aborts-greets : (x : Decided) → Welcomes (aborts w x).world
  aborts-greets line.Open = same _ refl refl refl
  aborts-greets (line.Accepted t) = marks-greets (is_late (ticket w.desk t).stage) t
  aborts-greets (line.Refused r) = same _ refl refl refl

  device-greets : (idle : Bool) (target : ℕ) → Welcomes (device_resets idle w target).world
  device-greets true target = roomy (device_resets true w target).world target refl refl refl
  device-greets false target = h

  bus-greets : (x : Stop) → Welcomes (bus_resets x w).world
  bus-greets stop.Run = silent _ (λ z. absurd cc)
  bus-greets stop.Mismatch = h
  bus-greets stop.Clear = h
  bus-greets stop.MustReset = silent _ (λ z. absurd cc)

  acts-greets : (x : ActKind) → Welcomes (acts_by w x).world
  acts-greets (Abort l) = aborts-greets (decided w l)
  acts-greets (Device target) = device-greets (front w == FRONT_IDLE) target
  acts-greets Bus = bus-greets w.stop

  acted-greets : (o : Option Act) (new : World) (answer : Reply) → ActsOf o w answer new → Welcomes new
  acted-greets None new answer d = absurd d
  acted-greets (Some a) new answer d = of-made _ new d.1 (acts-greets a.kind)

  refuses-greets : (again : Bool) (l : Line) (r : Refused) → Welcomes (refuses again w l r)
  refuses-greets true l r = h
  refuses-greets false l r = same _ refl refl refl

  builds-by : (new : World) (l : Line) (c : Command) (answer : Reply) → BuildsBy w l c answer new → Welcomes new
  builds-by new l c (reply.Built t) d = of-made _ new d.world (roomy _ (unit w.desk c.request.unit).target refl refl refl)
  builds-by new l c (reply.Refused r) d = of-made _ new d.1 (refuses-greets (is_tried_again c.when_full r) l r)
  builds-by new l c _ d = absurd d

  builds-of : (o : Option Command) (new : World) (l : Line) (answer : Reply) → BuildsOf o w l answer new → Welcomes new
  builds-of None new l answer d = absurd d
  builds-of (Some c) new l answer d = builds-by new l c answer d

-- ---- each step of a run
step-greets : (g : BenchSetting) → IsBenchSetting g → HasBytes g → (ms : List Moment) → IsRun g (opened g) ms → (caller : ℕ) (s : Step) (answer : Reply) (new : World) → Enabled g (last (opened g) ms) caller s → Does g (last (opened g) ms) caller s answer new
    → Told (last (opened g) ms) → Welcomes (last (opened g) ms) → Welcomes new
step-greets g setting bytes ms r caller (step.Build l) answer new may d k h = builds-of (last (opened g) ms) k h (command_at g l) new l answer d
step-greets g setting bytes ms r caller (step.Chip word) answer new may d k h =
    let w = last (opened g) ms in
    let own = words_are_owned g setting bytes ms r in
    let at = running g.version g.units own.spot own.counts w may.1 own.holds in
    let x = chip_steps_hold g.version g.units at.0 own.counts w new word answer own.answering d at.1 in
    record { greets = keeps g.version g.units own.counts w new word answer d may.1 x.counts (k.runs may.1) h.greets at.0 at.1 x.spot x.is x.holds }
step-greets g setting bytes ms r caller (step.Link t) answer new may d k h = of-made (last (opened g) ms) k h _ new d.1 (same (last (opened g) ms) k h _ refl refl refl)
step-greets g setting bytes ms r caller (step.Queue t) answer new may d k h = of-made (last (opened g) ms) k h _ new d.1 (same (last (opened g) ms) k h _ refl refl refl)
step-greets g setting bytes ms r caller step.Signal answer new may d k h = of-made (last (opened g) ms) k h _ new d.1 (same (last (opened g) ms) k h _ refl refl refl)
step-greets g setting bytes ms r caller step.Fix answer new may d k h = fixes-greets (last (opened g) ms) k h new may.1 d.1
step-greets g setting bytes ms r caller (step.Sweep t) answer new may d k h = of-made (last (opened g) ms) k h _ new d.1 (same (last (opened g) ms) k h _ refl refl refl)
step-greets g setting bytes ms r caller step.Restart answer new may d k h = of-made (last (opened g) ms) k h _ new d.1 (silent (last (opened g) ms) k h _ (λ z. k.waits may.1 z))
step-greets g setting bytes ms r caller step.TakeDone answer new may d k h = takes-greets (last (opened g) ms) k h (done_ticket (last (opened g) ms).memory (last (opened g) ms).desk) new answer d
step-greets g setting bytes ms r caller (step.Unlink t) answer new may d k h = of-made (last (opened g) ms) k h _ new d.1 (same (last (opened g) ms) k h _ refl refl refl)
step-greets g setting bytes ms r caller (step.Free t) answer new may d k h = of-made (last (opened g) ms) k h _ new d.world (same (last (opened g) ms) k h _ refl refl refl)
step-greets g setting bytes ms r caller (step.Act a) answer new may d k h = acted-greets (last (opened g) ms) k h (slice_get g.acts a) new answer d
step-greets g setting bytes ms r caller step.ResetBus answer new may d k h = of-made (last (opened g) ms) k h _ new d.1 (silent (last (opened g) ms) k h _ (λ z. absurd cc))
step-greets g setting bytes ms r caller (step.Sense t) answer new may d k h = of-made (last (opened g) ms) k h _ new d.1 (same (last (opened g) ms) k h _ refl refl refl)

welcomes : (g : BenchSetting) → IsBenchSetting g → HasBytes g → (ms : List Moment) → IsRun g (opened g) ms → Welcomes (last (opened g) ms)
welcomes g setting bytes = by-steps g (λ (ms : List Moment). Welcomes (last (opened g) ms)) (record { greets = λ e z. absurd cc })
    (λ ms m r s h. subst Welcomes (sym (ends_after (opened g) ms m)) (step-greets g setting bytes ms r m.entry.caller m.entry.step m.reply m.after s.enabled s.does (told g setting bytes ms r) h))

pub greetings-are-told : GreetingsAreTold
greetings-are-told g setting bytes ms r = (welcomes g setting bytes ms r).greets
