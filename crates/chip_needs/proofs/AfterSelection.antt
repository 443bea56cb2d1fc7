-- Behind a selection the target is greeted, with ATN asserted or not: each step of a run keeps what is told of it.
use Rattle.std.proofs.Common.{arith, ◌≤◌, ◌≡◌, ◌⊎◌, inl, inr, ℕ, pos, ◌+◌, ◌*◌, ◌<◌, ◌==◌, Bool, true, false, List, MatchBool, Option, Some, None, refl, sym, ap, subst, ◌∙◌}
use Rattle.std.specs.Prelude.{slice_get}
use Rattle.std.proofs.lemmas.Bool.{false≢true}
use Rattle.rig_types.specs.declared.acts.Act.{Act}
use Rattle.rig_types.specs.declared.acts.ActKind.{ActKind}
use Rattle.rig_types.specs.declared.acts.ActKind.TheVariants.{Abort, Device, Bus}
use Rattle.rig_types.specs.declared.commands.Command.{Command}
use Rattle.rig_types.specs.declared.rig.Unit.{Unit as RigUnit}
use Rattle.rig_types.specs.declared.step.Line.{Line}
use Rattle.rig_types.specs.declared.step.Step.{Step}
use Rattle.rig_types.specs.declared.step.Step.TheVariants as step
use Rattle.host_map.specs.declared.TheConstants.{FRONT_IDLE}
use Rattle.scripts_ops.specs.declared.values.Op.TheVariants as op
use Rattle.driver_script.specs.Script.{instruction}
use Rattle.chip_regs.specs.declared.registers.Cause.{Cause}
use Rattle.chip_regs.specs.declared.registers.Cause.TheVariants.{Iid, Bf, Sto}
use Rattle.chip_step.specs.Addresses.{place_of}
use Rattle.chip_step.specs.Step.{after_fetch}
use Rattle.chip_step.specs.declared.outcome.StepEnd.{StepEnd}
use Rattle.chip_step.specs.declared.outcome.StepEnd.TheVariants.{Stopped}
use Rattle.word_owners.specs.DataMoves.{behind_move, behind_last}
use Rattle.word_owners.specs.Laws.{restart_point}
use Rattle.word_owners.proofs.Restarts.{restart_holds}
use Rattle.world_law.specs.Stops.{in_tail}
use Rattle.std.specs.Prelude.{if◌then◌else◌}
use Rattle.std.proofs.lemmas.Bool.Decides.{nat_tests}
use Rattle.desk_law.specs.declared.refused.Refused.{Refused}
use Rattle.desk_law.specs.Desk.{ticket, unit}
use Rattle.desk_law.specs.Rings.{done_ticket}
use Rattle.phase_fix.specs.declared.moves.Entry.{Entry}
use Rattle.phase_fix.specs.declared.moves.Entry.TheVariants.{Context, Segment}
use Rattle.phase_fix.specs.declared.moves.DataPhase.{DataPhase}
use Rattle.phase_fix.specs.declared.moves.DataPhase.TheVariants.{In, Out}
use Rattle.phase_fix.specs.Moves.{context_label}
use Rattle.phase_fix.proofs.MoveLaws.{move_stands}
use Rattle.bus_law.specs.Bus.{BusState}
use Rattle.world_law.specs.Acts.{ActsOf, acts_by, aborts, marks, device_resets, bus_resets, is_late}
use Rattle.world_law.specs.Builds.{BuildsBy, BuildsOf, refuses, is_tried_again}
use Rattle.world_law.specs.ChipSteps.{chip_of, stop_after, RunsChip}
use Rattle.world_law.specs.Enabling.{Enabled}
use Rattle.world_law.specs.Opening.{opened}
use Rattle.world_law.specs.Repairs.{Fixes}
use Rattle.world_law.specs.Runs.{Moment, IsRun, last}
use Rattle.world_law.specs.Steps.{Does, TakesOf}
use Rattle.world_law.specs.World.{BenchSetting, IsBenchSetting, World, command_at, decided, front, live}
use Rattle.world_law.specs.declared.reply.Decided.{Decided}
use Rattle.world_law.specs.declared.reply.Decided.TheVariants as line
use Rattle.world_law.specs.declared.reply.Reply.{Reply}
use Rattle.world_law.specs.declared.reply.Reply.TheVariants as reply
use Rattle.world_law.specs.declared.reply.Stop.{Stop}
use Rattle.world_law.specs.declared.reply.Stop.TheVariants as stop
use Rattle.world_law.proofs.RunLaws.{ends_after}
use Rattle.word_owners.specs.Holds.{Spot, Holds, Running, Mismatched, NotData, Fixed, TimedOut, JobOver, ResetAt, Broken}
use Rattle.word_owners.specs.Nexts.{Moved, Asked, Either, Waited, IsNext}
use Rattle.word_owners.specs.Parts.{Counts}
use Rattle.word_owners.specs.Points.{Point, about, InTargets, InLuns, AtUnit, BehindUnit, At008, At030, At038, At040, At048, At060, At068, At070, At078, At080, At088, At090, At098, At0A0, At0A8, At0B0, At0B8, At0C0, At0C8, At0D0, At0D8, At0E0, At0E8, At0F0, At0F8, At100, At108, At128, At148, At150, At158, At168, At170, At180, At188, At198, At1A0, At1B0, At1B8, At1C8, At1D0, At1D8, At1E8, At1F0, At288, At290, At298, At2A0, At2A8, At2B0, At440, At448, At450, At458, At460, At468, At470, At478, At480, At490, At4A0, BehindContext, LeavesContext, Moves}
use Rattle.word_owners.specs.Pointers.{move_place}
use Rattle.word_owners.specs.Worlds.{HasBytes}
use Rattle.word_owners.proofs.AllSteps.{chip_steps_hold}
use Rattle.word_owners.proofs.ChipSteps.{row}
use Rattle.word_owners.proofs.NextPlaces.{move-high, context-high}
use Rattle.word_owners.proofs.RunningChip.{running}
use Rattle.word_owners.proofs.Worlds.{words_are_owned}
use Rattle.block_words.proofs.RunSteps.{by-steps}
use Rattle.chip_needs.specs.Greeting.{IsGreeted, AreGreeted, is_behind_selection, SelectionsAreGreeted}
use Rattle.chip_needs.proofs.AttentionSteps.{not-run, move-below, behind-below, label-below}
use Rattle.chip_needs.proofs.Greeting.{settled-greeted, by_bool, is_silent, silent-op}
use Rattle.bench_words.specs.Memory.{word_at}
use Rattle.chip_regs.specs.declared.registers.Regs.{Regs}
use Rattle.chip_step.specs.Chip.{Chip, Stops}
use Rattle.chip_step.specs.Connection.{with_table, SettlesAs, SelectsBy}
use Rattle.chip_step.specs.Event.{Event}
use Rattle.chip_step.specs.declared.scsi_bus.Settled.{Settled}
use Rattle.chip_step.specs.declared.scsi_bus.Settled.TheVariants as settled_as
use Rattle.target_law.specs.declared.nexus.Nexus.{Nexus}
use Rattle.target_law.specs.Target.{Target}
use Rattle.bus_law.specs.Moves.{moves}
use Rattle.bus_law.specs.Rooms.{with_room_at}
use Rattle.bus_law.specs.Reselections.{candidate_named, can_select}
use Rattle.bus_events.proofs.MadeRooms.{room-is-made}

-- ---- the points behind a selection, up to the command
abbrev pub is_greeting : Point → Bool
is_greeting (At068 t) = true
is_greeting (At070 t) = true
is_greeting (At078 t) = true
is_greeting (At080 t) = true
is_greeting (At088 t) = true
is_greeting (At448 t) = true
is_greeting (At450 t) = true
is_greeting (At458 t) = true
is_greeting At2A0 = true
is_greeting p = false

abbrev pub spot_greets : Spot → Bool
spot_greets (Running p) = is_greeting p
spot_greets s = false

-- those from which the chip comes there: the selections, and the points on the way
abbrev pub enters : Point → Bool
enters (At060 t) = true
enters (At440 t) = true
enters At298 = true
enters (At068 t) = true
enters (At070 t) = true
enters (At078 t) = true
enters (At080 t) = true
enters (At448 t) = true
enters (At450 t) = true
enters (At458 t) = true
enters p = false

data-out : (d : ℕ) → 0x2B8 < d → d < 0x440 → is_behind_selection d ≡ false
data-out d l n = grind (arith, nat_tests)

chain-out : (d : ℕ) → 0x8000 ≤ d → is_behind_selection d ≡ false
chain-out d l = grind (arith, nat_tests)

none-so : (d : ℕ) {b : Bool} → is_behind_selection d ≡ false → is_behind_selection d ≡ true → b ≡ true
none-so d n e = absurd (false≢true (sym n ∙ e))

-- the address tells the point
greets-at : (version : ℕ) (units : List RigUnit) (c : Counts) (w : World) (p : Point) → Holds version units (Running p) c w → is_behind_selection (about p).place ≡ true → is_greeting p ≡ true
greets-at version units c w (Moves t x) h e =
    let entry = (move_stands (move_place x.phase x.entry) x h.works.extra.at).0 in
    none-so (move_place x.phase x.entry) (data-out (move_place x.phase x.entry) (move-high x.phase x.entry) (move-below x.phase x.entry entry)) e
greets-at version units c w (BehindContext t phase k) h e =
    let entry = (move_stands (move_place phase (Context k)) (record { phase = phase; entry = Context k }) h.works.extra.at).0 in
    let high = move-high phase (Context k) in
    none-so (move_place phase (Context k) + 8) (data-out (move_place phase (Context k) + 8) (omega (arith, high)) (behind-below phase k entry)) e
greets-at version units c w (LeavesContext t phase j k) h e =
    let high = context-high phase k in
    none-so (context_label phase k + 16) (data-out (context_label phase k + 16) (omega (arith, high)) (label-below phase k)) e
greets-at version units c w (InTargets r j) h e = none-so (about (InTargets r j)).place (chain-out (about (InTargets r j)).place (omega arith)) e
greets-at version units c w (InLuns r j) h e = none-so (about (InLuns r j)).place (chain-out (about (InLuns r j)).place (omega arith)) e
greets-at version units c w (AtUnit u r) h e = none-so (about (AtUnit u r)).place (chain-out (about (AtUnit u r)).place (omega arith)) e
greets-at version units c w (BehindUnit u r) h e = none-so (about (BehindUnit u r)).place (chain-out (about (BehindUnit u r)).place (omega arith)) e
greets-at version units c w (At088 t) h e = refl
greets-at version units c w p h e = e

-- a restart goes to none of them
tail-out : (d : ℕ) → in_tail d ≡ true → is_behind_selection d ≡ false
tail-out d e = grind (arith, nat_tests)

-- ---- where a step leads
moved : (p : Point) → is_greeting p ≡ false → (q : Spot) → Moved p q → spot_greets q ≡ false
moved p n q is = elim is [
  | inl x ↦ ap spot_greets x ∙ n
  | inr y ↦ elim y [
    | inl x ↦ ap spot_greets x
    | inr x ↦ ap spot_greets x
  ]
]

asked : (p r : Point) → is_greeting p ≡ false → is_greeting r ≡ false → (q : Spot) → Asked p r q → spot_greets q ≡ false
asked p r n k q is = elim is [
  | inl x ↦ ap spot_greets x ∙ n
  | inr y ↦ elim y [
    | inl x ↦ ap spot_greets x ∙ k
    | inr x ↦ ap spot_greets x
  ]
]

either : (p r : Point) → is_greeting p ≡ false → is_greeting r ≡ false → (q : Spot) → Either p r q → spot_greets q ≡ false
either p r n k q is = elim is [
  | inl x ↦ ap spot_greets x ∙ n
  | inr x ↦ ap spot_greets x ∙ k
]

waited : (p : Point) → is_greeting p ≡ false → (q : Spot) → Waited p q → spot_greets q ≡ false
waited p n q is = elim is [
  | inl x ↦ ap spot_greets x ∙ n
  | inr x ↦ ap spot_greets x
]

behind-out : (t : ℕ) (phase : DataPhase) (e : Entry) → is_greeting (behind_move t phase e) ≡ false
behind-out t phase (Context k) = refl
behind-out t phase (Segment j) = by (j == 15)
  where
    last-out : (d : DataPhase) → is_greeting (behind_last t d) ≡ false
    last-out In = refl
    last-out Out = refl

    by : (b : Bool) → is_greeting (if b then behind_last t phase else Moves t (record { phase = phase; entry = Segment (j + 1) })) ≡ false
    by true = last-out phase
    by false = refl

pub leads : (p : Point) → enters p ≡ false → (q : Spot) → IsNext p q → spot_greets q ≡ false
leads (Moves t x) e q is = elim is [ inl x1 ↦ ap spot_greets x1 ∙ behind-out t x.phase x.entry | inr y1 ↦ elim y1 [ inl x2 ↦ ap spot_greets x2.1 | inr y2 ↦ ap spot_greets y2 ] ]
leads At008 e q is = elim is [ inl x1 ↦ ap spot_greets x1 | inr y1 ↦ elim y1 [ inl x2 ↦ ap spot_greets x2 | inr y2 ↦ ap spot_greets y2.1 ] ]
leads At030 e q is = elim is [ inl x1 ↦ ap spot_greets x1 | inr y1 ↦ ap spot_greets y1.1 ]
leads (At038 t) e q is = ap spot_greets is.1
leads (At040 t a) e q is = elim is [ inl x1 ↦ ap spot_greets x1 | inr y1 ↦ ap spot_greets y1 ]
leads At048 e q is = elim is [ inl x1 ↦ ap spot_greets x1 | inr y1 ↦ elim y1 [ inl x2 ↦ ap spot_greets x2 | inr y2 ↦ ap spot_greets y2.1 ] ]
leads (At060 t) e q is = absurd (false≢true (sym e))
leads (At068 t) e q is = absurd (false≢true (sym e))
leads (At070 t) e q is = absurd (false≢true (sym e))
leads (At078 t) e q is = absurd (false≢true (sym e))
leads (At080 t) e q is = absurd (false≢true (sym e))
leads (At088 t) e q is = moved (At090 t) refl q is
leads (At090 t) e q is = asked (At0D8 t) (At098 t) refl refl q is
leads (At098 t) e q is = either (At0C8 t) (At0A0 t) refl refl q is
leads (At0A0 t) e q is = either (At0B8 t) (At0A8 t) refl refl q is
leads (At0A8 t) e q is = either (At0B8 t) (At0B0 t) refl refl q is
leads (At0B8 t) e q is = ap spot_greets is.1
leads (At0C0 t p) e q is = elim is [ inl x1 ↦ ap spot_greets x1 | inr y1 ↦ ap spot_greets y1.1 ]
leads (At0C8 t) e q is = moved (At0D0 t) refl q is
leads (At0D8 t) e q is = moved (At0E0 t) refl q is
leads (At0E0 t) e q is = either (At1C8 t) (At0E8 t) refl refl q is
leads (At0E8 t) e q is = either (At108 t) (At0F0 t) refl refl q is
leads (At0F0 t) e q is = either (At128 t) (At0F8 t) refl refl q is
leads (At0F8 t) e q is = either (At148 t) (At100 t) refl refl q is
leads (At108 t) e q is = ap spot_greets is.1
leads (At128 t) e q is = ap spot_greets is.1
leads At150 e q is = waited At158 refl q is
leads (At168 u r) e q is = moved (At170 u r) refl q is
leads (At170 u r) e q is = elim is [ inl x1 ↦ ap spot_greets x1 | inr y1 ↦ ap spot_greets y1 ]
leads (At180 u r) e q is = elim is [ inl x1 ↦ ap spot_greets x1.1 | inr y1 ↦ elim y1 [ inl x2 ↦ ap spot_greets x2 | inr y2 ↦ ap spot_greets y2 ] ]
leads (At188 u g r) e q is = elim is [ inl x1 ↦ ap spot_greets x1 | inr y1 ↦ ap spot_greets y1 ]
leads (At198 u g r) e q is = elim is [ inl x1 ↦ ap spot_greets x1 | inr y1 ↦ ap spot_greets y1.1 ]
leads (At1A0 b r) e q is = elim is [ inl x1 ↦ ap spot_greets x1 | inr y1 ↦ ap spot_greets y1.1 ]
leads (At1B0 t) e q is = ap spot_greets is.1
leads (At1B8 t a) e q is = elim is [ inl x1 ↦ ap spot_greets x1 | inr y1 ↦ ap spot_greets y1 ]
leads (At1D0 t) e q is = waited (At1D8 t) refl q is
leads (At1E8 t) e q is = waited (At1F0 t) refl q is
leads (At288 t) e q is = moved (At290 t) refl q is
leads At298 e q is = absurd (false≢true (sym e))
leads At2A0 e q is = moved At2A8 refl q is
leads At2A8 e q is = waited At2B0 refl q is
leads (At440 t) e q is = absurd (false≢true (sym e))
leads (At448 t) e q is = absurd (false≢true (sym e))
leads (At450 t) e q is = absurd (false≢true (sym e))
leads (At458 t) e q is = absurd (false≢true (sym e))
leads (At460 u g r) e q is = either (At480 u g r) (At468 u g r) refl refl q is
leads (At468 u g r) e q is = either (At490 u g r) (At470 u g r) refl refl q is
leads (At470 u g r) e q is = either (At4A0 u g r) (At478 u g r) refl refl q is
leads (BehindContext t phase k) e q is = ap spot_greets is.1
leads (LeavesContext t phase j k) e q is = elim is [ inl x1 ↦ ap spot_greets x1 | inr y1 ↦ elim y1 [ inl x2 ↦ ap spot_greets x2 | inr y2 ↦ ap spot_greets y2 ] ]
leads (InTargets r j) e q is = elim is [ inl x1 ↦ ap spot_greets x1 | inr y1 ↦ elim y1 [ inl x2 ↦ ap spot_greets x2 | inr y2 ↦ ap spot_greets y2 ] ]
leads (InLuns r j) e q is = elim is [ inl x1 ↦ ap spot_greets x1 | inr y1 ↦ elim y1 [ inl x2 ↦ ap spot_greets x2.1 | inr y2 ↦ elim y2 [ inl x3 ↦ ap spot_greets x3 | inr y3 ↦ ap spot_greets y3 ] ] ]
leads p e q is = ap spot_greets is

-- ---- SELECT
module _ (units : List RigUnit) (live_at : ℕ → Nexus → Option ℕ) where
  abbrev calls : BusState → Event → BusState → Type 0
  calls = moves units live_at

  -- it stops, or goes on at the alternate address, or the target is greeted
  abbrev SettlesSo : (alternate : ℕ) → StepEnd → Chip BusState → Type 0
  SettlesSo alternate end new = ((cause : Cause) × (end ≡ Stopped cause)) ⊎ ((new.regs.dsp ≡ alternate) ⊎ AreGreeted new.bus)

  settled : (word : ℕ) (s : Settled) (alternate : ℕ) (r : Regs) (old : Chip BusState) (end : StepEnd) (new : Chip BusState) → SettlesAs calls word s alternate r old end new → SettlesSo alternate end new
  settled word settled_as.Selected alternate r old end new d =
      inr (inr (subst AreGreeted (sym d.2) (λ i c. (let k : AreGreeted d.0 = subst AreGreeted (sym d.1.1) (settled-greeted (candidate_named units old.bus word) (can_select old.bus r.sdid) r.sdid word old.bus d.1.0) in k i c))))
  settled word (settled_as.Reselected by) alternate r old end new d = inr (inl (ap (λ (x : Regs). x.dsp) d.1.regs_are))
  settled word settled_as.TimedOut alternate r old end new d = inl (Sto, d.1.is)

  none-settled : (cause : Cause) (alternate : ℕ) (old : Chip BusState) (end : StepEnd) (new : Chip BusState) → Stops cause old end new → SettlesSo alternate end new
  none-settled cause alternate old end new s = inl (cause, s.ends.is)

  selects-by : (word : ℕ) (place : Option ℕ) (alternate : ℕ) (old : Chip BusState) (end : StepEnd) (new : Chip BusState) → SelectsBy calls word place alternate old end new → SettlesSo alternate end new
  selects-by word None alternate old end new d = none-settled Bf alternate old end new d
  selects-by word (Some e) alternate old end new d = settled word d.0 alternate (with_table (word_at old.memory e) old.regs) old end new d.1

  selects : (word alternate : ℕ) (place : Option ℕ) (old : Chip BusState) (end : StepEnd) (new : Chip BusState) → MatchBool old.regs.con (Stops Iid old end new) (SelectsBy calls word place alternate old end new) → SettlesSo alternate end new
  selects word alternate place old end new d = by_bool _ _ (SettlesSo alternate end new) old.regs.con (none-settled Iid alternate old end new) (selects-by word place alternate old end new) d

-- ---- a step of the chip
pub record Welcomes (w : World) : Type 0 where
  pub greets : w.stop ≡ stop.Run → is_behind_selection w.regs.dsp ≡ true → AreGreeted w.bus

abbrev Greets : World → Type 0
Greets w = w.stop ≡ stop.Run → is_behind_selection w.regs.dsp ≡ true → AreGreeted w.bus

module _ (version : ℕ) (units : List RigUnit) (c : Counts) (w new : World) (word : ℕ) (answer : Reply) (run : RunsChip w word answer new) (running_is : w.stop ≡ stop.Run) (d : Counts) (greets_before : Greets w) where
  bus-is : new.bus ≡ run.chip.bus
  bus-is = ap (λ (x : World). x.bus) run.world

  dsp-is : new.regs.dsp ≡ run.chip.regs.dsp
  dsp-is = ap (λ (x : World). x.regs.dsp) run.world

  stop-is : new.stop ≡ stop_after run.end w.stop
  stop-is = ap (λ (x : World). x.stop) run.world

  calm-greets : (p : Point) → enters p ≡ false → (q : Spot) → IsNext p q → Holds version units q d new → Greets new
  calm-greets p none q is n e a = at-spot q (leads p none q is) n
    where
      at-spot : (q : Spot) → spot_greets q ≡ false → Holds version units q d new → AreGreeted new.bus
      at-spot (Running x) f n = absurd (false≢true (sym f ∙ greets-at version units d new x n (ap is_behind_selection (sym n.stays.3) ∙ a)))
      at-spot (Mismatched t x left) f n = (let z : stop.Run ≡ stop.Mismatch = sym e ∙ n.stays.0 in absurd cc)
      at-spot NotData f n = (let z : stop.Run ≡ stop.Mismatch = sym e ∙ n.stays.0 in absurd cc)
      at-spot (Fixed t) f n = (let z : stop.Run ≡ stop.Clear = sym e ∙ n.stays.0 in absurd cc)
      at-spot (TimedOut t) f n = (let z : stop.Run ≡ stop.Clear = sym e ∙ n.stays.0 in absurd cc)
      at-spot JobOver f n = (let z : stop.Run ≡ stop.Clear = sym e ∙ n.stays.0 in absurd cc)
      at-spot (ResetAt x) f n = (let z : stop.Run ≡ stop.Clear = sym e ∙ n.stays.0 in absurd cc)
      at-spot Broken f n = (let z : stop.Run ≡ stop.MustReset = sym e ∙ n.stays.0 in absurd cc)

  select-greets : SettlesSo w.desk.units (live w.desk) 0x50 run.end run.chip → Greets new
  select-greets (inl x) e a = absurd (not-run x.0 (ap (λ (z : StepEnd). stop_after z w.stop) (sym x.1) ∙ sym stop-is ∙ e))
  select-greets (inr (inl x)) e a = absurd (false≢true (ap is_behind_selection (sym (dsp-is ∙ x)) ∙ a))
  select-greets (inr (inr k)) e a = subst AreGreeted (sym bus-is) k

  -- an instruction that calls nothing, with the target greeted before
  quiet-greets : (p : Point) (k : ℕ) → Holds version units (Running p) c w → k < 151 → (about p).place ≡ 8 * k → is_silent w.desk.units (live w.desk) (instruction k version) ≡ true → is_behind_selection (about p).place ≡ true → Greets new
  quiet-greets p k h l place s here e a =
      let same : run.chip.bus ≡ w.bus = silent-op w.desk.units (live w.desk) word (instruction k version) s (chip_of w) (after_fetch (chip_of w)) run.end run.chip (row version units p c w h new word answer run k (instruction k version) l place refl) in
      subst AreGreeted (sym (bus-is ∙ same)) (greets_before running_is (ap is_behind_selection h.stays.3 ∙ here))

  -- the message went out
  command-greets : (t : ℕ) → Holds version units (Running (At088 t)) d new → Greets new
  command-greets t n e a = absurd (false≢true (ap is_behind_selection (sym n.stays.3) ∙ a))

  keeps : (p : Point) → Holds version units (Running p) c w → (q : Spot) → IsNext p q → Holds version units q d new → Greets new
  unfolding instruction
  keeps (At068 t) h q is n = quiet-greets (At068 t) 13 h (omega arith) refl refl refl
  keeps (At070 t) h q is n = quiet-greets (At070 t) 14 h (omega arith) refl refl refl
  keeps (At078 t) h q is n = quiet-greets (At078 t) 15 h (omega arith) refl refl refl
  keeps (At080 t) h q is n = elim is [
    | inl x ↦ command-greets t (subst (λ (s : Spot). Holds version units s d new) x n)
    | inr y ↦ elim y [
      | inl x ↦ (let z = subst (λ (s : Spot). Holds version units s d new) x n in λ e a. (let f : stop.Run ≡ stop.Mismatch = sym e ∙ z.stays.0 in absurd cc))
      | inr x ↦ (let z = subst (λ (s : Spot). Holds version units s d new) x n in λ e a. (let f : stop.Run ≡ stop.MustReset = sym e ∙ z.stays.0 in absurd cc))
    ]
  ]
  keeps (At448 t) h q is n = quiet-greets (At448 t) 137 h (omega arith) refl refl refl
  keeps (At450 t) h q is n = quiet-greets (At450 t) 138 h (omega arith) refl refl refl
  keeps (At458 t) h q is n = quiet-greets (At458 t) 139 h (omega arith) refl refl refl
  keeps (At060 t) h q is n = select-greets (selects w.desk.units (live w.desk) word 0x50 (place_of w.memory (after_fetch (chip_of w)).regs.dsa (pos 0x18) 4) (after_fetch (chip_of w)) run.end run.chip (row version units (At060 t) c w h new word answer run 12 (op.Select (pos 0x18) 0x50) (omega arith) refl refl))
  keeps (At440 t) h q is n = select-greets (selects w.desk.units (live w.desk) word 0x50 (place_of w.memory (after_fetch (chip_of w)).regs.dsa (pos 0x18) 4) (after_fetch (chip_of w)) run.end run.chip (row version units (At440 t) c w h new word answer run 136 (op.Select (pos 0x18) 0x50) (omega arith) refl refl))
  keeps At298 h q is n = select-greets (selects w.desk.units (live w.desk) word 0x50 (place_of w.memory (after_fetch (chip_of w)).regs.dsa (pos 0x18) 4) (after_fetch (chip_of w)) run.end run.chip (row version units At298 c w h new word answer run 83 (op.Select (pos 0x18) 0x50) (omega arith) refl refl))
  keeps p h q is n = calm-greets p refl q is n

-- ---- the steps of the driver
module _ (w : World) (h : Welcomes w) where
  of-made : (made new : World) → new ≡ made → Welcomes made → Welcomes new
  of-made made new e g = subst Welcomes (sym e) g

  -- the bus, the stop stage and DSP as before
  same : (new : World) → new.bus ≡ w.bus → new.stop ≡ w.stop → new.regs.dsp ≡ w.regs.dsp → Welcomes new
  same new a s d = record { greets = λ e z. subst AreGreeted (sym a) (h.greets (sym s ∙ e) (ap is_behind_selection (sym d) ∙ z)) }

  -- with room made in logs
  roomy : (new : World) (i : ℕ) → new.bus ≡ with_room_at w.bus i → new.stop ≡ w.stop → new.regs.dsp ≡ w.regs.dsp → Welcomes new
  roomy new i a s d = record {
    greets = λ e z. subst AreGreeted (sym a) (λ j c. subst (λ (f : ℕ → Target). IsGreeted (f j).link) (sym (room-is-made.same w.bus i)) (h.greets (sym s ∙ e) (ap is_behind_selection (sym d) ∙ z) j c));
  }

  -- the chip is stopped
  stopped : (new : World) → (new.stop ≡ stop.Run → ⊥) → Welcomes new
  stopped new n = record { greets = λ e z. absurd (n e) }

  takes-greets : (o : Option ℕ) (new : World) (answer : Reply) → TakesOf o w answer new → Welcomes new
  takes-greets None new answer d = absurd d
  takes-greets (Some t) new answer d = of-made _ new d.1 (same _ refl refl refl)

  fixes-greets : (new : World) → Fixes w new → Welcomes new
  fixes-greets new (inl r) = of-made _ new r.world (stopped _ (λ z. absurd cc))
  fixes-greets new (inr r) = of-made _ new r.1 (stopped _ (λ z. absurd cc))

  marks-greets : (late : Bool) (t : ℕ) → Welcomes (marks late w t).world
  marks-greets true t = same _ refl refl refl
  marks-greets false t = same _ refl refl refl

  aborts-greets : (x : Decided) → Welcomes (aborts w x).world
  aborts-greets line.Open = same _ refl refl refl
  aborts-greets (line.Accepted t) = marks-greets (is_late (ticket w.desk t).stage) t
  aborts-greets (line.Refused r) = same _ refl refl refl

  device-greets : (idle : Bool) (target : ℕ) → Welcomes (device_resets idle w target).world
  device-greets true target = roomy (device_resets true w target).world target refl refl refl
  device-greets false target = h

  bus-greets : (x : Stop) → Welcomes (bus_resets x w).world
  bus-greets stop.Run = stopped _ (λ z. absurd cc)
  bus-greets stop.Mismatch = h
  bus-greets stop.Clear = h
  bus-greets stop.MustReset = stopped _ (λ z. absurd cc)

  acts-greets : (x : ActKind) → Welcomes (acts_by w x).world
  acts-greets (Abort l) = aborts-greets (decided w l)
  acts-greets (Device target) = device-greets (front w == FRONT_IDLE) target
  acts-greets Bus = bus-greets w.stop

  acted-greets : (o : Option Act) (new : World) (answer : Reply) → ActsOf o w answer new → Welcomes new
  acted-greets None new answer d = absurd d
  acted-greets (Some a) new answer d = of-made _ new d.1 (acts-greets a.kind)

  refuses-greets : (again : Bool) (l : Line) (r : Refused) → Welcomes (refuses again w l r)
  refuses-greets true l r = h
  refuses-greets false l r = same _ refl refl refl

  builds-by : (new : World) (l : Line) (c : Command) (answer : Reply) → BuildsBy w l c answer new → Welcomes new
  builds-by new l c (reply.Built t) d = of-made _ new d.world (roomy _ (unit w.desk c.request.unit).target refl refl refl)
  builds-by new l c (reply.Refused r) d = of-made _ new d.1 (refuses-greets (is_tried_again c.when_full r) l r)
  builds-by new l c _ d = absurd d

  builds-of : (o : Option Command) (new : World) (l : Line) (answer : Reply) → BuildsOf o w l answer new → Welcomes new
  builds-of None new l answer d = absurd d
  builds-of (Some c) new l answer d = builds-by new l c answer d

-- a restart leads behind no selection
pub restart-out : (version : ℕ) (units : List RigUnit) (s : Spot) (c : Counts) (w : World) → w.stop ≡ stop.Clear → Holds version units s c w → is_behind_selection (about (restart_point s)).place ≡ false
restart-out version units (Running p) c w e h = (let z : stop.Clear ≡ stop.Run = sym e ∙ h.stays.0 in absurd cc)
restart-out version units (Mismatched t x left) c w e h = refl
restart-out version units NotData c w e h = refl
restart-out version units (Fixed t) c w e h = refl
restart-out version units (TimedOut t) c w e h = refl
restart-out version units JobOver c w e h = refl
restart-out version units (ResetAt p) c w e h = elim h.stays.3 [
  | inl x ↦ tail-out (about p).place x
  | inr x ↦ ap (λ (z : Point). is_behind_selection (about z).place) x
]
restart-out version units Broken c w e h = refl

-- ---- each step of a run
step-greets : (g : BenchSetting) → IsBenchSetting g → HasBytes g → (ms : List Moment) → IsRun g (opened g) ms → (caller : ℕ) (s : Step) (answer : Reply) (new : World) → Enabled g (last (opened g) ms) caller s → Does g (last (opened g) ms) caller s answer new
    → Welcomes (last (opened g) ms) → Welcomes new
step-greets g setting bytes ms r caller (step.Build l) answer new may d h = builds-of (last (opened g) ms) h (command_at g l) new l answer d
step-greets g setting bytes ms r caller (step.Chip word) answer new may d h =
    let w = last (opened g) ms in
    let own = words_are_owned g setting bytes ms r in
    let at = running g.version g.units own.spot own.counts w may.1 own.holds in
    let x = chip_steps_hold g.version g.units at.0 own.counts w new word answer own.answering d at.1 in
    record { greets = keeps g.version g.units own.counts w new word answer d may.1 x.counts h.greets at.0 at.1 x.spot x.is x.holds }
step-greets g setting bytes ms r caller (step.Link t) answer new may d h = of-made (last (opened g) ms) h _ new d.1 (same (last (opened g) ms) h _ refl refl refl)
step-greets g setting bytes ms r caller (step.Queue t) answer new may d h = of-made (last (opened g) ms) h _ new d.1 (same (last (opened g) ms) h _ refl refl refl)
step-greets g setting bytes ms r caller step.Signal answer new may d h = of-made (last (opened g) ms) h _ new d.1 (same (last (opened g) ms) h _ refl refl refl)
step-greets g setting bytes ms r caller step.Fix answer new may d h = fixes-greets (last (opened g) ms) h new d.1
step-greets g setting bytes ms r caller (step.Sweep t) answer new may d h = of-made (last (opened g) ms) h _ new d.1 (same (last (opened g) ms) h _ refl refl refl)
step-greets g setting bytes ms r caller step.Restart answer new may d h =
    let own = words_are_owned g setting bytes ms r in
    let n = restart_holds g.version g.units own.spot own.counts (last (opened g) ms) may.1 own.holds in
    of-made (last (opened g) ms) h _ new d.1 (record { greets = λ e z. absurd (false≢true (sym (restart-out g.version g.units own.spot own.counts (last (opened g) ms) may.1 own.holds) ∙ ap is_behind_selection (sym n.stays.3) ∙ z)) })
step-greets g setting bytes ms r caller step.TakeDone answer new may d h = takes-greets (last (opened g) ms) h (done_ticket (last (opened g) ms).memory (last (opened g) ms).desk) new answer d
step-greets g setting bytes ms r caller (step.Unlink t) answer new may d h = of-made (last (opened g) ms) h _ new d.1 (same (last (opened g) ms) h _ refl refl refl)
step-greets g setting bytes ms r caller (step.Free t) answer new may d h = of-made (last (opened g) ms) h _ new d.world (same (last (opened g) ms) h _ refl refl refl)
step-greets g setting bytes ms r caller (step.Act a) answer new may d h = acted-greets (last (opened g) ms) h (slice_get g.acts a) new answer d
step-greets g setting bytes ms r caller step.ResetBus answer new may d h = of-made (last (opened g) ms) h _ new d.1 (stopped (last (opened g) ms) h _ (λ z. absurd cc))
step-greets g setting bytes ms r caller (step.Sense t) answer new may d h = of-made (last (opened g) ms) h _ new d.1 (same (last (opened g) ms) h _ refl refl refl)

welcomes : (g : BenchSetting) → IsBenchSetting g → HasBytes g → (ms : List Moment) → IsRun g (opened g) ms → Welcomes (last (opened g) ms)
welcomes g setting bytes = by-steps g (λ (ms : List Moment). Welcomes (last (opened g) ms)) (record { greets = λ e z. absurd (false≢true z) })
    (λ ms m r s h. subst Welcomes (sym (ends_after (opened g) ms m)) (step-greets g setting bytes ms r m.entry.caller m.entry.step m.reply m.after s.enabled s.does h))

pub selections-are-greeted : SelectionsAreGreeted
selections-are-greeted g setting bytes ms r = (welcomes g setting bytes ms r).greets
