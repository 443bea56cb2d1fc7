-- Whether a block is turned into a REQUEST SENSE: Sense of its ticket alone changes that.
use Rattle.std.proofs.Common.{◌≡◌, ◌≢◌, ◌⊎◌, inl, inr, ℕ, ◌<◌, Bool, true, false, List, [], ◌∷◌, length, slice_set, slice_index_or, Option, Some, None, refl, sym, ap, subst, ◌∙◌}
use Rattle.std.specs.Prelude.{◌&&◌, ◌||◌, ◌+◌, ◌==◌, not, slice_get}
use Rattle.std.proofs.lemmas.Bool.{and_parts}
use Rattle.std.proofs.lemmas.List.{get_or-set_same, get_or-set_other}
use Rattle.std.proofs.Math.ListN.{get_or-append}
use Rattle.host_map.specs.declared.TheConstants.{FRONT_IDLE}
use Rattle.rig_types.specs.declared.acts.Act.{Act}
use Rattle.rig_types.specs.declared.acts.ActKind.{ActKind}
use Rattle.rig_types.specs.declared.acts.ActKind.TheVariants.{Abort, Device, Bus}
use Rattle.rig_types.specs.declared.commands.Command.{Command}
use Rattle.rig_types.specs.declared.report.Outcome.{Outcome}
use Rattle.rig_types.specs.declared.report.Outcome.TheVariants.{Done}
use Rattle.rig_types.specs.declared.step.Line.{Line}
use Rattle.rig_types.specs.declared.step.Step.{Step}
use Rattle.rig_types.specs.declared.step.Step.TheVariants as step
use Rattle.unit_law.specs.Request.{plain}
use Rattle.desk_law.specs.declared.refused.Refused.{Refused}
use Rattle.desk_law.specs.declared.stage.Stage.{Stage}
use Rattle.desk_law.specs.declared.stage.Stage.TheVariants as stage
use Rattle.desk_law.specs.declared.ticket.Ticket.{Ticket}
use Rattle.desk_law.specs.Building.{new_ticket}
use Rattle.desk_law.specs.Desk.{DeskState, ticket, no_ticket, is_queued, is_sensing}
use Rattle.desk_law.specs.Rings.{done_ticket}
use Rattle.desk_law.specs.Taking.{state_of, status_byte, outcome_by, taken, taken_by, is_again, is_check as is_to_check}
use Rattle.world_law.specs.Acts.{ActsOf, acts_by, aborts, marks, device_resets, bus_resets, is_late}
use Rattle.world_law.specs.Builds.{BuildsBy, BuildsOf, refuses, is_tried_again}
use Rattle.world_law.specs.Enabling.{Enabled, MayQueue, IsEnded}
use Rattle.world_law.specs.Repairs.{Fixes}
use Rattle.world_law.specs.Steps.{Does, TakesOf}
use Rattle.world_law.specs.Stops.{is_done_by}
use Rattle.world_law.specs.World.{BenchSetting, World, command_at, decided, front}
use Rattle.world_law.specs.declared.reply.Decided.{Decided}
use Rattle.world_law.specs.declared.reply.Decided.TheVariants as line
use Rattle.world_law.specs.declared.reply.Reply.{Reply}
use Rattle.world_law.specs.declared.reply.Reply.TheVariants as reply
use Rattle.world_law.specs.declared.reply.Stop.{Stop}
use Rattle.world_law.specs.declared.reply.Stop.TheVariants as stop
use Rattle.word_owners.specs.Tickets.{is_check, fixed_of, IsTurned}
use Rattle.word_owners.proofs.Frames.{same_or}

abbrev pub turned_of : Ticket → Bool
turned_of k = (fixed_of k).turned

abbrev at : List Ticket → ℕ → Ticket
at ks t = slice_index_or ks t no_ticket

-- a stage that isn't Check before or after
flag-same : (k : Ticket) (s x : Stage) → k.stage ≡ x → is_check x ≡ false → is_check s ≡ false → (k.checked && not (is_check s)) ≡ turned_of k
flag-same k s x e f n = ap (λ (b : Bool). k.checked && not b) (n ∙ sym f) ∙ ap (λ (y : Stage). k.checked && not (is_check y)) (sym e)

set-turned : (ks : List Ticket) (t : ℕ) (k : Ticket) → t < length ks → turned_of k ≡ turned_of (at ks t) → (u : ℕ) → turned_of (at (slice_set ks t k) u) ≡ turned_of (at ks u)
set-turned ks t k l e u = elim (same_or u t) [
  | inl z ↦ ap (λ (i : ℕ). turned_of (at (slice_set ks t k) i)) z ∙ ap turned_of (get_or-set_same ks t k no_ticket l) ∙ e ∙ ap (λ (i : ℕ). turned_of (at ks i)) (sym z)
  | inr z ↦ ap turned_of (get_or-set_other ks t u k no_ticket z)
]

ended-is : (x : Stage) → IsEnded x → is_check x ≡ false
ended-is (stage.Ended o) h = refl
ended-is stage.Check h = absurd h
ended-is _ h = refl

may-queue : (w : World) (caller : ℕ) (k : Ticket) (x : Stage) → MayQueue w caller k x → is_check x ≡ false
may-queue w caller k stage.Check m = absurd m
may-queue w caller k _ m = refl

active-is : (x : Stage) → (is_queued x || is_sensing x) ≡ true → is_check x ≡ false
active-is stage.Check e = absurd cc
active-is _ e = refl

queued-plain : (x : Stage) → (is_queued x || is_sensing x) ≡ true → is_sensing x ≡ false → IsTurned x → ⊥
queued-plain stage.Queued e f h = h
queued-plain stage.Sensing e f h = absurd cc
queued-plain stage.Built e f h = h
queued-plain stage.Linked e f h = h
queued-plain stage.Again e f h = h
queued-plain stage.Check e f h = h
queued-plain (stage.Ended o) e f h = absurd cc
queued-plain stage.Unlinked e f h = absurd cc
queued-plain stage.Freed e f h = absurd cc

none-turned : (b : Bool) → (b ≡ true → ⊥) → false ≡ b
none-turned true h = absurd (h refl)
none-turned false h = refl

-- TakeDone
taken-turned : (sensing again check : Bool) (m : List ℕ) (k : Ticket) (x : Stage) → k.stage ≡ x → is_check x ≡ false → (check ≡ true → sensing ≡ false → turned_of k ≡ true → ⊥) → turned_of (taken_by sensing again check m k) ≡ turned_of k
taken-turned true again check m k x e n h = flag-same k (stage.Ended Done) x e n refl
taken-turned false true check m k x e n h = flag-same k stage.Again x e n refl
taken-turned false false true m k x e n h = none-turned (turned_of k) (h refl refl)
taken-turned false false false m k x e n h = flag-same k (stage.Ended (outcome_by (state_of m k) (status_byte m k))) x e n refl

module _ (w : World) (inside : (t : ℕ) → (ticket w.desk t).stage ≢ stage.Freed → t < length w.desk.tickets) (turned_stage : (t : ℕ) → turned_of (ticket w.desk t) ≡ true → IsTurned (ticket w.desk t).stage) (u : ℕ) (there : u < length w.desk.tickets) where
  abbrev Same : World → Type 0
  Same new = turned_of (ticket new.desk u) ≡ turned_of (ticket w.desk u)

  of-made : (made new : World) → new ≡ made → Same made → Same new
  of-made made new e h = subst Same (sym e) h

  within : (t : ℕ) (x : Stage) → (ticket w.desk t).stage ≡ x → (x ≡ stage.Freed → ⊥) → t < length w.desk.tickets
  within t x e n = inside t (λ f. n (sym e ∙ f))

  takes-turned : (o : Option ℕ) (new : World) (answer : Reply) → is_done_by w o ≡ true → TakesOf o w answer new → Same new
  takes-turned None new answer e d = absurd d
  takes-turned (Some t) new answer e d =
      let k = ticket w.desk t in
      let active = (and_parts (is_queued k.stage || is_sensing k.stage) _ e).0 in
      of-made _ new d.1 (set-turned w.desk.tickets t (taken w.desk w.memory k) (within t k.stage refl (not-freed k.stage active))
      (taken-turned (is_sensing k.stage) (is_again w.desk w.memory k) (is_to_check w.desk w.memory k) w.memory k k.stage refl (active-is k.stage active) (λ c f z. queued-plain k.stage active f (turned_stage t z))) u)
    where
      not-freed : (x : Stage) → (is_queued x || is_sensing x) ≡ true → x ≡ stage.Freed → ⊥
      not-freed x e f = let z : false ≡ true = ap (λ (y : Stage). is_queued y || is_sensing y) (sym f) ∙ e in absurd cc

  marks-turned : (late : Bool) (t : ℕ) → Same (marks late w t).world
  marks-turned true t = refl
  marks-turned false t = refl

  aborts-turned : (x : Decided) → Same (aborts w x).world
  aborts-turned line.Open = refl
  aborts-turned (line.Accepted t) = marks-turned (is_late (ticket w.desk t).stage) t
  aborts-turned (line.Refused r) = refl

  device-turned : (idle : Bool) (target : ℕ) → Same (device_resets idle w target).world
  device-turned true target = refl
  device-turned false target = refl

  bus-turned : (x : Stop) → Same (bus_resets x w).world
  bus-turned stop.Run = refl
  bus-turned stop.Mismatch = refl
  bus-turned stop.Clear = refl
  bus-turned stop.MustReset = refl

  acts-turned : (k : ActKind) → Same (acts_by w k).world
  acts-turned (Abort l) = aborts-turned (decided w l)
  acts-turned (Device target) = device-turned (front w == FRONT_IDLE) target
  acts-turned Bus = bus-turned w.stop

  acted-turned : (o : Option Act) (new : World) (answer : Reply) → ActsOf o w answer new → Same new
  acted-turned None new answer d = absurd d
  acted-turned (Some a) new answer d = of-made _ new d.1 (acts-turned a.kind)

  fixed-turned : (new : World) → Fixes w new → Same new
  fixed-turned new (inl r) = of-made _ new r.world refl
  fixed-turned new (inr r) = of-made _ new r.1 refl

  refuses-turned : (again : Bool) (l : Line) (r : Refused) → Same (refuses again w l r)
  refuses-turned true l r = refl
  refuses-turned false l r = refl

  builds-by : (new : World) (l : Line) (c : Command) (answer : Reply) → BuildsBy w l c answer new → Same new
  builds-by new l c (reply.Built t) d =
      ap (λ (x : DeskState). turned_of (at x.tickets u)) d.builds.desk
      ∙ ap turned_of (get_or-append w.desk.tickets (new_ticket w.desk l (plain c.request) d.builds.chunks ∷ []) no_ticket u there)
  builds-by new l c (reply.Refused r) d = of-made _ new d.1 (refuses-turned (is_tried_again c.when_full r) l r)
  builds-by new l c _ d = absurd d

  builds-of : (o : Option Command) (new : World) (l : Line) (answer : Reply) → BuildsOf o w l answer new → Same new
  builds-of None new l answer d = absurd d
  builds-of (Some c) new l answer d = builds-by new l c answer d

  swept-turned : (t : ℕ) (o : Outcome) → (is_queued (ticket w.desk t).stage || is_sensing (ticket w.desk t).stage) ≡ true → turned_of (at (slice_set w.desk.tickets t (record (ticket w.desk t) { stage = stage.Ended o; outcome = Some o })) u) ≡ turned_of (ticket w.desk u)
  swept-turned t o e =
      let k = ticket w.desk t in
      set-turned w.desk.tickets t (record k { stage = stage.Ended o; outcome = Some o }) (within t k.stage refl (λ f. (let z : false ≡ true = ap (λ (y : Stage). is_queued y || is_sensing y) (sym f) ∙ e in absurd cc)))
      (flag-same k (stage.Ended o) k.stage refl (active-is k.stage e) refl) u

  pub turned-same : (g : BenchSetting) (new : World) (caller : ℕ) (x : Step) (answer : Reply) → Enabled g w caller x → Does g w caller x answer new → (t_active : (t : ℕ) → x ≡ step.Sweep t → (is_queued (ticket w.desk t).stage || is_sensing (ticket w.desk t).stage) ≡ true)
      → (x ≡ step.Sense u) ⊎ Same new
  turned-same g new caller (step.Build l) answer may d a = inr (builds-of (command_at g l) new l answer d)
  turned-same g new caller (step.Link t) answer may d a =
      inr (of-made _ new d.1 (set-turned w.desk.tickets t _ (within t stage.Built may.0 (λ e. cc)) (flag-same (ticket w.desk t) stage.Linked stage.Built may.0 refl refl) u))
  turned-same g new caller (step.Queue t) answer may d a =
      let k = ticket w.desk t in
      inr (of-made _ new d.1 (set-turned w.desk.tickets t (record k { stage = stage.Queued; tries = k.tries + 1 }) (within t k.stage refl (λ f. subst (MayQueue w caller k) f may)) (flag-same k stage.Queued k.stage refl (may-queue w caller k k.stage may) refl) u))
  turned-same g new caller step.Signal answer may d a = inr (of-made _ new d.1 refl)
  turned-same g new caller (step.Chip word) answer may d a = inr (of-made _ new d.world refl)
  turned-same g new caller step.Fix answer may d a = inr (fixed-turned new d.1)
  turned-same g new caller (step.Sweep t) answer may d a = inr (of-made _ new d.1 (swept-turned t _ (a t refl)))
  turned-same g new caller step.Restart answer may d a = inr (of-made _ new d.1 refl)
  turned-same g new caller step.TakeDone answer may d a = inr (takes-turned (done_ticket w.memory w.desk) new answer may.1 d)
  turned-same g new caller (step.Unlink t) answer may d a =
      let k = ticket w.desk t in
      inr (of-made _ new d.1 (set-turned w.desk.tickets t (record k { stage = stage.Unlinked }) (within t k.stage refl (λ f. subst IsEnded f may.1)) (flag-same k stage.Unlinked k.stage refl (ended-is k.stage may.1) refl) u))
  turned-same g new caller (step.Free t) answer may d a =
      let k = ticket w.desk t in
      inr (ap (λ (x : DeskState). turned_of (at x.tickets u)) d.frees.desk
      ∙ set-turned w.desk.tickets t (record k { stage = stage.Freed }) (within t stage.Unlinked may.1 (λ e. cc)) (flag-same k stage.Freed stage.Unlinked may.1 refl refl) u)
  turned-same g new caller (step.Act k) answer may d a = inr (acted-turned (slice_get g.acts k) new answer d)
  turned-same g new caller step.ResetBus answer may d a = inr (of-made _ new d.1 refl)
  turned-same g new caller (step.Sense t) answer may d a = elim (same_or t u) [
    | inl z ↦ inl (ap (λ (i : ℕ). step.Sense i) z)
    | inr z ↦ inr (of-made _ new d.1 (ap turned_of (get_or-set_other w.desk.tickets t u (record (ticket w.desk t) { stage = stage.Sensing }) no_ticket (λ e. z (sym e)))))
  ]
