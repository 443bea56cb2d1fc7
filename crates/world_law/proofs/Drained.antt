-- In a drained bench no step is enabled.
use Rattle.std.proofs.Common.{arith, ◌≡◌, ◌≤◌, ℕ, zero, suc, ◌==◌, Bool, true, false, ◌&&◌, ◌||◌, not, List, [], ◌∷◌, length, slice_get, slice_index_or, Option, Some, None, refl, sym, ap, ◌∙◌}
use Rattle.std.proofs.lemmas.Bool.Decides.{nat_tests}
use Rattle.std.specs.List.{list_any, list_all}
use Rattle.std.proofs.lemmas.Bool.{and_parts}
use Rattle.rig_types.specs.declared.commands.Command.{Command}
use Rattle.rig_types.specs.declared.step.Step.{Step}
use Rattle.rig_types.specs.declared.step.Step.TheVariants as step
use Rattle.host_map.specs.declared.TheConstants.{FRONT_IDLE}
use Rattle.desk_law.specs.declared.stage.Stage.{Stage}
use Rattle.desk_law.specs.declared.stage.Stage.TheVariants as stage
use Rattle.desk_law.specs.declared.ticket.Ticket.{Ticket}
use Rattle.desk_law.specs.Desk.{no_ticket, ticket, lives, is_freed, is_queued, is_sensing}
use Rattle.desk_law.specs.Rings.{done_ticket}
use Rattle.world_law.specs.declared.reply.Decided.{Decided}
use Rattle.world_law.specs.declared.reply.Stop.{Stop}
use Rattle.world_law.specs.declared.reply.Stop.TheVariants.{Run, Mismatch, Clear, MustReset}
use Rattle.world_law.specs.World.{BenchSetting, World, front}
use Rattle.world_law.specs.Lines.{is_run, all_decided, drained}
use Rattle.world_law.specs.Stops.{is_clear, is_done_by}
use Rattle.world_law.specs.Enabling.{Enabled, MayQueue, IsEnded}

neither : (a b : Bool) → a || b ≡ false → (a ≡ false) × (b ≡ false)
neither true b h = absurd cc
neither false b h = (refl, h)

was_not : (b : Bool) → not b ≡ true → b ≡ false
was_not true h = absurd cc
was_not false h = refl

-- ---- what a drained world says

freed-if : (b : Bool) → not b ≡ false → b ≡ true
freed-if true h = refl
freed-if false h = absurd cc

all-freed : (ks : List Ticket) (t : ℕ) → list_any lives ks ≡ false → is_freed (slice_index_or ks t no_ticket).stage ≡ true
all-freed [] t h = refl
all-freed (k ∷ ks) zero h = freed-if (is_freed k.stage) (neither (lives k) (list_any lives ks) h).0
all-freed (k ∷ ks) (suc t) h = all-freed ks t (neither (lives k) (list_any lives ks) h).1

is-zero : (n : ℕ) → n == 0 ≡ true → n ≡ 0
is-zero n h = grind (arith, nat_tests, h)

none-due : (ns : List ℕ) (c : ℕ) → list_all (λ (n : ℕ). n == 0) ns ≡ true → slice_index_or ns c 0 ≡ 0
none-due [] c h = refl
none-due (n ∷ ns) zero h = is-zero n (and_parts (n == 0) (list_all (λ (n : ℕ). n == 0) ns) h).0
none-due (n ∷ ns) (suc c) h = none-due ns c (and_parts (n == 0) (list_all (λ (n : ℕ). n == 0) ns) h).1

same-length : (a b : ℕ) → a == b ≡ true → a ≡ b
same-length a b h = grind (arith, nat_tests, h)

pub no-line-left : (css : List (List Command)) (lss : List (List Decided)) (s : ℕ) → all_decided css lss ≡ true → length (slice_index_or css s []) ≤ length (slice_index_or lss s [])
no-line-left [] lss s h = omega arith
no-line-left (cs ∷ css) [] zero h = omega (arith, is-zero (length cs) (and_parts (length cs == 0) (all_decided css []) h).0)
no-line-left (cs ∷ css) [] (suc s) h = no-line-left css [] s (and_parts (length cs == 0) (all_decided css []) h).1
no-line-left (cs ∷ css) (ls ∷ lss) zero h = omega (arith, same-length (length cs) (length ls) (and_parts (length cs == length ls) (all_decided css lss) h).0)
no-line-left (cs ∷ css) (ls ∷ lss) (suc s) h = no-line-left css lss s (and_parts (length cs == length ls) (all_decided css lss) h).1

past-end : {A : Type 0} (xs : List A) → slice_get xs (length xs) ≡ None
past-end [] = refl
past-end (x ∷ xs) = past-end xs

record Rested (g : BenchSetting) (w : World) : Type 0 where
  pub lines : all_decided g.submitters w.lines ≡ true
  pub acts : length g.acts ≡ length w.acts
  pub freed : list_any lives w.desk.tickets ≡ false
  pub due : list_all (λ (n : ℕ). n == 0) w.desk.due ≡ true
  pub runs : is_run w.stop ≡ true

rested : (g : BenchSetting) (w : World) → drained g w ≡ true → Rested g w
rested g w h =
    let a : (all_decided g.submitters w.lines ≡ true) × _ = and_parts _ _ h in
    let b : (length g.acts == length w.acts ≡ true) × _ = and_parts _ _ a.1 in
    let c : (not (list_any lives w.desk.tickets) ≡ true) × _ = and_parts _ _ b.1 in
    let d : (list_all (λ (n : ℕ). n == 0) w.desk.due ≡ true) × _ = and_parts _ _ c.1 in
    let e : (front w == FRONT_IDLE ≡ true) × (is_run w.stop ≡ true) = and_parts _ _ d.1 in
    record { lines = a.0; acts = same-length _ _ b.0; freed = was_not _ c.0; due = d.0; runs = e.1 }

-- ---- steps

not-stage : (s x : Stage) → is_freed s ≡ true → is_freed x ≡ false → s ≡ x → ⊥
not-stage s x f n e = let c : true ≡ false = sym f ∙ ap (λ (y : Stage). is_freed y) e ∙ n in absurd cc

no-queue : (w : World) (caller : ℕ) (k : Ticket) (s : Stage) → is_freed s ≡ true → MayQueue w caller k s → ⊥
no-queue w caller k stage.Built f m = m
no-queue w caller k stage.Linked f m = absurd cc
no-queue w caller k stage.Queued f m = m
no-queue w caller k stage.Again f m = absurd cc
no-queue w caller k stage.Check f m = m
no-queue w caller k stage.Sensing f m = m
no-queue w caller k (stage.Ended o) f m = m
no-queue w caller k stage.Unlinked f m = m
no-queue w caller k stage.Freed f m = m

no-end : (s : Stage) → is_freed s ≡ true → IsEnded s → ⊥
no-end stage.Built f m = m
no-end stage.Linked f m = m
no-end stage.Queued f m = m
no-end stage.Again f m = m
no-end stage.Check f m = m
no-end stage.Sensing f m = m
no-end (stage.Ended o) f m = absurd cc
no-end stage.Unlinked f m = m
no-end stage.Freed f m = m

untaken : (s : Stage) (b : Bool) → is_freed s ≡ true → (is_queued s || is_sensing s) && b ≡ true → ⊥
untaken stage.Built b f m = absurd cc
untaken stage.Linked b f m = absurd cc
untaken stage.Queued b f m = absurd cc
untaken stage.Again b f m = absurd cc
untaken stage.Check b f m = absurd cc
untaken stage.Sensing b f m = absurd cc
untaken (stage.Ended o) b f m = absurd cc
untaken stage.Unlinked b f m = absurd cc
untaken stage.Freed b f m = absurd cc

not-done : (w : World) (o : Option ℕ) → ((t : ℕ) → is_freed (ticket w.desk t).stage ≡ true) → is_done_by w o ≡ true → ⊥
not-done w None f m = absurd cc
not-done w (Some t) f m = untaken (ticket w.desk t).stage _ (f t) m

not-stopped : (s x : Stop) → is_run s ≡ true → is_run x ≡ false → s ≡ x → ⊥
not-stopped s x r n e = let c : true ≡ false = sym r ∙ ap (λ (y : Stop). is_run y) e ∙ n in absurd cc

not-clear : (s : Stop) (b : Bool) → is_run s ≡ true → is_clear s && b ≡ true → ⊥
not-clear Run b r m = absurd cc
not-clear Mismatch b r m = absurd cc
not-clear Clear b r m = absurd cc
not-clear MustReset b r m = absurd cc

rests_by : (g : BenchSetting) (w : World) (caller : ℕ) (s : Step) → drained g w ≡ true → Rested g w → ((t : ℕ) → is_freed (ticket w.desk t).stage ≡ true) → Enabled g w caller s → ⊥
rests_by g w caller (step.Build l) d r f m =
    let left : length (slice_index_or g.submitters l.submitter []) ≤ length (slice_index_or w.lines l.submitter []) = no-line-left g.submitters w.lines l.submitter r.lines in
    absurd (omega (arith, left, m.there, m.next))
rests_by g w caller (step.Link t) d r f m = not-stage _ stage.Built (f t) refl m.0
rests_by g w caller (step.Queue t) d r f m = no-queue w caller (ticket w.desk t) _ (f t) m
rests_by g w caller step.Signal d r f m = absurd (omega (arith, none-due w.desk.due caller r.due, m))
rests_by g w caller (step.Chip word) d r f m = let c : true ≡ false = sym d ∙ m.2 in absurd cc
rests_by g w caller step.Fix d r f m = not-stopped _ Mismatch r.runs refl m.1
rests_by g w caller (step.Sweep t) d r f m = not-clear w.stop _ r.runs m.1
rests_by g w caller step.Restart d r f m = not-stopped _ Clear r.runs refl m.1
rests_by g w caller step.TakeDone d r f m = not-done w (done_ticket w.memory w.desk) f m.1
rests_by g w caller (step.Unlink t) d r f m = no-end _ (f t) m.1
rests_by g w caller (step.Free t) d r f m = not-stage _ stage.Unlinked (f t) refl m.1
rests_by g w caller (step.Act k) d r f m =
    let at : slice_get g.acts k ≡ None = ap (λ (n : ℕ). slice_get g.acts n) (m.next ∙ sym r.acts) ∙ past-end g.acts in
    let c : Some m.act ≡ None = sym m.is ∙ at in absurd cc
rests_by g w caller step.ResetBus d r f m = not-stopped _ MustReset r.runs refl m.1
rests_by g w caller (step.Sense t) d r f m = not-stage _ stage.Check (f t) refl m.2

pub rests : (g : BenchSetting) (w : World) (caller : ℕ) (s : Step) → drained g w ≡ true → Enabled g w caller s → ⊥
rests g w caller s d m =
    let r : Rested g w = rested g w d in
    rests_by g w caller s d r (λ t. all-freed w.desk.tickets t r.freed) m

-- where the world is drained, every ticket is freed
pub drained-freed : (g : BenchSetting) (w : World) → drained g w ≡ true → (t : ℕ) → is_freed (ticket w.desk t).stage ≡ true
drained-freed g w d t = all-freed w.desk.tickets t (rested g w d).freed
