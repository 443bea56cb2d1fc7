-- What the acts and the reset of the bus make, want of memory with it.
use Rattle.std.proofs.Common.{arith, ◌≡◌, ◌==◌, ℕ, Bool, true, false, List, slice_get, Option, Some, refl, sym, ap, subst, ◌∙◌}
use Rattle.std.proofs.lemmas.Bool.Decides.{nat_tests}
use Rattle.std.proofs.lemmas.List.Elements.{All-get_or}
use Rattle.std.proofs.lemmas.Option.{slice_get_within, get_or_from_slice_get}
use Rattle.chip_regs.specs.declared.registers.Cause.{Cause}
use Rattle.host_map.specs.declared.TheConstants.{FRONT_IDLE}
use Rattle.rig_types.specs.declared.acts.Act.{Act}
use Rattle.rig_types.specs.declared.acts.ActKind.{ActKind}
use Rattle.rig_types.specs.declared.acts.ActKind.TheVariants as kind
use Rattle.rig_types.specs.declared.commands.Command.{Command}
use Rattle.rig_types.specs.declared.step.Line.{Line}
use Rattle.rig_types.specs.declared.step.Step.TheVariants as step
use Rattle.rig_types.specs.Works.{counts_of, IsAct, IsWork}
use Rattle.world_law.specs.declared.reply.Reply.{Reply}
use Rattle.world_law.specs.declared.reply.Reply.TheVariants as reply
use Rattle.world_law.specs.declared.reply.Stop.{Stop}
use Rattle.world_law.specs.declared.reply.Stop.TheVariants as stop
use Rattle.world_law.specs.World.{BenchSetting, World, decided, front}
use Rattle.world_law.specs.Acts.{Acted, answers, is_busy, aborts, cause_at, device_resets, bus_resets, ActsOf}
use Rattle.world_law.specs.Resets.{resets}
use Rattle.world_law.specs.Answers.{ResetsOf}
use Rattle.bench_state.specs.Making.{is_held, HasTarget, Makes, wants, does, MakesAct, act_wants, act_does}

-- ---- ResetBus

pub reset_wants : (g : BenchSetting) (old new : World) (caller : ℕ) → new ≡ old → Makes g old caller step.ResetBus reply.OutOfMemory new
reset_wants g old new caller e = wants tt refl e

pub reset_does : (g : BenchSetting) (old new : World) (caller : ℕ) → new ≡ resets old → Makes g old caller step.ResetBus reply.Started new
reset_does g old new caller e = does (refl, e)

-- ---- acts by kind

pub abort_does : (old new : World) (l : Line) (answer : Reply) → answer ≡ (aborts old (decided old l)).answer → new ≡ (aborts old (decided old l)).world
    → MakesAct old (kind.Abort l) answer new
abort_does old new l answer a n = act_does a n

is-idle : (a : ℕ) → a ≡ FRONT_IDLE → (a == FRONT_IDLE) ≡ true
is-idle a e = grind (arith, nat_tests, e)

is-busy : (a : ℕ) → (a ≡ FRONT_IDLE → ⊥) → (a == FRONT_IDLE) ≡ false
is-busy a n = grind (arith, nat_tests, n)

pub device_busy : (old new : World) (target at : ℕ) → at ≡ front old → (at ≡ FRONT_IDLE → ⊥) → new ≡ old → MakesAct old (kind.Device target) (reply.BusyFront at) new
device_busy old new target at e n same =
    let b : (front old == FRONT_IDLE) ≡ false = is-busy (front old) (λ x. n (e ∙ x)) in
    act_does (ap reply.BusyFront e ∙ sym (ap (λ (x : Bool). (device_resets x old target).answer) b))
    (same ∙ sym (ap (λ (x : Bool). (device_resets x old target).world) b))

pub device_wants : (old new : World) (target : ℕ) → new ≡ old → MakesAct old (kind.Device target) reply.OutOfMemory new
device_wants old new target same = act_wants tt refl same

pub device_does : (old new : World) (target : ℕ) → front old ≡ FRONT_IDLE → new ≡ (device_resets true old target).world
    → MakesAct old (kind.Device target) reply.Started new
device_does old new target e n =
    let b : (front old == FRONT_IDLE) ≡ true = is-idle (front old) e in
    act_does (sym (ap (λ (x : Bool). (device_resets x old target).answer) b)) (n ∙ sym (ap (λ (x : Bool). (device_resets x old target).world) b))

bus-waits : (s : Stop) (w : World) (new : World) → (bus_resets s w ≡ is_busy w (reply.BusyStop (cause_at w))) → new ≡ w → s ≡ w.stop
    → MakesAct w kind.Bus (reply.BusyStop (cause_at w)) new
bus-waits s w new e same at =
    let f : bus_resets w.stop w ≡ is_busy w (reply.BusyStop (cause_at w)) = subst (λ (x : Stop). bus_resets x w ≡ is_busy w (reply.BusyStop (cause_at w))) at e in
    act_does (sym (ap (λ (x : Acted). x.answer) f)) (same ∙ sym (ap (λ (x : Acted). x.world) f))

pub bus_busy : (old new : World) (cause : Cause) → cause ≡ cause_at old → is_held old.stop ≡ true → new ≡ old → MakesAct old kind.Bus (reply.BusyStop cause) new
bus_busy old new cause e h same =
    subst (λ (x : Cause). MakesAct old kind.Bus (reply.BusyStop x) new) (sym e) (bus-waits old.stop old new (held-answers old.stop old h) same refl)
  where
    held-answers : (s : Stop) (w : World) → is_held s ≡ true → bus_resets s w ≡ is_busy w (reply.BusyStop (cause_at w))
    held-answers stop.Mismatch w h = refl
    held-answers stop.Clear w h = refl
    held-answers stop.Run w h = absurd cc
    held-answers stop.MustReset w h = absurd cc

pub bus_wants : (old new : World) → new ≡ old → MakesAct old kind.Bus reply.OutOfMemory new
bus_wants old new same = act_wants tt refl same

pub bus_does : (old new : World) → is_held old.stop ≡ false → new ≡ (answers (resets old) reply.Started).world → MakesAct old kind.Bus reply.Started new
bus_does old new h n =
    let f : bus_resets old.stop old ≡ answers (resets old) reply.Started = free-answers old.stop old h in
    act_does (sym (ap (λ (x : Acted). x.answer) f)) (n ∙ sym (ap (λ (x : Acted). x.world) f))
  where
    free-answers : (s : Stop) (w : World) → is_held s ≡ false → bus_resets s w ≡ answers (resets w) reply.Started
    free-answers stop.Run w h = refl
    free-answers stop.MustReset w h = refl
    free-answers stop.Mismatch w h = absurd cc
    free-answers stop.Clear w h = absurd cc

-- ---- an act of the work

by-kind : (g : BenchSetting) (old new : World) (caller k : ℕ) (o : Option Act) (act : Act) (answer : Reply) → slice_get g.acts k ≡ o → o ≡ Some act
    → MakesAct old act.kind answer new → Makes g old caller (step.Act k) answer new
by-kind g old new caller k o act answer e f (act_wants r a n) =
    wants (subst (λ (x : Option Act). ResetsOf x) (sym (e ∙ f)) r) a n
by-kind g old new caller k o act answer e f (act_does a n) =
    does (subst (λ (x : Option Act). ActsOf x old answer new) (sym (e ∙ f)) (a, n))

pub act_makes : (g : BenchSetting) (old new : World) (caller k : ℕ) (act : Act) (answer : Reply) → slice_get g.acts k ≡ Some act
    → MakesAct old act.kind answer new → Makes g old caller (step.Act k) answer new
act_makes g old new caller k act answer e m = by-kind g old new caller k (slice_get g.acts k) act answer refl e m

in-range : (counts : List ℕ) (act : Act) → IsAct counts act → HasTarget act.kind
in-range counts act h = by act.kind refl
  where
    by : (x : ActKind) → act.kind ≡ x → HasTarget x
    by (kind.Abort l) e = tt
    by (kind.Device target) e = omega (arith, h.device target e)
    by kind.Bus e = tt

pub has_target : (ss : List (List Command)) (acts : List Act) (k : ℕ) (act : Act) → IsWork ss acts → slice_get acts k ≡ Some act → HasTarget act.kind
has_target ss acts k act h e =
    in-range (counts_of ss) act
    (subst (λ (x : Act). IsAct (counts_of ss) x) (get_or_from_slice_get acts k act act e)
    (All-get_or (IsAct (counts_of ss)) acts k act (slice_get_within acts k act e) h.each_act))
