-- What a step leaves to a worker's seat.
use Rattle.std.proofs.Common.{◌≡◌, ◌⊎◌, ◌≤◌, ◌^◌, ℕ, Bool, true, false, List, [], ◌∷◌, ◌++◌, inl, inr, sym, ap, subst, ◌∙◌, append_assoc, append-nil}
use Rattle.rig_types.specs.declared.step.Step.{Step}
use Rattle.rig_types.specs.declared.step.Step.TheVariants as step
use Rattle.bench_lock.specs.Log.{entry, added}
use Rattle.bench_lock.specs.declared.view.View.{View}
use Rattle.bench_lock.specs.Stepped.{Stepped}
use Rattle.world_law.specs.declared.reply.Reply.{Reply}
use Rattle.world_law.specs.declared.reply.Reply.TheVariants as reply
use Rattle.world_law.specs.declared.reply.Seen.{Seen}
use Rattle.world_law.specs.World.{BenchSetting}
use Rattle.world_law.specs.Runs.{is_recorded}
use Rattle.seat_law.specs.Worlds.{Allows}
use Rattle.seat_law.proofs.Refusals.{sees_on, told_drained, told_full}
use Rattle.std.proofs.lemmas.List.Elements.{All-nil, All-push}
use Rattle.bench_pool.specs.Workers.{Sees, IsDrained, IsFull, MayAdd, IsEager, AddsEager}

module _ (o : BenchSetting) (v w : View BenchSetting Step) (x : Step) (answer : Reply) (front : ℕ) (s : Stepped Allows is_recorded o v w x answer front) where
  pub may_add : MayAdd x v w
  may_add = by (is_recorded o x answer) s.own_is
    where
      by : (b : Bool) → w.own ≡ added v.own b (entry v.caller x) → (w.own ≡ v.own) ⊎ (w.own ≡ v.own ++ entry v.caller x ∷ [])
      by true e = inr e
      by false e = inl e

  pub sees_after : Sees v → Sees w
  sees_after h = record { setting = h.setting; sees = sees_on o h.setting v w x answer front h.sees s }

  pub drained_after : (y : Seen) → Sees v → answer ≡ reply.NotNow y → y.drained ≡ true → IsDrained w
  drained_after y h e d = record { setting = h.setting; drained = told_drained o h.setting v w x answer front h.sees s y e d }

  pub full_after : Sees v → answer ≡ reply.StepLimit → IsFull w
  full_after h e = record { setting = h.setting; full = told_full o h.setting v w x answer front h.sees s e }

-- ---- the chip's steps

pub adds_none : (es : List (ℕ × Step)) → AddsEager es es
adds_none es = record { more = []; are = sym (append-nil es); eager = All-nil IsEager }

pub adds_on : (old : List (ℕ × Step)) (v w : View BenchSetting Step) (word : ℕ) → 2 ^ 31 ≤ word → AddsEager old v.own → MayAdd (step.Chip word) v w → AddsEager old w.own
adds_on old v w word bit h (inl e) = subst (λ (es : List (ℕ × Step)). AddsEager old es) (sym e) h
adds_on old v w word bit h (inr e) =
    let new : ℕ × Step = entry v.caller (step.Chip word) in
    record {
      more = h.more ++ new ∷ [];
      are = e ∙ (ap (λ (es : List (ℕ × Step)). es ++ new ∷ []) h.are ∙ append_assoc old h.more (new ∷ []));
      eager = All-push IsEager h.more new h.eager bit;
    }
