-- The invariant holds in every world of a run, from the opening on.
use Rattle.std.proofs.Common.{◌≡◌, ℕ, List, length, [], ◌∷◌, Bool, true, false, refl, sym, subst, arith, Option, Some, None}
use Rattle.rig_types.specs.declared.commands.Command.{Command}
use Rattle.unit_law.specs.Request.{plain}
use Rattle.rig_types.specs.declared.step.Line.{Line}
use Rattle.rig_types.specs.declared.step.Step.{Step}
use Rattle.rig_types.specs.declared.step.Step.TheVariants as step
use Rattle.desk_law.specs.declared.refused.Refused.{Refused}
use Rattle.desk_law.specs.Desk.{unit}
use Rattle.world_law.specs.Builds.{Accepts, BuildsBy, BuildsOf, refuses, is_tried_again}
use Rattle.world_law.specs.Enabling.{Enabled}
use Rattle.world_law.specs.Opening.{opened}
use Rattle.world_law.specs.Runs.{Moment, IsRun, last}
use Rattle.world_law.specs.Steps.{Does}
use Rattle.world_law.specs.World.{BenchSetting, IsBenchSetting, World, command_at}
use Rattle.world_law.specs.declared.reply.Reply.{Reply}
use Rattle.world_law.specs.declared.reply.Reply.TheVariants as reply
use Rattle.word_owners.specs.Answering.{AreAnswering}
use Rattle.word_owners.specs.BenchSteps.{IsOwned, is_build}
use Rattle.word_owners.specs.Builds.{IsOfBytes}
use Rattle.word_owners.specs.KeptDesks.{AreKept}
use Rattle.word_owners.specs.Worlds.{HasBytes, WordsAreOwned, DepthsAreKept}
use Rattle.word_owners.proofs.SelectionAnswers.{answering-room}
use Rattle.word_owners.proofs.BenchSteps.{bench_steps_hold}
use Rattle.word_owners.proofs.Builds.{builds_hold}
use Rattle.word_owners.proofs.ChipPlace.{told}
use Rattle.word_owners.proofs.KeptDesks.{desks_kept}
use Rattle.word_owners.proofs.OpenedTargets.{answering_opens}
use Rattle.word_owners.proofs.Opening.{holds_opened}
use Rattle.word_owners.proofs.Spaces.{opening_owns}

-- a world that is owned, with room for tickets to come
pub record Whole (g : BenchSetting) (w : World) : Type 0 where
  pub owned : IsOwned g.version g.units w
  pub places : AreKept w.desk

module _ (g : BenchSetting) (setting : IsBenchSetting g) (bytes : HasBytes g) where
  of-made : (made new : World) → new ≡ made → Whole g made → Whole g new
  of-made made new e o = subst (Whole g) (sym e) o

  refuses-whole : (again : Bool) (w : World) (l : Line) (r : Refused) → Whole g w → Whole g (refuses again w l r)
  refuses-whole true w l r o = o
  refuses-whole false w l r o = record {
    owned = record { spot = o.owned.spot; counts = o.owned.counts; holds = told g.version g.units o.owned.spot o.owned.counts w _ w.acts w.reports o.owned.holds; answering = o.owned.answering };
    places = o.places;
  }

  accepts-whole : (w new : World) (l : Line) (c : Command) (t : ℕ) → IsOfBytes (plain c.request) → Accepts w l (plain c.request) t new → Whole g w → Whole g new
  accepts-whole w new l c t i d o =
      let x = builds_hold g.retries g.step_limit g.version g.units o.owned.spot o.owned.counts w new l (plain c.request) t setting.rig i o.places.depths o.places.space d o.owned.holds in
      record {
        owned = record {
          spot = o.owned.spot;
          counts = o.owned.counts;
          holds = x.0;
          answering = subst (λ (v : World). AreAnswering g.units v.bus) (sym d.world) (answering-room g.units w.bus (unit w.desk (plain c.request).unit).target o.owned.answering);
        };
        places = record { depths = x.1.depths; space = x.1.space };
      }

  builds-by : (w new : World) (l : Line) (c : Command) (answer : Reply) → IsOfBytes (plain c.request) → BuildsBy w l c answer new → Whole g w → Whole g new
  builds-by w new l c (reply.Built t) i d o = accepts-whole w new l c t i d o
  builds-by w new l c (reply.Refused r) i d o = of-made _ new d.1 (refuses-whole (is_tried_again c.when_full r) w l r o)
  builds-by w new l c _ i d o = absurd d

  builds-of : (w new : World) (l : Line) (k : Option Command) (answer : Reply) → command_at g l ≡ k → BuildsOf k w l answer new → Whole g w → Whole g new
  builds-of w new l None answer e d o = absurd d
  builds-of w new l (Some c) answer e d o = builds-by w new l c answer (bytes l c e) d o

  other-step : (w new : World) (caller : ℕ) (s : Step) (answer : Reply) → is_build s ≡ false → Enabled g w caller s → Does g w caller s answer new → Whole g w → Whole g new
  other-step w new caller s answer is may d o = record {
    owned = bench_steps_hold g g.version g.units w new caller s answer setting.work is may d o.owned;
    places = desks_kept g w new caller s answer is may d o.places;
  }

  pub each-step : (w new : World) (caller : ℕ) (s : Step) (answer : Reply) → Enabled g w caller s → Does g w caller s answer new → Whole g w → Whole g new
  each-step w new caller (step.Build l) answer may d o = builds-of w new l (command_at g l) answer refl d o
  each-step w new caller (step.Chip word) answer may d o = other-step w new caller (step.Chip word) answer refl may d o
  each-step w new caller (step.Link t) answer may d o = other-step w new caller (step.Link t) answer refl may d o
  each-step w new caller (step.Queue t) answer may d o = other-step w new caller (step.Queue t) answer refl may d o
  each-step w new caller step.Signal answer may d o = other-step w new caller step.Signal answer refl may d o
  each-step w new caller step.Fix answer may d o = other-step w new caller step.Fix answer refl may d o
  each-step w new caller (step.Sweep t) answer may d o = other-step w new caller (step.Sweep t) answer refl may d o
  each-step w new caller step.Restart answer may d o = other-step w new caller step.Restart answer refl may d o
  each-step w new caller step.TakeDone answer may d o = other-step w new caller step.TakeDone answer refl may d o
  each-step w new caller (step.Unlink t) answer may d o = other-step w new caller (step.Unlink t) answer refl may d o
  each-step w new caller (step.Free t) answer may d o = other-step w new caller (step.Free t) answer refl may d o
  each-step w new caller (step.Act k) answer may d o = other-step w new caller (step.Act k) answer refl may d o
  each-step w new caller step.ResetBus answer may d o = other-step w new caller step.ResetBus answer refl may d o
  each-step w new caller (step.Sense t) answer may d o = other-step w new caller (step.Sense t) answer refl may d o

  runs-whole : (w : World) (ms : List Moment) → IsRun g w ms → Whole g w → Whole g (last w ms)
  runs-whole w [] r o = o
  runs-whole w (m ∷ ms) r o = runs-whole m.after ms r.1 (each-step w m.after m.entry.caller m.entry.step m.reply r.0.enabled r.0.does o)

  pub opening-whole : Whole g (opened g)
  opening-whole = record {
    owned = record { spot = _; counts = _; holds = holds_opened g setting.rig.few_units; answering = answering_opens g.version g.retries g.step_limit g.units setting.rig };
    places = record { depths = record { unit = λ t l. absurd cc; depth = λ u l. omega arith }; space = opening_owns g.version g.units g.retries g.autosense (length g.submitters) };
  }

-- every world of a run from the opening on
pub whole_at : (g : BenchSetting) → IsBenchSetting g → HasBytes g → (ms : List Moment) → IsRun g (opened g) ms → Whole g (last (opened g) ms)
whole_at g setting bytes ms r = runs-whole g setting bytes (opened g) ms r (opening-whole g setting bytes)

pub words_are_owned : WordsAreOwned
words_are_owned g setting bytes ms r = (whole_at g setting bytes ms r).owned

pub depths_are_kept : DepthsAreKept
depths_are_kept g setting bytes ms r = (whole_at g setting bytes ms r).places
