-- A submitter's lines, one after the other.
use Rattle.std.proofs.Common.{◌≡◌, ◌<◌, ◌+◌, ℕ, zero, suc, List, [], ◌∷◌, length, slice_get, slice_index_or, Option, Some, refl, sym, ap, subst, ◌∙◌}
use Rattle.std.proofs.lemmas.Option.{slice_get-get_or}
use Rattle.rig_types.specs.declared.step.Line.{Line}
use Rattle.rig_types.specs.declared.step.Step.{Step}
use Rattle.rig_types.specs.declared.commands.Command.{Command}
use Rattle.rig_types.specs.declared.commands.WhenFull.{WhenFull}
use Rattle.bench_lock.specs.declared.view.View.{View}
use Rattle.bench_lock.specs.Views.{Follows}
use Rattle.bench_lock.proofs.OwnedNumbers.{Begins-on}
use Rattle.world_law.specs.declared.reply.Decided.{Decided}
use Rattle.world_law.specs.World.{BenchSetting, commands_of}
use Rattle.seat_law.specs.Standing.{rests}
use Rattle.bench_pool.specs.Submits.{MayBegin, HasDecided, StopsFull}
use Rattle.bench_pool.specs.Workers.{Sees, IsFull}
use Rattle.pool_run.specs.Callers.{line_choices, RestsAfter}

pub follows_on : (u v w : View BenchSetting Step) → Follows u v → Follows v w → Follows u w
follows_on u v w a b = record {
  opening = b.opening ∙ a.opening;
  callers = b.callers ∙ a.callers;
  caller = b.caller ∙ a.caller;
  seen = Begins-on u.seen v.seen w.seen a.seen b.seen;
  owns = λ x h. b.owns x (a.owns x h);
}

-- ---- the next line may begin

record HasChoice (c : Option Command) (f : WhenFull) : Type 0 where
  pub command : Command
  pub is : c ≡ Some command
  pub when_full : command.when_full ≡ f

choice-of : (cs : List Command) (k : ℕ) (f : WhenFull) → slice_get (line_choices cs) k ≡ Some f → HasChoice (slice_get cs k) f
choice-of [] k f e = absurd cc
choice-of (c ∷ cs) zero f e = record { command = c; is = refl; when_full = cc }
choice-of (c ∷ cs) (suc k) f e = choice-of cs k f e

pub may_begin : (choices : List WhenFull) (s count : ℕ) (d : WhenFull) (v : View BenchSetting Step) → RestsAfter choices s count v → count < length choices
    → MayBegin v (record { submitter = s; number = count }) (slice_index_or choices count d)
may_begin choices s count d v h l =
    let f : WhenFull = slice_index_or choices count d in
    let at : slice_get choices count ≡ Some f = slice_get-get_or choices count d l in
    let c : HasChoice (slice_get (commands_of h.setting s) count) f = choice-of (commands_of h.setting s) count f (ap (λ (xs : List WhenFull). slice_get xs count) h.are ∙ at) in
    record { setting = h.setting; world = h.world; at = h.at; line = record { own = h.own; command = c.command; is = c.is; when_full = c.when_full }; next = h.decided }

-- ---- a line is decided

pub rests_again : (v w : View BenchSetting Step) (l : Line) (d : Decided) (choices : List WhenFull) → Follows v w → HasDecided w l d rests → RestsAfter choices l.submitter l.number v
    → RestsAfter choices l.submitter (l.number + 1) w
rests_again v w l d choices f h r =
    let both : Some r.setting ≡ Some h.setting = sym r.at.opening ∙ (sym f.opening ∙ h.at.opening) in
    let same : r.setting ≡ h.setting = cc in
    record {
      setting = h.setting;
      world = h.world;
      at = h.at;
      own = h.caller;
      are = subst (λ (g : BenchSetting). line_choices (commands_of g l.submitter) ≡ choices) same r.are;
      decided = h.next;
    }

-- ---- it isn't

pub stops_full : (own : List (ℕ × Step)) (v : View BenchSetting Step) (l : Line) → StopsFull own v l → IsFull v
stops_full own v l h = record { setting = h.setting; full = h.full }

pub begins_sees : (v : View BenchSetting Step) (l : Line) (f : WhenFull) → MayBegin v l f → Sees v
begins_sees v l f h = record { setting = h.setting; sees = record { world = h.world; opening = h.at.opening; leads = h.at.leads; own = h.at.own } }
