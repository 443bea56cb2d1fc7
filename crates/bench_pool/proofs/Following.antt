-- What a seat's steps leave, one after the other.
use Rattle.std.proofs.Common.{◌≡◌, ℕ, List, [], ◌++◌, refl, sym, ◌∙◌, append-nil}
use Rattle.rig_types.specs.declared.step.Step.{Step}
use Rattle.bench_lock.specs.declared.view.View.{View}
use Rattle.bench_lock.specs.Views.{Follows}
use Rattle.bench_lock.specs.Stepped.{Stepped}
use Rattle.bench_lock.proofs.OwnedNumbers.{Begins-on, Follows-stepped}
use Rattle.world_law.specs.declared.reply.Reply.{Reply}
use Rattle.world_law.specs.World.{BenchSetting}
use Rattle.world_law.specs.Runs.{is_recorded}
use Rattle.seat_law.specs.Worlds.{Allows}

pub follows_same : (v : View BenchSetting Step) → Follows v v
follows_same v = record { opening = refl; callers = refl; caller = refl; seen = ([], sym (append-nil v.seen)); owns = λ x h. h }

pub follows_on : (u v w : View BenchSetting Step) → Follows u v → Follows v w → Follows u w
follows_on u v w a b = record {
  opening = b.opening ∙ a.opening;
  callers = b.callers ∙ a.callers;
  caller = b.caller ∙ a.caller;
  seen = Begins-on u.seen v.seen w.seen a.seen b.seen;
  owns = λ x h. b.owns x (a.owns x h);
}

pub follows_stepped : (o : BenchSetting) (v w : View BenchSetting Step) (x : Step) (reply : Reply) (front : ℕ) → Stepped Allows is_recorded o v w x reply front → Follows v w
follows_stepped o v w x reply front s = Follows-stepped Allows is_recorded o v v w x reply front (follows_same v) s
