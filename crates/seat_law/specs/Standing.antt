-- Where a submitter stands between its steps (own).
use Rattle.std.specs.Prelude.{◌≡◌, ◌<◌, ℕ, length, Some}
use Rattle.rig_types.specs.declared.step.Step.{Step}
use Rattle.rig_types.specs.declared.step.Step.TheVariants as step
use Rattle.bench_lock.specs.declared.view.View.{View}
use Rattle.bench_lock.specs.Views.{IsOwn}
use Rattle.desk_law.specs.declared.stage.Stage.{Stage}
use Rattle.desk_law.specs.declared.stage.Stage.TheVariants.{Built, Linked}
use Rattle.desk_law.specs.Desk.{ticket, due}
use Rattle.world_law.specs.World.{BenchSetting, World}
use Rattle.world_law.specs.Laws.{IsHeldBy}
use Rattle.seat_law.specs.Worlds.{LeadsTo}

-- it has nothing to do for a line; it has built this ticket; it has linked it; it has a signal to make
pub data Standing : Type 0 where
  rests : Standing
  has_built : ℕ → Standing
  has_linked : ℕ → Standing
  owes : Standing

-- none of its tickets is Built or Linked
abbrev pub HoldsNone : World → (s : ℕ) → Type 0
HoldsNone w s = (t : ℕ) → IsHeldBy s (ticket w.desk t) → ⊥

-- of its tickets this one alone is Built or Linked, and it is in this stage
pub record HoldsOne (stage : Stage) (w : World) (s t : ℕ) : Type 0 where
  pub stage_is : (ticket w.desk t).stage ≡ stage
  pub own : (ticket w.desk t).line.submitter ≡ s
  pub only : (u : ℕ) → IsHeldBy s (ticket w.desk u) → u ≡ t

abbrev pub StandsIn : World → (s : ℕ) → Standing → Type 0
StandsIn w s rests = (due w.desk s ≡ 0) × HoldsNone w s
StandsIn w s (has_built t) = (due w.desk s ≡ 0) × HoldsOne Built w s t
StandsIn w s (has_linked t) = (due w.desk s ≡ 0) × HoldsOne Linked w s t
StandsIn w s owes = (due w.desk s ≡ 1) × HoldsNone w s

-- its next step, which nobody else can bring about or prevent
abbrev pub IsNext : Standing → Step → Type 0
IsNext rests s = ⊥
IsNext (has_built t) s = s ≡ step.Link t
IsNext (has_linked t) s = s ≡ step.Queue t
IsNext owes s = s ≡ step.Signal

-- and where it stands then
abbrev pub after_next : Standing → Standing
after_next rests = rests
after_next (has_built t) = has_linked t
after_next (has_linked t) = owes
after_next owes = rests

-- What the submitter of a seat knows: the world that the seat's list leads to, that all entries of its caller since the opening are its own, and
-- where it stands.
pub record IsAt (v : View BenchSetting Step) (g : BenchSetting) (w : World) (p : Standing) : Type 0 where
  pub opening : v.opening ≡ Some g
  pub leads : LeadsTo g v.seen w
  pub own : IsOwn v v.seen
  pub submitter : v.caller < length g.submitters
  pub stands : StandsIn w v.caller p
