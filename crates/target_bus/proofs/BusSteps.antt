-- A step of the chip over the bus with its tickets is one over the bus.
use Rattle.std.proofs.Common.{◌≡◌, ◌∙◌, ℕ, List, Option, refl, ap, subst}
use Rattle.rig_types.specs.declared.rig.Unit.{Unit as RigUnit}
use Rattle.chip_step.specs.Event.{Event}
use Rattle.chip_step.specs.Chip.{Chip, state}
use Rattle.chip_step.specs.Step.{ChipStep}
use Rattle.chip_step.specs.declared.outcome.StepEnd.{StepEnd}
use Rattle.chip_rows.specs.Following.{over}
use Rattle.chip_rows.proofs.RelatedBuses.{steps_show}
use Rattle.target_law.specs.declared.nexus.Nexus.{Nexus}
use Rattle.bus_law.specs.Moves.{moves}
use Rattle.target_bus.specs.Live.{MovesWith}
use Rattle.target_bus.specs.declared.live_bus.LiveBus.{LiveBus}

module _ {T : Type 0} (units : T → List RigUnit) (live : T → ℕ → Nexus → Option ℕ) where
  abbrev pub calls : LiveBus T → Event → LiveBus T → Type 0
  calls old event new = MovesWith units live old.bus old.tickets event new.bus new.tickets

  pub step-shows : (word : ℕ) (old : Chip (LiveBus T)) (end : StepEnd) (new : Chip (LiveBus T)) → ChipStep calls word old end new
      → (new.bus.tickets ≡ old.bus.tickets) × ChipStep (moves (units old.bus.tickets) (live old.bus.tickets)) word (over old.bus.bus old) end (over new.bus.bus new)
  step-shows word old end new h =
      steps_show (λ (x : LiveBus T). x.bus) (λ (x : LiveBus T). x.tickets ≡ old.bus.tickets) calls (moves (units old.bus.tickets) (live old.bus.tickets))
      (λ x e y p m. (m.1 ∙ p, subst (λ (t : T). moves (units t) (live t) x.bus e y.bus) p m.0)) word old end new refl h

-- where the chip with the bus and its tickets is as before, so is the chip with the bus
pub rests : {T : Type 0} (old new : Chip (LiveBus T)) → new ≡ old → state new.memory new.regs new.bus.bus ≡ state old.memory old.regs old.bus.bus
rests {T} old new e = ap (λ (x : Chip (LiveBus T)). state x.memory x.regs x.bus.bus) e
