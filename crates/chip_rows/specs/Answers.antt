-- A bus with one answer to each call, and a step with one end.
use Rattle.std.specs.Prelude.{◌≡◌, ℕ}
use Rattle.chip_step.specs.Event.{Event, call_of}
use Rattle.chip_step.specs.Chip.{Chip}
use Rattle.chip_step.specs.Step.{ChipStep}
use Rattle.chip_step.specs.declared.outcome.StepEnd.{StepEnd}

-- a call has one answer and one state after it
abbrev pub HasOneAnswer : {B : Type 0} → (B → Event → B → Type 0) → Type 0
HasOneAnswer {B} moves = (bus : B) (a b : Event) (x y : B) → call_of a ≡ call_of b → moves bus a x → moves bus b y → (a ≡ b) × (x ≡ y)

-- a step with a word has one end and one state after it
abbrev pub HasOneEnd : {B : Type 0} → (B → Event → B → Type 0) → Type 0
HasOneEnd {B} moves =
    (word : ℕ) (old : Chip B) (a b : StepEnd) (x y : Chip B) → ChipStep moves word old a x → ChipStep moves word old b y → (a ≡ b) × (x ≡ y)
