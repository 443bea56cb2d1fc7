-- A step of the chip over the driver's bus is one in the world.
use Rattle.std.proofs.Common.{◌≡◌, ◌∙◌, ℕ, List, sym, ap, subst}
use Rattle.rig_types.specs.declared.rig.Unit.{Unit as RigUnit}
use Rattle.chip_step.specs.Chip.{Chip}
use Rattle.chip_step.specs.Step.{ChipStep}
use Rattle.chip_step.specs.declared.outcome.StepEnd.{StepEnd}
use Rattle.bus_law.specs.Bus.{BusState}
use Rattle.bus_law.specs.Moves.{moves}
use Rattle.world_law.specs.declared.reply.Reply.{Reply}
use Rattle.world_law.specs.declared.reply.Stop.{Stop}
use Rattle.desk_law.specs.Desk.{DeskState}
use Rattle.world_law.specs.World.{World}
use Rattle.world_law.specs.ChipSteps.{chip_of, stop_after, after_chip, reply_for, RunsChip}
use Rattle.bench_state.specs.States.{BenchState}
use Rattle.bench_state.specs.Driving.{live_among}

-- the units of the desk are those of the rig
pub runs_so : (b c : BenchState) (units : List RigUnit) (word : ℕ) (end : StepEnd) (chip : Chip BusState) (answer : Reply) (new : World) → b ≡ c
    → b.world.desk.units ≡ units → ChipStep (moves units (live_among units b.world.desk)) word (chip_of b.world) end chip → answer ≡ reply_for end
    → new ≡ after_chip b.world end chip → RunsChip c.world word answer new
runs_so b c units word end chip answer new e u ran a n =
    subst (λ (x : BenchState). RunsChip x.world word answer new) e
    (record {
      end = end;
      chip = chip;
      ran = subst (λ (us : List RigUnit). ChipStep (moves us (live_among us b.world.desk)) word (chip_of b.world) end chip) (sym u) ran;
      answer_is = a;
      world = n;
    })

-- the desk stays, and the stop stage is that of the step
pub after_so : (w : World) (end : StepEnd) (chip : Chip BusState) (d : DeskState) (s : Stop) → d ≡ w.desk → s ≡ stop_after end w.stop
    → record w { memory = chip.memory; regs = chip.regs; bus = chip.bus; desk = d; stop = s } ≡ after_chip w end chip
after_so w end chip d s e f =
    ap (λ (x : DeskState). record w { memory = chip.memory; regs = chip.regs; bus = chip.bus; desk = x; stop = s }) e
    ∙ ap (λ (x : Stop). record w { memory = chip.memory; regs = chip.regs; bus = chip.bus; stop = x }) f
