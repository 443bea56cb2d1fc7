use Rattle.std.proofs.Common.{ap}
use Rattle.chip_step.specs.Chip.{Chip, state}
use Rattle.bus_law.specs.Bus.{BusState}
use Rattle.bench_state.specs.declared.driver.Driver.{Driver}
use Rattle.bench_state.specs.contracts.state.State.{the_view}
use Rattle.bench_state.proofs.Chips.{runs_so, after_so}
use Rattle.bench_state.proofs.state.State.run_chip.Goals as goal

-- src/chip_steps.rt:17:5
pub returns-clause-runs : goal.returns-clause-runs
returns-clause-runs c =
    let chip : Chip BusState = state c.step-end.new.words c.step-end.new.regs c.step-end.new.live.bus in
    runs_so (the_view c.self.inside) _ c.self.inside.bus.tickets.rig.units c.args.word c.step-end.result chip _ _ c.self.view_is c.self.invariant.0.units
    c.step-end.ensures.does c.reply_for.ensures
    (after_so (the_view c.self.inside).world c.step-end.result chip _ _ (ap (λ (x : Driver). x.desk) c.step-end.ensures.tickets) c.stop_after-self-inside.ensures)
