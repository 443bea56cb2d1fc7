use Rattle.chip_step.specs.Chip.{state}
use Rattle.target_bus.proofs.BusSteps.{step-shows, rests}
use Rattle.target_bus.proofs.live_bus.step.Goals as goal

pub returns-clause-does : goal.returns-clause-does
returns-clause-does g c = (step-shows g.L.LiveTickets.units g.L.LiveTickets.live c.args.word (state c.args.words.now c.args.regs.now c.args.live.now) c.step.result (state c.step.new.words c.step.new.regs c.step.new.bus) c.step.ensures.does).1

pub returns-clause-tickets : goal.returns-clause-tickets
returns-clause-tickets g c = (step-shows g.L.LiveTickets.units g.L.LiveTickets.live c.args.word (state c.args.words.now c.args.regs.now c.args.live.now) c.step.result (state c.step.new.words c.step.new.regs c.step.new.bus) c.step.ensures.does).0

pub returns-clause-idle : goal.returns-clause-idle
returns-clause-idle g c = λ e. rests (state c.args.words.now c.args.regs.now c.args.live.now) (state c.step.new.words c.step.new.regs c.step.new.bus) (c.step.ensures.idle e).1
