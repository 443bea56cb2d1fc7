use Rattle.std.proofs.Common.{refl}
use Rattle.opening_memory.specs.Tables.{written}
use Rattle.opening_memory.proofs.lay_control.Goals as goal

pub returns-clause-wrote : goal.returns-clause-wrote
unfolding written
returns-clause-wrote c =
    rw (c.set-11.ensures.wrote, c.set-10.ensures.wrote, c.set-9.ensures.wrote, c.set-8.ensures.wrote, c.set-7.ensures.wrote, c.set-6.ensures.wrote, c.set-5.ensures.wrote, c.set-4.ensures.wrote, c.set-3.ensures.wrote, c.set-2.ensures.wrote, c.set.ensures.wrote, c.label.ensures, c.label-2.ensures, c.label-3.ensures) refl
