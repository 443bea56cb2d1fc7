use Rattle.sym_top.proofs.OneCause as law
use Rattle.sym_top.proofs.laws.one_cause.Goals as goal

pub returns : goal.returns
returns c = law.one_cause
