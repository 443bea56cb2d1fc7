use Rattle.chip_regs.proofs.Words as law
use Rattle.chip_regs.proofs.laws.wide_by_bytes.Goals as goal

pub returns : goal.returns
returns c = law.wide_by_bytes
