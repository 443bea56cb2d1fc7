use Rattle.chip_regs.proofs.Bytes as law
use Rattle.chip_regs.proofs.laws.registers_keep_bytes.Goals as goal

pub returns : goal.returns
returns c = law.registers_keep_bytes
