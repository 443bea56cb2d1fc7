use Rattle.std.proofs.Common.{arith}
use Rattle.std.proofs.lemmas.Grind.{common_steps}
use Rattle.plain_lun.proofs.Disks.{filled_disk_more}
use Rattle.plain_lun.proofs.lun.filled.Goals as goal

pub loop-k-preserved : goal.loop-k-preserved
loop-k-preserved c = grind (arith, common_steps, filled_disk_more c.args.pattern c.loop-k.k)
