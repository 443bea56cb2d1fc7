use Rattle.std.proofs.Common.{◌≡◌, ◌*◌, length, arith, ap, ◌∙◌}
use Rattle.plain_lun.proofs.Disks.{length-filled_disk}
use Rattle.plain_lun.proofs.lun.Lun.new.Goals as goal

pub invariant_of-result : goal.invariant_of-result
invariant_of-result c =
    let n : length c.in_ok-filled.field-0.items ≡ c.args.blocks * 512 = ap length c.in_ok-filled.ensures ∙ length-filled_disk c.args.pattern (c.args.blocks * 512) in
    (omega arith, omega arith)
