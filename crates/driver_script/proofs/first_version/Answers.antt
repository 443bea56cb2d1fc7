use Rattle.std.proofs.Common.{◌≡◌, length, refl, arith}
use Rattle.std.proofs.lemmas.List.{get_or_default}
use Rattle.scripts_ops.specs.declared.values.Op.TheVariants.{Move, Nop}
use Rattle.driver_script.specs.declared.script.TheConstants.{SCRIPT}
use Rattle.driver_script.proofs.first_version.Goals as goal

pub returns : goal.returns
returns c =
    let size : length SCRIPT ≡ 151 = refl in
    get_or_default SCRIPT c.args.k (Move 0 0 0) Nop (omega (arith, size))
