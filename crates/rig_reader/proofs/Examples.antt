-- The first fault of two rigs, computed from their bytes: what the definitions say of a depth one beyond its range, and at it.
use Rattle.std.proofs.Common.{◌≡◌, Some, None, codes, refl, option_map}
use Rattle.std.specs.Fmt.{digits}
use Rattle.rig_types.specs.declared.fault.BadKind.TheVariants.{OutOfRange}
use Rattle.toml.specs.Parse.{parse_document}
use Rattle.toml.proofs.OnLiterals.{toml_on_literals}
use Rattle.file_keys.specs.Faults.{at}
use Rattle.rig_reader.specs.RigFile.{rig_fault}

pub rig_fault-depth_65 : option_map rig_fault (parse_document (codes "version = 1\n[[unit]]\ntarget = 0\nlun = 0\nblocks = 64\ndepth = 65\n")) ≡ Some (Some (at (codes "unit[0].depth") OutOfRange))
unfolding toml_on_literals digits
rig_fault-depth_65 = refl

pub rig_fault-depth_64 : option_map rig_fault (parse_document (codes "version = 1\n[[unit]]\ntarget = 0\nlun = 0\nblocks = 64\ndepth = 64\n")) ≡ Some None
unfolding toml_on_literals digits
rig_fault-depth_64 = refl
