use Rattle.std.proofs.Common.{◌≡◌, drop}
use Rattle.file_keys.specs.Keys.{is_among}
use Rattle.file_keys.proofs.Finds.{texts}
use Rattle.file_keys.proofs.keys.is_known.Given as goal

abbrev pub invariant-loop-name : goal.invariant-loop-name
invariant-loop-name l = is_among (texts (drop l.name-index l.names)) l.key ≡ is_among (texts l.names) l.key
