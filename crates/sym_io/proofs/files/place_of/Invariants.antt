use Rattle.std.proofs.Common.{◌≡◌, ◌+◌, drop}
use Rattle.sym_io.specs.ByName.{place_by_name}
use Rattle.sym_io.proofs.files.place_of.Given as goal

abbrev pub invariant-loop-i : goal.invariant-loop-i
invariant-loop-i l = l.i + place_by_name (drop l.i l.files) l.name ≡ place_by_name l.files l.name
