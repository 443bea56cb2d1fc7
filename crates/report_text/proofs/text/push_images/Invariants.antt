use Rattle.std.proofs.Common.{◌≡◌, ◌++◌, drop}
use Rattle.std.specs.List.{flat_map}
use Rattle.report_text.specs.Text.{unit_images}
use Rattle.report_text.proofs.text.push_images.Given as goal

-- with the units from here on the text is whole
abbrev pub invariant-loop-number : goal.invariant-loop-number
invariant-loop-number l =
    l.text.items ++ flat_map (unit_images l.bench.world) (drop l.number l.bench.world.desk.units)
    ≡ l.initial.text.items ++ flat_map (unit_images l.bench.world) l.bench.world.desk.units
