-- What the program's table of names holds. No public contract rests on these.
use Rattle.std.specs.Prelude.{ℕ, List, Option}
use Rattle.std.specs.Ordering.{nat_cmp}
use Rattle.std.specs.Cmp.Lexicographic.{slice_cmp}
use Rattle.std.specs.BTreeMap as tree
use Rattle.scripts_asm.specs.declared.names.Giving.{Giving}
use Rattle.scripts_asm.specs.declared.names.NameTable.{NameTable}

abbrev pub giving_in : NameTable → List ℕ → Option Giving
giving_in t = λ name. tree.get_by (λ k. slice_cmp nat_cmp name k.now) t.first
