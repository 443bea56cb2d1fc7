use Rattle.std.proofs.Common.{◌≡◌, ◌++◌, IsTrue, length, string_bytes}
use Rattle.scripts_list.specs.Filled.{are_ascii}
use Rattle.scripts_list.specs.Texts.{printed}
use Rattle.scripts_list.proofs.texts.push_items.Given as goal

abbrev pub invariant-loop-items : goal.invariant-loop-items
invariant-loop-items l = record {
  ascii : IsTrue (are_ascii l.items);
  goes_on : string_bytes l.out ++ printed l.items l.values ≡ string_bytes l.initial.out ++ printed l.initial.items l.initial.values;
}

abbrev pub decreases-loop-items : goal.decreases-loop-items
decreases-loop-items l = length l.items
