use Rattle.std.proofs.Common.{◌≡◌, map}
use Rattle.toml.specs.View.{table_view}
use Rattle.file_keys.specs.Keys.{least_unknown}
use Rattle.file_keys.proofs.Finds.{unknown_in}
use Rattle.file_keys.proofs.keys.refuse_unknown.Given as goal

abbrev pub invariant-loop-key : goal.invariant-loop-key
invariant-loop-key l = unknown_in (map (λ n. n.now) l.names) l.key-iterator ≡ least_unknown (map (λ n. n.now) l.names) (table_view l.fn.table)
