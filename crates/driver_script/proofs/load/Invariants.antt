use Rattle.std.proofs.Common.{◌≡◌, length}
use Rattle.driver_script.specs.Script.{laid}
use Rattle.driver_script.proofs.load.Given as goal

abbrev pub invariant-loop-n : goal.invariant-loop-n
invariant-loop-n l = record {
  size : length l.words ≡ length l.fn.words;
  so_far : l.words ≡ laid l.fn.words l.version l.n;
}
