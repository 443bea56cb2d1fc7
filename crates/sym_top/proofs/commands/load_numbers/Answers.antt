use Rattle.std.proofs.Common.{ℕ, List, subst}
use Rattle.sym_top.specs.CommandLine.{IsNumber}
use Rattle.sym_top.proofs.SpelledWords.{too_many}
use Rattle.sym_top.proofs.commands.load_numbers.Goals as goal

pub returns-then-count-gt2000-clause-none : goal.returns-then-count-gt2000-clause-none
returns-then-count-gt2000-clause-none c none count seed (x, y, e, i, few, j) =
    too_many c.args.first.now c.args.second.now x y c.in_ok-count.count count
    (subst (λ (w : List ℕ). IsNumber w c.in_ok-count.count) c.as_str.ensures c.in_ok-count.ensures.found) c.if-count-gt2000.true e i few
