use Rattle.std.proofs.Common.{◌≡◌, arith, rules}
use Rattle.trace_text.proofs.Traces.{head_digit}
use Rattle.trace_text.proofs.reading.is_first_line.Goals as goal

pub returns-then-version-eq2 : goal.returns-then-version-eq2
returns-then-version-eq2 c = rw (head_digit c.args.version (omega arith), c.if-version-eq2.true) (search (rules, c.eq.ensures, c.as_slice.ensures))

pub returns-else-version-eq2 : goal.returns-else-version-eq2
returns-else-version-eq2 c =
    let one : c.args.version ≡ 1 = omega arith in
    rw (head_digit c.args.version (omega arith), one) (search (rules, c.eq-else-version-eq2.ensures, c.as_slice-else-version-eq2.ensures))
