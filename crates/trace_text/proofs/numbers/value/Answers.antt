use Rattle.std.proofs.Common.{◌+◌, ◌*◌, ◌-◌, drop, get_or, arith}
use Rattle.std.proofs.lemmas.List.{drop_more}
use Rattle.trace_text.proofs.Digits.{digits_too_large}
use Rattle.trace_text.proofs.numbers.value.Goals as goal

pub returns-then-n-gt4294967295 : goal.returns-then-n-gt4294967295
returns-then-n-gt4294967295 c =
    let bs = c.args.bytes.now in
    let i = c.loop-b.b-index in
    let same = rw (drop_more bs i 0 c.loop-b-test.true) at c.loop-b.invariant.value in
    digits_too_large bs (10 * c.loop-b.n + (get_or bs i 0 - 48)) (drop (i + 1) bs) same (omega arith)
