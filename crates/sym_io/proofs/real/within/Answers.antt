use Rattle.std.proofs.Common.{arith, subst, ◌≡◌, IfSome}
use Rattle.sym_io.proofs.BoundedReads.{all-within}
use Rattle.sym_io.proofs.real.within.Goals as goal

pub returns-clause-whole : goal.returns-clause-whole
returns-clause-whole g c =
    rw c.of.ensures
    (subst (λ (r : g.row.R.Denot). IfSome (g.R.Read.remaining r) (λ all. c.read_to_end.new.buf.items ≡ all)) c.take.ensures.inner
    (all-within (g.R.Read.remaining c.take.result.inner) c.args.limit c.take.result.limit c.new-bytes.result.items c.read_to_end.new.buf.items (omega arith) c.new-bytes.ensures.items c.in_ok-read_to_end.ensures.bytes (omega arith)))
