use Rattle.refusal_lines.proofs.PrintedLines.{prints_as}
use Rattle.refusal_lines.proofs.printing.print_line.Goals as goal

pub returns : goal.returns
returns g c =
    prints_as c.as_bytes.result.now c.args.line.now c.as_bytes.ensures.value (g.E.Sink.written c.args.err.now) (g.E.Sink.faults c.args.err.now) (g.E.Sink.written c.write_all.new.sink) (g.E.Sink.faults c.write_all.new.sink)
    c.write_all.result c.write_all.ensures.whole c.write_all.ensures.part c.write_all.ensures.failed
