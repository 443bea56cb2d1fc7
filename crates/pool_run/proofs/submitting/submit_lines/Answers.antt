use Rattle.std.proofs.Common.{◌∙◌, ◌<◌, length, arith}
use Rattle.pool_run.proofs.LineByLine.{follows_on, may_begin}
use Rattle.pool_run.proofs.submitting.submit_lines.Goals as goal

pub submit_line-requires-clause-begin : goal.submit_line-requires-clause-begin
submit_line-requires-clause-begin g c =
    let within : c.loop-number.number < length c.args.choices.now = omega arith in
    may_begin _ _ _ _ _ c.loop-number.invariant.rests within

pub returns-in_err-submit_line-clause-follows : goal.returns-in_err-submit_line-clause-follows
returns-in_err-submit_line-clause-follows g c = follows_on _ _ _ c.loop-number.invariant.follows c.submit_line.ensures.follows

pub loop-number-preserved : goal.loop-number-preserved
loop-number-preserved g c = record {
  lock = c.submit_line.ensures.lock ∙ c.loop-number.invariant.lock;
  follows = follows_on _ _ _ c.loop-number.invariant.follows c.submit_line.ensures.follows;
  rests = c.in_ok-submit_line.ensures.ok c.args.choices.now c.loop-number.invariant.rests;
}
