use Rattle.std.proofs.Common.{◌+◌, ap, arith}
use Rattle.replay_run.proofs.MadeSteps.{makes, refused}
use Rattle.replay_run.proofs.making.make_step.Goals as goal

pub returns-then-before-length : goal.returns-then-before-length
returns-then-before-length c = record {
  setting = c.step.ensures.setting;
  made = makes c.args.bench.now c.step.new.self (record { caller = c.args.caller; step = c.args.step }) c.step.result c.step.ensures.setting c.step.ensures.answers c.step.ensures.entries
      (omega (arith, c.if-before-length.true, c.length-before.ensures, c.length.ensures));
  refused = tt;
}

pub returns-else-before-length : goal.returns-else-before-length
returns-else-before-length c = record {
  setting = c.step.ensures.setting;
  made = tt;
  refused = (
    ap (λ n. n + 1) c.length-before.ensures,
    refused c.args.bench.now c.step.new.self (record { caller = c.args.caller; step = c.args.step }) c.step.result c.requires c.in_default.not-OutOfMemory c.step.ensures.answers c.step.ensures.entries
        (λ more. omega (arith, more, c.if-before-length.false, c.length-before.ensures, c.length.ensures)),
  );
}
