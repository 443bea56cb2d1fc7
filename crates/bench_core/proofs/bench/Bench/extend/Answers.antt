use Rattle.std.proofs.Common.{◌<◌, length, sym, subst}
use Rattle.bench_core.specs.Histories.{History}
use Rattle.bench_core.proofs.Longer.{bench_extended}
use Rattle.bench_core.proofs.bench.Bench.extend.Goals as goal

pub invariant_of-self : goal.invariant_of-self
invariant_of-self c =
    let there : c.args.submitter < length c.self.inside.state.setting.submitters =
    subst (λ (h : History). c.args.submitter < length h.setting.submitters) (sym c.self.view_is) c.requires.there in
    bench_extended c.extend.result c.self.inside.state c.extend.new.self c.args.submitter c.args.command c.self.inside.entries.items _ there c.self.invariant
    c.extend.ensures.setting c.extend.ensures.err c.extend.ensures.world
