use Rattle.std.proofs.Common.{◌≡◌, ◌∙◌, length, sym, subst}
use Rattle.bench_state.specs.States.{BenchState}
use Rattle.bench_state.proofs.state.State.submitter_count.Goals as goal

-- src/drained.rt:28:5
pub returns-clause-lines : goal.returns-clause-lines
returns-clause-lines c =
    c.aborter.ensures.number ∙ subst (λ (b : BenchState). b.world.desk.submitters ≡ length b.world.lines) c.self.view_is (c.self.invariant.0.submitters ∙ sym c.self.invariant.0.lines)

pub returns-clause-submitters : goal.returns-clause-submitters
returns-clause-submitters c =
    c.aborter.ensures.number ∙ subst (λ (b : BenchState). b.world.desk.submitters ≡ length b.setting.submitters) c.self.view_is c.self.invariant.0.submitters
