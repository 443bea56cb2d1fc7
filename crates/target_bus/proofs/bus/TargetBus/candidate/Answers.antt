use Rattle.std.proofs.Common.{◌∙◌, ◌%◌, ℕ, ap, sym}
use Rattle.std.specs.Prelude.{slice_get}
use Rattle.bus_law.specs.Reselections.{all_candidates}
use Rattle.target_bus.proofs.CandidateCounts.{uncalled, none-named, is-named, can-be}
use Rattle.target_bus.proofs.bus.TargetBus.candidate.Goals as goal

pub returns-then-not-calls-clause-named : goal.returns-then-not-calls-clause-named
returns-then-not-calls-clause-named c = uncalled c.args.units.now c.args.self.now c.args.word (sym c.calls.ensures ∙ c.if-not-calls.true)

pub returns-then-count-eq0-clause-named : goal.returns-then-count-eq0-clause-named
returns-then-count-eq0-clause-named c =
    none-named c.args.units.now c.args.self.now c.args.word (sym c.calls.ensures ∙ c.if-not-calls.false) (sym c.candidate_total-count.ensures ∙ c.if-count-eq0.true)

pub returns-clause-named : goal.returns-clause-named
returns-clause-named c =
    is-named c.args.units.now c.args.self.now c.args.word c.candidate_at.result (sym c.calls.ensures ∙ c.if-not-calls.false) c.candidate_at.ensures.within
    (c.candidate_at.ensures.at ∙ ap (λ (n : ℕ). slice_get (all_candidates c.args.units.now c.args.self.now) (c.args.word % 256 % n)) c.candidate_total-count.ensures)

pub returns-clause-can : goal.returns-clause-can
returns-clause-can c = can-be c.args.self.now c.args.word c.candidate_at.result (sym c.calls.ensures ∙ c.if-not-calls.false) c.candidate_at.ensures.unit
