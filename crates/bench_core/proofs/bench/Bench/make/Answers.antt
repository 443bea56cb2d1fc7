use Rattle.std.proofs.Common.{◌∙◌, length, sym, ap, subst}
use Rattle.world_law.specs.Enabling.{Enabled}
use Rattle.world_law.specs.Answers.{WithinLimit, Answers}
use Rattle.bench_core.specs.Histories.{History, entered}
use Rattle.bench_core.proofs.Made.{few_signals, few_tickets, entry_of, room_made, bench_made, answers_made}
use Rattle.bench_core.proofs.bench.Bench.make.Goals as goal

pub make-reply-requires-clause-signals : goal.make-reply-requires-clause-signals
make-reply-requires-clause-signals c = few_signals c.self.inside.state.setting c.self.inside.entries.items c.self.inside.state.world _ c.self.invariant

pub make-reply-requires-clause-tickets : goal.make-reply-requires-clause-tickets
make-reply-requires-clause-tickets c = few_tickets c.self.inside.state.setting c.self.inside.entries.items c.self.inside.state.world _ c.self.invariant

pub enter-requires : goal.enter-requires
enter-requires c =
    let within : WithinLimit c.self.inside.state.setting (length c.self.inside.entries.items) c.self.inside.state.world =
    subst (λ (h : History). WithinLimit h.setting (length h.entries) h.world) (sym c.self.view_is) c.requires.within in
    let enabled : Enabled c.self.inside.state.setting c.self.inside.state.world c.args.caller c.args.step =
    subst (λ (h : History). Enabled h.setting h.world c.args.caller c.args.step) (sym c.self.view_is) c.requires.enabled in
    λ r. room_made c.self.inside.state.setting c.make-reply.new.self.setting c.self.inside.entries.items c.self.inside.state.world c.args.caller c.args.step
    c.make-reply.result c.make-reply.new.self.world _ c.self.invariant within enabled c.make-reply.ensures.makes c.make-reply.ensures.setting
    (sym c.is_recorded-recorded.ensures ∙ r)

pub invariant_of-self : goal.invariant_of-self
invariant_of-self c =
    let within : WithinLimit c.self.inside.state.setting (length c.self.inside.entries.items) c.self.inside.state.world =
    subst (λ (h : History). WithinLimit h.setting (length h.entries) h.world) (sym c.self.view_is) c.requires.within in
    let enabled : Enabled c.self.inside.state.setting c.self.inside.state.world c.args.caller c.args.step =
    subst (λ (h : History). Enabled h.setting h.world c.args.caller c.args.step) (sym c.self.view_is) c.requires.enabled in
    bench_made c.self.inside.state.setting c.make-reply.new.self.setting c.self.inside.entries.items c.enter.new.entries.items c.self.inside.state.world c.args.caller
    c.args.step c.make-reply.result c.make-reply.new.self.world _ _ c.self.invariant within enabled c.make-reply.ensures.makes c.make-reply.ensures.setting
    (c.enter.ensures.entered ∙ ap (λ b. entered b c.self.inside.entries.items (entry_of c.args.caller c.args.step)) c.is_recorded-recorded.ensures)
    c.enter.ensures.capacity

pub returns-clause-answers : goal.returns-clause-answers
returns-clause-answers c =
    let within : WithinLimit c.self.inside.state.setting (length c.self.inside.entries.items) c.self.inside.state.world =
    subst (λ (h : History). WithinLimit h.setting (length h.entries) h.world) (sym c.self.view_is) c.requires.within in
    let enabled : Enabled c.self.inside.state.setting c.self.inside.state.world c.args.caller c.args.step =
    subst (λ (h : History). Enabled h.setting h.world c.args.caller c.args.step) (sym c.self.view_is) c.requires.enabled in
    subst (λ (h : History). Answers h.setting (length h.entries) h.world c.args.caller c.args.step c.make-reply.result c.make-reply.new.self.world) c.self.view_is
    (answers_made c.self.inside.state.setting (length c.self.inside.entries.items) c.self.inside.state.world c.args.caller c.args.step c.make-reply.result
    c.make-reply.new.self.world within enabled c.make-reply.ensures.makes)
