use Rattle.std.proofs.Common.{◌∙◌, ap, Option}
use Rattle.bus_law.specs.Reselections as law
use Rattle.bus_law.specs.Reselections.{can_select, settles, after_selection}
use Rattle.target_bus.proofs.bus.TargetBus.select.Goals as goal

pub connect-requires : goal.connect-requires
connect-requires c = (c.args.units.now, c.in-Some.ensures.named, c.in-Some.ensures.can)

pub returns-in-Some : goal.returns-in-Some
returns-in-Some c = record {
  settled = ap (λ (o : Option law.Candidate). settles o (can_select c.args.self.now c.args.target)) c.in-Some.ensures.named;
  state = c.connect.ensures ∙ ap (λ (o : Option law.Candidate). after_selection o (can_select c.args.self.now c.args.target) c.args.target c.args.word c.args.self.now) c.in-Some.ensures.named;
}

pub select_where_there-requires : goal.select_where_there-requires
select_where_there-requires c = (c.args.units.now, c.args.word, c.in-None.ensures.named)

pub returns-in-None : goal.returns-in-None
returns-in-None c = record {
  settled = c.select_where_there.ensures.settled ∙ ap (λ (o : Option law.Candidate). settles o (can_select c.args.self.now c.args.target)) c.in-None.ensures.named;
  state = c.select_where_there.ensures.state c.args.word ∙ ap (λ (o : Option law.Candidate). after_selection o (can_select c.args.self.now c.args.target) c.args.target c.args.word c.args.self.now) c.in-None.ensures.named;
}
