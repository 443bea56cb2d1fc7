use Rattle.std.proofs.Common.{◌∙◌, ap, Option, option_map}
use Rattle.bus_law.specs.Reselections as law
use Rattle.bus_law.specs.Reselections.{target_of, after_reselection}
use Rattle.target_bus.proofs.bus.TargetBus.reselect.Goals as goal

pub connect-requires : goal.connect-requires
connect-requires c = (c.args.units.now, c.in-Some.ensures.named, c.in-Some.ensures.can)

pub returns-in-Some : goal.returns-in-Some
returns-in-Some c = record {
  by = ap (λ (o : Option law.Candidate). option_map target_of o) c.in-Some.ensures.named;
  state = c.connect.ensures ∙ ap (λ (o : Option law.Candidate). after_reselection o c.args.word c.args.self.now) c.in-Some.ensures.named;
}

pub returns-in-None : goal.returns-in-None
returns-in-None c = record {
  by = ap (λ (o : Option law.Candidate). option_map target_of o) c.in-None.ensures.named;
  state = ap (λ (o : Option law.Candidate). after_reselection o c.args.word c.args.self.now) c.in-None.ensures.named;
}
