use Rattle.std.proofs.Common.{refl}
use Rattle.unit_law.specs.Request.{plain}
use Rattle.driver_desk.proofs.BuiltTicket.{not_refused, given_back}
use Rattle.driver_desk.proofs.desk.Desk.refusal.Goals as goal

pub returns-in-Ok-clause-reason : goal.returns-in-Ok-clause-reason
returns-in-Ok-clause-reason c = not_refused c.args.self.now c.accept.new.self (plain c.args.request.now) c.in-Ok.chunks c.in-Ok.ensures

pub returns-in-Ok-clause-desk : goal.returns-in-Ok-clause-desk
returns-in-Ok-clause-desk c =
    given_back c.args.self.now c.accept.new.self c.accept.new.self c.give_back.new.self (plain c.args.request.now) c.in-Ok.chunks c.in-Ok.ensures refl c.give_back.ensures
