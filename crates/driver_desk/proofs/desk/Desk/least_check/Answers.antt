use Rattle.std.proofs.Common.{◌≡◌, refl, subst}
use Rattle.desk_law.specs.Desk.{DeskState}
use Rattle.driver_desk.specs.Stages.{is_check, least_check}
use Rattle.driver_desk.proofs.StageSets.{least_is}
use Rattle.driver_desk.proofs.desk.Desk.least_check.Goals as goal

pub returns : goal.returns
returns c =
    subst (λ (d : DeskState). c.least.result ≡ least_check d) c.self.view_is
    (least_is is_check c.self.inside.stages.check c.self.inside.tickets.items c.least.result refl c.self.invariant.1.check c.least.ensures)
