use Rattle.std.proofs.Common.{◌≡◌, refl, subst}
use Rattle.desk_law.specs.Desk.{DeskState}
use Rattle.driver_desk.specs.Stages.{is_again, least_again}
use Rattle.driver_desk.proofs.StageSets.{least_is}
use Rattle.driver_desk.proofs.desk.Desk.least_again.Goals as goal

pub returns : goal.returns
returns c =
    subst (λ (d : DeskState). c.least.result ≡ least_again d) c.self.view_is
    (least_is is_again c.self.inside.stages.again c.self.inside.tickets.items c.least.result refl c.self.invariant.1.again c.least.ensures)
