use Rattle.std.proofs.Common.{◌≡◌, refl, subst}
use Rattle.desk_law.specs.Desk.{DeskState}
use Rattle.driver_desk.specs.Stages.{is_unlinked, least_unlinked}
use Rattle.driver_desk.proofs.StageSets.{least_is}
use Rattle.driver_desk.proofs.desk.Desk.least_unlinked.Goals as goal

pub returns : goal.returns
returns c =
    subst (λ (d : DeskState). c.least.result ≡ least_unlinked d) c.self.view_is
    (least_is is_unlinked c.self.inside.stages.unlinked c.self.inside.tickets.items c.least.result refl c.self.invariant.1.unlinked c.least.ensures)
