use Rattle.std.proofs.Common.{arith, ◌≡◌, ◌≤◌, length, None, sym, subst}
use Rattle.desk_law.specs.Desk.{DeskState, ticket_of}
use Rattle.driver_desk.proofs.Index.{no_such_unit}
use Rattle.driver_desk.proofs.desk.Desk.ticket_of.Goals as goal

-- src/desk.rt:169:5
pub returns-else-unit-lt16 : goal.returns-else-unit-lt16
returns-else-unit-lt16 c =
    let past : length c.self.inside.units.items ≤ c.args.unit = omega (arith, c.self.invariant.0.0.few_units, c.if-unit-lt16.false) in
    subst (λ (d : DeskState). None ≡ ticket_of d c.args.unit c.args.tag) c.self.view_is
    (sym (no_such_unit _ _ _ c.args.unit c.args.tag _ c.self.invariant.0.0.each_ticket past))
