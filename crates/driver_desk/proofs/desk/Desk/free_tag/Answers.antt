use Rattle.std.proofs.Common.{arith, ◌≡◌, ℕ, ◌+◌, ◌*◌, ◌%◌, ◌<◌, false, length, sym, subst}
use Rattle.desk_law.specs.Desk.{DeskState}
use Rattle.desk_law.specs.Refusals.{is_full}
use Rattle.desk_law.specs.Building.{free_tag}
use Rattle.place_table.specs.Places.{IsLeastFree}
use Rattle.driver_desk.specs.Conditions.{step_of}
use Rattle.driver_desk.proofs.LiveCounts.{IsTaken}
use Rattle.driver_desk.proofs.Least.{least_tag, some_tag}
use Rattle.driver_desk.proofs.desk.Desk.free_tag.Goals as goal

pub unreachable-requires : goal.unreachable-requires
unreachable-requires c =
    let low : c.args.unit < length c.self.inside.units.items = subst (λ (d : DeskState). c.args.unit < length d.units) (sym c.self.view_is) c.requires.unit in
    let step : c.tag_step.result ≡ step_of c.self.inside.version = subst (λ (d : DeskState). c.tag_step.result ≡ step_of d.version) (sym c.self.view_is) c.tag_step.ensures.is in
    let all : (n : ℕ) → n < 256 → n % step_of c.self.inside.version ≡ 0 → IsTaken c.self.inside.by_tag (256 * c.args.unit + n) =
    subst (λ (s : ℕ). (n : ℕ) → n < 256 → n % s ≡ 0 → IsTaken c.self.inside.by_tag (256 * c.args.unit + n)) step c.in-None.ensures in
    let none = some_tag _ _ _ _ _ _ _ _ _ _ _ _ _ c.args.unit c.self.invariant.0 low
    (subst (λ (d : DeskState). is_full d c.args.unit ≡ false) (sym c.self.view_is) c.requires.some) all in
    omega (arith, none)

pub returns-clause-least : goal.returns-clause-least
returns-clause-least c =
    let step : c.tag_step.result ≡ step_of c.self.inside.version = subst (λ (d : DeskState). c.tag_step.result ≡ step_of d.version) (sym c.self.view_is) c.tag_step.ensures.is in
    let low : c.args.unit < length c.self.inside.units.items = subst (λ (d : DeskState). c.args.unit < length d.units) (sym c.self.view_is) c.requires.unit in
    let few : c.args.unit < 16 = omega (arith, low, c.self.invariant.0.0.few_units) in
    let first : IsLeastFree c.self.inside.by_tag (256 * c.args.unit) (step_of c.self.inside.version) c.in-Some.tag =
    subst (λ (s : ℕ). IsLeastFree c.self.inside.by_tag (256 * c.args.unit) s c.in-Some.tag) step c.in-Some.ensures in
    subst (λ (d : DeskState). c.in-Some.tag ≡ free_tag d c.args.unit) c.self.view_is (sym (least_tag _ _ _ _ _ _ c.self.invariant.0.1 few first))
