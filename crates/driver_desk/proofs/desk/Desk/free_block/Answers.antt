use Rattle.std.proofs.Common.{arith, ◌≡◌, ℕ, ◌+◌, ◌%◌, ◌<◌, false, length, sym, subst, ◌∙◌}
use Rattle.desk_law.specs.Desk.{DeskState}
use Rattle.desk_law.specs.Refusals.{is_full}
use Rattle.desk_law.specs.Building.{free_block}
use Rattle.place_table.specs.Places.{IsLeastFree}
use Rattle.driver_desk.proofs.LiveCounts.{IsTaken}
use Rattle.driver_desk.proofs.Least.{least_block, some_block}
use Rattle.driver_desk.proofs.desk.Desk.free_block.Goals as goal

pub unreachable-requires : goal.unreachable-requires
unreachable-requires c =
    let low : c.args.unit < length c.self.inside.units.items = subst (λ (d : DeskState). c.args.unit < length d.units) (sym c.self.view_is) c.requires.unit in
    let all : (n : ℕ) → n < 256 → n % 1 ≡ 0 → IsTaken c.self.inside.by_block (0 + n) = c.in-None.ensures in
    let none = some_block _ _ _ _ _ _ _ _ _ _ _ _ _ c.args.unit c.self.invariant.0 low
    (subst (λ (d : DeskState). is_full d c.args.unit ≡ false) (sym c.self.view_is) c.requires.some) all in
    omega (arith, none)

pub returns-clause-least : goal.returns-clause-least
returns-clause-least c =
    let first : IsLeastFree c.self.inside.by_block 0 1 c.in-Some.n = c.in-Some.ensures in
    subst (λ (d : DeskState). c.block_at.result ≡ free_block d) c.self.view_is (c.block_at.ensures ∙ sym (least_block _ _ _ _ c.self.invariant.0.1 first))
