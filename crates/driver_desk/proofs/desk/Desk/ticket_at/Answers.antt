use Rattle.std.proofs.Common.{◌≡◌, None, sym, subst}
use Rattle.host_map.specs.Places.{IsCommandBlock}
use Rattle.desk_law.specs.Desk.{DeskState, ticket_at}
use Rattle.driver_desk.proofs.Index.{no_such_block, not_so}
use Rattle.driver_desk.proofs.desk.Desk.ticket_at.Goals as goal

-- src/desk.rt:181:5
pub returns-else-is_command_block : goal.returns-else-is_command_block
returns-else-is_command_block c =
    let never : IsCommandBlock c.args.block → ⊥ = not_so _ (IsCommandBlock c.args.block) c.is_command_block.ensures c.if-is_command_block.false in
    subst (λ (d : DeskState). None ≡ ticket_at d c.args.block) c.self.view_is (sym (no_such_block _ _ _ c.args.block _ c.self.invariant.0.0.each_ticket never))
