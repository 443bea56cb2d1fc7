use Rattle.std.proofs.Common.{◌++◌, List, map, sym, subst}
use Rattle.dma_buddy.specs.declared.buddies.Chunk.{Chunk}
use Rattle.dma_buddy.specs.Regions.{AreOut}
use Rattle.desk_law.specs.Desk.{DeskState}
use Rattle.driver_desk.specs.Held.{core, held}
use Rattle.driver_desk.proofs.FreedTickets.{out-right}
use Rattle.driver_desk.proofs.desk.Desk.give_back.Goals as goal

pub put_back-requires-clause-out : goal.put_back-requires-clause-out
put_back-requires-clause-out c =
    let out : AreOut c.self.inside.region (held (map core c.self.inside.tickets.items) ++ c.args.chunks.now) =
    subst (λ (d : DeskState). AreOut d.space (held (map core d.tickets) ++ c.args.chunks.now)) (sym c.self.view_is) c.requires.out in
    subst (λ (cs : List Chunk). AreOut c.self.inside.region cs) (sym c.as_slice.ensures) (out-right _ _ _ out)
