use Rattle.dma_buddy.specs.Regions.{AreOut}
use Rattle.dma_buddy.proofs.tests.fragments.Given as goal

abbrev pub invariant-fill : goal.invariant-fill
invariant-fill g l = AreOut l.region l.held.items

abbrev pub invariant-calls : goal.invariant-calls
invariant-calls g l = AreOut l.region l.held.items

abbrev pub invariant-parts : goal.invariant-parts
invariant-parts g l = AreOut l.region l.held.items

abbrev pub invariant-rest : goal.invariant-rest
invariant-rest g l = AreOut l.region l.held.items
