use Rattle.dma_buddy.proofs.tests.takes_and_gives.Goals as goal
use Rattle.dma_buddy.proofs.tests.takes_and_gives.Goals.{in-Take+else-assert+in_ok-take-in-Take+else-assert_eq, in-Give+else-assert-2+else-assert_eq-2}

pub steps-preserved : goal.steps-preserved
steps-preserved g c =
    elim c.match-step.branch [
      | in-Take+else-assert+in_ok-take-in-Take+else-assert_eq w ↦ rw (w.region-is, w.held-is) w.in_ok-take-in-Take.ensures
      | in-Give+else-assert-2+else-assert_eq-2 w ↦ rw (w.region-is, w.held-is) w.give.ensures
    ]
