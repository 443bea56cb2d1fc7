-- A bench at its opening is one.
use Rattle.std.proofs.Common.{arith, ◌≡◌, ◌≤◌, ℕ, List, [], sym, subst}
use Rattle.rig_types.specs.declared.step.Entry.{Entry}
use Rattle.world_law.specs.World.{BenchSetting, World}
use Rattle.world_law.specs.Opening.{opened}
use Rattle.bench_core.specs.Histories.{IsBench}
use Rattle.bench_core.proofs.Replays.{replays_none}

at-opening : (g : BenchSetting) (capacity : ℕ) → g.step_limit ≤ 4194304 → g.step_limit ≤ capacity → IsBench g [] (opened g) capacity
at-opening g capacity few room = record { replayed = replays_none g; within = omega arith; limit = few; room = room }

pub opens : (g h : BenchSetting) (es : List Entry) (w : World) (capacity : ℕ) → h ≡ g → es ≡ [] → w ≡ opened g → g.step_limit ≤ 4194304 → g.step_limit ≤ capacity
    → IsBench h es w capacity
opens g h es w capacity e f k few room =
    subst (λ (x : BenchSetting). IsBench x es w capacity) (sym e)
    (subst (λ (xs : List Entry). IsBench g xs w capacity) (sym f)
    (subst (λ (x : World). IsBench g [] x capacity) (sym k) (at-opening g capacity few room)))
