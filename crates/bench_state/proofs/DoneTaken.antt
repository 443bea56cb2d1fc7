-- What TakeDone makes of the world.
use Rattle.std.proofs.Common.{◌≡◌, false, ℕ, List, refl, sym, subst}
use Rattle.chip_regs.specs.declared.registers.Regs.{Regs}
use Rattle.desk_law.specs.Desk.{DeskState}
use Rattle.desk_law.specs.Taking.{takes, take_memory}
use Rattle.driver_desk.specs.Conditions.{next_done}
use Rattle.world_law.specs.Steps.{taken}
use Rattle.bench_state.specs.States.{BenchState, with_world}

abbrev IsTaken : (b c : BenchState) → List ℕ → Regs → DeskState → Type 0
IsTaken b c m r d = with_world b (record b.world { memory = m; regs = r; desk = d }) ≡ with_world c (taken c.world (next_done c.world.memory c.world.desk))

pub taken_so : (b c : BenchState) (m : List ℕ) (r : Regs) (d : DeskState) → b ≡ c → d ≡ takes b.world.desk b.world.memory (next_done b.world.memory b.world.desk)
    → m ≡ take_memory b.world.desk b.world.memory → r ≡ record b.world.regs { intf = false }
    → with_world b (record b.world { memory = m; regs = r; desk = d }) ≡ with_world c (taken c.world (next_done c.world.memory c.world.desk))
taken_so b c m r d e desk memory regs =
    subst (λ (x : BenchState). IsTaken b x m r d) e
    (subst (λ (x : List ℕ). IsTaken b b x r d) (sym memory)
    (subst (λ (x : Regs). IsTaken b b (take_memory b.world.desk b.world.memory) x d) (sym regs)
    (subst (λ (x : DeskState). IsTaken b b (take_memory b.world.desk b.world.memory) (record b.world.regs { intf = false }) x) (sym desk) refl)))
