-- A mismatch that can be repaired is repaired.
use Rattle.std.proofs.Common.{◌≡◌, ◌-◌, inl, ℕ, List, Option, Some, None, refl, sym, subst}
use Rattle.std.specs.Prelude.{IsSome}
use Rattle.std.specs.Option.{ForSome}
use Rattle.driver_script.specs.Script.{label_of}
use Rattle.driver_script.specs.declared.labels.Name.TheVariants.{Dispatch}
use Rattle.phase_fix.specs.declared.moves.DataMove.{DataMove}
use Rattle.phase_fix.specs.Moves.{move_at}
use Rattle.phase_fix.specs.Repair.{repaired}
use Rattle.world_law.specs.declared.reply.Stop.TheVariants.{Clear}
use Rattle.world_law.specs.World.{World}
use Rattle.world_law.specs.Repairs.{CanFix, Repairs, Fixes}
use Rattle.bench_state.specs.States.{BenchState}

abbrev after : World → List ℕ → ℕ → World
after w m at = record w { memory = m; stop = Clear; resume = Some at }

by-move : (w : World) (m : List ℕ) (at : ℕ) (o : Option DataMove) → o ≡ move_at (w.regs.dsp - 8) → IsSome o → CanFix w
    → ForSome (move_at (w.regs.dsp - 8)) (λ (x : DataMove). m ≡ repaired w.memory w.regs.dsa w.regs.dsp w.regs.dbc x) → at ≡ label_of Dispatch
    → Repairs w (after w m at)
by-move w m at None e some can wrote there = absurd cc
by-move w m at (Some x) e some can wrote there =
    subst (λ (a : ℕ). Repairs w (after w m a)) (sym there)
    (subst (λ (n : List ℕ). Repairs w (after w n (label_of Dispatch))) (sym (wrote x (sym e)))
    (record { can_fix = can; move = x; is = sym e; world = refl }))

pub fixes_so : (b c : BenchState) (m : List ℕ) (at : ℕ) → b ≡ c → CanFix b.world
    → ForSome (move_at (b.world.regs.dsp - 8)) (λ (x : DataMove). m ≡ repaired b.world.memory b.world.regs.dsa b.world.regs.dsp b.world.regs.dbc x)
    → at ≡ label_of Dispatch → Fixes c.world (after b.world m at)
fixes_so b c m at e can wrote there =
    subst (λ (x : BenchState). Fixes x.world (after b.world m at)) e
    (inl (by-move b.world m at (move_at (b.world.regs.dsp - 8)) refl can.moved can wrote there))
