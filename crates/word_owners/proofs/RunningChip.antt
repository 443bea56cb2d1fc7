-- A chip that runs stands at a point.
use Rattle.std.proofs.Common.{◌≡◌, ℕ, List, sym, ◌∙◌}
use Rattle.rig_types.specs.declared.rig.Unit.{Unit as RigUnit}
use Rattle.world_law.specs.World.{World}
use Rattle.world_law.specs.declared.reply.Stop.TheVariants as stop
use Rattle.word_owners.specs.Holds.{Spot, Holds, Running, Mismatched, NotData, Fixed, TimedOut, JobOver, ResetAt, Broken}
use Rattle.word_owners.specs.Parts.{Counts}
use Rattle.word_owners.specs.Points.{Point}

pub running : (version : ℕ) (units : List RigUnit) (s : Spot) (c : Counts) (w : World) → w.stop ≡ stop.Run → Holds version units s c w → (p : Point) × Holds version units (Running p) c w
running version units (Running p) c w runs h = (p, h)
running version units (Mismatched t x left) c w runs h = let z : stop.Run ≡ stop.Mismatch = sym runs ∙ h.stays.0 in absurd cc
running version units NotData c w runs h = let z : stop.Run ≡ stop.Mismatch = sym runs ∙ h.stays.0 in absurd cc
running version units (Fixed t) c w runs h = let z : stop.Run ≡ stop.Clear = sym runs ∙ h.stays.0 in absurd cc
running version units (TimedOut t) c w runs h = let z : stop.Run ≡ stop.Clear = sym runs ∙ h.stays.0 in absurd cc
running version units JobOver c w runs h = let z : stop.Run ≡ stop.Clear = sym runs ∙ h.stays.0 in absurd cc
running version units (ResetAt p) c w runs h = let z : stop.Run ≡ stop.Clear = sym runs ∙ h.stays.0 in absurd cc
running version units Broken c w runs h = let z : stop.Run ≡ stop.MustReset = sym runs ∙ h.stays.0 in absurd cc
