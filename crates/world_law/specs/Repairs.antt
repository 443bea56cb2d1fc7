-- Fix: the data pointer is repaired after a phase mismatch (own). Where the stopped instruction is no data move, or one that can't be repaired,
-- the bus is to be reset.
use Rattle.std.specs.Prelude.{◌≡◌, ◌⊎◌, ◌-◌, Some}
use Rattle.bench_words.specs.Memory.{word_at}
use Rattle.driver_script.specs.Script.{label_of}
use Rattle.driver_script.specs.declared.labels.Name.TheVariants as label
use Rattle.phase_fix.specs.declared.moves.DataMove.{DataMove}
use Rattle.phase_fix.specs.Moves.{move_at}
use Rattle.phase_fix.specs.Repair.{IsFixable, repaired}
use Rattle.world_law.specs.declared.reply.Stop.TheVariants as stop
use Rattle.world_law.specs.World.{World}

-- DSA is a block place, and the instruction before DSP a data move that can be repaired
abbrev pub CanFix : World → Type 0
CanFix w = IsFixable (word_at w.memory) w.regs.dsa w.regs.dsp w.regs.dbc

-- the chip is to go on at DISPATCH
abbrev pub fixed : World → DataMove → World
fixed w x = record w { memory = repaired w.memory w.regs.dsa w.regs.dsp w.regs.dbc x; stop = stop.Clear; resume = Some (label_of label.Dispatch) }

abbrev pub not_fixed : World → World
not_fixed w = record w { stop = stop.MustReset }

pub record Repairs (old new : World) : Type 0 where
  pub can_fix : CanFix old
  pub move : DataMove
  pub is : move_at (old.regs.dsp - 8) ≡ Some move
  pub world : new ≡ fixed old move

abbrev pub Fixes : World → World → Type 0
Fixes old new = Repairs old new ⊎ ((CanFix old → ⊥) × (new ≡ not_fixed old))
