-- The desk has one ticket more: what is asked of it, its block and the others.
use Rattle.std.specs.Prelude.{◌≡◌, ◌≢◌, ◌+◌, ◌≤◌, ℕ, List, length}
use Rattle.bench_words.specs.Bytes.{IsBytes}
use Rattle.bench_words.specs.Memory.{word_at}
use Rattle.bench_words.specs.Views.{Outside}
use Rattle.rig_types.specs.declared.rig.Unit.{Unit as RigUnit}
use Rattle.cmd_block.specs.declared.Field.TheVariants.{State, Gate}
use Rattle.cmd_block.specs.declared.TheConstants.{LIVE}
use Rattle.driver_script.specs.Script.{label_of}
use Rattle.driver_script.specs.declared.labels.Name.TheVariants as label
use Rattle.phase_fix.specs.Remain.{field}
use Rattle.desk_law.specs.declared.stage.Stage.TheVariants.{Built, Freed}
use Rattle.desk_law.specs.Desk.{DeskState}
use Rattle.world_law.specs.World.{World}
use Rattle.word_owners.specs.Tickets.{Tickets, tickets_of, block_of, target_of, AreTickets, AreChecked}
use Rattle.word_owners.specs.Parts.{Counts, IsBlock}
use Rattle.word_owners.specs.Holds.{Spot, Holds}

-- Ticket t is built, which was no live one, and every other ticket is as before. Below the buffer region memory differs in its block
-- alone, whose STATE is LIVE and whose GATE is BADTASK.
pub record IsAdded (w n : ℕ → ℕ) (ts new : Tickets) (t : ℕ) : Type 0 where
  pub units : new.units ≡ ts.units
  pub was : ts.stage t ≡ Freed
  pub stage : new.stage t ≡ Built
  pub stages : (u : ℕ) → u ≢ t → new.stage u ≡ ts.stage u
  pub fixeds : (u : ℕ) → u ≢ t → new.fixed u ≡ ts.fixed u
  pub tickets : AreTickets new
  pub outside : (x : ℕ) → x + 4 ≤ 0x200000 → Outside x (block_of new t) (block_of new t + 0x200) → n x ≡ w x
  pub block : IsBlock n Built (new.fixed t) (target_of new t)
  pub live : field n (block_of new t) State ≡ LIVE
  pub gate : field n (block_of new t) Gate ≡ label_of label.Badtask

-- memory and the desk after it; the rings are as before
pub record AddsTicket (w : World) (m : List ℕ) (desk : DeskState) (t : ℕ) : Type 0 where
  pub added : IsAdded (word_at w.memory) (word_at m) (tickets_of w.desk) (tickets_of desk) t
  pub size : length m ≡ length w.memory
  pub bytes : IsBytes m
  pub version : desk.version ≡ w.desk.version
  pub put : desk.put ≡ w.desk.put
  pub take : desk.take ≡ w.desk.take
  pub checked : AreChecked desk

abbrev pub AddHolds : Type 0
AddHolds = (version : ℕ) (units : List RigUnit) (s : Spot) (c : Counts) (w : World) (m : List ℕ) (desk : DeskState) (t : ℕ) → AddsTicket w m desk t → Holds version units s c w → Holds version units s c (record w { memory = m; desk = desk })
