-- Data stay in their buffers: a step of the chip touches a data place only in a data move of a live ticket, whose own it is (own). No contract rests on it yet.
use Rattle.std.specs.Prelude.{◌≡◌, ℕ, ◌+◌, ◌<◌, ◌≤◌, if◌then◌else◌, is_some, true, List, Some, Contains, ◌⊎◌}
use Rattle.std.specs.List.{range_with_len}
use Rattle.scripts_ops.specs.declared.values.Op.{Op}
use Rattle.chip_step.specs.Step.{IsAt}
use Rattle.chip_rows.specs.Touched.{IsIn, touched}
use Rattle.host_map.specs.declared.TheConstants.{BUFFERS, MEMORY_BYTES}
use Rattle.host_map.specs.Places.{IsCommandBlock}
use Rattle.cmd_block.specs.declared.TheConstants.{SENSE}
use Rattle.phase_fix.specs.Moves.{move_at}
use Rattle.desk_law.specs.declared.ticket.Ticket.{Ticket}
use Rattle.desk_law.specs.Desk.{DeskState, ticket, unit, lives, is_sensing}
use Rattle.desk_law.specs.Blocks.{own}
use Rattle.world_law.specs.World.{World}
use Rattle.world_law.specs.ChipSteps.{chip_of}

-- the 18 addresses of the sense area of a block
abbrev pub sense_area : Ticket → List ℕ
sense_area k = range_with_len (k.block + SENSE) 18

pub record IsSensePlace (x : ℕ) : Type 0 where
  pub block : ℕ
  pub is : IsCommandBlock block
  pub from : block + SENSE ≤ x
  pub below : x < block + SENSE + 18

-- the buffer region and the sense areas
abbrev pub IsDataPlace : ℕ → Type 0
IsDataPlace x = (BUFFERS ≤ x) × (x < MEMORY_BYTES) ⊎ IsSensePlace x

-- where the data of a ticket go
abbrev pub data_places : Ticket → List ℕ
data_places k = if is_sensing k.stage then sense_area k else own k

-- the chip is at a data move, DSA is the block of a live ticket, its unit's target is connected, and the address is one of its data's
pub record IsOwn (w : World) (x : ℕ) : Type 0 where
  pub move : is_some (move_at w.regs.dsp) ≡ true
  pub number : ℕ
  pub live : lives (ticket w.desk number) ≡ true
  pub block : (ticket w.desk number).block ≡ w.regs.dsa
  pub target : w.bus.connected ≡ Some (unit w.desk (ticket w.desk number).unit).target
  pub mine : Contains (data_places (ticket w.desk number)) x

-- a step of the chip from one world to the next touches a data place only so
abbrev pub StaysIn : World → World → Type 0
StaysIn old new = (op : Op) (x : ℕ) → IsAt (chip_of old) op → IsIn (touched op (chip_of old) new.regs.dbc) x → IsDataPlace x → IsOwn old x

-- the buffers of live tickets share no address
abbrev pub AreApart : DeskState → Type 0
AreApart d = (a b x : ℕ) → lives (ticket d a) ≡ true → lives (ticket d b) ≡ true → Contains (own (ticket d a)) x → Contains (own (ticket d b)) x → a ≡ b
