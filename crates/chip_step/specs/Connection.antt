-- SELECT, WAIT DISCONNECT, WAIT RESELECT, SET and CLEAR.
use Rattle.std.specs.Prelude.{◌≡◌, ℕ, ℤ, ◌+◌, ◌/◌, ◌%◌, Bool, true, false, Option, Some, None, MatchBool}
use Rattle.bench_words.specs.Memory.{word_at}
use Rattle.chip_regs.specs.Registers.{stop_with}
use Rattle.chip_regs.specs.declared.registers.Regs.{Regs}
use Rattle.chip_regs.specs.declared.registers.Cause.TheVariants.{Iid, Bf, Ma, Sto}
use Rattle.chip_step.specs.Event as event
use Rattle.chip_step.specs.Event.{Event}
use Rattle.chip_step.specs.Chip.{Chip, Ends, Becomes, Stops}
use Rattle.chip_step.specs.Addresses.{place_of}
use Rattle.chip_step.specs.Blocks.{ReleasesAtn}
use Rattle.chip_step.specs.declared.scsi_bus.Settled.{Settled}
use Rattle.chip_step.specs.declared.scsi_bus.Settled.TheVariants.{Selected, Reselected, TimedOut}
use Rattle.chip_step.specs.declared.outcome.StepEnd.{StepEnd}
use Rattle.chip_step.specs.declared.outcome.StepEnd.TheVariants.{Ran, Idle, Stopped}

-- the table word of a selection: byte 3, byte 2 and byte 1
abbrev pub with_table : ℕ → Regs → Regs
with_table w r = record r { scntl3 = w / 16777216; sdid = w / 65536 % 256; sxfer = w / 256 % 256 }

-- a target is connected that has reselected the chip
abbrev pub reselected_by : ℕ → Regs → Regs
reselected_by target r = record r { con = true; ssid = 128 + target }

-- WAIT DISCONNECT: where the bus isn't free after the target's choice, MA with DBC 0
abbrev pub WaitsAt : {B : Type 0} → Bool → Chip B → StepEnd → Chip B → Type 0
WaitsAt true old end new = Ends Ran old.memory (record old.regs { con = false }) end new
WaitsAt false old end new = Ends (Stopped Ma) old.memory (stop_with Ma (record old.regs { dbc = 0 })) end new

-- WAIT RESELECT: where nobody reselects, the step is idle, and all is as it was before the fetch
abbrev pub ReselectsBy : {B : Type 0} → Option ℕ → Chip B → Chip B → StepEnd → Chip B → Type 0
ReselectsBy None before old end new = (end ≡ Idle) × (new ≡ before)
ReselectsBy (Some target) before old end new = Ends Ran old.memory (reselected_by target old.regs) end new

module _ {B : Type 0} (moves : B → Event → B → Type 0) where
  abbrev pub AssertsAtn : Bool → B → B → Type 0
  AssertsAtn true old new = moves old (event.SetAtn true) new
  AssertsAtn false old new = new ≡ old

  abbrev pub ReleasesAck : Bool → B → B → Type 0
  ReleasesAck true old new = moves old event.ClearAck new
  ReleasesAck false old new = new ≡ old

  -- SET asserts ATN; of ACK it changes nothing
  pub record Sets (ack atn : Bool) (old : Chip B) (end : StepEnd) (new : Chip B) : Type 0 where
    pub asserts : AssertsAtn atn old.bus new.bus
    pub ends : Ends Ran old.memory old.regs end new

  -- CLEAR releases ATN first and then ACK, and with ACK the target acts on the byte
  pub record Clears (ack atn : Bool) (old : Chip B) (end : StepEnd) (new : Chip B) : Type 0 where
    pub mid : B
    pub atn_first : ReleasesAtn moves atn old.bus mid
    pub ack_then : ReleasesAck ack mid new.bus
    pub ends : Ends Ran old.memory old.regs end new

module _ {B : Type 0} (moves : B → Event → B → Type 0) (word : ℕ) where
  -- WAIT DISCONNECT
  abbrev pub Waits : Chip B → StepEnd → Chip B → Type 0
  Waits old end new = (gone : Bool) × moves old.bus (event.Leave word gone) new.bus × WaitsAt gone old end new

  -- SELECT: how the bus settles, with the registers that the table word gave
  abbrev pub SettlesAs : Settled → ℕ → Regs → Chip B → StepEnd → Chip B → Type 0
  SettlesAs Selected alternate r old end new =
      (mid : B) × moves old.bus (event.Select r.sdid word Selected) mid × moves mid (event.SetAtn true) new.bus
      × Ends Ran old.memory (record r { con = true }) end new
  SettlesAs (Reselected by) alternate r old end new =
      moves old.bus (event.Select r.sdid word (Reselected by)) new.bus
      × Ends Ran old.memory (record (reselected_by by r) { dsp = alternate }) end new
  SettlesAs TimedOut alternate r old end new =
      moves old.bus (event.Select r.sdid word TimedOut) new.bus × Ends (Stopped Sto) old.memory (stop_with Sto r) end new

  abbrev pub SelectsBy : Option ℕ → ℕ → Chip B → StepEnd → Chip B → Type 0
  SelectsBy None alternate old end new = Stops Bf old end new
  SelectsBy (Some e) alternate old end new =
      (settled : Settled) × SettlesAs settled alternate (with_table (word_at old.memory e) old.regs) old end new

  -- a chip that is connected is IID, and the table isn't read
  abbrev pub Selects : ℤ → ℕ → Chip B → StepEnd → Chip B → Type 0
  Selects offset alternate old end new =
      MatchBool old.regs.con
      (Stops Iid old end new)
      (SelectsBy (place_of old.memory old.regs.dsa offset 4) alternate old end new)

  -- WAIT RESELECT: a chip that is connected is IID, and one that was signalled jumps
  abbrev pub Reselects : ℕ → Chip B → Chip B → StepEnd → Chip B → Type 0
  Reselects alternate before old end new =
      MatchBool old.regs.con
      (Stops Iid old end new)
      (MatchBool old.regs.sigp
      (Becomes (record old.regs { dsp = alternate }) old end new)
      ((target : Option ℕ) × moves old.bus (event.Reselect word target) new.bus × ReselectsBy target before old end new))

  -- nobody calls the chip: it has no signal, and nobody reselects it
  pub record IsUncalled (old : Chip B) : Type 0 where
    pub unsignalled : old.regs.sigp ≡ false
    pub nobody : moves old.bus (event.Reselect word None) old.bus
