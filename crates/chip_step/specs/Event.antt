-- A call of the bus, with its arguments and its answer. A word is that by which the target chooses.
use Rattle.std.specs.Prelude.{ℕ, Bool, false, Option, None}
use Rattle.scsi_words.specs.declared.phases.kinds.Phase.{Phase as BusPhase}
use Rattle.chip_step.specs.declared.scsi_bus.Settled.{Settled}
use Rattle.chip_step.specs.declared.scsi_bus.Settled.TheVariants.{TimedOut}

pub data Event : Type 0 where
  -- the phase after the target's choice by a word; None on a free bus
  Phase : ℕ → Option BusPhase → Event
  -- the phase that the target shows, where one is settled
  Shown : Option BusPhase → Event
  -- a byte from the target; None where it has none left in this phase
  ByteIn : Option ℕ → Event
  -- a byte to the target, and whether it took it
  ByteOut : ℕ → Bool → Event
  -- the selection of a target, with a word, and how it settled
  Select : ℕ → ℕ → Settled → Event
  -- who reselects, with a word
  Reselect : ℕ → Option ℕ → Event
  SetAtn : Bool → Event
  ClearAck : Event
  -- whether the bus is free after the target's choice by a word
  Leave : ℕ → Bool → Event

-- a call without its answer
abbrev pub call_of : Event → Event
call_of (Phase word shown) = Phase word None
call_of (Shown shown) = Shown None
call_of (ByteIn b) = ByteIn None
call_of (ByteOut b taken) = ByteOut b false
call_of (Select target word settled) = Select target word TimedOut
call_of (Reselect word target) = Reselect word None
call_of (SetAtn on) = SetAtn on
call_of ClearAck = ClearAck
call_of (Leave word gone) = Leave word false
