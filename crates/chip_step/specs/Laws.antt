-- The laws of a bus.
use Rattle.std.specs.Prelude.{◌≡◌, ◌<◌, Bool, true, false, Option, Some, None}
use Rattle.scsi_words.specs.declared.phases.kinds.Phase.{Phase as BusPhase}
use Rattle.scsi_words.specs.declared.phases.kinds.Phase.TheVariants.{MsgIn}
use Rattle.chip_step.specs.Event.{Event, Phase, Shown, ByteIn, ByteOut, Select, Reselect, SetAtn, ClearAck, Leave}
use Rattle.chip_step.specs.declared.scsi_bus.Settled.TheVariants.{Selected, Reselected, TimedOut}

-- what stands on a bus: whether it is free, ATN, ACK, and the phase that its target shows
pub record Signals : Type 0 where
  pub free : Bool
  pub atn : Bool
  pub ack : Bool
  pub shown : Option BusPhase

-- What each call promises beside what its bus says of it.
abbrev pub IsLawful : {B : Type 0} → (B → Signals) → B → Event → B → Type 0
-- no phase is answered exactly where the bus is free afterwards
IsLawful signals old (Phase word None) new = (signals new).free ≡ true
IsLawful signals old (Phase word (Some phase)) new = (signals new).free ≡ false
IsLawful signals old (Shown phase) new = phase ≡ (signals old).shown
-- a byte is below 256, and one of a message asserts ACK; where no byte is left, the state stays
IsLawful signals old (ByteIn (Some b)) new = (b < 256) × ((signals old).shown ≡ Some MsgIn → (signals new).ack ≡ true)
IsLawful signals old (ByteIn None) new = new ≡ old
IsLawful signals old (ByteOut b true) new = Unit {0}
IsLawful signals old (ByteOut b false) new = new ≡ old
-- targets have three bits, and where none reselects, the state stays
IsLawful signals old (Select target word Selected) new = Unit {0}
IsLawful signals old (Select target word (Reselected by)) new = by < 8
IsLawful signals old (Select target word TimedOut) new = Unit {0}
IsLawful signals old (Reselect word (Some by)) new = by < 8
IsLawful signals old (Reselect word None) new = new ≡ old
-- to assert what is asserted, or to release what isn't, changes nothing
IsLawful signals old (SetAtn true) new = (signals old).atn ≡ true → new ≡ old
IsLawful signals old (SetAtn false) new = Unit {0}
IsLawful signals old ClearAck new = (signals old).ack ≡ false → new ≡ old
-- true exactly where the bus is free afterwards, and a free bus stays as it is
IsLawful signals old (Leave word gone) new = (gone ≡ (signals new).free) × ((signals old).free ≡ true → new ≡ old)
