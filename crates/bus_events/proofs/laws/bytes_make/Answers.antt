use Rattle.bus_events.proofs.Bytes.{byte-in-makes, byte-out-makes}
use Rattle.bus_events.proofs.laws.bytes_make.Goals as goal

pub returns : goal.returns
returns c = record { sent = byte-in-makes; taken = byte-out-makes }
