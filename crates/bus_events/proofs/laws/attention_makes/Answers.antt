use Rattle.bus_events.proofs.Attention.{set-atn-makes, clear-ack-makes}
use Rattle.bus_events.proofs.laws.attention_makes.Goals as goal

pub returns : goal.returns
returns c = record { atn = set-atn-makes; ack = clear-ack-makes }
