use Rattle.bus_law.proofs.OneConnected.{opens_connected, stays_connected, resets_connected}
use Rattle.bus_law.proofs.laws.one_connected.Goals as goal

pub returns : goal.returns
returns c = record { opens = opens_connected; stays = stays_connected; resets = resets_connected }
