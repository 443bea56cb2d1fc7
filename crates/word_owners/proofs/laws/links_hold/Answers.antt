use Rattle.word_owners.proofs.Patches.{signal_holds, link_holds, unlink_holds}
use Rattle.word_owners.proofs.laws.links_hold.Goals as goal

pub returns : goal.returns
returns c = record { signal = signal_holds; link = link_holds; unlink = unlink_holds }
