use Rattle.word_owners.proofs.Fixes.{fix_holds}
use Rattle.word_owners.proofs.laws.fixes_hold.Goals as goal

pub returns : goal.returns
returns c = fix_holds
