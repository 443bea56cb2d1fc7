use Rattle.std.proofs.Common.{refl}
use Rattle.straight_run.proofs.lay.Goals as goal

pub returns : goal.returns
returns c = rw (c.copy_in.ensures.wrote, c.lay_words.ensures.laid, c.to_be_bytes.ensures) refl
