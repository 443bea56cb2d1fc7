use Rattle.std.proofs.Common.{◌∙◌, refl}
use Rattle.driver_script.specs.Script.{image}
use Rattle.driver_script.proofs.PrintedLaws.{image-printed}
use Rattle.driver_script.proofs.image.Goals as goal

word : goal.returns-clause-word
unfolding image
word c = rw (c.encode.ensures.words, c.instruction-op.ensures) refl

pub returns-clause-word : goal.returns-clause-word
returns-clause-word c = word c

pub returns-clause-printed : goal.returns-clause-printed
returns-clause-printed c = word c ∙ image-printed c.args.n c.args.version
