use Rattle.std.proofs.Common.{◌≡◌}
use Rattle.bench_words.specs.Memory.{word_at}
use Rattle.abort_reset.specs.Patches.{marked}
use Rattle.abort_reset.proofs.PatchLaws.{marked_is, marked-within}
use Rattle.abort_reset.proofs.mark.Goals as goal

pub returns-clause-words : goal.returns-clause-words
returns-clause-words c =
    let e : c.write-2.new.words ≡ marked c.args.words.now c.args.block = cc in
    rw e (marked_is c.args.words.now c.args.block c.requires.memory c.requires.block)

pub returns-clause-within : goal.returns-clause-within
returns-clause-within c = marked-within (word_at c.args.words.now) (word_at c.write-2.new.words) c.args.block (returns-clause-words c)
