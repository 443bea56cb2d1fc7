use Rattle.std.proofs.Common.{◌≡◌, rules}
use Rattle.bench_words.specs.Memory.{word_at}
use Rattle.cmd_block.specs.Block.{field_of}
use Rattle.cmd_block.specs.declared.Field.TheVariants.{Lastp, Savep}
use Rattle.sense_job.specs.Turning.{turned}
use Rattle.sense_job.proofs.TurningLaws.{command_bytes, turned_is, turned-within, pointer-denotes}
use Rattle.sense_job.proofs.turn.Goals as goal

pub returns-clause-words : goal.returns-clause-words
returns-clause-words c =
    let e : c.copy_in.new.self ≡ turned c.args.words.now c.args.block = search rules in
    rw e (turned_is c.args.words.now c.args.block c.requires.memory c.requires.block)

pub returns-clause-within : goal.returns-clause-within
returns-clause-within c = turned-within (word_at c.args.words.now) (word_at c.copy_in.new.self) c.args.block (returns-clause-words c)

pub returns-clause-command : goal.returns-clause-command
returns-clause-command c =
    let e : c.copy_in.new.self ≡ turned c.args.words.now c.args.block = search rules in
    rw e (command_bytes c.args.words.now c.args.block c.requires.memory c.requires.block)

pub returns-clause-last : goal.returns-clause-last
returns-clause-last c =
    let is = returns-clause-words c in
    pointer-denotes (word_at c.args.words.now) (word_at c.copy_in.new.self) c.args.block (field_of c.copy_in.new.self c.args.block Lastp) is is.last

pub returns-clause-saved : goal.returns-clause-saved
returns-clause-saved c =
    let is = returns-clause-words c in
    pointer-denotes (word_at c.args.words.now) (word_at c.copy_in.new.self) c.args.block (field_of c.copy_in.new.self c.args.block Savep) is is.saved
