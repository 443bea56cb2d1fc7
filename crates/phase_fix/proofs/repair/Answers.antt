use Rattle.std.proofs.Common.{◌≡◌, ◌+◌, ◌-◌, ◌<◌, arith}
use Rattle.bench_words.specs.Memory.{word_at}
use Rattle.phase_fix.specs.Remain.{count_of, address_of}
use Rattle.phase_fix.proofs.RepairLaws.{again-repaired, rest-repaired}
use Rattle.phase_fix.proofs.repair.Goals as goal

pub returns-then-nothing_moved-clause-words : goal.returns-then-nothing_moved-clause-words
returns-then-nothing_moved-clause-words c =
    again-repaired c.args.words.now c.write.new.words c.args.block c.args.dsp c.args.dbc c.args.stopped
    c.requires.memory c.requires.place (omega arith) (cc) c.write.ensures.wrote

pub returns-clause-words : goal.returns-clause-words
returns-clause-words c =
    let count : c.count_of-count.result ≡ count_of (word_at c.args.words.now) c.args.block c.args.stopped.entry = (cc) in
    let address : c.read.result ≡ address_of (word_at c.args.words.now) c.args.block c.args.stopped.entry = (cc) in
    let some : c.args.dbc < count_of (word_at c.args.words.now) c.args.block c.args.stopped.entry =
    omega (arith, c.requires.entry.count, c.if-nothing_moved.false) in
    rest-repaired c.args.words.now c.write-2.new.words c.args.block c.args.dsp c.args.dbc c.free_context-context.result (c.read.result + (c.count_of-count.result - c.args.dbc)) c.return_of-goes_on.result c.args.stopped
    c.requires.memory c.requires.place (omega arith) (omega (arith, c.requires.entry.ends)) (omega arith) some (cc) (cc) c.return_of-goes_on.ensures (cc)
