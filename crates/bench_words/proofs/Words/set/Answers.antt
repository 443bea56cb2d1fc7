use Rattle.std.proofs.Common.{arith, ◌≡◌, ◌*◌, ◌∙◌, ap, sym, length}
use Rattle.bench_words.proofs.Cells.{length-bytes_of, put_word-bytes_of}
use Rattle.bench_words.proofs.MemoryLaws.{length-put_word}
use Rattle.bench_words.proofs.Words.set.Goals as goal

pub index_mut-requires : goal.index_mut-requires
index_mut-requires c =
    let size : length c.args.self.now ≡ 4 * length c.self.inside.cells.items = ap length (sym c.self.view_is) ∙ length-bytes_of c.self.inside.cells.items in
    omega (arith, c.self.inside.cells.ok.0)

pub returns-clause-wrote : goal.returns-clause-wrote
returns-clause-wrote c = rw (← c.self.view_is) (sym (put_word-bytes_of c.self.inside.cells.items c.args.address c.args.word c.requires.aligned))

pub returns-clause-size : goal.returns-clause-size
returns-clause-size c = ap length (returns-clause-wrote c) ∙ length-put_word c.args.self.now c.args.address c.args.word
