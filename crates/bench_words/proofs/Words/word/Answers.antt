use Rattle.std.proofs.Common.{arith}
use Rattle.bench_words.proofs.Cells.{word_at-plus}
use Rattle.bench_words.proofs.Words.word.Goals as goal

pub returns : goal.returns
returns c = rw (word_at-plus c.args.self.now c.args.address) (omega arith)
