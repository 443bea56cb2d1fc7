use Rattle.std.proofs.Common.{arith, ℕ, List, ◌+◌, ◌∙◌, ap, sym}
use Rattle.std.proofs.lemmas.List.{drop_all}
use Rattle.bench_words.specs.Memory.{put_bytes}
use Rattle.bench_words.proofs.Cells.{put_bytes_step, put_bytes-nil}
use Rattle.bench_words.proofs.Words.copy_in.Goals as goal

pub loop-i-preserved : goal.loop-i-preserved
loop-i-preserved c =
    record { size = c.set_byte.ensures.size ∙ c.loop-i.invariant.size; rest = rw c.set_byte.ensures.wrote (sym (put_bytes_step c.loop-i.self c.args.address c.loop-i.i c.args.bytes.now c.loop-i-test.true) ∙ c.loop-i.invariant.rest) }

pub returns-clause-wrote : goal.returns-clause-wrote
returns-clause-wrote c =
    sym (ap (λ (r : List ℕ). put_bytes c.loop-i.self (c.args.address + c.loop-i.i) r) (drop_all c.loop-i.i c.args.bytes.now (omega arith)) ∙ put_bytes-nil c.loop-i.self (c.args.address + c.loop-i.i)) ∙ c.loop-i.invariant.rest
