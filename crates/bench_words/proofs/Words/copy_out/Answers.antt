use Rattle.std.proofs.Common.{arith, ℕ, List, ◌≡◌, ◌∙◌, ◌++◌, ◌∷◌, [], ap, sym, length, take}
use Rattle.std.proofs.lemmas.List.{take_more_set, take_all}
use Rattle.bench_words.specs.Memory.{bytes_at}
use Rattle.bench_words.proofs.Cells.{bytes_at_more, bytes_at-zero}
use Rattle.bench_words.proofs.Words.copy_out.Goals as goal

pub loop-i-init : goal.loop-i-init
loop-i-init c = sym (bytes_at-zero c.args.self.now c.args.address)

pub loop-i-preserved : goal.loop-i-preserved
loop-i-preserved c =
    take_more_set c.loop-i.into c.loop-i.i c.byte.result (omega arith) ∙ ap (λ (r : List ℕ). r ++ c.byte.result ∷ []) c.loop-i.invariant
    ∙ ap (λ (b : ℕ). bytes_at c.args.self.now c.args.address c.loop-i.i ++ b ∷ []) c.byte.ensures ∙ sym (bytes_at_more c.args.self.now c.args.address c.loop-i.i)

pub returns : goal.returns
returns c =
    let all : take c.loop-i.i c.loop-i.into ≡ c.loop-i.into = take_all c.loop-i.i c.loop-i.into (omega arith) in
    let end : c.loop-i.i ≡ length c.args.into.now = omega arith in
    sym all ∙ c.loop-i.invariant ∙ ap (λ (n : ℕ). bytes_at c.args.self.now c.args.address n) end
