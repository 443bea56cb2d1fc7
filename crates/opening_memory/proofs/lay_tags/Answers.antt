use Rattle.std.proofs.Common.{◌≡◌, ◌∙◌, ◌+◌, ◌*◌, ℕ, List, refl, ap, sym, arith}
use Rattle.bench_words.specs.Memory.{put_word}
use Rattle.host_map.specs.declared.TheConstants.{NOTASK, TAG_TABLES}
use Rattle.opening_memory.specs.Tables.{written, spread}
use Rattle.opening_memory.proofs.TableLaws.{spread-none, spread-next}
use Rattle.opening_memory.proofs.lay_tags.Goals as goal

pub loop-n-init : goal.loop-n-init
loop-n-init c = record { size = refl; so_far = sym (spread-none c.args.words.now TAG_TABLES 4 (λ n. NOTASK)) }

pub loop-n-preserved : goal.loop-n-preserved
loop-n-preserved c =
    let n = c.loop-n.n in
    record {
      size = c.set.ensures.size ∙ c.loop-n.invariant.size;
      so_far = c.set.ensures.wrote ∙ ap (λ (m : List ℕ). put_word m (TAG_TABLES + 4 * n) NOTASK) c.loop-n.invariant.so_far ∙ spread-next c.args.words.now TAG_TABLES 4 (λ n. NOTASK) n;
    }

pub returns-clause-wrote : goal.returns-clause-wrote
returns-clause-wrote c =
    let e : c.loop-n.n ≡ 4096 = omega arith in
    c.loop-n.invariant.so_far ∙ ap (λ (n : ℕ). written c.args.words.now (spread TAG_TABLES 4 (λ k. NOTASK) n)) e
