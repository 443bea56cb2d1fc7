use Rattle.std.proofs.Common.{◌∙◌, ℕ, sym, ap, length, List}
use Rattle.std.proofs.lemmas.List.{drop_all}
use Rattle.bench_words.proofs.MemoryLaws.{length-put_word}
use Rattle.straight_run.specs.Opening.{put_words}
use Rattle.straight_run.proofs.LaidWords.{put_words_step, put_words-nil, all_fit_step}
use Rattle.straight_run.proofs.lay_words.Goals as goal

pub loop-address-preserved : goal.loop-address-preserved
loop-address-preserved c =
    record {
      size = ap length c.set.ensures.wrote ∙ length-put_word c.loop-address.words _ _ ∙ c.loop-address.invariant.size;
      fit = all_fit_step (length c.args.words.now) c.loop-address.address-index c.args.pairs.now c.loop-address-test.true c.loop-address.invariant.fit;
      rest = rw c.set.ensures.wrote (sym (put_words_step c.loop-address.words c.loop-address.address-index c.args.pairs.now c.loop-address-test.true) ∙ c.loop-address.invariant.rest);
    }

pub returns-clause-laid : goal.returns-clause-laid
returns-clause-laid c =
    sym (ap (λ (ps : List (ℕ × ℕ)). put_words c.loop-address.words ps) (drop_all c.loop-address.address-index c.args.pairs.now c.loop-address-test.false) ∙ put_words-nil c.loop-address.words) ∙ c.loop-address.invariant.rest
