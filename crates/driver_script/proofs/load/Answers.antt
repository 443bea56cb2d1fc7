use Rattle.std.proofs.Common.{arith, ℕ, List, ◌≡◌, ◌∙◌, ap, sym, refl, ◌*◌}
use Rattle.bench_words.specs.Memory.{put_word}
use Rattle.driver_script.specs.Script.{laid}
use Rattle.driver_script.proofs.ScriptLaws.{laid-zero, laid-more, laid-loaded, laid-within}
use Rattle.driver_script.proofs.load.Goals as goal

pub loop-n-init : goal.loop-n-init
loop-n-init c = record { size = refl; so_far = sym (laid-zero c.args.words.now c.args.version) }

pub loop-n-preserved : goal.loop-n-preserved
loop-n-preserved c =
    record {
      size = c.set.ensures.size ∙ c.loop-n.invariant.size;
      so_far = c.set.ensures.wrote ∙ ap (λ (m : List ℕ). put_word m (4 * c.loop-n.n) c.image.result) c.loop-n.invariant.so_far ∙ ap (λ (w : ℕ). put_word (laid c.args.words.now c.args.version c.loop-n.n) (4 * c.loop-n.n) w) c.image.ensures.word ∙ sym (laid-more c.args.words.now c.args.version c.loop-n.n);
    }

whole : goal.returns-clause-wrote
whole c = let e : c.loop-n.n ≡ 302 = omega arith in c.loop-n.invariant.so_far ∙ ap (λ (n : ℕ). laid c.args.words.now c.args.version n) e

pub returns-clause-wrote : goal.returns-clause-wrote
returns-clause-wrote c = whole c

pub returns-clause-loaded : goal.returns-clause-loaded
returns-clause-loaded c = rw (whole c) (laid-loaded c.args.words.now c.args.version c.requires.memory)

pub returns-clause-within : goal.returns-clause-within
returns-clause-within c = rw (whole c) (laid-within c.args.words.now c.args.version)
