use Rattle.std.proofs.Common.{◌≡◌, length, drop, IsTrue}
use Rattle.straight_run.specs.Opening.{put_words, all_fit}
use Rattle.straight_run.proofs.lay_words.Given as goal

abbrev pub invariant-loop-address : goal.invariant-loop-address
invariant-loop-address l = record {
  size : length l.words ≡ length l.fn.words;
  fit : IsTrue (all_fit (length l.fn.words) (drop l.address-index l.pairs));
  rest : put_words l.words (drop l.address-index l.pairs) ≡ put_words l.fn.words l.pairs;
}
