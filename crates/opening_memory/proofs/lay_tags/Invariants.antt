use Rattle.std.proofs.Common.{◌≡◌, length}
use Rattle.host_map.specs.declared.TheConstants.{NOTASK, TAG_TABLES}
use Rattle.opening_memory.specs.Tables.{written, spread}
use Rattle.opening_memory.proofs.lay_tags.Given as goal

abbrev pub invariant-loop-n : goal.invariant-loop-n
invariant-loop-n l = record {
  size : length l.words ≡ length l.fn.words;
  so_far : l.words ≡ written l.fn.words (spread TAG_TABLES 4 (λ n. NOTASK) l.n);
}
