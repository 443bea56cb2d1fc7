use Rattle.std.proofs.Common.{◌≡◌, ◌++◌, ◌+◌, ◌*◌, ◌≤◌, length}
use Rattle.host_map.specs.Places.{target_chain}
use Rattle.rig_chains.specs.Chains.{identify_ops, put_ops}
use Rattle.rig_chains.proofs.LaidChains.{luns_to}
use Rattle.rig_chains.proofs.lay_luns.Given as goal

abbrev pub invariant-loop-lun : goal.invariant-loop-lun
invariant-loop-lun l = record {
  size : length l.words ≡ length l.fn.words;
  place : l.at ≡ target_chain l.target + 24 + 8 * length (luns_to l.units l.target l.lun);
  most : l.at ≤ target_chain l.target + 24 + 8 * l.lun;
  so_far : l.words ≡ put_ops l.fn.words (target_chain l.target) (identify_ops ++ luns_to l.units l.target l.lun);
}
