use Rattle.std.proofs.Common.{◌≡◌, ◌+◌, ◌*◌, ◌≤◌, length}
use Rattle.host_map.specs.declared.TheConstants.{CHAINS}
use Rattle.rig_chains.specs.Chains.{put_ops}
use Rattle.rig_chains.proofs.LaidChains.{target_jumps}
use Rattle.rig_chains.proofs.lay_targets.Given as goal

abbrev pub invariant-loop-target : goal.invariant-loop-target
invariant-loop-target l = record {
  size : length l.words ≡ length l.fn.words;
  place : l.at ≡ CHAINS + 8 * length (target_jumps l.units l.target);
  most : l.at ≤ CHAINS + 8 * l.target;
  so_far : l.words ≡ put_ops l.fn.words CHAINS (target_jumps l.units l.target);
}
