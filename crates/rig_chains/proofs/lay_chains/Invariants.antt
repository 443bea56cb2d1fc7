use Rattle.std.proofs.Common.{◌≡◌, fold, length}
use Rattle.std.specs.List.{range_with_len}
use Rattle.host_map.specs.declared.TheConstants.{CHAINS}
use Rattle.rig_chains.specs.Chains.{target_ops, targets, put_ops, with_target, with_unit}
use Rattle.rig_chains.proofs.LaidChains.{targets_to}
use Rattle.rig_chains.proofs.lay_chains.Given as goal

abbrev pub invariant-loop-id : goal.invariant-loop-id
invariant-loop-id l = record {
  size : length l.words ≡ length l.fn.words;
  so_far : l.words ≡ fold (with_target l.units) (put_ops l.fn.words CHAINS (target_ops l.units)) (targets_to l.units l.id);
}

abbrev pub invariant-loop-unit : goal.invariant-loop-unit
invariant-loop-unit l = record {
  size : length l.words ≡ length l.fn.words;
  so_far : l.words ≡ fold with_unit (fold (with_target l.units) (put_ops l.fn.words CHAINS (target_ops l.units)) (targets l.units)) (range_with_len 0 l.unit);
}
