use Rattle.std.proofs.Common.{◌≡◌, ◌∙◌, ℕ, List, length, true, false, fold, arith, ap, sym, subst}
use Rattle.std.specs.List.{range_with_len}
use Rattle.std.proofs.lemmas.List.Sums.{fold_push}
use Rattle.host_map.specs.declared.TheConstants.{CHAINS}
use Rattle.rig_chains.specs.Chains.{has_target, target_ops, targets, put_ops, with_target, with_unit, with_chains}
use Rattle.rig_chains.proofs.LaidChains.{range_to_more, targets-is, targets_to, targets_to-yes, targets_to-no}
use Rattle.rig_chains.proofs.LaidLaws.{chains_laid, chains_within}
use Rattle.rig_chains.proofs.lay_chains.Goals as goal
use Rattle.rig_chains.proofs.lay_chains.Goals.{then-has_target, else-has_target}

pub loop-id-preserved : goal.loop-id-preserved
loop-id-preserved c =
    let us = c.args.units.now in
    let n = c.loop-id.id in
    let m = put_ops c.args.words.now CHAINS (target_ops us) in
    elim c.if-has_target.branch [
      | then-has_target w ↦
          let there : has_target us n ≡ true = sym c.has_target.ensures ∙ w.if-has_target.true in
          record {
            size = ap length w.words-is ∙ w.lay_luns.ensures.size ∙ c.loop-id.invariant.size;
            so_far = rw (w.words-is, w.lay_luns.ensures.wrote, c.loop-id.invariant.so_far, targets_to-yes us n there) (sym (fold_push (with_target us) m (targets_to us n) n));
          }
      | else-has_target w ↦
          let missing : has_target us n ≡ false = sym c.has_target.ensures ∙ w.if-has_target.false in
          record {
            size = ap length w.words-is ∙ c.loop-id.invariant.size;
            so_far = rw (targets_to-no us n missing) (w.words-is ∙ c.loop-id.invariant.so_far);
          }
    ]

pub loop-unit-init : goal.loop-unit-init
loop-unit-init c =
    let us = c.args.units.now in
    let e : targets_to us c.loop-id.id ≡ targets us =
    let n : c.loop-id.id ≡ 8 = omega arith in rw n (sym (targets-is us)) in
    record {
      size = c.loop-id.invariant.size;
      so_far = subst (λ (ts : List ℕ). c.loop-id.words ≡ fold (with_target us) (put_ops c.args.words.now CHAINS (target_ops us)) ts) e c.loop-id.invariant.so_far;
    }

pub loop-unit-preserved : goal.loop-unit-preserved
loop-unit-preserved c =
    let us = c.args.units.now in
    let m = fold (with_target us) (put_ops c.args.words.now CHAINS (target_ops us)) (targets us) in
    record {
      size = c.lay_unit.ensures.size ∙ c.loop-unit.invariant.size;
      so_far = rw (c.lay_unit.ensures.wrote, c.loop-unit.invariant.so_far, range_to_more c.loop-unit.unit) (sym (fold_push with_unit m (range_with_len 0 c.loop-unit.unit) c.loop-unit.unit));
    }

whole : goal.returns-clause-wrote
unfolding with_chains
whole c =
    let us = c.args.units.now in
    let m = fold (with_target us) (put_ops c.args.words.now CHAINS (target_ops us)) (targets us) in
    let e : c.loop-unit.unit ≡ length us = omega arith in
    c.loop-unit.invariant.so_far ∙ ap (λ (n : ℕ). fold with_unit m (range_with_len 0 n)) e

pub returns-clause-wrote : goal.returns-clause-wrote
returns-clause-wrote c = whole c

pub returns-clause-laid : goal.returns-clause-laid
returns-clause-laid c = rw (whole c) (chains_laid c.args.words.now c.args.units.now c.requires.memory c.requires.units)

pub returns-clause-within : goal.returns-clause-within
returns-clause-within c = rw (whole c) (chains_within c.args.words.now c.args.units.now c.requires.units)
