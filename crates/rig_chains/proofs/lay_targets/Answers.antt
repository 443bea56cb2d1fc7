use Rattle.std.proofs.Common.{◌≡◌, ◌∙◌, ◌+◌, ◌*◌, ℕ, List, map, length, true, false, arith, refl, ap, sym, subst}
use Rattle.host_map.specs.declared.TheConstants.{CHAINS}
use Rattle.host_map.specs.Places.{target_chain}
use Rattle.scripts_ops.specs.declared.values.Op.{Op}
use Rattle.scripts_ops.specs.declared.values.Op.TheVariants.{Int}
use Rattle.scripts_ops.specs.declared.values.Condition.TheVariants.{Always}
use Rattle.rig_chains.specs.Chains.{has_target, jump_if, targets, put_ops}
use Rattle.rig_chains.proofs.LaidChains.{targets-is, put_ops-none, put_ops-more, jump_more, target_jumps, target_jumps-yes, target_jumps-no}
use Rattle.rig_chains.proofs.lay_targets.Goals as goal
use Rattle.rig_chains.proofs.lay_targets.Goals.{then-has_target, else-has_target}

pub loop-target-init : goal.loop-target-init
loop-target-init c =
    record { size = refl; place = refl; most = omega arith; so_far = sym (put_ops-none c.args.words.now CHAINS) }

pub loop-target-preserved : goal.loop-target-preserved
loop-target-preserved c =
    let us = c.args.units.now in
    let n = c.loop-target.target in
    let m = c.args.words.now in
    elim c.if-has_target.branch [
      | then-has_target w ↦
          let there : has_target us n ≡ true = sym c.has_target.ensures ∙ w.if-has_target.true in
          let more = jump_more m CHAINS c.loop-target.at (target_jumps us n) (target_jumps us (n + 1)) (jump_if n (target_chain n)) c.loop-target.invariant.place (target_jumps-yes us n there) in
          record {
            size = ap length w.words-is ∙ w.put-at.ensures.size ∙ c.loop-target.invariant.size;
            place = w.at-is ∙ w.put-at.ensures.next ∙ more.0;
            most = omega arith;
            so_far = rw (w.words-is, w.put-at.ensures.wrote, w.jump_if.ensures.op, w.target_chain.ensures, c.loop-target.invariant.so_far) more.1;
          }
      | else-has_target w ↦
          let missing : has_target us n ≡ false = sym c.has_target.ensures ∙ w.if-has_target.false in
          record {
            size = ap length w.words-is ∙ c.loop-target.invariant.size;
            place = rw (target_jumps-no us n missing) (w.at-is ∙ c.loop-target.invariant.place);
            most = omega arith;
            so_far = rw (target_jumps-no us n missing) (w.words-is ∙ c.loop-target.invariant.so_far);
          }
    ]

pub returns-clause-wrote : goal.returns-clause-wrote
returns-clause-wrote c =
    let us = c.args.units.now in
    let jumps = λ (ts : List ℕ). map (λ (t : ℕ). jump_if t (target_chain t)) ts in
    let e : target_jumps us c.loop-target.target ≡ jumps (targets us) =
    let n : c.loop-target.target ≡ 8 = omega arith in rw n (ap jumps (sym (targets-is us))) in
    let place = subst (λ (js : List Op). c.loop-target.at ≡ CHAINS + 8 * length js) e c.loop-target.invariant.place in
    let so_far = subst (λ (js : List Op). c.loop-target.words ≡ put_ops c.args.words.now CHAINS js) e c.loop-target.invariant.so_far in
    rw (c.put.ensures.wrote, c.stop.ensures.op, so_far)
    (put_ops-more c.args.words.now CHAINS c.loop-target.at (jumps (targets us)) (Int Always 0x0A) place)
