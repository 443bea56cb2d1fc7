use Rattle.std.proofs.Common.{◌≡◌, ◌++◌, ◌∙◌, ◌+◌, ◌*◌, List, length, Some, None, arith, ap, sym, subst}
use Rattle.std.specs.Prelude.{position}
use Rattle.host_map.specs.Places.{target_chain, unit_chain}
use Rattle.scripts_ops.specs.declared.values.Op.{Op}
use Rattle.scripts_ops.specs.declared.values.Op.TheVariants.{Int}
use Rattle.scripts_ops.specs.declared.values.Condition.TheVariants.{Always}
use Rattle.rig_chains.specs.Chains.{is_at, jump_if, identify_ops, lun_jumps, put_ops}
use Rattle.rig_chains.proofs.LaidChains.{put_ops-more, jump_more, luns_to, lun_jumps-is, luns_to-yes, luns_to-no}
use Rattle.rig_chains.proofs.lay_luns.Goals as goal
use Rattle.rig_chains.proofs.lay_luns.Goals.{in-Some, in_default}

pub loop-lun-preserved : goal.loop-lun-preserved
loop-lun-preserved c =
    let us = c.args.units.now in
    let t = c.args.target in
    let n = c.loop-lun.lun in
    let m = c.args.words.now in
    let whole = λ (js : List Op). identify_ops ++ js in
    elim c.match-unit_at.branch [
      | in-Some w ↦
          let found : position (is_at t n) us ≡ Some w.in-Some.unit = sym c.unit_at.ensures ∙ w.in-Some.is in
          let more = jump_more m (target_chain t) c.loop-lun.at (whole (luns_to us t n)) (whole (luns_to us t (n + 1))) (jump_if n (unit_chain w.in-Some.unit)) (omega arith) (ap whole (luns_to-yes us t n w.in-Some.unit found)) in
          record {
            size = ap length w.words-is ∙ w.put-at.ensures.size ∙ c.loop-lun.invariant.size;
            place = omega (arith, more.0);
            most = omega arith;
            so_far = rw (w.words-is, w.put-at.ensures.wrote, w.jump_if.ensures.op, w.unit_chain.ensures, c.loop-lun.invariant.so_far) more.1;
          }
      | in_default w ↦
          let missing : position (is_at t n) us ≡ None = sym c.unit_at.ensures ∙ w.in_default.is in
          record {
            size = ap length w.words-is ∙ c.loop-lun.invariant.size;
            place = rw (luns_to-no us t n missing) (w.at-is ∙ c.loop-lun.invariant.place);
            most = omega arith;
            so_far = rw (luns_to-no us t n missing) (w.words-is ∙ c.loop-lun.invariant.so_far);
          }
    ]

pub returns-clause-wrote : goal.returns-clause-wrote
returns-clause-wrote c =
    let us = c.args.units.now in
    let t = c.args.target in
    let m = c.args.words.now in
    let e : luns_to us t c.loop-lun.lun ≡ lun_jumps us t =
    let n : c.loop-lun.lun ≡ 8 = omega arith in rw n (sym (lun_jumps-is us t)) in
    let place = subst (λ (js : List Op). c.loop-lun.at ≡ target_chain t + 24 + 8 * length js) e c.loop-lun.invariant.place in
    let so_far = subst (λ (js : List Op). c.loop-lun.words ≡ put_ops m (target_chain t) (identify_ops ++ js)) e c.loop-lun.invariant.so_far in
    rw (c.put.ensures.wrote, c.stop.ensures.op, so_far)
    (put_ops-more m (target_chain t) c.loop-lun.at (identify_ops ++ lun_jumps us t) (Int Always 9) (omega (arith, place)))
