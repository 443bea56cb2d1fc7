use Rattle.std.proofs.Common.{◌≡◌, ◌<◌, ◌≤◌, List, length, sum, slice_index_or, ap, ◌∙◌, arith}
use Rattle.rig_types.specs.declared.commands.Command.{Command}
use Rattle.rig_types.specs.Works.{counts_of}
use Rattle.pool_run.proofs.Choosing.{count_within}
use Rattle.pool_run.proofs.choices.all_of.Goals as goal

pub of-requires : goal.of-requires
of-requires c =
    let at = c.loop-commands.commands-index in
    let there : at < length c.args.submitters.now = omega arith in
    let most : length (slice_index_or c.args.submitters.now at c.commands-item.result) ≤ sum (counts_of c.args.submitters.now) = count_within c.args.submitters.now at c.commands-item.result there in
    let same : length c.as_slice.result.now ≡ length (slice_index_or c.args.submitters.now at c.commands-item.result) =
    ap (λ (cs : List Command). length cs) (c.as_slice.ensures ∙ c.commands-item.is) in
    omega (arith, most, same, c.requires)
