use Rattle.std.proofs.Common.{◌≡◌, ap, ◌∙◌, arith}
use Rattle.std.proofs.lemmas.Grind.{common_steps}
use Rattle.std.specs.List.{insert}
use Rattle.unit_log.specs.Counts.{empty_counts, counts_in}
use Rattle.unit_log.proofs.Places.{same-insert}
use Rattle.unit_log.proofs.ticket_counts.place.Goals as goal

pub returns-in-Err-clause-same : goal.returns-in-Err-clause-same
returns-in-Err-clause-same c t =
    let items : c.insert.new.self.items ≡ insert c.args.counts.now.items c.in-Err.at (empty_counts c.args.ticket) = grind (arith, common_steps) in
    ap (λ counts. counts_in counts t) items ∙ same-insert _ _ _ (rw c.deref.ensures.value at c.in-Err.ensures.absent) t
