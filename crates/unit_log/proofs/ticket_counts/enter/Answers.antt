use Rattle.std.proofs.Common.{◌+◌, true, refl, ap, arith}
use Rattle.unit_log.specs.declared.ticket_counts.TicketCounts.{TicketCounts}
use Rattle.unit_log.proofs.Written.{counts_is, written}
use Rattle.unit_log.proofs.ticket_counts.enter.Goals as goal

pub overflow_add-index_mut : goal.overflow_add-index_mut
overflow_add-index_mut c =
    let at = c.place-at in
    let is = counts_is c.args.counts.now.items at.new.counts.items at.ensures.rising c.in-Refuse.ticket at.result at.ensures.there at.ensures.same c.index_mut.result.now c.index_mut.ensures.value in
    omega (arith, c.requires.fits c.in-Refuse.ticket, ap (λ (n : TicketCounts). n.refusals) is)

pub returns-in-Refuse-clause-counted : goal.returns-in-Refuse-clause-counted
returns-in-Refuse-clause-counted c t =
    let at = c.place-at in
    let one_more : TicketCounts → TicketCounts = λ n. record { ticket = n.ticket; refusals = n.refusals + 1; ended = n.ended } in
    rw c.in-Refuse.is (written c.args.counts.now.items at.new.counts.items at.ensures.rising c.in-Refuse.ticket at.result at.ensures.there at.ensures.same c.index_mut.result.now c.index_mut.ensures.value one_more (λ n. refl) t)

pub returns-in-End-clause-counted : goal.returns-in-End-clause-counted
returns-in-End-clause-counted c t =
    let at = c.place-at-in-End in
    let ended : TicketCounts → TicketCounts = λ n. record { ticket = n.ticket; refusals = n.refusals; ended = true } in
    rw c.in-End.is (written c.args.counts.now.items at.new.counts.items at.ensures.rising c.in-End.ticket at.result at.ensures.there at.ensures.same c.index_mut-in-End.result.now c.index_mut-in-End.ensures.value ended (λ n. refl) t)
