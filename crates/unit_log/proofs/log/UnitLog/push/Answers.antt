use Rattle.std.proofs.Common.{◌≡◌, ◌+◌, ◌<◌, ◌≤◌, [], ◌∷◌, ◌++◌, length, length-append, ap, sym, ◌∙◌, arith}
use Rattle.unit_log.specs.Counts.{after}
use Rattle.unit_log.proofs.Steps.{counts_of-push, refusals-tally}
use Rattle.unit_log.specs.declared.ticket_counts.TicketCounts.{TicketCounts}
use Rattle.unit_law.specs.Log.{tally}
use Rattle.unit_log.proofs.log.UnitLog.push.Goals as goal

-- a ticket has no more refusals than the log has entries, and a vector has less than 2 ^ 63
pub enter-requires-clause-fits : goal.enter-requires-clause-fits
enter-requires-clause-fits c t =
    let inside = c.self.inside in
    let few : (tally t inside.entries.items).refusals ≤ length inside.entries.items = refusals-tally t inside.entries.items in
    rw (c.self.invariant.agrees t) (omega arith)

-- the counts are those of the entries, after both have the new one
pub invariant_of-self : goal.invariant_of-self
invariant_of-self c =
    let log = c.self.inside.entries.items in
    let e = c.args.e in
    let room : length log < c.self.inside.room = rw (← c.self.view_is) at c.requires in
    let longer : length (log ++ e ∷ []) ≡ length log + 1 = length-append log (e ∷ []) in
    rw c.push_reserved.ensures.items (record {
      rising = c.enter.ensures.rising;
      agrees = λ t. c.enter.ensures.counted t ∙ ap (λ (n : TicketCounts). after n e) (c.self.invariant.agrees t) ∙ sym (counts_of-push log e t);
      few = omega arith;
      within = omega arith;
      entries_fit = omega arith;
      counts_fit = omega arith;
    })
