use Rattle.std.proofs.Common.{sym, ◌∙◌}
use Rattle.work_reader.proofs.Works.{is_work}
use Rattle.work_reader.proofs.work.work_from.Goals as goal

pub invariant_of-result : goal.invariant_of-result
invariant_of-result c =
    let ss = c.in_ok-submitters-2.field-0 in
    let spelled = c.in_ok-submitters.submitters.items in
    let value = rw c.as_slice-5.ensures.value at c.in_ok-submitters-2.ensures.value in
    let small = rw c.as_slice-4.ensures.value at (sym c.is_too_large.ensures ∙ c.if-is_too_large.false) in
    let valid = rw (c.as_slice-3.ensures.value, c.in_ok-counts.ensures, c.as_slice.ensures.value) at c.in_ok-acts.ensures.valid in
    record { valid = rw c.of.ensures (is_work ss c.in_ok-acts.acts.items spelled _ _ value small c.in_ok-submitters.ensures.len c.in_ok-entries.ensures.in_range.1 c.in_ok-submitters-2.ensures.in_range c.in_ok-acts.ensures.len c.in_ok-entries-2.ensures.in_range.1 valid) }
