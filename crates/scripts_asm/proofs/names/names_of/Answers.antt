use Rattle.std.proofs.Common.{◌≡◌, ◌+◌, ℕ, sym, ◌∙◌, ap, rules, arith, length}
use Rattle.std.proofs.lemmas.Grind.{common_steps}
use Rattle.scripts_asm.specs.SeenNames.{giving_in}
use Rattle.scripts_asm.proofs.Givings.{next_names, no_more_names}
use Rattle.scripts_asm.proofs.names.names_of.Goals as goal

pub returns : goal.returns
returns c =
    let empty : length c.loop-lines.lines.now ≡ 0 = search rules in
    λ q. sym (no_more_names c.loop-lines.lines.now (giving_in c.loop-lines.names q) c.loop-lines.place c.loop-lines.address q empty) ∙ c.loop-lines.invariant.goes_on q

pub loop-lines-preserved : goal.loop-lines-preserved
loop-lines-preserved c = record {
  small = grind (arith, common_steps);
  placed = grind (arith, common_steps);
  goes_on = λ q.
      next_names c.loop-lines.lines.now c.line-item.result (giving_in c.loop-lines.names q) (giving_in c.give_names.new.names q) c.loop-lines.place (c.loop-lines.place + c.count_given-place.result) c.loop-lines.address (c.loop-lines.address + c.size_of-address.result) q c.in-len1-up.len_at_least c.line-item.is (c.in_ok-give_names.ensures q)
      (ap (λ (n : ℕ). c.loop-lines.place + n) c.count_given-place.ensures.count)
      (ap (λ (n : ℕ). c.loop-lines.address + n) c.size_of-address.ensures.size)
      ∙ c.loop-lines.invariant.goes_on q;
}
