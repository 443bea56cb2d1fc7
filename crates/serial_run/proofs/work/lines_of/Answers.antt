use Rattle.std.proofs.Common.{◌≡◌, ◌+◌, ℕ, length, map, refl, ap, ◌∙◌, arith}
use Rattle.std.specs.List.{range_with_len}
use Rattle.std.proofs.lemmas.Grind.{common_steps}
use Rattle.std.proofs.lemmas.List.Elements.{All-push}
use Rattle.rig_types.specs.Works.{IsCommand}
use Rattle.serial_run.specs.Generated.{command_of, data_of, line_count, number_of}
use Rattle.serial_run.proofs.Words.{fourth_word-is, lines-more}
use Rattle.serial_run.proofs.work.lines_of.Goals as goal

pub loop-line-preserved : goal.loop-line-preserved
loop-line-preserved c =
    let l = c.loop-line in
    let made = c.in_ok-command_by.field-0 in
    let is : data_of made ≡ command_of c.args.seed (number_of c.args.submitter l.line) = rw (c.in_ok-command_by.ensures.command, l.invariant.word) refl in
    let longer : length c.push.new.self.items ≡ l.line + 1 = grind (arith, common_steps) in
    record {
      lines = rw c.in_ok-push.ensures.items (lines-more c.args.seed c.args.submitter l.line l.lines.items made l.invariant.lines is);
      in_range = rw c.in_ok-push.ensures.items (All-push IsCommand l.lines.items made l.invariant.in_range c.in_ok-command_by.ensures.in_range);
      count = longer;
      word = rw (c.fourth_word-word.ensures, l.invariant.word) (fourth_word-is c.args.seed c.args.submitter l.line);
    }

pub returns-clause-lines : goal.returns-clause-lines
returns-clause-lines c =
    let l = c.loop-line in
    let end : l.line ≡ line_count c.args.n c.args.submitter = grind (arith, common_steps) in
    rw c.of.ensures (l.invariant.lines ∙ ap (λ (k : ℕ). map (λ (j : ℕ). command_of c.args.seed (number_of c.args.submitter j)) (range_with_len 0 k)) end)
