use Rattle.std.proofs.Common.{◌≡◌, ◌++◌, drop}
use Rattle.report_text.specs.Text.{acts_from}
use Rattle.report_text.proofs.acts.push_acts.Given as goal

abbrev pub invariant-loop-reply : goal.invariant-loop-reply
invariant-loop-reply l = record {
  number : l.number ≡ l.reply-index;
  text : l.text.items ++ acts_from l.number (drop l.reply-index l.acts) ≡ l.initial.text.items ++ acts_from 0 l.acts;
}
