use Rattle.std.proofs.Common.{refl, string_bytes}
use Rattle.scripts_list.proofs.Entries.{adds_op_result, adds_word}
use Rattle.scripts_list.proofs.listing.push_entry.Goals as goal

pub returns-in-Some-clause-entry : goal.returns-in-Some-clause-entry
returns-in-Some-clause-entry c = adds_op_result c.args.address c.args.words.now c.in-Some.op (string_bytes c.args.out.now) (string_bytes c.push_op.new.out) c.push_op.result c.in-Some.ensures.found c.push_op.ensures.len c.push_op.ensures.line

pub returns-in_ok-push_word-clause-entry : goal.returns-in_ok-push_word-clause-entry
returns-in_ok-push_word-clause-entry c = adds_word c.args.address c.args.words.now (string_bytes c.args.out.now) (string_bytes c.push_word.new.out) c.requires (c.in_default.ensures.none refl) c.in_ok-push_word.ensures
