use Rattle.scripts_list.proofs.Ascii.{first_ascii}
use Rattle.scripts_list.proofs.texts.push_items.Goals as goal

pub push_mark-requires : goal.push_mark-requires
push_mark-requires c = first_ascii c.loop-items.items.now _ c.in-Mark.mark c.in-len1-up.len_at_least c.in-Mark.is c.loop-items.invariant.ascii
