use Rattle.std.proofs.Common.{sym, ◌∙◌}
use Rattle.std.proofs.lemmas.Map.Text.{btree_map_updates_str}
use Rattle.scripts_asm.specs.SeenNames.{giving_in}
use Rattle.scripts_asm.proofs.Givings.{given_now, not_some}
use Rattle.scripts_asm.proofs.names.NameTable.give.Goals as goal

pub returns : goal.returns
returns c =
    given_now (giving_in c.args.self.now) (giving_in (record { first = c.insert.new.self })) c.args.name.now (record { place = c.args.place; value = c.args.value })
    (not_some (giving_in c.args.self.now c.args.name.now) (sym c.contains_key.ensures ∙ c.if-contains_key.false))
    (btree_map_updates_str c.args.name.now c.args.self.now.first c.insert.new.self _ c.in_ok-insert.ensures.updates)
