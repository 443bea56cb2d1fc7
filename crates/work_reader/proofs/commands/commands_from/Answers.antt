use Rattle.std.proofs.Common.{◌≡◌, ◌+◌, drop}
use Rattle.std.proofs.lemmas.List.Elements.{All-push}
use Rattle.toml.specs.Data.{item}
use Rattle.toml.specs.View.{view, items_view}
use Rattle.toml.proofs.Views.{items_view-drop}
use Rattle.file_keys.specs.Keys.{entries_fault, entries_of}
use Rattle.file_keys.proofs.Entries.{entries_on}
use Rattle.work_reader.specs.WorkFile.{plain_spelled, command_fault, command_in, IsSpelled}
use Rattle.work_reader.proofs.ViewsOn.{views_on}
use Rattle.work_reader.proofs.commands.commands_from.Goals as goal

pub loop-n-preserved : goal.loop-n-preserved
loop-n-preserved c =
    let entries = c.args.entries.now in
    let n = c.loop-n.n in
    let v = c.index-entries-n.result in
    let more : items_view (drop n entries) ≡ item (view v) (items_view (drop (n + 1) entries)) = rw (items_view-drop entries n v c.loop-n-test.true, ← c.index-entries-n.is) in
    let rest = items_view (drop (n + 1) entries) in
    let f = command_fault c.args.prefix.now in
    record {
      faults = entries_on f n (view v) rest (entries_fault f 0 (items_view entries)) c.in_ok-x.ensures.reads.0 (rw more at c.loop-n.invariant.faults);
      values = rw c.in_ok-push.ensures.items (views_on plain_spelled command_in c.loop-n.out.items c.in_ok-x.x (view v) rest (entries_of command_in (items_view entries)) c.in_ok-x.ensures.reads.1 (rw more at c.loop-n.invariant.values));
      in_range = rw c.in_ok-push.ensures.items (All-push IsSpelled c.loop-n.out.items c.in_ok-x.x c.loop-n.invariant.in_range c.in_ok-x.ensures.in_range);
    }
