use Rattle.std.proofs.Common.{◌≡◌, [], take, arith, refl, sym, ◌∙◌, rules}
use Rattle.std.specs.Vec.{with_items}
use Rattle.std.proofs.lemmas.List.{with_items_is, places}
use Rattle.target_law.specs.Session.{Task}
use Rattle.unit_task.specs.Held.{kept_of}
use Rattle.unit_task.proofs.Received.{kept-sense, take-none, answer-kept}
use Rattle.unit_task.proofs.task.Task.keep_sense.Goals as goal

pub returns : goal.returns
returns c =
    let old = c.self.inside.buffer.items in
    let new = (with_items c.self.inside.buffer c.write_sense.new.buffer).items in
    let same : new ≡ c.write_sense.new.buffer = with_items_is c.self.inside.buffer c.write_sense.new.buffer (search (rules, places)) in
    let got = c.self.inside.got in
    let senses = rw (← c.self.view_is) at c.requires.senses in
    let nothing = rw (← c.self.view_is) at c.requires.nothing in
    let none : take got old ≡ [] = nothing in
    let size = c.self.invariant.size in
    let most = c.self.invariant.received in
    let k = kept-sense c.args.unit.now c.self.inside.cdb new _ (c.self.invariant.sense senses) (same ∙ c.write_sense.ensures) in
    let r : take got new ≡ take got old = take-none old new got (omega arith) none ∙ sym none in
    let i = c.self.inside in
    let v : Task = record {
      tag = i.tag;
      ticket = i.ticket;
      cdb = i.cdb;
      position = i.position;
      saved = i.saved;
      high = i.high;
      budget = i.budget;
      kept = kept_of i.kept old;
      received = take got old;
      fresh = i.fresh;
      just_moved = i.just_moved;
      senses = i.senses;
    } in
    rw (← c.self.view_is) (answer-kept v _ _ _ _ k r refl)
