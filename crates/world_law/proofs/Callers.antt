-- A step of another caller leaves what a submitter has still to do.
use Rattle.std.proofs.Common.{◌≡◌, ◌≢◌, ◌<◌, ℕ, List, ◌∷◌, [], ◌++◌, slice_index_or, ap, ◌∙◌, inl, inr}
use Rattle.std.proofs.lemmas.List.{get_or-set_other}
use Rattle.world_law.specs.declared.reply.Decided.{Decided}
use Rattle.world_law.specs.World.{BenchSetting, World, lines_of}
use Rattle.world_law.specs.Runs.{Moment, Steps}
use Rattle.world_law.specs.Laws.{LeavesSubmitter}
use Rattle.world_law.proofs.Effects.{LinesGo, Effect, effect}
use Rattle.world_law.proofs.Tickets.{held_stays}

other-lines : (g : BenchSetting) (caller s : ℕ) (old new : World) → LinesGo g caller old new → s ≢ caller → lines_of new s ≡ lines_of old s
other-lines g caller s old new (inl e) n = ap (λ (ls : List (List Decided)). slice_index_or ls s []) e
other-lines g caller s old new (inr x) n =
    ap (λ (ls : List (List Decided)). slice_index_or ls s []) x.are ∙ get_or-set_other old.lines caller s (lines_of old caller ++ x.decided ∷ []) [] n

pub leaves_submitter : (g : BenchSetting) (old : World) (m : Moment) (s : ℕ) → s < old.desk.submitters → s ≢ m.entry.caller → Steps g old m → LeavesSubmitter s old m.after
leaves_submitter g old m s below n h =
    let x : Effect g m.entry.caller old m.reply m.after = effect g old m.entry.caller m.entry.step m.reply m.after h.enabled h.does in
    record {
      lines = other-lines g m.entry.caller s old m.after x.lines n;
      due = x.due s below n;
      held = λ t k. held_stays m.entry.caller s old.desk.tickets m.after.desk.tickets m.after.reports x.tickets n t (inl k);
      no_more = λ t k. held_stays m.entry.caller s old.desk.tickets m.after.desk.tickets m.after.reports x.tickets n t (inr k);
    }
