use Rattle.std.proofs.Common.{ℕ, ◌≤◌, List, sym, subst}
use Rattle.std.specs.Prelude.{All}
use Rattle.unit_law.specs.Request.{plain}
use Rattle.desk_law.specs.Desk.{DeskState}
use Rattle.driver_desk.proofs.WholeDescriptors.{sound, each_segment}
use Rattle.driver_desk.proofs.Additions.{TakenOr, chunks_or, kept_or}
use Rattle.driver_desk.proofs.desk.Desk.take_chunks.Goals as goal

pub take_all-requires-clause-lens : goal.take_all-requires-clause-lens
take_all-requires-clause-lens c =
    let s = sound c.args.self.now.units (plain c.args.r.now) c.requires.sound in
    subst (λ (ns : List ℕ). All (λ (n : ℕ). (1 ≤ n) × (n ≤ 65536)) ns) (sym c.as_slice.ensures) (each_segment c.args.r.now.segments 65536 s.some s.few)

pub invariant_of-self : goal.invariant_of-self
invariant_of-self c =
    ((c.self.invariant.0.0, c.self.invariant.0.1, kept_or _ _ _ _ _ _ _ _ _ _ _ c.take_all.result c.self.invariant.0.2 c.take_all.ensures.taken c.take_all.ensures.out), c.self.invariant.1, c.self.invariant.2)

pub returns-clause-taken : goal.returns-clause-taken
returns-clause-taken c =
    let seen : DeskState = record {
      version = c.self.inside.version;
      units = c.self.inside.units.items;
      retries = c.self.inside.retries;
      autosense = c.self.inside.autosense;
      submitters = c.self.inside.submitters;
      tickets = c.self.inside.tickets.items;
      put = c.self.inside.put;
      take = c.self.inside.take;
      space = c.self.inside.region;
      due = c.self.inside.due.items;
    } in
    subst (λ (d : DeskState). TakenOr seen d c.take_all.new.self c.args.r.now.segments c.take_all.result) c.self.view_is
    (subst (λ (ns : List ℕ). TakenOr seen seen c.take_all.new.self ns c.take_all.result) c.as_slice.ensures
    (chunks_or seen c.take_all.new.self c.as_slice.result.now c.take_all.result c.self.invariant.0.2.out c.take_all.ensures.taken c.take_all.ensures.out))
