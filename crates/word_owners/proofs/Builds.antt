-- An accepted line keeps the invariant.
use Rattle.std.proofs.Common.{ℕ, List, sym, subst}
use Rattle.rig_types.specs.declared.rig.Unit.{Unit as RigUnit}
use Rattle.rig_types.specs.Ranges.{IsRig}
use Rattle.rig_types.specs.declared.step.Line.{Line}
use Rattle.bus_law.specs.Rooms.{with_room_at}
use Rattle.desk_law.specs.Desk.{DeskState, unit}
use Rattle.world_law.specs.World.{World}
use Rattle.world_law.specs.declared.reply.Decided.{Decided}
use Rattle.world_law.specs.declared.reply.Decided.TheVariants.{Accepted}
use Rattle.world_law.specs.Builds.{decides}
use Rattle.word_owners.specs.Tickets.{tickets_of}
use Rattle.word_owners.specs.Parts.{Counts}
use Rattle.word_owners.specs.Holds.{Spot, Holds, link_at}
use Rattle.word_owners.specs.BuiltTickets.{AreBuilt}
use Rattle.word_owners.specs.Builds.{BuildsHold}
use Rattle.word_owners.proofs.Jobs.{linked-room}
use Rattle.word_owners.proofs.Additions.{add_holds}
use Rattle.word_owners.proofs.BuiltMemory.{build_adds}
use Rattle.word_owners.proofs.BuiltTickets.{tickets_built}

-- what was decided of lines, and the rooms of logs, are nothing to the invariant
lined : (version : ℕ) (units : List RigUnit) (s : Spot) (c : Counts) (w : World) (m : List ℕ) (desk : DeskState) (l : Line) (x : Decided) (target : ℕ) → Holds version units s c (record w { memory = m; desk = desk })
    → Holds version units s c (record (decides w l x) { memory = m; desk = desk; bus = with_room_at w.bus target })
lined version units s c w m desk l x target h = record {
  size = h.size;
  bytes = h.bytes;
  units_are = h.units_are;
  few_units = h.few_units;
  version_is = h.version_is;
  tickets = h.tickets;
  checked = h.checked;
  put = h.put;
  take = h.take;
  parts = h.parts;
  tags = h.tags;
  donep = h.donep;
  works = h.works;
  stays = h.stays;
  linked = linked-room (link_at s) (tickets_of desk) w.bus target w.regs h.linked;
}

pub builds_hold : BuildsHold
builds_hold retries step_limit version units s c w new l r t rig fit depths space a h =
    let rig' : IsRig w.desk.version w.desk.units retries step_limit = subst (λ (v : ℕ). IsRig v w.desk.units retries step_limit) (sym h.version_is) (subst (λ (us : List RigUnit). IsRig version us retries step_limit) (sym h.units_are) rig) in
    let old : AreBuilt w.desk = record { tickets = h.tickets; depths = depths; space = space } in
    let adds = build_adds retries step_limit w new.desk new.memory l r t rig' fit h.size h.bytes h.checked old a.builds in
    let k = add_holds version units s c w new.memory new.desk t adds h in (
      subst (Holds version units s c) (sym a.world) (lined version units s c w new.memory new.desk l (Accepted t) (unit w.desk r.unit).target k),
      tickets_built retries step_limit w.desk new.desk w.memory new.memory l r t rig' a.builds old,
    )
