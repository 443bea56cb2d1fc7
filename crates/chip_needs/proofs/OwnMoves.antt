-- A joined run with the chip's own moves of tickets after it.
use Rattle.ticket_fate.specs.Histories as moved
use Rattle.ticket_fate.specs.Moves as move
use Rattle.run_joined.specs.ChipCalls as own
use Rattle.std.proofs.Common.{arith, ◌≡◌, ℕ, false, List, length, Some, sym, ◌∙◌}
use Rattle.unit_law.specs.Log.{View, with_at}
use Rattle.target_law.specs.Devices.{room_at}
use Rattle.target_law.specs.Target.{LogicalUnit, unit_at}
use Rattle.bus_law.specs.Bus.{device_at}
use Rattle.ticket_fate.specs.Moves.{Moves as TicketMoves, TicketMove, target_of}
use Rattle.ticket_fate.specs.Tickets.{Plan, unit_of, Unbuilt, Ticket, view_for}
use Rattle.ticket_fate.proofs.Reached.{all-kept}
use Rattle.ticket_link.proofs.Tags.{apart-kept}
use Rattle.ticket_room.proofs.Moves.{logs-stay-within}
use Rattle.bus_events.specs.Targets.{targets}
use Rattle.bus_events.proofs.BusResets.{nothing-noted}
use Rattle.world_law.specs.Opening.{opened}
use Rattle.world_law.specs.Runs.{Moment, last}
use Rattle.world_law.specs.World.{BenchSetting, World}
use Rattle.run_joined.specs.ChipCalls.{OwnMoves}
use Rattle.run_joined.specs.JoinedRuns.{RunJoins}
use Rattle.run_joined.proofs.ChipSteps.{chip-leaves-desk}
use Rattle.run_joined.specs.DeskLives.{IsChipStep}
use Rattle.chip_needs.specs.OwnMoves.{OwnMovesStand}
use Rattle.chip_needs.proofs.Ordinary.{written}

-- no such move builds a ticket
own-not-new : {p : Plan} {x : ℕ} {v : View} {k j : Ticket} (m : TicketMove p x v k j) → IsChipStep m → k.life ≡ Unbuilt → ⊥
own-not-new (move.selects e a r) c z = let y = sym z ∙ e in absurd cc
own-not-new (move.times_out e a) c z = let y = sym z ∙ e in absurd cc
own-not-new (move.cancels e m) c z = let y = sym z ∙ e in absurd cc
own-not-new (move.ask_selects e) c z = let y = sym z ∙ e in absurd cc
own-not-new (move.selects_rogue e r) c z = let y = sym z ∙ e in absurd cc
own-not-new m c z = c

module _ (g : BenchSetting) (p : Plan) (ms : List Moment) where
  abbrev w : World
  w = last (opened g) ms

  -- with one ticket after a step of the chip
  stepped : (ks : ℕ → Ticket) (x : ℕ) (k : Ticket) (u : LogicalUnit) → RunJoins g p ms ks → unit_at (targets w.bus (target_of p x)).units (p.units (unit_of p x)).lun ≡ Some u → (t : TicketMove p x (view_for p x u.log) (ks x) k) → IsChipStep t
      → RunJoins g p ms (with_at ks x k)
  stepped ks x k u j there t c =
      let ns = with_at ks x k in
      let reached = j.joined.tickets.reached in
      let m : TicketMoves p (length g.units) ks (targets w.bus) ns (targets w.bus) = move.alone x k u there t in
      record {
        spare = j.spare;
        opens = j.opens;
        moves = moved.more j.moves m;
        joined = record {
          tickets = record {
            reached = record { plan = reached.plan; from = (reached.from.0, reached.from.1, reached.from.2, moved.more reached.from.3 m) };
            rig = j.joined.tickets.rig;
            apart = apart-kept p (length g.units) reached.plan ks (targets w.bus) (all-kept p (length g.units) ks (targets w.bus) reached) ns (targets w.bus) m (λ z. absurd (own-not-new t c z)) j.joined.tickets.apart;
            connected = j.joined.tickets.connected;
            whole = j.joined.tickets.whole;
          };
          desk = chip-leaves-desk p (length g.units) ks (targets w.bus) ns (targets w.bus) w.desk reached m c j.joined.desk;
          rig = j.joined.rig;
          places = j.joined.places;
          reserved = λ n less v here.
              let room = room_at (device_at w.bus (p.units n).target) (p.units n).lun in
              logs-stay-within p (length g.units) ks (targets w.bus) ns (targets w.bus) reached m (own-not-new t c) (length w.desk.tickets) n room (j.spare n) v v j.joined.desk.unbuilt less here here
              (let s = j.joined.reserved n less v here in omega (arith, s));
          most = j.joined.most;
        };
        histories = λ y. j.histories y ∙ sym (nothing-noted (ks y) (moved.tally_in p (targets w.bus) y) false (moved.history y j.moves));
      }

  all-moves : (ks ns : ℕ → Ticket) → RunJoins g p ms ks → OwnMoves p (targets w.bus) ks ns → RunJoins g p ms ns
  all-moves ks ns j own.none = j
  all-moves ks ns j (own.steps {ns = os} r x k u there m c) = stepped os x k u (all-moves ks os j r) there m c
  all-moves ks ns j (own.writes {ns = os} r x lastp savep e) = written g p ms os (all-moves ks os j r) x lastp savep e

pub own-moves-stand : OwnMovesStand
own-moves-stand g p ms ks ns j o = all-moves g p ms ks ns j o
