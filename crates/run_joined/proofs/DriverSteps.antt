-- Every step of the driver but TakeDone and Sweep is joined.
use Rattle.std.proofs.Common.{arith, ◌≡◌, ◌≢◌, ◌⊎◌, inl, inr, ℕ, zero, suc, ◌+◌, ◌<◌, ◌≤◌, ◌==◌, nat_eq, nat_lt, Bool, true, false, List, [], ◌∷◌, ◌++◌, length, length-append, slice_get, slice_index_or, slice_set, Option, Some, None, refl, sym, ap, subst, ◌∙◌}
use Rattle.std.specs.Prelude.{◌||◌, ◌&&◌, not, option_map, if◌then◌else◌}
use Rattle.std.proofs.lemmas.Bool.Decides.{nat_tests}
use Rattle.std.proofs.lemmas.List.{length-set}
use Rattle.std.proofs.lemmas.Option.{same_Some, get_or_from_slice_get}
use Rattle.std.proofs.Math.Seq.{get_or-append_seam}
use Rattle.rig_types.specs.declared.acts.Act.{Act}
use Rattle.rig_types.specs.declared.acts.ActKind.{ActKind}
use Rattle.rig_types.specs.declared.acts.ActKind.TheVariants.{Abort, Device, Bus}
use Rattle.rig_types.specs.declared.commands.Command.{Command}
use Rattle.rig_types.specs.declared.report.Outcome.{Outcome}
use Rattle.rig_types.specs.declared.rig.Unit.{Unit as RigUnit}
use Rattle.rig_types.specs.declared.step.Line.{Line}
use Rattle.rig_types.specs.declared.step.Step.{Step}
use Rattle.rig_types.specs.declared.step.Step.TheVariants as step
use Rattle.unit_law.specs.Log.{Tally, with_at, tally}
use Rattle.unit_law.specs.Report.{TicketHistory}
use Rattle.unit_law.specs.Request.{RequestData, plain}
use Rattle.unit_law.proofs.Views.{with_at-same, with_at-other, same_or_not}
use Rattle.target_law.specs.Devices.{room_at}
use Rattle.target_law.specs.Target.{LogicalUnit, Target, unit_at}
use Rattle.bus_law.specs.Bus.{BusState, device_at, bus_reset}
use Rattle.bus_law.specs.Rooms.{with_room_at, with_all_room}
use Rattle.host_map.specs.declared.TheConstants.{FRONT_IDLE}
use Rattle.desk_law.specs.declared.refused.Refused.{Refused}
use Rattle.desk_law.specs.declared.stage.Stage.{Stage}
use Rattle.desk_law.specs.declared.stage.Stage.TheVariants as stage
use Rattle.desk_law.specs.declared.ticket.Ticket.{Ticket as DeskTicket}
use Rattle.desk_law.specs.Building.{new_ticket, free_tag}
use Rattle.desk_law.specs.Calls.{links, unlinks, queues, senses}
use Rattle.rig_types.specs.Ranges.{IsRig}
use Rattle.desk_law.specs.Desk.{DeskState, ticket, no_ticket, no_unit, lives, unit, is_freed}
use Rattle.ticket_fate.specs.Tickets as fate
use Rattle.ticket_fate.specs.Tickets.{Plan, unit_of, Unbuilt, AtRogue, Life, is_live, Ticket, view_for}
use Rattle.ticket_fate.proofs.Reached.{all-kept}
use Rattle.logs_have_room.specs.Room.{entries}
use Rattle.ticket_fate.specs.Linked as linked
use Rattle.ticket_fate.specs.Moves as move
use Rattle.ticket_fate.specs.Moves.{Moves, target_of, CanMark}
use Rattle.ticket_fate.specs.Histories as moved
use Rattle.ticket_fate.specs.Histories.{Run, none, more, progress_of}
use Rattle.ticket_link.specs.Tags.{TakesFreeTag}
use Rattle.ticket_room.specs.Rooms.{HasSpare}
use Rattle.ticket_room.proofs.Reserves.{reserves-suffice}
use Rattle.bus_events.specs.Targets.{targets}
use Rattle.bus_events.specs.TicketLaws.{AreJoined}
use Rattle.bus_events.specs.Rooms.{AreReserved}
use Rattle.bus_events.specs.BusResets.{HasPlaces, LiveWithinDepth, BusResets, after_bus_reset, history_on, noted_reset}
use Rattle.bus_events.proofs.BusResets.{bus-resets-move}
use Rattle.bus_events.proofs.MadeRooms.{room-is-made}
use Rattle.bus_events.proofs.CallsMove.{unit-stands}
use Rattle.world_law.specs.declared.reply.Decided.{Decided}
use Rattle.world_law.specs.declared.reply.Decided.TheVariants as line
use Rattle.world_law.specs.declared.reply.Reply.{Reply}
use Rattle.world_law.specs.declared.reply.Reply.TheVariants as reply
use Rattle.world_law.specs.declared.reply.Stop.{Stop}
use Rattle.world_law.specs.declared.reply.Stop.TheVariants as stop
use Rattle.world_law.specs.World.{BenchSetting, IsBenchSetting, World, command_at, request_at, decided, front, log_of, log_by}
use Rattle.world_law.specs.Acts.{Acted, is_late, marks, aborts, device_resets, bus_resets, acts_by, ActsOf}
use Rattle.world_law.specs.Builds.{decides, refuses, is_tried_again, BuildsOf, Accepts}
use Rattle.world_law.specs.Enabling.{Enabled, MayQueue, IsEnded}
use Rattle.world_law.specs.Repairs.{Fixes}
use Rattle.world_law.specs.Resets.{resets}
use Rattle.world_law.specs.Runs.{Moment, Steps}
use Rattle.world_law.specs.Steps.{Does}
use Rattle.world_law.proofs.Effects.{not-freed-within}
use Rattle.run_law.specs.Changes.{Change, is_accepted_as, is_abort_of, is_marked, is_started, is_bus, has_kind, marks_by, resets_bus_by, marks as marks_in_run, resets_bus, resets_device}
use Rattle.run_law.specs.History.{tally_in, is_live as lives_in, is_under_way, noted}
use Rattle.word_owners.specs.KeptDesks.{AreKept}
use Rattle.word_owners.specs.FreePlaces.{HasDepths}
use Rattle.word_owners.proofs.FreePlaces.{places_free}
use Rattle.run_joined.specs.DeskLives.{IsStage, IsKept, DeskJoined, StepsTo}
use Rattle.run_joined.specs.Plans.{IsPlanOf}
use Rattle.run_joined.specs.Joined.{IsDeskOf, IsJoined, StepJoins, is_by_words, DriverStepsJoin}
use Rattle.run_joined.proofs.Rigs.{SameRig, same-rig, as-before, as-made, rig-stays, desk-stays}
use Rattle.run_joined.proofs.DeskSteps.{desk-steps-move}
use Rattle.run_joined.proofs.ChipSteps.{chip-leaves-desk, bus-reset-leaves-desk}
use Rattle.run_joined.proofs.Matching.{by_change, by_move, changes-move, history-of, or-none, count-none, silent-change}
use Rattle.run_joined.proofs.Moved.{below-or, lives-so, way-so, not-new, rejoined, log-same, no-word, IsQuiet, Notes, own-unit, plan, kept, below, moved-on, joined-by, by-move, by-ticket, by-nothing, says-no-more, unit-is, within-depth, desk-with, world-log, quiet, one-ticket, still}

same-test : (a c : ℕ) → (a == c) ≡ (c == a)
same-test a c = by (nat_eq a c) (nat_eq c a) refl refl
  where
    by : (x y : Bool) → nat_eq a c ≡ x → nat_eq c a ≡ y → nat_eq a c ≡ nat_eq c a
    by true true e f = e ∙ sym f
    by false false e f = e ∙ sym f
    by true false e f = absurd (grind (arith, nat_tests))
    by false true e f = absurd (grind (arith, nat_tests))

and-true : (b : Bool) → (b && true) ≡ b
and-true true = refl
and-true false = refl

and-none : (b : Bool) → (b && false) ≡ false
and-none true = refl
and-none false = refl

-- a stage that isn't Freed stands within
within : (d : DeskState) (t : ℕ) (s : Stage) → (ticket d t).stage ≡ s → is_freed s ≡ false → t < length d.tickets
within d t s e f = not-freed-within d.tickets t (ap is_freed e ∙ f)

module _ (g : BenchSetting) (p : Plan) (old : World) (m : Moment) (ks : ℕ → Ticket) (spare : ℕ → ℕ) (setting : IsBenchSetting g) (of : IsPlanOf g m.after p) (j : IsJoined g p old ks spare) (depths : AreKept old.desk) (depths_after : AreKept m.after.desk) where
  abbrev change : Change
  change = record { before = old; moment = m }

  abbrev new : World
  new = m.after

  -- ---- Build
  module _ (l : Line) (c : Command) (t : ℕ) (e : m.entry.step ≡ step.Build l) (q : command_at g l ≡ Some c) (a : Accepts old l (plain c.request) t new) where
    abbrev r : RequestData
    r = plain c.request

    abbrev i : ℕ
    i = (unit old.desk r.unit).target

    abbrev k : DeskTicket
    k = new_ticket old.desk l r a.builds.chunks

    abbrev size : ℕ
    size = length old.desk.tickets

    tickets-are : new.desk.tickets ≡ old.desk.tickets ++ k ∷ []
    tickets-are = ap (λ (d : DeskState). d.tickets) a.builds.desk

    many : length new.desk.tickets ≡ suc size
    many = omega (arith, ap length tickets-are, length-append old.desk.tickets (k ∷ []))

    low : t < length new.desk.tickets
    low = omega (arith, many, a.builds.numbered)

    ticket-is : ticket new.desk t ≡ k
    ticket-is =
        ap (λ z. slice_index_or z t no_ticket) tickets-are ∙ ap (λ n. slice_index_or (old.desk.tickets ++ k ∷ []) n no_ticket) a.builds.numbered
        ∙ get_or-append_seam old.desk.tickets k [] no_ticket

    request-is : p.requests t ≡ r
    request-is =
        same_Some (p.requests t) r (sym (of.requests t low) ∙ ap (λ (x : DeskTicket). request_at g x.line) ticket-is ∙ ap (option_map (λ (x : Command). plain x.request)) q)

    stepped : StepsTo p t ks new.desk
    stepped = desk-steps-move.built p old.desk new.desk ks old.memory new.memory l r t j.desk a.builds request-is

    u : (w : LogicalUnit) × (unit_at (targets old.bus (target_of p t)).units (p.units (unit_of p t)).lun ≡ Some w)
    u = own-unit g p old m ks spare j t

    abbrev made : Ticket
    made = stepped.to (view_for p t u.0.log)

    abbrev ns : ℕ → Ticket
    ns = with_at ks t made

    abbrev build : Moves p (length g.units) ks (targets old.bus) ns (targets old.bus)
    build = move.alone t made u.0 u.1 (stepped.step (view_for p t u.0.log))

    desk-after : DeskJoined p new.desk ns
    desk-after = stepped.joined (view_for p t u.0.log)

    tag-is : made.tag ≡ free_tag old.desk r.unit
    tag-is = ap (λ (x : Ticket). x.tag) (sym (with_at-same ks t made)) ∙ sym (desk-after.each t low).tag_is ∙ ap (λ (x : DeskTicket). x.tag) ticket-is

    unit-in : r.unit < length old.desk.units
    unit-in = omega (arith, (plan g p old m ks spare j).known t, ap (λ (x : RequestData). x.unit) request-is, ap length j.rig.units)

    free-tag : TakesFreeTag build
    free-tag unbuilt y of-unit live tag =
        let here : y < size = in-desk y live in
        let x = j.desk.each y here in
        let place = places_free g.retries g.step_limit old.desk r.unit rig depths.depths unit-in a.builds.not_full in
        place.untagged y (lives-so p old.desk ks j.desk y ∙ live) (x.unit_is ∙ of-unit ∙ ap (λ (z : RequestData). z.unit) request-is) (x.tag_is ∙ tag ∙ tag-is)
      where
        in-desk : (y : ℕ) → is_live (ks y).life ≡ true → y < size
        in-desk y live = by (below-or y size)
          where
            by : (y < size) ⊎ (size ≤ y) → y < size
            by (inl h) = h
            by (inr h) = let z : false ≡ true = ap is_live (sym (j.desk.unbuilt y h)) ∙ live in absurd cc

        rig : IsRig old.desk.version old.desk.units g.retries g.step_limit
        rig =
            subst (λ (v : ℕ). IsRig v old.desk.units g.retries g.step_limit) (sym j.rig.version)
            (subst (λ (us : List RigUnit). IsRig g.version us g.retries g.step_limit) (sym j.rig.units) setting.rig)

    tickets-joined : AreJoined p g.units old.bus ns
    tickets-joined = moved-on g p old m ks spare j ns build free-tag

    bus-is : new.bus ≡ with_room_at old.bus i
    bus-is = ap (λ (w : World). w.bus) a.world

    targets-are : targets new.bus ≡ targets old.bus
    targets-are = ap targets bus-is ∙ room-is-made.same old.bus i

    rig-is : SameRig old.desk new.desk
    rig-is = rig-stays g old m.entry.caller (step.Build l) (reply.Built t) new (subst (λ (o : Option Command). BuildsOf o old l (reply.Built t) new) (sym q) a)

    target-is : target_of p t ≡ i
    target-is =
        ap (λ (x : RequestData). (p.units x.unit).target) request-is
        ∙ ap (λ (x : RigUnit). x.target) (sym (unit-is g p old m ks spare j r.unit (omega (arith, unit-in, ap length j.rig.units))))

    depth-here : (n : ℕ) → n < length g.units → LiveWithinDepth p n (length new.desk.tickets) ns
    depth-here n less =
        let units : new.desk.units ≡ g.units = rig-is.units ∙ j.rig.units in
        within-depth p new.desk ns desk-after depths_after.depths n (omega (arith, less, ap length units))
        (ap (λ (us : List RigUnit). (slice_index_or us n no_unit).depth) units ∙ ap (λ (x : RigUnit). x.depth) (get_or_from_slice_get g.units n (p.units n) no_unit (j.tickets.rig n less)))

    room-here : AreReserved p g.units (suc size) (with_room_at old.bus i) ns spare
    room-here n less w there = by (same_or_not (p.units n).target i)
      where
        own : unit_at (targets old.bus (p.units n).target).units (p.units n).lun ≡ Some w
        own = ap (λ (f : ℕ → Target). unit_at (f (p.units n).target).units (p.units n).lun) (sym (room-is-made.same old.bus i)) ∙ there

        by : ((p.units n).target ≡ i) ⊎ ((p.units n).target ≢ i)
            → HasSpare p n (suc size) ns w.log (room_at (device_at (with_room_at old.bus i) (p.units n).target) (p.units n).lun) (spare n)
        by (inl h) =
            let range : i < length old.bus.devices = subst (λ z. z < length old.bus.devices) h (unit-stands old.bus.devices (p.units n).target (p.units n).lun w own) in
            let live = subst (λ z. LiveWithinDepth p n z ns) many (depth-here n less) in
            let two = room-is-made.one p g.units old.bus ns (suc size) i tickets-joined j.places range n less h live w there in
            omega (arith, two, j.most n)
        by (inr h) =
            let other : unit_of p t ≢ n = λ z. h (ap (λ x. (p.units x).target) (sym z) ∙ target-is) in
            let one = reserves-suffice.unbuilt p n size ks w.log (room_at (device_at old.bus (p.units n).target) (p.units n).lun) (spare n) j.desk.unbuilt (j.reserved n less w own) in
            let two = reserves-suffice.elsewhere p n (suc size) t ks made w.log (room_at (device_at old.bus (p.units n).target) (p.units n).lun) (spare n) other one in
            let grown = room-is-made.grows p g.units old.bus i j.places n less in
            omega (arith, two, grown)

    accepts : StepJoins g p old m ks
    accepts =
        let silent = quiet g p old m ks spare j (step.Build l) e (λ x. refl) refl targets-are rig-is.units in
        joined-by g p old m ks spare j ns spare
        (subst (Notes g p old m ks spare j ns) (sym targets-are) (more none build, λ x h. silent-change g (unit_of p x) x change h (silent x) ∙ sym (says-no-more g p old m ks spare j t made u.0 u.1 (stepped.step (view_for p t u.0.log)) x h)))
        (record {
          tickets = subst (λ (b : BusState). AreJoined p g.units b ns) (sym bus-is) (rejoined p g.units old.bus (with_room_at old.bus i) ns (room-is-made.same old.bus i) refl tickets-joined);
          desk = desk-after;
          rig = desk-stays g old.desk new.desk rig-is j.rig;
          places = subst (HasPlaces p g.units) (sym bus-is) ((room-is-made.places p g.units old.bus j.places).0 i);
          reserved = subst (λ z. AreReserved p g.units z new.bus ns spare) (sym many) (subst (λ (b : BusState). AreReserved p g.units (suc size) b ns spare) (sym bus-is) room-here);
          most = j.most;
        })

  refused : (again : Bool) (l : Line) (r : Refused) → m.entry.step ≡ step.Build l → new ≡ refuses again old l r → StepJoins g p old m ks
  refused true l r e w =
      still g p old m ks spare j (step.Build l) e (λ x. refl) refl (ap (λ (x : World). x.bus) w) (ap (λ (x : World). x.desk.tickets) w) (as-made old.desk (refuses true old l r) new w (as-before old.desk))
  refused false l r e w =
      still g p old m ks spare j (step.Build l) e (λ x. refl) refl (ap (λ (x : World). x.bus) w) (ap (λ (x : World). x.desk.tickets) w) (as-made old.desk (refuses false old l r) new w (as-before old.desk))

  builds : (l : Line) (o : Option Command) (a : Reply) → m.entry.step ≡ step.Build l → command_at g l ≡ o → BuildsOf o old l a new → StepJoins g p old m ks
  builds l None a e q d = absurd d
  builds l (Some c) (reply.Built t) e q d = accepts l c t e q d
  builds l (Some c) (reply.Refused r) e q d = refused (is_tried_again c.when_full r) l r e d.1
  builds l (Some c) _ e q d = absurd d

  -- ---- Link, Queue, Sense, Unlink and Free
  abbrev turned : ℕ → DeskTicket → List DeskTicket
  turned t x = slice_set old.desk.tickets t x

  link : (t : ℕ) (a : Reply) → m.entry.step ≡ step.Link t → (ticket old.desk t).stage ≡ stage.Built → Does g old m.entry.caller (step.Link t) a new → StepJoins g p old m ks
  link t a e s d =
      let l = within old.desk t stage.Built s refl in
      one-ticket g p old m ks spare j (step.Link t) e (λ x. refl) refl t l _ d.1 (desk-steps-move.linked p old.desk ks t j.desk l s) refl (length-set old.desk.tickets t _) (same-rig refl refl refl refl)

  may-queue : (caller t : ℕ) (s : Stage) → (ticket old.desk t).stage ≡ s → MayQueue old caller (ticket old.desk t) s → ((ticket old.desk t).stage ≡ stage.Linked) ⊎ ((ticket old.desk t).stage ≡ stage.Again)
  may-queue caller t stage.Linked e may = inl e
  may-queue caller t stage.Again e may = inr e
  may-queue caller t s e may = absurd may

  queued-within : (t : ℕ) → ((ticket old.desk t).stage ≡ stage.Linked) ⊎ ((ticket old.desk t).stage ≡ stage.Again) → t < length old.desk.tickets
  queued-within t (inl s) = within old.desk t stage.Linked s refl
  queued-within t (inr s) = within old.desk t stage.Again s refl

  queue : (t : ℕ) (a : Reply) → m.entry.step ≡ step.Queue t → Enabled g old m.entry.caller (step.Queue t) → Does g old m.entry.caller (step.Queue t) a new → StepJoins g p old m ks
  queue t a e may d =
      let s = may-queue m.entry.caller t (ticket old.desk t).stage refl may in
      let l = queued-within t s in
      one-ticket g p old m ks spare j (step.Queue t) e (λ x. refl) refl t l _ d.1 (desk-steps-move.queued p old.desk ks t j.desk l s) refl (length-set old.desk.tickets t _) (same-rig refl refl refl refl)

  sense : (t : ℕ) (a : Reply) → m.entry.step ≡ step.Sense t → (ticket old.desk t).stage ≡ stage.Check → Does g old m.entry.caller (step.Sense t) a new → StepJoins g p old m ks
  sense t a e s d =
      let l = within old.desk t stage.Check s refl in
      one-ticket g p old m ks spare j (step.Sense t) e (λ x. refl) refl t l _ d.1 (desk-steps-move.sensed p old.desk ks t j.desk l s) refl (length-set old.desk.tickets t _) (same-rig refl refl refl refl)

  ended-of : (t : ℕ) (s : Stage) → (ticket old.desk t).stage ≡ s → IsEnded s → (o : Outcome) × ((ticket old.desk t).stage ≡ stage.Ended o)
  ended-of t (stage.Ended o) e i = (o, e)
  ended-of t s e i = absurd i

  unlink : (t : ℕ) (a : Reply) → m.entry.step ≡ step.Unlink t → IsEnded (ticket old.desk t).stage → Does g old m.entry.caller (step.Unlink t) a new → StepJoins g p old m ks
  unlink t a e i d =
      let o = ended-of t (ticket old.desk t).stage refl i in
      let l = within old.desk t (stage.Ended o.0) o.1 refl in
      one-ticket g p old m ks spare j (step.Unlink t) e (λ x. refl) refl t l _ d.1 (desk-steps-move.unlinked p old.desk ks t o.0 j.desk l o.1) refl (length-set old.desk.tickets t _) (same-rig refl refl refl refl)

  free : (t : ℕ) (a : Reply) → m.entry.step ≡ step.Free t → (ticket old.desk t).stage ≡ stage.Unlinked → Does g old m.entry.caller (step.Free t) a new → StepJoins g p old m ks
  free t a e s d =
      let l = within old.desk t stage.Unlinked s refl in
      one-ticket g p old m ks spare j (step.Free t) e (λ x. refl) refl t l _ d.world (desk-steps-move.freed p old.desk new.desk ks t j.desk l s d.frees) refl
      (ap (λ (x : DeskState). length x.tickets) d.frees.desk ∙ length-set old.desk.tickets t _) (rig-stays g old m.entry.caller (step.Free t) a new d)

  -- ---- Signal, Fix and Restart
  signal : (a : Reply) → m.entry.step ≡ step.Signal → Does g old m.entry.caller step.Signal a new → StepJoins g p old m ks
  signal a e d =
      still g p old m ks spare j step.Signal e (λ x. refl) refl (ap (λ (x : World). x.bus) d.1) (ap (λ (x : World). x.desk.tickets) d.1) (rig-stays g old m.entry.caller step.Signal a new d)

  fix : (a : Reply) → m.entry.step ≡ step.Fix → Does g old m.entry.caller step.Fix a new → StepJoins g p old m ks
  fix a e d = by d.1
    where
      by : Fixes old new → StepJoins g p old m ks
      by (inl x) = still g p old m ks spare j step.Fix e (λ y. refl) refl (ap (λ (z : World). z.bus) x.world) (ap (λ (z : World). z.desk.tickets) x.world) (rig-stays g old m.entry.caller step.Fix a new d)
      by (inr x) = still g p old m ks spare j step.Fix e (λ y. refl) refl (ap (λ (z : World). z.bus) x.1) (ap (λ (z : World). z.desk.tickets) x.1) (rig-stays g old m.entry.caller step.Fix a new d)

  restart : (a : Reply) → m.entry.step ≡ step.Restart → Does g old m.entry.caller step.Restart a new → StepJoins g p old m ks
  restart a e d =
      still g p old m ks spare j step.Restart e (λ x. refl) refl (ap (λ (x : World). x.bus) d.1) (ap (λ (x : World). x.desk.tickets) d.1) (rig-stays g old m.entry.caller step.Restart a new d)

  -- ---- the reset of the bus
  module _ (bus : new.bus ≡ bus_reset (with_all_room old.bus)) (desk : new.desk ≡ old.desk) (unmarked : (x : ℕ) → marks_in_run g x change ≡ false) (resets : resets_bus g change ≡ true) where
    abbrev size_now : ℕ
    size_now = length old.desk.tickets

    abbrev roomy : BusState
    roomy = with_all_room old.bus

    abbrev count_now : ℕ
    count_now = length g.units

    made-room : AreReserved p g.units size_now roomy ks (λ n. 2) × (targets roomy ≡ targets old.bus)
    made-room =
        room-is-made.all p g.units old.bus ks size_now j.tickets j.places
        (λ n less. within-depth p old.desk ks j.desk depths.depths n (omega (arith, less, ap length j.rig.units)) (ap (λ (x : RigUnit). x.depth) (unit-is g p old m ks spare j n less)))

    joined-roomy : AreJoined p g.units roomy ks
    joined-roomy = rejoined p g.units old.bus roomy ks made-room.1 refl j.tickets

    reset : BusResets p g.units roomy ks size_now (λ n. 1)
    reset = bus-resets-move p g.units roomy ks size_now (λ n. 1) joined-roomy j.desk.unbuilt made-room.0

    abbrev left : ℕ → Ticket
    left = after_bus_reset p roomy ks

    abbrev ResetRun : (ℕ → Target) → Type 0
    ResetRun us = (r : Run p count_now ks us left (targets (bus_reset roomy))) × ((x : ℕ) (h : TicketHistory) → history_on x r h ≡ noted_reset p roomy ks x h)

    from-here : ResetRun (targets old.bus)
    from-here = subst ResetRun made-room.1 (reset.run, reset.notes)

    units-now : new.desk.units ≡ g.units
    units-now = ap (λ (d : DeskState). d.units) desk ∙ j.rig.units

    tally-before : (x : ℕ) → tally_in old (unit_of p x) x ≡ moved.tally_in p (targets roomy) x
    tally-before x =
        ap (tally x) (world-log g p old m ks spare j old j.rig.units x) ∙ ap (λ (us : ℕ → Target). tally x (linked.log_of p (us (target_of p x)) x)) (sym made-room.1)

    tally-after : (x : ℕ) → tally_in new (unit_of p x) x ≡ moved.tally_in p (targets (bus_reset roomy)) x
    tally-after x = ap (tally x) (world-log g p old m ks spare j new units-now x) ∙ ap (λ (b : BusState). tally x (linked.log_of p (targets b (target_of p x)) x)) bus

    says : (x : ℕ) (h : TicketHistory) → noted g (unit_of p x) x h change ≡ noted_reset p roomy ks x h
    says x h =
        let u = unit_of p x in
        let device = resets_device g (unit old.desk u).target change in
        let before = tally_in old u x in
        let after = tally_in new u x in
        let live = lives_in old x in
        let under = is_under_way old x in
        changes-move (marks_in_run g x change) (resets_bus g change) device live under before after h
        ∙ ap (λ (z : Bool). by_move z (resets_bus g change) device live under before after h) (unmarked x)
        ∙ ap (λ (z : Bool). by_move false z device live under before after h) resets
        ∙ ap (λ (z : Bool). by_move false true device z under before after h) (lives-so p old.desk ks j.desk x)
        ∙ ap (λ (z : Bool). by_move false true device (is_live (ks x).life) z before after h) (way-so p old.desk ks j.desk x)
        ∙ ap (λ (z : Tally). by_move false true device (is_live (ks x).life) (moved.is_under_way (progress_of (ks x).life)) z after h) (tally-before x)
        ∙ ap (λ (z : Tally). by_move false true device (is_live (ks x).life) (moved.is_under_way (progress_of (ks x).life)) (moved.tally_in p (targets roomy) x) z h) (tally-after x)

    bus-resets : StepJoins g p old m ks
    bus-resets =
        joined-by g p old m ks spare j left (λ n. 1) (subst (Notes g p old m ks spare j left) (ap targets (sym bus)) (from-here.0, λ x h. says x h ∙ sym (from-here.1 x h)))
        (record {
          tickets = subst (λ (b : BusState). AreJoined p g.units b left) (sym bus) reset.joined;
          desk = desk-with p old.desk left (bus-reset-leaves-desk p count_now roomy ks (all-kept p count_now ks (targets roomy) joined-roomy.reached) old.desk j.desk) new.desk (ap (λ (d : DeskState). d.tickets) desk);
          rig = subst (IsDeskOf g) (sym desk) j.rig;
          places = subst (HasPlaces p g.units) (sym bus) (room-is-made.places p g.units roomy (room-is-made.places p g.units old.bus j.places).1).2;
          reserved = subst (λ (d : DeskState). AreReserved p g.units (length d.tickets) new.bus left (λ n. 1)) (sym desk) (subst (λ (b : BusState). AreReserved p g.units size_now b left (λ n. 1)) (sym bus) reset.reserved);
          most = λ n. omega arith;
        })

  -- ---- the acts
  module _ (no : ℕ) (e : m.entry.step ≡ step.Act no) where
    abbrev marks_word : ActKind → ℕ → Bool
    marks_word kind x = is_abort_of x old kind && is_marked (acts_by old kind).answer

    abbrev resets_word : ActKind → Bool
    resets_word kind = is_bus kind && is_started (acts_by old kind).answer

    -- an act that leaves tickets, bus and desk
    act-still : (made : World) → new ≡ made → ((x : ℕ) → marks_in_run g x change ≡ false) → resets_bus g change ≡ false → made.bus ≡ old.bus → made.desk ≡ old.desk → StepJoins g p old m ks
    act-still made w a b bus desk =
        let bus-is : new.bus ≡ old.bus = ap (λ (x : World). x.bus) w ∙ bus in
        let desk-is : new.desk ≡ old.desk = ap (λ (x : World). x.desk) w ∙ desk in
        let tickets = ap (λ (d : DeskState). d.tickets) desk-is in
        let rig : SameRig old.desk new.desk = subst (SameRig old.desk) (sym desk-is) (as-before old.desk) in
        by-nothing g p old m ks spare j bus-is (ap length tickets) (desk-with p old.desk ks j.desk new.desk tickets) rig
        (λ x. no-word g (unit_of p x) x old m (ap targets bus-is) rig.units (a x) b)

    -- ---- an abort that isn't late marks its ticket
    abbrev late_in : Option Stage → Bool
    late_in None = true
    late_in (Some s) = is_late s

    is-late-at : (l : Life) (s : Stage) → IsStage l s → is_late s ≡ false → CanMark l
    is-late-at AtRogue s i n = tt
    is-late-at Unbuilt s i n = absurd cc
    is-late-at fate.Checked s i n = let z : true ≡ false = ap late_in i ∙ n in absurd cc
    is-late-at fate.Asks s i n = let z : true ≡ false = ap late_in i ∙ n in absurd cc
    is-late-at fate.AskStarts s i n = let z : true ≡ false = ap late_in i ∙ n in absurd cc
    is-late-at fate.AskConnected s i n = let z : true ≡ false = ap late_in i ∙ n in absurd cc
    is-late-at fate.AskLost s i n = let z : true ≡ false = ap late_in i ∙ n in absurd cc
    is-late-at fate.Asked s i n = let z : true ≡ false = ap late_in i ∙ n in absurd cc
    is-late-at (fate.Ended o) s i n = let z : true ≡ false = ap late_in i ∙ n in absurd cc
    is-late-at (fate.Unlinked o) s i n = let z : true ≡ false = ap late_in i ∙ n in absurd cc
    is-late-at (fate.Freed o) s i n = let z : true ≡ false = ap late_in i ∙ n in absurd cc
    is-late-at l s i n = tt

    freed-late : (s : Stage) → is_late s ≡ false → is_freed s ≡ false
    freed-late stage.Freed n = absurd cc
    freed-late s n = refl

    abbrev with_mark : Bool → TicketHistory → TicketHistory
    with_mark b h = record { marked = h.marked || b; clears = h.clears; bus_reset = h.bus_reset; outside = h.outside; uncaused_clears = h.uncaused_clears }

    marked-only : (b device live under : Bool) (k : Tally) (h : TicketHistory) → by_move b false device live under k k h ≡ with_mark b h
    marked-only b device live under k h =
        history-of (by_move b false device live under k k h) (with_mark b h) refl (omega (arith, count-none under k.clears)) (or-none h.bus_reset)
        (omega (arith, count-none (not live) (entries k))) (omega (arith, count-none (not (false || device)) k.clears))

    marks-ticket : (t : ℕ) → is_late (ticket old.desk t).stage ≡ false → new ≡ (marks false old t).world → ((x : ℕ) → marks_in_run g x change ≡ (t == x) && true) → resets_bus g change ≡ false → StepJoins g p old m ks
    marks-ticket t late w a b =
        let l : t < length old.desk.tickets = not-freed-within old.desk.tickets t (freed-late (ticket old.desk t).stage late) in
        let can = is-late-at (ks t).life (ticket old.desk t).stage (j.desk.each t l).stage_is late in
        let ns : ℕ → Ticket = with_at ks t (move.marked_ticket (ks t)) in
        let mark : Moves p (length g.units) ks (targets old.bus) ns (targets old.bus) = move.marks t can in
        let bus-is : new.bus ≡ old.bus = ap (λ (x : World). x.bus) w in
        let desk-is : new.desk ≡ old.desk = ap (λ (x : World). x.desk) w in
        let tickets = ap (λ (d : DeskState). d.tickets) desk-is in
        let rig : SameRig old.desk new.desk = subst (SameRig old.desk) (sym desk-is) (as-before old.desk) in
        let desk-after = chip-leaves-desk p (length g.units) ks (targets old.bus) ns (targets old.bus) old.desk j.tickets.reached mark tt j.desk in
        by-move g p old m ks spare j ns mark tt (λ z. z) (λ n. refl) bus-is (ap length tickets) (desk-with p old.desk ns desk-after new.desk tickets) rig
        (λ x h.
        let u = unit_of p x in
        let device = resets_device g (unit old.desk u).target change in
        let before = tally_in old u x in
        let live = lives_in old x in
        let under = is_under_way old x in
        changes-move (marks_in_run g x change) (resets_bus g change) device live under before (tally_in new u x) h
        ∙ ap (λ (z : Tally). by_move (marks_in_run g x change) (resets_bus g change) device live under before z h) (ap (tally x) (log-same old new u (ap targets bus-is) rig.units))
        ∙ ap (λ (z : Bool). by_move (marks_in_run g x change) z device live under before before h) b
        ∙ ap (λ (z : Bool). by_move z false device live under before before h) (a x ∙ and-true (t == x) ∙ same-test t x)
        ∙ marked-only (x == t) device live under before h
        ∙ sym (marked-only (x == t) false (is_live (ks x).life) (moved.is_under_way (progress_of (ks x).life)) (moved.tally_in p (targets old.bus) x) h))

    abort-marks : (late : Bool) (t : ℕ) → is_late (ticket old.desk t).stage ≡ late → new ≡ (marks late old t).world → ((x : ℕ) → marks_in_run g x change ≡ (t == x) && is_marked (marks late old t).answer) → resets_bus g change ≡ false
        → StepJoins g p old m ks
    abort-marks true t late w a b = act-still (marks true old t).world w (λ x. a x ∙ and-none (t == x)) b refl refl
    abort-marks false t late w a b = marks-ticket t late w a b

    abort : (d : Decided) → new ≡ (aborts old d).world → ((x : ℕ) → marks_in_run g x change ≡ is_accepted_as x d && is_marked (aborts old d).answer) → resets_bus g change ≡ false → StepJoins g p old m ks
    abort line.Open w a b = act-still (aborts old line.Open).world w a b refl refl
    abort (line.Refused r) w a b = act-still (aborts old (line.Refused r)).world w a b refl refl
    abort (line.Accepted t) w a b = abort-marks (is_late (ticket old.desk t).stage) t refl w a b

    -- ---- a device reset makes room at its target
    abbrev roomier : ℕ → ℕ → ℕ
    roomier target n = if (p.units n).target == target then 2 else spare n

    roomier-most : (target n : ℕ) (b : Bool) → (if b then 2 else spare n) ≤ 2
    roomier-most target n true = omega arith
    roomier-most target n false = j.most n

    device-starts : (target : ℕ) → new ≡ (device_resets true old target).world → ((x : ℕ) → marks_in_run g x change ≡ false) → resets_bus g change ≡ false → StepJoins g p old m ks
    device-starts target w a b =
        let bus-is : new.bus ≡ with_room_at old.bus target = ap (λ (x : World). x.bus) w in
        let targets-are : targets new.bus ≡ targets old.bus = ap targets bus-is ∙ room-is-made.same old.bus target in
        let tickets : new.desk.tickets ≡ old.desk.tickets = ap (λ (x : World). x.desk.tickets) w in
        let rig : SameRig old.desk new.desk = as-made old.desk (device_resets true old target).world new w (same-rig refl refl refl refl) in
        joined-by g p old m ks spare j ks (roomier target)
        (subst (Notes g p old m ks spare j ks) (sym targets-are) (none, λ x h. silent-change g (unit_of p x) x change h (no-word g (unit_of p x) x old m targets-are rig.units (a x) b)))
        (record {
          tickets = subst (λ (c : BusState). AreJoined p g.units c ks) (sym bus-is) (rejoined p g.units old.bus (with_room_at old.bus target) ks (room-is-made.same old.bus target) refl j.tickets);
          desk = desk-with p old.desk ks j.desk new.desk tickets;
          rig = desk-stays g old.desk new.desk rig j.rig;
          places = subst (HasPlaces p g.units) (sym bus-is) ((room-is-made.places p g.units old.bus j.places).0 target);
          reserved = subst (λ n. AreReserved p g.units n new.bus ks (roomier target)) (sym (ap length tickets)) (subst (λ (c : BusState). AreReserved p g.units (length old.desk.tickets) c ks (roomier target)) (sym bus-is) (room-there target));
          most = λ n. roomier-most target n ((p.units n).target == target);
        })
      where
        room-there : (target : ℕ) → AreReserved p g.units (length old.desk.tickets) (with_room_at old.bus target) ks (roomier target)
        room-there target n less u there = by ((p.units n).target == target) refl
          where
            own : unit_at (targets old.bus (p.units n).target).units (p.units n).lun ≡ Some u
            own = ap (λ (f : ℕ → Target). unit_at (f (p.units n).target).units (p.units n).lun) (sym (room-is-made.same old.bus target)) ∙ there

            by : (c : Bool) → ((p.units n).target == target) ≡ c
                → HasSpare p n (length old.desk.tickets) ks u.log (room_at (device_at (with_room_at old.bus target) (p.units n).target) (p.units n).lun) (if c then 2 else spare n)
            by true q =
                let h : (p.units n).target ≡ target = grind (arith, nat_tests, q) in
                let range : target < length old.bus.devices = subst (λ z. z < length old.bus.devices) h (unit-stands old.bus.devices (p.units n).target (p.units n).lun u own) in
                room-is-made.one p g.units old.bus ks (length old.desk.tickets) target j.tickets j.places range n less h
                (within-depth p old.desk ks j.desk depths.depths n (omega (arith, less, ap length j.rig.units)) (ap (λ (x : RigUnit). x.depth) (unit-is g p old m ks spare j n less))) u there
            by false q = let grown = room-is-made.grows p g.units old.bus target j.places n less in let s = j.reserved n less u own in omega (arith, s, grown)

    device : (idle : Bool) (target : ℕ) → new ≡ (device_resets idle old target).world → ((x : ℕ) → marks_in_run g x change ≡ false) → resets_bus g change ≡ false → StepJoins g p old m ks
    device true target w a b = device-starts target w a b
    device false target w a b = act-still (device_resets false old target).world w a b refl refl

    bus-act : (s : Stop) → new ≡ (bus_resets s old).world → ((x : ℕ) → marks_in_run g x change ≡ false) → resets_bus g change ≡ true && is_started (bus_resets s old).answer → StepJoins g p old m ks
    bus-act stop.Run w a b = bus-resets (ap (λ (x : World). x.bus) w) (ap (λ (x : World). x.desk) w) a b
    bus-act stop.MustReset w a b = bus-resets (ap (λ (x : World). x.bus) w) (ap (λ (x : World). x.desk) w) a b
    bus-act stop.Mismatch w a b = act-still (bus_resets stop.Mismatch old).world w a b refl refl
    bus-act stop.Clear w a b = act-still (bus_resets stop.Clear old).world w a b refl refl

    act-by : (kind : ActKind) → new ≡ (acts_by old kind).world → ((x : ℕ) → marks_in_run g x change ≡ marks_word kind x) → resets_bus g change ≡ resets_word kind → StepJoins g p old m ks
    act-by (Abort l) w a b = abort (decided old l) w a b
    act-by (Device target) w a b = device (front old == FRONT_IDLE) target w a b
    act-by Bus w a b = bus-act old.stop w a b

    act : (o : Option Act) → slice_get g.acts no ≡ o → ActsOf o old m.reply new → StepJoins g p old m ks
    act None q d = absurd d
    act (Some x) q d =
        act-by x.kind d.1
        (λ y.
        ap (marks_by g y change) e ∙ ap (λ (z : Option Act). has_kind (is_abort_of y old) z && is_marked m.reply) q
        ∙ ap (λ (z : Reply). is_abort_of y old x.kind && is_marked z) d.0)
        (ap (resets_bus_by g change) e ∙ ap (λ (z : Option Act). has_kind is_bus z && is_started m.reply) q ∙ ap (λ (z : Reply). is_bus x.kind && is_started z) d.0)

  reset-bus : m.entry.step ≡ step.ResetBus → Does g old m.entry.caller step.ResetBus m.reply new → StepJoins g p old m ks
  reset-bus e d = bus-resets (ap (λ (x : World). x.bus) d.1) (ap (λ (x : World). x.desk) d.1) (λ x. ap (marks_by g x change) e) (ap (resets_bus_by g change) e)

  -- ---- each of them
  pub step-joins : (s : Step) → m.entry.step ≡ s → is_by_words s ≡ false → Enabled g old m.entry.caller s → Does g old m.entry.caller s m.reply new → StepJoins g p old m ks
  step-joins (step.Build l) e b may d = builds l (command_at g l) m.reply e refl d
  step-joins (step.Link t) e b may d = link t m.reply e may.0 d
  step-joins (step.Queue t) e b may d = queue t m.reply e may d
  step-joins step.Signal e b may d = signal m.reply e d
  step-joins (step.Chip word) e b may d = absurd cc
  step-joins step.Fix e b may d = fix m.reply e d
  step-joins (step.Sweep t) e b may d = absurd cc
  step-joins step.Restart e b may d = restart m.reply e d
  step-joins step.TakeDone e b may d = absurd cc
  step-joins (step.Unlink t) e b may d = unlink t m.reply e may.1 d
  step-joins (step.Free t) e b may d = free t m.reply e may.1 d
  step-joins (step.Act k) e b may d = act k e (slice_get g.acts k) refl d
  step-joins step.ResetBus e b may d = reset-bus e d
  step-joins (step.Sense t) e b may d = sense t m.reply e may.2 d

pub driver-steps-join : DriverStepsJoin
driver-steps-join g p old m ks spare setting of s depths depths_after b j = step-joins g p old m ks spare setting of j depths depths_after m.entry.step refl b s.enabled s.does
