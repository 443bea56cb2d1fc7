-- A step of the chip, each call of which finds what it asks of the tickets, is joined.
use Rattle.std.proofs.Common.{arith, ◌≡◌, ◌⊎◌, inl, inr, ℕ, ◌+◌, ◌-◌, ◌<◌, ◌≤◌, nat_lt, Bool, true, false, List, length, Option, Some, refl, sym, ap, subst, ◌∙◌}
use Rattle.std.specs.Prelude.{◌==◌, ◌||◌, ◌&&◌, not}
use Rattle.std.proofs.lemmas.Bool.Decides.{nat_tests}
use Rattle.rig_types.specs.declared.rig.Unit.{Unit as RigUnit}
use Rattle.rig_types.specs.declared.step.Step.TheVariants as step
use Rattle.unit_law.specs.Log.{Tally, View, with_at, tally}
use Rattle.unit_law.specs.Report.{TicketHistory}
use Rattle.logs_have_room.specs.Room.{entries}
use Rattle.chip_step.specs.Chip.{state}
use Rattle.chip_step.specs.Event.{Event}
use Rattle.chip_step.specs.Step.{ChipStep}
use Rattle.chip_rows.proofs.RelatedBuses.{steps_show}
use Rattle.target_law.specs.declared.nexus.Nexus.{Nexus}
use Rattle.target_law.specs.Devices.{room_at}
use Rattle.target_law.specs.Target.{LogicalUnit, Target, unit_at}
use Rattle.bus_law.specs.Bus.{BusState, device_at}
use Rattle.bus_law.specs.Moves.{moves}
use Rattle.desk_law.specs.Desk.{DeskState, ticket, lives, unit}
use Rattle.ticket_fate.specs.Tickets.{Plan, unit_of, Unbuilt, is_live, Ticket, view_for}
use Rattle.ticket_fate.specs.Linked as linked
use Rattle.ticket_fate.specs.Moves as move
use Rattle.ticket_fate.specs.Moves.{Moves, TicketMove, target_of, pointed_ticket}
use Rattle.ticket_fate.specs.Histories as moved
use Rattle.ticket_fate.specs.Histories.{Run, none, more, progress_of, marks_in, is_bus, is_device, resets_by}
use Rattle.ticket_fate.specs.Kept.{AllKept}
use Rattle.ticket_fate.specs.Laws.{Reached}
use Rattle.ticket_fate.proofs.Reached.{all-kept}
use Rattle.ticket_fate.proofs.Recorded.{TallyStep, stepped}
use Rattle.ticket_link.specs.CallMoves.{IsCall, IsDeviceReset}
use Rattle.ticket_link.specs.Tags.{IsBuild, TakesFreeTag}
use Rattle.ticket_link.proofs.Tags.{apart-kept}
use Rattle.ticket_room.specs.Rooms.{AreBelow, HasSpare, clears_in}
use Rattle.ticket_room.proofs.Moves.{logs-stay-within}
use Rattle.bus_events.specs.Targets.{targets}
use Rattle.bus_events.specs.Tickets.{resets_device, tickets_after}
use Rattle.bus_events.specs.Needs.{HasRoomFor}
use Rattle.bus_events.specs.TicketLaws.{AreJoined, Follows, NeedingCall}
use Rattle.bus_events.specs.Rooms.{AreReserved, clears_at}
use Rattle.bus_events.specs.BusResets.{HasPlaces, history_on}
use Rattle.bus_events.proofs.CallsMove.{calls-move, calls-stay-joined}
use Rattle.bus_events.proofs.CallRooms.{calls-have-room}
use Rattle.bus_events.proofs.KeptRooms.{rooms, rooms-stay, devices-stay}
use Rattle.world_law.specs.World.{BenchSetting, World, live}
use Rattle.world_law.specs.ChipSteps.{RunsChip}
use Rattle.world_law.specs.Runs.{Moment, Steps}
use Rattle.run_law.specs.Changes.{Change, marks_by, resets_bus_by, marks, resets_bus, resets_device as device_reset_in}
use Rattle.run_law.specs.History.{tally_in, is_live as lives_in, is_under_way, noted}
use Rattle.run_joined.specs.DeskLives.{IsChipStep, LeavesDesk, DeskJoined}
use Rattle.run_joined.specs.Joined.{IsDeskOf, IsJoined, StepJoins}
use Rattle.run_joined.specs.ChipCalls.{TicketBus, Calls, OwnMoves, steps, writes, ChipMoves, caused_by, ChipStepsJoin}
use Rattle.run_joined.specs.ChipCalls as own_moves
use Rattle.run_joined.proofs.ChipSteps.{chip-leaves-desk}
use Rattle.run_joined.proofs.Rigs.{rig-stays, desk-stays}
use Rattle.run_joined.proofs.Matching.{by_change, by_move, changes-move, history-of, or-none, count-none}
use Rattle.run_joined.proofs.Moved.{lives-so, way-so, desk-with, world-log, unit-is, plan}

-- ---- what a move says of a ticket that it doesn't mark: its Clears, where it is under way
abbrev with_clears : TicketHistory → ℕ → TicketHistory
with_clears h n = record { marked = h.marked; clears = h.clears + n; bus_reset = h.bus_reset; outside = h.outside; uncaused_clears = h.uncaused_clears }

abbrev cleared : (under : Bool) (before after : Tally) → TicketHistory → TicketHistory
cleared under before after h = with_clears h (moved.count_if under (after.clears - before.clears))

none-more : (b : Bool) (before after : ℕ) → (b ≡ true → after ≡ before) → moved.count_if b (after - before) ≡ 0
none-more true before after e = omega (arith, e refl)
none-more false before after e = refl

not-true : (b : Bool) → not b ≡ true → b ≡ false
not-true true z = absurd cc
not-true false z = refl

-- where each Clear has its cause, and an entry comes only of a ticket that lives
told-by : (device live_now under : Bool) (before after : Tally) (h : TicketHistory) → (device ≡ false → after.clears ≡ before.clears) → (live_now ≡ false → entries after ≡ entries before)
    → by_move false false device live_now under before after h ≡ cleared under before after h
told-by device live_now under before after h c e =
    history-of (by_move false false device live_now under before after h) (cleared under before after h) (or-none h.marked) refl (or-none h.bus_reset)
    (omega (arith, none-more (not live_now) (entries before) (entries after) (λ z. e (not-true live_now z))))
    (omega (arith, none-more (not (false || device)) before.clears after.clears (λ z. c (not-true device z))))

-- one move after another
count-on : (b : Bool) (x y z : ℕ) → x ≤ y → y ≤ z → moved.count_if b (y - x) + moved.count_if b (z - y) ≡ moved.count_if b (z - x)
count-on true x y z l m = omega (arith, l, m)
count-on false x y z l m = refl

cleared-on : (under : Bool) (first before after : Tally) (h : TicketHistory) → first.clears ≤ before.clears → before.clears ≤ after.clears
    → cleared under before after (cleared under first before h) ≡ cleared under first after h
cleared-on under first before after h l m =
    history-of (cleared under before after (cleared under first before h)) (cleared under first after h) refl (omega (arith, count-on under first.clears before.clears after.clears l m)) refl refl refl

cleared-none : (under : Bool) (k : Tally) (h : TicketHistory) → cleared under k k h ≡ h
cleared-none under k h = history-of (cleared under k k h) h refl (omega (arith, none-more under k.clears k.clears (λ z. refl))) refl refl refl

-- ---- moves that mark none, and reset at most the targets of which the run says so
abbrev IsCalm : {p : Plan} {count : ℕ} {ks : ℕ → Ticket} {ts : ℕ → Target} {ns : ℕ → Ticket} {us : ℕ → Target} → (caused : ℕ → Bool) → Moves p count ks ts ns us → Type 0
IsCalm caused (move.alone x k u there m) = IsChipStep m
IsCalm caused (move.marks x can) = ⊥
IsCalm caused (move.resets_idle i b idle can) = (b ≡ linked.ByDevice) × (caused i ≡ true)
IsCalm caused (move.resets_work i b c u w plain there can) = (b ≡ linked.ByDevice) × (caused i ≡ true)
IsCalm caused (move.resets_asking i c u w asks there) = ⊥
IsCalm caused m = Unit {0}

call-calm : {p : Plan} {count : ℕ} {ks : ℕ → Ticket} {ts : ℕ → Target} {ns : ℕ → Ticket} {us : ℕ → Target} (caused : ℕ → Bool) (m : Moves p count ks ts ns us) → IsCall m → IsCalm caused m
call-calm caused (move.alone x k u there m) c = absurd c
call-calm caused (move.points x lastp savep e) c = absurd c
call-calm caused (move.marks x can) c = absurd c
call-calm caused (move.resets_idle i b idle can) c = absurd c
call-calm caused (move.resets_work i b c u w plain there can) d = absurd d
call-calm caused (move.resets_asking i c u w asks there) d = absurd d
call-calm caused m c = tt

reset-calm : {p : Plan} {count : ℕ} {ks : ℕ → Ticket} {ts : ℕ → Target} {ns : ℕ → Ticket} {us : ℕ → Target} (caused : ℕ → Bool) (i : ℕ) (m : Moves p count ks ts ns us) → IsDeviceReset i m → caused i ≡ true → IsCalm caused m
reset-calm caused i (move.resets_idle j b idle can) c t = (c.1, ap caused c.0 ∙ t)
reset-calm caused i (move.resets_work j b d u w plain there can) c t = (c.1, ap caused c.0 ∙ t)
reset-calm caused i m c t = absurd c

calm-leaves : {p : Plan} {count : ℕ} {ks : ℕ → Ticket} {ts : ℕ → Target} {ns : ℕ → Ticket} {us : ℕ → Target} (caused : ℕ → Bool) (m : Moves p count ks ts ns us) → IsCalm caused m → LeavesDesk m
calm-leaves caused (move.alone x k u there m) c = c
calm-leaves caused m c = tt

calm-unmarked : {p : Plan} {count : ℕ} {ks : ℕ → Ticket} {ts : ℕ → Target} {ns : ℕ → Ticket} {us : ℕ → Target} (caused : ℕ → Bool) (x : ℕ) (m : Moves p count ks ts ns us) → IsCalm caused m → marks_in x m ≡ false
calm-unmarked caused x (move.marks y can) c = absurd c
calm-unmarked caused x m c = refl

and-no : (b : Bool) → (b && false) ≡ false
and-no true = refl
and-no false = refl

calm-bus : {p : Plan} {count : ℕ} {ks : ℕ → Ticket} {ts : ℕ → Target} {ns : ℕ → Ticket} {us : ℕ → Target} (caused : ℕ → Bool) (i : ℕ) (m : Moves p count ks ts ns us) → IsCalm caused m → resets_by is_bus i m ≡ false
calm-bus caused i (move.resets_idle j b idle can) c = ap (λ z. (i == j) && is_bus z) c.0 ∙ and-no (i == j)
calm-bus caused i (move.resets_work j b d u w plain there can) c = ap (λ z. (i == j) && is_bus z) c.0 ∙ and-no (i == j)
calm-bus caused i (move.resets_asking j d u w asks there) c = absurd c
calm-bus caused i m c = refl

-- a target of which the run doesn't say so isn't reset
same-number : (a c : ℕ) → (a == c) ≡ true → a ≡ c
same-number a c e = grind (arith, nat_tests)

unless-caused : (caused : ℕ → Bool) (i j : ℕ) (d : Bool) → caused j ≡ true → caused i ≡ false → (i == j) && d ≡ false
unless-caused caused i j d t f = by (i == j) refl
  where
    by : (b : Bool) → (i == j) ≡ b → (i == j) && d ≡ false
    by true e = let z : false ≡ true = sym f ∙ ap caused (same-number i j e) ∙ t in absurd cc
    by false e = ap (λ z. z && d) e

calm-device : {p : Plan} {count : ℕ} {ks : ℕ → Ticket} {ts : ℕ → Target} {ns : ℕ → Ticket} {us : ℕ → Target} (caused : ℕ → Bool) (i : ℕ) (m : Moves p count ks ts ns us) → IsCalm caused m → caused i ≡ false → resets_by is_device i m ≡ false
calm-device caused i (move.resets_idle j b idle can) c f = unless-caused caused i j (is_device b) c.1 f
calm-device caused i (move.resets_work j b d u w plain there can) c f = unless-caused caused i j (is_device b) c.1 f
calm-device caused i (move.resets_asking j d u w asks there) c f = absurd c
calm-device caused i m c f = refl

own-not-new : {p : Plan} {x : ℕ} {v : View} {k j : Ticket} (m : TicketMove p x v k j) → IsChipStep m → k.life ≡ Unbuilt → ⊥
own-not-new (move.selects e a r) c z = let y = sym z ∙ e in absurd cc
own-not-new (move.times_out e a) c z = let y = sym z ∙ e in absurd cc
own-not-new (move.cancels e m) c z = let y = sym z ∙ e in absurd cc
own-not-new (move.ask_selects e) c z = let y = sym z ∙ e in absurd cc
own-not-new (move.selects_rogue e r) c z = let y = sym z ∙ e in absurd cc
own-not-new m c z = c

module _ (p : Plan) (units : List RigUnit) (caused : ℕ → Bool) (d : DeskState) (ks : ℕ → Ticket) (ts : ℕ → Target) where
  abbrev count : ℕ
  count = length units

  -- queued at least once, and not yet reported
  abbrev under_way : ℕ → Bool
  under_way y = lives (ticket d y) && nat_lt 0 (ticket d y).tries

  -- moves so far: of each ticket they say no more than its Clears, where it is under way
  pub record IsSilentTo (ns : ℕ → Ticket) (us : ℕ → Target) : Type 0 where
    pub run : Run p count ks ts ns us
    pub desk : DeskJoined p d ns
    pub notes : (y : ℕ) (h : TicketHistory) → history_on y run h ≡ cleared (under_way y) (moved.tally_in p ts y) (moved.tally_in p us y) h
    pub grows : (y : ℕ) → (moved.tally_in p ts y).clears ≤ (moved.tally_in p us y).clears
    pub clears : (y : ℕ) → caused (target_of p y) ≡ false → (moved.tally_in p us y).clears ≡ (moved.tally_in p ts y).clears
    pub others : (y : ℕ) → lives (ticket d y) ≡ false → entries (moved.tally_in p us y) ≡ entries (moved.tally_in p ts y)

  one-on : (ns : ℕ → Ticket) (us : ℕ → Target) (os : ℕ → Ticket) (vs : ℕ → Target) → IsSilentTo ns us → Reached p count ns us → (m : Moves p count ns us os vs) → IsCalm caused m → IsSilentTo os vs
  one-on ns us os vs s r m c =
      let kept = all-kept p count ns us r in
      let quiet : (y : ℕ) → TallyStep (is_live (ns y).life) (resets_by is_bus (target_of p y) m || resets_by is_device (target_of p y) m) (moved.tally_in p us y) (moved.tally_in p vs y) =
      λ y. stepped p count r.plan ns us kept y os vs m in
      let unless : (y : ℕ) → resets_by is_device (target_of p y) m ≡ false → (moved.tally_in p vs y).clears ≡ (moved.tally_in p us y).clears =
      λ y f. (quiet y).same (ap (λ z. z || resets_by is_device (target_of p y) m) (calm-bus caused (target_of p y) m c) ∙ f) in
      record {
        run = more s.run m;
        desk = chip-leaves-desk p count ns us os vs d r m (calm-leaves caused m c) s.desk;
        notes = λ y h.
            let before = moved.tally_in p us y in
            let after = moved.tally_in p vs y in
            let k = history_on y s.run h in
            let live_now = is_live (ns y).life in
            let under = moved.is_under_way (progress_of (ns y).life) in
            let device = resets_by is_device (target_of p y) m in
            ap (λ (z : Bool). by_move z (resets_by is_bus (target_of p y) m) device live_now under before after k) (calm-unmarked caused y m c)
            ∙ ap (λ (z : Bool). by_move false z device live_now under before after k) (calm-bus caused (target_of p y) m c)
            ∙ told-by device live_now under before after k (unless y) (quiet y).entries
            ∙ ap (λ (z : Bool). cleared z before after k) (sym (way-so p d ns s.desk y))
            ∙ ap (cleared (under_way y) before after) (s.notes y h)
            ∙ cleared-on (under_way y) (moved.tally_in p ts y) before after h (s.grows y) (quiet y).grows;
        grows = λ y. omega (arith, s.grows y, (quiet y).grows);
        clears = λ y z. unless y (calm-device caused (target_of p y) m c z) ∙ s.clears y z;
        others = λ y z. (quiet y).entries (sym (lives-so p d ns s.desk y) ∙ z) ∙ s.others y z;
      }

-- ---- calls of the bus
module _ (g : BenchSetting) (p : Plan) (caused : ℕ → Bool) (old : World) (ks : ℕ → Ticket) (spare : ℕ → ℕ) (j : IsJoined g p old ks spare) where
  abbrev built : ℕ
  built = length old.desk.tickets

  abbrev Silent : (ℕ → Ticket) → (ℕ → Target) → Type 0
  Silent ns us = IsSilentTo p g.units caused old.desk ks (targets old.bus) ns us

  record Along (x : TicketBus) : Type 0 where
    silent : Silent x.tickets (targets x.bus)
    joined : AreJoined p g.units x.bus x.tickets
    reserved : AreReserved p g.units built x.bus x.tickets x.spare
    most : (n : ℕ) → x.spare n ≤ 2
    places : HasPlaces p g.units x.bus

  begins : Along (record { bus = old.bus; tickets = ks; spare = spare })
  begins = record {
    silent = record {
      run = none;
      desk = j.desk;
      notes = λ y h. sym (cleared-none (lives (ticket old.desk y) && nat_lt 0 (ticket old.desk y).tries) (moved.tally_in p (targets old.bus) y) h);
      grows = λ y. omega arith;
      clears = λ y z. refl;
      others = λ y z. refl;
    };
    joined = j.tickets;
    reserved = j.reserved;
    most = j.most;
    places = j.places;
  }

  one-call : (live_at : ℕ → Nexus → Option ℕ) (x : TicketBus) (e : Event) (y : TicketBus) → Along x → Calls p g.units live_at caused x e y → Along y
  one-call live_at x e y a c = subst (λ (ns : ℕ → Ticket). Along (record { bus = y.bus; tickets = ns; spare = y.spare })) (sym c.made) there
    where
      roomy : AreReserved p g.units built x.bus x.tickets (λ n. y.spare n + clears_at (resets_device x.bus e) x.bus.connected (p.units n).target)
      roomy n less u h = let s = a.reserved n less u h in omega (arith, s, c.room n)

      room : HasRoomFor x.bus e × AreReserved p g.units built y.bus (tickets_after p x.bus e y.bus x.tickets) y.spare
      room = calls-have-room p g.units live_at x.bus e y.bus x.tickets built y.spare a.joined c.call c.needs a.silent.desk.unbuilt roomy

      call : NeedingCall p g.units live_at x.bus e y.bus x.tickets
      call = record { joined = a.joined; call = c.call; needs = c.needs; room = room.0 }

      silent-on : (b : Bool) → resets_device x.bus e ≡ b → Follows b x.bus.connected p (length g.units) x.tickets (targets x.bus) (tickets_after p x.bus e y.bus x.tickets) (targets y.bus)
          → Silent (tickets_after p x.bus e y.bus x.tickets) (targets y.bus)
      silent-on false r (inl q) =
          subst (Silent (tickets_after p x.bus e y.bus x.tickets)) (sym q.1)
          (subst (λ (ms : ℕ → Ticket). Silent ms (targets x.bus)) (sym q.0) a.silent)
      silent-on false r (inr q) =
          one-on p g.units caused old.desk ks (targets old.bus) x.tickets (targets x.bus) (tickets_after p x.bus e y.bus x.tickets) (targets y.bus) a.silent a.joined.reached q.0 (call-calm caused q.0 q.1)
      silent-on true r (i, connected, z) =
          one-on p g.units caused old.desk ks (targets old.bus) x.tickets (targets x.bus) (tickets_after p x.bus e y.bus x.tickets) (targets y.bus) a.silent a.joined.reached z.0
          (reset-calm caused i z.0 z.1 (c.reset i r connected))

      there : Along (record { bus = y.bus; tickets = tickets_after p x.bus e y.bus x.tickets; spare = y.spare })
      there = record {
        silent = silent-on (resets_device x.bus e) refl (calls-move p g.units live_at x.bus e y.bus x.tickets call);
        joined = calls-stay-joined p g.units live_at x.bus e y.bus x.tickets call;
        reserved = room.1;
        most = λ n. let z = a.most n in omega (arith, z, c.room n);
        places = record { rooms = λ i l. ap length (rooms-stay g.units live_at x.bus e y.bus c.call i) ∙ a.places.rooms i (omega (arith, l, devices-stay g.units live_at x.bus e y.bus c.call)); luns = a.places.luns };
      }

  -- ---- the chip's own moves of tickets
  own-calm : (b : BusState) (left : ℕ → ℕ) (ms ns : ℕ → Ticket) → Along (record { bus = b; tickets = ms; spare = left }) → (m : Moves p (length g.units) ms (targets b) ns (targets b)) → IsCalm caused m → TakesFreeTag m → (IsBuild m → ⊥) → ((n : ℕ) → clears_in n m ≡ 0)
      → Along (record { bus = b; tickets = ns; spare = left })
  own-calm b left ms ns a m c free not_build clears =
      let r = a.joined.reached in
      let kept = all-kept p (length g.units) ms (targets b) r in
      record {
        silent = one-on p g.units caused old.desk ks (targets old.bus) ms (targets b) ns (targets b) a.silent r m c;
        joined = record {
          reached = record { plan = r.plan; from = (r.from.0, r.from.1, r.from.2, more r.from.3 m) };
          rig = a.joined.rig;
          apart = apart-kept p (length g.units) r.plan ms (targets b) kept ns (targets b) m free a.joined.apart;
          connected = a.joined.connected;
          whole = a.joined.whole;
        };
        reserved = λ n less u there.
            let room = room_at (device_at b (p.units n).target) (p.units n).lun in
            let z : HasSpare p n built ms u.log room (left n + clears_in n m) = let s = a.reserved n less u there in omega (arith, s, clears n) in
            logs-stay-within p (length g.units) ms (targets b) ns (targets b) r m not_build built n room (left n) u u a.silent.desk.unbuilt less there there z;
        most = a.most;
        places = a.places;
      }

  own-on : (b : BusState) (left : ℕ → ℕ) (ms ns : ℕ → Ticket) → Along (record { bus = b; tickets = ms; spare = left }) → OwnMoves p (targets b) ms ns → Along (record { bus = b; tickets = ns; spare = left })
  own-on b left ms ns a own_moves.none = a
  own-on b left ms ns a (steps {ns = os} r x k u there m c) =
      own-calm b left os (with_at os x k) (own-on b left ms os a r) (move.alone x k u there m) c (λ z. absurd (own-not-new m c z)) (own-not-new m c) (λ n. refl)
  own-on b left ms ns a (writes {ns = os} r x lastp savep e) =
      own-calm b left os (with_at os x (pointed_ticket (os x) lastp savep)) (own-on b left ms os a r) (move.points x lastp savep e) tt tt (λ z. z) (λ n. refl)

-- ---- the step
module _ (g : BenchSetting) (p : Plan) (old : World) (m : Moment) (ks ns : ℕ → Ticket) (spare left : ℕ → ℕ) (word : ℕ) (s : Steps g old m) (e : m.entry.step ≡ step.Chip word) (c : ChipMoves p (caused_by g old m) old word m.reply m.after ks spare ns left) (j : IsJoined g p old ks spare) where
  abbrev new : World
  new = m.after

  abbrev change : Change
  change = record { before = old; moment = m }

  abbrev caused : ℕ → Bool
  caused = caused_by g old m

  units-are : (live_at : ℕ → Nexus → Option ℕ) (x : TicketBus) (event : Event) (y : TicketBus) → Calls p old.desk.units live_at caused x event y → Calls p g.units live_at caused x event y
  units-are live_at x event y k = subst (λ (us : List RigUnit). Calls p us live_at caused x event y) j.rig.units k

  after-calls : Along g p caused old ks spare j (record { bus = new.bus; tickets = c.called; spare = left })
  after-calls =
      (steps_show (λ (x : TicketBus). x.bus) (Along g p caused old ks spare j) (Calls p old.desk.units (live old.desk) caused) (moves old.desk.units (live old.desk))
      (λ x event y a k. (one-call g p caused old ks spare j (live old.desk) x event y a (units-are (live old.desk) x event y k), k.call)) word _ _ _ (begins g p caused old ks spare j) c.calls).0

  after-own : Along g p caused old ks spare j (record { bus = new.bus; tickets = ns; spare = left })
  after-own = own-on g p caused old ks spare j new.bus left c.called ns after-calls c.own

  desk-is : new.desk ≡ old.desk
  desk-is = ap (λ (w : World). w.desk) c.ran.world

  says : (y : ℕ) (h : TicketHistory) → noted g (unit_of p y) y h change ≡ cleared (is_under_way old y) (moved.tally_in p (targets old.bus) y) (moved.tally_in p (targets new.bus) y) h
  says y h =
      let u = unit_of p y in
      let device = device_reset_in g (unit old.desk u).target change in
      let before = tally_in old u y in
      let after = tally_in new u y in
      let under = is_under_way old y in
      let a = after-own.silent in
      let first : before ≡ moved.tally_in p (targets old.bus) y = ap (tally y) (world-log g p old m ks spare j old j.rig.units y) in
      let then_ : after ≡ moved.tally_in p (targets new.bus) y = ap (tally y) (world-log g p old m ks spare j new (ap (λ (d : DeskState). d.units) desk-is ∙ j.rig.units) y) in
      let target : caused (target_of p y) ≡ device =
      ap (λ (x : RigUnit). caused x.target) (sym (unit-is g p old m ks spare j u ((plan g p old m ks spare j).known y))) in
      changes-move (marks g y change) (resets_bus g change) device (lives_in old y) under before after h
      ∙ ap (λ (z : Bool). by_move z (resets_bus g change) device (lives_in old y) under before after h) (ap (marks_by g y change) e)
      ∙ ap (λ (z : Bool). by_move false z device (lives_in old y) under before after h) (ap (resets_bus_by g change) e)
      ∙ told-by device (lives_in old y) under before after h
      (λ z. ap (λ (t : Tally). t.clears) then_ ∙ a.clears y (target ∙ z) ∙ sym (ap (λ (t : Tally). t.clears) first))
      (λ z. ap entries then_ ∙ a.others y z ∙ sym (ap entries first))
      ∙ ap (λ (t : Tally). cleared under t after h) first ∙ ap (λ (t : Tally). cleared under (moved.tally_in p (targets old.bus) y) t h) then_

  joins : (x : StepJoins g p old m ks) × (x.tickets ≡ ns) × (x.spare ≡ left)
  joins =
      let a = after-own in
      let x : StepJoins g p old m ks = record {
        tickets = ns;
        spare = left;
        moves = a.silent.run;
        joined = record {
          tickets = a.joined;
          desk = desk-with p old.desk ns a.silent.desk new.desk (ap (λ (d : DeskState). d.tickets) desk-is);
          rig = subst (IsDeskOf g) (sym desk-is) j.rig;
          places = a.places;
          reserved = subst (λ (d : DeskState). AreReserved p g.units (length d.tickets) new.bus ns left) (sym desk-is) a.reserved;
          most = a.most;
        };
        notes = λ y h. says y h ∙ sym (a.silent.notes y h);
      } in
      (x, refl, refl)

pub chip-steps-join : ChipStepsJoin
chip-steps-join g p old m ks ns spare left word s e c j = joins g p old m ks ns spare left word s e c j
