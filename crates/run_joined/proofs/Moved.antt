-- One move of a ticket alone, or none: what is joined stays so, with the bus as it was.
use Rattle.std.proofs.Common.{arith, ◌≡◌, ◌≢◌, ◌⊎◌, inl, inr, ℕ, zero, suc, ◌+◌, ◌-◌, ◌<◌, ◌≤◌, ◌==◌, nat_lt, nat_eq, Bool, true, false, cond, List, [], ◌∷◌, length, slice_index_or, Option, Some, None, refl, sym, ap, subst, ◌∙◌}
use Rattle.std.specs.Prelude.{◌||◌, ◌&&◌, not, filter}
use Rattle.std.proofs.lemmas.Bool.Decides.{nat_tests}
use Rattle.std.proofs.lemmas.Option.{get_or_from_slice_get}
use Rattle.rig_types.specs.declared.rig.Unit.{Unit as RigUnit}
use Rattle.rig_types.specs.declared.step.Step.{Step}
use Rattle.unit_law.specs.Log.{Tally, View, with_at, tally}
use Rattle.unit_law.specs.Report.{TicketHistory}
use Rattle.unit_law.specs.declared.entry.LogEntry.{LogEntry}
use Rattle.logs_have_room.specs.Room.{entries, total}
use Rattle.target_law.specs.Calls.{is_free}
use Rattle.target_law.specs.Devices.{room_at}
use Rattle.target_law.specs.Target.{LogicalUnit, Target, unit_at}
use Rattle.bus_law.specs.Bus.{BusState, device_at}
use Rattle.desk_law.specs.declared.stage.Stage.{Stage}
use Rattle.desk_law.specs.declared.stage.Stage.TheVariants as stage
use Rattle.desk_law.specs.declared.ticket.Ticket.{Ticket as DeskTicket}
use Rattle.desk_law.specs.Desk.{DeskState, ticket, no_ticket, no_unit, is_freed, is_of_unit, lives, unit}
use Rattle.ticket_fate.specs.Tickets.{Plan, unit_of, Life, Unbuilt, Built, Linked, AtRogue, Freed, is_live, Ticket, view_for}
use Rattle.ticket_fate.specs.Linked.{IsPlan, log_in, log_of as fate_log}
use Rattle.ticket_fate.specs.Moves as move
use Rattle.ticket_fate.specs.Moves.{Moves, target_of}
use Rattle.ticket_fate.specs.Histories as moved
use Rattle.ticket_fate.specs.Histories.{Run, none, more, progress_of, count_if}
use Rattle.ticket_fate.specs.Kept.{AllKept}
use Rattle.ticket_fate.specs.Laws.{Reached}
use Rattle.ticket_fate.proofs.Reached.{all-kept}
use Rattle.ticket_link.specs.Tags.{IsBuild, TakesFreeTag}
use Rattle.ticket_link.proofs.Tags.{apart-kept}
use Rattle.ticket_room.specs.Rooms.{AreBelow, live_count, lives_at, HasSpare, clears_in}
use Rattle.ticket_room.proofs.Moves.{logs-stay-within}
use Rattle.bus_events.specs.Targets.{targets}
use Rattle.bus_events.specs.TicketLaws.{AreJoined}
use Rattle.bus_events.specs.Rooms.{AreReserved}
use Rattle.bus_events.specs.BusResets.{HasPlaces, LiveWithinDepth, history_on}
use Rattle.world_law.specs.World.{BenchSetting, World, log_of, log_by}
use Rattle.world_law.specs.Runs.{Moment}
use Rattle.run_law.specs.Changes.{Change, marks_by, resets_bus_by, marks, resets_bus, resets_device}
use Rattle.run_law.specs.History.{tally_in, is_live as lives_in, is_under_way, noted}
use Rattle.word_owners.specs.FreePlaces.{HasDepths}
use Rattle.run_joined.specs.DeskLives.{stage_of, IsStage, IsCounted, IsKept, DeskJoined, StepsTo}
use Rattle.run_joined.specs.Joined.{IsDeskOf, IsJoined, StepJoins}
use Rattle.run_joined.specs.Matching.{IsSilent, SaysNothing}
use Rattle.run_joined.proofs.Rigs.{SameRig, as-made, desk-stays}
use Rattle.run_joined.proofs.Matching.{silent-move, silent-change}

-- ---- how many tickets of a unit live
total-front : (f : ℕ → ℕ) (n : ℕ) → total f (suc n) ≡ f 0 + total (λ i. f (suc i)) n
total-front f zero = omega arith
total-front f (suc n) = let r = total-front f n in omega (arith, r)

total-same : (f h : ℕ → ℕ) (n : ℕ) → ((i : ℕ) → i < n → f i ≡ h i) → total f n ≡ total h n
total-same f h zero e = refl
total-same f h (suc n) e = let r = total-same f h n (λ i l. e i (omega (arith, l))) in let k = e n (omega arith) in omega (arith, r, k)

kept-length : (b : Bool) (x : DeskTicket) (xs : List DeskTicket) → length (cond b (x ∷ xs) xs) ≡ count_if b 1 + length xs
kept-length true x xs = omega arith
kept-length false x xs = omega arith

passing : (P : DeskTicket → Bool) (xs : List DeskTicket) → total (λ i. count_if (P (slice_index_or xs i no_ticket)) 1) (length xs) ≡ length (filter P xs)
passing P [] = refl
passing P (x ∷ xs) =
    let r = passing P xs in
    let f = total-front (λ i. count_if (P (slice_index_or (x ∷ xs) i no_ticket)) 1) (length xs) in
    let k = kept-length (P x) x (filter P xs) in
    omega (arith, r, f, k)

-- ---- whether a ticket lives, by its life
abbrev alive_in : Option Stage → Bool
alive_in None = false
alive_in (Some s) = not (is_freed s)

stage-lives : (l : Life) → alive_in (stage_of l) ≡ is_live l
stage-lives Unbuilt = refl
stage-lives l = refl

living : (l : Life) (s : Stage) → IsStage l s → not (is_freed s) ≡ is_live l
living AtRogue s (inl e) = ap (λ z. not (is_freed z)) e
living AtRogue s (inr e) = ap (λ z. not (is_freed z)) e
living l s e = ap alive_in (sym e) ∙ stage-lives l

some-tries : (n : ℕ) → 0 < n → nat_lt 0 n ≡ true
some-tries n l = grind (arith, nat_tests)

counted-way : (l : Life) (n : ℕ) → IsCounted (progress_of l) n → is_live l && nat_lt 0 n ≡ moved.is_under_way (progress_of l)
counted-way Unbuilt n c = refl
counted-way Built n c = ap (nat_lt 0) c
counted-way Linked n c = ap (nat_lt 0) c
counted-way (Freed o) n c = refl
counted-way l n c = some-tries n c

not-unbuilt : (l : Life) (s : Stage) → IsStage l s → l ≡ Unbuilt → ⊥
not-unbuilt l s e u = let z : None ≡ Some s = subst (λ (a : Life). IsStage a s) u e in absurd cc

past-end : (ks : List DeskTicket) (t : ℕ) → length ks ≤ t → slice_index_or ks t no_ticket ≡ no_ticket
past-end [] t l = refl
past-end (k ∷ ks) zero l = absurd (omega (arith, l))
past-end (k ∷ ks) (suc t) l = past-end ks t (omega (arith, l))

pub below-or : (x n : ℕ) → (x < n) ⊎ (n ≤ x)
below-or x n = by (nat_lt x n) refl
  where
    by : (b : Bool) → nat_lt x n ≡ b → (x < n) ⊎ (n ≤ x)
    by true e = inl (grind (arith, nat_tests))
    by false e = inr (grind (arith, nat_tests))

module _ (p : Plan) (d : DeskState) (ks : ℕ → Ticket) (j : DeskJoined p d ks) where
  pub lives-so : (x : ℕ) → lives (ticket d x) ≡ is_live (ks x).life
  lives-so x = by (below-or x (length d.tickets))
    where
      by : (x < length d.tickets) ⊎ (length d.tickets ≤ x) → lives (ticket d x) ≡ is_live (ks x).life
      by (inl l) = living (ks x).life (ticket d x).stage (j.each x l).stage_is
      by (inr l) = ap lives (past-end d.tickets x l) ∙ ap is_live (sym (j.unbuilt x l))

  pub way-so : (x : ℕ) → lives (ticket d x) && nat_lt 0 (ticket d x).tries ≡ moved.is_under_way (progress_of (ks x).life)
  way-so x = by (below-or x (length d.tickets))
    where
      by : (x < length d.tickets) ⊎ (length d.tickets ≤ x) → lives (ticket d x) && nat_lt 0 (ticket d x).tries ≡ moved.is_under_way (progress_of (ks x).life)
      by (inl l) =
          let h = j.each x l in
          ap (λ z. z && nat_lt 0 (ticket d x).tries) (lives-so x) ∙ ap (λ n. is_live (ks x).life && nat_lt 0 n) h.tries_are ∙ counted-way (ks x).life (ks x).tries h.counted_is
      by (inr l) = ap (λ (z : DeskTicket). lives z && nat_lt 0 z.tries) (past-end d.tickets x l) ∙ ap (λ z. moved.is_under_way (progress_of z)) (sym (j.unbuilt x l))

  -- so many tickets of a unit live
  pub live-so : (n : ℕ) → live_count p n ks (length d.tickets) ≡ length (filter (is_of_unit n) d.tickets)
  live-so n =
      total-same (λ x. count_if (lives_at p n ks x) 1) (λ x. count_if (is_of_unit n (ticket d x)) 1) (length d.tickets)
      (λ x l.
      ap (λ z. count_if (z && (unit_of p x == n)) 1) (sym (lives-so x))
      ∙ ap (λ u. count_if (lives (ticket d x) && (u == n)) 1) (sym (j.each x l).unit_is))
      ∙ passing (is_of_unit n) d.tickets

  -- no unit has more live tickets than its depth
  pub within-depth : HasDepths d → (n : ℕ) → n < length d.units → (unit d n).depth ≡ (p.units n).depth → LiveWithinDepth p n (length d.tickets) ks
  within-depth h n l e = let k = h.depth n l in omega (arith, k, live-so n, e)

  -- the same tickets on another desk
  pub desk-with : (e : DeskState) → e.tickets ≡ d.tickets → DeskJoined p e ks
  desk-with e q = record {
    unbuilt = λ x l. j.unbuilt x (omega (arith, l, ap length q));
    each = λ t l. subst (λ (k : DeskTicket). IsKept p t k (ks t)) (sym (ap (λ z. slice_index_or z t no_ticket) q)) (j.each t (omega (arith, l, ap length q)));
  }

  pub not-new : (x : ℕ) → x < length d.tickets → (ks x).life ≡ Unbuilt → ⊥
  not-new x l = not-unbuilt (ks x).life (ticket d x).stage (j.each x l).stage_is

-- ---- the same targets on another bus
pub rejoined : (p : Plan) (units : List RigUnit) (b c : BusState) (ks : ℕ → Ticket) → targets c ≡ targets b → c.connected ≡ b.connected → AreJoined p units b ks → AreJoined p units c ks
rejoined p units b c ks e f j = record {
  reached = subst (Reached p (length units) ks) (sym e) j.reached;
  rig = j.rig;
  apart = j.apart;
  connected = record {
    connected = λ id q. ap (λ (t : ℕ → Target). is_free (t id).link) e ∙ j.connected.connected id (sym f ∙ q);
    others = λ id q. ap (λ (t : ℕ → Target). is_free (t id).link) e ∙ j.connected.others id (λ z. q (f ∙ z));
  };
  whole = λ i lun u h. j.whole i lun u (sym (ap (λ (t : ℕ → Target). unit_at (t i).units lun) e) ∙ h);
}

-- ---- what a log says before and after
pub log-same : (old new : World) (u : ℕ) → targets new.bus ≡ targets old.bus → new.desk.units ≡ old.desk.units → log_of new u ≡ log_of old u
log-same old new u e f =
    ap (λ (t : ℕ → Target). log_by (unit_at (t (unit new.desk u).target).units (unit new.desk u).lun)) e
    ∙ ap (λ (us : List RigUnit). log_by (unit_at (targets old.bus (slice_index_or us u no_unit).target).units (slice_index_or us u no_unit).lun)) f

-- a change that says nothing, since it leaves the targets, marks none and resets nothing
pub no-word : (g : BenchSetting) (u x : ℕ) (old : World) (m : Moment) → targets m.after.bus ≡ targets old.bus → m.after.desk.units ≡ old.desk.units → marks g x (record { before = old; moment = m }) ≡ false
    → resets_bus g (record { before = old; moment = m }) ≡ false → SaysNothing g u x (record { before = old; moment = m })
no-word g u x old m e f unmarked reset = record { tally = ap (tally x) (log-same old m.after u e f); unmarked = unmarked; no_bus_reset = reset }

to-desk : (p : Plan) (x : ℕ) (ks : ℕ → Ticket) (d e : DeskState) → e ≡ d → StepsTo p x ks d → StepsTo p x ks e
to-desk p x ks d e q s = subst (StepsTo p x ks) (sym q) s

module _ (g : BenchSetting) (p : Plan) (old : World) (m : Moment) (ks : ℕ → Ticket) (spare : ℕ → ℕ) (j : IsJoined g p old ks spare) where
  abbrev pub count : ℕ
  count = length g.units

  abbrev pub ts : ℕ → Target
  ts = targets old.bus

  abbrev pub built : ℕ
  built = length old.desk.tickets

  pub plan : IsPlan p count
  plan = j.tickets.reached.plan

  pub kept : AllKept p count ks ts
  kept = all-kept p count ks ts j.tickets.reached

  pub below : AreBelow built ks
  below = j.desk.unbuilt

  pub own-unit : (x : ℕ) → (u : LogicalUnit) × (unit_at (ts (target_of p x)).units (p.units (unit_of p x)).lun ≡ Some u)
  own-unit x = let u = (kept.each (target_of p x)).units (unit_of p x) (plan.known x) refl in (u.0, u.1)

  -- after one move, with the bus as it was
  pub moved-on : (ns : ℕ → Ticket) (a : Moves p count ks ts ns ts) → TakesFreeTag a → AreJoined p g.units old.bus ns
  moved-on ns a free =
      let r = j.tickets.reached in
      record {
        reached = record { plan = r.plan; from = (r.from.0, r.from.1, r.from.2, more r.from.3 a) };
        rig = j.tickets.rig;
        apart = apart-kept p count plan ks ts kept ns ts a free j.tickets.apart;
        connected = j.tickets.connected;
        whole = j.tickets.whole;
      }

  pub room-on : (ns : ℕ → Ticket) (a : Moves p count ks ts ns ts) → (IsBuild a → ⊥) → ((n : ℕ) → clears_in n a ≡ 0) → AreReserved p g.units built old.bus ns spare
  room-on ns a not-build clears n less u there =
      let room = room_at (device_at old.bus (p.units n).target) (p.units n).lun in
      let z : HasSpare p n built ks u.log room (spare n + clears_in n a) = let s = j.reserved n less u there in omega (arith, s, clears n) in
      logs-stay-within p count ks ts ns ts j.tickets.reached a not-build built n room (spare n) u u below less there there z

  -- what a change and a list of moves to a bus say alike
  abbrev pub Notes : (ℕ → Ticket) → (ℕ → Target) → Type 0
  Notes ns us = (r : Run p count ks ts ns us) × ((x : ℕ) (h : TicketHistory) → noted g (unit_of p x) x h (record { before = old; moment = m }) ≡ history_on x r h)

  pub joined-by : (ns : ℕ → Ticket) (more_spare : ℕ → ℕ) → Notes ns (targets m.after.bus) → IsJoined g p m.after ns more_spare → StepJoins g p old m ks
  joined-by ns more_spare n h = record { tickets = ns; spare = more_spare; moves = n.0; joined = h; notes = n.1 }

  -- the world after it has the same bus
  stays-on : (ns : ℕ → Ticket) → m.after.bus ≡ old.bus → length m.after.desk.tickets ≡ built → DeskJoined p m.after.desk ns → SameRig old.desk m.after.desk → AreJoined p g.units old.bus ns → AreReserved p g.units built old.bus ns spare
      → IsJoined g p m.after ns spare
  stays-on ns e l d rig a r = record {
    tickets = subst (λ (b : BusState). AreJoined p g.units b ns) (sym e) a;
    desk = d;
    rig = desk-stays g old.desk m.after.desk rig j.rig;
    places = subst (HasPlaces p g.units) (sym e) j.places;
    reserved = subst (λ n. AreReserved p g.units n m.after.bus ns spare) (sym l) (subst (λ (b : BusState). AreReserved p g.units built b ns spare) (sym e) r);
    most = j.most;
  }

  abbrev pub IsQuiet : Type 0
  IsQuiet = (x : ℕ) → SaysNothing g (unit_of p x) x (record { before = old; moment = m })

  pub by-move : (ns : ℕ → Ticket) (a : Moves p count ks ts ns ts) → TakesFreeTag a → (IsBuild a → ⊥) → ((n : ℕ) → clears_in n a ≡ 0) → m.after.bus ≡ old.bus → length m.after.desk.tickets ≡ built → DeskJoined p m.after.desk ns
      → SameRig old.desk m.after.desk → ((x : ℕ) (h : TicketHistory) → noted g (unit_of p x) x h (record { before = old; moment = m }) ≡ moved.noted x a h) → StepJoins g p old m ks
  by-move ns a free not-build clears e l d rig notes =
      joined-by ns spare (subst (Notes ns) (ap targets (sym e)) (more none a, notes)) (stays-on ns e l d rig (moved-on ns a free) (room-on ns a not-build clears))

  -- a step of the ticket's own
  pub by-ticket : (x : ℕ) → x < built → StepsTo p x ks m.after.desk → m.after.bus ≡ old.bus → length m.after.desk.tickets ≡ built → SameRig old.desk m.after.desk → IsQuiet → StepJoins g p old m ks
  by-ticket x low s e l rig quiet =
      let u = own-unit x in
      let v = view_for p x u.0.log in
      let a : Moves p count ks ts (with_at ks x (s.to v)) ts = move.alone x (s.to v) u.0 u.1 (s.step v) in
      by-move (with_at ks x (s.to v)) a (λ z. absurd (not-new p old.desk ks j.desk x low z)) (not-new p old.desk ks j.desk x low) (λ n. refl) e l (s.joined v) rig
      (λ y h. silent-change g (unit_of p y) y (record { before = old; moment = m }) h (quiet y) ∙ sym (silent-move p count ks ts (with_at ks x (s.to v)) ts y a h (record { tally = refl; unmarked = refl; no_bus_reset = refl })))

  -- no move
  pub by-nothing : m.after.bus ≡ old.bus → length m.after.desk.tickets ≡ built → DeskJoined p m.after.desk ks → SameRig old.desk m.after.desk → IsQuiet → StepJoins g p old m ks
  by-nothing e l d rig quiet =
      joined-by ks spare (subst (Notes ks) (ap targets (sym e)) (none, λ x h. silent-change g (unit_of p x) x (record { before = old; moment = m }) h (quiet x))) (stays-on ks e l d rig j.tickets j.reserved)

  -- a move of one ticket says nothing
  abbrev pub own_move : (x : ℕ) (k : Ticket) (u : LogicalUnit) → unit_at (ts (target_of p x)).units (p.units (unit_of p x)).lun ≡ Some u → move.TicketMove p x (view_for p x u.log) (ks x) k → Moves p count ks ts (with_at ks x k) ts
  own_move x k u there a = move.alone x k u there a

  pub says-no-more : (x : ℕ) (k : Ticket) (u : LogicalUnit) (there : unit_at (ts (target_of p x)).units (p.units (unit_of p x)).lun ≡ Some u) (a : move.TicketMove p x (view_for p x u.log) (ks x) k) (y : ℕ) (h : TicketHistory)
      → moved.noted y (own_move x k u there a) h ≡ h
  says-no-more x k u there a y h = silent-move p count ks ts (with_at ks x k) ts y (own_move x k u there a) h (record { tally = refl; unmarked = refl; no_bus_reset = refl })

  pub unit-is : (n : ℕ) → n < count → unit old.desk n ≡ p.units n
  unit-is n l =
      ap (λ (us : List RigUnit). slice_index_or us n no_unit) j.rig.units ∙ get_or_from_slice_get g.units n (p.units n) no_unit (j.tickets.rig n l)

  -- the log of a ticket's unit, in the world and among the targets
  by-log : (o : Option LogicalUnit) → log_by o ≡ log_in o
  by-log None = refl
  by-log (Some u) = refl

  pub world-log : (w : World) → w.desk.units ≡ g.units → (x : ℕ) → log_of w (unit_of p x) ≡ fate_log p (targets w.bus (target_of p x)) x
  world-log w e x =
      let n = unit_of p x in
      let u : unit w.desk n ≡ p.units n =
      ap (λ (us : List RigUnit). slice_index_or us n no_unit) e ∙ get_or_from_slice_get g.units n (p.units n) no_unit (j.tickets.rig n (plan.known x)) in
      ap (λ (r : RigUnit). log_by (unit_at (targets w.bus r.target).units r.lun)) u ∙ by-log (unit_at (targets w.bus (target_of p x)).units (p.units n).lun)

  -- ---- the step by its kind
  abbrev change : Change
  change = record { before = old; moment = m }

  abbrev new : World
  new = m.after

  -- a step that is no act and no reset of the bus says nothing of marks and resets
  pub quiet : (s : Step) → m.entry.step ≡ s → ((x : ℕ) → marks_by g x change s ≡ false) → resets_bus_by g change s ≡ false → targets new.bus ≡ targets old.bus → new.desk.units ≡ old.desk.units → IsQuiet
  quiet s e a b t u x = no-word g (unit_of p x) x old m t u (ap (marks_by g x change) e ∙ a x) (ap (resets_bus_by g change) e ∙ b)

  -- ---- a step of one ticket, with the rest of the world as the step leaves it
  pub one-ticket : (s : Step) → m.entry.step ≡ s → ((x : ℕ) → marks_by g x change s ≡ false) → resets_bus_by g change s ≡ false → (t : ℕ) → t < length old.desk.tickets → (made : World) → new ≡ made → StepsTo p t ks made.desk
      → made.bus ≡ old.bus → length made.desk.tickets ≡ length old.desk.tickets → SameRig old.desk made.desk → StepJoins g p old m ks
  one-ticket s e a b t l made w to bus many rig =
      let bus-is : new.bus ≡ old.bus = ap (λ (x : World). x.bus) w ∙ bus in
      let rig-is = as-made old.desk made new w rig in
      by-ticket t l (to-desk p t ks made.desk new.desk (ap (λ (x : World). x.desk) w) to) bus-is (ap (λ (x : World). length x.desk.tickets) w ∙ many) rig-is
      (quiet s e a b (ap targets bus-is) rig-is.units)

  -- the same, with the tickets after it
  pub one-ticket-to : (s : Step) → m.entry.step ≡ s → ((x : ℕ) → marks_by g x change s ≡ false) → resets_bus_by g change s ≡ false → (t : ℕ) → t < length old.desk.tickets → (made : World) → new ≡ made → (to : StepsTo p t ks made.desk)
      → made.bus ≡ old.bus → length made.desk.tickets ≡ length old.desk.tickets → SameRig old.desk made.desk → (x : StepJoins g p old m ks) × (v : View) × (x.tickets ≡ with_at ks t (to.to v))
  unfolding by-move joined-by
  one-ticket-to s e a b t l made w to bus many rig =
      let bus-is : new.bus ≡ old.bus = ap (λ (x : World). x.bus) w ∙ bus in
      let rig-is = as-made old.desk made new w rig in
      let silent = quiet s e a b (ap targets bus-is) rig-is.units in
      let u = own-unit t in
      let v = view_for p t u.0.log in
      let ns = with_at ks t (to.to v) in
      let one : Moves p count ks ts ns ts = move.alone t (to.to v) u.0 u.1 (to.step v) in
      let none-new = not-new p old.desk ks j.desk t l in (
        by-move ns one (λ z. absurd (none-new z)) none-new (λ n. refl) bus-is (ap (λ (x : World). length x.desk.tickets) w ∙ many) (subst (λ (d : DeskState). DeskJoined p d ns) (sym (ap (λ (x : World). x.desk) w)) (to.joined v)) rig-is
            (λ y h. silent-change g (unit_of p y) y (record { before = old; moment = m }) h (silent y) ∙ sym (silent-move p count ks ts ns ts y one h (record { tally = refl; unmarked = refl; no_bus_reset = refl }))),
        v,
        refl,
      )

  -- ---- a step that leaves tickets and bus
  pub still : (s : Step) → m.entry.step ≡ s → ((x : ℕ) → marks_by g x change s ≡ false) → resets_bus_by g change s ≡ false → new.bus ≡ old.bus → new.desk.tickets ≡ old.desk.tickets → SameRig old.desk new.desk → StepJoins g p old m ks
  still s e a b bus tickets rig =
      by-nothing bus (ap length tickets) (desk-with p old.desk ks j.desk new.desk tickets) rig (quiet s e a b (ap targets bus) rig.units)
