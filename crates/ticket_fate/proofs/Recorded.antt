-- The history of a ticket is what its record says, after every list of moves.
use Rattle.std.proofs.Common.{◌≡◌, ◌≢◌, ℕ, ◌+◌, ◌-◌, ◌≤◌, Bool, true, false, [], map, refl, ap, arith, sym, ◌∙◌, subst, Some, ◌⊎◌, inl, inr, cond, nat_eq, nat_lt, remove}
use Rattle.std.specs.Prelude.{◌&&◌, ◌||◌, not}
use Rattle.cdb_codec.specs.declared.commands.Cdb.{Cdb}
use Rattle.cdb_codec.specs.Forms.{need_of}
use Rattle.unit_law.specs.Log.{Tally, tally, with_at}
use Rattle.unit_law.specs.Report.{TicketHistory}
use Rattle.unit_law.proofs.Views.{with_at-same, with_at-other, same_or_not, eq-test, ne-test}
use Rattle.target_law.specs.declared.nexus.Nexus.{Nexus}
use Rattle.std.proofs.lemmas.Bool.Decides.{nat_tests}
use Rattle.std.proofs.lemmas.Option.{same_Some}
use Rattle.cdb_codec.specs.declared.commands.Cdb.TheVariants.{RequestSense}
use Rattle.rig_types.specs.declared.report.Outcome.TheVariants.{Done}
use Rattle.unit_law.specs.Request.{command}
use Rattle.target_law.specs.declared.moves.Move.{Move}
use Rattle.target_law.specs.declared.task_phase.Completion.{Completion}
use Rattle.target_law.specs.declared.task_phase.Completion.TheVariants.{Answered as HasAnswered, Refused}
use Rattle.target_law.specs.Session.{Session, acted, closed, began}
use Rattle.target_law.specs.Bytes.{Connection, away}
use Rattle.target_law.specs.Target as connection_state
use Rattle.target_law.specs.Target.{LogicalUnit, ConnectionState, BusFree, TakingCommand, TaskConnected, RogueConnected, Target, unit_at, with_unit, session, linked, parted, leaves, drops, unit_left, unit_reset, slot_reset, target_reset, unit_after}
use Rattle.target_law.specs.declared.task_phase.TaskPhase.TheVariants.{ToChoose}
use Rattle.target_law.specs.Calls.{target_acted, acted_by, begun, has_tag, has_ended}
use Rattle.logs_have_room.specs.Room.{entries}
use Rattle.ticket_fate.specs.Tickets.{Plan, unit_of, Life, Selected, Connected, Away, Finished, Rejected, AskStarts, AskConnected, is_live, Ticket, with_life, view_for}
use Rattle.ticket_fate.specs.Linked.{IsPlan, HasNoTaskOf, UnitKept, IsAtWork, IsAsking, WorkKept, LinkKept, ResetCause, ByBus, ByDevice, reset_tickets, log_in, log_of}
use Rattle.ticket_fate.specs.Moves.{CompletesTicket, parts_ticket, marked_ticket, IsIdle, target_of, Moves, alone, points, marks, relinks, acts, sends, receives, hears, listens, leaves_bus, completes, drops_task, reselects, begins, ask_sends, ask_completes, ask_begins, resets_idle, resets_work, resets_asking}
use Rattle.ticket_fate.specs.Kept.{AllKept}
use Rattle.ticket_fate.specs.Histories.{Progress, NotQueued, UnderWay, Reported, progress_of, is_under_way, marks_in, is_bus, is_device, resets_by, count_if, noted_by, tally_in, noted}
use Rattle.ticket_fate.proofs.Targets.{at-lun, unit-same, unit-other}
use Rattle.ticket_fate.proofs.TaskLists.{not-of, not-by_tag, away-at}
use Rattle.ticket_fate.proofs.Resets.{slot-there}
use Rattle.ticket_fate.proofs.Turns.{ProgressTurned, TicketTurned, or-none, stays, alone-turned, reset-turned, at-ticket, sent-turned, asked-turned}
use Rattle.ticket_fate.proofs.LogTurns.{Turned, turned-tally, acted-turned, closed-turned, drops-turned, unit-logs, target-logs, unit-reset}

-- the Clears of a history, by the progress of its ticket
abbrev pub Counted : Progress → (since clears now n : ℕ) → Type 0
Counted NotQueued since clears now n = n ≡ 0
Counted UnderWay since clears now n = n ≡ now - since
Counted Reported since clears now n = n ≡ clears

pub record Recorded (k : Ticket) (v : Tally) (h : TicketHistory) : Type 0 where
  pub marked : h.marked ≡ k.marked
  pub bus_reset : h.bus_reset ≡ k.bus_reset
  pub clears : Counted (progress_of k.life) k.since k.clears v.clears h.clears
  pub outside : h.outside ≡ 0
  pub uncaused : h.uncaused_clears ≡ 0

-- what a move makes of the tally of a ticket
pub record TallyStep (live caused : Bool) (before after : Tally) : Type 0 where
  pub grows : before.clears ≤ after.clears
  pub same : caused ≡ false → after.clears ≡ before.clears
  pub entries : live ≡ false → entries after ≡ entries before

counted-on : (c : Progress) (since clears now later n : ℕ) → since ≤ now → now ≤ later → Counted c since clears now n → Counted c since clears later (n + count_if (is_under_way c) (later - now))
counted-on NotQueued since clears now later n s l h = omega arith
counted-on UnderWay since clears now later n s l h = omega arith
counted-on Reported since clears now later n s l h = omega arith

none-counted : (b : Bool) (m n : ℕ) → (b ≡ false → m ≡ n) → count_if (not b) (m - n) ≡ 0
none-counted true m n f = refl
none-counted false m n f = let e = f refl in omega arith

module _ (k j : Ticket) (before after : Tally) (marked bus device : Bool) (h : TicketHistory) (within : k.since ≤ before.clears) (step : TallyStep (is_live k.life) (bus || device) before after) (r : Recorded k before h) where
  counted : ProgressTurned k j before.clears (bus || device) → Counted (progress_of j.life) j.since j.clears after.clears (h.clears + count_if (is_under_way (progress_of k.life)) (after.clears - before.clears))
  counted (inl t) =
      let m = counted-on (progress_of k.life) k.since k.clears before.clears after.clears h.clears within step.grows r.clears in
      subst (λ c. Counted c j.since j.clears after.clears (h.clears + count_if (is_under_way (progress_of k.life)) (after.clears - before.clears))) (sym t.0)
      (subst (λ s. Counted (progress_of k.life) s j.clears after.clears (h.clears + count_if (is_under_way (progress_of k.life)) (after.clears - before.clears))) (sym t.1)
      (subst (λ s. Counted (progress_of k.life) k.since s after.clears (h.clears + count_if (is_under_way (progress_of k.life)) (after.clears - before.clears))) (sym t.2) m))
  counted (inr (inl t)) =
      let old : h.clears ≡ 0 = subst (λ c. Counted c k.since k.clears before.clears h.clears) t.0 r.clears in
      let e : count_if (is_under_way (progress_of k.life)) (after.clears - before.clears) ≡ 0 = ap (λ c. count_if (is_under_way c) (after.clears - before.clears)) t.0 in
      let s = step.same t.3 in
      subst (λ c. Counted c j.since j.clears after.clears (h.clears + count_if (is_under_way (progress_of k.life)) (after.clears - before.clears))) (sym t.1) (let z = t.2 in omega arith)
  counted (inr (inr t)) =
      let old : h.clears ≡ before.clears - k.since = subst (λ c. Counted c k.since k.clears before.clears h.clears) t.0 r.clears in
      let e : count_if (is_under_way (progress_of k.life)) (after.clears - before.clears) ≡ after.clears - before.clears = ap (λ c. count_if (is_under_way c) (after.clears - before.clears)) t.0 in
      let s = step.same t.3 in
      subst (λ c. Counted c j.since j.clears after.clears (h.clears + count_if (is_under_way (progress_of k.life)) (after.clears - before.clears))) (sym t.1) (let z = t.2 in omega arith)

  pub recorded-on : TicketTurned k j before marked bus (bus || device) → Recorded j after (noted_by k before after marked bus device h)
  recorded-on t = record {
    marked = ap (λ b. b || marked) r.marked ∙ sym t.marked;
    bus_reset = ap (λ b. b || (bus && (nat_lt 0 before.ends && is_live k.life))) r.bus_reset ∙ sym t.bus_reset;
    clears = counted t.progress;
    outside = let o = none-counted (is_live k.life) (entries after) (entries before) step.entries in let z = r.outside in omega arith;
    uncaused = let o = none-counted (bus || device) after.clears before.clears step.same in let z = r.uncaused in omega arith;
  }

-- the units of a target that is reset, which is this one once its connected task is among the others
pub reset-there : (t s : Target) (lun : ℕ) (v : LogicalUnit) → parted t.link t ≡ s → unit_at s.units lun ≡ Some v → unit_at (target_reset t).units lun ≡ Some (unit_reset v)
unfolding target_reset
reset-there t s lun v p there = ap (λ (z : Target). unit_at (map slot_reset z.units) lun) p ∙ slot-there s.units lun v there

false-true : (b : Bool) → b ≡ false → b ≡ true → ⊥
false-true b e f = cc

module _ (g : Plan) (count : ℕ) (plan : IsPlan g count) (ks : ℕ → Ticket) (ts : ℕ → Target) (h : AllKept g count ks ts) (x : ℕ) where
  -- no reset
  calm : (us : ℕ → Target) (caused : Bool) → Turned ks (log_of g (ts (target_of g x)) x) (log_of g (us (target_of g x)) x) → TallyStep (is_live (ks x).life) caused (tally_in g ts x) (tally_in g us x)
  calm us caused t =
      let s = turned-tally ks x (log_of g (ts (target_of g x)) x) (log_of g (us (target_of g x)) x) t in
      record { grows = let c = s.clears in omega arith; same = λ e. s.clears; entries = s.entries }

  -- the units stay
  still : (i : ℕ) (t : Target) (caused : Bool) → t.units ≡ (ts i).units → TallyStep (is_live (ks x).life) caused (tally_in g ts x) (tally_in g (with_at ts i t) x)
  still i t caused e = calm (with_at ts i t) caused (target-logs (Turned ks) (λ l. inl refl) g ts i x t (λ q. inl (ap (λ u. log_in (unit_at u (g.units (unit_of g x)).lun)) e)))

  -- one unit gets another log
  logs : (i : ℕ) (t : Target) (at : ℕ) (u v : LogicalUnit) (caused : Bool) → unit_at (ts i).units at ≡ Some u → t.units ≡ with_unit (ts i).units at v → Turned ks u.log v.log
      → TallyStep (is_live (ks x).life) caused (tally_in g ts x) (tally_in g (with_at ts i t) x)
  logs i t at u v caused there e l = calm (with_at ts i t) caused (target-logs (Turned ks) (λ l. inl refl) g ts i x t (λ q.
      subst (λ z. Turned ks (log_of g (ts i) x) (log_in (unit_at z (g.units (unit_of g x)).lun))) (sym e) (unit-logs (Turned ks) (λ l. inl refl) (ts i).units at (g.units (unit_of g x)).lun u v there (λ q. l))))

  -- the ticket of a connected task is live
  pub at-work : (i : ℕ) (c : Connection) → (ts i).link ≡ TaskConnected c → is_live (ks c.task.ticket).life ≡ true
  at-work i c working = by c.task.senses (subst (λ l. LinkKept l g i ks (ts i)) working (h.each i).link)
    where
      by : (b : Bool) → WorkKept b g i ks (ts i) c → is_live (ks c.task.ticket).life ≡ true
      by false w = ap is_live w.life
      by true w = ap is_live w.life

  caused-by : (r : Bool) (b : ResetCause) → r ≡ true → ((r && is_bus b) || (r && is_device b)) ≡ false → ⊥
  caused-by true ByBus e f = cc
  caused-by true ByDevice e f = cc
  caused-by false b e f = cc

  -- target i is reset; where the tasks of its units that wait are of live tickets
  reset-step : (i : ℕ) (b : ResetCause) → ((u : LogicalUnit) → unit_at (ts i).units (g.units (unit_of g x)).lun ≡ Some u → target_of g x ≡ i → UnitKept g (unit_of g x) ks u → (v : LogicalUnit)
      × (unit_at (target_reset (ts i)).units (g.units (unit_of g x)).lun ≡ Some (unit_reset v)) × (v.log ≡ u.log) × (is_live (ks x).life ≡ false → HasNoTaskOf x v.tasks))
      → TallyStep (is_live (ks x).life) ((nat_eq (target_of g x) i && is_bus b) || (nat_eq (target_of g x) i && is_device b)) (tally_in g ts x) (tally_in g (with_at ts i (target_reset (ts i))) x)
  reset-step i b f = by (same_or_not (target_of g x) i)
    where
      by : (target_of g x ≡ i) ⊎ (target_of g x ≢ i)
          → TallyStep (is_live (ks x).life) ((nat_eq (target_of g x) i && is_bus b) || (nat_eq (target_of g x) i && is_device b)) (tally_in g ts x) (tally_in g (with_at ts i (target_reset (ts i))) x)
      by (inl q) =
          let old = (h.each i).units (unit_of g x) (plan.known x) q in
          let n = f old.0 old.1 q old.2 in
          let s = unit-reset g x (is_live (ks x).life) n.0 n.3 in
          let was : tally_in g ts x ≡ tally x n.0.log = ap (λ z. tally x (log_of g z x)) (ap ts q) ∙ ap (λ o. tally x (log_in o)) old.1 ∙ ap (tally x) (sym n.2) in
          let is : tally_in g (with_at ts i (target_reset (ts i))) x ≡ tally x (unit_reset n.0).log =
          ap (λ z. tally x (log_of g z x)) (ap (with_at ts i (target_reset (ts i))) q ∙ with_at-same ts i (target_reset (ts i))) ∙ ap (λ o. tally x (log_in o)) n.1 in
          let r : nat_eq (target_of g x) i ≡ true = ap (λ z. nat_eq z i) q ∙ eq-test i in
          record {
            grows = omega (arith, s.clears, ap (λ k. k.clears) was, ap (λ k. k.clears) is);
            same = λ e. absurd (caused-by (nat_eq (target_of g x) i) b r e);
            entries = λ e. ap entries is ∙ s.entries e ∙ sym (ap entries was);
          }
      by (inr d) =
          let e : tally_in g (with_at ts i (target_reset (ts i))) x ≡ tally_in g ts x = ap (λ z. tally x (log_of g z x)) (with_at-other ts i (target_reset (ts i)) (target_of g x) d) in
          record { grows = omega (arith, ap (λ k. k.clears) e); same = λ f. ap (λ k. k.clears) e; entries = λ f. ap entries e }

  not-away : is_live (ks x).life ≡ false → (ks x).life ≡ Away → ⊥
  not-away e a = false-true (is_live (ks x).life) e (ap is_live a)

  idle-reset-step : (i : ℕ) (b : ResetCause) → parted (ts i).link (ts i) ≡ ts i
      → TallyStep (is_live (ks x).life) ((nat_eq (target_of g x) i && is_bus b) || (nat_eq (target_of g x) i && is_device b)) (tally_in g ts x) (tally_in g (with_at ts i (target_reset (ts i))) x)
  idle-reset-step i b p = reset-step i b (λ u there q kept. (u, reset-there (ts i) (ts i) (g.units (unit_of g x)).lun u p there, refl, λ e. not-of g (unit_of g x) ks x u.tasks (not-away e) kept.lists.tasks))

  work-reset-step : (i : ℕ) (b : ResetCause) (c : Connection) (w : LogicalUnit) → (ts i).link ≡ TaskConnected c → unit_at (ts i).units c.lun ≡ Some w
      → TallyStep (is_live (ks x).life) ((nat_eq (target_of g x) i && is_bus b) || (nat_eq (target_of g x) i && is_device b)) (tally_in g ts x) (tally_in g (with_at ts i (target_reset (ts i))) x)
  work-reset-step i b c w working own = reset-step i b (λ u there q kept. by u there kept (same_or_not (g.units (unit_of g x)).lun c.lun))
    where
      p : parted (ts i).link (ts i) ≡ leaves (ts i) c w
      p = ap (λ l. parted l (ts i)) working ∙ at-lun (ts i) c.lun (leaves (ts i) c) w own

      by : (u : LogicalUnit) → unit_at (ts i).units (g.units (unit_of g x)).lun ≡ Some u → UnitKept g (unit_of g x) ks u → ((g.units (unit_of g x)).lun ≡ c.lun) ⊎ ((g.units (unit_of g x)).lun ≢ c.lun)
          → (v : LogicalUnit) × (unit_at (target_reset (ts i)).units (g.units (unit_of g x)).lun ≡ Some (unit_reset v)) × (v.log ≡ u.log) × (is_live (ks x).life ≡ false → HasNoTaskOf x v.tasks)
      by u there kept (inl q) =
          let same : u ≡ w = same_Some u w (sym there ∙ ap (unit_at (ts i).units) q ∙ own) in (
            unit_left w c.task,
            reset-there (ts i) (leaves (ts i) c w) (g.units (unit_of g x)).lun (unit_left w c.task) p (ap (unit_at (with_unit (ts i).units c.lun (unit_left w c.task))) q ∙ unit-same (ts i).units c.lun w (unit_left w c.task) own),
            ap (λ z. z.log) (sym same),
            λ e. not-by_tag x (away c.task) w.tasks (λ z. false-true (is_live (ks x).life) e (ap (λ y. is_live (ks y).life) (sym z) ∙ at-work i c working))
                (subst (λ z. HasNoTaskOf x z.tasks) same (not-of g (unit_of g x) ks x u.tasks (not-away e) kept.lists.tasks)),
          )
      by u there kept (inr d) = (u, reset-there (ts i) (leaves (ts i) c w) (g.units (unit_of g x)).lun u p (unit-other (ts i).units c.lun (g.units (unit_of g x)).lun (unit_left w c.task) d ∙ there), refl, λ e. not-of g (unit_of g x) ks x u.tasks (not-away e) kept.lists.tasks)

-- what the moves themselves make of tickets
pub idle-parted : (l : ConnectionState) → IsIdle l → (t : Target) → parted l t ≡ t
idle-parted BusFree s t = refl
idle-parted (connection_state.Selected b) s t = refl
idle-parted (TakingCommand n b) s t = refl
idle-parted (TaskConnected c) s t = absurd s
idle-parted (RogueConnected s n) i t = refl

acted-units : (t : Target) (c : Connection) (u : LogicalUnit) (m : Move) → t.link ≡ TaskConnected c → unit_at t.units c.lun ≡ Some u → (target_acted t m).units ≡ with_unit t.units c.lun (unit_after u (acted m (session u c)))
unfolding target_acted
acted-units t c u m working there = ap (λ z. z.units) (ap (λ l. acted_by l t m) working ∙ at-lun t c.lun _ u there)

pub begun-units : (t : Target) (n : Nexus) (c : Cdb) (u : LogicalUnit) (x : ℕ) → (begun t n c u x).units ≡ t.units
begun-units t n c u x = by (has_tag u.tasks n.tag || nat_lt 65536 (need_of c).bytes)
    (TaskConnected (record { lun = n.lun; reselected = false; heard = []; task = began n.tag x c u.rig.disconnects (has_ended u.log x); shows = ToChoose }))
  where
    by : (b : Bool) (l : ConnectionState) → (cond b (linked t BusFree) (linked t l)).units ≡ t.units
    by true l = refl
    by false l = refl

or-true : (b : Bool) → true ≡ (b || true)
or-true true = refl
or-true false = refl

same-number : (a i : ℕ) → nat_eq a i ≡ true → a ≡ i
same-number a i e = grind (arith, nat_tests)

completed-turned : (v : Completion) (g : Plan) (t : ℕ) (k : Ticket) (s : Session) (j : Ticket) (before : Tally) → k.life ≡ Connected → CompletesTicket v g t k s j → TicketTurned k j before false false false
completed-turned (HasAnswered st) g t k s j before e z =
    subst (λ y. TicketTurned k y before false false false) (sym z.2) (stays k (with_life k (Finished Done)) before refl refl (sym (ap progress_of e)) refl refl)
completed-turned (Refused st) g t k s j before e z =
    subst (λ y. TicketTurned k y before false false false) (sym z.1) (stays k (with_life k (Rejected st)) before refl refl (sym (ap progress_of e)) refl refl)

module _ (g : Plan) (count : ℕ) (plan : IsPlan g count) (ks : ℕ → Ticket) (ts : ℕ → Target) (h : AllKept g count ks ts) (x : ℕ) where
  abbrev was : Tally
  was = tally_in g ts x

  own : (y : ℕ) (k : Ticket) → TicketTurned (ks y) k was false false false → TicketTurned (ks x) (with_at ks y k x) was false false false
  own y k t = at-ticket ks y k x was (λ q. subst (λ z. TicketTurned (ks z) k was false false false) (sym q) t)

  same : TicketTurned (ks x) (ks x) was false false false
  same = stays (ks x) (ks x) was refl refl refl refl refl

  kept-progress : (y : ℕ) (k : Ticket) (l : Life) → (ks y).life ≡ l → progress_of k.life ≡ progress_of l → k.marked ≡ (ks y).marked → k.bus_reset ≡ (ks y).bus_reset → k.since ≡ (ks y).since → k.clears ≡ (ks y).clears
      → TicketTurned (ks x) (with_at ks y k x) was false false false
  kept-progress y k l e c m b s n = own y k (stays (ks y) k was m b (c ∙ sym (ap progress_of e)) s n)

  work : (i : ℕ) (c : Connection) → (ts i).link ≡ TaskConnected c → c.task.senses ≡ false → (ks c.task.ticket).life ≡ Connected
  work i c working free = let w : IsAtWork g i ks (ts i) c = subst (λ b. WorkKept b g i ks (ts i) c) free (subst (λ l. LinkKept l g i ks (ts i)) working (h.each i).link) in w.life

  asking : (i : ℕ) (c : Connection) → (ts i).link ≡ TaskConnected c → c.task.senses ≡ true → (ks c.task.ticket).life ≡ AskConnected
  asking i c working free = let w : IsAsking g i ks (ts i) c = subst (λ b. WorkKept b g i ks (ts i) c) free (subst (λ l. LinkKept l g i ks (ts i)) working (h.each i).link) in w.life

  marked-turned : (y : ℕ) → (x ≡ y) ⊎ (x ≢ y) → TicketTurned (ks x) (with_at ks y (marked_ticket (ks y)) x) was (nat_eq x y) false false
  marked-turned y (inl q) =
      subst (λ b. TicketTurned (ks x) (with_at ks y (marked_ticket (ks y)) x) was b false false) (sym (ap (λ z. nat_eq z y) q ∙ eq-test y))
      (subst (λ z. TicketTurned (ks x) z was true false false) (sym (ap (with_at ks y (marked_ticket (ks y))) q ∙ with_at-same ks y (marked_ticket (ks y))))
      (subst (λ z. TicketTurned (ks z) (marked_ticket (ks y)) was true false false) (sym q) (record { marked = or-true (ks y).marked; bus_reset = or-none (ks y).bus_reset; progress = inl (refl, refl, refl) })))
  marked-turned y (inr d) =
      subst (λ b. TicketTurned (ks x) (with_at ks y (marked_ticket (ks y)) x) was b false false) (sym (ne-test x y d))
      (subst (λ z. TicketTurned (ks x) z was false false false) (sym (with_at-other ks y (marked_ticket (ks y)) x d)) same)

  ends-same : (i : ℕ) → nat_eq (target_of g x) i ≡ true → (tally x (log_of g (ts i) x)).ends ≡ was.ends
  ends-same i e = ap (λ z. (tally x (log_of g (ts z) x)).ends) (sym (same-number (target_of g x) i e))

  reset-alone : (i : ℕ) (b : ResetCause) (caused : Bool) → TicketTurned (ks x) (reset_tickets g i b (ts i) ks x) was false (nat_eq (target_of g x) i && is_bus b) caused
  reset-alone i b caused = reset-turned (nat_eq (target_of g x) i) b (ks x) (ks x) was (tally x (log_of g (ts i) x)).ends caused (ends-same i) refl refl refl refl refl refl

  reset-parted : (i : ℕ) (b : ResetCause) (caused : Bool) (c : Connection) → (ks c.task.ticket).life ≡ Connected → (x ≡ c.task.ticket) ⊎ (x ≢ c.task.ticket)
      → TicketTurned (ks x) (reset_tickets g i b (ts i) (with_at ks c.task.ticket (parts_ticket ks c)) x) was false (nat_eq (target_of g x) i && is_bus b) caused
  reset-parted i b caused c life (inl q) =
      let e : with_at ks c.task.ticket (parts_ticket ks c) x ≡ parts_ticket ks c = ap (with_at ks c.task.ticket (parts_ticket ks c)) q ∙ with_at-same ks c.task.ticket (parts_ticket ks c) in
      let own_life : (ks x).life ≡ Connected = ap (λ z. (ks z).life) q ∙ life in
      reset-turned (nat_eq (target_of g x) i) b (ks x) (with_at ks c.task.ticket (parts_ticket ks c) x) was (tally x (log_of g (ts i) x)).ends caused (ends-same i)
      (ap (λ z. z.marked) e ∙ ap (λ z. (ks z).marked) (sym q)) (ap (λ z. z.bus_reset) e ∙ ap (λ z. (ks z).bus_reset) (sym q)) (ap (λ z. progress_of z.life) e ∙ sym (ap progress_of own_life))
      (ap (λ z. is_live z.life) e ∙ sym (ap is_live own_life)) (ap (λ z. z.since) e ∙ ap (λ z. (ks z).since) (sym q)) (ap (λ z. z.clears) e ∙ ap (λ z. (ks z).clears) (sym q))
  reset-parted i b caused c life (inr d) =
      let e = with_at-other ks c.task.ticket (parts_ticket ks c) x d in
      reset-turned (nat_eq (target_of g x) i) b (ks x) (with_at ks c.task.ticket (parts_ticket ks c) x) was (tally x (log_of g (ts i) x)).ends caused (ends-same i)
      (ap (λ z. z.marked) e) (ap (λ z. z.bus_reset) e) (ap (λ z. progress_of z.life) e) (ap (λ z. is_live z.life) e) (ap (λ z. z.since) e) (ap (λ z. z.clears) e)

  turned : (ns : ℕ → Ticket) (us : ℕ → Target) (m : Moves g count ks ts ns us)
      → TicketTurned (ks x) (ns x) (tally_in g ts x) (marks_in x m) (resets_by is_bus (target_of g x) m) (resets_by is_bus (target_of g x) m || resets_by is_device (target_of g x) m)
  turned ns us (alone y k u there m) = at-ticket ks y k x was (λ q. subst (λ z. TicketTurned (ks z) k (tally_in g ts z) false false false) (sym q)
      (subst (λ b. TicketTurned (ks y) k b false false false) (sym (ap (λ o. tally y (log_in o)) there)) (alone-turned g y (view_for g y u.log) (ks y) k m)))
  turned ns us (points y lastp savep e) = own y _ (stays (ks y) _ was refl refl refl refl refl)
  turned ns us (marks y can) = marked-turned y (same_or_not x y)
  turned ns us (relinks i l e f may) = same
  turned ns us (acts i c u m w there e can) = own c.task.ticket _ (stays (ks c.task.ticket) _ was refl refl refl refl refl)
  turned ns us (sends i c at b w free e byte) = own c.task.ticket _ (sent-turned c.shows at b (ks c.task.ticket) _ was)
  turned ns us (receives i c n at b w free e f byte) = own c.task.ticket _ (stays (ks c.task.ticket) _ was refl refl refl refl refl)
  turned ns us (hears i c n s w free e d f) = own c.task.ticket _ (stays (ks c.task.ticket) _ was refl refl refl refl refl)
  turned ns us (listens i c bytes w free) = own c.task.ticket _ (stays (ks c.task.ticket) _ was refl refl refl refl refl)
  turned ns us (leaves_bus i c u w free there e) = kept-progress c.task.ticket _ Connected (work i c w free) refl refl refl refl refl
  turned ns us (completes i c u v s k w free there e z) = own c.task.ticket k (completed-turned v g c.task.ticket (ks c.task.ticket) (session u c) k was (work i c w free) z)
  turned ns us (drops_task i c u w free there e) = kept-progress c.task.ticket _ Connected (work i c w free) refl refl refl refl refl
  turned ns us (reselects n m u k less idle there e) =
      let old = (h.each (g.units n).target).units n less refl in
      let unit : UnitKept g n ks u = subst (UnitKept g n ks) (same_Some old.0 u (sym old.1 ∙ there)) old.2 in
      kept-progress k.ticket _ Away (away-at g n ks m u.tasks k unit.lists.tasks e).life refl refl refl refl refl
  turned ns us (begins y n u idle there lun tag life others) = kept-progress y _ Selected life refl refl refl refl refl
  turned ns us (ask_sends i c at b w free e byte) = own c.task.ticket _ (asked-turned c.shows at b (ks c.task.ticket) _ was)
  turned ns us (ask_completes i c u v s w free there e) = kept-progress c.task.ticket _ AskConnected (asking i c w free) refl refl refl refl refl
  turned ns us (ask_begins y n u idle there lun tag life others) = kept-progress y _ AskStarts life refl refl refl refl refl
  turned ns us (resets_idle i b idle can) = reset-alone i b _
  turned ns us (resets_work i b c u w free there can) = reset-parted i b _ c (work i c w free) (same_or_not x c.task.ticket)
  turned ns us (resets_asking i c u w free there) = reset-alone i ByBus _

  pub stepped : (ns : ℕ → Ticket) (us : ℕ → Target) (m : Moves g count ks ts ns us)
      → TallyStep (is_live (ks x).life) (resets_by is_bus (target_of g x) m || resets_by is_device (target_of g x) m) (tally_in g ts x) (tally_in g us x)
  stepped ns us (alone y k u there m) = calm g count plan ks ts h x ts false (inl refl)
  stepped ns us (points y lastp savep e) = calm g count plan ks ts h x ts false (inl refl)
  stepped ns us (marks y can) = calm g count plan ks ts h x ts false (inl refl)
  stepped ns us (relinks i l e f may) = still g count plan ks ts h x i _ false refl
  stepped ns us (acts i c u m w there e can) =
      logs g count plan ks ts h x i _ c.lun u (unit_after u (acted m (session u c))) false there (acted-units (ts i) c u m w there) (acted-turned ks m (session u c) (at-work g count plan ks ts h x i c w))
  stepped ns us (sends i c at b w free e byte) = still g count plan ks ts h x i _ false refl
  stepped ns us (receives i c n at b w free e f byte) = still g count plan ks ts h x i _ false refl
  stepped ns us (hears i c n s w free e d f) = still g count plan ks ts h x i _ false refl
  stepped ns us (listens i c bytes w free) = still g count plan ks ts h x i _ false refl
  stepped ns us (leaves_bus i c u w free there e) = logs g count plan ks ts h x i _ c.lun u (unit_left u c.task) false there refl (inl refl)
  stepped ns us (completes i c u v s k w free there e z) =
      logs g count plan ks ts h x i _ c.lun u (unit_after u (closed v (session u c))) false there refl (closed-turned v ks (session u c) (at-work g count plan ks ts h x i c w))
  stepped ns us (drops_task i c u w free there e) = logs g count plan ks ts h x i _ c.lun u (drops u c.task) false there refl (drops-turned c.task.senses ks u c.task (at-work g count plan ks ts h x i c w))
  stepped ns us (reselects n m u k less idle there e) = logs g count plan ks ts h x (g.units n).target _ (g.units n).lun u (record u { tasks = remove u.tasks m }) false there refl (inl refl)
  stepped ns us (begins y n u idle there lun tag life others) = still g count plan ks ts h x (target_of g y) _ false (begun-units (ts (target_of g y)) n (command (g.requests y)) u y)
  stepped ns us (ask_sends i c at b w free e byte) = still g count plan ks ts h x i _ false refl
  stepped ns us (ask_completes i c u v s w free there e) =
      logs g count plan ks ts h x i _ c.lun u (unit_after u (closed v (session u c))) false there refl (closed-turned v ks (session u c) (at-work g count plan ks ts h x i c w))
  stepped ns us (ask_begins y n u idle there lun tag life others) = still g count plan ks ts h x (target_of g y) _ false (begun-units (ts (target_of g y)) n (RequestSense 18) u y)
  stepped ns us (resets_idle i b idle can) = idle-reset-step g count plan ks ts h x i b (idle-parted (ts i).link idle (ts i))
  stepped ns us (resets_work i b c u w free there can) = work-reset-step g count plan ks ts h x i b c u w there
  stepped ns us (resets_asking i c u w free there) = work-reset-step g count plan ks ts h x i ByBus c u w there

  within : (ks x).since ≤ (tally_in g ts x).clears
  within =
      let old = (h.each (target_of g x)).units (unit_of g x) (plan.known x) refl in
      subst (λ o. (ks x).since ≤ (tally x (log_in o)).clears) (sym old.1) (old.2.each x refl).since

  -- one move on
  pub noted-kept : (ns : ℕ → Ticket) (us : ℕ → Target) (m : Moves g count ks ts ns us) (r : TicketHistory) → Recorded (ks x) (tally_in g ts x) r → Recorded (ns x) (tally_in g us x) (noted x m r)
  noted-kept ns us m r old =
      recorded-on (ks x) (ns x) (tally_in g ts x) (tally_in g us x) (marks_in x m) (resets_by is_bus (target_of g x) m) (resets_by is_device (target_of g x) m) r within (stepped ns us m) old (turned ns us m)
