-- Every move keeps what holds of the tickets and the targets.
use Rattle.std.proofs.Common.{◌≡◌, ◌≢◌, ℕ, ◌+◌, ◌-◌, ◌<◌, Bool, true, false, List, refl, ap, arith, sym, ◌∙◌, subst, Some, ◌⊎◌, inl, inr, nat_eq}
use Rattle.std.proofs.lemmas.Option.{same_Some}
use Rattle.rig_types.specs.declared.report.Outcome.{Outcome}
use Rattle.rig_types.specs.declared.report.Outcome.TheVariants.{Done, Cut, Reset, NoTarget, Broken}
use Rattle.rig_types.specs.declared.report.Report.{Report}
use Rattle.unit_law.specs.Report.{UnitSetting, By}
use Rattle.logs_have_room.specs.Room.{entries}
use Rattle.unit_law.specs.declared.entry.LogEntry.{LogEntry}
use Rattle.unit_law.specs.Log.{View, with_at, tally}
use Rattle.unit_law.proofs.Views.{with_at-same, with_at-other, same_or_not, ne-test, eq-test}
use Rattle.target_law.specs.declared.moves.Move.{Move}
use Rattle.target_law.specs.declared.task_phase.TaskPhase.{TaskPhase}
use Rattle.target_law.specs.declared.task_phase.TaskPhase.TheVariants.{ToChoose, MessageOut, DataIn, DataOut, Status, MessageIn}
use Rattle.target_law.specs.declared.task_phase.ReselectByte.TheVariants as part
use Rattle.target_law.specs.declared.task_phase.TargetMessage.{TargetMessage}
use Rattle.target_law.specs.declared.task_phase.TargetMessage.TheVariants.{Reselection, CommandComplete, SaveThenDisconnect, SaveDataPointer, RestorePointers, Disconnect}
use Rattle.target_law.specs.declared.task_phase.Completion.{Completion}
use Rattle.target_law.specs.declared.task_phase.Completion.TheVariants.{Answered as HasAnswered, Refused}
use Rattle.unit_law.specs.Request.{RequestData, command}
use Rattle.ticket_fate.proofs.TaskLists.{away-at}
use Rattle.ticket_fate.proofs.Choices.{follows}
use Rattle.cdb_codec.specs.declared.commands.Cdb.TheVariants.{RequestSense}
use Rattle.target_law.specs.Session.{Task, Session, Can, acted, began}
use Rattle.target_law.specs.Bytes.{Connection, sent_by, heard_by}
use Rattle.target_law.specs.Target as connection_state
use Rattle.target_law.specs.Target.{LogicalUnit, ConnectionState, BusFree, TakingCommand, TaskConnected, RogueConnected, Target, unit_at, session, linked, parted, target_reset, goes_on}
use Rattle.target_law.specs.Calls.{target_acted, acted_by, begun, has_ended, task_reselected}
use Rattle.target_law.specs.Lawful.{refused_so_far}
use Rattle.ticket_fate.specs.Tickets.{Plan, unit_of, Life, Unbuilt, Built, Linked, ToRequeue, Waits, Selected, Connected, Away, Lost, Rejected, Finished, Checked, Asks, AskStarts, AskConnected, AskLost, Asked, AtRogue, Ended, Unlinked, Freed, Ticket, setting, history_at, freed_ticket, ticket_asked, view_for}
use Rattle.ticket_fate.specs.Fates.{ReportFits, FreedReportFits, TicketKept}
use Rattle.ticket_fate.specs.Senses.{Unasked, SenseOfReportFits, AsksTask}
use Rattle.ticket_fate.specs.Linked.{IsPlan, UnitKept, IsAtWork, IsAsking, WorkKept, LinkKept, TargetKept, ResetCause, ByBus, ByDevice, reset_tickets, reset_ticket, log_of, front_life, lost_life}
use Rattle.ticket_fate.specs.Moves.{CompletesTicket, parts_ticket, TicketMove, builds, links, queues, requeues, selects, times_out, cancels, takes_again, takes_refused, takes, takes_checked, asks, ask_selects, takes_sense, sweeps_asking, selects_rogue, rogue_moves, ends_rogue, sweeps, unlinks, frees, IsIdle, MayLink, target_of, pointed_ticket, marked_ticket, Moves, alone, points, marks, relinks, acts, sends, receives, hears, listens, leaves_bus, completes, drops_task, reselects, begins, ask_sends, ask_completes, ask_begins, resets_idle, resets_work, resets_asking}
use Rattle.ticket_fate.specs.Kept.{AtLink, AllKept}
use Rattle.ticket_fate.proofs.SenseLives.{silent-lost}
use Rattle.ticket_fate.proofs.SenseSteps.{taken-kept, checked-kept, asks-kept, ask-selected-kept, sense-taken-kept, asking-swept-kept, rogue-selected-kept, rogue-moved-kept, rogue-ended-kept}
use Rattle.ticket_fate.proofs.SenseTasks.{ask-acted, ask-sent, ask-completed, ask-begun, asking-reset}
use Rattle.ticket_fate.proofs.TicketSteps.{fate_at, sense_at, built-kept, linked-kept, queued-kept, again-kept, selected-kept, absent-kept, cancelled-kept, requeue-kept, refused-kept}
use Rattle.ticket_fate.proofs.Targets.{unit-elsewhere, units-elsewhere, acted-kept, at-lun, at, kept, runs}
use Rattle.ticket_fate.proofs.Calls.{unit-ticket-changed, again, byte-in, byte-out, heard, listened}
use Rattle.ticket_fate.proofs.TaskEnds.{leaves-kept, ends-kept, drops-kept, reselects as reselect-kept, begins as begin-kept, begin-link}
use Rattle.ticket_fate.proofs.Marks.{unit-same-life, marked-kept}
use Rattle.ticket_fate.proofs.Resets.{idle-reset, work-reset, link-agrees, unit-agrees}

-- how many entries lie outside a ticket's life is no matter of the cases
by-outside : (o : Outcome) (s : UnitSetting) (r : RequestData) (v : View) (m b : Bool) (clears few many : ℕ) (q : Report) → By o s r v (history_at m clears b few) q → By o s r v (history_at m clears b many) q
by-outside Done s r v m b clears few many q h = h
by-outside Cut s r v m b clears few many q h = h
by-outside Reset s r v m b clears few many q h = h
by-outside NoTarget s r v m b clears few many q h = h
by-outside Broken s r v m b clears few many q h = h

-- at the BusFree no entry has come after it
freed-fits : (g : Plan) (t : ℕ) (k : Ticket) (v : View) (o : Outcome) → k.before ≡ 0 → ReportFits g t k v o → FreedReportFits g t (freed_ticket k o v.tally) v o
freed-fits g t k v o none f = λ rogue.
    let h = f rogue in
    record {
      by = by-outside o (setting g (unit_of g t)) (g.requests t) v k.marked k.bus_reset (v.tally.clears - k.since) 0 (k.before + (entries v.tally - entries v.tally)) _ h.by;
      ticket = refl;
      of_unit = refl;
      few_tries = h.few_tries;
      all_within = omega (arith, none);
      all_caused = refl;
    }

-- a task that was lost has no sense
lost-silent : (g : Plan) (t : ℕ) (k : Ticket) (v : View) → ReportFits g t k v Reset → Unasked k.sense v → SenseOfReportFits g t k v Reset
lost-silent g t k v f u = λ rogue. silent-lost g t k v Reset u (f rogue).by.0.no_end rogue

-- a step of a ticket by itself
stands-on : (g : Plan) (x : ℕ) (k : Ticket) (log : List LogEntry) (j : Ticket) → TicketMove g x (view_for g x log) k j → TicketKept g x k log → TicketKept g x j log
stands-on g x k log j (builds tag e) s = built-kept g x k log s tag e
stands-on g x k log j (links e) s = linked-kept g x k log s e
stands-on g x k log j (queues e) s = queued-kept g x k log s e
stands-on g x k log j (requeues e) s = again-kept g x k log s e
stands-on g x k log j (selects e f r) s = selected-kept g x k log s e f
stands-on g x k log j (times_out e f) s = absent-kept g x k log s e f
stands-on g x k log j (cancels e f) s = cancelled-kept g x k log s e f
stands-on g x k log j (takes_again st e f) s = requeue-kept g x k log s st e f
stands-on g x k log j (takes_refused st e f) s = refused-kept g x k log s st e f
stands-on g x k log j (takes o e not) s = taken-kept g x k log s o e not
stands-on g x k log j (takes_checked e a) s = checked-kept g x k log s e a
stands-on g x k log j (asks area e size) s = asks-kept g x k log s area e size
stands-on g x k log j (ask_selects e) s = ask-selected-kept g x k log s e
stands-on g x k log j (takes_sense e) s = sense-taken-kept g x k log s e
stands-on g x k log j (sweeps_asking e) s = asking-swept-kept g x k log s e
stands-on g x k log j (selects_rogue e r) s = rogue-selected-kept g x k log s e r
stands-on g x k log j (rogue_moves status lastp savep tries buffer area e) s = rogue-moved-kept g x k log s status lastp savep tries buffer area e
stands-on g x k log j (ends_rogue o e) s = rogue-ended-kept g x k log s o e
stands-on g x k log j (sweeps e) s = record { fate = fate_at g x k log Lost s e; sense = lost-silent g x k (view_for g x log) (fate_at g x k log Lost s e) (sense_at g x k log Lost s e); absent = λ a. ((s.absent a).0, tt); since = s.since; before = s.before }
stands-on g x k log j (unlinks o e) s = record { fate = fate_at g x k log (Ended o) s e; sense = sense_at g x k log (Ended o) s e; absent = λ a. ((s.absent a).0, tt); since = s.since; before = s.before }
stands-on g x k log j (frees o e) s = record { fate = freed-fits g x k (view_for g x log) o s.before (fate_at g x k log (Unlinked o) s e); sense = sense_at g x k log (Unlinked o) s e; absent = λ a. ((s.absent a).0, tt); since = s.since; before = s.before }

-- neither before nor after it has a task
abbrev NoTask : Life → Type 0
NoTask Connected = ⊥
NoTask Away = ⊥
NoTask AskConnected = ⊥
NoTask _ = Unit {0}

without : (l : Life) → NoTask l → (l ≡ Connected → ⊥) × (l ≡ Away → ⊥) × (l ≡ AskConnected → ⊥)
without l n = ((λ e. subst NoTask e n), (λ e. subst NoTask e n), (λ e. subst NoTask e n))

taskless : (g : Plan) (x : ℕ) (k : Ticket) (log : List LogEntry) (j : Ticket) → TicketMove g x (view_for g x log) k j → NoTask k.life × NoTask j.life
taskless g x k log j (builds tag e) = (subst NoTask (sym e) tt, tt)
taskless g x k log j (links e) = (subst NoTask (sym e) tt, tt)
taskless g x k log j (queues e) = (subst NoTask (sym e) tt, tt)
taskless g x k log j (requeues e) = (subst NoTask (sym e) tt, tt)
taskless g x k log j (selects e f r) = (subst NoTask (sym e) tt, tt)
taskless g x k log j (times_out e f) = (subst NoTask (sym e) tt, tt)
taskless g x k log j (cancels e f) = (subst NoTask (sym e) tt, tt)
taskless g x k log j (takes_again st e f) = (subst NoTask (sym e) tt, tt)
taskless g x k log j (takes_refused st e f) = (subst NoTask (sym e) tt, tt)
taskless g x k log j (takes o e not) = (subst NoTask (sym e) tt, tt)
taskless g x k log j (takes_checked e a) = (subst NoTask (sym e) tt, tt)
taskless g x k log j (asks area e size) = (subst NoTask (sym e) tt, tt)
taskless g x k log j (ask_selects e) = (subst NoTask (sym e) tt, tt)
taskless g x k log j (takes_sense e) = (subst NoTask (sym e) tt, tt)
taskless g x k log j (sweeps_asking e) = (subst NoTask (sym e) tt, tt)
taskless g x k log j (selects_rogue e r) = (subst NoTask (sym e) tt, tt)
taskless g x k log j (rogue_moves status lastp savep tries buffer area e) = (subst NoTask (sym e) tt, subst NoTask (sym e) tt)
taskless g x k log j (ends_rogue o e) = (subst NoTask (sym e) tt, tt)
taskless g x k log j (sweeps e) = (subst NoTask (sym e) tt, tt)
taskless g x k log j (unlinks o e) = (subst NoTask (sym e) tt, tt)
taskless g x k log j (frees o e) = (subst NoTask (sym e) tt, tt)

module _ (g : Plan) (count : ℕ) (plan : IsPlan g count) (ks : ℕ → Ticket) (ts : ℕ → Target) (h : AllKept g count ks ts) where
  -- a ticket of target i changes, and the target with it
  each_at : (x : ℕ) (k : Ticket) (t : Target) → TargetKept g count (target_of g x) (with_at ks x k) t → (j : ℕ) → (j ≡ target_of g x) ⊎ (j ≢ target_of g x)
      → TargetKept g count j (with_at ks x k) (with_at ts (target_of g x) t j)
  each_at x k t new j (inl q) = subst (TargetKept g count j (with_at ks x k)) (sym (ap (with_at ts (target_of g x) t) q ∙ with_at-same ts (target_of g x) t)) (subst (λ i. TargetKept g count i (with_at ks x k) t) (sym q) new)
  each_at x k t new j (inr d) =
      let old = h.each j in
      let e : target_of g x ≢ j = λ q. d (sym q) in
      subst (TargetKept g count j (with_at ks x k)) (sym (with_at-other ts (target_of g x) t j d)) (record {
        units = units-elsewhere g count plan j ks (ts j) old.units x k e;
        link = link-agrees (ts j).link g j ks (with_at ks x k) (ts j) (λ y f. with_at-other ks x k y (λ q. e (ap (target_of g) (sym q) ∙ f))) old.link;
      })

  here_at : (x : ℕ) (k : Ticket) (t : Target) → (k.life ≡ Connected → AtLink t.link x) → ((y : ℕ) → y ≢ x → target_of g y ≡ target_of g x → (ks y).life ≡ Connected → AtLink t.link y)
      → (y : ℕ) → (with_at ks x k y).life ≡ Connected → (y ≡ x) ⊎ (y ≢ x) → (target_of g y ≡ target_of g x) ⊎ (target_of g y ≢ target_of g x) → AtLink (with_at ts (target_of g x) t (target_of g y)).link y
  here_at x k t own others y e (inl q) s =
      let l : k.life ≡ Connected = ap (λ z. z.life) (sym (ap (with_at ks x k) q ∙ with_at-same ks x k)) ∙ e in
      subst (λ z. AtLink z.link y) (sym (ap (λ z. with_at ts (target_of g x) t (target_of g z)) q ∙ with_at-same ts (target_of g x) t)) (subst (AtLink t.link) (sym q) (own l))
  here_at x k t own others y e (inr d) (inl f) =
      let l : (ks y).life ≡ Connected = ap (λ z. z.life) (sym (with_at-other ks x k y d)) ∙ e in
      subst (λ z. AtLink z.link y) (sym (ap (with_at ts (target_of g x) t) f ∙ with_at-same ts (target_of g x) t)) (others y d f l)
  here_at x k t own others y e (inr d) (inr f) =
      let l : (ks y).life ≡ Connected = ap (λ z. z.life) (sym (with_at-other ks x k y d)) ∙ e in
      subst (λ z. AtLink z.link y) (sym (with_at-other ts (target_of g x) t (target_of g y) f)) (h.here y l)

  changed : (x : ℕ) (k : Ticket) (t : Target) → TargetKept g count (target_of g x) (with_at ks x k) t → (k.life ≡ Connected → AtLink t.link x)
      → ((y : ℕ) → y ≢ x → target_of g y ≡ target_of g x → (ks y).life ≡ Connected → AtLink t.link y) → AllKept g count (with_at ks x k) (with_at ts (target_of g x) t)
  changed x k t new own others = record {
    each = λ j. each_at x k t new j (same_or_not j (target_of g x));
    here = λ y e. here_at x k t own others y e (same_or_not y x) (same_or_not (target_of g y) (target_of g x));
  }

  -- the connected ticket is the only one of its target
  only : (c : Connection) (x : ℕ) (l : ConnectionState) → (ts (target_of g x)).link ≡ TaskConnected c → c.task.ticket ≡ x → (y : ℕ) → y ≢ x → target_of g y ≡ target_of g x → (ks y).life ≡ Connected → AtLink l y
  only c x l working own y d f e =
      let a = subst (λ z. AtLink z y) working (subst (λ z. AtLink (ts z).link y) f (h.here y e)) in absurd (d (sym a ∙ own))

  nobody : (i : ℕ) → IsIdle (ts i).link → (y : ℕ) → target_of g y ≡ i → (ks y).life ≡ Connected → ⊥
  nobody i idle y f e = gone (ts i).link idle (subst (λ z. AtLink (ts z).link y) f (h.here y e))
    where
      gone : (l : ConnectionState) → IsIdle l → AtLink l y → ⊥
      gone BusFree s a = a
      gone (connection_state.Selected b) s a = a
      gone (TakingCommand n b) s a = a
      gone (TaskConnected c) s a = s
      gone (RogueConnected s n) z a = a

  work-of : (i : ℕ) (c : Connection) → (ts i).link ≡ TaskConnected c → c.task.senses ≡ false → IsAtWork g i ks (ts i) c
  work-of i c working free = subst (λ b. WorkKept b g i ks (ts i) c) free (subst (λ l. LinkKept l g i ks (ts i)) working (h.each i).link)

  asking-of : (i : ℕ) (c : Connection) → (ts i).link ≡ TaskConnected c → c.task.senses ≡ true → IsAsking g i ks (ts i) c
  asking-of i c working free = subst (λ b. WorkKept b g i ks (ts i) c) free (subst (λ l. LinkKept l g i ks (ts i)) working (h.each i).link)

  -- a call of the target that a task is connected to
  calls : (i : ℕ) (c : Connection) (k : Ticket) (t : Target) → (ts i).link ≡ TaskConnected c → (g.units (unit_of g c.task.ticket)).target ≡ i → TargetKept g count i (with_at ks c.task.ticket k) t → (k.life ≡ Connected → AtLink t.link c.task.ticket)
      → AllKept g count (with_at ks c.task.ticket k) (with_at ts i t)
  calls i c k t working e new own =
      subst (λ z. AllKept g count (with_at ks c.task.ticket k) (with_at ts z t)) e
      (changed c.task.ticket k t (subst (λ z. TargetKept g count z (with_at ks c.task.ticket k) t) (sym e) new) own
      (only c c.task.ticket t.link (ap (λ z. (ts z).link) e ∙ working) refl))

  -- nothing of tickets changes, and no task is connected
  pub relinked : (i : ℕ) (l : ConnectionState) → IsIdle (ts i).link → IsIdle l → MayLink g i l → AllKept g count ks (with_at ts i (linked (ts i) l))
  relinked i l idle next may = record { each = λ j. at j (same_or_not j i); here = λ x e. there x e (same_or_not (target_of g x) i) }
    where
      free : (l : ConnectionState) → IsIdle l → MayLink g i l → (t : Target) → LinkKept l g i ks t
      free BusFree s m t = tt
      free (connection_state.Selected b) s m t = tt
      free (TakingCommand n b) s m t = tt
      free (TaskConnected c) s m t = absurd s
      free (RogueConnected z n) s m t = m

      at : (j : ℕ) → (j ≡ i) ⊎ (j ≢ i) → TargetKept g count j ks (with_at ts i (linked (ts i) l) j)
      at j (inl q) = subst (TargetKept g count j ks) (sym (ap (with_at ts i (linked (ts i) l)) q ∙ with_at-same ts i (linked (ts i) l)))
          (subst (λ z. TargetKept g count z ks (linked (ts i) l)) (sym q) (record { units = (h.each i).units; link = free l next may (linked (ts i) l) }))
      at j (inr d) = subst (TargetKept g count j ks) (sym (with_at-other ts i (linked (ts i) l) j d)) (h.each j)

      there : (x : ℕ) → (ks x).life ≡ Connected → (target_of g x ≡ i) ⊎ (target_of g x ≢ i) → AtLink (with_at ts i (linked (ts i) l) (target_of g x)).link x
      there x e (inl q) = absurd (nobody i idle x q e)
      there x e (inr d) = subst (λ z. AtLink z.link x) (sym (with_at-other ts i (linked (ts i) l) (target_of g x) d)) (h.here x e)

  work_at : (x : ℕ) (k : Ticket) → ((ks x).life ≡ Connected → (k.life ≡ Connected) × (k.task ≡ (ks x).task)) → ((ks x).life ≡ AskConnected → (k.life ≡ AskConnected) × (k.area ≡ (ks x).area) × (k.tag ≡ (ks x).tag)) → (b : Bool) (j : ℕ)
      (c : Connection) (t : Target) → (c.task.ticket ≡ x) ⊎ (c.task.ticket ≢ x) → WorkKept b g j ks t c → WorkKept b g j (with_at ks x k) t c
  work_at x k f o false j c t (inl q) w =
      let m : with_at ks x k c.task.ticket ≡ k = ap (with_at ks x k) q ∙ with_at-same ks x k in
      let z = f (ap (λ y. (ks y).life) (sym q) ∙ w.life) in
      record { target = w.target; lun = w.lun; life = ap (λ y. y.life) m ∙ z.0; task = ap (λ y. y.task) m ∙ z.1 ∙ ap (λ y. (ks y).task) (sym q) ∙ w.task; sound = w.sound; worth = w.worth }
  work_at x k f o true j c t (inl q) w =
      let m : with_at ks x k c.task.ticket ≡ k = ap (with_at ks x k) q ∙ with_at-same ks x k in
      let z = o (ap (λ y. (ks y).life) (sym q) ∙ w.life) in
      let e : (ks c.task.ticket).area ≡ (with_at ks x k c.task.ticket).area = ap (λ y. (ks y).area) q ∙ sym z.1 ∙ sym (ap (λ y. y.area) m) in
      record { target = w.target; lun = w.lun; life = ap (λ y. y.life) m ∙ z.0; tag = ap (λ y. y.tag) m ∙ z.2 ∙ ap (λ y. (ks y).tag) (sym q) ∙ w.tag; sound = w.sound; shows = w.shows; start = w.start; asks = λ u there. subst (λ a. AsksTask u.plain c.task a w.start) e (w.asks u there) }
  work_at x k f o false j c t (inr d) w =
      let m = with_at-other ks x k c.task.ticket d in
      record { target = w.target; lun = w.lun; life = ap (λ y. y.life) m ∙ w.life; task = ap (λ y. y.task) m ∙ w.task; sound = w.sound; worth = w.worth }
  work_at x k f o true j c t (inr d) w =
      let m = with_at-other ks x k c.task.ticket d in
      record { target = w.target; lun = w.lun; life = ap (λ y. y.life) m ∙ w.life; tag = ap (λ y. y.tag) m ∙ w.tag; sound = w.sound; shows = w.shows; start = w.start; asks = λ u there. subst (λ y. AsksTask u.plain c.task y.area w.start) (sym m) (w.asks u there) }

  link_at : (x : ℕ) (k : Ticket) → ((ks x).life ≡ Connected → (k.life ≡ Connected) × (k.task ≡ (ks x).task)) → ((ks x).life ≡ AskConnected → (k.life ≡ AskConnected) × (k.area ≡ (ks x).area) × (k.tag ≡ (ks x).tag)) → (j : ℕ) (l : ConnectionState)
      (t : Target) → LinkKept l g j ks t → LinkKept l g j (with_at ks x k) t
  link_at x k f o j BusFree t w = tt
  link_at x k f o j (connection_state.Selected b) t w = tt
  link_at x k f o j (TakingCommand n b) t w = tt
  link_at x k f o j (RogueConnected s n) t w = w
  link_at x k f o j (TaskConnected c) t w = work_at x k f o c.task.senses j c t (same_or_not c.task.ticket x) w

  -- a ticket alone changes
  ticket-changed : (x : ℕ) (k : Ticket) → ((u : LogicalUnit) → unit_at (ts (target_of g x)).units (g.units (unit_of g x)).lun ≡ Some u → UnitKept g (unit_of g x) ks u → UnitKept g (unit_of g x) (with_at ks x k) u)
      → ((ks x).life ≡ Connected → (k.life ≡ Connected) × (k.task ≡ (ks x).task)) → ((ks x).life ≡ AskConnected → (k.life ≡ AskConnected) × (k.area ≡ (ks x).area) × (k.tag ≡ (ks x).tag)) → (k.life ≡ Connected → (ks x).life ≡ Connected)
      → AllKept g count (with_at ks x k) ts
  ticket-changed x k f p o q = record {
    each = λ j. record { units = λ n less target. at j n less target (same_or_not n (unit_of g x)); link = link_at x k p o j (ts j).link (ts j) (h.each j).link };
    here = λ y e. there y e (same_or_not y x);
  }
    where
      at : (j n : ℕ) → n < count → (g.units n).target ≡ j → (n ≡ unit_of g x) ⊎ (n ≢ unit_of g x) → (u : LogicalUnit) × (unit_at (ts j).units (g.units n).lun ≡ Some u) × UnitKept g n (with_at ks x k) u
      at j n less target (inl e) =
          let old = (h.each j).units n less target in
          let i : j ≡ target_of g x = sym target ∙ ap (λ m. (g.units m).target) e in
          (old.0, old.1, subst (λ m. UnitKept g m (with_at ks x k) old.0) (sym e) (f old.0 (ap (λ z. unit_at (ts z).units (g.units (unit_of g x)).lun) (sym i) ∙ ap (λ m. unit_at (ts j).units (g.units m).lun) (sym e) ∙ old.1) (subst (λ m. UnitKept g m ks old.0) e old.2)))
      at j n less target (inr d) = let old = (h.each j).units n less target in (old.0, old.1, unit-elsewhere g n ks x k old.0 (λ z. d (sym z)) old.2)

      there : (y : ℕ) → (with_at ks x k y).life ≡ Connected → (y ≡ x) ⊎ (y ≢ x) → AtLink (ts (target_of g y)).link y
      there y e (inl z) = h.here y (ap (λ w. (ks w).life) z ∙ q (ap (λ w. w.life) (sym (ap (with_at ks x k) z ∙ with_at-same ks x k)) ∙ e))
      there y e (inr d) = h.here y (ap (λ w. w.life) (sym (with_at-other ks x k y d)) ∙ e)

  alone-keeps : (x : ℕ) (k : Ticket) (u : LogicalUnit) → unit_at (ts (target_of g x)).units (g.units (unit_of g x)).lun ≡ Some u → TicketMove g x (view_for g x u.log) (ks x) k → AllKept g count (with_at ks x k) ts
  alone-keeps x k u there m =
      let n = taskless g x (ks x) u.log k m in
      let a = without (ks x).life n.0 in
      let b = without k.life n.1 in
      ticket-changed x k (λ v e kept. let same : u ≡ v = same_Some u v (sym there ∙ e) in
      unit-ticket-changed g ks x k v a.1 b.1 (subst (λ w. TicketKept g x k w.log) same (stands-on g x (ks x) u.log k m (subst (λ w. TicketKept g x (ks x) w.log) (sym same) (kept.each x refl)))) kept)
      (λ e. absurd (a.0 e)) (λ e. absurd (a.2 e)) (λ e. absurd (b.0 e))

  points-keep : (x lastp savep : ℕ) → (ks x).life ≡ Connected → AllKept g count (with_at ks x (pointed_ticket (ks x) lastp savep)) ts
  points-keep x lastp savep e = ticket-changed x (pointed_ticket (ks x) lastp savep)
      (λ v there kept. unit-ticket-changed g ks x (pointed_ticket (ks x) lastp savep) v (λ a. apart (sym e ∙ a)) (λ a. apart (sym e ∙ a)) (again g x (ks x) (pointed_ticket (ks x) lastp savep) v.log e e (refl, refl, refl) (kept.each x refl) (λ r. r)) kept)
      (λ f. (f, refl)) (λ f. (f, refl, refl)) (λ f. f)
    where
      apart : Connected ≡ Away → ⊥
      apart q = cc

  -- a reset of one target
  resets : (i : ℕ) (b : ResetCause) (ns : ℕ → Ticket) → TargetKept g count i (reset_tickets g i b (ts i) ns) (target_reset (ts i)) → ((x : ℕ) → target_of g x ≢ i → ns x ≡ ks x)
      → AllKept g count (reset_tickets g i b (ts i) ns) (with_at ts i (target_reset (ts i)))
  resets i b ns new same = record { each = λ j. at j (same_or_not j i); here = λ x e. there x e (same_or_not (target_of g x) i) }
    where
      agree : (x : ℕ) → target_of g x ≢ i → reset_tickets g i b (ts i) ns x ≡ ks x
      agree x d = ap (λ z. reset_ticket z b (tally x (log_of g (ts i) x)).ends (ns x)) (ne-test (target_of g x) i d) ∙ same x d

      at : (j : ℕ) → (j ≡ i) ⊎ (j ≢ i) → TargetKept g count j (reset_tickets g i b (ts i) ns) (with_at ts i (target_reset (ts i)) j)
      at j (inl q) = subst (TargetKept g count j (reset_tickets g i b (ts i) ns)) (sym (ap (with_at ts i (target_reset (ts i))) q ∙ with_at-same ts i (target_reset (ts i)))) (subst (λ z. TargetKept g count z (reset_tickets g i b (ts i) ns) (target_reset (ts i))) (sym q) new)
      at j (inr d) = subst (TargetKept g count j (reset_tickets g i b (ts i) ns)) (sym (with_at-other ts i (target_reset (ts i)) j d)) (record {
        units = λ n less target. let old = (h.each j).units n less target in
            (old.0, old.1, unit-agrees g n ks (reset_tickets g i b (ts i) ns) old.0 (λ x e. agree x (λ q. d (sym target ∙ ap (λ z. (g.units z).target) (sym e) ∙ q))) old.2);
        link = link-agrees (ts j).link g j ks (reset_tickets g i b (ts i) ns) (ts j) (λ x e. agree x (λ q. d (sym e ∙ q))) (h.each j).link;
      })

      front : (z : ResetCause) → front_life z ≡ Connected → ⊥
      front ByBus e = cc
      front ByDevice e = cc

      dead : (l : Life) → lost_life b l ≡ Connected → ⊥
      dead Unbuilt e = cc
      dead Built e = cc
      dead Linked e = cc
      dead ToRequeue e = cc
      dead Waits e = cc
      dead Selected e = cc
      dead Connected e = cc
      dead Away e = cc
      dead Lost e = cc
      dead (Rejected st) e = cc
      dead (Finished o) e = cc
      dead Checked e = cc
      dead Asks e = front b e
      dead AskStarts e = cc
      dead AskConnected e = cc
      dead AskLost e = cc
      dead Asked e = cc
      dead AtRogue e = cc
      dead (Ended o) e = cc
      dead (Unlinked o) e = cc
      dead (Freed o) e = cc

      there : (x : ℕ) → (reset_tickets g i b (ts i) ns x).life ≡ Connected → (target_of g x ≡ i) ⊎ (target_of g x ≢ i) → AtLink (with_at ts i (target_reset (ts i)) (target_of g x)).link x
      there x e (inl q) = absurd (dead (ns x).life (ap (λ k. k.life) (sym (ap (λ z. reset_ticket z b (tally x (log_of g (ts i) x)).ends (ns x)) (ap (λ z. nat_eq z i) q ∙ eq-test i))) ∙ e))
      there x e (inr d) = subst (λ z. AtLink z.link x) (sym (with_at-other ts i (target_reset (ts i)) (target_of g x) d)) (h.here x (ap (λ k. k.life) (sym (agree x d)) ∙ e))

  idle-parts : (i : ℕ) → IsIdle (ts i).link → (l : ConnectionState) → l ≡ (ts i).link → parted l (ts i) ≡ ts i
  idle-parts i idle BusFree e = refl
  idle-parts i idle (connection_state.Selected b) e = refl
  idle-parts i idle (TakingCommand n b) e = refl
  idle-parts i idle (TaskConnected c) e = absurd (subst IsIdle (sym e) idle)
  idle-parts i idle (RogueConnected s n) e = refl

  acts-link : (i : ℕ) (c : Connection) (u : LogicalUnit) (m : Move) → (ts i).link ≡ TaskConnected c → unit_at (ts i).units c.lun ≡ Some u → target_acted (ts i) m ≡ goes_on (ts i) c u (acted m (session u c))
  unfolding target_acted
  acts-link i c u m working there = ap (λ l. acted_by l (ts i) m) working ∙ at-lun (ts i) c.lun _ u there

sent-ticket : (sh : TaskPhase) (c : Connection) → (sent_by sh c).task.ticket ≡ c.task.ticket
sent-ticket ToChoose c = refl
sent-ticket MessageOut c = refl
sent-ticket (DataIn n) c = refl
sent-ticket (DataOut n) c = refl
sent-ticket (Status v) c = refl
sent-ticket (MessageIn n s) c = refl

heard-ticket : (n : TargetMessage) (c : Connection) → (heard_by n c).task.ticket ≡ c.task.ticket
heard-ticket (Reselection part.Identify) c = refl
heard-ticket (Reselection part.SimpleQueueTag) c = refl
heard-ticket (Reselection part.Tag) c = refl
heard-ticket (CommandComplete v) c = refl
heard-ticket SaveThenDisconnect c = refl
heard-ticket SaveDataPointer c = refl
heard-ticket RestorePointers c = refl
heard-ticket Disconnect c = refl

closing-life : (v : Completion) (g : Plan) (t : ℕ) (k : Ticket) (s : Session) (j : Ticket) → CompletesTicket v g t k s j → j.life ≡ Connected → ⊥
closing-life (HasAnswered st) g t k s j z e = let q : Finished Done ≡ Connected = sym (ap (λ y. y.life) z.2) ∙ e in cc
closing-life (Refused st) g t k s j z e = let q : Rejected st ≡ Connected = sym (ap (λ y. y.life) z.1) ∙ e in cc

-- a choice of the unit
acts-keep : (g : Plan) (count : ℕ) (plan : IsPlan g count) (ks : ℕ → Ticket) (ts : ℕ → Target) (h : AllKept g count ks ts) (i : ℕ) (c : Connection) (u : LogicalUnit) (m : Move) (limit refused : ℕ) → (ts i).link ≡ TaskConnected c
    → unit_at (ts i).units c.lun ≡ Some u → c.shows ≡ ToChoose → Can m (session u c) limit refused → (b : Bool) → c.task.senses ≡ b
    → AllKept g count (with_at ks c.task.ticket (record (ks c.task.ticket) { task = (acted m (session u c)).task })) (with_at ts i (target_acted (ts i) m))
acts-keep g count plan ks ts h i c u m limit refused w there e can false free =
    let own = (follows g c.task.ticket _ _ _ (session u c) refl (runs g count plan i ks (ts i) (h.each i) c w free u there) (kept g count plan i ks (ts i) (h.each i) c w free u there).plain
    ((at g count plan i ks (ts i) (h.each i) c w free u there).sound u there).task m).ticket in
    calls g count plan ks ts h i c _ (target_acted (ts i) m) w (work-of g count plan ks ts h i c w free).target (acted-kept g count plan i ks (ts i) (h.each i) c w free u there m limit refused e can)
    (λ z. subst (λ t. AtLink t.link c.task.ticket) (sym (acts-link g count plan ks ts h i c u m w there)) own)
acts-keep g count plan ks ts h i c u m limit refused w there e can true free =
    calls g count plan ks ts h i c _ (target_acted (ts i) m) w (asking-of g count plan ks ts h i c w free).target (ask-acted g count plan i ks (ts i) (h.each i) c w free u there m limit refused can)
    (λ z. absurd (let y : AskConnected ≡ Connected = sym (asking-of g count plan ks ts h i c w free).life ∙ z in cc))

asked-life : (sh : TaskPhase) (k : Ticket) (place b : ℕ) (x : Task) → k.life ≡ AskConnected → (ticket_asked sh place b k x).life ≡ AskConnected
asked-life ToChoose k place b x e = e
asked-life MessageOut k place b x e = e
asked-life (DataIn n) k place b x e = e
asked-life (DataOut n) k place b x e = e
asked-life (Status v) k place b x e = e
asked-life (MessageIn n s) k place b x e = e

-- every move
pub keeps : (g : Plan) (count : ℕ) → IsPlan g count → (ks : ℕ → Ticket) (ts : ℕ → Target) (ns : ℕ → Ticket) (us : ℕ → Target) → Moves g count ks ts ns us → AllKept g count ks ts → AllKept g count ns us
keeps g count plan ks ts ns us (alone x k u e m) h = alone-keeps g count plan ks ts h x k u e m
keeps g count plan ks ts ns us (points x lastp savep e) h = points-keep g count plan ks ts h x lastp savep e
keeps g count plan ks ts ns us (marks x can) h = ticket-changed g count plan ks ts h x (marked_ticket (ks x))
    (λ u there kept. unit-same-life g ks x (marked_ticket (ks x)) u refl refl (marked-kept g x (ks x) u.log can (kept.each x refl)) kept) (λ e. (e, refl)) (λ e. (e, refl, refl)) (λ e. e)
keeps g count plan ks ts ns us (relinks i l e f may) h = relinked g count plan ks ts h i l e f may
keeps g count plan ks ts ns us (acts i c u m w there e can) h = acts-keep g count plan ks ts h i c u m u.rig.refusals (refused_so_far u c.task.ticket) w there e can c.task.senses refl
keeps g count plan ks ts ns us (sends i c at b w free e byte) h =
    calls g count plan ks ts h i c _ _ w (work-of g count plan ks ts h i c w free).target (byte-in g count plan i ks (ts i) (h.each i) c w free at b e byte) (λ z. sent-ticket c.shows c)
keeps g count plan ks ts ns us (receives i c n at b w free e f byte) h =
    calls g count plan ks ts h i c _ _ w (work-of g count plan ks ts h i c w free).target (byte-out g count plan i ks (ts i) (h.each i) c w free n at b e f byte) (λ z. refl)
keeps g count plan ks ts ns us (hears i c n s w free e d f) h =
    calls g count plan ks ts h i c _ _ w (work-of g count plan ks ts h i c w free).target (heard g count plan i ks (ts i) (h.each i) c w free n s e d f) (λ z. heard-ticket n c)
keeps g count plan ks ts ns us (listens i c bytes w free) h =
    calls g count plan ks ts h i c _ _ w (work-of g count plan ks ts h i c w free).target (listened g count plan i ks (ts i) (h.each i) c w free bytes) (λ z. refl)
keeps g count plan ks ts ns us (leaves_bus i c u w free there e) h =
    calls g count plan ks ts h i c _ _ w (work-of g count plan ks ts h i c w free).target (leaves-kept g count plan i ks (ts i) (h.each i) c w free u there e) (λ z. absurd (let q : Away ≡ Connected = z in cc))
keeps g count plan ks ts ns us (completes i c u v s k w free there e z) h =
    calls g count plan ks ts h i c _ _ w (work-of g count plan ks ts h i c w free).target (ends-kept g count plan i ks (ts i) (h.each i) c w free u there v s e k z)
    (λ y. absurd (closing-life v g c.task.ticket (ks c.task.ticket) (session u c) k z y))
keeps g count plan ks ts ns us (drops_task i c u w free there e) h =
    calls g count plan ks ts h i c _ _ w (work-of g count plan ks ts h i c w free).target (drops-kept g count plan i ks (ts i) (h.each i) c w free u there e) (λ z. absurd (let q : Finished Cut ≡ Connected = z in cc))
keeps g count plan ks ts ns us (reselects n m u k less idle there e) h =
    let old = (h.each (g.units n).target).units n less refl in
    let same : old.0 ≡ u = same_Some old.0 u (sym old.1 ∙ there) in
    let unit : UnitKept g n ks u = subst (UnitKept g n ks) same old.2 in
    let a = away-at g n ks m u.tasks k unit.lists.tasks e in
    let f : target_of g k.ticket ≡ (g.units n).target = ap (λ z. (g.units z).target) a.unit in
    let i = (g.units n).target in
    let t = task_reselected (ts i) (g.units n).lun m u (Some k) in
    let new = record (ks k.ticket) { life = Connected; task = k } in
    subst (λ z. AllKept g count (with_at ks k.ticket new) (with_at ts z t)) f
    (changed g count plan ks ts h k.ticket new t (subst (λ z. TargetKept g count z (with_at ks k.ticket new) t) (sym f) (reselect-kept g count plan i ks (ts i) (h.each i) n less refl m u k there unit e)) (λ z. refl)
    (λ y d q l. absurd (nobody g count plan ks ts h i idle y (q ∙ f) l)))
keeps g count plan ks ts ns us (begins x n u idle there lun tag life others) h =
    let i = target_of g x in
    let t = begun (ts i) n (command (g.requests x)) u x in
    let new = record (ks x) { life = Connected; task = began n.tag x (command (g.requests x)) u.rig.disconnects (has_ended u.log x) } in
    let k = begin-kept g count plan i ks (ts i) (h.each i) x refl n u there lun tag life others in
    changed g count plan ks ts h x new t k (λ z. begin-link g count plan i ks (ts i) (h.each i) x refl n u there lun tag life others)
    (λ y d q l. absurd (nobody g count plan ks ts h i idle y q l))
keeps g count plan ks ts ns us (ask_sends i c at b w free e byte) h =
    calls g count plan ks ts h i c _ _ w (asking-of g count plan ks ts h i c w free).target (ask-sent g count plan i ks (ts i) (h.each i) c w free at b e byte)
    (λ z. absurd (let y : AskConnected ≡ Connected = sym (asked-life c.shows (ks c.task.ticket) at b _ (asking-of g count plan ks ts h i c w free).life) ∙ z in cc))
keeps g count plan ks ts ns us (ask_completes i c u v s w free there e) h =
    calls g count plan ks ts h i c _ _ w (asking-of g count plan ks ts h i c w free).target (ask-completed g count plan i ks (ts i) (h.each i) c w free u there v s e) (λ z. absurd (let q : Asked ≡ Connected = z in cc))
keeps g count plan ks ts ns us (ask_begins x n u idle there lun tag life others) h =
    let i = target_of g x in
    let t = begun (ts i) n (RequestSense 18) u x in
    let new = record (ks x) { life = AskConnected; task = began n.tag x (RequestSense 18) u.rig.disconnects (has_ended u.log x) } in
    changed g count plan ks ts h x new t (ask-begun g count plan i ks (ts i) (h.each i) x refl n u there lun tag life others) (λ z. absurd (let q : AskConnected ≡ Connected = z in cc))
    (λ y d q l. absurd (nobody g count plan ks ts h i idle y q l))
keeps g count plan ks ts ns us (resets_idle i b idle can) h =
    resets g count plan ks ts h i b ks (idle-reset g count plan i b ks (ts i) (h.each i) can (idle-parts g count plan ks ts h i idle) (λ x e l. nobody g count plan ks ts h i idle x e l)) (λ x d. refl)
keeps g count plan ks ts ns us (resets_work i b c u w free there can) h =
    resets g count plan ks ts h i b (with_at ks c.task.ticket (parts_ticket ks c))
    (work-reset g count plan i b ks (ts i) (h.each i) can c w free u there (λ x e l. sym (subst (λ z. AtLink z x) w (subst (λ z. AtLink (ts z).link x) e (h.here x l)))))
    (λ x d. with_at-other ks c.task.ticket (parts_ticket ks c) x (λ q. d (ap (target_of g) q ∙ (work-of g count plan ks ts h i c w free).target)))
keeps g count plan ks ts ns us (resets_asking i c u w free there) h =
    let a = asking-of g count plan ks ts h i c w free in
    resets g count plan ks ts h i ByBus ks (asking-reset g count plan i ks (ts i) (h.each i) c w free u there
    (λ x e l. let own : c.task.ticket ≡ x = subst (λ z. AtLink z x) w (subst (λ z. AtLink (ts z).link x) e (h.here x l)) in let y : AskConnected ≡ Connected = sym a.life ∙ ap (λ z. (ks z).life) own ∙ l in cc))
    (λ x d. refl)
