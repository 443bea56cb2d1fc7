-- A reset of one target: the tasks of its units are dropped, and each unit is cleared. Tickets of other targets stay.
use Rattle.std.proofs.Common.{◌≡◌, ◌≢◌, ℕ, ◌+◌, ◌-◌, ◌≤◌, nat_lt, Bool, true, false, List, [], ◌∷◌, ◌++◌, map, take, refl, ap, arith, sym, ◌∙◌, subst, Option, Some, None, ◌⊎◌, inl, inr, nat_eq, option_map}
use Rattle.std.specs.Prelude.{slice_get, fold, ◌&&◌, ◌||◌}
use Rattle.std.proofs.lemmas.Option.{slice_get-map}
use Rattle.std.proofs.lemmas.Option.{same_Some}
use Rattle.scsi_words.specs.declared.phases.kinds.Direction.TheVariants.{Out}
use Rattle.cdb_codec.specs.Forms.{need_of}
use Rattle.rig_types.specs.declared.report.Outcome.{Outcome}
use Rattle.rig_types.specs.declared.report.Outcome.TheVariants.{Done, Cut, Reset, NoTarget, Broken}
use Rattle.rig_types.specs.declared.report.Report.{Report}
use Rattle.plain_lun.specs.Losing.{dropped, cleared}
use Rattle.unit_law.specs.declared.entry.LogEntry.{LogEntry}
use Rattle.unit_law.specs.declared.entry.LogEntry.TheVariants.{Drop, Clear}
use Rattle.unit_law.specs.Request.{RequestData, command, received_of}
use Rattle.unit_law.specs.Log.{Tally, View, run_log, with_at, noted, if_of, tally}
use Rattle.unit_law.specs.Report.{UnitSetting, Fits, By, ByLoss, holding, data_of}
use Rattle.unit_law.proofs.Views.{run-push, tally-push, tally-clear, same_or_not, eq-test, with_at-same, with_at-other}
use Rattle.target_law.specs.Session.{Task}
use Rattle.target_law.specs.Bytes.{Connection, away}
use Rattle.target_law.specs.Sound.{IsWaiting}
use Rattle.target_law.specs.Target as connection_state
use Rattle.target_law.specs.Target.{LogicalUnit, ConnectionState, BusFree, TakingCommand, TaskConnected, RogueConnected, Target, flat, unit_at, with_unit, drops, drops_by, unit_reset, slot_reset, parted, target_reset, leaves, unit_left}
use Rattle.logs_have_room.specs.Room.{entries}
use Rattle.ticket_fate.specs.Tickets.{Plan, unit_of, opening, setting, Life, Unbuilt, Built, Linked, ToRequeue, Waits, Selected, Connected, Away, Lost, Rejected, Finished, Checked, Asks, AskStarts, AskConnected, AskLost, Asked, AtRogue, Ended, Unlinked, Freed, is_live, Ticket, history_at, report_of, view_for}
use Rattle.ticket_fate.specs.Fates.{OnlyRefusals, AllRefused, HasTask, ReportFits, FreedReportFits, Fate, NeedsNone, TicketKept}
use Rattle.ticket_fate.specs.Moves.{parts_ticket}
use Rattle.ticket_fate.specs.Senses.{Unasked, ToAsk, HasAsked, SenseOfReportFits, SenseFate, AsksTask}
use Rattle.ticket_fate.specs.Linked.{IsPlan, HasTaskOf, HasNoTaskOf, AwayTasks, UnitKept, UnitsKept, TargetKept, WorkKept, LinkKept, ResetCause, ByBus, ByDevice, CanReset, lost_life, flagged, lost_ticket, reset_ticket, log_in, log_of, reset_tickets}
use Rattle.ticket_fate.proofs.Views.{grows-view, view-is}
use Rattle.ticket_fate.proofs.TicketSteps.{fate_at, sense_at, needs, held-none}
use Rattle.ticket_fate.proofs.SenseLives.{unasked-entry}
use Rattle.ticket_fate.proofs.ReceivedBytes.{dropped-same}
use Rattle.ticket_fate.proofs.DataBytes.{pointed}
use Rattle.ticket_fate.proofs.LastEntries.{drop-loss}
use Rattle.ticket_fate.proofs.TaskLists.{lists-leave}
use Rattle.ticket_fate.proofs.Targets.{at-lun, at, kept, runs, unit-same, unit-other}
use Rattle.ticket_fate.proofs.TaskEnds.{frees}
use Rattle.unit_task.proofs.SoundTasks.{away-waits}

-- the drops of others change no view
drop-view : (g : Plan) (x : ℕ) (b : Bool) (u : LogicalUnit) (k : Task) → (k.ticket ≡ x → ⊥) → view_for g x (drops_by b u k).log ≡ view_for g x u.log
drop-view g x true u k d = refl
drop-view g x false u k d = let e : x ≢ k.ticket = λ q. d (sym q) in grows-view g x k.ticket u.log (u.log ++ Drop k.ticket k.high ∷ []) (inr (Drop k.ticket k.high, refl, refl)) e

others : (g : Plan) (x : ℕ) (ks : List Task) (u : LogicalUnit) → HasNoTaskOf x ks → view_for g x (fold drops u ks).log ≡ view_for g x u.log
others g x [] u d = refl
others g x (k ∷ ks) u d = others g x ks (drops u k) d.1 ∙ drop-view g x k.senses u k d.0

-- what a dropped task leaves, before the unit is cleared
record Dropped (g : Plan) (x : ℕ) (k : Ticket) (v : View) : Type 0 where
  pub loss : ByLoss (g.requests x) v (report_of x (g.requests x) k.status k.lastp k.tries k.buffer [] Reset)
  pub most : k.tries ≤ g.retries + 1

drops-one : (g : Plan) (x : ℕ) (k : Ticket) (j : Task) (b : Bool) (u : LogicalUnit) → j.senses ≡ b → j.ticket ≡ x → HasTask g.retries (g.requests x) k.tag k.tries k.buffer j (view_for g x u.log)
    → Dropped g x k (view_for g x (drops_by b u j).log)
drops-one g x k j true u e own q = let f = q.plain in cc
drops-one g x k j false u e own q =
    subst (λ y. Dropped g x k (view_for g x (u.log ++ Drop y j.high ∷ []))) (sym own) (record {
      loss = drop-loss g x k j u.log q (report_of x (g.requests x) k.status k.lastp k.tries k.buffer [] Reset) refl refl refl refl;
      most = q.most;
    })

-- one of the tasks that are dropped
drops-in : (g : Plan) (n : ℕ) (x : ℕ) (tickets : ℕ → Ticket) (ks : List Task) (u : LogicalUnit) → AwayTasks g n tickets ks → HasTaskOf x ks
    → HasTask g.retries (g.requests x) (tickets x).tag (tickets x).tries (tickets x).buffer (tickets x).task (view_for g x u.log) → Dropped g x (tickets x) (view_for g x (fold drops u ks).log)
drops-in g n x tickets [] u h at q = absurd at
drops-in g n x tickets (j ∷ js) u h (inl e) q =
    let same : (tickets x).task ≡ j = ap (λ y. (tickets y).task) (sym e) ∙ h.0.task in
    let one = drops-one g x (tickets x) j j.senses u refl e (subst (λ y. HasTask g.retries (g.requests x) (tickets x).tag (tickets x).tries (tickets x).buffer y (view_for g x u.log)) same q) in
    subst (Dropped g x (tickets x)) (sym (others g x js (drops u j) (subst (λ y. HasNoTaskOf y js) e h.1))) one
drops-in g n x tickets (j ∷ js) u h (inr at) q =
    let apart : j.ticket ≡ x → ⊥ = λ e. no x js (subst (λ y. HasNoTaskOf y js) e h.1) at in
    drops-in g n x tickets js (drops u j) h.2 at (subst (HasTask g.retries (g.requests x) (tickets x).tag (tickets x).tries (tickets x).buffer (tickets x).task) (sym (drop-view g x j.senses u j apart)) q)
  where
    no : (y : ℕ) (ks : List Task) → HasNoTaskOf y ks → HasTaskOf y ks → ⊥
    no y [] d o = o
    no y (k ∷ ks) d (inl e) = d.0 e
    no y (k ∷ ks) d (inr o) = no y ks d.1 o

-- nothing of sense was logged by drops and a Clear
unasked-one : (g : Plan) (x : ℕ) (given : List ℕ) (b : Bool) (u : LogicalUnit) (k : Task) → Unasked given (view_for g x u.log) → Unasked given (view_for g x (drops_by b u k).log)
unasked-one g x given true u k h = h
unasked-one g x given false u k h = unasked-entry g x given u.log (Drop k.ticket k.high) tt h

unasked-drops : (g : Plan) (x : ℕ) (given : List ℕ) (ks : List Task) (u : LogicalUnit) → Unasked given (view_for g x u.log) → Unasked given (view_for g x (fold drops u ks).log)
unasked-drops g x given [] u h = h
unasked-drops g x given (k ∷ ks) u h = unasked-drops g x given ks (drops u k) (unasked-one g x given k.senses u k h)

-- the unit is what its log makes of it
record Received (g : Plan) (n : ℕ) (k : Task) : Type 0 where
  pub unit : unit_of g k.ticket ≡ n
  pub cdb : k.cdb ≡ command (g.requests k.ticket)
  pub plain : k.senses ≡ false
  pub received : (need_of k.cdb).direction ≡ Out → k.received ≡ take k.high (received_of (g.requests k.ticket))

abbrev AllReceived : Plan → ℕ → List Task → Type 0
AllReceived g n [] = Unit {0}
AllReceived g n (k ∷ ks) = Received g n k × AllReceived g n ks

received-all : (g : Plan) (n : ℕ) (tickets : ℕ → Ticket) (ks : List Task) (log : List LogEntry) → AwayTasks g n tickets ks → ((t : ℕ) → unit_of g t ≡ n → TicketKept g t (tickets t) log) → AllReceived g n ks
received-all g n tickets [] log h each = tt
received-all g n tickets (k ∷ ks) log h each =
    let f = fate_at g k.ticket (tickets k.ticket) log Away (each k.ticket h.0.unit) h.0.life in
    let q = subst (λ z. HasTask g.retries (g.requests k.ticket) (tickets k.ticket).tag (tickets k.ticket).tries (tickets k.ticket).buffer z (view_for g k.ticket log)) h.0.task f.0 in
    (record { unit = h.0.unit; cdb = q.cdb; plain = q.plain; received = q.received }, received-all g n tickets ks log h.2 each)

drop-plain : (g : Plan) (n : ℕ) (k : Task) (b : Bool) (u : LogicalUnit) → k.senses ≡ b → Received g n k → u.plain ≡ (run_log g.requests (opening g n) u.log).unit
    → (drops_by b u k).plain ≡ (run_log g.requests (opening g n) (drops_by b u k).log).unit
drop-plain g n k true u e r p = p
drop-plain g n k false u e r p =
    dropped-same u.plain k.cdb k.received (take k.high (received_of (g.requests k.ticket))) r.received
    ∙ ap (λ c. dropped u.plain c (take k.high (received_of (g.requests k.ticket)))) r.cdb
    ∙ ap (λ y. dropped y (command (g.requests k.ticket)) (take k.high (received_of (g.requests k.ticket)))) p
    ∙ sym (ap (λ y. y.unit) (run-push g.requests (opening g n) u.log (Drop k.ticket k.high)))

drops-plain : (g : Plan) (n : ℕ) (ks : List Task) (u : LogicalUnit) → AllReceived g n ks → u.plain ≡ (run_log g.requests (opening g n) u.log).unit
    → (fold drops u ks).plain ≡ (run_log g.requests (opening g n) (fold drops u ks).log).unit
drops-plain g n [] u h p = p
drops-plain g n (k ∷ ks) u h p = drops-plain g n ks (drops u k) h.1 (drop-plain g n k k.senses u refl h.0 p)

rig-drop : (b : Bool) (u : LogicalUnit) (k : Task) → (drops_by b u k).rig ≡ u.rig
rig-drop true u k = refl
rig-drop false u k = refl

rig-drops : (ks : List Task) (u : LogicalUnit) → (fold drops u ks).rig ≡ u.rig
rig-drops [] u = refl
rig-drops (k ∷ ks) u = rig-drops ks (drops u k) ∙ rig-drop k.senses u k

-- one more Clear
abbrev more : View → View
more v = record v { tally = record v.tally { clears = v.tally.clears + 1 } }

view-clear : (g : Plan) (x : ℕ) (log : List LogEntry) → view_for g x (log ++ Clear ∷ []) ≡ more (view_for g x log)
view-clear g x log =
    let p = run-push g.requests (opening g (unit_of g x)) log Clear in
    view-is (view_for g x (log ++ Clear ∷ [])) (more (view_for g x log)) (tally-clear x log) (ap (λ r. r.answers x) p) (ap (λ r. r.senses x) p)

loss-more : (r : RequestData) (v : View) (q : Report) → ByLoss r v q → ByLoss r (more v) q
loss-more r v q h = record { no_end = h.no_end; lost = h.lost; tries = h.tries; status = h.status; residual = h.residual; bytes = h.bytes }

by-more : (o : Outcome) (s : UnitSetting) (r : RequestData) (v : View) (m a b : Bool) (few many outside : ℕ) (q : Report) → few ≤ many → By o s r v (history_at m few a outside) q
    → By o s r (more v) (history_at m many b outside) q
by-more Done s r v m a b few many outside q l (inl h) = inl (record { one_end = h.one_end; no_drop = h.no_drop; tries = h.tries; given = h.given })
by-more Done s r v m a b few many outside q l (inr h) =
    inr (record { no_look = h.no_look; no_end = h.no_end; no_drop = h.no_drop; no_sense = h.no_sense; tries = h.tries; all_tries = h.all_tries; status = h.status; residual = h.residual; bytes = h.bytes })
by-more Cut s r v m a b few many outside q l h = (loss-more r v q h.0, h.1)
by-more Reset s r v m a b few many outside q l h = (loss-more r v q h.0, omega (arith, h.1))
by-more NoTarget s r v m a b few many outside q l h = record {
  absent = h.absent;
  no_refusal = h.no_refusal;
  no_look = h.no_look;
  no_end = h.no_end;
  no_drop = h.no_drop;
  no_sense = h.no_sense;
  tries = h.tries;
  status = h.status;
  residual = h.residual;
  bytes = h.bytes;
}
by-more Broken s r v m a b few many outside q l h = h

-- a report that fits still fits after one more Clear, with as many Clears in its history or more
fits-more : (g : Plan) (t : ℕ) (k : Ticket) (v : View) (o : Outcome) (b : Bool) (few many outside : ℕ) → few ≤ many
    → Fits (setting g (unit_of g t)) t (g.requests t) v (history_at k.marked few k.bus_reset outside) (report_of t (g.requests t) k.status k.lastp k.tries k.buffer [] o)
    → Fits (setting g (unit_of g t)) t (g.requests t) (more v) (history_at k.marked many b outside) (report_of t (g.requests t) k.status k.lastp k.tries k.buffer [] o)
fits-more g t k v o b few many outside l f = λ rogue.
    let h = f rogue in
    record {
      by = by-more o (setting g (unit_of g t)) (g.requests t) v k.marked k.bus_reset b few many outside _ l h.by;
      ticket = refl;
      of_unit = refl;
      few_tries = h.few_tries;
      all_within = h.all_within;
      all_caused = refl;
    }

report-more : (g : Plan) (t : ℕ) (k : Ticket) (v : View) (b : Bool) (o : Outcome) → ReportFits g t k v o → ReportFits g t (record k { bus_reset = b }) (more v) o
report-more g t k v b o f = fits-more g t k v o b (v.tally.clears - k.since) (v.tally.clears + 1 - k.since) 0 (omega arith) f

freed-more : (g : Plan) (t : ℕ) (k : Ticket) (v : View) (b : Bool) (o : Outcome) → FreedReportFits g t k v o → FreedReportFits g t (record k { bus_reset = b }) (more v) o
freed-more g t k v b o f = fits-more g t k v o b k.clears k.clears (k.before + (entries v.tally - k.logged)) (omega arith) f

refusals-more : (v : View) (n : ℕ) → OnlyRefusals v n → OnlyRefusals (more v) n
refusals-more v n q = record { refusals = q.refusals; looks = q.looks; ends = q.ends; drops = q.drops; high = q.high; senses = q.senses; answer = q.answer }

all-refused-more : (r : RequestData) (tries : ℕ) (buffer : List ℕ) (v : View) → AllRefused r tries buffer v → AllRefused r tries buffer (more v)
all-refused-more r tries buffer v h = record { entries = refusals-more v tries h.entries; holds = h.holds }

-- a ticket after a reset of its target, its life apart
abbrev lost_from : ResetCause → (ends : ℕ) → Life → Ticket → Ticket
lost_from b ends l k = record k { life = lost_life b l; bus_reset = flagged b k.bus_reset ends l }

-- a fate without a task, under one more Clear
fate-more : (g : Plan) (t : ℕ) (b : ResetCause) (ends : ℕ) (l : Life) (k : Ticket) (v : View) → (l ≡ Connected → ⊥) → (l ≡ Away → ⊥) → k.since ≤ v.tally.clears → Fate g t l k v
    → Fate g t (lost_life b l) (lost_from b ends l k) (more v)
fate-more g t b e Unbuilt k v c a s h = refusals-more v 0 h
fate-more g t b e Built k v c a s h = (h.0, all-refused-more _ _ _ v h.1)
fate-more g t b e Linked k v c a s h = (h.0, all-refused-more _ _ _ v h.1)
fate-more g t b e ToRequeue k v c a s h = (h.0, all-refused-more _ _ _ v h.1)
fate-more g t b e Waits k v c a s h = record { entries = refusals-more v v.tally.refusals h.entries; tried = h.tried; most = h.most; holds = h.holds; last = h.last; saves = h.saves }
fate-more g t b e Selected k v c a s h = λ rogue. record {
  by = (
    record {
      no_end = h.entries.ends;
      lost = inr (h.entries.drops, h.entries.looks, h.entries.senses, h.entries.high);
      tries = h.tried;
      status = refl;
      residual = refl;
      bytes = h.holds ∙ sym (ap (λ m. holding (g.requests t).direction (data_of v.answer) m (g.requests t).bytes) h.entries.high ∙ held-none (g.requests t).direction (data_of v.answer) (g.requests t).bytes);
    },
    omega arith,
  );
  ticket = refl;
  of_unit = refl;
  few_tries = h.most;
  all_within = refl;
  all_caused = refl;
}
fate-more g t b e Connected k v c a s h = absurd (c refl)
fate-more g t b e Away k v c a s h = absurd (a refl)
fate-more g t b e Lost k v c a s h = report-more g t k v (flagged b k.bus_reset e Lost) Reset h
fate-more g t b e (Rejected st) k v c a s h = (h.0, h.1, h.2, h.3, all-refused-more _ _ _ v h.4)
fate-more g t b e (Finished o) k v c a s h = (report-more g t k v (flagged b k.bus_reset e (Finished o)) o h.0, h.1)
fate-more g t ByBus e Asks k v c a s h = (report-more g t k v (flagged ByBus k.bus_reset e Asks) Done h.0, h.1)
fate-more g t ByDevice e Asks k v c a s h = (report-more g t k v (flagged ByDevice k.bus_reset e Asks) Done h.0, h.1)
fate-more g t b e Checked k v c a s h = (report-more g t k v (flagged b k.bus_reset e Checked) Done h.0, h.1)
fate-more g t b e AskStarts k v c a s h = (report-more g t k v (flagged b k.bus_reset e AskStarts) Done h.0, h.1)
fate-more g t b e AskConnected k v c a s h = (report-more g t k v (flagged b k.bus_reset e AskConnected) Done h.0, h.1)
fate-more g t b e AskLost k v c a s h = (report-more g t k v (flagged b k.bus_reset e AskLost) Done h.0, h.1)
fate-more g t b e Asked k v c a s h = (report-more g t k v (flagged b k.bus_reset e Asked) Done h.0, h.1)
fate-more g t b e AtRogue k v c a s h = h
fate-more g t b e (Ended o) k v c a s h = report-more g t k v (flagged b k.bus_reset e (Ended o)) o h
fate-more g t b e (Unlinked o) k v c a s h = report-more g t k v (flagged b k.bus_reset e (Unlinked o)) o h
fate-more g t b e (Freed o) k v c a s h = freed-more g t k v (flagged b k.bus_reset e (Freed o)) o h

-- so with the sense
unasked-more : (given : List ℕ) (v : View) → Unasked given v → Unasked given (more v)
unasked-more given v h = record { senses = h.senses; early = h.early; sense = h.sense; none = h.none }

to-ask-more : (g : Plan) (given : List ℕ) (marked : Bool) (v : View) → ToAsk g given marked v → ToAsk g given marked (more v)
to-ask-more g given marked v h = record { unasked = unasked-more given v h.unasked; autosense = h.autosense; checked = h.checked; unmarked = h.unmarked }

has-asked-more : (g : Plan) (area : List ℕ) (marked : Bool) (v : View) → HasAsked g area marked v → HasAsked g area marked (more v)
has-asked-more g area marked v h = record { senses = h.senses; early = h.early; sense = h.sense; autosense = h.autosense; checked = h.checked; unmarked = h.unmarked }

sense-fits-more : (g : Plan) (t : ℕ) (k : Ticket) (v : View) (b : Bool) (o : Outcome) → (b ≡ false → k.bus_reset ≡ false) → SenseOfReportFits g t k v o → SenseOfReportFits g t (record k { bus_reset = b }) (more v) o
sense-fits-more g t k v b o l f = λ rogue.
    let h = f rogue in
    record {
      at_most_one = h.at_most_one;
      none_early = h.none_early;
      given = h.given;
      none_lost = h.none_lost;
      only_asked = λ z. let a = h.only_asked z in record { autosense = a.autosense; checked = a.checked; unmarked = a.unmarked };
      asked = λ a z. h.asked (record { autosense = a.autosense; checked = a.checked; unmarked = a.unmarked }) (l z);
    }

or-left : (a b : Bool) → (a || b) ≡ false → a ≡ false
or-left true b e = cc
or-left false b e = refl

or-right : (a b : Bool) → b ≡ true → (a || b) ≡ true
or-right true b e = refl
or-right false b e = e

flag-left : (b : ResetCause) (flag : Bool) (ends : ℕ) (l : Life) → flagged b flag ends l ≡ false → flag ≡ false
flag-left ByBus flag ends l e = or-left flag _ e
flag-left ByDevice flag ends l e = e

-- a ticket with End that is live is flagged by a bus reset
flag-set : (flag : Bool) (ends : ℕ) (l : Life) → is_live l ≡ true → ends ≡ 1 → flagged ByBus flag ends l ≡ true
flag-set flag ends l e f = or-right flag (nat_lt 0 ends && is_live l) (ap (λ n. nat_lt 0 n && is_live l) f ∙ e)

sense-more : (g : Plan) (t : ℕ) (b : ResetCause) (l : Life) (k : Ticket) (v : View) → CanReset b l → SenseFate g t l k v → SenseFate g t (lost_life b l) (lost_from b v.tally.ends l k) (more v)
sense-more g t b Unbuilt k v c h = unasked-more [] v h
sense-more g t b Built k v c h = unasked-more k.sense v h
sense-more g t b Linked k v c h = unasked-more k.sense v h
sense-more g t b ToRequeue k v c h = unasked-more k.sense v h
sense-more g t b Waits k v c h = unasked-more k.sense v h
sense-more g t b Selected k v c h = unasked-more k.sense v h
sense-more g t b Connected k v c h = unasked-more k.sense v h
sense-more g t b Away k v c h = unasked-more k.sense v h
sense-more g t b Lost k v c h = unasked-more k.sense v h
sense-more g t b (Rejected st) k v c h = unasked-more k.sense v h
sense-more g t b (Finished o) k v c h = unasked-more k.sense v h
sense-more g t b Checked k v c h = to-ask-more g k.sense k.marked v h
sense-more g t ByBus Asks k v c h = (to-ask-more g k.sense k.marked v h.0, flag-set k.bus_reset v.tally.ends Asks refl h.0.checked.0)
sense-more g t ByDevice Asks k v c h = (to-ask-more g k.sense k.marked v h.0, h.1)
sense-more g t ByBus AskStarts k v c h = (to-ask-more g k.sense k.marked v h.0, flag-set k.bus_reset v.tally.ends AskStarts refl h.0.checked.0)
sense-more g t ByDevice AskStarts k v c h = absurd c
sense-more g t ByBus AskConnected k v c h = (to-ask-more g k.sense k.marked v h, flag-set k.bus_reset v.tally.ends AskConnected refl h.checked.0)
sense-more g t ByDevice AskConnected k v c h = absurd c
sense-more g t ByBus AskLost k v c h = (to-ask-more g k.sense k.marked v h.0, flag-set k.bus_reset v.tally.ends AskLost refl h.0.checked.0)
sense-more g t ByDevice AskLost k v c h = (to-ask-more g k.sense k.marked v h.0, h.1)
sense-more g t b Asked k v c h = has-asked-more g k.area k.marked v h
sense-more g t b AtRogue k v c h = tt
sense-more g t b (Ended o) k v c h = sense-fits-more g t k v (flagged b k.bus_reset v.tally.ends (Ended o)) o (flag-left b k.bus_reset v.tally.ends (Ended o)) h
sense-more g t b (Unlinked o) k v c h = sense-fits-more g t k v (flagged b k.bus_reset v.tally.ends (Unlinked o)) o (flag-left b k.bus_reset v.tally.ends (Unlinked o)) h
sense-more g t b (Freed o) k v c h = sense-fits-more g t k v (flagged b k.bus_reset v.tally.ends (Freed o)) o (flag-left b k.bus_reset v.tally.ends (Freed o)) h

needs-lost : (b : ResetCause) (l : Life) → NeedsNone l → NeedsNone (lost_life b l)
needs-lost b Unbuilt h = tt
needs-lost b Built h = tt
needs-lost b Linked h = tt
needs-lost b ToRequeue h = tt
needs-lost b Waits h = tt
needs-lost b Selected h = h
needs-lost b Connected h = h
needs-lost b Away h = h
needs-lost b Lost h = h
needs-lost b (Rejected st) h = tt
needs-lost b (Finished o) h = tt
needs-lost b Checked h = tt
needs-lost ByBus Asks h = tt
needs-lost ByDevice Asks h = tt
needs-lost b AskStarts h = tt
needs-lost b AskConnected h = tt
needs-lost b AskLost h = tt
needs-lost b Asked h = tt
needs-lost b AtRogue h = tt
needs-lost b (Ended o) h = tt
needs-lost b (Unlinked o) h = tt
needs-lost b (Freed o) h = tt

away_or_not : (l : Life) → (l ≡ Away) ⊎ (l ≡ Away → ⊥)
away_or_not Away = inl refl
away_or_not Unbuilt = inr (λ e. cc)
away_or_not Built = inr (λ e. cc)
away_or_not Linked = inr (λ e. cc)
away_or_not ToRequeue = inr (λ e. cc)
away_or_not Waits = inr (λ e. cc)
away_or_not Selected = inr (λ e. cc)
away_or_not Connected = inr (λ e. cc)
away_or_not Lost = inr (λ e. cc)
away_or_not (Rejected st) = inr (λ e. cc)
away_or_not (Finished o) = inr (λ e. cc)
away_or_not Checked = inr (λ e. cc)
away_or_not Asks = inr (λ e. cc)
away_or_not AskStarts = inr (λ e. cc)
away_or_not AskConnected = inr (λ e. cc)
away_or_not AskLost = inr (λ e. cc)
away_or_not Asked = inr (λ e. cc)
away_or_not AtRogue = inr (λ e. cc)
away_or_not (Ended o) = inr (λ e. cc)
away_or_not (Unlinked o) = inr (λ e. cc)
away_or_not (Freed o) = inr (λ e. cc)

never-away : (b : ResetCause) (l : Life) → lost_life b l ≡ Away → ⊥
never-away b Unbuilt e = cc
never-away b Built e = cc
never-away b Linked e = cc
never-away b ToRequeue e = cc
never-away b Waits e = cc
never-away b Selected e = cc
never-away b Connected e = cc
never-away b Away e = cc
never-away b Lost e = cc
never-away b (Rejected st) e = cc
never-away b (Finished o) e = cc
never-away b Checked e = cc
never-away ByBus Asks e = cc
never-away ByDevice Asks e = cc
never-away b AskStarts e = cc
never-away b AskConnected e = cc
never-away b AskLost e = cc
never-away b Asked e = cc
never-away b AtRogue e = cc
never-away b (Ended o) e = cc
never-away b (Unlinked o) e = cc
never-away b (Freed o) e = cc

-- drops clear nothing
drop-clears : (x : ℕ) (k : Tally) (y high : ℕ) → (noted x k (Drop y high)).clears ≡ k.clears
drop-clears x k y high = by (nat_eq y x)
  where
    by : (b : Bool) → (if_of b (record k { drops = k.drops + 1; high = high }) k).clears ≡ k.clears
    by true = refl
    by false = refl

clears-one : (g : Plan) (x : ℕ) (b : Bool) (w : LogicalUnit) (j : Task) → (view_for g x (drops_by b w j).log).tally.clears ≡ (view_for g x w.log).tally.clears
clears-one g x true w j = refl
clears-one g x false w j = ap (λ k. k.clears) (tally-push x w.log (Drop j.ticket j.high)) ∙ drop-clears x (tally x w.log) j.ticket j.high

pub clears-same : (g : Plan) (x : ℕ) (ks : List Task) (w : LogicalUnit) → (view_for g x (fold drops w ks).log).tally.clears ≡ (view_for g x w.log).tally.clears
clears-same g x [] w = refl
clears-same g x (k ∷ ks) w = clears-same g x ks (drops w k) ∙ clears-one g x k.senses w k

clears-kept : (g : Plan) (x : ℕ) (ks : List Task) (w : LogicalUnit) → (view_for g x w.log).tally.clears ≤ (view_for g x (fold drops w ks).log).tally.clears
clears-kept g x ks w = omega (arith, clears-same g x ks w)

-- a ticket of a unit that is reset, where none of the unit's tickets is connected any more
module _ (g : Plan) (n : ℕ) (b : ResetCause) (tickets : ℕ → Ticket) (u : LogicalUnit) (h : UnitKept g n tickets u) (none : (x : ℕ) → unit_of g x ≡ n → (tickets x).life ≡ Connected → ⊥)
    (can : (x : ℕ) → unit_of g x ≡ n → CanReset b (tickets x).life) where
  abbrev log : List LogEntry
  log = (fold drops u u.tasks).log

  abbrev lost_at : ℕ → Life → Ticket
  lost_at x l = lost_from b (tally x u.log).ends l (tickets x)

  absent-from : (x : ℕ) (ks : List Task) → ((tickets x).life ≡ Away → ⊥) → AwayTasks g n tickets ks → HasNoTaskOf x ks
  absent-from x [] d t = tt
  absent-from x (k ∷ ks) d t = ((λ e. d (ap (λ z. (tickets z).life) (sym e) ∙ t.0.life)), absent-from x ks d t.2)

  reset-at : (x : ℕ) → unit_of g x ≡ n → ((tickets x).life ≡ Away) ⊎ ((tickets x).life ≡ Away → ⊥) → TicketKept g x (lost_at x (tickets x).life) (log ++ Clear ∷ [])
  reset-at x e (inl away) =
      let s = h.each x e in
      let k = tickets x in
      let f = fate_at g x k u.log Away s away in
      let d = drops-in g n x tickets u.tasks u h.lists.tasks (h.lists.whole x e away) f.0 in
      let clears : (view_for g x u.log).tally.clears ≤ (view_for g x log).tally.clears = clears-kept g x u.tasks u in
      let v = view-clear g x log in
      record {
        fate = subst (λ l. Fate g x (lost_life b l) (lost_at x l) (view_for g x (log ++ Clear ∷ []))) (sym away) (subst (Fate g x Lost (lost_at x Away)) (sym v) (λ rogue. record {
          by = (loss-more (g.requests x) (view_for g x log) _ d.loss, let since = s.since in omega arith);
          ticket = refl;
          of_unit = refl;
          few_tries = d.most;
          all_within = refl;
          all_caused = refl;
        }));
        sense = subst (λ l. SenseFate g x (lost_life b l) (lost_at x l) (view_for g x (log ++ Clear ∷ []))) (sym away)
            (subst (Unasked k.sense) (sym v) (unasked-more k.sense (view_for g x log) (unasked-drops g x k.sense u.tasks u (sense_at g x k u.log Away s away))));
        absent = λ a. absurd (needs g x k u.log Away s away (λ z. z) a);
        since = subst (λ z. k.since ≤ z.tally.clears) (sym v) (let since = s.since in omega arith);
        before = s.before;
      }
  reset-at x e (inr d) =
      let s = h.each x e in
      let k = tickets x in
      let same : view_for g x log ≡ view_for g x u.log = others g x u.tasks u (absent-from x u.tasks d h.lists.tasks) in
      let v : view_for g x (log ++ Clear ∷ []) ≡ more (view_for g x u.log) = view-clear g x log ∙ ap more same in
      record {
        fate = subst (Fate g x (lost_life b k.life) (lost_at x k.life)) (sym v) (fate-more g x b (tally x u.log).ends k.life k (view_for g x u.log) (none x e) d s.since s.fate);
        sense = subst (SenseFate g x (lost_life b k.life) (lost_at x k.life)) (sym v) (sense-more g x b k.life k (view_for g x u.log) (can x e) s.sense);
        absent = λ a. let z = s.absent a in (ap (λ m. m.tally.refusals) v ∙ z.0, needs-lost b k.life z.1);
        since = subst (λ z. k.since ≤ z.tally.clears) (sym v) (let since = s.since in omega arith);
        before = s.before;
      }

  -- the tickets of the unit are reset by some function that resets each of them
  pub unit-resets : (new : ℕ → Ticket) → ((x : ℕ) → unit_of g x ≡ n → new x ≡ lost_ticket b (tally x u.log).ends (tickets x)) → UnitKept g n new (unit_reset u)
  unfolding unit_reset
  unit-resets new same = record {
    rig = rig-drops u.tasks u ∙ h.rig;
    plain = ap cleared (drops-plain g n u.tasks u (received-all g n tickets u.tasks u.log h.lists.tasks h.each) h.plain)
        ∙ sym (ap (λ y. y.unit) (run-push g.requests (opening g n) log Clear));
    each = λ x e. subst (λ k. TicketKept g x k (log ++ Clear ∷ [])) (sym (same x e)) (reset-at x e (away_or_not (tickets x).life));
    lists = record { tasks = tt; whole = λ x e a. absurd (never-away b (tickets x).life (ap (λ k. k.life) (sym (same x e)) ∙ a)) };
    waiting = λ x e a. absurd (never-away b (tickets x).life (ap (λ k. k.life) (sym (same x e)) ∙ a));
  }

-- tickets that are the same by name
tasks-agree : (g : Plan) (n : ℕ) (old new : ℕ → Ticket) (ks : List Task) → ((x : ℕ) → unit_of g x ≡ n → new x ≡ old x) → AwayTasks g n old ks → AwayTasks g n new ks
tasks-agree g n old new [] f h = tt
tasks-agree g n old new (k ∷ ks) f h =
    let e = f k.ticket h.0.unit in
    (record { unit = h.0.unit; life = ap (λ z. z.life) e ∙ h.0.life; task = ap (λ z. z.task) e ∙ h.0.task }, h.1, tasks-agree g n old new ks f h.2)

pub unit-agrees : (g : Plan) (n : ℕ) (old new : ℕ → Ticket) (u : LogicalUnit) → ((x : ℕ) → unit_of g x ≡ n → new x ≡ old x) → UnitKept g n old u → UnitKept g n new u
unit-agrees g n old new u f h = record {
  rig = h.rig;
  plain = h.plain;
  each = λ x e. subst (λ k. TicketKept g x k u.log) (sym (f x e)) (h.each x e);
  lists = record { tasks = tasks-agree g n old new u.tasks f h.lists.tasks; whole = λ x e a. h.lists.whole x e (ap (λ k. k.life) (sym (f x e)) ∙ a) };
  waiting = λ x e a. subst (λ k. IsWaiting u.plain k.task) (sym (f x e)) (h.waiting x e (ap (λ k. k.life) (sym (f x e)) ∙ a));
}

pub slot-there : (us : List (Option LogicalUnit)) (lun : ℕ) (u : LogicalUnit) → unit_at us lun ≡ Some u → unit_at (map slot_reset us) lun ≡ Some (unit_reset u)
unfolding unit_at
slot-there us lun u e = ap flat (slice_get-map slot_reset us lun) ∙ by (slice_get us lun) e
  where
    by : (o : Option (Option LogicalUnit)) → flat o ≡ Some u → flat (option_map slot_reset o) ≡ Some (unit_reset u)
    by (Some (Some v)) e = let f : v ≡ u = same_Some v u e in ap (λ z. Some (unit_reset z)) f
    by (Some None) e = cc
    by None e = cc

-- what a reset makes of a ticket of the target, where the log of its unit is known
pub reset-here : (g : Plan) (i : ℕ) (b : ResetCause) (t : Target) (tickets : ℕ → Ticket) (x : ℕ) (u : LogicalUnit) → (g.units (unit_of g x)).target ≡ i → unit_at t.units (g.units (unit_of g x)).lun ≡ Some u
    → reset_tickets g i b t tickets x ≡ lost_ticket b (tally x u.log).ends (tickets x)
reset-here g i b t tickets x u f e =
    ap (λ z. reset_ticket z b (tally x (log_of g t x)).ends (tickets x)) (ap (λ z. nat_eq z i) f ∙ eq-test i)
    ∙ ap (λ o. lost_ticket b (tally x (log_in o)).ends (tickets x)) e

-- every unit of a target that has no connected ticket is reset; `t` is the target whose logs the tickets are judged by, which are those of the units
pub units-reset : (g : Plan) (count i : ℕ) (b : ResetCause) (tickets : ℕ → Ticket) (t : Target) (us : List (Option LogicalUnit)) (l m : ConnectionState) → UnitsKept g count i tickets (record { units = us; link = l })
    → ((x : ℕ) → (g.units (unit_of g x)).target ≡ i → (tickets x).life ≡ Connected → ⊥) → ((x : ℕ) → (g.units (unit_of g x)).target ≡ i → CanReset b (tickets x).life)
    → ((lun : ℕ) (v : LogicalUnit) → unit_at us lun ≡ Some v → (w : LogicalUnit) × (unit_at t.units lun ≡ Some w) × (w.log ≡ v.log))
    → UnitsKept g count i (reset_tickets g i b t tickets) (record { units = map slot_reset us; link = m })
units-reset g count i b tickets t us l m h none can logs = λ n less target.
    let old = h n less target in (
      unit_reset old.0,
      slot-there us (g.units n).lun old.0 old.1,
      unit-resets g n b tickets old.0 old.2 (λ x e c. none x (ap (λ z. (g.units z).target) e ∙ target) c) (λ x e. can x (ap (λ z. (g.units z).target) e ∙ target)) (reset_tickets g i b t tickets)
          (λ x e.
          let f : (g.units (unit_of g x)).target ≡ i = ap (λ z. (g.units z).target) e ∙ target in
          let w = logs (g.units n).lun old.0 old.1 in
          reset-here g i b t tickets x w.0 f (ap (λ z. unit_at t.units (g.units z).lun) e ∙ w.1) ∙ ap (λ z. lost_ticket b (tally x z).ends (tickets x)) w.2),
    )

same-logs : (t : Target) (lun : ℕ) (v : LogicalUnit) → unit_at t.units lun ≡ Some v → (w : LogicalUnit) × (unit_at t.units lun ≡ Some w) × (w.log ≡ v.log)
same-logs t lun v e = (v, e, refl)

-- one unit's tasks change, and no log
left-logs : (t : Target) (at : ℕ) (u : LogicalUnit) (k : Task) → unit_at t.units at ≡ Some u → (lun : ℕ) (v : LogicalUnit) → unit_at (with_unit t.units at (unit_left u k)) lun ≡ Some v
    → (w : LogicalUnit) × (unit_at t.units lun ≡ Some w) × (w.log ≡ v.log)
left-logs t at u k there lun v e = by (same_or_not lun at)
  where
    by : (lun ≡ at) ⊎ (lun ≢ at) → (w : LogicalUnit) × (unit_at t.units lun ≡ Some w) × (w.log ≡ v.log)
    by (inl q) =
        let f : unit_left u k ≡ v = same_Some (unit_left u k) v (sym (ap (unit_at (with_unit t.units at (unit_left u k))) q ∙ unit-same t.units at u (unit_left u k) there) ∙ e) in
        (u, ap (unit_at t.units) q ∙ there, ap (λ z. z.log) f)
    by (inr d) = (v, sym (unit-other t.units at lun (unit_left u k) d) ∙ e, refl)

module _ (g : Plan) (count : ℕ) (plan : IsPlan g count) (i : ℕ) (b : ResetCause) (tickets : ℕ → Ticket) (t : Target) (h : TargetKept g count i tickets t)
    (can : (x : ℕ) → (g.units (unit_of g x)).target ≡ i → CanReset b (tickets x).life) where
  -- no task of it is connected
  pub idle-reset : ((l : ConnectionState) → l ≡ t.link → parted l t ≡ t) → ((x : ℕ) → (g.units (unit_of g x)).target ≡ i → (tickets x).life ≡ Connected → ⊥)
      → TargetKept g count i (reset_tickets g i b t tickets) (target_reset t)
  unfolding target_reset
  idle-reset f none = record {
    units = units-reset g count i b tickets t (parted t.link t).units t.link BusFree (subst (λ z. UnitsKept g count i tickets (record { units = z.units; link = t.link })) (sym (f t.link refl)) h.units) none can
        (subst (λ z. (lun : ℕ) (v : LogicalUnit) → unit_at z.units lun ≡ Some v → (w : LogicalUnit) × (unit_at t.units lun ≡ Some w) × (w.log ≡ v.log)) (sym (f t.link refl)) (same-logs t));
    link = tt;
  }

  -- a task of it is connected
  pub work-reset : (c : Connection) → t.link ≡ TaskConnected c → c.task.senses ≡ false → (u : LogicalUnit) → unit_at t.units c.lun ≡ Some u
      → ((x : ℕ) → (g.units (unit_of g x)).target ≡ i → (tickets x).life ≡ Connected → x ≡ c.task.ticket)
      → TargetKept g count i (reset_tickets g i b t (with_at tickets c.task.ticket (parts_ticket tickets c))) (target_reset t)
  unfolding target_reset
  work-reset c working free u there only =
      let p : parted t.link t ≡ leaves t c u = ap (λ l. parted l t) working ∙ at-lun t c.lun (leaves t c) u there in
      let w = at g count plan i tickets t h c working free u there in
      let unit = kept g count plan i tickets t h c working free u there in
      let q = runs g count plan i tickets t h c working free u there in
      let k = parts_ticket tickets c in
      let left = frees g count plan i tickets t h c working free u there k (unit_left u c.task) (record {
        grows = inl refl;
        stands = record {
          fate = (pointed g.retries (g.requests c.task.ticket) _ _ _ c.task (view_for g c.task.ticket u.log) c.task.saved c.task.saved false q, refl, refl);
          sense = sense_at g c.task.ticket (tickets c.task.ticket) u.log Connected (unit.each c.task.ticket refl) w.life;
          absent = λ a. absurd (needs g c.task.ticket (tickets c.task.ticket) u.log Connected (unit.each c.task.ticket refl) w.life (λ z. z) a);
          since = (unit.each c.task.ticket refl).since;
          before = (unit.each c.task.ticket refl).before;
        };
        rig = refl;
        plain = unit.plain;
        lists = lists-leave g (unit_of g c.task.ticket) tickets c.task.ticket k (away c.task) u.tasks refl refl (λ a. let z : Connected ≡ Away = sym w.life ∙ a in cc) refl refl unit.lists;
        others = λ j z. z;
        waits = λ a. away-waits u.plain c.task (w.sound u there).task;
      }) in
      record {
        units = units-reset g count i b (with_at tickets c.task.ticket k) t (parted t.link t).units BusFree BusFree
            (subst (λ z. UnitsKept g count i (with_at tickets c.task.ticket k) (record { units = z.units; link = BusFree })) (sym p) left.units)
            (λ x e a. gone x e a (same_or_not x c.task.ticket))
            (λ x e. may x e (same_or_not x c.task.ticket))
            (subst (λ z. (lun : ℕ) (v : LogicalUnit) → unit_at z.units lun ≡ Some v → (w : LogicalUnit) × (unit_at t.units lun ≡ Some w) × (w.log ≡ v.log)) (sym p) (left-logs t c.lun u c.task there));
        link = tt;
      }
    where
      gone : (x : ℕ) → (g.units (unit_of g x)).target ≡ i → (with_at tickets c.task.ticket (parts_ticket tickets c) x).life ≡ Connected → (x ≡ c.task.ticket) ⊎ (x ≢ c.task.ticket) → ⊥
      gone x e a (inl q) =
          let z : Away ≡ Connected = sym (ap (λ k. k.life) (ap (with_at tickets c.task.ticket (parts_ticket tickets c)) q ∙ with_at-same tickets c.task.ticket (parts_ticket tickets c))) ∙ a in cc
      gone x e a (inr d) = d (only x e (ap (λ k. k.life) (sym (with_at-other tickets c.task.ticket (parts_ticket tickets c) x d)) ∙ a))

      away-can : (b : ResetCause) → CanReset b Away
      away-can ByBus = tt
      away-can ByDevice = tt

      may : (x : ℕ) → (g.units (unit_of g x)).target ≡ i → (x ≡ c.task.ticket) ⊎ (x ≢ c.task.ticket) → CanReset b (with_at tickets c.task.ticket (parts_ticket tickets c) x).life
      may x e (inl q) =
          subst (CanReset b) (sym (ap (λ k. k.life) (ap (with_at tickets c.task.ticket (parts_ticket tickets c)) q ∙ with_at-same tickets c.task.ticket (parts_ticket tickets c)))) (away-can b)
      may x e (inr d) = subst (λ k. CanReset b k.life) (sym (with_at-other tickets c.task.ticket (parts_ticket tickets c) x d)) (can x e)

work-agrees : (b : Bool) (c : Connection) (g : Plan) (i : ℕ) (old new : ℕ → Ticket) (t : Target) → ((x : ℕ) → (g.units (unit_of g x)).target ≡ i → new x ≡ old x) → WorkKept b g i old t c → WorkKept b g i new t c
work-agrees false c g i old new t f h =
    let e = f c.task.ticket h.target in
    record { target = h.target; lun = h.lun; life = ap (λ z. z.life) e ∙ h.life; task = ap (λ z. z.task) e ∙ h.task; sound = h.sound; worth = h.worth }
work-agrees true c g i old new t f h =
    let e = f c.task.ticket h.target in
    record {
      target = h.target;
      lun = h.lun;
      life = ap (λ z. z.life) e ∙ h.life;
      tag = ap (λ z. z.tag) e ∙ h.tag;
      sound = h.sound;
      shows = h.shows;
      start = h.start;
      asks = λ u z. subst (λ y. AsksTask u.plain c.task y.area h.start) (sym e) (h.asks u z);
    }

pub link-agrees : (l : ConnectionState) (g : Plan) (i : ℕ) (old new : ℕ → Ticket) (t : Target) → ((x : ℕ) → (g.units (unit_of g x)).target ≡ i → new x ≡ old x) → LinkKept l g i old t → LinkKept l g i new t
link-agrees BusFree g i old new t f h = tt
link-agrees (connection_state.Selected b) g i old new t f h = tt
link-agrees (TakingCommand n b) g i old new t f h = tt
link-agrees (RogueConnected s n) g i old new t f h = h
link-agrees (TaskConnected c) g i old new t f h = work-agrees c.task.senses c g i old new t f h
