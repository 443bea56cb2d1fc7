-- An abort that answers Marked, and the opening.
use Rattle.std.proofs.Common.{◌≡◌, ◌≢◌, ℕ, ◌<◌, ◌+◌, ◌-◌, Bool, true, List, [], ◌∷◌, refl, ap, arith, sym, ◌∙◌, subst, Some, ◌⊎◌, inl, inr}
use Rattle.rig_types.specs.declared.report.Outcome.{Outcome}
use Rattle.rig_types.specs.declared.report.Outcome.TheVariants.{Done, Cut, Reset, NoTarget, Broken}
use Rattle.rig_types.specs.declared.report.Report.{Report}
use Rattle.unit_law.specs.declared.entry.LogEntry.{LogEntry}
use Rattle.unit_law.specs.Request.{RequestData}
use Rattle.unit_law.specs.Log.{View, with_at, run_log, tally}
use Rattle.unit_law.specs.Report.{UnitSetting, Fits, By}
use Rattle.unit_law.proofs.Views.{with_at-same, with_at-other, same_or_not}
use Rattle.target_law.specs.Session.{Task}
use Rattle.target_law.specs.Sound.{IsWaiting}
use Rattle.target_law.specs.Target.{LogicalUnit, BusFree, Target, unit_at, unit_opened}
use Rattle.logs_have_room.specs.Room.{entries}
use Rattle.ticket_fate.specs.Tickets.{Plan, unit_of, opening, setting, Life, Unbuilt, Built, Linked, ToRequeue, Waits, Selected, Connected, Away, Lost, Rejected, Finished, Checked, Asks, AskStarts, AskConnected, AskLost, Asked, AtRogue, Ended, Unlinked, Freed, Ticket, history_at, report_of, view_for}
use Rattle.ticket_fate.specs.Fates.{ReportFits, FreedReportFits, Fate, NeedsNone, TicketKept}
use Rattle.ticket_fate.specs.Linked.{LinkKept, AwayTasks, UnitKept}
use Rattle.ticket_fate.specs.Senses.{SenseFate}
use Rattle.ticket_fate.specs.Moves.{marked_ticket, CanMark}
use Rattle.ticket_fate.specs.Kept.{AllKept}
use Rattle.ticket_fate.proofs.Views.{each-changed}

by-marked : (o : Outcome) (s : UnitSetting) (r : RequestData) (v : View) (m b : Bool) (clears outside : ℕ) (q : Report) → By o s r v (history_at m clears b outside) q → By o s r v (history_at true clears b outside) q
by-marked Done s r v m b clears outside q h = h
by-marked Cut s r v m b clears outside q h = (h.0, refl)
by-marked Reset s r v m b clears outside q h = h
by-marked NoTarget s r v m b clears outside q h = h
by-marked Broken s r v m b clears outside q h = h

fits-marked : (g : Plan) (t : ℕ) (k : Ticket) (v : View) (o : Outcome) (clears outside : ℕ)
    → Fits (setting g (unit_of g t)) t (g.requests t) v (history_at k.marked clears k.bus_reset outside) (report_of t (g.requests t) k.status k.lastp k.tries k.buffer [] o)
    → Fits (setting g (unit_of g t)) t (g.requests t) v (history_at true clears k.bus_reset outside) (report_of t (g.requests t) k.status k.lastp k.tries k.buffer [] o)
fits-marked g t k v o clears outside f = λ rogue.
    let h = f rogue in
    record { by = by-marked o (setting g (unit_of g t)) (g.requests t) v k.marked k.bus_reset clears outside _ h.by; ticket = refl; of_unit = refl; few_tries = h.few_tries; all_within = h.all_within; all_caused = refl }

report-marked : (g : Plan) (t : ℕ) (k : Ticket) (v : View) (o : Outcome) → ReportFits g t k v o → ReportFits g t (marked_ticket k) v o
report-marked g t k v o f = fits-marked g t k v o (v.tally.clears - k.since) 0 f

freed-marked : (g : Plan) (t : ℕ) (k : Ticket) (v : View) (o : Outcome) → FreedReportFits g t k v o → FreedReportFits g t (marked_ticket k) v o
freed-marked g t k v o f = fits-marked g t k v o k.clears (k.before + (entries v.tally - k.logged)) f

fate-marked : (g : Plan) (t : ℕ) (l : Life) (k : Ticket) (v : View) → Fate g t l k v → Fate g t l (marked_ticket k) v
fate-marked g t Unbuilt k v h = h
fate-marked g t Built k v h = h
fate-marked g t Linked k v h = h
fate-marked g t ToRequeue k v h = h
fate-marked g t Waits k v h = h
fate-marked g t Selected k v h = h
fate-marked g t Connected k v h = h
fate-marked g t Away k v h = h
fate-marked g t Lost k v h = report-marked g t k v Reset h
fate-marked g t (Rejected st) k v h = h
fate-marked g t (Finished o) k v h = (report-marked g t k v o h.0, h.1)
fate-marked g t Checked k v h = (report-marked g t k v Done h.0, h.1)
fate-marked g t Asks k v h = (report-marked g t k v Done h.0, h.1)
fate-marked g t AskStarts k v h = (report-marked g t k v Done h.0, h.1)
fate-marked g t AskConnected k v h = (report-marked g t k v Done h.0, h.1)
fate-marked g t AskLost k v h = (report-marked g t k v Done h.0, h.1)
fate-marked g t Asked k v h = (report-marked g t k v Done h.0, h.1)
fate-marked g t AtRogue k v h = h
fate-marked g t (Ended o) k v h = report-marked g t k v o h
fate-marked g t (Unlinked o) k v h = report-marked g t k v o h
fate-marked g t (Freed o) k v h = freed-marked g t k v o h

sense-marked : (g : Plan) (t : ℕ) (l : Life) (k : Ticket) (v : View) → CanMark l → SenseFate g t l k v → SenseFate g t l (marked_ticket k) v
sense-marked g t Unbuilt k v c h = h
sense-marked g t Built k v c h = h
sense-marked g t Linked k v c h = h
sense-marked g t ToRequeue k v c h = h
sense-marked g t Waits k v c h = h
sense-marked g t Selected k v c h = h
sense-marked g t Connected k v c h = h
sense-marked g t Away k v c h = h
sense-marked g t Lost k v c h = h
sense-marked g t (Rejected st) k v c h = h
sense-marked g t (Finished o) k v c h = h
sense-marked g t Checked k v c h = absurd c
sense-marked g t Asks k v c h = absurd c
sense-marked g t AskStarts k v c h = absurd c
sense-marked g t AskConnected k v c h = absurd c
sense-marked g t AskLost k v c h = absurd c
sense-marked g t Asked k v c h = absurd c
sense-marked g t AtRogue k v c h = h
sense-marked g t (Ended o) k v c h = absurd c
sense-marked g t (Unlinked o) k v c h = absurd c
sense-marked g t (Freed o) k v c h = absurd c

-- a ticket whose life and task stay
same-at : (ks : ℕ → Ticket) (x : ℕ) (k : Ticket) → k.life ≡ (ks x).life → k.task ≡ (ks x).task → (y : ℕ) → (y ≡ x) ⊎ (y ≢ x) → ((with_at ks x k y).life ≡ (ks y).life) × ((with_at ks x k y).task ≡ (ks y).task)
same-at ks x k e f y (inl q) =
    let m : with_at ks x k y ≡ k = ap (with_at ks x k) q ∙ with_at-same ks x k in
    (ap (λ z. z.life) m ∙ e ∙ ap (λ z. (ks z).life) (sym q), ap (λ z. z.task) m ∙ f ∙ ap (λ z. (ks z).task) (sym q))
same-at ks x k e f y (inr d) = let m = with_at-other ks x k y d in (ap (λ z. z.life) m, ap (λ z. z.task) m)

tasks-same : (g : Plan) (n : ℕ) (ks : ℕ → Ticket) (x : ℕ) (k : Ticket) → k.life ≡ (ks x).life → k.task ≡ (ks x).task → (xs : List Task) → AwayTasks g n ks xs → AwayTasks g n (with_at ks x k) xs
tasks-same g n ks x k e f [] h = tt
tasks-same g n ks x k e f (j ∷ js) h =
    let s = same-at ks x k e f j.ticket (same_or_not j.ticket x) in
    (record { unit = h.0.unit; life = s.0 ∙ h.0.life; task = s.1 ∙ h.0.task }, h.1, tasks-same g n ks x k e f js h.2)

pub unit-same-life : (g : Plan) (ks : ℕ → Ticket) (x : ℕ) (k : Ticket) (u : LogicalUnit) → k.life ≡ (ks x).life → k.task ≡ (ks x).task → TicketKept g x k u.log → UnitKept g (unit_of g x) ks u
    → UnitKept g (unit_of g x) (with_at ks x k) u
unit-same-life g ks x k u e f s h = record {
  rig = h.rig;
  plain = h.plain;
  each = each-changed g (unit_of g x) ks x k u.log u.log (inl refl) h.each s;
  lists = record {
    tasks = tasks-same g (unit_of g x) ks x k e f u.tasks h.lists.tasks;
    whole = λ y q a. h.lists.whole y q (sym (same-at ks x k e f y (same_or_not y x)).0 ∙ a);
  };
  waiting = λ y q a. let z = same-at ks x k e f y (same_or_not y x) in subst (IsWaiting u.plain) (sym z.1) (h.waiting y q (sym z.0 ∙ a));
}

pub marked-kept : (g : Plan) (x : ℕ) (k : Ticket) (log : List LogEntry) → CanMark k.life → TicketKept g x k log → TicketKept g x (marked_ticket k) log
marked-kept g x k log can s = record { fate = fate-marked g x k.life k (view_for g x log) s.fate; sense = sense-marked g x k.life k (view_for g x log) can s.sense; absent = s.absent; since = s.since; before = s.before }

-- at the opening no ticket is built, and each unit is as the rig opens it
unit-opens : (g : Plan) (n : ℕ) (ks : ℕ → Ticket) → ((x : ℕ) → (ks x).life ≡ Unbuilt) → ((x : ℕ) → (ks x).since ≡ 0) → ((x : ℕ) → (ks x).before ≡ 0) → UnitKept g n ks (unit_opened (g.units n))
unfolding opening run_log tally
unit-opens g n ks none zeros unlogged = record {
  rig = refl;
  plain = refl;
  each = λ t e. record {
    fate = subst (λ l. Fate g t l (ks t) (view_for g t [])) (sym (none t)) (record { refusals = refl; looks = refl; ends = refl; drops = refl; high = refl; senses = refl; answer = refl });
    sense = subst (λ l. SenseFate g t l (ks t) (view_for g t [])) (sym (none t)) (record { senses = refl; early = refl; sense = refl; none = refl });
    absent = λ a. (refl, subst NeedsNone (sym (none t)) tt);
    since = omega (arith, zeros t);
    before = unlogged t;
  };
  lists = record { tasks = tt; whole = λ x e a. absurd (let q : Unbuilt ≡ Away = sym (none x) ∙ a in cc) };
  waiting = λ x e a. absurd (let q : Unbuilt ≡ Away = sym (none x) ∙ a in cc);
}

pub opens : (g : Plan) (count : ℕ) (ks : ℕ → Ticket) (ts : ℕ → Target) → ((x : ℕ) → (ks x).life ≡ Unbuilt) → ((x : ℕ) → (ks x).since ≡ 0) → ((x : ℕ) → (ks x).before ≡ 0) → ((i : ℕ) → (ts i).link ≡ BusFree)
    → ((n : ℕ) → n < count → unit_at (ts (g.units n).target).units (g.units n).lun ≡ Some (unit_opened (g.units n))) → AllKept g count ks ts
opens g count ks ts none zeros unlogged free there = record {
  each = λ i. record {
    units = λ n less target. (unit_opened (g.units n), ap (λ z. unit_at (ts z).units (g.units n).lun) (sym target) ∙ there n less, unit-opens g n ks none zeros unlogged);
    link = subst (λ l. LinkKept l g i ks (ts i)) (sym (free i)) tt;
  };
  here = λ x e. absurd (let q : Unbuilt ≡ Connected = sym (none x) ∙ e in cc);
}
