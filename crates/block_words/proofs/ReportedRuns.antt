-- The reports of a run are those that the moves make, and fit the logs.
use Rattle.std.proofs.Common.{◌≡◌, ◌⊎◌, inl, inr, ℕ, ◌<◌, ◌≤◌, Bool, true, false, List, [], ◌∷◌, ◌++◌, length, slice_set, slice_index_or, Some, refl, sym, ap, subst, ◌∙◌}
use Rattle.std.specs.Prelude.{All}
use Rattle.std.proofs.lemmas.Bool.{false≢true}
use Rattle.std.proofs.lemmas.List.{get_or_past, get_or-set_same}
use Rattle.std.proofs.lemmas.List.Elements.{All-append, All-cons, All-nil}
use Rattle.rig_types.specs.declared.report.Outcome.{Outcome}
use Rattle.rig_types.specs.declared.report.Report.{Report}
use Rattle.rig_types.specs.declared.step.Step.{Step}
use Rattle.rig_types.specs.declared.step.Step.TheVariants as step
use Rattle.unit_law.specs.Report.{TicketHistory, Fits, SenseFits}
use Rattle.unit_law.specs.Request.{RequestData}
use Rattle.desk_law.specs.declared.stage.Stage.{Stage}
use Rattle.desk_law.specs.declared.stage.Stage.TheVariants as stage
use Rattle.desk_law.specs.declared.ticket.Ticket.{Ticket as DeskTicket}
use Rattle.desk_law.specs.Desk.{DeskState, ticket, no_ticket}
use Rattle.desk_law.specs.Reporting.{report_at}
use Rattle.ticket_fate.specs.Laws.{Reached}
use Rattle.ticket_fate.specs.Linked.{IsPlan}
use Rattle.ticket_fate.specs.Tickets.{Plan, unit_of, setting, Life, Unbuilt, AtRogue, Ended, Unlinked, Freed, Ticket, report_of, freed_report, view_for}
use Rattle.ticket_fate.proofs.Reached.{reports-fit}
use Rattle.bus_events.specs.Targets.{targets}
use Rattle.run_law.specs.History.{history}
use Rattle.world_law.specs.Enabling.{Enabled}
use Rattle.world_law.specs.Opening.{opened}
use Rattle.world_law.specs.Runs.{Moment, Steps, IsRun, last}
use Rattle.world_law.specs.Steps.{Does}
use Rattle.world_law.specs.World.{BenchSetting, IsBenchSetting, World}
use Rattle.world_law.proofs.RunLaws.{goes_on, ends_after}
use Rattle.word_owners.specs.KeptDesks.{AreKept}
use Rattle.word_owners.specs.Worlds.{HasBytes}
use Rattle.word_owners.proofs.Worlds.{depths_are_kept}
use Rattle.run_joined.specs.DeskLives.{IsStage}
use Rattle.run_joined.specs.Joined.{IsJoined, no_tickets, StepJoins, is_by_words}
use Rattle.run_joined.specs.Plans.{IsPlanOf}
use Rattle.run_joined.specs.Reports.{ReportAgrees}
use Rattle.run_joined.proofs.DriverSteps.{driver-steps-join}
use Rattle.run_joined.proofs.JoinedRuns.{joined-on, joined-opening, plan-before}
use Rattle.run_joined.proofs.Moved.{below-or}
use Rattle.run_joined.proofs.Reports.{reports-agree}
use Rattle.block_words.specs.EndedReports.{HasOutcome, HasCome, KeepsReport}
use Rattle.block_words.specs.EndedWords.{IsEndedOrUnlinked}
use Rattle.block_words.specs.ReportedRuns.{IsMade, AreReported, is_ending, EndsAgree, ReportsStay, FitsRun, ReportedRunsFit, IsReportedRun, WordsReport, RunsReport}
use Rattle.block_words.proofs.EndedReports.{outcome-come, outcome-over, agreed, ticket-on}
use Rattle.block_words.proofs.PlainSteps.{is_free, no-report, had-outcome}
use Rattle.block_words.proofs.RunSteps.{append-one, append-none}

-- ---- outcomes of lives

outcome-or : (l : Life) → ((q : Outcome) × HasOutcome q l) ⊎ ((q : Outcome) → HasOutcome q l → ⊥)
outcome-or (Ended q) = inl (q, refl)
outcome-or (Unlinked q) = inl (q, refl)
outcome-or l = inr (λ q e. e)

one-outcome : (q o : Outcome) (l : Life) → HasCome q l → HasOutcome o l → q ≡ o
one-outcome q o (Ended r) a b = sym a ∙ b
one-outcome q o (Unlinked r) a b = sym a ∙ b
one-outcome q o l a b = absurd b

-- a ticket in such a stage has an outcome
over-outcome : (l : Life) (s : Stage) → IsStage l s → IsEndedOrUnlinked s → (q : Outcome) × HasOutcome q l
over-outcome Unbuilt s i e = absurd cc
over-outcome (Ended q) s i e = (q, refl)
over-outcome (Unlinked q) s i e = (q, refl)
over-outcome AtRogue s (inl i) e = absurd (subst IsEndedOrUnlinked i e)
over-outcome AtRogue s (inr i) e = absurd (subst IsEndedOrUnlinked i e)
over-outcome l s i e = absurd (none-over s _ i (λ z. z) e)
  where
    none-over : (s x : Stage) → Some x ≡ Some s → (IsEndedOrUnlinked x → ⊥) → IsEndedOrUnlinked s → ⊥
    none-over s x i n e = let z : x ≡ s = cc in n (subst IsEndedOrUnlinked (sym z) e)

only-unlinked : (l : Life) → IsStage l stage.Unlinked → (o : Outcome) × (l ≡ Unlinked o)
only-unlinked (Unlinked x) e = (x, refl)
only-unlinked AtRogue (inl e) = absurd cc
only-unlinked AtRogue (inr e) = absurd cc
only-unlinked l e = absurd cc

only-freed : (l : Life) → IsStage l stage.Freed → (o : Outcome) × (l ≡ Freed o)
only-freed (Freed x) e = (x, refl)
only-freed AtRogue (inl e) = absurd cc
only-freed AtRogue (inr e) = absurd cc
only-freed l e = absurd cc

-- ---- a report of a ticket that keeps it

same-report : (t : ℕ) (r : RequestData) (o : Outcome) (k j : Ticket) → KeepsReport o k j → freed_report t r k o ≡ freed_report t r j o
same-report t r o k j s =
    ap (λ (x : ℕ). report_of t r x k.lastp k.tries k.buffer k.sense o) (sym s.status) ∙ ap (λ (x : ℕ). report_of t r j.status x k.tries k.buffer k.sense o) (sym s.lastp)
    ∙ ap (λ (x : ℕ). report_of t r j.status j.lastp x k.buffer k.sense o) (sym s.tries) ∙ ap (λ (x : List ℕ). report_of t r j.status j.lastp j.tries x k.sense o) (sym s.buffer)
    ∙ ap (λ (x : List ℕ). report_of t r j.status j.lastp j.tries j.buffer x o) (sym s.sense)

module _ (g : BenchSetting) (p : Plan) (ms : List Moment) (m : Moment) (ks : ℕ → Ticket) (spare : ℕ → ℕ) (setting_of : IsBenchSetting g) (bytes : HasBytes g) (r : IsRun g (opened g) ms) (steps : Steps g (last (opened g) ms) m) (of : IsPlanOf g (last (opened g) ms) p)
    (j : IsJoined g p (last (opened g) ms) ks spare) (s : StepJoins g p (last (opened g) ms) m ks) (a : AreReported p (last (opened g) ms) ks) where
  abbrev old : World
  old = last (opened g) ms

  abbrev ns : ℕ → Ticket
  ns = s.tickets

  on : (t : ℕ) (o : Outcome) → HasCome o (ks t).life → KeepsReport o (ks t) (ns t)
  on t o e = ticket-on g p ms m ks spare setting_of bytes r steps j s t o e

  within-new : (t : ℕ) (o : Outcome) → HasCome o (ns t).life → t < length m.after.desk.tickets
  within-new t o e = by (below-or t (length m.after.desk.tickets))
    where
      by : (t < length m.after.desk.tickets) ⊎ (length m.after.desk.tickets ≤ t) → t < length m.after.desk.tickets
      by (inl l) = l
      by (inr l) = absurd (subst (HasCome o) (s.joined.desk.unbuilt t l) e)

  within-old : (t : ℕ) → IsEndedOrUnlinked (ticket old.desk t).stage → t < length old.desk.tickets
  within-old t e = by (below-or t (length old.desk.tickets))
    where
      by : (t < length old.desk.tickets) ⊎ (length old.desk.tickets ≤ t) → t < length old.desk.tickets
      by (inl l) = l
      by (inr l) = absurd (subst (λ (x : DeskTicket). IsEndedOrUnlinked x.stage) (get_or_past old.desk.tickets t no_ticket l) e)

  -- ---- what agrees

  agrees : (is_ending m.entry.step ≡ true → EndsAgree m ks ns) → (t : ℕ) (o : Outcome) → HasOutcome o (ns t).life → ReportAgrees m.after.memory (ticket m.after.desk t) (ns t) o
  agrees ends t o e = by (outcome-or (ks t).life)
    where
      new : ((q : Outcome) → HasOutcome q (ks t).life → ⊥) → (b : Bool) → is_ending m.entry.step ≡ b → ReportAgrees m.after.memory (ticket m.after.desk t) (ns t) o
      new none true b = ends b t o none e
      new none false b =
          let low = within-new t o (outcome-come o (ns t).life e) in
          let now = outcome-over o (ns t).life (ticket m.after.desk t).stage e (s.joined.desk.each t low).stage_is in
          let before = had-outcome old g m.after m.entry.caller m.entry.step m.reply b steps.enabled steps.does t now in
          let z = over-outcome (ks t).life (ticket old.desk t).stage (j.desk.each t (within-old t before)).stage_is before in
          absurd (none z.0 z.1)

      by : ((q : Outcome) × HasOutcome q (ks t).life) ⊎ ((q : Outcome) → HasOutcome q (ks t).life → ⊥) → ReportAgrees m.after.memory (ticket m.after.desk t) (ns t) o
      by (inl (q, f)) =
          let same : q ≡ o = one-outcome q o (ns t).life (on t q (outcome-come q (ks t).life f)).come e in
          let f2 = subst (λ (x : Outcome). HasOutcome x (ks t).life) same f in
          agreed g p ms m ks spare setting_of bytes r steps j s t o f2 (a.agree t o f2)
      by (inr none) = new none (is_ending m.entry.step) refl

  -- ---- the reports

  made-on : (x : Report) → IsMade p ks x → IsMade p ns x
  made-on x h =
      let k = on x.ticket h.result (subst (HasCome h.result) (sym h.freed) refl) in
      record { result = h.result; freed = k.freed h.freed; is = h.is ∙ same-report x.ticket (p.requests x.ticket) h.result (ks x.ticket) (ns x.ticket) k }

  all-on : All (IsMade p ns) old.reports
  all-on k d l = made-on _ (a.made k d l)

  frees : (t : ℕ) → Enabled g old m.entry.caller (step.Free t) → Does g old m.entry.caller (step.Free t) m.reply m.after → All (IsMade p ns) m.after.reports
  frees t may d =
      let low = within-old t (subst IsEndedOrUnlinked (sym may.1) tt) in
      let u = only-unlinked (ks t).life (subst (IsStage (ks t).life) may.1 (j.desk.each t low).stage_is) in
      let q = u.0 in
      let has : HasOutcome q (ks t).life = subst (HasOutcome q) (sym u.1) refl in
      let k = on t q (outcome-come q (ks t).life has) in
      let tickets : m.after.desk.tickets ≡ slice_set old.desk.tickets t (record (ticket old.desk t) { stage = stage.Freed }) = ap (λ (x : DeskState). x.tickets) d.frees.desk in
      let freed : (ticket m.after.desk t).stage ≡ stage.Freed =
      ap (λ (xs : List DeskTicket). (slice_index_or xs t no_ticket).stage) tickets ∙ ap (λ (x : DeskTicket). x.stage) (get_or-set_same old.desk.tickets t (record (ticket old.desk t) { stage = stage.Freed }) no_ticket low) in
      let l = only-freed (ns t).life (subst (IsStage (ns t).life) freed (s.joined.desk.each t (within-new t q k.come)).stage_is) in
      let same : l.0 ≡ q = subst (HasCome q) l.1 k.come in
      let one : IsMade p ns (report_at old.desk old.memory t) = record {
        result = q;
        freed = l.1 ∙ ap Freed same;
        is = reports-agree g p ms ks spare t q r of j u.1 (a.agree t q has) ∙ same-report t (p.requests t) q (ks t) (ns t) k;
      } in
      subst (All (IsMade p ns)) (sym (ap (λ (x : World). x.reports) d.world))
      (All-append (IsMade p ns) old.reports (report_at old.desk old.memory t ∷ []) all-on (All-cons (IsMade p ns) (report_at old.desk old.memory t) [] one (All-nil (IsMade p ns))))

  made : (x : Step) → m.entry.step ≡ x → All (IsMade p ns) m.after.reports
  made (step.Free t) e = frees t (subst (Enabled g old m.entry.caller) e steps.enabled) (subst (λ (y : Step). Does g old m.entry.caller y m.reply m.after) e steps.does)
  made x e = subst (All (IsMade p ns)) (sym (no-report old g m.after m.entry.caller m.entry.step m.reply (ap is_free e) steps.enabled steps.does)) all-on

  reported : (is_ending m.entry.step ≡ true → EndsAgree m ks ns) → AreReported p m.after ns
  reported ends = record { agree = agrees ends; made = made m.entry.step refl }

pub reports-stay : ReportsStay
reports-stay g p ms m ks spare setting_of bytes r steps of j s ends a = reported g p ms m ks spare setting_of bytes r steps of j s a ends

-- ---- runs

pub reported-runs-fit : ReportedRunsFit
reported-runs-fit g p ms ks j a k d l = fits _ (a.made k d l)
  where
    reached : Reached p (length g.units) ks (targets (last (opened g) ms).bus)
    reached = record { plan = j.joined.tickets.reached.plan; from = (no_tickets, targets (opened g).bus, j.opens, j.moves) }

    fits : (x : Report) → IsMade p ks x → FitsRun g p ms x
    fits x h =
        let t = x.ticket in
        let f = reports-fit p (length g.units) ks (targets (last (opened g) ms).bus) reached t h.result h.freed in
        let same = sym (j.histories t) in
        record {
          its_unit = f.0;
          there = f.1;
          fits = subst (Fits (setting p (unit_of p t)) t (p.requests t) (view_for p t f.0.log) (history g (unit_of p t) t (opened g) ms)) (sym h.is)
              (subst (λ (z : TicketHistory). Fits (setting p (unit_of p t)) t (p.requests t) (view_for p t f.0.log) z (freed_report t (p.requests t) (ks t) h.result)) same f.2.fits);
          sense_fits = subst (SenseFits (setting p (unit_of p t)) (view_for p t f.0.log) (history g (unit_of p t) t (opened g) ms)) (sym h.is)
              (subst (λ (z : TicketHistory). SenseFits (setting p (unit_of p t)) (view_for p t f.0.log) z (freed_report t (p.requests t) (ks t) h.result)) same f.2.sense_fits);
        }

driver-plain : (x : Step) → is_by_words x ≡ false → is_ending x ≡ true → ⊥
driver-plain step.TakeDone e f = false≢true (sym e)
driver-plain (step.Sweep t) e f = false≢true (sym e)
driver-plain x e f = false≢true f

module _ (g : BenchSetting) (p : Plan) (setting_of : IsBenchSetting g) (bytes : HasBytes g) (plan : IsPlan p (length g.units)) (words : WordsReport g p) where
  one-step : (ns : List Moment) (m : Moment) → IsRun g (opened g) ns → Steps g (last (opened g) ns) m → IsPlanOf g m.after p → IsPlanOf g (last (opened g) ns) p → IsReportedRun g p ns → (b : Bool) → is_by_words m.entry.step ≡ b → IsReportedRun g p (ns ++ m ∷ [])
  one-step ns m r s of was x true e = words ns m r s e x
  one-step ns m r s of was (ks, j, a) false e =
      let after : AreKept m.after.desk = subst (λ (w : World). AreKept w.desk) (ends_after (opened g) ns m) (depths_are_kept g setting_of bytes (ns ++ m ∷ []) (goes_on g (opened g) ns m r s)) in
      let x = driver-steps-join g p (last (opened g) ns) m ks j.spare setting_of of s (depths_are_kept g setting_of bytes ns r) after e j.joined in (
        x.tickets,
        joined-on g p ns m ks j x,
        subst (λ (w : World). AreReported p w x.tickets) (sym (ends_after (opened g) ns m)) (reports-stay g p ns m ks j.spare setting_of bytes r s was j.joined x (λ f. absurd (driver-plain m.entry.step e f)) a),
      )

  all-steps : (ns ms : List Moment) → IsRun g (opened g) ns → IsRun g (last (opened g) ns) ms → IsPlanOf g (last (last (opened g) ns) ms) p → IsReportedRun g p ns → IsReportedRun g p (ns ++ ms)
  all-steps ns [] r s of x = subst (IsReportedRun g p) (sym (append-none ns)) x
  all-steps ns (m ∷ ms) r s of x =
      let e : last (opened g) (ns ++ m ∷ []) ≡ m.after = ends_after (opened g) ns m in
      subst (IsReportedRun g p) (append-one ns m ms)
      (all-steps (ns ++ m ∷ []) ms (goes_on g (opened g) ns m r s.0) (subst (λ (w : World). IsRun g w ms) (sym e) s.1)
      (subst (λ (w : World). IsPlanOf g (last w ms) p) (sym e) of)
      (one-step ns m r s.0 (plan-before g p m.after ms s.1 of) (plan-before g p (last (opened g) ns) (m ∷ ms) s of) x (is_by_words m.entry.step) refl))

  none-reported : AreReported p (opened g) no_tickets
  none-reported = record { agree = λ t o e. absurd e; made = All-nil (IsMade p no_tickets) }

pub runs-report : RunsReport
runs-report g p ms setting_of bytes plan of r words =
    all-steps g p setting_of bytes plan words [] ms tt r of (no_tickets, joined-opening g p setting_of plan (plan-before g p (opened g) ms r of), none-reported g p setting_of bytes plan words)
