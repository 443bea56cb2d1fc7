-- What holds after every list of moves from the opening.
use Rattle.std.proofs.Common.{◌≡◌, ℕ, Bool, List, [], refl, subst, arith, sym, ◌∙◌, ap, ◌⊎◌, inl, inr}
use Rattle.std.proofs.lemmas.Option.{same_Some}
use Rattle.rig_types.specs.declared.report.Outcome.{Outcome}
use Rattle.rig_types.specs.declared.report.Outcome.TheVariants.{Done, Cut, Reset, NoTarget, Broken}
use Rattle.rig_types.specs.declared.report.Report.{Report}
use Rattle.unit_law.specs.Log.{View}
use Rattle.unit_law.specs.Request.{RequestData}
use Rattle.unit_law.specs.Report.{UnitSetting, TicketHistory, By, Fits, SenseFits}
use Rattle.target_law.specs.Target.{Target}
use Rattle.ticket_fate.specs.Tickets.{Plan, unit_of, setting, Freed, Ticket, report_of, freed_report, history_at, view_for}
use Rattle.ticket_fate.specs.Senses.{SenseOfReportFits}
use Rattle.ticket_fate.specs.Fates.{FreedReportFits}
use Rattle.ticket_fate.specs.Histories.{Run, none, more, progress_of, tally_in, history}
use Rattle.ticket_fate.specs.Linked.{IsPlan}
use Rattle.ticket_fate.specs.Moves.{target_of}
use Rattle.ticket_fate.specs.Kept.{AllKept}
use Rattle.ticket_fate.specs.Laws.{Opens, Reached, ReportsFit, HistoriesEnd, UnitsRunTheirLogs, NoneLostAfterEnd}
use Rattle.ticket_fate.proofs.TicketSteps.{fate_at, sense_at}
use Rattle.ticket_fate.proofs.Marks.{opens}
use Rattle.ticket_fate.proofs.Moves.{keeps}
use Rattle.ticket_fate.proofs.Recorded.{Counted, Recorded, noted-kept}

pub kept-by : (g : Plan) (count : ℕ) → IsPlan g count → (ks : ℕ → Ticket) (ts : ℕ → Target) → AllKept g count ks ts → (ns : ℕ → Ticket) (us : ℕ → Target) → Run g count ks ts ns us → AllKept g count ns us
kept-by g count plan ks ts h ns us none = h
kept-by g count plan ks ts h ns us (more {ms = ms} {us = vs} r m) = keeps g count plan ms vs ns us m (kept-by g count plan ks ts h ms vs r)

pub opens-kept : (g : Plan) (count : ℕ) (ks : ℕ → Ticket) (ts : ℕ → Target) → Opens g count ks ts → AllKept g count ks ts
opens-kept g count ks ts o = opens g count ks ts o.unbuilt o.unqueued o.unlogged o.free o.units

pub all-kept : (g : Plan) (count : ℕ) (ns : ℕ → Ticket) (us : ℕ → Target) → Reached g count ns us → AllKept g count ns us
all-kept g count ns us r =
    kept-by g count r.plan r.from.0 r.from.1 (opens-kept g count r.from.0 r.from.1 r.from.2) ns us r.from.3

-- the history so far is what the ticket's record says
pub recorded : (g : Plan) (count : ℕ) (plan : IsPlan g count) (ks : ℕ → Ticket) (ts : ℕ → Target) (o : Opens g count ks ts) (x : ℕ) (ns : ℕ → Ticket) (us : ℕ → Target) (r : Run g count ks ts ns us) → Recorded (ns x) (tally_in g us x) (history x r)
recorded g count plan ks ts o x ns us none = record {
  marked = sym (o.unmarked x);
  bus_reset = sym (o.unreset x);
  clears = subst (λ l. Counted (progress_of l) (ks x).since (ks x).clears (tally_in g ts x).clears 0) (sym (o.unbuilt x)) refl;
  outside = refl;
  uncaused = refl;
}
recorded g count plan ks ts o x ns us (more {ms = ms} {us = vs} r m) =
    let h = kept-by g count plan ks ts (opens-kept g count ks ts o) ms vs r in
    noted-kept g count plan ms vs h x ns us m (history x r) (recorded g count plan ks ts o x ms vs r)

history-is : (a b : TicketHistory) → a.marked ≡ b.marked → a.clears ≡ b.clears → a.bus_reset ≡ b.bus_reset → a.outside ≡ b.outside → a.uncaused_clears ≡ b.uncaused_clears → a ≡ b
history-is a b m c f o u =
    ap (λ (z : Bool). let h : TicketHistory = record { marked = z; clears = a.clears; bus_reset = a.bus_reset; outside = a.outside; uncaused_clears = a.uncaused_clears } in h) m
    ∙ ap (λ (z : ℕ). let h : TicketHistory = record { marked = b.marked; clears = z; bus_reset = a.bus_reset; outside = a.outside; uncaused_clears = a.uncaused_clears } in h) c
    ∙ ap (λ (z : Bool). let h : TicketHistory = record { marked = b.marked; clears = b.clears; bus_reset = z; outside = a.outside; uncaused_clears = a.uncaused_clears } in h) f
    ∙ ap (λ (z : ℕ). let h : TicketHistory = record { marked = b.marked; clears = b.clears; bus_reset = b.bus_reset; outside = z; uncaused_clears = a.uncaused_clears } in h) o
    ∙ ap (λ (z : ℕ). let h : TicketHistory = record { marked = b.marked; clears = b.clears; bus_reset = b.bus_reset; outside = b.outside; uncaused_clears = z } in h) u

pub histories-end : HistoriesEnd
histories-end g count ns us r x o e =
    let h = recorded g count r.plan r.from.0 r.from.1 r.from.2 x ns us r.from.3 in
    history-is (history x r.from.3) (history_at (ns x).marked (ns x).clears (ns x).bus_reset 0) h.marked
    (subst (λ l. Counted (progress_of l) (ns x).since (ns x).clears (tally_in g us x).clears (history x r.from.3).clears) e h.clears) h.bus_reset h.outside h.uncaused

-- the sense of the report and the entries outside are no matter of the cases
by-report : (o : Outcome) (s : UnitSetting) (t : ℕ) (r : RequestData) (v : View) (marked flag : Bool) (clears few many status lastp tries : ℕ) (buffer sense : List ℕ)
    → By o s r v (history_at marked clears flag few) (report_of t r status lastp tries buffer [] o) → By o s r v (history_at marked clears flag many) (report_of t r status lastp tries buffer sense o)
by-report Done s t r v marked flag clears few many status lastp tries buffer sense (inl h) = inl (record { one_end = h.one_end; no_drop = h.no_drop; tries = h.tries; given = h.given })
by-report Done s t r v marked flag clears few many status lastp tries buffer sense (inr h) =
    inr (record { no_look = h.no_look; no_end = h.no_end; no_drop = h.no_drop; no_sense = h.no_sense; tries = h.tries; all_tries = h.all_tries; status = h.status; residual = h.residual; bytes = h.bytes })
by-report Cut s t r v marked flag clears few many status lastp tries buffer sense h =
    (record { no_end = h.0.no_end; lost = h.0.lost; tries = h.0.tries; status = h.0.status; residual = h.0.residual; bytes = h.0.bytes }, h.1)
by-report Reset s t r v marked flag clears few many status lastp tries buffer sense h =
    (record { no_end = h.0.no_end; lost = h.0.lost; tries = h.0.tries; status = h.0.status; residual = h.0.residual; bytes = h.0.bytes }, h.1)
by-report NoTarget s t r v marked flag clears few many status lastp tries buffer sense h = record {
  absent = h.absent;
  no_refusal = h.no_refusal;
  no_look = h.no_look;
  no_end = h.no_end;
  no_drop = h.no_drop;
  no_sense = h.no_sense;
  tries = h.tries;
  status = h.status;
  residual = h.residual;
  bytes = h.bytes;
}
by-report Broken s t r v marked flag clears few many status lastp tries buffer sense h = absurd h

freed-fits : (g : Plan) (x : ℕ) (k : Ticket) (v : View) (o : Outcome) → FreedReportFits g x k v o → Fits (setting g (unit_of g x)) x (g.requests x) v (history_at k.marked k.clears k.bus_reset 0) (freed_report x (g.requests x) k o)
freed-fits g x k v o f = λ rogue.
    let h = f rogue in
    record {
      ticket = refl;
      of_unit = refl;
      by = by-report o (setting g (unit_of g x)) x (g.requests x) v k.marked k.bus_reset k.clears _ 0 k.status k.lastp k.tries k.buffer k.sense h.by;
      few_tries = h.few_tries;
      all_within = refl;
      all_caused = refl;
    }

freed-sense : (g : Plan) (x : ℕ) (k : Ticket) (v : View) (o : Outcome) → SenseOfReportFits g x k v o → SenseFits (setting g (unit_of g x)) v (history_at k.marked k.clears k.bus_reset 0) (freed_report x (g.requests x) k o)
freed-sense g x k v o f = λ rogue.
    let h = f rogue in
    record {
      at_most_one = h.at_most_one;
      none_early = h.none_early;
      given = h.given;
      none_lost = h.none_lost;
      only_asked = λ z. let a = h.only_asked z in record { autosense = a.autosense; checked = a.checked; unmarked = a.unmarked };
      asked = λ a z. h.asked (record { autosense = a.autosense; checked = a.checked; unmarked = a.unmarked }) z;
    }

pub reports-fit : ReportsFit
reports-fit g count ns us r x o e =
    let unit = ((all-kept g count ns us r).each (target_of g x)).units (unit_of g x) (r.plan.known x) refl in
    let k = unit.2.each x refl in
    let same = sym (histories-end g count ns us r x o e) in (
      unit.0,
      unit.1,
      record {
        fits = subst (λ h. Fits (setting g (unit_of g x)) x (g.requests x) (view_for g x unit.0.log) h (freed_report x (g.requests x) (ns x) o)) same
            (freed-fits g x (ns x) (view_for g x unit.0.log) o (fate_at g x (ns x) unit.0.log (Freed o) k e));
        sense_fits = subst (λ h. SenseFits (setting g (unit_of g x)) (view_for g x unit.0.log) h (freed_report x (g.requests x) (ns x) o)) same
            (freed-sense g x (ns x) (view_for g x unit.0.log) o (sense_at g x (ns x) unit.0.log (Freed o) k e));
      },
    )

pub units-run-their-logs : UnitsRunTheirLogs
units-run-their-logs g count ns us r n less =
    let unit = ((all-kept g count ns us r).each (g.units n).target).units n less refl in
    (unit.0, unit.1, unit.2.rig, unit.2.plain)

lost-without-end : (o : Outcome) (s : UnitSetting) (r : RequestData) (v : View) (h : TicketHistory) (q : Report) → By o s r v h q → (o ≡ Cut) ⊎ (o ≡ Reset) → v.tally.ends ≡ 0
lost-without-end Cut s r v h q b e = b.0.no_end
lost-without-end Reset s r v h q b e = b.0.no_end
lost-without-end Done s r v h q b (inl e) = cc
lost-without-end Done s r v h q b (inr e) = cc
lost-without-end NoTarget s r v h q b (inl e) = cc
lost-without-end NoTarget s r v h q b (inr e) = cc
lost-without-end Broken s r v h q b e = absurd b

pub none-lost-after-end : NoneLostAfterEnd
none-lost-after-end g count ns us r x o e keeps_rules u there some lost =
    let f = reports-fit g count ns us r x o e in
    let same : f.0 ≡ u = same_Some f.0 u (sym f.1 ∙ there) in
    let none = lost-without-end o _ _ _ _ _ (f.2.fits keeps_rules).by lost in
    let ends : (view_for g x u.log).tally.ends ≡ 0 = sym (ap (λ w. (view_for g x w.log).tally.ends) same) ∙ none in
    absurd (omega arith)
