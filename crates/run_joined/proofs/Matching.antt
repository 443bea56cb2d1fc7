-- The run's history of a ticket is that of the moves.
use Rattle.std.proofs.Common.{◌≡◌, ℕ, ◌+◌, ◌-◌, nat_lt, Bool, true, false, List, [], refl, ap, arith, sym, ◌∙◌, subst}
use Rattle.std.specs.Prelude.{◌||◌, ◌&&◌, not}
use Rattle.rig_types.specs.declared.report.Outcome.{Outcome}
use Rattle.target_law.specs.Target.{Target}
use Rattle.unit_law.specs.Log.{Tally}
use Rattle.unit_law.specs.Report.{TicketHistory, Fits, SenseFits}
use Rattle.logs_have_room.specs.Room.{entries}
use Rattle.desk_law.specs.Desk.{unit}
use Rattle.ticket_fate.specs.Tickets.{Plan, unit_of, setting, is_live, Ticket, freed_report, view_for}
use Rattle.ticket_fate.specs.Histories as moved
use Rattle.ticket_fate.specs.Histories.{progress_of, marks_in, is_bus, is_device, resets_by}
use Rattle.ticket_fate.specs.Moves.{target_of, Moves}
use Rattle.ticket_fate.specs.Laws.{Reached}
use Rattle.ticket_fate.proofs.Reached.{histories-end, reports-fit}
use Rattle.world_law.specs.World.{BenchSetting, World}
use Rattle.world_law.specs.Runs.{Moment, last}
use Rattle.run_law.specs.Changes.{Change, marks, resets_bus, resets_device}
use Rattle.run_law.specs.History.{tally_in, is_live as lives_in, is_under_way, count_if, noted, history}
use Rattle.run_law.proofs.Longer.{notes_on}
use Rattle.run_joined.specs.Matching.{IsSilent, SaysNothing, SaysAs, opened, moves, passes, says, IsFreedIn, HistoriesTie, FreedHistories, FreedReportsFit}

-- one more change, by what it says
abbrev pub by_change : (marked bus device live under : Bool) (before after : Tally) → TicketHistory → TicketHistory
by_change marked bus device live under before after h = record {
  marked = h.marked || marked;
  clears = h.clears + count_if under (after.clears - before.clears);
  bus_reset = h.bus_reset || (bus && (nat_lt 0 before.ends && live));
  outside = h.outside + count_if (not live) (entries after - entries before);
  uncaused_clears = h.uncaused_clears + count_if (not (bus || device)) (after.clears - before.clears);
}

abbrev pub by_move : (marked bus device live under : Bool) (before after : Tally) → TicketHistory → TicketHistory
by_move marked bus device live under before after h = record {
  marked = h.marked || marked;
  clears = h.clears + moved.count_if under (after.clears - before.clears);
  bus_reset = h.bus_reset || (bus && (nat_lt 0 before.ends && live));
  outside = h.outside + moved.count_if (not live) (entries after - entries before);
  uncaused_clears = h.uncaused_clears + moved.count_if (not (bus || device)) (after.clears - before.clears);
}

same-count : (b : Bool) (n : ℕ) → count_if b n ≡ moved.count_if b n
same-count true n = refl
same-count false n = refl

pub history-of : (a b : TicketHistory) → a.marked ≡ b.marked → a.clears ≡ b.clears → a.bus_reset ≡ b.bus_reset → a.outside ≡ b.outside → a.uncaused_clears ≡ b.uncaused_clears → a ≡ b
history-of a b m c f o u =
    ap (λ (z : Bool). let h : TicketHistory = record { marked = z; clears = a.clears; bus_reset = a.bus_reset; outside = a.outside; uncaused_clears = a.uncaused_clears } in h) m
    ∙ ap (λ (z : ℕ). let h : TicketHistory = record { marked = b.marked; clears = z; bus_reset = a.bus_reset; outside = a.outside; uncaused_clears = a.uncaused_clears } in h) c
    ∙ ap (λ (z : Bool). let h : TicketHistory = record { marked = b.marked; clears = b.clears; bus_reset = z; outside = a.outside; uncaused_clears = a.uncaused_clears } in h) f
    ∙ ap (λ (z : ℕ). let h : TicketHistory = record { marked = b.marked; clears = b.clears; bus_reset = b.bus_reset; outside = z; uncaused_clears = a.uncaused_clears } in h) o
    ∙ ap (λ (z : ℕ). let h : TicketHistory = record { marked = b.marked; clears = b.clears; bus_reset = b.bus_reset; outside = b.outside; uncaused_clears = z } in h) u

pub changes-move : (marked bus device live under : Bool) (before after : Tally) (h : TicketHistory) → by_change marked bus device live under before after h ≡ by_move marked bus device live under before after h
changes-move marked bus device live under before after h =
    history-of (by_change marked bus device live under before after h) (by_move marked bus device live under before after h) refl
    (ap (λ z. h.clears + z) (same-count under _)) refl (ap (λ z. h.outside + z) (same-count (not live) _)) (ap (λ z. h.uncaused_clears + z) (same-count (not (bus || device)) _))

-- nothing is said
pub or-none : (a : Bool) → (a || false) ≡ a
or-none true = refl
or-none false = refl

pub count-none : (b : Bool) (n : ℕ) → moved.count_if b (n - n) ≡ 0
count-none true n = omega arith
count-none false n = refl

silent-by : (device live under : Bool) (k : Tally) (h : TicketHistory) → by_move false false device live under k k h ≡ h
silent-by device live under k h =
    history-of (by_move false false device live under k k h) h (or-none h.marked) (omega (arith, count-none under k.clears)) (or-none h.bus_reset) (omega (arith, count-none (not live) (entries k)))
    (omega (arith, count-none (not (false || device)) k.clears))

pub silent-move : (p : Plan) (count : ℕ) (ks : ℕ → Ticket) (ts : ℕ → Target) (ns : ℕ → Ticket) (us : ℕ → Target) (x : ℕ) (m : Moves p count ks ts ns us) (h : TicketHistory) → IsSilent p count ks ts ns us x m → moved.noted x m h ≡ h
silent-move p count ks ts ns us x m h s =
    let device = resets_by is_device (target_of p x) m in
    let live = is_live (ks x).life in
    let under = moved.is_under_way (progress_of (ks x).life) in
    let before = moved.tally_in p ts x in
    ap (λ z. by_move z (resets_by is_bus (target_of p x) m) device live under before (moved.tally_in p us x) h) s.unmarked
    ∙ ap (λ z. by_move false z device live under before (moved.tally_in p us x) h) s.no_bus_reset
    ∙ ap (λ z. by_move false false device live under before z h) s.tally
    ∙ silent-by device live under before h

pub silent-change : (g : BenchSetting) (u x : ℕ) (c : Change) (h : TicketHistory) → SaysNothing g u x c → noted g u x h c ≡ h
silent-change g u x c h s =
    let device = resets_device g (unit c.before.desk u).target c in
    let live = lives_in c.before x in
    let under = is_under_way c.before x in
    let before = tally_in c.before u x in
    ap (λ z. by_change z (resets_bus g c) device live under before (tally_in c.moment.after u x) h) s.unmarked
    ∙ ap (λ z. by_change false z device live under before (tally_in c.moment.after u x) h) s.no_bus_reset
    ∙ ap (λ z. by_change false false device live under before z h) s.tally
    ∙ changes-move false false device live under before before h ∙ silent-by device live under before h

-- a change that says what a move says
same-noted : (g : BenchSetting) (u x : ℕ) (c : Change) (p : Plan) (count : ℕ) (ks : ℕ → Ticket) (ts : ℕ → Target) (ns : ℕ → Ticket) (us : ℕ → Target) (m : Moves p count ks ts ns us) (h : TicketHistory)
    → SaysAs g u x c p count ks ts ns us m → noted g u x h c ≡ moved.noted x m h
same-noted g u x c p count ks ts ns us m h s =
    let device = resets_device g (unit c.before.desk u).target c in
    let live = lives_in c.before x in
    let under = is_under_way c.before x in
    let before = tally_in c.before u x in
    let after = tally_in c.moment.after u x in
    changes-move (marks g x c) (resets_bus g c) device live under before after h
    ∙ ap (λ z. by_move z (resets_bus g c) device live under before after h) s.marked
    ∙ ap (λ z. by_move (marks_in x m) z device live under before after h) s.bus
    ∙ ap (λ z. by_move (marks_in x m) (resets_by is_bus (target_of p x) m) z live under before after h) s.device
    ∙ ap (λ z. by_move (marks_in x m) (resets_by is_bus (target_of p x) m) (resets_by is_device (target_of p x) m) z under before after h) s.live
    ∙ ap (λ z. by_move (marks_in x m) (resets_by is_bus (target_of p x) m) (resets_by is_device (target_of p x) m) (is_live (ks x).life) z before after h) s.under_way
    ∙ ap (λ z. by_move (marks_in x m) (resets_by is_bus (target_of p x) m) (resets_by is_device (target_of p x) m) (is_live (ks x).life) (moved.is_under_way (progress_of (ks x).life)) z after h) s.before
    ∙ ap (λ z. by_move (marks_in x m) (resets_by is_bus (target_of p x) m) (resets_by is_device (target_of p x) m) (is_live (ks x).life) (moved.is_under_way (progress_of (ks x).life)) (moved.tally_in p ts x) z h) s.after

pub none-noted : (g : BenchSetting) (u x : ℕ) (w : World) → history g u x w [] ≡ moved.no_history
unfolding history
none-noted g u x w = refl

pub histories-tie : HistoriesTie
histories-tie g u x w p count ks ts ms ns us r opened = none-noted g u x w
histories-tie g u x w p count ks ts ms ns us r (moves {ns = ks1} {us = ts1} {r = r1} t m s) =
    histories-tie g u x w p count ks ts ms ks1 ts1 r1 t ∙ sym (silent-move p count ks1 ts1 ns us x m (moved.history x r1) s)
histories-tie g u x w p count ks ts ms ns us r (passes {ms = ms1} t a s) =
    let c : Change = record { before = last w ms1; moment = a } in
    notes_on g u x w ms1 a ∙ silent-change g u x c (history g u x w ms1) s ∙ histories-tie g u x w p count ks ts ms1 ns us r t
histories-tie g u x w p count ks ts ms ns us r (says {ms = ms1} {ns = ks1} {us = ts1} {r = r1} t a m s) =
    let c : Change = record { before = last w ms1; moment = a } in
    notes_on g u x w ms1 a ∙ ap (λ h. noted g u x h c) (histories-tie g u x w p count ks ts ms1 ks1 ts1 r1 t) ∙ same-noted g u x c p count ks1 ts1 ns us m (moved.history x r1) s

abbrev reached : (g : BenchSetting) (x : ℕ) (w : World) (p : Plan) (count : ℕ) (ms : List Moment) (ns : ℕ → Ticket) (us : ℕ → Target) (o : Outcome) → IsFreedIn g x w p count ms ns us o → Reached p count ns us
reached g x w p count ms ns us o f = record { plan = f.plan; from = (f.ks, f.ts, f.opens, f.run) }

tied : (g : BenchSetting) (x : ℕ) (w : World) (p : Plan) (count : ℕ) (ms : List Moment) (ns : ℕ → Ticket) (us : ℕ → Target) (o : Outcome) (f : IsFreedIn g x w p count ms ns us o)
    → history g (unit_of p x) x w ms ≡ moved.history x f.run
tied g x w p count ms ns us o f = histories-tie g (unit_of p x) x w p count f.ks f.ts ms ns us f.run f.matches

pub freed-histories : FreedHistories
freed-histories g x w p count ms ns us o f = tied g x w p count ms ns us o f ∙ histories-end p count ns us (reached g x w p count ms ns us o f) x o f.freed

pub freed-reports-fit : FreedReportsFit
freed-reports-fit g x w p count ms ns us o f =
    let r = reports-fit p count ns us (reached g x w p count ms ns us o f) x o f.freed in
    let same = sym (tied g x w p count ms ns us o f) in
    record {
      log_of_unit = r.0;
      there = r.1;
      fits = subst (λ h. Fits (setting p (unit_of p x)) x (p.requests x) (view_for p x r.0.log) h (freed_report x (p.requests x) (ns x) o)) same r.2.fits;
      sense_fits = subst (λ h. SenseFits (setting p (unit_of p x)) (view_for p x r.0.log) h (freed_report x (p.requests x) (ns x) o)) same r.2.sense_fits;
    }
