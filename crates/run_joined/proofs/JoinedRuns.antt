-- Runs are joined step by step, and what follows for their reports.
use Rattle.std.proofs.Common.{◌≡◌, ℕ, ◌<◌, Bool, true, false, List, [], ◌∷◌, ◌++◌, length, Option, Some, None, refl, sym, ap, subst, ◌∙◌, ◌⊎◌, inl, inr}
use Rattle.std.specs.Prelude.{not}
use Rattle.rig_types.specs.declared.report.Outcome.{Outcome}
use Rattle.unit_law.specs.Report.{TicketHistory, Fits, SenseFits}
use Rattle.desk_law.specs.declared.stage.Stage.{Stage}
use Rattle.desk_law.specs.declared.stage.Stage.TheVariants as stage
use Rattle.desk_law.specs.Desk.{ticket, lives}
use Rattle.target_law.specs.Target.{Target}
use Rattle.ticket_fate.specs.Tickets.{Plan, unit_of, setting, Life, AtRogue, Freed, is_live, Ticket, freed_report, view_for}
use Rattle.ticket_fate.specs.Linked.{IsPlan}
use Rattle.ticket_fate.specs.Histories as moved
use Rattle.ticket_fate.specs.Histories.{Run, none, more}
use Rattle.ticket_fate.specs.Laws.{Reached}
use Rattle.ticket_fate.proofs.Reached.{reports-fit, units-run-their-logs}
use Rattle.bus_events.specs.Targets.{targets}
use Rattle.bus_events.specs.BusResets.{history_on}
use Rattle.world_law.specs.World.{BenchSetting, IsBenchSetting, World}
use Rattle.world_law.specs.Opening.{opened}
use Rattle.world_law.specs.Runs.{Moment, Steps, IsRun, last}
use Rattle.world_law.proofs.RunLaws.{goes_on, ends_after}
use Rattle.run_law.specs.History.{noted, history}
use Rattle.run_law.proofs.Longer.{notes_on}
use Rattle.word_owners.specs.KeptDesks.{AreKept}
use Rattle.word_owners.specs.Worlds.{HasBytes}
use Rattle.word_owners.proofs.Worlds.{depths_are_kept}
use Rattle.run_joined.specs.DeskLives.{IsStage, outcome_of}
use Rattle.run_joined.specs.Plans.{IsPlanOf}
use Rattle.run_joined.specs.Joined.{IsJoined, no_tickets, StepJoins, is_by_words}
use Rattle.run_joined.specs.JoinedRuns.{RunJoins, IsJoinedRun, WordsJoin, RunsJoin, FreedFits, RunsItsLog, JoinedRunsFit}
use Rattle.run_joined.proofs.DriverSteps.{driver-steps-join}
use Rattle.run_joined.proofs.Moved.{lives-so}
use Rattle.run_joined.proofs.Opening.{opening-is-joined}
use Rattle.run_joined.proofs.Plans.{plans-stay}
use Rattle.run_joined.proofs.Matching.{none-noted}

-- ---- lists of moves one behind the other
pub appended : {p : Plan} {count : ℕ} {ks : ℕ → Ticket} {ts : ℕ → Target} {ms : ℕ → Ticket} {vs : ℕ → Target} {ns : ℕ → Ticket} {us : ℕ → Target} → Run p count ks ts ms vs → Run p count ms vs ns us → Run p count ks ts ns us
appended r none = r
appended r (more s m) = more (appended r s) m

appended-history : {p : Plan} {count : ℕ} {ks : ℕ → Ticket} {ts : ℕ → Target} {ms : ℕ → Ticket} {vs : ℕ → Target} {ns : ℕ → Ticket} {us : ℕ → Target} (x : ℕ) (r : Run p count ks ts ms vs) (s : Run p count ms vs ns us)
    → moved.history x (appended r s) ≡ history_on x s (moved.history x r)
unfolding appended
appended-history x r none = refl
appended-history x r (more s m) = ap (moved.noted x m) (appended-history x r s)

pub appended-from : {p : Plan} {count : ℕ} {ks : ℕ → Ticket} {ts : ℕ → Target} {ms : ℕ → Ticket} {vs : ℕ → Target} {ns : ℕ → Ticket} {us : ℕ → Target} (x : ℕ) (h : TicketHistory) (r : Run p count ks ts ms vs) (s : Run p count ms vs ns us)
    → history_on x (appended r s) h ≡ history_on x s (history_on x r h)
unfolding appended
appended-from x h r none = refl
appended-from x h r (more s m) = ap (moved.noted x m) (appended-from x h r s)

append-one : (ns : List Moment) (m : Moment) (ms : List Moment) → (ns ++ m ∷ []) ++ ms ≡ ns ++ m ∷ ms
append-one [] m ms = refl
append-one (n ∷ ns) m ms = ap (λ (z : List Moment). n ∷ z) (append-one ns m ms)

append-none : (ns : List Moment) → ns ++ [] ≡ ns
append-none [] = refl
append-none (n ∷ ns) = ap (λ (z : List Moment). n ∷ z) (append-none ns)

-- the plan of a run was that of the world before it
pub plan-before : (g : BenchSetting) (p : Plan) (w : World) (ms : List Moment) → IsRun g w ms → IsPlanOf g (last w ms) p → IsPlanOf g w p
plan-before g p w [] r h = h
plan-before g p w (m ∷ ms) r h = plans-stay g w m p r.0 (plan-before g p m.after ms r.1 h)

-- a list of moves to a world, with the history of a run
record RunTo (g : BenchSetting) (p : Plan) (ms : List Moment) (ks : ℕ → Ticket) (spare : ℕ → ℕ) (w : World) : Type 0 where
  moves : Run p (length g.units) no_tickets (targets (opened g).bus) ks (targets w.bus)
  joined : IsJoined g p w ks spare
  histories : (x : ℕ) → history g (unit_of p x) x (opened g) ms ≡ moved.history x moves

module _ (g : BenchSetting) (p : Plan) where
  -- one step more
  pub joined-on : (ns : List Moment) (m : Moment) (ks : ℕ → Ticket) → RunJoins g p ns ks → (x : StepJoins g p (last (opened g) ns) m ks) → RunJoins g p (ns ++ m ∷ []) x.tickets
  joined-on ns m ks j x =
      let here : RunTo g p (ns ++ m ∷ []) x.tickets x.spare m.after = record {
        moves = appended j.moves x.moves;
        joined = x.joined;
        histories = λ y.
            notes_on g (unit_of p y) y (opened g) ns m
            ∙ ap (λ (h : TicketHistory). noted g (unit_of p y) y h (record { before = last (opened g) ns; moment = m })) (j.histories y)
            ∙ x.notes y (moved.history y j.moves) ∙ sym (appended-history y j.moves x.moves);
      } in
      let z = subst (RunTo g p (ns ++ m ∷ []) x.tickets x.spare) (sym (ends_after (opened g) ns m)) here in
      record { spare = x.spare; opens = j.opens; moves = z.moves; joined = z.joined; histories = z.histories }

  -- at the opening
  pub joined-opening : IsBenchSetting g → IsPlan p (length g.units) → IsPlanOf g (opened g) p → RunJoins g p [] no_tickets
  joined-opening setting_of plan of =
      let o = opening-is-joined g p setting_of plan of in
      record { spare = λ n. 0; opens = o.0; moves = none; joined = o.1; histories = λ x. none-noted g (unit_of p x) x (opened g) }

module _ (g : BenchSetting) (p : Plan) (setting_of : IsBenchSetting g) (bytes : HasBytes g) (plan : IsPlan p (length g.units)) (words : WordsJoin g p) where
  -- a step by the words, or one of the driver
  one-step : (ns : List Moment) (m : Moment) → IsRun g (opened g) ns → Steps g (last (opened g) ns) m → IsPlanOf g m.after p → IsJoinedRun g p ns → (b : Bool) → is_by_words m.entry.step ≡ b → IsJoinedRun g p (ns ++ m ∷ [])
  one-step ns m r s of x true e = words ns m r s e x
  one-step ns m r s of (ks, j) false e =
      let after : AreKept m.after.desk = subst (λ (w : World). AreKept w.desk) (ends_after (opened g) ns m) (depths_are_kept g setting_of bytes (ns ++ m ∷ []) (goes_on g (opened g) ns m r s)) in
      let x = driver-steps-join g p (last (opened g) ns) m ks j.spare setting_of of s (depths_are_kept g setting_of bytes ns r) after e j.joined in
      (x.tickets, joined-on g p ns m ks j x)

  all-steps : (ns ms : List Moment) → IsRun g (opened g) ns → IsRun g (last (opened g) ns) ms → IsPlanOf g (last (last (opened g) ns) ms) p → IsJoinedRun g p ns → IsJoinedRun g p (ns ++ ms)
  all-steps ns [] r s of x = subst (IsJoinedRun g p) (sym (append-none ns)) x
  all-steps ns (m ∷ ms) r s of x =
      let e : last (opened g) (ns ++ m ∷ []) ≡ m.after = ends_after (opened g) ns m in
      subst (IsJoinedRun g p) (append-one ns m ms)
      (all-steps (ns ++ m ∷ []) ms (goes_on g (opened g) ns m r s.0) (subst (λ (w : World). IsRun g w ms) (sym e) s.1)
      (subst (λ (w : World). IsPlanOf g (last w ms) p) (sym e) of) (one-step ns m r s.0 (plan-before g p m.after ms s.1 of) x (is_by_words m.entry.step) refl))

pub runs-join : RunsJoin
runs-join g p ms setting_of bytes plan of r words =
    all-steps g p setting_of bytes plan words [] ms tt r of (no_tickets, joined-opening g p setting_of plan (plan-before g p (opened g) ms r of))

-- ---- what follows
only-freed : (l : Life) (s : Stage) → IsStage l s → is_live l ≡ false → (o : Outcome) × (l ≡ Freed o)
only-freed (Freed o) s e n = (o, refl)
only-freed AtRogue s e n = absurd cc
only-freed l s e n = absurd cc

module _ (g : BenchSetting) (p : Plan) (ms : List Moment) (ks : ℕ → Ticket) (j : RunJoins g p ms ks) where
  abbrev reached : Reached p (length g.units) ks (targets (last (opened g) ms).bus)
  reached = record { plan = j.joined.tickets.reached.plan; from = (no_tickets, targets (opened g).bus, j.opens, j.moves) }

  freed-fits : (x : ℕ) → x < length (last (opened g) ms).desk.tickets → lives (ticket (last (opened g) ms).desk x) ≡ false → FreedFits g p ms ks x
  freed-fits x l n =
      let d = (last (opened g) ms).desk in
      let h = j.joined.desk.each x l in
      let f = only-freed (ks x).life (ticket d x).stage h.stage_is (sym (lives-so p d ks j.joined.desk x) ∙ n) in
      let r = reports-fit p (length g.units) ks (targets (last (opened g) ms).bus) reached x f.0 f.1 in
      let same = sym (j.histories x) in
      record {
        result = f.0;
        outcome_is = h.outcome_is ∙ ap outcome_of f.1;
        tries_are = h.tries_are;
        its_unit = r.0;
        there = r.1;
        fits = subst (λ (z : TicketHistory). Fits (setting p (unit_of p x)) x (p.requests x) (view_for p x r.0.log) z (freed_report x (p.requests x) (ks x) f.0)) same r.2.fits;
        sense_fits = subst (λ (z : TicketHistory). SenseFits (setting p (unit_of p x)) (view_for p x r.0.log) z (freed_report x (p.requests x) (ks x) f.0)) same r.2.sense_fits;
      }

  units-run : (n : ℕ) → n < length g.units → RunsItsLog g p ms n
  units-run n l =
      let u = units-run-their-logs p (length g.units) ks (targets (last (opened g) ms).bus) reached n l in
      record { its_unit = u.0; there = u.1; rig = u.2; plain = u.3 }

pub joined-runs-fit : JoinedRunsFit
joined-runs-fit = record { freed = freed-fits; units = units-run }
