-- The steps of one ticket by itself that ask for the sense, or are of a unit that breaks the rules.
use Rattle.std.proofs.Common.{◌≡◌, ℕ, Bool, true, false, List, [], length, refl, ap, arith, sym, ◌∙◌, subst, ◌⊎◌, inl, inr}
use Rattle.std.proofs.lemmas.Option.{same_Some}
use Rattle.scsi_words.specs.declared.statuses.kinds.Status.{Status}
use Rattle.scsi_words.specs.declared.statuses.kinds.Status.TheVariants.{Good, Check, Busy, Conflict, QueueFull}
use Rattle.scsi_words.specs.Statuses.{status_code}
use Rattle.rig_types.specs.declared.report.Outcome.{Outcome}
use Rattle.rig_types.specs.declared.report.Outcome.TheVariants.{Done, Cut, Reset, NoTarget, Broken}
use Rattle.unit_law.specs.declared.entry.LogEntry.{LogEntry}
use Rattle.unit_law.specs.Log.{View}
use Rattle.unit_law.specs.Report.{EndedInCheck, AsksSense, ByEnd, ByRefusal}
use Rattle.ticket_fate.specs.Tickets.{Plan, unit_of, setting, Waits, Finished, Checked, Asks, AskStarts, AskLost, Asked, AtRogue, Ended, Ticket, with_life, report_of, history_at, asking_ticket, rogue_ticket, view_for}
use Rattle.ticket_fate.specs.Senses.{Unasked, SenseOfReportFits, SenseFate}
use Rattle.ticket_fate.specs.Fates.{ReportFits, Fate, TicketKept}
use Rattle.ticket_fate.specs.Moves.{IsToAsk}
use Rattle.ticket_fate.proofs.SenseLives.{silent, silent-lost, silent-reset, taken-asked}
use Rattle.ticket_fate.proofs.TicketSteps.{fate_at, sense_at}

check-only : (s : Status) → status_code s ≡ status_code Check → s ≡ Check
check-only Good e = absurd (omega arith)
check-only Check e = refl
check-only Busy e = absurd (omega arith)
check-only Conflict e = absurd (omega arith)
check-only QueueFull e = absurd (omega arith)

-- an answer with CHECK CONDITION is that of the block's status byte
asks-then : (g : Plan) (t : ℕ) (k : Ticket) (v : View) → (g.units (unit_of g t)).rogue ≡ false → ReportFits g t k v Done → AsksSense (setting g (unit_of g t)) v (history_at k.marked 0 k.bus_reset 0) → IsToAsk g t k
asks-then g t k v rogue f z = by (f rogue).by
  where
    by : ByEnd (g.requests t) v (report_of t (g.requests t) k.status k.lastp k.tries k.buffer [] Done) ⊎ ByRefusal g.retries (g.requests t) v (report_of t (g.requests t) k.status k.lastp k.tries k.buffer [] Done) → IsToAsk g t k
    by (inl b) =
        let c = z.checked.1 in
        let same = same_Some b.given.0 c.0 (sym b.given.1 ∙ c.1) in
        record { keeps = rogue; checked = b.given.2 ∙ ap (λ a. status_code a.status) same ∙ ap status_code c.2; autosense = z.autosense; unmarked = z.unmarked }
    by (inr b) = absurd (let n = z.checked.0 in omega (arith, n, b.no_end))

silent-taken : (g : Plan) (t : ℕ) (k : Ticket) (v : View) (o : Outcome) → ReportFits g t k v o → (o ≡ Done → IsToAsk g t k → ⊥) → Unasked k.sense v → SenseOfReportFits g t k v o
silent-taken g t k v Done f not u = λ rogue. silent g t k v Done u (λ z b. not refl (asks-then g t k v rogue f z)) rogue
silent-taken g t k v Cut f not u = λ rogue. silent-lost g t k v Cut u (f rogue).by.0.no_end rogue
silent-taken g t k v Reset f not u = λ rogue. silent-lost g t k v Reset u (f rogue).by.0.no_end rogue
silent-taken g t k v NoTarget f not u = λ rogue. silent-lost g t k v NoTarget u (f rogue).by.no_end rogue
silent-taken g t k v Broken f not u = λ rogue. absurd (f rogue).by

-- it is to ask: it has End, with CHECK CONDITION
in-check : (g : Plan) (t : ℕ) (k : Ticket) (v : View) → ReportFits g t k v Done → v.tally.ends ≡ 1 → IsToAsk g t k → EndedInCheck v
in-check g t k v f one a = by (f a.keeps).by
  where
    by : ByEnd (g.requests t) v (report_of t (g.requests t) k.status k.lastp k.tries k.buffer [] Done) ⊎ ByRefusal g.retries (g.requests t) v (report_of t (g.requests t) k.status k.lastp k.tries k.buffer [] Done) → EndedInCheck v
    by (inl b) = (one, (b.given.0, b.given.1, check-only b.given.0.status (sym b.given.2 ∙ a.checked)))
    by (inr b) = absurd (let n = b.no_end in omega arith)

tame : (b : Bool) → {P : Type 0} → b ≡ true → b ≡ false → P
tame b e f = cc

module _ (g : Plan) (t : ℕ) (k : Ticket) (log : List LogEntry) (s : TicketKept g t k log) where
  abbrev v : View
  v = view_for g t log

  pub taken-kept : (o : Outcome) → k.life ≡ Finished o → (o ≡ Done → IsToAsk g t k → ⊥) → TicketKept g t (with_life k (Ended o)) log
  taken-kept o e not =
      let f = fate_at g t k log (Finished o) s e in
      record { fate = f.0; sense = silent-taken g t k v o f.0 not (sense_at g t k log (Finished o) s e); absent = λ a. ((s.absent a).0, tt); since = s.since; before = s.before }

  pub checked-kept : k.life ≡ Finished Done → IsToAsk g t k → TicketKept g t (with_life k Checked) log
  checked-kept e a =
      let f = fate_at g t k log (Finished Done) s e in
      let c = in-check g t k v f.0 (f.1 refl) a in
      record {
        fate = (f.0, c);
        sense = record { unasked = sense_at g t k log (Finished Done) s e; autosense = a.autosense; checked = c; unmarked = a.unmarked };
        absent = λ z. ((s.absent z).0, tt);
        since = s.since;
        before = s.before;
      }

  pub asks-kept : (area : List ℕ) → k.life ≡ Checked → length area ≡ 18 → TicketKept g t (asking_ticket k area) log
  asks-kept area e size = record { fate = fate_at g t k log Checked s e; sense = (sense_at g t k log Checked s e, size); absent = λ a. ((s.absent a).0, tt); since = s.since; before = s.before }

  pub ask-selected-kept : k.life ≡ Asks → TicketKept g t (with_life k AskStarts) log
  ask-selected-kept e = record { fate = fate_at g t k log Asks s e; sense = sense_at g t k log Asks s e; absent = λ a. ((s.absent a).0, tt); since = s.since; before = s.before }

  pub sense-taken-kept : k.life ≡ Asked → TicketKept g t (record k { life = Ended Done; sense = k.area }) log
  sense-taken-kept e =
      record { fate = (fate_at g t k log Asked s e).0; sense = taken-asked g t k v (sense_at g t k log Asked s e); absent = λ a. ((s.absent a).0, tt); since = s.since; before = s.before }

  pub asking-swept-kept : k.life ≡ AskLost → TicketKept g t (with_life k (Ended Done)) log
  asking-swept-kept e =
      record { fate = (fate_at g t k log AskLost s e).0; sense = silent-reset g t k v (sense_at g t k log AskLost s e); absent = λ a. ((s.absent a).0, tt); since = s.since; before = s.before }

  pub rogue-selected-kept : k.life ≡ Waits → (g.units (unit_of g t)).rogue ≡ true → TicketKept g t (with_life k AtRogue) log
  rogue-selected-kept e r = record { fate = r; sense = tt; absent = λ a. ((s.absent a).0, tt); since = s.since; before = s.before }

  pub rogue-moved-kept : (status lastp savep tries : ℕ) (buffer area : List ℕ) → k.life ≡ AtRogue → TicketKept g t (rogue_ticket k status lastp savep tries buffer area) log
  rogue-moved-kept status lastp savep tries buffer area e =
      let j = rogue_ticket k status lastp savep tries buffer area in
      record {
        fate = subst (λ l. Fate g t l j v) (sym e) (fate_at g t k log AtRogue s e);
        sense = subst (λ l. SenseFate g t l j v) (sym e) tt;
        absent = s.absent;
        since = s.since;
        before = s.before;
      }

  pub rogue-ended-kept : (o : Outcome) → k.life ≡ AtRogue → TicketKept g t (with_life k (Ended o)) log
  rogue-ended-kept o e =
      let r : (g.units (unit_of g t)).rogue ≡ true = fate_at g t k log AtRogue s e in
      record { fate = λ rogue. tame (g.units (unit_of g t)).rogue r rogue; sense = λ rogue. tame (g.units (unit_of g t)).rogue r rogue; absent = λ a. ((s.absent a).0, tt); since = s.since; before = s.before }
