-- What holds of a ticket after a move that logs nothing and speaks of no task.
use Rattle.std.proofs.Common.{◌≡◌, ◌≢◌, ℕ, ◌+◌, ◌≤◌, ◌<◌, true, false, List, [], length, refl, ap, arith, sym, ◌∙◌, subst, inl, inr, cond, nat_eq}
use Rattle.scsi_words.specs.declared.phases.kinds.Direction.{Direction}
use Rattle.scsi_words.specs.declared.phases.kinds.Direction.TheVariants.{In, Out, None as NoData}
use Rattle.scsi_words.specs.declared.statuses.kinds.Status.{Status}
use Rattle.scsi_words.specs.declared.statuses.kinds.Status.TheVariants.{Good}
use Rattle.scsi_words.specs.Statuses.{status_code}
use Rattle.rig_types.specs.declared.report.Outcome.TheVariants.{Done, Cut, NoTarget}
use Rattle.rig_types.specs.declared.report.Report.{Report}
use Rattle.unit_law.specs.declared.entry.LogEntry.{LogEntry}
use Rattle.unit_law.specs.Request.{RequestData}
use Rattle.unit_law.specs.Log.{View}
use Rattle.unit_law.specs.Report.{ByLoss, filled, holding, data_of, no_status}
use Rattle.unit_law.proofs.Views.{ne-test}
use Rattle.logs_have_room.specs.Room.{entries}
use Rattle.ticket_fate.specs.Tickets.{Plan, unit_of, Life, Unbuilt, Built, Linked, ToRequeue, Waits, Selected, Rejected, Finished, Ended, Ticket, with_life, report_of, view_for, built_ticket, queued_ticket}
use Rattle.ticket_fate.specs.Senses.{Unasked, SenseFate}
use Rattle.ticket_fate.proofs.SenseLives.{silent-lost}
use Rattle.ticket_fate.specs.Fates.{IsRefusal, OnlyRefusals, Queued, AllRefused, Fate, TicketKept, NeedsNone}

pub fate_at : (g : Plan) (t : ℕ) (k : Ticket) (log : List LogEntry) (l : Life) → TicketKept g t k log → k.life ≡ l → Fate g t l k (view_for g t log)
fate_at g t k log l s e = subst (λ x. Fate g t x k (view_for g t log)) e s.fate

pub sense_at : (g : Plan) (t : ℕ) (k : Ticket) (log : List LogEntry) (l : Life) → TicketKept g t k log → k.life ≡ l → SenseFate g t l k (view_for g t log)
sense_at g t k log l s e = subst (λ x. SenseFate g t x k (view_for g t log)) e s.sense

-- a target that is there
pub needs : (g : Plan) (t : ℕ) (k : Ticket) (log : List LogEntry) (l : Life) → TicketKept g t k log → k.life ≡ l → (NeedsNone l → ⊥) → (g.units (unit_of g t)).absent ≡ true → ⊥
needs g t k log l s e no_need a = no_need (subst NeedsNone e (s.absent a).1)

pub whole : (a b m n : ℕ) → (m ≡ n → ⊥) → cond (nat_eq m n) a b ≡ b
whole a b m n d = let e : m ≢ n = d in rw (ne-test m n e) refl

pub held-none : (w : Direction) (d sub : List ℕ) → holding w d 0 sub ≡ sub
unfolding filled
held-none In d sub = refl
held-none Out d sub = refl
held-none NoData d sub = refl

recount : (v : View) (n : ℕ) → OnlyRefusals v n → OnlyRefusals v v.tally.refusals
recount v n q = record { refusals = refl; looks = q.looks; ends = q.ends; drops = q.drops; high = q.high; senses = q.senses; answer = q.answer }

module _ (g : Plan) (t : ℕ) (k : Ticket) (log : List LogEntry) (s : TicketKept g t k log) where
  abbrev v : View
  v = view_for g t log

  abbrev r : RequestData
  r = g.requests t

  pub built-kept : (tag : ℕ) → k.life ≡ Unbuilt → TicketKept g t (built_ticket (g.requests t) tag (entries (view_for g t log).tally) k) log
  built-kept tag e =
      let f = fate_at g t k log Unbuilt s e in
      record { fate = (refl, record { entries = f; holds = refl }); sense = sense_at g t k log Unbuilt s e; absent = λ a. ((s.absent a).0, tt); since = s.since; before = omega (arith, f.refusals, f.looks, f.ends, f.drops, f.senses) }

  pub linked-kept : k.life ≡ Built → TicketKept g t (with_life k Linked) log
  linked-kept e = record { fate = fate_at g t k log Built s e; sense = sense_at g t k log Built s e; absent = λ a. ((s.absent a).0, tt); since = s.since; before = s.before }

  waits : (since : ℕ) → k.tries ≤ g.retries → since ≤ v.tally.clears → AllRefused r k.tries k.buffer v → Unasked k.sense v → TicketKept g t (queued_ticket k since) log
  waits since few le f u = record {
    sense = u;
    fate = record { entries = recount v k.tries f.entries; tried = ap (λ n. n + 1) (sym f.entries.refusals); most = omega arith; holds = f.holds; last = refl; saves = refl };
    absent = λ a. ((s.absent a).0, tt);
    since = le;
    before = s.before;
  }

  pub queued-kept : k.life ≡ Linked → TicketKept g t (queued_ticket k (view_for g t log).tally.clears) log
  queued-kept e = let f = fate_at g t k log Linked s e in waits v.tally.clears (omega (arith, f.0)) (omega arith) f.1 (sense_at g t k log Linked s e)

  pub again-kept : k.life ≡ ToRequeue → TicketKept g t (queued_ticket k k.since) log
  again-kept e = let f = fate_at g t k log ToRequeue s e in waits k.since f.0 s.since f.1 (sense_at g t k log ToRequeue s e)

  pub loss : Queued g.retries r k.tries k.lastp k.savep k.buffer v → (q : Report) → q.status ≡ no_status → q.residual ≡ length r.bytes → q.tries ≡ k.tries → q.bytes ≡ k.buffer → ByLoss r v q
  loss q p a b c d = record {
    no_end = q.entries.ends;
    lost = inr (q.entries.drops, q.entries.looks, q.entries.senses, q.entries.high);
    tries = c ∙ q.tried;
    status = a;
    residual = b;
    bytes = d ∙ q.holds ∙ sym (ap (λ h. holding r.direction (data_of v.answer) h r.bytes) q.entries.high ∙ held-none r.direction (data_of v.answer) r.bytes);
  }

  pub cancelled-kept : k.life ≡ Waits → k.marked ≡ true → TicketKept g t (with_life k (Finished Cut)) log
  cancelled-kept e m =
      let q = fate_at g t k log Waits s e in
      record {
        fate = (λ rogue. record { by = (loss q (report_of t r k.status k.lastp k.tries k.buffer [] Cut) refl refl refl refl, m); ticket = refl; of_unit = refl; few_tries = q.most; all_within = refl; all_caused = refl }, λ z. cc);
        sense = sense_at g t k log Waits s e;
        absent = λ a. ((s.absent a).0, tt);
        since = s.since;
        before = s.before;
      }

  pub selected-kept : k.life ≡ Waits → (g.units (unit_of g t)).absent ≡ false → TicketKept g t (with_life k Selected) log
  selected-kept e f = record { fate = fate_at g t k log Waits s e; sense = sense_at g t k log Waits s e; absent = λ a. cc; since = s.since; before = s.before }

  pub absent-kept : k.life ≡ Waits → (g.units (unit_of g t)).absent ≡ true → TicketKept g t (with_life k (Finished NoTarget)) log
  absent-kept e a =
      let q = fate_at g t k log Waits s e in
      let z = (s.absent a).0 in
      record {
        fate = (
          λ rogue. record {
            by = record {
              absent = a;
              no_refusal = z;
              no_look = q.entries.looks;
              no_end = q.entries.ends;
              no_drop = q.entries.drops;
              no_sense = q.entries.senses;
              tries = omega (arith, q.tried, z);
              status = refl;
              residual = refl;
              bytes = q.holds;
            };
            ticket = refl;
            of_unit = refl;
            few_tries = q.most;
            all_within = refl;
            all_caused = refl;
          },
          λ y. cc,
        );
        sense = sense_at g t k log Waits s e;
        absent = λ b. (z, tt);
        since = s.since;
        before = s.before;
      }

  not-good : (x : Status) → IsRefusal x → status_code x ≡ status_code Good → ⊥
  not-good x (inl e) z = let y = sym (ap status_code e) ∙ z in absurd (omega (arith, y))
  not-good x (inr e) z = let y = sym (ap status_code e) ∙ z in absurd (omega (arith, y))

  pub requeue-kept : (st : Status) → k.life ≡ Rejected st → k.tries ≤ g.retries → TicketKept g t (with_life k ToRequeue) log
  requeue-kept st e m = let f = fate_at g t k log (Rejected st) s e in record { fate = (m, f.4); sense = sense_at g t k log (Rejected st) s e; absent = λ a. ((s.absent a).0, tt); since = s.since; before = s.before }

  pub refused-kept : (st : Status) → k.life ≡ Rejected st → g.retries < k.tries → TicketKept g t (with_life k (Ended Done)) log
  refused-kept st e m =
      let f = fate_at g t k log (Rejected st) s e in
      let q = f.4.entries in
      record {
        fate = λ rogue. record {
          by = inr (record {
            no_look = q.looks;
            no_end = q.ends;
            no_drop = q.drops;
            no_sense = q.senses;
            tries = sym q.refusals;
            all_tries = omega (arith, f.0);
            status = (st, f.2, f.1);
            residual = whole _ _ k.status (status_code Good) (λ z. not-good st f.3 (sym f.1 ∙ z));
            bytes = f.4.holds;
          });
          ticket = refl;
          of_unit = refl;
          few_tries = f.0;
          all_within = refl;
          all_caused = refl;
        };
        sense = silent-lost g t (with_life k (Ended Done)) v Done (sense_at g t k log (Rejected st) s e) q.ends;
        absent = λ a. ((s.absent a).0, tt);
        since = s.since;
        before = s.before;
      }
