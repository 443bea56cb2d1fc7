-- The entries that close a task: End, Refuse and Drop. From here on the report of the ticket fits.
use Rattle.std.proofs.Common.{◌≡◌, ℕ, zero, suc, ◌+◌, ◌-◌, ◌≤◌, ◌<◌, Bool, true, false, List, [], ◌∷◌, ◌++◌, length, take, refl, ap, arith, sym, ◌∙◌, subst, Option, Some, None, ◌⊎◌, inl, inr, cond, nat_eq}
use Rattle.std.proofs.lemmas.List.{take_all, length-take-le}
use Rattle.scsi_words.specs.declared.phases.kinds.Direction.{Direction}
use Rattle.scsi_words.specs.declared.phases.kinds.Direction.TheVariants.{In, Out, None as NoData}
use Rattle.scsi_words.specs.declared.statuses.kinds.Status.{Status}
use Rattle.scsi_words.specs.declared.statuses.kinds.Status.TheVariants.{Good, Check, Busy, Conflict, QueueFull}
use Rattle.scsi_words.specs.Statuses.{status_code}
use Rattle.cdb_codec.specs.Forms.{need_of}
use Rattle.rig_types.specs.declared.report.Outcome.TheVariants.{Done}
use Rattle.rig_types.specs.declared.report.Report.{Report}
use Rattle.plain_lun.specs.Unit.{UnitState}
use Rattle.plain_lun.specs.Performing.{Answered, Performed, perform, wants_now}
use Rattle.plain_lun.specs.Losing.{dropped}
use Rattle.plain_lun.proofs.Laws.{wants-most, wants-good, status-same, good_or_check, sends, gives-none}
use Rattle.unit_law.specs.declared.entry.LogEntry.{LogEntry}
use Rattle.unit_law.specs.declared.entry.LogEntry.TheVariants.{Refuse, End, Drop}
use Rattle.unit_law.specs.Request.{RequestData, command, received_of}
use Rattle.unit_law.specs.Log.{LogResult, run_log, ended as ran_ended}
use Rattle.unit_law.specs.Report.{ByLoss, holding, moved, if_good, data_of, no_status}
use Rattle.unit_law.proofs.Views.{run-push, tally-end, tally-refuse, tally-drop, with_at-same}
use Rattle.target_law.specs.declared.task_phase.Completion.TheVariants.{Answered as HasAnswered, Refused}
use Rattle.target_law.specs.Session.{Task, Session, remaining, total_of, status_of, status_by, closed, closed_by, ended}
use Rattle.target_law.specs.Sound.{HasMoved, IsSoundTask}
use Rattle.ticket_fate.specs.Tickets.{Plan, unit_of, opening, Connected, Rejected, Finished, Ticket, with_life, view_for, IsAccepted}
use Rattle.ticket_fate.specs.Fates.{IsRefusal, HasTask, TicketKept}
use Rattle.ticket_fate.proofs.Views.{Grows}
use Rattle.ticket_fate.proofs.TicketSteps.{held-none, fate_at, sense_at, needs}
use Rattle.ticket_fate.proofs.SenseLives.{unasked-entry}
use Rattle.ticket_fate.proofs.ReceivedBytes.{perform-same, perform-checked, dropped-same}

-- where a command needs no bytes, its way doesn't matter
moved-by : (w d : Direction) (bytes : List ℕ) (at need : ℕ) → (0 < need → d ≡ w) → at ≡ moved d bytes need → (need ≡ 0 → (at ≡ 0) × (length bytes ≡ 0)) → at ≡ moved w bytes need
moved-by w d bytes at (suc n) f e z = e ∙ ap (λ y. moved y bytes (suc n)) (f (omega arith))
moved-by In d bytes at zero f e z = let h = z refl in h.0 ∙ sym h.1
moved-by Out d bytes at zero f e z = (z refl).0
moved-by NoData d bytes at zero f e z = (z refl).0

nothing-held : (w : Direction) (a b sub : List ℕ) (m n : ℕ) → m ≡ 0 → n ≡ 0 → holding w a m sub ≡ holding w b n sub
nothing-held w a b sub m n e f = ap (λ i. holding w a i sub) e ∙ held-none w a sub ∙ sym (held-none w b sub) ∙ ap (λ i. holding w b i sub) (sym f)

held-out : (w : Direction) (a b sub : List ℕ) (m n need : ℕ) → (0 < need → Out ≡ w) → (need ≡ 0 → (m ≡ 0) × (n ≡ 0)) → holding w a m sub ≡ holding w b n sub
held-out w a b sub m n zero f z = let h = z refl in nothing-held w a b sub m n h.0 h.1
held-out w a b sub m n (suc need) f z = let e : Out ≡ w = f (omega arith) in subst (λ y. holding y a m sub ≡ holding y b n sub) e refl

-- the residual by the pointer
left_over : (s : Status) (size lastp m : ℕ) → (s ≡ Good → lastp ≡ m) → cond (nat_eq (status_code s) (status_code Good)) (size - lastp) size ≡ size - if_good s m
left_over Good size lastp m f = ap (λ n. size - n) (f refl)
left_over Check size lastp m f = omega arith
left_over Busy size lastp m f = omega arith
left_over Conflict size lastp m f = omega arith
left_over QueueFull size lastp m f = omega arith

-- what the end of a task gives, and what it has moved by then
pub record Closed (r : RequestData) (plain : UnitState) (at : ℕ) (after : LogResult) (t : ℕ) (buffer : List ℕ) (st : Status) : Type 0 where
  pub unit : plain ≡ after.unit
  pub given : (a : Answered) × (after.answers t ≡ Some a) × (st ≡ a.status) × (a.status ≡ Good → at ≡ moved r.direction a.bytes (need_of (command r)).bytes)
      × (buffer ≡ holding r.direction a.bytes (length a.bytes) r.bytes)

-- what has moved at the end, by the direction
abbrev AllMoved : Direction → Option Answered → UnitState → Task → Type 0
AllMoved In (Some a) u k = (k.high ≡ length a.bytes) × (k.position ≡ length a.bytes) × (length a.bytes ≤ (need_of k.cdb).bytes)
AllMoved In None u k = (k.high ≡ 0) × (k.position ≡ 0) × ((wants_now u k.cdb).bytes ≡ 0)
AllMoved Out (Some a) u k = ⊥
AllMoved Out None u k = (k.high ≡ (wants_now u k.cdb).bytes) × (k.position ≡ (wants_now u k.cdb).bytes)
AllMoved NoData (Some a) u k = ⊥
AllMoved NoData None u k = (k.high ≡ 0) × (k.position ≡ 0)

all-moved : (d : Direction) (o : Option Answered) (u : UnitState) (k : Task) → k.position ≤ k.high → total_of o (wants_now u k.cdb).bytes - k.position ≡ 0 → HasMoved d o u k → AllMoved d o u k
all-moved In (Some a) u k p z m = let l = m.0 in (omega arith, omega arith, m.1)
all-moved In None u k p z m = let l = m.0 in (omega arith, omega arith, omega arith)
all-moved Out (Some a) u k p z m = m
all-moved Out None u k p z m = let l = m.0 in let n = m.1 in (omega arith, omega arith)
all-moved NoData (Some a) u k p z m = m
all-moved NoData None u k p z m = let l = m.0 in (omega arith, omega arith)

module _ (g : Plan) (t named tries : ℕ) (buffer : List ℕ) (x : Session) (a : IsAccepted (g.requests t))
    (q : HasTask g.retries (g.requests t) named tries buffer x.task (view_for g t x.log))
    (p : x.unit ≡ (run_log g.requests (opening g (unit_of g t)) x.log).unit) where
  abbrev old : LogResult
  old = run_log g.requests (opening g (unit_of g t)) x.log

  abbrev r : RequestData
  r = g.requests t

  abbrev now : List ℕ → Performed
  now bs = perform x.unit x.task.cdb bs

  alone : perform x.unit x.task.cdb (received_of r) ≡ perform old.unit (command r) (received_of r)
  alone = ap (λ u. perform u x.task.cdb (received_of r)) p ∙ ap (λ c. perform old.unit c (received_of r)) q.cdb

  need_is : (need_of x.task.cdb).bytes ≡ (need_of (command r)).bytes
  need_is = ap (λ c. (need_of c).bytes) q.cdb

  way_is : (d : Direction) → (need_of x.task.cdb).direction ≡ d → 0 < (need_of (command r)).bytes → d ≡ r.direction
  way_is d e n = sym e ∙ ap (λ c. (need_of c).direction) q.cdb ∙ a.way n

  -- a task that wasn't performed yet is performed now as the log has it
  same_now : (d : Direction) → (need_of x.task.cdb).direction ≡ d → AllMoved d None x.unit x.task → ((now []).answer.status ≡ Good) ⊎ ((now []).answer.status ≡ Check) → now x.task.received ≡ now (received_of r)
  same_now In e m c = perform-same x.unit x.task.cdb x.task.received (received_of r) (λ f. cc)
  same_now NoData e m c = perform-same x.unit x.task.cdb x.task.received (received_of r) (λ f. cc)
  same_now Out e m (inr c) = perform-checked x.unit x.task.cdb x.task.received (received_of r) (status-same x.unit x.task.cdb x.task.received [] ∙ c)
  same_now Out e m (inl c) = ap now (
      q.received e ∙ ap (λ n. take n (received_of r)) (m.0 ∙ ap (λ n. n.bytes) (wants-good x.unit x.task.cdb [] c) ∙ need_is)
      ∙ take_all (need_of (command r)).bytes (received_of r) (omega (arith, length-take-le (need_of (command r)).bytes r.bytes a.enough)))

  answered : (d : Direction) → (need_of x.task.cdb).direction ≡ d → (o : Option Answered) → x.task.kept ≡ o → AllMoved d o x.unit x.task → (at : ℕ) → at ≡ x.task.position
      → (st : Status) → st ≡ status_by o (now []).answer.status → Closed r (ended o x (now x.task.received)).unit at (ran_ended g.requests old t o) t buffer st
  answered In e (Some b) k m at f st s = record {
    unit = p;
    given = (
      b,
      q.answer ∙ k,
      s,
      (λ ok. moved-by r.direction In b.bytes at (need_of (command r)).bytes (way_is In e) (f ∙ m.1) (λ z. let n = m.2 in let i = need_is in (omega (arith, f, m.1), omega arith))),
      q.holds ∙ ap (λ y. holding r.direction (data_of y) x.task.high r.bytes) k ∙ ap (λ n. holding r.direction b.bytes n r.bytes) m.0,
    );
  }
  answered Out e (Some b) k m at f st s = absurd m
  answered NoData e (Some b) k m at f st s = absurd m
  answered In e None k m at f st s =
      let same = same_now In e m (good_or_check x.unit x.task.cdb []) ∙ alone in
      let size : length (now (received_of r)).answer.bytes ≡ 0 = sends x.unit x.task.cdb (received_of r) e ∙ m.2 in
      let final : length (perform old.unit (command r) (received_of r)).answer.bytes ≡ 0 = sym (ap (λ y. length y.answer.bytes) alone) ∙ size in
      record {
        unit = ap (λ y. y.unit) same;
        given = (
          (perform old.unit (command r) (received_of r)).answer,
          with_at-same old.answers t _,
          s ∙ status-same x.unit x.task.cdb [] x.task.received ∙ ap (λ y. y.answer.status) same,
          (λ ok. moved-by r.direction In _ at (need_of (command r)).bytes (way_is In e) (f ∙ m.1 ∙ sym final) (λ z. (f ∙ m.1, final))),
          q.holds ∙ nothing-held r.direction (data_of x.task.kept) _ r.bytes x.task.high _ m.0 final,
        );
      }
  answered NoData e None k m at f st s =
      let same = same_now NoData e m (good_or_check x.unit x.task.cdb []) ∙ alone in
      let none : length (now (received_of r)).answer.bytes ≡ 0 = ap length (gives-none x.unit x.task.cdb (received_of r) (λ i. let j : In ≡ NoData = sym i ∙ e in cc)) in
      let final : length (perform old.unit (command r) (received_of r)).answer.bytes ≡ 0 = sym (ap (λ y. length y.answer.bytes) alone) ∙ none in
      record {
        unit = ap (λ y. y.unit) same;
        given = (
          (perform old.unit (command r) (received_of r)).answer,
          with_at-same old.answers t _,
          s ∙ status-same x.unit x.task.cdb [] x.task.received ∙ ap (λ y. y.answer.status) same,
          (λ ok. moved-by r.direction NoData _ at (need_of (command r)).bytes (way_is NoData e) (f ∙ m.1) (λ z. (f ∙ m.1, final))),
          q.holds ∙ nothing-held r.direction (data_of x.task.kept) _ r.bytes x.task.high _ m.0 final,
        );
      }
  answered Out e None k m at f st s =
      let same = same_now Out e m (good_or_check x.unit x.task.cdb []) ∙ alone in
      let none : length (now (received_of r)).answer.bytes ≡ 0 = ap length (gives-none x.unit x.task.cdb (received_of r) (λ i. let j : In ≡ Out = sym i ∙ e in cc)) in
      let final : length (perform old.unit (command r) (received_of r)).answer.bytes ≡ 0 = sym (ap (λ y. length y.answer.bytes) alone) ∙ none in
      let few : (wants_now x.unit x.task.cdb).bytes ≤ (need_of x.task.cdb).bytes = wants-most x.unit x.task.cdb in
      record {
        unit = ap (λ y. y.unit) same;
        given = (
          (perform old.unit (command r) (received_of r)).answer,
          with_at-same old.answers t _,
          s ∙ status-same x.unit x.task.cdb [] x.task.received ∙ ap (λ y. y.answer.status) same,
          (λ ok. let full = wants-good x.unit x.task.cdb x.task.received (ap (λ y. y.answer.status) same ∙ ok) in
              moved-by r.direction Out _ at (need_of (command r)).bytes (way_is Out e) (f ∙ m.1 ∙ ap (λ n. n.bytes) full ∙ need_is) (λ z. let i = need_is in (omega (arith, f, m.1), final))),
          q.holds ∙ held-out r.direction (data_of x.task.kept) _ r.bytes x.task.high _ (need_of (command r)).bytes (way_is Out e) (λ z. let i = need_is in (omega (arith, m.0), final)),
        );
      }

  pub ends-plain : x.task.senses ≡ false → x.task.ticket ≡ t → IsSoundTask x.unit x.task → remaining x ≡ 0 → (at : ℕ) → at ≡ x.task.position → (st : Status) → st ≡ status_of x.unit x.task
      → Closed r (ended x.task.kept x (now x.task.received)).unit at (run_log g.requests (opening g (unit_of g t)) (x.log ++ End t ∷ [])) t buffer st
  ends-plain b own i z at f st s =
      let m = all-moved (need_of x.task.cdb).direction x.task.kept x.unit x.task i.position z i.moved in
      let c = answered (need_of x.task.cdb).direction refl x.task.kept refl m at f st s in
      subst (λ y. Closed r (ended x.task.kept x (now x.task.received)).unit at y t buffer st)
      (sym (run-push g.requests (opening g (unit_of g t)) x.log (End t) ∙ ap (ran_ended g.requests old t) q.answer)) c

pub ended-log : (o : Option Answered) (s : Session) (p : Performed) → (ended o s p).log ≡ s.log ++ End s.task.ticket ∷ []
ended-log (Some k) s p = refl
ended-log None s p = refl

-- what a closing entry gives: the log and the unit after it, and what holds of the ticket
pub record Closes (g : Plan) (t : ℕ) (k : Ticket) (x y : Session) : Type 0 where
  pub grows : Grows t x.log y.log
  pub stands : TicketKept g t k y.log
  pub plain : y.unit ≡ (run_log g.requests (opening g (unit_of g t)) y.log).unit

module _ (g : Plan) (t : ℕ) (k : Ticket) (x : Session) (a : IsAccepted (g.requests t)) (own : x.task.ticket ≡ t) (same : k.task ≡ x.task) (s : TicketKept g t k x.log) (e : k.life ≡ Connected)
    (p : x.unit ≡ (run_log g.requests (opening g (unit_of g t)) x.log).unit) (i : IsSoundTask x.unit x.task) where
  runs : HasTask g.retries (g.requests t) k.tag k.tries k.buffer x.task (view_for g t x.log)
  runs = subst (λ z. HasTask g.retries (g.requests t) k.tag k.tries k.buffer z (view_for g t x.log)) same (fate_at g t k x.log Connected s e)

  here : (g.units (unit_of g t)).absent ≡ true → ⊥
  here = needs g t k x.log Connected s e (λ z. z)

  ends_with : (st : Status) → remaining x ≡ 0 → st ≡ status_of x.unit x.task → k.lastp ≡ x.task.position → k.status ≡ status_code st
      → Closes g t (with_life k (Finished Done)) x (ended x.task.kept x (perform x.unit x.task.cdb x.task.received))
  ends_with st z f l c =
      let w = ends-plain g t k.tag k.tries k.buffer x a runs p runs.plain own i z k.lastp l st f in
      let v = tally-end t x.log in
      let d = w.given in
      let log : (ended x.task.kept x (perform x.unit x.task.cdb x.task.received)).log ≡ x.log ++ End t ∷ [] = ended-log x.task.kept x _ ∙ ap (λ n. x.log ++ End n ∷ []) own in
      record {
        grows = inr (End t, refl, log);
        stands = subst (TicketKept g t (with_life k (Finished Done))) (sym log) (record {
          fate = (
            λ rogue. record {
              by = inl (record {
                one_end = ap (λ y. y.ends) v ∙ ap (λ n. n + 1) runs.ends;
                no_drop = ap (λ y. y.drops) v ∙ runs.drops;
                tries = runs.tried ∙ ap (λ y. y.refusals + 1) (sym v);
                given = (
                  d.0,
                  d.1,
                  c ∙ ap status_code d.2,
                  ap (λ y. cond (nat_eq y (status_code Good)) (length (g.requests t).bytes - k.lastp) (length (g.requests t).bytes)) (c ∙ ap status_code d.2)
                      ∙ left_over d.0.status (length (g.requests t).bytes) k.lastp _ d.3,
                  d.4,
                );
              });
              ticket = refl;
              of_unit = refl;
              few_tries = runs.most;
              all_within = refl;
              all_caused = refl;
            },
            λ y. ap (λ y. y.ends) v ∙ ap (λ n. n + 1) runs.ends,
          );
          sense = unasked-entry g t k.sense x.log (End t) tt (sense_at g t k x.log Connected s e);
          absent = λ b. absurd (here b);
          since = subst (λ y. k.since ≤ y.clears) (sym v) s.since;
          before = s.before;
        });
        plain = w.unit ∙ ap (λ l. (run_log g.requests (opening g (unit_of g t)) l).unit) (sym log);
      }

  closed_at : (b : Bool) (st : Status) → x.task.senses ≡ b → remaining x ≡ 0 → st ≡ status_of x.unit x.task → k.lastp ≡ x.task.position → k.status ≡ status_code st
      → Closes g t (with_life k (Finished Done)) x (closed_by b x)
  closed_at true st q z f l c = let n = runs.plain in cc
  closed_at false st q z f l c = ends_with st z f l c

  -- COMMAND COMPLETE after an answer
  pub ends : (st : Status) → remaining x ≡ 0 → st ≡ status_of x.unit x.task → k.lastp ≡ x.task.position → k.status ≡ status_code st → Closes g t (with_life k (Finished Done)) x (closed (HasAnswered st) x)
  unfolding closed
  ends st z f l c = closed_at x.task.senses st refl z f l c

  -- COMMAND COMPLETE after BUSY or QUEUE FULL
  pub rejects : (st : Status) → x.task.high ≡ 0 → x.task.kept ≡ None → IsRefusal st → k.status ≡ status_code st
      → Closes g t (with_life k (Rejected st)) x (closed (Refused st) x)
  unfolding closed
  rejects st h n d c =
      let v = tally-refuse t st x.log in
      let push = run-push g.requests (opening g (unit_of g t)) x.log (Refuse t st) in
      subst (λ y. Closes g t (with_life k (Rejected st)) x (record x { log = x.log ++ Refuse y st ∷ [] })) (sym own) (record {
        grows = inr (Refuse t st, refl, refl);
        stands = record {
          fate = (
            runs.most,
            c,
            ap (λ y. y.refused) v,
            d,
            record {
              entries = record {
                refusals = ap (λ y. y.refusals) v ∙ sym runs.tried;
                looks = ap (λ y. y.looks) v ∙ runs.looks n;
                ends = ap (λ y. y.ends) v ∙ runs.ends;
                drops = ap (λ y. y.drops) v ∙ runs.drops;
                high = ap (λ y. y.high) v ∙ runs.high;
                senses = ap (λ y. y.senses) v ∙ runs.senses;
                answer = ap (λ y. y.answers t) push ∙ runs.answer ∙ n;
              };
              holds = runs.holds ∙ ap (λ y. holding (g.requests t).direction (data_of x.task.kept) y (g.requests t).bytes) h ∙ held-none (g.requests t).direction (data_of x.task.kept) (g.requests t).bytes;
            },
          );
          sense = unasked-entry g t k.sense x.log (Refuse t st) tt (sense_at g t k x.log Connected s e);
          absent = λ b. absurd (here b);
          since = subst (λ y. k.since ≤ y.clears) (sym v) s.since;
          before = s.before;
        };
        plain = p ∙ sym (ap (λ y. y.unit) push);
      })

-- a task that is dropped: its report is of a loss
module _ (g : Plan) (t : ℕ) (k : Ticket) (x : Task) (log : List LogEntry) (q : HasTask g.retries (g.requests t) k.tag k.tries k.buffer x (view_for g t log)) where
  pub drop-loss : (p : Report) → p.status ≡ no_status → p.residual ≡ length (g.requests t).bytes → p.tries ≡ k.tries → p.bytes ≡ k.buffer → ByLoss (g.requests t) (view_for g t (log ++ Drop t x.high ∷ [])) p
  drop-loss p a b c d =
      let v = tally-drop t x.high log in
      let o : (view_for g t (log ++ Drop t x.high ∷ [])).answer ≡ x.kept = ap (λ y. y.answers t) (run-push g.requests (opening g (unit_of g t)) log (Drop t x.high)) ∙ q.answer in
      record {
        no_end = ap (λ y. y.ends) v ∙ q.ends;
        lost = inl (ap (λ y. y.drops) v ∙ ap (λ n. n + 1) q.drops);
        tries = c ∙ q.tried ∙ ap (λ y. y.refusals + 1) (sym v);
        status = a;
        residual = b;
        bytes = d ∙ q.holds ∙ ap (λ y. holding (g.requests t).direction (data_of y) x.high (g.requests t).bytes) (sym o)
            ∙ ap (λ y. holding (g.requests t).direction (data_of (view_for g t (log ++ Drop t x.high ∷ [])).answer) y (g.requests t).bytes) (sym (ap (λ y. y.high) v));
      }

  pub drop-plain : (u : UnitState) → u ≡ (run_log g.requests (opening g (unit_of g t)) log).unit → dropped u x.cdb x.received ≡ (run_log g.requests (opening g (unit_of g t)) (log ++ Drop t x.high ∷ [])).unit
  drop-plain u p =
      dropped-same u x.cdb x.received (take x.high (received_of (g.requests t))) q.received
      ∙ ap (λ c. dropped u c (take x.high (received_of (g.requests t)))) q.cdb
      ∙ ap (λ y. dropped y (command (g.requests t)) (take x.high (received_of (g.requests t)))) p
      ∙ sym (ap (λ y. y.unit) (run-push g.requests (opening g (unit_of g t)) log (Drop t x.high)))
