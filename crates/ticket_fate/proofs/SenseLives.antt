-- The sense of a ticket, kept by its moves.
use Rattle.std.proofs.Common.{◌≡◌, ℕ, zero, suc, ◌+◌, ◌-◌, ◌≤◌, max, Bool, true, false, List, [], ◌∷◌, ◌++◌, length, drop, refl, ap, arith, sym, ◌∙◌, subst, Option, Some, None, ◌⊎◌, inl, inr, nat_eq}
use Rattle.std.specs.Prelude.{unwrap_or}
use Rattle.std.proofs.lemmas.List.{take_all, append-nil}
use Rattle.scsi_words.specs.declared.phases.kinds.Direction.{Direction}
use Rattle.scsi_words.specs.declared.phases.kinds.Direction.TheVariants.{In, Out, None as NoData}
use Rattle.scsi_words.specs.declared.statuses.kinds.Status.TheVariants.{Check}
use Rattle.cdb_codec.specs.declared.commands.Cdb.TheVariants.{RequestSense}
use Rattle.cdb_codec.specs.Forms.{need_of}
use Rattle.rig_types.specs.declared.report.Outcome.{Outcome}
use Rattle.rig_types.specs.declared.report.Outcome.TheVariants.{Done}
use Rattle.plain_lun.specs.Unit.{UnitState}
use Rattle.plain_lun.specs.Performing.{Answered, perform, sense_now, sense_data, wants_now}
use Rattle.plain_lun.proofs.Laws.{sends}
use Rattle.unit_law.specs.declared.entry.LogEntry.{LogEntry}
use Rattle.unit_law.specs.declared.entry.LogEntry.TheVariants.{Refuse, Look, End, Drop, Clear, Sense}
use Rattle.unit_law.specs.Request.{RequestData}
use Rattle.unit_law.specs.Log.{LogResult, Tally, View, run_log, tally, noted, if_of, ended, entered, one_where_none}
use Rattle.unit_law.specs.Report.{AsksSense, filled, data_of, ByEnd, ByRefusal}
use Rattle.rig_types.specs.declared.report.Report.{Report}
use Rattle.unit_law.proofs.Views.{run-push, tally-push, tally-sense, with_at-same}
use Rattle.target_law.specs.declared.moves.Move.{Move}
use Rattle.target_law.specs.declared.moves.Move.TheVariants as move
use Rattle.target_law.specs.declared.task_phase.TaskPhase.{TaskPhase}
use Rattle.target_law.specs.declared.task_phase.TaskPhase.TheVariants.{DataIn}
use Rattle.target_law.specs.Session.{Task, Session, total_of, remaining, Can, acted, gone, phased, looked, looked_by, moves}
use Rattle.target_law.specs.Bytes.{advanced, put, data_at}
use Rattle.ticket_fate.proofs.Buffers.{filled-put}
use Rattle.target_law.specs.Sound.{HasMoved, IsSoundTask}
use Rattle.ticket_fate.specs.Tickets.{Plan, unit_of, opening, setting, Asked, Ticket, with_life, history_at, view_for}
use Rattle.ticket_fate.specs.Fates.{FitsInCheck}
use Rattle.ticket_fate.specs.Linked.{ShownBySense}
use Rattle.ticket_fate.specs.Senses.{Unasked, ToAsk, HasAsked, SenseOfReportFits, AsksTask}

-- entries that aren't of sense
abbrev pub NotSense : LogEntry → Type 0
NotSense (Sense t) = ⊥
NotSense e = Unit {0}

if-same : (P : Tally → Type 0) (b : Bool) (new old : Tally) → P new → P old → P (if_of b new old)
if-same P true new old n o = n
if-same P false new old n o = o

noted-senses : (t : ℕ) (k : Tally) (e : LogEntry) → NotSense e → ((noted t k e).senses ≡ k.senses) × ((noted t k e).early ≡ k.early)
noted-senses t k (Refuse x s) n = if-same (λ z. (z.senses ≡ k.senses) × (z.early ≡ k.early)) (nat_eq x t) _ k (refl, refl) (refl, refl)
noted-senses t k (Look x) n = if-same (λ z. (z.senses ≡ k.senses) × (z.early ≡ k.early)) (nat_eq x t) _ k (refl, refl) (refl, refl)
noted-senses t k (End x) n = if-same (λ z. (z.senses ≡ k.senses) × (z.early ≡ k.early)) (nat_eq x t) _ k (refl, refl) (refl, refl)
noted-senses t k (Drop x high) n = if-same (λ z. (z.senses ≡ k.senses) × (z.early ≡ k.early)) (nat_eq x t) _ k (refl, refl) (refl, refl)
noted-senses t k Clear n = (refl, refl)
noted-senses t k (Sense x) n = absurd n

ended-senses : (requests : ℕ → RequestData) (r : LogResult) (t : ℕ) (o : Option Answered) → (ended requests r t o).senses ≡ r.senses
ended-senses requests r t None = refl
ended-senses requests r t (Some a) = refl

entered-senses : (requests : ℕ → RequestData) (r : LogResult) (e : LogEntry) → NotSense e → (entered requests r e).senses ≡ r.senses
entered-senses requests r (Refuse t s) n = refl
entered-senses requests r (Look t) n = refl
entered-senses requests r (End t) n = ended-senses requests r t (r.answers t)
entered-senses requests r (Drop t high) n = refl
entered-senses requests r Clear n = refl
entered-senses requests r (Sense t) n = absurd n

-- every entry but Sense leaves it unasked
pub unasked-entry : (g : Plan) (t : ℕ) (given : List ℕ) (log : List LogEntry) (e : LogEntry) → NotSense e → Unasked given (view_for g t log) → Unasked given (view_for g t (log ++ e ∷ []))
unasked-entry g t given log e n h =
    let s = noted-senses t (tally t log) e n in
    let p = tally-push t log e in
    record {
      senses = ap (λ z. z.senses) p ∙ s.0 ∙ h.senses;
      early = ap (λ z. z.early) p ∙ s.1 ∙ h.early;
      sense = ap (λ z. z.senses t) (run-push g.requests (opening g (unit_of g t)) log e) ∙ ap (λ z. z t) (entered-senses g.requests (run_log g.requests (opening g (unit_of g t)) log) e n) ∙ h.sense;
      none = h.none;
    }

-- a report without sense: where nobody was to ask, or the bus was reset
pub silent : (g : Plan) (t : ℕ) (k : Ticket) (v : View) (o : Outcome) → Unasked k.sense v → (AsksSense (setting g (unit_of g t)) v (history_at k.marked 0 k.bus_reset 0) → k.bus_reset ≡ false → ⊥) → SenseOfReportFits g t k v o
silent g t k v o h not = λ rogue. record {
  at_most_one = omega (arith, h.senses);
  none_early = h.early;
  given = h.none ∙ sym (ap (λ z. unwrap_or z []) h.sense);
  none_lost = λ z. h.none;
  only_asked = λ z. absurd (omega (arith, h.senses));
  asked = λ a b. absurd (not a b);
}

-- the cases where TakeDone or Sweep ends it without asking: it has no End; it didn't end in CHECK CONDITION; the rig doesn't ask; it is marked
pub silent-lost : (g : Plan) (t : ℕ) (k : Ticket) (v : View) (o : Outcome) → Unasked k.sense v → v.tally.ends ≡ 0 → SenseOfReportFits g t k v o
silent-lost g t k v o h e = silent g t k v o h (λ a b. absurd (let c = a.checked.0 in omega (arith, e, c)))

pub silent-good : (g : Plan) (t : ℕ) (k : Ticket) (v : View) → Unasked k.sense v → (a : Answered) → v.answer ≡ Some a → (a.status ≡ Check → ⊥) → SenseOfReportFits g t k v Done
silent-good g t k v h a e d = silent g t k v Done h (λ z b.
    let c = z.checked.1 in
    let same : a ≡ c.0 = some a c.0 (sym e ∙ c.1) in
    d (ap (λ y. y.status) same ∙ c.2))
  where
    some : (x y : Answered) → Some x ≡ Some y → x ≡ y
    some x y q = cc

pub silent-off : (g : Plan) (t : ℕ) (k : Ticket) (v : View) → Unasked k.sense v → g.autosense ≡ false → SenseOfReportFits g t k v Done
silent-off g t k v h e = silent g t k v Done h (λ z b. let f = z.autosense in cc)

pub silent-marked : (g : Plan) (t : ℕ) (k : Ticket) (v : View) → Unasked k.sense v → k.marked ≡ true → SenseOfReportFits g t k v Done
silent-marked g t k v h e = silent g t k v Done h (λ z b. let f = z.unmarked in cc)

pub silent-reset : (g : Plan) (t : ℕ) (k : Ticket) (v : View) → ToAsk g k.sense k.marked v × (k.bus_reset ≡ true) → SenseOfReportFits g t k v Done
silent-reset g t k v h = silent g t k v Done h.0.unasked (λ z b. let f = h.1 in cc)

-- the sense task's COMMAND COMPLETE: the log has Sense, and the area what it gives
sense-size : (u : UnitState) → length (perform u (RequestSense 18) []).answer.bytes ≡ 18
unfolding perform sense_now sense_data
sense-size u = refl

full : (d a : List ℕ) (h : ℕ) → length d ≤ h → length a ≤ h → filled d h a ≡ d
unfolding filled
full d a h l m = ap (λ z. z ++ drop h a) (take_all h d l) ∙ ap (λ z. d ++ z) (gone a h m) ∙ append-nil d
  where
    gone : (a : List ℕ) (h : ℕ) → length a ≤ h → drop h a ≡ []
    gone [] zero m = refl
    gone [] (suc h) m = refl
    gone (x ∷ a) zero m = absurd (omega arith)
    gone (x ∷ a) (suc h) m = gone a h (omega arith)

kept-full : (o : Option Answered) (u : UnitState) (x : Task) (a : Answered) → (o ≡ None) ⊎ (o ≡ Some a) → length a.bytes ≡ 18 → (wants_now u x.cdb).bytes ≡ 18 → x.position ≤ x.high
    → total_of o (wants_now u x.cdb).bytes - x.position ≡ 0 → HasMoved In o u x → (o ≡ Some a) × (18 ≤ x.high)
kept-full None u x a s l w p z m = absurd (let h = m.0 in omega arith)
kept-full (Some b) u x a (inl e) l w p z m = cc
kept-full (Some b) u x a (inr e) l w p z m =
    let same : b ≡ a = some b a e in
    let n : length b.bytes ≡ 18 = ap (λ y. length y.bytes) same ∙ l in
    (e, omega arith)
  where
    some : (x y : Answered) → Some x ≡ Some y → x ≡ y
    some x y q = cc

pub sense-closes : (g : Plan) (t : ℕ) (k : Ticket) (x : Session) (start : List ℕ) → x.task.ticket ≡ t → AsksTask x.unit x.task k.area start → IsSoundTask x.unit x.task → remaining x ≡ 0
    → x.unit ≡ (run_log g.requests (opening g (unit_of g t)) x.log).unit → ToAsk g k.sense k.marked (view_for g t x.log)
    → HasAsked g k.area k.marked (view_for g t (x.log ++ Sense t ∷ [])) × ((perform x.unit (RequestSense 18) []).unit ≡ (run_log g.requests (opening g (unit_of g t)) (x.log ++ Sense t ∷ [])).unit)
sense-closes g t k x start own q i z p h =
    let a = (perform x.unit (RequestSense 18) []).answer in
    let way : (need_of x.task.cdb).direction ≡ In = ap (λ c. (need_of c).direction) q.cdb in
    let wants : (wants_now x.unit x.task.cdb).bytes ≡ 18 = ap (λ c. (wants_now x.unit c).bytes) q.cdb ∙ sym (sends x.unit (RequestSense 18) [] refl) ∙ sense-size x.unit in
    let m = kept-full x.task.kept x.unit x.task a q.kept (sense-size x.unit) wants i.position z (subst (λ d. HasMoved d x.task.kept x.unit x.task) way i.moved) in
    let area : k.area ≡ a.bytes = q.holds ∙ ap (λ o. filled (data_of o) x.task.high start) m.0 ∙ full a.bytes start x.task.high (omega (arith, sense-size x.unit, m.1)) (omega (arith, q.size, m.1)) in
    let v = tally-sense t x.log in
    let r = run-push g.requests (opening g (unit_of g t)) x.log (Sense t) in
    let same : perform (run_log g.requests (opening g (unit_of g t)) x.log).unit (RequestSense 18) [] ≡ perform x.unit (RequestSense 18) [] = ap (λ u. perform u (RequestSense 18) []) (sym p) in
    let ends : (tally t x.log).ends ≡ 1 = h.checked.0 in (
      record {
        senses = ap (λ y. y.senses) v ∙ ap (λ n. n + 1) h.unasked.senses;
        early = ap (λ y. y.early) v ∙ ap (λ n. (tally t x.log).early + one_where_none n) ends ∙ omega (arith, h.unasked.early);
        sense = ap (λ y. y.senses t) r ∙ with_at-same _ t _ ∙ ap (λ y. Some y.answer.bytes) same ∙ ap Some (sym area);
        autosense = h.autosense;
        checked = (ap (λ y. y.ends) v ∙ ends, (h.checked.1.0, ap (λ y. y.answers t) r ∙ h.checked.1.1, h.checked.1.2));
        unmarked = h.unmarked;
      },
      sym (ap (λ y. y.unit) r ∙ ap (λ y. y.unit) same),
    )

-- TakeDone takes it from Sensing: the report has the area
pub taken-asked : (g : Plan) (t : ℕ) (k : Ticket) (v : View) → HasAsked g k.area k.marked v → SenseOfReportFits g t (record k { sense = k.area }) v Done
taken-asked g t k v h = λ rogue. record {
  at_most_one = omega (arith, h.senses);
  none_early = h.early;
  given = sym (ap (λ z. unwrap_or z []) h.sense);
  none_lost = λ z. absurd (let c = h.checked.0 in omega (arith, z, c));
  only_asked = λ z. record { autosense = h.autosense; checked = h.checked; unmarked = h.unmarked };
  asked = λ a b. h.senses;
}

-- its entry of Sense leaves the frozen report
pub frozen-sensed : (g : Plan) (t : ℕ) (k : Ticket) (log : List LogEntry) → FitsInCheck g t k (view_for g t log) → FitsInCheck g t (with_life k Asked) (view_for g t (log ++ Sense t ∷ []))
frozen-sensed g t k log f = (
  λ rogue.
      let h = f.0 rogue in
      let v = tally-sense t log in
      let answers = ap (λ y. y.answers t) (run-push g.requests (opening g (unit_of g t)) log (Sense t)) in
      record { by = inl (turn h.by v answers); ticket = refl; of_unit = refl; few_tries = h.few_tries; all_within = refl; all_caused = refl },
  (ap (λ y. y.ends) (tally-sense t log) ∙ f.1.0, (f.1.1.0, ap (λ y. y.answers t) (run-push g.requests (opening g (unit_of g t)) log (Sense t)) ∙ f.1.1.1, f.1.1.2)),
)
  where
    turn : {q : Report} → ByEnd (g.requests t) (view_for g t log) q ⊎ ByRefusal g.retries (g.requests t) (view_for g t log) q
        → tally t (log ++ Sense t ∷ []) ≡ record (tally t log) { senses = (tally t log).senses + 1; early = (tally t log).early + one_where_none (tally t log).ends }
        → (view_for g t (log ++ Sense t ∷ [])).answer ≡ (view_for g t log).answer → ByEnd (g.requests t) (view_for g t (log ++ Sense t ∷ [])) q
    turn (inl b) v a = record {
      one_end = ap (λ y. y.ends) v ∙ b.one_end;
      no_drop = ap (λ y. y.drops) v ∙ b.no_drop;
      tries = b.tries ∙ ap (λ y. y.refusals + 1) (sym v);
      given = (b.given.0, a ∙ b.given.1, b.given.2, b.given.3, b.given.4);
    }
    turn (inr b) v a = absurd (let e = f.1.0 in omega (arith, e, b.no_end))

-- a choice of a sense task: it has no budget, and refuses nothing; the unit and the log stay
pub record AsksOn (x y : Session) (area start : List ℕ) : Type 0 where
  pub unit : y.unit ≡ x.unit
  pub log : y.log ≡ x.log
  pub runs : AsksTask y.unit y.task area start
  pub shows : ShownBySense y.shows
  pub ticket : y.task.ticket ≡ x.task.ticket
  pub tag : y.task.tag ≡ x.task.tag

asks-turned : (u : UnitState) (x : Task) (area start : List ℕ) (fresh just : Bool) → AsksTask u x area start → AsksTask u (record x { fresh = fresh; just_moved = just }) area start
asks-turned u x area start fresh just q = record { cdb = q.cdb; senses = q.senses; budget = q.budget; kept = q.kept; size = q.size; holds = q.holds }

asks-looked : (o : Option Answered) (x : Session) (area start : List ℕ) (sh : TaskPhase) → x.task.kept ≡ o → ShownBySense sh → AsksTask x.unit x.task area start → HasMoved In o x.unit x.task → AsksOn x (moves (looked o x) sh) area start
unfolding filled
asks-looked (Some a) x area start sh e w q m = record { unit = refl; log = refl; runs = asks-turned x.unit x.task area start false true q; shows = w; ticket = refl; tag = refl }
asks-looked None x area start sh e w q m =
    let a = (perform x.unit x.task.cdb []).answer in
    let z : x.task.high ≡ 0 = m.0 in
    let old : area ≡ start = q.holds ∙ ap (λ h. filled (data_of x.task.kept) h start) z in
    by x.task.senses q.senses (record {
      unit = refl;
      log = refl;
      runs = record {
        cdb = q.cdb;
        senses = q.senses;
        budget = q.budget;
        kept = inr (ap (λ c. Some (perform x.unit c []).answer) q.cdb);
        size = q.size;
        holds = old ∙ sym (ap (λ h. filled a.bytes h start) z);
      };
      shows = w;
      ticket = refl;
      tag = refl;
    })
  where
    by : (b : Bool) → b ≡ true → AsksOn x (moves (looked_by true x (perform x.unit x.task.cdb [])) sh) area start → AsksOn x (moves (looked_by b x (perform x.unit x.task.cdb [])) sh) area start
    by true e h = h
    by false e h = cc

asks-phased : (d : Direction) (x : Session) (n : ℕ) (area start : List ℕ) → (need_of x.task.cdb).direction ≡ d → AsksTask x.unit x.task area start → IsSoundTask x.unit x.task → AsksOn x (phased d x n) area start
asks-phased In x n area start e q i = asks-looked x.task.kept x area start (DataIn n) refl tt q (subst (λ d. HasMoved d x.task.kept x.unit x.task) e i.moved)
asks-phased Out x n area start e q i = let w : In ≡ Out = sym (ap (λ c. (need_of c).direction) q.cdb) ∙ e in cc
asks-phased NoData x n area start e q i = let w : In ≡ NoData = sym (ap (λ c. (need_of c).direction) q.cdb) ∙ e in cc

asks-gone : (r : ℕ) (x : Session) (n : ℕ) (area start : List ℕ) → AsksTask x.unit x.task area start → IsSoundTask x.unit x.task → AsksOn x (gone r x n) area start
asks-gone zero x n area start q i = record { unit = refl; log = refl; runs = asks-turned x.unit x.task area start false false q; shows = tt; ticket = refl; tag = refl }
asks-gone (suc r) x n area start q i = asks-phased (need_of x.task.cdb).direction x n area start refl q i

pub asks-on : (m : Move) (x : Session) (limit refused : ℕ) (area start : List ℕ) → AsksTask x.unit x.task area start → IsSoundTask x.unit x.task → Can m x limit refused → AsksOn x (acted m x) area start
unfolding acted
asks-on (move.Go n) x limit refused area start q i c = asks-gone (remaining x) x n area start q i
asks-on move.Busy x limit refused area start q i c = let f = c.plain in let g = q.senses in cc
asks-on move.QueueFull x limit refused area start q i c = let f = c.plain in let g = q.senses in cc
asks-on move.Leave x limit refused area start q i c = absurd (let b = q.budget in omega arith)
asks-on move.SaveLeave x limit refused area start q i c = absurd (let b = q.budget in omega arith)
asks-on move.Save x limit refused area start q i c = absurd (let b = q.budget in omega arith)
asks-on move.Restore x limit refused area start q i c = absurd (let b = q.budget in omega arith)
asks-on (move.Rogue word) x limit refused area start q i c = absurd c

-- a byte of the sense goes into the area
pub asks-sent : (u : UnitState) (x : Task) (area start : List ℕ) (b : ℕ) → AsksTask u x area start → IsSoundTask u x → data_at x.kept x.position ≡ Some b → AsksTask u (advanced x x.received) (put area x.position b) start
asks-sent u x area start b q i e =
    let way : (need_of x.cdb).direction ≡ In = ap (λ c. (need_of c).direction) q.cdb in
    by x.kept refl e (subst (λ d. HasMoved d x.kept u x) way i.moved)
  where
    by : (o : Option Answered) → x.kept ≡ o → data_at o x.position ≡ Some b → HasMoved In o u x → AsksTask u (advanced x x.received) (put area x.position b) start
    by None k e m = cc
    by (Some a) k e m = record {
      cdb = q.cdb;
      senses = q.senses;
      budget = q.budget;
      kept = q.kept;
      size = q.size;
      holds = ap (λ z. put z x.position b) (q.holds ∙ ap (λ o. filled (data_of o) x.high start) k) ∙ filled-put x.position b a.bytes x.high start i.position m.0 e
          ∙ ap (λ o. filled (data_of o) (max x.high (x.position + 1)) start) (sym k);
    }
