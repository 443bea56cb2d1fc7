-- A connected task leaves, ends or is dropped; a task that is away reselects; a command begins.
use Rattle.std.proofs.Common.{◌≡◌, ◌≢◌, ℕ, ◌≤◌, ◌<◌, Bool, true, false, List, [], ◌∷◌, refl, ap, arith, sym, ◌∙◌, subst, Some, inl, inr, remove, cond, nat_eq, nat_lt}
use Rattle.std.specs.Prelude.{slice_get, ◌||◌}
use Rattle.std.proofs.lemmas.Bool.Decides.{nat_tests}
use Rattle.std.proofs.lemmas.Option.{same_Some}
use Rattle.cdb_codec.specs.declared.commands.Cdb.{Cdb}
use Rattle.cdb_codec.specs.declared.commands.Cdb.TheVariants.{TestUnitReady, RequestSense, Read, Write, Inquiry, ReadCapacity, BadField, Other}
use Rattle.cdb_codec.specs.Forms.{need_of}
use Rattle.rig_types.specs.declared.report.Outcome.TheVariants.{Done, Cut}
use Rattle.scsi_words.specs.declared.statuses.kinds.Status.{Status}
use Rattle.unit_law.specs.declared.entry.LogEntry.TheVariants.{Drop}
use Rattle.unit_law.specs.Request.{command}
use Rattle.unit_law.specs.Log.{with_at, run_log}
use Rattle.unit_law.proofs.Views.{tally-drop}
use Rattle.target_law.specs.declared.nexus.Nexus.{Nexus}
use Rattle.target_law.specs.declared.task_phase.ReselectByte.TheVariants as part
use Rattle.target_law.specs.declared.task_phase.TargetMessage.TheVariants.{Reselection, CommandComplete}
use Rattle.target_law.specs.declared.task_phase.TaskPhase.TheVariants.{ToChoose, MessageIn}
use Rattle.target_law.specs.declared.task_phase.Completion.{Completion}
use Rattle.target_law.specs.declared.task_phase.Completion.TheVariants.{Answered as HasAnswered, Refused}
use Rattle.target_law.specs.Session.{Task, Session, closed, says, began, asks_sense}
use Rattle.target_law.specs.Bytes.{Connection, away}
use Rattle.target_law.specs.Sound.{IsSound, IsWaiting, IsWorth, Ends}
use Rattle.target_law.specs.Target.{LogicalUnit, BusFree, TaskConnected, Target, unit_at, with_unit, linked, session, ends, leaves, unit_left, unit_after, drops, drops_by}
use Rattle.target_law.specs.Calls.{task_reselected, has_tag, has_ended, begun}
use Rattle.unit_task.proofs.SoundTasks.{away-waits, began-waits}
use Rattle.unit_task.proofs.Ends.{others-ended}
use Rattle.unit_task.proofs.Readiness.{ready-dropped, waiting-stays}
use Rattle.target_session.proofs.Closes.{closed-as}
use Rattle.ticket_fate.specs.Tickets.{Plan, unit_of, opening, Selected, Connected, Away, Finished, Rejected, Ticket, with_life, view_for, report_of}
use Rattle.ticket_fate.specs.Kept.{AtLink}
use Rattle.ticket_fate.specs.Fates.{HasTask}
use Rattle.ticket_fate.specs.Moves.{CompletesTicket}
use Rattle.ticket_fate.specs.Linked.{IsPlan, AwayTasks, WaitingTasks, UnitKept, ShownFits, VerdictFits, IsAtWork, WorkKept, TargetKept}
use Rattle.ticket_fate.proofs.TicketSteps.{fate_at, sense_at, needs, held-none}
use Rattle.ticket_fate.proofs.SenseLives.{unasked-entry}
use Rattle.ticket_fate.proofs.DataBytes.{pointed}
use Rattle.ticket_fate.proofs.TaskLists.{lists-other, lists-leave, lists-reselect, away-at}
use Rattle.ticket_fate.proofs.LastEntries.{Closes, ends as closes-end, rejects as closes-rejected, drop-loss, drop-plain}
use Rattle.ticket_fate.proofs.Targets.{not-away, Changed, unit-changed, units-changed, units-ticket-changed, unit-of-work, work-is, unit-same, x, at, kept, runs}

refused-same : (st : Status) (s : Session) (y : Task) → IsWaiting s.unit y → IsWaiting (closed (Refused st) s).unit y
unfolding closed
refused-same st s y f = f

module _ (g : Plan) (count : ℕ) (plan : IsPlan g count) (i : ℕ) (tickets : ℕ → Ticket) (t : Target) (h : TargetKept g count i tickets t) (c : Connection) (working : t.link ≡ TaskConnected c)
    (free : c.task.senses ≡ false) (u : LogicalUnit) (there : unit_at t.units c.lun ≡ Some u) where
  abbrev n : ℕ
  n = unit_of g c.task.ticket

  abbrev own : Ticket
  own = tickets c.task.ticket

  w : IsAtWork g i tickets t c
  w = at g count plan i tickets t h c working free u there

  unit : UnitKept g n tickets u
  unit = kept g count plan i tickets t h c working free u there

  q : HasTask g.retries (g.requests c.task.ticket) own.tag own.tries own.buffer c.task (view_for g c.task.ticket u.log)
  q = runs g count plan i tickets t h c working free u there

  -- the unit changes, and the bus is free
  pub frees : (k : Ticket) (v : LogicalUnit) → Changed g tickets c.task.ticket k u v → TargetKept g count i (with_at tickets c.task.ticket k) (record { units = with_unit t.units c.lun v; link = BusFree })
  frees k v d = record { units = units-changed g count plan i tickets t h.units c.task.ticket k c.lun u v w.target w.lun there (unit-changed g tickets c.task.ticket k u v d unit) BusFree; link = tt }

  -- DISCONNECT: the host saved its pointer before
  pub leaves-kept : own.savep ≡ c.task.saved → TargetKept g count i (with_at tickets c.task.ticket (record own { life = Away; task = away c.task })) (leaves t c u)
  leaves-kept saves =
      let k = record own { life = Away; task = away c.task } in
      frees k (unit_left u c.task) (record {
        grows = inl refl;
        stands = record {
          fate = (pointed g.retries (g.requests c.task.ticket) own.tag own.tries own.buffer c.task (view_for g c.task.ticket u.log) c.task.saved c.task.saved false q, saves, refl);
          sense = sense_at g c.task.ticket own u.log Connected (unit.each c.task.ticket refl) w.life;
          absent = λ a. absurd (needs g c.task.ticket own u.log Connected (unit.each c.task.ticket refl) w.life (λ z. z) a);
          since = (unit.each c.task.ticket refl).since;
          before = (unit.each c.task.ticket refl).before;
        };
        rig = refl;
        plain = unit.plain;
        lists = lists-leave g n tickets c.task.ticket k (away c.task) u.tasks refl refl (not-away own w.life) refl refl unit.lists;
        others = λ j z. z;
        waits = λ a. away-waits u.plain c.task (w.sound u there).task;
      })

  closes-kept : (k : Ticket) (y : Session) → (k.life ≡ Away → ⊥) → Closes g c.task.ticket k (session u c) y → ((j : Task) → IsWaiting u.plain j → IsWaiting y.unit j)
      → TargetKept g count i (with_at tickets c.task.ticket k) (ends t c u y)
  closes-kept k y d z others = frees k (unit_after u y) (record {
    grows = z.grows;
    stands = z.stands;
    rig = refl;
    plain = z.plain;
    lists = lists-other g n tickets c.task.ticket k u.tasks (not-away own w.life) d unit.lists;
    others = others;
    waits = λ a. absurd (d a);
  })

  ends-by : (v : Completion) → Ends v (session u c) → VerdictFits v c.task → (j : Ticket) → CompletesTicket v g c.task.ticket own (session u c) j
      → TargetKept g count i (with_at tickets c.task.ticket j) (ends t c u (closed v (session u c)))
  ends-by (HasAnswered st) e m j z =
      subst (λ y. TargetKept g count i (with_at tickets c.task.ticket y) (ends t c u (closed (HasAnswered st) (session u c)))) (sym z.2)
      (closes-kept (with_life own (Finished Done)) (closed (HasAnswered st) (session u c)) (λ a. cc)
      (closes-end g c.task.ticket own (session u c) (plan.accepted c.task.ticket) refl w.task (unit.each c.task.ticket refl) w.life unit.plain (w.sound u there).task st e.0 e.1 z.0 z.1)
      (λ y f. subst (λ s. IsWaiting s.unit y) (sym (closed-as (session u c) st)) (others-ended u.plain c.task (w.sound u there).task e.0 y f)))
  ends-by (Refused st) e m j z =
      subst (λ y. TargetKept g count i (with_at tickets c.task.ticket y) (ends t c u (closed (Refused st) (session u c)))) (sym z.1)
      (closes-kept (with_life own (Rejected st)) (closed (Refused st) (session u c)) (λ a. cc)
      (closes-rejected g c.task.ticket own (session u c) (plan.accepted c.task.ticket) refl w.task (unit.each c.task.ticket refl) w.life unit.plain (w.sound u there).task st m.0 m.1 m.2 z.0)
      (λ y f. refused-same st (session u c) y f))

  -- COMMAND COMPLETE is acknowledged
  pub ends-kept : (v : Completion) (s : Bool) → c.shows ≡ MessageIn (CommandComplete v) s → (j : Ticket) → CompletesTicket v g c.task.ticket own (session u c) j
      → TargetKept g count i (with_at tickets c.task.ticket j) (ends t c u (closed v (session u c)))
  ends-kept v s e j z = ends-by v (subst (λ y. IsWorth y (session u c)) e (w.sound u there).worth) (subst (λ y. ShownFits y c.task) e w.worth) j z

  drops-at : (b : Bool) → c.task.senses ≡ b → own.marked ≡ true → TargetKept g count i (with_at tickets c.task.ticket (with_life own (Finished Cut))) (record { units = with_unit t.units c.lun (drops_by b u c.task); link = BusFree })
  drops-at true e m = let f = q.plain in cc
  drops-at false e m =
      let k = with_life own (Finished Cut) in
      let v = tally-drop c.task.ticket c.task.high u.log in
      frees k (drops_by false u c.task) (record {
        grows = inr (Drop c.task.ticket c.task.high, refl, refl);
        stands = record {
          fate = (
            λ rogue. record {
              by = (drop-loss g c.task.ticket own c.task u.log q (report_of c.task.ticket (g.requests c.task.ticket) own.status own.lastp own.tries own.buffer [] Cut) refl refl refl refl, m);
              ticket = refl;
              of_unit = refl;
              few_tries = q.most;
              all_within = refl;
              all_caused = refl;
            },
            λ y. cc,
          );
          sense = unasked-entry g c.task.ticket own.sense u.log (Drop c.task.ticket c.task.high) tt (sense_at g c.task.ticket own u.log Connected (unit.each c.task.ticket refl) w.life);
          absent = λ a. absurd (needs g c.task.ticket own u.log Connected (unit.each c.task.ticket refl) w.life (λ z. z) a);
          since = subst (λ y. own.since ≤ y.clears) (sym v) (unit.each c.task.ticket refl).since;
          before = (unit.each c.task.ticket refl).before;
        };
        rig = refl;
        plain = drop-plain g c.task.ticket own c.task u.log q u.plain unit.plain;
        lists = lists-other g n tickets c.task.ticket k u.tasks (not-away own w.life) (λ a. cc) unit.lists;
        others = λ j f. waiting-stays u.plain _ j (ready-dropped u.plain c.task.cdb c.task.received) f;
        waits = λ a. absurd (let z : Finished Cut ≡ Away = a in cc);
      })

  -- ABORT TAG of a marked ticket
  pub drops-kept : own.marked ≡ true → TargetKept g count i (with_at tickets c.task.ticket (with_life own (Finished Cut))) (record { units = with_unit t.units c.lun (drops u c.task); link = BusFree })
  drops-kept m = drops-at c.task.senses refl m

-- a task reselects
module _ (g : Plan) (count : ℕ) (plan : IsPlan g count) (i : ℕ) (tickets : ℕ → Ticket) (t : Target) (h : TargetKept g count i tickets t) (n : ℕ) (less : n < count) (here : (g.units n).target ≡ i) where
  pub reselects : (m : ℕ) (u : LogicalUnit) (k : Task) → unit_at t.units (g.units n).lun ≡ Some u → UnitKept g n tickets u → slice_get u.tasks m ≡ Some k
      → TargetKept g count i (with_at tickets k.ticket (record (tickets k.ticket) { life = Connected; task = k })) (task_reselected t (g.units n).lun m u (Some k))
  reselects m u k there unit e =
      let a = away-at g n tickets m u.tasks k unit.lists.tasks e in
      let old = tickets k.ticket in
      let new = record old { life = Connected; task = k } in
      let s = unit.each k.ticket a.unit in
      let f = fate_at g k.ticket old u.log Away s a.life in
      let plain : k.senses ≡ false = ap (λ z. z.senses) (sym a.task) ∙ f.0.plain in
      let v = record u { tasks = remove u.tasks m } in
      let same : unit_of g k.ticket ≡ n = a.unit in
      let wait : IsWaiting u.plain k = subst (IsWaiting u.plain) a.task (unit.waiting k.ticket a.unit a.life) in
      let c : Connection = record { lun = (g.units n).lun; reselected = true; heard = []; task = k; shows = says (Reselection part.Identify) } in
      let kept2 : UnitKept g (unit_of g k.ticket) (with_at tickets k.ticket new) v = unit-changed g tickets k.ticket new u v (record {
        grows = inl refl;
        stands = record {
          fate = subst (λ z. HasTask g.retries (g.requests k.ticket) old.tag old.tries old.buffer z (view_for g k.ticket u.log)) a.task f.0;
          sense = sense_at g k.ticket old u.log Away s a.life;
          absent = λ z. absurd (needs g k.ticket old u.log Away s a.life (λ y. y) z);
          since = s.since;
          before = s.before;
        };
        rig = refl;
        plain = subst (λ z. u.plain ≡ (run_log g.requests (opening g z) u.log).unit) (sym same) unit.plain;
        lists = subst (λ z. WaitingTasks g z (with_at tickets k.ticket new) (remove u.tasks m)) (sym same) (lists-reselect g n tickets new m u.tasks k e (λ z. cc) unit.lists);
        others = λ j z. z;
        waits = λ z. absurd (let y : Connected ≡ Away = z in cc);
      }) (subst (λ z. UnitKept g z tickets u) (sym same) unit) in
      let target : (g.units (unit_of g k.ticket)).target ≡ i = ap (λ z. (g.units z).target) same ∙ here in
      let lun : (g.units n).lun ≡ (g.units (unit_of g k.ticket)).lun = ap (λ z. (g.units z).lun) (sym same) in
      record {
        units = units-changed g count plan i tickets t h.units k.ticket new (g.units n).lun u v target lun there kept2 (TaskConnected c);
        link = subst (λ b. WorkKept b g i (with_at tickets k.ticket new) (record { units = with_unit t.units (g.units n).lun v; link = TaskConnected c }) c) (sym plain) (work-is g i tickets k.ticket new (record { units = with_unit t.units (g.units n).lun v; link = TaskConnected c }) c refl target lun refl refl
            (λ y z. let same_unit : v ≡ y = same_Some v y (sym (unit-same t.units (g.units n).lun u v there) ∙ z) in
            subst (λ b. IsSound (session b c)) same_unit (record { task = wait.task; worth = wait.turn }))
            tt);
      }

-- a fresh task of a ticket without End is no sense task
pub asks-none : (c : Cdb) → asks_sense c false ≡ false
asks-none TestUnitReady = refl
asks-none (RequestSense len) = none (nat_eq len 18)
  where
    none : (b : Bool) → cond b false false ≡ false
    none true = refl
    none false = refl
asks-none (Read a b c) = refl
asks-none (Write a b c) = refl
asks-none (Inquiry len) = refl
asks-none ReadCapacity = refl
asks-none BadField = refl
asks-none Other = refl

pub tag-or : (a b : Bool) → a ≡ false → b ≡ false → (a || b) ≡ false
tag-or false b e f = f
tag-or true b e f = cc

-- no task of the unit has the ticket's tag
pub no-tag : (g : Plan) (n : ℕ) (tickets : ℕ → Ticket) (tag : ℕ) (xs : List Task) → AwayTasks g n tickets xs → ((y : ℕ) → unit_of g y ≡ n → (tickets y).life ≡ Away → (tickets y).task.tag ≡ tag → ⊥) → has_tag xs tag ≡ false
no-tag g n tickets tag [] h d = refl
no-tag g n tickets tag (y ∷ ys) h d =
    let e : y.tag ≢ tag = λ z. d y.ticket h.0.unit h.0.life (ap (λ k. k.tag) h.0.task ∙ z) in
    let f : nat_eq y.tag tag ≡ false = grind (arith, nat_tests) in
    tag-or (nat_eq y.tag tag) (has_tag ys tag) f (no-tag g n tickets tag ys h.2 d)

pub cond-false : {X : Type 0} (b : Bool) (x y : X) → b ≡ false → cond b x y ≡ y
cond-false true x y e = cc
cond-false false x y e = refl

-- the command of the ticket that was selected begins: the tag is its own, and no other ticket of the unit that is away has it
module _ (g : Plan) (count : ℕ) (plan : IsPlan g count) (i : ℕ) (tickets : ℕ → Ticket) (t : Target) (h : TargetKept g count i tickets t) (x : ℕ) (here : (g.units (unit_of g x)).target ≡ i) where
  pub begins : (n : Nexus) (u : LogicalUnit) → unit_at t.units n.lun ≡ Some u → n.lun ≡ (g.units (unit_of g x)).lun → n.tag ≡ (tickets x).tag → (tickets x).life ≡ Selected
      → ((y : ℕ) → unit_of g y ≡ unit_of g x → (tickets y).life ≡ Away → (tickets y).tag ≡ (tickets x).tag → ⊥)
      → TargetKept g count i (with_at tickets x (record (tickets x) { life = Connected; task = began n.tag x (command (g.requests x)) u.rig.disconnects (has_ended u.log x) }))
      (begun t n (command (g.requests x)) u x)
  begins n u there lun tag life alone =
      let unit = unit-of-work g count plan i tickets t h.units x n.lun u here lun there in
      let old = tickets x in
      let c = command (g.requests x) in
      let s = unit.each x refl in
      let q = fate_at g x old u.log Selected s life in
      let ended : has_ended u.log x ≡ false = ap (λ m. nat_lt 0 m) q.entries.ends in
      let task = began n.tag x c u.rig.disconnects (has_ended u.log x) in
      let new = record old { life = Connected; task = task } in
      let d : Connection = record { lun = n.lun; reselected = false; heard = []; task = task; shows = ToChoose } in
      let free : has_tag u.tasks n.tag ≡ false = no-tag g (unit_of g x) tickets n.tag u.tasks unit.lists.tasks
      (λ y e a z. alone y e a (sym (fate_at g y (tickets y) u.log Away (unit.each y e) a).0.tag ∙ z ∙ tag)) in
      let a = plan.accepted x in
      let fits : nat_lt 65536 (need_of c).bytes ≡ false = (let l = a.enough in let m = a.small in grind (arith, nat_tests)) in
      let wait : IsWaiting u.plain task = began-waits n.tag x c u.rig.disconnects (has_ended u.log x) a.form (let l = a.enough in let m = a.small in omega arith) u.plain in
      let plain : task.senses ≡ false = ap (asks_sense c) ended ∙ asks-none c in
      subst (TargetKept g count i (with_at tickets x new)) (sym (cond-false (has_tag u.tasks n.tag || nat_lt 65536 (need_of c).bytes) (linked t BusFree) (linked t (TaskConnected d)) (tag-or _ _ free fits))) (record {
        units = units-ticket-changed g count plan i tickets t h.units x new (λ v kept2.
            unit-changed g tickets x new v v (record {
              grows = inl refl;
              stands =
                  let r = fate_at g x old v.log Selected (kept2.each x refl) life in
                  record {
                    fate = record {
                      tag = tag;
                      cdb = refl;
                      plain = plain;
                      tried = r.tried;
                      most = r.most;
                      ends = r.entries.ends;
                      drops = r.entries.drops;
                      high = r.entries.high;
                      senses = r.entries.senses;
                      looks = λ z. r.entries.looks;
                      looked = omega (arith, r.entries.looks);
                      answer = r.entries.answer;
                      received = λ z. refl;
                      holds = r.holds ∙ sym (held-none (g.requests x).direction [] (g.requests x).bytes);
                      fresh = λ z. (refl, refl);
                    };
                    sense = sense_at g x old v.log Selected (kept2.each x refl) life;
                    absent = λ z. absurd (needs g x old v.log Selected (kept2.each x refl) life (λ y. y) z);
                    since = (kept2.each x refl).since;
                    before = (kept2.each x refl).before;
                  };
              rig = refl;
              plain = kept2.plain;
              lists = lists-other g (unit_of g x) tickets x new v.tasks (λ z. let y : Selected ≡ Away = sym life ∙ z in cc) (λ z. cc) kept2.lists;
              others = λ j z. z;
              waits = λ z. absurd (let y : Connected ≡ Away = z in cc);
            }) kept2) (TaskConnected d);
        link = subst (λ b. WorkKept b g i (with_at tickets x new) (linked t (TaskConnected d)) d) (sym plain) (work-is g i tickets x new (linked t (TaskConnected d)) d refl here lun refl refl
            (λ y z. let same : u ≡ y = same_Some u y (sym there ∙ z) in subst (λ b. IsSound (session b d)) same (record { task = wait.task; worth = λ j. absurd (let k : false ≡ true = j in cc) }))
            tt);
      })

  pub begin-link : (n : Nexus) (u : LogicalUnit) → unit_at t.units n.lun ≡ Some u → n.lun ≡ (g.units (unit_of g x)).lun → n.tag ≡ (tickets x).tag → (tickets x).life ≡ Selected
      → ((y : ℕ) → unit_of g y ≡ unit_of g x → (tickets y).life ≡ Away → (tickets y).tag ≡ (tickets x).tag → ⊥) → AtLink (begun t n (command (g.requests x)) u x).link x
  begin-link n u there lun tag life alone =
      let unit = unit-of-work g count plan i tickets t h.units x n.lun u here lun there in
      let free : has_tag u.tasks n.tag ≡ false = no-tag g (unit_of g x) tickets n.tag u.tasks unit.lists.tasks
      (λ y e a z. alone y e a (sym (fate_at g y (tickets y) u.log Away (unit.each y e) a).0.tag ∙ z ∙ tag)) in
      let a = plan.accepted x in
      let fits : nat_lt 65536 (need_of (command (g.requests x))).bytes ≡ false = (let l = a.enough in let m = a.small in grind (arith, nat_tests)) in
      let task = began n.tag x (command (g.requests x)) u.rig.disconnects (has_ended u.log x) in
      let d : Connection = record { lun = n.lun; reselected = false; heard = []; task = task; shows = ToChoose } in
      subst (λ z. AtLink z.link x) (sym (cond-false (has_tag u.tasks n.tag || nat_lt 65536 (need_of (command (g.requests x))).bytes) (linked t BusFree) (linked t (TaskConnected d)) (tag-or _ _ free fits))) refl
