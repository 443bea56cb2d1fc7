-- A connected sense task: its choices, its bytes, its end, its begin, and a reset of the bus.
use Rattle.std.proofs.Common.{◌≡◌, ◌≢◌, ℕ, zero, suc, ◌≤◌, ◌<◌, Bool, true, false, List, [], map, refl, ap, arith, sym, ◌∙◌, subst, Some, ◌⊎◌, inl, inr, nat_lt}
use Rattle.std.specs.Prelude.{◌||◌}
use Rattle.std.proofs.lemmas.Option.{same_Some}
use Rattle.scsi_words.specs.declared.statuses.kinds.Status.{Status}
use Rattle.cdb_codec.specs.declared.commands.Cdb.TheVariants.{RequestSense}
use Rattle.cdb_codec.specs.Forms.{need_of}
use Rattle.unit_law.specs.declared.entry.LogEntry.{LogEntry}
use Rattle.unit_law.specs.declared.entry.LogEntry.TheVariants.{Sense}
use Rattle.unit_law.specs.Log.{with_at, run_log}
use Rattle.unit_law.specs.Report.{filled}
use Rattle.unit_law.proofs.Views.{tally-sense, with_at-same, same_or_not}
use Rattle.target_law.specs.declared.moves.Move.{Move}
use Rattle.target_law.specs.declared.nexus.Nexus.{Nexus}
use Rattle.target_law.specs.declared.task_phase.TargetMessage.TheVariants.{CommandComplete}
use Rattle.target_law.specs.declared.task_phase.TaskPhase.{TaskPhase}
use Rattle.target_law.specs.declared.task_phase.TaskPhase.TheVariants.{ToChoose, MessageOut, DataIn, DataOut, Status as InStatus, MessageIn}
use Rattle.target_law.specs.declared.task_phase.Completion.{Completion}
use Rattle.target_law.specs.declared.task_phase.Completion.TheVariants.{Answered as HasAnswered, Refused}
use Rattle.target_law.specs.Session.{Task, Session, Can, acted, closed, closed_by, began, asks_sense, budget_by}
use Rattle.target_law.specs.Bytes.{Connection, one_less, advanced, put, byte_by, sent_by}
use Rattle.target_law.specs.Sound.{IsSound, IsWaiting, IsWorth, Ends}
use Rattle.target_law.specs.Target.{LogicalUnit, BusFree, TaskConnected, Target, unit_at, with_unit, linked, session, goes_on, ends, leaves, parted, unit_left, unit_after, connection_after, unit_reset, slot_reset, target_reset}
use Rattle.target_law.specs.Calls.{target_acted, acted_by, has_ended, has_tag, begun}
use Rattle.unit_task.proofs.SoundTasks.{began-waits}
use Rattle.unit_task.proofs.Ends.{others-ended}
use Rattle.target_session.proofs.Acts.{acted-sound}
use Rattle.target_session.proofs.Closes.{closed-as}
use Rattle.ticket_fate.specs.Tickets.{Plan, unit_of, opening, Connected, Away, AskStarts, AskConnected, Asked, Ticket, with_life, ticket_asked, view_for}
use Rattle.ticket_fate.specs.Senses.{AsksTask, SenseFate}
use Rattle.ticket_fate.specs.Fates.{Fate, TicketKept}
use Rattle.ticket_fate.specs.Linked.{IsPlan, UnitKept, HasAnswer, ShownBySense, IsAsking, WorkKept, LinkKept, TargetKept, ByBus, reset_tickets}
use Rattle.ticket_fate.proofs.TicketSteps.{fate_at, sense_at}
use Rattle.ticket_fate.proofs.SenseLives.{AsksOn, asks-on, asks-sent, sense-closes, frozen-sensed}
use Rattle.ticket_fate.proofs.SenseDrops.{reset-with-sense}
use Rattle.ticket_fate.proofs.SoundSessions.{sent-sound}
use Rattle.ticket_fate.proofs.TaskLists.{lists-other}
use Rattle.ticket_fate.proofs.Targets.{unit-changed, units-changed, units-ticket-changed, unit-of-work, unit-same, unit-other, at-lun}
use Rattle.ticket_fate.proofs.Calls.{unit-ticket-changed}
use Rattle.ticket_fate.proofs.TaskEnds.{tag-or, no-tag, cond-false}
use Rattle.ticket_fate.proofs.Resets.{slot-there, reset-here, unit-resets}

-- the ticket of a sense task isn't away
asking-not-away : (k : Ticket) → k.life ≡ AskConnected → k.life ≡ Away → ⊥
asking-not-away k e f = let g : AskConnected ≡ Away = sym e ∙ f in cc

-- a ticket that asks, with another task and another sense area
pub asking-same : (g : Plan) (x : ℕ) (k : Ticket) (log : List LogEntry) (task : Task) (area : List ℕ) → k.life ≡ AskConnected → TicketKept g x k log → TicketKept g x (record k { task = task; area = area }) log
asking-same g x k log task area e s =
    let j = record k { task = task; area = area } in
    record {
      fate = subst (λ l. Fate g x l j (view_for g x log)) (sym e) (fate_at g x k log AskConnected s e);
      sense = subst (λ l. SenseFate g x l j (view_for g x log)) (sym e) (sense_at g x k log AskConnected s e);
      absent = s.absent;
      since = s.since;
      before = s.before;
    }

-- a link to the ticket that was changed
ask-is : (g : Plan) (i : ℕ) (tickets : ℕ → Ticket) (x : ℕ) (k : Ticket) (t : Target) (d : Connection) (start : List ℕ) → d.task.ticket ≡ x → k.tag ≡ d.task.tag → (g.units (unit_of g x)).target ≡ i → d.lun ≡ (g.units (unit_of g x)).lun → k.life ≡ AskConnected
    → ((u : LogicalUnit) → unit_at t.units d.lun ≡ Some u → IsSound (session u d)) → ShownBySense d.shows → ((u : LogicalUnit) → unit_at t.units d.lun ≡ Some u → AsksTask u.plain d.task k.area start) → IsAsking g i (with_at tickets x k) t d
ask-is g i tickets x k t d start own tag e f life sound shows asks =
    let at : with_at tickets x k d.task.ticket ≡ k = ap (with_at tickets x k) own ∙ with_at-same tickets x k in
    record {
      target = ap (λ z. (g.units (unit_of g z)).target) own ∙ e;
      lun = f ∙ ap (λ z. (g.units (unit_of g z)).lun) (sym own);
      life = ap (λ z. z.life) at ∙ life;
      tag = ap (λ z. z.tag) at ∙ tag;
      sound = sound;
      shows = shows;
      start = start;
      asks = λ u z. subst (λ y. AsksTask u.plain d.task y.area start) (sym at) (asks u z);
    }

less-data : (n : ℕ) → ShownBySense (one_less n DataIn)
less-data zero = tt
less-data (suc zero) = tt
less-data (suc (suc n)) = tt

closed-true : (st : Status) (s : Session) → s.task.senses ≡ true → closed (HasAnswered st) s ≡ closed_by true s
unfolding closed
closed-true st s e = ap (λ b. closed_by b s) e

module _ (g : Plan) (count : ℕ) (plan : IsPlan g count) (i : ℕ) (tickets : ℕ → Ticket) (t : Target) (h : TargetKept g count i tickets t) (c : Connection) (working : t.link ≡ TaskConnected c) (free : c.task.senses ≡ true) where
  abbrev x : ℕ
  x = c.task.ticket

  w : IsAsking g i tickets t c
  w = subst (λ b. WorkKept b g i tickets t c) free (subst (λ l. LinkKept l g i tickets t) working h.link)

  -- the connection goes on as another one, with its ticket changed, and no unit
  goes-on : (task : Task) (area : List ℕ) (d : Connection) → d.task.ticket ≡ x → d.task.tag ≡ c.task.tag → d.task.senses ≡ c.task.senses → d.lun ≡ c.lun → ((u : LogicalUnit) → IsSound (session u c) → IsSound (session u d)) → ShownBySense d.shows
      → ((u : LogicalUnit) → IsSound (session u c) → AsksTask u.plain c.task (tickets x).area w.start → AsksTask u.plain d.task area w.start)
      → TargetKept g count i (with_at tickets x (record (tickets x) { task = task; area = area })) (linked t (TaskConnected d))
  goes-on task area d own tag senses lun sound shows asks =
      let k = record (tickets x) { task = task; area = area } in
      record {
        units = units-ticket-changed g count plan i tickets t h.units x k (λ u kept. unit-ticket-changed g tickets x k u (asking-not-away (tickets x) w.life) (asking-not-away (tickets x) w.life)
            (asking-same g x (tickets x) u.log task area w.life (kept.each x refl)) kept) (TaskConnected d);
        link = subst (λ b. WorkKept b g i (with_at tickets x k) (linked t (TaskConnected d)) d) (sym (senses ∙ free)) (ask-is g i tickets x k (linked t (TaskConnected d)) d w.start own (w.tag ∙ sym tag) w.target (lun ∙ w.lun) w.life
            (λ u e. sound u (w.sound u (ap (unit_at t.units) (sym lun) ∙ e))) shows
            (λ u e. let there = ap (unit_at t.units) (sym lun) ∙ e in asks u (w.sound u there) (w.asks u there)));
      }

  sent : (sh : TaskPhase) → c.shows ≡ sh → (at b : ℕ) → at ≡ c.task.position → byte_by sh c.task c.lun ≡ Some b
      → TargetKept g count i (with_at tickets x (ticket_asked sh at b (tickets x) (sent_by sh c).task)) (linked t (TaskConnected (sent_by sh c)))
  sent ToChoose e at b place byte = cc
  sent MessageOut e at b place byte = cc
  sent (DataOut n) e at b place byte = cc
  sent (DataIn n) e at b place byte =
      goes-on (sent_by (DataIn n) c).task (put (tickets x).area at b) (sent_by (DataIn n) c) refl refl refl refl (λ u s. sent-sound (DataIn n) u c b e s byte) (less-data n)
      (λ u s q. subst (λ p. AsksTask u.plain (advanced c.task c.task.received) (put (tickets x).area p b) w.start) (sym place) (asks-sent u.plain c.task (tickets x).area w.start b q s.task byte))
  sent (InStatus v) e at b place byte =
      goes-on c.task (tickets x).area (sent_by (InStatus v) c) refl refl refl refl (λ u s. sent-sound (InStatus v) u c b e s byte) (subst ShownBySense e w.shows) (λ u s q. q)
  sent (MessageIn n s) e at b place byte =
      goes-on c.task (tickets x).area (sent_by (MessageIn n s) c) refl refl refl refl (λ u z. sent-sound (MessageIn n s) u c b e z byte) (subst ShownBySense e w.shows) (λ u s q. q)

  -- a byte from the target
  pub ask-sent : (at b : ℕ) → at ≡ c.task.position → byte_by c.shows c.task c.lun ≡ Some b
      → TargetKept g count i (with_at tickets x (ticket_asked c.shows at b (tickets x) (sent_by c.shows c).task)) (linked t (TaskConnected (sent_by c.shows c)))
  ask-sent at b place byte = sent c.shows refl at b place byte

  module _ (u : LogicalUnit) (there : unit_at t.units c.lun ≡ Some u) where
    unit : UnitKept g (unit_of g x) tickets u
    unit = unit-of-work g count plan i tickets t h.units x c.lun u w.target w.lun there

    acted-at : (m : Move) (limit refused : ℕ) → Can m (session u c) limit refused → (y : Session) → y ≡ acted m (session u c)
        → TargetKept g count i (with_at tickets x (record (tickets x) { task = y.task })) (goes_on t c u y)
    acted-at m limit refused can y same =
        let q : AsksOn (session u c) y (tickets x).area w.start =
        subst (λ z. AsksOn (session u c) z (tickets x).area w.start) (sym same) (asks-on m (session u c) limit refused (tickets x).area w.start (w.asks u there) (w.sound u there).task can) in
        let k = record (tickets x) { task = y.task } in
        let sound : IsSound y = subst IsSound (sym same) (acted-sound m (session u c) limit refused (w.sound u there) can) in
        let d = connection_after c y in
        record {
          units = units-changed g count plan i tickets t h.units x k c.lun u (unit_after u y) w.target w.lun there (unit-changed g tickets x k u (unit_after u y) (record {
            grows = inl q.log;
            stands = subst (TicketKept g x k) (sym q.log) (asking-same g x (tickets x) u.log y.task (tickets x).area w.life (unit.each x refl));
            rig = refl;
            plain = q.unit ∙ unit.plain ∙ ap (λ l. (run_log g.requests (opening g (unit_of g x)) l).unit) (sym q.log);
            lists = lists-other g (unit_of g x) tickets x k u.tasks (asking-not-away (tickets x) w.life) (asking-not-away (tickets x) w.life) unit.lists;
            others = λ j z. subst (λ p. IsWaiting p j) (sym q.unit) z;
            waits = λ a. absurd (asking-not-away (tickets x) w.life a);
          }) unit) (TaskConnected d);
          link = subst (λ b. WorkKept b g i (with_at tickets x k) (goes_on t c u y) d) (sym q.runs.senses) (ask-is g i tickets x k (goes_on t c u y) d w.start q.ticket (w.tag ∙ sym q.tag) w.target w.lun w.life
              (λ v e. subst (λ z. IsSound (session z d)) (same_Some (unit_after u y) v (sym (unit-same t.units c.lun u (unit_after u y) there) ∙ e)) sound)
              q.shows
              (λ v e. subst (λ z. AsksTask z.plain y.task (tickets x).area w.start) (same_Some (unit_after u y) v (sym (unit-same t.units c.lun u (unit_after u y) there) ∙ e)) q.runs));
        }

    -- a choice
    pub ask-acted : (m : Move) (limit refused : ℕ) → Can m (session u c) limit refused
        → TargetKept g count i (with_at tickets x (record (tickets x) { task = (acted m (session u c)).task })) (target_acted t m)
    unfolding target_acted
    ask-acted m limit refused can =
        subst (TargetKept g count i (with_at tickets x (record (tickets x) { task = (acted m (session u c)).task }))) (sym (ap (λ l. acted_by l t m) working ∙ at-lun t c.lun _ u there))
        (acted-at m limit refused can (acted m (session u c)) refl)

    completed : (st : Status) → Ends (HasAnswered st) (session u c) → TargetKept g count i (with_at tickets x (with_life (tickets x) Asked)) (ends t c u (closed_by true (session u c)))
    completed st e =
        let s = unit.each x refl in
        let k = with_life (tickets x) Asked in
        let asked = sense-closes g x (tickets x) (session u c) w.start refl (w.asks u there) (w.sound u there).task e.0 unit.plain (sense_at g x (tickets x) u.log AskConnected s w.life) in
        let v = tally-sense x u.log in
        record {
          units = units-changed g count plan i tickets t h.units x k c.lun u (unit_after u (closed_by true (session u c))) w.target w.lun there (unit-changed g tickets x k u (unit_after u (closed_by true (session u c))) (record {
            grows = inr (Sense x, refl, refl);
            stands = record {
              fate = frozen-sensed g x (tickets x) u.log (fate_at g x (tickets x) u.log AskConnected s w.life);
              sense = asked.0;
              absent = λ a. (ap (λ y. y.refusals) v ∙ (s.absent a).0, tt);
              since = subst (λ y. (tickets x).since ≤ y.clears) (sym v) s.since;
              before = s.before;
            };
            rig = refl;
            plain = asked.1;
            lists = lists-other g (unit_of g x) tickets x k u.tasks (asking-not-away (tickets x) w.life) (λ a. let z : Asked ≡ Away = a in cc) unit.lists;
            others = λ j f. subst (λ z. IsWaiting z.unit j) (closed-true st (session u c) free) (subst (λ z. IsWaiting z.unit j) (sym (closed-as (session u c) st)) (others-ended u.plain c.task (w.sound u there).task e.0 j f));
            waits = λ a. absurd (let z : Asked ≡ Away = a in cc);
          }) unit) BusFree;
          link = tt;
        }

    completed-by : (v : Completion) → HasAnswer v → Ends v (session u c) → TargetKept g count i (with_at tickets x (with_life (tickets x) Asked)) (ends t c u (closed v (session u c)))
    completed-by (HasAnswered st) a e = subst (λ y. TargetKept g count i (with_at tickets x (with_life (tickets x) Asked)) (ends t c u y)) (sym (closed-true st (session u c) free)) (completed st e)
    completed-by (Refused st) a e = absurd a

    -- COMMAND COMPLETE is acknowledged
    pub ask-completed : (v : Completion) (s : Bool) → c.shows ≡ MessageIn (CommandComplete v) s → TargetKept g count i (with_at tickets x (with_life (tickets x) Asked)) (ends t c u (closed v (session u c)))
    ask-completed v s e = completed-by v (subst ShownBySense e w.shows) (subst (λ y. IsWorth y (session u c)) e (w.sound u there).worth)

    reset-at : (n : ℕ) → n < count → (g.units n).target ≡ i → ((g.units n).lun ≡ c.lun) ⊎ ((g.units n).lun ≢ c.lun) → (old : LogicalUnit) → unit_at t.units (g.units n).lun ≡ Some old
        → unit_at (map slot_reset (with_unit t.units c.lun (unit_left u c.task))) (g.units n).lun ≡ Some (unit_reset old)
    reset-at n less target (inl q) old e =
        let same : u ≡ old = same_Some u old (sym there ∙ ap (unit_at t.units) (sym q) ∙ e) in
        ap (unit_at (map slot_reset (with_unit t.units c.lun (unit_left u c.task)))) q
        ∙ slot-there (with_unit t.units c.lun (unit_left u c.task)) c.lun (unit_left u c.task) (unit-same t.units c.lun u (unit_left u c.task) there)
        ∙ ap Some (reset-with-sense u c.task free ∙ ap unit_reset same)
    reset-at n less target (inr d) old e = slot-there (with_unit t.units c.lun (unit_left u c.task)) (g.units n).lun old (unit-other t.units c.lun (g.units n).lun (unit_left u c.task) d ∙ e)

    -- a reset of the bus
    pub asking-reset : ((y : ℕ) → (g.units (unit_of g y)).target ≡ i → (tickets y).life ≡ Connected → ⊥) → TargetKept g count i (reset_tickets g i ByBus t tickets) (target_reset t)
    unfolding target_reset
    asking-reset none =
        let p : parted t.link t ≡ leaves t c u = ap (λ l. parted l t) working ∙ at-lun t c.lun (leaves t c) u there in
        record {
          units = λ n less target.
              let old = h.units n less target in (
                unit_reset old.0,
                ap (λ z. unit_at (map slot_reset z.units) (g.units n).lun) p ∙ reset-at n less target (same_or_not (g.units n).lun c.lun) old.0 old.1,
                unit-resets g n ByBus tickets old.0 old.2 (λ y e z. none y (ap (λ m. (g.units m).target) e ∙ target) z) (λ y e. tt) (reset_tickets g i ByBus t tickets)
                    (λ y e. reset-here g i ByBus t tickets y old.0 (ap (λ m. (g.units m).target) e ∙ target) (ap (λ m. unit_at t.units (g.units m).lun) e ∙ old.1)),
              );
          link = tt;
        }

start-filled : (area : List ℕ) → area ≡ filled [] 0 area
unfolding filled
start-filled area = refl

-- the REQUEST SENSE of the ticket that was selected begins
module _ (g : Plan) (count : ℕ) (plan : IsPlan g count) (i : ℕ) (tickets : ℕ → Ticket) (t : Target) (h : TargetKept g count i tickets t) (x : ℕ) (here : (g.units (unit_of g x)).target ≡ i) where
  pub ask-begun : (n : Nexus) (u : LogicalUnit) → unit_at t.units n.lun ≡ Some u → n.lun ≡ (g.units (unit_of g x)).lun → n.tag ≡ (tickets x).tag → (tickets x).life ≡ AskStarts
      → ((y : ℕ) → unit_of g y ≡ unit_of g x → (tickets y).life ≡ Away → (tickets y).tag ≡ (tickets x).tag → ⊥)
      → TargetKept g count i (with_at tickets x (record (tickets x) { life = AskConnected; task = began n.tag x (RequestSense 18) u.rig.disconnects (has_ended u.log x) })) (begun t n (RequestSense 18) u x)
  ask-begun n u there lun tag life alone =
      let unit = unit-of-work g count plan i tickets t h.units x n.lun u here lun there in
      let old = tickets x in
      let s = unit.each x refl in
      let asks = sense_at g x old u.log AskStarts s life in
      let ended : has_ended u.log x ≡ true = ap (λ m. nat_lt 0 m) asks.0.checked.0 in
      let task = began n.tag x (RequestSense 18) u.rig.disconnects (has_ended u.log x) in
      let new = record old { life = AskConnected; task = task } in
      let d : Connection = record { lun = n.lun; reselected = false; heard = []; task = task; shows = ToChoose } in
      let no : has_tag u.tasks n.tag ≡ false = no-tag g (unit_of g x) tickets n.tag u.tasks unit.lists.tasks
      (λ y e a z. alone y e a (sym (fate_at g y (tickets y) u.log Away (unit.each y e) a).0.tag ∙ z ∙ tag)) in
      let senses : task.senses ≡ true = ap (asks_sense (RequestSense 18)) ended in
      let wait : IsWaiting u.plain task = began-waits n.tag x (RequestSense 18) u.rig.disconnects (has_ended u.log x) (omega arith) (omega arith) u.plain in
      subst (TargetKept g count i (with_at tickets x new)) (sym (cond-false (has_tag u.tasks n.tag || nat_lt 65536 (need_of (RequestSense 18)).bytes) (linked t BusFree) (linked t (TaskConnected d)) (tag-or _ _ no refl))) (record {
        units = units-ticket-changed g count plan i tickets t h.units x new (λ v kept2.
            unit-ticket-changed g tickets x new v (λ a. let z : AskStarts ≡ Away = sym life ∙ a in cc) (λ a. let z : AskConnected ≡ Away = a in cc) (
            let r = kept2.each x refl in
            record {
              fate = fate_at g x old v.log AskStarts r life;
              sense = (sense_at g x old v.log AskStarts r life).0;
              absent = λ a. ((r.absent a).0, tt);
              since = r.since;
              before = r.before;
            }) kept2) (TaskConnected d);
        link = subst (λ b. WorkKept b g i (with_at tickets x new) (linked t (TaskConnected d)) d) (sym senses) (ask-is g i tickets x new (linked t (TaskConnected d)) d old.area refl (sym tag) here lun refl
            (λ y z. let same : u ≡ y = same_Some u y (sym there ∙ z) in subst (λ b. IsSound (session b d)) same (record { task = wait.task; worth = λ j. absurd (let k : false ≡ true = j in cc) }))
            tt
            (λ y z. record {
              cdb = refl;
              senses = senses;
              budget = ap (λ b. budget_by (asks_sense (RequestSense 18) b) u.rig.disconnects) ended;
              kept = inl refl;
              size = asks.1;
              holds = start-filled old.area;
            }));
      })
