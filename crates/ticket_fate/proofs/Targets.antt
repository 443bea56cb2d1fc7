-- One ticket and its unit change: what stays of the target. Then what each call makes of a target that is linked to its tickets.
use Rattle.std.proofs.Common.{◌≡◌, ◌≢◌, ℕ, zero, suc, ◌≤◌, ◌<◌, Bool, true, false, List, [], ◌∷◌, refl, ap, arith, sym, ◌∙◌, subst, Option, Some, None, ◌⊎◌, inl, inr, set}
use Rattle.std.specs.Prelude.{slice_get}
use Rattle.std.proofs.lemmas.Option.{same_Some}
use Rattle.cdb_codec.specs.Forms.{need_of}
use Rattle.scsi_words.specs.declared.phases.kinds.Direction.{Direction}
use Rattle.scsi_words.specs.declared.phases.kinds.Direction.TheVariants.{In, Out, None as NoData}
use Rattle.plain_lun.specs.Performing.{Answered}
use Rattle.unit_law.specs.Log.{with_at, run_log}
use Rattle.unit_law.proofs.Views.{with_at-same, with_at-other, same_or_not}
use Rattle.target_law.specs.declared.moves.Move.{Move}
use Rattle.target_law.specs.declared.moves.Move.TheVariants as move
use Rattle.target_law.specs.declared.task_phase.TaskPhase.TheVariants.{ToChoose, DataIn}
use Rattle.target_law.specs.Session.{Task, Session, Can, remaining, acted, gone, phased, looked, moves}
use Rattle.target_law.specs.Bytes.{Connection}
use Rattle.target_law.specs.Sound.{IsSound, IsWaiting}
use Rattle.target_law.specs.Target.{LogicalUnit, ConnectionState, TaskConnected, Target, flat, unit_at, with_unit, session, at_lun, on_unit, goes_on, unit_after, connection_after}
use Rattle.target_law.specs.Calls.{acted_by, target_acted}
use Rattle.target_session.proofs.Acts.{acted-sound, acted-others}
use Rattle.ticket_fate.specs.Tickets.{Plan, unit_of, opening, Connected, Away, Ticket, view_for}
use Rattle.ticket_fate.specs.Fates.{HasTask, Fate, TicketKept}
use Rattle.ticket_fate.specs.Linked.{IsPlan, WaitingTasks, UnitKept, ShownFits, IsAtWork, WorkKept, LinkKept, UnitsKept, TargetKept}
use Rattle.ticket_fate.specs.Senses.{SenseFate}
use Rattle.ticket_fate.proofs.Views.{Grows, each-changed, each-elsewhere}
use Rattle.ticket_fate.proofs.TicketSteps.{fate_at, sense_at, needs}
use Rattle.ticket_fate.proofs.Choices.{Follows, follows}
use Rattle.ticket_fate.proofs.TaskLists.{lists-other, lists-elsewhere}

-- places of units
get-set : {X : Type 0} (xs : List X) (i : ℕ) (x y : X) → slice_get xs i ≡ Some x → slice_get (set xs i y) i ≡ Some y
get-set [] i x y e = cc
get-set (z ∷ xs) zero x y e = refl
get-set (z ∷ xs) (suc i) x y e = get-set xs i x y e

get-set-other : {X : Type 0} (xs : List X) (i j : ℕ) (y : X) → j ≢ i → slice_get (set xs i y) j ≡ slice_get xs j
get-set-other [] i j y d = refl
get-set-other (z ∷ xs) zero zero y d = absurd (d refl)
get-set-other (z ∷ xs) zero (suc j) y d = refl
get-set-other (z ∷ xs) (suc i) zero y d = refl
get-set-other (z ∷ xs) (suc i) (suc j) y d = get-set-other xs i j y (λ e. d (ap suc e))

flat-some : (o : Option (Option LogicalUnit)) (u : LogicalUnit) → flat o ≡ Some u → o ≡ Some (Some u)
flat-some (Some (Some v)) u e = ap Some e
flat-some (Some None) u e = cc
flat-some None u e = cc

pub unit-same : (us : List (Option LogicalUnit)) (lun : ℕ) (u v : LogicalUnit) → unit_at us lun ≡ Some u → unit_at (with_unit us lun v) lun ≡ Some v
unfolding unit_at with_unit
unit-same us lun u v e = ap flat (get-set us lun (Some u) (Some v) (flat-some (slice_get us lun) u e))

pub unit-other : (us : List (Option LogicalUnit)) (lun j : ℕ) (v : LogicalUnit) → j ≢ lun → unit_at (with_unit us lun v) j ≡ unit_at us j
unfolding unit_at with_unit
unit-other us lun j v d = ap flat (get-set-other us lun j (Some v) d)

pub at-lun : (t : Target) (lun : ℕ) (f : LogicalUnit → Target) (u : LogicalUnit) → unit_at t.units lun ≡ Some u → at_lun t lun f ≡ f u
at-lun t lun f u e = ap (λ o. on_unit o f t) e

-- a ticket of another unit changes
pub unit-elsewhere : (g : Plan) (n : ℕ) (tickets : ℕ → Ticket) (x : ℕ) (k : Ticket) (u : LogicalUnit) → unit_of g x ≢ n → UnitKept g n tickets u → UnitKept g n (with_at tickets x k) u
unit-elsewhere g n tickets x k u d h = record {
  rig = h.rig;
  plain = h.plain;
  each = each-elsewhere g n tickets x k u.log d h.each;
  lists = lists-elsewhere g n tickets x k u.tasks d h.lists;
  waiting = λ t e a.
      let f : t ≢ x = λ q. d (ap (unit_of g) (sym q) ∙ e) in
      let same = with_at-other tickets x k t f in
      subst (λ z. IsWaiting u.plain z.task) (sym same) (h.waiting t e (ap (λ z. z.life) (sym same) ∙ a));
}

-- the unit of the ticket that changes
pub record Changed (g : Plan) (tickets : ℕ → Ticket) (x : ℕ) (k : Ticket) (u v : LogicalUnit) : Type 0 where
  pub grows : Grows x u.log v.log
  pub stands : TicketKept g x k v.log
  pub rig : v.rig ≡ u.rig
  pub plain : v.plain ≡ (run_log g.requests (opening g (unit_of g x)) v.log).unit
  pub lists : WaitingTasks g (unit_of g x) (with_at tickets x k) v.tasks
  pub others : (j : Task) → IsWaiting u.plain j → IsWaiting v.plain j
  pub waits : k.life ≡ Away → IsWaiting v.plain k.task

waits-at : (g : Plan) (tickets : ℕ → Ticket) (x : ℕ) (k : Ticket) (u v : LogicalUnit) → Changed g tickets x k u v → UnitKept g (unit_of g x) tickets u → (t : ℕ) → unit_of g t ≡ unit_of g x
    → (with_at tickets x k t).life ≡ Away → (t ≡ x) ⊎ (t ≢ x) → IsWaiting v.plain (with_at tickets x k t).task
waits-at g tickets x k u v c h t e a (inl q) =
    let same : with_at tickets x k t ≡ k = ap (with_at tickets x k) q ∙ with_at-same tickets x k in
    subst (λ z. IsWaiting v.plain z.task) (sym same) (c.waits (ap (λ z. z.life) (sym same) ∙ a))
waits-at g tickets x k u v c h t e a (inr d) =
    let same = with_at-other tickets x k t d in
    subst (λ z. IsWaiting v.plain z.task) (sym same) (c.others (tickets t).task (h.waiting t e (ap (λ z. z.life) (sym same) ∙ a)))

pub unit-changed : (g : Plan) (tickets : ℕ → Ticket) (x : ℕ) (k : Ticket) (u v : LogicalUnit) → Changed g tickets x k u v → UnitKept g (unit_of g x) tickets u → UnitKept g (unit_of g x) (with_at tickets x k) v
unit-changed g tickets x k u v c h = record {
  rig = c.rig ∙ h.rig;
  plain = c.plain;
  each = each-changed g (unit_of g x) tickets x k u.log v.log c.grows h.each c.stands;
  lists = c.lists;
  waiting = λ t e a. waits-at g tickets x k u v c h t e a (same_or_not t x);
}

module _ (g : Plan) (count : ℕ) (plan : IsPlan g count) (i : ℕ) (tickets : ℕ → Ticket) (t : Target) (h : UnitsKept g count i tickets t) where
  units_at : (x : ℕ) (k : Ticket) (lun : ℕ) (u v : LogicalUnit) → (g.units (unit_of g x)).target ≡ i → lun ≡ (g.units (unit_of g x)).lun → unit_at t.units lun ≡ Some u → UnitKept g (unit_of g x) (with_at tickets x k) v
      → (n : ℕ) → n < count → (g.units n).target ≡ i → (n ≡ unit_of g x) ⊎ (n ≢ unit_of g x) → (w : LogicalUnit) × (unit_at (with_unit t.units lun v) (g.units n).lun ≡ Some w) × UnitKept g n (with_at tickets x k) w
  units_at x k lun u v e f there new n l target (inl q) = (
    v,
    ap (λ m. unit_at (with_unit t.units lun v) (g.units m).lun) q ∙ ap (unit_at (with_unit t.units lun v)) (sym f) ∙ unit-same t.units lun u v there,
    subst (λ m. UnitKept g m (with_at tickets x k) v) (sym q) new,
  )
  units_at x k lun u v e f there new n l target (inr d) =
      let old = h n l target in
      let apart : (g.units n).lun ≢ lun = λ q. d (plan.apart n (unit_of g x) (target ∙ sym e) (q ∙ f)) in
      (old.0, unit-other t.units lun (g.units n).lun v apart ∙ old.1, unit-elsewhere g n tickets x k old.0 (λ q. d (sym q)) old.2)

  -- a ticket and its unit
  pub units-changed : (x : ℕ) (k : Ticket) (lun : ℕ) (u v : LogicalUnit) → (g.units (unit_of g x)).target ≡ i → lun ≡ (g.units (unit_of g x)).lun → unit_at t.units lun ≡ Some u
      → UnitKept g (unit_of g x) (with_at tickets x k) v → (l : ConnectionState) → UnitsKept g count i (with_at tickets x k) (record { units = with_unit t.units lun v; link = l })
  units-changed x k lun u v e f there new l = λ n m target. units_at x k lun u v e f there new n m target (same_or_not n (unit_of g x))

  ticket_changed_at : (x : ℕ) (k : Ticket) → ((u : LogicalUnit) → UnitKept g (unit_of g x) tickets u → UnitKept g (unit_of g x) (with_at tickets x k) u)
      → (n : ℕ) → n < count → (g.units n).target ≡ i → (n ≡ unit_of g x) ⊎ (n ≢ unit_of g x) → (w : LogicalUnit) × (unit_at t.units (g.units n).lun ≡ Some w) × UnitKept g n (with_at tickets x k) w
  ticket_changed_at x k f n l target (inl q) =
      let old = h n l target in
      (old.0, old.1, subst (λ m. UnitKept g m (with_at tickets x k) old.0) (sym q) (f old.0 (subst (λ m. UnitKept g m tickets old.0) q old.2)))
  ticket_changed_at x k f n l target (inr d) = let old = h n l target in (old.0, old.1, unit-elsewhere g n tickets x k old.0 (λ q. d (sym q)) old.2)

  -- a ticket alone; so also one of another target
  pub units-ticket-changed : (x : ℕ) (k : Ticket) → ((u : LogicalUnit) → UnitKept g (unit_of g x) tickets u → UnitKept g (unit_of g x) (with_at tickets x k) u) → (l : ConnectionState)
      → UnitsKept g count i (with_at tickets x k) (record { units = t.units; link = l })
  units-ticket-changed x k f l = λ n m target. ticket_changed_at x k f n m target (same_or_not n (unit_of g x))

  pub units-elsewhere : (x : ℕ) (k : Ticket) → (g.units (unit_of g x)).target ≢ i → UnitsKept g count i (with_at tickets x k) t
  units-elsewhere x k d = λ n m target.
      let old = h n m target in
      (old.0, old.1, unit-elsewhere g n tickets x k old.0 (λ q. d (ap (λ z. (g.units z).target) q ∙ target)) old.2)

  -- the unit of a connection
  pub unit-of-work : (x lun : ℕ) (u : LogicalUnit) → (g.units (unit_of g x)).target ≡ i → lun ≡ (g.units (unit_of g x)).lun → unit_at t.units lun ≡ Some u → UnitKept g (unit_of g x) tickets u
  unit-of-work x lun u e f there =
      let old = h (unit_of g x) (plan.known x) e in
      subst (UnitKept g (unit_of g x) tickets) (same_Some old.0 u (sym old.1 ∙ ap (unit_at t.units) (sym f) ∙ there)) old.2

-- a link to the ticket that was changed
pub work-is : (g : Plan) (i : ℕ) (tickets : ℕ → Ticket) (x : ℕ) (k : Ticket) (t : Target) (c : Connection) → c.task.ticket ≡ x → (g.units (unit_of g x)).target ≡ i → c.lun ≡ (g.units (unit_of g x)).lun
    → k.life ≡ Connected → k.task ≡ c.task → ((u : LogicalUnit) → unit_at t.units c.lun ≡ Some u → IsSound (session u c)) → ShownFits c.shows c.task → IsAtWork g i (with_at tickets x k) t c
work-is g i tickets x k t c own e f life task sound worth =
    let at : with_at tickets x k c.task.ticket ≡ k = ap (with_at tickets x k) own ∙ with_at-same tickets x k in
    record {
      target = ap (λ z. (g.units (unit_of g z)).target) own ∙ e;
      lun = f ∙ ap (λ z. (g.units (unit_of g z)).lun) (sym own);
      life = ap (λ z. z.life) at ∙ life;
      task = ap (λ z. z.task) at ∙ task;
      sound = sound;
      worth = worth;
    }

pub not-away : (k : Ticket) → k.life ≡ Connected → k.life ≡ Away → ⊥
not-away k e f = let g : Connected ≡ Away = sym e ∙ f in cc

-- a connected ticket with another task
pub follow-kept : (g : Plan) (x : ℕ) (k : Ticket) (s y : Session) → k.life ≡ Connected → TicketKept g x k s.log → Follows g x k.tag k.tries k.buffer s y → TicketKept g x (record k { task = y.task }) y.log
follow-kept g x k s y e h f = record {
  fate = subst (λ l. Fate g x l (record k { task = y.task }) (view_for g x y.log)) (sym e) f.runs;
  sense = subst (λ l. SenseFate g x l (record k { task = y.task }) (view_for g x y.log)) (sym e) (f.unasked k.sense (sense_at g x k s.log Connected h e));
  absent = λ a. absurd (needs g x k s.log Connected h e (λ z. z) a);
  since = subst (λ n. k.since ≤ n) (sym f.clears) h.since;
  before = h.before;
}

-- what a choice shows
looked-worth : (o : Option Answered) (b : Bool) (s : Session) (n : ℕ) → s.task.senses ≡ b → ShownFits (moves (looked o s) (DataIn n)).shows (moves (looked o s) (DataIn n)).task
looked-worth (Some a) b s n e = refl
looked-worth None true s n e = refl
looked-worth None false s n e = refl

phased-worth : (d : Direction) (s : Session) (n : ℕ) → s.shows ≡ ToChoose → ShownFits (phased d s n).shows (phased d s n).task
phased-worth In s n e = looked-worth s.task.kept s.task.senses s n refl
phased-worth Out s n e = refl
phased-worth NoData s n e = subst (λ z. ShownFits z s.task) (sym e) tt

gone-worth : (r : ℕ) (s : Session) (n : ℕ) → s.shows ≡ ToChoose → ShownFits (gone r s n).shows (gone r s n).task
gone-worth zero s n e = tt
gone-worth (suc r) s n e = phased-worth (need_of s.task.cdb).direction s n e

acted-worth : (m : Move) (s : Session) (limit refused : ℕ) → s.shows ≡ ToChoose → Can m s limit refused → (s.task.fresh ≡ true → (s.task.high ≡ 0) × (s.task.kept ≡ None)) → ShownFits (acted m s).shows (acted m s).task
unfolding acted
acted-worth (move.Go n) s limit refused e c f = gone-worth (remaining s) s n e
acted-worth move.Busy s limit refused e c f = let h = f c.fresh in (h.0, h.1, inl refl)
acted-worth move.QueueFull s limit refused e c f = let h = f c.fresh in (h.0, h.1, inr refl)
acted-worth move.Leave s limit refused e c f = tt
acted-worth move.SaveLeave s limit refused e c f = tt
acted-worth move.Save s limit refused e c f = tt
acted-worth move.Restore s limit refused e c f = tt
acted-worth (move.Rogue word) s limit refused e c f = absurd c

module _ (g : Plan) (count : ℕ) (plan : IsPlan g count) (i : ℕ) (tickets : ℕ → Ticket) (t : Target) (h : TargetKept g count i tickets t) (c : Connection) (working : t.link ≡ TaskConnected c)
    (free : c.task.senses ≡ false) (u : LogicalUnit) (there : unit_at t.units c.lun ≡ Some u) where
  abbrev pub x : ℕ
  x = c.task.ticket

  pub at : IsAtWork g i tickets t c
  at = subst (λ b. WorkKept b g i tickets t c) free (subst (λ l. LinkKept l g i tickets t) working h.link)

  pub kept : UnitKept g (unit_of g c.task.ticket) tickets u
  kept = unit-of-work g count plan i tickets t h.units x c.lun u at.target at.lun there

  pub runs : HasTask g.retries (g.requests x) (tickets x).tag (tickets x).tries (tickets x).buffer c.task (view_for g x u.log)
  runs = subst (λ z. HasTask g.retries (g.requests x) (tickets x).tag (tickets x).tries (tickets x).buffer z (view_for g x u.log)) at.task (fate_at g x (tickets x) u.log Connected (kept.each x refl) at.life)

  -- a choice
  acted-at : (m : Move) (limit refused : ℕ) → c.shows ≡ ToChoose → Can m (session u c) limit refused → (y : Session) → y ≡ acted m (session u c)
      → TargetKept g count i (with_at tickets x (record (tickets x) { task = y.task })) (goes_on t c u y)
  acted-at m limit refused e can y same =
      let f : Follows g x (tickets x).tag (tickets x).tries (tickets x).buffer (session u c) y =
      subst (Follows g x (tickets x).tag (tickets x).tries (tickets x).buffer (session u c)) (sym same) (follows g x (tickets x).tag (tickets x).tries (tickets x).buffer (session u c) refl runs kept.plain (at.sound u there).task m) in
      let k = record (tickets x) { task = y.task } in
      let sound : IsSound y = subst IsSound (sym same) (acted-sound m (session u c) limit refused (at.sound u there) can) in
      record {
        units = units-changed g count plan i tickets t h.units x k c.lun u (unit_after u y) at.target at.lun there (unit-changed g tickets x k u (unit_after u y) (record {
          grows = f.grows;
          stands = follow-kept g x (tickets x) (session u c) y at.life (kept.each x refl) f;
          rig = refl;
          plain = f.plain;
          lists = lists-other g (unit_of g x) tickets x k u.tasks (not-away (tickets x) at.life) (not-away (tickets x) at.life) kept.lists;
          others = λ j w. subst (λ z. IsWaiting z.unit j) (sym same) (acted-others m (session u c) j w);
          waits = λ a. absurd (not-away (tickets x) at.life a);
        }) kept) (TaskConnected (connection_after c y));
        link = subst (λ b. WorkKept b g i (with_at tickets x k) (goes_on t c u y) (connection_after c y)) (sym f.runs.plain) (work-is g i tickets x k (goes_on t c u y) (connection_after c y) f.ticket at.target at.lun at.life refl
            (λ w e. subst (λ z. IsSound (session z (connection_after c y))) (same_Some (unit_after u y) w (sym (unit-same t.units c.lun u (unit_after u y) there) ∙ e)) sound)
            (subst (λ z. ShownFits z.shows z.task) (sym same) (acted-worth m (session u c) limit refused e can runs.fresh)));
      }

  pub acted-kept : (m : Move) (limit refused : ℕ) → c.shows ≡ ToChoose → Can m (session u c) limit refused
      → TargetKept g count i (with_at tickets x (record (tickets x) { task = (acted m (session u c)).task })) (target_acted t m)
  unfolding target_acted
  acted-kept m limit refused e can =
      subst (TargetKept g count i (with_at tickets x (record (tickets x) { task = (acted m (session u c)).task }))) (sym (ap (λ l. acted_by l t m) working ∙ at-lun t c.lun _ u there))
      (acted-at m limit refused e can (acted m (session u c)) refl)
