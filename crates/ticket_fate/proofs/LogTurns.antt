-- What a move makes of the log of a ticket's unit: it stays, or has one entry more of a ticket that is live; a reset of its target adds a Clear, and
-- drops of tickets that are away.
use Rattle.std.proofs.Common.{◌≡◌, ◌≢◌, ℕ, zero, suc, ◌≤◌, Bool, true, false, List, [], ◌∷◌, ◌++◌, refl, ap, arith, sym, ◌∙◌, subst, Option, Some, None, ◌⊎◌, inl, inr, nat_eq}
use Rattle.std.specs.Prelude.{fold}
use Rattle.scsi_words.specs.declared.phases.kinds.Direction.{Direction}
use Rattle.scsi_words.specs.declared.phases.kinds.Direction.TheVariants.{In, Out, None as NoData}
use Rattle.cdb_codec.specs.Forms.{need_of}
use Rattle.plain_lun.specs.Performing.{Answered, Performed, perform}
use Rattle.unit_law.specs.declared.entry.LogEntry.{LogEntry}
use Rattle.unit_law.specs.declared.entry.LogEntry.TheVariants.{Refuse, Look, End, Drop, Clear, Sense}
use Rattle.unit_law.specs.Log.{Tally, tally, noted, if_of, with_at}
use Rattle.unit_law.proofs.Views.{IsOf, tally-push, tally-other, tally-clear, with_at-same, with_at-other, same_or_not}
use Rattle.target_law.specs.declared.moves.Move.{Move}
use Rattle.target_law.specs.declared.moves.Move.TheVariants as move
use Rattle.target_law.specs.declared.task_phase.Completion.{Completion}
use Rattle.target_law.specs.declared.task_phase.Completion.TheVariants.{Answered as HasAnswered, Refused}
use Rattle.target_law.specs.Session.{Task, Session, remaining, acted, gone, phased, looked, looked_by, closed, closed_by}
use Rattle.target_law.specs.Target.{LogicalUnit, Target, unit_at, with_unit, drops, drops_by, unit_reset}
use Rattle.logs_have_room.specs.Room.{entries}
use Rattle.ticket_fate.specs.Tickets.{Plan, is_live, Ticket}
use Rattle.ticket_fate.specs.Linked.{HasNoTaskOf, log_in, log_of}
use Rattle.ticket_fate.specs.Moves.{target_of}
use Rattle.ticket_fate.proofs.Targets.{unit-same, unit-other}
use Rattle.ticket_fate.proofs.LastEntries.{ended-log}
use Rattle.ticket_fate.proofs.Resets.{clears-same}

-- the log stays, or has one entry more of a live ticket
abbrev pub Turned : (ℕ → Ticket) → List LogEntry → List LogEntry → Type 0
Turned ks old new = (new ≡ old) ⊎ ((y : ℕ) × (e : LogEntry) × IsOf y e × (is_live (ks y).life ≡ true) × (new ≡ old ++ e ∷ []))

-- what that leaves of a tally
pub record TallyTurned (live : Bool) (before after : Tally) : Type 0 where
  pub clears : after.clears ≡ before.clears
  pub entries : live ≡ false → entries after ≡ entries before

if-clears : (b : Bool) (new old : Tally) → new.clears ≡ old.clears → (if_of b new old).clears ≡ old.clears
if-clears true new old e = e
if-clears false new old e = refl

entry-clears : (x y : ℕ) (k : Tally) (e : LogEntry) → IsOf y e → (noted x k e).clears ≡ k.clears
entry-clears x y k (Refuse t s) i = if-clears (nat_eq t x) _ k refl
entry-clears x y k (Look t) i = if-clears (nat_eq t x) _ k refl
entry-clears x y k (End t) i = if-clears (nat_eq t x) _ k refl
entry-clears x y k (Drop t high) i = if-clears (nat_eq t x) _ k refl
entry-clears x y k Clear i = absurd i
entry-clears x y k (Sense t) i = if-clears (nat_eq t x) _ k refl

pub turned-tally : (ks : ℕ → Ticket) (x : ℕ) (old new : List LogEntry) → Turned ks old new → TallyTurned (is_live (ks x).life) (tally x old) (tally x new)
turned-tally ks x old new (inl e) = record { clears = ap (λ l. (tally x l).clears) e; entries = λ d. ap (λ l. entries (tally x l)) e }
turned-tally ks x old new (inr t) =
    let push : tally x new ≡ tally x (old ++ t.1 ∷ []) = ap (tally x) t.4 in
    record {
      clears = ap (λ k. k.clears) (push ∙ tally-push x old t.1) ∙ entry-clears x t.0 (tally x old) t.1 t.2;
      entries = λ d.
          let apart : x ≢ t.0 = λ q. differ (is_live (ks x).life) d (ap (λ z. is_live (ks z).life) q ∙ t.3) in
          ap entries (push ∙ tally-other x t.0 old t.1 t.2 apart);
    }
  where
    differ : (b : Bool) → b ≡ false → b ≡ true → ⊥
    differ b e f = cc

-- what each call logs
looked-log : (o : Option Answered) (b : Bool) (s : Session) → s.task.senses ≡ b → ((looked o s).log ≡ s.log) ⊎ ((looked o s).log ≡ s.log ++ Look s.task.ticket ∷ [])
looked-log (Some a) b s e = inl refl
looked-log None true s e = inl (by s.task.senses e (perform s.unit s.task.cdb []))
  where
    by : (b : Bool) → b ≡ true → (p : Performed) → (looked_by b s p).log ≡ s.log
    by true e p = refl
    by false e p = cc
looked-log None false s e = inr (by s.task.senses e (perform s.unit s.task.cdb []))
  where
    by : (b : Bool) → b ≡ false → (p : Performed) → (looked_by b s p).log ≡ s.log ++ Look s.task.ticket ∷ []
    by true e p = cc
    by false e p = refl

phased-log : (d : Direction) (s : Session) (n : ℕ) → ((phased d s n).log ≡ s.log) ⊎ ((phased d s n).log ≡ s.log ++ Look s.task.ticket ∷ [])
phased-log In s n = looked-log s.task.kept s.task.senses s refl
phased-log Out s n = inl refl
phased-log NoData s n = inl refl

gone-log : (r : ℕ) (s : Session) (n : ℕ) → ((gone r s n).log ≡ s.log) ⊎ ((gone r s n).log ≡ s.log ++ Look s.task.ticket ∷ [])
gone-log zero s n = inl refl
gone-log (suc r) s n = phased-log (need_of s.task.cdb).direction s n

acted-log : (m : Move) (s : Session) → ((acted m s).log ≡ s.log) ⊎ ((acted m s).log ≡ s.log ++ Look s.task.ticket ∷ [])
unfolding acted
acted-log (move.Go n) s = gone-log (remaining s) s n
acted-log move.Busy s = inl refl
acted-log move.QueueFull s = inl refl
acted-log move.Leave s = inl refl
acted-log move.SaveLeave s = inl refl
acted-log move.Save s = inl refl
acted-log move.Restore s = inl refl
acted-log (move.Rogue word) s = inl refl

pub acted-turned : (ks : ℕ → Ticket) (m : Move) (s : Session) → is_live (ks s.task.ticket).life ≡ true → Turned ks s.log (acted m s).log
acted-turned ks m s live = by (acted-log m s)
  where
    by : ((acted m s).log ≡ s.log) ⊎ ((acted m s).log ≡ s.log ++ Look s.task.ticket ∷ []) → Turned ks s.log (acted m s).log
    by (inl e) = inl e
    by (inr e) = inr (s.task.ticket, Look s.task.ticket, refl, live, e)

closed-by-turned : (b : Bool) (ks : ℕ → Ticket) (s : Session) → is_live (ks s.task.ticket).life ≡ true → Turned ks s.log (closed_by b s).log
closed-by-turned true ks s live = inr (s.task.ticket, Sense s.task.ticket, refl, live, refl)
closed-by-turned false ks s live = inr (s.task.ticket, End s.task.ticket, refl, live, ended-log s.task.kept s (perform s.unit s.task.cdb s.task.received))

pub closed-turned : (v : Completion) (ks : ℕ → Ticket) (s : Session) → is_live (ks s.task.ticket).life ≡ true → Turned ks s.log (closed v s).log
unfolding closed
closed-turned (HasAnswered st) ks s live = closed-by-turned s.task.senses ks s live
closed-turned (Refused st) ks s live = inr (s.task.ticket, Refuse s.task.ticket st, refl, live, refl)

pub drops-turned : (b : Bool) (ks : ℕ → Ticket) (u : LogicalUnit) (k : Task) → is_live (ks k.ticket).life ≡ true → Turned ks u.log (drops_by b u k).log
drops-turned true ks u k live = inl refl
drops-turned false ks u k live = inr (k.ticket, Drop k.ticket k.high, refl, live, refl)

-- for a relation that each log has to itself
module _ (R : List LogEntry → List LogEntry → Type 0) (same : (l : List LogEntry) → R l l) where
  -- a unit of a target in place of another one
  pub unit-logs : (units : List (Option LogicalUnit)) (at lun : ℕ) (u v : LogicalUnit) → unit_at units at ≡ Some u → (lun ≡ at → R u.log v.log)
      → R (log_in (unit_at units lun)) (log_in (unit_at (with_unit units at v) lun))
  unit-logs units at lun u v there t = by (same_or_not lun at)
    where
      by : (lun ≡ at) ⊎ (lun ≢ at) → R (log_in (unit_at units lun)) (log_in (unit_at (with_unit units at v) lun))
      by (inl q) =
          subst (λ l. R l (log_in (unit_at (with_unit units at v) lun))) (sym (ap (λ z. log_in (unit_at units z)) q ∙ ap log_in there))
          (subst (R u.log) (sym (ap (λ z. log_in (unit_at (with_unit units at v) z)) q ∙ ap log_in (unit-same units at u v there))) (t q))
      by (inr d) = subst (λ z. R (log_in (unit_at units lun)) (log_in z)) (sym (unit-other units at lun v d)) (same (log_in (unit_at units lun)))

  -- a target in place of another one
  pub target-logs : (g : Plan) (ts : ℕ → Target) (i x : ℕ) (t : Target) → (target_of g x ≡ i → R (log_of g (ts i) x) (log_of g t x)) → R (log_of g (ts (target_of g x)) x) (log_of g (with_at ts i t (target_of g x)) x)
  target-logs g ts i x t f = by (same_or_not (target_of g x) i)
    where
      by : (target_of g x ≡ i) ⊎ (target_of g x ≢ i) → R (log_of g (ts (target_of g x)) x) (log_of g (with_at ts i t (target_of g x)) x)
      by (inl q) =
          subst (λ z. R (log_of g z x) (log_of g (with_at ts i t (target_of g x)) x)) (sym (ap ts q))
          (subst (λ z. R (log_of g (ts i) x) (log_of g z x)) (sym (ap (with_at ts i t) q ∙ with_at-same ts i t)) (f q))
      by (inr d) = subst (λ z. R (log_of g (ts (target_of g x)) x) (log_of g z x)) (sym (with_at-other ts i t (target_of g x) d)) (same (log_of g (ts (target_of g x)) x))

-- a reset of a unit: no ticket without a task in it has an entry more
pub record Reset (b : Bool) (before after : Tally) : Type 0 where
  pub clears : before.clears ≤ after.clears
  pub entries : b ≡ false → entries after ≡ entries before

pub drop-other : (x : ℕ) (b : Bool) (u : LogicalUnit) (k : Task) → (k.ticket ≡ x → ⊥) → tally x (drops_by b u k).log ≡ tally x u.log
drop-other x true u k d = refl
drop-other x false u k d = tally-other x k.ticket u.log (Drop k.ticket k.high) refl (λ q. d (sym q))

pub drops-other : (x : ℕ) (ks : List Task) (u : LogicalUnit) → HasNoTaskOf x ks → tally x (fold drops u ks).log ≡ tally x u.log
drops-other x [] u d = refl
drops-other x (k ∷ ks) u d = drops-other x ks (drops u k) d.1 ∙ drop-other x k.senses u k d.0

pub unit-reset : (g : Plan) (x : ℕ) (b : Bool) (u : LogicalUnit) → (b ≡ false → HasNoTaskOf x u.tasks) → Reset b (tally x u.log) (tally x (unit_reset u).log)
unfolding unit_reset
unit-reset g x b u none =
    let v = tally-clear x (fold drops u u.tasks).log in
    let s : (tally x (fold drops u u.tasks).log).clears ≡ (tally x u.log).clears = clears-same g x u.tasks u in
    record {
      clears = omega (arith, ap (λ k. k.clears) v, s);
      entries = λ e. ap entries v ∙ ap entries (drops-other x u.tasks u (none e));
    }
