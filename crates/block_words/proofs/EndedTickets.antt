-- No move changes what the report of a ticket with an outcome says.
use Rattle.std.proofs.Common.{◌≡◌, ◌≢◌, ◌⊎◌, inl, inr, ℕ, Bool, true, false, refl, sym, ap, subst, ◌∙◌}
use Rattle.std.proofs.lemmas.Option.{same_Some}
use Rattle.rig_types.specs.declared.report.Outcome.{Outcome}
use Rattle.unit_law.specs.Log.{View, with_at}
use Rattle.unit_law.proofs.Views.{with_at-same, with_at-other, same_or_not}
use Rattle.target_law.specs.Bytes.{Connection}
use Rattle.target_law.specs.Target.{ConnectionState, TaskConnected, Target}
use Rattle.ticket_fate.specs.Kept.{AllKept}
use Rattle.ticket_fate.specs.Linked.{UnitKept, WorkKept, LinkKept, ResetCause, lost_life, reset_ticket}
use Rattle.ticket_fate.specs.Moves as move
use Rattle.ticket_fate.specs.Moves.{TicketMove, Moves, CanMark, target_of, parts_ticket}
use Rattle.ticket_fate.specs.Histories.{Run, none, more}
use Rattle.ticket_fate.specs.Linked.{IsPlan}
use Rattle.ticket_fate.specs.Tickets.{Plan, Life, Selected, Connected, Away, AskStarts, AskConnected, Ended, Unlinked, Freed, Ticket}
use Rattle.ticket_fate.proofs.Reached.{all-kept, kept-by}
use Rattle.ticket_fate.proofs.TaskLists.{away-at}
use Rattle.block_words.specs.EndedReports.{HasCome, KeepsReport, EndedTicketsStay}

-- it is as it was
pub as-was : (o : Outcome) (k : Ticket) → HasCome o k.life → KeepsReport o k k
as-was o k e = record { come = e; freed = λ f. f; status = refl; lastp = refl; tries = refl; buffer = refl; sense = refl }

pub then-keeps : (o : Outcome) (i j k : Ticket) → KeepsReport o i j → KeepsReport o j k → KeepsReport o i k
then-keeps o i j k a b = record {
  come = b.come;
  freed = λ f. b.freed (a.freed f);
  status = b.status ∙ a.status;
  lastp = b.lastp ∙ a.lastp;
  tries = b.tries ∙ a.tries;
  buffer = b.buffer ∙ a.buffer;
  sense = b.sense ∙ a.sense;
}

no-mark : (o : Outcome) (l : Life) → HasCome o l → CanMark l → ⊥
no-mark o (Ended q) e c = c
no-mark o (Unlinked q) e c = c
no-mark o (Freed q) e c = c
no-mark o l e c = absurd e

lost-come : (o : Outcome) (b : ResetCause) (l : Life) → HasCome o l → lost_life b l ≡ l
lost-come o b (Ended q) e = refl
lost-come o b (Unlinked q) e = refl
lost-come o b (Freed q) e = refl
lost-come o b l e = absurd e

-- ---- a step of the ticket by itself: Unlink and Free alone

ticket-keeps : (o : Outcome) (p : Plan) (x : ℕ) (v : View) (k j : Ticket) → TicketMove p x v k j → HasCome o k.life → KeepsReport o k j
ticket-keeps o p x v k j (move.builds tag q) e = absurd (subst (HasCome o) q e)
ticket-keeps o p x v k j (move.links q) e = absurd (subst (HasCome o) q e)
ticket-keeps o p x v k j (move.queues q) e = absurd (subst (HasCome o) q e)
ticket-keeps o p x v k j (move.requeues q) e = absurd (subst (HasCome o) q e)
ticket-keeps o p x v k j (move.selects q a r) e = absurd (subst (HasCome o) q e)
ticket-keeps o p x v k j (move.times_out q a) e = absurd (subst (HasCome o) q e)
ticket-keeps o p x v k j (move.cancels q m) e = absurd (subst (HasCome o) q e)
ticket-keeps o p x v k j (move.takes_again st q l) e = absurd (subst (HasCome o) q e)
ticket-keeps o p x v k j (move.takes_refused st q l) e = absurd (subst (HasCome o) q e)
ticket-keeps o p x v k j (move.takes r q n) e = absurd (subst (HasCome o) q e)
ticket-keeps o p x v k j (move.takes_checked q a) e = absurd (subst (HasCome o) q e)
ticket-keeps o p x v k j (move.asks area q l) e = absurd (subst (HasCome o) q e)
ticket-keeps o p x v k j (move.ask_selects q) e = absurd (subst (HasCome o) q e)
ticket-keeps o p x v k j (move.takes_sense q) e = absurd (subst (HasCome o) q e)
ticket-keeps o p x v k j (move.sweeps_asking q) e = absurd (subst (HasCome o) q e)
ticket-keeps o p x v k j (move.selects_rogue q r) e = absurd (subst (HasCome o) q e)
ticket-keeps o p x v k j (move.rogue_moves status lastp savep tries buffer area q) e = absurd (subst (HasCome o) q e)
ticket-keeps o p x v k j (move.ends_rogue r q) e = absurd (subst (HasCome o) q e)
ticket-keeps o p x v k j (move.sweeps q) e = absurd (subst (HasCome o) q e)
ticket-keeps o p x v k j (move.unlinks r q) e = record {
  come = subst (HasCome o) q e;
  freed = λ f. (let z : Ended r ≡ Freed o = sym q ∙ f in absurd cc);
  status = refl;
  lastp = refl;
  tries = refl;
  buffer = refl;
  sense = refl;
}
ticket-keeps o p x v k j (move.frees r q) e = record {
  come = subst (HasCome o) q e;
  freed = λ f. (let z : Unlinked r ≡ Freed o = sym q ∙ f in absurd cc);
  status = refl;
  lastp = refl;
  tries = refl;
  buffer = refl;
  sense = refl;
}

module _ (p : Plan) (count : ℕ) (ks : ℕ → Ticket) (ts : ℕ → Target) (h : AllKept p count ks ts) (x : ℕ) (o : Outcome) (e : HasCome o (ks x).life) where
  abbrev Keeps : Ticket → Type 0
  Keeps j = KeepsReport o (ks x) j

  miss : (l : Life) → (ks x).life ≡ l → (HasCome o l → ⊥) → ⊥
  miss l q n = n (subst (HasCome o) q e)

  -- another ticket changes, or this one
  changed : (y : ℕ) (k : Ticket) → (y ≡ x → Keeps k) → Keeps (with_at ks y k x)
  changed y k f = by (same_or_not x y)
    where
      by : (x ≡ y) ⊎ (x ≢ y) → Keeps (with_at ks y k x)
      by (inl q) = subst Keeps (sym (ap (with_at ks y k) q ∙ with_at-same ks y k)) (f (sym q))
      by (inr n) = subst Keeps (sym (with_at-other ks y k x n)) (as-was o (ks x) e)

  -- a ticket whose life has no outcome
  busy : (y : ℕ) (k : Ticket) (l : Life) → (ks y).life ≡ l → (HasCome o l → ⊥) → Keeps (with_at ks y k x)
  busy y k l q n = changed y k (λ z. absurd (miss l (ap (λ i. (ks i).life) (sym z) ∙ q) n))

  -- that of a connected task
  work-life : (i : ℕ) (c : Connection) → (ts i).link ≡ TaskConnected c → ((ks c.task.ticket).life ≡ Connected) ⊎ ((ks c.task.ticket).life ≡ AskConnected)
  work-life i c w = by c.task.senses (subst (λ (l : ConnectionState). LinkKept l p i ks (ts i)) w (h.each i).link)
    where
      by : (b : Bool) → WorkKept b p i ks (ts i) c → ((ks c.task.ticket).life ≡ Connected) ⊎ ((ks c.task.ticket).life ≡ AskConnected)
      by false k = inl k.life
      by true k = inr k.life

  connected : (i : ℕ) (c : Connection) (k : Ticket) → (ts i).link ≡ TaskConnected c → Keeps (with_at ks c.task.ticket k x)
  connected i c k w = elim (work-life i c w) [ inl q ↦ busy c.task.ticket k Connected q (λ z. z) | inr q ↦ busy c.task.ticket k AskConnected q (λ z. z) ]

  -- a reset of a target
  reset-keeps : (f : Bool) (b : ResetCause) (ends : ℕ) (k : Ticket) → Keeps k → Keeps (reset_ticket f b ends k)
  reset-keeps false b ends k q = q
  reset-keeps true b ends k q =
      let s = lost-come o b k.life q.come in
      record {
        come = subst (HasCome o) (sym s) q.come;
        freed = λ f. s ∙ q.freed f;
        status = q.status;
        lastp = q.lastp;
        tries = q.tries;
        buffer = q.buffer;
        sense = q.sense;
      }

  pub move-keeps : (ns : ℕ → Ticket) (us : ℕ → Target) → Moves p count ks ts ns us → Keeps (ns x)
  move-keeps ns us (move.alone y k u there m) = changed y k (λ z. subst (λ i. KeepsReport o (ks i) k) z (ticket-keeps o p y _ (ks y) k m (subst (λ i. HasCome o (ks i).life) (sym z) e)))
  move-keeps ns us (move.points y lastp savep q) = busy y _ Connected q (λ z. z)
  move-keeps ns us (move.marks y can) = changed y _ (λ z. absurd (no-mark o (ks x).life e (subst (λ i. CanMark (ks i).life) z can)))
  move-keeps ns us (move.relinks i l a b c) = as-was o (ks x) e
  move-keeps ns us (move.acts i c u m w there shows can) = connected i c _ w
  move-keeps ns us (move.sends i c at b w free q byte) = connected i c _ w
  move-keeps ns us (move.receives i c n at b w free q f byte) = connected i c _ w
  move-keeps ns us (move.hears i c n s w free q d f) = connected i c _ w
  move-keeps ns us (move.listens i c heard w free) = connected i c _ w
  move-keeps ns us (move.leaves_bus i c u w free there q) = connected i c _ w
  move-keeps ns us (move.completes i c u v s k w free there q z) = connected i c k w
  move-keeps ns us (move.drops_task i c u w free there q) = connected i c _ w
  move-keeps ns us (move.reselects n m u k less idle there q) =
      let old = (h.each (p.units n).target).units n less refl in
      let same : old.0 ≡ u = same_Some old.0 u (sym old.1 ∙ there) in
      let unit : UnitKept p n ks u = subst (UnitKept p n ks) same old.2 in
      busy k.ticket _ Away (away-at p n ks m u.tasks k unit.lists.tasks q).life (λ z. z)
  move-keeps ns us (move.begins y n u idle there lun tag life others) = busy y _ Selected life (λ z. z)
  move-keeps ns us (move.ask_sends i c at b w free q byte) = connected i c _ w
  move-keeps ns us (move.ask_completes i c u v s w free there q) = connected i c _ w
  move-keeps ns us (move.ask_begins y n u idle there lun tag life others) = busy y _ AskStarts life (λ z. z)
  move-keeps ns us (move.resets_idle i b idle can) = reset-keeps _ b _ (ks x) (as-was o (ks x) e)
  move-keeps ns us (move.resets_work i b c u w free there can) = reset-keeps _ b _ (with_at ks c.task.ticket (parts_ticket ks c) x) (connected i c _ w)
  move-keeps ns us (move.resets_asking i c u w free there) = reset-keeps _ _ _ (ks x) (as-was o (ks x) e)

-- over a list of moves
pub run-keeps : (p : Plan) (count : ℕ) → IsPlan p count → (ks : ℕ → Ticket) (ts : ℕ → Target) → AllKept p count ks ts → (x : ℕ) (o : Outcome) → HasCome o (ks x).life → (ns : ℕ → Ticket) (us : ℕ → Target) → Run p count ks ts ns us → KeepsReport o (ks x) (ns x)
run-keeps p count plan ks ts h x o e ns us none = as-was o (ks x) e
run-keeps p count plan ks ts h x o e ns us (more {ms = ms} {us = vs} r m) =
    let a = run-keeps p count plan ks ts h x o e ms vs r in
    then-keeps o (ks x) (ms x) (ns x) a (move-keeps p count ms vs (kept-by p count plan ks ts h ms vs r) x o a.come ns us m)

pub ended-tickets-stay : EndedTicketsStay
ended-tickets-stay p count ks ts ns us r m x o e = move-keeps p count ks ts (all-kept p count ks ts r) x o e ns us m
