-- A ticket that waits to be selected waits over every move but its own steps.
use Rattle.std.proofs.Common.{◌≡◌, ◌≢◌, ◌⊎◌, inl, inr, ℕ, Bool, true, false, refl, sym, ap, subst, ◌∙◌}
use Rattle.std.proofs.lemmas.Option.{same_Some}
use Rattle.unit_law.specs.Log.{with_at}
use Rattle.unit_law.proofs.Views.{with_at-same, with_at-other, same_or_not}
use Rattle.target_law.specs.Bytes.{Connection}
use Rattle.target_law.specs.Target.{ConnectionState, TaskConnected, Target}
use Rattle.ticket_fate.specs.Kept.{AllKept}
use Rattle.ticket_fate.specs.Linked.{UnitKept, WorkKept, LinkKept, ResetCause, lost_life, reset_ticket}
use Rattle.ticket_fate.specs.Moves as move
use Rattle.ticket_fate.specs.Moves.{Moves, parts_ticket, marked_ticket}
use Rattle.ticket_fate.specs.Tickets.{Plan, Life, Waits, Selected, Connected, Away, AskStarts, AskConnected, Ticket}
use Rattle.ticket_fate.proofs.Reached.{all-kept}
use Rattle.ticket_fate.proofs.TaskLists.{away-at}
use Rattle.chip_needs.specs.WaitingTickets.{IsStepOf, WaitingTicketsStay}

module _ (p : Plan) (count : ℕ) (ks : ℕ → Ticket) (ts : ℕ → Target) (h : AllKept p count ks ts) (x : ℕ) (e : (ks x).life ≡ Waits) where
  abbrev Keeps : Ticket → Type 0
  Keeps k = k.life ≡ Waits

  -- another ticket changes, or this one
  changed : (y : ℕ) (k : Ticket) → (y ≡ x → Keeps k) → Keeps (with_at ks y k x)
  changed y k f = by (same_or_not x y)
    where
      by : (x ≡ y) ⊎ (x ≢ y) → Keeps (with_at ks y k x)
      by (inl q) = subst Keeps (sym (ap (with_at ks y k) q ∙ with_at-same ks y k)) (f (sym q))
      by (inr n) = subst Keeps (sym (with_at-other ks y k x n)) e

  -- a ticket that doesn't wait
  busy : (y : ℕ) (k : Ticket) (l : Life) → (ks y).life ≡ l → (l ≡ Waits → ⊥) → Keeps (with_at ks y k x)
  busy y k l q n = changed y k (λ z. absurd (n (sym q ∙ ap (λ (i : ℕ). (ks i).life) z ∙ e)))

  -- that of a connected task
  work-life : (i : ℕ) (c : Connection) → (ts i).link ≡ TaskConnected c → ((ks c.task.ticket).life ≡ Connected) ⊎ ((ks c.task.ticket).life ≡ AskConnected)
  work-life i c w = by c.task.senses (subst (λ (l : ConnectionState). LinkKept l p i ks (ts i)) w (h.each i).link)
    where
      by : (b : Bool) → WorkKept b p i ks (ts i) c → ((ks c.task.ticket).life ≡ Connected) ⊎ ((ks c.task.ticket).life ≡ AskConnected)
      by false k = inl k.life
      by true k = inr k.life

  connected : (i : ℕ) (c : Connection) (k : Ticket) → (ts i).link ≡ TaskConnected c → Keeps (with_at ks c.task.ticket k x)
  connected i c k w = elim (work-life i c w) [ inl q ↦ busy c.task.ticket k Connected q (λ z. cc) | inr q ↦ busy c.task.ticket k AskConnected q (λ z. cc) ]

  -- a reset of a target
  reset-keeps : (f : Bool) (b : ResetCause) (ends : ℕ) (k : Ticket) → Keeps k → Keeps (reset_ticket f b ends k)
  reset-keeps false b ends k q = q
  reset-keeps true b ends k q = ap (lost_life b) q

  -- or the move is its own
  pub move-keeps : (ns : ℕ → Ticket) (us : ℕ → Target) → (m : Moves p count ks ts ns us) → ((ns x).life ≡ Waits) ⊎ IsStepOf x m
  move-keeps ns us (move.alone y k u there m) = by (same_or_not x y)
    where
      by : (x ≡ y) ⊎ (x ≢ y) → (Keeps (with_at ks y k x)) ⊎ (y ≡ x)
      by (inl q) = inr (sym q)
      by (inr n) = inl (subst Keeps (sym (with_at-other ks y k x n)) e)
  move-keeps ns us (move.points y lastp savep q) = inl (busy y _ Connected q (λ z. cc))
  move-keeps ns us (move.marks y can) = inl (changed y (marked_ticket (ks y)) (λ z. ap (λ (i : ℕ). (ks i).life) z ∙ e))
  move-keeps ns us (move.relinks i l a b c) = inl e
  move-keeps ns us (move.acts i c u m w there shows can) = inl (connected i c _ w)
  move-keeps ns us (move.sends i c at b w free q byte) = inl (connected i c _ w)
  move-keeps ns us (move.receives i c n at b w free q f byte) = inl (connected i c _ w)
  move-keeps ns us (move.hears i c n s w free q d f) = inl (connected i c _ w)
  move-keeps ns us (move.listens i c heard w free) = inl (connected i c _ w)
  move-keeps ns us (move.leaves_bus i c u w free there q) = inl (connected i c _ w)
  move-keeps ns us (move.completes i c u v s k w free there q z) = inl (connected i c k w)
  move-keeps ns us (move.drops_task i c u w free there q) = inl (connected i c _ w)
  move-keeps ns us (move.reselects n m u k less idle there q) =
      let old = (h.each (p.units n).target).units n less refl in
      let same : old.0 ≡ u = same_Some old.0 u (sym old.1 ∙ there) in
      let unit : UnitKept p n ks u = subst (UnitKept p n ks) same old.2 in
      inl (busy k.ticket _ Away (away-at p n ks m u.tasks k unit.lists.tasks q).life (λ z. cc))
  move-keeps ns us (move.begins y n u idle there lun tag life others) = inl (busy y _ Selected life (λ z. cc))
  move-keeps ns us (move.ask_sends i c at b w free q byte) = inl (connected i c _ w)
  move-keeps ns us (move.ask_completes i c u v s w free there q) = inl (connected i c _ w)
  move-keeps ns us (move.ask_begins y n u idle there lun tag life others) = inl (busy y _ AskStarts life (λ z. cc))
  move-keeps ns us (move.resets_idle i b idle can) = inl (reset-keeps _ b _ (ks x) e)
  move-keeps ns us (move.resets_work i b c u w free there can) = inl (reset-keeps _ b _ (with_at ks c.task.ticket (parts_ticket ks c) x) (connected i c _ w))
  move-keeps ns us (move.resets_asking i c u w free there) = inl (reset-keeps _ _ _ (ks x) e)

pub waiting-tickets-stay : WaitingTicketsStay
waiting-tickets-stay p count ks ts ns us r m x e = move-keeps p count ks ts (all-kept p count ks ts r) x e ns us m
