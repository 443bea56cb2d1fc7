-- A move leaves every target but one, and the tickets of every other target.
use Rattle.std.proofs.Common.{◌≡◌, ◌≢◌, ℕ, Bool, true, false, refl, ap, sym, ◌∙◌, subst}
use Rattle.std.proofs.lemmas.Option.{same_Some}
use Rattle.unit_law.specs.Log.{with_at, tally}
use Rattle.unit_law.proofs.Views.{with_at-other, ne-test}
use Rattle.target_law.specs.Bytes.{Connection}
use Rattle.target_law.specs.Target.{TaskConnected, Target}
use Rattle.ticket_fate.specs.Tickets.{Plan, Ticket}
use Rattle.ticket_fate.specs.Linked.{UnitKept, WorkKept, LinkKept, ResetCause, ByBus, reset_ticket, reset_tickets, log_of}
use Rattle.ticket_fate.specs.Moves.{parts_ticket, target_of, Moves, alone, points, marks, relinks, acts, sends, receives, hears, listens, leaves_bus, completes, drops_task, reselects, begins, ask_sends, ask_completes, ask_begins, resets_idle, resets_work, resets_asking}
use Rattle.ticket_fate.specs.Kept.{AllKept}
use Rattle.ticket_fate.proofs.TaskLists.{away-at}
use Rattle.ticket_fate.proofs.Reached.{all-kept}
use Rattle.ticket_link.specs.Laws.{LeavesOthers, OneTargetMoves}

module _ (g : Plan) (count : ℕ) (ks : ℕ → Ticket) (ts : ℕ → Target) (h : AllKept g count ks ts) where
  -- a ticket and its target change
  changes : (i y : ℕ) (k : Ticket) (t : Target) → target_of g y ≡ i → LeavesOthers g i ks ts (with_at ks y k) (with_at ts i t)
  changes i y k t e = record { targets = λ j d. with_at-other ts i t j d; tickets = λ x d. with_at-other ks y k x (λ q. d (ap (target_of g) q ∙ e)) }

  -- a ticket alone changes
  changes-ticket : (y : ℕ) (k : Ticket) → LeavesOthers g (target_of g y) ks ts (with_at ks y k) ts
  changes-ticket y k = record { targets = λ j d. refl; tickets = λ x d. with_at-other ks y k x (λ q. d (ap (target_of g) q)) }

  ticket-target : (i : ℕ) (c : Connection) → (ts i).link ≡ TaskConnected c → target_of g c.task.ticket ≡ i
  ticket-target i c w = by c.task.senses (subst (λ l. LinkKept l g i ks (ts i)) w (h.each i).link)
    where
      by : (b : Bool) → WorkKept b g i ks (ts i) c → target_of g c.task.ticket ≡ i
      by false w = w.target
      by true w = w.target

  calls : (i : ℕ) (c : Connection) (k : Ticket) (t : Target) → (ts i).link ≡ TaskConnected c → (j : ℕ) × LeavesOthers g j ks ts (with_at ks c.task.ticket k) (with_at ts i t)
  calls i c k t w = (i, changes i c.task.ticket k t (ticket-target i c w))

  unreset : (i : ℕ) (b : ResetCause) (ns : ℕ → Ticket) (x : ℕ) → target_of g x ≢ i → reset_tickets g i b (ts i) ns x ≡ ns x
  unreset i b ns x d = ap (λ r. reset_ticket r b (tally x (log_of g (ts i) x)).ends (ns x)) (ne-test (target_of g x) i d)

  moves-one : (ns : ℕ → Ticket) (us : ℕ → Target) → Moves g count ks ts ns us → (i : ℕ) × LeavesOthers g i ks ts ns us
  moves-one ns us (alone x k u there m) = (target_of g x, changes-ticket x k)
  moves-one ns us (points y lastp savep e) = (target_of g y, changes-ticket y _)
  moves-one ns us (marks y can) = (target_of g y, changes-ticket y _)
  moves-one ns us (relinks i l e f may) = (i, record { targets = λ j d. with_at-other ts i _ j d; tickets = λ x d. refl })
  moves-one ns us (acts i c u m w there e can) = calls i c _ _ w
  moves-one ns us (sends i c at b w plain e byte) = calls i c _ _ w
  moves-one ns us (receives i c n at b w plain e f byte) = calls i c _ _ w
  moves-one ns us (hears i c n s w plain e d f) = calls i c _ _ w
  moves-one ns us (listens i c bytes w plain) = calls i c _ _ w
  moves-one ns us (leaves_bus i c u w plain there e) = calls i c _ _ w
  moves-one ns us (completes i c u v s k w plain there e z) = calls i c k _ w
  moves-one ns us (drops_task i c u w plain there e) = calls i c _ _ w
  moves-one ns us (reselects n m u k less idle there e) =
      let old = (h.each (g.units n).target).units n less refl in
      let unit : UnitKept g n ks u = subst (UnitKept g n ks) (same_Some old.0 u (sym old.1 ∙ there)) old.2 in
      ((g.units n).target, changes (g.units n).target k.ticket _ _ (ap (λ z. (g.units z).target) (away-at g n ks m u.tasks k unit.lists.tasks e).unit))
  moves-one ns us (begins y n u idle there lun tag life others) = (target_of g y, changes (target_of g y) y _ _ refl)
  moves-one ns us (ask_sends i c at b w asks e byte) = calls i c _ _ w
  moves-one ns us (ask_completes i c u v s w asks there e) = calls i c _ _ w
  moves-one ns us (ask_begins y n u idle there lun tag life others) = (target_of g y, changes (target_of g y) y _ _ refl)
  moves-one ns us (resets_idle i b idle can) = (i, record { targets = λ j d. with_at-other ts i _ j d; tickets = λ x d. unreset i b ks x d })
  moves-one ns us (resets_work i b c u w plain there can) = (
    i,
    record {
      targets = λ j d. with_at-other ts i _ j d;
      tickets = λ x d. unreset i b (with_at ks c.task.ticket (parts_ticket ks c)) x d ∙ with_at-other ks c.task.ticket (parts_ticket ks c) x (λ q. d (ap (target_of g) q ∙ ticket-target i c w));
    },
  )
  moves-one ns us (resets_asking i c u w asks there) = (i, record { targets = λ j d. with_at-other ts i _ j d; tickets = λ x d. unreset i ByBus ks x d })

pub one-target-moves : OneTargetMoves
one-target-moves g count ks ts ns us r m = moves-one g count ks ts (all-kept g count ks ts r) ns us m
