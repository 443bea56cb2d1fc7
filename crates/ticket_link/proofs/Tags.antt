-- No move gives a live ticket the tag of another one.
use Rattle.std.proofs.Common.{◌≡◌, ◌≢◌, ℕ, Bool, true, false, refl, ap, sym, ◌∙◌, subst, ◌⊎◌, inl, inr, nat_eq}
use Rattle.std.proofs.lemmas.Option.{same_Some}
use Rattle.unit_law.specs.Log.{View, with_at, tally}
use Rattle.unit_law.proofs.Views.{with_at-same, with_at-other, same_or_not}
use Rattle.target_law.specs.declared.task_phase.Completion.{Completion}
use Rattle.target_law.specs.declared.task_phase.Completion.TheVariants.{Answered as HasAnswered, Refused}
use Rattle.target_law.specs.declared.task_phase.TaskPhase.{TaskPhase}
use Rattle.target_law.specs.declared.task_phase.TaskPhase.TheVariants.{ToChoose, MessageOut, DataIn, DataOut, Status, MessageIn}
use Rattle.target_law.specs.Session.{Task, Session}
use Rattle.target_law.specs.Bytes.{Connection}
use Rattle.target_law.specs.Target.{TaskConnected, Target, session}
use Rattle.ticket_fate.specs.Tickets.{Plan, unit_of, Life, Unbuilt, Asks, Selected, is_live, Ticket, ticket_sent, ticket_asked, view_for}
use Rattle.ticket_fate.specs.Linked.{IsPlan, UnitKept, ResetCause, ByBus, ByDevice, lost_life, reset_ticket, log_of}
use Rattle.ticket_fate.specs.Moves.{CompletesTicket, parts_ticket, TicketMove, builds, links, queues, requeues, selects, times_out, cancels, takes_again, takes_refused, takes, takes_checked, asks, ask_selects, takes_sense, sweeps_asking, selects_rogue, rogue_moves, ends_rogue, sweeps, unlinks, frees, target_of, Moves, alone, points, marks, relinks, acts, sends, receives, hears, listens, leaves_bus, completes, drops_task, reselects, begins, ask_sends, ask_completes, ask_begins, resets_idle, resets_work, resets_asking}
use Rattle.ticket_fate.specs.Kept.{AllKept}
use Rattle.ticket_fate.specs.Histories.{Run, none, more}
use Rattle.ticket_fate.specs.Laws.{Opens}
use Rattle.ticket_fate.proofs.TaskLists.{away-at}
use Rattle.ticket_fate.proofs.Recorded.{at-work}
use Rattle.ticket_fate.proofs.Reached.{kept-by, opens-kept}
use Rattle.ticket_link.specs.Tags.{TagsApart, IsBuild, TakesFreeTag, TakeFreeTags}
use Rattle.ticket_link.specs.Laws.{TagsNameOne}

-- it keeps its tag, and doesn't come to live
abbrev pub TagKept : Ticket → Ticket → Type 0
TagKept k j = (j.tag ≡ k.tag) × (is_live j.life ≡ true → is_live k.life ≡ true)

alone-tag : (g : Plan) (x : ℕ) (v : View) (k j : Ticket) → TicketMove g x v k j → TagKept k j ⊎ (k.life ≡ Unbuilt)
alone-tag g x v k j (builds tag e) = inr e
alone-tag g x v k j (links e) = inl (refl, λ l. ap is_live e)
alone-tag g x v k j (queues e) = inl (refl, λ l. ap is_live e)
alone-tag g x v k j (requeues e) = inl (refl, λ l. ap is_live e)
alone-tag g x v k j (selects e f r) = inl (refl, λ l. ap is_live e)
alone-tag g x v k j (times_out e f) = inl (refl, λ l. ap is_live e)
alone-tag g x v k j (cancels e f) = inl (refl, λ l. ap is_live e)
alone-tag g x v k j (takes_again st e f) = inl (refl, λ l. ap is_live e)
alone-tag g x v k j (takes_refused st e f) = inl (refl, λ l. ap is_live e)
alone-tag g x v k j (takes o e n) = inl (refl, λ l. ap is_live e)
alone-tag g x v k j (takes_checked e a) = inl (refl, λ l. ap is_live e)
alone-tag g x v k j (asks area e s) = inl (refl, λ l. ap is_live e)
alone-tag g x v k j (ask_selects e) = inl (refl, λ l. ap is_live e)
alone-tag g x v k j (takes_sense e) = inl (refl, λ l. ap is_live e)
alone-tag g x v k j (sweeps_asking e) = inl (refl, λ l. ap is_live e)
alone-tag g x v k j (selects_rogue e r) = inl (refl, λ l. ap is_live e)
alone-tag g x v k j (rogue_moves status lastp savep tries buffer area e) = inl (refl, λ l. ap is_live e)
alone-tag g x v k j (ends_rogue o e) = inl (refl, λ l. ap is_live e)
alone-tag g x v k j (sweeps e) = inl (refl, λ l. ap is_live e)
alone-tag g x v k j (unlinks o e) = inl (refl, λ l. ap is_live e)
alone-tag g x v k j (frees o e) = inl (refl, λ l. ap is_live e)

completed-tag : (v : Completion) (g : Plan) (t : ℕ) (k : Ticket) (s : Session) (j : Ticket) → CompletesTicket v g t k s j → j.tag ≡ k.tag
completed-tag (HasAnswered st) g t k s j z = ap (λ y. y.tag) z.2
completed-tag (Refused st) g t k s j z = ap (λ y. y.tag) z.1

sent-tag : (sh : TaskPhase) (at b : ℕ) (k : Ticket) (x : Task) → (ticket_sent sh at b k x).tag ≡ k.tag
sent-tag ToChoose at b k x = refl
sent-tag MessageOut at b k x = refl
sent-tag (DataIn n) at b k x = refl
sent-tag (DataOut n) at b k x = refl
sent-tag (Status v) at b k x = refl
sent-tag (MessageIn n s) at b k x = refl

asked-tag : (sh : TaskPhase) (at b : ℕ) (k : Ticket) (x : Task) → (ticket_asked sh at b k x).tag ≡ k.tag
asked-tag ToChoose at b k x = refl
asked-tag MessageOut at b k x = refl
asked-tag (DataIn n) at b k x = refl
asked-tag (DataOut n) at b k x = refl
asked-tag (Status v) at b k x = refl
asked-tag (MessageIn n s) at b k x = refl

live-lost : (b : ResetCause) (l : Life) → is_live (lost_life b l) ≡ true → is_live l ≡ true
live-lost ByBus Asks e = refl
live-lost ByDevice Asks e = refl
live-lost b Unbuilt e = e
live-lost b Selected e = refl
live-lost b _ e = e

reset-tag : (r : Bool) (b : ResetCause) (ends : ℕ) (k : Ticket) → TagKept k (reset_ticket r b ends k)
reset-tag true b ends k = (refl, live-lost b k.life)
reset-tag false b ends k = (refl, λ l. l)

both : (k j z : Ticket) → TagKept k j → TagKept j z → TagKept k z
both k j z f e = (e.0 ∙ f.0, λ l. f.1 (e.1 l))

module _ (g : Plan) (ks : ℕ → Ticket) where
  one : (y : ℕ) (k : Ticket) → TagKept (ks y) k → (x : ℕ) → TagKept (ks x) (with_at ks y k x)
  one y k f x = by (same_or_not x y)
    where
      by : (x ≡ y) ⊎ (x ≢ y) → TagKept (ks x) (with_at ks y k x)
      by (inl q) = subst (λ z. TagKept (ks x) z) (sym (ap (with_at ks y k) q ∙ with_at-same ks y k)) (subst (λ z. TagKept (ks z) k) (sym q) f)
      by (inr d) = subst (λ z. TagKept (ks x) z) (sym (with_at-other ks y k x d)) (refl, λ l. l)

  all-kept : (ns : ℕ → Ticket) → ((x : ℕ) → TagKept (ks x) (ns x)) → TagsApart g ks → TagsApart g ns
  all-kept ns f h = λ x y u a b t. h x y u ((f x).1 a) ((f y).1 b) (sym (f x).0 ∙ t ∙ (f y).0)

  built : (x : ℕ) (k : Ticket) → ((y : ℕ) → unit_of g y ≡ unit_of g x → is_live (ks y).life ≡ true → (ks y).tag ≡ k.tag → ⊥) → TagsApart g ks → TagsApart g (with_at ks x k)
  built x k free h = λ a b u la lb t. by a b u la lb t (same_or_not a x) (same_or_not b x)
    where
      other : (y : ℕ) → y ≢ x → is_live (with_at ks x k y).life ≡ true → is_live (ks y).life ≡ true
      other y d l = ap (λ z. is_live z.life) (sym (with_at-other ks x k y d)) ∙ l

      by : (a b : ℕ) → unit_of g a ≡ unit_of g b → is_live (with_at ks x k a).life ≡ true → is_live (with_at ks x k b).life ≡ true → (with_at ks x k a).tag ≡ (with_at ks x k b).tag → (a ≡ x) ⊎ (a ≢ x) → (b ≡ x) ⊎ (b ≢ x) → a ≡ b
      by a b u la lb t (inl p) (inl q) = p ∙ sym q
      by a b u la lb t (inl p) (inr d) =
          absurd (free b (sym u ∙ ap (unit_of g) p) (other b d lb) (ap (λ z. z.tag) (sym (with_at-other ks x k b d)) ∙ sym t ∙ ap (λ z. z.tag) (ap (with_at ks x k) p ∙ with_at-same ks x k)))
      by a b u la lb t (inr d) (inl q) =
          absurd (free a (u ∙ ap (unit_of g) q) (other a d la) (ap (λ z. z.tag) (sym (with_at-other ks x k a d)) ∙ t ∙ ap (λ z. z.tag) (ap (with_at ks x k) q ∙ with_at-same ks x k)))
      by a b u la lb t (inr d) (inr e) =
          h a b u (other a d la) (other b e lb) (ap (λ z. z.tag) (sym (with_at-other ks x k a d)) ∙ t ∙ ap (λ z. z.tag) (with_at-other ks x k b e))

module _ (g : Plan) (count : ℕ) (plan : IsPlan g count) (ks : ℕ → Ticket) (ts : ℕ → Target) (h : AllKept g count ks ts) where
  -- the ticket of a connected task
  called : (i : ℕ) (c : Connection) (k : Ticket) → (ts i).link ≡ TaskConnected c → k.tag ≡ (ks c.task.ticket).tag → (x : ℕ) → TagKept (ks x) (with_at ks c.task.ticket k x)
  called i c k w e = one g ks c.task.ticket k (e, λ l. at-work g count plan ks ts h 0 i c w)

  -- a move builds a ticket, or each ticket keeps its tag and none comes to live
  pub tags-kept : (ns : ℕ → Ticket) (us : ℕ → Target) (m : Moves g count ks ts ns us) → ((x : ℕ) → TagKept (ks x) (ns x)) ⊎ IsBuild m
  tags-kept ns us (alone x k u there m) = by (alone-tag g x (view_for g x u.log) (ks x) k m)
    where
      by : TagKept (ks x) k ⊎ ((ks x).life ≡ Unbuilt) → ((y : ℕ) → TagKept (ks y) (with_at ks x k y)) ⊎ ((ks x).life ≡ Unbuilt)
      by (inl f) = inl (one g ks x k f)
      by (inr e) = inr e
  tags-kept ns us (points y lastp savep e) = inl (one g ks y _ (refl, λ l. l))
  tags-kept ns us (marks y can) = inl (one g ks y _ (refl, λ l. l))
  tags-kept ns us (relinks i l e f may) = inl (λ x. (refl, λ l. l))
  tags-kept ns us (acts i c u m w there e can) = inl (called i c _ w refl)
  tags-kept ns us (sends i c at b w plain e byte) = inl (called i c _ w (sent-tag c.shows at b (ks c.task.ticket) _))
  tags-kept ns us (receives i c n at b w plain e f byte) = inl (called i c _ w refl)
  tags-kept ns us (hears i c n s w plain e d f) = inl (called i c _ w refl)
  tags-kept ns us (listens i c bytes w plain) = inl (called i c _ w refl)
  tags-kept ns us (leaves_bus i c u w plain there e) = inl (called i c _ w refl)
  tags-kept ns us (completes i c u v s k w plain there e z) = inl (called i c k w (completed-tag v g c.task.ticket (ks c.task.ticket) (session u c) k z))
  tags-kept ns us (drops_task i c u w plain there e) = inl (called i c _ w refl)
  tags-kept ns us (reselects n m u k less idle there e) =
      let old = (h.each (g.units n).target).units n less refl in
      let unit : UnitKept g n ks u = subst (UnitKept g n ks) (same_Some old.0 u (sym old.1 ∙ there)) old.2 in
      inl (one g ks k.ticket _ (refl, λ l. ap is_live (away-at g n ks m u.tasks k unit.lists.tasks e).life))
  tags-kept ns us (begins y n u idle there lun tag life others) = inl (one g ks y _ (refl, λ l. ap is_live life))
  tags-kept ns us (ask_sends i c at b w sense e byte) = inl (called i c _ w (asked-tag c.shows at b (ks c.task.ticket) _))
  tags-kept ns us (ask_completes i c u v s w sense there e) = inl (called i c _ w refl)
  tags-kept ns us (ask_begins y n u idle there lun tag life others) = inl (one g ks y _ (refl, λ l. ap is_live life))
  tags-kept ns us (resets_idle i b idle can) = inl (λ x. reset-tag (nat_eq (target_of g x) i) b (tally x (log_of g (ts i) x)).ends (ks x))
  tags-kept ns us (resets_work i b c u w plain there can) =
      inl (λ x. both (ks x) (with_at ks c.task.ticket (parts_ticket ks c) x) (ns x) (called i c (parts_ticket ks c) w refl x) (reset-tag (nat_eq (target_of g x) i) b (tally x (log_of g (ts i) x)).ends (with_at ks c.task.ticket (parts_ticket ks c) x)))
  tags-kept ns us (resets_asking i c u w sense there) = inl (λ x. reset-tag (nat_eq (target_of g x) i) ByBus (tally x (log_of g (ts i) x)).ends (ks x))

  built-apart : (ns : ℕ → Ticket) (us : ℕ → Target) (m : Moves g count ks ts ns us) → IsBuild m → TakesFreeTag m → TagsApart g ks → TagsApart g ns
  built-apart ns us (alone x k u there m) e free a = built g ks x k (free e) a
  built-apart ns us m e free a = absurd e

  pub apart-kept : (ns : ℕ → Ticket) (us : ℕ → Target) (m : Moves g count ks ts ns us) → TakesFreeTag m → TagsApart g ks → TagsApart g ns
  apart-kept ns us m free a = by (tags-kept ns us m)
    where
      by : ((x : ℕ) → TagKept (ks x) (ns x)) ⊎ IsBuild m → TagsApart g ns
      by (inl f) = all-kept g ks ns f a
      by (inr e) = built-apart ns us m e free a

run-apart : (g : Plan) (count : ℕ) → IsPlan g count → (ks : ℕ → Ticket) (ts : ℕ → Target) → Opens g count ks ts → (ns : ℕ → Ticket) (us : ℕ → Target) (r : Run g count ks ts ns us) → TakeFreeTags r → TagsApart g ns
run-apart g count plan ks ts o ns us none f = λ x y u a b t. absurd (unlive (ks x).life (o.unbuilt x) a)
  where
    unlive : (l : Life) → l ≡ Unbuilt → is_live l ≡ true → ⊥
    unlive l e f = let z : false ≡ true = sym (ap is_live e) ∙ f in cc
run-apart g count plan ks ts o ns us (more {ms = ms} {us = vs} r m) f =
    apart-kept g count plan ms vs (kept-by g count plan ks ts (opens-kept g count ks ts o) ms vs r) ns us m f.1 (run-apart g count plan ks ts o ms vs r f.0)

pub tags-name-one : TagsNameOne
tags-name-one g count ns us r f = run-apart g count r.plan r.from.0 r.from.1 r.from.2 ns us r.from.3 f
