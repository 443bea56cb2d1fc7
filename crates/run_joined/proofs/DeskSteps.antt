-- Each step of the driver on the desk is a step of its ticket.
use Rattle.std.proofs.Common.{◌≡◌, ◌≢◌, ℕ, suc, ◌+◌, ◌≤◌, ◌<◌, Bool, true, false, nat_lt, List, [], ◌∷◌, ◌++◌, length, length-append, slice_set, slice_index_or, replicate, refl, ap, arith, sym, ◌∙◌, subst, None, ◌⊎◌, inl, inr}
use Rattle.std.proofs.lemmas.Bool.Decides.{nat_tests}
use Rattle.std.proofs.lemmas.List.{length-set, get_or-set_same, get_or-set_other, get_or_append_left}
use Rattle.std.proofs.Math.Seq.{get_or-append_seam}
use Rattle.rig_types.specs.declared.report.Outcome.{Outcome}
use Rattle.rig_types.specs.declared.step.Line.{Line}
use Rattle.unit_law.specs.Log.{with_at}
use Rattle.unit_law.specs.Request.{RequestData}
use Rattle.unit_law.proofs.Views.{with_at-same, with_at-other, same_or_not}
use Rattle.logs_have_room.specs.Room.{entries}
use Rattle.desk_law.specs.declared.stage.Stage.TheVariants as stage
use Rattle.desk_law.specs.declared.ticket.Ticket.{Ticket as DeskTicket}
use Rattle.desk_law.specs.Desk.{DeskState, ticket, no_ticket}
use Rattle.desk_law.specs.Calls.{links, unlinks, queues, senses, Frees}
use Rattle.desk_law.specs.Building.{new_ticket, Builds}
use Rattle.ticket_fate.specs.Tickets.{Plan, Life, Unbuilt, Built, Linked, ToRequeue, Checked, AtRogue, Ended, Unlinked, Freed, Ticket, with_life, built_ticket, queued_ticket, asking_ticket, freed_ticket, rogue_ticket}
use Rattle.ticket_fate.specs.Moves as step
use Rattle.ticket_fate.specs.Histories.{progress_of}
use Rattle.run_joined.specs.DeskLives.{IsStage, outcome_of, IsCounted, IsKept, DeskJoined, StepsTo, DeskStepsMove}

-- ---- the life of a ticket in a stage
only-built : (l : Life) → IsStage l stage.Built → l ≡ Built
only-built Built e = refl
only-built AtRogue (inl e) = absurd cc
only-built AtRogue (inr e) = absurd cc
only-built l e = absurd cc

only-linked : (l : Life) → IsStage l stage.Linked → l ≡ Linked
only-linked Linked e = refl
only-linked AtRogue (inl e) = absurd cc
only-linked AtRogue (inr e) = absurd cc
only-linked l e = absurd cc

only-again : (l : Life) → IsStage l stage.Again → (l ≡ ToRequeue) ⊎ (l ≡ AtRogue)
only-again ToRequeue e = inl refl
only-again AtRogue e = inr refl
only-again l e = absurd cc

only-checked : (l : Life) → IsStage l stage.Check → l ≡ Checked
only-checked Checked e = refl
only-checked AtRogue (inl e) = absurd cc
only-checked AtRogue (inr e) = absurd cc
only-checked l e = absurd cc

only-ended : (l : Life) (o : Outcome) → IsStage l (stage.Ended o) → l ≡ Ended o
only-ended (Ended x) o e = let f : x ≡ o = cc in ap Ended f
only-ended AtRogue o (inl e) = absurd cc
only-ended AtRogue o (inr e) = absurd cc
only-ended l o e = absurd cc

only-unlinked : (l : Life) → IsStage l stage.Unlinked → (o : Outcome) × (l ≡ Unlinked o)
only-unlinked (Unlinked x) e = (x, refl)
only-unlinked AtRogue (inl e) = absurd cc
only-unlinked AtRogue (inr e) = absurd cc
only-unlinked l e = absurd cc

less : (a c : ℕ) → a < suc c → a ≢ c → a < c
less a c l d = by (nat_lt a c) refl
  where
    by : (b : Bool) → nat_lt a c ≡ b → a < c
    by true e = grind (arith, nat_tests)
    by false e = absurd (d (grind (arith, nat_tests)))

module _ (p : Plan) (d : DeskState) (ks : ℕ → Ticket) (j : DeskJoined p d ks) where
  -- one ticket of the desk is replaced
  pub replaced : (new : DeskState) (t : ℕ) (x : DeskTicket) (k : Ticket) → t < length d.tickets → new.tickets ≡ slice_set d.tickets t x → IsKept p t x k → DeskJoined p new (with_at ks t k)
  replaced new t x k l e h = record {
    unbuilt = λ y m. unbuilt-at y (omega (arith, m, size));
    each = λ y m. each-at y (omega (arith, m, size)) (same_or_not y t);
  }
    where
      size : length new.tickets ≡ length d.tickets
      size = ap length e ∙ length-set d.tickets t x

      unbuilt-at : (y : ℕ) → length d.tickets ≤ y → (with_at ks t k y).life ≡ Unbuilt
      unbuilt-at y m = ap (λ (z : Ticket). z.life) (with_at-other ks t k y (λ q. absurd (omega (arith, q, m, l)))) ∙ j.unbuilt y m

      each-at : (y : ℕ) → y < length d.tickets → (y ≡ t) ⊎ (y ≢ t) → IsKept p y (ticket new y) (with_at ks t k y)
      each-at y m (inl q) =
          let a : ticket new y ≡ x = ap (λ z. slice_index_or z y no_ticket) e ∙ ap (λ i. slice_index_or (slice_set d.tickets t x) i no_ticket) q ∙ get_or-set_same d.tickets t x no_ticket l in
          let b : with_at ks t k y ≡ k = ap (with_at ks t k) q ∙ with_at-same ks t k in
          subst (IsKept p y (ticket new y)) (sym b) (subst (λ z. IsKept p y z k) (sym a) (subst (λ i. IsKept p i x k) (sym q) h))
      each-at y m (inr q) =
          let a : ticket new y ≡ ticket d y = ap (λ z. slice_index_or z y no_ticket) e ∙ get_or-set_other d.tickets t y x no_ticket q in
          subst (IsKept p y (ticket new y)) (sym (with_at-other ks t k y q)) (subst (λ z. IsKept p y z (ks y)) (sym a) (j.each y m))

  module _ (t : ℕ) (l : t < length d.tickets) where
    k : Ticket
    k = ks t

    here : IsKept p t (ticket d t) (ks t)
    here = j.each t l

    counted-at : (a : Life) → (ks t).life ≡ a → IsCounted (progress_of a) (ks t).tries
    counted-at a e = subst (λ z. IsCounted (progress_of z) (ks t).tries) e here.counted_is

    link : (ticket d t).stage ≡ stage.Built → StepsTo p t ks (links d t)
    link e =
        let life = only-built (ks t).life (subst (IsStage (ks t).life) e here.stage_is) in
        record {
          to = λ v. with_life (ks t) Linked;
          step = λ v. step.links life;
          joined = λ v. replaced (links d t) t (record (ticket d t) { stage = stage.Linked }) (with_life (ks t) Linked) l refl (record {
            stage_is = refl;
            tag_is = here.tag_is;
            unit_is = here.unit_is;
            tries_are = here.tries_are;
            outcome_is = here.outcome_is ∙ ap outcome_of life;
            counted_is = counted-at Built life;
          });
        }

    -- the desk's ticket is queued once more
    queued-desk : (n : Ticket) → n.tag ≡ (ks t).tag → n.tries ≡ (ks t).tries + 1 → IsStage n.life stage.Queued → outcome_of n.life ≡ None → outcome_of (ks t).life ≡ None → IsCounted (progress_of n.life) n.tries → DeskJoined p (queues d t) (with_at ks t n)
    queued-desk n tag tries is none was counted =
        replaced (queues d t) t (record (ticket d t) { stage = stage.Queued; tries = (ticket d t).tries + 1 }) n l refl (record {
          stage_is = is;
          tag_is = here.tag_is ∙ sym tag;
          unit_is = here.unit_is;
          tries_are = ap (λ z. z + 1) here.tries_are ∙ sym tries;
          outcome_is = here.outcome_is ∙ was ∙ sym none;
          counted_is = counted;
        })

    queue : ((ticket d t).stage ≡ stage.Linked) ⊎ ((ticket d t).stage ≡ stage.Again) → StepsTo p t ks (queues d t)
    queue (inl e) =
        let life = only-linked (ks t).life (subst (IsStage (ks t).life) e here.stage_is) in
        record {
          to = λ v. queued_ticket (ks t) v.tally.clears;
          step = λ v. step.queues life;
          joined = λ v. queued-desk (queued_ticket (ks t) v.tally.clears) refl refl refl refl (ap outcome_of life) (omega arith);
        }
    queue (inr e) = by (only-again (ks t).life (subst (IsStage (ks t).life) e here.stage_is))
      where
        by : ((ks t).life ≡ ToRequeue) ⊎ ((ks t).life ≡ AtRogue) → StepsTo p t ks (queues d t)
        by (inl life) = record {
          to = λ v. queued_ticket (ks t) (ks t).since;
          step = λ v. step.requeues life;
          joined = λ v. queued-desk (queued_ticket (ks t) (ks t).since) refl refl refl refl (ap outcome_of life) (omega arith);
        }
        by (inr life) =
            let n = rogue_ticket (ks t) (ks t).status (ks t).lastp (ks t).savep ((ks t).tries + 1) (ks t).buffer (ks t).area in
            record {
              to = λ v. n;
              step = λ v. step.rogue_moves (ks t).status (ks t).lastp (ks t).savep ((ks t).tries + 1) (ks t).buffer (ks t).area life;
              joined = λ v. queued-desk n refl refl (subst (λ z. IsStage z stage.Queued) (sym life) (inl refl)) (ap outcome_of life) (ap outcome_of life) (subst (λ z. IsCounted (progress_of z) ((ks t).tries + 1)) (sym life) (omega arith));
            }

    sense : (ticket d t).stage ≡ stage.Check → StepsTo p t ks (senses d t)
    sense e =
        let life = only-checked (ks t).life (subst (IsStage (ks t).life) e here.stage_is) in
        let area : List ℕ = replicate 18 0 in
        record {
          to = λ v. asking_ticket (ks t) area;
          step = λ v. step.asks area life refl;
          joined = λ v. replaced (senses d t) t (record (ticket d t) { stage = stage.Sensing }) (asking_ticket (ks t) area) l refl (record {
            stage_is = refl;
            tag_is = here.tag_is;
            unit_is = here.unit_is;
            tries_are = here.tries_are;
            outcome_is = here.outcome_is ∙ ap outcome_of life;
            counted_is = counted-at Checked life;
          });
        }

    unlink : (o : Outcome) → (ticket d t).stage ≡ stage.Ended o → StepsTo p t ks (unlinks d t)
    unlink o e =
        let life = only-ended (ks t).life o (subst (IsStage (ks t).life) e here.stage_is) in
        record {
          to = λ v. with_life (ks t) (Unlinked o);
          step = λ v. step.unlinks o life;
          joined = λ v. replaced (unlinks d t) t (record (ticket d t) { stage = stage.Unlinked }) (with_life (ks t) (Unlinked o)) l refl (record {
            stage_is = refl;
            tag_is = here.tag_is;
            unit_is = here.unit_is;
            tries_are = here.tries_are;
            outcome_is = here.outcome_is ∙ ap outcome_of life;
            counted_is = counted-at (Ended o) life;
          });
        }

    free : (new : DeskState) → (ticket d t).stage ≡ stage.Unlinked → Frees d t new → StepsTo p t ks new
    free new e f =
        let life = only-unlinked (ks t).life (subst (IsStage (ks t).life) e here.stage_is) in
        record {
          to = λ v. freed_ticket (ks t) life.0 v.tally;
          step = λ v. step.frees life.0 life.1;
          joined = λ v. replaced new t (record (ticket d t) { stage = stage.Freed }) (freed_ticket (ks t) life.0 v.tally) l (ap (λ (z : DeskState). z.tickets) f.desk) (record {
            stage_is = refl;
            tag_is = here.tag_is;
            unit_is = here.unit_is;
            tries_are = here.tries_are;
            outcome_is = here.outcome_is ∙ ap outcome_of life.1;
            counted_is = tt;
          });
        }

  -- a ticket more
  build : (new : DeskState) (x : DeskTicket) (k : Ticket) → new.tickets ≡ d.tickets ++ x ∷ [] → IsKept p (length d.tickets) x k → DeskJoined p new (with_at ks (length d.tickets) k)
  build new x k e h = record {
    unbuilt = λ y m. unbuilt-at y (omega (arith, m, size));
    each = λ y m. each-at y (omega (arith, m, size)) (same_or_not y (length d.tickets));
  }
    where
      size : length new.tickets ≡ length d.tickets + 1
      size = ap length e ∙ length-append d.tickets (x ∷ [])

      unbuilt-at : (y : ℕ) → length d.tickets + 1 ≤ y → (with_at ks (length d.tickets) k y).life ≡ Unbuilt
      unbuilt-at y m = ap (λ (z : Ticket). z.life) (with_at-other ks (length d.tickets) k y (λ q. absurd (omega (arith, q, m)))) ∙ j.unbuilt y (omega (arith, m))

      each-at : (y : ℕ) → y < length d.tickets + 1 → (y ≡ length d.tickets) ⊎ (y ≢ length d.tickets) → IsKept p y (ticket new y) (with_at ks (length d.tickets) k y)
      each-at y m (inl q) =
          let a : ticket new y ≡ x = ap (λ z. slice_index_or z y no_ticket) e ∙ ap (λ i. slice_index_or (d.tickets ++ x ∷ []) i no_ticket) q ∙ get_or-append_seam d.tickets x [] no_ticket in
          let b : with_at ks (length d.tickets) k y ≡ k = ap (with_at ks (length d.tickets) k) q ∙ with_at-same ks (length d.tickets) k in
          subst (IsKept p y (ticket new y)) (sym b) (subst (λ z. IsKept p y z k) (sym a) (subst (λ i. IsKept p i x k) (sym q) h))
      each-at y m (inr q) =
          let l : y < length d.tickets = less y (length d.tickets) (omega (arith, m)) q in
          let a : ticket new y ≡ ticket d y = ap (λ z. slice_index_or z y no_ticket) e ∙ get_or_append_left d.tickets (x ∷ []) no_ticket y l in
          subst (IsKept p y (ticket new y)) (sym (with_at-other ks (length d.tickets) k y q)) (subst (λ z. IsKept p y z (ks y)) (sym a) (j.each y l))

built-step : (p : Plan) (d new : DeskState) (ks : ℕ → Ticket) (memory memory' : List ℕ) (l : Line) (r : RequestData) (number : ℕ) → DeskJoined p d ks → Builds d memory l r number new memory' → p.requests number ≡ r → StepsTo p number ks new
built-step p d new ks memory memory' l r number j b e =
    let n = length d.tickets in
    let x = new_ticket d l r b.chunks in
    let request : p.requests n ≡ r = ap p.requests (sym b.numbered) ∙ e in
    let life : (ks n).life ≡ Unbuilt = j.unbuilt n (omega arith) in
    subst (λ i. StepsTo p i ks new) (sym b.numbered) (record {
      to = λ v. built_ticket (p.requests n) x.tag (entries v.tally) (ks n);
      step = λ v. step.builds x.tag life;
      joined = λ v. build p d ks j new x (built_ticket (p.requests n) x.tag (entries v.tally) (ks n)) (ap (λ (z : DeskState). z.tickets) b.desk) (record {
        stage_is = refl;
        tag_is = refl;
        unit_is = ap (λ (q : RequestData). q.unit) (sym request);
        tries_are = refl;
        outcome_is = refl;
        counted_is = refl;
      });
    })

pub desk-steps-move : DeskStepsMove
desk-steps-move = record {
  built = built-step;
  linked = λ p d ks t j l e. link p d ks j t l e;
  queued = λ p d ks t j l e. queue p d ks j t l e;
  sensed = λ p d ks t j l e. sense p d ks j t l e;
  unlinked = λ p d ks t o j l e. unlink p d ks j t l o e;
  freed = λ p d new ks t j l e f. free p d ks j t l new e f;
}
