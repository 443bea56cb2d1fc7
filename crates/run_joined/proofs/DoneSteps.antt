-- TakeDone and Sweep on the desk are each a step of the ticket.
use Rattle.std.proofs.Common.{arith, ◌≡◌, ℕ, ◌≤◌, ◌<◌, Bool, true, false, nat_le, List, length, slice_set, refl, ap, sym, ◌∙◌, subst, Some, None, ◌⊎◌, inl, inr}
use Rattle.std.proofs.lemmas.Bool.Decides.{nat_tests}
use Rattle.std.proofs.lemmas.Option.{same_Some}
use Rattle.scsi_words.specs.declared.statuses.kinds.Status.{Status}
use Rattle.rig_types.specs.declared.report.Outcome.{Outcome}
use Rattle.rig_types.specs.declared.report.Outcome.TheVariants.{Done, Reset}
use Rattle.desk_law.specs.declared.stage.Stage.{Stage}
use Rattle.desk_law.specs.declared.stage.Stage.TheVariants as stage
use Rattle.desk_law.specs.declared.ticket.Ticket.{Ticket as DeskTicket}
use Rattle.desk_law.specs.Desk.{DeskState, is_rogue, is_sensing, ticket}
use Rattle.desk_law.specs.Calls.{ended, ends}
use Rattle.desk_law.specs.Taking.{state_of, status_byte, is_again, is_check, outcome_by, taken_by, takes}
use Rattle.world_law.specs.Resets.{sweep_outcome}
use Rattle.ticket_fate.specs.Tickets.{Plan, Life, Lost, Rejected, Finished, Checked, ToRequeue, AskLost, Asked, AtRogue, Ended, Ticket, with_life, rogue_ticket}
use Rattle.unit_law.specs.Log.{with_at}
use Rattle.ticket_fate.specs.Moves as step
use Rattle.ticket_fate.specs.Histories.{progress_of}
use Rattle.run_joined.specs.DeskLives.{IsStage, outcome_of, IsCounted, IsKept, DeskJoined, StepsTo, WordsAgree, IsLostToReset, DoneStepsMove}
use Rattle.run_joined.proofs.DeskSteps.{replaced}

-- whether a ticket is asked for its sense, by its life
queued-only : (s : Stage) → Some stage.Queued ≡ Some s → is_sensing s ≡ false
queued-only s e = ap is_sensing (sym (same_Some stage.Queued s e))

sensing-only : (s : Stage) → Some stage.Sensing ≡ Some s → is_sensing s ≡ true
sensing-only s e = ap is_sensing (sym (same_Some stage.Sensing s e))

rogue-only : (s : Stage) → (s ≡ stage.Queued) ⊎ (s ≡ stage.Again) → is_sensing s ≡ false
rogue-only s (inl e) = ap is_sensing e
rogue-only s (inr e) = ap is_sensing e

few : (a b : ℕ) → nat_le a b ≡ true → a ≤ b
few a b e = grind (arith, nat_tests)

many : (a b : ℕ) → nat_le a b ≡ false → b < a
many a b e = grind (arith, nat_tests)

module _ (p : Plan) (d : DeskState) (ks : ℕ → Ticket) (j : DeskJoined p d ks) (t : ℕ) (l : t < length d.tickets) where
  abbrev x : DeskTicket
  x = ticket d t

  here : IsKept p t (ticket d t) (ks t)
  here = j.each t l

  counted-at : (a : Life) → (ks t).life ≡ a → IsCounted (progress_of a) (ks t).tries
  counted-at a e = subst (λ z. IsCounted (progress_of z) (ks t).tries) e here.counted_is

  -- with an outcome it has as many tries as before
  still-counted : (o : Outcome) (k : Ticket) → k.life ≡ Ended o → k.tries ≡ (ks t).tries → 0 < (ks t).tries → IsCounted (progress_of k.life) k.tries
  still-counted o k life tries c = subst (λ z. IsCounted (progress_of z) k.tries) (sym life) (omega (arith, c, tries))

  stage-at : (a : Life) → (ks t).life ≡ a → IsStage a (ticket d t).stage
  stage-at a e = subst (λ z. IsStage z (ticket d t).stage) e here.stage_is

  module _ (m : List ℕ) where
    -- the desk's ticket once the flags are known
    flagged : (sensing again check : Bool) → is_sensing x.stage ≡ sensing → is_again d m x ≡ again → is_check d m x ≡ check → (takes d m t).tickets ≡ slice_set d.tickets t (taken_by sensing again check m x)
    flagged sensing again check s a c =
        ap (λ z. slice_set d.tickets t (taken_by z (is_again d m x) (is_check d m x) m x)) s
        ∙ ap (λ z. slice_set d.tickets t (taken_by sensing z (is_check d m x) m x)) a
        ∙ ap (λ z. slice_set d.tickets t (taken_by sensing again z m x)) c

    -- it has an outcome
    ends-with : (o : Outcome) (y : DeskTicket) (k : Ticket) → (takes d m t).tickets ≡ slice_set d.tickets t y → y.stage ≡ stage.Ended o → y.outcome ≡ Some o → y.tag ≡ x.tag → y.unit ≡ x.unit → y.tries ≡ x.tries
        → k.life ≡ Ended o → k.tag ≡ (ks t).tag → k.tries ≡ (ks t).tries → 0 < (ks t).tries → DeskJoined p (takes d m t) (with_at ks t k)
    ends-with o y k e s out tag unit tries life same_tag same_tries some =
        replaced p d ks j (takes d m t) t y k l e (record {
          stage_is = subst (λ a. IsStage a y.stage) (sym life) (ap Some (sym s));
          tag_is = tag ∙ here.tag_is ∙ sym same_tag;
          unit_is = unit ∙ here.unit_is;
          tries_are = tries ∙ here.tries_are ∙ sym same_tries;
          outcome_is = out ∙ ap outcome_of (sym life);
          counted_is = still-counted o k life same_tries some;
        })

    asked : (ks t).life ≡ Asked → StepsTo p t ks (takes d m t)
    asked e =
        let k : Ticket = record (ks t) { life = Ended Done; sense = (ks t).area } in
        record {
          to = λ v. k;
          step = λ v. step.takes_sense e;
          joined = λ v. ends-with Done (record (ended x Done) { sensed = true }) k (flagged true (is_again d m x) (is_check d m x) (sensing-only x.stage (stage-at Asked e)) refl refl) refl refl refl refl refl refl refl refl (counted-at Asked e);
        }

    rejected : (st : Status) (b : Bool) → (ks t).life ≡ Rejected st → is_again d m x ≡ b → WordsAgree p d m t x (ks t) (Rejected st) → StepsTo p t ks (takes d m t)
    rejected st true e a w = record {
      to = λ v. with_life (ks t) ToRequeue;
      step = λ v. step.takes_again st e (few (ks t).tries p.retries (sym w.0 ∙ a));
      joined = λ v. replaced p d ks j (takes d m t) t (record x { stage = stage.Again }) (with_life (ks t) ToRequeue) l (flagged false true (is_check d m x) (queued-only x.stage (stage-at (Rejected st) e)) a refl) (record {
        stage_is = refl;
        tag_is = here.tag_is;
        unit_is = here.unit_is;
        tries_are = here.tries_are;
        outcome_is = here.outcome_is ∙ ap outcome_of e;
        counted_is = counted-at (Rejected st) e;
      });
    }
    rejected st false e a w =
        let o = outcome_by (state_of m x) (status_byte m x) in
        record {
          to = λ v. with_life (ks t) (Ended Done);
          step = λ v. step.takes_refused st e (many (ks t).tries p.retries (sym w.0 ∙ a));
          joined = λ v. ends-with Done (ended x o) (with_life (ks t) (Ended Done)) (flagged false false false (queued-only x.stage (stage-at (Rejected st) e)) a w.1) (ap stage.Ended w.2) (ap Some w.2) refl refl refl refl refl refl (counted-at (Rejected st) e);
        }

    finished : (o : Outcome) (b : Bool) → (ks t).life ≡ Finished o → is_check d m x ≡ b → WordsAgree p d m t x (ks t) (Finished o) → StepsTo p t ks (takes d m t)
    finished o true e c w =
        let q = w.1 c in
        record {
          to = λ v. with_life (ks t) Checked;
          step = λ v. step.takes_checked (e ∙ ap Finished q.0) q.1;
          joined = λ v. replaced p d ks j (takes d m t) t (record x { stage = stage.Check; checked = true }) (with_life (ks t) Checked) l (flagged false false true (queued-only x.stage (stage-at (Finished o) e)) w.0 c) (record {
            stage_is = refl;
            tag_is = here.tag_is;
            unit_is = here.unit_is;
            tries_are = here.tries_are;
            outcome_is = here.outcome_is ∙ ap outcome_of e;
            counted_is = counted-at (Finished o) e;
          });
        }
    finished o false e c w =
        let q = w.2 c in
        record {
          to = λ v. with_life (ks t) (Ended o);
          step = λ v. step.takes o e q.1;
          joined = λ v. ends-with o (ended x (outcome_by (state_of m x) (status_byte m x))) (with_life (ks t) (Ended o)) (flagged false false false (queued-only x.stage (stage-at (Finished o) e)) w.0 c) (ap stage.Ended q.0) (ap Some q.0) refl refl refl refl refl refl (counted-at (Finished o) e);
        }

    at-rogue : (b : Bool) → (ks t).life ≡ AtRogue → is_again d m x ≡ b → is_check d m x ≡ false → StepsTo p t ks (takes d m t)
    at-rogue true e a c =
        let k = rogue_ticket (ks t) (ks t).status (ks t).lastp (ks t).savep (ks t).tries (ks t).buffer (ks t).area in
        record {
          to = λ v. k;
          step = λ v. step.rogue_moves (ks t).status (ks t).lastp (ks t).savep (ks t).tries (ks t).buffer (ks t).area e;
          joined = λ v. replaced p d ks j (takes d m t) t (record x { stage = stage.Again }) k l (flagged false true false (rogue-only x.stage (stage-at AtRogue e)) a c) (record {
            stage_is = subst (λ z. IsStage z stage.Again) (sym e) (inr refl);
            tag_is = here.tag_is;
            unit_is = here.unit_is;
            tries_are = here.tries_are;
            outcome_is = here.outcome_is;
            counted_is = here.counted_is;
          });
        }
    at-rogue false e a c =
        let o = outcome_by (state_of m x) (status_byte m x) in
        record {
          to = λ v. with_life (ks t) (Ended o);
          step = λ v. step.ends_rogue o e;
          joined = λ v. ends-with o (ended x o) (with_life (ks t) (Ended o)) (flagged false false false (rogue-only x.stage (stage-at AtRogue e)) a c) refl refl refl refl refl refl refl refl (counted-at AtRogue e);
        }

    done : (a : Life) → (ks t).life ≡ a → WordsAgree p d m t x (ks t) a → StepsTo p t ks (takes d m t)
    done Asked e w = asked e
    done (Rejected st) e w = rejected st (is_again d m x) e refl w
    done (Finished o) e w = finished o (is_check d m x) e refl w
    done AtRogue e w = at-rogue (is_again d m x) e refl w
    done a e w = absurd w

  -- ---- Sweep
  abbrev swept_outcome : Outcome
  swept_outcome = sweep_outcome (is_sensing x.stage) (is_rogue d x)

  sweeps-to : (o : Outcome) (k : Ticket) → swept_outcome ≡ o → k.life ≡ Ended o → k.tag ≡ (ks t).tag → k.tries ≡ (ks t).tries → 0 < (ks t).tries → DeskJoined p (ends d t swept_outcome) (with_at ks t k)
  sweeps-to o k e life tag tries some =
      replaced p d ks j (ends d t swept_outcome) t (ended x swept_outcome) k l refl (record {
        stage_is = subst (λ a. IsStage a (stage.Ended swept_outcome)) (sym life) (ap (λ z. Some (stage.Ended z)) (sym e));
        tag_is = here.tag_is ∙ sym tag;
        unit_is = here.unit_is;
        tries_are = here.tries_are ∙ sym tries;
        outcome_is = ap Some e ∙ ap outcome_of (sym life);
        counted_is = still-counted o k life tries some;
      })

  sweep : (a : Life) → (ks t).life ≡ a → IsLostToReset a (is_sensing x.stage) (is_rogue d x) → StepsTo p t ks (ends d t swept_outcome)
  sweep Lost e w = record {
    to = λ v. with_life (ks t) (Ended Reset);
    step = λ v. step.sweeps e;
    joined = λ v. sweeps-to Reset (with_life (ks t) (Ended Reset)) (ap (λ z. sweep_outcome z (is_rogue d x)) (queued-only x.stage (stage-at Lost e)) ∙ ap (sweep_outcome false) w) refl refl refl (counted-at Lost e);
  }
  sweep AskLost e w = record {
    to = λ v. with_life (ks t) (Ended Done);
    step = λ v. step.sweeps_asking e;
    joined = λ v. sweeps-to Done (with_life (ks t) (Ended Done)) (ap (λ z. sweep_outcome z (is_rogue d x)) (sensing-only x.stage (stage-at AskLost e))) refl refl refl (counted-at AskLost e);
  }
  sweep AtRogue e w = record {
    to = λ v. with_life (ks t) (Ended swept_outcome);
    step = λ v. step.ends_rogue swept_outcome e;
    joined = λ v. sweeps-to swept_outcome (with_life (ks t) (Ended swept_outcome)) refl refl refl refl (counted-at AtRogue e);
  }
  sweep a e w = absurd w

pub done-steps-move : DoneStepsMove
done-steps-move = record {
  taken = λ p d ks memory t j l w. done p d ks j t l memory (ks t).life refl w;
  swept = λ p d ks t j l w. sweep p d ks j t l (ks t).life refl w;
}
