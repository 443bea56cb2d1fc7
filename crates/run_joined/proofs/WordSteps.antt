-- TakeDone and Sweep are joined, where the words of the ticket's block tell what its life says.
use Rattle.std.proofs.Common.{◌≡◌, ℕ, ◌<◌, false, length, Option, Some, None, refl, sym, ap, subst, ◌∙◌, nat_lt, Bool, true, arith, ◌⊎◌, inl, inr, ◌≤◌}
use Rattle.std.proofs.lemmas.List.{length-set}
use Rattle.rig_types.specs.declared.step.Step.TheVariants as step
use Rattle.desk_law.specs.Desk.{ticket, is_sensing, is_rogue}
use Rattle.desk_law.specs.Rings.{done_ticket}
use Rattle.ticket_fate.specs.Tickets.{Plan, Life, Unbuilt, Ticket}
use Rattle.world_law.specs.World.{BenchSetting, World}
use Rattle.world_law.specs.Runs.{Moment, Steps}
use Rattle.world_law.specs.Steps.{TakesOf, Does}
use Rattle.run_joined.specs.DeskLives.{WordsAgree, IsLostToReset}
use Rattle.run_joined.specs.Plans.{IsPlanOf}
use Rattle.run_joined.specs.Joined.{IsJoined, StepJoins, WordStepsJoin}
use Rattle.run_joined.proofs.Rigs.{same-rig}
use Rattle.run_joined.proofs.DoneSteps.{done-steps-move}
use Rattle.run_joined.proofs.Moved.{below-or, one-ticket}

-- a ticket that has been built stands within
module _ (g : BenchSetting) (p : Plan) (old : World) (m : Moment) (ks : ℕ → Ticket) (spare : ℕ → ℕ) (j : IsJoined g p old ks spare) (t : ℕ) where
  within : (l : Life) → (ks t).life ≡ l → (l ≡ Unbuilt → ⊥) → t < length old.desk.tickets
  within l e n = by (below-or t (length old.desk.tickets))
    where
      by : (t < length old.desk.tickets) ⊎ (length old.desk.tickets ≤ t) → t < length old.desk.tickets
      by (inl h) = h
      by (inr h) = absurd (n (sym e ∙ j.desk.unbuilt t h))

  told-built : (l : Life) → WordsAgree p old.desk old.memory t (ticket old.desk t) (ks t) l → l ≡ Unbuilt → ⊥
  told-built l w e = subst (WordsAgree p old.desk old.memory t (ticket old.desk t) (ks t)) e w

  swept-built : (l : Life) (sensing rogue : Bool) → IsLostToReset l sensing rogue → l ≡ Unbuilt → ⊥
  swept-built l sensing rogue w e = subst (λ (z : Life). IsLostToReset z sensing rogue) e w

  takes : (o : Option ℕ) → o ≡ Some t → TakesOf o old m.reply m.after → m.entry.step ≡ step.TakeDone → WordsAgree p old.desk old.memory t (ticket old.desk t) (ks t) (ks t).life → StepJoins g p old m ks
  takes o q d e w =
      let x = subst (λ (z : Option ℕ). TakesOf z old m.reply m.after) q d in
      let l = within (ks t).life refl (told-built (ks t).life w) in
      one-ticket g p old m ks spare j step.TakeDone e (λ y. refl) refl t l _ x.1 (done-steps-move.taken p old.desk ks old.memory t j.desk l w) refl (length-set old.desk.tickets t _) (same-rig refl refl refl refl)

  sweeps : Does g old m.entry.caller (step.Sweep t) m.reply m.after → m.entry.step ≡ step.Sweep t → IsLostToReset (ks t).life (is_sensing (ticket old.desk t).stage) (is_rogue old.desk (ticket old.desk t)) → StepJoins g p old m ks
  sweeps d e w =
      let l = within (ks t).life refl (swept-built (ks t).life (is_sensing (ticket old.desk t).stage) (is_rogue old.desk (ticket old.desk t)) w) in
      one-ticket g p old m ks spare j (step.Sweep t) e (λ y. refl) refl t l _ d.1 (done-steps-move.swept p old.desk ks t j.desk l w) refl (length-set old.desk.tickets t _) (same-rig refl refl refl refl)

pub word-steps-join : WordStepsJoin
word-steps-join = record {
  taken = λ g p old m ks spare t s e q w j. takes g p old m ks spare j t (done_ticket old.memory old.desk) q (subst (λ x. Does g old m.entry.caller x m.reply m.after) e s.does) e w;
  swept = λ g p old m ks spare t s e w j. sweeps g p old m ks spare j t (subst (λ x. Does g old m.entry.caller x m.reply m.after) e s.does) e w;
}
