-- A selection and a reselection of a target of a free bus.
use Rattle.std.proofs.Common.{◌≡◌, ℕ, zero, suc, ◌<◌, Bool, true, false, List, [], ◌∷◌, length, slice_get, refl, ap, arith, sym, ◌∙◌, subst, Option, Some, None, inr}
use Rattle.target_law.specs.Session.{Task}
use Rattle.target_law.specs.declared.rogue_phase.RoguePhase.TheVariants as rogue_shows
use Rattle.target_law.specs.declared.task_phase.ReselectByte.TheVariants as part
use Rattle.target_law.specs.Target.{LogicalUnit, BusFree, RogueConnected, Target, unit_at, linked}
use Rattle.target_law.specs.Calls.{is_rogue, target_selected, candidates_by, task_reselected, reselected_by, target_reselected}
use Rattle.bus_law.specs.Reselections.{candidate_count}
use Rattle.ticket_fate.specs.Tickets.{Plan, Ticket}
use Rattle.ticket_fate.specs.Linked.{IsPlan, HasRogue, UnitKept}
use Rattle.ticket_fate.specs.Moves.{IsIdle, reselects}
use Rattle.ticket_fate.specs.Kept.{AllKept}
use Rattle.ticket_fate.proofs.Targets.{at-lun}
use Rattle.ticket_link.proofs.IdleCalls.{idle-calls-relink}
use Rattle.bus_events.specs.Tickets.{after_reselection}
use Rattle.bus_events.proofs.TicketCalls.{Goes, relinked}

task-there : (ks : List Task) (n : ℕ) → n < length ks → (k : Task) × (slice_get ks n ≡ Some k)
task-there [] n l = absurd (omega (arith, l))
task-there (k ∷ ks) zero l = (k, refl)
task-there (k ∷ ks) (suc n) l = task-there ks n (omega (arith, l))

module _ (g : Plan) (count : ℕ) (ks : ℕ → Ticket) (ts : ℕ → Target) (plan : IsPlan g count) (h : AllKept g count ks ts) where
  pub selected-goes : (i : ℕ) → (ts i).link ≡ BusFree → (is_rogue (ts i) ≡ true → HasRogue g i) → Goes g count ks ts plan h i ks (target_selected (ts i))
  selected-goes i e f = relinked g count ks ts plan h i (target_selected (ts i)) (subst IsIdle (sym e) tt) (idle-calls-relink.selected g i (ts i) f)

  -- the m-th candidate of unit n
  module _ (n m tag : ℕ) (less : n < count) (free : (ts (g.units n).target).link ≡ BusFree) where
    abbrev i : ℕ
    i = (g.units n).target

    abbrev lun : ℕ
    lun = (g.units n).lun

    abbrev Comes : Target → Type 0
    Comes t = Goes g count ks ts plan h i (after_reselection ks t.link) t

    task-reselects : (u : LogicalUnit) → unit_at (ts i).units lun ≡ Some u → (o : Option Task) → slice_get u.tasks m ≡ o → m < length u.tasks → Comes (task_reselected (ts i) lun m u o)
    task-reselects u there (Some k) e l = inr (reselects n m u k less (subst IsIdle (sym free) tt) there e, tt)
    task-reselects u there None e l = let k = task-there u.tasks m l in absurd (let z : Some k.0 ≡ None = sym k.1 ∙ e in cc)

    unit-reselects : (u : LogicalUnit) → unit_at (ts i).units lun ≡ Some u → UnitKept g n ks u → (b : Bool) → u.rig.rogue ≡ b → m < candidates_by b u → Comes (reselected_by b (ts i) lun m tag u)
    unit-reselects u there kept true e l =
        let s = rogue_shows.Reselection part.Identify false in
        let nexus = Some (record { lun = lun; tag = tag }) in
        relinked g count ks ts plan h i (linked (ts i) (RogueConnected s nexus)) (subst IsIdle (sym free) tt)
        (RogueConnected s nexus, tt, record { unit = n; target = refl; rogue = ap (λ r. r.rogue) (sym kept.rig) ∙ e }, refl)
    unit-reselects u there kept false e l = task-reselects u there (slice_get u.tasks m) refl l

    reselected-is : (u : LogicalUnit) → unit_at (ts i).units lun ≡ Some u → target_reselected (ts i) lun m tag ≡ reselected_by u.rig.rogue (ts i) lun m tag u
    unfolding target_reselected
    reselected-is u there = at-lun (ts i) lun (λ v. reselected_by v.rig.rogue (ts i) lun m tag v) u there

    pub reselected-goes : m < candidate_count (unit_at (ts i).units lun) → Comes (target_reselected (ts i) lun m tag)
    reselected-goes l =
        let u = (h.each i).units n less refl in
        let few : m < candidates_by u.0.rig.rogue u.0 = subst (λ o. m < candidate_count o) u.1 l in
        subst Comes (sym (reselected-is u.0 u.1)) (unit-reselects u.0 u.1 u.2 u.0.rig.rogue refl few)
