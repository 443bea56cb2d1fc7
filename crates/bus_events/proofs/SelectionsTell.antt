-- Whether a target answers a selection tells whether its units are absent.
use Rattle.std.proofs.Common.{◌≡◌, ℕ, zero, suc, ◌<◌, Bool, true, false, List, [], ◌∷◌, length, refl, ap, sym, ◌∙◌, subst, Option, Some, None, is_none}
use Rattle.std.specs.Prelude.{◌||◌, ◌&&◌, not, slice_get}
use Rattle.std.specs.List.{list_any}
use Rattle.std.proofs.lemmas.Bool.{and_parts}
use Rattle.std.proofs.lemmas.Option.{same_Some}
use Rattle.rig_types.specs.declared.rig.Unit.{Unit as RigUnit}
use Rattle.chip_step.specs.declared.scsi_bus.Settled.TheVariants.{Selected, TimedOut}
use Rattle.target_law.specs.Target.{LogicalUnit, flat, unit_at}
use Rattle.target_law.specs.Calls.{slot_answers, answers}
use Rattle.bus_law.specs.Bus.{BusState}
use Rattle.bus_law.specs.Reselections.{Candidate, candidate_named, can_select, settles}
use Rattle.ticket_fate.specs.Tickets.{Plan, Ticket}
use Rattle.ticket_fate.proofs.Reached.{all-kept}
use Rattle.bus_events.specs.Targets.{targets}
use Rattle.bus_events.specs.TicketLaws.{AreJoined, SelectionsTell}

settled-selected : (o : Option Candidate) (b : Bool) → Selected ≡ settles o b → b ≡ true
settled-selected (Some c) b e = absurd cc
settled-selected None true e = refl
settled-selected None false e = absurd cc

settled-none : (o : Option Candidate) (b : Bool) → TimedOut ≡ settles o b → b ≡ false
settled-none (Some c) b e = absurd cc
settled-none None true e = absurd cc
settled-none None false e = refl

not-true : (a : Bool) → not a ≡ true → a ≡ false
not-true true e = cc
not-true false e = refl

not-false : (a : Bool) → not a ≡ false → a ≡ true
not-false true e = refl
not-false false e = cc

or-right : (a b : Bool) → a ≡ false → (a || b) ≡ true → b ≡ true
or-right true b e f = cc
or-right false b e f = f

or-false : (a b : Bool) → (a || b) ≡ false → (a ≡ false) × (b ≡ false)
or-false true b e = absurd cc
or-false false b e = (refl, e)

and-false : (a b : Bool) → a ≡ true → (a && b) ≡ false → b ≡ false
and-false true b e f = f
and-false false b e f = cc

any-answers : (us : List (Option LogicalUnit)) → list_any slot_answers us ≡ true → (lun : ℕ) × (u : LogicalUnit) × (unit_at us lun ≡ Some u) × (u.rig.absent ≡ false)
unfolding unit_at
any-answers [] e = absurd cc
any-answers (None ∷ us) e = let r = any-answers us e in (suc r.0, r.1, r.2, r.3)
any-answers (Some u ∷ us) e = by (not u.rig.absent) refl (λ f. any-answers us f)
  where
    by : (b : Bool) → not u.rig.absent ≡ b → (list_any slot_answers us ≡ true → (lun : ℕ) × (v : LogicalUnit) × (flat (slice_get us lun) ≡ Some v) × (v.rig.absent ≡ false))
        → (lun : ℕ) × (v : LogicalUnit) × (flat (slice_get (Some u ∷ us) lun) ≡ Some v) × (v.rig.absent ≡ false)
    by true f rest = (zero, u, refl, not-true u.rig.absent f)
    by false f rest = let r = rest (or-right (not u.rig.absent) (list_any slot_answers us) f e) in (suc r.0, r.1, r.2, r.3)

none-answers : (us : List (Option LogicalUnit)) → list_any slot_answers us ≡ false → (lun : ℕ) (u : LogicalUnit) → unit_at us lun ≡ Some u → u.rig.absent ≡ true
unfolding unit_at
none-answers [] e lun u f = absurd cc
none-answers (None ∷ us) e zero u f = absurd cc
none-answers (None ∷ us) e (suc lun) u f = none-answers us e lun u f
none-answers (Some v ∷ us) e zero u f = let same : v ≡ u = cc in subst (λ (z : LogicalUnit). z.rig.absent ≡ true) same (not-false v.rig.absent (or-false (not v.rig.absent) (list_any slot_answers us) e).0)
none-answers (Some v ∷ us) e (suc lun) u f = none-answers us (or-false (not v.rig.absent) (list_any slot_answers us) e).1 lun u f

module _ (g : Plan) (units : List RigUnit) (b : BusState) (ks : ℕ → Ticket) (j : AreJoined g units b ks) (i : ℕ) where
  -- a unit of the target is one of the rig
  rig-of : (lun : ℕ) (u : LogicalUnit) (n : ℕ) → n < length units → (g.units n).target ≡ i → (g.units n).lun ≡ lun → unit_at (targets b i).units lun ≡ Some u → u.rig ≡ g.units n
  rig-of lun u n less q p there =
      let kept = ((all-kept g (length units) ks (targets b) j.reached).each i).units n less q in
      ap (λ (z : LogicalUnit). z.rig) (same_Some u kept.0 (sym there ∙ ap (unit_at (targets b i).units) (sym p) ∙ kept.1)) ∙ kept.2.rig

  there-by : answers (targets b i) ≡ true → (n : ℕ) × (n < length units) × ((g.units n).target ≡ i) × ((g.units n).absent ≡ false)
  unfolding answers
  there-by e =
      let r = any-answers (targets b i).units e in
      let n = j.whole i r.0 r.1 r.2 in
      (n.0, n.1, n.2, ap (λ (z : RigUnit). z.absent) (sym (rig-of r.0 r.1 n.0 n.1 n.2 n.3 r.2)) ∙ r.3)

  absent-by : answers (targets b i) ≡ false → (n : ℕ) → n < length units → (g.units n).target ≡ i → (g.units n).absent ≡ true
  unfolding answers
  absent-by e n less q =
      let kept = ((all-kept g (length units) ks (targets b) j.reached).each i).units n less q in
      ap (λ (z : RigUnit). z.absent) (sym kept.2.rig) ∙ none-answers (targets b i).units e (g.units n).lun kept.0 kept.1

pub selections-tell : SelectionsTell
selections-tell = record {
  selected = λ g units live old new ks target word j m.
      there-by g units old ks j target (and_parts (is_none old.connected) (answers (targets old target)) (settled-selected (candidate_named units old word) (can_select old target) m.0)).1;
  timed_out = λ g units live old new ks target word j m free n less q.
      absent-by g units old ks j target (and-false (is_none old.connected) (answers (targets old target)) (ap is_none free) (settled-none (candidate_named units old word) (can_select old target) m.0)) n less q;
}
