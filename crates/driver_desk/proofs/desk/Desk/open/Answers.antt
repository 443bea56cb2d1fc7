use Rattle.std.proofs.Common.{rules, refl, ◌≡◌, ℕ, ◌+◌, List, [], length, replicate, Option, None, sym, ap, subst, ◌∙◌}
use Rattle.rig_types.specs.declared.rig.Unit.{Unit as RigUnit}
use Rattle.rig_types.specs.Ranges.{IsRig}
use Rattle.desk_law.specs.declared.ticket.Ticket.{Ticket}
use Rattle.driver_desk.specs.declared.reporting.Room.{Room}
use Rattle.driver_desk.specs.Kept.{IsDesk, IsIndex}
use Rattle.driver_desk.specs.Held.{IsKept}
use Rattle.driver_desk.specs.StageSets.{AreOf}
use Rattle.driver_desk.specs.LastTickets.{AreLast}
use Rattle.driver_desk.proofs.LastTickets.{last_of_none}
use Rattle.driver_desk.proofs.StageSets.{sets_of_none}
use Rattle.driver_desk.proofs.Opening.{desk_of_none, index_of_none, kept_of_none, whole, whole_space}
use Rattle.driver_desk.proofs.desk.Desk.open.Goals as goal

pub invariant_of-result : goal.invariant_of-result
invariant_of-result c =
    let units : c.in_ok-from_slice.field-0.items ≡ c.args.rig.now.units = c.in_ok-from_slice.ensures.items ∙ c.as_slice.ensures in
    let r : IsRig c.args.rig.now.version c.in_ok-from_slice.field-0.items c.args.rig.now.retries c.args.rig.now.step_limit =
    subst (λ (us : List RigUnit). IsRig c.args.rig.now.version us c.args.rig.now.retries c.args.rig.now.step_limit) (sym units) c.args.rig.now.valid in
    let all : length c.in_ok-vec.field-0.items ≡ length c.as_slice-submitters.result.now + 3 = search rules in
    let none : c.new.result.items ≡ [] = c.new.ensures.items in
    let blocks : c.in_ok-no_tickets.field-0 ≡ replicate 256 None = c.in_ok-no_tickets.ensures in
    let tags : c.in_ok-no_tickets-2.field-0 ≡ replicate 4096 None = c.in_ok-no_tickets-2.ensures in
    let free : c.in_ok-rooms.field-0.items ≡ replicate 256 None = c.in_ok-rooms.ensures in
    let zeros : c.in_ok-no_counts.field-0.items ≡ replicate (length c.in_ok-from_slice.field-0.items) 0 =
    c.in_ok-no_counts.ensures ∙ ap (λ (us : List RigUnit). replicate (length us) 0) (c.as_slice-2.ensures ∙ sym units) in
    let index : IsIndex c.in_ok-no_tickets.field-0 c.in_ok-no_tickets-2.field-0 [] =
    subst (λ (bs : List (Option ℕ)). IsIndex bs c.in_ok-no_tickets-2.field-0 []) (sym blocks)
    (subst (λ (ts : List (Option ℕ)). IsIndex (replicate 256 None) ts []) (sym tags) index_of_none) in
    let kept : IsKept c.args.rig.now.version c.in_ok-from_slice.field-0.items c.args.rig.now.retries c.in_ok-no_tickets.field-0 c.in_ok-no_tickets-2.field-0
    c.in_ok-rooms.field-0.items c.in_ok-no_counts.field-0.items c.in_ok-new.field-0 [] =
    subst (λ (bs : List (Option ℕ)). IsKept c.args.rig.now.version c.in_ok-from_slice.field-0.items c.args.rig.now.retries bs c.in_ok-no_tickets-2.field-0 c.in_ok-rooms.field-0.items c.in_ok-no_counts.field-0.items c.in_ok-new.field-0 []) (sym blocks)
    (subst (λ (ts : List (Option ℕ)). IsKept c.args.rig.now.version c.in_ok-from_slice.field-0.items c.args.rig.now.retries (replicate 256 None) ts c.in_ok-rooms.field-0.items c.in_ok-no_counts.field-0.items c.in_ok-new.field-0 []) (sym tags)
    (subst (λ (rs : List (Option Room)). IsKept c.args.rig.now.version c.in_ok-from_slice.field-0.items c.args.rig.now.retries (replicate 256 None) (replicate 4096 None) rs c.in_ok-no_counts.field-0.items c.in_ok-new.field-0 []) (sym free)
    (subst (λ (ns : List ℕ). IsKept c.args.rig.now.version c.in_ok-from_slice.field-0.items c.args.rig.now.retries (replicate 256 None) (replicate 4096 None) (replicate 256 None) ns c.in_ok-new.field-0 []) (sym zeros)
    (kept_of_none c.args.rig.now.version c.in_ok-from_slice.field-0.items c.args.rig.now.retries c.args.rig.now.step_limit c.in_ok-new.field-0 r c.in_ok-new.ensures.place.0 c.in_ok-new.ensures.place.1)))) in
    let sets : AreOf c.in_ok-new-2.field-0 [] = sets_of_none c.in_ok-new-2.field-0 c.in_ok-new-2.ensures.again c.in_ok-new-2.ensures.check c.in_ok-new-2.ensures.ended c.in_ok-new-2.ensures.unlinked in
    let lasts : AreLast (length c.as_slice-submitters.result.now) c.in_ok-no_last_tickets.field-0.items [] =
    subst (λ (os : List (Option ℕ)). AreLast (length c.as_slice-submitters.result.now) os []) (sym c.in_ok-no_last_tickets.ensures) (last_of_none (length c.as_slice-submitters.result.now)) in
    subst (λ (xs : List Ticket). (IsDesk (length c.in_ok-from_slice.field-0.items) (length c.as_slice-submitters.result.now) c.args.rig.now.retries 0x2000 0x3000
    (length c.in_ok-vec.field-0.items) xs × IsIndex c.in_ok-no_tickets.field-0 c.in_ok-no_tickets-2.field-0 xs
    × IsKept c.args.rig.now.version c.in_ok-from_slice.field-0.items c.args.rig.now.retries c.in_ok-no_tickets.field-0 c.in_ok-no_tickets-2.field-0
    c.in_ok-rooms.field-0.items c.in_ok-no_counts.field-0.items c.in_ok-new.field-0 xs) × AreOf c.in_ok-new-2.field-0 xs × AreLast (length c.as_slice-submitters.result.now) c.in_ok-no_last_tickets.field-0.items xs) (sym none)
    ((desk_of_none (length c.in_ok-from_slice.field-0.items) (length c.as_slice-submitters.result.now) c.args.rig.now.retries (length c.in_ok-vec.field-0.items) r.few_units r.few_retries all, index, kept), sets, lasts)

pub returns : goal.returns
returns c =
    let units : c.in_ok-from_slice.field-0.items ≡ c.args.rig.now.units = c.in_ok-from_slice.ensures.items ∙ c.as_slice.ensures in
    let space : c.in_ok-new.field-0 ≡ whole =
    whole_space c.in_ok-new.field-0 c.in_ok-new.ensures.region c.in_ok-new.ensures.whole c.in_ok-new.ensures.place.0 c.in_ok-new.ensures.place.1 in
    let due : c.in_ok-vec.field-0.items ≡ replicate (length c.as_slice-submitters.result.now + 3) 0 = search rules in
    rw (units, c.new.ensures.items, space, due, c.as_slice-submitters.ensures) refl
