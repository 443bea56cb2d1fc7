-- No unit of a device has more tasks than its depth.
use Rattle.std.proofs.Common.{◌≡◌, ℕ, ◌+◌, ◌≤◌, Bool, true, false, List, ◌∷◌, refl, ap, sym, subst, ◌∙◌, Option, Some, None, length, map, option_map, nat_eq, if◌then◌else◌, arith}
use Rattle.std.specs.Prelude.{slice_get}
use Rattle.std.proofs.lemmas.List.{length-map}
use Rattle.target_law.specs.Session.{Task}
use Rattle.target_law.specs.Target.{LogicalUnit, flat, unit_at}
use Rattle.target_law.specs.Sound.{tasks_at}
use Rattle.target_law.specs.Devices.{DeviceState}
use Rattle.unit_tasks.specs.Units.{unit_of}
use Rattle.unit_tasks.specs.declared.queued.QueuedUnit.{QueuedUnit}
use Rattle.scsi_target.specs.Devices.{KeepsPlaces}
use Rattle.scsi_target.specs.Slots.{slot_of, room_of}
use Rattle.scsi_target.specs.Views.{link_of, device_of, busy, IsSlot, IsDevice}
use Rattle.scsi_target.specs.declared.connection_state.ConnectionState.{ConnectionState as HeldState}
use Rattle.scsi_target.specs.declared.connection_state.ConnectionState.TheVariants as held
use Rattle.scsi_target.proofs.Places.{unit_is}

one_more : (here : Bool) (k : Task) (ks : List Task) → length (if here then k ∷ ks else ks) ≡ length ks + (if here then 1 else 0)
one_more true k ks = omega arith
one_more false k ks = omega arith

-- the connected task is counted
count : (link : HeldState) (lun : ℕ) (u : LogicalUnit) → length (tasks_at (link_of link) lun u) ≡ length u.tasks + busy link lun
count held.BusFree lun u = omega arith
count (held.Selected heard) lun u = omega arith
count (held.TakingCommand n block) lun u = omega arith
count (held.TaskConnected c) lun u = one_more (nat_eq c.lun lun) c.task u.tasks
count (held.RogueConnected s n) lun u = omega arith

few_in : (link : HeldState) (breaks : Bool) (lun : ℕ) (q : QueuedUnit) → IsSlot breaks link lun q → length (tasks_at (link_of link) lun (unit_of q)) ≤ q.rig.depth
few_in link breaks lun q s = let n = count link lun (unit_of q) in let p = s.places in let d = s.depth in omega arith

few_by : (slots : List (Option QueuedUnit)) (link : HeldState) (breaks : Bool) (lun : ℕ) (u : LogicalUnit) (o : Option (Option QueuedUnit)) → slice_get slots lun ≡ o → flat (option_map slot_of o) ≡ Some u
    → ((q : QueuedUnit) → slice_get slots lun ≡ Some (Some q) → IsSlot breaks link lun q) → length (tasks_at (link_of link) lun u) ≤ u.rig.depth
few_by slots link breaks lun u (Some (Some q)) e h s =
    let same : unit_of q ≡ u = cc in
    subst (λ (x : LogicalUnit). length (tasks_at (link_of link) lun x) ≤ x.rig.depth) same (few_in link breaks lun q (s q e))
few_by slots link breaks lun u (Some None) e h s = cc
few_by slots link breaks lun u None e h s = cc

held_places : (number : ℕ) (slots : List (Option QueuedUnit)) (link : HeldState) (breaks : Bool) → IsDevice number slots link breaks → KeepsPlaces (device_of slots link)
held_places number slots link breaks i = record {
  units = length-map slots slot_of ∙ i.eight;
  rooms = length-map slots room_of ∙ i.eight;
  few = λ lun u e. few_by slots link breaks lun u (slice_get slots lun) refl (sym (unit_is slots lun (slice_get slots lun) refl) ∙ e) (i.slots_are lun);
}

pub places_seen : (d : DeviceState) (number : ℕ) (slots : List (Option QueuedUnit)) (link : HeldState) (breaks : Bool) → device_of slots link ≡ d → IsDevice number slots link breaks → KeepsPlaces d
places_seen d number slots link breaks v i = subst KeepsPlaces v (held_places number slots link breaks i)
