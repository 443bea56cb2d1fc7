-- What can be read of the units of a device: whether they break the rules, and whether the target answers.
use Rattle.std.proofs.Common.{◌≡◌, ℕ, Bool, true, false, ◌&&◌, not, List, refl, ap, sym, subst, ◌∙◌, Option, map}
use Rattle.std.specs.List.{list_any}
use Rattle.target_law.specs.Target.{LogicalUnit, ConnectionState, BusFree, Selected, TakingCommand, TaskConnected, RogueConnected, Target}
use Rattle.target_law.specs.Calls.{slot_is_rogue, is_rogue, is_rogue_connected, slot_answers, slot_has_unit, answers, is_absent}
use Rattle.target_law.specs.Devices.{DeviceState}
use Rattle.unit_tasks.specs.declared.queued.QueuedUnit.{QueuedUnit}
use Rattle.scsi_target.specs.Slots.{slot_of, has_unit_in, answers_in}
use Rattle.scsi_target.specs.Views.{link_of, device_of, IsLinked}
use Rattle.scsi_target.specs.declared.connection_state.ConnectionState.{ConnectionState as HeldState}
use Rattle.scsi_target.specs.declared.connection_state.ConnectionState.TheVariants as held
use Rattle.scsi_target.proofs.Places.{any-places}

pub rogue_of : (d : DeviceState) (slots : List (Option QueuedUnit)) (link : HeldState) (breaks : Bool) → device_of slots link ≡ d → list_any slot_is_rogue (map slot_of slots) ≡ breaks → breaks ≡ is_rogue d.target
unfolding is_rogue
rogue_of d slots link breaks v k = sym k ∙ ap (λ (x : DeviceState). list_any slot_is_rogue x.target.units) v

rogue_connected-by : (slots : List (Option QueuedUnit)) (link : HeldState) (breaks : Bool) → IsLinked link slots breaks → breaks ≡ false → is_rogue_connected (link_of link) ≡ false
rogue_connected-by slots held.BusFree breaks i e = refl
rogue_connected-by slots (held.Selected heard) breaks i e = refl
rogue_connected-by slots (held.TakingCommand n block) breaks i e = refl
rogue_connected-by slots (held.TaskConnected c) breaks i e = refl
rogue_connected-by slots (held.RogueConnected s n) breaks i e = let f : true ≡ false = sym i.0 ∙ e in cc

pub rogue_connected_of : (d : DeviceState) (slots : List (Option QueuedUnit)) (link : HeldState) (breaks : Bool) → device_of slots link ≡ d → IsLinked link slots breaks → breaks ≡ false → is_rogue_connected d.target.link ≡ false
rogue_connected_of d slots link breaks v i e = subst (λ (x : DeviceState). is_rogue_connected x.target.link ≡ false) v (rogue_connected-by slots link breaks i e)

pub answers_of : (d : DeviceState) (slots : List (Option QueuedUnit)) (link : HeldState) → device_of slots link ≡ d → list_any answers_in slots ≡ answers d.target
unfolding answers
answers_of d slots link v = any-places slot_answers slots ∙ ap (λ (x : DeviceState). list_any slot_answers x.target.units) v

has_unit_of : (d : DeviceState) (slots : List (Option QueuedUnit)) (link : HeldState) → device_of slots link ≡ d → list_any has_unit_in slots ≡ list_any slot_has_unit d.target.units
has_unit_of d slots link v = any-places slot_has_unit slots ∙ ap (λ (x : DeviceState). list_any slot_has_unit x.target.units) v

pub absent_of : (d : DeviceState) (slots : List (Option QueuedUnit)) (link : HeldState) → device_of slots link ≡ d → (list_any has_unit_in slots && not (list_any answers_in slots)) ≡ is_absent d.target
unfolding is_absent
absent_of d slots link v = ap (λ b. b && not (list_any answers_in slots)) (has_unit_of d slots link v) ∙ ap (λ b. list_any slot_has_unit d.target.units && not b) (answers_of d slots link v)

and-none : (a b : Bool) → b ≡ true → (a && not b) ≡ false
and-none true true e = refl
and-none false true e = refl
and-none a false e = cc

-- a target that answers isn't absent
pub present_of : (t : Target) (b : Bool) → b ≡ answers t → b ≡ true → is_absent t ≡ false
unfolding is_absent
present_of t b e h = and-none (list_any slot_has_unit t.units) (answers t) (sym e ∙ h)
