-- The bus as it is opened.
use Rattle.std.proofs.Common.{false, ◌≡◌, ◌≤◌, true, [], ◌∷◌, replicate, get_or, refl, ap, sym, ◌∙◌, subst, Option, Some, None, lit≤}
use Rattle.rig_types.specs.declared.rig.Pattern.TheVariants.{Count}
use Rattle.rig_types.specs.declared.rig.Unit.{Unit as RigUnit}
use Rattle.target_law.specs.Target.{LogicalUnit, BusFree, Target, unit_at, unit_opened, target_opened}
use Rattle.target_law.specs.Lawful.{IsThere}
use Rattle.target_law.specs.Devices.{DeviceState, device_opened, device_reserved, lie_within}
use Rattle.scsi_target.specs.Devices.{HasUnit}
use Rattle.one_target.specs.Bus.{bus_of}
use Rattle.one_target.specs.Holding.{is_usual, IsHeld}
use Rattle.one_target.specs.Opening.{one_unit, IsOpened}
use Rattle.one_target.proofs.Slots.{slots, unit_at-slots, opened-slots, slots-fit}
use Rattle.one_target.proofs.MoveLaws.{IsKept}
use Rattle.one_target.proofs.Between.{held}

opened-alone : (r : RigUnit) → r.lun ≡ 0 → is_usual r ≡ true → (t : Target) → t ≡ target_opened (r ∷ []) → IsKept t
opened-alone r z e t o =
    let is : t ≡ record { units = slots (unit_opened r); link = BusFree } = o ∙ opened-slots r z in
    subst IsKept (sym is) (record { alone = record { unit = unit_opened r; units_are = refl; usual = e }; of_one = refl })

opened-unit : (r : RigUnit) → r.lun ≡ 0 → (t : Target) → t ≡ target_opened (r ∷ []) → unit_at t.units 0 ≡ Some (unit_opened r)
opened-unit r z t o =
    ap (λ (x : Target). unit_at x.units 0) (o ∙ opened-slots r z) ∙ unit_at-slots (unit_opened r)

pub opened-has : (r : RigUnit) → r.lun ≡ 0 → (d : DeviceState) → d ≡ device_opened (r ∷ []) → HasUnit d 0
opened-has r z d o = subst (λ (u : Option LogicalUnit). IsThere u (λ v. Unit {0})) (sym (opened-unit r z d.target (ap (λ (x : DeviceState). x.target) o))) tt

-- the device after its room was made
pub record Roomy (r : RigUnit) (d : DeviceState) : Type 0 where
  pub target_is : d.target ≡ target_opened (r ∷ [])
  pub room : 8 ≤ get_or d.rooms 0 0

reserved-is : (r : RigUnit) → r.lun ≡ 0 → device_reserved (device_opened (r ∷ [])) 0 8 ≡ record { target = target_opened (r ∷ []); rooms = 8 ∷ replicate 7 0 }
unfolding device_reserved
reserved-is r z = rw (opened-unit r z (target_opened (r ∷ [])) refl) refl

pub roomy : (r : RigUnit) → r.lun ≡ 0 → (d d' : DeviceState) → d ≡ device_opened (r ∷ []) → d' ≡ device_reserved d 0 8 → Roomy r d'
roomy r z d d' o e =
    let is : d' ≡ record { target = target_opened (r ∷ []); rooms = 8 ∷ replicate 7 0 } = e ∙ ap (λ (x : DeviceState). device_reserved x 0 8) o ∙ reserved-is r z in
    record { target_is = ap (λ (x : DeviceState). x.target) is; room = subst (λ (x : DeviceState). 8 ≤ get_or x.rooms 0 0) (sym is) (lit≤ tt) }

pub opened-held : (r : RigUnit) → r.lun ≡ 0 → is_usual r ≡ true → (d : DeviceState) → Roomy r d → IsHeld (bus_of d false false None)
opened-held r z e d h =
    let is : d.target ≡ record { units = slots (unit_opened r); link = BusFree } = h.target_is ∙ opened-slots r z in
    let fits : lie_within d.target.units d.rooms ≡ true = ap (λ (x : Target). lie_within x.units d.rooms) is ∙ slots-fit (unit_opened r) d.rooms h.room (lit≤ tt) in
    held (bus_of d false false None) (opened-alone r z e d.target h.target_is) fits (λ f. absurd cc)

-- the unit of the code is that of the definitions
pub the_unit : one_unit ≡ record { target = 0; lun = 0; blocks = 64; pattern = Count; depth = 1; disconnects = 0; refusals = 0; absent = false; rogue = false }
unfolding one_unit
the_unit = refl

pub is-opened : (r : RigUnit) → one_unit ≡ r → (d : DeviceState) → Roomy r d → IsOpened (bus_of d false false None)
is-opened r e d h = record { target_is = h.target_is ∙ ap (λ (x : RigUnit). target_opened (x ∷ [])) (sym e); room = h.room; atn = refl; ack = refl }
