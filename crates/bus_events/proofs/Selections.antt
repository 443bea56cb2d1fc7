-- Select and Reselect.
use Rattle.std.proofs.Common.{◌≡◌, ℕ, ◌<◌, ◌/◌, ◌%◌, Bool, true, false, length, refl, ap, sym, ◌∙◌, subst, Option, Some, None, option_map}
use Rattle.chip_step.specs.declared.scsi_bus.Settled.TheVariants.{Selected, Reselected}
use Rattle.target_law.specs.Calls.{target_reselected}
use Rattle.bus_law.specs.Bus.{BusState, device_at}
use Rattle.bus_law.specs.Reselections.{Candidate, candidate_named, target_of, device_reselected, reselected, after_reselection, can_select, settles, device_selected, after_selection}
use Rattle.bus_events.specs.Targets.{targets, Makes}
use Rattle.bus_events.specs.Laws.{SelectMakes, ReselectMakes}
use Rattle.bus_events.proofs.Devices.{device-changed}

settled-selected : (o : Option Candidate) (b : Bool) → Selected ≡ settles o b → (o ≡ None) × (b ≡ true)
settled-selected (Some c) b e = cc
settled-selected None true e = (refl, refl)
settled-selected None false e = cc

settled-by : (o : Option Candidate) (b : Bool) (by : ℕ) → Reselected by ≡ settles o b → (c : Candidate) × (o ≡ Some c) × (c.target ≡ by)
settled-by (Some c) b by e = (c, refl, same c.target by (sym e))
  where
    same : (x y : ℕ) → Reselected x ≡ Reselected y → x ≡ y
    same x y f = cc
settled-by None true by e = cc
settled-by None false by e = cc

comes-by : (o : Option Candidate) (by : ℕ) → Some by ≡ option_map target_of o → (c : Candidate) × (o ≡ Some c) × (c.target ≡ by)
comes-by (Some c) by e = (c, refl, same c.target by (sym e))
  where
    same : (x y : ℕ) → Some x ≡ Some y → x ≡ y
    same x y f = cc
comes-by None by e = cc

none-comes : (o : Option Candidate) → None ≡ option_map target_of o → o ≡ None
none-comes (Some c) e = cc
none-comes None e = refl

-- a candidate reselects
reselected-makes : (old new : BusState) (word by : ℕ) (c : Candidate) → new ≡ reselected old word c → c.target ≡ by → by < length old.devices
    → ((lun number : ℕ) × Makes old by (target_reselected (targets old by) lun number (word / 256 % 256)) new) × (new.connected ≡ Some by)
reselected-makes old new word by c e f less =
    subst (λ z. ((lun number : ℕ) × Makes old z (target_reselected (targets old z) lun number (word / 256 % 256)) new) × (new.connected ≡ Some z)) f (
      (c.lun, c.number, ap targets e ∙ device-changed old c.target (device_reselected (device_at old c.target) word c) (subst (λ z. z < length old.devices) (sym f) less)),
      ap (λ b. b.connected) e,
    )

pub select-makes : SelectMakes
select-makes = record {
  selects = λ old new target word x less.
      let s = settled-selected (candidate_named x.0 old word) (can_select old target) x.2.0 in
      let e = x.2.1 ∙ ap (λ o. after_selection o (can_select old target) target word old) s.0 ∙ ap (λ b. after_selection None b target word old) s.1 in
      (ap targets e ∙ device-changed old target (device_selected (device_at old target)) less, ap (λ b. b.connected) e);
  reselects = λ old new target word by x less.
      let s = settled-by (candidate_named x.0 old word) (can_select old target) by x.2.0 in
      reselected-makes old new word by s.0 (x.2.1 ∙ ap (λ o. after_selection o (can_select old target) target word old) s.1) s.2 less;
}

pub reselect-makes : ReselectMakes
reselect-makes = record {
  comes = λ old new word by x less.
      let s = comes-by (candidate_named x.0 old word) by x.2.0 in
      reselected-makes old new word by s.0 (x.2.1 ∙ ap (λ o. after_reselection o word old) s.1) s.2 less;
  none = λ old new word x. x.2.1 ∙ ap (λ o. after_reselection o word old) (none-comes (candidate_named x.0 old word) x.2.0);
}
