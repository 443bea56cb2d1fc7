-- One device of a bus changes: its targets.
use Rattle.std.proofs.Common.{◌≡◌, ◌≢◌, ℕ, ◌<◌, Bool, true, false, length, slice_set, slice_index_or, refl, ap, sym, ◌∙◌, Some, ◌⊎◌, inl, inr, cond}
use Rattle.std.proofs.lemmas.List.{get_or-set_same, get_or-set_other}
use Rattle.unit_law.specs.Log.{with_at}
use Rattle.unit_law.proofs.Views.{with_at-same, with_at-other, same_or_not}
use Rattle.target_law.specs.Target.{ConnectionState, Target}
use Rattle.target_law.specs.Calls.{link_phase}
use Rattle.target_law.specs.Devices.{DeviceState, lie_within, where_room}
use Rattle.bus_law.specs.Bus.{BusState, no_device, link_on, device_of, free_if, with_device, becomes}
use Rattle.bus_events.specs.Targets.{targets}

funext : {A B : Type 0} (f g : A → B) → ((x : A) → f x ≡ g x) → f ≡ g
funext f g p = λ i. λ x. p x i

pub device-changed : (b : BusState) (id : ℕ) (d : DeviceState) → id < length b.devices → targets (with_device b id d) ≡ with_at (targets b) id d.target
device-changed b id d less = funext (targets (with_device b id d)) (with_at (targets b) id d.target) (λ k. by k (same_or_not k id))
  where
    by : (k : ℕ) → (k ≡ id) ⊎ (k ≢ id) → targets (with_device b id d) k ≡ with_at (targets b) id d.target k
    by k (inl q) =
        ap (λ n. (slice_index_or (slice_set b.devices id d) n no_device).target) q ∙ ap (λ (x : DeviceState). x.target) (get_or-set_same b.devices id d no_device less)
        ∙ sym (ap (with_at (targets b) id d.target) q ∙ with_at-same (targets b) id d.target)
    by k (inr n) = ap (λ (x : DeviceState). x.target) (get_or-set_other b.devices id k d no_device n) ∙ sym (with_at-other (targets b) id d.target k n)

free-targets : (f : Bool) (b : BusState) → targets (free_if f b) ≡ targets b
free-targets true b = refl
free-targets false b = refl

pub device-becomes : (b : BusState) (id : ℕ) (d : DeviceState) → id < length b.devices → targets (becomes b id d) ≡ with_at (targets b) id d.target
device-becomes b id d less = free-targets _ (with_device b id d) ∙ device-changed b id d less

-- where there is room, the device has the new target
pub roomy : (d : DeviceState) (t : Target) → lie_within t.units d.rooms ≡ true → where_room d t ≡ record { target = t; rooms = d.rooms }
unfolding where_room
roomy d t e = ap (λ b. cond b (record { target = t; rooms = d.rooms }) d) e

-- the link of the connected device
pub link-is : (b : BusState) (id : ℕ) (l : ConnectionState) → b.connected ≡ Some id → (targets b id).link ≡ l → link_on b ≡ l
link-is b id l e f = ap (λ o. (device_of b o).target.link) e ∙ f

pub phase-on : (b : BusState) (id : ℕ) (l : ConnectionState) → b.connected ≡ Some id → (targets b id).link ≡ l → link_phase (link_on b) ≡ link_phase l
phase-on b id l e f = ap link_phase (link-is b id l e f)

-- a target in its own place
pub same-target : (f : ℕ → Target) (id : ℕ) → with_at f id (f id) ≡ f
same-target f id = funext (with_at f id (f id)) f (λ k. by k (same_or_not k id))
  where
    by : (k : ℕ) → (k ≡ id) ⊎ (k ≢ id) → with_at f id (f id) k ≡ f k
    by k (inl q) = ap (with_at f id (f id)) q ∙ with_at-same f id (f id) ∙ ap f (sym q)
    by k (inr n) = with_at-other f id (f id) k n
