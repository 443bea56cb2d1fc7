use Rattle.std.proofs.Common.{◌≡◌, ◌∙◌, refl, ap, sym, subst, arith, vec_len, true, false, Bool, None}
use Rattle.target_law.specs.Calls.{answers}
use Rattle.target_law.specs.Devices.{DeviceState}
use Rattle.scsi_target.proofs.Views.{present_of}
use Rattle.bus_law.specs.Bus.{BusState}
use Rattle.bus_law.specs.Reselections.{candidate_named, can_select, settles, selected, after_selection}
use Rattle.target_bus.specs.Fields.{bus_of, IsHeldBus}
use Rattle.target_bus.proofs.Selections.{all-free, can-parts, selected-held, selected-is}
use Rattle.target_bus.proofs.bus.TargetBus.select_where_there.Goals as goal

pub returns-then-not-can_select : goal.returns-then-not-can_select
returns-then-not-can_select c =
    let none : can_select c.args.self.now c.args.target ≡ false = sym c.can_select.ensures.can ∙ c.if-not-can_select.true in
    record {
      settled = sym (ap (λ (t : Bool). settles None t) none);
      state = λ word. sym (ap (λ (t : Bool). after_selection None t c.args.target word c.args.self.now) none);
    }

pub index_mut-requires : goal.index_mut-requires
index_mut-requires c =
    let within = c.can_select.ensures.within c.if-not-can_select.false in
    let counted = c.self.invariant.counted in
    omega arith

pub select-requires : goal.select-requires
select-requires c =
    let bus : BusState = bus_of c.self.inside.devices.items c.self.inside.connected c.self.inside.atn c.self.inside.ack c.self.inside.asked in
    let can : true ≡ can_select bus c.args.target = sym c.if-not-can_select.false ∙ c.can_select.ensures.can ∙ sym (ap (λ (b : BusState). can_select b c.args.target) c.self.view_is) in
    let parts = can-parts bus c.args.target can in
    let free = all-free (vec_len c.self.inside.devices) bus c.args.target c.index_mut.result.now c.self.invariant parts.0 (c.can_select.ensures.within c.if-not-can_select.false) c.index_mut.ensures.value in
    record {
      free = free.1;
      present = present_of c.index_mut.result.now.target true (sym parts.1 ∙ ap (λ (d : DeviceState). answers d.target) (sym free.0)) refl;
    }

pub invariant_of-self : goal.invariant_of-self
invariant_of-self c =
    let bus : BusState = bus_of c.self.inside.devices.items c.self.inside.connected c.self.inside.atn c.self.inside.ack c.self.inside.asked in
    let can : true ≡ can_select bus c.args.target = sym c.if-not-can_select.false ∙ c.can_select.ensures.can ∙ sym (ap (λ (b : BusState). can_select b c.args.target) c.self.view_is) in
    let parts = can-parts bus c.args.target can in
    let free = all-free (vec_len c.self.inside.devices) bus c.args.target c.index_mut.result.now c.self.invariant parts.0 (c.can_select.ensures.within c.if-not-can_select.false) c.index_mut.ensures.value in
    let is = selected-is bus c.args.target c.index_mut.result.now c.select.new.self free.0 c.select.ensures in
    let named : None ≡ candidate_named c.requires.0 bus c.requires.1 = c.requires.2 ∙ sym (ap (λ (b : BusState). candidate_named c.requires.0 b c.requires.1) c.self.view_is) in
    subst (IsHeldBus (vec_len c.self.inside.devices)) (sym is) (selected-held (vec_len c.self.inside.devices) c.requires.0 bus c.args.target c.requires.1 c.self.invariant named can parts.0)

pub returns : goal.returns
returns c =
    let bus : BusState = bus_of c.self.inside.devices.items c.self.inside.connected c.self.inside.atn c.self.inside.ack c.self.inside.asked in
    let can : true ≡ can_select bus c.args.target = sym c.if-not-can_select.false ∙ c.can_select.ensures.can ∙ sym (ap (λ (b : BusState). can_select b c.args.target) c.self.view_is) in
    let now : true ≡ can_select c.args.self.now c.args.target = sym c.if-not-can_select.false ∙ c.can_select.ensures.can in
    let parts = can-parts bus c.args.target can in
    let free = all-free (vec_len c.self.inside.devices) bus c.args.target c.index_mut.result.now c.self.invariant parts.0 (c.can_select.ensures.within c.if-not-can_select.false) c.index_mut.ensures.value in
    let is = selected-is bus c.args.target c.index_mut.result.now c.select.new.self free.0 c.select.ensures in
    record {
      settled = ap (λ (t : Bool). settles None t) now;
      state = λ word. is ∙ ap (λ (b : BusState). selected b c.args.target) c.self.view_is ∙ ap (λ (t : Bool). after_selection None t c.args.target word c.args.self.now) now;
    }
