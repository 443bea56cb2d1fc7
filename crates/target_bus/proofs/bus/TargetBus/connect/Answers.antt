use Rattle.std.proofs.Common.{◌≡◌, ◌<◌, ◌∙◌, ap, sym, subst, arith, vec_len, Some}
use Rattle.target_law.specs.Target.{unit_at}
use Rattle.target_law.specs.Devices.{DeviceState}
use Rattle.bus_law.specs.Bus.{BusState}
use Rattle.bus_law.specs.Reselections.{candidate_count, candidate_named, reselected}
use Rattle.target_bus.specs.Fields.{bus_of, IsHeldBus}
use Rattle.target_bus.specs.Candidates.{candidate_of, CanReselect}
use Rattle.target_bus.proofs.CandidateCounts.{below-count}
use Rattle.target_bus.proofs.Selections.{candidate-within, all-free, reselected-held, reselected-is}
use Rattle.target_bus.proofs.bus.TargetBus.connect.Goals as goal

pub index_mut-requires : goal.index_mut-requires
index_mut-requires c =
    let bus : BusState = bus_of c.self.inside.devices.items c.self.inside.connected c.self.inside.atn c.self.inside.ack c.self.inside.asked in
    let can : CanReselect bus (candidate_of c.args.candidate.now) = subst (λ (b : BusState). CanReselect b (candidate_of c.args.candidate.now)) (sym c.self.view_is) c.requires.2 in
    let within = candidate-within (vec_len c.self.inside.devices) bus (candidate_of c.args.candidate.now) c.self.invariant can.unit in
    let counted = c.self.invariant.counted in
    omega arith

pub reselect-requires : goal.reselect-requires
reselect-requires c =
    let bus : BusState = bus_of c.self.inside.devices.items c.self.inside.connected c.self.inside.atn c.self.inside.ack c.self.inside.asked in
    let can : CanReselect bus (candidate_of c.args.candidate.now) = subst (λ (b : BusState). CanReselect b (candidate_of c.args.candidate.now)) (sym c.self.view_is) c.requires.2 in
    let within = candidate-within (vec_len c.self.inside.devices) bus (candidate_of c.args.candidate.now) c.self.invariant can.unit in
    let free = all-free (vec_len c.self.inside.devices) bus c.args.candidate.now.target c.index_mut.result.now c.self.invariant can.free within c.index_mut.ensures.value in
    record {
      free = free.1;
      candidate = below-count _ _ (subst (λ (d : DeviceState). c.args.candidate.now.number < candidate_count (unit_at d.target.units c.args.candidate.now.lun)) (sym free.0) can.unit);
    }

pub invariant_of-self : goal.invariant_of-self
invariant_of-self c =
    let bus : BusState = bus_of c.self.inside.devices.items c.self.inside.connected c.self.inside.atn c.self.inside.ack c.self.inside.asked in
    let can : CanReselect bus (candidate_of c.args.candidate.now) = subst (λ (b : BusState). CanReselect b (candidate_of c.args.candidate.now)) (sym c.self.view_is) c.requires.2 in
    let within = candidate-within (vec_len c.self.inside.devices) bus (candidate_of c.args.candidate.now) c.self.invariant can.unit in
    let free = all-free (vec_len c.self.inside.devices) bus c.args.candidate.now.target c.index_mut.result.now c.self.invariant can.free within c.index_mut.ensures.value in
    let is = reselected-is bus c.args.word (candidate_of c.args.candidate.now) c.index_mut.result.now c.reselect.new.self free.0 c.reselect.ensures in
    let named : Some (candidate_of c.args.candidate.now) ≡ candidate_named c.requires.0 bus c.args.word = c.requires.1 ∙ sym (ap (λ (b : BusState). candidate_named c.requires.0 b c.args.word) c.self.view_is) in
    subst (IsHeldBus (vec_len c.self.inside.devices)) (sym is) (reselected-held (vec_len c.self.inside.devices) c.requires.0 bus c.args.word (candidate_of c.args.candidate.now) c.self.invariant named can.free)

pub returns : goal.returns
returns c =
    let bus : BusState = bus_of c.self.inside.devices.items c.self.inside.connected c.self.inside.atn c.self.inside.ack c.self.inside.asked in
    let can : CanReselect bus (candidate_of c.args.candidate.now) = subst (λ (b : BusState). CanReselect b (candidate_of c.args.candidate.now)) (sym c.self.view_is) c.requires.2 in
    let within = candidate-within (vec_len c.self.inside.devices) bus (candidate_of c.args.candidate.now) c.self.invariant can.unit in
    let free = all-free (vec_len c.self.inside.devices) bus c.args.candidate.now.target c.index_mut.result.now c.self.invariant can.free within c.index_mut.ensures.value in
    reselected-is bus c.args.word (candidate_of c.args.candidate.now) c.index_mut.result.now c.reselect.new.self free.0 c.reselect.ensures
    ∙ ap (λ (b : BusState). reselected b c.args.word (candidate_of c.args.candidate.now)) c.self.view_is
