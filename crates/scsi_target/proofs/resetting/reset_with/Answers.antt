use Rattle.std.proofs.Common.{◌∙◌, sym, ap, subst, vec_len, map, false, List, Option}
use Rattle.unit_tasks.specs.declared.queued.QueuedUnit.{QueuedUnit}
use Rattle.target_law.specs.Target.{target_reset}
use Rattle.scsi_target.specs.Slots.{slot_after}
use Rattle.scsi_target.specs.Views.{device_of, IsDevice}
use Rattle.scsi_target.specs.declared.connection_state.ConnectionState.TheVariants as held
use Rattle.target_law.proofs.Rooms.{where_false}
use Rattle.scsi_target.proofs.Resets.{with_can, with_state, with_busy, device_reset}
use Rattle.scsi_target.proofs.resetting.reset_with.Goals as goal

pub returns-then-not-can_reset_with-clause-state : goal.returns-then-not-can_reset_with-clause-state
returns-then-not-can_reset_with-clause-state c =
    let d = device_of c.args.units.now.items (held.TaskConnected c.args.connection) in
    sym (where_false d (target_reset d.target) (sym c.can_reset_with.ensures ∙ c.if-not-can_reset_with.true))

pub reset_all-requires : goal.reset_all-requires
reset_all-requires c =
    with_can (vec_len c.args.units.now) c.args.units.now.items c.part.new.units.items c.args.connection c.part.result c.requires c.part.ensures.state (sym c.can_reset_with.ensures ∙ c.if-not-can_reset_with.false)

pub returns-clause-state : goal.returns-clause-state
returns-clause-state c =
    ap (λ (xs : List (Option QueuedUnit)). device_of xs held.BusFree) c.reset_all.ensures.units
    ∙ with_state (vec_len c.args.units.now) c.args.units.now.items c.part.new.units.items c.args.connection c.part.result c.requires c.part.ensures.state (sym c.can_reset_with.ensures ∙ c.if-not-can_reset_with.false)

pub returns-clause-device : goal.returns-clause-device
returns-clause-device c =
    let can = with_can (vec_len c.args.units.now) c.args.units.now.items c.part.new.units.items c.args.connection c.part.result c.requires c.part.ensures.state (sym c.can_reset_with.ensures ∙ c.if-not-can_reset_with.false) in
    let free = with_busy (vec_len c.args.units.now) c.args.units.now.items c.part.new.units.items c.args.connection c.part.result c.requires c.part.ensures.state in
    subst (λ (xs : List (Option QueuedUnit)). IsDevice (vec_len c.reset_all.new.units) xs held.BusFree false) (sym c.reset_all.ensures.units)
    (subst (λ n. IsDevice n (map slot_after c.part.new.units.items) held.BusFree false) (sym c.reset_all.ensures.len)
    (device_reset (vec_len c.part.new.units) c.part.new.units.items c.part.result false c.part.ensures.device free can))
