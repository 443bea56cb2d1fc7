use Rattle.std.proofs.Common.{◌∙◌, sym, ap, subst, vec_len, map, List, Option}
use Rattle.unit_tasks.specs.declared.queued.QueuedUnit.{QueuedUnit}
use Rattle.scsi_target.specs.Slots.{slot_after}
use Rattle.scsi_target.specs.Views.{device_of, IsDevice}
use Rattle.scsi_target.specs.declared.connection_state.ConnectionState.TheVariants as held
use Rattle.scsi_target.proofs.Resets.{without_room, without_state, device_reset, none_busy}
use Rattle.scsi_target.proofs.resetting.reset_without.Goals as goal

pub returns-then-not-can_reset_all-clause-state : goal.returns-then-not-can_reset_all-clause-state
returns-then-not-can_reset_all-clause-state c = without_room c.args.units.now.items c.args.link c.requires.none (sym c.can_reset_all.ensures ∙ c.if-not-can_reset_all.true)

pub returns-clause-state : goal.returns-clause-state
returns-clause-state c =
    ap (λ (xs : List (Option QueuedUnit)). device_of xs held.BusFree) c.reset_all.ensures.units
    ∙ without_state c.args.units.now.items c.args.link c.requires.none (sym c.can_reset_all.ensures ∙ c.if-not-can_reset_all.false)

pub returns-clause-device : goal.returns-clause-device
returns-clause-device c = λ rogue i.
    subst (λ (xs : List (Option QueuedUnit)). IsDevice (vec_len c.reset_all.new.units) xs held.BusFree rogue) (sym c.reset_all.ensures.units)
    (subst (λ n. IsDevice n (map slot_after c.args.units.now.items) held.BusFree rogue) (sym c.reset_all.ensures.len)
    (device_reset (vec_len c.args.units.now) c.args.units.now.items c.args.link rogue i (none_busy c.args.link c.requires.none) (sym c.can_reset_all.ensures ∙ c.if-not-can_reset_all.false)))
