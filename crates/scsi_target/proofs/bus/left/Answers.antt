use Rattle.std.proofs.Common.{◌≡◌, ◌∙◌, refl, sym, ap, subst, false, vec_len, Bool}
use Rattle.target_law.specs.Target.{Target, BusFree, linked, parted}
use Rattle.scsi_target.specs.Slots.{room_of}
use Rattle.scsi_target.specs.Views.{device_of, IsDevice}
use Rattle.scsi_target.specs.declared.connection_state.ConnectionState.{ConnectionState as HeldState}
use Rattle.scsi_target.specs.declared.connection_state.ConnectionState.TheVariants as held
use Rattle.scsi_target.proofs.Acks.{keeps_rules}
use Rattle.scsi_target.proofs.Resets.{no_task}
use Rattle.scsi_target.proofs.Disconnects.{parted_is, idle_is, idle_device}
use Rattle.scsi_target.proofs.bus.left.Goals as goal

pub returns-in-TaskConnected-clause-state : goal.returns-in-TaskConnected-clause-state
returns-in-TaskConnected-clause-state c =
    let i = subst (λ (l : HeldState). IsDevice (vec_len c.args.units.now) c.args.units.now.items l c.requires.device.0) c.in-TaskConnected.is c.requires.device.1 in
    let j = subst (λ (b : Bool). IsDevice (vec_len c.args.units.now) c.args.units.now.items (held.TaskConnected c.in-TaskConnected.connection) b) (keeps_rules _ _ c.in-TaskConnected.connection c.requires.device.0 i) i in
    rw c.in-TaskConnected.is (parted_is (vec_len c.args.units.now) c.args.units.now.items c.part.new.units.items c.in-TaskConnected.connection c.part.result j c.part.ensures.state)

pub returns-in_default : goal.returns-in_default
returns-in_default c =
    let none = no_task c.args.link c.in_default.not-TaskConnected in
    record {
      state = idle_is c.args.units.now.items c.args.link none;
      device = λ rogue i. idle_device (vec_len c.args.units.now) c.args.units.now.items c.args.link rogue none i;
    }
