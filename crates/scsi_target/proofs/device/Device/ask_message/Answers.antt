use Rattle.std.proofs.Common.{ap, sym, subst}
use Rattle.target_law.specs.Bytes.{Connection}
use Rattle.target_law.specs.Target.{ConnectionState, TaskConnected}
use Rattle.target_law.specs.Sound.{HaveDistinctTags}
use Rattle.target_law.proofs.Tags.{tags_stay}
use Rattle.scsi_target.specs.Views.{device_of}
use Rattle.scsi_target.specs.contracts.device.Device.{the_invariant}
use Rattle.scsi_target.specs.declared.connection_state.ConnectionState.{ConnectionState as HeldState}
use Rattle.scsi_target.specs.declared.connection_state.ConnectionState.TheVariants as held
use Rattle.scsi_target.proofs.DeviceCalls.{device_told}
use Rattle.scsi_target.proofs.DistinctTags.{relinked}
use Rattle.scsi_target.proofs.device.Device.ask_message.Goals as goal
use Rattle.scsi_target.proofs.device.Device.ask_message.Goals.{in-TaskConnected, in_default}

pub invariant_of-self : goal.invariant_of-self
invariant_of-self c = elim c.match-self.branch [
  | in-TaskConnected w ↦ subst the_invariant (sym w.self-inside-is) (record {
    device = device_told _ _ _ _ w.in-TaskConnected.connection w.ask_message.new.self c.self.invariant.device w.in-TaskConnected.is (ap (λ (x : Connection). x.lun) w.ask_message.ensures.connection) w.ask_message.ensures.sound;
    tags = relinked c.self.inside.units.items (held.TaskConnected w.ask_message.new.self) _ (ap (λ (x : Connection). TaskConnected x) w.ask_message.ensures.connection)
        (tags_stay.asked (device_of c.self.inside.units.items (held.TaskConnected w.in-TaskConnected.connection)).target
        (subst (λ (l : HeldState). HaveDistinctTags (device_of c.self.inside.units.items l).target) w.in-TaskConnected.is c.self.invariant.tags));
  })
  | in_default w ↦ subst the_invariant (sym w.self-inside-is) c.self.invariant
]
