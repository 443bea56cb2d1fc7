use Rattle.std.proofs.Common.{◌∙◌, ap, sym, subst, vec_len}
use Rattle.target_law.specs.Devices.{DeviceState}
use Rattle.scsi_target.specs.Held.{IsHeldDevice}
use Rattle.scsi_target.specs.Views.{device_of}
use Rattle.scsi_target.specs.declared.connection_state.ConnectionState.{ConnectionState as HeldState}
use Rattle.scsi_target.proofs.DistinctTags.{told}
use Rattle.scsi_target.proofs.Disconnects.{parted_tags}
use Rattle.scsi_target.proofs.device.Device.leave.Goals as goal

pub invariant_of-self : goal.invariant_of-self
invariant_of-self c =
    let old : IsHeldDevice (vec_len c.self.inside.units) c.self.inside.units.items c.replace-link.result c.self.inside.rogue =
    subst (λ (l : HeldState). IsHeldDevice (vec_len c.self.inside.units) c.self.inside.units.items l c.self.inside.rogue) (sym c.replace-link.ensures.value) c.self.invariant in
    record {
      device = c.left.ensures.device c.self.inside.rogue old.device;
      tags = told _ c.left.new.units.items c.left.result c.left.ensures.state (parted_tags (device_of c.self.inside.units.items c.replace-link.result).target old.tags);
    }
