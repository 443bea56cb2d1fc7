use Rattle.std.proofs.Common.{sym, subst, vec_len}
use Rattle.target_law.proofs.Tags.{tags_stay}
use Rattle.scsi_target.specs.Held.{IsHeldDevice}
use Rattle.scsi_target.specs.declared.connection_state.ConnectionState.{ConnectionState as HeldState}
use Rattle.scsi_target.proofs.DistinctTags.{told}
use Rattle.scsi_target.proofs.device.Device.begin_task.Goals as goal

pub invariant_of-self : goal.invariant_of-self
invariant_of-self c =
    let old : IsHeldDevice (vec_len c.self.inside.units) c.self.inside.units.items c.replace-link.result c.self.inside.rogue =
    subst (λ (l : HeldState). IsHeldDevice (vec_len c.self.inside.units) c.self.inside.units.items l c.self.inside.rogue) (sym c.replace-link.ensures.value) c.self.invariant in
    record {
      device = c.begin_from_link.ensures.device c.self.inside.rogue old.device;
      tags = told _ c.begin_from_link.new.units.items c.begin_from_link.result c.begin_from_link.ensures.state (tags_stay.begun c.args.ticket _ old.tags);
    }
