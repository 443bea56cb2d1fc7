use Rattle.std.proofs.Common.{sym, subst, vec_len}
use Rattle.target_law.specs.Target.{target_reset}
use Rattle.target_law.proofs.Tags.{tags_stay}
use Rattle.scsi_target.specs.Held.{IsHeldDevice}
use Rattle.scsi_target.specs.Views.{device_of}
use Rattle.scsi_target.specs.declared.connection_state.ConnectionState.{ConnectionState as HeldState}
use Rattle.scsi_target.proofs.DistinctTags.{told_where}
use Rattle.scsi_target.proofs.TaskCounts.{places_seen}
use Rattle.scsi_target.proofs.device.Device.reset.Goals as goal

pub invariant_of-self : goal.invariant_of-self
invariant_of-self c =
    let old : IsHeldDevice (vec_len c.self.inside.units) c.self.inside.units.items c.replace-link.result c.self.inside.rogue =
    subst (λ (l : HeldState). IsHeldDevice (vec_len c.self.inside.units) c.self.inside.units.items l c.self.inside.rogue) (sym c.replace-link.ensures.value) c.self.invariant in
    record {
      device = c.reset.ensures.device c.self.inside.rogue old.device;
      tags = told_where (device_of c.self.inside.units.items c.replace-link.result) (target_reset (device_of c.self.inside.units.items c.replace-link.result).target) c.reset.new.units.items c.reset.result c.reset.ensures.state old.tags (tags_stay.reset _ old.tags);
    }

pub returns-clause-places : goal.returns-clause-places
returns-clause-places c = places_seen c.args.self.now (vec_len c.self.inside.units) c.self.inside.units.items c.self.inside.link c.self.inside.rogue c.self.view_is c.self.invariant.device
