use Rattle.std.proofs.Common.{refl}
use Rattle.cdb_codec.specs.Blocks.{cdb_of}
use Rattle.unit_tasks.specs.declared.queued.QueuedUnit.{QueuedUnit}
use Rattle.unit_tasks.specs.Units.{unit_of}
use Rattle.scsi_target.specs.Beginnings.{HasPlaceFor}
use Rattle.scsi_target.proofs.Parted.{here}
use Rattle.scsi_target.proofs.Begins.{begun_device, begun_state}
use Rattle.scsi_target.proofs.beginning.begin_for_ticket.Goals as goal

pub returns-clause-state : goal.returns-clause-state
returns-clause-state c =
    let f = here _ c.args.nexus.lun c.args.nexus.lun (λ (q : QueuedUnit). HasPlaceFor c.args.nexus (unit_of q)) c.in-Some.unit _ c.requires.place refl c.index_mut.ensures.value c.in-Some.is in
    begun_state c.args.units.now.items c.args.nexus c.args.block.now (cdb_of c.args.block.now.bytes.items) c.args.ticket c.in-Some.unit c.begin_in_unit.new.unit c.begin_in_unit.result f.0 c.begin_in_unit.ensures.unit c.begin_in_unit.ensures.room c.begin_in_unit.ensures.link

pub returns-clause-device : goal.returns-clause-device
returns-clause-device c =
    let f = here _ c.args.nexus.lun c.args.nexus.lun (λ (q : QueuedUnit). HasPlaceFor c.args.nexus (unit_of q)) c.in-Some.unit _ c.requires.place refl c.index_mut.ensures.value c.in-Some.is in
    begun_device _ c.args.units.now.items c.args.nexus c.args.block.now c.in-Some.unit c.begin_in_unit.new.unit c.begin_in_unit.result c.requires.device f.0 c.begin_in_unit.ensures.slot c.begin_in_unit.ensures.only
