use Rattle.std.proofs.Common.{refl, sym, subst, ℕ, Option}
use Rattle.std.specs.Prelude.{IsSome}
use Rattle.scsi_target.specs.Beginnings.{HasPlaceFor}
use Rattle.scsi_target.proofs.Places.{there}
use Rattle.scsi_target.proofs.Begins.{freed_device, place-of}
use Rattle.scsi_target.proofs.beginning.begin_for_nexus.Goals as goal

pub begin_for_ticket-requires-clause-place : goal.begin_for_ticket-requires-clause-place
begin_for_ticket-requires-clause-place c =
    there c.args.units.now.items c.args.nexus.lun (HasPlaceFor c.args.nexus) (place-of _ c.args.nexus (c.requires.place (subst (λ (o : Option ℕ). IsSome o) (sym c.in-Some.is) refl)))

pub returns-in-None-clause-device : goal.returns-in-None-clause-device
returns-in-None-clause-device c = freed_device _ c.args.units.now.items c.args.nexus c.args.block c.requires.device
