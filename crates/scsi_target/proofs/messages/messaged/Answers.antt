use Rattle.std.proofs.Common.{subst, vec_len, map}
use Rattle.target_law.specs.declared.rogue_phase.RoguePhase.TheVariants as rogue_shows
use Rattle.scsi_target.specs.Slots.{slot_of}
use Rattle.scsi_target.specs.Views.{IsDevice}
use Rattle.scsi_target.specs.declared.connection_state.ConnectionState.TheVariants as held
use Rattle.scsi_target.proofs.Acks.{where_same}
use Rattle.scsi_target.proofs.Tells.{messaged_rogue, messaged_other, relinked, rogue_device}
use Rattle.scsi_target.proofs.messages.messaged.Goals as goal

pub returns-in-RogueConnected-clause-state : goal.returns-in-RogueConnected-clause-state
returns-in-RogueConnected-clause-state c =
    let i = subst (λ l. IsDevice (vec_len c.args.units.now) c.args.units.now.items l c.requires.device.0) c.in-RogueConnected.is c.requires.device.1 in
    rw c.in-RogueConnected.is (relinked (vec_len c.args.units.now) c.args.units.now.items (held.RogueConnected c.in-RogueConnected.field-0 c.in-RogueConnected.named) (held.RogueConnected rogue_shows.ToChoose c.in-RogueConnected.named) c.requires.device.0 _ i (messaged_rogue (map slot_of c.args.units.now.items) c.in-RogueConnected.field-0 c.in-RogueConnected.named))

pub returns-in-RogueConnected-clause-device : goal.returns-in-RogueConnected-clause-device
returns-in-RogueConnected-clause-device c = λ rogue i.
    rogue_device (vec_len c.args.units.now) c.args.units.now.items c.in-RogueConnected.field-0 rogue_shows.ToChoose c.in-RogueConnected.named rogue (subst (λ l. IsDevice (vec_len c.args.units.now) c.args.units.now.items l rogue) c.in-RogueConnected.is i)

pub returns-in_default-clause-state : goal.returns-in_default-clause-state
returns-in_default-clause-state c =
    where_same (vec_len c.args.units.now) c.args.units.now.items c.args.link c.requires.device.0 _ c.requires.device.1
    (messaged_other c.args.link (map slot_of c.args.units.now.items) c.in_default.not-Selected c.in_default.not-TaskConnected c.in_default.not-RogueConnected)
