use Rattle.std.proofs.Common.{subst, vec_len}
use Rattle.scsi_target.specs.Views.{IsDevice}
use Rattle.scsi_target.specs.declared.connection_state.ConnectionState.TheVariants as held
use Rattle.scsi_target.proofs.Acks.{acked_rogue, acked_other, device_on, rogue_holds_on, where_same}
use Rattle.scsi_target.proofs.messages.acked.Goals as goal

pub returns-in-RogueConnected-clause-state : goal.returns-in-RogueConnected-clause-state
returns-in-RogueConnected-clause-state c =
    let i = subst (λ l. IsDevice (vec_len c.args.units.now) c.args.units.now.items l c.requires.device.0) c.in-RogueConnected.is c.requires.device.1 in
    rw c.in-RogueConnected.is (acked_rogue (vec_len c.args.units.now) c.args.units.now.items c.in-RogueConnected.shown c.heard.result c.in-RogueConnected.named c.requires.device.0 i c.heard.ensures)

pub returns-in-RogueConnected-clause-device : goal.returns-in-RogueConnected-clause-device
returns-in-RogueConnected-clause-device c = λ rogue i. device_on (vec_len c.args.units.now) c.args.units.now.items (held.RogueConnected c.in-RogueConnected.shown c.in-RogueConnected.named) (held.RogueConnected c.heard.result c.in-RogueConnected.named) rogue (subst (λ l. IsDevice (vec_len c.args.units.now) c.args.units.now.items l rogue) c.in-RogueConnected.is i) (rogue_holds_on _ _ _)

pub returns-in_default : goal.returns-in_default
returns-in_default c = record {
  state = where_same (vec_len c.args.units.now) c.args.units.now.items c.args.link c.requires.device.0 _ c.requires.device.1 (acked_other c.args.link _ c.in_default.not-TaskConnected c.in_default.not-RogueConnected);
  device = λ rogue i. i;
}
