use Rattle.std.proofs.Common.{◌≡◌, ◌∙◌, ap, sym, refl, false, vec_len, map, List, ℕ}
use Rattle.target_law.specs.Target.{Target}
use Rattle.target_law.specs.Calls.{message_of}
use Rattle.target_law.specs.Devices.{where_room}
use Rattle.scsi_target.specs.Slots.{slot_of}
use Rattle.scsi_target.specs.Messages.{read_of}
use Rattle.scsi_target.specs.Views.{device_of}
use Rattle.scsi_target.specs.declared.connection_state.ConnectionState.TheVariants as held
use Rattle.scsi_target.specs.declared.initiator_message.InitiatorMessage.TheVariants as read
use Rattle.scsi_target.proofs.Tells.{names_are, resets_are, greeted_names, greeted_resets, greeted_frees, relinked, idle_device}
use Rattle.scsi_target.proofs.messages.greet.Goals as goal

pub returns-in-Names-clause-state : goal.returns-in-Names-clause-state
returns-in-Names-clause-state c =
    let m : read_of (message_of c.args.heard.bytes.items) ≡ read.Names c.in-Names.nexus = sym (c.read_message.ensures ∙ ap (λ (h : List ℕ). read_of (message_of h)) c.as_slice.ensures) ∙ c.in-Names.is in
    relinked (vec_len c.args.units.now) c.args.units.now.items (held.Selected c.args.heard) c.commanded.result false _ c.requires
    (greeted_names (map slot_of c.args.units.now.items) c.args.heard.bytes.items c.in-Names.nexus (names_are (message_of c.args.heard.bytes.items) c.in-Names.nexus m)
    ∙ sym (ap (λ l. record { units = map slot_of c.args.units.now.items; link = l }) c.commanded.ensures.link))

pub returns-in-Names-clause-device : goal.returns-in-Names-clause-device
returns-in-Names-clause-device c = idle_device (vec_len c.args.units.now) c.args.units.now.items c.args.heard c.commanded.result c.requires c.commanded.ensures.idle c.commanded.ensures.linked

pub returns-in-Resets-clause-state : goal.returns-in-Resets-clause-state
returns-in-Resets-clause-state c =
    let m : read_of (message_of c.args.heard.bytes.items) ≡ read.Resets = sym (c.read_message.ensures ∙ ap (λ (h : List ℕ). read_of (message_of h)) c.as_slice.ensures) ∙ c.in-Resets.is in
    c.reset_without.ensures.state
    ∙ ap (λ (t : Target). where_room (device_of c.args.units.now.items (held.Selected c.args.heard)) t) (sym (greeted_resets (map slot_of c.args.units.now.items) c.args.heard.bytes.items (resets_are (message_of c.args.heard.bytes.items) m)))

pub returns-in-Resets-clause-device : goal.returns-in-Resets-clause-device
returns-in-Resets-clause-device c = c.reset_without.ensures.device false c.requires

pub returns-in-AbortsTag-clause-state : goal.returns-in-AbortsTag-clause-state
returns-in-AbortsTag-clause-state c =
    relinked (vec_len c.args.units.now) c.args.units.now.items (held.Selected c.args.heard) held.BusFree false _ c.requires
    (greeted_frees (map slot_of c.args.units.now.items) c.args.heard.bytes.items c.read_message.result (c.read_message.ensures ∙ ap (λ (h : List ℕ). read_of (message_of h)) c.as_slice.ensures) c.in-AbortsTag.is)

pub returns-in-AbortsTag-clause-device : goal.returns-in-AbortsTag-clause-device
returns-in-AbortsTag-clause-device c = idle_device (vec_len c.args.units.now) c.args.units.now.items c.args.heard held.BusFree c.requires (λ k. refl) tt
