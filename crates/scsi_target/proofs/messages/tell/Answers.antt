use Rattle.std.proofs.Common.{◌≡◌, ◌∙◌, ap, sym, map, List, ℕ, Bool}
use Rattle.target_law.specs.Target.{Target}
use Rattle.target_law.specs.Calls.{message_of}
use Rattle.target_law.specs.Devices.{where_room}
use Rattle.scsi_target.specs.Slots.{slot_of}
use Rattle.scsi_target.specs.Messages.{read_of, exit_for}
use Rattle.scsi_target.specs.TaskExits.{target_by}
use Rattle.scsi_target.specs.Views.{device_of}
use Rattle.scsi_target.specs.declared.connection_state.ConnectionState.TheVariants as held
use Rattle.scsi_target.specs.declared.task_exit.TaskExit.{TaskExit}
use Rattle.scsi_target.specs.declared.initiator_message.InitiatorMessage.{InitiatorMessage}
use Rattle.scsi_target.specs.declared.initiator_message.InitiatorMessage.TheVariants as read
use Rattle.scsi_target.proofs.Tells.{resets_are, told_resets, told_parts}
use Rattle.scsi_target.proofs.messages.tell.Goals as goal

pub returns-in-Resets-clause-state : goal.returns-in-Resets-clause-state
returns-in-Resets-clause-state c =
    let m : read_of (message_of c.args.connection.heard) ≡ read.Resets = sym (c.read_message.ensures ∙ ap (λ (h : List ℕ). read_of (message_of h)) c.heard.ensures) ∙ c.in-Resets.is in
    c.reset_with.ensures.state
    ∙ ap (λ (t : Target). where_room (device_of c.args.units.now.items (held.TaskConnected c.args.connection)) t) (sym (told_resets (map slot_of c.args.units.now.items) c.args.connection (resets_are (message_of c.args.connection.heard) m)))

pub returns-in_default : goal.returns-in_default
returns-in_default c =
    let r : c.read_message.result ≡ read_of (message_of c.args.connection.heard) = c.read_message.ensures ∙ ap (λ (h : List ℕ). read_of (message_of h)) c.heard.ensures in
    let how : c.exit_for-how.result ≡ exit_for (read_of (message_of c.args.connection.heard)) c.args.connection.reselected =
    c.exit_for-how.ensures ∙ ap (λ (b : Bool). exit_for c.read_message.result b) c.is_reselected.ensures ∙ ap (λ (h : InitiatorMessage). exit_for h c.args.connection.reselected) r in
    let d = device_of c.args.units.now.items (held.TaskConnected c.args.connection) in
    record {
      state = c.part.ensures.state
          ∙ ap (λ (p : TaskExit). where_room (device_of c.args.units.now.items (held.TaskConnected c.args.connection)) (target_by p (device_of c.args.units.now.items (held.TaskConnected c.args.connection)).target c.args.connection)) how
          ∙ ap (λ (t : Target). where_room (device_of c.args.units.now.items (held.TaskConnected c.args.connection)) t) (sym (told_parts (map slot_of c.args.units.now.items) c.args.connection (λ e. c.in_default.not-Resets (r ∙ e))));
      device = c.part.ensures.device;
    }
