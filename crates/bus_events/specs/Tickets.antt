-- What each call of the bus makes of the tickets: of the one whose task is connected, and of all of a target at its reset. Source: own.
use Rattle.std.specs.Prelude.{ℕ, Bool, true, false, Option, Some, None}
use Rattle.scsi_words.specs.declared.phases.kinds.Phase.{Phase as BusPhase}
use Rattle.rig_types.specs.declared.report.Outcome.TheVariants.{Done, Cut}
use Rattle.chip_step.specs.Event.{Event, Phase, Shown, ByteIn, ByteOut, Select, Reselect, SetAtn, ClearAck, Leave}
use Rattle.chip_step.specs.declared.scsi_bus.Settled.TheVariants.{Selected as IsSelected, Reselected, TimedOut}
use Rattle.unit_law.specs.Log.{with_at}
use Rattle.target_law.specs.declared.task_phase.TargetMessage.{TargetMessage}
use Rattle.target_law.specs.declared.task_phase.TargetMessage.TheVariants.{CommandComplete, Disconnect}
use Rattle.target_law.specs.declared.task_phase.TaskPhase.{TaskPhase}
use Rattle.target_law.specs.declared.task_phase.TaskPhase.TheVariants.{MessageOut, MessageIn}
use Rattle.target_law.specs.declared.task_phase.Completion.{Completion}
use Rattle.target_law.specs.declared.task_phase.Completion.TheVariants.{Answered, Refused}
use Rattle.target_law.specs.Session.{Task}
use Rattle.target_law.specs.Bytes.{Connection, sent_by, heard_by, away}
use Rattle.target_law.specs.Target.{ConnectionState, TakingCommand, TaskConnected, Target}
use Rattle.target_law.specs.Target as connection_state
use Rattle.target_law.specs.Calls.{link_phase, link_byte, InitiatorMessage, Resets, AbortsTag, message_of}
use Rattle.bus_law.specs.Bus.{BusState, link_on}
use Rattle.bus_law.specs.Attention.{is_message_out}
use Rattle.ticket_fate.specs.Tickets.{Plan, Life, Connected, Away, Finished, Rejected, AskConnected, Asked, Ticket, with_life, ticket_sent, ticket_asked}
use Rattle.ticket_fate.specs.Linked.{ByDevice, reset_tickets}
use Rattle.ticket_fate.specs.Moves.{parts_ticket}
use Rattle.bus_events.specs.Targets.{targets}

-- a byte of the data goes to its place in the buffer or in the sense area, a status byte into the block
abbrev pub ticket_by : (senses : Bool) → Connection → (b : ℕ) → Ticket → Ticket
ticket_by false c b k = ticket_sent c.shows c.task.position b k (sent_by c.shows c).task
ticket_by true c b k = ticket_asked c.shows c.task.position b k (sent_by c.shows c).task

-- its command begins, or its REQUEST SENSE
abbrev pub begun_life : (senses : Bool) → Life
begun_life true = AskConnected
begun_life false = Connected

-- its task has completed, or its sense task
abbrev pub completed_life : (senses : Bool) → Completion → Life
completed_life true v = Asked
completed_life false (Answered st) = Finished Done
completed_life false (Refused st) = Rejected st

module _ (ks : ℕ → Ticket) where
  -- the ticket of a connection has its task as it is then
  abbrev pub with_task : Connection → Task → ℕ → Ticket
  with_task c k = with_at ks c.task.ticket (record (ks c.task.ticket) { task = k })

  -- the task of a connection comes to the bus, or leaves it
  abbrev pub comes : Life → Connection → ℕ → Ticket
  comes l c = with_at ks c.task.ticket (record (ks c.task.ticket) { life = l; task = c.task })

  abbrev pub goes : Connection → ℕ → Ticket
  goes c = with_at ks c.task.ticket (record (ks c.task.ticket) { life = Away; task = away c.task })

  abbrev pub ends_as : Life → Connection → ℕ → Ticket
  ends_as l c = with_at ks c.task.ticket (with_life (ks c.task.ticket) l)

  -- Phase and Leave: a task that was to choose has moved, or hears a message; of a target that shows a phase nothing changes
  abbrev pub after_choice : Option BusPhase → (old new : ConnectionState) → ℕ → Ticket
  after_choice None (TaskConnected c) (TaskConnected d) = with_task c d.task
  after_choice shown old new = ks

  -- ByteIn
  abbrev pub after_sent : Option ℕ → ConnectionState → ℕ → Ticket
  after_sent (Some b) (TaskConnected c) = with_at ks c.task.ticket (ticket_by c.task.senses c b (ks c.task.ticket))
  after_sent byte link = ks

  -- ByteOut
  abbrev pub after_taken : (taken : Bool) → (old new : ConnectionState) → ℕ → Ticket
  after_taken true (TaskConnected c) (TaskConnected d) = with_task c d.task
  after_taken true (TakingCommand n bytes) (TaskConnected d) = comes (begun_life d.task.senses) d
  after_taken taken old new = ks

  -- Select and Reselect: a task may reselect
  abbrev pub after_reselection : ConnectionState → ℕ → Ticket
  after_reselection (TaskConnected d) = comes Connected d
  after_reselection new = ks

  -- ClearAck: a message of the target acts
  abbrev pub after_heard : TargetMessage → Connection → ℕ → Ticket
  after_heard (CommandComplete v) c = ends_as (completed_life c.task.senses v) c
  after_heard Disconnect c = goes c
  after_heard n c = with_task c (heard_by n c).task

  abbrev pub after_shown : TaskPhase → Connection → ℕ → Ticket
  after_shown (MessageIn n sent) c = after_heard n c
  after_shown shows c = ks

  abbrev pub after_ack : (ack : Bool) → ConnectionState → ℕ → Ticket
  after_ack true (TaskConnected c) = after_shown c.shows c
  after_ack ack link = ks

  -- SetAtn: a message of the initiator acts. ABORT TAG after a reselection cuts the ticket, BUS DEVICE RESET resets those of the target,
  -- and any other message sends the task away.
  module _ (g : Plan) (i : ℕ) (t : Target) where
    abbrev pub after_abort : (reselected : Bool) → Connection → ℕ → Ticket
    after_abort true c = ends_as (Finished Cut) c
    after_abort false c = goes c

    abbrev pub after_told : InitiatorMessage → Connection → ℕ → Ticket
    after_told Resets c = reset_tickets g i ByDevice t (with_at ks c.task.ticket (parts_ticket ks c))
    after_told AbortsTag c = after_abort c.reselected c
    after_told m c = goes c

    abbrev pub after_greeting : InitiatorMessage → ℕ → Ticket
    after_greeting Resets = reset_tickets g i ByDevice t ks
    after_greeting m = ks

    abbrev pub after_message : (shown : Bool) → ConnectionState → ℕ → Ticket
    after_message true (connection_state.Selected heard) = after_greeting (message_of heard)
    after_message true (TaskConnected c) = after_told (message_of c.heard) c
    after_message shown link = ks

abbrev pub after_attention : Plan → BusState → Option ℕ → (ℕ → Ticket) → ℕ → Ticket
after_attention g b (Some id) ks = after_message ks g id (targets b id) (is_message_out (link_phase (targets b id).link)) (targets b id).link
after_attention g b None ks = ks

-- whether a message of the initiator is BUS DEVICE RESET, and the call that releases ATN after it
abbrev pub is_reset : InitiatorMessage → Bool
is_reset Resets = true
is_reset m = false

abbrev pub task_resets : TaskPhase → Connection → Bool
task_resets MessageOut c = is_reset (message_of c.heard)
task_resets shows c = false

abbrev pub link_resets : ConnectionState → Bool
link_resets (connection_state.Selected heard) = is_reset (message_of heard)
link_resets (TaskConnected c) = task_resets c.shows c
link_resets link = false

abbrev pub resets_device : BusState → Event → Bool
resets_device b (SetAtn false) = link_resets (link_on b)
resets_device b event = false

-- the tickets after a call
abbrev pub tickets_after : Plan → BusState → Event → BusState → (ℕ → Ticket) → ℕ → Ticket
tickets_after g old (Phase word shown) new ks = after_choice ks (link_phase (link_on old)) (link_on old) (link_on new)
tickets_after g old (Shown shown) new ks = ks
tickets_after g old (ByteIn None) new ks = ks
tickets_after g old (ByteIn (Some byte)) new ks = after_sent ks (link_byte (link_on old)) (link_on old)
tickets_after g old (ByteOut byte taken) new ks = after_taken ks taken (link_on old) (link_on new)
tickets_after g old (Select target word IsSelected) new ks = ks
tickets_after g old (Select target word TimedOut) new ks = ks
tickets_after g old (Select target word (Reselected by)) new ks = after_reselection ks (link_on new)
tickets_after g old (Reselect word None) new ks = ks
tickets_after g old (Reselect word (Some by)) new ks = after_reselection ks (link_on new)
tickets_after g old (SetAtn true) new ks = ks
tickets_after g old (SetAtn false) new ks = after_attention g old old.connected ks
tickets_after g old ClearAck new ks = after_ack ks old.ack (link_on old)
tickets_after g old (Leave word gone) new ks = after_choice ks (link_phase (link_on old)) (link_on old) (link_on new)
