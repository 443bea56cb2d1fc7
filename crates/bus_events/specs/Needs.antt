-- What a call of the bus asks of the ticket whose task is connected, and of the room of logs. Source: own; the program on the chip, the driver
-- and the room that is reserved give it.
use Rattle.std.specs.Prelude.{◌≡◌, ℕ, Bool, true, false, List, [], ◌∷◌, ◌++◌, slice_get, Option, Some, ◌⊎◌}
use Rattle.scsi_words.specs.Statuses.{status_code}
use Rattle.cdb_codec.specs.declared.commands.Cdb.{Cdb}
use Rattle.cdb_codec.specs.declared.commands.Cdb.TheVariants.{RequestSense}
use Rattle.cdb_codec.specs.Blocks.{cdb_of}
use Rattle.chip_step.specs.Event.{Event, Phase, ByteOut, SetAtn, ClearAck, Leave}
use Rattle.unit_law.specs.Request.{command}
use Rattle.target_law.specs.declared.moves.Move.{Move}
use Rattle.target_law.specs.declared.nexus.Nexus.{Nexus}
use Rattle.target_law.specs.declared.task_phase.TargetMessage.{TargetMessage}
use Rattle.target_law.specs.declared.task_phase.TargetMessage.TheVariants.{CommandComplete, Disconnect}
use Rattle.target_law.specs.declared.task_phase.TaskPhase.{TaskPhase}
use Rattle.target_law.specs.declared.task_phase.TaskPhase.TheVariants.{ToChoose, MessageOut, DataOut, MessageIn}
use Rattle.target_law.specs.declared.task_phase.Completion.{Completion}
use Rattle.target_law.specs.declared.task_phase.Completion.TheVariants.{Answered, Refused}
use Rattle.target_law.specs.Bytes.{Connection}
use Rattle.target_law.specs.Target.{LogicalUnit, ConnectionState, TakingCommand, TaskConnected, unit_at}
use Rattle.target_law.specs.Target as connection_state
use Rattle.target_law.specs.Calls.{InitiatorMessage, Resets, AbortsTag, message_of, is_whole, link_phase, target_acted, target_messaged, target_acked}
use Rattle.target_law.specs.Lawful.{CanOf}
use Rattle.bus_law.specs.Bus.{BusState}
use Rattle.bus_law.specs.Attention.{is_message_out}
use Rattle.ticket_fate.specs.Tickets.{Plan, unit_of, Selected, AskStarts, Ticket}
use Rattle.ticket_fate.specs.Linked.{ByDevice, CanReset}
use Rattle.ticket_fate.specs.Moves.{target_of}
use Rattle.bus_events.specs.Targets.{targets, HasRoom}

-- ATN isn't asserted while a sense task is to choose
abbrev pub NeedsChoice : (atn : Bool) → ConnectionState → Type 0
NeedsChoice true (TaskConnected c) = c.task.senses ≡ false
NeedsChoice atn link = Unit {0}

-- a command is that of its ticket, which was selected: a ticket of this target's unit, by its LUN and tag, with its own command or with
-- REQUEST SENSE
pub record IsToBegin (g : Plan) (i : ℕ) (n : Nexus) (c : Cdb) (x : ℕ) (k : Ticket) : Type 0 where
  pub target : target_of g x ≡ i
  pub lun : n.lun ≡ (g.units (unit_of g x)).lun
  pub tag : n.tag ≡ k.tag
  pub asks : ((k.life ≡ Selected) × (c ≡ command (g.requests x))) ⊎ ((k.life ≡ AskStarts) × (c ≡ RequestSense 18))

module _ (g : Plan) (i : ℕ) (ks : ℕ → Ticket) where
  -- in DATA OUT the byte of the buffer at the task's position
  abbrev pub NeedsData : TaskPhase → Connection → (byte : ℕ) → Type 0
  NeedsData (DataOut n) c byte = slice_get (ks c.task.ticket).buffer c.task.position ≡ Some byte
  NeedsData shows c byte = Unit {0}

  -- with the last byte of a descriptor block the command of the nexus' live ticket
  abbrev pub NeedsCommand : Nexus → List ℕ → Option ℕ → Type 0
  NeedsCommand n bytes live = (x : ℕ) → live ≡ Some x → is_whole bytes ≡ true → IsToBegin g i n (cdb_of bytes) x (ks x)

  abbrev pub NeedsByte : ConnectionState → (Nexus → Option ℕ) → (byte : ℕ) → Type 0
  NeedsByte (TaskConnected c) live byte = NeedsData c.shows c byte
  NeedsByte (TakingCommand n taken) live byte = NeedsCommand n (taken ++ byte ∷ []) (live n)
  NeedsByte link live byte = Unit {0}

  -- a task that leaves the bus: its saved pointer is its saved position
  abbrev pub NeedsPointer : Connection → Type 0
  NeedsPointer c = (ks c.task.ticket).savep ≡ c.task.saved

  -- a reset of the target: no request for sense is under way at it
  abbrev pub NeedsReset : Type 0
  NeedsReset = (x : ℕ) → target_of g x ≡ i → CanReset ByDevice (ks x).life

  -- ABORT TAG: an abort marked the ticket
  abbrev pub NeedsAbort : (reselected : Bool) → Connection → Type 0
  NeedsAbort true c = (ks c.task.ticket).marked ≡ true
  NeedsAbort false c = NeedsPointer c

  abbrev pub NeedsTold : InitiatorMessage → Connection → Type 0
  NeedsTold Resets c = NeedsReset
  NeedsTold AbortsTag c = NeedsAbort c.reselected c
  NeedsTold m c = NeedsPointer c

  abbrev pub NeedsGreeting : InitiatorMessage → Type 0
  NeedsGreeting Resets = NeedsReset
  NeedsGreeting m = Unit {0}

  abbrev pub NeedsMessage : ConnectionState → Type 0
  NeedsMessage (connection_state.Selected heard) = NeedsGreeting (message_of heard)
  NeedsMessage (TaskConnected c) = c.shows ≡ MessageOut → NeedsTold (message_of c.heard) c
  NeedsMessage link = Unit {0}

  -- COMMAND COMPLETE: the status is in the block, and after an answer the pointer stands at the position
  abbrev pub NeedsVerdict : (senses : Bool) → Completion → Connection → Type 0
  NeedsVerdict false (Answered st) c = ((ks c.task.ticket).lastp ≡ c.task.position) × ((ks c.task.ticket).status ≡ status_code st)
  NeedsVerdict false (Refused st) c = (ks c.task.ticket).status ≡ status_code st
  NeedsVerdict true v c = Unit {0}

  abbrev pub NeedsHeard : TargetMessage → Connection → Type 0
  NeedsHeard (CommandComplete v) c = NeedsVerdict c.task.senses v c
  NeedsHeard Disconnect c = NeedsPointer c
  NeedsHeard n c = Unit {0}

  abbrev pub NeedsShown : TaskPhase → Connection → Type 0
  NeedsShown (MessageIn n sent) c = NeedsHeard n c
  NeedsShown shows c = Unit {0}

  abbrev pub NeedsAck : ConnectionState → Type 0
  NeedsAck (TaskConnected c) = NeedsShown c.shows c
  NeedsAck link = Unit {0}

-- at the connected target
module _ (g : Plan) (live : ℕ → Nexus → Option ℕ) where
  abbrev pub NeedsAt : BusState → ℕ → Event → (ℕ → Ticket) → Type 0
  NeedsAt b i (Phase word shown) ks = NeedsChoice b.atn (targets b i).link
  NeedsAt b i (Leave word gone) ks = NeedsChoice b.atn (targets b i).link
  NeedsAt b i (ByteOut byte taken) ks = NeedsByte g i ks (targets b i).link (live i) byte
  NeedsAt b i (SetAtn false) ks = NeedsMessage g i ks (targets b i).link
  NeedsAt b i ClearAck ks = NeedsAck g i ks (targets b i).link
  NeedsAt b i event ks = Unit {0}

  abbrev pub Needs : BusState → Event → (ℕ → Ticket) → Type 0
  Needs b event ks = (i : ℕ) → b.connected ≡ Some i → NeedsAt b i event ks

-- each log of the connected target has room for what the call adds: a lawful move, a message, an acknowledgement
abbrev pub HasRoomToChoose : BusState → ℕ → Type 0
HasRoomToChoose b i = (c : Connection) (u : LogicalUnit) (m : Move) → (targets b i).link ≡ TaskConnected c → unit_at (targets b i).units c.lun ≡ Some u → c.shows ≡ ToChoose → CanOf u c m
    → HasRoom b i (target_acted (targets b i) m)

abbrev pub HasRoomAt : BusState → ℕ → Event → Type 0
HasRoomAt b i (Phase word shown) = HasRoomToChoose b i
HasRoomAt b i (Leave word gone) = HasRoomToChoose b i
HasRoomAt b i (SetAtn false) = is_message_out (link_phase (targets b i).link) ≡ true → HasRoom b i (target_messaged (targets b i))
HasRoomAt b i ClearAck = HasRoom b i (target_acked (targets b i))
HasRoomAt b i event = Unit {0}

abbrev pub HasRoomFor : BusState → Event → Type 0
HasRoomFor b event = (i : ℕ) → b.connected ≡ Some i → HasRoomAt b i event
