-- What each call of the bus makes of a target. Sources: SCSI-2 6.1 phases, 6.5 messages, 6.6.1 ABORT TAG, 6.6.3 BUS DEVICE RESET; own are
-- which messages act and when, and that any other frees the bus, with its task away as by DISCONNECT.
use Rattle.std.specs.Prelude.{◌≡◌, ℕ, ◌+◌, ◌-◌, ◌<◌, ◌==◌, nat_le, nat_lt, ◌&&◌, ◌||◌, not, if◌then◌else◌, Bool, true, false, List, [], ◌∷◌, ◌++◌, length, remove, slice_get, Option, Some, None, ◌⊎◌}
use Rattle.std.specs.List.{list_any}
use Rattle.scsi_words.specs.declared.phases.kinds.Phase.{Phase as BusPhase}
use Rattle.scsi_words.specs.declared.phases.kinds.Phase.TheVariants as phase
use Rattle.scsi_words.specs.declared.messages.kinds.Message.TheVariants as message
use Rattle.scsi_words.specs.Messages.{message_code}
use Rattle.cdb_codec.specs.declared.commands.Cdb.{Cdb}
use Rattle.cdb_codec.specs.Blocks.{length_of, cdb_of}
use Rattle.cdb_codec.specs.Forms.{need_of}
use Rattle.unit_law.specs.declared.entry.LogEntry.{LogEntry}
use Rattle.unit_law.specs.declared.entry.LogEntry.TheVariants.{Drop}
use Rattle.unit_law.specs.Log.{tally}
use Rattle.target_law.specs.declared.moves.Move.{Move}
use Rattle.target_law.specs.declared.moves.Move.TheVariants.{Rogue}
use Rattle.target_law.specs.declared.nexus.Nexus.{Nexus}
use Rattle.target_law.specs.declared.task_phase.ReselectByte.{ReselectByte}
use Rattle.target_law.specs.declared.task_phase.ReselectByte.TheVariants as part
use Rattle.target_law.specs.declared.task_phase.TargetMessage.{TargetMessage}
use Rattle.target_law.specs.declared.task_phase.TargetMessage.TheVariants as target_message
use Rattle.target_law.specs.declared.task_phase.TaskPhase.{TaskPhase}
use Rattle.target_law.specs.declared.task_phase.TaskPhase.TheVariants.{ToChoose, MessageOut, MessageIn}
use Rattle.target_law.specs.declared.rogue_phase.RoguePhase.{RoguePhase}
use Rattle.target_law.specs.declared.rogue_phase.RoguePhase.TheVariants as rogue_shows
use Rattle.target_law.specs.Session.{Task, Session, acted, closed, began, says}
use Rattle.target_law.specs.Bytes.{Connection, phase_of, byte_by, sent_by, takes_by, took_by, hears, heard_by}
use Rattle.target_law.specs.RoguePhases.{rogue_chosen, rogue_phase, rogue_byte, rogue_sent, rogue_takes, rogue_took, rogue_heard}
use Rattle.target_law.specs.Target.{LogicalUnit, ConnectionState, BusFree, Selected, TakingCommand, TaskConnected, RogueConnected, Target, unit_at, with_unit, at_lun, session, goes_on, ends, linked, leaves, drops, target_reset}

-- the bus is free, as far as this target goes
abbrev pub is_free : ConnectionState → Bool
is_free BusFree = true
is_free _ = false

-- the phase that a target shows; none where it isn't connected or is to choose
abbrev pub link_phase : ConnectionState → Option BusPhase
link_phase BusFree = None
link_phase (Selected heard) = Some phase.MsgOut
link_phase (TakingCommand n taken) = Some phase.Command
link_phase (TaskConnected c) = phase_of c.shows
link_phase (RogueConnected s n) = rogue_phase s

-- the nexus that a message or a reselection of this connection named
abbrev pub nexus_of : ConnectionState → Option Nexus
nexus_of BusFree = None
nexus_of (Selected heard) = None
nexus_of (TakingCommand n taken) = Some n
nexus_of (TaskConnected c) = Some (record { lun = c.lun; tag = c.task.tag })
nexus_of (RogueConnected s n) = n

-- the target is to choose: with a task, or with units that break the rules
abbrev pub IsToChoose : ConnectionState → Type 0
IsToChoose (TaskConnected c) = c.shows ≡ ToChoose
IsToChoose (RogueConnected s n) = s ≡ rogue_shows.ToChoose
IsToChoose _ = ⊥

-- a command descriptor block is whole where it has the length of its first byte
abbrev pub is_whole : List ℕ → Bool
is_whole [] = false
is_whole (b ∷ bs) = length (b ∷ bs) == length_of b

abbrev pub whole_by : ConnectionState → Bool
whole_by (TakingCommand n taken) = is_whole taken
whole_by _ = false

-- a unit of the target breaks the rules, and so do all others then
abbrev pub slot_is_rogue : Option LogicalUnit → Bool
slot_is_rogue None = false
slot_is_rogue (Some u) = u.rig.rogue

unfoldable pub is_rogue : Target → Bool
is_rogue t = list_any slot_is_rogue t.units

-- units that break the rules are connected
abbrev pub is_rogue_connected : ConnectionState → Bool
is_rogue_connected (RogueConnected s n) = true
is_rogue_connected _ = false

-- a target answers a selection where a unit of it isn't absent; it is absent where it has units, and none that answers
abbrev pub slot_answers : Option LogicalUnit → Bool
slot_answers None = false
slot_answers (Some u) = not u.rig.absent

abbrev pub slot_has_unit : Option LogicalUnit → Bool
slot_has_unit None = false
slot_has_unit (Some u) = true

unfoldable pub answers : Target → Bool
answers t = list_any slot_answers t.units

unfoldable pub is_absent : Target → Bool
is_absent t = list_any slot_has_unit t.units && not (answers t)

-- a target is selected: it shows MSG_OUT
abbrev pub selected_by : Bool → ConnectionState
selected_by true = RogueConnected rogue_shows.MessageOut None
selected_by false = Selected []

abbrev pub target_selected : Target → Target
target_selected t = linked t (selected_by (is_rogue t))

-- the candidates of a unit for a reselection: its tasks that aren't connected, or one where it breaks the rules
abbrev pub candidates_by : Bool → LogicalUnit → ℕ
candidates_by true u = 1
candidates_by false u = length u.tasks

abbrev pub candidates : LogicalUnit → ℕ
candidates u = candidates_by u.rig.rogue u

-- a task reselects
abbrev pub task_reselected : Target → (lun n : ℕ) → LogicalUnit → Option Task → Target
task_reselected t lun n u None = t
task_reselected t lun n u (Some k) = record {
  units = with_unit t.units lun (record u { tasks = remove u.tasks n });
  link = TaskConnected (record { lun = lun; reselected = true; heard = []; task = k; shows = says (target_message.Reselection part.Identify) });
}

abbrev pub reselected_by : Bool → Target → (lun n tag : ℕ) → LogicalUnit → Target
reselected_by true t lun n tag u = linked t (RogueConnected (rogue_shows.Reselection part.Identify false) (Some (record { lun = lun; tag = tag })))
reselected_by false t lun n tag u = task_reselected t lun n u (slice_get u.tasks n)

-- the n-th candidate of a unit reselects, by rising tag from 0; where the unit breaks the rules, with this tag
unfoldable pub target_reselected : Target → (lun n tag : ℕ) → Target
target_reselected t lun n tag = at_lun t lun (λ u. reselected_by u.rig.rogue t lun n tag u)

abbrev pub link_or_free : Option RoguePhase → Option Nexus → ConnectionState
link_or_free None n = BusFree
link_or_free (Some s) n = RogueConnected s n

abbrev pub rogue_acted : Target → Move → Option Nexus → Target
rogue_acted t (Rogue word) n = linked t (link_or_free (rogue_chosen word) n)
rogue_acted t m n = t

abbrev pub acted_by : ConnectionState → Target → Move → Target
acted_by (TaskConnected c) t m = at_lun t c.lun (λ u. goes_on t c u (acted m (session u c)))
acted_by (RogueConnected s n) t m = rogue_acted t m n
acted_by l t m = t

-- the target after its move
unfoldable pub target_acted : Target → Move → Target
target_acted t m = acted_by t.link t m

-- ATN is asserted while a task is to choose: it shows MSG_OUT
abbrev pub asked_by : ConnectionState → ConnectionState
asked_by (TaskConnected c) = TaskConnected (record c { heard = []; shows = MessageOut })
asked_by l = l

-- the byte that the target has for the initiator, if it has one, and the link after it
abbrev pub link_byte : ConnectionState → Option ℕ
link_byte (TaskConnected c) = byte_by c.shows c.task c.lun
link_byte (RogueConnected s n) = rogue_byte s n
link_byte _ = None

abbrev pub link_sent : ConnectionState → ConnectionState
link_sent (TaskConnected c) = TaskConnected (sent_by c.shows c)
link_sent (RogueConnected s n) = RogueConnected (rogue_sent s) n
link_sent l = l

-- where there is no byte, the link stays
abbrev pub sent_if : Option ℕ → ConnectionState → ConnectionState
sent_if (Some b) l = link_sent l
sent_if None l = l

-- whether the target takes a byte, and the link after it
abbrev pub link_takes : ConnectionState → Bool
link_takes BusFree = false
link_takes (Selected heard) = true
link_takes (TakingCommand n taken) = not (is_whole taken)
link_takes (TaskConnected c) = takes_by c.shows
link_takes (RogueConnected s n) = rogue_takes s

abbrev pub link_took : ConnectionState → ℕ → ConnectionState
link_took BusFree b = BusFree
link_took (Selected heard) b = Selected (hears heard b)
link_took (TakingCommand n taken) b = TakingCommand n (taken ++ b ∷ [])
link_took (TaskConnected c) b = TaskConnected (took_by c.shows c b)
link_took (RogueConnected s n) b = RogueConnected (rogue_took s b) n

abbrev pub took_if : Bool → ConnectionState → ℕ → ConnectionState
took_if true l b = link_took l b
took_if false l b = l

-- the messages that act: IDENTIFY with the disconnect privilege, SIMPLE QUEUE TAG and a tag; BUS DEVICE RESET; ABORT TAG; and any other
pub data InitiatorMessage : Type 0 where
  Names : Nexus → InitiatorMessage
  Resets : InitiatorMessage
  AbortsTag : InitiatorMessage
  Other : InitiatorMessage

abbrev pub is_identify : ℕ → Bool
is_identify a = nat_le (message_code (message.Identify true 0)) a && nat_le a (message_code (message.Identify true 7))

abbrev pub of_one : ℕ → InitiatorMessage
of_one a = if a == message_code message.DeviceReset then Resets else (if a == message_code message.AbortTag then AbortsTag else Other)

abbrev pub of_three : (a b tag : ℕ) → InitiatorMessage
of_three a b tag =
    if is_identify a && b == message_code message.SimpleTag then Names (record { lun = a - message_code (message.Identify true 0); tag = tag }) else Other

abbrev pub message_of : List ℕ → InitiatorMessage
message_of (a ∷ []) = of_one a
message_of (a ∷ b ∷ c ∷ []) = of_three a b c
message_of _ = Other

-- after a selection: a nexus of a unit that is there leads to COMMAND
abbrev pub greeted : Target → InitiatorMessage → Target
greeted t (Names n) = at_lun (linked t BusFree) n.lun (λ u. linked t (TakingCommand n []))
greeted t Resets = target_reset t
greeted t AbortsTag = linked t BusFree
greeted t Other = linked t BusFree

-- with a task: ABORT TAG after a reselection drops it
abbrev pub aborted : Bool → Target → Connection → LogicalUnit → Target
aborted true t c u = record { units = with_unit t.units c.lun (drops u c.task); link = BusFree }
aborted false t c u = leaves t c u

abbrev pub told : InitiatorMessage → Target → Connection → Target
told Resets t c = target_reset t
told AbortsTag t c = at_lun t c.lun (aborted c.reselected t c)
told (Names n) t c = at_lun t c.lun (leaves t c)
told Other t c = at_lun t c.lun (leaves t c)

abbrev pub messaged_by : ConnectionState → Target → Target
messaged_by (Selected heard) t = greeted t (message_of heard)
messaged_by (TaskConnected c) t = told (message_of c.heard) t c
messaged_by (RogueConnected s n) t = linked t (RogueConnected rogue_shows.ToChoose n)
messaged_by l t = t

-- ATN is released while MSG_OUT is shown: the message is whole, and acts
unfoldable pub target_messaged : Target → Target
target_messaged t = messaged_by t.link t

-- ACK is released after a message byte of a task
abbrev pub message_acked : TargetMessage → Target → Connection → Target
message_acked (target_message.CommandComplete v) t c = at_lun t c.lun (λ u. ends t c u (closed v (session u c)))
message_acked target_message.Disconnect t c = at_lun t c.lun (leaves t c)
message_acked n t c = linked t (TaskConnected (heard_by n c))

abbrev pub shown_acked : TaskPhase → Target → Connection → Target
shown_acked (MessageIn n sent) t c = message_acked n t c
shown_acked _ t c = t

abbrev pub acked_by : ConnectionState → Target → Target
acked_by (TaskConnected c) t = shown_acked c.shows t c
acked_by (RogueConnected s n) t = linked t (RogueConnected (rogue_heard s) n)
acked_by l t = t

unfoldable pub target_acked : Target → Target
target_acked t = acked_by t.link t

-- a message byte was sent that isn't acknowledged yet
abbrev pub WaitsForAck : ConnectionState → Type 0
WaitsForAck (TaskConnected c) = (n : TargetMessage) × (c.shows ≡ MessageIn n true)
WaitsForAck (RogueConnected s n) = ((b : ℕ) × (s ≡ rogue_shows.MessageIn b true)) ⊎ ((p : ReselectByte) × (s ≡ rogue_shows.Reselection p true))
WaitsForAck _ = ⊥

-- a task of the unit has the tag
abbrev pub has_tag : List Task → ℕ → Bool
has_tag [] tag = false
has_tag (k ∷ ks) tag = k.tag == tag || has_tag ks tag

-- the unit's log has End of the ticket
abbrev pub has_ended : List LogEntry → ℕ → Bool
has_ended log ticket = nat_lt 0 (tally ticket log).ends

-- a command makes a task of its live ticket, where the unit has no other task of the tag, and the command needs at most 65,536 bytes
abbrev pub begun : Target → Nexus → Cdb → LogicalUnit → ℕ → Target
begun t n c u ticket =
    if has_tag u.tasks n.tag || nat_lt 65536 (need_of c).bytes then linked t BusFree
    else linked t (TaskConnected (record {
      lun = n.lun;
      reselected = false;
      heard = [];
      task = began n.tag ticket c u.rig.disconnects (has_ended u.log ticket);
      shows = ToChoose;
    }))

abbrev pub begun_with : Target → Nexus → Cdb → Option ℕ → Target
begun_with t n c None = linked t BusFree
begun_with t n c (Some ticket) = at_lun t n.lun (λ u. begun t n c u ticket)

abbrev pub begun_by : ConnectionState → Target → Option ℕ → Target
begun_by (TakingCommand n taken) t ticket = begun_with t n (cdb_of taken) ticket
begun_by l t ticket = t

unfoldable pub target_begun : Target → Option ℕ → Target
target_begun t ticket = begun_by t.link t ticket
