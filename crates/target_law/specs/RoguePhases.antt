-- A connected target whose units break the rules: what it shows after its choice by a word, and its bytes. It ignores the bytes that it
-- takes, and after each phase it is to choose again. Source: own.
use Rattle.std.specs.Prelude.{ℕ, zero, suc, ◌+◌, ◌-◌, ◌/◌, ◌%◌, Bool, true, false, List, [], ◌∷◌, slice_get, Option, Some, None}
use Rattle.scsi_words.specs.declared.phases.kinds.Phase.{Phase as BusPhase}
use Rattle.scsi_words.specs.declared.phases.kinds.Phase.TheVariants as phase
use Rattle.cdb_codec.specs.Blocks.{length_of}
use Rattle.target_law.specs.declared.nexus.Nexus.{Nexus}
use Rattle.target_law.specs.declared.task_phase.ReselectByte.{ReselectByte}
use Rattle.target_law.specs.declared.task_phase.ReselectByte.TheVariants as part
use Rattle.target_law.specs.declared.rogue_phase.RoguePhase.{RoguePhase}
use Rattle.target_law.specs.declared.rogue_phase.RoguePhase.TheVariants.{ToChoose, MessageOut, DataIn, DataOut, Command, Status, MessageIn, Reselection}
use Rattle.target_law.specs.Bytes.{name_byte}

-- the bytes of a data phase, and the byte that is sent
abbrev pub count : ℕ → ℕ
count word = 1 + word % 65536

abbrev pub byte : ℕ → ℕ
byte word = word % 256

-- what it may show, in their order; None is a free bus
abbrev pub choices : ℕ → List (Option RoguePhase)
choices word =
    Some (DataIn (count word) (byte word)) ∷
    Some (DataOut (count word)) ∷
    Some (Command None) ∷
    Some (Status (byte word)) ∷
    None ∷
    Some MessageOut ∷
    Some (MessageIn (byte word) false) ∷
    Some (MessageIn (byte word) false) ∷ []

abbrev pub chosen : Option (Option RoguePhase) → Option RoguePhase
chosen (Some s) = s
chosen None = None

-- bits 30 to 28 of the word choose
unfoldable pub rogue_chosen : ℕ → Option RoguePhase
rogue_chosen word = chosen (slice_get (choices word) (word / 268435456 % 8))

abbrev pub rogue_phase : RoguePhase → Option BusPhase
rogue_phase ToChoose = None
rogue_phase MessageOut = Some phase.MsgOut
rogue_phase (DataIn left b) = Some phase.DataIn
rogue_phase (DataOut left) = Some phase.DataOut
rogue_phase (Command left) = Some phase.Command
rogue_phase (Status b) = Some phase.Status
rogue_phase (MessageIn b sent) = Some phase.MsgIn
rogue_phase (Reselection p sent) = Some phase.MsgIn

-- the byte of a part of the name, where the reselection gave one
abbrev pub named_byte : ReselectByte → Option Nexus → ℕ
named_byte p None = 0
named_byte p (Some n) = name_byte p n.lun n.tag

-- the byte that it has for the initiator, if it has one
abbrev pub rogue_byte : RoguePhase → Option Nexus → Option ℕ
rogue_byte (DataIn left b) n = Some b
rogue_byte (Status b) n = Some b
rogue_byte (MessageIn b false) n = Some b
rogue_byte (Reselection p false) n = Some (named_byte p n)
rogue_byte _ n = None

-- one byte less of a phase, whose end is a choice
abbrev pub rogue_less : ℕ → (ℕ → RoguePhase) → RoguePhase
rogue_less zero shows = ToChoose
rogue_less (suc zero) shows = ToChoose
rogue_less (suc (suc n)) shows = shows (suc n)

-- after a byte that it had
abbrev pub rogue_sent : RoguePhase → RoguePhase
rogue_sent (DataIn left b) = rogue_less left (λ n. DataIn n b)
rogue_sent (Status b) = ToChoose
rogue_sent (MessageIn b sent) = MessageIn b true
rogue_sent (Reselection p sent) = Reselection p true
rogue_sent s = s

-- whether it takes a byte
abbrev pub rogue_takes : RoguePhase → Bool
rogue_takes MessageOut = true
rogue_takes (DataOut left) = true
rogue_takes (Command left) = true
rogue_takes _ = false

-- after a byte that it took; the first byte of COMMAND says how many there are
abbrev pub rogue_took : RoguePhase → ℕ → RoguePhase
rogue_took (DataOut left) b = rogue_less left DataOut
rogue_took (Command None) b = rogue_less (length_of b) (λ n. Command (Some n))
rogue_took (Command (Some left)) b = rogue_less left (λ n. Command (Some n))
rogue_took s b = s

-- after ACK is released; a name goes on to its next part
abbrev pub rogue_heard : RoguePhase → RoguePhase
rogue_heard (MessageIn b true) = ToChoose
rogue_heard (Reselection part.Identify true) = Reselection part.SimpleQueueTag false
rogue_heard (Reselection part.SimpleQueueTag true) = Reselection part.Tag false
rogue_heard (Reselection part.Tag true) = ToChoose
rogue_heard s = s
