-- A bus on which a read goes through, by the calls that it is asked, and what the script then leaves.
use Rattle.std.specs.Prelude.{◌≡◌, ℕ, true, false, List, [], ◌∷◌, Some}
use Rattle.bench_words.specs.Memory.{put_bytes, IsZero}
use Rattle.scsi_words.specs.declared.phases.kinds.Phase.{Phase as BusPhase}
use Rattle.scsi_words.specs.declared.phases.kinds.Phase.TheVariants.{DataIn, Command, Status, MsgOut, MsgIn}
use Rattle.chip_regs.specs.Registers.{cause_of}
use Rattle.chip_regs.specs.declared.registers.Cause.TheVariants.{Sir}
use Rattle.chip_step.specs.Event.{Event, call_of, Phase, ByteIn, ByteOut, Select, SetAtn, ClearAck, Leave}
use Rattle.chip_step.specs.Chip.{Chip}
use Rattle.chip_step.specs.declared.scsi_bus.Settled.TheVariants.{Selected}
use Rattle.straight_run.specs.Opening.{cdb, laid}

-- To each of these calls, one after another, the bus gives this answer and no other, and ends where P holds.
abbrev pub Answers : {B : Type 0} → (B → Event → B → Type 0) → List Event → (B → Type 0) → B → Type 0
Answers moves [] P bus = P bus
Answers {B} moves (e ∷ es) P bus =
    (given : Event) → (after : B) → call_of given ≡ call_of e → moves bus given after → (given ≡ e) × Answers moves es P after

-- bytes to the target and from it, and what comes then
abbrev pub outs : List ℕ → List Event → List Event
outs [] es = es
outs (b ∷ bs) es = ByteOut b true ∷ outs bs es

abbrev pub ins : List ℕ → List Event → List Event
ins [] es = es
ins (b ∷ bs) es = ByteIn (Some b) ∷ ins bs es

-- a phase that is asked for with the word 0, after CLEAR ACK
abbrev pub asks : BusPhase → List Event → List Event
asks phase es = ClearAck ∷ Phase 0 (Some phase) ∷ es

-- the status, the message COMMAND COMPLETE, and the target leaves
abbrev pub ending : ℕ → List Event
ending status =
    asks Status (ByteIn (Some status) ∷ asks MsgIn (ByteIn (Some 0) ∷ ClearAck ∷ Leave 0 true ∷ []))

-- the selection of target 0, IDENTIFY and a simple tag, the CDB
abbrev pub beginning : ℕ → List Event → List Event
beginning lba es =
    Select 0 0 Selected ∷ SetAtn true ∷ asks MsgOut (outs (0xc0 ∷ 0x20 ∷ 0 ∷ []) (SetAtn false ∷ asks Command (outs (cdb lba) es)))

-- a read with its data, and one that ends with a status alone
abbrev pub read_calls : ℕ → List ℕ → ℕ → List Event
read_calls lba bytes status = beginning lba (asks DataIn (asks DataIn (ins bytes (ending status))))

abbrev pub status_calls : ℕ → ℕ → List Event
status_calls lba status = beginning lba (asks Status (ending status))

-- The script has gone through: vector 7, and memory is that of the opening with the data, the status and the message.
pub record GoesThrough {B : Type 0} (lba : ℕ) (bytes : List ℕ) (status : ℕ) (P : B → Type 0) (new : Chip B) : Type 0 where
  pub zero_memory : List ℕ
  pub zeros : IsZero zero_memory 4194304
  pub memory_is : new.memory ≡ put_bytes (put_bytes (put_bytes (laid lba zero_memory) 0x200000 bytes) 0x10014 (status ∷ [])) 0x1010 (0 ∷ [])
  pub cause_is : cause_of new.regs ≡ Some (Sir 7)
  pub bus_is : P new.bus
