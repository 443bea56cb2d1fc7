-- The calls of one command, one after another, on a bus whose target has the one unit.
use Rattle.std.proofs.Common.{◌≡◌, ℕ, ◌/◌, ◌%◌, ◌≤◌, Bool, true, false, List, [], ◌∷◌, ◌++◌, length, get_or, refl, ap, ◌∙◌, arith, Option, Some}
use Rattle.scsi_words.specs.declared.phases.kinds.Phase.{Phase as BusPhase}
use Rattle.scsi_words.specs.declared.phases.kinds.Phase.TheVariants.{Command, MsgOut, MsgIn, Status as StatusPhase}
use Rattle.scsi_words.specs.Statuses.{status_code}
use Rattle.chip_step.specs.Event.{Event, Phase, ByteIn, ByteOut, SetAtn, ClearAck, Leave}
use Rattle.target_law.specs.declared.task_phase.TargetMessage.TheVariants.{CommandComplete}
use Rattle.target_law.specs.declared.task_phase.TaskPhase.TheVariants.{ToChoose, Status, MessageIn}
use Rattle.target_law.specs.declared.task_phase.Completion.{Completion}
use Rattle.target_law.specs.Session.{Task, Session, closed}
use Rattle.target_law.specs.Bytes.{status_told, hears}
use Rattle.target_law.specs.Target.{LogicalUnit, BusFree, Selected, TakingCommand, Target, session, unit_after}
use Rattle.target_law.specs.Beginning.{target_took}
use Rattle.target_law.specs.Calls.{is_whole, is_rogue, target_selected, target_messaged, target_acked}
use Rattle.straight_run.specs.Reading.{Answers, asks, outs, beginning}
use Rattle.straight_run.specs.Opening.{cdb}
use Rattle.one_target.specs.Bus.{BusState, live_ticket, moves, if_fits, with_room, becomes, after_atn, after_ack}
use Rattle.target_law.specs.Devices.{lie_within}
use Rattle.one_target.proofs.Slots.{slots, unit_at-slots, with_unit-slots, slots-fit}
use Rattle.one_target.proofs.CallAnswers.{selects, sets_atn, clears_ack, takes, gives, leaves, asks_shown}
use Rattle.one_target.proofs.Choices.{connected, working}
use Rattle.one_target.proofs.DataBytes.{bus}
use Rattle.one_target.proofs.BlockBytes.{status-below}

-- COMMAND COMPLETE is acknowledged
acked-working : (u : LogicalUnit) (k : Task) (v : Completion) (s : Session) → closed v (session u (connected k (MessageIn (CommandComplete v) true))) ≡ s → target_acked (working u k (MessageIn (CommandComplete v) true)) ≡ record { units = slots (unit_after u s); link = BusFree }
unfolding target_acked
acked-working u k v s e = rw (unit_at-slots u, e, with_unit-slots u (unit_after u s)) refl

-- IDENTIFY and SIMPLE QUEUE TAG 0 lead to COMMAND

messaged-slots : (u : LogicalUnit) → target_messaged (record { units = slots u; link = Selected (0xc0 ∷ 0x20 ∷ 0 ∷ []) }) ≡ record { units = slots u; link = TakingCommand (record { lun = 0; tag = 0 }) [] }
unfolding target_messaged
messaged-slots u = rw (unit_at-slots u) refl

selected-slots : (u : LogicalUnit) → u.rig.rogue ≡ false → target_selected (record { units = slots u; link = BusFree }) ≡ record { units = slots u; link = Selected [] }
unfolding is_rogue
selected-slots u e = rw e refl

-- an acknowledged message byte of a task
after_ack-working : (rooms : List ℕ) (u : LogicalUnit) (k : Task) (v : Completion) (s : Session) (asked : Option BusPhase) → closed v (session u (connected k (MessageIn (CommandComplete v) true))) ≡ s → lie_within (slots (unit_after u s)) rooms ≡ true →
    after_ack (record { target = working u k (MessageIn (CommandComplete v) true); rooms = rooms; atn = false; ack = true; asked = asked }) ≡ bus rooms (record { units = slots (unit_after u s); link = BusFree }) asked
after_ack-working rooms u k v s asked e f =
    let b : BusState = record { target = working u k (MessageIn (CommandComplete v) true); rooms = rooms; atn = false; ack = true; asked = asked } in
    let after : Target = record { units = slots (unit_after u s); link = BusFree } in
    let g : with_room rooms b.target (target_acked b.target) ≡ with_room rooms b.target after = ap (λ (x : Target). with_room rooms b.target x) (acked-working u k v s e) in
    let h : with_room rooms b.target after ≡ after = ap (λ (x : Bool). if_fits x b.target after) f in
    ap (λ (x : Target). record (becomes b x) { ack = false }) (g ∙ h)

after_atn-slots : (rooms : List ℕ) (u : LogicalUnit) (asked : Option BusPhase) → lie_within (slots u) rooms ≡ true →
    after_atn false (record { target = record { units = slots u; link = Selected (0xc0 ∷ 0x20 ∷ 0 ∷ []) }; rooms = rooms; atn = true; ack = false; asked = asked })
    ≡ bus rooms (record { units = slots u; link = TakingCommand (record { lun = 0; tag = 0 }) [] }) asked
after_atn-slots rooms u asked f =
    let b : BusState = record { target = record { units = slots u; link = Selected (0xc0 ∷ 0x20 ∷ 0 ∷ []) }; rooms = rooms; atn = true; ack = false; asked = asked } in
    let after : Target = record { units = slots u; link = TakingCommand (record { lun = 0; tag = 0 }) [] } in
    let g : with_room rooms b.target (target_messaged b.target) ≡ with_room rooms b.target after = ap (λ (x : Target). with_room rooms b.target x) (messaged-slots u) in
    let h : with_room rooms b.target after ≡ after = ap (λ (x : Bool). if_fits x b.target after) f in
    ap (λ (x : Target). record (becomes b x) { atn = false }) (g ∙ h)

-- a byte of the message, and one of the command after which this isn't whole
took-greeted : (us : List (Option LogicalUnit)) (heard : List ℕ) (byte : ℕ) → target_took live_ticket (record { units = us; link = Selected heard }) byte ≡ record { units = us; link = Selected (hears heard byte) }
unfolding target_took
took-greeted us heard byte = refl

took-commanded : (us : List (Option LogicalUnit)) (taken : List ℕ) (byte : ℕ) → is_whole taken ≡ false → is_whole (taken ++ byte ∷ []) ≡ false →
    target_took live_ticket (record { units = us; link = TakingCommand (record { lun = 0; tag = 0 }) taken }) byte ≡ record { units = us; link = TakingCommand (record { lun = 0; tag = 0 }) (taken ++ byte ∷ []) }
unfolding target_took
took-commanded us taken byte w x = rw (w, x) refl

-- a READ(10) without its last byte, which is 0
abbrev pub cdb_front : ℕ → List ℕ
cdb_front lba = 0x28 ∷ 0 ∷ lba / 16777216 % 256 ∷ lba / 65536 % 256 ∷ lba / 256 % 256 ∷ lba % 256 ∷ 0 ∷ 0 ∷ 1 ∷ []

-- what is left once the status is shown
abbrev pub completing : List Event
completing = ByteIn (Some 0) ∷ ClearAck ∷ Leave 0 true ∷ []

abbrev pub telling : ℕ → List Event
telling status = ByteIn (Some status) ∷ asks MsgIn completing

module _ (P : BusState → Type 0) (rooms : List ℕ) (roomy : 8 ≤ get_or rooms 0 0) where
  pub tells : (u : LogicalUnit) (k : Task) (v : Completion) (s : Session) → closed v (session u (connected k (MessageIn (CommandComplete v) true))) ≡ s → length s.log ≤ 8 →
      P (bus rooms (record { units = slots (unit_after u s); link = BusFree }) (Some MsgIn)) →
      Answers moves (telling (status_code (status_told v))) P (bus rooms (working u k (Status v)) (Some StatusPhase))
  tells u k v s e l p =
      let f : lie_within (slots (unit_after u s)) rooms ≡ true = slots-fit (unit_after u s) rooms roomy l in
      let free : BusState = bus rooms (record { units = slots (unit_after u s); link = BusFree }) (Some MsgIn) in
      let acked : BusState = record { target = working u k (MessageIn (CommandComplete v) true); rooms = rooms; atn = false; ack = true; asked = Some MsgIn } in
      let left : Answers moves (Leave 0 true ∷ []) P free = leaves P free [] refl p in
      let left' : Answers moves (Leave 0 true ∷ []) P (after_ack acked) = rw (after_ack-working rooms u k v s (Some MsgIn) e f) left in
      gives P (status_code (status_told v)) (bus rooms (working u k (Status v)) (Some StatusPhase)) (asks MsgIn completing) (status-below (status_told v)) refl refl
      (clears_ack P (bus rooms (working u k (MessageIn (CommandComplete v) false)) (Some StatusPhase)) (Phase 0 (Some MsgIn) ∷ completing)
      (asks_shown P MsgIn (bus rooms (working u k (MessageIn (CommandComplete v) false)) (Some StatusPhase)) completing (record { bound = refl; phase = refl })
      (gives P 0 (bus rooms (working u k (MessageIn (CommandComplete v) false)) (Some MsgIn)) (ClearAck ∷ Leave 0 true ∷ []) (omega arith) refl refl
      (clears_ack P acked (Leave 0 true ∷ []) left'))))

  -- a byte of COMMAND
  commands : (u : LogicalUnit) (taken : List ℕ) (byte : ℕ) (es : List Event) → is_whole taken ≡ false → is_whole (taken ++ byte ∷ []) ≡ false →
      Answers moves es P (bus rooms (record { units = slots u; link = TakingCommand (record { lun = 0; tag = 0 }) (taken ++ byte ∷ []) }) (Some Command)) →
      Answers moves (ByteOut byte true ∷ es) P (bus rooms (record { units = slots u; link = TakingCommand (record { lun = 0; tag = 0 }) taken }) (Some Command))
  commands u taken byte es w x a =
      let b : BusState = bus rooms (record { units = slots u; link = TakingCommand (record { lun = 0; tag = 0 }) taken }) (Some Command) in
      let a' : Answers moves es P (becomes b (target_took live_ticket b.target byte)) = rw (took-commanded (slots u) taken byte w x) a in
      takes P byte b es (rw w refl) a'

  command_goes : (u : LogicalUnit) (k : Task) (lba : ℕ) (es : List Event) → target_took live_ticket (record { units = slots u; link = TakingCommand (record { lun = 0; tag = 0 }) (cdb_front lba) }) 0 ≡ working u k ToChoose →
      Answers moves es P (bus rooms (working u k ToChoose) (Some Command)) →
      Answers moves (outs (cdb lba) es) P (bus rooms (record { units = slots u; link = TakingCommand (record { lun = 0; tag = 0 }) [] }) (Some Command))
  command_goes u k lba es begun a =
      let nine : BusState = bus rooms (record { units = slots u; link = TakingCommand (record { lun = 0; tag = 0 }) (cdb_front lba) }) (Some Command) in
      let last : Answers moves es P (becomes nine (target_took live_ticket nine.target 0)) = rw begun a in
      let b3 : ℕ = lba / 16777216 % 256 in
      let b2 : ℕ = lba / 65536 % 256 in
      let b1 : ℕ = lba / 256 % 256 in
      let b0 : ℕ = lba % 256 in
      commands u [] 0x28 (outs (0 ∷ b3 ∷ b2 ∷ b1 ∷ b0 ∷ 0 ∷ 0 ∷ 1 ∷ 0 ∷ []) es) refl refl
      (commands u (0x28 ∷ []) 0 (outs (b3 ∷ b2 ∷ b1 ∷ b0 ∷ 0 ∷ 0 ∷ 1 ∷ 0 ∷ []) es) refl refl
      (commands u (0x28 ∷ 0 ∷ []) b3 (outs (b2 ∷ b1 ∷ b0 ∷ 0 ∷ 0 ∷ 1 ∷ 0 ∷ []) es) refl refl
      (commands u (0x28 ∷ 0 ∷ b3 ∷ []) b2 (outs (b1 ∷ b0 ∷ 0 ∷ 0 ∷ 1 ∷ 0 ∷ []) es) refl refl
      (commands u (0x28 ∷ 0 ∷ b3 ∷ b2 ∷ []) b1 (outs (b0 ∷ 0 ∷ 0 ∷ 1 ∷ 0 ∷ []) es) refl refl
      (commands u (0x28 ∷ 0 ∷ b3 ∷ b2 ∷ b1 ∷ []) b0 (outs (0 ∷ 0 ∷ 1 ∷ 0 ∷ []) es) refl refl
      (commands u (0x28 ∷ 0 ∷ b3 ∷ b2 ∷ b1 ∷ b0 ∷ []) 0 (outs (0 ∷ 1 ∷ 0 ∷ []) es) refl refl
      (commands u (0x28 ∷ 0 ∷ b3 ∷ b2 ∷ b1 ∷ b0 ∷ 0 ∷ []) 0 (outs (1 ∷ 0 ∷ []) es) refl refl
      (commands u (0x28 ∷ 0 ∷ b3 ∷ b2 ∷ b1 ∷ b0 ∷ 0 ∷ 0 ∷ []) 1 (outs (0 ∷ []) es) refl refl
      (takes P 0 nine es refl last)))))))))

  -- a byte of the message
  messages : (u : LogicalUnit) (heard : List ℕ) (byte : ℕ) (es : List Event) →
      Answers moves es P (record { target = record { units = slots u; link = Selected (hears heard byte) }; rooms = rooms; atn = true; ack = false; asked = Some MsgOut }) →
      Answers moves (ByteOut byte true ∷ es) P (record { target = record { units = slots u; link = Selected heard }; rooms = rooms; atn = true; ack = false; asked = Some MsgOut })
  messages u heard byte es a =
      let b : BusState = record { target = record { units = slots u; link = Selected heard }; rooms = rooms; atn = true; ack = false; asked = Some MsgOut } in
      let a' : Answers moves es P (becomes b (target_took live_ticket b.target byte)) = rw (took-greeted (slots u) heard byte) a in
      takes P byte b es refl a'

  -- from the free bus to the task that begins
  pub begins_with : (u : LogicalUnit) (k : Task) (lba : ℕ) (asked : Option BusPhase) (es : List Event) → u.rig.rogue ≡ false → length u.log ≤ 8 →
      target_took live_ticket (record { units = slots u; link = TakingCommand (record { lun = 0; tag = 0 }) (cdb_front lba) }) 0 ≡ working u k ToChoose →
      Answers moves es P (bus rooms (working u k ToChoose) (Some Command)) →
      Answers moves (beginning lba es) P (bus rooms (record { units = slots u; link = BusFree }) asked)
  begins_with u k lba asked es quiet l begun a =
      let greeted : List ℕ → Option BusPhase → BusState = λ heard phase. record { target = record { units = slots u; link = Selected heard }; rooms = rooms; atn = true; ack = false; asked = phase } in
      let told : BusState = bus rooms (record { units = slots u; link = TakingCommand (record { lun = 0; tag = 0 }) [] }) (Some MsgOut) in
      let commanding : List Event = outs (cdb lba) es in
      let a1 : Answers moves (asks Command commanding) P told =
      clears_ack P told (Phase 0 (Some Command) ∷ commanding) (asks_shown P Command told commanding (record { bound = refl; phase = refl }) (command_goes u k lba es begun a)) in
      let a2 : Answers moves (asks Command commanding) P (after_atn false (greeted (0xc0 ∷ 0x20 ∷ 0 ∷ []) (Some MsgOut))) = rw (after_atn-slots rooms u (Some MsgOut) (slots-fit u rooms roomy l)) a1 in
      let a3 : Answers moves (SetAtn false ∷ asks Command commanding) P (greeted (0xc0 ∷ 0x20 ∷ 0 ∷ []) (Some MsgOut)) = sets_atn P false (greeted (0xc0 ∷ 0x20 ∷ 0 ∷ []) (Some MsgOut)) (asks Command commanding) a2 in
      let telling_on : List Event = SetAtn false ∷ asks Command commanding in
      let a4 : Answers moves (outs (0xc0 ∷ 0x20 ∷ 0 ∷ []) telling_on) P (greeted [] (Some MsgOut)) =
      messages u [] 0xc0 (outs (0x20 ∷ 0 ∷ []) telling_on) (messages u (0xc0 ∷ []) 0x20 (outs (0 ∷ []) telling_on) (messages u (0xc0 ∷ 0x20 ∷ []) 0 telling_on a3)) in
      let speaking : List Event = outs (0xc0 ∷ 0x20 ∷ 0 ∷ []) telling_on in
      let a5 : Answers moves (asks MsgOut speaking) P (greeted [] asked) =
      clears_ack P (greeted [] asked) (Phase 0 (Some MsgOut) ∷ speaking) (asks_shown P MsgOut (greeted [] asked) speaking (record { bound = refl; phase = refl }) a4) in
      let quiet_greeted : BusState = bus rooms (record { units = slots u; link = Selected [] }) asked in
      let a6 : Answers moves (SetAtn true ∷ asks MsgOut speaking) P quiet_greeted = sets_atn P true quiet_greeted (asks MsgOut speaking) a5 in
      let free : BusState = bus rooms (record { units = slots u; link = BusFree }) asked in
      let a7 : Answers moves (SetAtn true ∷ asks MsgOut speaking) P (record free { target = target_selected free.target }) = rw (selected-slots u quiet) a6 in
      selects P free (SetAtn true ∷ asks MsgOut speaking) refl a7
