-- A read of one block from the opening to the free bus.
use Rattle.std.proofs.Common.{◌≡◌, ℕ, ◌*◌, ◌^◌, ◌<◌, ◌≤◌, Bool, false, List, [], ◌∷◌, length, get_or, refl, ap, ◌∙◌, arith, lit≤, Option, Some}
use Rattle.scsi_words.specs.declared.phases.kinds.Phase.{Phase as BusPhase}
use Rattle.scsi_words.specs.declared.phases.kinds.Phase.TheVariants.{DataIn, Command, MsgIn, Status as StatusPhase}
use Rattle.scsi_words.specs.declared.statuses.kinds.Status.{Status}
use Rattle.scsi_words.specs.Statuses.{status_code}
use Rattle.chip_step.specs.Event.{Event, Phase}
use Rattle.rig_types.specs.declared.rig.Pattern.{Pattern}
use Rattle.rig_types.specs.declared.rig.Unit.{Unit as RigUnit}
use Rattle.cdb_codec.specs.declared.commands.Cdb.TheVariants.{Read}
use Rattle.plain_lun.specs.Unit.{UnitState, blocks_of, opened}
use Rattle.plain_lun.specs.Performing.{wants_now}
use Rattle.plain_lun.proofs.Disks.{length-filled_disk}
use Rattle.unit_law.specs.declared.entry.LogEntry.{LogEntry}
use Rattle.unit_law.specs.declared.entry.LogEntry.TheVariants.{Look}
use Rattle.target_law.specs.declared.task_phase.TaskPhase.TheVariants as task_phase
use Rattle.target_law.specs.declared.task_phase.TaskPhase.TheVariants.{ToChoose}
use Rattle.target_law.specs.declared.task_phase.Completion.TheVariants.{Answered as HasAnswered}
use Rattle.target_law.specs.Session.{Task, Session}
use Rattle.target_law.specs.Target.{LogicalUnit, BusFree, TakingCommand, Target, unit_opened, target_opened, unit_after}
use Rattle.target_law.specs.Beginning.{target_took}
use Rattle.target_law.specs.Calls.{link_phase}
use Rattle.bench_words.specs.Bytes.{IsBytes}
use Rattle.straight_run.specs.Reading.{Answers, asks, ins, ending, read_calls, status_calls}
use Rattle.one_target.specs.Bus.{BusState, live_ticket, moves, Turns}
use Rattle.one_target.specs.Opening.{one_unit}
use Rattle.one_target.specs.Reading.{Ended, read_log, refused_log}
use Rattle.one_target.proofs.Slots.{slots, unit_at-slots, opened-slots}
use Rattle.one_target.proofs.CallAnswers.{clears_ack, asks_for, asks_shown}
use Rattle.one_target.proofs.Choices.{working, turns-go}
use Rattle.one_target.proofs.DataBytes.{bus, data_in}
use Rattle.one_target.proofs.Chain.{cdb_front, telling, tells, begins_with}
use Rattle.one_target.proofs.OneRead.{read-cdb}
use Rattle.one_target.proofs.Sessions.{Calm, unit_with, task_of, takes_last, done, sending, goes_reading, moved, read_told, goes_told, refused_told, goes_refused, ended_with, read_closed, refused_closed}

-- a phase that a Go leads to
chosen : (P : BusState → Type 0) (b : BusState) (u : LogicalUnit) (k : Task) (n : ℕ) (s : Session) (shown : BusPhase) (es : List Event) →
    ((mid : BusState) → Turns 0 b mid → mid ≡ record b { target = working (unit_after u s) s.task s.shows }) → link_phase (working (unit_after u s) s.task s.shows).link ≡ Some shown →
    Answers moves es P (record b { target = working (unit_after u s) s.task s.shows; asked = Some shown }) → Answers moves (Phase 0 (Some shown) ∷ es) P b
chosen P b u k n s shown es f e a = asks_for P (Some shown) b es (λ mid t.
    let m : mid ≡ record b { target = working (unit_after u s) s.task s.shows } = f mid t in
    (ap (λ (x : BusState). link_phase x.target.link) m ∙ e, rw m a))

module _ (P : BusState → Type 0) (rooms : List ℕ) (roomy : 8 ≤ get_or rooms 0 0) (r : RigUnit) (p : UnitState) (lba : ℕ) (calm : Calm r) (fits : lba < 2 ^ 32) where
  -- the whole descriptor block has come, and its task has begun
  abbrev commanded : BusState
  commanded = bus rooms (working (unit_with r p []) (task_of r lba) ToChoose) (Some Command)

  begun : target_took live_ticket (record { units = slots (unit_with r p []); link = TakingCommand (record { lun = 0; tag = 0 }) (cdb_front lba) }) 0 ≡ working (unit_with r p []) (task_of r lba) ToChoose
  begun = takes_last r p lba (cdb_front lba) 0 refl refl (read-cdb lba fits) calm.deep

  -- the status without data, and the end
  after_refusal : P (bus rooms (record { units = slots (unit_with r (done r p lba calm).unit refused_log); link = BusFree }) (Some MsgIn)) → (wants_now p (Read lba 1 false)).bytes ≡ 0 →
      Answers moves (asks StatusPhase (ending (status_code (done r p lba calm).answer.status))) P commanded
  after_refusal q w =
      let st : Status = (done r p lba calm).answer.status in
      let s : Session = refused_told r p lba calm in
      let told : BusState = bus rooms (working (unit_with r p []) s.task (task_phase.Status (HasAnswered st))) (Some StatusPhase) in
      let a1 : Answers moves (telling (status_code st)) P told =
      tells P rooms roomy (unit_with r p []) s.task (HasAnswered st) (ended_with r p lba calm s refused_log) (refused_closed r p lba calm) (lit≤ tt) q in
      let a2 : Answers moves (ending (status_code st)) P told =
      clears_ack P told (Phase 0 (Some StatusPhase) ∷ telling (status_code st)) (asks_shown P StatusPhase told (telling (status_code st)) (record { bound = refl; phase = refl }) a1) in
      clears_ack P commanded (Phase 0 (Some StatusPhase) ∷ ending (status_code st))
      (chosen P commanded (unit_with r p []) (task_of r lba) 0 s StatusPhase (ending (status_code st))
      (λ mid t. turns-go commanded mid (unit_with r p []) (task_of r lba) 0 s refl refl refl (goes_refused r p lba calm rooms roomy w) t) refl a2)

  -- the status after the data, and the end
  after_data : (n high : ℕ) → n ≡ length (done r p lba calm).answer.bytes → P (bus rooms (record { units = slots (unit_with r (done r p lba calm).unit read_log); link = BusFree }) (Some MsgIn)) →
      Answers moves (ending (status_code (done r p lba calm).answer.status)) P (bus rooms (working (unit_with r (done r p lba calm).unit (Look 0 ∷ [])) (moved r p lba calm n high) ToChoose) (Some DataIn))
  after_data n high e q =
      let st : Status = (done r p lba calm).answer.status in
      let u : LogicalUnit = unit_with r (done r p lba calm).unit (Look 0 ∷ []) in
      let s : Session = read_told r p lba calm n high in
      let b : BusState = bus rooms (working u (moved r p lba calm n high) ToChoose) (Some DataIn) in
      let told : BusState = bus rooms (working u s.task (task_phase.Status (HasAnswered st))) (Some StatusPhase) in
      let a1 : Answers moves (telling (status_code st)) P told =
      tells P rooms roomy u s.task (HasAnswered st) (ended_with r p lba calm s read_log) (read_closed r p lba calm n high) (lit≤ tt) q in
      clears_ack P b (Phase 0 (Some StatusPhase) ∷ telling (status_code st))
      (chosen P b u (moved r p lba calm n high) 0 s StatusPhase (telling (status_code st))
      (λ mid t. turns-go b mid u (moved r p lba calm n high) 0 s refl refl refl (goes_told r p lba calm rooms n high roomy e) t) refl a1)

  bytes_go : (bytes : List ℕ) → IsBytes bytes → (done r p lba calm).answer.bytes ≡ bytes → length bytes ≡ 512 → P (bus rooms (record { units = slots (unit_with r (done r p lba calm).unit read_log); link = BusFree }) (Some MsgIn)) →
      Answers moves (ins bytes (ending (status_code (done r p lba calm).answer.status))) P (bus rooms (working (unit_with r (done r p lba calm).unit (Look 0 ∷ [])) (sending r p lba calm).task (task_phase.DataIn 512)) (Some DataIn))
  bytes_go [] small e l q = absurd (omega arith)
  bytes_go (b ∷ bs) small e l q =
      let u : LogicalUnit = unit_with r (done r p lba calm).unit (Look 0 ∷ []) in
      let es : List Event = ending (status_code (done r p lba calm).answer.status) in
      let a : Answers moves (ins (b ∷ bs) es) P (bus rooms (working u (sending r p lba calm).task (task_phase.DataIn (length (b ∷ bs)))) (Some DataIn)) =
      data_in P rooms u (sending r p lba calm).task (done r p lba calm).answer refl bs b [] 0 0 es small e refl (λ n high f. after_data n high f q) in
      rw l at a

  -- the data phase
  after_command : (bytes : List ℕ) → IsBytes bytes → (done r p lba calm).answer.bytes ≡ bytes → length bytes ≡ 512 → (wants_now p (Read lba 1 false)).bytes ≡ 512 →
      P (bus rooms (record { units = slots (unit_with r (done r p lba calm).unit read_log); link = BusFree }) (Some MsgIn)) →
      Answers moves (asks DataIn (asks DataIn (ins bytes (ending (status_code (done r p lba calm).answer.status))))) P commanded
  after_command bytes small e l w q =
      let es : List Event = ins bytes (ending (status_code (done r p lba calm).answer.status)) in
      let s : Session = sending r p lba calm in
      let b : BusState = bus rooms (working (unit_with r (done r p lba calm).unit (Look 0 ∷ [])) s.task (task_phase.DataIn 512)) (Some DataIn) in
      let a1 : Answers moves es P b = bytes_go bytes small e l q in
      let a2 : Answers moves (asks DataIn es) P b = clears_ack P b (Phase 0 (Some DataIn) ∷ es) (asks_shown P DataIn b es (record { bound = refl; phase = refl }) a1) in
      clears_ack P commanded (Phase 0 (Some DataIn) ∷ asks DataIn es)
      (chosen P commanded (unit_with r p []) (task_of r lba) 512 s DataIn (asks DataIn es)
      (λ mid t. turns-go commanded mid (unit_with r p []) (task_of r lba) 512 s refl refl refl (goes_reading r p lba calm rooms roomy w) t) refl a2)

  pub read_answers : (asked : Option BusPhase) (bytes : List ℕ) → IsBytes bytes → r.rogue ≡ false → (done r p lba calm).answer.bytes ≡ bytes → length bytes ≡ 512 → (wants_now p (Read lba 1 false)).bytes ≡ 512 →
      P (bus rooms (record { units = slots (unit_with r (done r p lba calm).unit read_log); link = BusFree }) (Some MsgIn)) →
      Answers moves (read_calls lba bytes (status_code (done r p lba calm).answer.status)) P (bus rooms (record { units = slots (unit_with r p []); link = BusFree }) asked)
  read_answers asked bytes small quiet e l w q =
      begins_with P rooms roomy (unit_with r p []) (task_of r lba) lba asked (asks DataIn (asks DataIn (ins bytes (ending (status_code (done r p lba calm).answer.status))))) quiet (lit≤ tt) begun (after_command bytes small e l w q)

  pub refusal_answers : (asked : Option BusPhase) → r.rogue ≡ false → (wants_now p (Read lba 1 false)).bytes ≡ 0 →
      P (bus rooms (record { units = slots (unit_with r (done r p lba calm).unit refused_log); link = BusFree }) (Some MsgIn)) →
      Answers moves (status_calls lba (status_code (done r p lba calm).answer.status)) P (bus rooms (record { units = slots (unit_with r p []); link = BusFree }) asked)
  refusal_answers asked quiet w q =
      begins_with P rooms roomy (unit_with r p []) (task_of r lba) lba asked (asks StatusPhase (ending (status_code (done r p lba calm).answer.status))) quiet (lit≤ tt) begun (after_refusal q w)

-- the bus is free, and the unit has ended
pub ended-slots : (rooms : List ℕ) (r : RigUnit) (p : UnitState) (log : List LogEntry) (asked : Option BusPhase) → Ended p log (bus rooms (record { units = slots (unit_with r p log); link = BusFree }) asked)
ended-slots rooms r p log asked = record { free = refl; unit = unit_with r p log; unit_is = unit_at-slots (unit_with r p log); plain_is = refl; log_is = refl }

-- the opening, place by place
pub opened-bus : (b : BusState) (r : RigUnit) → b.target ≡ target_opened (r ∷ []) → b.atn ≡ false → b.ack ≡ false → r.lun ≡ 0 → b ≡ bus b.rooms (record { units = slots (unit_with r (opened r.blocks r.pattern) []); link = BusFree }) b.asked
opened-bus b r t atn ack lun =
    let e : b.target ≡ record { units = slots (unit_opened r); link = BusFree } = t ∙ opened-slots r lun in
    let b1 : BusState = record b { target = record { units = slots (unit_opened r); link = BusFree } } in
    let b2 : BusState = record b1 { atn = false } in
    ap (λ (x : Target). record b { target = x }) e ∙ ap (λ (x : Bool). record b1 { atn = x }) atn ∙ ap (λ (x : Bool). record b2 { ack = x }) ack

-- the unit of the opening
pub one-lun : one_unit.lun ≡ 0
unfolding one_unit
one-lun = refl

pub one-blocks : one_unit.blocks ≡ 64
unfolding one_unit
one-blocks = refl

pub one-quiet : one_unit.rogue ≡ false
unfolding one_unit
one-quiet = refl

pub one-calm : Calm one_unit
unfolding one_unit
one-calm = record { stays = refl; accepts = refl; deep = refl }

pub length-opened : (n : ℕ) (pattern : Pattern) → length (opened n pattern).disk ≡ 512 * n
length-opened n pattern = length-filled_disk pattern (512 * n)

pub blocks-opened : (n : ℕ) (pattern : Pattern) → blocks_of (opened n pattern) ≡ n
blocks-opened n pattern = rw (length-opened n pattern) (omega arith)
