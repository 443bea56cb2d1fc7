-- What the one task does from its command to its end.
use Rattle.std.proofs.Common.{◌≡◌, ℕ, ◌+◌, ◌-◌, ◌%◌, ◌≤◌, ◌==◌, ◌&&◌, Bool, true, false, not, nat_lt, if◌then◌else◌, List, [], ◌∷◌, ◌++◌, length, get_or, refl, ap, ◌∙◌, arith, Some, lit≤}
use Rattle.std.proofs.lemmas.Bool.Decides.{nat_tests}
use Rattle.rig_types.specs.declared.rig.Unit.{Unit as RigUnit}
use Rattle.cdb_codec.specs.declared.commands.Cdb.TheVariants.{Read}
use Rattle.cdb_codec.specs.Blocks.{cdb_of}
use Rattle.plain_lun.specs.Unit.{UnitState}
use Rattle.plain_lun.specs.Performing.{Performed, perform, wants_now}
use Rattle.unit_law.specs.declared.entry.LogEntry.{LogEntry}
use Rattle.unit_law.specs.declared.entry.LogEntry.TheVariants.{Look, End}
use Rattle.target_law.specs.declared.moves.Move.{Move}
use Rattle.target_law.specs.declared.moves.Move.TheVariants.{Go}
use Rattle.target_law.specs.declared.task_phase.TargetMessage.TheVariants.{CommandComplete}
use Rattle.target_law.specs.declared.task_phase.TaskPhase.TheVariants.{ToChoose, DataIn, Status, MessageIn}
use Rattle.target_law.specs.declared.task_phase.Completion.TheVariants.{Answered as HasAnswered}
use Rattle.target_law.specs.Session.{Task, Session, acted, closed, began, remaining}
use Rattle.target_law.specs.Choice.{can_go, can_refuse, can_spend, go_bytes}
use Rattle.target_law.specs.Target.{LogicalUnit, TakingCommand, unit_at, session, unit_after}
use Rattle.target_law.specs.Calls.{is_whole, target_begun}
use Rattle.target_law.specs.Lawful.{NamesOf, refused_so_far}
use Rattle.target_law.specs.Beginning.{begins, target_took}
use Rattle.one_target.specs.Bus.{live_ticket}
use Rattle.one_target.proofs.Slots.{slots, slots-fit}
use Rattle.one_target.proofs.Choices.{connected, working, only_go, Goes}
use Rattle.one_target.proofs.DataBytes.{at_place}

-- a unit that neither leaves the bus nor refuses, with a place for a task
pub record Calm (r : RigUnit) : Type 0 where
  pub stays : r.disconnects ≡ 0
  pub accepts : r.refusals ≡ 0
  pub deep : nat_lt 0 r.depth ≡ true

abbrev pub unit_with : RigUnit → UnitState → List LogEntry → LogicalUnit
unit_with r p log = record { rig = r; plain = p; log = log; tasks = [] }

-- its task, fresh
abbrev pub task_of : RigUnit → ℕ → Task
task_of r lba = began 0 0 (Read lba 1 false) r.disconnects false

-- with the last byte of its descriptor block it begins, where the unit has a place
begins-slots : (r : RigUnit) (p : UnitState) (lba : ℕ) (taken : List ℕ) → is_whole taken ≡ true → cdb_of taken ≡ Read lba 1 false → nat_lt 0 r.depth ≡ true →
    begins live_ticket (record { units = slots (unit_with r p []); link = TakingCommand (record { lun = 0; tag = 0 }) taken }) ≡ working (unit_with r p []) (task_of r lba) ToChoose
unfolding target_begun unit_at
begins-slots r p lba taken w e deep = rw (w, e, deep) refl

pub takes_last : (r : RigUnit) (p : UnitState) (lba : ℕ) (front : List ℕ) (byte : ℕ) → is_whole front ≡ false → is_whole (front ++ byte ∷ []) ≡ true → cdb_of (front ++ byte ∷ []) ≡ Read lba 1 false → nat_lt 0 r.depth ≡ true →
    target_took live_ticket (record { units = slots (unit_with r p []); link = TakingCommand (record { lun = 0; tag = 0 }) front }) byte ≡ working (unit_with r p []) (task_of r lba) ToChoose
unfolding target_took
takes_last r p lba front byte f w e deep = rw f (begins-slots r p lba (front ++ byte ∷ []) w e deep)

-- the one move that is offered
below_none : (x n : ℕ) → n ≡ 0 → nat_lt x n ≡ false
below_none x n e = grind (arith, nat_tests)

refuses_none : (a b c : Bool) → c ≡ false → a && (b && c) ≡ false
refuses_none true true c e = e
refuses_none true false c e = refl
refuses_none false b c e = refl

offers_go : (u : LogicalUnit) (k : Task) (n : ℕ) → u.rig.refusals ≡ 0 → k.budget ≡ 0 → can_go (session u (connected k ToChoose)) ≡ true → remaining (session u (connected k ToChoose)) ≡ n →
    (m : Move) → NamesOf u (connected k ToChoose) 0 m → m ≡ Go n
offers_go u k n accepts spent go left m named =
    let s : Session = session u (connected k ToChoose) in
    let refused : ℕ = refused_so_far u k.ticket in
    let r : can_refuse s u.rig.refusals refused ≡ false = refuses_none k.fresh (not k.senses) (nat_lt refused u.rig.refusals) (below_none refused u.rig.refusals accepts) in
    let d : can_spend s ≡ false = below_none 0 k.budget spent in
    let g : go_bytes s 0 ≡ n = ap (λ (x : ℕ). if x == 0 then remaining s else (if remaining s == 0 then 0 else 1 + 0 % remaining s)) spent ∙ left in
    only_go s u.rig.refusals refused n m go r d g named

module _ (r : RigUnit) (p : UnitState) (lba : ℕ) (calm : Calm r) where
  -- alone, the command gives this
  abbrev pub done : Performed
  done = perform p (Read lba 1 false) []

  -- the first data phase
  abbrev pub sending : Session
  sending = record {
    unit = done.unit;
    log = Look 0 ∷ [];
    task = record (task_of r lba) { kept = Some done.answer; fresh = false; just_moved = true };
    shows = DataIn 512;
  }

  acts_reading : (wants_now p (Read lba 1 false)).bytes ≡ 512 → acted (Go 512) (session (unit_with r p []) (connected (task_of r lba) ToChoose)) ≡ sending
  unfolding acted
  acts_reading w = rw w refl

  pub goes_reading : (rooms : List ℕ) → 8 ≤ get_or rooms 0 0 → (wants_now p (Read lba 1 false)).bytes ≡ 512 → Goes (unit_with r p []) (task_of r lba) 512 sending rooms
  goes_reading rooms roomy w = record {
    only = offers_go (unit_with r p []) (task_of r lba) 512 calm.accepts calm.stays refl (ap (λ (x : ℕ). x - 0) w);
    acted_is = acts_reading w;
    fits = slots-fit (unit_after (unit_with r p []) sending) rooms roomy (lit≤ tt);
    shown = refl;
  }

  -- the status after the data
  abbrev pub moved : ℕ → ℕ → Task
  moved n high = at_place sending.task n high

  abbrev pub read_told : ℕ → ℕ → Session
  read_told n high = record {
    unit = done.unit;
    log = Look 0 ∷ [];
    task = record (moved n high) { just_moved = false };
    shows = Status (HasAnswered done.answer.status);
  }

  none_left : (n high : ℕ) → n ≡ length done.answer.bytes → remaining (session (unit_with r done.unit (Look 0 ∷ [])) (connected (moved n high) ToChoose)) ≡ 0
  none_left n high e = omega arith

  acts_read : (n high : ℕ) → n ≡ length done.answer.bytes → acted (Go 0) (session (unit_with r done.unit (Look 0 ∷ [])) (connected (moved n high) ToChoose)) ≡ read_told n high
  unfolding acted
  acts_read n high e = rw (none_left n high e) refl

  can_go_on : (n high : ℕ) → n ≡ length done.answer.bytes → can_go (session (unit_with r done.unit (Look 0 ∷ [])) (connected (moved n high) ToChoose)) ≡ true
  can_go_on n high e = ap (λ (x : ℕ). not (nat_lt 0 x)) (none_left n high e)

  pub goes_told : (rooms : List ℕ) (n high : ℕ) → 8 ≤ get_or rooms 0 0 → n ≡ length done.answer.bytes → Goes (unit_with r done.unit (Look 0 ∷ [])) (moved n high) 0 (read_told n high) rooms
  goes_told rooms n high roomy e = record {
    only = offers_go (unit_with r done.unit (Look 0 ∷ [])) (moved n high) 0 calm.accepts calm.stays (can_go_on n high e) (none_left n high e);
    acted_is = acts_read n high e;
    fits = slots-fit (unit_after (unit_with r done.unit (Look 0 ∷ [])) (read_told n high)) rooms roomy (lit≤ tt);
    shown = refl;
  }

  -- the status without data
  abbrev pub refused_told : Session
  refused_told = record {
    unit = p;
    log = [];
    task = record (task_of r lba) { fresh = false; just_moved = false };
    shows = Status (HasAnswered done.answer.status);
  }

  acts_refused : (wants_now p (Read lba 1 false)).bytes ≡ 0 → acted (Go 0) (session (unit_with r p []) (connected (task_of r lba) ToChoose)) ≡ refused_told
  unfolding acted
  acts_refused w = rw w refl

  pub goes_refused : (rooms : List ℕ) → 8 ≤ get_or rooms 0 0 → (wants_now p (Read lba 1 false)).bytes ≡ 0 → Goes (unit_with r p []) (task_of r lba) 0 refused_told rooms
  goes_refused rooms roomy w = record {
    only = offers_go (unit_with r p []) (task_of r lba) 0 calm.accepts calm.stays refl (ap (λ (x : ℕ). x - 0) w);
    acted_is = acts_refused w;
    fits = slots-fit (unit_after (unit_with r p []) refused_told) rooms roomy (lit≤ tt);
    shown = refl;
  }

  -- the end, which logs End
  abbrev pub ended_with : Session → List LogEntry → Session
  ended_with s log = record s { unit = done.unit; log = log; shows = MessageIn (CommandComplete (HasAnswered done.answer.status)) true }

  pub read_closed : (n high : ℕ) → closed (HasAnswered done.answer.status) (session (unit_with r done.unit (Look 0 ∷ [])) (connected (read_told n high).task (MessageIn (CommandComplete (HasAnswered done.answer.status)) true)))
      ≡ ended_with (read_told n high) (Look 0 ∷ End 0 ∷ [])
  unfolding closed
  read_closed n high = refl

  pub refused_closed : closed (HasAnswered done.answer.status) (session (unit_with r p []) (connected refused_told.task (MessageIn (CommandComplete (HasAnswered done.answer.status)) true))) ≡ ended_with refused_told (End 0 ∷ [])
  unfolding closed
  refused_closed = refl
