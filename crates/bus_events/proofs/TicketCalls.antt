-- What a call makes of one target and its tickets: nothing, or one move.
use Rattle.std.proofs.Common.{◌≡◌, ℕ, Bool, true, false, List, [], refl, ap, sym, ◌∙◌, subst, Option, Some, None, ◌⊎◌, inl, inr}
use Rattle.unit_law.specs.Log.{with_at}
use Rattle.target_law.specs.declared.rogue_phase.RoguePhase.{RoguePhase}
use Rattle.target_law.specs.declared.rogue_phase.RoguePhase.TheVariants as rogue_shows
use Rattle.target_law.specs.declared.nexus.Nexus.{Nexus}
use Rattle.target_law.specs.declared.task_phase.ReselectByte.TheVariants as part
use Rattle.target_law.specs.declared.task_phase.TargetMessage.{TargetMessage}
use Rattle.target_law.specs.declared.task_phase.TargetMessage.TheVariants.{Reselection, CommandComplete, SaveThenDisconnect, SaveDataPointer, RestorePointers, Disconnect}
use Rattle.target_law.specs.declared.task_phase.TaskPhase.{TaskPhase}
use Rattle.target_law.specs.declared.task_phase.TaskPhase.TheVariants.{ToChoose, MessageOut, DataIn, DataOut, Status, MessageIn}
use Rattle.target_law.specs.declared.task_phase.Completion.{Completion}
use Rattle.target_law.specs.declared.task_phase.Completion.TheVariants.{Answered, Refused}
use Rattle.target_law.specs.RoguePhases.{rogue_sent, rogue_phase}
use Rattle.target_law.specs.Bytes.{Connection, byte_by, sent_by, takes_by, took_by, hears, heard_by}
use Rattle.target_law.specs.Sound.{IsSound}
use Rattle.target_law.specs.Target as connection_state
use Rattle.target_law.specs.Target.{LogicalUnit, ConnectionState, BusFree, TakingCommand, TaskConnected, RogueConnected, Target, unit_at, on_unit, session, linked}
use Rattle.target_law.specs.Calls.{is_free, link_phase, link_byte, link_sent, InitiatorMessage, Names, Resets, AbortsTag, Other, message_of, greeted, messaged_by, target_messaged, shown_acked, acked_by, target_acked}
use Rattle.bus_law.specs.Attention.{is_message_out}
use Rattle.ticket_fate.specs.Tickets.{Plan, unit_of, Ticket, with_life}
use Rattle.ticket_fate.specs.Linked.{IsPlan, IsAtWork, IsAsking, ShownBySense, NoteOfSense, WorkKept, LinkKept, ByDevice}
use Rattle.ticket_fate.specs.Moves.{CompletesTicket, IsIdle, MayLink, target_of, sends, receives, listens, ask_sends, resets_idle}
use Rattle.ticket_fate.specs.Kept.{AllKept}
use Rattle.ticket_link.specs.CallMoves.{CallMoves, DeviceResetMoves}
use Rattle.ticket_link.specs.Laws.{Relinks}
use Rattle.ticket_link.specs.WorkCalls.{IsWorking}
use Rattle.ticket_link.proofs.IdleCalls.{idle-calls-relink}
use Rattle.ticket_link.proofs.WorkCalls.{work-calls-move}
use Rattle.bus_events.specs.Tickets.{ticket_by, completed_life, with_task, ends_as, after_sent, after_heard, after_shown, after_ack, after_abort, after_told, after_greeting, after_message, is_reset, task_resets, link_resets}
use Rattle.bus_events.specs.Needs.{NeedsData, NeedsAbort, NeedsTold, NeedsGreeting, NeedsMessage, NeedsVerdict, NeedsHeard, NeedsShown, NeedsAck}

pub free-is : (l : ConnectionState) → is_free l ≡ true → l ≡ BusFree
free-is BusFree e = refl
free-is (connection_state.Selected heard) e = absurd cc
free-is (TakingCommand n taken) e = absurd cc
free-is (TaskConnected c) e = absurd cc
free-is (RogueConnected s n) e = absurd cc

-- a byte of a message leaves the phase
phase-stays : (c : Connection) (heard : List ℕ) → c.shows ≡ MessageOut → record c { heard = heard } ≡ record c { heard = heard; shows = MessageOut }
phase-stays c heard e = ap (λ (z : TaskPhase). record c { heard = heard; shows = z }) e

module _ (g : Plan) (count : ℕ) (ks : ℕ → Ticket) (ts : ℕ → Target) (plan : IsPlan g count) (h : AllKept g count ks ts) (i : ℕ) where
  -- nothing changes, or it is one move
  abbrev pub Goes : (ℕ → Ticket) → Target → Type 0
  Goes ns t = ((ns ≡ ks) × (t ≡ ts i)) ⊎ CallMoves g count ks ts ns (with_at ts i t)

  -- by BUS DEVICE RESET it is a reset
  abbrev pub GoesBy : Bool → (ℕ → Ticket) → Target → Type 0
  GoesBy false ns t = Goes ns t
  GoesBy true ns t = DeviceResetMoves i g count ks ts ns (with_at ts i t)

  pub relinked : (t : Target) → IsIdle (ts i).link → Relinks g i (ts i) t → Goes ks t
  relinked t idle r = inr (idle-calls-relink.moves g count ks ts i t idle r)

  pub link-kept : (l : ConnectionState) → (ts i).link ≡ l → LinkKept l g i ks (ts i)
  link-kept l e = subst (λ z. LinkKept z g i ks (ts i)) e (h.each i).link

  -- a connected task, with its unit
  module _ (c : Connection) (link : (ts i).link ≡ TaskConnected c) where
    abbrev x : ℕ
    x = c.task.ticket

    work : WorkKept c.task.senses g i ks (ts i) c
    work = link-kept (TaskConnected c) link

    pub work-plain : c.task.senses ≡ false → IsAtWork g i ks (ts i) c
    work-plain e = subst (λ b. WorkKept b g i ks (ts i) c) e work

    pub work-asks : c.task.senses ≡ true → IsAsking g i ks (ts i) c
    work-asks e = subst (λ b. WorkKept b g i ks (ts i) c) e work

    its-unit : target_of g x ≡ i → c.lun ≡ (g.units (unit_of g x)).lun → (u : LogicalUnit) × (unit_at (ts i).units c.lun ≡ Some u)
    its-unit target lun = let u = (h.each i).units (unit_of g x) (plan.known x) target in (u.0, ap (unit_at (ts i).units) lun ∙ u.1)

    pub own-unit : (u : LogicalUnit) × (unit_at (ts i).units c.lun ≡ Some u)
    own-unit = by c.task.senses work
      where
        by : (b : Bool) → WorkKept b g i ks (ts i) c → (u : LogicalUnit) × (unit_at (ts i).units c.lun ≡ Some u)
        by false w = its-unit w.target w.lun
        by true w = its-unit w.target w.lun

    pub own-sound : (u : LogicalUnit) → unit_at (ts i).units c.lun ≡ Some u → IsSound (session u c)
    own-sound u there = by c.task.senses work
      where
        by : (b : Bool) → WorkKept b g i ks (ts i) c → IsSound (session u c)
        by false w = w.sound u there
        by true w = w.sound u there

    working : IsWorking ts i c own-unit.0
    working = record { link = link; there = own-unit.1 }

    -- what a sense task never shows
    pub plain-by : (s : TaskPhase) → c.shows ≡ s → (ShownBySense s → ⊥) → (b : Bool) → c.task.senses ≡ b → c.task.senses ≡ false
    plain-by s e none false f = f
    plain-by s e none true f = absurd (none (subst ShownBySense e (work-asks f).shows))

    -- ---- a byte that it sends
    sent-by : (senses : Bool) → c.task.senses ≡ senses → (b : ℕ) → byte_by c.shows c.task c.lun ≡ Some b
        → CallMoves g count ks ts (with_at ks x (ticket_by senses c b (ks x))) (with_at ts i (linked (ts i) (TaskConnected (sent_by c.shows c))))
    sent-by false f b e = (sends i c c.task.position b link f refl e, tt)
    sent-by true f b e = (ask_sends i c c.task.position b link f refl e, tt)

    pub task-sent : (b : ℕ) → byte_by c.shows c.task c.lun ≡ Some b → Goes (after_sent ks (byte_by c.shows c.task c.lun) (TaskConnected c)) (linked (ts i) (TaskConnected (sent_by c.shows c)))
    task-sent b e = subst (λ o. Goes (after_sent ks o (TaskConnected c)) (linked (ts i) (TaskConnected (sent_by c.shows c)))) (sym e) (inr (sent-by c.task.senses refl b e))

    -- ---- a byte that it takes
    taken-by : (s : TaskPhase) (b : ℕ) → c.shows ≡ s → takes_by s ≡ true → NeedsData g i ks s c b → Goes (with_task ks c (took_by s c b).task) (linked (ts i) (TaskConnected (took_by s c b)))
    taken-by MessageOut b e t needs =
        let plain = plain-by MessageOut e (λ z. z) c.task.senses refl in
        subst (λ z. Goes (with_task ks c c.task) (linked (ts i) (TaskConnected z))) (sym (phase-stays c (hears c.heard b) e)) (inr (listens i c (hears c.heard b) link plain, tt))
    taken-by (DataOut n) b e t needs =
        let plain = plain-by (DataOut n) e (λ z. z) c.task.senses refl in
        inr (receives i c n c.task.position b link plain e refl needs, tt)
    taken-by ToChoose b e t needs = absurd cc
    taken-by (DataIn n) b e t needs = absurd cc
    taken-by (Status v) b e t needs = absurd cc
    taken-by (MessageIn n s) b e t needs = absurd cc

    pub task-taken : (b : ℕ) → takes_by c.shows ≡ true → NeedsData g i ks c.shows c b → Goes (with_task ks c (took_by c.shows c b).task) (linked (ts i) (TaskConnected (took_by c.shows c b)))
    task-taken b t needs = taken-by c.shows b refl t needs

    -- ---- a message that it heard
    told : (m : InitiatorMessage) → message_of c.heard ≡ m → c.task.senses ≡ false → NeedsTold g i ks m c → GoesBy (is_reset m) (after_told ks g i (ts i) m c) (target_messaged (ts i))
    told (Names n) e plain needs =
        inr (work-calls-move.sent_away g count ks ts i c own-unit.0 working plain (λ f. let z : Names n ≡ Resets = sym e ∙ f in cc) (λ f. absurd (let z : Names n ≡ AbortsTag = sym e ∙ f in cc)) needs)
    told Resets e plain needs = work-calls-move.reset g count ks ts i c own-unit.0 working plain e needs
    told AbortsTag e plain needs = inr (by c.reselected refl needs)
      where
        by : (b : Bool) → c.reselected ≡ b → NeedsAbort g i ks b c → CallMoves g count ks ts (after_abort ks g i (ts i) b c) (with_at ts i (target_messaged (ts i)))
        by true r o = work-calls-move.aborted g count ks ts i c own-unit.0 working plain e r o
        by false r o = work-calls-move.sent_away g count ks ts i c own-unit.0 working plain (λ f. let z : AbortsTag ≡ Resets = sym e ∙ f in cc) (λ f. r) o
    told Other e plain needs =
        inr (work-calls-move.sent_away g count ks ts i c own-unit.0 working plain (λ f. let z : Other ≡ Resets = sym e ∙ f in cc) (λ f. absurd (let z : Other ≡ AbortsTag = sym e ∙ f in cc)) needs)

    pub task-told : c.shows ≡ MessageOut → NeedsTold g i ks (message_of c.heard) c → GoesBy (is_reset (message_of c.heard)) (after_told ks g i (ts i) (message_of c.heard) c) (target_messaged (ts i))
    task-told e needs = told (message_of c.heard) refl (plain-by MessageOut e (λ z. z) c.task.senses refl) needs

    -- ---- a message of it that is acknowledged
    completes-by : (v : Completion) → NeedsVerdict g i ks false v c → CompletesTicket v g x (ks x) (session own-unit.0 c) (with_life (ks x) (completed_life false v))
    completes-by (Answered st) needs = (needs.0, needs.1, refl)
    completes-by (Refused st) needs = (needs, refl)

    completed : (b : Bool) (v : Completion) (s : Bool) → c.task.senses ≡ b → c.shows ≡ MessageIn (CommandComplete v) s → NeedsVerdict g i ks b v c
        → CallMoves g count ks ts (ends_as ks (completed_life b v) c) (with_at ts i (target_acked (ts i)))
    completed false v s f e needs = work-calls-move.completed g count ks ts i c own-unit.0 working f v s e (with_life (ks x) (completed_life false v)) (completes-by v needs)
    completed true v s f e needs = work-calls-move.sense_completed g count ks ts i c own-unit.0 working f v s e

    heard : (n : TargetMessage) (s : Bool) → c.shows ≡ MessageIn n s → (NoteOfSense n → ⊥) → ((v : Completion) → n ≡ CommandComplete v → ⊥) → (n ≡ Disconnect → ⊥)
        → CallMoves g count ks ts (with_task ks c (heard_by n c).task) (with_at ts i (target_acked (ts i)))
    heard n s e none d f = work-calls-move.heard g count ks ts i c own-unit.0 working (plain-by (MessageIn n s) e none c.task.senses refl) n s e d f

    acknowledged : (n : TargetMessage) (s : Bool) → c.shows ≡ MessageIn n s → NeedsHeard g i ks n c → CallMoves g count ks ts (after_heard ks n c) (with_at ts i (target_acked (ts i)))
    acknowledged (CommandComplete v) s e needs = completed c.task.senses v s refl e needs
    acknowledged Disconnect s e needs = work-calls-move.left g count ks ts i c own-unit.0 working (plain-by (MessageIn Disconnect s) e (λ z. z) c.task.senses refl) s e needs
    acknowledged (Reselection part.Identify) s e needs = heard (Reselection part.Identify) s e (λ z. z) (λ v z. cc) (λ z. cc)
    acknowledged (Reselection part.SimpleQueueTag) s e needs = heard (Reselection part.SimpleQueueTag) s e (λ z. z) (λ v z. cc) (λ z. cc)
    acknowledged (Reselection part.Tag) s e needs = heard (Reselection part.Tag) s e (λ z. z) (λ v z. cc) (λ z. cc)
    acknowledged SaveThenDisconnect s e needs = heard SaveThenDisconnect s e (λ z. z) (λ v z. cc) (λ z. cc)
    acknowledged SaveDataPointer s e needs = heard SaveDataPointer s e (λ z. z) (λ v z. cc) (λ z. cc)
    acknowledged RestorePointers s e needs = heard RestorePointers s e (λ z. z) (λ v z. cc) (λ z. cc)

    -- it shows no message
    silent-acked : (s : TaskPhase) → c.shows ≡ s → ((t : Target) → shown_acked s t c ≡ t) → target_acked (ts i) ≡ ts i
    unfolding target_acked
    silent-acked s e f = ap (λ l. acked_by l (ts i)) link ∙ ap (λ z. shown_acked z (ts i) c) e ∙ f (ts i)

    shown-acked : (s : TaskPhase) → c.shows ≡ s → NeedsShown g i ks s c → Goes (after_shown ks s c) (target_acked (ts i))
    shown-acked (MessageIn n s) e needs = inr (acknowledged n s e needs)
    shown-acked ToChoose e needs = inl (refl, silent-acked ToChoose e (λ t. refl))
    shown-acked MessageOut e needs = inl (refl, silent-acked MessageOut e (λ t. refl))
    shown-acked (DataIn n) e needs = inl (refl, silent-acked (DataIn n) e (λ t. refl))
    shown-acked (DataOut n) e needs = inl (refl, silent-acked (DataOut n) e (λ t. refl))
    shown-acked (Status v) e needs = inl (refl, silent-acked (Status v) e (λ t. refl))

    pub task-acked : NeedsShown g i ks c.shows c → Goes (after_shown ks c.shows c) (target_acked (ts i))
    task-acked needs = shown-acked c.shows refl needs

  -- ---- the calls by the link

  idle-is : (l : ConnectionState) → (ts i).link ≡ l → IsIdle l → IsIdle (ts i).link
  idle-is l e f = subst IsIdle (sym e) f

  -- ByteIn
  pub sent-goes : (l : ConnectionState) (b : ℕ) → (ts i).link ≡ l → link_byte l ≡ Some b → Goes (after_sent ks (link_byte l) l) (linked (ts i) (link_sent l))
  sent-goes BusFree b e f = absurd cc
  sent-goes (connection_state.Selected bytes) b e f = absurd cc
  sent-goes (TakingCommand n taken) b e f = absurd cc
  sent-goes (TaskConnected c) b e f = task-sent c e b f
  sent-goes (RogueConnected s n) b e f =
      subst (λ o. Goes (after_sent ks o (RogueConnected s n)) (linked (ts i) (link_sent (RogueConnected s n)))) (sym f)
      (relinked (linked (ts i) (link_sent (RogueConnected s n))) (idle-is (RogueConnected s n) e tt) (RogueConnected (rogue_sent s) n, tt, link-kept (RogueConnected s n) e, refl))

  -- ClearAck
  idle-acked : (l : ConnectionState) → (ts i).link ≡ l → IsIdle l → MayLink g i l → Goes ks (target_acked (ts i))
  idle-acked l e f may = relinked (target_acked (ts i)) (idle-is l e f) (idle-calls-relink.acked g i (ts i) (idle-is l e f) (subst (MayLink g i) (sym e) may))

  pub acked-goes : (l : ConnectionState) → (ts i).link ≡ l → NeedsAck g i ks l → Goes (after_ack ks true l) (target_acked (ts i))
  acked-goes BusFree e needs = idle-acked BusFree e tt tt
  acked-goes (connection_state.Selected bytes) e needs = idle-acked (connection_state.Selected bytes) e tt tt
  acked-goes (TakingCommand n taken) e needs = idle-acked (TakingCommand n taken) e tt tt
  acked-goes (TaskConnected c) e needs = task-acked c e needs
  acked-goes (RogueConnected s n) e needs = idle-acked (RogueConnected s n) e tt (link-kept (RogueConnected s n) e)

  -- SetAtn: what the target makes of a message
  greeting : (l : ConnectionState) (m : InitiatorMessage) → (ts i).link ≡ l → IsIdle l → NeedsGreeting g i ks m → GoesBy (is_reset m) (after_greeting ks g i (ts i) m) (greeted (ts i) m)
  greeting l (Names n) e f needs = relinked (greeted (ts i) (Names n)) (idle-is l e f) (named (unit_at (ts i).units n.lun) n)
    where
      named : (o : Option LogicalUnit) (n : Nexus) → Relinks g i (ts i) (on_unit o (λ u. linked (ts i) (TakingCommand n [])) (linked (ts i) BusFree))
      named (Some u) n = (TakingCommand n [], tt, tt, refl)
      named None n = (BusFree, tt, tt, refl)
  greeting l Resets e f needs = (resets_idle i ByDevice (idle-is l e f) needs, (refl, refl))
  greeting l AbortsTag e f needs = relinked (linked (ts i) BusFree) (idle-is l e f) (BusFree, tt, tt, refl)
  greeting l Other e f needs = relinked (linked (ts i) BusFree) (idle-is l e f) (BusFree, tt, tt, refl)

  messaged-is : (l : ConnectionState) → (ts i).link ≡ l → target_messaged (ts i) ≡ messaged_by l (ts i)
  unfolding target_messaged
  messaged-is l e = ap (λ z. messaged_by z (ts i)) e

  -- the target where it hears a message, or as it is
  abbrev pub messaged_if : Bool → Target
  messaged_if true = target_messaged (ts i)
  messaged_if false = ts i

  task-messaged : (c : Connection) → (ts i).link ≡ TaskConnected c → (s : TaskPhase) → c.shows ≡ s → (c.shows ≡ MessageOut → NeedsTold g i ks (message_of c.heard) c)
      → GoesBy (task_resets s c) (after_message ks g i (ts i) (is_message_out (link_phase (TaskConnected (record c { shows = s })))) (TaskConnected c)) (messaged_if (is_message_out (link_phase (TaskConnected (record c { shows = s })))))
  task-messaged c link MessageOut e needs = task-told c link e (needs e)
  task-messaged c link ToChoose e needs = inl (refl, refl)
  task-messaged c link (DataIn n) e needs = inl (refl, refl)
  task-messaged c link (DataOut n) e needs = inl (refl, refl)
  task-messaged c link (Status v) e needs = inl (refl, refl)
  task-messaged c link (MessageIn n s) e needs = inl (refl, refl)

  rogue-messaged : (s : RoguePhase) (n : Option Nexus) → (ts i).link ≡ RogueConnected s n
      → Goes (after_message ks g i (ts i) (is_message_out (rogue_phase s)) (RogueConnected s n)) (messaged_if (is_message_out (rogue_phase s)))
  rogue-messaged rogue_shows.MessageOut n e =
      relinked (target_messaged (ts i)) (idle-is (RogueConnected rogue_shows.MessageOut n) e tt)
      (RogueConnected rogue_shows.ToChoose n, tt, link-kept (RogueConnected rogue_shows.MessageOut n) e, messaged-is (RogueConnected rogue_shows.MessageOut n) e)
  rogue-messaged rogue_shows.ToChoose n e = inl (refl, refl)
  rogue-messaged (rogue_shows.DataIn left b) n e = inl (refl, refl)
  rogue-messaged (rogue_shows.DataOut left) n e = inl (refl, refl)
  rogue-messaged (rogue_shows.Command left) n e = inl (refl, refl)
  rogue-messaged (rogue_shows.Status b) n e = inl (refl, refl)
  rogue-messaged (rogue_shows.MessageIn b sent) n e = inl (refl, refl)
  rogue-messaged (rogue_shows.Reselection p sent) n e = inl (refl, refl)

  pub messaged-goes : (l : ConnectionState) → (ts i).link ≡ l → NeedsMessage g i ks l
      → GoesBy (link_resets l) (after_message ks g i (ts i) (is_message_out (link_phase l)) l) (messaged_if (is_message_out (link_phase l)))
  messaged-goes BusFree e needs = inl (refl, refl)
  messaged-goes (connection_state.Selected bytes) e needs =
      subst (λ t. GoesBy (is_reset (message_of bytes)) (after_greeting ks g i (ts i) (message_of bytes)) t) (sym (messaged-is (connection_state.Selected bytes) e))
      (greeting (connection_state.Selected bytes) (message_of bytes) e tt needs)
  messaged-goes (TakingCommand n taken) e needs = inl (refl, refl)
  messaged-goes (TaskConnected c) e needs = task-messaged c e c.shows refl needs
  messaged-goes (RogueConnected s n) e needs = rogue-messaged s n e
