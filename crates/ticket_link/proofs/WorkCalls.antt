-- Which move each call of the bus is that a connected task takes part in.
use Rattle.std.proofs.Common.{◌≡◌, ℕ, Bool, true, false, List, [], refl, ap, sym, ◌∙◌, subst, Some}
use Rattle.unit_law.specs.Log.{with_at}
use Rattle.target_law.specs.declared.task_phase.ReselectByte.TheVariants as part
use Rattle.target_law.specs.declared.task_phase.TargetMessage.{TargetMessage}
use Rattle.target_law.specs.declared.task_phase.TargetMessage.TheVariants.{Reselection, CommandComplete, SaveThenDisconnect, SaveDataPointer, RestorePointers, Disconnect}
use Rattle.target_law.specs.declared.task_phase.TaskPhase.{TaskPhase}
use Rattle.target_law.specs.declared.task_phase.TaskPhase.TheVariants.{MessageOut, DataOut, MessageIn}
use Rattle.target_law.specs.declared.task_phase.Completion.{Completion}
use Rattle.target_law.specs.Session.{closed}
use Rattle.target_law.specs.Bytes.{Connection, byte_by, sent_by, takes_by, took_by, hears, heard_by}
use Rattle.target_law.specs.Target.{LogicalUnit, TaskConnected, Target, unit_at, session, linked, ends, leaves, target_reset}
use Rattle.target_law.specs.Calls.{asked_by, link_byte, sent_if, link_takes, took_if, InitiatorMessage, Names, Resets, AbortsTag, Other, message_of, aborted, told, messaged_by, target_messaged, message_acked, shown_acked, acked_by, target_acked}
use Rattle.ticket_fate.specs.Tickets.{Plan, Ticket}
use Rattle.ticket_fate.specs.Linked.{ByDevice, CanReset, reset_tickets}
use Rattle.ticket_fate.specs.Moves.{parts_ticket, target_of, Moves, sends, receives, hears as hears_message, listens, leaves_bus, completes, drops_task, ask_sends, ask_completes, resets_work}
use Rattle.ticket_fate.proofs.Targets.{at-lun}
use Rattle.ticket_link.specs.CallMoves.{IsCall, CallMoves, DeviceResetMoves}
use Rattle.ticket_link.specs.WorkCalls.{IsWorking, WorkCallsMove}

-- the target after a call, by its connection
module _ (t : Target) (c : Connection) (u : LogicalUnit) (link : t.link ≡ TaskConnected c) (there : unit_at t.units c.lun ≡ Some u) where
  asked-is : linked t (asked_by t.link) ≡ linked t (TaskConnected (record c { heard = []; shows = MessageOut }))
  asked-is = ap (λ l. linked t (asked_by l)) link

  sent-is : (b : ℕ) → byte_by c.shows c.task c.lun ≡ Some b → linked t (sent_if (link_byte t.link) t.link) ≡ linked t (TaskConnected (sent_by c.shows c))
  sent-is b e = ap (λ l. linked t (sent_if (link_byte l) l)) link ∙ ap (λ o. linked t (sent_if o (TaskConnected c))) e

  took-is : (s : TaskPhase) (b : ℕ) → c.shows ≡ s → takes_by s ≡ true → linked t (took_if (link_takes t.link) t.link b) ≡ linked t (TaskConnected (took_by s c b))
  took-is s b e takes =
      ap (λ l. linked t (took_if (link_takes l) l b)) link
      ∙ ap (λ z. linked t (took_if z (TaskConnected c) b)) (ap takes_by e ∙ takes)
      ∙ ap (λ z. linked t (TaskConnected (took_by z c b))) e

  told-is : (m : InitiatorMessage) → message_of c.heard ≡ m → target_messaged t ≡ told m t c
  unfolding target_messaged
  told-is m e = ap (λ l. messaged_by l t) link ∙ ap (λ z. told z t c) e

  aborted-is : message_of c.heard ≡ AbortsTag → (b : Bool) → c.reselected ≡ b → target_messaged t ≡ aborted b t c u
  aborted-is e b r = told-is AbortsTag e ∙ at-lun t c.lun (aborted c.reselected t c) u there ∙ ap (λ z. aborted z t c u) r

  away-by : (m : InitiatorMessage) → message_of c.heard ≡ m → (message_of c.heard ≡ Resets → ⊥) → (message_of c.heard ≡ AbortsTag → c.reselected ≡ false) → target_messaged t ≡ leaves t c u
  away-by (Names n) e f h = told-is (Names n) e ∙ at-lun t c.lun (leaves t c) u there
  away-by Resets e f h = absurd (f e)
  away-by AbortsTag e f h = aborted-is e false (h e)
  away-by Other e f h = told-is Other e ∙ at-lun t c.lun (leaves t c) u there

  acked-is : (n : TargetMessage) (s : Bool) → c.shows ≡ MessageIn n s → target_acked t ≡ message_acked n t c
  unfolding target_acked
  acked-is n s e = ap (λ l. acked_by l t) link ∙ ap (λ z. shown_acked z t c) e

  heard-is : (n : TargetMessage) (s : Bool) → c.shows ≡ MessageIn n s → ((v : Completion) → n ≡ CommandComplete v → ⊥) → (n ≡ Disconnect → ⊥) → target_acked t ≡ linked t (TaskConnected (heard_by n c))
  heard-is (Reselection part.Identify) s e d f = acked-is (Reselection part.Identify) s e
  heard-is (Reselection part.SimpleQueueTag) s e d f = acked-is (Reselection part.SimpleQueueTag) s e
  heard-is (Reselection part.Tag) s e d f = acked-is (Reselection part.Tag) s e
  heard-is (CommandComplete v) s e d f = absurd (d v refl)
  heard-is SaveThenDisconnect s e d f = acked-is SaveThenDisconnect s e
  heard-is SaveDataPointer s e d f = acked-is SaveDataPointer s e
  heard-is RestorePointers s e d f = acked-is RestorePointers s e
  heard-is Disconnect s e d f = absurd (f refl)

  left-is : (s : Bool) → c.shows ≡ MessageIn Disconnect s → target_acked t ≡ leaves t c u
  left-is s e = acked-is Disconnect s e ∙ at-lun t c.lun (leaves t c) u there

  ended-is : (v : Completion) (s : Bool) → c.shows ≡ MessageIn (CommandComplete v) s → target_acked t ≡ ends t c u (closed v (session u c))
  ended-is v s e = acked-is (CommandComplete v) s e ∙ at-lun t c.lun (λ w. ends t c w (closed v (session w c))) u there

-- a move to a target that is the same
same-move : (g : Plan) (count : ℕ) (ks ns : ℕ → Ticket) (ts : ℕ → Target) (i : ℕ) (s t : Target) → s ≡ t → (m : Moves g count ks ts ns (with_at ts i t)) → IsCall m → CallMoves g count ks ts ns (with_at ts i s)
same-move g count ks ns ts i s t e m call = subst (λ z. CallMoves g count ks ts ns (with_at ts i z)) (sym e) (m, call)

-- BUS DEVICE RESET
reset-move : (g : Plan) (count : ℕ) (ks : ℕ → Ticket) (ts : ℕ → Target) (i : ℕ) (c : Connection) (u : LogicalUnit) → IsWorking ts i c u → c.task.senses ≡ false → ((x : ℕ) → target_of g x ≡ i → CanReset ByDevice (ks x).life) → (t : Target)
    → t ≡ target_reset (ts i) → DeviceResetMoves i g count ks ts (reset_tickets g i ByDevice (ts i) (with_at ks c.task.ticket (parts_ticket ks c))) (with_at ts i t)
reset-move g count ks ts i c u w free can t e =
    subst (λ z. DeviceResetMoves i g count ks ts (reset_tickets g i ByDevice (ts i) (with_at ks c.task.ticket (parts_ticket ks c))) (with_at ts i z)) (sym e) (resets_work i ByDevice c u w.link free w.there can, (refl, refl))

-- a byte of a message leaves the phase
phase-stays : (c : Connection) (heard : List ℕ) → c.shows ≡ MessageOut → record c { heard = heard } ≡ record c { heard = heard; shows = MessageOut }
phase-stays c heard e = ap (λ (z : TaskPhase). record c { heard = heard; shows = z }) e

listened-is : (t : Target) (c : Connection) (b : ℕ) → c.shows ≡ MessageOut → linked t (TaskConnected (took_by MessageOut c b)) ≡ linked t (TaskConnected (record c { heard = hears c.heard b; shows = MessageOut }))
listened-is t c b e = ap (λ z. linked t (TaskConnected z)) (phase-stays c (hears c.heard b) e)

pub work-calls-move : WorkCallsMove
work-calls-move = record {
  asked = λ g count ks ts i c u w free. same-move g count ks _ ts i _ _ (asked-is (ts i) c u w.link w.there) (listens i c [] w.link free) tt;
  listened = λ g count ks ts i c u w free b e.
      same-move g count ks _ ts i _ _ (took-is (ts i) c u w.link w.there MessageOut b e refl ∙ listened-is (ts i) c b e) (listens i c (hears c.heard b) w.link free) tt;
  received = λ g count ks ts i c u w free n b e byte. same-move g count ks _ ts i _ _ (took-is (ts i) c u w.link w.there (DataOut n) b e refl) (receives i c n c.task.position b w.link free e refl byte) tt;
  sent = λ g count ks ts i c u w free b e. same-move g count ks _ ts i _ _ (sent-is (ts i) c u w.link w.there b e) (sends i c c.task.position b w.link free refl e) tt;
  sense_sent = λ g count ks ts i c u w asks b e. same-move g count ks _ ts i _ _ (sent-is (ts i) c u w.link w.there b e) (ask_sends i c c.task.position b w.link asks refl e) tt;
  aborted = λ g count ks ts i c u w free e r marked. same-move g count ks _ ts i _ _ (aborted-is (ts i) c u w.link w.there e true r) (drops_task i c u w.link free w.there marked) tt;
  sent_away = λ g count ks ts i c u w free f h saves. same-move g count ks _ ts i _ _ (away-by (ts i) c u w.link w.there (message_of c.heard) refl f h) (leaves_bus i c u w.link free w.there saves) tt;
  reset = λ g count ks ts i c u w free e can. reset-move g count ks ts i c u w free can (target_messaged (ts i)) (told-is (ts i) c u w.link w.there Resets e);
  heard = λ g count ks ts i c u w free n s e d f. same-move g count ks _ ts i _ _ (heard-is (ts i) c u w.link w.there n s e d f) (hears_message i c n s w.link free e d f) tt;
  left = λ g count ks ts i c u w free s e saves. same-move g count ks _ ts i _ _ (left-is (ts i) c u w.link w.there s e) (leaves_bus i c u w.link free w.there saves) tt;
  completed = λ g count ks ts i c u w free v s e k z. same-move g count ks _ ts i _ _ (ended-is (ts i) c u w.link w.there v s e) (completes i c u v s k w.link free w.there e z) tt;
  sense_completed = λ g count ks ts i c u w asks v s e. same-move g count ks _ ts i _ _ (ended-is (ts i) c u w.link w.there v s e) (ask_completes i c u v s w.link asks w.there e) tt;
}
