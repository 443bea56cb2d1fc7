-- The turn of a connected target: a choice of its task, a message that it is to hear, or what a unit that breaks the rules does.
use Rattle.std.proofs.Common.{◌≡◌, ℕ, zero, suc, ◌-◌, ◌/◌, ◌<◌, ◌%◌, Bool, true, false, List, [], ◌∷◌, ◌++◌, refl, ap, arith, sym, ◌∙◌, subst, Option, Some, None, ◌⊎◌, inl, inr, cond}
use Rattle.std.specs.Prelude.{slice_get, length, option_and_then}
use Rattle.scsi_words.specs.declared.phases.kinds.Direction.{Direction}
use Rattle.scsi_words.specs.declared.phases.kinds.Direction.TheVariants.{In, Out, None as NoData}
use Rattle.scsi_words.specs.declared.phases.kinds.Phase.{Phase as BusPhase}
use Rattle.cdb_codec.specs.Forms.{need_of}
use Rattle.plain_lun.specs.Performing.{Answered, wants_now}
use Rattle.plain_lun.specs.Unit.{UnitState}
use Rattle.target_law.specs.declared.moves.Move.{Move}
use Rattle.target_law.specs.declared.moves.Move.TheVariants as move
use Rattle.target_law.specs.declared.nexus.Nexus.{Nexus}
use Rattle.target_law.specs.declared.rogue_phase.RoguePhase.{RoguePhase}
use Rattle.target_law.specs.declared.rogue_phase.RoguePhase.TheVariants as rogue_shows
use Rattle.target_law.specs.declared.task_phase.TaskPhase.{TaskPhase}
use Rattle.target_law.specs.declared.task_phase.TaskPhase.TheVariants.{ToChoose, MessageOut, DataIn, DataOut, Status, MessageIn}
use Rattle.target_law.specs.RoguePhases.{rogue_phase}
use Rattle.target_law.specs.Session.{Task, Session, total_of, remaining, acted, gone, phased, Can}
use Rattle.target_law.specs.Choice.{Choosable, if_can, can_go, can_spend, can_refuse, go_bytes, index}
use Rattle.target_law.specs.Lawful.{CanOf, refused_so_far}
use Rattle.target_law.specs.Bytes.{Connection, phase_of}
use Rattle.target_law.specs.Sound.{HasMoved, IsSound, IsSoundTask, IsWorth}
use Rattle.target_law.specs.Target as connection_state
use Rattle.target_law.specs.Target.{LogicalUnit, ConnectionState, BusFree, TakingCommand, TaskConnected, RogueConnected, Target, unit_at, session, linked, parted, goes_on}
use Rattle.target_law.specs.Calls.{is_free, link_phase, target_acted, acted_by}
use Rattle.target_law.specs.Devices.{DeviceState, where_room, lie_within}
use Rattle.bus_law.specs.Bus.{BusState, device_at}
use Rattle.bus_law.specs.Choices.{moves_of, named_by, acts, chooses, left_by, left_where, turned_by, turned}
use Rattle.target_session.proofs.Offers.{names_can, choosable_some}
use Rattle.ticket_fate.specs.Tickets.{Plan, Ticket}
use Rattle.ticket_fate.specs.Linked.{IsPlan, HasRogue}
use Rattle.ticket_fate.specs.Moves.{IsIdle, MayLink, acts as acts_so, listens}
use Rattle.ticket_fate.specs.Kept.{AllKept}
use Rattle.ticket_fate.proofs.Recorded.{idle-parted}
use Rattle.ticket_fate.proofs.ReceivedBytes.{no-need}
use Rattle.ticket_fate.proofs.Targets.{at-lun}
use Rattle.ticket_link.specs.Laws.{Relinks}
use Rattle.ticket_link.proofs.IdleCalls.{idle-calls-relink}
use Rattle.plain_lun.proofs.Laws.{wants-most}
use Rattle.bus_events.specs.Targets.{targets}
use Rattle.bus_events.specs.Tickets.{after_choice}
use Rattle.bus_events.specs.Needs.{NeedsChoice, HasRoomToChoose}
use Rattle.bus_events.proofs.Devices.{roomy}
use Rattle.bus_events.proofs.TicketCalls.{Goes, relinked, link-kept, own-unit, own-sound}

-- a phase is shown
abbrev Shows : TaskPhase → Type 0
Shows sh = (p : BusPhase) × (phase_of sh ≡ Some p)

-- ---- a lawful move leads to a phase
phased-shows : (d : Direction) (s : Session) (n : ℕ) → (d ≡ NoData → ⊥) → Shows (phased d s n).shows
phased-shows In s n f = (_, refl)
phased-shows Out s n f = (_, refl)
phased-shows NoData s n f = absurd (f refl)

-- a command without data has none left
none-left : (d : Direction) (o : Option Answered) (u : UnitState) (k : Task) → HasMoved d o u k → d ≡ NoData → (need_of k.cdb).bytes ≡ 0 → total_of o (wants_now u k.cdb).bytes ≡ 0
none-left NoData (Some a) u k m e z = absurd m
none-left NoData None u k m e z = omega (arith, wants-most u k.cdb)
none-left In o u k m e z = cc
none-left Out o u k m e z = cc

gone-shows : (r : ℕ) (s : Session) (n : ℕ) → remaining s ≡ r → IsSoundTask s.unit s.task → Shows (gone r s n).shows
gone-shows zero s n e i = (_, refl)
gone-shows (suc r) s n e i = phased-shows (need_of s.task.cdb).direction s n (λ d.
    let z : total_of s.task.kept (wants_now s.unit s.task.cdb).bytes ≡ 0 = none-left (need_of s.task.cdb).direction s.task.kept s.unit s.task i.moved d (no-need s.task.cdb d) in
    let q : total_of s.task.kept (wants_now s.unit s.task.cdb).bytes - s.task.position ≡ suc r = e in
    absurd (omega arith))

acted-shows : (m : Move) (s : Session) (limit refused : ℕ) → IsSoundTask s.unit s.task → Can m s limit refused → Shows (acted m s).shows
unfolding acted
acted-shows (move.Go n) s limit refused i c = gone-shows (remaining s) s n refl i
acted-shows move.Busy s limit refused i c = (_, refl)
acted-shows move.QueueFull s limit refused i c = (_, refl)
acted-shows move.Leave s limit refused i c = (_, refl)
acted-shows move.SaveLeave s limit refused i c = (_, refl)
acted-shows move.Save s limit refused i c = (_, refl)
acted-shows move.Restore s limit refused i c = (_, refl)
acted-shows (move.Rogue word) s limit refused i c = absurd c

-- ---- a task that is to choose has a move that the word names
within-list : (ms : List Move) (k : ℕ) → k < length ms → (m : Move) × (slice_get ms k ≡ Some m)
within-list [] k l = absurd (omega arith)
within-list (m ∷ ms) zero l = (m, refl)
within-list (m ∷ ms) (suc k) l = within-list ms k (omega arith)

some-go : (a b c : Bool) (n : ℕ) → (a ≡ true) ⊎ (c ≡ true) → 0 < length (if_can a (move.Go n ∷ []) ++ (if_can b (move.Busy ∷ move.QueueFull ∷ []) ++ if_can c (move.Leave ∷ move.SaveLeave ∷ move.Save ∷ move.Restore ∷ [])))
some-go true b c n h = omega arith
some-go false true c n h = omega arith
some-go false false true n h = omega arith
some-go false false false n (inl e) = absurd cc
some-go false false false n (inr e) = absurd cc

below : (k n : ℕ) → 0 < n → k % n < n
below k n l = omega arith

named-some : (u : LogicalUnit) (c : Connection) (word : ℕ) → Choosable (session u c) → (m : Move) × (named_by u c word ≡ Some m)
named-some u c word h =
    let s = session u c in
    let ms = moves_of u c word in
    within-list ms (index word (length ms)) (below (word / 16777216 % 128) (length ms) (some-go (can_go s) (can_refuse s u.rig.refusals (refused_so_far u c.task.ticket)) (can_spend s) (go_bytes s word) (choosable_some s h)))

-- the target after a lawful move
acted-is : (t : Target) (c : Connection) (u : LogicalUnit) (m : Move) → t.link ≡ TaskConnected c → unit_at t.units c.lun ≡ Some u → target_acted t m ≡ goes_on t c u (acted m (session u c))
unfolding target_acted
acted-is t c u m link there = ap (λ l. acted_by l t m) link ∙ at-lun t c.lun _ u there

left-shown : (o : Option BusPhase) (d : DeviceState) (p : BusPhase) → o ≡ Some p → left_by o d ≡ d
left-shown None d p e = cc
left-shown (Some q) d p e = refl

module _ (g : Plan) (count : ℕ) (ks : ℕ → Ticket) (b : BusState) (plan : IsPlan g count) (h : AllKept g count ks (targets b)) (i : ℕ) where
  abbrev d : DeviceState
  d = device_at b i

  abbrev Comes : (ℕ → Ticket) → Target → Type 0
  Comes ns t = Goes g count ks (targets b) plan h i ns t

  -- the turn of a target, by the phase that it shows
  abbrev pub Turns : (o : Option BusPhase) (atn : Bool) (word : ℕ) → ConnectionState → Type 0
  Turns o atn word l = Comes (after_choice ks o l (turned_by o atn word d).target.link) (turned_by o atn word d).target

  module _ (c : Connection) (link : d.target.link ≡ TaskConnected c) (word : ℕ) where
    unit : (u : LogicalUnit) × (unit_at d.target.units c.lun ≡ Some u)
    unit = own-unit g count ks (targets b) plan h i c link

    sound : IsSound (session unit.0 c)
    sound = own-sound g count ks (targets b) plan h i c link unit.0 unit.1

    -- it hears a message
    hears-turn : c.shows ≡ ToChoose → c.task.senses ≡ false → Turns None true word (TaskConnected c)
    hears-turn e plain =
        subst (λ z. Comes (after_choice ks None (TaskConnected c) (left_where (chooses z true word d)).target.link) (left_where (chooses z true word d)).target) (sym link) (inr (listens i c [] link plain, tt))

    -- it makes a move
    moved : (m : Move) → named_by unit.0 c word ≡ Some m → CanOf unit.0 c m → lie_within (target_acted d.target m).units d.rooms ≡ true
        → left_where (chooses d.target.link false word d) ≡ record { target = target_acted d.target m; rooms = d.rooms }
    moved m e can room =
        let s = acted m (session unit.0 c) in
        let shows = acted-shows m (session unit.0 c) _ _ sound.task can in
        let y : DeviceState = record { target = target_acted d.target m; rooms = d.rooms } in
        ap (λ l. left_where (chooses l false word d)) link
        ∙ ap (λ o. left_where (acts (option_and_then (λ v. named_by v c word) o) d)) unit.1
        ∙ ap (λ o. left_where (acts o d)) e
        ∙ ap left_where (roomy d (target_acted d.target m) room)
        ∙ left-shown (link_phase y.target.link) y shows.0 (ap (λ (t : Target). link_phase t.link) (acted-is d.target c unit.0 m link unit.1) ∙ shows.1)

    moves-turn : c.shows ≡ ToChoose → HasRoomToChoose b i → Turns None false word (TaskConnected c)
    moves-turn e room =
        let choosable : Choosable (session unit.0 c) = choice-of c.shows e sound.worth in
        let n = named-some unit.0 c word choosable in
        let m = n.0 in
        let can : CanOf unit.0 c m = names_can (session unit.0 c) _ _ word m n.1 in
        let s = acted m (session unit.0 c) in
        subst (λ (y : DeviceState). Comes (after_choice ks None (TaskConnected c) y.target.link) y.target) (sym (moved m n.1 can (room c unit.0 m link unit.1 e can)))
        (subst (λ l. Comes (after_choice ks None (TaskConnected c) l) (target_acted d.target m)) (sym (ap (λ (t : Target). t.link) (acted-is d.target c unit.0 m link unit.1)))
        (inr (acts_so i c unit.0 m link unit.1 e can, tt)))
      where
        choice-of : (sh : TaskPhase) → sh ≡ ToChoose → IsWorth sh (session unit.0 c) → Choosable (session unit.0 c)
        choice-of sh e w = subst (λ z. IsWorth z (session unit.0 c)) e w

    choice-turn : (atn : Bool) → c.shows ≡ ToChoose → NeedsChoice atn (TaskConnected c) → HasRoomToChoose b i → Turns None atn word (TaskConnected c)
    choice-turn true e needs room = hears-turn e needs
    choice-turn false e needs room = moves-turn e room

    task-turn : (atn : Bool) (sh : TaskPhase) → c.shows ≡ sh → NeedsChoice atn (TaskConnected c) → HasRoomToChoose b i → Turns (phase_of sh) atn word (TaskConnected c)
    task-turn atn ToChoose e needs room = choice-turn atn e needs room
    task-turn atn MessageOut e needs room = inl (refl, refl)
    task-turn atn (DataIn n) e needs room = inl (refl, refl)
    task-turn atn (DataOut n) e needs room = inl (refl, refl)
    task-turn atn (Status v) e needs room = inl (refl, refl)
    task-turn atn (MessageIn n s) e needs room = inl (refl, refl)

  -- ---- a unit that breaks the rules
  left-relinks : (y : DeviceState) → Relinks g i d.target y.target → Relinks g i d.target (left_where y).target
  left-relinks y r = by (link_phase y.target.link)
    where
      left : linked (parted y.target.link y.target) BusFree ≡ linked d.target BusFree
      left = ap (λ (t : Target). linked (parted t.link t) BusFree) r.3 ∙ ap (λ t. linked t BusFree) (idle-parted r.0 r.1 (linked d.target r.0))

      by : (o : Option BusPhase) → Relinks g i d.target (left_by o y).target
      by None = (BusFree, tt, tt, left)
      by (Some p) = r

  module _ (s : RoguePhase) (n : Option Nexus) (link : d.target.link ≡ RogueConnected s n) where
    idle : IsIdle d.target.link
    idle = subst IsIdle (sym link) tt

    rogue : HasRogue g i
    rogue = link-kept g count ks (targets b) plan h i (RogueConnected s n) link

    same : Relinks g i d.target d.target
    same = (RogueConnected s n, tt, rogue, ap (linked d.target) link)

    roomed : (t : Target) → Relinks g i d.target t → Relinks g i d.target (where_room d t).target
    unfolding where_room
    roomed t r = by (lie_within t.units d.rooms)
      where
        by : (z : Bool) → Relinks g i d.target (cond z (record { target = t; rooms = d.rooms }) d).target
        by true = r
        by false = same

    rogue-chosen : (atn : Bool) (word : ℕ) → Comes ks (left_where (chooses d.target.link atn word d)).target
    rogue-chosen atn word =
        let m = move.Rogue word in
        let r = roomed (target_acted d.target m) (idle-calls-relink.acted g i d.target m idle (subst (MayLink g i) (sym link) rogue)) in
        relinked g count ks (targets b) plan h i (left_where (chooses d.target.link atn word d)).target idle
        (left-relinks (chooses d.target.link atn word d) (subst (λ l. Relinks g i d.target (chooses l atn word d).target) (sym link) r))

  rogue-turn : (atn : Bool) (word : ℕ) (s : RoguePhase) (n : Option Nexus) → d.target.link ≡ RogueConnected s n → Turns (rogue_phase s) atn word (RogueConnected s n)
  rogue-turn atn word rogue_shows.ToChoose n e = rogue-chosen rogue_shows.ToChoose n e atn word
  rogue-turn atn word rogue_shows.MessageOut n e = inl (refl, refl)
  rogue-turn atn word (rogue_shows.DataIn left v) n e = inl (refl, refl)
  rogue-turn atn word (rogue_shows.DataOut left) n e = inl (refl, refl)
  rogue-turn atn word (rogue_shows.Command left) n e = inl (refl, refl)
  rogue-turn atn word (rogue_shows.Status v) n e = inl (refl, refl)
  rogue-turn atn word (rogue_shows.MessageIn v sent) n e = inl (refl, refl)
  rogue-turn atn word (rogue_shows.Reselection p sent) n e = inl (refl, refl)

  turn-goes : (l : ConnectionState) (atn : Bool) (word : ℕ) → d.target.link ≡ l → is_free l ≡ false → NeedsChoice atn l → HasRoomToChoose b i → Turns (link_phase l) atn word l
  turn-goes BusFree atn word e f needs room = absurd cc
  turn-goes (connection_state.Selected bytes) atn word e f needs room = inl (refl, refl)
  turn-goes (TakingCommand n taken) atn word e f needs room = inl (refl, refl)
  turn-goes (TaskConnected c) atn word e f needs room = task-turn c e word atn c.shows refl needs room
  turn-goes (RogueConnected s n) atn word e f needs room = rogue-turn atn word s n e

  pub turned-goes : (word : ℕ) → is_free d.target.link ≡ false → NeedsChoice b.atn d.target.link → HasRoomToChoose b i
      → Comes (after_choice ks (link_phase d.target.link) d.target.link (turned b.atn word d).target.link) (turned b.atn word d).target
  turned-goes word f needs room = turn-goes d.target.link b.atn word refl f needs room
