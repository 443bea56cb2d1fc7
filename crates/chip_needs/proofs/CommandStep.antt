-- The step of the chip that sends the command behind a message.
use Rattle.world_law.specs.declared.reply.Stop.TheVariants as stop
use Rattle.ticket_fate.specs.Moves as move
use Rattle.run_joined.specs.ChipCalls as own
use Rattle.chip_needs.proofs.OwnMoves.{own-moves-stand}
use Rattle.unit_law.proofs.Views.{with_at-same}
use Rattle.unit_law.specs.Log.{with_at}
use Rattle.ticket_fate.proofs.Reached.{units-run-their-logs}
use Rattle.ticket_fate.specs.Moves.{TicketMove}
use Rattle.rig_types.specs.declared.step.Step.TheVariants as step
use Rattle.scripts_ops.specs.declared.values.Op.TheVariants as op
use Rattle.chip_step.specs.Event as event
use Rattle.chip_step.specs.Step as chip_step
use Rattle.target_law.specs.Target as connection_state
use Rattle.desk_law.specs.declared.stage.Stage.TheVariants as stage
use Rattle.desk_law.specs.declared.refused.Kind.{Kind}
use Rattle.desk_law.specs.declared.refused.Kind.TheVariants.{NoUnit}
use Rattle.std.proofs.Common.{arith, lit<, ◌≡◌, ◌⊎◌, inl, inr, ℕ, zero, suc, pos, ◌+◌, ◌%◌, ◌<◌, ◌≤◌, ◌==◌, ◌||◌, nat_lt, Bool, true, false, List, [], ◌∷◌, ◌++◌, length, length-append, slice_index, slice_index_or, get_or, Option, Some, None, refl, sym, ap, subst, ◌∙◌, if◌then◌else◌}
use Rattle.std.specs.Prelude.{◌&&◌, not, find, option_map, cond}
use Rattle.std.proofs.lemmas.Bool.{false≢true, cases_lt}
use Rattle.std.proofs.lemmas.List.{take_all, length-take-le, get_or-set_same, get_or_past, get_or-append-add}
use Rattle.std.proofs.lemmas.Option.{same_Some, get_or_from_slice_get}
use Rattle.scsi_words.specs.declared.phases.kinds.Phase.{Phase as BusPhase}
use Rattle.rig_types.specs.declared.rig.Unit.{Unit as RigUnit}
use Rattle.bench_words.specs.Memory.{word_at, bytes_at}
use Rattle.driver_script.specs.Script.{instruction}
use Rattle.chip_regs.specs.Registers.{is_stopped}
use Rattle.chip_rows.specs.Following.{over}
use Rattle.chip_step.specs.Addresses.{place_of}
use Rattle.chip_step.specs.Chip.{Chip}
use Rattle.chip_step.specs.Instructions.{Does as Row}
use Rattle.chip_step.specs.Step.{ChipStep, IsAt, can_fetch, after_fetch}
use Rattle.chip_step.specs.Event.{Event}
use Rattle.target_law.specs.declared.nexus.Nexus.{Nexus}
use Rattle.target_law.specs.Calls.{is_free, link_phase, link_takes, link_took, target_acked, acked_by, has_tag, has_ended, begun, begun_with, target_begun, is_whole}
use Rattle.target_law.specs.Target.{ConnectionState, BusFree, RogueConnected, TakingCommand, TaskConnected, LogicalUnit, Target, linked, unit_at, on_unit}
use Rattle.bus_law.specs.Bus.{BusState, device_at, no_device, free_if, with_device, link_on, becomes}
use Rattle.bus_law.specs.Moves.{moves}
use Rattle.bus_events.specs.Needs.{IsToBegin, NeedsChoice, NeedsData, NeedsByte, NeedsAck}
use Rattle.bus_events.specs.Targets.{targets}
use Rattle.bus_events.specs.Tickets.{after_ack as ack_tickets, after_choice, after_taken}
use Rattle.ticket_fate.specs.Tickets.{Plan, unit_of, Life, Selected, AskStarts, Ticket, Waits, Asks, with_life, view_for}
use Rattle.world_law.specs.ChipSteps.{chip_of, RunsChip}
use Rattle.world_law.specs.Opening.{opened}
use Rattle.world_law.specs.Runs.{Moment, Steps, IsRun, last}
use Rattle.world_law.specs.World.{BenchSetting, IsBenchSetting, World, request_at, live, live_by, is_place}
use Rattle.word_owners.specs.Worlds.{HasBytes}
use Rattle.word_owners.proofs.RunningChip.{running}
use Rattle.ownership.proofs.Steps.{stands_at}
use Rattle.desk_law.specs.declared.stage.Stage.{Stage}
use Rattle.desk_law.specs.Desk.{DeskState, ticket, unit, lives, no_unit, no_ticket, is_of_unit, has_tag as has_tag_on}
use Rattle.word_owners.specs.Holds.{Holds, Running}
use Rattle.word_owners.specs.Parts.{Counts, IsBlock}
use Rattle.word_owners.specs.Points.{Point, At088}
use Rattle.word_owners.specs.Tickets.{IsLive, IsTurned, fixed_of, tickets_of, target_of, is_check}
use Rattle.word_owners.proofs.ChipSteps.{row, stands as chip_stands}
use Rattle.word_owners.proofs.Worlds.{words_are_owned}
use Rattle.run_joined.specs.ChipCalls.{TicketBus, caused_by}
use Rattle.run_joined.specs.JoinedRuns.{RunJoins, IsJoinedRun}
use Rattle.chip_needs.specs.Ordinary.{IsPointed, ArePointed}
use Rattle.chip_needs.proofs.Ordinary.{run, runs, goes-on, Found as OfRun}
use Rattle.chip_needs.proofs.SentCalls.{Finds, Sends, entry-sends}
use Rattle.chip_needs.proofs.HeardBytes.{HasHeard, HaveHeard, stands, link-is}
use Rattle.target_law.specs.Bytes.{Connection, hears, takes_by}
use Rattle.target_law.specs.Devices.{DeviceState, where_room, lie_within}
use Rattle.bus_law.specs.Attention.{acked, after_ack, device_acked}
use Rattle.rig_types.specs.declared.commands.Command.{Command}
use Rattle.rig_types.specs.declared.step.Line.{Line}
use Rattle.rig_types.specs.declared.step.Step.{Step}
use Rattle.std.proofs.lemmas.Bool.Decides.{nat_tests}
use Rattle.world_law.specs.Enabling.{Enabled}
use Rattle.world_law.proofs.RunLaws.{ends_after}
use Rattle.block_words.proofs.RunSteps.{by-steps, within, stage-lives, IsAccepted, lived-or-built}
use Rattle.desk_law.specs.declared.ticket.Ticket.{Ticket as DeskTicket}
use Rattle.desk_law.specs.Building.{new_ticket}
use Rattle.unit_law.specs.Request.{RequestData, plain, command}
use Rattle.world_law.proofs.TicketsKept.{keeps_tickets}
use Rattle.block_words.proofs.Commands.{commands-are-told}
use Rattle.chip_needs.specs.CommandNexus.{nexus_for, TakesFor}
use Rattle.chip_needs.proofs.MessageStep.{entry-at, acks-so, asks-so, sends-so}
use Rattle.std.specs.List.{position}
use Rattle.std.proofs.lemmas.List.Quantifiers.{position-Some}
use Rattle.bench_words.proofs.Cells.{bytes_at_more}
use Rattle.target_law.specs.Session.{began}
use Rattle.target_law.specs.Beginning.{target_took, took_where, begins, begins_if, ticket_for, where_placed, has_place}
use Rattle.target_law.specs.declared.task_phase.TaskPhase.{TaskPhase}
use Rattle.target_law.specs.declared.task_phase.TaskPhase.TheVariants.{ToChoose}
use Rattle.cdb_codec.specs.Forms.{need_of}
use Rattle.cdb_codec.specs.Blocks.{cdb_of, length_of}
use Rattle.cdb_codec.specs.declared.commands.Cdb.TheVariants.{RequestSense}
use Rattle.bus_law.specs.Bytes.{after_byte_out, device_took}
use Rattle.bus_law.specs.Choices.{turned, turned_by, after_turn}
use Rattle.bus_law.specs.Laws.{OneConnected}
use Rattle.bus_events.proofs.TicketCalls.{free-is}
use Rattle.desk_law.specs.Refusals.{faults, kind_of}
use Rattle.sense_job.specs.Turning.{request_sense}
use Rattle.run_joined.specs.DeskLives.{IsKept, IsStage, IsChipStep}
use Rattle.run_joined.specs.Plans.{IsPlanOf}
use Rattle.block_words.specs.Commands.{HasCommand, command_by}
use Rattle.chip_needs.specs.CommandSteps.{IsToStart, CommandStepsJoin, IsToSelect}
use Rattle.chip_needs.proofs.FreeCalls.{after}
use Rattle.chip_needs.proofs.AfterMessage.{is_command, command-at, commands-find-nexus}

-- ---- the bytes of a command
abbrev P : List ℕ → Type 0
P heard = 3 ≤ length heard

-- a target that was to take its command has begun a task, or is free
abbrev Begun : ConnectionState → Type 0
Begun l = (l ≡ BusFree) ⊎ ((c : Connection) × (l ≡ TaskConnected c) × (c.shows ≡ ToChoose))

begun-link : (live_at : Nexus → Option ℕ) (t : Target) (n : Nexus) (bs : List ℕ) → Begun (target_begun (linked t (TakingCommand n bs)) (ticket_for live_at (linked t (TakingCommand n bs)) (Some n))).link
unfolding target_begun
begun-link live_at t n bs = by (unit_at t.units n.lun) refl
  where
    made : (u : LogicalUnit) (x : ℕ) → Begun (begun (linked t (TakingCommand n bs)) n (cdb_of bs) u x).link
    made u x = choose (has_tag u.tasks n.tag || nat_lt 65536 (need_of (cdb_of bs)).bytes)
      where
        choose : (b : Bool) → Begun (if b then linked (linked t (TakingCommand n bs)) BusFree else linked (linked t (TakingCommand n bs)) (TaskConnected (record { lun = n.lun; reselected = false; heard = []; task = began n.tag x (cdb_of bs) u.rig.disconnects (has_ended u.log x); shows = ToChoose }))).link
        choose true = inl refl
        choose false = inr (record { lun = n.lun; reselected = false; heard = []; task = began n.tag x (cdb_of bs) u.rig.disconnects (has_ended u.log x); shows = ToChoose }, refl, refl)

    on : (o : Option LogicalUnit) (u : LogicalUnit) (x : Option ℕ) → unit_at t.units n.lun ≡ o → o ≡ Some u → Begun (begun_with (linked t (TakingCommand n bs)) n (cdb_of bs) x).link
    on o u None e f = inl refl
    on o u (Some x) e f = subst (λ (z : Option LogicalUnit). Begun (on_unit z (λ v. begun (linked t (TakingCommand n bs)) n (cdb_of bs) v x) (linked t (TakingCommand n bs))).link) (sym (e ∙ f)) (made u x)

    by : (o : Option LogicalUnit) → unit_at t.units n.lun ≡ o → Begun (begun_with (linked t (TakingCommand n bs)) n (cdb_of bs) (where_placed (has_place (unit_at t.units n.lun) n.tag) (live_at n))).link
    by None e = subst (λ (z : Option LogicalUnit). Begun (begun_with (linked t (TakingCommand n bs)) n (cdb_of bs) (where_placed (has_place z n.tag) (live_at n))).link) (sym e) (inl refl)
    by (Some u) e = on (Some u) u (where_placed (has_place (unit_at t.units n.lun) n.tag) (live_at n)) e refl

took-link : (live_at : Nexus → Option ℕ) (t : Target) (n : Nexus) (bs : List ℕ) (byte : ℕ) → t.link ≡ TakingCommand n bs → is_whole bs ≡ false
    → ((is_whole (bs ++ byte ∷ []) ≡ false) × ((target_took live_at t byte).link ≡ TakingCommand n (bs ++ byte ∷ []))) ⊎ Begun (target_took live_at t byte).link
unfolding target_took
took-link live_at t n bs byte e w =
    subst (λ (l : ConnectionState). ((is_whole (bs ++ byte ∷ []) ≡ false) × ((took_where live_at (link_takes l) t byte).link ≡ TakingCommand n (bs ++ byte ∷ []))) ⊎ Begun (took_where live_at (link_takes l) t byte).link) (sym e)
    (subst (λ (x : Bool). ((is_whole (bs ++ byte ∷ []) ≡ false) × ((took_where live_at (not x) t byte).link ≡ TakingCommand n (bs ++ byte ∷ []))) ⊎ Begun (took_where live_at (not x) t byte).link) (sym w)
    (subst (λ (l : ConnectionState). ((is_whole (bs ++ byte ∷ []) ≡ false) × ((begins live_at (linked t (link_took l byte))).link ≡ TakingCommand n (bs ++ byte ∷ []))) ⊎ Begun (begins live_at (linked t (link_took l byte))).link) (sym e)
    (by (is_whole (bs ++ byte ∷ [])))))
  where
    by : (b : Bool) → ((b ≡ false) × ((begins_if live_at b (linked t (TakingCommand n (bs ++ byte ∷ [])))).link ≡ TakingCommand n (bs ++ byte ∷ []))) ⊎ Begun (begins_if live_at b (linked t (TakingCommand n (bs ++ byte ∷ [])))).link
    by false = inl (refl, refl)
    by true = inr (begun-link live_at t n (bs ++ byte ∷ []))

-- ---- the bus
link-in : (b : BusState) (id : ℕ) (l : ConnectionState) → (targets b id).link ≡ l → (BusFree ≡ l → ⊥) → id < length b.devices
link-in b id l q n = elim (cases_lt id (length b.devices)) [
  | inl x ↦ x
  | inr x ↦ absurd (n (ap (λ (d : DeviceState). d.target.link) (sym (get_or_past b.devices id no_device (omega (arith, x)))) ∙ q))
]

-- the device is another with this link
module _ (b : BusState) (id : ℕ) (d : DeviceState) (e : b.connected ≡ Some id) (inside : id < length b.devices) where
  remains : (l : ConnectionState) → d.target.link ≡ l → is_free l ≡ false → ((becomes b id d).connected ≡ Some id) × ((targets (becomes b id d) id).link ≡ l)
  remains l q f =
      subst (λ (x : Bool). ((free_if x (with_device b id d)).connected ≡ Some id) × ((targets (free_if x (with_device b id d)) id).link ≡ l)) (sym (ap is_free q ∙ f))
      (e, ap (λ (x : DeviceState). x.target.link) (get_or-set_same b.devices id d no_device inside) ∙ q)

  frees : d.target.link ≡ BusFree → (becomes b id d).connected ≡ None
  frees q = ap (λ (x : Bool). (free_if x (with_device b id d)).connected) (ap is_free q)

none-heard : (b : BusState) → b.connected ≡ None → HaveHeard P b
none-heard b e i c = let z : None ≡ Some i = sym e ∙ c in absurd cc

three-more : (heard : List ℕ) (byte : ℕ) → P heard → P (hears heard byte)
three-more heard byte h =
    let a : length (heard ++ byte ∷ []) ≡ length heard + 1 = length-append heard (byte ∷ []) in
    elim (cases_lt (length (heard ++ byte ∷ [])) 5) [
      | inl l ↦ (let z = ap (λ (x : List ℕ). length x) (take_all 4 (heard ++ byte ∷ []) (omega (arith, l))) in omega (arith, z, a, h))
      | inr l ↦ (let z = length-take-le 4 (heard ++ byte ∷ []) (omega (arith, l)) in omega (arith, z))
    ]

-- ---- each call of the move: the command lies at a, for the nexus of a ticket of target tg
module _ (p : Plan) (units : List RigUnit) (live_at : ℕ → Nexus → Option ℕ) (n : Nexus) (m : List ℕ) (a : ℕ) (ks : ℕ → Ticket) (tg : ℕ)
    (begins-so : (x k : ℕ) → live_at tg n ≡ Some x → is_whole (bytes_at m a k) ≡ true → IsToBegin p tg n (cdb_of (bytes_at m a k)) x (ks x)) where
  -- after k bytes: the message is still there, or nothing that keeps the rules is connected; the target takes the command; or it has begun a task
  pub data State (k : ℕ) (u : TicketBus) : Type 0 where
    hears_on : HaveHeard P u.bus → State k u
    takes : (id : ℕ) → u.bus.connected ≡ Some id → id ≡ tg → (targets u.bus id).link ≡ TakingCommand n (bytes_at m a k) → is_whole (bytes_at m a k) ≡ false → u.tickets ≡ ks → State k u
    chooses : (id : ℕ) (c : Connection) → 0 < k → u.bus.connected ≡ Some id → (targets u.bus id).link ≡ TaskConnected c → c.shows ≡ ToChoose → State k u

  module _ (caused : ℕ → Bool) (word : ℕ) (sent : ℕ → ℕ) (sent-is : (k : ℕ) → sent k ≡ slice_index m (a + k)) where
    abbrev Finding : TicketBus → Event → Type 0
    Finding u e = Finds p units live_at caused word u e

    abbrev next : TicketBus → Event → BusState → TicketBus
    next u e y = after p units live_at caused word u e y

    one : (b : BusState) (id : ℕ) (Q : ℕ → Type 0) → b.connected ≡ Some id → Q id → (i : ℕ) → b.connected ≡ Some i → Q i
    one b id Q e x i c = subst Q (same_Some id i (sym e ∙ c)) x

    bytes-more : (k : ℕ) → bytes_at m a k ++ slice_index m (a + k) ∷ [] ≡ bytes_at m a (k + 1)
    bytes-more k = sym (bytes_at_more m a k)

    link-now : (b : BusState) (id : ℕ) (l : ConnectionState) → b.connected ≡ Some id → (targets b id).link ≡ l → link_on b ≡ l
    link-now b id l e q = link-is units live_at b id l e q

    -- ---- ACK
    ack-tickets : (us : ℕ → Ticket) (ack : Bool) (l : ConnectionState) (bs : List ℕ) → l ≡ TakingCommand n bs → ack_tickets us ack l ≡ us
    ack-tickets us true l bs e = ap (ack_tickets us true) e
    ack-tickets us false l bs e = refl

    ack-link : (d : DeviceState) (bs : List ℕ) → d.target.link ≡ TakingCommand n bs → (device_acked d).target.link ≡ TakingCommand n bs
    unfolding target_acked where_room
    ack-link d bs q = by (lie_within (target_acked d.target).units d.rooms)
      where
        same : (acked_by d.target.link d.target).link ≡ TakingCommand n bs
        same = ap (λ (l : ConnectionState). (acked_by l d.target).link) q ∙ q

        by : (b : Bool) → (if b then record { target = acked_by d.target.link d.target; rooms = d.rooms } else d).target.link ≡ TakingCommand n bs
        by true = same
        by false = q

    acks-taking : (u : TicketBus) (y : BusState) (id : ℕ) → u.bus.connected ≡ Some id → id ≡ tg → (targets u.bus id).link ≡ TakingCommand n (bytes_at m a 0) → is_whole (bytes_at m a 0) ≡ false → u.tickets ≡ ks → moves units live_at u.bus event.ClearAck y
        → Finding u event.ClearAck × State 0 (next u event.ClearAck y)
    acks-taking u y id e t l w us c = (
      record { needs = one u.bus id (λ (i : ℕ). NeedsAck p i u.tickets (targets u.bus i).link) e (subst (NeedsAck p id u.tickets) (sym l) tt); resets = refl },
      takes id at.0 t at.1 w (ack-tickets u.tickets u.bus.ack (link_on u.bus) (bytes_at m a 0) (link-now u.bus id (TakingCommand n (bytes_at m a 0)) e l) ∙ us),
    )
      where
        by : (k : Bool) → ((after_ack k u.bus).connected ≡ Some id) × ((targets (after_ack k u.bus) id).link ≡ TakingCommand n (bytes_at m a 0))
        by true =
            let d = device_acked (device_at u.bus id) in
            subst (λ (o : Option ℕ). ((acked o u.bus).connected ≡ Some id) × ((targets (acked o u.bus) id).link ≡ TakingCommand n (bytes_at m a 0))) (sym e)
            (remains u.bus id d e (link-in u.bus id (TakingCommand n (bytes_at m a 0)) l (λ z. cc)) (TakingCommand n (bytes_at m a 0)) (ack-link (device_at u.bus id) (bytes_at m a 0) l) refl)
        by false = (e, l)

        at : (y.connected ≡ Some id) × ((targets y id).link ≡ TakingCommand n (bytes_at m a 0))
        at = subst (λ (v : BusState). (v.connected ≡ Some id) × ((targets v id).link ≡ TakingCommand n (bytes_at m a 0))) (sym c) (by u.bus.ack)

    -- ---- the phase
    choice-tickets : (us : ℕ → Ticket) (old new : ConnectionState) (bs : List ℕ) → old ≡ TakingCommand n bs → after_choice us (link_phase old) old new ≡ us
    choice-tickets us old new bs e = ap (λ (l : ConnectionState). after_choice us (link_phase l) l new) e

    no-choice : (atn : Bool) (bs : List ℕ) → NeedsChoice atn (TakingCommand n bs)
    no-choice true bs = tt
    no-choice false bs = tt

    asks-taking : (shown : Option BusPhase) (u : TicketBus) (y : BusState) (id : ℕ) → u.bus.connected ≡ Some id → id ≡ tg → (targets u.bus id).link ≡ TakingCommand n (bytes_at m a 0) → is_whole (bytes_at m a 0) ≡ false → u.tickets ≡ ks
        → moves units live_at u.bus (event.Phase word shown) y → Finding u (event.Phase word shown) × State 0 (next u (event.Phase word shown) y)
    asks-taking shown u y id e t l w us c = (
      record { needs = one u.bus id (λ (i : ℕ). NeedsChoice u.bus.atn (targets u.bus i).link) e (subst (NeedsChoice u.bus.atn) (sym l) (no-choice u.bus.atn (bytes_at m a 0))); resets = refl },
      takes id at.0 t at.1 w (choice-tickets u.tickets (link_on u.bus) (link_on y) (bytes_at m a 0) (link-now u.bus id (TakingCommand n (bytes_at m a 0)) e l) ∙ us),
    )
      where
        same : (turned u.bus.atn word (device_at u.bus id)).target.link ≡ TakingCommand n (bytes_at m a 0)
        same = ap (λ (x : ConnectionState). (turned_by (link_phase x) u.bus.atn word (device_at u.bus id)).target.link) l ∙ l

        at : (y.connected ≡ Some id) × ((targets y id).link ≡ TakingCommand n (bytes_at m a 0))
        at =
            subst (λ (v : BusState). (v.connected ≡ Some id) × ((targets v id).link ≡ TakingCommand n (bytes_at m a 0))) (sym c.1)
            (subst (λ (o : Option ℕ). ((after_turn o word u.bus).connected ≡ Some id) × ((targets (after_turn o word u.bus) id).link ≡ TakingCommand n (bytes_at m a 0))) (sym e)
            (remains u.bus id (turned u.bus.atn word (device_at u.bus id)) e (link-in u.bus id (TakingCommand n (bytes_at m a 0)) l (λ z. cc)) (TakingCommand n (bytes_at m a 0)) same refl))

    -- ---- a byte
    taken-tickets : (us : ℕ → Ticket) (taken : Bool) (old new : ConnectionState) (bs cs : List ℕ) → old ≡ TakingCommand n bs → new ≡ TakingCommand n cs → after_taken us taken old new ≡ us
    taken-tickets us true old new bs cs e f = ap (λ (l : ConnectionState). after_taken us true l new) e ∙ ap (after_taken us true (TakingCommand n bs)) f
    taken-tickets us false old new bs cs e f = refl

    needs-byte : (us : ℕ → Ticket) (id k byte : ℕ) → id ≡ tg → us ≡ ks → byte ≡ slice_index m (a + k) → NeedsByte p id us (TakingCommand n (bytes_at m a k)) (live_at id) byte
    needs-byte us id k byte t e b x lx wx =
        let q : bytes_at m a k ++ byte ∷ [] ≡ bytes_at m a (k + 1) = ap (λ (i : ℕ). bytes_at m a k ++ i ∷ []) b ∙ bytes-more k in
        let h = begins-so x (k + 1) (ap (λ (i : ℕ). live_at i n) (sym t) ∙ lx) (ap is_whole (sym q) ∙ wx) in
        subst (λ (i : ℕ). IsToBegin p i n (cdb_of (bytes_at m a k ++ byte ∷ [])) x (us x)) (sym t)
        (subst (λ (z : ℕ → Ticket). IsToBegin p tg n (cdb_of (bytes_at m a k ++ byte ∷ [])) x (z x)) (sym e)
        (subst (λ (bs : List ℕ). IsToBegin p tg n (cdb_of bs) x (ks x)) (sym q) h))

    sends-taking : (k byte : ℕ) (taken : Bool) (u : TicketBus) (y : BusState) (id : ℕ) → byte ≡ sent k → u.bus.connected ≡ Some id → id ≡ tg → (targets u.bus id).link ≡ TakingCommand n (bytes_at m a k) → is_whole (bytes_at m a k) ≡ false → u.tickets ≡ ks
        → moves units live_at u.bus (event.ByteOut byte taken) y → Finding u (event.ByteOut byte taken) × State (k + 1) (next u (event.ByteOut byte taken) y)
    sends-taking k byte taken u y id b e t l w us c = (
      record {
        needs = one u.bus id (λ (i : ℕ). NeedsByte p i u.tickets (targets u.bus i).link (live_at i) byte) e (subst (λ (z : ConnectionState). NeedsByte p id u.tickets z (live_at id) byte) (sym l) (needs-byte u.tickets id k byte t us is));
        resets = refl;
      },
      elim (took-link (live_at id) (device_at u.bus id).target n (bytes_at m a k) byte l w) [
        | inl x ↦ (
            let r = remains u.bus id (device_took live_at id (device_at u.bus id) byte) e inside (TakingCommand n (bytes_at m a k ++ byte ∷ [])) x.1 refl in
            let z = there (λ v. (v.connected ≡ Some id) × ((targets v id).link ≡ TakingCommand n (bytes_at m a k ++ byte ∷ []))) r in
            let q : bytes_at m a k ++ byte ∷ [] ≡ bytes_at m a (k + 1) = ap (λ (i : ℕ). bytes_at m a k ++ i ∷ []) is ∙ bytes-more k in
            takes id z.0 t (z.1 ∙ ap (TakingCommand n) q) (ap is_whole (sym q) ∙ x.0)
            (taken-tickets u.tickets taken (link_on u.bus) (link_on y) (bytes_at m a k) (bytes_at m a k ++ byte ∷ []) (link-now u.bus id (TakingCommand n (bytes_at m a k)) e l) (link-now y id (TakingCommand n (bytes_at m a k ++ byte ∷ [])) z.0 z.1) ∙ us)
            )
        | inr (inl x) ↦ hears_on (none-heard y (there (λ v. v.connected ≡ None) (frees u.bus id (device_took live_at id (device_at u.bus id) byte) e inside x)))
        | inr (inr x) ↦ (
            let r = remains u.bus id (device_took live_at id (device_at u.bus id) byte) e inside (TaskConnected x.0) x.1 refl in
            let z = there (λ v. (v.connected ≡ Some id) × ((targets v id).link ≡ TaskConnected x.0)) r in
            chooses id x.0 (omega arith) z.0 z.1 x.2
            )
      ],
    )
      where
        is : byte ≡ slice_index m (a + k)
        is = b ∙ sent-is k

        inside : id < length u.bus.devices
        inside = link-in u.bus id (TakingCommand n (bytes_at m a k)) l (λ z. cc)

        all : taken ≡ true
        all = c.0 ∙ ap link_takes (link-now u.bus id (TakingCommand n (bytes_at m a k)) e l) ∙ ap not w

        there : (Q : BusState → Type 0) → Q (becomes u.bus id (device_took live_at id (device_at u.bus id) byte)) → Q y
        there Q h = subst Q (sym c.1) (subst (λ (x : Bool). Q (after_byte_out live_at x u.bus.connected byte u.bus)) (sym all) (subst (λ (o : Option ℕ). Q (after_byte_out live_at true o byte u.bus)) (sym e) h))

    -- a task that is to choose takes no byte
    no-data : (us : ℕ → Ticket) (id byte : ℕ) (sh : TaskPhase) (c : Connection) → sh ≡ ToChoose → NeedsData p id us sh c byte
    no-data us id byte sh c e = subst (λ (x : TaskPhase). NeedsData p id us x c byte) (sym e) tt

    sends-choosing : (k byte : ℕ) (taken : Bool) (u : TicketBus) (y : BusState) (id : ℕ) (c : Connection) → u.bus.connected ≡ Some id → (targets u.bus id).link ≡ TaskConnected c → c.shows ≡ ToChoose → moves units live_at u.bus (event.ByteOut byte taken) y
        → Finding u (event.ByteOut byte taken) × State (k + 1) (next u (event.ByteOut byte taken) y)
    sends-choosing k byte taken u y id c e l sh h = (
      record { needs = one u.bus id (λ (i : ℕ). NeedsByte p i u.tickets (targets u.bus i).link (live_at i) byte) e (subst (λ (z : ConnectionState). NeedsByte p id u.tickets z (live_at id) byte) (sym l) (no-data u.tickets id byte c.shows c sh)); resets = refl },
      chooses id c (omega arith) (ap (λ (v : BusState). v.connected) same ∙ e) (ap (λ (v : BusState). (targets v id).link) same ∙ l) sh,
    )
      where
        none : taken ≡ false
        none = h.0 ∙ ap link_takes (link-now u.bus id (TaskConnected c) e l) ∙ ap takes_by sh

        same : y ≡ u.bus
        same = h.1 ∙ ap (λ (x : Bool). after_byte_out live_at x u.bus.connected byte u.bus) none

    -- ---- all of them
    acks-by : (u : TicketBus) (y : BusState) → State 0 u → moves units live_at u.bus event.ClearAck y → Finding u event.ClearAck × State 0 (next u event.ClearAck y)
    acks-by u y (hears_on h) c = (let z = acks-so p units live_at caused word sent P u y (stands units live_at P u.bus h) c in (z.0, hears_on z.1))
    acks-by u y (takes id e t l w us) c = acks-taking u y id e t l w us c
    acks-by u y (chooses id x k e l sh) c = absurd (omega (arith, k))

    asks-by : (shown : Option BusPhase) (u : TicketBus) (y : BusState) → State 0 u → moves units live_at u.bus (event.Phase word shown) y → Finding u (event.Phase word shown) × State 0 (next u (event.Phase word shown) y)
    asks-by shown u y (hears_on h) c = (let z = asks-so p units live_at caused word sent P shown u y (stands units live_at P u.bus h) c in (z.0, hears_on z.1))
    asks-by shown u y (takes id e t l w us) c = asks-taking shown u y id e t l w us c
    asks-by shown u y (chooses id x k e l sh) c = absurd (omega (arith, k))

    sends-by : (k byte : ℕ) (taken : Bool) (u : TicketBus) (y : BusState) → byte ≡ sent k → State k u → moves units live_at u.bus (event.ByteOut byte taken) y → Finding u (event.ByteOut byte taken) × State (k + 1) (next u (event.ByteOut byte taken) y)
    sends-by k byte taken u y b (hears_on h) c = (let z = sends-so p units live_at caused word sent P P byte taken u y (λ heard i. three-more heard byte i) (stands units live_at P u.bus h) c in (z.0, hears_on z.1))
    sends-by k byte taken u y b (takes id e t l w us) c = sends-taking k byte taken u y id b e t l w us c
    sends-by k byte taken u y b (chooses id x i e l sh) c = sends-choosing k byte taken u y id x e l sh c

    pub command-sends : (count : ℕ) → Sends p units live_at caused word State 2 sent count
    command-sends count = record {
      acks = λ u y i c. acks-by u y i c;
      asks = λ s u y i c. asks-by s u y i c;
      sends = λ k byte taken u y b i c. sends-by k byte taken u y b i c;
      ends = λ q. absurd (false≢true q);
    }

-- ---- the live ticket of a nexus
pub record IsLiveOf (d : DeskState) (i : ℕ) (n : Nexus) (x : ℕ) : Type 0 where
  pub its_unit : ℕ
  pub inside : its_unit < length d.units
  pub target_is : (slice_index_or d.units its_unit no_unit).target ≡ i
  pub lun_is : (slice_index_or d.units its_unit no_unit).lun ≡ n.lun
  pub lives_still : lives (ticket d x) ≡ true
  pub unit_is : (ticket d x).unit ≡ its_unit
  pub tag_is : (ticket d x).tag ≡ n.tag

and-both : (a b : Bool) → (a && b) ≡ true → (a ≡ true) × (b ≡ true)
and-both true b e = (refl, e)
and-both false b e = absurd (false≢true e)

same-number : (a b : ℕ) → (a == b) ≡ true → a ≡ b
same-number a b e = grind (arith, nat_tests)

same-test : (a : ℕ) → (a == a) ≡ true
same-test a = grind (arith, nat_tests)

live-tells : (d : DeskState) (i : ℕ) (n : Nexus) (x : ℕ) → live d i n ≡ Some x → IsLiveOf d i n x
live-tells d i n x e = by (position (is_place i n.lun) d.units) refl e
  where
    by : (o : Option ℕ) → position (is_place i n.lun) d.units ≡ o → live_by d n.tag o ≡ Some x → IsLiveOf d i n x
    by None q f = let z : None ≡ Some x = f in absurd cc
    by (Some u) q f =
        let place = position-Some (is_place i n.lun) d.units u no_unit q in
        let both = and-both ((slice_index_or d.units u no_unit).target == i) ((slice_index_or d.units u no_unit).lun == n.lun) place.1 in
        let at = position-Some (has_tag_on u n.tag) d.tickets x no_ticket f in
        let tags = and-both (is_of_unit u (ticket d x)) ((ticket d x).tag == n.tag) at.1 in
        let units = and-both (lives (ticket d x)) ((ticket d x).unit == u) tags.0 in
        record {
          its_unit = u;
          inside = place.0;
          target_is = same-number (slice_index_or d.units u no_unit).target i both.0;
          lun_is = same-number (slice_index_or d.units u no_unit).lun n.lun both.1;
          lives_still = units.0;
          unit_is = same-number (ticket d x).unit u units.1;
          tag_is = same-number (ticket d x).tag n.tag tags.1;
        }

-- ---- the command of a request is whole
by-flag : (b : Bool) (x : Bool × Kind) (o : Option (Bool × Kind)) → cond b (Some x) o ≡ None → (b ≡ false) × (o ≡ None)
by-flag true x o e = absurd cc
by-flag false x o e = (refl, e)

no-kind : (o : Option (Bool × Kind)) → option_map (λ (f : Bool × Kind). f.1) o ≡ None → o ≡ None
no-kind None e = refl
no-kind (Some x) e = absurd cc

none-true : (fs : List (Bool × Kind)) → find (λ (f : Bool × Kind). f.0) fs ≡ None → (i : ℕ) (d : Bool × Kind) → i < length fs → (get_or fs i d).0 ≡ false
none-true [] e i d low = absurd (omega (arith, low))
none-true (x ∷ xs) e zero d low = (by-flag x.0 x (find (λ (f : Bool × Kind). f.0) xs) e).0
none-true (x ∷ xs) e (suc i) d low = none-true xs (by-flag x.0 x (find (λ (f : Bool × Kind). f.0) xs) e).1 i d (omega (arith, low))

sound-whole : (units : List RigUnit) (r : RequestData) → kind_of units r ≡ None → is_whole r.cdb ≡ true
sound-whole units r e = by (is_whole r.cdb) refl (none-true (faults units r) (no-kind (find (λ (f : Bool × Kind). f.0) (faults units r)) e) 1 (false, NoUnit) (lit< tt))
  where
    by : (b : Bool) → is_whole r.cdb ≡ b → not b ≡ false → is_whole r.cdb ≡ true
    by true q z = q
    by false q z = absurd (false≢true (sym z))

abbrev AreWhole : BenchSetting → World → Type 0
AreWhole g w = (t : ℕ) → lives (ticket w.desk t) ≡ true → (r : RequestData) → request_at g (ticket w.desk t).line ≡ Some r → is_whole r.cdb ≡ true

module _ (g : BenchSetting) (ms : List Moment) (m : Moment) (s : Steps g (last (opened g) ms) m) (h : AreWhole g (last (opened g) ms)) (t : ℕ) (alive : lives (ticket m.after.desk t) ≡ true) where
  abbrev was : World
  was = last (opened g) ms

  built-line : (l : Line) → t ≡ length was.desk.tickets → (x : IsAccepted g was m.after l t) → (ticket m.after.desk t).line ≡ l
  built-line l q x =
      let d = x.accepts.builds in
      let k = new_ticket was.desk l (plain x.command.request) d.chunks in
      let z : length was.desk.tickets + 0 ≡ t = omega (arith, q) in
      ap (λ (y : DeskState). (ticket y t).line) d.desk ∙ ap (λ (i : ℕ). (slice_index_or (was.desk.tickets ++ k ∷ []) i no_ticket).line) (sym z) ∙ ap (λ (y : DeskTicket). y.line) (get_or-append-add was.desk.tickets (k ∷ []) 0 no_ticket)

  whole-after : (r : RequestData) → request_at g (ticket m.after.desk t).line ≡ Some r → is_whole r.cdb ≡ true
  whole-after r is = elim (lived-or-built g was m s t alive) [
    | inl x ↦ h t x.1 r (ap (request_at g) (sym (keeps_tickets g was m t s x.0).line) ∙ is)
    | inr x ↦ (
        let line = built-line x.0 x.2 x.3 in
        let same : plain x.3.command.request ≡ r = same_Some (plain x.3.command.request) r (sym (ap (option_map (λ (c : Command). plain c.request)) x.3.is) ∙ ap (request_at g) (sym line) ∙ is) in
        ap (λ (y : RequestData). is_whole y.cdb) (sym same) ∙ sound-whole was.desk.units (plain x.3.command.request) x.3.accepts.builds.sound
        )
  ]

wholes : (g : BenchSetting) (ms : List Moment) → IsRun g (opened g) ms → AreWhole g (last (opened g) ms)
wholes g = by-steps g (λ (ms : List Moment). AreWhole g (last (opened g) ms)) (λ t e. absurd cc)
    (λ ms m r s h. subst (AreWhole g) (sym (ends_after (opened g) ms m)) (λ t e. whole-after g ms m s h t e))

bytes-size : (m : List ℕ) (a n : ℕ) → length (bytes_at m a n) ≡ n
unfolding bytes_at
bytes-size m a zero = refl
bytes-size m a (suc n) = ap suc (bytes-size m (suc a) n)

-- a descriptor block has the length of its first byte
whole-size : (m : List ℕ) (a k : ℕ) → is_whole (bytes_at m a k) ≡ true → k ≡ length_of (slice_index m a)
unfolding bytes_at
whole-size m a zero e = absurd (false≢true e)
whole-size m a (suc k) e = sym (ap suc (bytes-size m (suc a) k)) ∙ same-number (suc (length (bytes_at m (suc a) k))) (length_of (slice_index m a)) e

whole-is : (m : List ℕ) (a k : ℕ) (cdb : List ℕ) → bytes_at m a (length cdb) ≡ cdb → is_whole cdb ≡ true → is_whole (bytes_at m a k) ≡ true → bytes_at m a k ≡ cdb
whole-is m a k cdb e w v = ap (bytes_at m a) (whole-size m a k v ∙ sym (whole-size m a (length cdb) (ap is_whole e ∙ w))) ∙ e

-- the ticket is at the chip
module _ (g : BenchSetting) (w : World) (at : w.regs.dsp ≡ 0x088) (t : ℕ) (alive : lives (ticket w.desk t) ≡ true) (dsa : w.regs.dsa ≡ (ticket w.desk t).block) where
  its-point : (x : Point) (c : Counts) → Holds g.version g.units (Running x) c w → is_command x ≡ true → Holds g.version g.units (Running (At088 t)) c w
  its-point (At088 y) c h q = by (y == t) refl
    where
      active-lives : IsLive (ticket w.desk y).stage
      active-lives f = elim h.works.plays.begun.stage [
        | inl a ↦ (let z : stage.Queued ≡ stage.Freed = sym a ∙ f in absurd cc)
        | inr a ↦ (let z : stage.Sensing ≡ stage.Freed = sym a ∙ f in absurd cc)
      ]

      by : (b : Bool) → (y == t) ≡ b → Holds g.version g.units (Running (At088 t)) c w
      by true z = subst (λ (i : ℕ). Holds g.version g.units (Running (At088 i)) c w) (same-number y t z) h
      by false z = absurd (h.tickets.blocks y t active-lives (stage-lives w.desk t alive) (λ n. false≢true (sym z ∙ ap (λ (i : ℕ). i == t) n ∙ same-test t)) (sym h.stays.4.dsa ∙ dsa))
  its-point x c h q = absurd (false≢true q)

-- ---- the step
module _ (g : BenchSetting) (setting : IsBenchSetting g) (bytes : HasBytes g) (p : Plan) (ms : List Moment) (m : Moment) (word : ℕ) (r : IsRun g (opened g) ms) (s : Steps g (last (opened g) ms) m) (e : m.entry.step ≡ step.Chip word) (ks : ℕ → Ticket) (j : RunJoins g p ms ks) (a : ArePointed ks (last (opened g) ms).bus) (plan : IsPlanOf g (last (opened g) ms) p) where
  abbrev old : World
  old = last (opened g) ms

  abbrev here : Type 0
  here = OfRun g setting bytes p ms m word r s e ks j a

  abbrev ran : RunsChip old word m.reply m.after
  ran = run g setting bytes p ms m word r s e ks j a

  abbrev before : TicketBus
  before = record { bus = old.bus; tickets = ks; spare = j.spare }

  module _ (t : ℕ) (c : Counts) (h : Holds g.version g.units (Running (At088 t)) c old) (alive : lives (ticket old.desk t) ≡ true) (starts : IsToStart (ks t).life) where
    abbrev block : ℕ
    block = (ticket old.desk t).block

    abbrev tg : ℕ
    tg = (unit old.desk (ticket old.desk t).unit).target

    abbrev nexus : Nexus
    nexus = nexus_for old t

    inside : t < length old.desk.tickets
    inside = within old.desk t alive

    kept : IsKept p t (ticket old.desk t) (ks t)
    kept = j.joined.desk.each t inside

    block-is : IsBlock (word_at old.memory) (ticket old.desk t).stage (fixed_of (ticket old.desk t)) (target_of (tickets_of old.desk) t)
    block-is = h.parts.blocks t (stage-lives old.desk t alive)

    -- ---- its command
    request-here : request_at g (ticket old.desk t).line ≡ Some (p.requests t)
    request-here = plan.requests t inside

    command-here : HasCommand old.memory (unit old.desk (ticket old.desk t).unit) (ticket old.desk t) (command_by (fixed_of (ticket old.desk t)).turned (p.requests t))
    command-here = commands-are-told g setting bytes ms r t alive (p.requests t) request-here

    -- the command with its life
    asks-here : (k : ℕ) → is_whole (bytes_at old.memory (block + 0xF0) k) ≡ true
        → (((ks t).life ≡ Selected) × (cdb_of (bytes_at old.memory (block + 0xF0) k) ≡ command (p.requests t))) ⊎ (((ks t).life ≡ AskStarts) × (cdb_of (bytes_at old.memory (block + 0xF0) k) ≡ RequestSense 18))
    asks-here k w = by (ks t).life refl starts
      where
        plain-so : (b : Bool) → (fixed_of (ticket old.desk t)).turned ≡ b → (ticket old.desk t).stage ≡ stage.Queued → cdb_of (bytes_at old.memory (block + 0xF0) k) ≡ command (p.requests t)
        plain-so true q z = absurd (subst IsTurned z (h.tickets.turned t q))
        plain-so false q z = ap cdb_of (whole-is old.memory (block + 0xF0) k (p.requests t).cdb (subst (λ (f : Bool). HasCommand old.memory (unit old.desk (ticket old.desk t).unit) (ticket old.desk t) (command_by f (p.requests t))) q command-here).command (wholes g ms r t alive (p.requests t) request-here) w)

        turned-is : (ticket old.desk t).stage ≡ stage.Sensing → (fixed_of (ticket old.desk t)).turned ≡ true
        turned-is z = ap (λ (f : Bool). f && not (is_check (ticket old.desk t).stage)) (h.checked t (inr z)) ∙ ap (λ (x : Stage). not (is_check x)) z

        sense-so : (ticket old.desk t).stage ≡ stage.Sensing → cdb_of (bytes_at old.memory (block + 0xF0) k) ≡ RequestSense 18
        sense-so z = ap cdb_of (whole-is old.memory (block + 0xF0) k request_sense (subst (λ (f : Bool). HasCommand old.memory (unit old.desk (ticket old.desk t).unit) (ticket old.desk t) (command_by f (p.requests t))) (turned-is z) command-here).command refl w)

        by : (l : Life) → (ks t).life ≡ l → IsToStart l
            → (((ks t).life ≡ Selected) × (cdb_of (bytes_at old.memory (block + 0xF0) k) ≡ command (p.requests t))) ⊎ (((ks t).life ≡ AskStarts) × (cdb_of (bytes_at old.memory (block + 0xF0) k) ≡ RequestSense 18))
        by Selected q i = inl (q, plain-so (fixed_of (ticket old.desk t)).turned refl (sym (same_Some stage.Queued (ticket old.desk t).stage (subst (λ (l : Life). IsStage l (ticket old.desk t).stage) q kept.stage_is))))
        by AskStarts q i = inr (q, sense-so (sym (same_Some stage.Sensing (ticket old.desk t).stage (subst (λ (l : Life). IsStage l (ticket old.desk t).stage) q kept.stage_is))))
        by l q i = absurd i

    -- ---- the live ticket of its nexus is this one
    unit-of : (x : ℕ) → x < length old.desk.tickets → (ticket old.desk x).unit < length old.desk.units → slice_index_or old.desk.units (ticket old.desk x).unit no_unit ≡ p.units (unit_of p x)
    unit-of x l k =
        let u = (j.joined.desk.each x l).unit_is in
        let q : slice_index_or g.units (ticket old.desk x).unit no_unit ≡ p.units (ticket old.desk x).unit = get_or_from_slice_get g.units (ticket old.desk x).unit (p.units (ticket old.desk x).unit) no_unit (plan.units (ticket old.desk x).unit (subst (λ (us : List RigUnit). (ticket old.desk x).unit < length us) h.units_are k)) in
        ap (λ (us : List RigUnit). slice_index_or us (ticket old.desk x).unit no_unit) h.units_are ∙ q ∙ ap p.units u

    begins-here : (x k : ℕ) → live old.desk tg nexus ≡ Some x → is_whole (bytes_at old.memory (block + 0xF0) k) ≡ true → IsToBegin p tg nexus (cdb_of (bytes_at old.memory (block + 0xF0) k)) x (ks x)
    begins-here x k q w =
        let f = live-tells old.desk tg nexus x q in
        let x-in : x < length old.desk.tickets = within old.desk x f.lives_still in
        let x-unit : (ticket old.desk x).unit < length old.desk.units = subst (λ (i : ℕ). i < length old.desk.units) (sym f.unit_is) f.inside in
        let t-unit : (ticket old.desk t).unit < length old.desk.units = h.tickets.unit t (stage-lives old.desk t alive) in
        let ux : slice_index_or old.desk.units (ticket old.desk x).unit no_unit ≡ p.units (unit_of p x) = unit-of x x-in x-unit in
        let ut : slice_index_or old.desk.units (ticket old.desk t).unit no_unit ≡ p.units (unit_of p t) = unit-of t inside t-unit in
        let target : (slice_index_or old.desk.units (ticket old.desk x).unit no_unit).target ≡ tg = ap (λ (i : ℕ). (slice_index_or old.desk.units i no_unit).target) f.unit_is ∙ f.target_is in
        let lun : (slice_index_or old.desk.units (ticket old.desk x).unit no_unit).lun ≡ nexus.lun = ap (λ (i : ℕ). (slice_index_or old.desk.units i no_unit).lun) f.unit_is ∙ f.lun_is in
        let one-unit : unit_of p x ≡ unit_of p t = j.joined.tickets.reached.plan.apart (unit_of p x) (unit_of p t)
        (ap (λ (u : RigUnit). u.target) (sym ux) ∙ target ∙ ap (λ (u : RigUnit). u.target) ut) (ap (λ (u : RigUnit). u.lun) (sym ux) ∙ lun ∙ ap (λ (u : RigUnit). u.lun) ut) in
        let units : (ticket old.desk x).unit ≡ (ticket old.desk t).unit = (j.joined.desk.each x x-in).unit_is ∙ one-unit ∙ sym kept.unit_is in
        let same : x ≡ t = same-ticket x f.lives_still units f.tag_is in
        record {
          target = ap (λ (u : RigUnit). u.target) (sym ux) ∙ target;
          lun = sym lun ∙ ap (λ (u : RigUnit). u.lun) ux;
          tag = sym f.tag_is ∙ (j.joined.desk.each x x-in).tag_is;
          asks =
              subst (λ (i : ℕ). (((ks i).life ≡ Selected) × (cdb_of (bytes_at old.memory (block + 0xF0) k) ≡ command (p.requests i))) ⊎ (((ks i).life ≡ AskStarts) × (cdb_of (bytes_at old.memory (block + 0xF0) k) ≡ RequestSense 18))) (sym same) (asks-here k w);
        }
      where
        same-ticket : (x : ℕ) → lives (ticket old.desk x) ≡ true → (ticket old.desk x).unit ≡ (ticket old.desk t).unit → (ticket old.desk x).tag ≡ (ticket old.desk t).tag → x ≡ t
        same-ticket x l u z = by (x == t) refl
          where
            by : (b : Bool) → (x == t) ≡ b → x ≡ t
            by true q = same-number x t q
            by false q = absurd (h.tickets.tags x t (stage-lives old.desk x l) (stage-lives old.desk t alive) (λ n. false≢true (sym q ∙ ap (λ (i : ℕ). i == t) n ∙ same-test t)) u z)

    -- ---- where the step starts
    abbrev Starts : Type 0
    Starts = State p old.desk.units (live old.desk) nexus old.memory (block + 0xF0) ks tg begins-here 0 before

    target-here : (i : ℕ) → old.bus.connected ≡ Some i → i ≡ tg
    target-here i q = elim h.linked [
      | inl x ↦ same_Some i tg (sym q ∙ x)
      | inr x ↦ (let z : None ≡ Some i = sym x ∙ q in absurd cc)
    ]

    first-bytes : bytes_at old.memory (block + 0xF0) 0 ≡ []
    unfolding bytes_at
    first-bytes = refl

    starts-here : ((i : ℕ) → old.bus.connected ≡ Some i → TakesFor nexus (targets old.bus i).link) → Starts
    starts-here f = by old.bus.connected refl
      where
        heard-so : (i : ℕ) → old.bus.connected ≡ Some i → HasHeard P (targets old.bus i).link → Starts
        heard-so i q k = hears_on (λ x z. subst (λ (y : ℕ). HasHeard P (targets old.bus y).link) (same_Some i x (sym q ∙ z)) k)

        by-link : (i : ℕ) (l : ConnectionState) → old.bus.connected ≡ Some i → (targets old.bus i).link ≡ l → TakesFor nexus l → Starts
        by-link i (TakingCommand x taken) q z k = takes i q (target-here i q) (z ∙ ap (λ (y : Nexus). TakingCommand y taken) k.0 ∙ ap (TakingCommand nexus) (k.1 ∙ sym first-bytes)) (ap is_whole first-bytes) refl
        by-link i (connection_state.Selected heard) q z k = heard-so i q (subst (HasHeard P) (sym z) (omega (arith, k)))
        by-link i (RogueConnected x y) q z k = heard-so i q (subst (HasHeard P) (sym z) tt)
        by-link i BusFree q z k = heard-so i q (subst (HasHeard P) (sym z) tt)
        by-link i l q z k = absurd k

        by : (o : Option ℕ) → old.bus.connected ≡ o → Starts
        by None q = hears_on (none-heard old.bus q)
        by (Some i) q = by-link i (targets old.bus i).link q refl (f i q)

    by-move : Starts → IsAt (chip_of old) (op.MoveFrom (pos 0x28) 2) → Row (moves old.desk.units (live old.desk)) word (op.MoveFrom (pos 0x28) 2) (chip_of old) (after_fetch (chip_of old)) ran.end ran.chip → is_stopped old.regs ≡ false → can_fetch old.memory old.regs ≡ true → here
    by-move first at d f can =
        let sent : ℕ → ℕ = λ i. slice_index old.memory (block + 0xF0 + i) in
        let v = entry-sends p old.desk.units (live old.desk) (caused_by g old m) word (State p old.desk.units (live old.desk) nexus old.memory (block + 0xF0) ks tg begins-here) 2 sent (word_at old.memory (old.regs.dsa + 0x28) % 16777216)
        (command-sends p old.desk.units (live old.desk) nexus old.memory (block + 0xF0) ks tg begins-here (caused_by g old m) word sent (λ i. refl) (word_at old.memory (old.regs.dsa + 0x28) % 16777216))
        (place_of old.memory (after_fetch (chip_of old)).regs.dsa (pos 0x28) 8) (after_fetch (chip_of old)) ran.end ran.chip before
        (λ x z i. ap (λ (b : ℕ). slice_index old.memory (b + i)) (entry-of-command x z)) refl first refl
        (λ x z. ap (λ (b : ℕ). word_at old.memory b % 16777216) (sym (entry-at old.memory old.regs.dsa 0x28 x z))) d in
        record { over_bus = v.0; steps = chip_step.does f can (op.MoveFrom (pos 0x28) 2) at v.1; same_bus = v.2 }
      where
        entry-of-command : (x : ℕ) → place_of old.memory old.regs.dsa (pos 0x28) 8 ≡ Some x → word_at old.memory (x + 4) ≡ block + 0xF0
        entry-of-command x z =
            let b : old.regs.dsa ≡ block = h.stays.4.dsa in
            let y : old.regs.dsa + 0x28 ≡ x = entry-at old.memory old.regs.dsa 0x28 x z in
            let w : x + 4 ≡ block + 0x2C = omega (arith, b, y) in
            let k : word_at old.memory (block + 0x2C) ≡ block + 0xF0 = block-is.command.1 in
            ap (word_at old.memory) w ∙ k

    found-command : Starts → ChipStep (moves old.desk.units (live old.desk)) word (chip_of old) ran.end ran.chip → here
    unfolding instruction
    found-command first (chip_step.does f q x at d) =
        by-move first (stands_at g.version 17 (chip_of old) (chip_stands g.version g.units (At088 t) c old h 17 (omega arith) refl)) (row g.version g.units (At088 t) c old h m.after word m.reply ran 17 (op.MoveFrom (pos 0x28) 2) (omega arith) refl refl) f q
    found-command first (chip_step.idle f q n) = record { over_bus = before; steps = chip_step.idle f q (ap (λ (x : Chip BusState). over before x) n); same_bus = sym (ap (λ (x : Chip BusState). x.bus) n) }
    found-command first (chip_step.unfetched f q h) = record { over_bus = before; steps = chip_step.unfetched f q (record { ends = record { is = h.ends.is; memory_is = h.ends.memory_is; regs_are = h.ends.regs_are }; bus_is = refl }); same_bus = sym h.bus_is }
    found-command first (chip_step.unspelled f q n h) = record { over_bus = before; steps = chip_step.unspelled f q n (record { ends = record { is = h.ends.is; memory_is = h.ends.memory_is; regs_are = h.ends.regs_are }; bus_is = refl }); same_bus = sym h.bus_is }

  -- the address tells the point, and DSA the ticket
  module _ (at : old.regs.dsp ≡ 0x088) (t : ℕ) (alive : lives (ticket old.desk t) ≡ true) (dsa : old.regs.dsa ≡ (ticket old.desk t).block) (starts : IsToStart (ks t).life) where
    at-command : (x : Point) (c : Counts) → Holds g.version g.units (Running x) c old → is_command x ≡ true → here
    at-command x c h q =
        let y = its-point g old at t alive dsa x c h q in
        let f = commands-find-nexus g setting bytes ms r (runs g setting bytes p ms m word r s e ks j a) at t alive dsa in
        found-command t c y alive starts (starts-here t c y alive starts f) ran.ran

    pub command-joins : IsJoinedRun g p (ms ++ m ∷ [])
    command-joins =
        let own = words_are_owned g setting bytes ms r in
        let k = running g.version g.units own.spot own.counts old (runs g setting bytes p ms m word r s e ks j a) own.holds in
        goes-on g setting bytes p ms m word r s e ks j a (at-command k.0 own.counts k.1 (command-at k.0 (sym k.1.stays.3 ∙ at)))

-- with no task connected nothing is asked of pointers
none-pointed : (ks : ℕ → Ticket) (n : Nexus) (b : BusState) → OneConnected b → ((i : ℕ) → b.connected ≡ Some i → TakesFor n (targets b i).link) → ArePointed ks b
none-pointed ks n b o f i = by (targets b i).link refl
  where
    busy : (d : Option ℕ) (c : Connection) → b.connected ≡ d → (targets b i).link ≡ TaskConnected c → ⊥
    busy None c q z = let y = free-is (targets b i).link (o.others i (λ x. (let v : None ≡ Some i = sym q ∙ x in absurd cc))) in (let v : BusFree ≡ TaskConnected c = sym y ∙ z in absurd cc)
    busy (Some k) c q z = at (k == i) refl
      where
        at : (h : Bool) → (k == i) ≡ h → ⊥
        at true y = subst (TakesFor n) z (f i (q ∙ ap Some (same-number k i y)))
        at false y = let v = free-is (targets b i).link (o.others i (λ x. false≢true (sym y ∙ ap (λ (l : ℕ). l == i) (same_Some k i (sym q ∙ x)) ∙ same-test i))) in (let w : BusFree ≡ TaskConnected c = sym v ∙ z in absurd cc)

    by : (l : ConnectionState) → (targets b i).link ≡ l → IsPointed ks l
    by (TaskConnected c) q = absurd (busy b.connected c refl q)
    by l q = tt

-- a step of the chip gives a ticket this life
abbrev TicketStep : Plan → ℕ → LogicalUnit → Ticket → Life → Type 0
TicketStep p t u k l = (m : TicketMove p t (view_for p t u.log) k (with_life k l)) × IsChipStep m

module _ (g : BenchSetting) (setting : IsBenchSetting g) (bytes : HasBytes g) (p : Plan) (ms : List Moment) (m : Moment) (word : ℕ) (r : IsRun g (opened g) ms) (s : Steps g (last (opened g) ms) m) (e : m.entry.step ≡ step.Chip word) (at : (last (opened g) ms).regs.dsp ≡ 0x088)
    (plan : IsPlanOf g (last (opened g) ms) p) (t : ℕ) (alive : lives (ticket (last (opened g) ms).desk t) ≡ true) (dsa : (last (opened g) ms).regs.dsa ≡ (ticket (last (opened g) ms).desk t).block) where
  abbrev now : World
  now = last (opened g) ms

  running-is : now.stop ≡ stop.Run
  running-is = (subst (λ (x : Step). Enabled g now m.entry.caller x) e s.enabled).1

  -- a ticket that is selected
  selected-joins : (ks : ℕ → Ticket) → RunJoins g p ms ks → IsToStart (ks t).life → IsJoinedRun g p (ms ++ m ∷ [])
  selected-joins ks j starts =
      let f = commands-find-nexus g setting bytes ms r running-is at t alive dsa in
      command-joins g setting bytes p ms m word r s e ks j (none-pointed ks (nexus_for now t) now.bus j.joined.tickets.connected f) plan at t alive dsa starts

  -- one that waits for it is selected first
  module _ (ks : ℕ → Ticket) (j : RunJoins g p ms ks) where
    known : unit_of p t < length g.units
    known = j.joined.tickets.reached.plan.known t

    there-is : (p.units (unit_of p t)).absent ≡ false
    there-is =
        let own = words_are_owned g setting bytes ms r in
        let k = running g.version g.units own.spot own.counts now running-is own.holds in
        let h = its-point g now at t alive dsa k.0 own.counts k.1 (command-at k.0 (sym k.1.stays.3 ∙ at)) in
        let x = (j.joined.desk.each t (within now.desk t alive)).unit_is in
        let u : slice_index_or g.units (unit_of p t) no_unit ≡ p.units (unit_of p t) = get_or_from_slice_get g.units (unit_of p t) (p.units (unit_of p t)) no_unit (plan.units (unit_of p t) known) in
        ap (λ (i : RigUnit). i.absent) (sym u) ∙ ap (λ (i : ℕ). (slice_index_or g.units i no_unit).absent) (sym x) ∙ ap (λ (us : List RigUnit). (slice_index_or us (ticket now.desk t).unit no_unit).absent) (sym h.units_are) ∙ h.works.plays.there

    with-life-joins : (l : Life) → IsToStart l → ((u : LogicalUnit) → TicketStep p t u (ks t) l) → IsJoinedRun g p (ms ++ m ∷ [])
    with-life-joins l i f =
        let u = units-run-their-logs p (length g.units) ks (targets now.bus) j.joined.tickets.reached (unit_of p t) known in
        let k = with_life (ks t) l in
        let x = f u.0 in
        selected-joins (with_at ks t k) (own-moves-stand g p ms ks (with_at ks t k) j (own.steps own.none t k u.0 u.1 x.0 x.1)) (subst (λ (y : Ticket). IsToStart y.life) (sym (with_at-same ks t k)) i)

    to-select : (l : Life) → (ks t).life ≡ l → IsToSelect l (p.units (unit_of p t)).rogue → IsJoinedRun g p (ms ++ m ∷ [])
    to-select Waits q i = with-life-joins Selected tt (λ u. (move.selects q there-is i, tt))
    to-select Asks q i = with-life-joins AskStarts tt (λ u. (move.ask_selects q, tt))
    to-select l q i = selected-joins ks j (subst IsToStart (sym q) i)

pub command-steps-join : CommandStepsJoin
command-steps-join g setting bytes p ms m word r s e at plan ks j t alive dsa starts = to-select g setting bytes p ms m word r s e at plan t alive dsa ks j (ks t).life refl starts
