-- At the command behind a message the nexus is that of the ticket at the chip.
use Rattle.rig_types.specs.declared.step.Step.TheVariants as step
use Rattle.scripts_ops.specs.declared.values.Op.TheVariants as op
use Rattle.chip_step.specs.Event as event
use Rattle.scsi_words.specs.declared.messages.kinds.Message.TheVariants as message
use Rattle.target_law.specs.Target as connection_state
use Rattle.desk_law.specs.declared.stage.Stage.TheVariants as stage
use Rattle.world_law.specs.declared.reply.Decided.TheVariants as line
use Rattle.world_law.specs.declared.reply.Reply.TheVariants as reply
use Rattle.world_law.specs.declared.reply.Stop.TheVariants as stop
use Rattle.std.proofs.lemmas.List.Elements.{All-get_or}
use Rattle.std.proofs.Common.{arith, ◌≡◌, ◌⊎◌, inl, inr, ℕ, zero, suc, pos, ◌+◌, ◌%◌, ◌<◌, ◌≤◌, ◌==◌, nat_eq, nat_le, Bool, true, false, List, [], ◌∷◌, ◌++◌, length, length-append, slice_index, slice_index_or, MatchBool, Option, Some, None, refl, sym, ap, subst, ◌∙◌, if◌then◌else◌}
use Rattle.std.specs.Prelude.{◌-◌, ◌&&◌, slice_get}
use Rattle.std.proofs.lemmas.Bool.{false≢true}
use Rattle.std.proofs.lemmas.List.{append-nil, append_assoc, take_all, get_or-append-add}
use Rattle.scsi_words.specs.declared.phases.kinds.Phase.{Phase as BusPhase}
use Rattle.rig_types.specs.declared.rig.Unit.{Unit as RigUnit}
use Rattle.bench_words.specs.Memory.{word_at, bytes_at}
use Rattle.driver_script.specs.Script.{instruction}
use Rattle.chip_regs.specs.Registers.{stop_with}
use Rattle.chip_step.specs.Addresses.{place_of}
use Rattle.chip_step.specs.Chip.{Chip, Stops}
use Rattle.chip_step.specs.Step.{after_fetch}
use Rattle.chip_step.specs.Event.{Event}
use Rattle.target_law.specs.declared.nexus.Nexus.{Nexus}
use Rattle.scsi_words.specs.Messages.{message_code}
use Rattle.target_law.specs.Calls.{is_free, link_phase, target_messaged, messaged_by, greeted, InitiatorMessage, Names, Other, message_of, is_identify}
use Rattle.target_law.specs.Devices.{where_room, lie_within}
use Rattle.target_law.specs.Target.{ConnectionState, BusFree, RogueConnected, TakingCommand, LogicalUnit, Target, linked, unit_at, on_unit}
use Rattle.bus_law.specs.Attention.{messaged, is_message_out, device_messaged}
use Rattle.bus_law.specs.Bus.{BusState, device_at}
use Rattle.bus_law.specs.Moves.{moves}
use Rattle.bus_events.specs.Targets.{targets}
use Rattle.ticket_fate.specs.Tickets.{Plan}
use Rattle.world_law.specs.ChipSteps.{chip_of, RunsChip, stop_after}
use Rattle.world_law.specs.Opening.{opened}
use Rattle.world_law.specs.Runs.{Moment, Steps, IsRun, last}
use Rattle.world_law.specs.World.{BenchSetting, IsBenchSetting, World, live, command_at, decided, front}
use Rattle.word_owners.specs.Worlds.{HasBytes}
use Rattle.word_owners.proofs.RunningChip.{running}
use Rattle.desk_law.specs.Desk.{DeskState, ticket, unit, lives, no_unit, no_ticket}
use Rattle.phase_fix.specs.declared.moves.Entry.TheVariants.{Context}
use Rattle.word_owners.specs.Holds.{Holds, Running, Spot, Mismatched, NotData, Fixed, TimedOut, JobOver, ResetAt, Broken}
use Rattle.word_owners.specs.Parts.{Counts, IsBlock}
use Rattle.word_owners.specs.Points.{Point, about, At060, At068, At070, At078, At080, At088, At298, At440, At448, At450, At458, BehindContext, LeavesContext, Moves, InTargets, InLuns, AtUnit, BehindUnit}
use Rattle.word_owners.specs.Tickets.{IsLive, IsActive, fixed_of, tickets_of, target_of}
use Rattle.word_owners.proofs.ChipSteps.{row}
use Rattle.word_owners.proofs.NextPlaces.{move-high, context-high}
use Rattle.word_owners.proofs.Worlds.{words_are_owned}
use Rattle.chip_needs.specs.Sending.{IsRogueOrFree}
use Rattle.chip_needs.specs.Greeting.{is_behind_selection}
use Rattle.chip_needs.proofs.AfterSelection.{is_greeting, spot_greets, leads, selections-are-greeted}
use Rattle.chip_needs.proofs.Sending.{call-so}
use Rattle.target_law.specs.Bytes.{hears}
use Rattle.rig_types.specs.declared.acts.Act.{Act}
use Rattle.rig_types.specs.declared.acts.ActKind.{ActKind}
use Rattle.rig_types.specs.declared.acts.ActKind.TheVariants.{Abort, Device, Bus}
use Rattle.rig_types.specs.declared.commands.Command.{Command}
use Rattle.rig_types.specs.declared.step.Line.{Line}
use Rattle.rig_types.specs.declared.step.Step.{Step}
use Rattle.host_map.specs.declared.TheConstants.{FRONT_IDLE}
use Rattle.chip_regs.specs.declared.registers.Cause.{Cause}
use Rattle.chip_regs.specs.declared.registers.Cause.TheVariants.{Iid, Bf, Ma, Udc}
use Rattle.chip_step.specs.declared.outcome.StepEnd.{StepEnd}
use Rattle.chip_step.specs.declared.outcome.StepEnd.TheVariants.{Ran, Stopped}
use Rattle.word_owners.specs.Laws.{restart_point}
use Rattle.word_owners.proofs.Restarts.{restart_holds}
use Rattle.world_law.specs.Stops.{in_tail}
use Rattle.std.proofs.lemmas.Bool.Decides.{nat_tests}
use Rattle.desk_law.specs.declared.refused.Refused.{Refused}
use Rattle.desk_law.specs.Rings.{done_ticket}
use Rattle.world_law.specs.Acts.{ActsOf, acts_by, aborts, marks, device_resets, bus_resets, is_late}
use Rattle.world_law.specs.Builds.{BuildsBy, BuildsOf, refuses, is_tried_again}
use Rattle.world_law.specs.Enabling.{Enabled}
use Rattle.world_law.specs.Repairs.{Fixes}
use Rattle.world_law.specs.Steps.{Does, TakesOf}
use Rattle.world_law.specs.declared.reply.Decided.{Decided}
use Rattle.world_law.specs.declared.reply.Reply.{Reply}
use Rattle.world_law.specs.declared.reply.Stop.{Stop}
use Rattle.world_law.proofs.RunLaws.{goes_on, ends_after}
use Rattle.word_owners.specs.Nexts.{IsNext}
use Rattle.word_owners.proofs.AllSteps.{chip_steps_hold}
use Rattle.block_words.proofs.RunSteps.{by-steps, within, stage-lives, IsAccepted, lived-or-built}
use Rattle.chip_needs.proofs.AttentionSteps.{not-run}
use Rattle.chip_needs.proofs.Greeting.{by_bool}
use Rattle.bus_law.specs.Rooms.{with_room_at}
use Rattle.bus_events.proofs.MadeRooms.{room-is-made}
use Rattle.chip_step.specs.Bytes.{GoesOut}
use Rattle.chip_step.specs.Blocks.{Moves as BytesMove, loaded, after_bytes, MovesAt, BlockMoves, MovesBy}
use Rattle.scsi_words.specs.Phases.{phase_code}
use Rattle.rig_types.specs.Ranges.{IsUnit}
use Rattle.desk_law.specs.declared.ticket.Ticket.{Ticket}
use Rattle.desk_law.specs.Building.{new_ticket}
use Rattle.unit_law.specs.Request.{plain}
use Rattle.world_law.proofs.TicketsKept.{keeps_tickets}
use Rattle.word_owners.specs.BenchSteps.{IsOwned}
use Rattle.run_joined.proofs.Rigs.{rig-stays}
use Rattle.run_joined.proofs.Plans.{plans-exist}
use Rattle.block_words.proofs.Commands.{commands-are-told}
use Rattle.chip_needs.specs.CommandNexus.{nexus_by, nexus_for, TakesFor, CommandsFindNexus}
use Rattle.chip_needs.proofs.MessageStep.{entry-at}
use Rattle.chip_needs.proofs.HeardBytes.{room-so, becomes-so, HaveHeard, greeted-heard, Stands, selects, breaks, stands, of-rules, link-is, ack-heard, turn-heard, takes-heard}

-- ---- the message makes a nexus, or frees the bus
names-of : (lun tag : ℕ) → lun < 8 → message_of (message_code (message.Identify true lun) ∷ message_code message.SimpleTag ∷ tag ∷ []) ≡ Names (record { lun = lun; tag = tag })
names-of lun tag l = by (is_identify (0xC0 + lun) && true) (grind (arith, nat_tests))
  where
    by : (b : Bool) → b ≡ true → (if b then Names (record { lun = 0xC0 + lun - 0xC0; tag = tag }) else Other) ≡ Names (record { lun = lun; tag = tag })
    by true e = let z : 0xC0 + lun - 0xC0 ≡ lun = omega arith in ap (λ (x : ℕ). Names (record { lun = x; tag = tag })) z
    by false e = absurd (false≢true e)

rogue-takes : (n : Nexus) (l : ConnectionState) → IsRogueOrFree l → TakesFor n l
rogue-takes n (RogueConnected s x) h = tt
rogue-takes n BusFree h = tt
rogue-takes n l h = absurd h

lun-takes : (n : Nexus) (o : Option LogicalUnit) (t : Target) → TakesFor n (on_unit o (λ u. linked t (TakingCommand n [])) (linked t BusFree)).link
lun-takes n (Some u) t = (refl, refl)
lun-takes n None t = tt

told-takes : (n : Nexus) (heard : List ℕ) (t : Target) → t.link ≡ connection_state.Selected heard → message_of heard ≡ Names n → TakesFor n (target_messaged t).link
unfolding target_messaged
told-takes n heard t e m =
    subst (λ (l : ConnectionState). TakesFor n (messaged_by l t).link) (sym e)
    (subst (λ (x : InitiatorMessage). TakesFor n (greeted t x).link) (sym m) (lun-takes n (unit_at t.units n.lun) t))

module _ (p : Plan) (units : List RigUnit) (live_at : ℕ → Nexus → Option ℕ) where
  abbrev calls : BusState → Event → BusState → Type 0
  calls = moves units live_at

  abbrev Heard : List ℕ → BusState → Type 0
  Heard xs b = HaveHeard (λ h. h ≡ xs) b

  -- ATN is released
  released : (n : Nexus) (xs : List ℕ) (b y : BusState) → message_of xs ≡ Names n → length xs ≡ 3 → Heard xs b → calls b (event.SetAtn false) y → (i : ℕ) → y.connected ≡ Some i → TakesFor n (targets y i).link
  unfolding where_room
  released n xs b y names size h m = by (stands units live_at (λ z. z ≡ xs) b h)
    where
      by : Stands units live_at (λ z. z ≡ xs) b → (i : ℕ) → y.connected ≡ Some i → TakesFor n (targets y i).link
      by (breaks k) = λ i c. rogue-takes n (targets y i).link (call-so p units live_at (event.SetAtn false) b y tt m k i c)
      by (selects id heard e q z) =
          let d = device_at b id in
          subst (λ (v : BusState). (i : ℕ) → v.connected ≡ Some i → TakesFor n (targets v i).link) (sym m)
          (subst (λ (l : ConnectionState). (i : ℕ) → (messaged (is_message_out (link_phase l)) b.connected b).connected ≡ Some i → TakesFor n (targets (messaged (is_message_out (link_phase l)) b.connected b) i).link) (sym (link-is units live_at b id (connection_state.Selected heard) e q))
          (subst (λ (o : Option ℕ). (i : ℕ) → (messaged true o b).connected ≡ Some i → TakesFor n (targets (messaged true o b) i).link) (sym e)
          (becomes-so (TakesFor n) tt (is_free (device_messaged d).target.link) b id (device_messaged d) e
          (room-so (TakesFor n) tt (lie_within (target_messaged d.target).units d.rooms) d (target_messaged d.target)
          (subst (TakesFor n) (sym q) (ap (λ (x : List ℕ). length x) z ∙ size)) (told-takes n heard d.target q (ap message_of z ∙ names))))))

  -- ---- the bytes of the message
  byte-out : (xs : List ℕ) (byte : ℕ) (taken : Bool) (b y : BusState) → length xs < 4 → Heard xs b → calls b (event.ByteOut byte taken) y → Heard (xs ++ byte ∷ []) y
  byte-out xs byte taken b y l h m = by (stands units live_at (λ z. z ≡ xs) b h)
    where
      by : Stands units live_at (λ z. z ≡ xs) b → Heard (xs ++ byte ∷ []) y
      by (breaks k) = of-rules units live_at (λ z. z ≡ xs ++ byte ∷ []) y (call-so p units live_at (event.ByteOut byte taken) b y tt m k)
      by (selects id heard e q z) =
          let size : length (heard ++ byte ∷ []) ≡ length heard + 1 = length-append heard (byte ∷ []) in
          let n : length heard ≡ length xs = ap (λ (x : List ℕ). length x) z in
          let all : hears heard byte ≡ xs ++ byte ∷ [] = take_all 4 (heard ++ byte ∷ []) (omega (arith, size, n, l)) ∙ ap (λ (x : List ℕ). x ++ byte ∷ []) z in
          subst (Heard (xs ++ byte ∷ [])) (sym m.1) (takes-heard units live_at (λ x. x ≡ xs ++ byte ∷ []) byte taken b id heard e q all m.0)

  goes : (n : ℕ) (memory : List ℕ) (at : ℕ) (bus : BusState) (left : ℕ) (bus' : BusState) (xs : List ℕ) → length xs + n ≤ 4 → Heard xs bus → GoesOut calls n memory at bus left bus' → left ≡ 0 → Heard (xs ++ bytes_at memory at n) bus'
  unfolding bytes_at
  goes zero memory at bus left bus' xs l h d z = subst (λ (ys : List ℕ). Heard ys bus') (sym (append-nil xs)) (subst (Heard xs) (sym d.1) h)
  goes (suc n) memory at bus left bus' xs l h d z = elim d [
    | inl x ↦ absurd (omega (arith, x.1, z))
    | inr x ↦
        let b = slice_index memory at in
        let size : length (xs ++ b ∷ []) ≡ length xs + 1 = length-append xs (b ∷ []) in
        let next : at + 1 ≡ suc at = omega arith in
        let rest = goes n memory (at + 1) x.0 left bus' (xs ++ b ∷ []) (omega (arith, size, l)) (byte-out xs b true bus x.0 (omega (arith, l)) h x.1) x.2 z in
        subst (λ (ys : List ℕ). Heard ys bus') (append_assoc xs (b ∷ []) (bytes_at memory (at + 1) n) ∙ ap (λ (i : ℕ). xs ++ (b ∷ bytes_at memory i n)) next) rest
  ]

  acked-so : (b y : BusState) → Heard [] b → calls b event.ClearAck y → Heard [] y
  acked-so b y h m = by (stands units live_at (λ z. z ≡ []) b h)
    where
      by : Stands units live_at (λ z. z ≡ []) b → Heard [] y
      by (breaks k) = of-rules units live_at (λ z. z ≡ []) y (call-so p units live_at event.ClearAck b y tt m k)
      by (selects id heard e q z) = subst (Heard []) (sym m) (ack-heard units live_at (λ x. x ≡ []) b.ack b id heard e q z)

  asked-so : (word : ℕ) (shown : Option BusPhase) (b y : BusState) → Heard [] b → calls b (event.Phase word shown) y → Heard [] y
  asked-so word shown b y h m = by (stands units live_at (λ z. z ≡ []) b h)
    where
      by : Stands units live_at (λ z. z ≡ []) b → Heard [] y
      by (breaks k) = of-rules units live_at (λ z. z ≡ []) y (call-so p units live_at (event.Phase word shown) b y tt m k)
      by (selects id heard e q z) = subst (Heard []) (sym m.1) (turn-heard units live_at (λ x. x ≡ []) word b id heard e q z)

  -- ---- the move
  abbrev Sent : Nexus → StepEnd → BusState → Type 0
  Sent n end b = ((cause : Cause) × (end ≡ Stopped cause)) ⊎ ((i : ℕ) → b.connected ≡ Some i → TakesFor n (targets b i).link)

  ends-so : (n : Nexus) (cause : Cause) (old : Chip BusState) (end : StepEnd) (new : Chip BusState) → Stops cause old end new → Sent n end new.bus
  ends-so n cause old end new s = inl (cause, s.ends.is)

  module _ (n : Nexus) (word : ℕ) where
    moved-so : (old : Chip BusState) (end : StepEnd) (new : Chip BusState) → old.regs.dbc ≡ 3 → message_of (bytes_at old.memory old.regs.dnad 3) ≡ Names n → Heard [] old.bus → BytesMove calls 6 old end new → Sent n end new.bus
    unfolding bytes_at
    moved-so old end new size names h d =
        by_bool _ _ (Sent n end new.bus) (nat_eq d.left 0)
        (λ k. k)
        (λ k. inl (Ma, k.1))
        (with-left (nat_eq d.left 0) refl d.finishes)
      where
        with-left : (b : Bool) → nat_eq d.left 0 ≡ b
            → MatchBool b (calls d.bus (event.SetAtn false) new.bus × (end ≡ Ran) × (new.regs ≡ after_bytes 6 d.left new.memory old.regs)) ((new.bus ≡ d.bus) × (end ≡ Stopped Ma) × (new.regs ≡ stop_with Ma (after_bytes 6 d.left new.memory old.regs)))
            → MatchBool b (Sent n end new.bus) ((new.bus ≡ d.bus) × (end ≡ Stopped Ma) × (new.regs ≡ stop_with Ma (after_bytes 6 d.left new.memory old.regs)))
        with-left true q k =
            let z : d.left ≡ 0 = grind (arith, nat_tests) in
            let all = goes 3 old.memory old.regs.dnad old.bus d.left d.bus [] (omega arith) h (subst (λ (c : ℕ). GoesOut calls c old.memory old.regs.dnad old.bus d.left d.bus) size d.carries.0) z in
            inr (released n (bytes_at old.memory old.regs.dnad 3) d.bus new.bus names refl all k.0)
        with-left false q k = k

    moves-so : (shown : Option BusPhase) (old : Chip BusState) (b : BusState) (end : StepEnd) (new : Chip BusState) → old.regs.dbc ≡ 3 → message_of (bytes_at old.memory old.regs.dnad 3) ≡ Names n → Heard [] b → MovesAt calls word shown 6 old b end new → Sent n end new.bus
    moves-so None old b end new size names h d = ends-so n Udc (record old { bus = b }) end new d
    moves-so (Some shown) old b end new size names h d = by_bool _ _ (Sent n end new.bus) (nat_eq (phase_code shown) 6) (moved-so (record old { bus = b }) end new size names h) (ends-so n Ma (record old { bus = b }) end new) d

    block-so : (old : Chip BusState) (end : StepEnd) (new : Chip BusState) → old.regs.dbc ≡ 3 → message_of (bytes_at old.memory old.regs.dnad 3) ≡ Names n → Heard [] old.bus → BlockMoves calls word 6 old end new → Sent n end new.bus
    block-so old end new size names h d =
        by_bool _ _ (Sent n end new.bus) (nat_eq old.regs.dbc 0) (ends-so n Iid old end new)
        (by_bool _ _ (Sent n end new.bus) (nat_le (old.regs.dnad + old.regs.dbc) (length old.memory))
        (λ k. moves-so k.shown old k.bus end new size names (asked-so word k.shown k.asks.mid k.bus (acked-so old.bus k.asks.mid h k.asks.acked) k.asks.asked) k.moved) (ends-so n Bf old end new)) d

    pub entry-so : (place : Option ℕ) (old : Chip BusState) (end : StepEnd) (new : Chip BusState) → ((e : ℕ) → place ≡ Some e → (word_at old.memory e % 16777216 ≡ 3) × (message_of (bytes_at old.memory (word_at old.memory (e + 4)) 3) ≡ Names n)) → Heard [] old.bus → MovesBy calls word place 6 old end new
        → Sent n end new.bus
    entry-so None old end new f h d = ends-so n Bf old end new d
    entry-so (Some e) old end new f h d = block-so (loaded (word_at old.memory e % 16777216) (word_at old.memory (e + 4)) old) end new (f e refl).0 (f e refl).1 h d

-- ---- a step of the chip
abbrev is_chip : Step → Bool
is_chip (step.Chip word) = true
is_chip x = false

-- where the chip runs at the command, for each live ticket whose block is at DSA
abbrev Takes : World → Type 0
Takes w = w.stop ≡ stop.Run → w.regs.dsp ≡ 0x088 → (t : ℕ) → lives (ticket w.desk t) ≡ true → w.regs.dsa ≡ (ticket w.desk t).block → (i : ℕ) → w.bus.connected ≡ Some i → TakesFor (nexus_for w t) (targets w.bus i).link

pub record Serves (w : World) : Type 0 where
  pub takes : Takes w

abbrev pub is_command : Point → Bool
is_command (At088 t) = true
is_command p = false

none-here : (d : ℕ) {b : Bool} → (d ≡ 0x088 → ⊥) → d ≡ 0x088 → b ≡ true
none-here d n e = absurd (n e)

-- the address tells the point
pub command-at : (p : Point) → (about p).place ≡ 0x088 → is_command p ≡ true
command-at (Moves t x) e = let high = move-high x.phase x.entry in absurd (omega (arith, e, high))
command-at (BehindContext t phase k) e = let high = move-high phase (Context k) in absurd (omega (arith, e, high))
command-at (LeavesContext t phase j k) e = let high = context-high phase k in absurd (omega (arith, e, high))
command-at (InTargets r j) e = absurd (omega (arith, e))
command-at (InLuns r j) e = absurd (omega (arith, e))
command-at (AtUnit u r) e = absurd (omega (arith, e))
command-at (BehindUnit u r) e = absurd (omega (arith, e))
command-at p e = ap (λ (d : ℕ). nat_eq d 0x088) e

command-greets : (p : Point) → is_command p ≡ true → is_greeting p ≡ true
command-greets (At088 t) e = refl
command-greets p e = absurd (false≢true e)

abbrev spot_commands : Spot → Bool
spot_commands (Running p) = is_command p
spot_commands s = false

of-greets : (q : Spot) → spot_greets q ≡ false → spot_commands q ≡ false
of-greets (Running p) e = by (is_command p) refl
  where
    by : (b : Bool) → is_command p ≡ b → is_command p ≡ false
    by true z = absurd (false≢true (sym e ∙ command-greets p z))
    by false z = z
of-greets s e = refl

-- only the message leads to the command
abbrev sends_message : Point → Bool
sends_message (At080 t) = true
sends_message p = false

none-commands : (p : Point) → sends_message p ≡ false → (q : Spot) → IsNext p q → spot_commands q ≡ false
none-commands (At060 t) e q is = elim is [ inl x ↦ ap spot_commands x | inr y ↦ elim y [ inl x ↦ ap spot_commands x.1 | inr x ↦ ap spot_commands x ] ]
none-commands (At440 t) e q is = elim is [ inl x ↦ ap spot_commands x | inr x ↦ ap spot_commands x.1 ]
none-commands At298 e q is = elim is [ inl x ↦ ap spot_commands x | inr y ↦ elim y [ inl x ↦ ap spot_commands x.1 | inr x ↦ ap spot_commands x ] ]
none-commands (At068 t) e q is = ap spot_commands is
none-commands (At070 t) e q is = ap spot_commands is
none-commands (At078 t) e q is = ap spot_commands is
none-commands (At080 t) e q is = absurd (false≢true (sym e))
none-commands (At448 t) e q is = ap spot_commands is
none-commands (At450 t) e q is = ap spot_commands is
none-commands (At458 t) e q is = ap spot_commands is
none-commands p e q is = of-greets q (leads p refl q is)

module _ (g : BenchSetting) (setting : IsBenchSetting g) (bytes : HasBytes g) (ms : List Moment) (r : IsRun g (opened g) ms) (c d : Counts) (new : World) (word : ℕ) (answer : Reply) (run : RunsChip (last (opened g) ms) word answer new) (running_is : (last (opened g) ms).stop ≡ stop.Run) where
  abbrev w : World
  w = last (opened g) ms

  desk-is : new.desk ≡ w.desk
  desk-is = ap (λ (x : World). x.desk) run.world

  bus-is : new.bus ≡ run.chip.bus
  bus-is = ap (λ (x : World). x.bus) run.world

  stop-is : new.stop ≡ stop_after run.end w.stop
  stop-is = ap (λ (x : World). x.stop) run.world

  calm-takes : (p : Point) → sends_message p ≡ false → (q : Spot) → IsNext p q → Holds g.version g.units q d new → Takes new
  calm-takes p none q is n e a = absurd (at-spot q (none-commands p none q is) n)
    where
      at-spot : (q : Spot) → spot_commands q ≡ false → Holds g.version g.units q d new → ⊥
      at-spot (Running x) f n = false≢true (sym f ∙ command-at x (sym n.stays.3 ∙ a))
      at-spot (Mismatched t x left) f n = (let z : stop.Run ≡ stop.Mismatch = sym e ∙ n.stays.0 in absurd cc)
      at-spot NotData f n = (let z : stop.Run ≡ stop.Mismatch = sym e ∙ n.stays.0 in absurd cc)
      at-spot (Fixed t) f n = (let z : stop.Run ≡ stop.Clear = sym e ∙ n.stays.0 in absurd cc)
      at-spot (TimedOut t) f n = (let z : stop.Run ≡ stop.Clear = sym e ∙ n.stays.0 in absurd cc)
      at-spot JobOver f n = (let z : stop.Run ≡ stop.Clear = sym e ∙ n.stays.0 in absurd cc)
      at-spot (ResetAt x) f n = (let z : stop.Run ≡ stop.Clear = sym e ∙ n.stays.0 in absurd cc)
      at-spot Broken f n = (let z : stop.Run ≡ stop.MustReset = sym e ∙ n.stays.0 in absurd cc)

  -- ---- the message of a live ticket
  module _ (s : ℕ) (h : Holds g.version g.units (Running (At080 s)) c w) (t : ℕ) (alive : lives (ticket w.desk t) ≡ true) (here : w.regs.dsa ≡ (ticket w.desk t).block) where
    block-is : IsBlock (word_at w.memory) (ticket w.desk t).stage (fixed_of (ticket w.desk t)) (target_of (tickets_of w.desk) t)
    block-is = h.parts.blocks t (stage-lives w.desk t alive)

    lun-low : (unit w.desk (ticket w.desk t).unit).lun < 8
    lun-low =
        let u = (ticket w.desk t).unit in
        let inside : u < length g.units = subst (λ (us : List RigUnit). u < length us) h.units_are (h.tickets.unit t (stage-lives w.desk t alive)) in
        let x : IsUnit g.version (slice_index_or g.units u no_unit) = All-get_or (IsUnit g.version) g.units u no_unit inside setting.rig.in_range in
        let most = x.in_range.lun in
        subst (λ (us : List RigUnit). (slice_index_or us u no_unit).lun < 8) (sym h.units_are) (omega (arith, most))

    names : message_of (bytes_at w.memory ((ticket w.desk t).block + 0xE0) 3) ≡ Names (nexus_for w t)
    names =
        let plan = plans-exist g setting bytes ms r in
        let told = commands-are-told g setting bytes ms r t alive (plan.0.requests t) (plan.2.requests t (within w.desk t alive)) in
        ap message_of told.message ∙ names-of (unit w.desk (ticket w.desk t).unit).lun (ticket w.desk t).tag lun-low

    entry-tells : (e : ℕ) → place_of w.memory (after_fetch (chip_of w)).regs.dsa (pos 0x20) 8 ≡ Some e → (word_at w.memory e % 16777216 ≡ 3) × (message_of (bytes_at w.memory (word_at w.memory (e + 4)) 3) ≡ Names (nexus_for w t))
    entry-tells e q =
        let b = (ticket w.desk t).block in
        let x : b + 0x20 ≡ e = ap (λ (i : ℕ). i + 0x20) (sym here) ∙ entry-at w.memory w.regs.dsa 0x20 e q in
        let count : word_at w.memory (b + 0x20) ≡ 3 = block-is.message.0 in
        let at : word_at w.memory (b + 0x24) ≡ b + 0xE0 = block-is.message.1 in
        let y : b + 0x24 ≡ e + 4 = omega (arith, x) in (
          ap (λ (i : ℕ). word_at w.memory i % 16777216) (sym x) ∙ ap (λ (i : ℕ). i % 16777216) count,
          ap (λ (i : ℕ). message_of (bytes_at w.memory i 3)) (ap (word_at w.memory) (sym y) ∙ at) ∙ names,
        )

    sent-takes : HaveHeard (λ x. x ≡ []) w.bus → new.stop ≡ stop.Run → (i : ℕ) → new.bus.connected ≡ Some i → TakesFor (nexus_for w t) (targets new.bus i).link
    unfolding instruction
    sent-takes first e =
        let x = row g.version g.units (At080 s) c w h new word answer run 16 (op.MoveFrom (pos 0x20) 6) (omega arith) refl refl in
        let plan = plans-exist g setting bytes ms r in
        elim (entry-so plan.0 w.desk.units (live w.desk) (nexus_for w t) word (place_of w.memory (after_fetch (chip_of w)).regs.dsa (pos 0x20) 8) (after_fetch (chip_of w)) run.end run.chip entry-tells first x) [
          | inl z ↦ absurd (not-run z.0 (ap (λ (i : StepEnd). stop_after i w.stop) (sym z.1) ∙ sym stop-is ∙ e))
          | inr z ↦ subst (λ (b : BusState). (i : ℕ) → b.connected ≡ Some i → TakesFor (nexus_for w t) (targets b i).link) (sym bus-is) z
        ]

  message-takes : (s : ℕ) → Holds g.version g.units (Running (At080 s)) c w → (q : Spot) → IsNext (At080 s) q → Holds g.version g.units q d new → Takes new
  message-takes s h q is n e a t alive here = elim is [
    | inl x ↦ (
        let y : Holds g.version g.units (Running (At088 s)) d new = subst (λ (z : Spot). Holds g.version g.units z d new) x n in
        let same : new.regs.dsa ≡ (ticket w.desk s).block = y.stays.4.dsa ∙ ap (λ (k : DeskState). (ticket k s).block) desk-is in
        let old-here : w.regs.dsa ≡ (ticket w.desk t).block = h.stays.4.dsa ∙ sym same ∙ here ∙ ap (λ (k : DeskState). (ticket k t).block) desk-is in
        let old-alive : lives (ticket w.desk t) ≡ true = ap (λ (k : DeskState). lives (ticket k t)) (sym desk-is) ∙ alive in
        let greeted = selections-are-greeted g setting bytes ms r running_is (ap is_behind_selection h.stays.3) in
        subst (λ (k : DeskState). (i : ℕ) → new.bus.connected ≡ Some i → TakesFor (nexus_by (unit k (ticket k t).unit) (ticket k t)) (targets new.bus i).link) (sym desk-is)
        (sent-takes s h t old-alive old-here (λ i k. greeted-heard (λ z. z ≡ []) refl (targets w.bus i).link (greeted i k)) e)
        )
    | inr y ↦ elim y [
      | inl x ↦ (let z = subst (λ (z : Spot). Holds g.version g.units z d new) x n in let f : stop.Run ≡ stop.Mismatch = sym e ∙ z.stays.0 in absurd cc)
      | inr x ↦ (let z = subst (λ (z : Spot). Holds g.version g.units z d new) x n in let f : stop.Run ≡ stop.MustReset = sym e ∙ z.stays.0 in absurd cc)
    ]
  ]

  keeps : (p : Point) → Holds g.version g.units (Running p) c w → (q : Spot) → IsNext p q → Holds g.version g.units q d new → Takes new
  keeps (At080 t) h q is n = message-takes t h q is n
  keeps p h q is n = calm-takes p refl q is n

-- ---- the steps of the driver
-- the chip runs at the command after it only where it did so before, and then DSA and the connected target stay
pub record Keeps (old new : World) : Type 0 where
  pub stop_is : new.stop ≡ stop.Run → new.regs.dsp ≡ 0x088 → old.stop ≡ stop.Run
  pub dsp_is : new.stop ≡ stop.Run → new.regs.dsp ≡ 0x088 → old.regs.dsp ≡ 0x088
  pub dsa_is : new.stop ≡ stop.Run → new.regs.dsp ≡ 0x088 → new.regs.dsa ≡ old.regs.dsa
  pub connected_is : new.stop ≡ stop.Run → new.regs.dsp ≡ 0x088 → new.bus.connected ≡ old.bus.connected
  pub targets_are : new.stop ≡ stop.Run → new.regs.dsp ≡ 0x088 → targets new.bus ≡ targets old.bus

module _ (w : World) where
  of-made : (made new : World) → new ≡ made → Keeps w made → Keeps w new
  of-made made new e h = subst (Keeps w) (sym e) h

  same : (new : World) → new.bus ≡ w.bus → new.stop ≡ w.stop → new.regs.dsp ≡ w.regs.dsp → new.regs.dsa ≡ w.regs.dsa → Keeps w new
  same new b s p a = record {
    stop_is = λ e z. sym s ∙ e;
    dsp_is = λ e z. sym p ∙ z;
    dsa_is = λ e z. a;
    connected_is = λ e z. ap (λ (x : BusState). x.connected) b;
    targets_are = λ e z. ap targets b;
  }

  -- with room made in logs
  roomy : (new : World) (i : ℕ) → new.bus ≡ with_room_at w.bus i → new.stop ≡ w.stop → new.regs.dsp ≡ w.regs.dsp → new.regs.dsa ≡ w.regs.dsa → Keeps w new
  roomy new i b s p a = record {
    stop_is = λ e z. sym s ∙ e;
    dsp_is = λ e z. sym p ∙ z;
    dsa_is = λ e z. a;
    connected_is = λ e z. ap (λ (x : BusState). x.connected) b;
    targets_are = λ e z. ap targets b ∙ room-is-made.same w.bus i;
  }

  -- the chip isn't at the command
  away-from : (new : World) → (new.stop ≡ stop.Run → new.regs.dsp ≡ 0x088 → ⊥) → Keeps w new
  away-from new n = record {
    stop_is = λ e z. absurd (n e z);
    dsp_is = λ e z. absurd (n e z);
    dsa_is = λ e z. absurd (n e z);
    connected_is = λ e z. absurd (n e z);
    targets_are = λ e z. absurd (n e z);
  }

  stopped : (new : World) → (new.stop ≡ stop.Run → ⊥) → Keeps w new
  stopped new n = away-from new (λ e z. n e)

  takes-keeps : (o : Option ℕ) (new : World) (answer : Reply) → TakesOf o w answer new → Keeps w new
  takes-keeps None new answer d = absurd d
  takes-keeps (Some t) new answer d = of-made _ new d.1 (same _ refl refl refl refl)

  fixes-keeps : (new : World) → Fixes w new → Keeps w new
  fixes-keeps new (inl r) = of-made _ new r.world (stopped _ (λ z. absurd cc))
  fixes-keeps new (inr r) = of-made _ new r.1 (stopped _ (λ z. absurd cc))

  marks-keeps : (late : Bool) (t : ℕ) → Keeps w (marks late w t).world
  marks-keeps true t = same _ refl refl refl refl
  marks-keeps false t = same _ refl refl refl refl

  aborts-keeps : (x : Decided) → Keeps w (aborts w x).world
  aborts-keeps line.Open = same _ refl refl refl refl
  aborts-keeps (line.Accepted t) = marks-keeps (is_late (ticket w.desk t).stage) t
  aborts-keeps (line.Refused r) = same _ refl refl refl refl

  device-keeps : (idle : Bool) (target : ℕ) → Keeps w (device_resets idle w target).world
  device-keeps true target = roomy (device_resets true w target).world target refl refl refl refl
  device-keeps false target = same _ refl refl refl refl

  bus-keeps : (x : Stop) → Keeps w (bus_resets x w).world
  bus-keeps stop.Run = stopped _ (λ z. absurd cc)
  bus-keeps stop.Mismatch = same _ refl refl refl refl
  bus-keeps stop.Clear = same _ refl refl refl refl
  bus-keeps stop.MustReset = stopped _ (λ z. absurd cc)

  acts-keeps : (x : ActKind) → Keeps w (acts_by w x).world
  acts-keeps (Abort l) = aborts-keeps (decided w l)
  acts-keeps (Device target) = device-keeps (front w == FRONT_IDLE) target
  acts-keeps Bus = bus-keeps w.stop

  acted-keeps : (o : Option Act) (new : World) (answer : Reply) → ActsOf o w answer new → Keeps w new
  acted-keeps None new answer d = absurd d
  acted-keeps (Some a) new answer d = of-made _ new d.1 (acts-keeps a.kind)

  refuses-keeps : (again : Bool) (l : Line) (r : Refused) → Keeps w (refuses again w l r)
  refuses-keeps true l r = same _ refl refl refl refl
  refuses-keeps false l r = same _ refl refl refl refl

  builds-by : (new : World) (l : Line) (c : Command) (answer : Reply) → BuildsBy w l c answer new → Keeps w new
  builds-by new l c (reply.Built t) d = of-made _ new d.world (roomy _ (unit w.desk c.request.unit).target refl refl refl refl)
  builds-by new l c (reply.Refused r) d = of-made _ new d.1 (refuses-keeps (is_tried_again c.when_full r) l r)
  builds-by new l c _ d = absurd d

  builds-of : (o : Option Command) (new : World) (l : Line) (answer : Reply) → BuildsOf o w l answer new → Keeps w new
  builds-of None new l answer d = absurd d
  builds-of (Some c) new l answer d = builds-by new l c answer d

-- a restart doesn't lead there
restart-away : (version : ℕ) (units : List RigUnit) (s : Spot) (c : Counts) (w : World) → w.stop ≡ stop.Clear → Holds version units s c w → (about (restart_point s)).place ≡ 0x088 → ⊥
restart-away version units (Running p) c w e h z = (let y : stop.Clear ≡ stop.Run = sym e ∙ h.stays.0 in absurd cc)
restart-away version units (Mismatched t x left) c w e h z = absurd (omega (arith, z))
restart-away version units NotData c w e h z = absurd (omega (arith, z))
restart-away version units (Fixed t) c w e h z = absurd (omega (arith, z))
restart-away version units (TimedOut t) c w e h z = absurd (omega (arith, z))
restart-away version units JobOver c w e h z = absurd (omega (arith, z))
restart-away version units (ResetAt p) c w e h z = elim h.stays.3 [
  | inl x ↦ (let y : in_tail 0x088 ≡ true = ap in_tail (sym z) ∙ x in absurd (false≢true y))
  | inr x ↦ (let y : 0 ≡ 0x088 = sym (ap (λ (i : Point). (about i).place) x) ∙ z in absurd (omega (arith, y)))
]
restart-away version units Broken c w e h z = absurd (omega (arith, z))

module _ (g : BenchSetting) (setting : IsBenchSetting g) (bytes : HasBytes g) (ms : List Moment) (m : Moment) (r : IsRun g (opened g) ms) (s : Steps g (last (opened g) ms) m) where
  abbrev before : World
  before = last (opened g) ms

  is-kept : (x : Step) → is_chip x ≡ false → Enabled g before m.entry.caller x → Does g before m.entry.caller x m.reply m.after → Keeps before m.after
  is-kept (step.Build l) n may d = builds-of before (command_at g l) m.after l m.reply d
  is-kept (step.Chip word) n may d = absurd (false≢true (sym n))
  is-kept (step.Link t) n may d = of-made before _ m.after d.1 (same before _ refl refl refl refl)
  is-kept (step.Queue t) n may d = of-made before _ m.after d.1 (same before _ refl refl refl refl)
  is-kept step.Signal n may d = of-made before _ m.after d.1 (same before _ refl refl refl refl)
  is-kept step.Fix n may d = fixes-keeps before m.after d.1
  is-kept (step.Sweep t) n may d = of-made before _ m.after d.1 (same before _ refl refl refl refl)
  is-kept step.Restart n may d =
      let own = words_are_owned g setting bytes ms r in
      let k = restart_holds g.version g.units own.spot own.counts before may.1 own.holds in
      of-made before _ m.after d.1 (away-from before _ (λ e z. restart-away g.version g.units own.spot own.counts before may.1 own.holds (sym k.stays.3 ∙ z)))
  is-kept step.TakeDone n may d = takes-keeps before (done_ticket before.memory before.desk) m.after m.reply d
  is-kept (step.Unlink t) n may d = of-made before _ m.after d.1 (same before _ refl refl refl refl)
  is-kept (step.Free t) n may d = of-made before _ m.after d.world (same before _ refl refl refl refl)
  is-kept (step.Act a) n may d = acted-keeps before (slice_get g.acts a) m.after m.reply d
  is-kept step.ResetBus n may d = of-made before _ m.after d.1 (stopped before _ (λ z. absurd cc))
  is-kept (step.Sense t) n may d = of-made before _ m.after d.1 (same before _ refl refl refl refl)

  -- ---- each live ticket lived before, or is new, and then it isn't at work
  module _ (k : Keeps before m.after) (h : Serves before) (run : m.after.stop ≡ stop.Run) (at : m.after.regs.dsp ≡ 0x088) (t : ℕ) (alive : lives (ticket m.after.desk t) ≡ true) (here : m.after.regs.dsa ≡ (ticket m.after.desk t).block) where
    abbrev Served : Type 0
    Served = (i : ℕ) → m.after.bus.connected ≡ Some i → TakesFor (nexus_for m.after t) (targets m.after.bus i).link

    lived-served : t < length before.desk.tickets → lives (ticket before.desk t) ≡ true → Served
    lived-served l e i c =
        let kept = keeps_tickets g before m t s l in
        let units = (rig-stays g before m.entry.caller m.entry.step m.reply m.after s.does).units in
        let unit-same : unit m.after.desk (ticket m.after.desk t).unit ≡ unit before.desk (ticket before.desk t).unit =
        ap (λ (us : List RigUnit). slice_index_or us (ticket m.after.desk t).unit no_unit) units ∙ ap (λ (j : ℕ). slice_index_or before.desk.units j no_unit) kept.unit in
        let nexus : nexus_for m.after t ≡ nexus_for before t = ap (λ (u : RigUnit). nexus_by u (ticket m.after.desk t)) unit-same ∙ ap (λ (j : ℕ). record { lun = (unit before.desk (ticket before.desk t).unit).lun; tag = j }) kept.tag in
        let old = h.takes (k.stop_is run at) (k.dsp_is run at) t e (sym (k.dsa_is run at) ∙ here ∙ kept.block) i (sym (k.connected_is run at) ∙ c) in
        subst (λ (n : Nexus). TakesFor n (targets m.after.bus i).link) (sym nexus) (subst (λ (f : ℕ → Target). TakesFor (nexus_for before t) (f i).link) (sym (k.targets_are run at)) old)

    -- the ticket at the command is with the chip
    busy : (ticket m.after.desk t).stage ≡ stage.Built → ⊥
    busy built =
        let own = subst (IsOwned g.version g.units) (ends_after (opened g) ms m) (words_are_owned g setting bytes (ms ++ m ∷ []) (goes_on g (opened g) ms m r s)) in
        let x = running g.version g.units own.spot own.counts m.after run own.holds in
        at-point x.0 own.counts x.1 (command-at x.0 (sym x.1.stays.3 ∙ at))
      where
        not-active : (j : ℕ) → IsActive (ticket m.after.desk j).stage → j ≡ t → ⊥
        not-active j (inl a) q = (let z : stage.Queued ≡ stage.Built = sym a ∙ ap (λ (i : ℕ). (ticket m.after.desk i).stage) q ∙ built in absurd cc)
        not-active j (inr a) q = (let z : stage.Sensing ≡ stage.Built = sym a ∙ ap (λ (i : ℕ). (ticket m.after.desk i).stage) q ∙ built in absurd cc)

        live-stage : (j : ℕ) → IsActive (ticket m.after.desk j).stage → IsLive (ticket m.after.desk j).stage
        live-stage j (inl a) f = (let z : stage.Queued ≡ stage.Freed = sym a ∙ f in absurd cc)
        live-stage j (inr a) f = (let z : stage.Sensing ≡ stage.Freed = sym a ∙ f in absurd cc)

        one-ticket : (j : ℕ) (c : Counts) → Holds g.version g.units (Running (At088 j)) c m.after → (b : Bool) → nat_eq j t ≡ b → ⊥
        one-ticket j c y true q = not-active j y.works.plays.begun.stage (grind (arith, nat_tests))
        one-ticket j c y false q = y.tickets.blocks j t (live-stage j y.works.plays.begun.stage) (stage-lives m.after.desk t alive) (λ z. false≢true (sym q ∙ ap (λ (i : ℕ). nat_eq i t) z ∙ same-test t)) (sym y.stays.4.dsa ∙ here)
          where
            same-test : (i : ℕ) → nat_eq i i ≡ true
            same-test i = grind (arith, nat_tests)

        at-point : (x : Point) (c : Counts) → Holds g.version g.units (Running x) c m.after → is_command x ≡ true → ⊥
        at-point (At088 j) c y e = one-ticket j c y (nat_eq j t) refl
        at-point x c y e = false≢true e

    built-stage : (l : Line) → t ≡ length before.desk.tickets → IsAccepted g before m.after l t → (ticket m.after.desk t).stage ≡ stage.Built
    built-stage l q x =
        let d = x.accepts.builds in
        let k = new_ticket before.desk l (plain x.command.request) d.chunks in
        let z : length before.desk.tickets + 0 ≡ t = omega (arith, q) in
        ap (λ (y : DeskState). (ticket y t).stage) d.desk ∙ ap (λ (i : ℕ). (slice_index_or (before.desk.tickets ++ k ∷ []) i no_ticket).stage) (sym z) ∙ ap (λ (y : Ticket). y.stage) (get_or-append-add before.desk.tickets (k ∷ []) 0 no_ticket)

    served : Served
    served = elim (lived-or-built g before m s t alive) [
      | inl x ↦ lived-served x.0 x.1
      | inr x ↦ absurd (busy (built-stage x.0 x.2 x.3))
    ]

  driver-serves : is_chip m.entry.step ≡ false → Serves before → Serves m.after
  driver-serves n h = let k = is-kept m.entry.step n s.enabled s.does in record { takes = λ run at t alive here. served k h run at t alive here }

  chip-serves : (word : ℕ) → m.entry.step ≡ step.Chip word → Serves m.after
  chip-serves word e =
      let may = subst (λ (x : Step). Enabled g before m.entry.caller x) e s.enabled in
      let d = subst (λ (x : Step). Does g before m.entry.caller x m.reply m.after) e s.does in
      let own = words_are_owned g setting bytes ms r in
      let at = running g.version g.units own.spot own.counts before may.1 own.holds in
      let x = chip_steps_hold g.version g.units at.0 own.counts before m.after word m.reply own.answering d at.1 in
      record { takes = keeps g setting bytes ms r own.counts x.counts m.after word m.reply d may.1 at.0 at.1 x.spot x.is x.holds }

  serves-after : Serves before → Serves m.after
  serves-after h = by m.entry.step refl
    where
      by : (x : Step) → m.entry.step ≡ x → Serves m.after
      by (step.Chip word) e = chip-serves word e
      by x e = driver-serves (ap is_chip e) h

serves : (g : BenchSetting) → IsBenchSetting g → HasBytes g → (ms : List Moment) → IsRun g (opened g) ms → Serves (last (opened g) ms)
serves g setting bytes = by-steps g (λ (ms : List Moment). Serves (last (opened g) ms)) (record { takes = λ e z. absurd (omega (arith, z)) })
    (λ ms m r s h. subst Serves (sym (ends_after (opened g) ms m)) (serves-after g setting bytes ms m r s h))

pub commands-find-nexus : CommandsFindNexus
commands-find-nexus g setting bytes ms r = (serves g setting bytes ms r).takes
