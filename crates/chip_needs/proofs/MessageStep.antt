-- The step of the chip that sends the message behind a selection.
use Rattle.std.proofs.Common.{arith, ◌≡◌, inl, inr, ℕ, pos, ◌+◌, ◌%◌, ◌≤◌, ◌==◌, nat_eq, nat_le, Bool, true, false, List, [], ◌∷◌, ◌++◌, length, length-append, slice_index, Option, Some, None, refl, sym, ap, subst, ◌∙◌, if◌then◌else◌}
use Rattle.std.specs.Prelude.{◌-◌, ◌&&◌}
use Rattle.std.proofs.lemmas.Bool.{false≢true}
use Rattle.std.proofs.lemmas.List.{take_all}
use Rattle.std.proofs.lemmas.Option.{same_Some}
use Rattle.scsi_words.specs.declared.phases.kinds.Phase.{Phase as BusPhase}
use Rattle.rig_types.specs.declared.rig.Unit.{Unit as RigUnit}
use Rattle.bench_words.specs.Memory.{word_at}
use Rattle.rig_types.specs.declared.step.Step.TheVariants as step
use Rattle.scripts_ops.specs.declared.values.Op.TheVariants as op
use Rattle.driver_script.specs.Script.{instruction}
use Rattle.chip_regs.specs.Registers.{is_stopped}
use Rattle.chip_rows.specs.Following.{over}
use Rattle.chip_step.specs.Addresses.{place_of}
use Rattle.chip_step.specs.Chip.{Chip}
use Rattle.chip_step.specs.Event as event
use Rattle.chip_step.specs.Instructions.{Does as Row}
use Rattle.chip_step.specs.Step as chip_step
use Rattle.chip_step.specs.Step.{ChipStep, IsAt, can_fetch, after_fetch}
use Rattle.chip_step.specs.Event.{Event}
use Rattle.target_law.specs.declared.nexus.Nexus.{Nexus}
use Rattle.scsi_words.specs.declared.messages.kinds.Message.TheVariants as message
use Rattle.scsi_words.specs.Messages.{message_code}
use Rattle.target_law.specs.Calls.{Names, Other, message_of, is_identify}
use Rattle.target_law.specs.Target as connection_state
use Rattle.target_law.specs.Target.{ConnectionState, BusFree, RogueConnected, Target, linked}
use Rattle.bus_law.specs.Bus.{BusState}
use Rattle.bus_law.specs.Moves.{moves}
use Rattle.bus_events.specs.Needs.{NeedsChoice, NeedsByte, NeedsMessage, NeedsGreeting, NeedsAck}
use Rattle.bus_events.specs.Targets.{targets}
use Rattle.bus_events.specs.Tickets.{is_reset, link_resets}
use Rattle.ticket_fate.specs.Tickets.{Plan, Ticket}
use Rattle.world_law.specs.ChipSteps.{chip_of, RunsChip}
use Rattle.world_law.specs.Opening.{opened}
use Rattle.world_law.specs.Runs.{Moment, Steps, IsRun, last}
use Rattle.world_law.specs.World.{BenchSetting, IsBenchSetting, World, live}
use Rattle.word_owners.specs.Worlds.{HasBytes}
use Rattle.word_owners.proofs.RunningChip.{running}
use Rattle.ownership.proofs.Steps.{stands_at}
use Rattle.desk_law.specs.declared.stage.Stage.{Stage}
use Rattle.desk_law.specs.declared.stage.Stage.TheVariants as stage
use Rattle.desk_law.specs.Desk.{ticket}
use Rattle.phase_fix.specs.declared.moves.Entry.TheVariants.{Context}
use Rattle.word_owners.specs.Holds.{Holds, Running}
use Rattle.word_owners.specs.Parts.{Counts}
use Rattle.word_owners.specs.Points.{Point, about, At080, BehindContext, LeavesContext, Moves, InTargets, InLuns, AtUnit, BehindUnit}
use Rattle.word_owners.specs.Tickets.{IsLive, IsActive}
use Rattle.word_owners.proofs.ChipSteps.{row}
use Rattle.word_owners.proofs.ChipSteps.{stands as chip_stands}
use Rattle.word_owners.proofs.NextPlaces.{move-high, context-high}
use Rattle.word_owners.proofs.Worlds.{words_are_owned}
use Rattle.run_joined.specs.ChipCalls.{TicketBus, caused_by}
use Rattle.run_joined.specs.JoinedRuns.{RunJoins, IsJoinedRun}
use Rattle.chip_needs.specs.Ordinary.{ArePointed}
use Rattle.chip_needs.specs.Sending.{NoneOfRules}
use Rattle.chip_needs.specs.Greeting.{is_behind_selection}
use Rattle.chip_needs.specs.MessageSteps.{MessageStepsJoin}
use Rattle.chip_needs.proofs.Ordinary.{pointers-stand, run, runs, goes-on}
use Rattle.chip_needs.proofs.Ordinary.{Found as OfRun}
use Rattle.chip_needs.proofs.AfterSelection.{selections-are-greeted}
use Rattle.chip_needs.proofs.Sending.{IsOfMove, call-so, needs-found, resets-none}
use Rattle.chip_needs.proofs.SentCalls.{Finds, Sends, entry-sends}
use Rattle.chip_needs.proofs.HeardBytes.{HaveHeard, greeted-heard, Stands, selects, breaks, stands, of-rules, link-is, ack-heard, turn-heard, takes-heard}
use Rattle.target_law.specs.Bytes.{hears}

-- ---- so many bytes
abbrev counts : ℕ → List ℕ → Type 0
counts k heard = k ≤ 4 → length heard ≡ k

one-more : (k : ℕ) (heard : List ℕ) (byte : ℕ) → counts k heard → counts (k + 1) (hears heard byte)
one-more k heard byte h z =
    let n : length heard ≡ k = h (omega (arith, z)) in
    let a : length (heard ++ byte ∷ []) ≡ length heard + 1 = length-append heard (byte ∷ []) in
    ap (λ (x : List ℕ). length x) (take_all 4 (heard ++ byte ∷ []) (omega (arith, a, n, z))) ∙ a ∙ ap (λ (x : ℕ). x + 1) n

-- ---- the message
whole-message : (p : Plan) (i : ℕ) (ks : ℕ → Ticket) (heard : List ℕ) → length heard ≡ 3 → NeedsGreeting p i ks (message_of heard) × (is_reset (message_of heard) ≡ false)
whole-message p i ks [] e = absurd (omega (arith, e))
whole-message p i ks (a ∷ []) e = absurd (omega (arith, e))
whole-message p i ks (a ∷ b ∷ []) e = absurd (omega (arith, e))
whole-message p i ks (a ∷ b ∷ c ∷ []) e = by (is_identify a && b == message_code message.SimpleTag)
  where
    by : (x : Bool) → NeedsGreeting p i ks (if x then Names (record { lun = a - message_code (message.Identify true 0); tag = c }) else Other) × (is_reset (if x then Names (record { lun = a - message_code (message.Identify true 0); tag = c }) else Other) ≡ false)
    by true = (tt, refl)
    by false = (tt, refl)
whole-message p i ks (a ∷ b ∷ c ∷ d ∷ x) e = absurd (omega (arith, e))

-- ---- each call of the move
module _ (p : Plan) (units : List RigUnit) (live_at : ℕ → Nexus → Option ℕ) where
  -- ---- what it asks, and the target after it
  module _ (caused : ℕ → Bool) (word : ℕ) (sent : ℕ → ℕ) where
    abbrev Found : TicketBus → Event → Type 0
    Found u e = Finds p units live_at caused word u e

    -- of a target that was selected, for this one
    one : (b : BusState) (id : ℕ) (P : ℕ → Type 0) → b.connected ≡ Some id → P id → (i : ℕ) → b.connected ≡ Some i → P i
    one b id P e x i c = subst P (same_Some id i (sym e ∙ c)) x

    rogue-finds : (u : TicketBus) (e : Event) → IsOfMove p units live_at e → NoneOfRules u.bus → Found u e
    rogue-finds u e f h = record { needs = needs-found p units live_at e u.bus u.tickets f h; resets = resets-none p units live_at e u.bus f h }

    choice-found : (atn : Bool) (heard : List ℕ) → NeedsChoice atn (connection_state.Selected heard)
    choice-found true heard = tt
    choice-found false heard = tt

    pub acks-so : (P : List ℕ → Type 0) (u : TicketBus) (y : BusState) → Stands units live_at P u.bus → moves units live_at u.bus event.ClearAck y → Found u event.ClearAck × HaveHeard P y
    acks-so P u y (breaks n) m = (rogue-finds u event.ClearAck tt n, of-rules units live_at P y (call-so p units live_at event.ClearAck u.bus y tt m n))
    acks-so P u y (selects id heard e q h) m = (
      record { needs = one u.bus id (λ (i : ℕ). NeedsAck p i u.tickets (targets u.bus i).link) e (subst (NeedsAck p id u.tickets) (sym q) tt); resets = refl },
      subst (HaveHeard P) (sym m) (ack-heard units live_at P u.bus.ack u.bus id heard e q h),
    )

    pub asks-so : (P : List ℕ → Type 0) (shown : Option BusPhase) (u : TicketBus) (y : BusState) → Stands units live_at P u.bus → moves units live_at u.bus (event.Phase word shown) y → Found u (event.Phase word shown) × HaveHeard P y
    asks-so P shown u y (breaks n) m = (rogue-finds u (event.Phase word shown) tt n, of-rules units live_at P y (call-so p units live_at (event.Phase word shown) u.bus y tt m n))
    asks-so P shown u y (selects id heard e q h) m = (
      record { needs = one u.bus id (λ (i : ℕ). NeedsChoice u.bus.atn (targets u.bus i).link) e (subst (NeedsChoice u.bus.atn) (sym q) (choice-found u.bus.atn heard)); resets = refl },
      subst (HaveHeard P) (sym m.1) (turn-heard units live_at P word u.bus id heard e q h),
    )

    pub sends-so : (P Q : List ℕ → Type 0) (byte : ℕ) (taken : Bool) (u : TicketBus) (y : BusState) → ((heard : List ℕ) → P heard → Q (hears heard byte)) → Stands units live_at P u.bus → moves units live_at u.bus (event.ByteOut byte taken) y
        → Found u (event.ByteOut byte taken) × HaveHeard Q y
    sends-so P Q byte taken u y f (breaks n) m = (rogue-finds u (event.ByteOut byte taken) tt n, of-rules units live_at Q y (call-so p units live_at (event.ByteOut byte taken) u.bus y tt m n))
    sends-so P Q byte taken u y f (selects id heard e q h) m = (
      record { needs = one u.bus id (λ (i : ℕ). NeedsByte p i u.tickets (targets u.bus i).link (live_at i) byte) e (subst (λ (l : ConnectionState). NeedsByte p id u.tickets l (live_at id) byte) (sym q) tt); resets = refl },
      subst (HaveHeard Q) (sym m.1) (takes-heard units live_at Q byte taken u.bus id heard e q (f heard h) m.0),
    )

    ends-so : (u : TicketBus) → Stands units live_at (counts 3) u.bus → Found u (event.SetAtn false)
    ends-so u (breaks n) = rogue-finds u (event.SetAtn false) tt n
    ends-so u (selects id heard e q h) =
        let w = whole-message p id u.tickets heard (h (omega arith)) in
        record {
          needs = one u.bus id (λ (i : ℕ). NeedsMessage p i u.tickets (targets u.bus i).link) e (subst (NeedsMessage p id u.tickets) (sym q) w.0);
          resets = ap link_resets (link-is units live_at u.bus id (connection_state.Selected heard) e q) ∙ w.1;
        }

    -- a message of three bytes
    pub message-sends : Sends p units live_at caused word (λ k u. HaveHeard (counts k) u.bus) 6 sent 3
    message-sends = record {
      acks = λ u y i m. acks-so (counts 0) u y (stands units live_at (counts 0) u.bus i) m;
      asks = λ s u y i m. asks-so (counts 0) s u y (stands units live_at (counts 0) u.bus i) m;
      sends = λ k byte taken u y b i m. sends-so (counts k) (counts (k + 1)) byte taken u y (λ heard h. one-more k heard byte h) (stands units live_at (counts k) u.bus i) m;
      ends = λ q u y i m. ends-so u (stands units live_at (counts 3) u.bus i);
    }

-- ---- the place of an entry of the table
pub entry-at : (m : List ℕ) (base o e : ℕ) → place_of m base (pos o) 8 ≡ Some e → base + o ≡ e
unfolding place_of
entry-at m base o e q = by (nat_le (base + o + 8) (length m)) q
  where
    by : (b : Bool) → (if b then Some (base + o) else None) ≡ Some e → base + o ≡ e
    by true z = same_Some (base + o) e z
    by false z = absurd cc

-- ---- the step
active-lives : (s : Stage) → IsActive s → IsLive s
active-lives s (inl a) f = (let z : stage.Queued ≡ stage.Freed = sym a ∙ f in absurd cc)
active-lives s (inr a) f = (let z : stage.Sensing ≡ stage.Freed = sym a ∙ f in absurd cc)

message-count : (version : ℕ) (units : List RigUnit) (c : Counts) (w : World) (t : ℕ) → Holds version units (Running (At080 t)) c w → (e : ℕ) → place_of w.memory (after_fetch (chip_of w)).regs.dsa (pos 0x20) 8 ≡ Some e → word_at w.memory e % 16777216 ≡ 3
unfolding place_of
message-count version units c w t h e q = by (nat_le (w.regs.dsa + 0x20 + 8) (length w.memory)) q
  where
    by : (b : Bool) → (if b then Some (w.regs.dsa + 0x20) else None) ≡ Some e → word_at w.memory e % 16777216 ≡ 3
    by true z =
        let d : w.regs.dsa ≡ (ticket w.desk t).block = h.stays.4.dsa in
        let x : w.regs.dsa + 0x20 ≡ e = same_Some (w.regs.dsa + 0x20) e z in
        let n : word_at w.memory ((ticket w.desk t).block + 0x20) ≡ 3 = (h.parts.blocks t (active-lives (ticket w.desk t).stage h.works.plays.begun.stage)).message.0 in
        ap (λ (i : ℕ). word_at w.memory i % 16777216) (sym x ∙ ap (λ (i : ℕ). i + 0x20) d) ∙ ap (λ (i : ℕ). i % 16777216) n
    by false z = absurd cc

module _ (g : BenchSetting) (setting : IsBenchSetting g) (bytes : HasBytes g) (p : Plan) (ms : List Moment) (m : Moment) (word : ℕ) (r : IsRun g (opened g) ms) (s : Steps g (last (opened g) ms) m) (e : m.entry.step ≡ step.Chip word) (ks : ℕ → Ticket) (j : RunJoins g p ms ks) (a : ArePointed ks (last (opened g) ms).bus) where
  abbrev old : World
  old = last (opened g) ms

  abbrev here : Type 0
  here = OfRun g setting bytes p ms m word r s e ks j a

  abbrev ran : RunsChip old word m.reply m.after
  ran = run g setting bytes p ms m word r s e ks j a

  abbrev before : TicketBus
  before = record { bus = old.bus; tickets = ks; spare = j.spare }

  module _ (t : ℕ) (c : Counts) (h : Holds g.version g.units (Running (At080 t)) c old) where
    by-move : IsAt (chip_of old) (op.MoveFrom (pos 0x20) 6) → Row (moves old.desk.units (live old.desk)) word (op.MoveFrom (pos 0x20) 6) (chip_of old) (after_fetch (chip_of old)) ran.end ran.chip → HaveHeard (counts 0) old.bus → is_stopped old.regs ≡ false → can_fetch old.memory old.regs ≡ true → here
    by-move at d first f can =
        let sent : ℕ → ℕ = λ i. slice_index old.memory (word_at old.memory (old.regs.dsa + 0x20 + 4) + i) in
        let v = entry-sends p old.desk.units (live old.desk) (caused_by g old m) word (λ k u. HaveHeard (counts k) u.bus) 6 sent 3 (message-sends p old.desk.units (live old.desk) (caused_by g old m) word sent)
        (place_of old.memory (after_fetch (chip_of old)).regs.dsa (pos 0x20) 8) (after_fetch (chip_of old)) ran.end ran.chip before
        (λ x z i. ap (λ (b : ℕ). slice_index old.memory (word_at old.memory (b + 4) + i)) (sym (entry-at old.memory old.regs.dsa 0x20 x z))) refl first refl (message-count g.version g.units c old t h) d in
        record { over_bus = v.0; steps = chip_step.does f can (op.MoveFrom (pos 0x20) 6) at v.1; same_bus = v.2 }

    found-message : HaveHeard (counts 0) old.bus → ChipStep (moves old.desk.units (live old.desk)) word (chip_of old) ran.end ran.chip → here
    unfolding instruction
    found-message first (chip_step.does f q x at d) =
        by-move (stands_at g.version 16 (chip_of old) (chip_stands g.version g.units (At080 t) c old h 16 (omega arith) refl)) (row g.version g.units (At080 t) c old h m.after word m.reply ran 16 (op.MoveFrom (pos 0x20) 6) (omega arith) refl refl) first f q
    found-message first (chip_step.idle f q n) = record { over_bus = before; steps = chip_step.idle f q (ap (λ (x : Chip BusState). over before x) n); same_bus = sym (ap (λ (x : Chip BusState). x.bus) n) }
    found-message first (chip_step.unfetched f q h) = record { over_bus = before; steps = chip_step.unfetched f q (record { ends = record { is = h.ends.is; memory_is = h.ends.memory_is; regs_are = h.ends.regs_are }; bus_is = refl }); same_bus = sym h.bus_is }
    found-message first (chip_step.unspelled f q n h) = record { over_bus = before; steps = chip_step.unspelled f q n (record { ends = record { is = h.ends.is; memory_is = h.ends.memory_is; regs_are = h.ends.regs_are }; bus_is = refl }); same_bus = sym h.bus_is }

  -- the address tells the point
  at-message : (x : Point) (c : Counts) → Holds g.version g.units (Running x) c old → (about x).place ≡ 0x080 → HaveHeard (counts 0) old.bus → here
  at-message (At080 t) c h q first = found-message t c h first ran.ran
  at-message (Moves t x) c h q first = (let high = move-high x.phase x.entry in absurd (omega (arith, q, high)))
  at-message (BehindContext t phase k) c h q first = (let high = move-high phase (Context k) in absurd (omega (arith, q, high)))
  at-message (LeavesContext t phase i k) c h q first = (let high = context-high phase k in absurd (omega (arith, q, high)))
  at-message (InTargets i k) c h q first = absurd (omega (arith, q))
  at-message (InLuns i k) c h q first = absurd (omega (arith, q))
  at-message (AtUnit u i) c h q first = absurd (omega (arith, q))
  at-message (BehindUnit u i) c h q first = absurd (omega (arith, q))
  at-message x c h q first = absurd (false≢true (ap (λ (d : ℕ). nat_eq d 0x080) q))

  pub message-joins : old.regs.dsp ≡ 0x080 → IsJoinedRun g p (ms ++ m ∷ [])
  message-joins d =
      let own = words_are_owned g setting bytes ms r in
      let k = running g.version g.units own.spot own.counts old (runs g setting bytes p ms m word r s e ks j a) own.holds in
      let greeted = selections-are-greeted g setting bytes ms r (runs g setting bytes p ms m word r s e ks j a) (ap is_behind_selection d) in
      goes-on g setting bytes p ms m word r s e ks j a (at-message k.0 own.counts k.1 (sym k.1.stays.3 ∙ d) (λ i c. greeted-heard (counts 0) (λ z. refl) (targets old.bus i).link (greeted i c)))

pub message-steps-join : MessageStepsJoin
message-steps-join g setting bytes p ms m word r s e d (ks, j) =
    let z = pointers-stand g p ms ks j in
    message-joins g setting bytes p ms m word r s e z.0 z.1 z.2 d
