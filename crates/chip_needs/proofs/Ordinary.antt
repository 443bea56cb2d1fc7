-- A step of the chip at an address at which nothing goes to a target leaves a run joined.
use Rattle.std.proofs.Common.{arith, ◌≡◌, ◌≢◌, inl, inr, ℕ, zero, suc, ◌+◌, ◌*◌, ◌%◌, ◌<◌, ◌≤◌, ◌&&◌, ◌||◌, nat_eq, Bool, true, false, List, [], ◌∷◌, ◌++◌, length, slice_index_or, Option, Some, None, refl, sym, ap, subst, ◌∙◌, lit<, length-append}
use Rattle.std.specs.Prelude.{not}
use Rattle.std.proofs.lemmas.Option.{same_Some}
use Rattle.std.proofs.lemmas.Bool.{false≢true}
use Rattle.std.proofs.lemmas.Bool.Decides.{nat_tests}
use Rattle.bench_words.specs.Memory.{word_at}
use Rattle.rig_types.specs.declared.rig.Unit.{Unit as RigUnit}
use Rattle.rig_types.specs.declared.step.Step.{Step}
use Rattle.rig_types.specs.declared.step.Step.TheVariants as step
use Rattle.host_map.specs.declared.TheConstants.{CHAINS, MSGIN}
use Rattle.host_map.specs.Places.{target_chain, unit_chain}
use Rattle.scripts_ops.specs.declared.values.Op.{Op}
use Rattle.scripts_ops.specs.declared.values.Op.TheVariants as op
use Rattle.scripts_ops.specs.declared.values.Address.TheVariants.{At}
use Rattle.scripts_ops.specs.declared.values.Change.TheVariants.{And}
use Rattle.scripts_ops.specs.declared.values.Condition.{Condition}
use Rattle.scripts_ops.specs.declared.values.Condition.TheVariants as condition
use Rattle.scripts_ops.specs.declared.values.Condition.TheVariants.{Always, Byte}
use Rattle.driver_script.specs.Script.{instruction}
use Rattle.driver_script.specs.declared.script.TheConstants.{SCRIPT}
use Rattle.driver_script.proofs.ScriptTests.{all_below, both_versions}
use Rattle.rig_chains.specs.Chains.{jump_if, identify_ops, target_ops, lun_ops, lun_jumps, unit_ops}
use Rattle.unit_law.specs.Log.{with_at}
use Rattle.unit_law.proofs.Views.{with_at-same, same_or_not}
use Rattle.chip_step.specs.Chip.{Chip, state}
use Rattle.chip_step.specs.Event.{Event}
use Rattle.chip_step.specs.Instructions.{Does as Row}
use Rattle.chip_regs.specs.Registers.{is_stopped}
use Rattle.chip_rows.specs.Following.{over}
use Rattle.chip_step.specs.Step as chip_step
use Rattle.chip_step.specs.Step.{ChipStep, IsAt, can_fetch, third_at, after_fetch}
use Rattle.chip_step.proofs.Made.{one_spelling}
use Rattle.target_law.specs.declared.task_phase.Completion.{Completion}
use Rattle.target_law.specs.declared.task_phase.Completion.TheVariants.{Answered, Refused}
use Rattle.target_law.specs.declared.task_phase.TargetMessage.TheVariants.{Reselection, CommandComplete, SaveThenDisconnect, SaveDataPointer, RestorePointers, Disconnect}
use Rattle.target_law.specs.declared.task_phase.TaskPhase.{TaskPhase}
use Rattle.target_law.specs.declared.task_phase.TaskPhase.TheVariants.{ToChoose, MessageOut, DataIn, DataOut, Status, MessageIn}
use Rattle.target_law.specs.Bytes.{Connection}
use Rattle.target_law.specs.Devices.{room_at}
use Rattle.target_law.specs.Target.{ConnectionState, BusFree, TaskConnected, Target}
use Rattle.bus_law.specs.Bus.{BusState, device_at}
use Rattle.bus_law.specs.Moves.{moves}
use Rattle.ownership.proofs.Steps.{stands_at}
use Rattle.ticket_fate.specs.Histories as moved
use Rattle.ticket_fate.specs.Kept.{AllKept}
use Rattle.ticket_fate.specs.Laws.{Reached}
use Rattle.ticket_fate.specs.Linked.{WorkKept, LinkKept, ShownBySense}
use Rattle.ticket_fate.specs.Moves as move
use Rattle.ticket_fate.specs.Moves.{Moves as TicketMoves, target_of, pointed_ticket}
use Rattle.ticket_fate.specs.Tickets.{Plan, Connected, Ticket}
use Rattle.ticket_fate.proofs.Reached.{all-kept}
use Rattle.ticket_link.proofs.Tags.{apart-kept}
use Rattle.ticket_room.proofs.Moves.{logs-stay-within}
use Rattle.bus_events.specs.Needs.{NeedsVerdict, NeedsShown, NeedsAck}
use Rattle.bus_events.specs.Targets.{targets}
use Rattle.bus_events.proofs.BusResets.{nothing-noted}
use Rattle.bus_events.proofs.TicketCalls.{free-is}
use Rattle.world_law.specs.ChipSteps.{chip_of, RunsChip}
use Rattle.world_law.specs.Enabling.{Enabled}
use Rattle.world_law.specs.Opening.{opened}
use Rattle.world_law.specs.Runs.{Moment, Steps, IsRun, last}
use Rattle.world_law.specs.Steps.{Does}
use Rattle.world_law.specs.World.{BenchSetting, IsBenchSetting, World, live}
use Rattle.world_law.specs.declared.reply.Reply.{Reply}
use Rattle.world_law.specs.declared.reply.Stop.TheVariants as stop
use Rattle.word_owners.specs.Holds.{Holds, Running}
use Rattle.word_owners.specs.Parts.{Counts}
use Rattle.word_owners.specs.Points.{Point, about, AtUnit, BehindUnit, InLuns, InTargets}
use Rattle.word_owners.specs.Tickets.{tickets_of}
use Rattle.word_owners.specs.Worlds.{HasBytes}
use Rattle.word_owners.proofs.ChainOps.{jumps, stops, target-op, lun-op}
use Rattle.word_owners.proofs.ChainSteps.{IsAtChain, stands-here, in-targets, in-luns, jump-two}
use Rattle.word_owners.proofs.ChipSteps.{stands}
use Rattle.word_owners.proofs.Patches.{few}
use Rattle.word_owners.proofs.RunningChip.{running}
use Rattle.word_owners.proofs.Standing.{script, at-over, in-chain, is_chain, stands-at}
use Rattle.word_owners.proofs.Worlds.{words_are_owned}
use Rattle.run_joined.specs.ChipCalls.{TicketBus, Calls, none, ChipMoves, caused_by}
use Rattle.run_joined.specs.JoinedRuns.{RunJoins, IsJoinedRun}
use Rattle.run_joined.proofs.ChipCalls.{chip-steps-join}
use Rattle.run_joined.proofs.ChipSteps.{chip-leaves-desk}
use Rattle.run_joined.proofs.JoinedRuns.{joined-on}
use Rattle.chip_needs.specs.Attention.{asserts_atn}
use Rattle.chip_needs.specs.Ordinary.{goes_out, PointsBy, IsPointed, ArePointed, AcksFind, PointersStand, OrdinaryStepsJoin}
use Rattle.chip_needs.specs.ToldStatus.{ToldBy, IsTold}
use Rattle.chip_needs.proofs.AttentionSteps.{attention-is-told}
use Rattle.chip_needs.proofs.FreeCalls.{IsPlain, HasPhase, Asking, finds}
use Rattle.chip_needs.proofs.ToldStatus.{statuses-are-told}

-- ---- an acknowledgement
module _ (p : Plan) (i : ℕ) (ks : ℕ → Ticket) (c : Connection) where
  verdict-found : (senses sent : Bool) (v : Completion) → PointsBy senses (ks c.task.ticket) c → ToldBy senses (MessageIn (CommandComplete v) sent) (ks c.task.ticket).status → NeedsVerdict p i ks senses v c
  verdict-found true sent v a t = tt
  verdict-found false sent (Answered st) a t = (a.0, t)
  verdict-found false sent (Refused st) a t = t

  -- a sense task never disconnects
  left-found : (t : Target) (senses : Bool) (sent : Bool) → PointsBy senses (ks c.task.ticket) c → WorkKept senses p i ks t c → c.shows ≡ MessageIn Disconnect sent → (ks c.task.ticket).savep ≡ c.task.saved
  left-found t false sent a w e = a.1
  left-found t true sent a w e = absurd (subst ShownBySense e w.shows)

  shown-found : (t : Target) (sh : TaskPhase) → c.shows ≡ sh → PointsBy c.task.senses (ks c.task.ticket) c → ToldBy c.task.senses c.shows (ks c.task.ticket).status → WorkKept c.task.senses p i ks t c → NeedsShown p i ks sh c
  shown-found t (MessageIn (CommandComplete v) sent) e a s w = verdict-found c.task.senses sent v a (subst (λ (x : TaskPhase). ToldBy c.task.senses x (ks c.task.ticket).status) e s)
  shown-found t (MessageIn Disconnect sent) e a s w = left-found t c.task.senses sent a w e
  shown-found t (MessageIn (Reselection r) sent) e a s w = tt
  shown-found t (MessageIn SaveThenDisconnect sent) e a s w = tt
  shown-found t (MessageIn SaveDataPointer sent) e a s w = tt
  shown-found t (MessageIn RestorePointers sent) e a s w = tt
  shown-found t ToChoose e a s w = tt
  shown-found t MessageOut e a s w = tt
  shown-found t (DataIn n) e a s w = tt
  shown-found t (DataOut n) e a s w = tt
  shown-found t (Status v) e a s w = tt

pub acks-find : AcksFind
acks-find p units b ks j a i = by (targets b i).link refl
  where
    by : (l : ConnectionState) → (targets b i).link ≡ l → NeedsAck p i ks (targets b i).link
    by (TaskConnected c) e =
        let kept = (all-kept p (length units) ks (targets b) j.reached).each i in
        subst (NeedsAck p i ks) (sym e)
        (shown-found p i ks c (targets b i) c.shows refl (subst (IsPointed ks) e (a i)) (subst (IsTold ks) e (statuses-are-told p (length units) ks (targets b) j.reached i)) (subst (λ (l : ConnectionState). LinkKept l p i ks (targets b i)) e kept.link))
    by l e = subst (NeedsAck p i ks) (sym e) tt

-- ---- pointers that stand
module _ (g : BenchSetting) (p : Plan) (ms : List Moment) (ks : ℕ → Ticket) (j : RunJoins g p ms ks) where
  abbrev w : World
  w = last (opened g) ms

  reached : Reached p (length g.units) ks (targets w.bus)
  reached = j.joined.tickets.reached

  kept : AllKept p (length g.units) ks (targets w.bus)
  kept = all-kept p (length g.units) ks (targets w.bus) reached

  -- with the pointers of one connected ticket written
  pub written : (x lastp savep : ℕ) → (ks x).life ≡ Connected → RunJoins g p ms (with_at ks x (pointed_ticket (ks x) lastp savep))
  written x lastp savep e =
      let ns = with_at ks x (pointed_ticket (ks x) lastp savep) in
      let m : TicketMoves p (length g.units) ks (targets w.bus) ns (targets w.bus) = move.points x lastp savep e in
      record {
        spare = j.spare;
        opens = j.opens;
        moves = moved.more j.moves m;
        joined = record {
          tickets = record {
            reached = record { plan = reached.plan; from = (reached.from.0, reached.from.1, reached.from.2, moved.more reached.from.3 m) };
            rig = j.joined.tickets.rig;
            apart = apart-kept p (length g.units) reached.plan ks (targets w.bus) kept ns (targets w.bus) m tt j.joined.tickets.apart;
            connected = j.joined.tickets.connected;
            whole = j.joined.tickets.whole;
          };
          desk = chip-leaves-desk p (length g.units) ks (targets w.bus) ns (targets w.bus) w.desk reached m tt j.joined.desk;
          rig = j.joined.rig;
          places = j.joined.places;
          reserved = λ n less u there.
              let room = room_at (device_at w.bus (p.units n).target) (p.units n).lun in
              logs-stay-within p (length g.units) ks (targets w.bus) ns (targets w.bus) reached m (λ z. z) (length w.desk.tickets) n room (j.spare n) u u j.joined.desk.unbuilt less there there
              (let s = j.joined.reserved n less u there in omega (arith, s));
          most = j.joined.most;
        };
        histories = λ y. j.histories y ∙ sym (nothing-noted (ks y) (moved.tally_in p (targets w.bus) y) false (moved.history y j.moves));
      }

  -- the link of each target but one is idle
  idle-else : (i : ℕ) → ((k : ℕ) → k ≢ i → (targets w.bus k).link ≡ BusFree) → (ns : ℕ → Ticket) → IsPointed ns (targets w.bus i).link → ArePointed ns w.bus
  idle-else i f ns a k = elim (same_or_not k i) [
    | inl e ↦ subst (λ (x : ℕ). IsPointed ns (targets w.bus x).link) (sym e) a
    | inr d ↦ subst (IsPointed ns) (sym (f k d)) tt
  ]

  at-link : (i : ℕ) → ((k : ℕ) → k ≢ i → (targets w.bus k).link ≡ BusFree) → (l : ConnectionState) → (targets w.bus i).link ≡ l → (ns : ℕ → Ticket) × RunJoins g p ms ns × ArePointed ns w.bus
  at-link i f (TaskConnected c) e = by c.task.senses refl
    where
      by : (b : Bool) → c.task.senses ≡ b → (ns : ℕ → Ticket) × RunJoins g p ms ns × ArePointed ns w.bus
      by true s = (ks, j, idle-else i f ks (subst (IsPointed ks) (sym e) (subst (λ (b : Bool). PointsBy b (ks c.task.ticket) c) (sym s) tt)))
      by false s =
          let x = c.task.ticket in
          let work : WorkKept false p i ks (targets w.bus i) c = subst (λ (b : Bool). WorkKept b p i ks (targets w.bus i) c) s (subst (λ (l : ConnectionState). LinkKept l p i ks (targets w.bus i)) e (kept.each i).link) in
          let k = pointed_ticket (ks x) c.task.position c.task.saved in (
            with_at ks x k,
            written x c.task.position c.task.saved work.life,
            idle-else i f (with_at ks x k) (subst (IsPointed (with_at ks x k)) (sym e)
                (subst (λ (b : Bool). PointsBy b (with_at ks x k x) c) (sym s) (subst (λ (z : Ticket). PointsBy false z c) (sym (with_at-same ks x k)) (refl, refl)))),
          )
  at-link i f l e = (ks, j, idle-else i f ks (subst (IsPointed ks) (sym e) tt))

  all-links : (o : Option ℕ) → w.bus.connected ≡ o → (ns : ℕ → Ticket) × RunJoins g p ms ns × ArePointed ns w.bus
  all-links None e = (ks, j, λ k. subst (IsPointed ks) (sym (free-is (targets w.bus k).link (j.joined.tickets.connected.others k (λ z. (let y : None ≡ Some k = sym e ∙ z in absurd cc))))) tt)
  all-links (Some i) e =
      at-link i (λ k d. free-is (targets w.bus k).link (j.joined.tickets.connected.others k (λ z. (let y : Some i ≡ Some k = sym e ∙ z in d (sym (same_Some i k y)))))) (targets w.bus i).link refl

pub pointers-stand : PointersStand
pointers-stand g p ms ks j = all-links g p ms ks j (last (opened g) ms).bus.connected refl

-- ---- which instruction stands at an address
module _ (P : Op → Type 0) (version : ℕ) (units : List RigUnit) (c : Counts) (w new : World) (word : ℕ) (answer : Reply) (run : RunsChip w word answer new) (x : Op) (at : IsAt (chip_of w) x) (jumps-so : 0x8000 ≤ w.regs.dsp → (value address : ℕ) → P (jump_if value address)) (identifies : 0x8000 ≤ w.regs.dsp → P (op.Move 1 MSGIN 7))
    (others-so : 0x8000 ≤ w.regs.dsp → (n : Op) → IsPlain n → (Asking n → ⊥) → P n) where
  abbrev us : List RigUnit
  us = (tickets_of w.desk).units

  same-op : (n : Op) → IsAt (chip_of w) n → P n → P x
  same-op n here h = subst P (one_spelling (word_at w.memory w.regs.dsp) (word_at w.memory (w.regs.dsp + 4)) (third_at w.memory w.regs) n x here at) h

  chain-so : (p : Point) (h : Holds version units (Running p) c w) (a : ℕ) (ops : List Op) (j : ℕ) (n : Op) → IsAtChain p a ops j n w → P n → P x
  chain-so p h a ops j n i q = same-op n (stands-here version units p c w h new word answer run a ops j n i) q

  lun-so : (r i : ℕ) → 0x8000 ≤ w.regs.dsp → Holds version units (Running (InLuns r i)) c w → P x
  lun-so r zero far h = chain-so (InLuns r 0) h (target_chain r) (lun_ops us r) 0 (op.Move 1 MSGIN 7) (in-luns version units c w new word answer run r 0 h (op.Move 1 MSGIN 7) refl refl) (identifies far)
  lun-so r (suc zero) far h = chain-so (InLuns r 1) h (target_chain r) (lun_ops us r) 1 (op.Int (Byte true 0x7F 0x80) 8) (in-luns version units c w new word answer run r 1 h (op.Int (Byte true 0x7F 0x80) 8) refl refl) (others-so far _ tt (λ z. z))
  lun-so r (suc (suc zero)) far h = chain-so (InLuns r 2) h (target_chain r) (lun_ops us r) 2 (op.ToSfbr 0x08 And 0x07) (in-luns version units c w new word answer run r 2 h (op.ToSfbr 0x08 And 0x07) refl refl) (others-so far _ tt (λ z. z))
  lun-so r (suc (suc (suc i))) far h =
      let j = suc (suc (suc i)) in
      let n : length (lun_ops us r) ≡ 3 + length (lun_jumps us r ++ op.Int Always 9 ∷ []) = length-append identify_ops (lun_jumps us r ++ op.Int Always 9 ∷ []) in
      elim (lun-op us r i (omega (arith, n, h.works.extra.2))) [
        | jumps y more ↦ chain-so (InLuns r j) h (target_chain r) (lun_ops us r) j (jump_if y.lun (unit_chain y.unit)) (in-luns version units c w new word answer run r j h (jump_if y.lun (unit_chain y.unit)) y.is (jump-two y.lun (unit_chain y.unit) y.small)) (jumps-so far y.lun (unit_chain y.unit))
        | stops e ↦ chain-so (InLuns r j) h (target_chain r) (lun_ops us r) j (op.Int Always 9) (in-luns version units c w new word answer run r j h (op.Int Always 9) e refl) (others-so far _ tt (λ z. z))
      ]

  chains-so : (p : Point) → is_chain p ≡ true → 0x8000 ≤ w.regs.dsp → Holds version units (Running p) c w → P x
  chains-so (InTargets r j) e far h = elim (target-op us j h.works.extra.1) [
    | jumps y more ↦ chain-so (InTargets r j) h CHAINS (target_ops us) j (jump_if y.target (target_chain y.target)) (in-targets version units c w new word answer run r j h (jump_if y.target (target_chain y.target)) y.is (jump-two y.target (target_chain y.target) y.below)) (jumps-so far y.target (target_chain y.target))
    | stops f ↦ chain-so (InTargets r j) h CHAINS (target_ops us) j (op.Int Always 0x0A) (in-targets version units c w new word answer run r j h (op.Int Always 0x0A) f refl) (others-so far _ tt (λ z. z))
  ]
  chains-so (InLuns r j) e far h = lun-so r j far h
  chains-so (AtUnit u r) e far h =
      let f : length us ≤ 16 = few version units (Running (AtUnit u r)) c w 0 h in
      let i : IsAtChain (AtUnit u r) (unit_chain u) (unit_ops u) 0 (op.Load 0x10 4 (At (unit_chain u + 0x10))) w = record { spells = h.parts.chains.units_laid u h.works.extra.0; inside = lit< tt; is = refl; place = omega arith; aligned = omega arith; from = omega arith; below = omega (arith, f, h.works.extra.0); two = refl } in
      chain-so (AtUnit u r) h (unit_chain u) (unit_ops u) 0 (op.Load 0x10 4 (At (unit_chain u + 0x10))) i (others-so far _ tt (λ z. z))
  chains-so (BehindUnit u r) e far h =
      let f : length us ≤ 16 = few version units (Running (BehindUnit u r)) c w 0 h in
      let i : IsAtChain (BehindUnit u r) (unit_chain u) (unit_ops u) 1 (op.Jump Always 0x160) w = record { spells = h.parts.chains.units_laid u h.works.extra.0; inside = lit< tt; is = refl; place = refl; aligned = omega arith; from = omega arith; below = omega (arith, f, h.works.extra.0); two = refl } in
      chain-so (BehindUnit u r) h (unit_chain u) (unit_ops u) 1 (op.Jump Always 0x160) i (others-so far _ tt (λ z. z))
  chains-so _ e far h = absurd cc

  -- in the script, by the number of the instruction; the chains lie above it
  pub instruction-so : (p : Point) → Holds version units (Running p) c w → ((k : ℕ) → k < 151 → (about p).place ≡ 8 * k → P (instruction k version)) → P x
  instruction-so p h f = elim (stands-at version units c w p h) [
    | script k l place side ↦ same-op (instruction k version) (stands_at version k (chip_of w) (stands version units p c w h k l place)) (f k l place)
    | at-over t e ↦ same-op (instruction 87 version) (stands_at version 87 (chip_of w) (stands version units p c w h 87 (omega arith) (ap (λ (q : Point). (about q).place) e))) (f 87 (omega arith) (ap (λ (q : Point). (about q).place) e))
    | in-chain e far ↦ chains-so p e (omega (arith, far, h.stays.3)) h
  ]

-- ---- which instructions send nothing
abbrev is_plain : Op → Bool
is_plain (op.Move n a ph) = nat_eq (ph % 2) 1 && (nat_eq n 1 && nat_eq ph 7)
is_plain (op.MoveFrom o ph) = nat_eq (ph % 2) 1 && not (nat_eq ph 7)
is_plain (op.Clear ack true) = false
is_plain _ = true

and-both : (a b : Bool) → (a && b) ≡ true → (a ≡ true) × (b ≡ true)
and-both true b e = (refl, e)
and-both false b e = absurd (false≢true e)

not-so : (b : Bool) → not b ≡ true → b ≡ false
not-so true e = absurd (false≢true e)
not-so false e = refl

plain-is : (x : Op) → is_plain x ≡ true → IsPlain x
plain-is (op.Move n a ph) e = let k = and-both (nat_eq (ph % 2) 1) (nat_eq n 1 && nat_eq ph 7) e in let l = and-both (nat_eq n 1) (nat_eq ph 7) k.1 in (k.0, (grind (arith, nat_tests, l), l.1))
plain-is (op.MoveFrom o ph) e = let k = and-both (nat_eq (ph % 2) 1) (not (nat_eq ph 7)) e in (k.0, not-so (nat_eq ph 7) k.1)
plain-is (op.Clear ack true) e = absurd (false≢true e)
plain-is (op.Clear ack false) e = tt
plain-is _ e = tt

-- and which ask for the phase
abbrev on_phase : Condition → Bool
on_phase (condition.Phase true negated code) = true
on_phase _ = false

abbrev is_asking : Op → Bool
is_asking (op.Move n a ph) = true
is_asking (op.MoveFrom o ph) = true
is_asking op.WaitDisconnect = true
is_asking (op.Jump on a) = on_phase on
is_asking (op.Call on a) = on_phase on
is_asking (op.Return on) = on_phase on
is_asking (op.Int on v) = on_phase on
is_asking (op.IntFly on) = on_phase on
is_asking _ = false

phase-is : (on : Condition) → HasPhase on → on_phase on ≡ true
phase-is (condition.Phase true negated code) h = refl
phase-is (condition.Phase false negated code) h = absurd h
phase-is condition.Always h = absurd h
phase-is (condition.Byte negated mask value) h = absurd h

asking-is : (x : Op) → Asking x → is_asking x ≡ true
asking-is (op.Move n a ph) h = refl
asking-is (op.MoveFrom o ph) h = refl
asking-is op.WaitDisconnect h = refl
asking-is (op.Jump on a) h = phase-is on h
asking-is (op.Call on a) h = phase-is on h
asking-is (op.Return on) h = phase-is on h
asking-is (op.Int on v) h = phase-is on h
asking-is (op.IntFly on) h = phase-is on h
asking-is (op.Select o alternate) h = absurd h
asking-is (op.WaitReselect alternate) h = absurd h
asking-is (op.Set ack atn) h = absurd h
asking-is (op.Clear ack atn) h = absurd h
asking-is (op.FromSfbr ch d register) h = absurd h
asking-is (op.ToSfbr register ch d) h = absurd h
asking-is (op.Modify register ch d) h = absurd h
asking-is (op.Put d register) h = absurd h
asking-is op.Nop h = absurd h
asking-is (op.MoveMemory n s t) h = absurd h
asking-is (op.Load register n place) h = absurd h
asking-is (op.Store register n place) h = absurd h

abbrev plain_or : ℕ → Op → Bool
plain_or k x = is_plain x || goes_out (8 * k)

abbrev quiet_or : ℕ → Op → Bool
quiet_or k x = not (is_asking x) || (not (asserts_atn (8 * k)) || goes_out (8 * k))

all-plain : all_below 151 (λ k. plain_or k (slice_index_or SCRIPT k op.Nop)) ≡ true
all-plain = refl

all-quiet : all_below 151 (λ k. quiet_or k (slice_index_or SCRIPT k op.Nop)) ≡ true
all-quiet = refl

or-left : (a b : Bool) → (a || b) ≡ true → b ≡ false → a ≡ true
or-left true b e f = refl
or-left false b e f = absurd (false≢true (sym f ∙ e))

-- an instruction of the script at such an address
abbrev IsOrdinary : ℕ → Op → Type 0
IsOrdinary dsp x = IsPlain x × (Asking x → asserts_atn dsp ≡ false)

module _ (version k : ℕ) (l : k < 151) (n : goes_out (8 * k) ≡ false) where
  script-plain : IsPlain (instruction k version)
  script-plain = plain-is (instruction k version) (or-left (is_plain (instruction k version)) (goes_out (8 * k)) (both_versions plain_or 151 all-plain refl k version l) n)

  script-quiet : Asking (instruction k version) → asserts_atn (8 * k) ≡ false
  script-quiet a =
      let t = both_versions quiet_or 151 all-quiet refl k version l in
      let z : not (is_asking (instruction k version)) ≡ false = ap not (asking-is (instruction k version) a) in
      not-so (asserts_atn (8 * k)) (or-left (not (asserts_atn (8 * k))) (goes_out (8 * k)) (or-right (not (is_asking (instruction k version))) _ t z) n)
    where
      or-right : (a b : Bool) → (a || b) ≡ true → a ≡ false → b ≡ true
      or-right true b e f = absurd (false≢true (sym f))
      or-right false b e f = e

chain-quiet : (d : ℕ) → 0x8000 ≤ d → asserts_atn d ≡ false
chain-quiet d l = grind (arith, nat_tests)

-- ---- the step
module _ (g : BenchSetting) (setting : IsBenchSetting g) (bytes : HasBytes g) (p : Plan) (ms : List Moment) (m : Moment) (word : ℕ) (r : IsRun g (opened g) ms) (s : Steps g (last (opened g) ms) m) (e : m.entry.step ≡ step.Chip word) (ks : ℕ → Ticket) (j : RunJoins g p ms ks) (a : ArePointed ks (last (opened g) ms).bus) where
  abbrev old : World
  old = last (opened g) ms

  pub run : RunsChip old word m.reply m.after
  run = subst (λ (x : Step). Does g old m.entry.caller x m.reply m.after) e s.does

  pub runs : old.stop ≡ stop.Run
  runs = (subst (λ (x : Step). Enabled g old m.entry.caller x) e s.enabled).1

  abbrev before : TicketBus
  before = record { bus = old.bus; tickets = ks; spare = j.spare }

  abbrev found : TicketBus → Event → TicketBus → Type 0
  found = Calls p old.desk.units (live old.desk) (caused_by g old m)

  -- a chip step of calls that find what they ask
  pub record Found : Type 0 where
    pub over_bus : TicketBus
    pub steps : ChipStep found word (over before (chip_of old)) run.end (over over_bus run.chip)
    pub same_bus : over_bus.bus ≡ run.chip.bus

  pub quiet-atn : asserts_atn old.regs.dsp ≡ false → old.bus.atn ≡ false
  quiet-atn n = by old.bus.atn refl
    where
      by : (b : Bool) → old.bus.atn ≡ b → old.bus.atn ≡ false
      by true q = absurd (false≢true (sym n ∙ attention-is-told g setting bytes ms r runs q))
      by false q = q

  pub acks : (i : ℕ) → NeedsAck p i ks (targets old.bus i).link
  acks = acks-find p g.units old.bus ks j.joined.tickets a

  ordinary : goes_out old.regs.dsp ≡ false → (x : Op) → IsAt (chip_of old) x → IsOrdinary old.regs.dsp x
  ordinary out x at =
      let own = words_are_owned g setting bytes ms r in
      let k = running g.version g.units own.spot own.counts old runs own.holds in
      instruction-so (IsOrdinary old.regs.dsp) g.version g.units own.counts old m.after word m.reply run x at
      (λ far value address. (tt, λ z. absurd z))
      (λ far. ((refl, (refl, refl)), λ z. chain-quiet old.regs.dsp far))
      (λ far n plain none. (plain, λ z. absurd (none z)))
      k.0 k.1
      (λ i l place.
      let dsp : old.regs.dsp ≡ 8 * i = k.1.stays.3 ∙ place in
      let out_here : goes_out (8 * i) ≡ false = ap goes_out (sym dsp) ∙ out in
      (script-plain g.version i l out_here, λ z. ap asserts_atn dsp ∙ script-quiet g.version i l out_here z))

  by-op : (x : Op) → IsOrdinary old.regs.dsp x → is_stopped old.regs ≡ false → can_fetch old.memory old.regs ≡ true → IsAt (chip_of old) x → Row (moves old.desk.units (live old.desk)) word x (chip_of old) (after_fetch (chip_of old)) run.end run.chip → Found
  by-op x o running_is can at d =
      let v = finds p old.desk.units (live old.desk) (caused_by g old m) word x o.0 (chip_of old) (after_fetch (chip_of old)) run.end run.chip before refl refl acks (λ z. quiet-atn (o.1 z)) d in
      record { over_bus = v.0; steps = chip_step.does running_is can x at v.1; same_bus = v.2 }

  pub found-by : goes_out old.regs.dsp ≡ false → ChipStep (moves old.desk.units (live old.desk)) word (chip_of old) run.end run.chip → Found
  found-by out (chip_step.idle f q n) = record { over_bus = before; steps = chip_step.idle f q (ap (λ (x : Chip BusState). over before x) n); same_bus = sym (ap (λ (x : Chip BusState). x.bus) n) }
  found-by out (chip_step.unfetched f q h) = record { over_bus = before; steps = chip_step.unfetched f q (record { ends = record { is = h.ends.is; memory_is = h.ends.memory_is; regs_are = h.ends.regs_are }; bus_is = refl }); same_bus = sym h.bus_is }
  found-by out (chip_step.unspelled f q n h) = record { over_bus = before; steps = chip_step.unspelled f q n (record { ends = record { is = h.ends.is; memory_is = h.ends.memory_is; regs_are = h.ends.regs_are }; bus_is = refl }); same_bus = sym h.bus_is }
  found-by out (chip_step.does f q x at d) = by-op x (ordinary out x at) f q at d

  pub chip-moves : Found → (called : ℕ → Ticket) × (left : ℕ → ℕ) × ChipMoves p (caused_by g old m) old word m.reply m.after ks j.spare called left
  chip-moves f =
      let v = f.over_bus in
      let there : ChipStep found word (over before (chip_of old)) run.end (state run.chip.memory run.chip.regs (record { bus = run.chip.bus; tickets = v.tickets; spare = v.spare })) =
      subst (λ (b : BusState). ChipStep found word (over before (chip_of old)) run.end (state run.chip.memory run.chip.regs (record { bus = b; tickets = v.tickets; spare = v.spare }))) f.same_bus f.steps in (
        v.tickets,
        v.spare,
        record {
          ran = run;
          called = v.tickets;
          calls = subst (λ (n : World). ChipStep found word (over before (chip_of old)) run.end (state n.memory n.regs (record { bus = n.bus; tickets = v.tickets; spare = v.spare }))) (sym run.world) there;
          own = none;
        },
      )

  -- so the run goes on joined
  pub goes-on : Found → IsJoinedRun g p (ms ++ m ∷ [])
  goes-on f =
      let c = chip-moves f in
      let x = chip-steps-join g p old m ks c.0 j.spare c.1 word s e c.2 j.joined in
      (x.0.tickets, joined-on g p ms m ks j x.0)

pub ordinary-steps-join : OrdinaryStepsJoin
ordinary-steps-join g setting bytes p ms m word r s e out (ks, j) =
    let z = pointers-stand g p ms ks j in
    goes-on g setting bytes p ms m word r s e z.0 z.1 z.2 (found-by g setting bytes p ms m word r s e z.0 z.1 z.2 out (run g setting bytes p ms m word r s e z.0 z.1 z.2).ran)
