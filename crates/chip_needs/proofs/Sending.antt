-- Steps of the chip where units that break the rules are connected, or nothing is.
use Rattle.std.proofs.Common.{arith, ◌≡◌, inl, inr, ℕ, ℤ, ◌+◌, ◌*◌, ◌%◌, ◌<◌, ◌||◌, nat_eq, Bool, true, false, List, [], ◌∷◌, ◌++◌, length, slice_index, slice_index_or, slice_set, Option, Some, None, refl, sym, ap, subst, ◌∙◌, if◌then◌else◌}
use Rattle.std.specs.Prelude.{not}
use Rattle.std.proofs.lemmas.Bool.{false≢true, cases_lt}
use Rattle.std.proofs.lemmas.Bool.Decides.{nat_tests}
use Rattle.std.proofs.lemmas.List.{get_or-set_same, get_or_past, length-set}
use Rattle.std.proofs.lemmas.Option.{same_Some}
use Rattle.scsi_words.specs.declared.phases.kinds.Phase.{Phase as BusPhase}
use Rattle.rig_types.specs.declared.rig.Unit.{Unit as RigUnit}
use Rattle.bench_words.specs.Memory.{word_at}
use Rattle.rig_types.specs.declared.step.Step.TheVariants as step
use Rattle.scripts_ops.specs.declared.values.Op.{Op}
use Rattle.scripts_ops.specs.declared.values.Op.TheVariants as op
use Rattle.driver_script.specs.Script.{instruction}
use Rattle.driver_script.specs.declared.script.TheConstants.{SCRIPT}
use Rattle.driver_script.proofs.ScriptTests.{all_below, both_versions}
use Rattle.chip_regs.specs.Registers.{is_stopped}
use Rattle.chip_rows.specs.Following.{over}
use Rattle.chip_step.specs.Addresses.{place_of}
use Rattle.chip_step.specs.Blocks.{loaded, MovesBy}
use Rattle.chip_step.specs.Chip.{Chip}
use Rattle.chip_step.specs.Event as event
use Rattle.chip_step.specs.Instructions.{Does as Row}
use Rattle.chip_step.specs.Step as chip_step
use Rattle.chip_step.specs.Step.{ChipStep, IsAt, can_fetch, after_fetch}
use Rattle.chip_step.specs.Event.{Event}
use Rattle.target_law.specs.declared.moves.Move.{Move}
use Rattle.target_law.specs.declared.moves.Move.TheVariants as choice
use Rattle.target_law.specs.declared.nexus.Nexus.{Nexus}
use Rattle.target_law.specs.declared.rogue_phase.RoguePhase.{RoguePhase}
use Rattle.target_law.specs.Beginning.{target_took, took_where, begins}
use Rattle.target_law.specs.Calls.{link_phase, link_takes, link_took, link_or_free, target_acted, acted_by, target_messaged, messaged_by, target_acked, acked_by}
use Rattle.target_law.specs.Devices.{DeviceState, where_room, lie_within}
use Rattle.target_law.specs.RoguePhases.{rogue_chosen}
use Rattle.target_law.specs.Target.{ConnectionState, BusFree, RogueConnected, Target, linked}
use Rattle.bus_law.specs.Attention.{messaged, acked, after_ack, is_message_out, device_messaged, device_acked}
use Rattle.bus_law.specs.Bus.{BusState, device_at, device_of, no_device, free_if, with_device, link_on}
use Rattle.bus_law.specs.Bytes.{after_byte_out, device_took}
use Rattle.bus_law.specs.Choices.{named, acts, chooses, left_by, turned_by, turned, after_turn}
use Rattle.bus_law.specs.Moves.{moves}
use Rattle.bus_events.specs.Needs.{NeedsChoice, NeedsByte, NeedsMessage, NeedsAck, Needs}
use Rattle.bus_events.specs.Targets.{targets}
use Rattle.bus_events.specs.Tickets.{resets_device, link_resets}
use Rattle.ticket_fate.specs.Tickets.{Plan, Ticket}
use Rattle.world_law.specs.ChipSteps.{chip_of, RunsChip}
use Rattle.world_law.specs.Opening.{opened}
use Rattle.world_law.specs.Runs.{Moment, Steps, IsRun, last}
use Rattle.world_law.specs.World.{BenchSetting, IsBenchSetting, World, live}
use Rattle.word_owners.specs.Worlds.{HasBytes}
use Rattle.word_owners.proofs.RunningChip.{running}
use Rattle.word_owners.proofs.Worlds.{words_are_owned}
use Rattle.run_joined.specs.ChipCalls.{TicketBus, caused_by}
use Rattle.run_joined.specs.JoinedRuns.{RunJoins, IsJoinedRun}
use Rattle.chip_needs.specs.Ordinary.{goes_out, ArePointed}
use Rattle.chip_needs.specs.Sending.{IsRogueOrFree, NoneOfRules, RogueStepsJoin}
use Rattle.chip_needs.proofs.Ordinary.{pointers-stand, instruction-so, Found, run, runs, found-by, goes-on}
use Rattle.chip_needs.proofs.SentCalls.{Finds, Sends, block-sends, entry-sends}

-- ---- a target with such units keeps its link so
linked-so : (b : Bool) (d : DeviceState) (t : Target) → IsRogueOrFree d.target.link → IsRogueOrFree t.link → IsRogueOrFree (if b then record { target = t; rooms = d.rooms } else d).target.link
linked-so true d t h k = k
linked-so false d t h k = h

room-so : (d : DeviceState) (t : Target) → IsRogueOrFree d.target.link → IsRogueOrFree t.link → IsRogueOrFree (where_room d t).target.link
unfolding where_room
room-so d t h k = linked-so (lie_within t.units d.rooms) d t h k

or-free : (o : Option RoguePhase) (n : Option Nexus) → IsRogueOrFree (link_or_free o n)
or-free None n = tt
or-free (Some s) n = tt

acted-so : (l : ConnectionState) (t : Target) (m : Move) → IsRogueOrFree l → IsRogueOrFree t.link → IsRogueOrFree (acted_by l t m).link
acted-so (RogueConnected s n) t (choice.Rogue word) h k = or-free (rogue_chosen word) n
acted-so (RogueConnected s n) t (choice.Go i) h k = k
acted-so (RogueConnected s n) t choice.Busy h k = k
acted-so (RogueConnected s n) t choice.QueueFull h k = k
acted-so (RogueConnected s n) t choice.Leave h k = k
acted-so (RogueConnected s n) t choice.SaveLeave h k = k
acted-so (RogueConnected s n) t choice.Save h k = k
acted-so (RogueConnected s n) t choice.Restore h k = k
acted-so BusFree t m h k = k
acted-so l t m h k = absurd h

acts-so : (o : Option Move) (d : DeviceState) → IsRogueOrFree d.target.link → IsRogueOrFree (acts o d).target.link
unfolding target_acted
acts-so None d h = h
acts-so (Some m) d h = room-so d (target_acted d.target m) h (acted-so d.target.link d.target m h h)

chooses-so : (l : ConnectionState) (atn : Bool) (word : ℕ) (d : DeviceState) → IsRogueOrFree l → IsRogueOrFree d.target.link → IsRogueOrFree (chooses l atn word d).target.link
chooses-so (RogueConnected s n) atn word d h k = acts-so (named (RogueConnected s n) d.target word) d k
chooses-so BusFree atn word d h k = acts-so (named BusFree d.target word) d k
chooses-so l atn word d h k = absurd h

left-so : (o : Option BusPhase) (d : DeviceState) → IsRogueOrFree d.target.link → IsRogueOrFree (left_by o d).target.link
left-so None d h = tt
left-so (Some s) d h = h

turned-so : (o : Option BusPhase) (atn : Bool) (word : ℕ) (d : DeviceState) → IsRogueOrFree d.target.link → IsRogueOrFree (turned_by o atn word d).target.link
turned-so (Some s) atn word d h = h
turned-so None atn word d h = let k = chooses-so d.target.link atn word d h h in left-so (link_phase (chooses d.target.link atn word d).target.link) (chooses d.target.link atn word d) k

took-so : (live_at : Nexus → Option ℕ) (t : Target) (l : ConnectionState) (byte : ℕ) → t.link ≡ l → IsRogueOrFree l → IsRogueOrFree (target_took live_at t byte).link
unfolding target_took
took-so live_at t (RogueConnected s n) byte e h = by (link_takes (RogueConnected s n)) (ap link_takes e)
  where
    by : (b : Bool) → link_takes t.link ≡ b → IsRogueOrFree (target_took live_at t byte).link
    by true q = subst (λ (x : Bool). IsRogueOrFree (took_where live_at x t byte).link) (sym q) (subst (λ (l : ConnectionState). IsRogueOrFree (begins live_at (linked t (link_took l byte))).link) (sym e) tt)
    by false q = subst (λ (x : Bool). IsRogueOrFree (took_where live_at x t byte).link) (sym q) (subst IsRogueOrFree (sym e) tt)
took-so live_at t BusFree byte e h = subst (λ (l : ConnectionState). IsRogueOrFree (took_where live_at (link_takes l) t byte).link) (sym e) (subst IsRogueOrFree (sym e) tt)
took-so live_at t l byte e h = absurd h

messaged-so : (l : ConnectionState) (t : Target) → IsRogueOrFree l → IsRogueOrFree t.link → IsRogueOrFree (messaged_by l t).link
messaged-so (RogueConnected s n) t h k = tt
messaged-so BusFree t h k = k
messaged-so l t h k = absurd h

heard-so : (l : ConnectionState) (t : Target) → IsRogueOrFree l → IsRogueOrFree t.link → IsRogueOrFree (acked_by l t).link
heard-so (RogueConnected s n) t h k = tt
heard-so BusFree t h k = k
heard-so l t h k = absurd h

-- ---- the bus
pub device-so : (b : BusState) (id : ℕ) (d : DeviceState) → IsRogueOrFree d.target.link → IsRogueOrFree (device_at (with_device b id d) id).target.link
device-so b id d h = elim (cases_lt id (length b.devices)) [
  | inl l ↦ subst (λ (x : DeviceState). IsRogueOrFree x.target.link) (sym (get_or-set_same b.devices id d no_device l)) h
  | inr l ↦ subst (λ (x : DeviceState). IsRogueOrFree x.target.link) (sym (get_or_past (slice_set b.devices id d) id no_device (omega (arith, l, length-set b.devices id d)))) tt
]

becomes-so : (f : Bool) (b : BusState) (id : ℕ) (d : DeviceState) → b.connected ≡ Some id → IsRogueOrFree d.target.link → NoneOfRules (free_if f (with_device b id d))
becomes-so true b id d e h i c = let z : None ≡ Some i = c in absurd cc
becomes-so false b id d e h i c = let z : id ≡ i = same_Some id i (sym e ∙ c) in subst (λ (j : ℕ). IsRogueOrFree (device_at (with_device b id d) j).target.link) z (device-so b id d h)

module _ (p : Plan) (units : List RigUnit) (live_at : ℕ → Nexus → Option ℕ) where
  -- a call of a block move
  abbrev pub IsOfMove : Event → Type 0
  IsOfMove event.ClearAck = Unit {0}
  IsOfMove (event.Phase word shown) = Unit {0}
  IsOfMove (event.ByteOut byte taken) = Unit {0}
  IsOfMove (event.SetAtn false) = Unit {0}
  IsOfMove e = ⊥

  turn-so : (o : Option ℕ) (word : ℕ) (b : BusState) → b.connected ≡ o → NoneOfRules b → NoneOfRules (after_turn o word b)
  turn-so None word b e h = h
  turn-so (Some id) word b e h = becomes-so _ b id (turned b.atn word (device_at b id)) e (turned-so (link_phase (device_at b id).target.link) b.atn word (device_at b id) (h id e))

  out-so : (taken : Bool) (o : Option ℕ) (byte : ℕ) (b : BusState) → b.connected ≡ o → NoneOfRules b → NoneOfRules (after_byte_out live_at taken o byte b)
  out-so true (Some id) byte b e h = becomes-so _ b id (device_took live_at id (device_at b id) byte) e (took-so (live_at id) (device_at b id).target (device_at b id).target.link byte refl (h id e))
  out-so true None byte b e h = h
  out-so false o byte b e h = h

  told-so : (s : Bool) (o : Option ℕ) (b : BusState) → b.connected ≡ o → NoneOfRules b → NoneOfRules (messaged s o b)
  unfolding target_messaged
  told-so true (Some id) b e h = becomes-so _ b id (device_messaged (device_at b id)) e (room-so (device_at b id) (target_messaged (device_at b id).target) (h id e) (messaged-so (device_at b id).target.link (device_at b id).target (h id e) (h id e)))
  told-so true None b e h = h
  told-so false o b e h = h

  acked-so : (o : Option ℕ) (b : BusState) → b.connected ≡ o → NoneOfRules b → NoneOfRules (acked o b)
  unfolding target_acked
  acked-so (Some id) b e h = becomes-so _ b id (device_acked (device_at b id)) e (room-so (device_at b id) (target_acked (device_at b id).target) (h id e) (heard-so (device_at b id).target.link (device_at b id).target (h id e) (h id e)))
  acked-so None b e h = h

  ack-so : (a : Bool) (b : BusState) → NoneOfRules b → NoneOfRules (after_ack a b)
  ack-so true b h = acked-so b.connected b refl h
  ack-so false b h = h

  pub call-so : (e : Event) (b n : BusState) → IsOfMove e → moves units live_at b e n → NoneOfRules b → NoneOfRules n
  call-so event.ClearAck b n f m h = subst NoneOfRules (sym m) (ack-so b.ack b h)
  call-so (event.Phase word shown) b n f m h = subst NoneOfRules (sym m.1) (turn-so b.connected word b refl h)
  call-so (event.ByteOut byte taken) b n f m h = subst NoneOfRules (sym m.1) (out-so taken b.connected byte b refl h)
  call-so (event.SetAtn false) b n f m h = subst NoneOfRules (sym m) (told-so (is_message_out (link_phase (link_on b))) b.connected b refl h)
  call-so e b n f m h = absurd f

  -- ---- what a call asks
  choice-found : (atn : Bool) (l : ConnectionState) → IsRogueOrFree l → NeedsChoice atn l
  choice-found true (RogueConnected s n) h = tt
  choice-found true BusFree h = tt
  choice-found true l h = absurd h
  choice-found false l h = tt

  ack-found : (i : ℕ) (ks : ℕ → Ticket) (l : ConnectionState) → IsRogueOrFree l → NeedsAck p i ks l
  ack-found i ks (RogueConnected s n) h = tt
  ack-found i ks BusFree h = tt
  ack-found i ks l h = absurd h

  byte-found : (i : ℕ) (ks : ℕ → Ticket) (l : ConnectionState) (byte : ℕ) → IsRogueOrFree l → NeedsByte p i ks l (live_at i) byte
  byte-found i ks (RogueConnected s n) byte h = tt
  byte-found i ks BusFree byte h = tt
  byte-found i ks l byte h = absurd h

  message-found : (i : ℕ) (ks : ℕ → Ticket) (l : ConnectionState) → IsRogueOrFree l → NeedsMessage p i ks l
  message-found i ks (RogueConnected s n) h = tt
  message-found i ks BusFree h = tt
  message-found i ks l h = absurd h

  pub needs-found : (e : Event) (b : BusState) (ks : ℕ → Ticket) → IsOfMove e → NoneOfRules b → Needs p live_at b e ks
  needs-found event.ClearAck b ks f h i c = ack-found i ks (targets b i).link (h i c)
  needs-found (event.Phase word shown) b ks f h i c = choice-found b.atn (targets b i).link (h i c)
  needs-found (event.ByteOut byte taken) b ks f h i c = byte-found i ks (targets b i).link byte (h i c)
  needs-found (event.SetAtn false) b ks f h i c = message-found i ks (targets b i).link (h i c)
  needs-found e b ks f h i c = absurd f

  no-resets : (l : ConnectionState) → IsRogueOrFree l → link_resets l ≡ false
  no-resets (RogueConnected s n) h = refl
  no-resets BusFree h = refl
  no-resets l h = absurd h

  link-so : (o : Option ℕ) (b : BusState) → b.connected ≡ o → NoneOfRules b → link_resets (link_on b) ≡ false
  link-so None b e h = ap (λ (x : Option ℕ). link_resets (device_of b x).target.link) e
  link-so (Some i) b e h = ap (λ (x : Option ℕ). link_resets (device_of b x).target.link) e ∙ no-resets (targets b i).link (h i e)

  pub resets-none : (e : Event) (b : BusState) → IsOfMove e → NoneOfRules b → resets_device b e ≡ false
  resets-none event.ClearAck b f h = refl
  resets-none (event.Phase word shown) b f h = refl
  resets-none (event.ByteOut byte taken) b f h = refl
  resets-none (event.SetAtn false) b f h = link-so b.connected b refl h
  resets-none e b f h = absurd f

  module _ (caused : ℕ → Bool) (word ph : ℕ) (bytes : ℕ → ℕ) (count : ℕ) where
    finds-so : (u : TicketBus) (e : Event) → IsOfMove e → NoneOfRules u.bus → Finds p units live_at caused word u e
    finds-so u e f h = record { needs = needs-found e u.bus u.tickets f h; resets = resets-none e u.bus f h }

    pub rogue-sends : Sends p units live_at caused word (λ k u. NoneOfRules u.bus) ph bytes count
    rogue-sends = record {
      acks = λ u y i m. (finds-so u event.ClearAck tt i, call-so event.ClearAck u.bus y tt m i);
      asks = λ s u y i m. (finds-so u (event.Phase word s) tt i, call-so (event.Phase word s) u.bus y tt m i);
      sends = λ k byte taken u y b i m. (finds-so u (event.ByteOut byte taken) tt i, call-so (event.ByteOut byte taken) u.bus y tt m i);
      ends = λ q u y i m. finds-so u (event.SetAtn false) tt i;
    }

-- ---- the step
abbrev is_out : Op → Bool
is_out (op.Move n a ph) = not (nat_eq (ph % 2) 1)
is_out (op.MoveFrom o ph) = not (nat_eq (ph % 2) 1)
is_out _ = false

abbrev out_or : ℕ → Op → Bool
out_or k x = is_out x || not (goes_out (8 * k))

all-out : all_below 151 (λ k. out_or k (slice_index_or SCRIPT k op.Nop)) ≡ true
all-out = refl

or-left : (a b : Bool) → (a || b) ≡ true → b ≡ false → a ≡ true
or-left true b e f = refl
or-left false b e f = absurd (false≢true (sym f ∙ e))

not-so : (b : Bool) → not b ≡ true → b ≡ false
not-so true e = absurd (false≢true e)
not-so false e = refl

pub script-out : (k version : ℕ) → k < 151 → goes_out (8 * k) ≡ true → is_out (instruction k version) ≡ true
script-out k version l n = or-left (is_out (instruction k version)) (not (goes_out (8 * k))) (both_versions out_or 151 all-out refl k version l) (ap not n)

-- the addresses lie in the script
out-low : (d : ℕ) → goes_out d ≡ true → d < 0x8000
out-low d e = grind (arith, nat_tests)

module _ (g : BenchSetting) (setting : IsBenchSetting g) (bytes : HasBytes g) (p : Plan) (ms : List Moment) (m : Moment) (word : ℕ) (r : IsRun g (opened g) ms) (s : Steps g (last (opened g) ms) m) (e : m.entry.step ≡ step.Chip word) (ks : ℕ → Ticket) (j : RunJoins g p ms ks) (a : ArePointed ks (last (opened g) ms).bus) where
  abbrev pub old : World
  old = last (opened g) ms

  abbrev pub here : Type 0
  here = Found g setting bytes p ms m word r s e ks j a

  abbrev pub ran : RunsChip old word m.reply m.after
  ran = run g setting bytes p ms m word r s e ks j a

  abbrev pub before : TicketBus
  before = record { bus = old.bus; tickets = ks; spare = j.spare }

  -- a move that sends bytes, where each of its calls finds what it asks, for the count that it has
  module _ (I : ℕ → TicketBus → Type 0) (first : I 0 before) (each : (ph : ℕ) (sent : ℕ → ℕ) (count : ℕ) → Sends p old.desk.units (live old.desk) (caused_by g old m) word I ph sent count) where
    sent-from : (o : ℤ) (ph : ℕ) (place : Option ℕ) → place_of old.memory (after_fetch (chip_of old)).regs.dsa o 8 ≡ place → nat_eq (ph % 2) 1 ≡ false → is_stopped old.regs ≡ false → can_fetch old.memory old.regs ≡ true → IsAt (chip_of old) (op.MoveFrom o ph)
        → MovesBy (moves old.desk.units (live old.desk)) word (place_of old.memory (after_fetch (chip_of old)).regs.dsa o 8) ph (after_fetch (chip_of old)) ran.end ran.chip → here
    sent-from o ph None q even f can at d =
        let v = entry-sends p old.desk.units (live old.desk) (caused_by g old m) word I ph (λ i. 0) 0 (each ph (λ i. 0) 0) (place_of old.memory (after_fetch (chip_of old)).regs.dsa o 8) (after_fetch (chip_of old)) ran.end ran.chip before (λ x z. (let y : None ≡ Some x = sym q ∙ z in absurd cc)) refl first even (λ x z. (let y : None ≡ Some x = sym q ∙ z in absurd cc)) d in
        record { over_bus = v.0; steps = chip_step.does f can (op.MoveFrom o ph) at v.1; same_bus = v.2 }
    sent-from o ph (Some x) q even f can at d =
        let n = word_at old.memory x % 16777216 in
        let sent : ℕ → ℕ = λ i. slice_index old.memory (word_at old.memory (x + 4) + i) in
        let v = entry-sends p old.desk.units (live old.desk) (caused_by g old m) word I ph sent n (each ph sent n) (place_of old.memory (after_fetch (chip_of old)).regs.dsa o 8) (after_fetch (chip_of old)) ran.end ran.chip before (λ y z i. ap (λ (b : ℕ). slice_index old.memory (word_at old.memory (b + 4) + i)) (sym (same_Some x y (sym q ∙ z)))) refl first even (λ y z. ap (λ (i : ℕ). word_at old.memory i % 16777216) (sym (same_Some x y (sym q ∙ z)))) d in
        record { over_bus = v.0; steps = chip_step.does f can (op.MoveFrom o ph) at v.1; same_bus = v.2 }

    sent-by : (x : Op) → is_out x ≡ true → is_stopped old.regs ≡ false → can_fetch old.memory old.regs ≡ true → IsAt (chip_of old) x → Row (moves old.desk.units (live old.desk)) word x (chip_of old) (after_fetch (chip_of old)) ran.end ran.chip → here
    sent-by (op.MoveFrom o ph) q f can at d = sent-from o ph (place_of old.memory (after_fetch (chip_of old)).regs.dsa o 8) refl (not-so (nat_eq (ph % 2) 1) q) f can at d
    sent-by (op.Move n at_place ph) q f can at d =
        let v = block-sends p old.desk.units (live old.desk) (caused_by g old m) word I ph (λ i. slice_index old.memory (at_place + i)) n (each ph (λ i. slice_index old.memory (at_place + i)) n) (loaded n at_place (after_fetch (chip_of old))) ran.end ran.chip before (λ i. refl) refl first (not-so (nat_eq (ph % 2) 1) q) refl d in
        record { over_bus = v.0; steps = chip_step.does f can (op.Move n at_place ph) at v.1; same_bus = v.2 }
    sent-by x q f can at d = absurd (false≢true q)

  -- at such an address
  is-out : goes_out old.regs.dsp ≡ true → (x : Op) → IsAt (chip_of old) x → is_out x ≡ true
  is-out out x at =
      let own = words_are_owned g setting bytes ms r in
      let k = running g.version g.units own.spot own.counts old (runs g setting bytes p ms m word r s e ks j a) own.holds in
      let low = out-low old.regs.dsp out in
      instruction-so (λ (n : Op). is_out n ≡ true) g.version g.units own.counts old m.after word m.reply ran x at
      (λ far value address. absurd (omega (arith, far, low))) (λ far. absurd (omega (arith, far, low))) (λ far n plain none. absurd (omega (arith, far, low)))
      k.0 k.1
      (λ i l place.
      let dsp : old.regs.dsp ≡ 8 * i = k.1.stays.3 ∙ place in
      script-out i g.version l (ap goes_out (sym dsp) ∙ out))

  pub sent-so : (I : ℕ → TicketBus → Type 0) → I 0 before → ((ph : ℕ) (sent : ℕ → ℕ) (count : ℕ) → Sends p old.desk.units (live old.desk) (caused_by g old m) word I ph sent count) → goes_out old.regs.dsp ≡ true → ChipStep (moves old.desk.units (live old.desk)) word (chip_of old) ran.end ran.chip → here
  sent-so I first each out (chip_step.does f q x at d) = sent-by I first each x (is-out out x at) f q at d
  sent-so I first each out (chip_step.idle f q n) = record { over_bus = before; steps = chip_step.idle f q (ap (λ (x : Chip BusState). over before x) n); same_bus = sym (ap (λ (x : Chip BusState). x.bus) n) }
  sent-so I first each out (chip_step.unfetched f q h) = record { over_bus = before; steps = chip_step.unfetched f q (record { ends = record { is = h.ends.is; memory_is = h.ends.memory_is; regs_are = h.ends.regs_are }; bus_is = refl }); same_bus = sym h.bus_is }
  sent-so I first each out (chip_step.unspelled f q n h) = record { over_bus = before; steps = chip_step.unspelled f q n (record { ends = record { is = h.ends.is; memory_is = h.ends.memory_is; regs_are = h.ends.regs_are }; bus_is = refl }); same_bus = sym h.bus_is }

  found-any : NoneOfRules old.bus → (b : Bool) → goes_out old.regs.dsp ≡ b → here
  found-any n true out = sent-so (λ k u. NoneOfRules u.bus) n (λ ph sent count. rogue-sends p old.desk.units (live old.desk) (caused_by g old m) word ph sent count) out ran.ran
  found-any n false out = found-by g setting bytes p ms m word r s e ks j a out ran.ran

  pub rogue-joins : NoneOfRules old.bus → IsJoinedRun g p (ms ++ m ∷ [])
  rogue-joins n = goes-on g setting bytes p ms m word r s e ks j a (found-any n (goes_out old.regs.dsp) refl)

pub rogue-steps-join : RogueStepsJoin
rogue-steps-join g setting bytes p ms m word r s e n (ks, j) =
    let z = pointers-stand g p ms ks j in
    rogue-joins g setting bytes p ms m word r s e z.0 z.1 z.2 n
