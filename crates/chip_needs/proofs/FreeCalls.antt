-- Instructions that send nothing to a target, beside the tickets: each call finds what it asks, where the first acknowledgement does.
use Rattle.std.proofs.Common.{◌≡◌, ℕ, zero, suc, ◌+◌, ◌%◌, Bool, true, false, ◌&&◌, nat_eq, nat_le, Option, Some, None, List, length, slice_set, MatchBool, inl, inr, refl, sym, ap, subst, ◌∙◌, arith}
use Rattle.std.proofs.lemmas.Bool.{false≢true}
use Rattle.std.proofs.lemmas.Bool.Decides.{nat_tests}
use Rattle.scsi_words.specs.Phases.{phase_code}
use Rattle.bench_words.specs.Memory.{word_at}
use Rattle.scsi_words.specs.declared.phases.kinds.Phase.{Phase}
use Rattle.rig_types.specs.declared.rig.Unit.{Unit as RigUnit}
use Rattle.scripts_ops.specs.declared.values.Op.{Op}
use Rattle.scripts_ops.specs.declared.values.Op.TheVariants as op
use Rattle.scripts_ops.specs.declared.values.Condition.{Condition}
use Rattle.scripts_ops.specs.declared.values.Condition.TheVariants as condition
use Rattle.chip_regs.specs.declared.registers.Regs.{Regs}
use Rattle.chip_regs.specs.declared.registers.Cause.{Cause}
use Rattle.chip_step.specs.Event as event
use Rattle.chip_step.specs.Event.{Event}
use Rattle.chip_step.specs.Chip.{Chip, Ends, Becomes, Stops}
use Rattle.chip_step.specs.Addresses.{place_of, address_of, low_bits}
use Rattle.chip_step.specs.Bytes.{TakesIn}
use Rattle.chip_step.specs.Blocks.{loaded, after_bytes, ReleasesAtn, Finishes, Moves, Asks, MovesAt, BlockMoves, MovesBy}
use Rattle.chip_step.specs.Connection.{with_table, WaitsAt, ReselectsBy, SettlesAs, SelectsBy, Reselects}
use Rattle.chip_step.specs.Transfers.{TransfersAt, Decides, Transfers}
use Rattle.chip_step.specs.Memory.{LoadsAt, StoresAt}
use Rattle.chip_step.specs.Instructions.{Does}
use Rattle.chip_step.specs.declared.scsi_bus.Settled.{Settled}
use Rattle.chip_step.specs.declared.scsi_bus.Settled.TheVariants.{Selected, Reselected, TimedOut}
use Rattle.chip_step.specs.declared.outcome.StepEnd.{StepEnd}
use Rattle.chip_rows.specs.Following.{over}
use Rattle.target_law.specs.declared.nexus.Nexus.{Nexus}
use Rattle.target_law.specs.Target.{ConnectionState}
use Rattle.bus_law.specs.Bus.{BusState}
use Rattle.bus_law.specs.Moves.{moves}
use Rattle.ticket_fate.specs.Tickets.{Plan, Ticket}
use Rattle.bus_events.specs.Needs.{NeedsChoice, NeedsAck, Needs}
use Rattle.bus_events.specs.Rooms.{clears_at}
use Rattle.bus_events.specs.Targets.{targets}
use Rattle.bus_events.specs.Tickets.{resets_device, tickets_after}
use Rattle.run_joined.specs.ChipCalls.{TicketBus, Calls}
use Rattle.chip_needs.proofs.Attention.{call-atn}

-- an instruction that sends nothing: a move of an odd phase, of a message of one byte, and no CLEAR of ATN
abbrev pub IsPlain : Op → Type 0
IsPlain (op.Move n a p) = (nat_eq (p % 2) 1 ≡ true) × ((n ≡ 1) × (nat_eq p 7 ≡ true))
IsPlain (op.MoveFrom o p) = (nat_eq (p % 2) 1 ≡ true) × (nat_eq p 7 ≡ false)
IsPlain (op.Clear ack true) = ⊥
IsPlain _ = Unit {0}

-- one that asks for the phase, or whether the target leaves
abbrev pub HasPhase : Condition → Type 0
HasPhase (condition.Phase true negated code) = Unit {0}
HasPhase _ = ⊥

abbrev pub Asking : Op → Type 0
Asking (op.Move n a p) = Unit {0}
Asking (op.MoveFrom o p) = Unit {0}
Asking op.WaitDisconnect = Unit {0}
Asking (op.Jump on a) = HasPhase on
Asking (op.Call on a) = HasPhase on
Asking (op.Return on) = HasPhase on
Asking (op.Int on v) = HasPhase on
Asking (op.IntFly on) = HasPhase on
Asking _ = ⊥

-- an odd phase isn't MESSAGE OUT
not-six : (ph : ℕ) → nat_eq (ph % 2) 1 ≡ true → nat_eq ph 6 ≡ false
not-six ph e = by (nat_eq ph 6) refl
  where
    by : (b : Bool) → nat_eq ph 6 ≡ b → nat_eq ph 6 ≡ false
    by true q = (let z : ph ≡ 6 = grind (arith, nat_tests) in let y : ph % 2 ≡ 1 = grind (arith, nat_tests) in absurd (omega (arith, z, y)))
    by false q = q

pub choose : {A : Type 0} {R : A → Type 0} (P Q : A → Type 0) (b : Bool) {X Y : Type 0} → (X → (v : A) × P v × R v) → (Y → (v : A) × Q v × R v) → MatchBool b X Y → (v : A) × MatchBool b (P v) (Q v) × R v
choose P Q true f g h = f h
choose P Q false f g h = g h

module _ (p : Plan) (units : List RigUnit) (live_at : ℕ → Nexus → Option ℕ) (caused : ℕ → Bool) (word : ℕ) where
  abbrev pub M : BusState → Event → BusState → Type 0
  M = moves units live_at

  abbrev pub S : TicketBus → Event → TicketBus → Type 0
  S = Calls p units live_at caused

  abbrev pub after : TicketBus → Event → BusState → TicketBus
  after x e y = record { bus = y; tickets = tickets_after p x.bus e y x.tickets; spare = x.spare }

  pub called : (x : TicketBus) (e : Event) (y : BusState) → M x.bus e y → Needs p live_at x.bus e x.tickets → resets_device x.bus e ≡ false → S x e (after x e y)
  called x e y m n r = record {
    call = m;
    needs = n;
    made = refl;
    room = λ i. (let z : clears_at (resets_device x.bus e) x.bus.connected (p.units i).target ≡ 0 = ap (λ (b : Bool). clears_at b x.bus.connected (p.units i).target) r in omega (arith, z));
    reset = λ i t c. absurd (false≢true (sym r ∙ t));
  }

  -- the states of the bus with tickets that stand over one of the bus
  abbrev pub Then : (TicketBus → Type 0) → BusState → Type 0
  Then P y = (v : TicketBus) × P v × (v.bus ≡ y)

  -- a call that asks nothing
  abbrev IsFree : Event → Type 0
  IsFree (event.Shown shown) = Unit {0}
  IsFree (event.ByteIn b) = Unit {0}
  IsFree (event.Select target w settled) = Unit {0}
  IsFree (event.Reselect w by) = Unit {0}
  IsFree (event.SetAtn true) = Unit {0}
  IsFree e = ⊥

  free-needs : (e : Event) (b : BusState) (ks : ℕ → Ticket) → IsFree e → Needs p live_at b e ks
  free-needs (event.Shown shown) b ks f i c = tt
  free-needs (event.ByteIn x) b ks f i c = tt
  free-needs (event.Select target w settled) b ks f i c = tt
  free-needs (event.Reselect w by) b ks f i c = tt
  free-needs (event.SetAtn true) b ks f i c = tt
  free-needs (event.SetAtn false) b ks f i c = absurd f
  free-needs event.ClearAck b ks f i c = absurd f
  free-needs (event.Phase w shown) b ks f i c = absurd f
  free-needs (event.ByteOut x taken) b ks f i c = absurd f
  free-needs (event.Leave w gone) b ks f i c = absurd f

  free-resets : (e : Event) (b : BusState) → IsFree e → resets_device b e ≡ false
  free-resets (event.Shown shown) b f = refl
  free-resets (event.ByteIn x) b f = refl
  free-resets (event.Select target w settled) b f = refl
  free-resets (event.Reselect w by) b f = refl
  free-resets (event.SetAtn true) b f = refl
  free-resets (event.SetAtn false) b f = absurd f
  free-resets event.ClearAck b f = absurd f
  free-resets (event.Phase w shown) b f = absurd f
  free-resets (event.ByteOut x taken) b f = absurd f
  free-resets (event.Leave w gone) b f = absurd f

  free-call : (e : Event) (old new : BusState) (u : TicketBus) → u.bus ≡ old → IsFree e → M old e new → Then (λ v. S u e v) new
  free-call e old new u r f m = (after u e new, called u e new (subst (λ (b : BusState). M b e new) (sym r) m) (free-needs e u.bus u.tickets f) (free-resets e u.bus f), refl)

  -- a choice where ATN isn't asserted
  calm-choice : (b : BusState) (l : ConnectionState) → b.atn ≡ false → NeedsChoice b.atn l
  calm-choice b l e = subst (λ (a : Bool). NeedsChoice a l) (sym e) tt

  phase-call : (shown : Option Phase) (old new : BusState) (u : TicketBus) → u.bus ≡ old → old.atn ≡ false → M old (event.Phase word shown) new → Then (λ v. S u (event.Phase word shown) v) new
  phase-call shown old new u r e m =
      let z : u.bus.atn ≡ false = ap (λ (b : BusState). b.atn) r ∙ e in
      (after u (event.Phase word shown) new, called u (event.Phase word shown) new (subst (λ (b : BusState). M b (event.Phase word shown) new) (sym r) m) (λ i c. calm-choice u.bus (targets u.bus i).link z) refl, refl)

  leave-call : (gone : Bool) (old new : BusState) (u : TicketBus) → u.bus ≡ old → old.atn ≡ false → M old (event.Leave word gone) new → Then (λ v. S u (event.Leave word gone) v) new
  leave-call gone old new u r e m =
      let z : u.bus.atn ≡ false = ap (λ (b : BusState). b.atn) r ∙ e in
      (after u (event.Leave word gone) new, called u (event.Leave word gone) new (subst (λ (b : BusState). M b (event.Leave word gone) new) (sym r) m) (λ i c. calm-choice u.bus (targets u.bus i).link z) refl, refl)

  -- an acknowledgement finds what it asks
  abbrev pub Acks : TicketBus → Type 0
  Acks u = (i : ℕ) → NeedsAck p i u.tickets (targets u.bus i).link

  ack-call : (old new : BusState) (u : TicketBus) → u.bus ≡ old → Acks u → M old event.ClearAck new → Then (λ v. S u event.ClearAck v) new
  ack-call old new u r k m = (after u event.ClearAck new, called u event.ClearAck new (subst (λ (b : BusState). M b event.ClearAck new) (sym r) m) (λ i c. k i) refl, refl)

  ends : (how : StepEnd) (memory : List ℕ) (regs : Regs) (end : StepEnd) (new : Chip BusState) (v : TicketBus) → Ends how memory regs end new → Ends how memory regs end (over v new)
  ends how memory regs end new v h = record { is = h.is; memory_is = h.memory_is; regs_are = h.regs_are }

  becomes : (regs : Regs) (old : Chip BusState) (end : StepEnd) (new : Chip BusState) (u : TicketBus) → u.bus ≡ old.bus → Becomes regs old end new → Then (λ v. Becomes regs (over u old) end (over v new)) new.bus
  becomes regs old end new u r h = (u, record { ends = ends _ _ _ end new u h.ends; bus_is = refl }, r ∙ sym h.bus_is)

  pub stops : (cause : Cause) (old : Chip BusState) (end : StepEnd) (new : Chip BusState) (u : TicketBus) → u.bus ≡ old.bus → Stops cause old end new → Then (λ v. Stops cause (over u old) end (over v new)) new.bus
  stops cause old end new u r h = (u, record { ends = ends _ _ _ end new u h.ends; bus_is = refl }, r ∙ sym h.bus_is)

  -- ---- bytes from the target: no message byte is acknowledged before another
  takes : (message later : Bool) (n : ℕ) (memory : List ℕ) (at : ℕ) (bus : BusState) (left : ℕ) (memory' : List ℕ) (bus' : BusState) (u : TicketBus) → u.bus ≡ bus → ((message ≡ false) × (later ≡ later)) → TakesIn M message later n memory at bus left memory' bus'
      → Then (λ v. TakesIn S message later n memory at u left memory' v) bus'
  takes message later zero memory at bus left memory' bus' u r f h = (u, (h.0, h.1, refl), r ∙ sym h.2)
  takes true later (suc n) memory at bus left memory' bus' u r f h = absurd (false≢true (sym f.0))
  takes false later (suc n) memory at bus left memory' bus' u r f h = elim h.2 [
    | inl e ↦
        let q : u.bus ≡ h.0 = r ∙ sym h.1 in
        let c : Then (λ v. S u (event.ByteIn None) v) bus' = free-call (event.ByteIn None) h.0 bus' u q tt e.call in
        (c.0, (u, refl, inl (record { call = c.1; all_left = e.all_left; same = e.same })), c.2)
    | inr x ↦
        let q : u.bus ≡ h.0 = r ∙ sym h.1 in
        let c : Then (λ v. S u (event.ByteIn (Some x.0)) v) x.1 = free-call (event.ByteIn (Some x.0)) h.0 x.1 u q tt x.2 in
        let rest : Then (λ v. TakesIn S false true n (slice_set memory at x.0) (at + 1) c.0 left memory' v) bus' = takes false true n (slice_set memory at x.0) (at + 1) x.1 left memory' bus' c.0 c.2 (refl, refl) x.3 in
        (rest.0, (u, refl, inr (x.0, c.0, c.1, rest.1)), rest.2)
  ]

  -- one byte of a message
  takes-one : (memory : List ℕ) (at : ℕ) (bus : BusState) (left : ℕ) (memory' : List ℕ) (bus' : BusState) (u : TicketBus) → u.bus ≡ bus → TakesIn M true false 1 memory at bus left memory' bus' → Then (λ v. TakesIn S true false 1 memory at u left memory' v) bus'
  takes-one memory at bus left memory' bus' u r h = elim h.2 [
    | inl e ↦
        let q : u.bus ≡ h.0 = r ∙ sym h.1 in
        let c : Then (λ v. S u (event.ByteIn None) v) bus' = free-call (event.ByteIn None) h.0 bus' u q tt e.call in
        (c.0, (u, refl, inl (record { call = c.1; all_left = e.all_left; same = e.same })), c.2)
    | inr x ↦
        let q : u.bus ≡ h.0 = r ∙ sym h.1 in
        let c : Then (λ v. S u (event.ByteIn (Some x.0)) v) x.1 = free-call (event.ByteIn (Some x.0)) h.0 x.1 u q tt x.2 in
        (c.0, (u, refl, inr (x.0, c.0, c.1, (x.3.0, x.3.1, refl))), c.2 ∙ sym x.3.2)
  ]

  -- the phase of the move is odd, and of a message one byte goes
  abbrev IsIn : (count phase : ℕ) → Type 0
  IsIn n ph = (nat_eq (ph % 2) 1 ≡ true) × ((message : Bool) → nat_eq ph 7 ≡ message → message ≡ true → n ≡ 1)

  in-of : (X Y : Type 0) (b : Bool) → b ≡ true → MatchBool b X Y → X
  in-of X Y true e h = h
  in-of X Y false e h = absurd (false≢true e)

  to-in : (X Y : Type 0) (b : Bool) → b ≡ true → X → MatchBool b X Y
  to-in X Y true e h = h
  to-in X Y false e h = absurd (false≢true e)

  by-message : (b : Bool) (n : ℕ) (memory : List ℕ) (at : ℕ) (bus : BusState) (left : ℕ) (memory' : List ℕ) (bus' : BusState) (u : TicketBus) → u.bus ≡ bus → (b ≡ true → n ≡ 1) → TakesIn M b false n memory at bus left memory' bus'
      → Then (λ v. TakesIn S b false n memory at u left memory' v) bus'
  by-message false n memory at bus left memory' bus' u r f h = takes false false n memory at bus left memory' bus' u r (refl, refl) h
  by-message true n memory at bus left memory' bus' u r f h =
      let e : n ≡ 1 = f refl in
      let z : Then (λ v. TakesIn S true false 1 memory at u left memory' v) bus' = takes-one memory at bus left memory' bus' u r (subst (λ (i : ℕ). TakesIn M true false i memory at bus left memory' bus') e h) in
      (z.0, subst (λ (i : ℕ). TakesIn S true false i memory at u left memory' z.0) (sym e) z.1, z.2)

  moved : (ph : ℕ) (old : Chip BusState) (end : StepEnd) (new : Chip BusState) (u : TicketBus) → u.bus ≡ old.bus → IsIn old.regs.dbc ph → nat_eq ph 6 ≡ false → Moves M ph old end new → Then (λ v. Moves S ph (over u old) end (over v new)) new.bus
  moved ph old end new u r f six h =
      let c : Then (λ v. TakesIn S (nat_eq ph 7) false old.regs.dbc old.memory old.regs.dnad u h.left new.memory v) h.bus =
      by-message (nat_eq ph 7) old.regs.dbc old.memory old.regs.dnad old.bus h.left new.memory h.bus u r (f.1 (nat_eq ph 7) refl) (in-of _ _ (nat_eq (ph % 2) 1) f.0 h.carries) in
      let d : Then (λ v. Finishes S ph h.left c.0 (after_bytes ph h.left new.memory old.regs) end (over v new)) new.bus = finishes ph h.left h.bus (after_bytes ph h.left new.memory old.regs) end new c.0 c.2 six h.finishes in
      (d.0, record { left = h.left; bus = c.0; carries = to-in _ _ (nat_eq (ph % 2) 1) f.0 c.1; finishes = d.1 }, d.2)
    where
      finishes : (ph left : ℕ) (bus : BusState) (regs : Regs) (end : StepEnd) (new : Chip BusState) (v : TicketBus) → v.bus ≡ bus → nat_eq ph 6 ≡ false → Finishes M ph left bus regs end new → Then (λ y. Finishes S ph left v regs end (over y new)) new.bus
      finishes ph left bus regs end new v r six h =
          choose _ _ (nat_eq left 0)
          (λ k. (v, (release (nat_eq ph 6) six v, k.1, k.2), r ∙ sym (unreleased (nat_eq ph 6) six k.0)))
          (λ k. (v, (refl, k.1, k.2), r ∙ sym k.0)) h
        where
          release : (b : Bool) → b ≡ false → (v : TicketBus) → ReleasesAtn S b v v
          release true e v = absurd (false≢true (sym e))
          release false e v = refl

          unreleased : (b : Bool) → b ≡ false → ReleasesAtn M b bus new.bus → new.bus ≡ bus
          unreleased true e k = absurd (false≢true (sym e))
          unreleased false e k = k

  -- ---- the phase is asked for
  asks : (shown : Option Phase) (old new : BusState) (u : TicketBus) → u.bus ≡ old → Acks u → old.atn ≡ false → Asks M word shown old new → Then (λ v. Asks S word shown u v) new
  asks shown old new u r k e h =
      let a : Then (λ v. S u event.ClearAck v) h.mid = ack-call old h.mid u r k h.acked in
      let z : h.mid.atn ≡ false = still-calm h.mid.atn (call-atn units live_at old event.ClearAck h.mid tt h.acked) in
      let b : Then (λ v. S a.0 (event.Phase word shown) v) new = phase-call shown h.mid new a.0 a.2 z h.asked in
      (b.0, record { mid = a.0; acked = a.1; asked = b.1 }, b.2)
    where
      still-calm : (b : Bool) → (b ≡ true → old.atn ≡ true) → b ≡ false
      still-calm true f = absurd (false≢true (sym e ∙ f refl))
      still-calm false f = refl

  moves_at : (shown : Option Phase) (ph : ℕ) (old : Chip BusState) (bus : BusState) (end : StepEnd) (new : Chip BusState) (u v : TicketBus) → v.bus ≡ bus → IsIn old.regs.dbc ph → nat_eq ph 6 ≡ false → MovesAt M word shown ph old bus end new
      → Then (λ w. MovesAt S word shown ph (over u old) v end (over w new)) new.bus
  moves_at None ph old bus end new u v r f six h = stops _ (record old { bus = bus }) end new v r h
  moves_at (Some shown) ph old bus end new u v r f six h =
      choose _ _ (nat_eq (phase_code shown) ph) (moved ph (record old { bus = bus }) end new v r f six) (stops _ (record old { bus = bus }) end new v r) h

  block_moves : (ph : ℕ) (old : Chip BusState) (end : StepEnd) (new : Chip BusState) (u : TicketBus) → u.bus ≡ old.bus → Acks u → old.bus.atn ≡ false → IsIn old.regs.dbc ph → nat_eq ph 6 ≡ false → BlockMoves M word ph old end new
      → Then (λ v. BlockMoves S word ph (over u old) end (over v new)) new.bus
  block_moves ph old end new u r k e f six h =
      choose _ _ (nat_eq old.regs.dbc 0) (stops _ old end new u r)
      (choose _ _ (nat_le (old.regs.dnad + old.regs.dbc) (length old.memory))
      (λ x.
      let a : Then (λ v. Asks S word x.shown u v) x.bus = asks x.shown old.bus x.bus u r k e x.asks in
      let b : Then (λ w. MovesAt S word x.shown ph (over u old) a.0 end (over w new)) new.bus = moves_at x.shown ph old x.bus end new u a.0 a.2 f six x.moved in
      (b.0, record { shown = x.shown; bus = a.0; asks = a.1; moved = b.1 }, b.2))
      (stops _ old end new u r)) h

  moves_by : (place : Option ℕ) (ph : ℕ) (old : Chip BusState) (end : StepEnd) (new : Chip BusState) (u : TicketBus) → u.bus ≡ old.bus → Acks u → old.bus.atn ≡ false → nat_eq (ph % 2) 1 ≡ true → nat_eq ph 7 ≡ false → nat_eq ph 6 ≡ false → MovesBy M word place ph old end new
      → Then (λ v. MovesBy S word place ph (over u old) end (over v new)) new.bus
  moves_by None ph old end new u r k e odd plain six h = stops _ old end new u r h
  moves_by (Some x) ph old end new u r k e odd plain six h =
      block_moves ph (loaded (word_at old.memory x % 16777216) (word_at old.memory (x + 4)) old) end new u r k e (odd, λ m q t. absurd (false≢true (sym plain ∙ q ∙ t))) six h

  -- ---- connections
  settles : (s : Settled) (alternate : ℕ) (regs : Regs) (old : Chip BusState) (end : StepEnd) (new : Chip BusState) (u : TicketBus) → u.bus ≡ old.bus → SettlesAs M word s alternate regs old end new → Then (λ v. SettlesAs S word s alternate regs (over u old) end (over v new)) new.bus
  settles Selected alternate regs old end new u r h =
      let a : Then (λ v. S u (event.Select regs.sdid word Selected) v) h.0 = free-call (event.Select regs.sdid word Selected) old.bus h.0 u r tt h.1 in
      let b : Then (λ v. S a.0 (event.SetAtn true) v) new.bus = free-call (event.SetAtn true) h.0 new.bus a.0 a.2 tt h.2 in
      (b.0, (a.0, a.1, b.1, ends _ _ _ end new b.0 h.3), b.2)
  settles (Reselected by) alternate regs old end new u r h =
      let a : Then (λ v. S u (event.Select regs.sdid word (Reselected by)) v) new.bus = free-call (event.Select regs.sdid word (Reselected by)) old.bus new.bus u r tt h.0 in
      (a.0, (a.1, ends _ _ _ end new a.0 h.1), a.2)
  settles TimedOut alternate regs old end new u r h =
      let a : Then (λ v. S u (event.Select regs.sdid word TimedOut) v) new.bus = free-call (event.Select regs.sdid word TimedOut) old.bus new.bus u r tt h.0 in
      (a.0, (a.1, ends _ _ _ end new a.0 h.1), a.2)

  selects_by : (place : Option ℕ) (alternate : ℕ) (old : Chip BusState) (end : StepEnd) (new : Chip BusState) (u : TicketBus) → u.bus ≡ old.bus → SelectsBy M word place alternate old end new → Then (λ v. SelectsBy S word place alternate (over u old) end (over v new)) new.bus
  selects_by None alternate old end new u r h = stops _ old end new u r h
  selects_by (Some e) alternate old end new u r h =
      let s : Then (λ v. SettlesAs S word h.0 alternate (with_table (word_at old.memory e) old.regs) (over u old) end (over v new)) new.bus = settles h.0 alternate (with_table (word_at old.memory e) old.regs) old end new u r h.1 in
      (s.0, (h.0, s.1), s.2)

  waits_at : (gone : Bool) (old : Chip BusState) (end : StepEnd) (new : Chip BusState) (u v : TicketBus) → WaitsAt gone old end new → WaitsAt gone (over u old) end (over v new)
  waits_at true old end new u v h = ends _ _ _ end new v h
  waits_at false old end new u v h = ends _ _ _ end new v h

  -- a reselection; where nobody comes, the step leaves all
  reselects_by : (by : Option ℕ) (before old : Chip BusState) (end : StepEnd) (new : Chip BusState) (u : TicketBus) → u.bus ≡ old.bus → before.bus ≡ old.bus → M old.bus (event.Reselect word by) new.bus → ReselectsBy by before old end new
      → Then (λ v. S u (event.Reselect word by) v × ReselectsBy by (over u before) (over u old) end (over v new)) new.bus
  reselects_by (Some target) before old end new u r b m h =
      let c : Then (λ v. S u (event.Reselect word (Some target)) v) new.bus = free-call (event.Reselect word (Some target)) old.bus new.bus u r tt m in
      (c.0, (c.1, ends _ _ _ end new c.0 h), c.2)
  reselects_by None before old end new u r b m h =
      let q : new.bus ≡ old.bus = ap (λ (x : Chip BusState). x.bus) h.1 ∙ b in
      let z : S u (event.Reselect word None) (after u (event.Reselect word None) new.bus) = called u (event.Reselect word None) new.bus (subst (λ (x : BusState). M x (event.Reselect word None) new.bus) (sym r) m) (λ i c. tt) refl in
      let same : after u (event.Reselect word None) new.bus ≡ u = ap (λ (x : BusState). record { bus = x; tickets = u.tickets; spare = u.spare }) (q ∙ sym r) in
      (u, (subst (λ (v : TicketBus). S u (event.Reselect word None) v) same z, (h.0, ap (λ (x : Chip BusState). over u x) h.1)), r ∙ sym q)

  reselects : (alternate : ℕ) (before old : Chip BusState) (end : StepEnd) (new : Chip BusState) (u : TicketBus) → before.bus ≡ old.bus → u.bus ≡ old.bus → Reselects M word alternate before old end new → Then (λ v. Reselects S word alternate (over u before) (over u old) end (over v new)) new.bus
  reselects alternate before old end new u b r h =
      choose _ _ old.regs.con (stops _ old end new u r)
      (choose _ _ old.regs.sigp (becomes _ old end new u r)
      (λ x. let c = reselects_by x.0 before old end new u r b x.1 x.2 in (c.0, (x.0, c.1.0, c.1.1), c.2))) h

  -- ---- transfers
  decides : (on : Condition) (sfbr : ℕ) (old : BusState) (d : Option Bool) (new : BusState) (u : TicketBus) → u.bus ≡ old → Acks u → (HasPhase on → old.atn ≡ false) → Decides M word on sfbr old d new → Then (λ v. Decides S word on sfbr u d v) new
  decides condition.Always sfbr old d new u r k e h = (u, (h.0, refl), r ∙ sym h.1)
  decides (condition.Byte negated mask value) sfbr old d new u r k e h = (u, (h.0, refl), r ∙ sym h.1)
  decides (condition.Phase true negated code) sfbr old d new u r k e h =
      let a : Then (λ v. Asks S word h.0 u v) new = asks h.0 old new u r k (e tt) h.1 in (a.0, (h.0, a.1, h.2), a.2)
  decides (condition.Phase false negated code) sfbr old d new u r k e h =
      let c : S u (event.Shown h.0) (after u (event.Shown h.0) u.bus) = called u (event.Shown h.0) u.bus (subst (λ (b : BusState). M b (event.Shown h.0) b) (sym r) h.1) (λ i c. tt) refl in
      (u, (h.0, c, refl, h.3), r ∙ sym h.2)

  transfers_at : (d : Option Bool) (how : StepEnd) (regs : Regs) (old : Chip BusState) (end : StepEnd) (new : Chip BusState) (u v : TicketBus) → TransfersAt d how regs old end new → TransfersAt d how regs (over u old) end (over v new)
  transfers_at None how regs old end new u v h = ends _ _ _ end new v h
  transfers_at (Some true) how regs old end new u v h = ends _ _ _ end new v h
  transfers_at (Some false) how regs old end new u v h = ends _ _ _ end new v h

  transfers : (on : Condition) (how : StepEnd) (regs : Regs) (old : Chip BusState) (end : StepEnd) (new : Chip BusState) (u : TicketBus) → u.bus ≡ old.bus → Acks u → (HasPhase on → old.bus.atn ≡ false) → Transfers M word on how regs old end new
      → Then (λ v. Transfers S word on how regs (over u old) end (over v new)) new.bus
  transfers on how regs old end new u r k e h =
      let d : Then (λ v. Decides S word on old.regs.sfbr u h.decision v) new.bus = decides on old.regs.sfbr old.bus h.decision new.bus u r k e h.decides in
      (d.0, record { decision = h.decision; decides = d.1; transfers = transfers_at h.decision how regs old end new u d.0 h.transfers }, d.2)

  -- ---- memory
  loads_at : (place : Option ℕ) (register n : ℕ) (old : Chip BusState) (end : StepEnd) (new : Chip BusState) (u : TicketBus) → u.bus ≡ old.bus → LoadsAt place register n old end new → Then (λ v. LoadsAt place register n (over u old) end (over v new)) new.bus
  loads_at None register n old end new u r h = stops _ old end new u r h
  loads_at (Some a) register n old end new u r h = becomes _ old end new u r h

  stores_at : (place : Option ℕ) (register n : ℕ) (old : Chip BusState) (end : StepEnd) (new : Chip BusState) (u : TicketBus) → u.bus ≡ old.bus → StoresAt place register n old end new → Then (λ v. StoresAt place register n (over u old) end (over v new)) new.bus
  stores_at None register n old end new u r h = stops _ old end new u r h
  stores_at (Some a) register n old end new u r h = becomes _ _ end new u r h

  -- ---- each row
  pub finds : (x : Op) → IsPlain x → (before old : Chip BusState) (end : StepEnd) (new : Chip BusState) (u : TicketBus) → before.bus ≡ old.bus → u.bus ≡ old.bus → Acks u → (Asking x → old.bus.atn ≡ false) → Does M word x before old end new
      → Then (λ v. Does S word x (over u before) (over u old) end (over v new)) new.bus
  finds (op.Move n a ph) f before old end new u b r k e h = block_moves ph (loaded n a old) end new u r k (e tt) (f.0, λ m q t. f.1.0) (not-six ph f.0) h
  finds (op.MoveFrom o ph) f before old end new u b r k e h = moves_by (place_of old.memory old.regs.dsa o 8) ph old end new u r k (e tt) f.0 f.1 (not-six ph f.0) h
  finds (op.Select o alternate) f before old end new u b r k e h = choose _ _ old.regs.con (stops _ old end new u r) (selects_by (place_of old.memory old.regs.dsa o 4) alternate old end new u r) h
  finds op.WaitDisconnect f before old end new u b r k e h =
      let a : Then (λ v. S u (event.Leave word h.0) v) new.bus = leave-call h.0 old.bus new.bus u r (e tt) h.1 in
      (a.0, (h.0, a.1, waits_at h.0 old end new u a.0 h.2), a.2)
  finds (op.WaitReselect alternate) f before old end new u b r k e h = reselects alternate before old end new u b r h
  finds (op.Set ack true) f before old end new u b r k e h =
      let a : Then (λ v. S u (event.SetAtn true) v) new.bus = free-call (event.SetAtn true) old.bus new.bus u r tt h.asserts in
      (a.0, record { asserts = a.1; ends = ends _ _ _ end new a.0 h.ends }, a.2)
  finds (op.Set ack false) f before old end new u b r k e h = (u, record { asserts = refl; ends = ends _ _ _ end new u h.ends }, r ∙ sym h.asserts)
  finds (op.Clear ack true) f before old end new u b r k e h = absurd f
  finds (op.Clear true false) f before old end new u b r k e h =
      let q : u.bus ≡ h.mid = r ∙ sym h.atn_first in
      let a : Then (λ v. S u event.ClearAck v) new.bus = ack-call h.mid new.bus u q k h.ack_then in
      (a.0, record { mid = u; atn_first = refl; ack_then = a.1; ends = ends _ _ _ end new a.0 h.ends }, a.2)
  finds (op.Clear false false) f before old end new u b r k e h =
      (u, record { mid = u; atn_first = refl; ack_then = refl; ends = ends _ _ _ end new u h.ends }, r ∙ sym h.atn_first ∙ sym h.ack_then)
  finds (op.FromSfbr ch d register) f before old end new u b r k e h = becomes _ old end new u r h
  finds (op.ToSfbr register ch d) f before old end new u b r k e h = becomes _ old end new u r h
  finds (op.Modify register ch d) f before old end new u b r k e h = becomes _ old end new u r h
  finds (op.Put d register) f before old end new u b r k e h = becomes _ old end new u r h
  finds (op.Jump on a) f before old end new u b r k e h = transfers on _ _ old end new u r k e h
  finds (op.Call on a) f before old end new u b r k e h = transfers on _ _ old end new u r k e h
  finds (op.Return on) f before old end new u b r k e h = transfers on _ _ old end new u r k e h
  finds (op.Int on vector) f before old end new u b r k e h = transfers on _ _ old end new u r k e h
  finds (op.IntFly on) f before old end new u b r k e h = transfers on _ _ old end new u r k e h
  finds op.Nop f before old end new u b r k e h = becomes _ old end new u r h
  finds (op.MoveMemory n s t) f before old end new u b r k e h =
      choose _ _ (nat_eq (s % 4) (t % 4)) (choose _ _ (nat_le (s + n) (length old.memory) && nat_le (t + n) (length old.memory)) (becomes _ _ end new u r) (stops _ old end new u r)) (stops _ old end new u r) h
  finds (op.Load register n place) f before old end new u b r k e h =
      choose _ _ (nat_eq (low_bits old.regs.dsa place) (register % 4)) (loads_at (address_of old.memory old.regs.dsa place n) register n old end new u r) (stops _ old end new u r) h
  finds (op.Store register n place) f before old end new u b r k e h =
      choose _ _ (nat_eq (low_bits old.regs.dsa place) (register % 4)) (stores_at (address_of old.memory old.regs.dsa place n) register n old end new u r) (stops _ old end new u r) h
