-- A block move of an even phase beside the tickets: each of its calls finds what it asks, where an invariant says so byte by byte.
use Rattle.std.proofs.Common.{◌≡◌, ℕ, zero, suc, ◌+◌, ◌%◌, Bool, true, false, nat_eq, nat_le, Option, Some, None, List, length, slice_index, MatchBool, inl, inr, refl, sym, ap, subst, ◌∙◌, arith}
use Rattle.std.proofs.lemmas.Bool.{false≢true}
use Rattle.std.proofs.lemmas.Bool.Decides.{nat_tests}
use Rattle.scsi_words.specs.Phases.{phase_code}
use Rattle.bench_words.specs.Memory.{word_at}
use Rattle.scsi_words.specs.declared.phases.kinds.Phase.{Phase}
use Rattle.rig_types.specs.declared.rig.Unit.{Unit as RigUnit}
use Rattle.chip_regs.specs.declared.registers.Regs.{Regs}
use Rattle.chip_regs.specs.Registers.{stop_with}
use Rattle.chip_regs.specs.declared.registers.Cause.TheVariants.{Ma}
use Rattle.chip_step.specs.Event as event
use Rattle.chip_step.specs.Event.{Event}
use Rattle.chip_step.specs.Chip.{Chip}
use Rattle.chip_step.specs.Bytes.{GoesOut}
use Rattle.chip_step.specs.Blocks.{loaded, after_bytes, ReleasesAtn, Finishes, Moves, Asks, MovesAt, BlockMoves, MovesBy}
use Rattle.chip_step.specs.declared.outcome.StepEnd.{StepEnd}
use Rattle.chip_step.specs.declared.outcome.StepEnd.TheVariants.{Ran, Stopped}
use Rattle.chip_rows.specs.Following.{over}
use Rattle.target_law.specs.declared.nexus.Nexus.{Nexus}
use Rattle.bus_law.specs.Bus.{BusState}
use Rattle.bus_law.specs.Moves.{moves}
use Rattle.ticket_fate.specs.Tickets.{Plan}
use Rattle.bus_events.specs.Needs.{Needs}
use Rattle.bus_events.specs.Tickets.{resets_device}
use Rattle.run_joined.specs.ChipCalls.{TicketBus, Calls}
use Rattle.chip_needs.proofs.FreeCalls.{after, called, choose, stops}

module _ (p : Plan) (units : List RigUnit) (live_at : ℕ → Nexus → Option ℕ) (caused : ℕ → Bool) (word : ℕ) where
  abbrev pub M : BusState → Event → BusState → Type 0
  M = moves units live_at

  abbrev pub S : TicketBus → Event → TicketBus → Type 0
  S = Calls p units live_at caused

  abbrev pub Then : (TicketBus → Type 0) → BusState → Type 0
  Then P y = (v : TicketBus) × P v × (v.bus ≡ y)

  -- the call finds what it asks, and resets no target
  pub record Finds (u : TicketBus) (e : Event) : Type 0 where
    pub needs : Needs p live_at u.bus e u.tickets
    pub resets : resets_device u.bus e ≡ false

  -- what holds after so many of these bytes, and gives each call of a move in the phase what it asks
  pub record Sends (I : ℕ → TicketBus → Type 0) (ph : ℕ) (bytes : ℕ → ℕ) (count : ℕ) : Type 0 where
    pub acks : (u : TicketBus) (y : BusState) → I 0 u → M u.bus event.ClearAck y → Finds u event.ClearAck × I 0 (after p units live_at caused word u event.ClearAck y)
    pub asks : (shown : Option Phase) (u : TicketBus) (y : BusState) → I 0 u → M u.bus (event.Phase word shown) y → Finds u (event.Phase word shown) × I 0 (after p units live_at caused word u (event.Phase word shown) y)
    pub sends : (k : ℕ) (byte : ℕ) (taken : Bool) (u : TicketBus) (y : BusState) → byte ≡ bytes k → I k u → M u.bus (event.ByteOut byte taken) y → Finds u (event.ByteOut byte taken) × I (k + 1) (after p units live_at caused word u (event.ByteOut byte taken) y)
    pub ends : nat_eq ph 6 ≡ true → (u : TicketBus) (y : BusState) → I count u → M u.bus (event.SetAtn false) y → Finds u (event.SetAtn false)

  module _ (I : ℕ → TicketBus → Type 0) (ph : ℕ) (bytes : ℕ → ℕ) (count : ℕ) (s : Sends I ph bytes count) where
    over-bus : (e : Event) (old new : BusState) (u : TicketBus) → u.bus ≡ old → M old e new → M u.bus e new
    over-bus e old new u r m = subst (λ (b : BusState). M b e new) (sym r) m

    made : (e : Event) (new : BusState) (u : TicketBus) → M u.bus e new → Finds u e → S u e (after p units live_at caused word u e new)
    made e new u m f = called p units live_at caused word u e new m f.needs f.resets

    goes : (n k : ℕ) (memory : List ℕ) (at : ℕ) (bus : BusState) (left : ℕ) (bus' : BusState) (u : TicketBus) → ((j : ℕ) → slice_index memory (at + j) ≡ bytes (k + j)) → u.bus ≡ bus → I k u → GoesOut M n memory at bus left bus'
        → Then (λ v. GoesOut S n memory at u left v × (left ≡ 0 → I (k + n) v)) bus'
    goes zero k memory at bus left bus' u b r i h = (u, ((h.0, refl), λ z. (let e : k + 0 ≡ k = omega arith in subst (λ (x : ℕ). I x u) (sym e) i)), r ∙ sym h.1)
    goes (suc n) k memory at bus left bus' u b r i h = elim h [
      | inl x ↦
          let m = over-bus (event.ByteOut (slice_index memory at) false) bus bus' u r x.0 in
          let f = s.sends k (slice_index memory at) false u bus' (first b) i m in
          (after p units live_at caused word u (event.ByteOut (slice_index memory at) false) bus', (inl (made (event.ByteOut (slice_index memory at) false) bus' u m f.0, x.1), λ z. absurd (omega (arith, z, x.1))), refl)
      | inr x ↦
          let m = over-bus (event.ByteOut (slice_index memory at) true) bus x.0 u r x.1 in
          let f = s.sends k (slice_index memory at) true u x.0 (first b) i m in
          let v = after p units live_at caused word u (event.ByteOut (slice_index memory at) true) x.0 in
          let rest : Then (λ y. GoesOut S n memory (at + 1) v left y × (left ≡ 0 → I (k + 1 + n) y)) bus' = goes n (k + 1) memory (at + 1) x.0 left bus' v (later b) refl f.1 x.2 in
          (rest.0, (inr (v, made (event.ByteOut (slice_index memory at) true) x.0 u m f.0, rest.1.0), λ z. (let e : k + 1 + n ≡ k + suc n = omega arith in subst (λ (x : ℕ). I x rest.0) e (rest.1.1 z))), rest.2)
    ]
      where
        first : ((j : ℕ) → slice_index memory (at + j) ≡ bytes (k + j)) → slice_index memory at ≡ bytes k
        first b = let e : at + 0 ≡ at = omega arith in let f : k + 0 ≡ k = omega arith in ap (slice_index memory) (sym e) ∙ b 0 ∙ ap bytes f

        later : ((j : ℕ) → slice_index memory (at + j) ≡ bytes (k + j)) → (j : ℕ) → slice_index memory (at + 1 + j) ≡ bytes (k + 1 + j)
        later b j = let e : at + 1 + j ≡ at + (1 + j) = omega arith in let f : k + (1 + j) ≡ k + 1 + j = omega arith in ap (slice_index memory) e ∙ b (1 + j) ∙ ap bytes f

    releases : (b : Bool) (old new : BusState) (u : TicketBus) → nat_eq ph 6 ≡ b → u.bus ≡ old → I count u → ReleasesAtn M b old new → Then (λ v. ReleasesAtn S b u v) new
    releases true old new u q r i h =
        let m = over-bus (event.SetAtn false) old new u r h in
        (after p units live_at caused word u (event.SetAtn false) new, made (event.SetAtn false) new u m (s.ends q u new i m), refl)
    releases false old new u q r i h = (u, refl, r ∙ sym h)

    finishes : (left : ℕ) (bus : BusState) (regs : Regs) (end : StepEnd) (new : Chip BusState) (v : TicketBus) → v.bus ≡ bus → (left ≡ 0 → I count v) → Finishes M ph left bus regs end new → Then (λ y. Finishes S ph left v regs end (over y new)) new.bus
    finishes left bus regs end new v r i h = by (nat_eq left 0) refl h
      where
        by : (b : Bool) → nat_eq left 0 ≡ b → MatchBool b (ReleasesAtn M (nat_eq ph 6) bus new.bus × (end ≡ Ran) × (new.regs ≡ regs)) ((new.bus ≡ bus) × (end ≡ Stopped Ma) × (new.regs ≡ stop_with Ma regs))
            → Then (λ y. MatchBool b (ReleasesAtn S (nat_eq ph 6) v y × (end ≡ Ran) × (new.regs ≡ regs)) ((y ≡ v) × (end ≡ Stopped Ma) × (new.regs ≡ stop_with Ma regs))) new.bus
        by true q k = let z : left ≡ 0 = grind (arith, nat_tests) in let a : Then (λ y. ReleasesAtn S (nat_eq ph 6) v y) new.bus = releases (nat_eq ph 6) bus new.bus v refl r (i z) k.0 in (a.0, (a.1, k.1, k.2), a.2)
        by false q k = (v, (refl, k.1, k.2), r ∙ sym k.0)

    out-of : (X Y : Type 0) (b : Bool) → b ≡ false → MatchBool b X Y → Y
    out-of X Y true e h = absurd (false≢true (sym e))
    out-of X Y false e h = h

    to-out : (X Y : Type 0) (b : Bool) → b ≡ false → Y → MatchBool b X Y
    to-out X Y true e h = absurd (false≢true (sym e))
    to-out X Y false e h = h

    moved : (old : Chip BusState) (end : StepEnd) (new : Chip BusState) (u : TicketBus) → ((j : ℕ) → slice_index old.memory (old.regs.dnad + j) ≡ bytes j) → u.bus ≡ old.bus → I 0 u → nat_eq (ph % 2) 1 ≡ false → old.regs.dbc ≡ count → Moves M ph old end new → Then (λ v. Moves S ph (over u old) end (over v new)) new.bus
    moved old end new u b r i even size h =
        let k = out-of _ _ (nat_eq (ph % 2) 1) even h.carries in
        let c : Then (λ v. GoesOut S old.regs.dbc old.memory old.regs.dnad u h.left v × (h.left ≡ 0 → I (0 + old.regs.dbc) v)) h.bus = goes old.regs.dbc 0 old.memory old.regs.dnad old.bus h.left h.bus u (λ j. b j ∙ ap bytes (let e : j ≡ 0 + j = omega arith in e)) r i k.0 in
        let d : Then (λ v. Finishes S ph h.left c.0 (after_bytes ph h.left new.memory old.regs) end (over v new)) new.bus =
        finishes h.left h.bus (after_bytes ph h.left new.memory old.regs) end new c.0 c.2 (λ z. subst (λ (x : ℕ). I x c.0) (let e : 0 + old.regs.dbc ≡ count = omega (arith, size) in e) (c.1.1 z)) h.finishes in
        (d.0, record { left = h.left; bus = c.0; carries = to-out _ _ (nat_eq (ph % 2) 1) even (c.1.0, k.1); finishes = d.1 }, d.2)

    asked : (shown : Option Phase) (old new : BusState) (u : TicketBus) → u.bus ≡ old → I 0 u → Asks M word shown old new → Then (λ v. Asks S word shown u v × I 0 v) new
    asked shown old new u r i h =
        let m = over-bus event.ClearAck old h.mid u r h.acked in
        let a = s.acks u h.mid i m in
        let v = after p units live_at caused word u event.ClearAck h.mid in
        let b = s.asks shown v new a.1 h.asked in
        (after p units live_at caused word v (event.Phase word shown) new, (record { mid = v; acked = made event.ClearAck h.mid u m a.0; asked = made (event.Phase word shown) new v h.asked b.0 }, b.1), refl)

    moves-at : (shown : Option Phase) (old : Chip BusState) (bus : BusState) (end : StepEnd) (new : Chip BusState) (u v : TicketBus) → ((j : ℕ) → slice_index old.memory (old.regs.dnad + j) ≡ bytes j) → v.bus ≡ bus → I 0 v → nat_eq (ph % 2) 1 ≡ false → old.regs.dbc ≡ count → MovesAt M word shown ph old bus end new
        → Then (λ w. MovesAt S word shown ph (over u old) v end (over w new)) new.bus
    moves-at None old bus end new u v b r i even size h = stops p units live_at caused word _ (record old { bus = bus }) end new v r h
    moves-at (Some shown) old bus end new u v b r i even size h =
        choose _ _ (nat_eq (phase_code shown) ph) (moved (record old { bus = bus }) end new v b r i even size) (stops p units live_at caused word _ (record old { bus = bus }) end new v r) h

    pub block-sends : (old : Chip BusState) (end : StepEnd) (new : Chip BusState) (u : TicketBus) → ((j : ℕ) → slice_index old.memory (old.regs.dnad + j) ≡ bytes j) → u.bus ≡ old.bus → I 0 u → nat_eq (ph % 2) 1 ≡ false → old.regs.dbc ≡ count → BlockMoves M word ph old end new
        → Then (λ v. BlockMoves S word ph (over u old) end (over v new)) new.bus
    block-sends old end new u b r i even size h =
        choose _ _ (nat_eq old.regs.dbc 0) (stops p units live_at caused word _ old end new u r)
        (choose _ _ (nat_le (old.regs.dnad + old.regs.dbc) (length old.memory))
        (λ x.
        let a : Then (λ v. Asks S word x.shown u v × I 0 v) x.bus = asked x.shown old.bus x.bus u r i x.asks in
        let d : Then (λ w. MovesAt S word x.shown ph (over u old) a.0 end (over w new)) new.bus = moves-at x.shown old x.bus end new u a.0 b a.2 a.1.1 even size x.moved in
        (d.0, record { shown = x.shown; bus = a.0; asks = a.1.0; moved = d.1 }, d.2))
        (stops p units live_at caused word _ old end new u r)) h

    -- the form FROM, where the entry has this count
    pub entry-sends : (place : Option ℕ) (old : Chip BusState) (end : StepEnd) (new : Chip BusState) (u : TicketBus) → ((e : ℕ) → place ≡ Some e → (j : ℕ) → slice_index old.memory (word_at old.memory (e + 4) + j) ≡ bytes j) → u.bus ≡ old.bus → I 0 u → nat_eq (ph % 2) 1 ≡ false → ((e : ℕ) → place ≡ Some e → word_at old.memory e % 16777216 ≡ count) → MovesBy M word place ph old end new
        → Then (λ v. MovesBy S word place ph (over u old) end (over v new)) new.bus
    entry-sends None old end new u b r i even size h = stops p units live_at caused word _ old end new u r h
    entry-sends (Some e) old end new u b r i even size h = block-sends (loaded (word_at old.memory e % 16777216) (word_at old.memory (e + 4)) old) end new u (b e refl) r i even (size e refl) h
