-- A step over one bus is one over another where their states stay related: the walk over the instructions.
use Rattle.std.proofs.Common.{◌≡◌, ℕ, zero, suc, ◌+◌, ◌%◌, Bool, true, false, ◌&&◌, nat_eq, nat_le, Option, Some, None, List, length, slice_index, slice_set, MatchBool, refl, sym, ap, subst, ◌∙◌, inl, inr}
use Rattle.scsi_words.specs.Phases.{phase_code}
use Rattle.bench_words.specs.Memory.{word_at}
use Rattle.scsi_words.specs.declared.phases.kinds.Phase.{Phase}
use Rattle.scripts_ops.specs.declared.values.Op.{Op}
use Rattle.scripts_ops.specs.declared.values.Op.TheVariants as op
use Rattle.scripts_ops.specs.declared.values.Condition.{Condition}
use Rattle.scripts_ops.specs.declared.values.Condition.TheVariants as condition
use Rattle.chip_regs.specs.declared.registers.Regs.{Regs}
use Rattle.chip_regs.specs.declared.registers.Cause.{Cause}
use Rattle.chip_step.specs.Event as event
use Rattle.chip_step.specs.Event.{Event}
use Rattle.chip_step.specs.Chip.{Chip, Ends, Becomes, Stops}
use Rattle.chip_step.specs.Addresses.{place_of, address_of, low_bits}
use Rattle.chip_step.specs.Bytes.{Acked, TakesIn, GoesOut}
use Rattle.chip_step.specs.Blocks.{loaded, after_bytes, ReleasesAtn, Carries, Finishes, Moves, Asks, MovesAt, AsksAndMoves, BlockMoves, MovesBy}
use Rattle.chip_step.specs.Connection.{with_table, WaitsAt, ReselectsBy, AssertsAtn, ReleasesAck, SettlesAs, SelectsBy, Reselects}
use Rattle.chip_step.specs.Transfers.{TransfersAt, Decides, Transfers}
use Rattle.chip_step.specs.Memory.{LoadsAt, StoresAt}
use Rattle.chip_step.specs.Instructions.{Does}
use Rattle.chip_step.specs.Step as chip_step
use Rattle.chip_step.specs.Step.{ChipStep, after_fetch}
use Rattle.chip_step.specs.declared.scsi_bus.Settled.{Settled}
use Rattle.chip_step.specs.declared.scsi_bus.Settled.TheVariants.{Selected, Reselected, TimedOut}
use Rattle.chip_step.specs.declared.outcome.StepEnd.{StepEnd}
use Rattle.chip_rows.specs.Following.{Follows, StepsFollow, over}

-- some state of the second bus, of which a fact holds, that is related
abbrev Then : {A B : Type 0} → (A → B → Type 0) → A → (B → Type 0) → Type 0
Then {A} {B} related x P = (v : B) × P v × related x v

choose : {A B : Type 0} (related : A → B → Type 0) (y : A) (P Q : B → Type 0) (b : Bool) {X Y : Type 0} →
    (X → (v : B) × P v × related y v) → (Y → (v : B) × Q v × related y v) → MatchBool b X Y → (v : B) × MatchBool b (P v) (Q v) × related y v
choose related y P Q true f g h = f h
choose related y P Q false f g h = g h

module _ {A B : Type 0} (first : A → Event → A → Type 0) (second : B → Event → B → Type 0) (related : A → B → Type 0) (follows : Follows first second related) where
  call : (e : Event) (old new : A) (u : B) → related old u → first old e new → Then related new (λ v. second u e v)
  call e old new u r h = let c = follows old u e new r h in (c.0, c.1, c.2)

  kept : (old new : A) (u : B) → related old u → new ≡ old → related new u
  kept old new u r e = subst (λ (x : A). related x u) (sym e) r

  stays : (old new : A) (u : B) → related old u → new ≡ old → Then related new (λ v. v ≡ u)
  stays old new u r e = (u, refl, kept old new u r e)

  ends : (how : StepEnd) (memory : List ℕ) (regs : Regs) (end : StepEnd) (new : Chip A) (v : B) → Ends how memory regs end new → Ends how memory regs end (over v new)
  ends how memory regs end new v h = record { is = h.is; memory_is = h.memory_is; regs_are = h.regs_are }

  becomes : (regs : Regs) (old : Chip A) (end : StepEnd) (new : Chip A) (u : B) → related old.bus u → Becomes regs old end new → Then related new.bus (λ v. Becomes regs (over u old) end (over v new))
  becomes regs old end new u r h = (u, record { ends = ends _ _ _ end new u h.ends; bus_is = refl }, kept old.bus new.bus u r h.bus_is)

  stops : (cause : Cause) (old : Chip A) (end : StepEnd) (new : Chip A) (u : B) → related old.bus u → Stops cause old end new → Then related new.bus (λ v. Stops cause (over u old) end (over v new))
  stops cause old end new u r h = (u, record { ends = ends _ _ _ end new u h.ends; bus_is = refl }, kept old.bus new.bus u r h.bus_is)

  acked : (b : Bool) (old new : A) (u : B) → related old u → Acked first b old new → Then related new (λ v. Acked second b u v)
  acked true old new u r h = call event.ClearAck old new u r h
  acked false old new u r h = stays old new u r h

  releases_atn : (b : Bool) (old new : A) (u : B) → related old u → ReleasesAtn first b old new → Then related new (λ v. ReleasesAtn second b u v)
  releases_atn true old new u r h = call (event.SetAtn false) old new u r h
  releases_atn false old new u r h = stays old new u r h

  asserts_atn : (b : Bool) (old new : A) (u : B) → related old u → AssertsAtn first b old new → Then related new (λ v. AssertsAtn second b u v)
  asserts_atn true old new u r h = call (event.SetAtn true) old new u r h
  asserts_atn false old new u r h = stays old new u r h

  releases_ack : (b : Bool) (old new : A) (u : B) → related old u → ReleasesAck first b old new → Then related new (λ v. ReleasesAck second b u v)
  releases_ack true old new u r h = call event.ClearAck old new u r h
  releases_ack false old new u r h = stays old new u r h

  -- ---- block moves

  takes : (message later : Bool) (n : ℕ) (memory : List ℕ) (at : ℕ) (bus : A) (left : ℕ) (memory' : List ℕ) (bus' : A) (u : B) → related bus u → TakesIn first message later n memory at bus left memory' bus'
      → Then related bus' (λ v. TakesIn second message later n memory at u left memory' v)
  takes message later zero memory at bus left memory' bus' u r h = let s = stays bus bus' u r h.2 in (s.0, (h.0, h.1, s.1), s.2)
  takes message later (suc n) memory at bus left memory' bus' u r h =
      let a : Then related h.0 (λ v. Acked second (message && later) u v) = acked (message && later) bus h.0 u r h.1 in
      elim h.2 [
        | inl e ↦
            let c : Then related bus' (λ v. second a.0 (event.ByteIn None) v) = call (event.ByteIn None) h.0 bus' a.0 a.2 e.call in
            (c.0, (a.0, a.1, inl (record { call = c.1; all_left = e.all_left; same = e.same })), c.2)
        | inr x ↦
            let c : Then related x.1 (λ v. second a.0 (event.ByteIn (Some x.0)) v) = call (event.ByteIn (Some x.0)) h.0 x.1 a.0 a.2 x.2 in
            let rest : Then related bus' (λ v. TakesIn second message true n (slice_set memory at x.0) (at + 1) c.0 left memory' v) = takes message true n (slice_set memory at x.0) (at + 1) x.1 left memory' bus' c.0 c.2 x.3 in
            (rest.0, (a.0, a.1, inr (x.0, c.0, c.1, rest.1)), rest.2)
      ]

  goes : (n : ℕ) (memory : List ℕ) (at : ℕ) (bus : A) (left : ℕ) (bus' : A) (u : B) → related bus u → GoesOut first n memory at bus left bus' → Then related bus' (λ v. GoesOut second n memory at u left v)
  goes zero memory at bus left bus' u r h = let s = stays bus bus' u r h.1 in (s.0, (h.0, s.1), s.2)
  goes (suc n) memory at bus left bus' u r h = elim h [
    | inl x ↦
        let c : Then related bus' (λ v. second u (event.ByteOut (slice_index memory at) false) v) = call (event.ByteOut (slice_index memory at) false) bus bus' u r x.0 in
        (c.0, inl (c.1, x.1), c.2)
    | inr x ↦
        let c : Then related x.0 (λ v. second u (event.ByteOut (slice_index memory at) true) v) = call (event.ByteOut (slice_index memory at) true) bus x.0 u r x.1 in
        let rest : Then related bus' (λ v. GoesOut second n memory (at + 1) c.0 left v) = goes n memory (at + 1) x.0 left bus' c.0 c.2 x.2 in
        (rest.0, inr (c.0, c.1, rest.1), rest.2)
  ]

  carries : (phase : ℕ) (old : Chip A) (left : ℕ) (memory : List ℕ) (bus : A) (u : B) → related old.bus u → Carries first phase old left memory bus → Then related bus (λ v. Carries second phase (over u old) left memory v)
  carries phase old left memory bus u r h =
      choose related bus _ _ (nat_eq (phase % 2) 1)
      (takes (nat_eq phase 7) false old.regs.dbc old.memory old.regs.dnad old.bus left memory bus u r)
      (λ g. let w : Then related bus (λ v. GoesOut second old.regs.dbc old.memory old.regs.dnad u left v) = goes old.regs.dbc old.memory old.regs.dnad old.bus left bus u r g.0 in (w.0, (w.1, g.1), w.2))
      h

  finishes : (phase left : ℕ) (bus : A) (regs : Regs) (end : StepEnd) (new : Chip A) (u : B) → related bus u → Finishes first phase left bus regs end new → Then related new.bus (λ v. Finishes second phase left u regs end (over v new))
  finishes phase left bus regs end new u r h =
      choose related new.bus _ _ (nat_eq left 0)
      (λ g. let w : Then related new.bus (λ v. ReleasesAtn second (nat_eq phase 6) u v) = releases_atn (nat_eq phase 6) bus new.bus u r g.0 in (w.0, (w.1, g.1, g.2), w.2))
      (λ g. let w : Then related new.bus (λ v. v ≡ u) = stays bus new.bus u r g.0 in (w.0, (w.1, g.1, g.2), w.2))
      h

  moves : (phase : ℕ) (old : Chip A) (end : StepEnd) (new : Chip A) (u : B) → related old.bus u → Moves first phase old end new → Then related new.bus (λ v. Moves second phase (over u old) end (over v new))
  moves phase old end new u r h =
      let c : Then related h.bus (λ v. Carries second phase (over u old) h.left new.memory v) = carries phase old h.left new.memory h.bus u r h.carries in
      let d : Then related new.bus (λ v. Finishes second phase h.left c.0 (after_bytes phase h.left new.memory old.regs) end (over v new)) = finishes phase h.left h.bus (after_bytes phase h.left new.memory old.regs) end new c.0 c.2 h.finishes in
      (d.0, record { left = h.left; bus = c.0; carries = c.1; finishes = d.1 }, d.2)

  asks : (word : ℕ) (shown : Option Phase) (old new : A) (u : B) → related old u → Asks first word shown old new → Then related new (λ v. Asks second word shown u v)
  asks word shown old new u r h =
      let a : Then related h.mid (λ v. second u event.ClearAck v) = call event.ClearAck old h.mid u r h.acked in
      let b : Then related new (λ v. second a.0 (event.Phase word shown) v) = call (event.Phase word shown) h.mid new a.0 a.2 h.asked in
      (b.0, record { mid = a.0; acked = a.1; asked = b.1 }, b.2)

  moves_at : (word : ℕ) (shown : Option Phase) (phase : ℕ) (old : Chip A) (bus : A) (end : StepEnd) (new : Chip A) (u v : B) → related bus v → MovesAt first word shown phase old bus end new → Then related new.bus (λ w. MovesAt second word shown phase (over u old) v end (over w new))
  moves_at word None phase old bus end new u v r h = stops _ (record old { bus = bus }) end new v r h
  moves_at word (Some shown) phase old bus end new u v r h =
      choose related new.bus _ _ (nat_eq (phase_code shown) phase) (moves phase (record old { bus = bus }) end new v r) (stops _ (record old { bus = bus }) end new v r) h

  asks_and_moves : (word phase : ℕ) (old : Chip A) (end : StepEnd) (new : Chip A) (u : B) → related old.bus u → AsksAndMoves first word phase old end new → Then related new.bus (λ v. AsksAndMoves second word phase (over u old) end (over v new))
  asks_and_moves word phase old end new u r h =
      let a : Then related h.bus (λ v. Asks second word h.shown u v) = asks word h.shown old.bus h.bus u r h.asks in
      let b : Then related new.bus (λ v. MovesAt second word h.shown phase (over u old) a.0 end (over v new)) = moves_at word h.shown phase old h.bus end new u a.0 a.2 h.moved in
      (b.0, record { shown = h.shown; bus = a.0; asks = a.1; moved = b.1 }, b.2)

  block_moves : (word phase : ℕ) (old : Chip A) (end : StepEnd) (new : Chip A) (u : B) → related old.bus u → BlockMoves first word phase old end new → Then related new.bus (λ v. BlockMoves second word phase (over u old) end (over v new))
  block_moves word phase old end new u r h =
      choose related new.bus _ _ (nat_eq old.regs.dbc 0) (stops _ old end new u r)
      (choose related new.bus _ _ (nat_le (old.regs.dnad + old.regs.dbc) (length old.memory)) (asks_and_moves word phase old end new u r) (stops _ old end new u r)) h

  moves_by : (word : ℕ) (place : Option ℕ) (phase : ℕ) (old : Chip A) (end : StepEnd) (new : Chip A) (u : B) → related old.bus u → MovesBy first word place phase old end new → Then related new.bus (λ v. MovesBy second word place phase (over u old) end (over v new))
  moves_by word None phase old end new u r h = stops _ old end new u r h
  moves_by word (Some e) phase old end new u r h = block_moves word phase (loaded (word_at old.memory e % 16777216) (word_at old.memory (e + 4)) old) end new u r h

  -- ---- connections

  settles : (word : ℕ) (s : Settled) (alternate : ℕ) (regs : Regs) (old : Chip A) (end : StepEnd) (new : Chip A) (u : B) → related old.bus u → SettlesAs first word s alternate regs old end new → Then related new.bus (λ v. SettlesAs second word s alternate regs (over u old) end (over v new))
  settles word Selected alternate regs old end new u r h =
      let a : Then related h.0 (λ v. second u (event.Select regs.sdid word Selected) v) = call (event.Select regs.sdid word Selected) old.bus h.0 u r h.1 in
      let b : Then related new.bus (λ v. second a.0 (event.SetAtn true) v) = call (event.SetAtn true) h.0 new.bus a.0 a.2 h.2 in
      (b.0, (a.0, a.1, b.1, ends _ _ _ end new b.0 h.3), b.2)
  settles word (Reselected by) alternate regs old end new u r h =
      let a : Then related new.bus (λ v. second u (event.Select regs.sdid word (Reselected by)) v) = call (event.Select regs.sdid word (Reselected by)) old.bus new.bus u r h.0 in
      (a.0, (a.1, ends _ _ _ end new a.0 h.1), a.2)
  settles word TimedOut alternate regs old end new u r h =
      let a : Then related new.bus (λ v. second u (event.Select regs.sdid word TimedOut) v) = call (event.Select regs.sdid word TimedOut) old.bus new.bus u r h.0 in
      (a.0, (a.1, ends _ _ _ end new a.0 h.1), a.2)

  selects_by : (word : ℕ) (place : Option ℕ) (alternate : ℕ) (old : Chip A) (end : StepEnd) (new : Chip A) (u : B) → related old.bus u → SelectsBy first word place alternate old end new → Then related new.bus (λ v. SelectsBy second word place alternate (over u old) end (over v new))
  selects_by word None alternate old end new u r h = stops _ old end new u r h
  selects_by word (Some e) alternate old end new u r h =
      let s : Then related new.bus (λ v. SettlesAs second word h.0 alternate (with_table (word_at old.memory e) old.regs) (over u old) end (over v new)) = settles word h.0 alternate (with_table (word_at old.memory e) old.regs) old end new u r h.1 in
      (s.0, (h.0, s.1), s.2)

  waits_at : (gone : Bool) (old : Chip A) (end : StepEnd) (new : Chip A) (u v : B) → WaitsAt gone old end new → WaitsAt gone (over u old) end (over v new)
  waits_at true old end new u v h = ends _ _ _ end new v h
  waits_at false old end new u v h = ends _ _ _ end new v h

  -- where nobody reselects, both buses are as before
  reselects_by : (target : Option ℕ) (before old : Chip A) (end : StepEnd) (new : Chip A) (u v : B) → before.bus ≡ old.bus → (new.bus ≡ old.bus → v ≡ u) → ReselectsBy target before old end new → ReselectsBy target (over u before) (over u old) end (over v new)
  reselects_by None before old end new u v b same h =
      let e : v ≡ u = same (ap (λ (c : Chip A). c.bus) h.1 ∙ b) in
      (h.0, ap (λ (w : B). over w new) e ∙ ap (λ (c : Chip A). over u c) h.1)
  reselects_by (Some target) before old end new u v b same h = ends _ _ _ end new v h

  reselects : (word alternate : ℕ) (before old : Chip A) (end : StepEnd) (new : Chip A) (u : B) → before.bus ≡ old.bus → related old.bus u → Reselects first word alternate before old end new → Then related new.bus (λ v. Reselects second word alternate (over u before) (over u old) end (over v new))
  reselects word alternate before old end new u b r h =
      choose related new.bus _ _ old.regs.con (stops _ old end new u r)
      (choose related new.bus _ _ old.regs.sigp (becomes _ old end new u r)
      (λ g. let c = follows old.bus u (event.Reselect word g.0) new.bus r g.1 in (c.0, (g.0, c.1, reselects_by g.0 before old end new u c.0 b c.3 g.2), c.2))) h

  -- ---- transfers

  decides : (word : ℕ) (on : Condition) (sfbr : ℕ) (old : A) (d : Option Bool) (new : A) (u : B) → related old u → Decides first word on sfbr old d new → Then related new (λ v. Decides second word on sfbr u d v)
  decides word condition.Always sfbr old d new u r h = let s = stays old new u r h.1 in (s.0, (h.0, s.1), s.2)
  decides word (condition.Byte negated mask value) sfbr old d new u r h = let s = stays old new u r h.1 in (s.0, (h.0, s.1), s.2)
  decides word (condition.Phase true negated code) sfbr old d new u r h =
      let a : Then related new (λ v. Asks second word h.0 u v) = asks word h.0 old new u r h.1 in (a.0, (h.0, a.1, h.2), a.2)
  decides word (condition.Phase false negated code) sfbr old d new u r h =
      let c = follows old u (event.Shown h.0) old r h.1 in
      let seen : second u (event.Shown h.0) u = subst (λ (w : B). second u (event.Shown h.0) w) (c.3 refl) c.1 in
      (u, (h.0, seen, refl, h.3), kept old new u r h.2)

  transfers_at : (d : Option Bool) (how : StepEnd) (regs : Regs) (old : Chip A) (end : StepEnd) (new : Chip A) (u v : B) → TransfersAt d how regs old end new → TransfersAt d how regs (over u old) end (over v new)
  transfers_at None how regs old end new u v h = ends _ _ _ end new v h
  transfers_at (Some true) how regs old end new u v h = ends _ _ _ end new v h
  transfers_at (Some false) how regs old end new u v h = ends _ _ _ end new v h

  transfers : (word : ℕ) (on : Condition) (how : StepEnd) (regs : Regs) (old : Chip A) (end : StepEnd) (new : Chip A) (u : B) → related old.bus u → Transfers first word on how regs old end new → Then related new.bus (λ v. Transfers second word on how regs (over u old) end (over v new))
  transfers word on how regs old end new u r h =
      let d : Then related new.bus (λ v. Decides second word on old.regs.sfbr u h.decision v) = decides word on old.regs.sfbr old.bus h.decision new.bus u r h.decides in
      (d.0, record { decision = h.decision; decides = d.1; transfers = transfers_at h.decision how regs old end new u d.0 h.transfers }, d.2)

  -- ---- memory

  loads_at : (place : Option ℕ) (register n : ℕ) (old : Chip A) (end : StepEnd) (new : Chip A) (u : B) → related old.bus u → LoadsAt place register n old end new → Then related new.bus (λ v. LoadsAt place register n (over u old) end (over v new))
  loads_at None register n old end new u r h = stops _ old end new u r h
  loads_at (Some a) register n old end new u r h = becomes _ old end new u r h

  stores_at : (place : Option ℕ) (register n : ℕ) (old : Chip A) (end : StepEnd) (new : Chip A) (u : B) → related old.bus u → StoresAt place register n old end new → Then related new.bus (λ v. StoresAt place register n (over u old) end (over v new))
  stores_at None register n old end new u r h = stops _ old end new u r h
  stores_at (Some a) register n old end new u r h = becomes _ _ end new u r h

  -- ---- each row

  does : (word : ℕ) (x : Op) (before old : Chip A) (end : StepEnd) (new : Chip A) (u : B) → before.bus ≡ old.bus → related old.bus u → Does first word x before old end new → Then related new.bus (λ v. Does second word x (over u before) (over u old) end (over v new))
  does word (op.Move n a p) before old end new u b r h = block_moves word p (loaded n a old) end new u r h
  does word (op.MoveFrom o p) before old end new u b r h = moves_by word (place_of old.memory old.regs.dsa o 8) p old end new u r h
  does word (op.Select o alternate) before old end new u b r h = choose related new.bus _ _ old.regs.con (stops _ old end new u r) (selects_by word (place_of old.memory old.regs.dsa o 4) alternate old end new u r) h
  does word op.WaitDisconnect before old end new u b r h =
      let a : Then related new.bus (λ v. second u (event.Leave word h.0) v) = call (event.Leave word h.0) old.bus new.bus u r h.1 in
      (a.0, (h.0, a.1, waits_at h.0 old end new u a.0 h.2), a.2)
  does word (op.WaitReselect alternate) before old end new u b r h = reselects word alternate before old end new u b r h
  does word (op.Set ack atn) before old end new u b r h =
      let a : Then related new.bus (λ v. AssertsAtn second atn u v) = asserts_atn atn old.bus new.bus u r h.asserts in
      (a.0, record { asserts = a.1; ends = ends _ _ _ end new a.0 h.ends }, a.2)
  does word (op.Clear ack atn) before old end new u b r h =
      let a : Then related h.mid (λ v. ReleasesAtn second atn u v) = releases_atn atn old.bus h.mid u r h.atn_first in
      let c : Then related new.bus (λ v. ReleasesAck second ack a.0 v) = releases_ack ack h.mid new.bus a.0 a.2 h.ack_then in
      (c.0, record { mid = a.0; atn_first = a.1; ack_then = c.1; ends = ends _ _ _ end new c.0 h.ends }, c.2)
  does word (op.FromSfbr c d register) before old end new u b r h = becomes _ old end new u r h
  does word (op.ToSfbr register c d) before old end new u b r h = becomes _ old end new u r h
  does word (op.Modify register c d) before old end new u b r h = becomes _ old end new u r h
  does word (op.Put d register) before old end new u b r h = becomes _ old end new u r h
  does word (op.Jump on a) before old end new u b r h = transfers word on _ _ old end new u r h
  does word (op.Call on a) before old end new u b r h = transfers word on _ _ old end new u r h
  does word (op.Return on) before old end new u b r h = transfers word on _ _ old end new u r h
  does word (op.Int on vector) before old end new u b r h = transfers word on _ _ old end new u r h
  does word (op.IntFly on) before old end new u b r h = transfers word on _ _ old end new u r h
  does word op.Nop before old end new u b r h = becomes _ old end new u r h
  does word (op.MoveMemory n s t) before old end new u b r h =
      choose related new.bus _ _ (nat_eq (s % 4) (t % 4)) (choose related new.bus _ _ (nat_le (s + n) (length old.memory) && nat_le (t + n) (length old.memory)) (becomes _ _ end new u r) (stops _ old end new u r)) (stops _ old end new u r) h
  does word (op.Load register n place) before old end new u b r h =
      choose related new.bus _ _ (nat_eq (low_bits old.regs.dsa place) (register % 4)) (loads_at (address_of old.memory old.regs.dsa place n) register n old end new u r) (stops _ old end new u r) h
  does word (op.Store register n place) before old end new u b r h =
      choose related new.bus _ _ (nat_eq (low_bits old.regs.dsa place) (register % 4)) (stores_at (address_of old.memory old.regs.dsa place n) register n old end new u r) (stops _ old end new u r) h

  pub steps_follow : StepsFollow first second related
  steps_follow word old u end new r (chip_step.idle s e n) = (u, chip_step.idle s e (ap (λ (c : Chip A). over u c) n), subst (λ (c : Chip A). related c.bus u) (sym n) r)
  steps_follow word old u end new r (chip_step.unfetched s c h) = let x = stops _ old end new u r h in (x.0, chip_step.unfetched s c x.1, x.2)
  steps_follow word old u end new r (chip_step.unspelled s c n h) = let x = stops _ (after_fetch old) end new u r h in (x.0, chip_step.unspelled s c n x.1, x.2)
  steps_follow word old u end new r (chip_step.does s c o at h) = let x = does word o old (after_fetch old) end new u refl r h in (x.0, chip_step.does s c o at x.1, x.2)

-- ---- the states of one bus as a part of another's

-- each call keeps a fact, and is a call of what is seen
abbrev pub Shows : {A B : Type 0} → (A → B) → (A → Type 0) → (A → Event → A → Type 0) → (B → Event → B → Type 0) → Type 0
Shows {A} {B} seen P first second = (x : A) (e : Event) (y : A) → P x → first x e y → P y × second (seen x) e (seen y)

abbrev IsSeen : {A B : Type 0} → (A → B) → (A → Type 0) → A → B → Type 0
IsSeen seen P x u = P x × (u ≡ seen x)

-- a step is one of what is seen, and keeps the fact
pub steps_show : {A B : Type 0} (seen : A → B) (P : A → Type 0) (first : A → Event → A → Type 0) (second : B → Event → B → Type 0) → Shows seen P first second →
    (word : ℕ) (old : Chip A) (end : StepEnd) (new : Chip A) → P old.bus → ChipStep first word old end new → P new.bus × ChipStep second word (over (seen old.bus) old) end (over (seen new.bus) new)
steps_show {A} {B} seen P first second shows word old end new p h =
    let follows : Follows first second (IsSeen seen P) = λ x u e y r m.
    let c : P y × second (seen x) e (seen y) = shows x e y r.0 m in
    (seen y, subst (λ (w : B). second w e (seen y)) (sym r.1) c.1, (c.0, refl), λ q. ap seen q ∙ sym r.1) in
    let s = steps_follow first second (IsSeen seen P) follows word old (seen old.bus) end new (p, refl) h in
    (s.2.0, subst (λ (w : B). ChipStep second word (over (seen old.bus) old) end (over w new)) s.2.1 s.1)
