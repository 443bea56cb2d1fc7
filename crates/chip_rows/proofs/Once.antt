-- Over a bus with one answer to each call, a step of the chip has one end.
use Rattle.std.proofs.Common.{◌≡◌, ℕ, zero, suc, ◌+◌, ◌%◌, Bool, true, false, ◌&&◌, nat_eq, nat_le, Option, Some, None, List, length, slice_index, slice_set, MatchBool, refl, sym, ap, subst, ◌∙◌, inl, inr}
use Rattle.scsi_words.specs.Phases.{phase_code}
use Rattle.bench_words.specs.Memory.{word_at}
use Rattle.scsi_words.specs.declared.phases.kinds.Phase.{Phase}
use Rattle.scripts_ops.specs.declared.values.Op.{Op}
use Rattle.scripts_ops.specs.declared.values.Op.TheVariants as op
use Rattle.scripts_ops.specs.declared.values.Condition.{Condition}
use Rattle.scripts_ops.specs.declared.values.Condition.TheVariants as condition
use Rattle.chip_regs.specs.Registers.{is_stopped}
use Rattle.chip_regs.specs.declared.registers.Regs.{Regs}
use Rattle.chip_regs.specs.declared.registers.Cause.{Cause}
use Rattle.chip_step.specs.Event as event
use Rattle.chip_step.specs.Event.{Event}
use Rattle.chip_step.specs.Chip.{Chip, state, Ends, Becomes, Stops}
use Rattle.chip_step.specs.Addresses.{place_of, address_of, low_bits}
use Rattle.chip_step.specs.Bytes.{Acked, TakesIn, GoesOut}
use Rattle.chip_step.specs.Blocks.{loaded, after_bytes, ReleasesAtn, Carries, Finishes, Moves, Asks, MovesAt, AsksAndMoves, BlockMoves, MovesBy}
use Rattle.chip_step.specs.Connection.{with_table, WaitsAt, ReselectsBy, AssertsAtn, ReleasesAck, SettlesAs, SelectsBy, Reselects}
use Rattle.chip_step.specs.Transfers.{when_phase, unless_not, is_phase, TransfersAt, Decides, Transfers}
use Rattle.chip_step.specs.Memory.{LoadsAt, StoresAt}
use Rattle.chip_step.specs.Instructions.{Does}
use Rattle.chip_step.specs.Step as chip_step
use Rattle.chip_step.specs.Step.{ChipStep, can_fetch, third_at, after_fetch}
use Rattle.chip_step.specs.declared.scsi_bus.Settled.{Settled}
use Rattle.chip_step.specs.declared.scsi_bus.Settled.TheVariants.{Selected, Reselected, TimedOut}
use Rattle.chip_step.specs.declared.outcome.StepEnd.{StepEnd}
use Rattle.chip_step.proofs.Made.{one_spelling}
use Rattle.chip_rows.specs.Answers.{HasOneAnswer, HasOneEnd}

either : (b : Bool) {R X Y Z W : Type 0} → (X → Z → R) → (Y → W → R) → MatchBool b X Y → MatchBool b Z W → R
either true f g h k = f h k
either false f g h k = g h k

module _ {B : Type 0} (moves : B → Event → B → Type 0) (one : HasOneAnswer moves) where
  chip-is : (c d : Chip B) → c.memory ≡ d.memory → c.regs ≡ d.regs → c.bus ≡ d.bus → c ≡ d
  chip-is c d m r b =
      let x : state c.memory c.regs c.bus ≡ state d.memory c.regs c.bus = ap (λ (y : List ℕ). state y c.regs c.bus) m in
      let y : state d.memory c.regs c.bus ≡ state d.memory d.regs c.bus = ap (λ (z : Regs). state d.memory z c.bus) r in
      let z : state d.memory d.regs c.bus ≡ state d.memory d.regs d.bus = ap (λ (w : B). state d.memory d.regs w) b in
      x ∙ y ∙ z

  ends : (how : StepEnd) (memory : List ℕ) (regs : Regs) (e e' : StepEnd) (n n' : Chip B) → Ends how memory regs e n → Ends how memory regs e' n' → n.bus ≡ n'.bus → (e ≡ e') × (n ≡ n')
  ends how memory regs e e' n n' h k b = (h.is ∙ sym k.is, chip-is n n' (h.memory_is ∙ sym k.memory_is) (h.regs_are ∙ sym k.regs_are) b)

  becomes : (regs : Regs) (old : Chip B) (e e' : StepEnd) (n n' : Chip B) → Becomes regs old e n → Becomes regs old e' n' → (e ≡ e') × (n ≡ n')
  becomes regs old e e' n n' h k = ends _ _ _ e e' n n' h.ends k.ends (h.bus_is ∙ sym k.bus_is)

  stops : (cause : Cause) (old : Chip B) (e e' : StepEnd) (n n' : Chip B) → Stops cause old e n → Stops cause old e' n' → (e ≡ e') × (n ≡ n')
  stops cause old e e' n n' h k = ends _ _ _ e e' n n' h.ends k.ends (h.bus_is ∙ sym k.bus_is)

  acked : (b : Bool) (old x y : B) → Acked moves b old x → Acked moves b old y → x ≡ y
  acked true old x y h k = (one old event.ClearAck event.ClearAck x y refl h k).1
  acked false old x y h k = h ∙ sym k

  atn_off : (b : Bool) (old x y : B) → ReleasesAtn moves b old x → ReleasesAtn moves b old y → x ≡ y
  atn_off true old x y h k = (one old (event.SetAtn false) (event.SetAtn false) x y refl h k).1
  atn_off false old x y h k = h ∙ sym k

  atn_on : (b : Bool) (old x y : B) → AssertsAtn moves b old x → AssertsAtn moves b old y → x ≡ y
  atn_on true old x y h k = (one old (event.SetAtn true) (event.SetAtn true) x y refl h k).1
  atn_on false old x y h k = h ∙ sym k

  ack_off : (b : Bool) (old x y : B) → ReleasesAck moves b old x → ReleasesAck moves b old y → x ≡ y
  ack_off true old x y h k = (one old event.ClearAck event.ClearAck x y refl h k).1
  ack_off false old x y h k = h ∙ sym k

  takes : (message later : Bool) (n : ℕ) (memory : List ℕ) (at : ℕ) (bus : B) (l l' : ℕ) (m m' : List ℕ) (x x' : B) → TakesIn moves message later n memory at bus l m x → TakesIn moves message later n memory at bus l' m' x'
      → (l ≡ l') × (m ≡ m') × (x ≡ x')
  takes message later zero memory at bus l l' m m' x x' h k = (h.0 ∙ sym k.0, h.1 ∙ sym k.1, h.2 ∙ sym k.2)
  takes message later (suc n) memory at bus l l' m m' x x' h k =
      let a : k.0 ≡ h.0 = acked (message && later) bus k.0 h.0 k.1 h.1 in
      elim h.2 [
        | inl p ↦ elim k.2 [
          | inl q ↦ (p.all_left ∙ sym q.all_left, p.same ∙ sym q.same, (one h.0 (event.ByteIn None) (event.ByteIn None) x x' refl p.call (subst (λ (y : B). moves y (event.ByteIn None) x') a q.call)).1)
          | inr q ↦ let e : (event.ByteIn None ≡ event.ByteIn (Some q.0)) × (x ≡ q.1) = one h.0 (event.ByteIn None) (event.ByteIn (Some q.0)) x q.1 refl p.call (subst (λ (y : B). moves y (event.ByteIn (Some q.0)) q.1) a q.2) in
              let f : event.ByteIn None ≡ event.ByteIn (Some q.0) = e.0 in absurd cc
        ]
        | inr p ↦ elim k.2 [
          | inl q ↦ let e : (event.ByteIn (Some p.0) ≡ event.ByteIn None) × (p.1 ≡ x') = one h.0 (event.ByteIn (Some p.0)) (event.ByteIn None) p.1 x' refl p.2 (subst (λ (y : B). moves y (event.ByteIn None) x') a q.call) in
              let f : event.ByteIn (Some p.0) ≡ event.ByteIn None = e.0 in absurd cc
          | inr q ↦ let e : (event.ByteIn (Some q.0) ≡ event.ByteIn (Some p.0)) × (q.1 ≡ p.1) = one h.0 (event.ByteIn (Some q.0)) (event.ByteIn (Some p.0)) q.1 p.1 refl (subst (λ (y : B). moves y (event.ByteIn (Some q.0)) q.1) a q.2) p.2 in
              let f : event.ByteIn (Some q.0) ≡ event.ByteIn (Some p.0) = e.0 in
              let b : q.0 ≡ p.0 = cc in
              takes message true n (slice_set memory at p.0) (at + 1) p.1 l l' m m' x x' p.3
              (subst (λ (y : B). TakesIn moves message true n (slice_set memory at p.0) (at + 1) y l' m' x') e.1
              (subst (λ (y : ℕ). TakesIn moves message true n (slice_set memory at y) (at + 1) q.1 l' m' x') b q.3))
        ]
      ]

  goes : (n : ℕ) (memory : List ℕ) (at : ℕ) (bus : B) (l l' : ℕ) (x x' : B) → GoesOut moves n memory at bus l x → GoesOut moves n memory at bus l' x' → (l ≡ l') × (x ≡ x')
  goes zero memory at bus l l' x x' h k = (h.0 ∙ sym k.0, h.1 ∙ sym k.1)
  goes (suc n) memory at bus l l' x x' h k = elim h [
    | inl p ↦ elim k [
      | inl q ↦ (p.1 ∙ sym q.1, (one bus (event.ByteOut (slice_index memory at) false) (event.ByteOut (slice_index memory at) false) x x' refl p.0 q.0).1)
      | inr q ↦ let f : event.ByteOut (slice_index memory at) false ≡ event.ByteOut (slice_index memory at) true = (one bus (event.ByteOut (slice_index memory at) false) (event.ByteOut (slice_index memory at) true) x q.0 refl p.0 q.1).0 in absurd cc
    ]
    | inr p ↦ elim k [
      | inl q ↦ let f : event.ByteOut (slice_index memory at) true ≡ event.ByteOut (slice_index memory at) false = (one bus (event.ByteOut (slice_index memory at) true) (event.ByteOut (slice_index memory at) false) p.0 x' refl p.1 q.0).0 in absurd cc
      | inr q ↦ let e : q.0 ≡ p.0 = (one bus (event.ByteOut (slice_index memory at) true) (event.ByteOut (slice_index memory at) true) q.0 p.0 refl q.1 p.1).1 in
          goes n memory (at + 1) p.0 l l' x x' p.2 (subst (λ (y : B). GoesOut moves n memory (at + 1) y l' x') e q.2)
    ]
  ]

  carries : (phase : ℕ) (old : Chip B) (l l' : ℕ) (m m' : List ℕ) (x x' : B) → Carries moves phase old l m x → Carries moves phase old l' m' x' → (l ≡ l') × (m ≡ m') × (x ≡ x')
  carries phase old l l' m m' x x' h k =
      either (nat_eq (phase % 2) 1) (takes (nat_eq phase 7) false old.regs.dbc old.memory old.regs.dnad old.bus l l' m m' x x')
      (λ p q. let g : (l ≡ l') × (x ≡ x') = goes old.regs.dbc old.memory old.regs.dnad old.bus l l' x x' p.0 q.0 in (g.0, p.1 ∙ sym q.1, g.1)) h k

  finishes : (phase left : ℕ) (bus : B) (r : Regs) (e e' : StepEnd) (n n' : Chip B) → n.memory ≡ n'.memory → Finishes moves phase left bus r e n → Finishes moves phase left bus r e' n' → (e ≡ e') × (n ≡ n')
  finishes phase left bus r e e' n n' m h k =
      either (nat_eq left 0)
      (λ p q. (p.1 ∙ sym q.1, chip-is n n' m (p.2 ∙ sym q.2) (atn_off (nat_eq phase 6) bus n.bus n'.bus p.0 q.0)))
      (λ p q. (p.1 ∙ sym q.1, chip-is n n' m (p.2 ∙ sym q.2) (p.0 ∙ sym q.0))) h k

  moved : (phase : ℕ) (old : Chip B) (e e' : StepEnd) (n n' : Chip B) → Moves moves phase old e n → Moves moves phase old e' n' → (e ≡ e') × (n ≡ n')
  moved phase old e e' n n' h k =
      let c : (k.left ≡ h.left) × (n'.memory ≡ n.memory) × (k.bus ≡ h.bus) = carries phase old k.left h.left n'.memory n.memory k.bus h.bus k.carries h.carries in
      let a : Finishes moves phase h.left k.bus (after_bytes phase h.left n'.memory old.regs) e' n' = subst (λ (l : ℕ). Finishes moves phase l k.bus (after_bytes phase l n'.memory old.regs) e' n') c.0 k.finishes in
      let b : Finishes moves phase h.left k.bus (after_bytes phase h.left n.memory old.regs) e' n' = subst (λ (m : List ℕ). Finishes moves phase h.left k.bus (after_bytes phase h.left m old.regs) e' n') c.1 a in
      finishes phase h.left h.bus _ e e' n n' (sym c.1) h.finishes (subst (λ (y : B). Finishes moves phase h.left y (after_bytes phase h.left n.memory old.regs) e' n') c.2 b)

  asks : (word : ℕ) (s s' : Option Phase) (old x x' : B) → Asks moves word s old x → Asks moves word s' old x' → (s ≡ s') × (x ≡ x')
  asks word s s' old x x' h k =
      let a : k.mid ≡ h.mid = (one old event.ClearAck event.ClearAck k.mid h.mid refl k.acked h.acked).1 in
      let e : (event.Phase word s ≡ event.Phase word s') × (x ≡ x') = one h.mid (event.Phase word s) (event.Phase word s') x x' refl h.asked (subst (λ (y : B). moves y (event.Phase word s') x') a k.asked) in
      let f : event.Phase word s ≡ event.Phase word s' = e.0 in (cc, e.1)

  moves_at : (word : ℕ) (s : Option Phase) (phase : ℕ) (old : Chip B) (bus : B) (e e' : StepEnd) (n n' : Chip B) → MovesAt moves word s phase old bus e n → MovesAt moves word s phase old bus e' n' → (e ≡ e') × (n ≡ n')
  moves_at word None phase old bus e e' n n' h k = stops _ (record old { bus = bus }) e e' n n' h k
  moves_at word (Some s) phase old bus e e' n n' h k = either (nat_eq (phase_code s) phase) (moved phase (record old { bus = bus }) e e' n n') (stops _ (record old { bus = bus }) e e' n n') h k

  asks_and_moves : (word phase : ℕ) (old : Chip B) (e e' : StepEnd) (n n' : Chip B) → AsksAndMoves moves word phase old e n → AsksAndMoves moves word phase old e' n' → (e ≡ e') × (n ≡ n')
  asks_and_moves word phase old e e' n n' h k =
      let a : (k.shown ≡ h.shown) × (k.bus ≡ h.bus) = asks word k.shown h.shown old.bus k.bus h.bus k.asks h.asks in
      moves_at word h.shown phase old h.bus e e' n n' h.moved
      (subst (λ (y : B). MovesAt moves word h.shown phase old y e' n') a.1 (subst (λ (s : Option Phase). MovesAt moves word s phase old k.bus e' n') a.0 k.moved))

  block_moves : (word phase : ℕ) (old : Chip B) (e e' : StepEnd) (n n' : Chip B) → BlockMoves moves word phase old e n → BlockMoves moves word phase old e' n' → (e ≡ e') × (n ≡ n')
  block_moves word phase old e e' n n' h k =
      either (nat_eq old.regs.dbc 0) (stops _ old e e' n n')
      (either (nat_le (old.regs.dnad + old.regs.dbc) (length old.memory)) (asks_and_moves word phase old e e' n n') (stops _ old e e' n n')) h k

  moves_by : (word : ℕ) (o : Option ℕ) (phase : ℕ) (old : Chip B) (e e' : StepEnd) (n n' : Chip B) → MovesBy moves word o phase old e n → MovesBy moves word o phase old e' n' → (e ≡ e') × (n ≡ n')
  moves_by word None phase old e e' n n' h k = stops _ old e e' n n' h k
  moves_by word (Some a) phase old e e' n n' h k = block_moves word phase (loaded (word_at old.memory a % 16777216) (word_at old.memory (a + 4)) old) e e' n n' h k

  select-event : (word : ℕ) (s : Settled) (alternate : ℕ) (r : Regs) (old : Chip B) (e : StepEnd) (n : Chip B) → SettlesAs moves word s alternate r old e n → (m : B) × moves old.bus (event.Select r.sdid word s) m
  select-event word Selected alternate r old e n h = (h.0, h.1)
  select-event word (Reselected by) alternate r old e n h = (n.bus, h.0)
  select-event word TimedOut alternate r old e n h = (n.bus, h.0)

  settles : (word : ℕ) (s : Settled) (alternate : ℕ) (r : Regs) (old : Chip B) (e e' : StepEnd) (n n' : Chip B) → SettlesAs moves word s alternate r old e n → SettlesAs moves word s alternate r old e' n' → (e ≡ e') × (n ≡ n')
  settles word Selected alternate r old e e' n n' h k =
      let a : k.0 ≡ h.0 = (one old.bus (event.Select r.sdid word Selected) (event.Select r.sdid word Selected) k.0 h.0 refl k.1 h.1).1 in
      let b : n.bus ≡ n'.bus = (one h.0 (event.SetAtn true) (event.SetAtn true) n.bus n'.bus refl h.2 (subst (λ (y : B). moves y (event.SetAtn true) n'.bus) a k.2)).1 in
      ends _ _ _ e e' n n' h.3 k.3 b
  settles word (Reselected by) alternate r old e e' n n' h k =
      ends _ _ _ e e' n n' h.1 k.1 (one old.bus (event.Select r.sdid word (Reselected by)) (event.Select r.sdid word (Reselected by)) n.bus n'.bus refl h.0 k.0).1
  settles word TimedOut alternate r old e e' n n' h k =
      ends _ _ _ e e' n n' h.1 k.1 (one old.bus (event.Select r.sdid word TimedOut) (event.Select r.sdid word TimedOut) n.bus n'.bus refl h.0 k.0).1

  selects_by : (word : ℕ) (o : Option ℕ) (alternate : ℕ) (old : Chip B) (e e' : StepEnd) (n n' : Chip B) → SelectsBy moves word o alternate old e n → SelectsBy moves word o alternate old e' n' → (e ≡ e') × (n ≡ n')
  selects_by word None alternate old e e' n n' h k = stops _ old e e' n n' h k
  selects_by word (Some a) alternate old e e' n n' h k =
      let r : Regs = with_table (word_at old.memory a) old.regs in
      let p : (m : B) × moves old.bus (event.Select r.sdid word h.0) m = select-event word h.0 alternate r old e n h.1 in
      let q : (m : B) × moves old.bus (event.Select r.sdid word k.0) m = select-event word k.0 alternate r old e' n' k.1 in
      let f : event.Select r.sdid word k.0 ≡ event.Select r.sdid word h.0 = (one old.bus (event.Select r.sdid word k.0) (event.Select r.sdid word h.0) q.0 p.0 refl q.1 p.1).0 in
      let s : k.0 ≡ h.0 = cc in
      settles word h.0 alternate r old e e' n n' h.1 (subst (λ (y : Settled). SettlesAs moves word y alternate r old e' n') s k.1)

  waits_at : (gone : Bool) (old : Chip B) (e e' : StepEnd) (n n' : Chip B) → n.bus ≡ n'.bus → WaitsAt gone old e n → WaitsAt gone old e' n' → (e ≡ e') × (n ≡ n')
  waits_at true old e e' n n' b h k = ends _ _ _ e e' n n' h k b
  waits_at false old e e' n n' b h k = ends _ _ _ e e' n n' h k b

  reselects_by : (o : Option ℕ) (before old : Chip B) (e e' : StepEnd) (n n' : Chip B) → n.bus ≡ n'.bus → ReselectsBy o before old e n → ReselectsBy o before old e' n' → (e ≡ e') × (n ≡ n')
  reselects_by None before old e e' n n' b h k = (h.0 ∙ sym k.0, h.1 ∙ sym k.1)
  reselects_by (Some t) before old e e' n n' b h k = ends _ _ _ e e' n n' h k b

  reselects : (word alternate : ℕ) (before old : Chip B) (e e' : StepEnd) (n n' : Chip B) → Reselects moves word alternate before old e n → Reselects moves word alternate before old e' n' → (e ≡ e') × (n ≡ n')
  reselects word alternate before old e e' n n' h k =
      either old.regs.con (stops _ old e e' n n') (either old.regs.sigp (becomes _ old e e' n n')
      (λ p q.
      let a : (event.Reselect word q.0 ≡ event.Reselect word p.0) × (n'.bus ≡ n.bus) = one old.bus (event.Reselect word q.0) (event.Reselect word p.0) n'.bus n.bus refl q.1 p.1 in
      let f : event.Reselect word q.0 ≡ event.Reselect word p.0 = a.0 in
      let t : q.0 ≡ p.0 = cc in
      reselects_by p.0 before old e e' n n' (sym a.1) p.2 (subst (λ (y : Option ℕ). ReselectsBy y before old e' n') t q.2))) h k

  decides : (word : ℕ) (on : Condition) (sfbr : ℕ) (old : B) (d d' : Option Bool) (x x' : B) → Decides moves word on sfbr old d x → Decides moves word on sfbr old d' x' → (d ≡ d') × (x ≡ x')
  decides word condition.Always sfbr old d d' x x' h k = (h.0 ∙ sym k.0, h.1 ∙ sym k.1)
  decides word (condition.Byte negated mask value) sfbr old d d' x x' h k = (h.0 ∙ sym k.0, h.1 ∙ sym k.1)
  decides word (condition.Phase true negated code) sfbr old d d' x x' h k =
      let a : (h.0 ≡ k.0) × (x ≡ x') = asks word h.0 k.0 old x x' h.1 k.1 in
      (h.2 ∙ ap (λ (s : Option Phase). when_phase negated code s) a.0 ∙ sym k.2, a.1)
  decides word (condition.Phase false negated code) sfbr old d d' x x' h k =
      let f : event.Shown h.0 ≡ event.Shown k.0 = (one old (event.Shown h.0) (event.Shown k.0) old old refl h.1 k.1).0 in
      let s : h.0 ≡ k.0 = cc in
      (h.3 ∙ ap (λ (x : Option Phase). Some (unless_not negated (is_phase code x))) s ∙ sym k.3, h.2 ∙ sym k.2)

  transfers_at : (d : Option Bool) (how : StepEnd) (regs : Regs) (old : Chip B) (e e' : StepEnd) (n n' : Chip B) → n.bus ≡ n'.bus → TransfersAt d how regs old e n → TransfersAt d how regs old e' n' → (e ≡ e') × (n ≡ n')
  transfers_at None how regs old e e' n n' b h k = ends _ _ _ e e' n n' h k b
  transfers_at (Some true) how regs old e e' n n' b h k = ends _ _ _ e e' n n' h k b
  transfers_at (Some false) how regs old e e' n n' b h k = ends _ _ _ e e' n n' h k b

  transfers : (word : ℕ) (on : Condition) (how : StepEnd) (regs : Regs) (old : Chip B) (e e' : StepEnd) (n n' : Chip B) → Transfers moves word on how regs old e n → Transfers moves word on how regs old e' n' → (e ≡ e') × (n ≡ n')
  transfers word on how regs old e e' n n' h k =
      let d : (k.decision ≡ h.decision) × (n'.bus ≡ n.bus) = decides word on old.regs.sfbr old.bus k.decision h.decision n'.bus n.bus k.decides h.decides in
      transfers_at h.decision how regs old e e' n n' (sym d.1) h.transfers (subst (λ (y : Option Bool). TransfersAt y how regs old e' n') d.0 k.transfers)

  loads_at : (o : Option ℕ) (r c : ℕ) (old : Chip B) (e e' : StepEnd) (n n' : Chip B) → LoadsAt o r c old e n → LoadsAt o r c old e' n' → (e ≡ e') × (n ≡ n')
  loads_at None r c old e e' n n' h k = stops _ old e e' n n' h k
  loads_at (Some a) r c old e e' n n' h k = becomes _ old e e' n n' h k

  stores_at : (o : Option ℕ) (r c : ℕ) (old : Chip B) (e e' : StepEnd) (n n' : Chip B) → StoresAt o r c old e n → StoresAt o r c old e' n' → (e ≡ e') × (n ≡ n')
  stores_at None r c old e e' n n' h k = stops _ old e e' n n' h k
  stores_at (Some a) r c old e e' n n' h k = becomes _ _ e e' n n' h k

  does : (word : ℕ) (x : Op) (before old : Chip B) (e e' : StepEnd) (n n' : Chip B) → Does moves word x before old e n → Does moves word x before old e' n' → (e ≡ e') × (n ≡ n')
  does word (op.Move c a q) before old e e' n n' h k = block_moves word q (loaded c a old) e e' n n' h k
  does word (op.MoveFrom o q) before old e e' n n' h k = moves_by word (place_of old.memory old.regs.dsa o 8) q old e e' n n' h k
  does word (op.Select o alternate) before old e e' n n' h k = either old.regs.con (stops _ old e e' n n') (selects_by word (place_of old.memory old.regs.dsa o 4) alternate old e e' n n') h k
  does word op.WaitDisconnect before old e e' n n' h k =
      let a : (event.Leave word k.0 ≡ event.Leave word h.0) × (n'.bus ≡ n.bus) = one old.bus (event.Leave word k.0) (event.Leave word h.0) n'.bus n.bus refl k.1 h.1 in
      let f : event.Leave word k.0 ≡ event.Leave word h.0 = a.0 in
      let t : k.0 ≡ h.0 = cc in
      waits_at h.0 old e e' n n' (sym a.1) h.2 (subst (λ (y : Bool). WaitsAt y old e' n') t k.2)
  does word (op.WaitReselect alternate) before old e e' n n' h k = reselects word alternate before old e e' n n' h k
  does word (op.Set ack atn) before old e e' n n' h k = ends _ _ _ e e' n n' h.ends k.ends (atn_on atn old.bus n.bus n'.bus h.asserts k.asserts)
  does word (op.Clear ack atn) before old e e' n n' h k =
      let a : k.mid ≡ h.mid = atn_off atn old.bus k.mid h.mid k.atn_first h.atn_first in
      ends _ _ _ e e' n n' h.ends k.ends (ack_off ack h.mid n.bus n'.bus h.ack_then (subst (λ (y : B). ReleasesAck moves ack y n'.bus) a k.ack_then))
  does word (op.FromSfbr c d r) before old e e' n n' h k = becomes _ old e e' n n' h k
  does word (op.ToSfbr r c d) before old e e' n n' h k = becomes _ old e e' n n' h k
  does word (op.Modify r c d) before old e e' n n' h k = becomes _ old e e' n n' h k
  does word (op.Put d r) before old e e' n n' h k = becomes _ old e e' n n' h k
  does word (op.Jump on a) before old e e' n n' h k = transfers word on _ _ old e e' n n' h k
  does word (op.Call on a) before old e e' n n' h k = transfers word on _ _ old e e' n n' h k
  does word (op.Return on) before old e e' n n' h k = transfers word on _ _ old e e' n n' h k
  does word (op.Int on v) before old e e' n n' h k = transfers word on _ _ old e e' n n' h k
  does word (op.IntFly on) before old e e' n n' h k = transfers word on _ _ old e e' n n' h k
  does word op.Nop before old e e' n n' h k = becomes _ old e e' n n' h k
  does word (op.MoveMemory c s t) before old e e' n n' h k =
      either (nat_eq (s % 4) (t % 4)) (either (nat_le (s + c) (length old.memory) && nat_le (t + c) (length old.memory)) (becomes _ _ e e' n n') (stops _ old e e' n n')) (stops _ old e e' n n') h k
  does word (op.Load r c place) before old e e' n n' h k =
      either (nat_eq (low_bits old.regs.dsa place) (r % 4)) (loads_at (address_of old.memory old.regs.dsa place c) r c old e e' n n') (stops _ old e e' n n') h k
  does word (op.Store r c place) before old e e' n n' h k =
      either (nat_eq (low_bits old.regs.dsa place) (r % 4)) (stores_at (address_of old.memory old.regs.dsa place c) r c old e e' n n') (stops _ old e e' n n') h k

  clash : {R : Type 0} (b : Bool) → b ≡ true → b ≡ false → R
  clash b p q = let e : true ≡ false = sym p ∙ q in absurd cc

  pub once : HasOneEnd moves
  once word old e e' n n' (chip_step.idle s h i) (chip_step.idle t k j) = (h ∙ sym k, i ∙ sym j)
  once word old e e' n n' (chip_step.idle s h i) (chip_step.unfetched t c k) = clash (is_stopped old.regs) s t
  once word old e e' n n' (chip_step.idle s h i) (chip_step.unspelled t c u k) = clash (is_stopped old.regs) s t
  once word old e e' n n' (chip_step.idle s h i) (chip_step.does t c o at k) = clash (is_stopped old.regs) s t
  once word old e e' n n' (chip_step.unfetched s c h) (chip_step.idle t k j) = clash (is_stopped old.regs) t s
  once word old e e' n n' (chip_step.unfetched s c h) (chip_step.unfetched t d k) = stops _ old e e' n n' h k
  once word old e e' n n' (chip_step.unfetched s c h) (chip_step.unspelled t d u k) = clash (can_fetch old.memory old.regs) d c
  once word old e e' n n' (chip_step.unfetched s c h) (chip_step.does t d o at k) = clash (can_fetch old.memory old.regs) d c
  once word old e e' n n' (chip_step.unspelled s c u h) (chip_step.idle t k j) = clash (is_stopped old.regs) t s
  once word old e e' n n' (chip_step.unspelled s c u h) (chip_step.unfetched t d k) = clash (can_fetch old.memory old.regs) c d
  once word old e e' n n' (chip_step.unspelled s c u h) (chip_step.unspelled t d v k) = stops _ (after_fetch old) e e' n n' h k
  once word old e e' n n' (chip_step.unspelled s c u h) (chip_step.does t d o at k) = absurd (u o at)
  once word old e e' n n' (chip_step.does s c o at h) (chip_step.idle t k j) = clash (is_stopped old.regs) t s
  once word old e e' n n' (chip_step.does s c o at h) (chip_step.unfetched t d k) = clash (can_fetch old.memory old.regs) c d
  once word old e e' n n' (chip_step.does s c o at h) (chip_step.unspelled t d u k) = absurd (u o at)
  once word old e e' n n' (chip_step.does s c o at h) (chip_step.does t d p to k) =
      does word o old (after_fetch old) e e' n n' h (subst (λ (x : Op). Does moves word x old (after_fetch old) e' n') (one_spelling (word_at old.memory old.regs.dsp) (word_at old.memory (old.regs.dsp + 4)) (third_at old.memory old.regs) p o to at) k)
