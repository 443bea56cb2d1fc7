-- A call has one answer, and leaves one bus.
use Rattle.std.proofs.Common.{◌≡◌, ℕ, Bool, List, Option, is_none, option_map, refl, sym, ap, subst, ◌∙◌}
use Rattle.scsi_words.specs.declared.phases.kinds.Phase.{Phase as BusPhase}
use Rattle.rig_types.specs.declared.rig.Unit.{Unit as RigUnit}
use Rattle.chip_step.specs.Event.{Event, Phase, Shown, ByteIn, ByteOut, Select, Reselect, SetAtn, ClearAck, Leave, call_of}
use Rattle.chip_step.specs.declared.scsi_bus.Settled.{Settled}
use Rattle.target_law.specs.declared.nexus.Nexus.{Nexus}
use Rattle.chip_rows.specs.Answers.{HasOneAnswer, HasOneEnd}
use Rattle.chip_rows.proofs.Once.{once}
use Rattle.bus_law.specs.Bus.{BusState}
use Rattle.bus_law.specs.Choices.{after_turn}
use Rattle.bus_law.specs.Bytes.{after_byte_in, after_byte_out}
use Rattle.bus_law.specs.Reselections.{candidate_named, after_reselection, can_select, after_selection}
use Rattle.bus_law.specs.Attention.{after_atn, after_ack}
use Rattle.bus_law.specs.Moves.{moves}

-- two results of one call: the answers are one, and what each leaves is one function of its answer
one_of : {A : Type 0} (event : A → Event) (after : A → BusState) (a b : A) (new other : BusState) → a ≡ b → new ≡ after a → other ≡ after b → (event a ≡ event b) × (new ≡ other)
one_of event after a b new other e h k = (ap event e, h ∙ ap after e ∙ sym k)

-- the arguments of two calls that are one
phase-word : (w x : ℕ) (a b : Option BusPhase) → call_of (Phase w a) ≡ call_of (Phase x b) → w ≡ x
phase-word w x a b e = cc

byte-out : (x y : ℕ) (a b : Bool) → call_of (ByteOut x a) ≡ call_of (ByteOut y b) → x ≡ y
byte-out x y a b e = cc

select-target : (s t w x : ℕ) (a b : Settled) → call_of (Select s w a) ≡ call_of (Select t x b) → s ≡ t
select-target s t w x a b e = cc

select-word : (s t w x : ℕ) (a b : Settled) → call_of (Select s w a) ≡ call_of (Select t x b) → w ≡ x
select-word s t w x a b e = cc

reselect-word : (w x : ℕ) (a b : Option ℕ) → call_of (Reselect w a) ≡ call_of (Reselect x b) → w ≡ x
reselect-word w x a b e = cc

atn-on : (a b : Bool) → call_of (SetAtn a) ≡ call_of (SetAtn b) → a ≡ b
atn-on a b e = cc

leave-word : (w x : ℕ) (a b : Bool) → call_of (Leave w a) ≡ call_of (Leave x b) → w ≡ x
leave-word w x a b e = cc

module _ (units : List RigUnit) (live : ℕ → Nexus → Option ℕ) where
  phase : (old : BusState) (w x : ℕ) (a b : Option BusPhase) (new other : BusState) → w ≡ x → moves units live old (Phase w a) new → moves units live old (Phase x b) other → (Phase w a ≡ Phase x b) × (new ≡ other)
  phase old w x a b new other e h k =
      let after : Option BusPhase → BusState = λ p. record (after_turn old.connected w old) { asked = p } in
      let m : moves units live old (Phase w b) other = subst (λ (y : ℕ). moves units live old (Phase y b) other) (sym e) k in
      let r : (Phase w a ≡ Phase w b) × (new ≡ other) = one_of (λ (p : Option BusPhase). Phase w p) after a b new other (h.0 ∙ sym m.0) h.1 m.1 in
      (r.0 ∙ ap (λ (y : ℕ). Phase y b) e, r.1)

  byte-sent : (old : BusState) (x y : ℕ) (a b : Bool) (new other : BusState) → x ≡ y → moves units live old (ByteOut x a) new → moves units live old (ByteOut y b) other → (ByteOut x a ≡ ByteOut y b) × (new ≡ other)
  byte-sent old x y a b new other e h k =
      let after : Bool → BusState = λ t. after_byte_out live t old.connected x old in
      let m : moves units live old (ByteOut x b) other = subst (λ (z : ℕ). moves units live old (ByteOut z b) other) (sym e) k in
      let r : (ByteOut x a ≡ ByteOut x b) × (new ≡ other) = one_of (λ (t : Bool). ByteOut x t) after a b new other (h.0 ∙ sym m.0) h.1 m.1 in
      (r.0 ∙ ap (λ (z : ℕ). ByteOut z b) e, r.1)

  selection : (old : BusState) (s t w x : ℕ) (a b : Settled) (new other : BusState) → s ≡ t → w ≡ x → moves units live old (Select s w a) new → moves units live old (Select t x b) other → (Select s w a ≡ Select t x b) × (new ≡ other)
  selection old s t w x a b new other e f h k =
      let m : moves units live old (Select s w b) other =
      subst (λ (y : ℕ). moves units live old (Select y w b) other) (sym e) (subst (λ (y : ℕ). moves units live old (Select t y b) other) (sym f) k) in
      let after : Settled → BusState = λ y. after_selection (candidate_named units old w) (can_select old s) s w old in
      let r : (Select s w a ≡ Select s w b) × (new ≡ other) = one_of (λ (y : Settled). Select s w y) after a b new other (h.0 ∙ sym m.0) h.1 m.1 in
      (r.0 ∙ ap (λ (y : ℕ). Select y w b) e ∙ ap (λ (y : ℕ). Select t y b) f, r.1)

  reselection : (old : BusState) (w x : ℕ) (a b : Option ℕ) (new other : BusState) → w ≡ x → moves units live old (Reselect w a) new → moves units live old (Reselect x b) other → (Reselect w a ≡ Reselect x b) × (new ≡ other)
  reselection old w x a b new other e h k =
      let m : moves units live old (Reselect w b) other = subst (λ (y : ℕ). moves units live old (Reselect y b) other) (sym e) k in
      let after : Option ℕ → BusState = λ y. after_reselection (candidate_named units old w) w old in
      let r : (Reselect w a ≡ Reselect w b) × (new ≡ other) = one_of (λ (y : Option ℕ). Reselect w y) after a b new other (h.0 ∙ sym m.0) h.1 m.1 in
      (r.0 ∙ ap (λ (y : ℕ). Reselect y b) e, r.1)

  leaving : (old : BusState) (w x : ℕ) (a b : Bool) (new other : BusState) → w ≡ x → moves units live old (Leave w a) new → moves units live old (Leave x b) other → (Leave w a ≡ Leave x b) × (new ≡ other)
  leaving old w x a b new other e h k =
      let m : moves units live old (Leave w b) other = subst (λ (y : ℕ). moves units live old (Leave y b) other) (sym e) k in
      let r : (Leave w a ≡ Leave w b) × (new ≡ other) = one_of (λ (y : Bool). Leave w y) (λ (y : Bool). after_turn old.connected w old) a b new other (h.0 ∙ sym m.0) h.1 m.1 in
      (r.0 ∙ ap (λ (y : ℕ). Leave y b) e, r.1)

  pub answers_once : HasOneAnswer (moves units live)
  answers_once old (Phase w a) (Phase x b) new other e h k = phase old w x a b new other (phase-word w x a b e) h k
  answers_once old (Shown a) (Shown b) new other e h k = one_of (λ (p : Option BusPhase). Shown p) (λ (p : Option BusPhase). old) a b new other (h.0 ∙ sym k.0) h.1 k.1
  answers_once old (ByteIn a) (ByteIn b) new other e h k = one_of (λ (x : Option ℕ). ByteIn x) (λ (x : Option ℕ). after_byte_in old.connected x old) a b new other (h.0 ∙ sym k.0) h.1 k.1
  answers_once old (ByteOut x a) (ByteOut y b) new other e h k = byte-sent old x y a b new other (byte-out x y a b e) h k
  answers_once old (Select s w a) (Select t x b) new other e h k = selection old s t w x a b new other (select-target s t w x a b e) (select-word s t w x a b e) h k
  answers_once old (Reselect w a) (Reselect x b) new other e h k = reselection old w x a b new other (reselect-word w x a b e) h k
  answers_once old (SetAtn a) (SetAtn b) new other e h k =
      one_of (λ (x : Bool). SetAtn x) (λ (x : Bool). after_atn x old) a b new other (atn-on a b e) h k
  answers_once old ClearAck ClearAck new other e h k = (refl, h ∙ sym k)
  answers_once old (Leave w a) (Leave x b) new other e h k = leaving old w x a b new other (leave-word w x a b e) h k
  answers_once old _ _ new other e h k = absurd cc

  pub steps_once : HasOneEnd (moves units live)
  steps_once word old a b x y h k = once (moves units live) answers_once word old a b x y h k
