-- What follows from one call's answer.
use Rattle.std.proofs.Common.{◌≡◌, ℕ, ◌<◌, ◌%◌, arith, Bool, true, false, List, ◌∷◌, refl, ap, ◌∙◌, Option, Some, None, ◌⊎◌, inl, inr}
use Rattle.scsi_words.specs.declared.phases.kinds.Phase.{Phase as BusPhase}
use Rattle.chip_step.specs.Event.{Event, call_of, Phase, Shown, ByteIn, ByteOut, Select, Reselect, SetAtn, ClearAck, Leave}
use Rattle.chip_step.specs.declared.scsi_bus.Settled.{Settled}
use Rattle.chip_step.specs.declared.scsi_bus.Settled.TheVariants.{Selected, TimedOut}
use Rattle.target_law.specs.Target.{Target, linked}
use Rattle.target_law.specs.Beginning.{target_took}
use Rattle.target_law.specs.Calls.{is_free, link_phase, target_selected, link_byte, link_sent, link_takes}
use Rattle.straight_run.specs.Reading.{Answers}
use Rattle.one_target.specs.Bus.{BusState, live_ticket, is_to_choose, GoesOn, Turns, become, becomes, as_byte, ack_by, ComesIn, StaysOut, after_atn, after_ack, moves}

-- which call it is
phase-only : (word : ℕ) (given : Event) → call_of given ≡ Phase word None → (x : Option BusPhase) × (given ≡ Phase word x)
phase-only word (Phase w x) e = let f : w ≡ word = cc in (x, ap (λ (v : ℕ). Phase v x) f)
phase-only word (Shown x) e = absurd cc
phase-only word (ByteIn x) e = absurd cc
phase-only word (ByteOut b x) e = absurd cc
phase-only word (Select t w x) e = absurd cc
phase-only word (Reselect w x) e = absurd cc
phase-only word (SetAtn on) e = absurd cc
phase-only word ClearAck e = absurd cc
phase-only word (Leave w x) e = absurd cc

byte_in-only : (given : Event) → call_of given ≡ ByteIn None → (x : Option ℕ) × (given ≡ ByteIn x)
byte_in-only (Phase w x) e = absurd cc
byte_in-only (Shown x) e = absurd cc
byte_in-only (ByteIn x) e = (x, refl)
byte_in-only (ByteOut b x) e = absurd cc
byte_in-only (Select t w x) e = absurd cc
byte_in-only (Reselect w x) e = absurd cc
byte_in-only (SetAtn on) e = absurd cc
byte_in-only ClearAck e = absurd cc
byte_in-only (Leave w x) e = absurd cc

byte_out-only : (byte : ℕ) (given : Event) → call_of given ≡ ByteOut byte false → (x : Bool) × (given ≡ ByteOut byte x)
byte_out-only byte (Phase w x) e = absurd cc
byte_out-only byte (Shown x) e = absurd cc
byte_out-only byte (ByteIn x) e = absurd cc
byte_out-only byte (ByteOut b x) e = let f : b ≡ byte = cc in (x, ap (λ (v : ℕ). ByteOut v x) f)
byte_out-only byte (Select t w x) e = absurd cc
byte_out-only byte (Reselect w x) e = absurd cc
byte_out-only byte (SetAtn on) e = absurd cc
byte_out-only byte ClearAck e = absurd cc
byte_out-only byte (Leave w x) e = absurd cc

select-only : (target word : ℕ) (given : Event) → call_of given ≡ Select target word TimedOut → (x : Settled) × (given ≡ Select target word x)
select-only target word (Phase w x) e = absurd cc
select-only target word (Shown x) e = absurd cc
select-only target word (ByteIn x) e = absurd cc
select-only target word (ByteOut b x) e = absurd cc
select-only target word (Select t w x) e = let f : t ≡ target = cc in let g : w ≡ word = cc in (x, ap (λ (v : ℕ). Select v w x) f ∙ ap (λ (v : ℕ). Select target v x) g)
select-only target word (Reselect w x) e = absurd cc
select-only target word (SetAtn on) e = absurd cc
select-only target word ClearAck e = absurd cc
select-only target word (Leave w x) e = absurd cc

set_atn-only : (on : Bool) (given : Event) → call_of given ≡ SetAtn on → given ≡ SetAtn on
set_atn-only on (Phase w x) e = absurd cc
set_atn-only on (Shown x) e = absurd cc
set_atn-only on (ByteIn x) e = absurd cc
set_atn-only on (ByteOut b x) e = absurd cc
set_atn-only on (Select t w x) e = absurd cc
set_atn-only on (Reselect w x) e = absurd cc
set_atn-only on (SetAtn v) e = e
set_atn-only on ClearAck e = absurd cc
set_atn-only on (Leave w x) e = absurd cc

clear_ack-only : (given : Event) → call_of given ≡ ClearAck → given ≡ ClearAck
clear_ack-only (Phase w x) e = absurd cc
clear_ack-only (Shown x) e = absurd cc
clear_ack-only (ByteIn x) e = absurd cc
clear_ack-only (ByteOut b x) e = absurd cc
clear_ack-only (Select t w x) e = absurd cc
clear_ack-only (Reselect w x) e = absurd cc
clear_ack-only (SetAtn v) e = absurd cc
clear_ack-only ClearAck e = e
clear_ack-only (Leave w x) e = absurd cc

leave-only : (word : ℕ) (given : Event) → call_of given ≡ Leave word false → (x : Bool) × (given ≡ Leave word x)
leave-only word (Phase w x) e = absurd cc
leave-only word (Shown x) e = absurd cc
leave-only word (ByteIn x) e = absurd cc
leave-only word (ByteOut b x) e = absurd cc
leave-only word (Select t w x) e = absurd cc
leave-only word (Reselect w x) e = absurd cc
leave-only word (SetAtn on) e = absurd cc
leave-only word ClearAck e = absurd cc
leave-only word (Leave w x) e = let f : w ≡ word = cc in (x, ap (λ (v : ℕ). Leave v x) f)

-- a target that shows a phase
pub record Shows (b : BusState) (shown : BusPhase) : Type 0 where
  pub bound : is_free b.target.link ≡ false
  pub phase : link_phase b.target.link ≡ Some shown

not_to_choose : (b : BusState) (shown : BusPhase) → Shows b shown → is_to_choose b.target.link ≡ false
not_to_choose b shown s = rw (s.bound, s.phase) refl

turns-shown : (b mid : BusState) (shown : BusPhase) → Shows b shown → Turns 0 b mid → mid ≡ b
turns-shown b mid shown s t =
    let g : GoesOn 0 b mid = rw s.bound at t in
    let e : g.target ≡ b.target = rw (not_to_choose b shown s) at g.chooses in
    let f : is_free g.target.link ≡ false = ap (λ (x : Target). is_free x.link) e ∙ s.bound in
    let i : become (is_free g.target.link) b g.target ≡ record b { target = g.target } = ap (λ (x : Bool). become x b g.target) f in
    g.becomes_it ∙ i ∙ ap (λ (x : Target). record b { target = x }) e

module _ (P : BusState → Type 0) where
  pub selects : (b : BusState) (es : List Event) → is_free b.target.link ≡ true → Answers moves es P (record b { target = target_selected b.target }) → Answers moves (Select 0 0 Selected ∷ es) P b
  selects b es f a = λ given after e m.
      let g : (x : Settled) × (given ≡ Select 0 0 x) = select-only 0 0 given e in
      let m' : moves b (Select 0 0 g.0) after = rw g.1 at m in
      let m'' : (g.0 ≡ Selected) × (after ≡ record b { target = target_selected b.target }) = rw f at m' in
      (g.1 ∙ ap (λ (x : Settled). Select 0 0 x) m''.0, rw m''.1 a)

  pub sets_atn : (on : Bool) (b : BusState) (es : List Event) → Answers moves es P (after_atn on b) → Answers moves (SetAtn on ∷ es) P b
  sets_atn on b es a = λ given after e m.
      let g : given ≡ SetAtn on = set_atn-only on given e in
      let m' : after ≡ after_atn on b = rw g at m in
      (g, rw m' a)

  pub clears_ack : (b : BusState) (es : List Event) → Answers moves es P (after_ack b) → Answers moves (ClearAck ∷ es) P b
  clears_ack b es a = λ given after e m.
      let g : given ≡ ClearAck = clear_ack-only given e in
      let m' : after ≡ after_ack b = rw g at m in
      (g, rw m' a)

  pub takes : (byte : ℕ) (b : BusState) (es : List Event) → link_takes b.target.link ≡ true → Answers moves es P (becomes b (target_took live_ticket b.target byte)) → Answers moves (ByteOut byte true ∷ es) P b
  takes byte b es t a = λ given after e m.
      let g : (x : Bool) × (given ≡ ByteOut byte x) = byte_out-only byte given e in
      let m' : moves b (ByteOut byte g.0) after = rw g.1 at m in
      let m'' : (g.0 ≡ true) × (after ≡ becomes b (target_took live_ticket b.target byte)) = rw t at m' in
      (g.1 ∙ ap (λ (x : Bool). ByteOut byte x) m''.0, rw m''.1 a)

  pub gives : (byte : ℕ) (b : BusState) (es : List Event) → byte < 256 → b.asked ≡ link_phase b.target.link → link_byte b.target.link ≡ Some byte →
      Answers moves es P (record b { target = linked b.target (link_sent b.target.link); ack = ack_by (Some byte) (link_phase b.target.link) b.ack }) → Answers moves (ByteIn (Some byte) ∷ es) P b
  gives byte b es small q t a = λ given after e m.
      let g : (x : Option ℕ) × (given ≡ ByteIn x) = byte_in-only given e in
      let m' : ComesIn b g.0 after ⊎ StaysOut b g.0 after = rw g.1 at m in
      elim m' [
        | inl x ↦
            let here : after ≡ record b { target = linked b.target (link_sent b.target.link); ack = ack_by (Some byte) (link_phase b.target.link) b.ack } = rw t at x.after in
            let whole : byte % 256 ≡ byte = omega arith in
            (g.1 ∙ ap (λ (o : Option ℕ). ByteIn o) (x.byte_is ∙ ap as_byte t ∙ ap (λ (n : ℕ). Some n) whole), rw here a)
        | inr x ↦ absurd (x.unasked q)
      ]

  -- the phase after the target's turn
  pub asks_for : (shown : Option BusPhase) (b : BusState) (es : List Event) →
      ((mid : BusState) → Turns 0 b mid → (link_phase mid.target.link ≡ shown) × Answers moves es P (record mid { asked = shown })) → Answers moves (Phase 0 shown ∷ es) P b
  asks_for shown b es f = λ given after e m.
      let g : (x : Option BusPhase) × (given ≡ Phase 0 x) = phase-only 0 given e in
      let m' : moves b (Phase 0 g.0) after = rw g.1 at m in
      let r : (link_phase m'.0.target.link ≡ shown) × Answers moves es P (record m'.0 { asked = shown }) = f m'.0 m'.1 in
      let x : g.0 ≡ shown = m'.2 ∙ r.0 in
      let after_is : after ≡ record m'.0 { asked = shown } = m'.3 ∙ ap (λ (o : Option BusPhase). record m'.0 { asked = o }) x in
      (g.1 ∙ ap (λ (o : Option BusPhase). Phase 0 o) x, rw after_is r.1)

  pub leaves : (b : BusState) (es : List Event) → is_free b.target.link ≡ true → Answers moves es P b → Answers moves (Leave 0 true ∷ es) P b
  leaves b es f a = λ given after e m.
      let g : (x : Bool) × (given ≡ Leave 0 x) = leave-only 0 given e in
      let m' : moves b (Leave 0 g.0) after = rw g.1 at m in
      let same : after ≡ b = rw f at m'.0 in
      let gone : g.0 ≡ true = m'.1 ∙ ap (λ (x : BusState). is_free x.target.link) same ∙ f in
      (g.1 ∙ ap (λ (x : Bool). Leave 0 x) gone, rw same a)

  -- a phase that is shown already
  pub asks_shown : (shown : BusPhase) (b : BusState) (es : List Event) → Shows b shown → Answers moves es P (record b { asked = Some shown }) → Answers moves (Phase 0 (Some shown) ∷ es) P b
  asks_shown shown b es s a = asks_for (Some shown) b es (λ mid t.
      let e : mid ≡ b = turns-shown b mid shown s t in
      (ap (λ (x : BusState). link_phase x.target.link) e ∙ s.phase, rw e a))
