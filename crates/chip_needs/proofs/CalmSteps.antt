-- Which calls an instruction makes: none but SELECT and SET asserts ATN.
use Rattle.std.proofs.Common.{ℕ, zero, suc, ◌+◌, ◌%◌, Bool, true, false, ◌&&◌, nat_eq, nat_le, Option, Some, None, List, length, slice_index, slice_set, MatchBool, inl, inr}
use Rattle.scsi_words.specs.Phases.{phase_code}
use Rattle.bench_words.specs.Memory.{word_at}
use Rattle.scsi_words.specs.declared.phases.kinds.Phase.{Phase}
use Rattle.scripts_ops.specs.declared.values.Op.{Op}
use Rattle.scripts_ops.specs.declared.values.Op.TheVariants as op
use Rattle.scripts_ops.specs.declared.values.Condition.{Condition}
use Rattle.scripts_ops.specs.declared.values.Condition.TheVariants as condition
use Rattle.chip_regs.specs.declared.registers.Regs.{Regs}
use Rattle.chip_step.specs.Event as event
use Rattle.chip_step.specs.Event.{Event}
use Rattle.chip_step.specs.Chip.{Chip}
use Rattle.chip_step.specs.Addresses.{place_of}
use Rattle.chip_step.specs.Bytes.{Acked, TakesIn, GoesOut}
use Rattle.chip_step.specs.Blocks.{loaded, after_bytes, ReleasesAtn, Carries, Finishes, Moves, Asks, MovesAt, BlockMoves, MovesBy}
use Rattle.chip_step.specs.Connection.{ReleasesAck, Reselects}
use Rattle.chip_step.specs.Transfers.{Decides, Transfers}
use Rattle.chip_step.specs.Instructions.{Does}
use Rattle.chip_step.specs.declared.outcome.StepEnd.{StepEnd}

-- an instruction that asserts no ATN
abbrev pub IsCalm : Op → Type 0
IsCalm (op.Select o alternate) = ⊥
IsCalm (op.Set ack true) = ⊥
IsCalm _ = Unit {0}

choose : (P Q R S : Type 0) (b : Bool) → (P → R) → (Q → S) → MatchBool b P Q → MatchBool b R S
choose P Q R S true f g h = f h
choose P Q R S false f g h = g h

-- each call that such an instruction makes is one of these
pub record Allows (word : ℕ) (A : Event → Type 0) : Type 0 where
  pub ack : A event.ClearAck
  pub phase : (shown : Option Phase) → A (event.Phase word shown)
  pub seen : (shown : Option Phase) → A (event.Shown shown)
  pub byte_in : (b : Option ℕ) → A (event.ByteIn b)
  pub byte_out : (b : ℕ) (taken : Bool) → A (event.ByteOut b taken)
  pub release : A (event.SetAtn false)
  pub leave : (gone : Bool) → A (event.Leave word gone)
  pub reselect : (by : Option ℕ) → A (event.Reselect word by)

module _ {B : Type 0} (moves : B → Event → B → Type 0) (word : ℕ) (A : Event → Type 0) (a : Allows word A) where
  abbrev pub such : B → Event → B → Type 0
  such x e y = moves x e y × A e

  acked : (b : Bool) (x y : B) → Acked moves b x y → Acked such b x y
  acked true x y h = (h, a.ack)
  acked false x y h = h

  releases_atn : (b : Bool) (x y : B) → ReleasesAtn moves b x y → ReleasesAtn such b x y
  releases_atn true x y h = (h, a.release)
  releases_atn false x y h = h

  releases_ack : (b : Bool) (x y : B) → ReleasesAck moves b x y → ReleasesAck such b x y
  releases_ack true x y h = (h, a.ack)
  releases_ack false x y h = h

  takes : (message later : Bool) (n : ℕ) (memory : List ℕ) (at : ℕ) (bus : B) (left : ℕ) (memory' : List ℕ) (bus' : B) → TakesIn moves message later n memory at bus left memory' bus' → TakesIn such message later n memory at bus left memory' bus'
  takes message later zero memory at bus left memory' bus' h = h
  takes message later (suc n) memory at bus left memory' bus' h = (
    h.0,
    acked (message && later) bus h.0 h.1,
    elim h.2 [
      | inl e ↦ inl (record { call = (e.call, a.byte_in None); all_left = e.all_left; same = e.same })
      | inr x ↦ inr (x.0, x.1, (x.2, a.byte_in (Some x.0)), takes message true n (slice_set memory at x.0) (at + 1) x.1 left memory' bus' x.3)
    ],
  )

  goes : (n : ℕ) (memory : List ℕ) (at : ℕ) (bus : B) (left : ℕ) (bus' : B) → GoesOut moves n memory at bus left bus' → GoesOut such n memory at bus left bus'
  goes zero memory at bus left bus' h = h
  goes (suc n) memory at bus left bus' h = elim h [
    | inl x ↦ inl ((x.0, a.byte_out (slice_index memory at) false), x.1)
    | inr x ↦ inr (x.0, (x.1, a.byte_out (slice_index memory at) true), goes n memory (at + 1) x.0 left bus' x.2)
  ]

  carries : (phase : ℕ) (old : Chip B) (left : ℕ) (memory : List ℕ) (bus : B) → Carries moves phase old left memory bus → Carries such phase old left memory bus
  carries phase old left memory bus h =
      choose _ _ _ _ (nat_eq (phase % 2) 1)
      (takes (nat_eq phase 7) false old.regs.dbc old.memory old.regs.dnad old.bus left memory bus)
      (λ k. (goes old.regs.dbc old.memory old.regs.dnad old.bus left bus k.0, k.1)) h

  finishes : (phase left : ℕ) (bus : B) (regs : Regs) (end : StepEnd) (new : Chip B) → Finishes moves phase left bus regs end new → Finishes such phase left bus regs end new
  finishes phase left bus regs end new h = choose _ _ _ _ (nat_eq left 0) (λ k. (releases_atn (nat_eq phase 6) bus new.bus k.0, k.1, k.2)) (λ k. k) h

  moved : (phase : ℕ) (old : Chip B) (end : StepEnd) (new : Chip B) → Moves moves phase old end new → Moves such phase old end new
  moved phase old end new h = record { left = h.left; bus = h.bus; carries = carries phase old h.left new.memory h.bus h.carries; finishes = finishes phase h.left h.bus (after_bytes phase h.left new.memory old.regs) end new h.finishes }

  asks : (shown : Option Phase) (x y : B) → Asks moves word shown x y → Asks such word shown x y
  asks shown x y h = record { mid = h.mid; acked = (h.acked, a.ack); asked = (h.asked, a.phase shown) }

  moves_at : (shown : Option Phase) (phase : ℕ) (old : Chip B) (bus : B) (end : StepEnd) (new : Chip B) → MovesAt moves word shown phase old bus end new → MovesAt such word shown phase old bus end new
  moves_at None phase old bus end new h = h
  moves_at (Some shown) phase old bus end new h = choose _ _ _ _ (nat_eq (phase_code shown) phase) (moved phase (record old { bus = bus }) end new) (λ k. k) h

  block_moves : (phase : ℕ) (old : Chip B) (end : StepEnd) (new : Chip B) → BlockMoves moves word phase old end new → BlockMoves such word phase old end new
  block_moves phase old end new h =
      choose _ _ _ _ (nat_eq old.regs.dbc 0) (λ k. k)
      (choose _ _ _ _ (nat_le (old.regs.dnad + old.regs.dbc) (length old.memory))
      (λ k. record { shown = k.shown; bus = k.bus; asks = asks k.shown old.bus k.bus k.asks; moved = moves_at k.shown phase old k.bus end new k.moved }) (λ k. k)) h

  moves_by : (place : Option ℕ) (phase : ℕ) (old : Chip B) (end : StepEnd) (new : Chip B) → MovesBy moves word place phase old end new → MovesBy such word place phase old end new
  moves_by None phase old end new h = h
  moves_by (Some e) phase old end new h = block_moves phase (loaded (word_at old.memory e % 16777216) (word_at old.memory (e + 4)) old) end new h

  decides : (on : Condition) (sfbr : ℕ) (x : B) (d : Option Bool) (y : B) → Decides moves word on sfbr x d y → Decides such word on sfbr x d y
  decides condition.Always sfbr x d y h = h
  decides (condition.Byte negated mask value) sfbr x d y h = h
  decides (condition.Phase true negated code) sfbr x d y h = (h.0, asks h.0 x y h.1, h.2)
  decides (condition.Phase false negated code) sfbr x d y h = (h.0, (h.1, a.seen h.0), h.2, h.3)

  transfers : (on : Condition) (how : StepEnd) (regs : Regs) (old : Chip B) (end : StepEnd) (new : Chip B) → Transfers moves word on how regs old end new → Transfers such word on how regs old end new
  transfers on how regs old end new h = record { decision = h.decision; decides = decides on old.regs.sfbr old.bus h.decision new.bus h.decides; transfers = h.transfers }

  reselects : (alternate : ℕ) (before old : Chip B) (end : StepEnd) (new : Chip B) → Reselects moves word alternate before old end new → Reselects such word alternate before old end new
  reselects alternate before old end new h =
      choose _ _ _ _ old.regs.con (λ k. k) (choose _ _ _ _ old.regs.sigp (λ k. k) (λ k. (k.0, (k.1, a.reselect k.0), k.2))) h

  pub does : (x : Op) → IsCalm x → (before old : Chip B) (end : StepEnd) (new : Chip B) → Does moves word x before old end new → Does such word x before old end new
  does (op.Move n at p) c before old end new h = block_moves p (loaded n at old) end new h
  does (op.MoveFrom o p) c before old end new h = moves_by (place_of old.memory old.regs.dsa o 8) p old end new h
  does (op.Select o alternate) c before old end new h = absurd c
  does op.WaitDisconnect c before old end new h = (h.0, (h.1, a.leave h.0), h.2)
  does (op.WaitReselect alternate) c before old end new h = reselects alternate before old end new h
  does (op.Set ack true) c before old end new h = absurd c
  does (op.Set ack false) c before old end new h = record { asserts = h.asserts; ends = h.ends }
  does (op.Clear ack atn) c before old end new h = record { mid = h.mid; atn_first = releases_atn atn old.bus h.mid h.atn_first; ack_then = releases_ack ack h.mid new.bus h.ack_then; ends = h.ends }
  does (op.FromSfbr ch d register) c before old end new h = h
  does (op.ToSfbr register ch d) c before old end new h = h
  does (op.Modify register ch d) c before old end new h = h
  does (op.Put d register) c before old end new h = h
  does (op.Jump on at) c before old end new h = transfers on _ _ old end new h
  does (op.Call on at) c before old end new h = transfers on _ _ old end new h
  does (op.Return on) c before old end new h = transfers on _ _ old end new h
  does (op.Int on vector) c before old end new h = transfers on _ _ old end new h
  does (op.IntFly on) c before old end new h = transfers on _ _ old end new h
  does op.Nop c before old end new h = h
  does (op.MoveMemory n s t) c before old end new h = h
  does (op.Load register n place) c before old end new h = h
  does (op.Store register n place) c before old end new h = h
