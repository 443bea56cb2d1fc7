-- Where ATN is asserted: each step of a run keeps what is told of it.
use Rattle.std.proofs.Common.{arith, ◌≡◌, ◌⊎◌, inl, inr, ℕ, zero, suc, ◌+◌, ◌*◌, ◌%◌, ◌<◌, ◌≤◌, ◌||◌, nat_eq, nat_le, Bool, true, false, List, [], ◌∷◌, ◌++◌, length, slice_index_or, MatchBool, Option, Some, None, refl, sym, ap, subst, ◌∙◌, lit<, length-append}
use Rattle.std.proofs.lemmas.Bool.{false≢true}
use Rattle.std.proofs.lemmas.Bool.Decides.{nat_tests}
use Rattle.bench_words.specs.Memory.{word_at}
use Rattle.scsi_words.specs.Phases.{phase_code}
use Rattle.scsi_words.specs.declared.phases.kinds.Phase.{Phase as BusPhase}
use Rattle.rig_types.specs.declared.rig.Unit.{Unit as RigUnit}
use Rattle.host_map.specs.declared.TheConstants.{CHAINS, MSGIN}
use Rattle.host_map.specs.Places.{target_chain, unit_chain}
use Rattle.scripts_ops.specs.declared.values.Op.{Op}
use Rattle.scripts_ops.specs.declared.values.Op.TheVariants as op
use Rattle.scripts_ops.specs.declared.values.Address.TheVariants.{At}
use Rattle.scripts_ops.specs.declared.values.Change.TheVariants.{And}
use Rattle.scripts_ops.specs.declared.values.Condition.TheVariants.{Always, Byte}
use Rattle.driver_script.specs.Script.{instruction}
use Rattle.driver_script.specs.declared.script.TheConstants.{SCRIPT}
use Rattle.driver_script.proofs.ScriptTests.{all_below, both_versions}
use Rattle.rig_chains.specs.Chains.{jump_if, identify_ops, target_ops, lun_ops, lun_jumps, unit_ops}
use Rattle.chip_regs.specs.declared.registers.Regs.{Regs}
use Rattle.chip_regs.specs.declared.registers.Cause.{Cause}
use Rattle.chip_regs.specs.declared.registers.Cause.TheVariants.{Iid, Bf, Ma, Udc}
use Rattle.chip_rows.proofs.RelatedBuses.{steps_show}
use Rattle.chip_step.specs.Event as event
use Rattle.chip_step.specs.Event.{Event}
use Rattle.chip_step.specs.Chip.{Chip, Stops}
use Rattle.chip_step.specs.Blocks.{loaded, Moves as BytesMove, MovesAt, BlockMoves, MovesBy}
use Rattle.chip_step.specs.Connection.{with_table, SettlesAs, SelectsBy}
use Rattle.chip_step.specs.Step as chip_step
use Rattle.chip_step.specs.Step.{ChipStep, IsAt, third_at, after_fetch}
use Rattle.chip_step.specs.declared.scsi_bus.Settled.{Settled}
use Rattle.chip_step.specs.declared.scsi_bus.Settled.TheVariants.{Selected, Reselected, TimedOut as NobodyAnswers}
use Rattle.chip_step.specs.declared.outcome.StepEnd.{StepEnd}
use Rattle.chip_step.specs.declared.outcome.StepEnd.TheVariants.{Ran, Stopped}
use Rattle.chip_step.proofs.Made.{one_spelling}
use Rattle.target_law.specs.declared.nexus.Nexus.{Nexus}
use Rattle.target_law.specs.Devices.{DeviceState}
use Rattle.target_law.specs.Calls.{is_free}
use Rattle.bus_law.specs.Attention.{acked, after_ack}
use Rattle.bus_law.specs.Bus.{BusState, free_if, with_device, becomes}
use Rattle.bus_law.specs.Bytes.{after_byte_in, after_byte_out}
use Rattle.bus_law.specs.Choices.{after_turn}
use Rattle.bus_law.specs.Moves.{moves}
use Rattle.bus_law.specs.Reselections.{Candidate, candidate_named, can_select, after_reselection, after_selection}
use Rattle.ownership.proofs.Steps.{stands_at}
use Rattle.world_law.specs.ChipSteps.{chip_of, RunsChip}
use Rattle.world_law.specs.World.{World, live}
use Rattle.world_law.specs.declared.reply.Reply.{Reply}
use Rattle.word_owners.specs.Holds.{Holds, Running}
use Rattle.word_owners.specs.Parts.{Counts}
use Rattle.word_owners.specs.Points.{Point, about, At2B8, AtUnit, BehindUnit, InLuns, InTargets}
use Rattle.word_owners.specs.Tickets.{tickets_of}
use Rattle.word_owners.proofs.ChainOps.{jumps, stops, target-op, lun-op}
use Rattle.word_owners.proofs.ChainSteps.{IsAtChain, stands-here, in-targets, in-luns, jump-two}
use Rattle.word_owners.proofs.ChipSteps.{stands}
use Rattle.word_owners.proofs.Patches.{few}
use Rattle.word_owners.proofs.Standing.{script, at-over, in-chain, is_chain, stands-at}
use Rattle.chip_needs.proofs.CalmSteps.{IsCalm, Allows, such, does}

-- ---- a call that doesn't assert ATN leaves it, or the bus becomes free
abbrev Stays : BusState → BusState → Type 0
Stays b n = n.atn ≡ true → b.atn ≡ true

free-atn : (f : Bool) (b : BusState) → Stays b (free_if f b)
free-atn true b e = absurd cc
free-atn false b e = e

becomes-atn : (b : BusState) (id : ℕ) (d : DeviceState) → Stays b (becomes b id d)
becomes-atn b id d e = free-atn (is_free d.target.link) (with_device b id d) e

same-atn : (b n made : BusState) → n ≡ made → Stays b made → Stays b n
same-atn b n made e h t = h (sym (ap (λ (x : BusState). x.atn) e) ∙ t)

turn-atn : (o : Option ℕ) (word : ℕ) (b : BusState) → Stays b (after_turn o word b)
turn-atn None word b e = e
turn-atn (Some id) word b e = becomes-atn b id _ e

in-atn : (o byte : Option ℕ) (b : BusState) → Stays b (after_byte_in o byte b)
in-atn (Some id) (Some byte) b e = e
in-atn (Some id) None b e = e
in-atn None byte b e = e

out-atn : (live_at : ℕ → Nexus → Option ℕ) (taken : Bool) (o : Option ℕ) (byte : ℕ) (b : BusState) → Stays b (after_byte_out live_at taken o byte b)
out-atn live_at true (Some id) byte b e = becomes-atn b id _ e
out-atn live_at true None byte b e = e
out-atn live_at false o byte b e = e

reselection-atn : (o : Option Candidate) (word : ℕ) (b : BusState) → Stays b (after_reselection o word b)
reselection-atn None word b e = e
reselection-atn (Some c) word b e = e

selection-atn : (o : Option Candidate) (there : Bool) (id word : ℕ) (b : BusState) → Stays b (after_selection o there id word b)
selection-atn (Some c) there id word b e = e
selection-atn None true id word b e = e
selection-atn None false id word b e = e

ack-atn : (a : Bool) (b : BusState) → Stays b (after_ack a b)
ack-atn false b e = e
ack-atn true b e = by b.connected e
  where
    by : (o : Option ℕ) → (acked o b).atn ≡ true → b.atn ≡ true
    by None z = z
    by (Some id) z = becomes-atn b id _ z

abbrev IsQuiet : Event → Type 0
IsQuiet (event.SetAtn true) = ⊥
IsQuiet _ = Unit {0}

module _ (units : List RigUnit) (live_at : ℕ → Nexus → Option ℕ) where
  pub call-atn : (b : BusState) (e : Event) (n : BusState) → IsQuiet e → moves units live_at b e n → n.atn ≡ true → b.atn ≡ true
  call-atn b (event.Phase word shown) n q m = same-atn b n (record (after_turn b.connected word b) { asked = shown }) m.1 (turn-atn b.connected word b)
  call-atn b (event.Shown shown) n q m = same-atn b n b m.1 (λ z. z)
  call-atn b (event.ByteIn byte) n q m = same-atn b n _ m.1 (in-atn b.connected byte b)
  call-atn b (event.ByteOut byte taken) n q m = same-atn b n _ m.1 (out-atn live_at taken b.connected byte b)
  call-atn b (event.Select target word settled) n q m = same-atn b n _ m.1 (selection-atn (candidate_named units b word) (can_select b target) target word b)
  call-atn b (event.Reselect word by) n q m = same-atn b n _ m.1 (reselection-atn (candidate_named units b word) word b)
  call-atn b (event.SetAtn true) n q m = absurd q
  call-atn b (event.SetAtn false) n q m = same-atn b n _ m (λ z. absurd cc)
  call-atn b event.ClearAck n q m = same-atn b n _ m (ack-atn b.ack b)
  call-atn b (event.Leave word gone) n q m = same-atn b n _ m.1 (turn-atn b.connected word b)

  released : (b n : BusState) → moves units live_at b (event.SetAtn false) n → n.atn ≡ false
  released b n m = ap (λ (x : BusState). x.atn) m

  abbrev calls : BusState → Event → BusState → Type 0
  calls = moves units live_at

  quiet : (word : ℕ) → Allows word IsQuiet
  quiet word = record { ack = tt; phase = λ s. tt; seen = λ s. tt; byte_in = λ b. tt; byte_out = λ b t. tt; release = tt; leave = λ b. tt; reselect = λ b. tt }

  -- so does an instruction but SELECT and SET ATN
  calm-atn : (word : ℕ) (x : Op) (old : Chip BusState) (end : StepEnd) (new : Chip BusState) → IsCalm x → ChipStep calls word old end new → IsAt old x → new.bus.atn ≡ true → old.bus.atn ≡ true
  calm-atn word x old end new c r at e =
      (steps_show (λ (b : BusState). b) (λ (b : BusState). b.atn ≡ true → old.bus.atn ≡ true) (such calls word IsQuiet (quiet word)) calls
      (λ b ev n p m. ((λ z. p (call-atn b ev n m.1 m.0 z)), m.0)) word old end new (λ z. z) (restricted r)).0 e
    where
      restricted : ChipStep calls word old end new → ChipStep (such calls word IsQuiet (quiet word)) word old end new
      restricted (chip_step.idle s f n) = chip_step.idle s f n
      restricted (chip_step.unfetched s f h) = chip_step.unfetched s f h
      restricted (chip_step.unspelled s f n h) = chip_step.unspelled s f n h
      restricted (chip_step.does s f y here d) =
          let same : y ≡ x = one_spelling (word_at old.memory old.regs.dsp) (word_at old.memory (old.regs.dsp + 4)) (third_at old.memory old.regs) y x here at in
          chip_step.does s f y here (does calls word IsQuiet (quiet word) y (subst IsCalm (sym same) c) old (after_fetch old) end new d)

  -- ---- a message to the target: where it was whole, ATN is released
  abbrev pub Ended : StepEnd → BusState → Type 0
  Ended end n = (n.atn ≡ false) ⊎ ((cause : Cause) × (end ≡ Stopped cause))

  by_bool : (P Q C : Type 0) (b : Bool) → (P → C) → (Q → C) → MatchBool b P Q → C
  by_bool P Q C true f g h = f h
  by_bool P Q C false f g h = g h

  stopped : (cause : Cause) (old : Chip BusState) (end : StepEnd) (new : Chip BusState) → Stops cause old end new → Ended end new.bus
  stopped cause old end new s = inr (cause, s.ends.is)

  message-moved : (old : Chip BusState) (end : StepEnd) (new : Chip BusState) → BytesMove calls 6 old end new → Ended end new.bus
  message-moved old end new d = by_bool _ _ (Ended end new.bus) (nat_eq d.left 0) (λ k. inl (released d.bus new.bus k.0)) (λ k. inr (Ma, k.1)) d.finishes

  message-at : (word : ℕ) (shown : Option BusPhase) (old : Chip BusState) (b : BusState) (end : StepEnd) (new : Chip BusState) → MovesAt calls word shown 6 old b end new → Ended end new.bus
  message-at word None old b end new d = stopped Udc (record old { bus = b }) end new d
  message-at word (Some shown) old b end new d = by_bool _ _ (Ended end new.bus) (nat_eq (phase_code shown) 6) (message-moved (record old { bus = b }) end new) (stopped Ma (record old { bus = b }) end new) d

  pub message-moves : (word : ℕ) (old : Chip BusState) (end : StepEnd) (new : Chip BusState) → BlockMoves calls word 6 old end new → Ended end new.bus
  message-moves word old end new d =
      by_bool _ _ (Ended end new.bus) (nat_eq old.regs.dbc 0) (stopped Iid old end new)
      (by_bool _ _ (Ended end new.bus) (nat_le (old.regs.dnad + old.regs.dbc) (length old.memory)) (λ k. message-at word k.shown old k.bus end new k.moved) (stopped Bf old end new)) d

  pub message-by : (word : ℕ) (place : Option ℕ) (old : Chip BusState) (end : StepEnd) (new : Chip BusState) → MovesBy calls word place 6 old end new → Ended end new.bus
  message-by word None old end new d = stopped Bf old end new d
  message-by word (Some e) old end new d = message-moves word (loaded (word_at old.memory e % 16777216) (word_at old.memory (e + 4)) old) end new d

  -- ---- SELECT
  abbrev pub Chose : Chip BusState → StepEnd → Chip BusState → Type 0
  Chose old end new = (new.bus.atn ≡ true → old.bus.atn ≡ true) ⊎ ((end ≡ Ran) × (new.regs.dsp ≡ old.regs.dsp))

  none-called : (cause : Cause) (old : Chip BusState) (end : StepEnd) (new : Chip BusState) → Stops cause old end new → Chose old end new
  none-called cause old end new s = inl (λ z. sym (ap (λ (b : BusState). b.atn) s.bus_is) ∙ z)

  settled : (word : ℕ) (s : Settled) (alternate : ℕ) (r : Regs) (old : Chip BusState) (end : StepEnd) (new : Chip BusState) → r.dsp ≡ old.regs.dsp → SettlesAs calls word s alternate r old end new → Chose old end new
  settled word Selected alternate r old end new e d = inr (d.3.is, ap (λ (x : Regs). x.dsp) d.3.regs_are ∙ e)
  settled word (Reselected by) alternate r old end new e d = inl (call-atn old.bus (event.Select r.sdid word (Reselected by)) new.bus tt d.0)
  settled word NobodyAnswers alternate r old end new e d = inl (call-atn old.bus (event.Select r.sdid word NobodyAnswers) new.bus tt d.0)

  selects-by : (word : ℕ) (place : Option ℕ) (alternate : ℕ) (old : Chip BusState) (end : StepEnd) (new : Chip BusState) → SelectsBy calls word place alternate old end new → Chose old end new
  selects-by word None alternate old end new d = none-called Bf old end new d
  selects-by word (Some e) alternate old end new d = settled word d.0 alternate (with_table (word_at old.memory e) old.regs) old end new refl d.1

  pub chose : (word alternate : ℕ) (place : Option ℕ) (old : Chip BusState) (end : StepEnd) (new : Chip BusState) → MatchBool old.regs.con (Stops Iid old end new) (SelectsBy calls word place alternate old end new) → Chose old end new
  chose word alternate place old end new d = by_bool _ _ (Chose old end new) old.regs.con (none-called Iid old end new) (selects-by word place alternate old end new) d

-- ---- which instructions are calm
abbrev is_calm : Op → Bool
is_calm (op.Select o alternate) = false
is_calm (op.Set ack true) = false
is_calm _ = true

calm-is : (x : Op) → is_calm x ≡ true → IsCalm x
calm-is (op.Select o alternate) e = absurd cc
calm-is (op.Set ack true) e = absurd cc
calm-is (op.Set ack false) e = tt
calm-is _ e = tt

-- in the script all but the three SELECTs and the SET
abbrev asserts_at : ℕ → Bool
asserts_at k = nat_eq k 12 || (nat_eq k 79 || (nat_eq k 83 || nat_eq k 136))

abbrev calm_or : ℕ → Op → Bool
calm_or k x = is_calm x || asserts_at k

all-calm : all_below 151 (λ k. calm_or k (slice_index_or SCRIPT k op.Nop)) ≡ true
all-calm = refl

or-true : (a b : Bool) → (a || b) ≡ true → b ≡ false → a ≡ true
or-true true b e f = refl
or-true false b e f = absurd (false≢true (sym f ∙ e))

script-calm : (k version : ℕ) → k < 151 → asserts_at k ≡ false → IsCalm (instruction k version)
script-calm k version l n = calm-is (instruction k version) (or-true (is_calm (instruction k version)) (asserts_at k) (both_versions calm_or 151 all-calm refl k version l) n)

module _ (version : ℕ) (units : List RigUnit) (c : Counts) (w new : World) (word : ℕ) (answer : Reply) (run : RunsChip w word answer new) where
  abbrev us : List RigUnit
  us = (tickets_of w.desk).units

  abbrev pub Back : Type 0
  Back = run.chip.bus.atn ≡ true → w.bus.atn ≡ true

  by-op : (x : Op) → IsCalm x → IsAt (chip_of w) x → Back
  by-op x q at = calm-atn w.desk.units (live w.desk) word x (chip_of w) run.end run.chip q run.ran at

  chain-back : (p : Point) (h : Holds version units (Running p) c w) (a : ℕ) (ops : List Op) (j : ℕ) (n : Op) → IsAtChain p a ops j n w → IsCalm n → Back
  chain-back p h a ops j n i q = by-op n q (stands-here version units p c w h new word answer run a ops j n i)

  lun-back : (r i : ℕ) → Holds version units (Running (InLuns r i)) c w → Back
  lun-back r zero h = chain-back (InLuns r 0) h (target_chain r) (lun_ops us r) 0 (op.Move 1 MSGIN 7) (in-luns version units c w new word answer run r 0 h (op.Move 1 MSGIN 7) refl refl) tt
  lun-back r (suc zero) h = chain-back (InLuns r 1) h (target_chain r) (lun_ops us r) 1 (op.Int (Byte true 0x7F 0x80) 8) (in-luns version units c w new word answer run r 1 h (op.Int (Byte true 0x7F 0x80) 8) refl refl) tt
  lun-back r (suc (suc zero)) h = chain-back (InLuns r 2) h (target_chain r) (lun_ops us r) 2 (op.ToSfbr 0x08 And 0x07) (in-luns version units c w new word answer run r 2 h (op.ToSfbr 0x08 And 0x07) refl refl) tt
  lun-back r (suc (suc (suc i))) h =
      let j = suc (suc (suc i)) in
      let n : length (lun_ops us r) ≡ 3 + length (lun_jumps us r ++ op.Int Always 9 ∷ []) = length-append identify_ops (lun_jumps us r ++ op.Int Always 9 ∷ []) in
      elim (lun-op us r i (omega (arith, n, h.works.extra.2))) [
        | jumps y more ↦ chain-back (InLuns r j) h (target_chain r) (lun_ops us r) j (jump_if y.lun (unit_chain y.unit)) (in-luns version units c w new word answer run r j h (jump_if y.lun (unit_chain y.unit)) y.is (jump-two y.lun (unit_chain y.unit) y.small)) tt
        | stops e ↦ chain-back (InLuns r j) h (target_chain r) (lun_ops us r) j (op.Int Always 9) (in-luns version units c w new word answer run r j h (op.Int Always 9) e refl) tt
      ]

  chains-back : (p : Point) → is_chain p ≡ true → Holds version units (Running p) c w → Back
  chains-back (InTargets r j) e h = elim (target-op us j h.works.extra.1) [
    | jumps y more ↦ chain-back (InTargets r j) h CHAINS (target_ops us) j (jump_if y.target (target_chain y.target)) (in-targets version units c w new word answer run r j h (jump_if y.target (target_chain y.target)) y.is (jump-two y.target (target_chain y.target) y.below)) tt
    | stops f ↦ chain-back (InTargets r j) h CHAINS (target_ops us) j (op.Int Always 0x0A) (in-targets version units c w new word answer run r j h (op.Int Always 0x0A) f refl) tt
  ]
  chains-back (InLuns r j) e h = lun-back r j h
  chains-back (AtUnit u r) e h =
      let f : length us ≤ 16 = few version units (Running (AtUnit u r)) c w 0 h in
      let i : IsAtChain (AtUnit u r) (unit_chain u) (unit_ops u) 0 (op.Load 0x10 4 (At (unit_chain u + 0x10))) w = record { spells = h.parts.chains.units_laid u h.works.extra.0; inside = lit< tt; is = refl; place = omega arith; aligned = omega arith; from = omega arith; below = omega (arith, f, h.works.extra.0); two = refl } in
      chain-back (AtUnit u r) h (unit_chain u) (unit_ops u) 0 (op.Load 0x10 4 (At (unit_chain u + 0x10))) i tt
  chains-back (BehindUnit u r) e h =
      let f : length us ≤ 16 = few version units (Running (BehindUnit u r)) c w 0 h in
      let i : IsAtChain (BehindUnit u r) (unit_chain u) (unit_ops u) 1 (op.Jump Always 0x160) w = record { spells = h.parts.chains.units_laid u h.works.extra.0; inside = lit< tt; is = refl; place = refl; aligned = omega arith; from = omega arith; below = omega (arith, f, h.works.extra.0); two = refl } in
      chain-back (BehindUnit u r) h (unit_chain u) (unit_ops u) 1 (op.Jump Always 0x160) i tt
  chains-back _ e h = absurd cc

  script-back : (p : Point) (k : ℕ) → k < 151 → (about p).place ≡ 8 * k → asserts_at k ≡ false → Holds version units (Running p) c w → Back
  script-back p k l place n h = by-op (instruction k version) (script-calm k version l n) (stands_at version k (chip_of w) (stands version units p c w h k l place))

  eighth : (k : ℕ) → nat_eq (8 * k) 0x60 || (nat_eq (8 * k) 0x278 || (nat_eq (8 * k) 0x298 || nat_eq (8 * k) 0x440)) ≡ false → asserts_at k ≡ false
  eighth k e = grind (arith, nat_tests)

  -- a step at any point but a SELECT and the SET of ATN
  pub calm-back : (p : Point) → nat_eq (about p).place 0x60 || (nat_eq (about p).place 0x278 || (nat_eq (about p).place 0x298 || nat_eq (about p).place 0x440)) ≡ false → Holds version units (Running p) c w → Back
  calm-back p n h = elim (stands-at version units c w p h) [
    | script k l place side ↦ script-back p k l place (eighth k (ap (λ (i : ℕ). nat_eq i 0x60 || (nat_eq i 0x278 || (nat_eq i 0x298 || nat_eq i 0x440))) (sym place) ∙ n)) h
    | at-over t e ↦ script-back (At2B8 t) 87 (omega arith) refl refl (subst (λ (q : Point). Holds version units (Running q) c w) e h)
    | in-chain e far ↦ chains-back p e h
  ]
