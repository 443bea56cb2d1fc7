-- START and RING, 0x000 to 0x018 and 0x020 to 0x040.
use Rattle.std.proofs.Common.{◌≡◌, ℕ, pos, suc, ◌+◌, ◌*◌, ◌<◌, List, length, refl, sym, ap, subst, ◌∙◌, arith, lit<, nat_eq, false}
use Rattle.std.specs.Prelude.{if◌then◌else◌}
use Rattle.bench_words.specs.Bytes.{IsBytes}
use Rattle.bench_words.specs.Memory.{word_at}
use Rattle.scripts_ops.specs.declared.values.Address.{Address}
use Rattle.scripts_ops.specs.declared.values.Address.TheVariants.{At, FromDsa}
use Rattle.scripts_ops.specs.declared.values.Op.TheVariants.{Load}
use Rattle.chip_regs.specs.Bytes.{Wide, Dsa, Temp, ScratchA, ScratchB, base_of, holding}
use Rattle.chip_regs.specs.declared.registers.Regs.{Regs}
use Rattle.chip_step.specs.Event.{Event}
use Rattle.chip_step.specs.Chip.{Chip, Becomes}
use Rattle.chip_step.specs.Step.{ChipStep, after_fetch}
use Rattle.chip_step.specs.declared.outcome.StepEnd.{StepEnd}
use Rattle.chip_rows.proofs.StepWrites.{runs_on}
use Rattle.driver_script.specs.Script.{instruction, IsLoaded}
use Rattle.ownership.specs.Standing.{StandsAt}
use Rattle.ownership.specs.Start.{EntersFront, EntersRing}
use Rattle.ownership.specs.Words.{IsHead, IsReached, place_from, LoadedWord}
use Rattle.ownership.proofs.Steps.{is_row, follows}
use Rattle.ownership.proofs.Transfers.{returns_to}
use Rattle.ownership.proofs.Words.{loads_word}

-- a register is told by its place
at_base : ℕ → Wide
at_base b = if nat_eq b 0x10 then Dsa else if nat_eq b 0x1c then Temp else if nat_eq b 0x34 then ScratchA else ScratchB

at_base-is : (x : Wide) → at_base (base_of x) ≡ x
unfolding at_base
at_base-is Dsa = refl
at_base-is Temp = refl
at_base-is ScratchA = refl
at_base-is ScratchB = refl

one_register : (x y : Wide) → base_of x ≡ base_of y → x ≡ y
one_register x y e = sym (at_base-is x) ∙ ap at_base e ∙ at_base-is y

module _ {B : Type 0} (moves : B → Event → B → Type 0) where
  -- where only registers changed and DSP is at the next instruction, the chip stands there
  stands_on : (version k word : ℕ) (old : Chip B) (end : StepEnd) (new : Chip B) (regs : Regs) → StandsAt version k old → ChipStep moves word old end new → Becomes regs (after_fetch old) end new → regs.dsp ≡ (after_fetch old).regs.dsp → suc k < 151 → StandsAt version (suc k) new
  stands_on version k word old end new regs s r b e h =
      let d : regs.dsp ≡ 8 * k + 8 = e ∙ follows version k old s in
      let q : 8 * k + 8 ≡ 8 * suc k = omega arith in
      record {
        size = ap (λ (m : List ℕ). length m) b.ends.memory_is ∙ s.size;
        loaded = subst (λ (m : List ℕ). IsLoaded (word_at m) version) (sym b.ends.memory_is) s.loaded;
        running = runs_on moves word old new (subst (λ (x : StepEnd). ChipStep moves word old x new) b.ends.is r);
        dsp = ap (λ (x : Regs). x.dsp) b.ends.regs_are ∙ d ∙ q;
        inside = h;
      }

  load_into : (x : Wide) (version k word : ℕ) (place : Address) (old : Chip B) (end : StepEnd) (new : Chip B) → StandsAt version k old → IsBytes old.memory → IsReached place old.regs.dsa → instruction k version ≡ Load (base_of x) 4 place → ChipStep moves word old end new
      → Becomes (holding x (word_at old.memory (place_from old.regs.dsa place)) (after_fetch old).regs) (after_fetch old) end new
  load_into x version k word place old end new s bytes h e r =
      let l : LoadedWord (base_of x) place old end new = loads_word moves version k word (base_of x) 4 place old end new s bytes h e r in
      subst (λ (y : Wide). Becomes (holding y (word_at old.memory (place_from old.regs.dsa place)) (after_fetch old).regs) (after_fetch old) end new) (one_register l.register x l.named) l.becomes

  pub enters_front : EntersFront moves
  unfolding instruction
  enters_front version chip word end s bytes head steps =
      let m = (chip 0).memory in
      let f : ℕ = word_at m 0x1000 in
      let r0 = steps 0 (lit< tt) in
      let r1 = steps 1 (lit< tt) in
      let r2 = steps 2 (lit< tt) in
      let r3 = steps 3 (lit< tt) in
      let b0 = is_row moves version 0 (word 0) (chip 0) (end 0) (chip 1) s r0 in
      let s1 : StandsAt version 1 (chip 1) = stands_on version 0 (word 0) (chip 0) (end 0) (chip 1) _ s r0 b0 refl (lit< tt) in
      let m1 : (chip 1).memory ≡ m = b0.ends.memory_is in
      let b1 = load_into Dsa version 1 (word 1) (At 0x1000) (chip 1) (end 1) (chip 2) s1 (subst IsBytes (sym m1) bytes) tt refl r1 in
      let s2 : StandsAt version 2 (chip 2) = stands_on version 1 (word 1) (chip 1) (end 1) (chip 2) _ s1 r1 b1 refl (lit< tt) in
      let m2 : (chip 2).memory ≡ m = b1.ends.memory_is ∙ m1 in
      let d2 : (chip 2).regs.dsa ≡ f = ap (λ (x : Regs). x.dsa) b1.ends.regs_are ∙ ap (λ (n : List ℕ). word_at n 0x1000) m1 in
      let b2 = load_into Temp version 2 (word 2) (FromDsa (pos 0)) (chip 2) (end 2) (chip 3) s2 (subst IsBytes (sym m2) bytes) (subst IsHead (sym d2) head) refl r2 in
      let s3 : StandsAt version 3 (chip 3) = stands_on version 2 (word 2) (chip 2) (end 2) (chip 3) _ s2 r2 b2 refl (lit< tt) in
      let m3 : (chip 3).memory ≡ m = b2.ends.memory_is ∙ m2 in
      let d3 : (chip 3).regs.dsa ≡ f = ap (λ (x : Regs). x.dsa) b2.ends.regs_are ∙ d2 in
      let t3 : (chip 3).regs.temp ≡ word_at m (f + 0) = ap (λ (x : Regs). x.temp) b2.ends.regs_are ∙ ap (λ (n : List ℕ). word_at n ((chip 2).regs.dsa + 0)) m2 ∙ ap (λ (i : ℕ). word_at m (i + 0)) d2 in
      let b3 = returns_to moves (chip 3) (end 3) (chip 4) (record { version = version; k = 3; word = word 3; stands = s3; here = refl; ran = r3 }) in
      let g0 : (chip 1).regs.sigp ≡ false = ap (λ (x : Regs). x.sigp) b0.ends.regs_are in
      let g : (chip 4).regs.sigp ≡ (chip 1).regs.sigp = ap (λ (x : Regs). x.sigp) b3.ends.regs_are ∙ ap (λ (x : Regs). x.sigp) b2.ends.regs_are ∙ ap (λ (x : Regs). x.sigp) b1.ends.regs_are in (
        record {
          memory = b3.ends.memory_is ∙ m3;
          bus = b3.bus_is ∙ b2.bus_is ∙ b1.bus_is ∙ b0.bus_is;
          running = runs_on moves (word 3) (chip 3) (chip 4) (subst (λ (x : StepEnd). ChipStep moves (word 3) (chip 3) x (chip 4)) b3.ends.is r3);
          dsa = ap (λ (x : Regs). x.dsa) b3.ends.regs_are ∙ d3;
          dsp = ap (λ (x : Regs). x.dsp) b3.ends.regs_are ∙ t3;
        },
        g ∙ g0,
      )

  pub enters_ring : EntersRing moves
  unfolding instruction
  enters_ring version slot block chip word end s bytes at_slot at_block slot_head head steps =
      let m = (chip 0).memory in
      let r0 = steps 0 (lit< tt) in
      let r1 = steps 1 (lit< tt) in
      let r2 = steps 2 (lit< tt) in
      let r3 = steps 3 (lit< tt) in
      let r4 = steps 4 (lit< tt) in
      let b0 = load_into Dsa version 4 (word 0) (At 0x1004) (chip 0) (end 0) (chip 1) s bytes tt refl r0 in
      let s1 : StandsAt version 5 (chip 1) = stands_on version 4 (word 0) (chip 0) (end 0) (chip 1) _ s r0 b0 refl (lit< tt) in
      let m1 : (chip 1).memory ≡ m = b0.ends.memory_is in
      let d1 : (chip 1).regs.dsa ≡ slot = ap (λ (x : Regs). x.dsa) b0.ends.regs_are ∙ sym at_slot in
      let b1 = load_into ScratchB version 5 (word 1) (FromDsa (pos 4)) (chip 1) (end 1) (chip 2) s1 (subst IsBytes (sym m1) bytes) (subst IsHead (sym d1) slot_head) refl r1 in
      let s2 : StandsAt version 6 (chip 2) = stands_on version 5 (word 1) (chip 1) (end 1) (chip 2) _ s1 r1 b1 refl (lit< tt) in
      let m2 : (chip 2).memory ≡ m = b1.ends.memory_is ∙ m1 in
      let d2 : (chip 2).regs.dsa ≡ slot = ap (λ (x : Regs). x.dsa) b1.ends.regs_are ∙ d1 in
      let n2 : (chip 2).regs.scratchb ≡ word_at m (slot + 4) = ap (λ (x : Regs). x.scratchb) b1.ends.regs_are ∙ ap (λ (n : List ℕ). word_at n ((chip 1).regs.dsa + 4)) m1 ∙ ap (λ (i : ℕ). word_at m (i + 4)) d1 in
      let b2 = load_into Dsa version 6 (word 2) (FromDsa (pos 0)) (chip 2) (end 2) (chip 3) s2 (subst IsBytes (sym m2) bytes) (subst IsHead (sym d2) slot_head) refl r2 in
      let s3 : StandsAt version 7 (chip 3) = stands_on version 6 (word 2) (chip 2) (end 2) (chip 3) _ s2 r2 b2 refl (lit< tt) in
      let m3 : (chip 3).memory ≡ m = b2.ends.memory_is ∙ m2 in
      let z : slot + 0 ≡ slot = omega arith in
      let d3 : (chip 3).regs.dsa ≡ block = ap (λ (x : Regs). x.dsa) b2.ends.regs_are ∙ ap (λ (n : List ℕ). word_at n ((chip 2).regs.dsa + 0)) m2 ∙ ap (λ (i : ℕ). word_at m (i + 0)) d2 ∙ ap (λ (i : ℕ). word_at m i) z ∙ sym at_block in
      let b3 = load_into Temp version 7 (word 3) (FromDsa (pos 0)) (chip 3) (end 3) (chip 4) s3 (subst IsBytes (sym m3) bytes) (subst IsHead (sym d3) head) refl r3 in
      let s4 : StandsAt version 8 (chip 4) = stands_on version 7 (word 3) (chip 3) (end 3) (chip 4) _ s3 r3 b3 refl (lit< tt) in
      let t4 : (chip 4).regs.temp ≡ word_at m (block + 0) = ap (λ (x : Regs). x.temp) b3.ends.regs_are ∙ ap (λ (n : List ℕ). word_at n ((chip 3).regs.dsa + 0)) m3 ∙ ap (λ (i : ℕ). word_at m (i + 0)) d3 in
      let b4 = returns_to moves (chip 4) (end 4) (chip 5) (record { version = version; k = 8; word = word 4; stands = s4; here = refl; ran = r4 }) in
      let n5 : (chip 5).regs.scratchb ≡ (chip 2).regs.scratchb = ap (λ (x : Regs). x.scratchb) b4.ends.regs_are ∙ ap (λ (x : Regs). x.scratchb) b3.ends.regs_are ∙ ap (λ (x : Regs). x.scratchb) b2.ends.regs_are in (
        record {
          memory = b4.ends.memory_is ∙ b3.ends.memory_is ∙ m3;
          bus = b4.bus_is ∙ b3.bus_is ∙ b2.bus_is ∙ b1.bus_is ∙ b0.bus_is;
          running = runs_on moves (word 4) (chip 4) (chip 5) (subst (λ (x : StepEnd). ChipStep moves (word 4) (chip 4) x (chip 5)) b4.ends.is r4);
          dsa = ap (λ (x : Regs). x.dsa) b4.ends.regs_are ∙ ap (λ (x : Regs). x.dsa) b3.ends.regs_are ∙ d3;
          dsp = ap (λ (x : Regs). x.dsp) b4.ends.regs_are ∙ t4;
        },
        n5 ∙ n2,
      )
