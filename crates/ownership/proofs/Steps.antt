-- A step at an address of the script is the row of the instruction there.
use Rattle.std.proofs.Common.{◌≡◌, ℕ, ◌+◌, ◌*◌, ◌%◌, ◌<◌, ◌≤◌, List, length, Bool, true, false, nat_eq, nat_le, refl, sym, subst, arith}
use Rattle.std.specs.Prelude.{if◌then◌else◌}
use Rattle.std.proofs.lemmas.Bool.Decides.{nat_tests}
use Rattle.bench_words.specs.Memory.{word_at}
use Rattle.scripts_ops.specs.Table.{row, Spelled}
use Rattle.chip_regs.specs.declared.registers.Regs.{Regs}
use Rattle.chip_step.specs.Event.{Event}
use Rattle.chip_step.specs.Chip.{Chip}
use Rattle.chip_step.specs.Step.{does, can_fetch, has_third, third_at, len_of, IsAt}
use Rattle.chip_step.proofs.Made.{ChipStep-does}
use Rattle.driver_script.specs.Script.{instruction}
use Rattle.driver_script.proofs.ScriptLaws.{loaded_spelled}
use Rattle.ownership.specs.Standing.{StandsAt}
use Rattle.ownership.specs.Steps.{IsRow, IsStep, Follows}
use Rattle.ownership.proofs.Instructions.{two_words}

len_most : (b : Bool) (n : ℕ) → n + 12 ≤ 0x400000 → nat_le (n + (if b then 12 else 8)) 0x400000 ≡ true
len_most true n h = grind (arith, nat_tests)
len_most false n h = grind (arith, nat_tests)

pub can : (m : List ℕ) (r : Regs) (k : ℕ) → length m ≡ 0x400000 → r.dsp ≡ 8 * k → k < 151 → can_fetch m r ≡ true
can m r k s e h =
    let a : nat_eq (r.dsp % 4) 0 ≡ true = grind (arith, nat_tests) in
    let b : nat_le (r.dsp + 8) 0x400000 ≡ true = grind (arith, nat_tests) in
    let c : nat_le (r.dsp + len_of (word_at m r.dsp)) 0x400000 ≡ true = len_most (has_third (word_at m r.dsp)) r.dsp (omega arith) in
    rw (s, a, b, c) refl

module _ {B : Type 0} where
  -- the words at DSP spell the instruction
  pub stands_at : (version k : ℕ) (old : Chip B) → StandsAt version k old → IsAt old (instruction k version)
  stands_at version k old s =
      let z : ℕ = third_at old.memory old.regs in
      let there = loaded_spelled (word_at old.memory) k version z s.loaded s.inside in
      subst (λ (d : ℕ). Spelled (word_at old.memory d) (word_at old.memory (d + 4)) z (instruction k version)) (sym s.dsp) there

  pub follows : Follows B
  follows version k old s =
      let at = loaded_spelled (word_at old.memory) k version 0 s.loaded s.inside in
      let first : word_at old.memory (8 * k) ≡ (row (instruction k version)).first = at.first in
      rw (s.dsp, first, two_words k version s.inside) refl

  module _ (moves : B → Event → B → Type 0) where
    pub is_row : IsRow moves
    is_row version k word old end new s r =
        ChipStep-does moves word old end new (instruction k version) s.running (can old.memory old.regs k s.size s.dsp s.inside) (stands_at version k old s) r

    pub is_step : IsStep moves
    is_step version k word old end new s d =
        does s.running (can old.memory old.regs k s.size s.dsp s.inside) (instruction k version) (stands_at version k old s) d
