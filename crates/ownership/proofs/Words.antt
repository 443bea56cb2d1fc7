-- Each LOAD and STORE of the script moves one word of a wide register, by a test of all.
use Rattle.std.proofs.Common.{◌≡◌, ℕ, pos, negsuc, ◌+◌, ◌%◌, ◌<◌, ◌≤◌, Bool, true, false, ◌&&◌, ◌||◌, nat_eq, nat_le, List, length, refl, sym, subst, arith}
use Rattle.std.specs.Prelude.{slice_index_or}
use Rattle.std.proofs.lemmas.Bool.{and_parts, false≢true}
use Rattle.std.proofs.lemmas.Bool.Decides.{nat_tests}
use Rattle.bench_words.specs.Bytes.{IsBytes}
use Rattle.bench_words.specs.Memory.{put_word}
use Rattle.scripts_ops.specs.declared.values.Address.{Address}
use Rattle.scripts_ops.specs.declared.values.Address.TheVariants.{At, FromDsa}
use Rattle.scripts_ops.specs.declared.values.Op.{Op}
use Rattle.scripts_ops.specs.declared.values.Op.TheVariants as op
use Rattle.chip_regs.specs.Bytes.{Wide, Dsa, Temp, ScratchA, ScratchB, base_of, held}
use Rattle.chip_step.specs.Event.{Event}
use Rattle.chip_step.specs.Chip.{Chip, Becomes}
use Rattle.chip_step.specs.Instructions.{Does}
use Rattle.chip_step.specs.Memory.{Loads, Stores}
use Rattle.chip_step.specs.Step.{after_fetch}
use Rattle.chip_step.specs.declared.outcome.StepEnd.{StepEnd}
use Rattle.chip_rows.specs.Words.{IsWordAt}
use Rattle.chip_rows.proofs.Words as rows
use Rattle.driver_script.specs.declared.script.TheConstants.{SCRIPT}
use Rattle.driver_script.specs.Script.{instruction}
use Rattle.ownership.specs.Words.{IsReached, place_from, LoadedWord, StoredWord, LoadsWord, StoresWord}
use Rattle.driver_script.proofs.ScriptTests.{all_below, both_versions}
use Rattle.ownership.proofs.Steps.{is_row}

-- ---- the test

abbrev wide : ℕ → Bool
wide r = nat_eq r 0x10 || nat_eq r 0x1c || nat_eq r 0x34 || nat_eq r 0x5c

abbrev placed : Address → Bool
placed (At a) = nat_eq (a % 4) 0 && nat_le (a + 4) 0x400000
placed (FromDsa (pos o)) = nat_eq (o % 4) 0 && nat_le (o + 4) 0xE0
placed (FromDsa (negsuc o)) = false

abbrev moves_word : ℕ → ℕ → Address → Bool
moves_word r n place = (wide r && nat_eq n 4) && placed place

abbrev by_words : Op → Bool
by_words (op.Load r n place) = moves_word r n place
by_words (op.Store r n place) = moves_word r n place
by_words _ = true

all_pass : all_below 151 (λ k. by_words (slice_index_or SCRIPT k op.Nop)) ≡ true
all_pass = refl

by_words-at : (k version : ℕ) → k < 151 → by_words (instruction k version) ≡ true
by_words-at k version h = both_versions (λ k op. by_words op) 151 all_pass refl k version h

-- ---- what it means

same : (a b : ℕ) → nat_eq a b ≡ true → b ≡ a
same a b h = grind (arith, nat_tests)

most : (a b : ℕ) → nat_le a b ≡ true → a ≤ b
most a b h = grind (arith, nat_tests)

record Named (r : ℕ) : Type 0 where
  register : Wide
  named : base_of register ≡ r

wide_by : (a b c d : Bool) (r : ℕ) → (a ≡ true → Named r) → (b ≡ true → Named r) → (c ≡ true → Named r) → (d ≡ true → Named r) → (a || b || c || d) ≡ true → Named r
wide_by true b c d r f g h i t = f refl
wide_by false true c d r f g h i t = g refl
wide_by false false true d r f g h i t = h refl
wide_by false false false true r f g h i t = i refl
wide_by false false false false r f g h i t = absurd (false≢true t)

wide-is : (r : ℕ) → wide r ≡ true → Named r
wide-is r t =
    wide_by (nat_eq r 0x10) (nat_eq r 0x1c) (nat_eq r 0x34) (nat_eq r 0x5c) r
    (λ e. record { register = Dsa; named = same r 0x10 e })
    (λ e. record { register = Temp; named = same r 0x1c e })
    (λ e. record { register = ScratchA; named = same r 0x34 e })
    (λ e. record { register = ScratchB; named = same r 0x5c e })
    t

word_place : (m : List ℕ) (dsa : ℕ) (place : Address) → length m ≡ 0x400000 → IsReached place dsa → placed place ≡ true → IsWordAt m dsa place (place_from dsa place)
word_place m dsa (At a) s h t =
    let b = and_parts (nat_eq (a % 4) 0) (nat_le (a + 4) 0x400000) t in
    rows.finds_words.absolute m dsa a (sym (same (a % 4) 0 b.0)) (omega (arith, s, most (a + 4) 0x400000 b.1))
word_place m dsa (FromDsa (pos o)) s h t =
    let b = and_parts (nat_eq (o % 4) 0) (nat_le (o + 4) 0xE0) t in
    rows.finds_words.from_dsa m dsa o (omega (arith, h.aligned, same (o % 4) 0 b.0)) (omega (arith, s, h.inside, most (o + 4) 0xE0 b.1))
word_place m dsa (FromDsa (negsuc o)) s h t = absurd (false≢true t)

module _ {B : Type 0} where
  loads : (r n : ℕ) (place : Address) (old : Chip B) (end : StepEnd) (new : Chip B) → length old.memory ≡ 0x400000 → IsBytes old.memory → IsReached place old.regs.dsa → moves_word r n place ≡ true → Loads r n place (after_fetch old) end new → LoadedWord r place old end new
  loads r n place old end new s bytes h t d =
      let w = and_parts (wide r && nat_eq n 4) (placed place) t in
      let v = and_parts (wide r) (nat_eq n 4) w.0 in
      let x : Named r = wide-is r v.0 in
      let four : Loads r 4 place (after_fetch old) end new = subst (λ (i : ℕ). Loads r i place (after_fetch old) end new) (sym (same n 4 v.1)) d in
      let here : Loads (base_of x.register) 4 place (after_fetch old) end new = subst (λ (i : ℕ). Loads i 4 place (after_fetch old) end new) (sym x.named) four in
      record {
        register = x.register;
        named = x.named;
        becomes = rows.loads_words x.register place (place_from old.regs.dsa place) (after_fetch old) end new bytes (word_place old.memory old.regs.dsa place s h w.1) here;
      }

  -- the fetch changes no wide register
  held-fetched : (x : Wide) (old : Chip B) → held x (after_fetch old).regs ≡ held x old.regs
  held-fetched Dsa old = refl
  held-fetched Temp old = refl
  held-fetched ScratchA old = refl
  held-fetched ScratchB old = refl

  stores : (r n : ℕ) (place : Address) (old : Chip B) (end : StepEnd) (new : Chip B) → length old.memory ≡ 0x400000 → IsReached place old.regs.dsa → moves_word r n place ≡ true → Stores r n place (after_fetch old) end new → StoredWord r place old end new
  stores r n place old end new s h t d =
      let w = and_parts (wide r && nat_eq n 4) (placed place) t in
      let v = and_parts (wide r) (nat_eq n 4) w.0 in
      let x : Named r = wide-is r v.0 in
      let four : Stores r 4 place (after_fetch old) end new = subst (λ (i : ℕ). Stores r i place (after_fetch old) end new) (sym (same n 4 v.1)) d in
      let here : Stores (base_of x.register) 4 place (after_fetch old) end new = subst (λ (i : ℕ). Stores i 4 place (after_fetch old) end new) (sym x.named) four in
      let a : ℕ = place_from old.regs.dsa place in
      let b = rows.stores_words x.register place a (after_fetch old) end new (word_place old.memory old.regs.dsa place s h w.1) here in
      record {
        register = x.register;
        named = x.named;
        becomes = subst (λ (i : ℕ). Becomes (after_fetch old).regs (record (after_fetch old) { memory = put_word old.memory a i }) end new) (held-fetched x.register old) b;
      }

module _ {B : Type 0} (moves : B → Event → B → Type 0) where
  pub loads_word : LoadsWord moves
  loads_word version k word r n place old end new s bytes h e ran =
      let t : by_words (op.Load r n place) ≡ true = subst (λ (o : Op). by_words o ≡ true) e (by_words-at k version s.inside) in
      let d : Does moves word (op.Load r n place) old (after_fetch old) end new = subst (λ (o : Op). Does moves word o old (after_fetch old) end new) e (is_row moves version k word old end new s ran) in
      loads r n place old end new s.size bytes h t d

  pub stores_word : StoresWord moves
  stores_word version k word r n place old end new s h e ran =
      let t : by_words (op.Store r n place) ≡ true = subst (λ (o : Op). by_words o ≡ true) e (by_words-at k version s.inside) in
      let d : Does moves word (op.Store r n place) old (after_fetch old) end new = subst (λ (o : Op). Does moves word o old (after_fetch old) end new) e (is_row moves version k word old end new s ran) in
      stores r n place old end new s.size h t d
