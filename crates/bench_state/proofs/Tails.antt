-- The tail of the script by a test is the tail by addresses.
use Rattle.std.proofs.Common.{arith, ◌≡◌, Bool, true, false, ℕ, refl, sym, inl, inr}
use Rattle.std.specs.Prelude.{IsTrue, ◌↔◌}
use Rattle.std.proofs.lemmas.Bool.Decides.{nat_tests}
use Rattle.abort_reset.specs.Patches.{InTail}
use Rattle.world_law.specs.Stops.{in_tail}

within : (dsp : ℕ) → in_tail dsp ≡ true → InTail dsp
within dsp h = grind (arith, nat_tests, h)

tested : (dsp : ℕ) → InTail dsp → in_tail dsp ≡ true
tested dsp (inl h) = grind (arith, nat_tests, h.0, h.1)
tested dsp (inr h) = grind (arith, nat_tests, h)

agree : (a b : Bool) → (a ≡ true → b ≡ true) → (b ≡ true → a ≡ true) → a ≡ b
agree true b f g = sym (f refl)
agree false true f g = g refl
agree false false f g = refl

pub tail_is : (b : Bool) (dsp : ℕ) → IsTrue b ↔ InTail dsp → b ≡ in_tail dsp
tail_is b dsp iff =
    agree b (in_tail dsp) (λ e. tested dsp (iff.0 e)) (λ e. iff.1 (within dsp e))
