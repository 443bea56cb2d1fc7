use Rattle.std.proofs.Common.{◌≡◌, ◌+◌, ◌-◌, ℕ, zero, suc, true, arith, inl, inr, refl, nat_lt}
use Rattle.std.proofs.lemmas.Bool.Decides.{nat_tests}
use Rattle.std.proofs.lemmas.Grind.{common_steps}
use Rattle.chip_step.proofs.carrying.bytes_in.Goals as goal

pub returns-in-None-clause-moved : goal.returns-in-None-clause-moved
returns-in-None-clause-moved g c =
    let n : ℕ = c.args.count - c.loop-i.i - 1 in
    let e : c.args.count - c.loop-i.i ≡ suc n = omega arith in
    c.loop-i.invariant.goes_on (suc n) (c.args.count - c.loop-i.i) c.loop-i.words c.byte_in.new.self (omega arith)
    (c.acknowledge.new.bus, c.acknowledge.ensures, inl (record { call = c.in-None.ensures; all_left = e; same = refl }))

later : (i : ℕ) → nat_lt 0 (i + 1) ≡ true
later i = grind (arith, nat_tests)

pub loop-i-preserved : goal.loop-i-preserved
loop-i-preserved g c =
    record {
      size = grind (arith, common_steps, c.loop-i.invariant.size, c.set_byte.ensures.wrote);
      goes_on = λ n left memory bus' e rest.
          let k : c.args.at + (c.loop-i.i + 1) ≡ c.args.at + c.loop-i.i + 1 = omega arith in
          c.loop-i.invariant.goes_on (suc n) left memory bus' (omega arith) (
            c.acknowledge.new.bus,
            c.acknowledge.ensures,
            inr (c.in-Some.b, c.byte_in.new.self, c.in-Some.ensures, rw (k, later c.loop-i.i, c.set_byte.ensures.wrote) at rest),
          );
    }

pub returns-clause-moved : goal.returns-clause-moved
returns-clause-moved g c = c.loop-i.invariant.goes_on zero 0 c.loop-i.words c.loop-i.bus (omega arith) (refl, refl, refl)
