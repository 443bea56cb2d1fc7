use Rattle.std.proofs.Common.{◌≡◌, ◌+◌, ◌-◌, ℕ, zero, suc, true, false, arith, inl, inr, refl, slice_index}
use Rattle.chip_step.specs.Event.{ByteOut}
use Rattle.chip_step.proofs.carrying.bytes_out.Goals as goal

pub returns-then-not-byte_out-clause-moved : goal.returns-then-not-byte_out-clause-moved
returns-then-not-byte_out-clause-moved g c =
    let n : ℕ = c.args.count - c.loop-i.i - 1 in
    let e : c.args.count - c.loop-i.i ≡ suc n = omega arith in
    let call : g.B.Bus.moves c.loop-i.bus (ByteOut (slice_index c.args.words.now (c.args.at + c.loop-i.i)) false) c.byte_out.new.self = rw (← c.byte.ensures) c.if-not-byte_out.ensures in
    c.loop-i.invariant (suc n) (c.args.count - c.loop-i.i) c.byte_out.new.self (omega arith) (inl (call, e))

pub loop-i-preserved : goal.loop-i-preserved
loop-i-preserved g c = λ n left bus' e rest.
    let call : g.B.Bus.moves c.loop-i.bus (ByteOut (slice_index c.args.words.now (c.args.at + c.loop-i.i)) true) c.byte_out.new.self = rw (← c.byte.ensures) c.if-not-byte_out.ensures in
    let k : c.args.at + (c.loop-i.i + 1) ≡ c.args.at + c.loop-i.i + 1 = omega arith in
    c.loop-i.invariant (suc n) left bus' (omega arith) (inr (c.byte_out.new.self, call, rw k at rest))

pub returns-clause-moved : goal.returns-clause-moved
returns-clause-moved g c = c.loop-i.invariant zero 0 c.loop-i.bus (omega arith) (refl, refl)
