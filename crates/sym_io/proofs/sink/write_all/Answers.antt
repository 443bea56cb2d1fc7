use Rattle.std.proofs.Common.{ℕ, ◌-◌, ◌≤◌, List, ◌++◌, length, take, drop, Option, None, Some, arith, ◌∙◌, ap, append_assoc, inl}
use Rattle.std.proofs.Math.Seq.{take-add}
use Rattle.std.proofs.lemmas.Grind.{common_steps}
use Rattle.std.proofs.lemmas.List.{take-take}
use Rattle.std.specs.Io.KnownBytes.{Appends}
use Rattle.sym_io.proofs.sink.write_all.Goals as goal

-- what was appended in two turns
appends_twice : (a b c : Option (List ℕ)) (xs ys : List ℕ) → Appends a b xs → Appends b c ys → Appends a c (xs ++ ys)
appends_twice None b c xs ys h k = tt
appends_twice (Some was) None c xs ys h k = absurd h
appends_twice (Some was) (Some mid) None xs ys h k = absurd k
appends_twice (Some was) (Some mid) (Some now) xs ys h k = k ∙ ap (λ zs. zs ++ ys) h ∙ append_assoc was xs ys

pub loop-done-preserved : goal.loop-done-preserved
loop-done-preserved g c =
    let within : c.in_ok-count.count ≤ length c.args.bytes.now - c.loop-done.done = grind (arith, common_steps) in
    let more : Appends (g.S.Sink.written c.loop-done.sink) (g.S.Sink.written c.write.new.self) (take c.in_ok-count.count (drop c.loop-done.done c.args.bytes.now)) = rw (take-take c.in_ok-count.count (length c.args.bytes.now - c.loop-done.done) (drop c.loop-done.done c.args.bytes.now) within) at c.in_ok-count.ensures.bytes in
    (omega arith, rw take-add (appends_twice _ _ _ _ _ c.loop-done.invariant.1 more), c.in_ok-count.ensures.steady (inl (omega arith)) ∙ c.loop-done.invariant.2)
