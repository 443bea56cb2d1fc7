use Rattle.std.proofs.Common.{◌≡◌, ◌∷◌, sym, refl}
use Rattle.rig_types.specs.declared.fault.BadKind.TheVariants.{Unknown}
use Rattle.std.specs.Map.Iter.{deref}
use Rattle.std.proofs.lemmas.Map.Iter.{rest_more}
use Rattle.file_keys.proofs.Finds.{unknown_view, texts, goes_on, stops, Fails-from_IsFault}
use Rattle.file_keys.proofs.keys.refuse_unknown.Goals as goal

pub loop-key-init : goal.loop-key-init
loop-key-init c = rw (c.into_iter-key-iterator.ensures.into_iter_gives, c.keys-key-items.ensures.rest) (sym (unknown_view (texts c.args.names.now) c.args.table.now.entries c.keys-key-items.ensures.ordered))

pub returns-then-not-is_known-clause-reads : goal.returns-then-not-is_known-clause-reads
returns-then-not-is_known-clause-reads c =
    let e : c.loop-key.key-iterator ≡ c.in-Some.key.now ∷ c.next.new.self = rest_more deref _ _ c.next.result c.in-Some.key c.in-Some.is c.next.ensures.steps in
    let known = rw c.as_str.ensures.value at c.is_known.ensures in
    let found = stops (texts c.args.names.now) c.in-Some.key.now c.next.new.self _ c.is_known.result known c.if-not-is_known.true (rw e at c.loop-key.invariant) in
    rw found (Fails-from_IsFault c.fault.result _ Unknown (rw c.as_str-then-not-is_known.ensures.value at c.fault.ensures))

pub loop-key-preserved : goal.loop-key-preserved
loop-key-preserved c =
    let e : c.loop-key.key-iterator ≡ c.in-Some.key.now ∷ c.next.new.self = rest_more deref _ _ c.next.result c.in-Some.key c.in-Some.is c.next.ensures.steps in
    let known = rw c.as_str.ensures.value at c.is_known.ensures in
    goes_on (texts c.args.names.now) c.in-Some.key.now c.next.new.self _ c.is_known.result known c.if-not-is_known.false (rw e at c.loop-key.invariant)

pub returns-then-not-is_known-clause-fails : goal.returns-then-not-is_known-clause-fails
returns-then-not-is_known-clause-fails c =
    let e : c.loop-key.key-iterator ≡ c.in-Some.key.now ∷ c.next.new.self = rest_more deref _ _ c.next.result c.in-Some.key c.in-Some.is c.next.ensures.steps in
    let known = rw c.as_str.ensures.value at c.is_known.ensures in
    let found = stops (texts c.args.names.now) c.in-Some.key.now c.next.new.self _ c.is_known.result known c.if-not-is_known.true (rw e at c.loop-key.invariant) in
    rw found refl
