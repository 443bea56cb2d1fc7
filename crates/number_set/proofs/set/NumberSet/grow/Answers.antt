use Rattle.std.proofs.Common.{arith, ◌^◌, ◌<◌, ◌++◌, ◌∷◌, [], false, ◌∙◌, ap}
use Rattle.std.proofs.lemmas.Result.{err_from_is_err_and}
use Rattle.number_set.proofs.Layers.{count_below, same_words, rooms, rooms-fifth, rooms-fourth, rooms-third, rooms-second, rooms-first, rooms-more, layered-grown, flags-same, flags-grown}
use Rattle.number_set.proofs.set.NumberSet.grow.Goals as goal

pub reach-requires-5-clause-few : goal.reach-requires-5-clause-few
reach-requires-5-clause-few c = count_below _ _ _ c.self.view_is c.requires

pub invariant_of-self : goal.invariant_of-self
invariant_of-self c =
    let r0 = rooms _ _ _ _ _ _ _ c.self.invariant in
    let r1 = rooms-fifth c.self.inside.count c.self.inside.first c.self.inside.second c.self.inside.third c.self.inside.fourth c.self.inside.fifth c.reach.new.self r0 c.reach.ensures.words c.reach.ensures.few in
    layered-grown _ _ _ _ _ _ _ _ _ _ _ _ _ c.self.invariant (omega arith) (same_words _) (same_words _) (same_words _) (same_words _) c.reach.ensures.words r1

pub invariant_of-self-in_err-reach-2 : goal.invariant_of-self-in_err-reach-2
invariant_of-self-in_err-reach-2 c =
    let r0 = rooms _ _ _ _ _ _ _ c.self.invariant in
    let r1 = rooms-fifth c.self.inside.count c.self.inside.first c.self.inside.second c.self.inside.third c.self.inside.fourth c.self.inside.fifth c.reach.new.self r0 c.reach.ensures.words c.reach.ensures.few in
    let r2 = rooms-fourth c.self.inside.count c.self.inside.first c.self.inside.second c.self.inside.third c.self.inside.fourth c.reach.new.self c.reach-2.new.self r1 c.reach-2.ensures.words c.reach-2.ensures.few c.in_ok-reach.ensures.room in
    layered-grown _ _ _ _ _ _ _ _ _ _ _ _ _ c.self.invariant (omega arith) (same_words _) (same_words _) (same_words _) c.reach-2.ensures.words c.reach.ensures.words r2

pub invariant_of-self-in_err-reach-3 : goal.invariant_of-self-in_err-reach-3
invariant_of-self-in_err-reach-3 c =
    let r0 = rooms _ _ _ _ _ _ _ c.self.invariant in
    let r1 = rooms-fifth c.self.inside.count c.self.inside.first c.self.inside.second c.self.inside.third c.self.inside.fourth c.self.inside.fifth c.reach.new.self r0 c.reach.ensures.words c.reach.ensures.few in
    let r2 = rooms-fourth c.self.inside.count c.self.inside.first c.self.inside.second c.self.inside.third c.self.inside.fourth c.reach.new.self c.reach-2.new.self r1 c.reach-2.ensures.words c.reach-2.ensures.few c.in_ok-reach.ensures.room in
    let r3 = rooms-third c.self.inside.count c.self.inside.first c.self.inside.second c.self.inside.third c.reach-2.new.self c.reach.new.self c.reach-3.new.self r2 c.reach-3.ensures.words c.reach-3.ensures.few c.in_ok-reach-2.ensures.room in
    layered-grown _ _ _ _ _ _ _ _ _ _ _ _ _ c.self.invariant (omega arith) (same_words _) (same_words _) c.reach-3.ensures.words c.reach-2.ensures.words c.reach.ensures.words r3

pub invariant_of-self-in_err-reach-4 : goal.invariant_of-self-in_err-reach-4
invariant_of-self-in_err-reach-4 c =
    let r0 = rooms _ _ _ _ _ _ _ c.self.invariant in
    let r1 = rooms-fifth c.self.inside.count c.self.inside.first c.self.inside.second c.self.inside.third c.self.inside.fourth c.self.inside.fifth c.reach.new.self r0 c.reach.ensures.words c.reach.ensures.few in
    let r2 = rooms-fourth c.self.inside.count c.self.inside.first c.self.inside.second c.self.inside.third c.self.inside.fourth c.reach.new.self c.reach-2.new.self r1 c.reach-2.ensures.words c.reach-2.ensures.few c.in_ok-reach.ensures.room in
    let r3 = rooms-third c.self.inside.count c.self.inside.first c.self.inside.second c.self.inside.third c.reach-2.new.self c.reach.new.self c.reach-3.new.self r2 c.reach-3.ensures.words c.reach-3.ensures.few c.in_ok-reach-2.ensures.room in
    let r4 = rooms-second c.self.inside.count c.self.inside.first c.self.inside.second c.reach-3.new.self c.reach-2.new.self c.reach.new.self c.reach-4.new.self r3 c.reach-4.ensures.words c.reach-4.ensures.few c.in_ok-reach-3.ensures.room in
    layered-grown _ _ _ _ _ _ _ _ _ _ _ _ _ c.self.invariant (omega arith) (same_words _) c.reach-4.ensures.words c.reach-3.ensures.words c.reach-2.ensures.words c.reach.ensures.words r4

pub invariant_of-self-in_err-reach-5 : goal.invariant_of-self-in_err-reach-5
invariant_of-self-in_err-reach-5 c =
    let r0 = rooms _ _ _ _ _ _ _ c.self.invariant in
    let r1 = rooms-fifth c.self.inside.count c.self.inside.first c.self.inside.second c.self.inside.third c.self.inside.fourth c.self.inside.fifth c.reach.new.self r0 c.reach.ensures.words c.reach.ensures.few in
    let r2 = rooms-fourth c.self.inside.count c.self.inside.first c.self.inside.second c.self.inside.third c.self.inside.fourth c.reach.new.self c.reach-2.new.self r1 c.reach-2.ensures.words c.reach-2.ensures.few c.in_ok-reach.ensures.room in
    let r3 = rooms-third c.self.inside.count c.self.inside.first c.self.inside.second c.self.inside.third c.reach-2.new.self c.reach.new.self c.reach-3.new.self r2 c.reach-3.ensures.words c.reach-3.ensures.few c.in_ok-reach-2.ensures.room in
    let r4 = rooms-second c.self.inside.count c.self.inside.first c.self.inside.second c.reach-3.new.self c.reach-2.new.self c.reach.new.self c.reach-4.new.self r3 c.reach-4.ensures.words c.reach-4.ensures.few c.in_ok-reach-3.ensures.room in
    let r5 = rooms-first c.self.inside.count c.self.inside.first c.reach-4.new.self c.reach-3.new.self c.reach-2.new.self c.reach.new.self c.reach-5.new.self r4 c.reach-5.ensures.words c.reach-5.ensures.few c.in_ok-reach-4.ensures.room in
    layered-grown _ _ _ _ _ _ _ _ _ _ _ _ _ c.self.invariant (omega arith) c.reach-5.ensures.words c.reach-4.ensures.words c.reach-3.ensures.words c.reach-2.ensures.words c.reach.ensures.words r5

pub returns-in_err-reach-5-clause-stays : goal.returns-in_err-reach-5-clause-stays
returns-in_err-reach-5-clause-stays c =
    let p = err_from_is_err_and c.from_residual-in_err-reach-5.result c.from_residual-in_err-reach-5.ensures.1 in
    rw p.1 (flags-same _ _ _ c.reach-5.ensures.words ∙ c.self.view_is)

pub invariant_of-self-2 : goal.invariant_of-self-2
invariant_of-self-2 c =
    let r0 = rooms _ _ _ _ _ _ _ c.self.invariant in
    let r1 = rooms-fifth c.self.inside.count c.self.inside.first c.self.inside.second c.self.inside.third c.self.inside.fourth c.self.inside.fifth c.reach.new.self r0 c.reach.ensures.words c.reach.ensures.few in
    let r2 = rooms-fourth c.self.inside.count c.self.inside.first c.self.inside.second c.self.inside.third c.self.inside.fourth c.reach.new.self c.reach-2.new.self r1 c.reach-2.ensures.words c.reach-2.ensures.few c.in_ok-reach.ensures.room in
    let r3 = rooms-third c.self.inside.count c.self.inside.first c.self.inside.second c.self.inside.third c.reach-2.new.self c.reach.new.self c.reach-3.new.self r2 c.reach-3.ensures.words c.reach-3.ensures.few c.in_ok-reach-2.ensures.room in
    let r4 = rooms-second c.self.inside.count c.self.inside.first c.self.inside.second c.reach-3.new.self c.reach-2.new.self c.reach.new.self c.reach-4.new.self r3 c.reach-4.ensures.words c.reach-4.ensures.few c.in_ok-reach-3.ensures.room in
    let r5 = rooms-first c.self.inside.count c.self.inside.first c.reach-4.new.self c.reach-3.new.self c.reach-2.new.self c.reach.new.self c.reach-5.new.self r4 c.reach-5.ensures.words c.reach-5.ensures.few c.in_ok-reach-4.ensures.room in
    let few : c.self.inside.count < 2 ^ 32 = count_below _ _ _ c.self.view_is c.requires in
    layered-grown _ _ _ _ _ _ _ _ _ _ _ _ _ c.self.invariant (omega arith) c.reach-5.ensures.words c.reach-4.ensures.words c.reach-3.ensures.words c.reach-2.ensures.words c.reach.ensures.words (rooms-more _ _ _ _ _ _ r5 few c.in_ok-reach-5.ensures.room)

pub returns-clause-grown : goal.returns-clause-grown
returns-clause-grown c =
    flags-grown _ _ _ c.reach-5.ensures.words (c.self.invariant.none_past c.self.inside.count (omega arith)) ∙ ap (λ bs. bs ++ false ∷ []) c.self.view_is
