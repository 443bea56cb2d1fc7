use Rattle.std.proofs.Common.{◌≡◌, ◌<◌, ◌∙◌, sym, false, set}
use Rattle.std.proofs.lemmas.Bool.{false≢true}
use Rattle.number_set.specs.Bits.{flags, bit_in}
use Rattle.number_set.proofs.Layers.{flag-true, place_of_bit, words_above, layered-cleared-1, layered-cleared-2, layered-cleared-3, layered-cleared-4, layered-cleared-5, layered-cleared-6, flags-cleared}
use Rattle.number_set.proofs.set.NumberSet.remove.Goals as goal
use Rattle.number_set.proofs.set.NumberSet.remove.Goals.{else-clear-via-then-clear+then-clear-2+then-clear-3+then-clear-4+else-clear-5, else-clear-via-then-clear+then-clear-2+then-clear-3+else-clear-4, else-clear-via-then-clear+then-clear-2+else-clear-3, else-clear-via-then-clear+else-clear-2, else-clear-via-else-clear}

pub clear-requires : goal.clear-requires
clear-requires c =
    let was : (c.args.n < c.self.inside.count) × (bit_in c.self.inside.first c.args.n ≡ 1) = flag-true _ _ _ (rw c.self.view_is c.requires) in
    place_of_bit _ _ was.1

pub clear-requires-then-clear : goal.clear-requires-then-clear
clear-requires-then-clear c =
    let was : (c.args.n < c.self.inside.count) × (bit_in c.self.inside.first c.args.n ≡ 1) = flag-true _ _ _ (rw c.self.view_is c.requires) in
    (words_above _ _ _ _ _ _ _ _ (place_of_bit _ _ was.1) c.self.invariant).0

pub clear-requires-then-clear-2 : goal.clear-requires-then-clear-2
clear-requires-then-clear-2 c =
    let was : (c.args.n < c.self.inside.count) × (bit_in c.self.inside.first c.args.n ≡ 1) = flag-true _ _ _ (rw c.self.view_is c.requires) in
    (words_above _ _ _ _ _ _ _ _ (place_of_bit _ _ was.1) c.self.invariant).1

pub clear-requires-then-clear-3 : goal.clear-requires-then-clear-3
clear-requires-then-clear-3 c =
    let was : (c.args.n < c.self.inside.count) × (bit_in c.self.inside.first c.args.n ≡ 1) = flag-true _ _ _ (rw c.self.view_is c.requires) in
    (words_above _ _ _ _ _ _ _ _ (place_of_bit _ _ was.1) c.self.invariant).2

pub clear-requires-then-clear-4 : goal.clear-requires-then-clear-4
clear-requires-then-clear-4 c =
    let was : (c.args.n < c.self.inside.count) × (bit_in c.self.inside.first c.args.n ≡ 1) = flag-true _ _ _ (rw c.self.view_is c.requires) in
    (words_above _ _ _ _ _ _ _ _ (place_of_bit _ _ was.1) c.self.invariant).3

pub clear-requires-then-clear-5 : goal.clear-requires-then-clear-5
clear-requires-then-clear-5 c =
    let was : (c.args.n < c.self.inside.count) × (bit_in c.self.inside.first c.args.n ≡ 1) = flag-true _ _ _ (rw c.self.view_is c.requires) in
    (words_above _ _ _ _ _ _ _ _ (place_of_bit _ _ was.1) c.self.invariant).4

pub invariant_of-self-else-clear : goal.invariant_of-self-else-clear
invariant_of-self-else-clear c =
    let was : (c.args.n < c.self.inside.count) × (bit_in c.self.inside.first c.args.n ≡ 1) = flag-true _ _ _ (rw c.self.view_is c.requires) in
    layered-cleared-1 _ _ _ _ _ _ _ c.args.n _ c.self.invariant was.1 c.clear.ensures.bit
    (λ z. false≢true (sym c.if-clear.false ∙ c.clear.ensures.word.1 z))

pub invariant_of-self-else-clear-2 : goal.invariant_of-self-else-clear-2
invariant_of-self-else-clear-2 c =
    let was : (c.args.n < c.self.inside.count) × (bit_in c.self.inside.first c.args.n ≡ 1) = flag-true _ _ _ (rw c.self.view_is c.requires) in
    layered-cleared-2 _ _ _ _ _ _ _ c.args.n _ _ c.self.invariant was.1 c.clear.ensures.bit (c.clear.ensures.word.0 c.if-clear.true) c.clear-then-clear.ensures.bit
    (λ z. false≢true (sym c.if-clear-2.false ∙ c.clear-then-clear.ensures.word.1 z))

pub invariant_of-self-else-clear-3 : goal.invariant_of-self-else-clear-3
invariant_of-self-else-clear-3 c =
    let was : (c.args.n < c.self.inside.count) × (bit_in c.self.inside.first c.args.n ≡ 1) = flag-true _ _ _ (rw c.self.view_is c.requires) in
    layered-cleared-3 _ _ _ _ _ _ _ c.args.n _ _ _ c.self.invariant was.1 c.clear.ensures.bit (c.clear.ensures.word.0 c.if-clear.true) c.clear-then-clear.ensures.bit (c.clear-then-clear.ensures.word.0 c.if-clear-2.true) c.clear-then-clear-2.ensures.bit
    (λ z. false≢true (sym c.if-clear-3.false ∙ c.clear-then-clear-2.ensures.word.1 z))

pub invariant_of-self-else-clear-4 : goal.invariant_of-self-else-clear-4
invariant_of-self-else-clear-4 c =
    let was : (c.args.n < c.self.inside.count) × (bit_in c.self.inside.first c.args.n ≡ 1) = flag-true _ _ _ (rw c.self.view_is c.requires) in
    layered-cleared-4 _ _ _ _ _ _ _ c.args.n _ _ _ _ c.self.invariant was.1 c.clear.ensures.bit (c.clear.ensures.word.0 c.if-clear.true) c.clear-then-clear.ensures.bit (c.clear-then-clear.ensures.word.0 c.if-clear-2.true) c.clear-then-clear-2.ensures.bit (c.clear-then-clear-2.ensures.word.0 c.if-clear-3.true) c.clear-then-clear-3.ensures.bit
    (λ z. false≢true (sym c.if-clear-4.false ∙ c.clear-then-clear-3.ensures.word.1 z))

pub invariant_of-self-else-clear-5 : goal.invariant_of-self-else-clear-5
invariant_of-self-else-clear-5 c =
    let was : (c.args.n < c.self.inside.count) × (bit_in c.self.inside.first c.args.n ≡ 1) = flag-true _ _ _ (rw c.self.view_is c.requires) in
    layered-cleared-5 _ _ _ _ _ _ _ c.args.n _ _ _ _ _ c.self.invariant was.1 c.clear.ensures.bit (c.clear.ensures.word.0 c.if-clear.true) c.clear-then-clear.ensures.bit (c.clear-then-clear.ensures.word.0 c.if-clear-2.true) c.clear-then-clear-2.ensures.bit (c.clear-then-clear-2.ensures.word.0 c.if-clear-3.true) c.clear-then-clear-3.ensures.bit (c.clear-then-clear-3.ensures.word.0 c.if-clear-4.true) c.clear-then-clear-4.ensures.bit
    (λ z. false≢true (sym c.if-clear-5.false ∙ c.clear-then-clear-4.ensures.word.1 z))

pub returns-then-clear-5 : goal.returns-then-clear-5
returns-then-clear-5 c =
    let was : (c.args.n < c.self.inside.count) × (bit_in c.self.inside.first c.args.n ≡ 1) = flag-true _ _ _ (rw c.self.view_is c.requires) in
    rw (← c.self.view_is) (flags-cleared _ _ _ _ was.0 c.clear.ensures.bit)

pub returns-else-clear : goal.returns-else-clear
returns-else-clear c =
    let was : (c.args.n < c.self.inside.count) × (bit_in c.self.inside.first c.args.n ≡ 1) = flag-true _ _ _ (rw c.self.view_is c.requires) in
    let done : flags c.clear.new.self c.self.inside.count ≡ set c.args.self.now c.args.n false = rw (← c.self.view_is) (flags-cleared _ _ _ _ was.0 c.clear.ensures.bit) in
    elim c.else-clear.branch [ else-clear-via-then-clear+then-clear-2+then-clear-3+then-clear-4+else-clear-5 w ↦ w.self-is ∙ done | else-clear-via-then-clear+then-clear-2+then-clear-3+else-clear-4 w ↦ w.self-is ∙ done | else-clear-via-then-clear+then-clear-2+else-clear-3 w ↦ w.self-is ∙ done | else-clear-via-then-clear+else-clear-2 w ↦ w.self-is ∙ done | else-clear-via-else-clear w ↦ w.self-is ∙ done ]

pub invariant_of-self : goal.invariant_of-self
invariant_of-self c =
    let was : (c.args.n < c.self.inside.count) × (bit_in c.self.inside.first c.args.n ≡ 1) = flag-true _ _ _ (rw c.self.view_is c.requires) in
    layered-cleared-6 _ _ _ _ _ _ _ c.args.n _ _ _ _ _ _ c.self.invariant was.1 c.clear.ensures.bit (c.clear.ensures.word.0 c.if-clear.true) c.clear-then-clear.ensures.bit (c.clear-then-clear.ensures.word.0 c.if-clear-2.true) c.clear-then-clear-2.ensures.bit (c.clear-then-clear-2.ensures.word.0 c.if-clear-3.true) c.clear-then-clear-3.ensures.bit (c.clear-then-clear-3.ensures.word.0 c.if-clear-4.true) c.clear-then-clear-4.ensures.bit (c.clear-then-clear-4.ensures.word.0 c.if-clear-5.true) c.clear-then-clear-5.ensures.bit
