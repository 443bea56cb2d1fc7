use Rattle.std.proofs.Common.{◌≡◌, ◌<◌, ◌∙◌, sym, false, set}
use Rattle.std.proofs.lemmas.Bool.{false≢true}
use Rattle.dma_buddy.specs.Bits.{flags, bit_in}
use Rattle.dma_buddy.proofs.Layers.{flag-true, place_of_bit, words_above, layered-cleared-1, layered-cleared-2, layered-cleared-3, flags-cleared}
use Rattle.dma_buddy.proofs.bit_set.BitSet.remove.Goals as goal
use Rattle.dma_buddy.proofs.bit_set.BitSet.remove.Goals.{else-clear-via-then-clear+then-clear-2+else-clear-3, else-clear-via-then-clear+else-clear-2, else-clear-via-else-clear}

pub clear-requires : goal.clear-requires
clear-requires c =
    let was : (c.args.i < c.self.inside.bound) × (bit_in c.self.inside.low c.args.i ≡ 1) = flag-true _ _ _ (rw c.self.view_is c.requires) in
    place_of_bit _ _ was.1

pub clear-requires-then-clear : goal.clear-requires-then-clear
clear-requires-then-clear c =
    let was : (c.args.i < c.self.inside.bound) × (bit_in c.self.inside.low c.args.i ≡ 1) = flag-true _ _ _ (rw c.self.view_is c.requires) in
    (words_above _ _ _ _ _ _ (place_of_bit _ _ was.1) c.self.invariant).0

pub clear-requires-then-clear-2 : goal.clear-requires-then-clear-2
clear-requires-then-clear-2 c =
    let was : (c.args.i < c.self.inside.bound) × (bit_in c.self.inside.low c.args.i ≡ 1) = flag-true _ _ _ (rw c.self.view_is c.requires) in
    (words_above _ _ _ _ _ _ (place_of_bit _ _ was.1) c.self.invariant).1

pub clear-requires-then-clear-3 : goal.clear-requires-then-clear-3
clear-requires-then-clear-3 c =
    let was : (c.args.i < c.self.inside.bound) × (bit_in c.self.inside.low c.args.i ≡ 1) = flag-true _ _ _ (rw c.self.view_is c.requires) in
    (words_above _ _ _ _ _ _ (place_of_bit _ _ was.1) c.self.invariant).2

pub invariant_of-self-else-clear : goal.invariant_of-self-else-clear
invariant_of-self-else-clear c =
    let was : (c.args.i < c.self.inside.bound) × (bit_in c.self.inside.low c.args.i ≡ 1) = flag-true _ _ _ (rw c.self.view_is c.requires) in
    layered-cleared-1 _ _ _ _ _ c.args.i _ c.self.invariant was.1 c.clear.ensures.bit
    (λ z. false≢true (sym c.if-clear.false ∙ c.clear.ensures.word.1 z))

pub invariant_of-self-else-clear-2 : goal.invariant_of-self-else-clear-2
invariant_of-self-else-clear-2 c =
    let was : (c.args.i < c.self.inside.bound) × (bit_in c.self.inside.low c.args.i ≡ 1) = flag-true _ _ _ (rw c.self.view_is c.requires) in
    layered-cleared-2 _ _ _ _ _ c.args.i _ _ c.self.invariant was.1 c.clear.ensures.bit (c.clear.ensures.word.0 c.if-clear.true) c.clear-then-clear.ensures.bit
    (λ z. false≢true (sym c.if-clear-2.false ∙ c.clear-then-clear.ensures.word.1 z))

pub invariant_of-self-else-clear-3 : goal.invariant_of-self-else-clear-3
invariant_of-self-else-clear-3 c =
    let was : (c.args.i < c.self.inside.bound) × (bit_in c.self.inside.low c.args.i ≡ 1) = flag-true _ _ _ (rw c.self.view_is c.requires) in
    layered-cleared-3 _ _ _ _ _ c.args.i _ _ _ c.self.invariant was.1 c.clear.ensures.bit (c.clear.ensures.word.0 c.if-clear.true) c.clear-then-clear.ensures.bit (c.clear-then-clear.ensures.word.0 c.if-clear-2.true) c.clear-then-clear-2.ensures.bit
    (λ z. false≢true (sym c.if-clear-3.false ∙ c.clear-then-clear-2.ensures.word.1 z))

pub returns-then-clear-3 : goal.returns-then-clear-3
returns-then-clear-3 c =
    let was : (c.args.i < c.self.inside.bound) × (bit_in c.self.inside.low c.args.i ≡ 1) = flag-true _ _ _ (rw c.self.view_is c.requires) in
    rw (← c.self.view_is) (flags-cleared _ _ _ _ was.0 c.clear.ensures.bit)

pub returns-else-clear : goal.returns-else-clear
returns-else-clear c =
    let was : (c.args.i < c.self.inside.bound) × (bit_in c.self.inside.low c.args.i ≡ 1) = flag-true _ _ _ (rw c.self.view_is c.requires) in
    let done : flags c.clear.new.self c.self.inside.bound ≡ set c.args.self.now c.args.i false = rw (← c.self.view_is) (flags-cleared _ _ _ _ was.0 c.clear.ensures.bit) in
    elim c.else-clear.branch [ else-clear-via-then-clear+then-clear-2+else-clear-3 w ↦ w.self-is ∙ done | else-clear-via-then-clear+else-clear-2 w ↦ w.self-is ∙ done | else-clear-via-else-clear w ↦ w.self-is ∙ done ]
