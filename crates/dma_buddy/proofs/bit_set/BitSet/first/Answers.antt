use Rattle.std.proofs.Common.{◌≡◌, get_or, rules}
use Rattle.dma_buddy.specs.Bits.{IsLeastBit}
use Rattle.dma_buddy.proofs.Layers.{none_down, none_in_top, flag-false, least_of_top, least_down, place_of_word, bit_within, true-flag}
use Rattle.dma_buddy.proofs.bit_set.BitSet.first.Goals as goal

pub returns-then-is_zero : goal.returns-then-is_zero
returns-then-is_zero c =
    let k = c.self.invariant in
    let zero : get_or c.self.inside.top 0 0 ≡ 0 = search rules in
    rw (← c.self.view_is)
    (λ i. flag-false _ _ i (none_down _ _ k.of_low (none_down _ _ k.of_middle (none_down _ _ k.of_high (none_in_top _ k.one zero))) i))

pub least_in-in_low-requires-clause-within : goal.least_in-in_low-requires-clause-within
least_in-in_low-requires-clause-within c = place_of_word _ _ (c.self.invariant.of_middle.set _ c.least_in-in_middle.ensures.set)

pub least_in-requires-clause-within : goal.least_in-requires-clause-within
least_in-requires-clause-within c = place_of_word _ _ (c.self.invariant.of_low.set _ c.least_in-in_low.ensures.set)

pub returns : goal.returns
returns c =
    let k = c.self.invariant in
    let of_top : IsLeastBit c.self.inside.top c.least_in-in_high.result = least_of_top _ _ c.least_in-in_high.ensures.set c.least_in-in_high.ensures.clear_below c.least_in-in_high.ensures.word in
    let of_high : IsLeastBit c.self.inside.high c.least_in-in_middle.result = least_down _ _ _ _ k.of_high of_top c.least_in-in_middle.ensures.word c.least_in-in_middle.ensures.set c.least_in-in_middle.ensures.clear_below in
    let of_middle : IsLeastBit c.self.inside.middle c.least_in-in_low.result = least_down _ _ _ _ k.of_middle of_high c.least_in-in_low.ensures.word c.least_in-in_low.ensures.set c.least_in-in_low.ensures.clear_below in
    let of_low : IsLeastBit c.self.inside.low c.least_in.result = least_down _ _ _ _ k.of_low of_middle c.least_in.ensures.word c.least_in.ensures.set c.least_in.ensures.clear_below in
    rw (← c.self.view_is)
    (true-flag _ _ _ (bit_within _ _ _ _ _ _ k of_low.set) of_low.set, λ j less. flag-false _ _ j (of_low.clear_below j less))
