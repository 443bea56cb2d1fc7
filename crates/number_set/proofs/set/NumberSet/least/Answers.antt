use Rattle.std.proofs.Common.{◌≡◌, get_or, rules}
use Rattle.number_set.specs.Bits.{IsLeastBit}
use Rattle.number_set.proofs.Layers.{none_down, none_in_top, flag-false, least_of_top, least_down, place_of_word, bit_within, true-flag}
use Rattle.number_set.proofs.set.NumberSet.least.Goals as goal

pub returns-then-is_zero : goal.returns-then-is_zero
returns-then-is_zero c =
    let k = c.self.invariant in
    let zero : get_or c.self.inside.sixth 0 0 ≡ 0 = search rules in
    rw (← c.self.view_is)
    (λ i. flag-false _ _ i (none_down _ _ k.of_first (none_down _ _ k.of_second (none_down _ _ k.of_third (none_down _ _ k.of_fourth (none_down _ _ k.of_fifth (none_in_top _ k.one zero))))) i))

pub least_in-in_fourth-requires-clause-within : goal.least_in-in_fourth-requires-clause-within
least_in-in_fourth-requires-clause-within c = place_of_word _ _ (c.self.invariant.of_fifth.set _ c.least_in-in_fifth.ensures.set)

pub least_in-in_third-requires-clause-within : goal.least_in-in_third-requires-clause-within
least_in-in_third-requires-clause-within c = place_of_word _ _ (c.self.invariant.of_fourth.set _ c.least_in-in_fourth.ensures.set)

pub least_in-in_second-requires-clause-within : goal.least_in-in_second-requires-clause-within
least_in-in_second-requires-clause-within c = place_of_word _ _ (c.self.invariant.of_third.set _ c.least_in-in_third.ensures.set)

pub least_in-in_first-requires-clause-within : goal.least_in-in_first-requires-clause-within
least_in-in_first-requires-clause-within c = place_of_word _ _ (c.self.invariant.of_second.set _ c.least_in-in_second.ensures.set)

pub least_in-least-requires-clause-within : goal.least_in-least-requires-clause-within
least_in-least-requires-clause-within c = place_of_word _ _ (c.self.invariant.of_first.set _ c.least_in-in_first.ensures.set)

pub returns : goal.returns
returns c =
    let k = c.self.invariant in
    let of_sixth : IsLeastBit c.self.inside.sixth c.least_in-in_fifth.result = least_of_top _ _ c.least_in-in_fifth.ensures.set c.least_in-in_fifth.ensures.clear_below c.least_in-in_fifth.ensures.word in
    let of_fifth : IsLeastBit c.self.inside.fifth c.least_in-in_fourth.result = least_down _ _ _ _ k.of_fifth of_sixth c.least_in-in_fourth.ensures.word c.least_in-in_fourth.ensures.set c.least_in-in_fourth.ensures.clear_below in
    let of_fourth : IsLeastBit c.self.inside.fourth c.least_in-in_third.result = least_down _ _ _ _ k.of_fourth of_fifth c.least_in-in_third.ensures.word c.least_in-in_third.ensures.set c.least_in-in_third.ensures.clear_below in
    let of_third : IsLeastBit c.self.inside.third c.least_in-in_second.result = least_down _ _ _ _ k.of_third of_fourth c.least_in-in_second.ensures.word c.least_in-in_second.ensures.set c.least_in-in_second.ensures.clear_below in
    let of_second : IsLeastBit c.self.inside.second c.least_in-in_first.result = least_down _ _ _ _ k.of_second of_third c.least_in-in_first.ensures.word c.least_in-in_first.ensures.set c.least_in-in_first.ensures.clear_below in
    let of_first : IsLeastBit c.self.inside.first c.least_in-least.result = least_down _ _ _ _ k.of_first of_second c.least_in-least.ensures.word c.least_in-least.ensures.set c.least_in-least.ensures.clear_below in
    rw (← c.self.view_is)
    (true-flag _ _ _ (bit_within _ _ _ _ _ _ _ _ k of_first.set) of_first.set, λ j less. flag-false _ _ j (of_first.clear_below j less))
