use Rattle.std.proofs.Common.{◌≡◌, ℕ, sym, subst, ⊎_elim}
use Rattle.byte_set.specs.Bits.{IsMask}
use Rattle.byte_set.proofs.Masks.{mask_of_all, mask_of_fourths}
use Rattle.byte_set.proofs.mask.Goals as goal

pub returns-then-apart-eq4 : goal.returns-then-apart-eq4
returns-then-apart-eq4 c = subst (λ (a : ℕ). IsMask 0x1111111111111111 a) (sym c.if-apart-eq4.true) mask_of_fourths

pub returns-else-apart-eq4 : goal.returns-else-apart-eq4
returns-else-apart-eq4 c =
    ⊎_elim
    (λ (e : c.args.apart ≡ 1). subst (λ (a : ℕ). IsMask 0xFFFFFFFFFFFFFFFF a) (sym e) mask_of_all)
    (λ (e : c.args.apart ≡ 4). absurd (c.if-apart-eq4.false e))
    c.requires
