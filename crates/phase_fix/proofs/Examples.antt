-- A worked example: segments of 100, 300 and 112 bytes, broken off after 60 and after 300 bytes. The check computes it.
use Rattle.std.proofs.Common.{◌≡◌, ℕ, [], length, drop, nat_eq, refl}
use Rattle.std.specs.Prelude.{if◌then◌else◌}
use Rattle.phase_fix.specs.Moves.{move_at}
use Rattle.phase_fix.specs.Remain.{remain}

-- the words of the block at 10000: segments 13 to 15, and both contexts
abbrev block : ℕ → ℕ
block a =
    if nat_eq a 0x100A8 then 100 else if nat_eq a 0x100AC then 0x200000 else
    if nat_eq a 0x100B0 then 300 else if nat_eq a 0x100B4 then 0x200200 else
    if nat_eq a 0x100B8 then 112 else if nat_eq a 0x100BC then 0x200400 else
    if nat_eq a 0x100C0 then 40 else if nat_eq a 0x100C4 then 0x20003C else if nat_eq a 0x100C8 then 0x330 else
    if nat_eq a 0x100D0 then 100 else if nat_eq a 0x100D4 then 0x2002C8 else if nat_eq a 0x100D8 then 0x338 else 0

whole : length (remain block 0x10000 0x328) ≡ 512
unfolding move_at
whole = refl

first_rest : remain block 0x10000 0x3E0 ≡ drop 60 (remain block 0x10000 0x328)
unfolding move_at
first_rest = refl

second_rest : remain block 0x10000 0x3F8 ≡ drop 300 (remain block 0x10000 0x328)
unfolding move_at
second_rest = refl

-- the other phase's moves denote the same, and OVER, INDONE and ALLMOVED nothing
other_phase : (remain block 0x10000 0x3B0 ≡ remain block 0x10000 0x328) × (remain block 0x10000 0x428 ≡ remain block 0x10000 0x3F8)
unfolding move_at
other_phase = (refl, refl)

nothing : (remain block 0x10000 0x2B8 ≡ []) × (remain block 0x10000 0x340 ≡ []) × (remain block 0x10000 0x3C8 ≡ [])
unfolding move_at
nothing = (refl, refl, refl)
