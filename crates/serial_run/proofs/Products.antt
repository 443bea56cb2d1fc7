-- The factors of the bound are small.
use Rattle.std.proofs.Common.{arith, ◌≤◌, ◌*◌, ℕ}
use Rattle.std.proofs.Math.Nat.{mul-le-mul_left}

pub tries_fit : (commands tries moves : ℕ) → commands ≤ 2147483648 → tries ≤ 256 → moves ≤ 257 → commands * tries * moves ≤ 141287244169216
tries_fit commands tries moves a b c =
    let x : tries * commands ≤ tries * 2147483648 = mul-le-mul_left tries a in
    let y : commands * tries ≤ 549755813888 = omega (arith, x, b) in
    let z : moves * (commands * tries) ≤ moves * 549755813888 = mul-le-mul_left moves y in
    omega (arith, z, c)
