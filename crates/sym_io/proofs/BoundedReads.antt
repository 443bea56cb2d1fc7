-- What a reader gives in a bounded number of bytes.
use Rattle.std.proofs.Common.{◌≡◌, ℕ, ◌+◌, ◌<◌, ◌≤◌, List, [], ◌++◌, length, take, Option, None, Some, IfSome, ap, ◌∙◌, ⊎_elim, arith}
use Rattle.std.proofs.lemmas.Bool.{cases_lt}
use Rattle.std.proofs.lemmas.List.{length-take-le, take_all}
use Rattle.std.specs.Option.{option_map}

-- The first n + 1 bytes are all where they are at most n.
pub all-within : (rest : Option (List ℕ)) (n most : ℕ) (start got : List ℕ) → most ≡ n + 1 → start ≡ [] → IfSome (option_map (take most) rest) (λ xs. got ≡ start ++ xs) → length got ≤ n → IfSome rest (λ all. got ≡ all)
all-within None n most start got one_more none is short = tt
all-within (Some all) n most start got one_more none is short =
    let first : got ≡ take most all = is ∙ ap (λ (xs : List ℕ). xs ++ take most all) none in
    ⊎_elim
    (λ (long : n < length all). let many : length got ≡ most = ap length first ∙ length-take-le most all (omega arith) in absurd (omega arith))
    (λ (fits : length all ≤ n). first ∙ take_all most all (omega arith))
    (cases_lt n (length all))
