-- The buffer that is copied out of host memory.
use Rattle.std.proofs.Common.{◌≡◌, ℕ, List, ◌++◌, length, take, ap, ◌∙◌}
use Rattle.std.proofs.lemmas.List.{take_at}
use Rattle.bench_words.specs.Memory.{bytes_at}

pub buffer-is : (m into back : List ℕ) (n len : ℕ) → into ≡ bytes_at m 2097152 n → n ≡ 512 → length into ≡ n → len ≡ 512 → take len (into ++ back) ≡ bytes_at m 2097152 512
buffer-is m into back n len e f g h =
    ap (λ (x : ℕ). take x (into ++ back)) h ∙ take_at into back 512 (g ∙ f) ∙ e ∙ ap (λ (x : ℕ). bytes_at m 2097152 x) f
