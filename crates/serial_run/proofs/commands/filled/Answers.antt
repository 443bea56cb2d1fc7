use Rattle.std.proofs.Common.{◌≡◌, ◌+◌, ◌%◌, ◌∷◌, [], ◌++◌, List, ℕ, length, refl, sym, ap, ◌∙◌, arith}
use Rattle.std.proofs.lemmas.List.FromFn.{length-map-range_with_len, map-range_with_len_more}
use Rattle.std.proofs.lemmas.Grind.{common_steps}
use Rattle.serial_run.specs.Generated.{filled}
use Rattle.serial_run.proofs.commands.filled.Goals as goal

filled-more : (i k : ℕ) (bytes : List ℕ) → bytes ≡ filled i k → bytes ++ (i % 256 + k) % 256 ∷ [] ≡ filled i (k + 1)
unfolding filled
filled-more i k bytes is =
    let from : 0 + k ≡ k = omega arith in
    ap (λ (bs : List ℕ). bs ++ (i % 256 + k) % 256 ∷ []) is ∙ sym (map-range_with_len_more (λ (j : ℕ). (i % 256 + j) % 256) 0 k k from)

filled-none : (i : ℕ) → filled i 0 ≡ []
unfolding filled
filled-none i = refl

filled-length : (i n : ℕ) → length (filled i n) ≡ n
unfolding filled
filled-length i n = length-map-range_with_len (λ (j : ℕ). (i % 256 + j) % 256) 0 n

pub loop-k-init : goal.loop-k-init
loop-k-init c = c.in_ok-bytes.ensures.items ∙ sym (filled-none c.args.number)

pub loop-k-preserved : goal.loop-k-preserved
loop-k-preserved c = rw c.in_ok-push.ensures.items (filled-more c.args.number c.loop-k.k c.loop-k.bytes.items c.loop-k.invariant)

whole : (i k : ℕ) (bytes : List ℕ) → bytes ≡ filled i k → k ≡ 4096 → bytes ≡ filled i 4096
whole i k bytes is end = is ∙ ap (λ (n : ℕ). filled i n) end

pub returns-clause-bytes : goal.returns-clause-bytes
returns-clause-bytes c =
    let end : c.loop-k.k ≡ 4096 = grind (arith, common_steps) in
    whole c.args.number c.loop-k.k c.loop-k.bytes.items c.loop-k.invariant end

pub returns-clause-count : goal.returns-clause-count
returns-clause-count c =
    let end : c.loop-k.k ≡ 4096 = grind (arith, common_steps) in
    ap (λ (bytes : List ℕ). length bytes) (whole c.args.number c.loop-k.k c.loop-k.bytes.items c.loop-k.invariant end) ∙ filled-length c.args.number 4096
