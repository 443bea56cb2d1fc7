-- How many bytes a data pointer denotes.
use Rattle.std.proofs.Common.{arith, ◌≡◌, ℕ, suc, ◌+◌, ◌-◌, ◌<◌, ◌≤◌, List, ◌++◌, length, length-append, ap, ◌∙◌, inr}
use Rattle.std.proofs.lemmas.List.FromFn.{length-range_with_len}
use Rattle.host_map.specs.Places.{IsCommandBlock, IsBlockPlace}
use Rattle.cmd_block.specs.declared.Field.TheVariants.{CtxReturn}
use Rattle.phase_fix.specs.declared.moves.Entry.{Entry}
use Rattle.phase_fix.specs.declared.moves.Entry.TheVariants.{Segment, Context}
use Rattle.phase_fix.specs.Moves.{move_at}
use Rattle.phase_fix.specs.Remain.{field, count_of, address_of, range_of, segments, segments_from, segment_of_move, remain_at_entry}

length-range : (w : ℕ → ℕ) (block : ℕ) (e : Entry) (xs : List ℕ) → length (range_of w block e ++ xs) ≡ count_of w block e + length xs
length-range w block e xs =
    length-append (range_of w block e) xs ∙ ap (λ (n : ℕ). n + length xs) (length-range_with_len (address_of w block e) (count_of w block e))

by-suc : (w : ℕ → ℕ) (block k n j : ℕ) → k ≡ suc n → length (segments w block k j) ≡ count_of w block (Segment j) + length (segments w block n (j + 1))
by-suc w block k n j e = ap (λ (x : ℕ). length (segments w block x j)) e ∙ length-range w block (Segment j) (segments w block n (j + 1))

pub one_more : (w : ℕ → ℕ) (block j : ℕ) → j < 16
    → length (segments_from w block j) ≡ count_of w block (Segment j) + length (segments_from w block (j + 1))
one_more w block j h = by-suc w block (16 - j) (16 - (j + 1)) j (omega (arith, h))

pub none_left : (w : ℕ → ℕ) (block j : ℕ) → 16 ≤ j → length (segments_from w block j) ≡ 0
none_left w block j h = let e : 16 - j ≡ 0 = omega (arith, h) in ap (λ (x : ℕ). length (segments w block x j)) e

pub of_context : (w : ℕ → ℕ) (block k : ℕ)
    → length (remain_at_entry w block (Context k)) ≡ count_of w block (Context k) + length (segments_from w block (segment_of_move (move_at (field w block (CtxReturn k)))))
of_context w block k = length-range w block (Context k) (segments_from w block (segment_of_move (move_at (field w block (CtxReturn k)))))

pub command_place : (a : ℕ) → IsCommandBlock a → IsBlockPlace a
command_place a h = record { from = omega (arith, h.from); gap = inr h.from; below = h.below; aligned = h.aligned }
