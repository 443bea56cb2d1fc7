-- Suffixes of the addresses of a ticket, and where the bytes of a data move lie that its block names.
use Rattle.std.proofs.Common.{◌≡◌, ◌⊎◌, inl, inr, ℕ, zero, suc, ◌+◌, ◌-◌, ◌<◌, ◌≤◌, List, ◌++◌, length, drop, get_or, slice_index, Bool, true, false, sym, ap, subst, ◌∙◌, arith, Some, length-drop, length-append}
use Rattle.std.specs.Prelude.{if◌then◌else◌}
use Rattle.std.specs.List.{range_with_len}
use Rattle.std.proofs.Math.ListN.{get_or-append}
use Rattle.std.proofs.lemmas.List.{get_or-drop, get_or-append-add}
use Rattle.std.proofs.lemmas.List.FromFn.{get_or-range_with_len, length-range_with_len}
use Rattle.scsi_words.specs.declared.phases.kinds.Direction.{Direction}
use Rattle.sense_job.specs.Turning.{sense_area}
use Rattle.phase_fix.specs.declared.moves.DataMove.{DataMove}
use Rattle.phase_fix.specs.Moves.{move_at}
use Rattle.phase_fix.specs.Remain.{count_of, address_of, range_of, remain, remain_at_move}
use Rattle.phase_fix.proofs.MoveLaws.{move_stands}
use Rattle.phase_fix.proofs.RemainLaws.{drop-entry, behind_entry}
use Rattle.word_owners.specs.Tickets.{Tickets, block_of, goal, IsLive, AreTickets}
use Rattle.word_owners.specs.Pointers.{IsSuffix, Names}

pub suffix-drop : (k : ℕ) (xs zs : List ℕ) → k ≤ length xs → IsSuffix xs zs → IsSuffix (drop k xs) zs
suffix-drop k xs zs h s =
    let e : length (drop k xs) ≡ length xs - k = length-drop k xs in
    record {
      from = s.from + k;
      within = omega (arith, s.within);
      at = λ i l. let f : s.from + (k + i) ≡ s.from + k + i = omega arith in get_or-drop k xs i 0 ∙ s.at (k + i) (omega arith) ∙ ap (λ (j : ℕ). get_or zs j 0) f;
    }

-- what follows xs in a suffix is a suffix
suffix-behind : (xs ys zs : List ℕ) → IsSuffix (xs ++ ys) zs → IsSuffix ys zs
suffix-behind xs ys zs s =
    let e : length (xs ++ ys) ≡ length xs + length ys = length-append xs ys in
    record {
      from = s.from + length xs;
      within = omega (arith, s.within);
      at = λ i h.
          let f : s.from + (length xs + i) ≡ s.from + length xs + i = omega arith in
          sym (get_or-append-add xs ys i 0) ∙ s.at (length xs + i) (omega arith) ∙ ap (λ (k : ℕ). get_or zs k 0) f;
    }

-- what a pointer denotes begins with its move's range
pub unrolled : (w : ℕ → ℕ) (b p : ℕ) (x : DataMove) → move_at p ≡ Some x → remain w b p ≡ range_of w b x.entry ++ behind_entry w b x.entry
unrolled w b p x e =
    let m = move_stands p x e in
    let d = drop-entry w b 0 x.entry m.0 (omega arith) in
    let a0 : address_of w b x.entry + 0 ≡ address_of w b x.entry = omega arith in
    let c0 : count_of w b x.entry - 0 ≡ count_of w b x.entry = omega arith in
    ap (remain_at_move w b) e ∙ d ∙ ap (λ (i : ℕ). range_with_len i (count_of w b x.entry - 0) ++ behind_entry w b x.entry) a0 ∙ ap (λ (i : ℕ). range_with_len (address_of w b x.entry) i ++ behind_entry w b x.entry) c0

-- what follows a move that is named is a suffix
pub names-behind : (w : ℕ → ℕ) (b : ℕ) (goes : Direction) (xs : List ℕ) (p : ℕ) (x : DataMove) → Names w b goes xs p x → IsSuffix (behind_entry w b x.entry) xs
names-behind w b goes xs p x g = suffix-behind (range_of w b x.entry) (behind_entry w b x.entry) xs (subst (λ (l : List ℕ). IsSuffix l xs) (unrolled w b p x g.at) g.rest)

-- so many addresses from one on stand one after another in xs
pub record InGoal (xs : List ℕ) (a count : ℕ) : Type 0 where
  pub from : ℕ
  pub within : from + count ≤ length xs
  pub at : (i : ℕ) → i < count → slice_index xs (from + i) ≡ a + i

-- those of a move that is named
pub in-goal : (w : ℕ → ℕ) (b : ℕ) (goes : Direction) (xs : List ℕ) (p : ℕ) (x : DataMove) → Names w b goes xs p x → InGoal xs (address_of w b x.entry) (count_of w b x.entry)
in-goal w b goes xs p x g =
    let n = count_of w b x.entry in
    let a = address_of w b x.entry in
    let r : List ℕ = range_with_len a n in
    let s : IsSuffix (r ++ behind_entry w b x.entry) xs = subst (λ (l : List ℕ). IsSuffix l xs) (unrolled w b p x g.at) g.rest in
    let e : length (r ++ behind_entry w b x.entry) ≡ n + length (behind_entry w b x.entry) = length-append r (behind_entry w b x.entry) ∙ ap (λ (k : ℕ). k + length (behind_entry w b x.entry)) (length-range_with_len a n) in
    record {
      from = s.from;
      within = omega (arith, s.within);
      at = λ i h. sym (s.at i (omega arith)) ∙ get_or-append r (behind_entry w b x.entry) 0 i (omega (arith, length-range_with_len a n)) ∙ get_or-range_with_len a n i 0 h;
    }

-- ---- where they lie: in the buffer region, or in the sense area of the block

pub record InBuffer (a count : ℕ) : Type 0 where
  pub from : 0x200000 ≤ a
  pub to : a + count ≤ 0x400000

pub record InArea (b a count : ℕ) : Type 0 where
  pub from : b + 0x100 ≤ a
  pub to : a + count ≤ b + 0x112

place_by : (turned : Bool) (b a n : ℕ) (own : List ℕ) → ((i : ℕ) → i < length own → (0x200000 ≤ slice_index own i) × (slice_index own i < 0x400000)) → InGoal (if turned then sense_area b else own) a (suc n) → InBuffer a (suc n) ⊎ InArea b a (suc n)
place_by false b a n own h g =
    let f0 = h (g.from + 0) (omega (arith, g.within)) in
    let f1 = h (g.from + n) (omega (arith, g.within)) in
    inl (record { from = omega (arith, f0, g.at 0 (omega arith)); to = omega (arith, f1, g.at n (omega arith)) })
place_by true b a n own h g =
    let l : length (sense_area b) ≡ 18 = length-range_with_len (b + 0x100) 18 in
    let e0 = get_or-range_with_len (b + 0x100) 18 (g.from + 0) 0 (omega (arith, g.within)) in
    let e1 = get_or-range_with_len (b + 0x100) 18 (g.from + n) 0 (omega (arith, g.within)) in
    inr (record { from = omega (arith, e0, g.at 0 (omega arith)); to = omega (arith, e1, g.at n (omega arith), g.within) })

place_some : (n a : ℕ) (ts : Tickets) (t : ℕ) → AreTickets ts → IsLive (ts.stage t) → InGoal (goal (ts.fixed t)) a (suc n) → InBuffer a (suc n) ⊎ InArea (block_of ts t) a (suc n)
place_some n a ts t d l g = place_by (ts.fixed t).turned (block_of ts t) a n (ts.fixed t).own (λ i h. d.within t i l h) g

pub goal-place : (n a : ℕ) (ts : Tickets) (t : ℕ) → AreTickets ts → IsLive (ts.stage t) → 0 < n → InGoal (goal (ts.fixed t)) a n → InBuffer a n ⊎ InArea (block_of ts t) a n
goal-place zero a ts t d l h g = absurd (omega arith)
goal-place (suc n) a ts t d l h g = place_some n a ts t d l g
