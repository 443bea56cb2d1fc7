-- What a data pointer denotes depends on the segments and contexts of its block alone.
use Rattle.std.proofs.Common.{◌≡◌, ℕ, zero, suc, ◌+◌, ◌-◌, ◌<◌, ◌≤◌, List, ◌++◌, drop, Option, Some, None, refl, ap, ◌∙◌, arith}
use Rattle.std.specs.List.{range_with_len}
use Rattle.cmd_block.specs.declared.Field.TheVariants.{SegCount, SegAt, CtxCount, CtxAt, CtxReturn}
use Rattle.phase_fix.specs.declared.moves.DataPhase.{DataPhase}
use Rattle.phase_fix.specs.declared.moves.DataPhase.TheVariants.{In, Out}
use Rattle.phase_fix.specs.declared.moves.Entry.{Entry}
use Rattle.phase_fix.specs.declared.moves.Entry.TheVariants.{Segment, Context}
use Rattle.phase_fix.specs.declared.moves.DataMove.{DataMove}
use Rattle.phase_fix.specs.Moves.{IsEntry, move_at}
use Rattle.phase_fix.specs.Remain.{field, count_of, address_of, range_of, segments, segments_from, segment_of_entry, segment_of_move, following, remain_at_entry, remain_at_move, remain, IsNoContext}
use Rattle.phase_fix.proofs.MoveLaws.{entry_place, place, move_stands, segment_of_move-most}

-- ---- words that are as before

-- the segments of a block are as before
pub record SegmentsKept (w n : ℕ → ℕ) (block : ℕ) : Type 0 where
  pub count : (j : ℕ) → j < 16 → field n block (SegCount j) ≡ field w block (SegCount j)
  pub address : (j : ℕ) → j < 16 → field n block (SegAt j) ≡ field w block (SegAt j)

-- a context of a block is as before
pub record ContextKept (w n : ℕ → ℕ) (block k : ℕ) : Type 0 where
  pub count : field n block (CtxCount k) ≡ field w block (CtxCount k)
  pub address : field n block (CtxAt k) ≡ field w block (CtxAt k)
  pub return : field n block (CtxReturn k) ≡ field w block (CtxReturn k)

segments-kept : (w n : ℕ → ℕ) (block more j : ℕ) → more + j ≤ 16 → SegmentsKept w n block → segments n block more j ≡ segments w block more j
segments-kept w n block zero j h s = refl
segments-kept w n block (suc more) j h s =
    let a = s.address j (omega arith) in
    let c = s.count j (omega arith) in
    let r = segments-kept w n block more (j + 1) (omega arith) s in
    cc

segments_from-kept : (w n : ℕ → ℕ) (block j : ℕ) → j ≤ 16 → SegmentsKept w n block → segments_from n block j ≡ segments_from w block j
segments_from-kept w n block j h s = segments-kept w n block (16 - j) j (omega arith) s

pub following-kept : (w n : ℕ → ℕ) (block a : ℕ) → SegmentsKept w n block → following n block a ≡ following w block a
following-kept w n block a s = segments_from-kept w n block (segment_of_move (move_at a)) (segment_of_move-most a) s

entry-kept : (w n : ℕ → ℕ) (block : ℕ) (e : Entry) → IsEntry e → SegmentsKept w n block → ((k : ℕ) → k < 2 → e ≡ Context k → ContextKept w n block k) → remain_at_entry n block e ≡ remain_at_entry w block e
entry-kept w n block (Segment j) h s c = segments_from-kept w n block j (omega arith) s
entry-kept w n block (Context k) h s c =
    let kept = c k h refl in
    let f = following-kept w n block (field w block (CtxReturn k)) s in
    rw (kept.count, kept.address, kept.return, f) refl

move-kept : (w n : ℕ → ℕ) (block : ℕ) (o : Option DataMove) → ((x : DataMove) → o ≡ Some x → IsEntry x.entry) → SegmentsKept w n block → ((k : ℕ) (x : DataMove) → k < 2 → o ≡ Some x → x.entry ≡ Context k → ContextKept w n block k) → remain_at_move n block o ≡ remain_at_move w block o
move-kept w n block None h s c = refl
move-kept w n block (Some x) h s c = entry-kept w n block x.entry (h x refl) s (λ k b e. c k x b refl e)

-- a pointer denotes what it did where the segments and the context that it names are as before
pub remain-kept : (w n : ℕ → ℕ) (block pointer : ℕ) → SegmentsKept w n block → ((k : ℕ) (x : DataMove) → k < 2 → move_at pointer ≡ Some x → x.entry ≡ Context k → ContextKept w n block k) → remain n block pointer ≡ remain w block pointer
remain-kept w n block pointer s c = move-kept w n block (move_at pointer) (λ x h. (move_stands pointer x h).0) s c

-- ---- what follows a context is what its return denotes

no_context : (w : ℕ → ℕ) (block a : ℕ) (phase : DataPhase) (e : Entry) → IsNoContext a → IsEntry e → entry_place phase e ≡ a → segments_from w block (segment_of_entry e) ≡ remain_at_entry w block e
no_context w block a phase (Segment j) none h p = refl
no_context w block a In (Context zero) none h p = absurd (none.0 (omega arith))
no_context w block a In (Context (suc zero)) none h p = absurd (none.1 (omega arith))
no_context w block a Out (Context zero) none h p = absurd (none.2 (omega arith))
no_context w block a Out (Context (suc zero)) none h p = absurd (none.3 (omega arith))
no_context w block a phase (Context (suc (suc k))) none h p = absurd (omega arith)

following-move : (w : ℕ → ℕ) (block a : ℕ) (o : Option DataMove) → IsNoContext a → ((x : DataMove) → o ≡ Some x → IsEntry x.entry × (place x ≡ a)) → segments_from w block (segment_of_move o) ≡ remain_at_move w block o
following-move w block a None none h = refl
following-move w block a (Some x) none h = no_context w block a x.phase x.entry none (h x refl).0 (h x refl).1

pub following-remain : (w : ℕ → ℕ) (block a : ℕ) → IsNoContext a → following w block a ≡ remain w block a
following-remain w block a none = following-move w block a (move_at a) none (move_stands a)

-- ---- the rest of a move

-- what follows an entry
abbrev pub behind_entry : (ℕ → ℕ) → ℕ → Entry → List ℕ
behind_entry w block (Segment j) = segments_from w block (suc j)
behind_entry w block (Context k) = following w block (field w block (CtxReturn k))

-- a segment, and those after it
segments_from-unrolled : (w : ℕ → ℕ) (block j : ℕ) → j < 16 → segments_from w block j ≡ range_of w block (Segment j) ++ segments_from w block (suc j)
segments_from-unrolled w block j h =
    let e : 16 - j ≡ suc (16 - suc j) = omega arith in
    let f : j + 1 ≡ suc j = omega arith in
    rw (e, f) refl

entry-unrolled : (w : ℕ → ℕ) (block : ℕ) (e : Entry) → IsEntry e → remain_at_entry w block e ≡ range_of w block e ++ behind_entry w block e
entry-unrolled w block (Segment j) h = segments_from-unrolled w block j h
entry-unrolled w block (Context k) h = refl

-- a range without its first m addresses
drop-range : (m n a : ℕ) (rest : List ℕ) → m ≤ n → drop m (range_with_len a n ++ rest) ≡ range_with_len (a + m) (n - m) ++ rest
drop-range zero n a rest h = let e : a + 0 ≡ a = omega arith in let f : n - 0 ≡ n = omega arith in rw (e, f) refl
drop-range (suc m) zero a rest h = absurd (omega arith)
drop-range (suc m) (suc n) a rest h =
    let r = drop-range m n (a + 1) rest (omega arith) in
    let e : a + 1 + m ≡ a + suc m = omega arith in
    let f : n - m ≡ suc n - suc m = omega arith in
    rw (e, f) at r

-- what a stopped move didn't move, and all that followed it
pub drop-entry : (w : ℕ → ℕ) (block m : ℕ) (e : Entry) → IsEntry e → m ≤ count_of w block e → drop m (remain_at_entry w block e) ≡ range_with_len (address_of w block e + m) (count_of w block e - m) ++ behind_entry w block e
drop-entry w block m e h b = ap (drop m) (entry-unrolled w block e h) ∙ drop-range m (count_of w block e) (address_of w block e) (behind_entry w block e) b
