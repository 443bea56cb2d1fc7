-- The block that Build writes is one that the invariant asks for.
use Rattle.std.proofs.Common.{◌≡◌, ◌≢◌, inl, inr, ℕ, zero, suc, ◌+◌, ◌-◌, ◌*◌, ◌^◌, ◌<◌, ◌≤◌, List, [], ◌∷◌, length, replicate, get_or, slice_index, refl, sym, ap, subst, ◌∙◌, arith, lit<, Some}
use Rattle.std.specs.Prelude.{flat_map}
use Rattle.std.specs.List.{range_with_len}
use Rattle.std.proofs.lemmas.List.{length-replicate}
use Rattle.scsi_words.specs.declared.phases.kinds.Direction.{Direction}
use Rattle.scsi_words.specs.declared.phases.kinds.Direction.TheVariants as direction
use Rattle.bench_words.specs.Memory.{word_at, put_word, put_bytes}
use Rattle.bench_words.proofs.Cells.{word_at-plus}
use Rattle.bench_words.proofs.MemoryLaws.{length-put_word, length-put_bytes, byte_inside, word_outside, wrote-put_word}
use Rattle.rig_types.specs.declared.rig.Unit.{Unit as RigUnit}
use Rattle.cmd_block.specs.Block.{offset}
use Rattle.cmd_block.specs.declared.Field.{Field}
use Rattle.cmd_block.specs.declared.Field.TheVariants.{Start, Restart, Lastp, Savep, State, Status, Sel, Gate, MsgCount, MsgAt, CmdCount, CmdAt, StatCount, StatAt, SegCount, SegAt, CtxReturn}
use Rattle.phase_fix.specs.declared.moves.DataMove.{DataMove}
use Rattle.phase_fix.specs.declared.moves.DataPhase.{DataPhase}
use Rattle.phase_fix.specs.declared.moves.DataPhase.TheVariants.{In, Out}
use Rattle.phase_fix.specs.declared.moves.Entry.TheVariants.{Segment}
use Rattle.phase_fix.specs.Moves.{first_segment, move_at}
use Rattle.phase_fix.specs.Remain.{field, count_of, address_of, segments, remain, remain_at_move}
use Rattle.phase_fix.proofs.MoveLaws.{move-place}
use Rattle.sense_job.specs.Turning.{with_fields}
use Rattle.sense_job.proofs.FieldLists.{AllFit, AllApart, nth, length-with_fields, with_fields-other, with_fields-same}
use Rattle.desk_law.specs.declared.stage.Stage.TheVariants.{Built}
use Rattle.desk_law.specs.declared.ticket.Piece.{Piece}
use Rattle.desk_law.specs.declared.ticket.Ticket.{Ticket}
use Rattle.desk_law.specs.Blocks.{begins_at, beginning, segment_fields, message_bytes, with_block}
use Rattle.word_owners.specs.Tickets.{fixed_of, goal, way}
use Rattle.word_owners.specs.Pointers.{IsSuffix, IsWay, AreFilled, IsPointer}
use Rattle.word_owners.specs.Parts.{IsBlock}
use Rattle.word_owners.specs.Spaces.{no_piece}
use Rattle.word_owners.specs.BuiltBlocks.{IsNew, BlockBuilt}

abbrev piece : List Piece → ℕ → Piece
piece ps i = get_or ps i no_piece

abbrev addresses : List Piece → List ℕ
addresses ps = flat_map (λ (p : Piece). range_with_len p.chunk.base p.len) ps

-- ---- the segments

record Fit (ps : List Piece) : Type 0 where
  counts : (i : ℕ) → i < length ps → (piece ps i).len < 2 ^ 24
  places : (i : ℕ) → i < length ps → (piece ps i).chunk.base < 2 ^ 32

fit-rest : (p : Piece) (ps : List Piece) → Fit (p ∷ ps) → Fit ps
fit-rest p ps f = record { counts = λ i l. f.counts (suc i) (omega arith); places = λ i l. f.places (suc i) (omega arith) }

segments-fit : (j : ℕ) (ps : List Piece) → j + length ps ≤ 16 → Fit ps → AllFit (segment_fields j ps)
segments-fit j [] h f = tt
segments-fit j (p ∷ ps) h f = let c : p.len < 2 ^ 24 = f.counts 0 (omega arith) in (omega arith, omega (arith, c), (omega arith, f.places 0 (omega arith), segments-fit (j + 1) ps (omega arith) (fit-rest p ps f)))

-- they lie beside a word below them, and beside one above the table
pub below-segments : (b j a : ℕ) (ps : List Piece) → a + 4 ≤ b + (0x40 + 8 * j) → AllApart b (segment_fields j ps) a
below-segments b j a [] h = tt
below-segments b j a (p ∷ ps) h = (omega arith, (omega arith, below-segments b (j + 1) a ps (omega arith)))

pub above-segments : (b j a : ℕ) (ps : List Piece) → j + length ps ≤ 16 → b + 0xC0 ≤ a → AllApart b (segment_fields j ps) a
above-segments b j a [] h l = tt
above-segments b j a (p ∷ ps) h l = (omega arith, (omega arith, above-segments b (j + 1) a ps (omega arith) l))

-- each reads as it was written
record SegmentIs (w : ℕ → ℕ) (b j : ℕ) (p : Piece) : Type 0 where
  count : field w b (SegCount j) ≡ p.len
  address : field w b (SegAt j) ≡ p.chunk.base

segments-read : (m : List ℕ) (b j : ℕ) (ps : List Piece) → length m ≡ 0x400000 → b + 0x100 ≤ 0x400000 → j + length ps ≤ 16 → Fit ps → (i : ℕ) → i < length ps → SegmentIs (word_at (with_fields m b (segment_fields j ps))) b (j + i) (piece ps i)
segments-read m b j [] s r h f i l = absurd (omega (arith, l))
segments-read m b j (p ∷ ps) s r h f zero l =
    let m1 = put_word m (b + (0x40 + 8 * j)) p.len in
    let m2 = put_word m1 (b + (0x44 + 8 * j)) p.chunk.base in
    let s1 : length m1 ≡ 0x400000 = length-put_word m (b + (0x40 + 8 * j)) p.len ∙ s in
    let s2 : length m2 ≡ 0x400000 = length-put_word m1 (b + (0x44 + 8 * j)) p.chunk.base ∙ s1 in
    let c : p.len < 2 ^ 24 = f.counts 0 (omega arith) in
    let w1 = wrote-put_word m (b + (0x40 + 8 * j)) p.len (omega (arith, s)) (omega (arith, c)) in
    let w2 = wrote-put_word m1 (b + (0x44 + 8 * j)) p.chunk.base (omega (arith, s1)) (f.places 0 (omega arith)) in
    let fit = segments-fit (j + 1) ps (omega (arith, h)) (fit-rest p ps f) in
    let a0 : b + (0x40 + 8 * (j + 0)) ≡ b + (0x40 + 8 * j) = omega arith in
    let a1 : b + (0x44 + 8 * (j + 0)) ≡ b + (0x44 + 8 * j) = omega arith in
    record {
      count = ap (word_at (with_fields m2 b (segment_fields (j + 1) ps))) a0 ∙ with_fields-other m2 b (segment_fields (j + 1) ps) (b + (0x40 + 8 * j)) (omega (arith, s2)) fit (below-segments b (j + 1) (b + (0x40 + 8 * j)) ps (omega arith)) ∙ w2.other (b + (0x40 + 8 * j)) (omega arith) ∙ w1.same;
      address = ap (word_at (with_fields m2 b (segment_fields (j + 1) ps))) a1 ∙ with_fields-other m2 b (segment_fields (j + 1) ps) (b + (0x44 + 8 * j)) (omega (arith, s2)) fit (below-segments b (j + 1) (b + (0x44 + 8 * j)) ps (omega arith)) ∙ w2.same;
    }
segments-read m b j (p ∷ ps) s r h f (suc i) l =
    let m1 = put_word m (b + (0x40 + 8 * j)) p.len in
    let m2 = put_word m1 (b + (0x44 + 8 * j)) p.chunk.base in
    let s2 : length m2 ≡ 0x400000 = length-put_word m1 (b + (0x44 + 8 * j)) p.chunk.base ∙ length-put_word m (b + (0x40 + 8 * j)) p.len ∙ s in
    let e : j + 1 + i ≡ j + suc i = omega arith in
    subst (λ (y : ℕ). SegmentIs (word_at (with_fields m2 b (segment_fields (j + 1) ps))) b y (piece ps i)) e (segments-read m2 b (j + 1) ps s2 r (omega (arith, h)) (fit-rest p ps f) i (omega (arith, l)))

-- so they denote the buffer
segments-denote : (w : ℕ → ℕ) (b j : ℕ) (ps : List Piece) → Fit ps → ((i : ℕ) → i < length ps → SegmentIs w b (j + i) (piece ps i)) → segments w b (length ps) j ≡ addresses ps
segments-denote w b j [] f h = refl
segments-denote w b j (p ∷ ps) f h =
    let one = h 0 (omega arith) in
    let j0 : j + 0 ≡ j = omega arith in
    let c : p.len < 2 ^ 24 = f.counts 0 (omega arith) in
    let count : count_of w b (Segment j) ≡ p.len = omega (arith, c, ap (λ (y : ℕ). field w b (SegCount y)) (sym j0) ∙ one.count) in
    let address : address_of w b (Segment j) ≡ p.chunk.base = ap (λ (y : ℕ). field w b (SegAt y)) (sym j0) ∙ one.address in
    let rest = segments-denote w b (j + 1) ps (fit-rest p ps f) (λ i l. let e : j + suc i ≡ j + 1 + i = omega arith in subst (λ (y : ℕ). SegmentIs w b y (piece ps i)) e (h (suc i) (omega arith))) in
    rw (count, address, rest) refl

whole : (xs ys : List ℕ) → xs ≡ ys → IsSuffix xs ys
whole xs ys e = subst (IsSuffix xs) e (record { from = 0; within = omega arith; at = λ i l. (let z : i ≡ 0 + i = omega arith in ap (slice_index xs) z) })

-- ---- a pointer to the first segment

module _ (w : ℕ → ℕ) (b : ℕ) (ps : List Piece) (few : length ps ≤ 16) (f : Fit ps) (filled : (i : ℕ) → i < length ps → 0 < (piece ps i).len) (h : (i : ℕ) → i < length ps → SegmentIs w b (16 - length ps + i) (piece ps i)) where
  all-filled : AreFilled w b (16 - length ps)
  all-filled i l u e =
      let k = i - (16 - length ps) in
      let z : 16 - length ps + k ≡ i = omega (arith, l, few) in
      let inside : k < length ps = omega (arith, l, u, few) in
      let c : field w b (SegCount i) ≡ (piece ps k).len = ap (λ (y : ℕ). field w b (SegCount y)) (sym z) ∙ (h k inside).count in
      omega (arith, e, c, f.counts k inside, filled k inside)

  first-named : (goes : Direction) (phase : DataPhase) → IsWay goes phase → 0 < length ps → IsPointer w b goes (addresses ps) (first_segment phase + 8 * (16 - length ps))
  first-named goes phase way some =
      let x : DataMove = record { phase = phase; entry = Segment (16 - length ps) } in
      let at : move_at (first_segment phase + 8 * (16 - length ps)) ≡ Some x = move-place x (omega (arith, some)) in
      let n : 16 - (16 - length ps) ≡ length ps = omega (arith, few) in
      inr (
        x,
        record {
          at = at;
          rest = whole (remain w b (first_segment phase + 8 * (16 - length ps))) (addresses ps)
              (ap (remain_at_move w b) at ∙ ap (λ (y : ℕ). segments w b y (16 - length ps)) n ∙ segments-denote w b (16 - length ps) ps f h);
          follows = all-filled;
          way = way;
        },
      )

  begins : (goes : Direction) → (goes ≢ direction.None → 0 < length ps) → IsPointer w b goes (addresses ps) (beginning goes (length ps))
  begins direction.In some = first-named direction.In In refl (some (λ e. absurd cc))
  begins direction.Out some = first-named direction.Out Out refl (some (λ e. absurd cc))
  begins direction.None some = inl refl

-- ---- the fields

begins-small : (goes : Direction) (n : ℕ) → beginning goes n < 2 ^ 32
begins-small direction.In n = omega arith
begins-small direction.Out n = omega arith
begins-small direction.None n = omega arith

abbrev pub head : RigUnit → Ticket → ℕ → List (Field × ℕ)
head u k n =
    (Start, 0x60) ∷ (Restart, 0x128) ∷ (Lastp, begins_at k) ∷ (Savep, begins_at k) ∷ (State, 0) ∷ (Status, 0xFF) ∷ (Sel, u.target * 0x10000) ∷ (Gate, 0x1C0) ∷ (MsgCount, 3) ∷ (MsgAt, k.block + 0xE0) ∷ (CmdCount, n) ∷
    (CmdAt, k.block + 0xF0) ∷ (StatCount, 1) ∷ (StatAt, k.block + 0x14) ∷ []

zero-bytes : (n i : ℕ) → slice_index (replicate n 0) i ≡ 0
zero-bytes zero i = refl
zero-bytes (suc n) zero = refl
zero-bytes (suc n) (suc i) = zero-bytes n i

module _ (m : List ℕ) (u : RigUnit) (k : Ticket) (cdb : List ℕ) (s : length m ≡ 0x400000) (x : IsNew k) (target : u.target < 8) (short : length cdb ≤ 12) where
  b : ℕ
  b = k.block

  abbrev cleared : List ℕ
  cleared = put_bytes m k.block (replicate 0x200 0)

  abbrev headed : List ℕ
  headed = with_fields cleared k.block (head u k (length cdb))

  abbrev tabled : List ℕ
  tabled = with_fields headed k.block (segment_fields (16 - length k.pieces) k.pieces)

  abbrev n : ℕ → ℕ
  n = word_at (with_block m u k cdb)

  fit : Fit k.pieces
  fit = record { counts = x.counted; places = x.placed }

  size-headed : length headed ≡ 0x400000
  size-headed = length-with_fields cleared k.block (head u k (length cdb)) ∙ length-put_bytes m k.block (replicate 0x200 0) ∙ s

  pub head-fits : AllFit (head u k (length cdb))
  head-fits =
      let p = x.block in
      (tt, lit< tt, (tt, lit< tt, (tt, begins-small k.direction (length k.pieces), (tt, begins-small k.direction (length k.pieces), (tt, lit< tt, (tt, lit< tt, (tt, omega (arith, target), (tt, lit< tt, (tt, lit< tt, (tt, omega (arith, p.below), (tt, omega (arith, short), (tt, omega (arith, p.below), (tt, lit< tt, (tt, omega (arith, p.below), tt))))))))))))))

  -- the message and the command lie behind the fields
  n-tabled : (a : ℕ) → a + 4 ≤ k.block + 0xE0 → n a ≡ word_at tabled a
  n-tabled a l =
      word_outside (put_bytes tabled (k.block + 0xE0) (message_bytes u k)) (k.block + 0xF0) a cdb (inl (omega (arith, l)))
      ∙ word_outside tabled (k.block + 0xE0) a (message_bytes u k) (inl (omega (arith, l)))

  pub segments-fitted : AllFit (segment_fields (16 - length k.pieces) k.pieces)
  segments-fitted = segments-fit (16 - length k.pieces) k.pieces (omega (arith, x.few)) fit

  room : k.block + 0x100 ≤ 0x400000
  room = let p = x.block in omega (arith, p.below)

  -- one of the first fourteen fields
  pub reads : (i : ℕ) → i < 14 → offset (nth (head u k (length cdb)) i).0 + 4 ≤ 0x40 → n (k.block + offset (nth (head u k (length cdb)) i).0) ≡ (nth (head u k (length cdb)) i).1
  reads i l low =
      n-tabled (k.block + offset (nth (head u k (length cdb)) i).0) (omega (arith, low))
      ∙ with_fields-other headed k.block (segment_fields (16 - length k.pieces) k.pieces) (k.block + offset (nth (head u k (length cdb)) i).0) (omega (arith, size-headed, room)) segments-fitted
      (below-segments k.block (16 - length k.pieces) (k.block + offset (nth (head u k (length cdb)) i).0) k.pieces (omega (arith, low)))
      ∙ with_fields-same cleared k.block (head u k (length cdb)) i (omega (arith, room, length-put_bytes m k.block (replicate 0x200 0), s)) head-fits refl l

  segment-is : (i : ℕ) → i < length k.pieces → SegmentIs n k.block (16 - length k.pieces + i) (piece k.pieces i)
  segment-is i l =
      let r = segments-read headed k.block (16 - length k.pieces) k.pieces size-headed room (omega (arith, x.few)) fit i l in
      record { count = n-tabled _ (omega (arith, l, x.few)) ∙ r.count; address = n-tabled _ (omega (arith, l, x.few)) ∙ r.address }

  -- the returns of the contexts are 0
  return-zero : (o : ℕ) → 0xC0 ≤ o → o + 4 ≤ 0xE0 → n (k.block + o) ≡ 0
  return-zero o low high =
      let zeros : List ℕ = replicate 0x200 0 in
      let many : length zeros ≡ 0x200 = length-replicate {A = ℕ} 0x200 0 in
      let inside : (i : ℕ) → i < 4 → slice_index cleared (k.block + (o + i)) ≡ 0 = λ i l. byte_inside m k.block (o + i) zeros (omega (arith, many, s, x.block.below)) (omega (arith, l, high, many)) ∙ zero-bytes 0x200 (o + i) in
      let z : word_at cleared (k.block + o) ≡ 0 =
      (let a0 : k.block + (o + 0) ≡ k.block + o = omega arith in
      let a1 : k.block + (o + 1) ≡ k.block + o + 1 = omega arith in
      let a2 : k.block + (o + 2) ≡ k.block + o + 2 = omega arith in
      let a3 : k.block + (o + 3) ≡ k.block + o + 3 = omega arith in
      let e0 = ap (λ (y : ℕ). get_or cleared y 0) (sym a0) ∙ inside 0 (omega arith) in
      let e1 = ap (λ (y : ℕ). get_or cleared y 0) (sym a1) ∙ inside 1 (omega arith) in
      let e2 = ap (λ (y : ℕ). get_or cleared y 0) (sym a2) ∙ inside 2 (omega arith) in
      let e3 = ap (λ (y : ℕ). get_or cleared y 0) (sym a3) ∙ inside 3 (omega arith) in
      omega (arith, word_at-plus cleared (k.block + o), e0, e1, e2, e3)) in
      n-tabled (k.block + o) (omega (arith, high))
      ∙ with_fields-other headed k.block (segment_fields (16 - length k.pieces) k.pieces) (k.block + o) (omega (arith, size-headed, room)) segments-fitted (above-segments k.block (16 - length k.pieces) (k.block + o) k.pieces (omega (arith, x.few)) (omega (arith, low)))
      ∙ with_fields-other cleared k.block (head u k (length cdb)) (k.block + o) (omega (arith, room, length-put_bytes m k.block (replicate 0x200 0), s)) head-fits
      (omega (arith, low), (omega (arith, low), (omega (arith, low), (omega (arith, low), (omega (arith, low), (omega (arith, low), (omega (arith, low), (omega (arith, low), (omega (arith, low), (omega (arith, low), (omega (arith, low), (omega (arith, low), (omega (arith, low), (omega (arith, low), tt))))))))))))))
      ∙ z

  points : IsPointer n k.block (way (fixed_of k)) (goal (fixed_of k)) (begins_at k)
  points = rw x.unchecked (begins n k.block k.pieces x.few fit x.filled segment-is k.direction x.some)

  pub built : IsBlock n Built (fixed_of k) u.target
  built =
      let zero-first : field n k.block (CtxReturn 0) ≡ 0 = return-zero 0xC8 (omega arith) (omega arith) in
      let zero-second : field n k.block (CtxReturn 1) ≡ 0 = return-zero 0xD8 (omega arith) (omega arith) in
      record {
        start = inl (reads 0 (omega arith) (omega arith));
        restart = inl (reads 1 (omega arith) (omega arith));
        last = subst (IsPointer n k.block (way (fixed_of k)) (goal (fixed_of k))) (sym (reads 2 (omega arith) (omega arith))) points;
        saved = subst (IsPointer n k.block (way (fixed_of k)) (goal (fixed_of k))) (sym (reads 3 (omega arith) (omega arith))) points;
        begins = λ e. points;
        sel = reads 6 (omega arith) (omega arith);
        gate = inr (reads 7 (omega arith) (omega arith));
        message = (reads 8 (omega arith) (omega arith), reads 9 (omega arith) (omega arith));
        command = (omega (arith, reads 10 (omega arith) (omega arith), short), reads 11 (omega arith) (omega arith));
        status = (reads 12 (omega arith) (omega arith), reads 13 (omega arith) (omega arith));
        returns = record {
          first = (λ e. omega (arith, e, zero-first), λ e. omega (arith, e, zero-first), λ e. omega (arith, e, zero-first), λ e. omega (arith, e, zero-first));
          second = (λ e. omega (arith, e, zero-second), λ e. omega (arith, e, zero-second), λ e. omega (arith, e, zero-second), λ e. omega (arith, e, zero-second));
        };
      }

pub block_built : BlockBuilt
block_built m u k cdb s x target short = built m u k cdb s x target short
