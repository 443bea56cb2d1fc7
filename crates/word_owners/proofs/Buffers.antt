-- What a ticket moves lies in its own buffer: its data pointers, and the bytes of a data move.
use Rattle.std.proofs.Common.{◌≡◌, ◌≢◌, ◌⊎◌, inl, inr, ℕ, ◌+◌, ◌-◌, ◌<◌, ◌≤◌, List, [], length, slice_index, Bool, true, false, refl, sym, ap, subst, ◌∙◌, arith, Option, Some, None}
use Rattle.std.specs.Prelude.{if◌then◌else◌}
use Rattle.std.proofs.lemmas.List.FromFn.{get_or-range_with_len, length-range_with_len}
use Rattle.bench_words.specs.Memory.{word_at}
use Rattle.scsi_words.specs.declared.phases.kinds.Direction.{Direction}
use Rattle.sense_job.specs.Turning.{sense_area}
use Rattle.phase_fix.specs.Moves.{move_at}
use Rattle.phase_fix.specs.Remain.{count_of, address_of, remain}
use Rattle.host_map.specs.Places.{IsCommandBlock}
use Rattle.world_law.specs.World.{World}
use Rattle.word_owners.specs.Tickets.{Fixed, Tickets, tickets_of, block_of, target_of, goal, IsLive, AreTickets}
use Rattle.word_owners.specs.Pointers.{IsSuffix, IsPointer}
use Rattle.word_owners.specs.Buffers.{IsOwn, PointersStayInBuffers, DataStayInBuffers, BuffersApart}
use Rattle.word_owners.proofs.Suffixes.{InGoal}
use Rattle.word_owners.proofs.BlockMoves.{Filled, refused, broke, whole}
use Rattle.word_owners.proofs.DataMoves.{alive, goes, moved}

-- ---- the data pointers

nothing-left : (xs : List ℕ) → IsSuffix [] xs
nothing-left xs = record { from = length xs; within = omega arith; at = λ i l. absurd (omega (arith, l)) }

at-over : move_at 0x2B8 ≡ None
unfolding move_at
at-over = refl

denotes : (w : ℕ → ℕ) (b : ℕ) (d : Direction) (xs : List ℕ) (p : ℕ) → IsPointer w b d xs p → IsSuffix (remain w b p) xs
denotes w b d xs p (inl e) = rw (e, at-over) (nothing-left xs)
denotes w b d xs p (inr g) = g.1.rest

pub pointers_stay : PointersStayInBuffers
pointers_stay version units s c w t h l =
    let b = h.parts.blocks t l in
    record { last = denotes _ _ _ _ _ b.last; saved = denotes _ _ _ _ _ b.saved; last_moves = b.last; saved_moves = b.saved }

-- ---- the data

in_range : (i a n : ℕ) → (i < a) ⊎ (a + n ≤ i) ⊎ ((a ≤ i) × (i < a + n))
in_range i a n = grind arith

there : (o : Option ℕ) (v : ℕ) → (o ≡ Some v) ⊎ (o ≡ None) → o ≢ None → o ≡ Some v
there o v (inl h) n = h
there o v (inr h) n = absurd (n h)

own-at : (f : Fixed) (a n i : ℕ) → InGoal (goal f) a n → a ≤ i → i < a + n → IsOwn f i
own-at f a n i g l u = let e : a + (i - a) ≡ i = omega (arith, l) in (g.from + (i - a), omega (arith, l, u, g.within), g.at (i - a) (omega (arith, l, u)) ∙ e)

pub data_stay : DataStayInBuffers
data_stay version units t x c w new word answer s h =
    let ts = tickets_of w.desk in
    let v = word_at w.memory in
    let b = block_of ts t in
    let n = count_of v b x.entry in
    let a = address_of v b x.entry in
    let g = goes version units t x.phase x.entry c w new word answer s h in
    let memory : new.memory ≡ s.chip.memory = ap (λ (i : World). i.memory) s.world in
    let fits : (k : ℕ) → k ≤ n → Filled a (a + k) w.memory s.chip.memory → (0 < k → w.bus.connected ≢ None) → (i : ℕ) → slice_index new.memory i ≢ slice_index w.memory i → IsOwn (ts.fixed t) i × (w.bus.connected ≡ Some (target_of ts t)) =
    λ k m f q i ne.
    let same : slice_index new.memory i ≡ slice_index s.chip.memory i = ap (λ (j : List ℕ). slice_index j i) memory in
    elim (in_range i a k) [
      | inl u ↦ absurd (ne (same ∙ f.other i (inl u)))
      | inr (inl u) ↦ absurd (ne (same ∙ f.other i (inr u)))
      | inr (inr u) ↦ (own-at (ts.fixed t) a n i g u.0 (omega (arith, u, m)), there w.bus.connected (target_of ts t) h.linked (q (omega (arith, u))))
    ] in
    record {
      live = alive version units t x.phase x.entry c w new word answer s h;
      dsa = h.stays.4.dsa;
      entry = λ i. subst (λ (d : ℕ). address_of v d x.entry ≤ i → i < address_of v d x.entry + count_of v d x.entry → IsOwn (ts.fixed t) i) (sym h.stays.4.dsa) (own-at (ts.fixed t) a n i g);
      changes = elim (moved version units t x.phase x.entry c w new word answer s h) [
        | refused cause k end m ↦ λ i ne. absurd (ne (ap (λ (j : List ℕ). slice_index j i) (memory ∙ m)))
        | broke left o l k f end dbc dsp dsa still q ↦ fits (n - left) (omega arith) f (λ z. q (omega arith))
        | whole k f end dsp dsa still q ↦ fits n (omega arith) f (λ z. q)
      ];
    }

-- ---- two tickets

module _ (ts : Tickets) (d : AreTickets ts) where
  -- the buffer region lies above all blocks
  own-below : (turned : Bool) (b i a : ℕ) (own : List ℕ) → IsCommandBlock b → i < length (if turned then sense_area b else own) → slice_index (if turned then sense_area b else own) i ≡ a
      → ((turned ≡ true) × ((b + 0x100 ≤ a) × (a < b + 0x112))) ⊎ ((turned ≡ false) × ((i < length own) × (slice_index own i ≡ a)))
  own-below false b i a own p l e = inr (refl, (l, e))
  own-below true b i a own p l e =
      let n : length (sense_area b) ≡ 18 = length-range_with_len (b + 0x100) 18 in
      let at : slice_index (sense_area b) i ≡ b + 0x100 + i = get_or-range_with_len (b + 0x100) 18 i 0 (omega (arith, l)) in
      inl (refl, (omega (arith, at, e), omega (arith, at, e, l, n)))

  pub goals-apart : (t u a : ℕ) → IsLive (ts.stage t) → IsLive (ts.stage u) → t ≢ u → IsOwn (ts.fixed t) a → IsOwn (ts.fixed u) a → ⊥
  goals-apart t u a l m ne x y =
      let p = d.block t l in
      let q = d.block u m in
      elim (own-below (ts.fixed t).turned (block_of ts t) x.0 a (ts.fixed t).own p x.1 x.2) [
        | inl f ↦ elim (own-below (ts.fixed u).turned (block_of ts u) y.0 a (ts.fixed u).own q y.1 y.2) [
          | inl g ↦ d.blocks t u l m ne (let e : block_of ts t ≡ block_of ts u = omega (arith, f.1, g.1, p.aligned, q.aligned) in e)
          | inr g ↦ let z = d.within u y.0 m g.1.0 in absurd (omega (arith, f.1, g.1.1, z, p.below))
        ]
        | inr f ↦ elim (own-below (ts.fixed u).turned (block_of ts u) y.0 a (ts.fixed u).own q y.1 y.2) [
          | inl g ↦ let z = d.within t x.0 l f.1.0 in absurd (omega (arith, g.1, f.1.1, z, q.below))
          | inr g ↦ d.apart t u x.0 y.0 l m ne f.1.0 g.1.0 (f.1.1 ∙ sym g.1.1)
        ]
      ]

pub buffers_apart : BuffersApart
buffers_apart version units s c w t u a h l m ne x y = goals-apart (tickets_of w.desk) h.tickets t u a l m ne x y
