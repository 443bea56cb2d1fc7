-- What Build makes of memory and of the desk: one ticket more, whose block and buffer alone are written.
use Rattle.std.proofs.Common.{arith, ◌≡◌, ◌≢◌, ◌⊎◌, inl, inr, ⊎_elim, ℕ, zero, suc, ◌+◌, ◌-◌, ◌/◌, ◌<◌, ◌≤◌, ◌==◌, ◌||◌, ◌&&◌, Bool, true, false, not, List, [], ◌∷◌, ◌++◌, map, zip, length, replicate, take, drop, Option, None, nat_lt, refl, sym, ap, subst, ◌∙◌, get_or, length-append, length-take}
use Rattle.std.specs.Prelude.{if◌then◌else◌, find}
use Rattle.std.specs.List.{list_any}
use Rattle.std.specs.Option.{option_map}
use Rattle.std.proofs.lemmas.Bool.{cases_lt}
use Rattle.std.proofs.lemmas.Bool.Decides.{nat_tests}
use Rattle.std.proofs.lemmas.List.{get_or_past, get_or-drop, get_or-take, length-replicate, get_or-append-add}
use Rattle.std.proofs.Math.ListN.{get_or-append}
use Rattle.std.proofs.lemmas.List.Folds.{list_any_at}
use Rattle.bench_words.specs.Memory.{word_at, put_word, put_bytes}
use Rattle.bench_words.specs.Bytes.{IsBytes}
use Rattle.bench_words.specs.Views.{Outside}
use Rattle.bench_words.proofs.Bytes.{bytes-cons, bytes-nil, bytes-put_bytes, bytes-put_word}
use Rattle.bench_words.proofs.MemoryLaws.{length-put_bytes, word_outside}
use Rattle.rig_types.specs.declared.rig.Unit.{Unit as RigUnit}
use Rattle.rig_types.specs.Ranges.{IsRig, IsInRange}
use Rattle.scsi_words.specs.declared.phases.kinds.Direction.{Direction}
use Rattle.scsi_words.specs.declared.phases.kinds.Direction.TheVariants as direction
use Rattle.rig_types.specs.declared.step.Line.{Line}
use Rattle.unit_law.specs.Request.{RequestData}
use Rattle.cmd_block.specs.Block.{offset}
use Rattle.cmd_block.specs.declared.Field.{Field}
use Rattle.cdb_codec.specs.Blocks.{length_of}
use Rattle.target_law.specs.Calls.{is_whole}
use Rattle.sense_job.specs.Turning.{with_fields}
use Rattle.sense_job.proofs.FieldLists.{AllApart, nth, length-with_fields, with_fields-other}
use Rattle.dma_buddy.specs.declared.buddies.Chunk.{Chunk}
use Rattle.dma_buddy.specs.Regions.{Space, TakesAll}
use Rattle.dma_buddy.proofs.Sizes.{size-most}
use Rattle.desk_law.specs.declared.refused.Kind.{Kind}
use Rattle.desk_law.specs.declared.refused.Kind.TheVariants.{NoUnit}
use Rattle.desk_law.specs.declared.stage.Stage.{Stage}
use Rattle.desk_law.specs.declared.stage.Stage.TheVariants.{Built}
use Rattle.desk_law.specs.declared.ticket.Piece.{Piece}
use Rattle.desk_law.specs.declared.ticket.Ticket.{Ticket}
use Rattle.desk_law.specs.Desk.{DeskState, ticket, unit, no_ticket, no_unit, lives}
use Rattle.desk_law.specs.Refusals.{faults, has_no_data}
use Rattle.desk_law.specs.Blocks.{segment_fields, message_bytes, with_block, with_buffer}
use Rattle.desk_law.specs.Building.{Builds, piece, new_ticket}
use Rattle.world_law.specs.World.{World}
use Rattle.word_owners.specs.Tickets.{Fixed, tickets_of, fixed_of, block_of, target_of, IsAskedFor, AreChecked}
use Rattle.word_owners.specs.Parts.{IsBlock}
use Rattle.word_owners.specs.Spaces.{no_piece, piece_at, IsPiece}
use Rattle.word_owners.specs.BuiltBlocks.{IsNew}
use Rattle.word_owners.specs.BuiltTickets.{AreBuilt}
use Rattle.word_owners.specs.Additions.{IsAdded, AddsTicket}
use Rattle.word_owners.specs.Builds.{IsOfBytes, BuildAdds}
use Rattle.word_owners.proofs.Frames.{same_or, block-frame}
use Rattle.word_owners.proofs.Spaces.{ticket-built}
use Rattle.word_owners.proofs.BuiltBlocks.{head, head-fits, segments-fitted, built, reads, below-segments, above-segments}
use Rattle.word_owners.proofs.BuiltTickets.{tickets_built, has-unit}
use Rattle.word_owners.proofs.FreePlaces.{places_free}

-- ---- the request was sound

abbrev kind_in : List (Bool × Kind) → Option Kind
kind_in fs = option_map (λ (f : Bool × Kind). f.1) (find (λ (f : Bool × Kind). f.0) fs)

fault-first : (b : Bool) (k : Kind) (fs : List (Bool × Kind)) → kind_in ((b, k) ∷ fs) ≡ None → (b ≡ false) × (kind_in fs ≡ None)
fault-first true k fs e = absurd cc
fault-first false k fs e = (refl, e)

no-fault : (fs : List (Bool × Kind)) → kind_in fs ≡ None → (i : ℕ) → (get_or fs i (false, NoUnit)).0 ≡ false
no-fault [] e i = refl
no-fault ((b, k) ∷ fs) e zero = (fault-first b k fs e).0
no-fault ((b, k) ∷ fs) e (suc i) = no-fault fs (fault-first b k fs e).1 i

not-false : (b : Bool) → not b ≡ false → b ≡ true
not-false true e = refl
not-false false e = absurd cc

length-code : (a b c : Bool) → (if a || b then 10 else (if c then 12 else 6)) ≤ 12
length-code true b c = omega arith
length-code false true c = omega arith
length-code false false true = omega arith
length-code false false false = omega arith

whole-short : (cdb : List ℕ) → is_whole cdb ≡ true → length cdb ≤ 12
whole-short [] e = omega arith
whole-short (b ∷ bs) e = let n : length (b ∷ bs) ≡ length_of b = grind (arith, nat_tests, e) in let l = length-code (b / 32 == 1) (b / 32 == 2) (b / 32 == 5) in omega (arith, n, l)

directed : (d : Direction) → d ≢ direction.None → has_no_data d ≡ false
directed direction.In h = refl
directed direction.Out h = refl
directed direction.None h = absurd (h refl)

some-segments : (no : Bool) (n : ℕ) → no ≡ false → not no && (n == 0) ≡ false → 0 < n
some-segments true n f e = absurd cc
some-segments false n f e = grind (arith, nat_tests, e)

-- ---- the pieces

record PiecesAre (ps : List Piece) (lens : List ℕ) : Type 0 where
  count : length ps ≡ length lens
  lens_are : (i : ℕ) → i < length lens → (get_or ps i no_piece).len ≡ get_or lens i 0

pieces-are : (s t : Space) (lens : List ℕ) (cs : List Chunk) → TakesAll s lens cs t → PiecesAre (map piece (zip cs lens)) lens
pieces-are s t [] [] h = record { count = refl; lens_are = λ i l. absurd (omega (arith, l)) }
pieces-are s t [] (c ∷ cs) h = absurd h
pieces-are s t (l ∷ lens) [] h = absurd h
pieces-are s t (l ∷ lens) (c ∷ cs) h =
    let r = pieces-are h.0 t lens cs h.2 in
    record { count = ap suc r.count; lens_are = at r }
  where
    at : PiecesAre (map piece (zip cs lens)) lens → (i : ℕ) → i < suc (length lens) → (get_or (piece (c, l) ∷ map piece (zip cs lens)) i no_piece).len ≡ get_or (l ∷ lens) i 0
    at r zero k = refl
    at r (suc i) k = r.lens_are i (omega (arith, k))

nonzero : (lens : List ℕ) (i : ℕ) → list_any (λ (n : ℕ). n == 0) lens ≡ false → i < length lens → 0 < get_or lens i 0
nonzero lens i e l = by (get_or lens i 0) refl
  where
    by : (n : ℕ) → get_or lens i 0 ≡ n → 0 < get_or lens i 0
    by (suc n) f = omega (arith, f)
    by zero f = (let z : true ≡ false = sym (list_any_at (λ (n : ℕ). n == 0) lens i 0 l (ap (λ (n : ℕ). n == 0) f)) ∙ e in absurd cc)

-- ---- the buffer is written above all blocks

buffer-low : (m : List ℕ) (ps : List Piece) (bytes : List ℕ) (x : ℕ) → x + 4 ≤ 0x200000 → ((i : ℕ) → i < length ps → 0x200000 ≤ (get_or ps i no_piece).chunk.base) → word_at (with_buffer m ps bytes) x ≡ word_at m x
buffer-low m [] bytes x l h = refl
buffer-low m (p ∷ ps) bytes x l h =
    let b : 0x200000 ≤ p.chunk.base = h 0 (omega arith) in
    buffer-low (put_bytes m p.chunk.base (take p.len bytes)) ps (drop p.len bytes) x l (λ i k. h (suc i) (omega (arith, k)))
    ∙ word_outside m p.chunk.base x (take p.len bytes) (inl (omega (arith, b, l)))

buffer-size : (m : List ℕ) (ps : List Piece) (bytes : List ℕ) → length (with_buffer m ps bytes) ≡ length m
buffer-size m [] bytes = refl
buffer-size m (p ∷ ps) bytes = buffer-size (put_bytes m p.chunk.base (take p.len bytes)) ps (drop p.len bytes) ∙ length-put_bytes m p.chunk.base (take p.len bytes)

bytes-drop : (k : ℕ) (bs : List ℕ) → IsBytes bs → IsBytes (drop k bs)
bytes-drop k bs h = record { below = λ i. let e : get_or (drop k bs) i 0 ≡ get_or bs (k + i) 0 = get_or-drop k bs i 0 in omega (arith, e, h.below (k + i)) }

bytes-take : (k : ℕ) (bs : List ℕ) → IsBytes bs → IsBytes (take k bs)
bytes-take k bs h = record { below = λ i. by i (cases_lt i k) }
  where
    by : (i : ℕ) → (i < k) ⊎ (k ≤ i) → get_or (take k bs) i 0 < 256
    by i (inl l) = let e : get_or (take k bs) i 0 ≡ get_or bs i 0 = get_or-take k bs i 0 l in omega (arith, e, h.below i)
    by i (inr l) = let e : get_or (take k bs) i 0 ≡ 0 = get_or_past (take k bs) i 0 (omega (arith, l, length-take k bs)) in omega (arith, e)

buffer-bytes : (m : List ℕ) (ps : List Piece) (bytes : List ℕ) → IsBytes m → IsBytes bytes → IsBytes (with_buffer m ps bytes)
buffer-bytes m [] bytes h t = h
buffer-bytes m (p ∷ ps) bytes h t = buffer-bytes (put_bytes m p.chunk.base (take p.len bytes)) ps (drop p.len bytes) (bytes-put_bytes m p.chunk.base (take p.len bytes) h (bytes-take p.len bytes t)) (bytes-drop p.len bytes t)

-- ---- the block

fields-bytes : (m : List ℕ) (b : ℕ) (fs : List (Field × ℕ)) → IsBytes m → IsBytes (with_fields m b fs)
fields-bytes m b [] h = h
fields-bytes m b (f ∷ fs) h = fields-bytes (put_word m (b + offset f.0) f.1) b fs (bytes-put_word m (b + offset f.0) f.1 h)

zeros-bytes : (n : ℕ) → IsBytes (replicate n 0)
zeros-bytes zero = bytes-nil
zeros-bytes (suc n) = bytes-cons 0 (replicate n 0) (omega arith) (zeros-bytes n)

beside-block : (x b : ℕ) → Outside x b (b + 0x200) → (x + 4 ≤ b) ⊎ (b + 0x200 ≤ x)
beside-block x b h = grind arith

module _ (m : List ℕ) (u : RigUnit) (k : Ticket) (cdb : List ℕ) (s : length m ≡ 0x400000) (x : IsNew k) (target : u.target < 8) (short : length cdb ≤ 12) where
  abbrev cleared : List ℕ
  cleared = put_bytes m k.block (replicate 0x200 0)

  abbrev headed : List ℕ
  headed = with_fields cleared k.block (head u k (length cdb))

  abbrev tabled : List ℕ
  tabled = with_fields headed k.block (segment_fields (16 - length k.pieces) k.pieces)

  pub block-size : length (with_block m u k cdb) ≡ 0x400000
  block-size =
      length-put_bytes (put_bytes tabled (k.block + 0xE0) (message_bytes u k)) (k.block + 0xF0) cdb ∙ length-put_bytes tabled (k.block + 0xE0) (message_bytes u k) ∙ length-with_fields headed k.block (segment_fields (16 - length k.pieces) k.pieces)
      ∙ length-with_fields cleared k.block (head u k (length cdb)) ∙ length-put_bytes m k.block (replicate 0x200 0) ∙ s

  block-bytes : u.lun < 8 → k.tag < 256 → IsBytes m → IsBytes cdb → IsBytes (with_block m u k cdb)
  block-bytes lun tag h t =
      bytes-put_bytes (put_bytes tabled (k.block + 0xE0) (message_bytes u k)) (k.block + 0xF0) cdb
      (bytes-put_bytes tabled (k.block + 0xE0) (message_bytes u k)
      (fields-bytes headed k.block (segment_fields (16 - length k.pieces) k.pieces) (fields-bytes cleared k.block (head u k (length cdb)) (bytes-put_bytes m k.block (replicate 0x200 0) h (zeros-bytes 0x200))))
      (bytes-cons (0x80 + 0x40 + u.lun) (0x20 ∷ k.tag ∷ []) (omega (arith, lun)) (bytes-cons 0x20 (k.tag ∷ []) (omega arith) (bytes-cons k.tag [] tag bytes-nil)))) t

  block-outside : (a : ℕ) → Outside a k.block (k.block + 0x200) → word_at (with_block m u k cdb) a ≡ word_at m a
  block-outside a o =
      let q = beside-block a k.block o in
      let zeros : List ℕ = replicate 0x200 0 in
      let z : length zeros ≡ 0x200 = length-replicate {A = ℕ} 0x200 0 in
      let p = x.block in
      let cleared-size : length cleared ≡ 0x400000 = length-put_bytes m k.block (replicate 0x200 0) ∙ s in
      let headed-size : length headed ≡ 0x400000 = length-with_fields cleared k.block (head u k (length cdb)) ∙ cleared-size in
      word_outside (put_bytes tabled (k.block + 0xE0) (message_bytes u k)) (k.block + 0xF0) a cdb (⊎_elim (λ l. inl (omega (arith, l))) (λ r. inr (omega (arith, r, short))) q)
      ∙ word_outside tabled (k.block + 0xE0) a (message_bytes u k) (⊎_elim (λ l. inl (omega (arith, l))) (λ r. inr (omega (arith, r))) q)
      ∙ with_fields-other headed k.block (segment_fields (16 - length k.pieces) k.pieces) a (omega (arith, headed-size, p.below)) (segments-fitted m u k cdb s x target short)
      (⊎_elim (λ l. below-segments k.block (16 - length k.pieces) a k.pieces (omega (arith, l))) (λ r. above-segments k.block (16 - length k.pieces) a k.pieces (omega (arith, x.few)) (omega (arith, r))) q)
      ∙ with_fields-other cleared k.block (head u k (length cdb)) a (omega (arith, cleared-size, p.below)) (head-fits m u k cdb s x target short) (head-apart a q)
      ∙ word_outside m k.block a zeros (⊎_elim (λ l. inl (omega (arith, l))) (λ r. inr (omega (arith, r, z))) q)
    where
      head-apart : (a : ℕ) → (a + 4 ≤ k.block) ⊎ (k.block + 0x200 ≤ a) → AllApart k.block (head u k (length cdb)) a
      head-apart a (inl l) = (omega (arith, l), (omega (arith, l), (omega (arith, l), (omega (arith, l), (omega (arith, l), (omega (arith, l), (omega (arith, l), (omega (arith, l), (omega (arith, l), (omega (arith, l), (omega (arith, l), (omega (arith, l), (omega (arith, l), (omega (arith, l), tt))))))))))))))
      head-apart a (inr l) = (omega (arith, l), (omega (arith, l), (omega (arith, l), (omega (arith, l), (omega (arith, l), (omega (arith, l), (omega (arith, l), (omega (arith, l), (omega (arith, l), (omega (arith, l), (omega (arith, l), (omega (arith, l), (omega (arith, l), (omega (arith, l), tt))))))))))))))

-- ---- Build

module _ (retries step_limit : ℕ) (w : World) (desk : DeskState) (m : List ℕ) (l : Line) (r : RequestData) (t : ℕ) (rig : IsRig w.desk.version w.desk.units retries step_limit) (fit : IsOfBytes r) (size : length w.memory ≡ 0x400000) (bytes : IsBytes w.memory) (checked : AreChecked w.desk)
    (h : AreBuilt w.desk) (b : Builds w.desk w.memory l r t desk m) where
  abbrev k : Ticket
  k = new_ticket w.desk l r b.chunks

  abbrev d : DeskState
  d = w.desk

  after : AreBuilt desk
  after = tickets_built retries step_limit w.desk desk w.memory m l r t rig b h

  tickets : desk.tickets ≡ d.tickets ++ k ∷ []
  tickets = ap (λ (x : DeskState). x.tickets) b.desk

  inside : r.unit < length d.units
  inside = has-unit d r b.sound

  pub here : ticket desk t ≡ k
  here =
      let e : ticket desk t ≡ get_or (d.tickets ++ k ∷ []) t no_ticket = ap (λ (ts : List Ticket). get_or ts t no_ticket) tickets in
      elim (ticket-built d.tickets k t) [
        | inl x ↦ absurd (omega (arith, x.0, b.numbered))
        | inr (inl x) ↦ e ∙ x.1
        | inr (inr x) ↦ e ∙ found
      ]
    where
      found : get_or (d.tickets ++ k ∷ []) t no_ticket ≡ k
      found = let z : length d.tickets + 0 ≡ t = omega (arith, b.numbered) in ap (λ (i : ℕ). get_or (d.tickets ++ k ∷ []) i no_ticket) (sym z) ∙ get_or-append-add d.tickets (k ∷ []) 0 no_ticket

  was-none : ticket d t ≡ no_ticket
  was-none = get_or_past d.tickets t no_ticket (omega (arith, b.numbered))

  others : (u : ℕ) → u ≢ t → ticket desk u ≡ ticket d u
  others u ne =
      let e : ticket desk u ≡ get_or (d.tickets ++ k ∷ []) u no_ticket = ap (λ (ts : List Ticket). get_or ts u no_ticket) tickets in
      ⊎_elim
      (λ (x : u < length d.tickets). e ∙ get_or-append d.tickets (k ∷ []) no_ticket u x)
      (λ (x : length d.tickets ≤ u).
      let n : length (d.tickets ++ k ∷ []) ≡ length d.tickets + 1 = length-append d.tickets (k ∷ []) in
      e ∙ get_or_past (d.tickets ++ k ∷ []) u no_ticket (omega (arith, n, x, ne, b.numbered)) ∙ sym (get_or_past d.tickets u no_ticket x))
      (cases_lt u (length d.tickets))

  -- ---- the ticket is one that a block may be written for

  fault-free : (i : ℕ) → (get_or (faults d.units r) i (false, NoUnit)).0 ≡ false
  fault-free i = no-fault (faults d.units r) b.sound i

  pieces : PiecesAre k.pieces r.segments
  pieces = pieces-are d.space desk.space r.segments b.chunks b.takes

  owned : (i : ℕ) → i < length k.pieces → (piece_at desk t i ≡ get_or k.pieces i no_piece) × IsPiece desk t i
  owned i l = (ap (λ (x : Ticket). get_or x.pieces i no_piece) here, (ap lives here, subst (λ (x : Ticket). i < length x.pieces) (sym here) l))

  few-segments : length r.segments ≤ 16
  few-segments = let e : nat_lt 16 (length r.segments) ≡ false = fault-free 2 in grind (arith, nat_tests, e)

  pub is-new : IsNew k
  is-new =
      let x = tickets_built retries step_limit d desk w.memory m l r t rig b h in
      let f = places_free retries step_limit d r.unit rig h.depths inside b.not_full in
      record {
        block = f.block;
        unchecked = refl;
        few = omega (arith, pieces.count, few-segments);
        some = λ n. omega (arith, pieces.count, some-segments (has_no_data r.direction) (length r.segments) (directed r.direction n) (fault-free 3));
        filled = λ i j. (let z = nonzero r.segments i (fault-free 4) (omega (arith, j, pieces.count)) in omega (arith, z, pieces.lens_are i (omega (arith, j, pieces.count))));
        counted = λ i j.
            let o = owned i j in
            let y = after.space.fits t i o.1 in
            let s = size-most (piece_at desk t i).chunk.size (after.space.out t i o.1).chunk.chunk.size in
            let e = ap (λ (q : Piece). q.len) o.0 in
            omega (arith, y, s, e);
        placed = λ i j.
            let o = owned i j in
            let c = (after.space.out t i o.1).chunk in
            let e = ap (λ (q : Piece). q.chunk.base) o.0 in
            omega (arith, c.to, e, after.space.base, after.space.units);
      }

  pub above : (i : ℕ) → i < length k.pieces → 0x200000 ≤ (get_or k.pieces i no_piece).chunk.base
  above i j =
      let o = owned i j in
      let c = (after.space.out t i o.1).chunk in
      let e = ap (λ (q : Piece). q.chunk.base) o.0 in
      omega (arith, c.from, e, after.space.base)

  -- ---- memory

  abbrev u : RigUnit
  u = unit d r.unit

  in-range : IsInRange d.version u
  in-range = (rig.in_range r.unit no_unit inside).in_range

  pub short : length r.cdb ≤ 12
  short = whole-short r.cdb (not-false (is_whole r.cdb) (fault-free 1))

  abbrev blocked : List ℕ
  blocked = with_block w.memory u k r.cdb

  pub low : (x : ℕ) → x + 4 ≤ 0x200000 → word_at m x ≡ word_at blocked x
  low x j = ap (λ (y : List ℕ). word_at y x) b.wrote ∙ buffer-low blocked k.pieces r.bytes x j above

  pub target-low : u.target < 8
  target-low = omega (arith, in-range.target)

  block-here : IsBlock (word_at m) Built (fixed_of k) u.target
  block-here =
      let p = is-new.block in
      block-frame (word_at blocked) (word_at m) Built (fixed_of k) u.target (λ x j z. low x (omega (arith, z, p.below))) (λ x j z. low x (omega (arith, z, p.below)))
      (built w.memory u k r.cdb size is-new target-low short)

  pub reads-low : (i : ℕ) → i < 14 → offset (nth (head u k (length r.cdb)) i).0 + 4 ≤ 0x40 → word_at m (k.block + offset (nth (head u k (length r.cdb)) i).0) ≡ (nth (head u k (length r.cdb)) i).1
  reads-low i j z = let p = is-new.block in low (k.block + offset (nth (head u k (length r.cdb)) i).0) (omega (arith, z, p.below)) ∙ reads w.memory u k r.cdb size is-new target-low short i j z

  pub units-same : desk.units ≡ d.units
  units-same = ap (λ (x : DeskState). x.units) b.desk

  fixed-here : (tickets_of desk).fixed t ≡ fixed_of k
  fixed-here = ap fixed_of here

  block-at : block_of (tickets_of desk) t ≡ k.block
  block-at = ap (λ (x : Ticket). x.block) here

  target-at : target_of (tickets_of desk) t ≡ u.target
  target-at = ap (λ (us : List RigUnit). (get_or us ((ticket desk t).unit) no_unit).target) units-same ∙ ap (λ (x : Ticket). (get_or d.units x.unit no_unit).target) here

  is-added : IsAdded (word_at w.memory) (word_at m) (tickets_of d) (tickets_of desk) t
  is-added = record {
    units = units-same;
    was = ap (λ (x : Ticket). x.stage) was-none;
    stage = ap (λ (x : Ticket). x.stage) here;
    stages = λ v ne. ap (λ (x : Ticket). x.stage) (others v ne);
    fixeds = λ v ne. ap fixed_of (others v ne);
    tickets = after.tickets;
    outside = λ x j o.
        let z : Outside x k.block (k.block + 0x200) = subst (λ (y : ℕ). Outside x y (y + 0x200)) block-at o in
        low x j ∙ block-outside w.memory u k r.cdb size is-new target-low short x z;
    block = subst (λ (f : Fixed). IsBlock (word_at m) Built f (target_of (tickets_of desk) t)) (sym fixed-here) (subst (IsBlock (word_at m) Built (fixed_of k)) (sym target-at) block-here);
    live = ap (λ (y : ℕ). word_at m (y + 0x10)) block-at ∙ reads-low 4 (omega arith) (omega arith);
    gate = ap (λ (y : ℕ). word_at m (y + 0x1C)) block-at ∙ reads-low 7 (omega arith) (omega arith);
  }

  pub adds : AddsTicket w m desk t
  adds =
      let f = places_free retries step_limit d r.unit rig h.depths inside b.not_full in
      record {
        added = is-added;
        size = ap (λ (y : List ℕ). length y) b.wrote ∙ buffer-size blocked k.pieces r.bytes ∙ block-size w.memory u k r.cdb size is-new target-low short ∙ sym size;
        bytes = subst IsBytes (sym b.wrote) (buffer-bytes blocked k.pieces r.bytes (block-bytes w.memory u k r.cdb size is-new target-low short (omega (arith, in-range.lun)) f.tag bytes fit.cdb) fit.data_bytes);
        version = ap (λ (x : DeskState). x.version) b.desk;
        put = ap (λ (x : DeskState). x.put) b.desk;
        take = ap (λ (x : DeskState). x.take) b.desk;
        checked = λ v a. elim (same_or v t) [
          | inl e ↦ absurd (not-asked (subst (λ (s : Stage). IsAskedFor s) (ap (λ (i : ℕ). (ticket desk i).stage) e ∙ ap (λ (x : Ticket). x.stage) here) a))
          | inr e ↦ ap (λ (x : Ticket). x.checked) (others v e) ∙ checked v (subst (λ (x : Ticket). IsAskedFor x.stage) (others v e) a)
        ];
      }
    where
      not-asked : IsAskedFor Built → ⊥
      not-asked (inl e) = cc
      not-asked (inr e) = cc

pub build_adds : BuildAdds
build_adds retries step_limit w desk m l r t rig fit size bytes checked h b = adds retries step_limit w desk m l r t rig fit size bytes checked h b
