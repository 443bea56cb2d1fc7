-- Sense keeps the invariant: the block of a ticket in Check becomes a REQUEST SENSE, and FRONT has it.
use Rattle.std.proofs.Common.{◌≡◌, ◌≢◌, ◌⊎◌, inl, inr, ℕ, ◌+◌, ◌*◌, ◌<◌, ◌≤◌, List, [], ◌∷◌, length, slice_index, Bool, true, refl, sym, ap, subst, ◌∙◌, arith, Option, Some}
use Rattle.std.specs.Prelude.{◌&&◌, slice_set, slice_index_or}
use Rattle.std.proofs.lemmas.Bool.{false≢true}
use Rattle.std.proofs.lemmas.List.{get_or-set_same, get_or-set_other}
use Rattle.bench_words.specs.Memory.{word_at, put_word}
use Rattle.bench_words.specs.Bytes.{IsBytes}
use Rattle.bench_words.specs.Views.{Apart, Outside, Wrote}
use Rattle.bench_words.proofs.Bytes.{bytes-put_word, bytes-put_bytes, bytes-cons, bytes-nil}
use Rattle.bench_words.proofs.MemoryLaws.{length-put_word, length-put_bytes, wrote-put_word}
use Rattle.scsi_words.specs.declared.phases.kinds.Direction.TheVariants as direction
use Rattle.host_map.specs.declared.TheConstants.{FRONT}
use Rattle.host_map.specs.Places.{start_slot, done_slot, tag_entry}
use Rattle.cmd_block.specs.Block.{offset}
use Rattle.cmd_block.specs.declared.Field.{Field}
use Rattle.cmd_block.specs.declared.Field.TheVariants.{State, Gate}
use Rattle.cmd_block.specs.declared.TheConstants.{CDB}
use Rattle.phase_fix.specs.declared.moves.DataPhase.TheVariants.{In}
use Rattle.phase_fix.specs.declared.moves.Entry.TheVariants.{Segment}
use Rattle.phase_fix.specs.Moves.{move_at}
use Rattle.phase_fix.specs.Remain.{field, count_of, segments_from}
use Rattle.phase_fix.proofs.MoveLaws.{move-place}
use Rattle.sense_job.specs.Turning.{sense_area, with_fields, sense_fields, request_sense, turned, Turned}
use Rattle.sense_job.proofs.FieldLists.{length-with_fields}
use Rattle.sense_job.proofs.TurningLaws.{turned_is, pointer-denotes}
use Rattle.desk_law.specs.declared.stage.Stage.{Stage}
use Rattle.desk_law.specs.declared.stage.Stage.TheVariants as stage
use Rattle.desk_law.specs.declared.ticket.Ticket.{Ticket}
use Rattle.desk_law.specs.Desk.{ticket, no_ticket}
use Rattle.desk_law.specs.Calls.{senses}
use Rattle.world_law.specs.declared.reply.Stop.{Stop}
use Rattle.world_law.specs.declared.reply.Stop.TheVariants as stop
use Rattle.word_owners.specs.Tickets.{Fixed, Tickets, tickets_of, fixed_of, block_of, target_of, goal, way, IsLive, IsActive, IsBound, IsTurned, AreTickets}
use Rattle.word_owners.specs.Pointers.{IsSuffix, Names, IsPointer, AreFilled, IsWay, move_place}
use Rattle.word_owners.specs.Points.{Work, Entering, Selected, Ending, Carrying, Moving, Behind, Returning, Naming, ChoosingTarget, Finding, Listed, Tagged, InTable, Offset, Candidate, Saved}
use Rattle.word_owners.specs.Parts.{Counts, Parts, TagTables, Waits, IsBegun, IsOver, IsEntry, IsBlock, NotStarting, MayWork, HasAnswered, IsFresh}
use Rattle.word_owners.specs.Works.{Role, Nothing, First, Asked, Working, Closing, Done, role, worker, Plays, Extra, Works}
use Rattle.word_owners.specs.Holds.{Spot, Mismatched, ResetAt, Stays, HoldsFor, closing_at, work_at, link_at}
use Rattle.word_owners.specs.Laws.{SenseHolds}
use Rattle.word_owners.proofs.Frames.{Same, same_or, active-live, other-block, loaded-frame, chains-frame, constants-frame, fixed-frame, block-frame, segments-same, filled-frame, names-frame, pointer-frame}
use Rattle.word_owners.proofs.StageChanges.{Aside, aside, Turns, live-before, worker-active}
use Rattle.word_owners.proofs.Lists.{desk-turns, desk-checked, live-within}
use Rattle.word_owners.proofs.ChipPlace.{SameBlock, SameEntries, stays-same, linked-same}
use Rattle.word_owners.proofs.Patches.{few, idle-gate}
use Rattle.chip_regs.specs.declared.registers.Regs.{Regs}

-- the tickets with these flags and stages
abbrev retold : Tickets → (ℕ → Bool) → (ℕ → Stage) → Tickets
retold ts flags stages = record { units = ts.units; fixed = λ u. record (ts.fixed u) { turned = flags u }; stage = stages }

-- ---- memory

bytes-with_fields : (m : List ℕ) (b : ℕ) (fs : List (Field × ℕ)) → IsBytes m → IsBytes (with_fields m b fs)
bytes-with_fields m b [] h = h
bytes-with_fields m b (f ∷ fs) h = bytes-with_fields (put_word m (b + offset f.0) f.1) b fs (bytes-put_word m (b + offset f.0) f.1 h)

bytes-request : IsBytes request_sense
bytes-request = bytes-cons 3 _ (omega arith) (bytes-cons 0 _ (omega arith) (bytes-cons 0 _ (omega arith) (bytes-cons 0 _ (omega arith) (bytes-cons 0x12 _ (omega arith) (bytes-cons 0 _ (omega arith) bytes-nil)))))

whole-suffix : (xs : List ℕ) → IsSuffix xs xs
whole-suffix xs = record { from = 0; within = omega arith; at = λ i l. (let e : i ≡ 0 + i = omega arith in ap (slice_index xs) e) }

-- the one data move of a turned block
sense-names : (v n : ℕ → ℕ) (b p : ℕ) → Turned v n b → p ≡ 0x2C0 + 8 * 15 → Names n b direction.In (sense_area b) p (record { phase = In; entry = Segment 15 })
sense-names v n b p m e = record {
  at = ap move_at e ∙ move-place (record { phase = In; entry = Segment 15 }) (omega arith);
  rest = subst (λ (i : List ℕ). IsSuffix i (sense_area b)) (sym (pointer-denotes v n b p m e)) (whole-suffix (sense_area b));
  follows = λ i l u z. (
      let q : i ≡ 15 = omega arith in
      let f : count_of n b (Segment 15) ≡ 0 = ap (λ (j : ℕ). count_of n b (Segment j)) (sym q) ∙ z in
      omega (arith, f, m.segment.0)
      );
  way = refl;
}

block-sensed : (v n : ℕ → ℕ) (s : Stage) (f : Fixed) (target : ℕ) → Turned v n f.block → IsBlock v s f target → IsBlock n stage.Sensing (record f { turned = true }) target
block-sensed v n s f target m h =
    let b = f.block in
    let o : (x : ℕ) → Outside x (b + 0x00) (b + 0x04) → Outside x (b + 0x08) (b + 0x18) → Outside x (b + 0x28) (b + 0x30) → Outside x (b + 0xB8) (b + 0xC0) → Outside x (b + 0xF0) (b + 0xF0 + 6) → n x ≡ v x = m.other in
    let same : (x : ℕ) → b + 0xC0 ≤ x → x + 4 ≤ b + 0xE0 → n x ≡ v x = λ x i j. o x (omega arith) (omega arith) (omega arith) (omega arith) (omega arith) in
    let e1 = o (b + 0x04) (omega arith) (omega arith) (omega arith) (omega arith) (omega arith) in
    let e4 = o (b + 0x1C) (omega arith) (omega arith) (omega arith) (omega arith) (omega arith) in
    let r0 = same (b + 0xC8) (omega arith) (omega arith) in
    let r1 = same (b + 0xD8) (omega arith) (omega arith) in
    record {
      start = m.start;
      restart = elim h.restart [ inl k ↦ inl (e1 ∙ k) | inr k ↦ inr (e1 ∙ k) ];
      last = inr (record { phase = In; entry = Segment 15 }, sense-names v n b (n (b + 0x08)) m m.last);
      saved = inr (record { phase = In; entry = Segment 15 }, sense-names v n b (n (b + 0x0C)) m m.saved);
      begins = λ e. absurd (false≢true (sym e));
      sel = o (b + 0x18) (omega arith) (omega arith) (omega arith) (omega arith) (omega arith) ∙ h.sel;
      gate = elim h.gate [ inl k ↦ inl (e4 ∙ k) | inr k ↦ inr (e4 ∙ k) ];
      message = (o (b + 0x20) (omega arith) (omega arith) (omega arith) (omega arith) (omega arith) ∙ h.message.0, o (b + 0x24) (omega arith) (omega arith) (omega arith) (omega arith) (omega arith) ∙ h.message.1);
      command = (omega (arith, m.entry.0), m.entry.1);
      status = (o (b + 0x30) (omega arith) (omega arith) (omega arith) (omega arith) (omega arith) ∙ h.status.0, o (b + 0x34) (omega arith) (omega arith) (omega arith) (omega arith) (omega arith) ∙ h.status.1);
      returns = record { first = rw r0 h.returns.first; second = rw r1 h.returns.second };
    }

-- ---- the parts

module _ (version : ℕ) (v n : ℕ → ℕ) (ts : Tickets) (flags : ℕ → Bool) (new : ℕ → Stage) (c : Counts) (o : Option ℕ) (few_units : length ts.units ≤ 16) (d : AreTickets ts) (t : ℕ) (was : ts.stage t ≡ stage.Check)
    (turns : Turns ts.stage new t stage.Sensing) (flag : flags t ≡ true) (kept : (u : ℕ) → u ≢ t → flags u ≡ (ts.fixed u).turned)
    (out : (x : ℕ) → Outside x (block_of ts t) (block_of ts t + 0x200) → Apart FRONT x → n x ≡ v x) (asks : n FRONT ≡ block_of ts t) (state : field n (block_of ts t) State ≡ 0)
    (block : IsBlock n stage.Sensing (record (ts.fixed t) { turned = true }) (target_of ts t)) (shut : field n (block_of ts t) Gate ≢ 0x1B0) (a : Aside v ts c t) where
  after : Tickets
  after = retold ts flags new

  live : IsLive (ts.stage t)
  live e = let z : stage.Check ≡ stage.Freed = sym was ∙ e in absurd cc

  lived : (u : ℕ) → IsLive (new u) → IsLive (ts.stage u)
  lived u l = live-before v ts new t stage.Sensing turns live u l

  low : (x : ℕ) → 0x1004 ≤ x → x + 4 ≤ 0x10000 → n x ≡ v x
  low x l u = out x (omega (arith, (d.block t live).from)) (omega arith)

  lowest : (x : ℕ) → x + 4 ≤ 0x1000 → n x ≡ v x
  lowest x l = out x (omega (arith, (d.block t live).from)) (omega arith)

  other-same : (u : ℕ) → IsLive (ts.stage u) → u ≢ t → Same v n (block_of ts u) (block_of ts u + 0x200)
  other-same u l ne x f g = out x (other-block (block_of ts t) (block_of ts u) x (d.block t live) (d.block u l) (λ e. d.blocks t u live l (λ i. ne (sym i)) e) f g) (omega (arith, (d.block u l).from))

  state-other : (u : ℕ) → IsLive (ts.stage u) → u ≢ t → field n (block_of ts u) State ≡ field v (block_of ts u) State
  state-other u l ne = other-same u l ne (block_of ts u + 0x10) (omega arith) (omega arith)

  -- a ticket in another stage than Check
  not-here : (u : ℕ) (s : Stage) → ts.stage u ≡ s → s ≢ stage.Check → u ≢ t
  not-here u s e ne z = ne (sym e ∙ ap ts.stage z ∙ was)

  active-other : (u : ℕ) → IsActive (ts.stage u) → u ≢ t
  active-other u (inl e) = not-here u stage.Queued e (λ i. absurd cc)
  active-other u (inr e) = not-here u stage.Sensing e (λ i. absurd cc)

  to-other : (P : Stage → Type 0) (u : ℕ) → u ≢ t → P (ts.stage u) → P (new u)
  to-other P u ne h = subst P (sym (turns.other u ne)) h

  begun-sensed : (u : ℕ) → IsBegun v ts u → IsBegun n (retold ts flags new) u
  begun-sensed u h =
      let ne = active-other u h.stage in
      record { stage = to-other IsActive u ne h.stage; live = state-other u (active-live (ts.stage u) h.stage) ne ∙ h.live }

  out-sensed : (u : ℕ) → IsLive (ts.stage u) → u ≢ t → NotStarting v c (block_of ts u) → NotStarting n c (block_of ts u)
  out-sensed u l ne h = record {
    ring = λ i f g e. h.ring i f g (sym (low (start_slot i) (omega arith) (omega arith)) ∙ e);
    front = λ e. d.blocks u t l live ne (sym e ∙ asks);
  }

  work-sensed : (u : ℕ) → MayWork v ts c u → MayWork n (retold ts flags new) c u
  work-sensed u h = record { begun = begun-sensed u h.begun; out = out-sensed u (active-live (ts.stage u) h.begun.stage) (active-other u h.begun.stage) h.out; there = h.there }

  waits-sensed : (u : ℕ) → Waits v ts u → Waits n (retold ts flags new) u
  waits-sensed u h =
      let ne = active-other u (inl h.stage) in
      record { stage = turns.other u ne ∙ h.stage; live = state-other u (active-live (ts.stage u) (inl h.stage)) ne ∙ h.live }

  over-sensed : (u : ℕ) → IsOver v ts u → IsOver n (retold ts flags new) u
  over-sensed u h =
      let ne = active-other u h.stage in
      let e = state-other u (active-live (ts.stage u) h.stage) ne in
      record { stage = to-other IsActive u ne h.stage; some = subst (λ (i : ℕ). 1 ≤ i) (sym e) h.some; most = subst (λ (i : ℕ). i ≤ 3) (sym e) h.most }

  block-other : (u : ℕ) → IsLive (ts.stage u) → u ≢ t → IsBlock v (ts.stage u) (ts.fixed u) (target_of ts u) → IsBlock n (new u) (record (ts.fixed u) { turned = flags u }) (target_of ts u)
  block-other u l ne h =
      let s = other-same u l ne in
      subst (λ (i : Stage). IsBlock n i (record (ts.fixed u) { turned = flags u }) (target_of ts u)) (sym (turns.other u ne))
      (subst (λ (x : Bool). IsBlock n (ts.stage u) (record (ts.fixed u) { turned = x }) (target_of ts u)) (sym (kept u ne))
      (block-frame v n (ts.stage u) (ts.fixed u) (target_of ts u) (λ x f g. s x f (omega arith)) (λ x f g. s x (omega arith) (omega arith)) h))

  fresh-other : (u : ℕ) → IsFresh (new u) → u ≢ t
  fresh-other u f z = absurd (sensing-fresh (subst IsFresh (ap new z ∙ turns.here) f))
    where
      sensing-fresh : IsFresh stage.Sensing → ⊥
      sensing-fresh (inl e) = absurd cc
      sensing-fresh (inr e) = absurd cc

  fresh-live : (s : Stage) → IsFresh s → IsLive s
  fresh-live s (inl e) q = let z : stage.Built ≡ stage.Freed = sym e ∙ q in absurd cc
  fresh-live s (inr e) q = let z : stage.Linked ≡ stage.Freed = sym e ∙ q in absurd cc

  answered-other : (u : ℕ) → IsLive (ts.stage u) → u ≢ t → HasAnswered n (retold ts flags new) u → HasAnswered v ts u
  answered-other u l ne (inl e) = inl (sym (turns.other u ne) ∙ e)
  answered-other u l ne (inr (inl e)) = inr (inl (sym (turns.other u ne) ∙ e))
  answered-other u l ne (inr (inr e)) = inr (inr (sym (state-other u l ne) ∙ e))

  parts-sensed : Parts version v ts c o → Parts version n (retold ts flags new) c o
  parts-sensed p = record {
    loaded = loaded-frame v n version (λ x f g. lowest x (omega arith)) p.loaded;
    chains = chains-frame v n ts.units few_units (λ x f g. low x (omega arith) (omega arith)) p.chains;
    constants = constants-frame v n (λ x f g. low x (omega arith) (omega arith)) p.constants;
    fixed = fixed-frame v n (λ x f g. low x (omega arith) (omega arith)) p.fixed;
    front = inr (inr (t, record { is = asks; stage = turns.here; live = state }));
    ringp = low 0x1004 (omega arith) (omega arith) ∙ p.ringp;
    start = record {
      order = p.start.order;
      entry = λ i l u. let x = p.start.entry i l u in (x.0, low (start_slot i) (omega arith) (omega arith) ∙ x.1, waits-sensed x.0 x.2);
      once = λ i j l f u e. p.start.once i j l f u (sym (low (start_slot i) (omega arith) (omega arith)) ∙ e ∙ low (start_slot j) (omega arith) (omega arith));
      idle = low (start_slot c.queued) (omega arith) (omega arith) ∙ p.start.idle;
      next = λ i. low (start_slot i + 4) (omega arith) (omega arith) ∙ p.start.next i;
    };
    done = record {
      order = p.done.order;
      entry = λ i l u. let x = p.done.entry i l u in (x.0, low (done_slot i) (omega arith) (omega arith) ∙ x.1, over-sensed x.0 x.2);
      once = λ i j l f u e. p.done.once i j l f u (sym (low (done_slot i) (omega arith) (omega arith)) ∙ e ∙ low (done_slot j) (omega arith) (omega arith));
      idle = λ i l u. low (done_slot i) (omega arith) (omega arith) ∙ p.done.idle i l u;
      next = λ i. low (done_slot i + 4) (omega arith) (omega arith) ∙ p.done.next i;
    };
    blocks = λ u l. elim (same_or u t) [
      | inl z ↦ subst (λ (i : ℕ). IsBlock n (new i) (record (ts.fixed i) { turned = flags i }) (target_of ts i)) (sym z)
          (subst (λ (i : Stage). IsBlock n i (record (ts.fixed t) { turned = flags t }) (target_of ts t)) (sym turns.here)
          (subst (λ (x : Bool). IsBlock n stage.Sensing (record (ts.fixed t) { turned = x }) (target_of ts t)) (sym flag) block))
      | inr z ↦ block-other u (lived u l) z (p.blocks u (lived u l))
    ];
    fresh = λ u f.
        let ne = fresh-other u f in
        let g = subst IsFresh (turns.other u ne) f in
        state-other u (fresh-live (ts.stage u) g) ne ∙ p.fresh u g;
    there = λ u l k. elim (same_or u t) [
      | inl z ↦ p.there u (lived u l) (inl (ap ts.stage z ∙ was))
      | inr z ↦ p.there u (lived u l) (answered-other u (lived u l) z k)
    ];
    gates = λ u l k e. elim (same_or u t) [
      | inl z ↦ absurd (shut (subst (λ (i : ℕ). field n (block_of ts i) Gate ≡ 0x1B0) z e))
      | inr z ↦ work-sensed u (p.gates u (lived u l) k (sym (other-same u (lived u l) z (block_of ts u + 0x1C) (omega arith) (omega arith)) ∙ e))
    ];
  }

  sensing-bound : IsBound stage.Sensing
  sensing-bound = record { live = λ e. absurd cc; linked = λ e. absurd cc; still = λ e. absurd cc }

  check-bound : IsBound (ts.stage t)
  check-bound = subst IsBound (sym was) (record { live = λ e. absurd cc; linked = λ e. absurd cc; still = λ e. absurd cc })

  bound-after : (u : ℕ) → IsBound (ts.stage u) → IsBound (new u)
  bound-after u b = elim (same_or u t) [
    | inl z ↦ subst IsBound (sym (ap new z ∙ turns.here)) sensing-bound
    | inr z ↦ to-other IsBound u z b
  ]

  bound-before : (u : ℕ) → IsBound (new u) → IsBound (ts.stage u)
  bound-before u b = elim (same_or u t) [
    | inl z ↦ subst (λ (i : ℕ). IsBound (ts.stage i)) (sym z) check-bound
    | inr z ↦ subst IsBound (turns.other u z) b
  ]

  entry-sensed : (x y : ℕ) → n (tag_entry x y) ≡ v (tag_entry x y) → IsEntry v ts x y → IsEntry n (retold ts flags new) x y
  entry-sensed x y e (inl k) = inl (e ∙ k)
  entry-sensed x y e (inr k) = inr (k.0, record { bound = bound-after k.0 k.1.bound; unit_is = k.1.unit_is; tag_is = k.1.tag_is; block_is = e ∙ k.1.block_is })

  tags-sensed : TagTables v ts → TagTables n (retold ts flags new)
  tags-sensed h = record {
    entries = λ x y lx ly. entry-sensed x y (low (tag_entry x y) (omega arith) (omega arith)) (h.entries x y lx ly);
    entered = λ u b.
        let k = bound-before u b in
        let i : (ts.fixed u).unit < 16 = omega (arith, d.unit u k.live, few_units) in
        let j : (ts.fixed u).tag < 256 = d.tag u k.live in
        low (tag_entry (ts.fixed u).unit (ts.fixed u).tag) (omega arith) (omega arith) ∙ h.entered u k;
  }

  tickets-sensed : AreTickets (retold ts flags new)
  tickets-sensed = record {
    block = λ u l. d.block u (lived u l);
    unit = λ u l. d.unit u (lived u l);
    tag = λ u l. d.tag u (lived u l);
    blocks = λ u x l k. d.blocks u x (lived u l) (lived x k);
    tags = λ u x l k. d.tags u x (lived u l) (lived x k);
    turned = λ u e. elim (same_or u t) [
      | inl z ↦ subst IsTurned (sym (ap new z ∙ turns.here)) tt
      | inr z ↦ to-other IsTurned u z (d.turned u (sym (kept u z) ∙ e))
    ];
    within = λ u i l. d.within u i (lived u l);
    apart = λ u x i j l k. d.apart u x i j (lived u l) (lived x k);
  }

  plays-sensed : (r : Role) → v FRONT ≡ 0x1600 → Plays r v ts c → Plays r n (retold ts flags new) c
  plays-sensed Nothing idle h = tt
  plays-sensed (First u) idle h = (h.0, low (start_slot c.started) (omega arith) (omega arith) ∙ h.1, waits-sensed u h.2)
  plays-sensed (Asked u) idle h = absurd (omega (arith, idle, h.0.is, (d.block u (active-live (ts.stage u) (inr h.0.stage))).from))
  plays-sensed (Working u) idle h = work-sensed u h
  plays-sensed (Closing u) idle h = (begun-sensed u h.0, out-sensed u (active-live (ts.stage u) h.0.stage) (active-other u h.0.stage) h.1)
  plays-sensed (Done u) idle h = (over-sensed u h.0, λ i l q f. h.1 i l q (sym (low (done_slot i) (omega arith) (omega arith)) ∙ f))

  entries-other : (u : ℕ) → IsLive (ts.stage u) → u ≢ t → Same v n (block_of ts u + 0x40) (block_of ts u + 0xE0)
  entries-other u l ne x f g = other-same u l ne x (omega arith) (omega arith)

  -- what is said of the fixed part of another ticket
  as-kept : (P : Fixed → Type 0) (u : ℕ) → u ≢ t → P (ts.fixed u) → P (record (ts.fixed u) { turned = flags u })
  as-kept P u ne h = subst (λ (x : Bool). P (record (ts.fixed u) { turned = x })) (sym (kept u ne)) h

  extra-sensed : (k : Work) → field n (block_of ts t) Gate ≡ field v (block_of ts t) Gate → ((u : ℕ) → worker (role k) ≡ Some u → IsActive (ts.stage u)) → Extra k v ts → Extra k n (retold ts flags new)
  extra-sensed (Carrying u p) g s h =
      let k = s u refl in
      let ne = active-other u k in
      as-kept (λ (f : Fixed). IsPointer n f.block (way f) (goal f) p) u ne (pointer-frame v n (block_of ts u) (way (ts.fixed u)) (goal (ts.fixed u)) p (entries-other u (active-live (ts.stage u) k) ne) h)
  extra-sensed (Moving u x) g s h =
      let k = s u refl in
      let ne = active-other u k in
      as-kept (λ (f : Fixed). Names n f.block (way f) (goal f) (move_place x.phase x.entry) x) u ne (names-frame v n (block_of ts u) (way (ts.fixed u)) (goal (ts.fixed u)) (move_place x.phase x.entry) x (entries-other u (active-live (ts.stage u) k) ne) h)
  extra-sensed (Behind u phase j) g s h =
      let k = s u refl in
      let ne = active-other u k in
      let e = entries-other u (active-live (ts.stage u) k) ne in
      as-kept (λ (f : Fixed). (j ≤ 16) × IsSuffix (segments_from n f.block j) (goal f) × AreFilled n f.block j × IsWay (way f) phase) u ne
      (h.0, subst (λ (l : List ℕ). IsSuffix l (goal (ts.fixed u))) (sym (segments-same v n (block_of ts u) j h.0 e)) h.1, filled-frame v n (block_of ts u) j e h.2, h.3)
  extra-sensed (Candidate b r) g s h = (
    h.0,
    elim h.1 [
      | inl e ↦ inl (elim (same_or b (block_of ts t)) [
        | inl z ↦ subst (λ (i : ℕ). field n i Gate ≡ 0x1C0) (sym z) (g ∙ subst (λ (i : ℕ). field v i Gate ≡ 0x1C0) z e)
        | inr z ↦ out (b + 0x1C) (other-block (block_of ts t) b (b + 0x1C) (d.block t live) h.0 (λ i. z (sym i)) (omega arith) (omega arith)) (omega (arith, h.0.from)) ∙ e
      ])
      | inr e ↦ inr (e.0, record { live = alive e.0 e.1.live (same_or e.0 t); block_is = e.1.block_is; target_is = e.1.target_is })
    ],
  )
    where
      alive : (u : ℕ) → IsLive (ts.stage u) → (u ≡ t) ⊎ (u ≢ t) → IsLive (new u)
      alive u l (inl z) = subst IsLive (sym (ap new z ∙ turns.here)) sensing-bound.live
      alive u l (inr z) = to-other IsLive u z l
  extra-sensed (Saved u) g s h = low 0x100C (omega arith) (omega arith) ∙ h
  extra-sensed (Entering u x) g s h = h
  extra-sensed (Selected u) g s h = h
  extra-sensed (Ending u x) g s h = h
  extra-sensed (Returning u x) g s h = h
  extra-sensed (Naming r) g s h = h
  extra-sensed (ChoosingTarget r j) g s h = h
  extra-sensed (Finding r j) g s h = h
  extra-sensed (Listed u r) g s h = h
  extra-sensed (Tagged u x r) g s h = h
  extra-sensed (InTable u y x r) g s h = h
  extra-sensed (Offset u y k r) g s h = h
  extra-sensed _ g s h = tt

  works-sensed : (k : Work) → v FRONT ≡ 0x1600 → field n (block_of ts t) Gate ≡ field v (block_of ts t) Gate → Works k v ts c → Works k n (retold ts flags new) c
  works-sensed k idle g h = record { plays = plays-sensed (role k) idle h.plays; extra = extra-sensed k g (λ u e. worker-active (role k) v ts c u e h.plays) h.extra }

-- a chip that runs stands where it stood
stays-run : (q : Spot) (at : Stop) (resume : Option ℕ) (r : Regs) (v n : ℕ → ℕ) (ts new : Tickets) (c : Counts) → at ≡ stop.Run → SameBlock ts new (worker (role (work_at q))) → Stays q at resume r v ts c → Stays q at resume r n new c
stays-run q at resume r v n ts new c run e h = stays-same q at resume r v n ts new c c.queued c.taken e (none q at resume r v n ts c run h) h
  where
    clash : {R : Type 0} (at other : Stop) → at ≡ stop.Run → at ≡ other → (other ≡ stop.Run → ⊥) → R
    clash at other e f differs = absurd (differs (sym f ∙ e))

    none : (q : Spot) (at : Stop) (resume : Option ℕ) (r : Regs) (v n : ℕ → ℕ) (ts : Tickets) (c : Counts) → at ≡ stop.Run → Stays q at resume r v ts c → SameEntries q v n ts
    none (Mismatched t x left) at resume r v n ts c run h = clash at stop.Mismatch run h.0 (λ e. absurd cc)
    none (ResetAt p) at resume r v n ts c run h = clash at stop.Clear run h.0 (λ e. absurd cc)
    none _ at resume r v n ts c run h = tt

-- ---- Sense

pub sense_holds : SenseHolds
sense_holds version units s c w t run b idle h =
    let d = w.desk in
    let ts = tickets_of d in
    let v = word_at w.memory in
    let x = (ticket d t).block in
    let live : IsLive (ticket d t).stage = λ e. (let z : stage.Check ≡ stage.Freed = sym b ∙ e in absurd cc) in
    let still : IsActive (ticket d t).stage → ⊥ = λ e. elim e [
      | inl q ↦ let z : stage.Check ≡ stage.Queued = sym b ∙ q in absurd cc
      | inr q ↦ let z : stage.Check ≡ stage.Sensing = sym b ∙ q in absurd cc
    ] in
    let place = h.tickets.block t live in
    let first = turned w.memory x in
    let m = put_word first FRONT x in
    let n = word_at m in
    let size : length first ≡ 0x400000 = length-put_bytes (with_fields w.memory x (sense_fields x)) (x + CDB) request_sense ∙ length-with_fields w.memory x (sense_fields x) ∙ h.size in
    let r = turned_is w.memory x h.size place in
    let q : Wrote (word_at first) n FRONT x = wrote-put_word first FRONT x (omega (arith, size)) (omega (arith, place.below)) in
    let o = closing_at s in
    let few_units = few version units s c w t h in
    let k : Ticket = record (ticket d t) { stage = stage.Sensing } in
    let turns = desk-turns d t k live in
    let desk = senses d t in
    let new = (tickets_of desk).stage in
    let flags : ℕ → Bool = λ u. ((tickets_of desk).fixed u).turned in
    let l = live-within d.tickets t live in
    let here : slice_index_or (slice_set d.tickets t k) t no_ticket ≡ k = get_or-set_same d.tickets t k no_ticket l in
    let flag : flags t ≡ true = ap (λ (i : Ticket). (fixed_of i).turned) here ∙ ap (λ (i : Bool). i && true) (h.checked t (inl b)) in
    let there : (u : ℕ) → u ≢ t → slice_index_or (slice_set d.tickets t k) u no_ticket ≡ slice_index_or d.tickets u no_ticket = λ u ne. get_or-set_other d.tickets t u k no_ticket ne in
    let kept : (u : ℕ) → u ≢ t → flags u ≡ (ts.fixed u).turned = λ u ne. ap (λ (i : Ticket). (fixed_of i).turned) (there u ne) in
    let each : (u : ℕ) → (tickets_of desk).fixed u ≡ record (ts.fixed u) { turned = flags u } = λ u. elim (same_or u t) [
      | inl z ↦ subst (λ (i : ℕ). (tickets_of desk).fixed i ≡ record (ts.fixed i) { turned = flags i }) (sym z)
          (subst (λ (i : Ticket). fixed_of i ≡ record (fixed_of (ticket d t)) { turned = (fixed_of i).turned }) (sym here) refl)
      | inr z ↦ subst (λ (i : Ticket). fixed_of i ≡ record (ts.fixed u) { turned = (fixed_of i).turned }) (sym (there u z)) refl
    ] in
    let path : (tickets_of desk).fixed ≡ (λ (u : ℕ). record (ts.fixed u) { turned = flags u }) = λ i u. each u i in
    let whole : tickets_of desk ≡ retold ts flags new = ap (λ (f : ℕ → Fixed). record { units = d.units; fixed = f; stage = new }) path in
    let out : (i : ℕ) → Outside i x (x + 0x200) → Apart FRONT i → n i ≡ v i = λ i j a. q.other i a ∙ r.other i (omega arith) (omega arith) (omega arith) (omega arith) (omega arith) in
    let inside : (i : ℕ) → x ≤ i → n i ≡ word_at first i = λ i j. q.other i (omega (arith, place.from)) in
    let state : field n x State ≡ 0 = inside (x + 0x10) (omega arith) ∙ r.state in
    let gate : field n x Gate ≡ field v x Gate = inside (x + 0x1C) (omega arith) ∙ r.other (x + 0x1C) (omega arith) (omega arith) (omega arith) (omega arith) (omega arith) in
    let shut : field n x Gate ≢ 0x1B0 = λ e. idle-gate version units s c w t h live still (sym gate ∙ e) in
    let block = block-sensed v (word_at first) (ticket d t).stage (ts.fixed t) (target_of ts t) r (h.parts.blocks t live) in
    let moved = block-frame (word_at first) n stage.Sensing (record (ts.fixed t) { turned = true }) (target_of ts t) (λ i j a. inside i j) (λ i j a. inside i (omega arith)) block in
    let away = aside version v ts c o t h.tickets live still h.parts in
    let idle-front : v FRONT ≡ 0x1600 = idle in
    let made : HoldsFor version units s c (record w { memory = m; desk = desk }) (retold ts flags new) = record {
      size = length-put_word first FRONT x ∙ size;
      bytes = bytes-put_word first FRONT x (bytes-put_bytes (with_fields w.memory x (sense_fields x)) (x + CDB) request_sense (bytes-with_fields w.memory x (sense_fields x) h.bytes) bytes-request);
      units_are = h.units_are;
      few_units = h.few_units;
      version_is = h.version_is;
      tickets = tickets-sensed version v n ts flags new c o few_units h.tickets t b turns flag kept out q.same state moved shut away;
      checked = desk-checked d t k live (λ e. h.checked t (inl b)) h.checked;
      put = h.put;
      take = h.take;
      parts = parts-sensed version v n ts flags new c o few_units h.tickets t b turns flag kept out q.same state moved shut away h.parts;
      tags = tags-sensed version v n ts flags new c o few_units h.tickets t b turns flag kept out q.same state moved shut away h.tags;
      donep = record { before = h.donep.before; entered = h.donep.entered; is = out 0x1008 (omega (arith, place.from)) (omega arith) ∙ h.donep.is };
      works = works-sensed version v n ts flags new c o few_units h.tickets t b turns flag kept out q.same state moved shut away (work_at s) idle-front gate h.works;
      stays = stays-run s w.stop w.resume w.regs v n ts (retold ts flags new) c run (λ u e. refl) h.stays;
      linked = linked-same (link_at s) ts (retold ts flags new) w.bus w.regs (λ u e. refl) h.linked;
    } in
    subst (HoldsFor version units s c (record w { memory = m; desk = desk })) (sym whole) made
