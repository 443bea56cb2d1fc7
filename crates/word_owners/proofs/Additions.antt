-- The invariant holds on where the desk has one ticket more.
use Rattle.std.proofs.Common.{◌≡◌, ◌≢◌, inl, inr, ℕ, ◌+◌, ◌<◌, ◌≤◌, List, length, true, slice_index_or, refl, sym, ap, subst, ◌∙◌, arith, Option, Some}
use Rattle.bench_words.specs.Memory.{word_at}
use Rattle.rig_types.specs.declared.rig.Unit.{Unit as RigUnit}
use Rattle.host_map.specs.Places.{start_slot, done_slot, tag_entry}
use Rattle.cmd_block.specs.declared.Field.TheVariants.{State, Gate}
use Rattle.rig_chains.specs.Chains.{IsLaid, has_target, target_ops, lun_ops}
use Rattle.phase_fix.specs.Remain.{field, segments_from}
use Rattle.desk_law.specs.declared.stage.Stage.{Stage}
use Rattle.desk_law.specs.declared.stage.Stage.TheVariants.{Built, Check, Sensing, Freed}
use Rattle.desk_law.specs.Desk.{no_unit}
use Rattle.word_owners.specs.Additions.{IsAdded, AddHolds}
use Rattle.word_owners.specs.Tickets.{Fixed, Tickets, tickets_of, block_of, unit_of, target_of, goal, way, IsLive, IsActive, IsBound, AreTickets}
use Rattle.word_owners.specs.Pointers.{IsSuffix, IsPointer, IsWay, AreFilled, Names, move_place}
use Rattle.word_owners.specs.Points.{Point, about, Work, OfTicket, Entering, Selected, Ending, Carrying, Moving, Behind, Returning, Naming, ChoosingTarget, Finding, Listed, Tagged, InTable, Offset, Candidate, Saved, At068, At070, At078, At080, At088, At090, At098, At0A0, At0A8, At0B0, At0B8, At0C0, At0C8, At0D0, At0D8, At0E0, At0E8, At0F0, At0F8, At100, At108, At110, At118, At120, At128, At130, At138, At140, At148, At1A8, At1B0, At1B8, At1C8, At278, At280, At288, At2B8, At340, At3C8, At3D0, At3D8, At448, At450, At458, BehindContext, LeavesContext, Moves}
use Rattle.word_owners.specs.Parts.{Counts, Parts, TagTables, StartRing, DoneRing, Waits, IsBegun, IsOver, IsThere, Asks, IsFront, IsEntry, IsBlock, IsFresh, HasAnswered, NotStarting, NotEntered, MayWork}
use Rattle.word_owners.specs.Works.{Role, Nothing, First, Asked, Working, Closing, Done, role, worker, Plays, Extra, Works, IsUnitOf}
use Rattle.word_owners.specs.Holds.{Spot, Running, Mismatched, Fixed as FixedSpot, work_at, link_at, closing_at}
use Rattle.word_owners.proofs.ChipPlace.{stays-same, linked-same, entries-at, unasked-same}
use Rattle.word_owners.proofs.Frames.{Same, same_or, active-live, other-block, loaded-frame, chains-frame, constants-frame, fixed-frame, segments-same, filled-frame, names-frame, pointer-frame, block-frame, not_starting-frame, not_entered-frame}
use Rattle.word_owners.proofs.Patches.{few}
use Rattle.word_owners.proofs.StageChanges.{worker-active}
use Rattle.word_owners.proofs.WriteFrames.{fresh-live}

same-link : (t u : ℕ) → OfTicket t ≡ OfTicket u → Some t ≡ Some u
same-link t u e = let z : t ≡ u = cc in ap (λ (i : ℕ). Some i) z

-- the ticket whose target is connected is at work
link-of : (p : Point) (u : ℕ) → (about p).link ≡ OfTicket u → worker (role (about p).work) ≡ Some u
link-of (At068 t) u e = same-link t u e
link-of (At070 t) u e = same-link t u e
link-of (At078 t) u e = same-link t u e
link-of (At080 t) u e = same-link t u e
link-of (At088 t) u e = same-link t u e
link-of (At090 t) u e = same-link t u e
link-of (At098 t) u e = same-link t u e
link-of (At0A0 t) u e = same-link t u e
link-of (At0A8 t) u e = same-link t u e
link-of (At0B0 t) u e = same-link t u e
link-of (At0B8 t) u e = same-link t u e
link-of (At0C0 t p) u e = same-link t u e
link-of (At0C8 t) u e = same-link t u e
link-of (At0D0 t) u e = same-link t u e
link-of (At0D8 t) u e = same-link t u e
link-of (At0E0 t) u e = same-link t u e
link-of (At0E8 t) u e = same-link t u e
link-of (At0F0 t) u e = same-link t u e
link-of (At0F8 t) u e = same-link t u e
link-of (At100 t) u e = same-link t u e
link-of (At108 t) u e = same-link t u e
link-of (At110 t p) u e = same-link t u e
link-of (At118 t) u e = same-link t u e
link-of (At120 t) u e = same-link t u e
link-of (At128 t) u e = same-link t u e
link-of (At130 t p) u e = same-link t u e
link-of (At138 t) u e = same-link t u e
link-of (At140 t) u e = same-link t u e
link-of (At148 t) u e = same-link t u e
link-of (At1A8 t) u e = same-link t u e
link-of (At1B0 t) u e = same-link t u e
link-of (At1B8 t a) u e = same-link t u e
link-of (At1C8 t) u e = same-link t u e
link-of (At278 t) u e = same-link t u e
link-of (At280 t) u e = same-link t u e
link-of (At288 t) u e = same-link t u e
link-of (At2B8 t) u e = same-link t u e
link-of (Moves t x) u e = same-link t u e
link-of (At340 t) u e = same-link t u e
link-of (At3C8 t) u e = same-link t u e
link-of (At3D0 t) u e = same-link t u e
link-of (At3D8 t) u e = same-link t u e
link-of (BehindContext t phase k) u e = same-link t u e
link-of (LeavesContext t phase j k) u e = same-link t u e
link-of (At448 t) u e = same-link t u e
link-of (At450 t) u e = same-link t u e
link-of (At458 t) u e = same-link t u e
link-of _ u e = absurd cc

link-worker : (s : Spot) (u : ℕ) → link_at s ≡ OfTicket u → worker (role (work_at s)) ≡ Some u
link-worker (Running p) u e = link-of p u e
link-worker (Mismatched t x left) u e = same-link t u e
link-worker (FixedSpot t) u e = same-link t u e
link-worker _ u e = absurd cc

module _ (version : ℕ) (w n : ℕ → ℕ) (ts new : Tickets) (t : ℕ) (c : Counts) (few_units : length ts.units ≤ 16) (d : AreTickets ts) (a : IsAdded w n ts new t) where
  here : IsLive (new.stage t)
  here e = let z : Built ≡ Freed = sym a.stage ∙ e in absurd cc

  other : (u : ℕ) → IsLive (ts.stage u) → u ≢ t
  other u l z = l (ap ts.stage z ∙ a.was)

  now-live : (u : ℕ) → u ≢ t → IsLive (ts.stage u) → IsLive (new.stage u)
  now-live u ne l = subst IsLive (sym (a.stages u ne)) l

  was-live : (u : ℕ) → u ≢ t → IsLive (new.stage u) → IsLive (ts.stage u)
  was-live u ne l = subst IsLive (a.stages u ne) l

  block-is : (u : ℕ) → u ≢ t → block_of new u ≡ block_of ts u
  block-is u ne = ap (λ (f : Fixed). f.block) (a.fixeds u ne)

  to-fixed : (P : Fixed → Type 0) (u : ℕ) → u ≢ t → P (ts.fixed u) → P (new.fixed u)
  to-fixed P u ne h = subst P (sym (a.fixeds u ne)) h

  low : (x : ℕ) → x + 4 ≤ 0x10000 → n x ≡ w x
  low x l = a.outside x (omega arith) (omega (arith, (a.tickets.block t here).from))

  whole : (u : ℕ) → IsLive (ts.stage u) → Same w n (block_of ts u) (block_of ts u + 0x200)
  whole u l x f g =
      let ne = other u l in
      a.outside x (omega (arith, (d.block u l).below)) (other-block (block_of new t) (block_of ts u) x (a.tickets.block t here) (d.block u l) (λ e. a.tickets.blocks t u here (now-live u ne l) (λ i. ne (sym i)) (e ∙ sym (block-is u ne))) f g)

  table : (u : ℕ) → IsLive (ts.stage u) → Same w n (block_of ts u + 0x40) (block_of ts u + 0xE0)
  table u l x f g = whole u l x (omega arith) (omega arith)

  state-same : (u : ℕ) → IsLive (ts.stage u) → field n (block_of new u) State ≡ field w (block_of ts u) State
  state-same u l = ap (λ (b : ℕ). field n b State) (block-is u (other u l)) ∙ whole u l (block_of ts u + 0x10) (omega arith) (omega arith)

  gate-same : (u : ℕ) → IsLive (ts.stage u) → field n (block_of new u) Gate ≡ field w (block_of ts u) Gate
  gate-same u l = ap (λ (b : ℕ). field n b Gate) (block-is u (other u l)) ∙ whole u l (block_of ts u + 0x1C) (omega arith) (omega arith)

  unit-is : (u : ℕ) → u ≢ t → unit_of new u ≡ unit_of ts u
  unit-is u ne = ap (λ (us : List RigUnit). slice_index_or us (new.fixed u).unit no_unit) a.units ∙ ap (λ (f : Fixed). slice_index_or ts.units f.unit no_unit) (a.fixeds u ne)

  target-is : (u : ℕ) → u ≢ t → target_of new u ≡ target_of ts u
  target-is u ne = ap (λ (r : RigUnit). r.target) (unit-is u ne)

  there-added : (u : ℕ) → u ≢ t → IsThere ts u → IsThere new u
  there-added u ne h = ap (λ (r : RigUnit). r.absent) (unit-is u ne) ∙ h

  waits-added : (u : ℕ) → Waits w ts u → Waits n new u
  waits-added u h = let l = active-live (ts.stage u) (inl h.stage) in record { stage = a.stages u (other u l) ∙ h.stage; live = state-same u l ∙ h.live }

  begun-added : (u : ℕ) → IsBegun w ts u → IsBegun n new u
  begun-added u h = let l = active-live (ts.stage u) h.stage in record { stage = subst IsActive (sym (a.stages u (other u l))) h.stage; live = state-same u l ∙ h.live }

  over-added : (u : ℕ) → IsOver w ts u → IsOver n new u
  over-added u h =
      let l = active-live (ts.stage u) h.stage in
      record {
        stage = subst IsActive (sym (a.stages u (other u l))) h.stage;
        some = subst (λ (i : ℕ). 1 ≤ i) (sym (state-same u l)) h.some;
        most = subst (λ (i : ℕ). i ≤ 3) (sym (state-same u l)) h.most;
      }

  asks-added : (u : ℕ) → Asks w ts u → Asks n new u
  asks-added u h =
      let l = active-live (ts.stage u) (inr h.stage) in
      let ne = other u l in
      record { is = low 0x1000 (omega arith) ∙ h.is ∙ sym (block-is u ne); stage = a.stages u ne ∙ h.stage; live = state-same u l ∙ h.live }

  out-added : (u : ℕ) → u ≢ t → NotStarting w c (block_of ts u) → NotStarting n c (block_of new u)
  out-added u ne h = subst (NotStarting n c) (sym (block-is u ne)) (not_starting-frame w n c (block_of ts u) (λ x f g. low x (omega arith)) (low 0x1000 (omega arith)) h)

  entered-added : (u : ℕ) → u ≢ t → NotEntered w c (block_of ts u) → NotEntered n c (block_of new u)
  entered-added u ne h = subst (NotEntered n c) (sym (block-is u ne)) (not_entered-frame w n c (block_of ts u) (λ x f g. low x (omega arith)) h)

  work-added : (u : ℕ) → MayWork w ts c u → MayWork n new c u
  work-added u h = let ne = other u (active-live (ts.stage u) h.begun.stage) in record { begun = begun-added u h.begun; out = out-added u ne h.out; there = there-added u ne h.there }

  -- ---- the parts

  start-added : StartRing w ts c.started c.queued → StartRing n new c.started c.queued
  start-added r = record {
    order = r.order;
    entry = λ i l u. let x = r.entry i l u in (x.0, low (start_slot i) (omega arith) ∙ x.1 ∙ sym (block-is x.0 (other x.0 (active-live (ts.stage x.0) (inl x.2.stage)))), waits-added x.0 x.2);
    once = λ i j l k u e. r.once i j l k u (sym (low (start_slot i) (omega arith)) ∙ e ∙ low (start_slot j) (omega arith));
    idle = low (start_slot c.queued) (omega arith) ∙ r.idle;
    next = λ i. low (start_slot i + 4) (omega arith) ∙ r.next i;
  }

  done-added : DoneRing w ts c.taken c.entered → DoneRing n new c.taken c.entered
  done-added r = record {
    order = r.order;
    entry = λ i l u. let x = r.entry i l u in (x.0, low (done_slot i) (omega arith) ∙ x.1 ∙ sym (block-is x.0 (other x.0 (active-live (ts.stage x.0) x.2.stage))), over-added x.0 x.2);
    once = λ i j l k u e. r.once i j l k u (sym (low (done_slot i) (omega arith)) ∙ e ∙ low (done_slot j) (omega arith));
    idle = λ i l u. low (done_slot i) (omega arith) ∙ r.idle i l u;
    next = λ i. low (done_slot i + 4) (omega arith) ∙ r.next i;
  }

  front-added : IsFront w ts → IsFront n new
  front-added (inl h) = inl (low 0x1000 (omega arith) ∙ h)
  front-added (inr (inl h)) = inr (inl (low 0x1000 (omega arith) ∙ h))
  front-added (inr (inr h)) = inr (inr (h.0, asks-added h.0 h.1))

  block-other : (u : ℕ) → u ≢ t → IsLive (ts.stage u) → IsBlock w (ts.stage u) (ts.fixed u) (target_of ts u) → IsBlock n (new.stage u) (new.fixed u) (target_of new u)
  block-other u ne l h =
      let k = block-frame w n (ts.stage u) (ts.fixed u) (target_of ts u) (λ x f g. whole u l x f (omega arith)) (λ x f g. whole u l x (omega arith) (omega arith)) h in
      subst (λ (i : Stage). IsBlock n i (new.fixed u) (target_of new u)) (sym (a.stages u ne))
      (subst (λ (i : ℕ). IsBlock n (ts.stage u) (new.fixed u) i) (sym (target-is u ne)) (to-fixed (λ (f : Fixed). IsBlock n (ts.stage u) f (target_of ts u)) u ne k))

  answered-other : (u : ℕ) → u ≢ t → IsLive (ts.stage u) → HasAnswered n new u → HasAnswered w ts u
  answered-other u ne l (inl e) = inl (sym (a.stages u ne) ∙ e)
  answered-other u ne l (inr (inl e)) = inr (inl (sym (a.stages u ne) ∙ e))
  answered-other u ne l (inr (inr e)) = inr (inr (sym (state-same u l) ∙ e))

  not-answered : HasAnswered n new t → ⊥
  not-answered (inl e) = let z : Built ≡ Check = sym a.stage ∙ e in absurd cc
  not-answered (inr (inl e)) = let z : Built ≡ Sensing = sym a.stage ∙ e in absurd cc
  not-answered (inr (inr e)) = absurd (omega (arith, a.live, e))

  parts-added : (o : Option ℕ) → Parts version w ts c o → Parts version n new c o
  parts-added o p = record {
    loaded = loaded-frame w n version (λ x f g. low x (omega arith)) p.loaded;
    chains = subst (IsLaid n) (sym a.units) (chains-frame w n ts.units few_units (λ x f g. low x (omega arith)) p.chains);
    constants = constants-frame w n (λ x f g. low x (omega arith)) p.constants;
    fixed = fixed-frame w n (λ x f g. low x (omega arith)) p.fixed;
    front = front-added p.front;
    ringp = low 0x1004 (omega arith) ∙ p.ringp;
    start = start-added p.start;
    done = done-added p.done;
    blocks = λ u l. elim (same_or u t) [
      | inl z ↦ subst (λ (i : ℕ). IsBlock n (new.stage i) (new.fixed i) (target_of new i)) (sym z) (subst (λ (i : Stage). IsBlock n i (new.fixed t) (target_of new t)) (sym a.stage) a.block)
      | inr z ↦ block-other u z (was-live u z l) (p.blocks u (was-live u z l))
    ];
    fresh = λ u f. elim (same_or u t) [
      | inl z ↦ ap (λ (i : ℕ). field n (block_of new i) State) z ∙ a.live
      | inr z ↦ let k = subst IsFresh (a.stages u z) f in state-same u (fresh-live (ts.stage u) k) ∙ p.fresh u k
    ];
    there = λ u l h. elim (same_or u t) [
      | inl z ↦ absurd (not-answered (subst (HasAnswered n new) z h))
      | inr z ↦ let k = was-live u z l in there-added u z (p.there u k (answered-other u z k h))
    ];
    gates = λ u l k e. elim (same_or u t) [
      | inl z ↦ absurd (omega (arith, a.gate, sym (ap (λ (i : ℕ). field n (block_of new i) Gate) z) ∙ e))
      | inr z ↦ let q = was-live u z l in work-added u (p.gates u q k (sym (gate-same u q) ∙ e))
    ];
  }

  entry-added : (unit tag : ℕ) → unit < 16 → tag < 256 → IsEntry w ts unit tag → IsEntry n new unit tag
  entry-added unit tag l m (inl e) = inl (low (tag_entry unit tag) (omega arith) ∙ e)
  entry-added unit tag l m (inr k) =
      let ne = other k.0 k.1.bound.live in
      inr (
        k.0,
        record {
          bound = subst IsBound (sym (a.stages k.0 ne)) k.1.bound;
          unit_is = ap (λ (f : Fixed). f.unit) (a.fixeds k.0 ne) ∙ k.1.unit_is;
          tag_is = ap (λ (f : Fixed). f.tag) (a.fixeds k.0 ne) ∙ k.1.tag_is;
          block_is = low (tag_entry unit tag) (omega arith) ∙ k.1.block_is ∙ sym (block-is k.0 ne);
        },
      )

  entered-here : (u : ℕ) → u ≢ t → IsBound (ts.stage u) → TagTables w ts → n (tag_entry (ts.fixed u).unit (ts.fixed u).tag) ≡ block_of ts u
  entered-here u ne b h =
      let i : (ts.fixed u).unit < 16 = omega (arith, d.unit u b.live, few_units) in
      let j : (ts.fixed u).tag < 256 = d.tag u b.live in
      low (tag_entry (ts.fixed u).unit (ts.fixed u).tag) (omega arith) ∙ h.entered u b

  tags-added : TagTables w ts → TagTables n new
  tags-added h = record {
    entries = λ unit tag l m. entry-added unit tag l m (h.entries unit tag l m);
    entered = λ u b. elim (same_or u t) [
      | inl z ↦ absurd (b.linked (ap new.stage z ∙ a.stage))
      | inr z ↦ to-fixed (λ (f : Fixed). n (tag_entry f.unit f.tag) ≡ f.block) u z (entered-here u z (subst IsBound (a.stages u z) b) h)
    ];
  }

  -- ---- the work of the chip

  plays-added : (r : Role) → Plays r w ts c → Plays r n new c
  plays-added Nothing h = tt
  plays-added (First u) h = (h.0, low (start_slot c.started) (omega arith) ∙ h.1 ∙ sym (block-is u (other u (active-live (ts.stage u) (inl h.2.stage)))), waits-added u h.2)
  plays-added (Asked u) h = (asks-added u h.0, there-added u (other u (active-live (ts.stage u) (inr h.0.stage))) h.1)
  plays-added (Working u) h = work-added u h
  plays-added (Closing u) h = (begun-added u h.0, out-added u (other u (active-live (ts.stage u) h.0.stage)) h.1)
  plays-added (Done u) h = (over-added u h.0, entered-added u (other u (active-live (ts.stage u) h.0.stage)) h.1)

  unit-added : (u r : ℕ) → IsUnitOf ts u r → IsUnitOf new u r
  unit-added u r h = subst (λ (us : List RigUnit). (u < length us) × ((slice_index_or us u no_unit).target ≡ r)) (sym a.units) h

  extra-added : (k : Work) → ((u : ℕ) → worker (role k) ≡ Some u → IsLive (ts.stage u)) → Extra k w ts → Extra k n new
  extra-added (Entering u x) s h = h
  extra-added (Selected u) s h = there-added u (other u (s u refl)) h
  extra-added (Ending u v) s h = (h.0, h.1, λ e. there-added u (other u (s u refl)) (h.2 e))
  extra-added (Carrying u p) s h =
      to-fixed (λ (f : Fixed). IsPointer n f.block (way f) (goal f) p) u (other u (s u refl)) (pointer-frame w n (block_of ts u) (way (ts.fixed u)) (goal (ts.fixed u)) p (table u (s u refl)) h)
  extra-added (Moving u x) s h =
      to-fixed (λ (f : Fixed). Names n f.block (way f) (goal f) (move_place x.phase x.entry) x) u (other u (s u refl)) (names-frame w n (block_of ts u) (way (ts.fixed u)) (goal (ts.fixed u)) (move_place x.phase x.entry) x (table u (s u refl)) h)
  extra-added (Behind u phase j) s h =
      to-fixed (λ (f : Fixed). (j ≤ 16) × IsSuffix (segments_from n f.block j) (goal f) × AreFilled n f.block j × IsWay (way f) phase) u (other u (s u refl))
      (h.0, subst (λ (l : List ℕ). IsSuffix l (goal (ts.fixed u))) (sym (segments-same w n (block_of ts u) j h.0 (table u (s u refl)))) h.1, filled-frame w n (block_of ts u) j (table u (s u refl)) h.2, h.3)
  extra-added (Returning u x) s h = h
  extra-added (Naming r) s h = h
  extra-added (ChoosingTarget r j) s h = subst (λ (us : List RigUnit). (r < 8) × (j < length (target_ops us))) (sym a.units) h
  extra-added (Finding r j) s h = subst (λ (us : List RigUnit). (r < 8) × (has_target us r ≡ true) × (j < length (lun_ops us r))) (sym a.units) h
  extra-added (Listed u r) s h = unit-added u r h
  extra-added (Tagged u g r) s h = (unit-added u r h.0, h.1)
  extra-added (InTable u x g r) s h = (unit-added u r h.0, h.1, h.2)
  extra-added (Offset u x k r) s h = (unit-added u r h.0, h.1, h.2, h.3)
  extra-added (Candidate b r) s h = (
    h.0,
    elim h.1 [
      | inl e ↦ inl (elim (same_or b (block_of new t)) [
        | inl z ↦ ap (λ (i : ℕ). field n i Gate) z ∙ a.gate
        | inr z ↦ a.outside (b + 0x1C) (omega (arith, h.0.below)) (other-block (block_of new t) b (b + 0x1C) (a.tickets.block t here) h.0 (λ i. z (sym i)) (omega arith) (omega arith)) ∙ e
      ])
      | inr e ↦
          let ne = other e.0 e.1.live in
          inr (e.0, record { live = now-live e.0 ne e.1.live; block_is = block-is e.0 ne ∙ e.1.block_is; target_is = target-is e.0 ne ∙ e.1.target_is })
    ],
  )
  extra-added (Saved u) s h = low 0x100C (omega arith) ∙ h ∙ sym (block-is u (other u (s u refl)))
  extra-added _ s h = tt

  works-added : (k : Work) → Works k w ts c → Works k n new c
  works-added k h =
      record { plays = plays-added (role k) h.plays; extra = extra-added k (λ u e. active-live (ts.stage u) (worker-active (role k) w ts c u e h.plays)) h.extra }

pub add_holds : AddHolds
add_holds version units s c w m desk t x h =
    let ts = tickets_of w.desk in
    let new = tickets_of desk in
    let v = word_at w.memory in
    let n = word_at m in
    let f = few version units s c w 0 h in
    let live : (u : ℕ) → worker (role (work_at s)) ≡ Some u → IsLive (ts.stage u) = λ u e. active-live (ts.stage u) (worker-active (role (work_at s)) v ts c u e h.works.plays) in
    record {
      size = x.size ∙ h.size;
      bytes = x.bytes;
      units_are = x.added.units ∙ h.units_are;
      few_units = h.few_units;
      version_is = x.version ∙ h.version_is;
      tickets = x.added.tickets;
      checked = x.checked;
      put = x.put ∙ h.put;
      take = x.take ∙ h.take;
      parts = parts-added version v n ts new t c f h.tickets x.added (closing_at s) h.parts;
      tags = tags-added version v n ts new t c f h.tickets x.added h.tags;
      donep = record { before = h.donep.before; entered = h.donep.entered; is = low version v n ts new t c f h.tickets x.added 0x1008 (omega arith) ∙ h.donep.is };
      works = works-added version v n ts new t c f h.tickets x.added (work_at s) h.works;
      stays = stays-same s w.stop w.resume w.regs v n ts new c c.queued c.taken (λ u e. block-is version v n ts new t c f h.tickets x.added u (other version v n ts new t c f h.tickets x.added u (live u e)))
          (entries-at s v n ts (unasked-same v n (low version v n ts new t c f h.tickets x.added 0x1000 (omega arith))) (λ u e. table version v n ts new t c f h.tickets x.added u (live u e))) h.stays;
      linked = linked-same (link_at s) ts new w.bus w.regs
          (λ u e. target-is version v n ts new t c f h.tickets x.added u (other version v n ts new t c f h.tickets x.added u (live u (link-worker s u e)))) h.linked;
    }
