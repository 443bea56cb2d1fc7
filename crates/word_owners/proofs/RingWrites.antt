-- A write of RINGP, of a done slot, of DONEP or of CUR leaves the rest of the parts.
use Rattle.std.proofs.Common.{◌≡◌, ◌≢◌, ◌⊎◌, inl, inr, ℕ, ◌+◌, ◌<◌, ◌≤◌, length, sym, ap, ◌∙◌, arith, None}
use Rattle.std.proofs.Math.Nat.{eq-or-lt_of_le}
use Rattle.bench_words.specs.Views.{Wrote}
use Rattle.host_map.specs.declared.TheConstants.{FRONT, RINGP}
use Rattle.host_map.specs.Places.{start_slot, done_slot}
use Rattle.desk_law.specs.declared.stage.Stage.{Stage}
use Rattle.desk_law.specs.declared.stage.Stage.TheVariants.{Queued, Sensing}
use Rattle.word_owners.specs.Tickets.{Tickets, block_of, target_of, IsLive, AreTickets}
use Rattle.word_owners.specs.Parts.{Counts, Parts, StartRing, DoneRing, IsBegun, IsOver, NotStarting, MayWork, IsFront}
use Rattle.word_owners.specs.Works.{First, Done, Plays}
use Rattle.word_owners.proofs.Frames.{Same, SameState, same_or, active-live, loaded-frame, chains-frame, constants-frame, fixed-frame, block-frame, begun-frame, over-frame, start-frame, done-frame, front-frame, not_starting-frame}
use Rattle.word_owners.proofs.WriteFrames.{Spares, fresh-live}
use Rattle.word_owners.proofs.Room.{done-room}

-- live tickets with one block are one
pub same-ticket : (ts : Tickets) (d : AreTickets ts) (t u : ℕ) → IsLive (ts.stage t) → IsLive (ts.stage u) → block_of ts t ≡ block_of ts u → t ≡ u
same-ticket ts d t u l m e = elim (same_or t u) [ inl z ↦ z | inr z ↦ absurd (d.blocks t u l m z e) ]

pub queued-not-sensing : (s : Stage) → s ≡ Queued → s ≡ Sensing → ⊥
queued-not-sensing s a b = let e : Queued ≡ Sensing = sym a ∙ b in absurd cc

-- a word among the control words or in a ring was written: what is left of the parts beside FRONT, RINGP and the rings
module _ (version : ℕ) (w n : ℕ → ℕ) (ts : Tickets) (c e : Counts) (few : length ts.units ≤ 16) (d : AreTickets ts) (a v : ℕ) (r : Wrote w n a v) (low : 0x1000 ≤ a) (high : (a + 4 ≤ 0x1014) ⊎ ((0x2000 ≤ a) × (a + 4 ≤ 0x4000))) where
  pub beside : (x : ℕ) → (x + 4 ≤ 0x1000) ⊎ (((0x1014 ≤ x) × (x + 4 ≤ 0x2000)) ⊎ (0x4000 ≤ x)) → n x ≡ w x
  beside x o = elim high [
    | inl h ↦ elim o [ inl k ↦ r.other x (omega arith) | inr (inl k) ↦ r.other x (omega (arith, k.0)) | inr (inr k) ↦ r.other x (omega arith) ]
    | inr h ↦ elim o [ inl k ↦ r.other x (omega (arith, h.0)) | inr (inl k) ↦ r.other x (omega (arith, h.0, k.1)) | inr (inr k) ↦ r.other x (omega (arith, h.1)) ]
  ]

  upper : (x : ℕ) → 0x4000 ≤ x → n x ≡ w x
  upper x l = beside x (inr (inr l))

  middle : Same w n 0x1014 0x2000
  middle x l u = beside x (inr (inl (l, u)))

  state : (t : ℕ) → IsLive (ts.stage t) → SameState w n ts t
  state t l = upper (block_of ts t + 0x10) (omega (arith, (d.block t l).from))

  pub parts-beside : IsFront n ts → n RINGP ≡ start_slot e.started → StartRing n ts e.started e.queued → DoneRing n ts e.taken e.entered → ((t : ℕ) → IsLive (ts.stage t) → MayWork w ts c t → MayWork n ts e t)
      → Parts version w ts c None → Parts version n ts e None
  parts-beside front ringp start done work p = record {
    loaded = loaded-frame w n version (λ x f g. beside x (inl (omega arith))) p.loaded;
    chains = chains-frame w n ts.units few (λ x f g. upper x (omega arith)) p.chains;
    constants = constants-frame w n (λ x f g. middle x f (omega arith)) p.constants;
    fixed = fixed-frame w n (λ x f g. middle x (omega arith) (omega arith)) p.fixed;
    front = front;
    ringp = ringp;
    start = start;
    done = done;
    blocks = λ t l. block-frame w n (ts.stage t) (ts.fixed t) (target_of ts t) (λ x f g. upper x (omega (arith, (d.block t l).from))) (λ x f g. upper x (omega (arith, (d.block t l).from))) (p.blocks t l);
    fresh = λ t f. state t (fresh-live (ts.stage t) f) ∙ p.fresh t f;
    there = λ t l h. p.there t l (elim h [
      | inl x ↦ inl x
      | inr (inl x) ↦ inr (inl x)
      | inr (inr x) ↦ inr (inr (sym (state t l) ∙ x))
    ]);
    gates = λ t l k x. work t l (p.gates t l k (sym (upper (block_of ts t + 0x1C) (omega (arith, (d.block t l).from))) ∙ x));
  }

-- DONEP or CUR was written
pub spares-control : (w n : ℕ → ℕ) (ts : Tickets) (d : AreTickets ts) (a v : ℕ) → Wrote w n a v → 0x1008 ≤ a → a + 4 ≤ 0x1014 → Spares w n ts
spares-control w n ts d a v r l u = record {
  script = λ x f g. r.other x (omega arith);
  front = r.other 0x1000 (omega arith);
  ringp = r.other 0x1004 (omega arith);
  constants = λ x f g. r.other x (omega arith);
  fixed = fixed-frame w n (λ x f g. r.other x (omega arith));
  starts = λ x f g. r.other x (omega arith);
  dones = λ x f g. r.other x (omega arith);
  chains = λ x f g. r.other x (omega arith);
  lower = λ t k x f g. r.other x (omega (arith, (d.block t k).from));
  upper = λ t k x f g. r.other x (omega (arith, (d.block t k).from));
}

-- ---- the first ticket of the start ring is passed

abbrev pub passed : Counts → Counts
passed c = record c { started = c.started + 1 }

module _ (version : ℕ) (w n : ℕ → ℕ) (ts : Tickets) (c : Counts) (few : length ts.units ≤ 16) (d : AreTickets ts) (t : ℕ) (r : Wrote w n RINGP (start_slot (c.started + 1))) (h : Plays (First t) w ts c) (p : Parts version w ts c None) where
  live : IsLive (ts.stage t)
  live = active-live (ts.stage t) (inl h.2.stage)

  above : (x : ℕ) → 0x1008 ≤ x → n x ≡ w x
  above x l = r.other x (omega arith)

  state-above : (u : ℕ) → IsLive (ts.stage u) → SameState w n ts u
  state-above u l = above (block_of ts u + 0x10) (omega (arith, (d.block u l).from))

  pub begun-passed : IsBegun n ts t
  begun-passed = begun-frame w n ts t (state-above t live) (record { stage = inl h.2.stage; live = h.2.live })

  front-other : (u : ℕ) → (ts.stage u ≡ Sensing) → w FRONT ≡ block_of ts u → n FRONT ≢ block_of ts t
  front-other u s is e = queued-not-sensing (ts.stage t) h.2.stage (ap ts.stage (same-ticket ts d t u live (active-live (ts.stage u) (inr s)) (sym e ∙ r.other 0x1000 (omega arith) ∙ is)) ∙ s)

  pub out-passed : NotStarting n (passed c) (block_of ts t)
  out-passed = record {
    ring = λ i l u e. p.start.once c.started i (omega arith) (omega arith) u (h.1 ∙ sym e ∙ above (start_slot i) (omega arith));
    front = elim p.front [
      | inl k ↦ λ e. let z : block_of ts t ≡ 0x1600 = sym e ∙ r.other 0x1000 (omega arith) ∙ k in absurd (omega (arith, z, (d.block t live).from))
      | inr (inl k) ↦ λ e. let z : block_of ts t ≡ 0x1800 = sym e ∙ r.other 0x1000 (omega arith) ∙ k in absurd (omega (arith, z, (d.block t live).from))
      | inr (inr k) ↦ front-other k.0 k.1.stage k.1.is
    ];
  }

  still-out : (b : ℕ) → NotStarting w c b → NotStarting n (passed c) b
  still-out b o = record {
    ring = λ i l u e. o.ring i (omega arith) u (sym (above (start_slot i) (omega arith)) ∙ e);
    front = λ e. o.front (sym (r.other 0x1000 (omega arith)) ∙ e);
  }

  start-passed : StartRing n ts (c.started + 1) c.queued
  start-passed = let s = start-frame w n ts c.started c.queued (λ x f g. above x (omega arith)) (λ u i q l k e. state-above u (active-live (ts.stage u) (inl q.stage))) p.start in record {
    order = omega (arith, h.0);
    entry = λ i l u. s.entry i (omega arith) u;
    once = λ i j l k u. s.once i j (omega arith) k u;
    idle = s.idle;
    next = s.next;
  }

  pub parts-passed : Parts version n ts (passed c) None
  parts-passed = parts-beside version w n ts c (passed c) few d RINGP (start_slot (c.started + 1)) r (omega arith) (inl (omega arith))
      (front-frame w n ts (r.other 0x1000 (omega arith)) (λ u q. state-above u (active-live (ts.stage u) (inr q.stage))) p.front)
      r.same start-passed
      (done-frame w n ts c.taken c.entered (λ x f g. above x (omega arith)) (λ u i q l k e. state-above u (active-live (ts.stage u) q.stage)) p.done)
      (λ u l q. record { begun = begun-frame w n ts u (state-above u l) q.begun; out = still-out (block_of ts u) q.out; there = q.there })
      p

-- ---- a ticket that is over enters the done ring

abbrev pub entered : Counts → Counts
entered c = record c { entered = c.entered + 1 }

module _ (version : ℕ) (w n : ℕ → ℕ) (ts : Tickets) (c : Counts) (few : length ts.units ≤ 16) (d : AreTickets ts) (t : ℕ) (r : Wrote w n (done_slot c.entered) (block_of ts t)) (h : Plays (Done t) w ts c) (p : Parts version w ts c None) where
  apart : (x : ℕ) → (x + 4 ≤ 0x3000) ⊎ (0x4000 ≤ x) → n x ≡ w x
  apart x (inl k) = r.other x (omega arith)
  apart x (inr k) = r.other x (omega arith)

  state-apart : (u : ℕ) → IsLive (ts.stage u) → SameState w n ts u
  state-apart u l = apart (block_of ts u + 0x10) (inr (omega (arith, (d.block u l).from)))

  over-apart : (u : ℕ) → IsOver w ts u → IsOver n ts u
  over-apart u q = over-frame w n ts u (state-apart u (active-live (ts.stage u) q.stage)) q

  slot-apart : (i : ℕ) → i ≤ c.entered → c.entered < i + 512 → i ≢ c.entered → n (done_slot i) ≡ w (done_slot i)
  slot-apart i l u ne = r.other (done_slot i) (omega arith)

  room : c.entered ≤ c.taken + 256
  room = done-room w ts c d p.done

  entry-entered : (i : ℕ) → c.taken ≤ i → (i ≡ c.entered) ⊎ (i < c.entered) → (u : ℕ) × (n (done_slot i) ≡ block_of ts u) × IsOver n ts u
  entry-entered i l (inl e) = (t, ap (λ (x : ℕ). n (done_slot x)) e ∙ r.same, over-apart t h.0)
  entry-entered i l (inr u) = let x = p.done.entry i l u in (x.0, r.other (done_slot i) (omega (arith, room)) ∙ x.1, over-apart x.0 x.2)

  once-entered : (i j : ℕ) → c.taken ≤ i → i < j → (j ≡ c.entered) ⊎ (j < c.entered) → n (done_slot i) ≢ n (done_slot j)
  once-entered i j l k (inl e) f = h.1 i l (omega arith) (sym (r.other (done_slot i) (omega (arith, room))) ∙ f ∙ ap (λ (x : ℕ). n (done_slot x)) e ∙ r.same)
  once-entered i j l k (inr u) f = p.done.once i j l k u (sym (r.other (done_slot i) (omega (arith, room))) ∙ f ∙ r.other (done_slot j) (omega (arith, room)))

  done-entered : DoneRing n ts c.taken (c.entered + 1)
  done-entered = record {
    order = omega (arith, p.done.order);
    entry = λ i l u. entry-entered i l (eq-or-lt_of_le (omega arith));
    once = λ i j l k u. once-entered i j l k (eq-or-lt_of_le (omega arith));
    idle = λ i l u. r.other (done_slot i) (omega (arith, room)) ∙ p.done.idle i (omega arith) u;
    next = λ i. r.other (done_slot i + 4) (omega arith) ∙ p.done.next i;
  }

  still-starting : (b : ℕ) → NotStarting w c b → NotStarting n (entered c) b
  still-starting b o = let x = not_starting-frame w n c b (λ y f g. apart y (inl (omega arith))) (apart 0x1000 (inl (omega arith))) o in record { ring = x.ring; front = x.front }

  pub parts-entered : Parts version n ts (entered c) None
  parts-entered = parts-beside version w n ts c (entered c) few d (done_slot c.entered) (block_of ts t) r (omega arith) (inr (omega arith, omega arith))
      (front-frame w n ts (apart 0x1000 (inl (omega arith))) (λ u q. state-apart u (active-live (ts.stage u) (inr q.stage))) p.front)
      (apart 0x1004 (inl (omega arith)) ∙ p.ringp)
      (start-frame w n ts c.started c.queued (λ x f g. apart x (inl (omega arith))) (λ u i q l k e. state-apart u (active-live (ts.stage u) (inl q.stage))) p.start)
      done-entered
      (λ u l q. record { begun = begun-frame w n ts u (state-apart u l) q.begun; out = still-starting (block_of ts u) q.out; there = q.there })
      p
