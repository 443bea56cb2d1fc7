-- What a write leaves of the parts: one beside them all, and one within a block.
use Rattle.std.proofs.Common.{◌≡◌, ◌≢◌, ◌⊎◌, inl, inr, ℕ, ◌+◌, ◌<◌, ◌≤◌, List, length, refl, sym, ap, subst, ◌∙◌, arith, Option, Some}
use Rattle.bench_words.specs.Views.{Outside}
use Rattle.host_map.specs.declared.TheConstants.{FRONT, RINGP}
use Rattle.host_map.specs.Places.{start_slot, tag_entry}
use Rattle.cmd_block.specs.declared.Field.TheVariants.{State, Gate}
use Rattle.opening_memory.specs.Laws.{HasFixedBlocks}
use Rattle.phase_fix.specs.Remain.{field}
use Rattle.desk_law.specs.declared.stage.Stage.{Stage}
use Rattle.desk_law.specs.declared.stage.Stage.TheVariants.{Built, Linked, Freed}
use Rattle.word_owners.specs.Tickets.{Tickets, block_of, target_of, goal, way, IsLive, AreTickets}
use Rattle.word_owners.specs.Pointers.{IsSuffix, move_place}
use Rattle.word_owners.specs.Points.{Work, Entering, Selected, Ending, Carrying, Moving, Behind, Returning, Naming, ChoosingTarget, Finding, Listed, Tagged, InTable, Offset, Candidate, Saved}
use Rattle.word_owners.specs.Parts.{Counts, Parts, TagTables, Asks, IsBlock, IsThere, MayWork, HasAnswered, IsFresh}
use Rattle.word_owners.specs.Works.{Role, Nothing, First, Asked, Working, Closing, Done, role, worker, Plays, Extra, Works}
use Rattle.word_owners.proofs.Frames.{Same, SameState, same_or, active-live, other-block, loaded-frame, chains-frame, constants-frame, fixed-frame, segments-same, filled-frame, names-frame, pointer-frame, block-frame, waits-frame, begun-frame, over-frame, start-frame, done-frame, entry-frame, front-frame, not_starting-frame, not_entered-frame}
use Rattle.word_owners.proofs.StageChanges.{Aside, worker-active}

pub fresh-live : (x : Stage) → IsFresh x → IsLive x
fresh-live x (inl e) q = let z : Built ≡ Freed = sym e ∙ q in absurd cc
fresh-live x (inr e) q = let z : Linked ≡ Freed = sym e ∙ q in absurd cc

pub tags-frame : (w n : ℕ → ℕ) (ts : Tickets) → AreTickets ts → length ts.units ≤ 16 → Same w n 0x4000 0x8000 → TagTables w ts → TagTables n ts
tags-frame w n ts d few o h = record {
  entries = λ unit tag l m. entry-frame w n ts unit tag (o (tag_entry unit tag) (omega arith) (omega arith)) (h.entries unit tag l m);
  entered = λ t b.
      let u : (ts.fixed t).unit < 16 = omega (arith, d.unit t b.live, few) in
      let g : (ts.fixed t).tag < 256 = d.tag t b.live in
      o (tag_entry (ts.fixed t).unit (ts.fixed t).tag) (omega arith) (omega arith) ∙ h.entered t b;
}

-- ---- a word that no part speaks of

pub record Spares (w n : ℕ → ℕ) (ts : Tickets) : Type 0 where
  pub script : Same w n 0 0x4B8
  pub front : n FRONT ≡ w FRONT
  pub ringp : n RINGP ≡ w RINGP
  pub constants : Same w n 0x1014 0x1034
  pub fixed : HasFixedBlocks w → HasFixedBlocks n
  pub starts : Same w n 0x2000 0x3000
  pub dones : Same w n 0x3000 0x4000
  pub chains : Same w n 0x8000 0x9000
  pub lower : (t : ℕ) → IsLive (ts.stage t) → Same w n (block_of ts t) (block_of ts t + 0x14)
  pub upper : (t : ℕ) → IsLive (ts.stage t) → Same w n (block_of ts t + 0x18) (block_of ts t + 0xE0)

module _ (version : ℕ) (w n : ℕ → ℕ) (ts : Tickets) (c : Counts) (o : Option ℕ) (few : length ts.units ≤ 16) where
  -- work on a ticket goes on where its STATE, the start ring and FRONT stay
  pub may-work : (t : ℕ) → SameState w n ts t → Same w n 0x2000 0x3000 → n FRONT ≡ w FRONT → MayWork w ts c t → MayWork n ts c t
  may-work t e s f h = record { begun = begun-frame w n ts t e h.begun; out = not_starting-frame w n c (block_of ts t) s f h.out; there = h.there }

  pub parts-spared : Spares w n ts → Parts version w ts c o → Parts version n ts c o
  parts-spared s p =
      let state : (t : ℕ) → IsLive (ts.stage t) → SameState w n ts t = λ t l. s.lower t l (block_of ts t + 0x10) (omega arith) (omega arith) in
      let gate : (t : ℕ) → IsLive (ts.stage t) → field n (block_of ts t) Gate ≡ field w (block_of ts t) Gate = λ t l. s.upper t l (block_of ts t + 0x1C) (omega arith) (omega arith) in
      record {
        loaded = loaded-frame w n version s.script p.loaded;
        chains = chains-frame w n ts.units few s.chains p.chains;
        constants = constants-frame w n s.constants p.constants;
        fixed = s.fixed p.fixed;
        front = front-frame w n ts s.front (λ t h. state t (active-live (ts.stage t) (inr h.stage))) p.front;
        ringp = s.ringp ∙ p.ringp;
        start = start-frame w n ts c.started c.queued s.starts (λ t i h l u e. state t (active-live (ts.stage t) (inl h.stage))) p.start;
        done = done-frame w n ts c.taken c.entered s.dones (λ t i h l u e. state t (active-live (ts.stage t) h.stage)) p.done;
        blocks = λ t l. block-frame w n (ts.stage t) (ts.fixed t) (target_of ts t) (λ x a b. s.lower t l x a (omega arith)) (s.upper t l) (p.blocks t l);
        fresh = λ t f. state t (fresh-live (ts.stage t) f) ∙ p.fresh t f;
        there = λ t l h. p.there t l (elim h [ inl e ↦ inl e | inr (inl e) ↦ inr (inl e) | inr (inr e) ↦ inr (inr (sym (state t l) ∙ e)) ]);
        gates = λ t l k e. may-work t (state t l) s.starts s.front (p.gates t l k (sym (gate t l) ∙ e));
      }

  -- ---- a write within the block of a live ticket

  pub record BlockChanges (t : ℕ) : Type 0 where
    pub live : IsLive (ts.stage t)
    pub outside : (x : ℕ) → Outside x (block_of ts t) (block_of ts t + 0x200) → n x ≡ w x
    pub block : IsBlock n (ts.stage t) (ts.fixed t) (target_of ts t)
    pub state : SameState w n ts t ⊎ Aside w ts c t
    pub answered : field n (block_of ts t) State ≡ 1 → (field w (block_of ts t) State ≡ 1) ⊎ IsThere ts t
    pub fresh : IsFresh (ts.stage t) → field n (block_of ts t) State ≡ 0
    pub gate : o ≢ Some t → field n (block_of ts t) Gate ≡ 0x1B0 → ((field w (block_of ts t) Gate ≡ 0x1B0) ⊎ MayWork w ts c t) × SameState w n ts t

  module _ (d : AreTickets ts) (t : ℕ) (b : BlockChanges t) where
    pub low-same : (x : ℕ) → x + 4 ≤ 0x10000 → n x ≡ w x
    low-same x l = b.outside x (omega (arith, (d.block t b.live).from))

    -- the block of another ticket
    other-same : (u : ℕ) → IsLive (ts.stage u) → u ≢ t → Same w n (block_of ts u) (block_of ts u + 0x200)
    other-same u l ne x f g = b.outside x (other-block (block_of ts t) (block_of ts u) x (d.block t b.live) (d.block u l) (λ e. d.blocks t u b.live l (λ i. ne (sym i)) e) f g)

    state-other : (u : ℕ) → IsLive (ts.stage u) → u ≢ t → SameState w n ts u
    state-other u l ne = other-same u l ne (block_of ts u + 0x10) (omega arith) (omega arith)

    gate-other : (u : ℕ) → IsLive (ts.stage u) → u ≢ t → field n (block_of ts u) Gate ≡ field w (block_of ts u) Gate
    gate-other u l ne = other-same u l ne (block_of ts u + 0x1C) (omega arith) (omega arith)

    -- STATE of a ticket that isn't t, unless that of t stays
    state-unless : (u : ℕ) → IsLive (ts.stage u) → (Aside w ts c t → u ≢ t) → SameState w n ts u
    state-unless u l ne = elim (same_or u t) [
      | inl z ↦ elim b.state [
        | inl e ↦ subst (λ (i : ℕ). SameState w n ts i) (sym z) e
        | inr a ↦ absurd (ne a z)
      ]
      | inr z ↦ state-other u l z
    ]

    fresh-block : (u : ℕ) → IsFresh (ts.stage u) → ((v : ℕ) → IsFresh (ts.stage v) → field w (block_of ts v) State ≡ 0) → field n (block_of ts u) State ≡ 0
    fresh-block u f p = elim (same_or u t) [
      | inl z ↦ subst (λ (i : ℕ). field n (block_of ts i) State ≡ 0) (sym z) (b.fresh (subst (λ (i : ℕ). IsFresh (ts.stage i)) z f))
      | inr z ↦ state-other u (fresh-live (ts.stage u) f) z ∙ p u f
    ]

    answered-before : (u : ℕ) → IsLive (ts.stage u) → HasAnswered n ts u → HasAnswered w ts u ⊎ IsThere ts u
    answered-before u l (inl e) = inl (inl e)
    answered-before u l (inr (inl e)) = inl (inr (inl e))
    answered-before u l (inr (inr e)) = elim (same_or u t) [
      | inl z ↦ elim (b.answered (subst (λ (i : ℕ). field n (block_of ts i) State ≡ 1) z e)) [
        | inl k ↦ inl (inr (inr (subst (λ (i : ℕ). field w (block_of ts i) State ≡ 1) (sym z) k)))
        | inr k ↦ inr (subst (λ (i : ℕ). IsThere ts i) (sym z) k)
      ]
      | inr z ↦ inl (inr (inr (sym (state-other u l z) ∙ e)))
    ]

    starts-same : Same w n 0x2000 0x3000
    starts-same x f g = low-same x (omega arith)

    gates-block : (u : ℕ) → IsLive (ts.stage u) → o ≢ Some u → field n (block_of ts u) Gate ≡ 0x1B0 → ((field w (block_of ts u) Gate ≡ 0x1B0) ⊎ MayWork w ts c u) × SameState w n ts u
    gates-block u l k e = elim (same_or u t) [
      | inl z ↦ subst (λ (i : ℕ). ((field w (block_of ts i) Gate ≡ 0x1B0) ⊎ MayWork w ts c i) × SameState w n ts i) (sym z)
          (b.gate (λ i. k (i ∙ ap (λ (j : ℕ). Some j) (sym z))) (subst (λ (i : ℕ). field n (block_of ts i) Gate ≡ 0x1B0) z e))
      | inr z ↦ (inl (sym (gate-other u l z) ∙ e), state-other u l z)
    ]

    pub parts-block : Parts version w ts c o → Parts version n ts c o
    parts-block p = record {
      loaded = loaded-frame w n version (λ x f g. low-same x (omega arith)) p.loaded;
      chains = chains-frame w n ts.units few (λ x f g. low-same x (omega arith)) p.chains;
      constants = constants-frame w n (λ x f g. low-same x (omega arith)) p.constants;
      fixed = fixed-frame w n (λ x f g. low-same x (omega arith)) p.fixed;
      front = front-frame w n ts (low-same 0x1000 (omega arith)) (λ u h. state-unless u (active-live (ts.stage u) (inr h.stage)) (λ a z. a.front (subst (λ (i : ℕ). Asks w ts i) z h))) p.front;
      ringp = low-same 0x1004 (omega arith) ∙ p.ringp;
      start = start-frame w n ts c.started c.queued starts-same (λ u i h l g e. state-unless u (active-live (ts.stage u) (inl h.stage)) (λ a z. a.start i l g (e ∙ ap (block_of ts) z))) p.start;
      done = done-frame w n ts c.taken c.entered (λ x f g. low-same x (omega arith)) (λ u i h l g e. state-unless u (active-live (ts.stage u) h.stage) (λ a z. a.done i l g (e ∙ ap (block_of ts) z))) p.done;
      blocks = λ u l. elim (same_or u t) [
        | inl z ↦ subst (λ (i : ℕ). IsBlock n (ts.stage i) (ts.fixed i) (target_of ts i)) (sym z) b.block
        | inr z ↦
            let s = other-same u l z in
            block-frame w n (ts.stage u) (ts.fixed u) (target_of ts u) (λ x f g. s x f (omega arith)) (λ x f g. s x (omega arith) (omega arith)) (p.blocks u l)
      ];
      fresh = λ u f. fresh-block u f p.fresh;
      there = λ u l h. elim (answered-before u l h) [ inl a ↦ p.there u l a | inr a ↦ a ];
      gates = λ u l k e.
          let g = gates-block u l k e in
          may-work u g.1 starts-same (low-same 0x1000 (omega arith)) (elim g.0 [ inl i ↦ p.gates u l k i | inr i ↦ i ]);
    }

    -- ---- the work of the chip

    -- it is on another ticket, or on t, whose STATE and data entries stay
    abbrev pub Untouched : Work → Type 0
    Untouched k = (u : ℕ) → worker (role k) ≡ Some u → (u ≢ t) ⊎ ((u ≡ t) × SameState w n ts t × Same w n (block_of ts t + 0x40) (block_of ts t + 0xE0))

    state-work : (u : ℕ) → IsLive (ts.stage u) → (u ≢ t) ⊎ ((u ≡ t) × SameState w n ts t × Same w n (block_of ts t + 0x40) (block_of ts t + 0xE0)) → SameState w n ts u
    state-work u l (inl ne) = state-other u l ne
    state-work u l (inr h) = subst (λ (i : ℕ). SameState w n ts i) (sym h.0) h.1

    table-work : (u : ℕ) → IsLive (ts.stage u) → (u ≢ t) ⊎ ((u ≡ t) × SameState w n ts t × Same w n (block_of ts t + 0x40) (block_of ts t + 0xE0)) → Same w n (block_of ts u + 0x40) (block_of ts u + 0xE0)
    table-work u l (inl ne) = λ x f g. other-same u l ne x (omega arith) (omega arith)
    table-work u l (inr h) = subst (λ (i : ℕ). Same w n (block_of ts i + 0x40) (block_of ts i + 0xE0)) (sym h.0) h.2

    plays-block : (r : Role) → ((u : ℕ) → worker r ≡ Some u → SameState w n ts u) → Plays r w ts c → Plays r n ts c
    plays-block Nothing s h = tt
    plays-block (First u) s h = (h.0, starts-same (start_slot c.started) (omega arith) (omega arith) ∙ h.1, waits-frame w n ts u (s u refl) h.2)
    plays-block (Asked u) s h = (record { is = low-same 0x1000 (omega arith) ∙ h.0.is; stage = h.0.stage; live = s u refl ∙ h.0.live }, h.1)
    plays-block (Working u) s h = may-work u (s u refl) starts-same (low-same 0x1000 (omega arith)) h
    plays-block (Closing u) s h = (begun-frame w n ts u (s u refl) h.0, not_starting-frame w n c (block_of ts u) starts-same (low-same 0x1000 (omega arith)) h.1)
    plays-block (Done u) s h = (over-frame w n ts u (s u refl) h.0, not_entered-frame w n c (block_of ts u) (λ x f g. low-same x (omega arith)) h.1)

    extra-block : (k : Work) → ((u : ℕ) → worker (role k) ≡ Some u → Same w n (block_of ts u + 0x40) (block_of ts u + 0xE0)) → (field w (block_of ts t) Gate ≡ 0x1C0 → field n (block_of ts t) Gate ≡ 0x1C0) → Extra k w ts → Extra k n ts
    extra-block (Carrying u p) s g h = pointer-frame w n (block_of ts u) (way (ts.fixed u)) (goal (ts.fixed u)) p (s u refl) h
    extra-block (Moving u x) s g h = names-frame w n (block_of ts u) (way (ts.fixed u)) (goal (ts.fixed u)) (move_place x.phase x.entry) x (s u refl) h
    extra-block (Behind u phase j) s g h =
        (h.0, subst (λ (l : List ℕ). IsSuffix l (goal (ts.fixed u))) (sym (segments-same w n (block_of ts u) j h.0 (s u refl))) h.1, filled-frame w n (block_of ts u) j (s u refl) h.2, h.3)
    extra-block (Candidate a r) s g h = (
      h.0,
      elim h.1 [
        | inl e ↦ inl (elim (same_or a (block_of ts t)) [
          | inl z ↦ subst (λ (i : ℕ). field n i Gate ≡ 0x1C0) (sym z) (g (subst (λ (i : ℕ). field w i Gate ≡ 0x1C0) z e))
          | inr z ↦ b.outside (a + 0x1C) (other-block (block_of ts t) a (a + 0x1C) (d.block t b.live) h.0 (λ i. z (sym i)) (omega arith) (omega arith)) ∙ e
        ])
        | inr e ↦ inr e
      ],
    )
    extra-block (Saved u) s g h = low-same 0x100C (omega arith) ∙ h
    extra-block (Entering u a) s g h = h
    extra-block (Selected u) s g h = h
    extra-block (Ending u v) s g h = h
    extra-block (Returning u a) s g h = h
    extra-block (Naming r) s g h = h
    extra-block (ChoosingTarget r j) s g h = h
    extra-block (Finding r j) s g h = h
    extra-block (Listed u r) s g h = h
    extra-block (Tagged u x r) s g h = h
    extra-block (InTable u y x r) s g h = h
    extra-block (Offset u y k r) s g h = h
    extra-block _ s g h = tt

    pub entries-block : (k : Work) → Untouched k → Works k w ts c → (u : ℕ) → worker (role k) ≡ Some u → Same w n (block_of ts u + 0x40) (block_of ts u + 0xE0)
    entries-block k f h u e = table-work u (active-live (ts.stage u) (worker-active (role k) w ts c u e h.plays)) (f u e)

    pub work-block : (k : Work) → Untouched k → (field w (block_of ts t) Gate ≡ 0x1C0 → field n (block_of ts t) Gate ≡ 0x1C0) → Works k w ts c → Works k n ts c
    work-block k f g h =
        let active = worker-active (role k) w ts c in
        record {
          plays = plays-block (role k) (λ u e. state-work u (active-live (ts.stage u) (active u e h.plays)) (f u e)) h.plays;
          extra = extra-block k (λ u e. table-work u (active-live (ts.stage u) (active u e h.plays)) (f u e)) g h.extra;
        }
