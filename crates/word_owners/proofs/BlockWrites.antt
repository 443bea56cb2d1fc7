-- A word of a ticket's block that the script writes: LASTP, SAVEP, STATE or GATE.
use Rattle.std.proofs.Common.{◌≡◌, ◌≢◌, ◌⊎◌, inl, inr, ℕ, ◌+◌, ◌≤◌, length, refl, sym, ap, subst, ◌∙◌, arith, Option, Some, None}
use Rattle.bench_words.specs.Views.{Apart, Outside, Wrote}
use Rattle.cmd_block.specs.declared.Field.TheVariants.{Lastp, Savep, Gate}
use Rattle.phase_fix.specs.Remain.{field}
use Rattle.desk_law.specs.declared.stage.Stage.{Stage}
use Rattle.desk_law.specs.declared.stage.Stage.TheVariants.{Built, Linked, Queued, Sensing}
use Rattle.word_owners.specs.Tickets.{Tickets, block_of, target_of, goal, way, IsLive, IsActive, AreTickets}
use Rattle.word_owners.specs.Pointers.{IsPointer}
use Rattle.word_owners.specs.Parts.{Counts, Parts, TagTables, IsStart, IsBlock, IsFresh, IsBegun, IsOver, IsThere, NotStarting, NotEntered, MayWork}
use Rattle.word_owners.proofs.Frames.{SameState, same_or, active-live, block-with, not_starting-frame, not_entered-frame}
use Rattle.word_owners.proofs.StageChanges.{Aside}
use Rattle.word_owners.proofs.WriteFrames.{parts-block, tags-frame, may-work}

active-not-fresh : (s : Stage) → IsActive s → IsFresh s → ⊥
active-not-fresh s (inl a) (inl b) = let e : Queued ≡ Built = sym a ∙ b in absurd cc
active-not-fresh s (inl a) (inr b) = let e : Queued ≡ Linked = sym a ∙ b in absurd cc
active-not-fresh s (inr a) (inl b) = let e : Sensing ≡ Built = sym a ∙ b in absurd cc
active-not-fresh s (inr a) (inr b) = let e : Sensing ≡ Linked = sym a ∙ b in absurd cc

-- GATE of a ticket that is over may still be open
pub parts-closing : (version : ℕ) (w : ℕ → ℕ) (ts : Tickets) (c : Counts) (t : ℕ) → Parts version w ts c None → Parts version w ts c (Some t)
parts-closing version w ts c t p = record {
  loaded = p.loaded;
  chains = p.chains;
  constants = p.constants;
  fixed = p.fixed;
  front = p.front;
  ringp = p.ringp;
  start = p.start;
  done = p.done;
  blocks = p.blocks;
  fresh = p.fresh;
  there = p.there;
  gates = λ u l k e. p.gates u l (λ z. absurd cc) e;
}

-- once it is shut, it isn't
parts-closed : (version : ℕ) (w : ℕ → ℕ) (ts : Tickets) (c : Counts) (t : ℕ) → field w (block_of ts t) Gate ≢ 0x1B0 → Parts version w ts c (Some t) → Parts version w ts c None
parts-closed version w ts c t shut p = record {
  loaded = p.loaded;
  chains = p.chains;
  constants = p.constants;
  fixed = p.fixed;
  front = p.front;
  ringp = p.ringp;
  start = p.start;
  done = p.done;
  blocks = p.blocks;
  fresh = p.fresh;
  there = p.there;
  gates = λ u l k e. elim (same_or u t) [
    | inl z ↦ absurd (shut (subst (λ (i : ℕ). field w (block_of ts i) Gate ≡ 0x1B0) z e))
    | inr z ↦ p.gates u l (λ i. let q : t ≡ u = cc in z (sym q)) e
  ];
}

-- a word from LASTP to GATE, but SEL
module _ (version : ℕ) (w n : ℕ → ℕ) (ts : Tickets) (c : Counts) (few : length ts.units ≤ 16) (d : AreTickets ts) (t : ℕ) (live : IsLive (ts.stage t)) (off v : ℕ) (r : Wrote w n (block_of ts t + off) v)
    (low : 8 ≤ off) (high : off ≤ 0x1C) (not_sel : Apart off 0x18) where
  pub outside : (x : ℕ) → Outside x (block_of ts t) (block_of ts t + 0x200) → n x ≡ w x
  outside x o = r.other x (omega arith)

  pub below : (x : ℕ) → x + 4 ≤ 0x10000 → n x ≡ w x
  below x l = r.other x (omega (arith, (d.block t live).from))

  pub tags-wrote : TagTables w ts → TagTables n ts
  tags-wrote h = tags-frame w n ts d few (λ x f l. below x (omega arith)) h

  pub out-wrote : NotStarting w c (block_of ts t) → NotStarting n c (block_of ts t)
  out-wrote o = not_starting-frame w n c (block_of ts t) (λ x f l. below x (omega arith)) (below 0x1000 (omega arith)) o

  pub not_entered-wrote : NotEntered w c (block_of ts t) → NotEntered n c (block_of ts t)
  not_entered-wrote o = not_entered-frame w n c (block_of ts t) (λ x f l. below x (omega arith)) o

  pub block-wrote : IsPointer w (block_of ts t) (way (ts.fixed t)) (goal (ts.fixed t)) (field n (block_of ts t) Lastp) → IsPointer w (block_of ts t) (way (ts.fixed t)) (goal (ts.fixed t)) (field n (block_of ts t) Savep)
      → (field n (block_of ts t) Gate ≡ 0x1B0) ⊎ (field n (block_of ts t) Gate ≡ 0x1C0) → IsBlock w (ts.stage t) (ts.fixed t) (target_of ts t) → IsBlock n (ts.stage t) (ts.fixed t) (target_of ts t)
  block-wrote last saved gate h =
      let b = block_of ts t in
      let e0 = r.other (b + 0x00) (omega arith) in
      let e1 = r.other (b + 0x04) (omega arith) in
      block-with w n (ts.stage t) (ts.fixed t) (target_of ts t) (subst (IsStart (ts.stage t)) (sym e0) h.start)
      (elim h.restart [ inl k ↦ inl (e1 ∙ k) | inr k ↦ inr (e1 ∙ k) ])
      last saved gate (λ x i j. r.other x (omega arith)) (λ x i j. r.other x (omega arith)) h

  module _ (state : SameState w n ts t) where
    pub work-wrote : MayWork w ts c t → MayWork n ts c t
    work-wrote h = may-work version w n ts c None few t state (λ x f l. below x (omega arith)) (below 0x1000 (omega arith)) h

    -- STATE stays: the parts with the block as it is now, whose GATE is open only where the chip may work on it
    pub parts-wrote : (o : Option ℕ) → IsBlock n (ts.stage t) (ts.fixed t) (target_of ts t) → (o ≢ Some t → field n (block_of ts t) Gate ≡ 0x1B0 → (field w (block_of ts t) Gate ≡ 0x1B0) ⊎ MayWork w ts c t)
        → Parts version w ts c o → Parts version n ts c o
    parts-wrote o block gate p = parts-block version w n ts c o few d t (record {
      live = live;
      outside = outside;
      block = block;
      state = inl state;
      answered = λ e. inl (sym state ∙ e);
      fresh = λ f. state ∙ p.fresh t f;
      gate = λ k e. (gate k e, state);
    }) p

    -- a data pointer
    pub parts-pointer : field n (block_of ts t) Gate ≡ field w (block_of ts t) Gate → IsBlock n (ts.stage t) (ts.fixed t) (target_of ts t) → Parts version w ts c None → Parts version n ts c None
    parts-pointer same block p = parts-wrote None block (λ k e. inl (sym same ∙ e)) p

    -- GATE is shut: no ticket's GATE is open that is over
    pub parts-shut : v ≡ 0x1C0 → field n (block_of ts t) Gate ≡ v → IsBlock n (ts.stage t) (ts.fixed t) (target_of ts t) → Parts version w ts c (Some t) → Parts version n ts c None
    parts-shut shut same block p = parts-closed version n ts c t (λ e. absurd (omega (arith, shut, sym same ∙ e))) (parts-wrote (Some t) block (λ k e. absurd (k refl)) p)

-- ---- STATE: the ticket is over

module _ (version : ℕ) (w n : ℕ → ℕ) (ts : Tickets) (c : Counts) (few : length ts.units ≤ 16) (d : AreTickets ts) (t v : ℕ) (begun : IsBegun w ts t) (out : NotStarting w c (block_of ts t)) (some : 1 ≤ v) (most : v ≤ 3)
    (there : v ≡ 1 → IsThere ts t) (r : Wrote w n (block_of ts t + 0x10) v) (p : Parts version w ts c None) where
  alive : IsLive (ts.stage t)
  alive = active-live (ts.stage t) begun.stage

  not-entered : NotEntered w c (block_of ts t)
  not-entered i l u e = let x = p.done.entry i l u in absurd (omega (arith, x.2.some, begun.live, ap (λ (b : ℕ). w (b + 0x10)) (sym x.1 ∙ e)))

  pub over-now : IsOver n ts t
  over-now = record { stage = begun.stage; some = omega (arith, r.same, some); most = omega (arith, r.same, most) }

  pub not-entered-now : NotEntered n c (block_of ts t)
  not-entered-now = not_entered-wrote version w n ts c few d t alive 0x10 v r (omega arith) (omega arith) (omega arith) not-entered

  pub parts-over : Parts version n ts c (Some t)
  parts-over =
      let b = block_of ts t in
      let h = p.blocks t alive in
      let e2 = r.other (b + 0x08) (omega arith) in
      let e3 = r.other (b + 0x0C) (omega arith) in
      let e4 = r.other (b + 0x1C) (omega arith) in
      let block = block-wrote version w n ts c few d t alive 0x10 v r (omega arith) (omega arith) (omega arith)
      (subst (IsPointer w b (way (ts.fixed t)) (goal (ts.fixed t))) (sym e2) h.last)
      (subst (IsPointer w b (way (ts.fixed t)) (goal (ts.fixed t))) (sym e3) h.saved)
      (elim h.gate [ inl k ↦ inl (e4 ∙ k) | inr k ↦ inr (e4 ∙ k) ]) h in
      let aside : Aside w ts c t = record { start = out.ring; done = not-entered; front = λ a. out.front a.is } in
      parts-block version w n ts c (Some t) few d t (record {
        live = alive;
        outside = λ x o. r.other x (omega arith);
        block = block;
        state = inr aside;
        answered = λ e. inr (there (sym r.same ∙ e));
        fresh = λ f. absurd (active-not-fresh (ts.stage t) begun.stage f);
        gate = λ k e. absurd (k refl);
      }) (parts-closing version w ts c t p)
