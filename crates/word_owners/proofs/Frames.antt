-- What words that stay as they were leave of each part.
use Rattle.std.proofs.Common.{◌≡◌, ◌≢◌, ◌⊎◌, inl, inr, ℕ, zero, suc, ◌+◌, ◌-◌, ◌*◌, ◌%◌, ◌<◌, ◌≤◌, List, length, refl, sym, ap, subst, ◌∙◌, arith}
use Rattle.scsi_words.specs.declared.phases.kinds.Direction.{Direction}
use Rattle.bench_words.specs.Views.{Outside}
use Rattle.host_map.specs.declared.TheConstants.{FRONT}
use Rattle.host_map.specs.Places.{start_slot, done_slot, tag_entry, IsCommandBlock}
use Rattle.driver_script.specs.Script.{IsLoaded}
use Rattle.cmd_block.specs.declared.Field.TheVariants.{Start, Restart, Lastp, Savep, State, Gate}
use Rattle.rig_types.specs.declared.rig.Unit.{Unit as RigUnit}
use Rattle.rig_chains.specs.Chains.{IsLaid}
use Rattle.rig_chains.proofs.LaidLaws.{laid_kept}
use Rattle.opening_memory.specs.Laws.{HasConstants, HasFixedBlocks}
use Rattle.phase_fix.specs.declared.moves.DataMove.{DataMove}
use Rattle.phase_fix.specs.declared.moves.DataPhase.{DataPhase}
use Rattle.phase_fix.specs.declared.moves.Entry.{Entry}
use Rattle.phase_fix.specs.declared.moves.Entry.TheVariants.{Segment, Context}
use Rattle.phase_fix.specs.Moves.{IsEntry as IsMoveEntry}
use Rattle.phase_fix.specs.Remain.{field, remain, segments, segments_from, ReturnsToSegments}
use Rattle.phase_fix.proofs.MoveLaws.{move_stands}
use Rattle.phase_fix.proofs.RemainLaws.{SegmentsKept, ContextKept, remain-kept}
use Rattle.desk_law.specs.declared.stage.Stage.{Stage}
use Rattle.desk_law.specs.declared.stage.Stage.TheVariants.{Queued, Sensing, Freed}
use Rattle.word_owners.specs.Tickets.{Fixed, Tickets, block_of, goal, way, IsLive, IsActive}
use Rattle.word_owners.specs.Pointers.{IsSuffix, Follows, AreFilled, GoesBack, Names, IsPointer}
use Rattle.word_owners.specs.Parts.{Counts, Waits, IsBegun, IsOver, StartRing, DoneRing, NotStarting, NotEntered, Asks, IsFront, IsEntry, IsStart, IsBlock}

-- words as before from one place up to another
abbrev pub Same : (ℕ → ℕ) → (ℕ → ℕ) → ℕ → ℕ → Type 0
Same w n low high = (x : ℕ) → low ≤ x → x + 4 ≤ high → n x ≡ w x

pub active-live : (s : Stage) → IsActive s → IsLive s
active-live s (inl q) e = let f : Queued ≡ Freed = sym q ∙ e in absurd cc
active-live s (inr q) e = let f : Sensing ≡ Freed = sym q ∙ e in absurd cc

pub same_or : (a b : ℕ) → (a ≡ b) ⊎ (a ≢ b)
same_or a b = grind arith

-- a word of one block lies outside another
pub other-block : (a b x : ℕ) → IsCommandBlock a → IsCommandBlock b → a ≢ b → b ≤ x → x + 4 ≤ b + 0x200 → Outside x a (a + 0x200)
other-block a b x p q ne l u = omega (arith, p.from, q.from, p.aligned, q.aligned)

module _ (w n : ℕ → ℕ) where
  pub loaded-frame : (version : ℕ) → Same w n 0 0x4B8 → IsLoaded w version → IsLoaded n version
  loaded-frame version o l = record { at = λ i k. o (4 * i) (omega arith) (omega arith) ∙ l.at i k }

  pub chains-frame : (us : List RigUnit) → length us ≤ 16 → Same w n 0x8000 0x9000 → IsLaid w us → IsLaid n us
  chains-frame us few o h = laid_kept w n us few (λ x z l u. o x l u) h

  pub constants-frame : Same w n 0x1014 0x1034 → HasConstants w → HasConstants n
  constants-frame o c = record {
    abort_tag = o 0x1014 (omega arith) (omega arith) ∙ c.abort_tag;
    over = o 0x1018 (omega arith) (omega arith) ∙ c.over;
    ended = o 0x101C (omega arith) (omega arith) ∙ c.ended;
    cut = o 0x1020 (omega arith) (omega arith) ∙ c.cut;
    no_target = o 0x1024 (omega arith) (omega arith) ∙ c.no_target;
    open_gate = o 0x1028 (omega arith) (omega arith) ∙ c.open_gate;
    bad_gate = o 0x102C (omega arith) (omega arith) ∙ c.bad_gate;
    front_idle = o 0x1030 (omega arith) (omega arith) ∙ c.front_idle;
  }

  pub fixed-frame : Same w n 0x1200 0x1A00 → HasFixedBlocks w → HasFixedBlocks n
  fixed-frame o c = record {
    idle = o 0x1200 (omega arith) (omega arith) ∙ c.idle;
    no_task = (o 0x1404 (omega arith) (omega arith) ∙ c.no_task.0, o 0x141C (omega arith) (omega arith) ∙ c.no_task.1);
    front_idle = o 0x1600 (omega arith) (omega arith) ∙ c.front_idle;
    job = o 0x1800 (omega arith) (omega arith) ∙ c.job;
    job_message = (o 0x1820 (omega arith) (omega arith) ∙ c.job_message.0, o 0x1824 (omega arith) (omega arith) ∙ c.job_message.1, o 0x18E0 (omega arith) (omega arith) ∙ c.job_message.2);
  }

  -- ---- the pointers of a block

  pub segments-frame : (b : ℕ) → Same w n (b + 0x40) (b + 0xE0) → SegmentsKept w n b
  segments-frame b o = record { count = λ j h. o _ (omega arith) (omega arith); address = λ j h. o _ (omega arith) (omega arith) }

  pub contexts-frame : (b k : ℕ) → k < 2 → Same w n (b + 0x40) (b + 0xE0) → ContextKept w n b k
  contexts-frame b k h o = record { count = o _ (omega arith) (omega arith); address = o _ (omega arith) (omega arith); return = o _ (omega arith) (omega arith) }

  segments-kept : (b more j : ℕ) → more + j ≤ 16 → SegmentsKept w n b → segments n b more j ≡ segments w b more j
  segments-kept b zero j h s = refl
  segments-kept b (suc more) j h s =
      let a = s.address j (omega arith) in
      let c = s.count j (omega arith) in
      let r = segments-kept b more (j + 1) (omega arith) s in
      cc

  pub segments-same : (b j : ℕ) → j ≤ 16 → Same w n (b + 0x40) (b + 0xE0) → segments_from n b j ≡ segments_from w b j
  segments-same b j h o = segments-kept b (16 - j) j (omega arith) (segments-frame b o)

  pub remain-frame : (b p : ℕ) → Same w n (b + 0x40) (b + 0xE0) → remain n b p ≡ remain w b p
  remain-frame b p o = remain-kept w n b p (segments-frame b o) (λ k x h e f. contexts-frame b k h o)

  pub filled-frame : (b j : ℕ) → Same w n (b + 0x40) (b + 0xE0) → AreFilled w b j → AreFilled n b j
  filled-frame b j o h = λ i l u e. h i l u (ap (λ (x : ℕ). x % 16777216) (sym ((segments-frame b o).count i u)) ∙ e)

  pub back-frame : (b : ℕ) (phase : DataPhase) (k : ℕ) → k < 2 → Same w n (b + 0x40) (b + 0xE0) → GoesBack w b phase k → GoesBack n b phase k
  back-frame b phase k h o g = record {
    segment = g.segment;
    within = g.within;
    return = (contexts-frame b k h o).return ∙ g.return;
    filled = filled-frame b g.segment o g.filled;
  }

  pub follows-frame : (b : ℕ) (phase : DataPhase) (e : Entry) → IsMoveEntry e → Same w n (b + 0x40) (b + 0xE0) → Follows w b phase e → Follows n b phase e
  follows-frame b phase (Segment j) h o g = filled-frame b j o g
  follows-frame b phase (Context k) h o g = (λ e. g.0 (ap (λ (x : ℕ). x % 16777216) (sym ((contexts-frame b k h o).count)) ∙ e), back-frame b phase k h o g.1)

  pub names-frame : (b : ℕ) (goes : Direction) (xs : List ℕ) (p : ℕ) (x : DataMove) → Same w n (b + 0x40) (b + 0xE0) → Names w b goes xs p x → Names n b goes xs p x
  names-frame b goes xs p x o g = record {
    at = g.at;
    rest = subst (λ (l : List ℕ). IsSuffix l xs) (sym (remain-frame b p o)) g.rest;
    follows = follows-frame b x.phase x.entry (move_stands p x g.at).0 o g.follows;
    way = g.way;
  }

  pub pointer-frame : (b : ℕ) (goes : Direction) (xs : List ℕ) (p : ℕ) → Same w n (b + 0x40) (b + 0xE0) → IsPointer w b goes xs p → IsPointer n b goes xs p
  pointer-frame b goes xs p o (inl e) = inl e
  pointer-frame b goes xs p o (inr g) = inr (g.0, names-frame b goes xs p g.0 o g.1)

  pub returns-frame : (b : ℕ) → Same w n (b + 0x40) (b + 0xE0) → ReturnsToSegments w b → ReturnsToSegments n b
  returns-frame b o r =
      let c0 = (contexts-frame b 0 (omega arith) o).return in
      let c1 = (contexts-frame b 1 (omega arith) o).return in
      record { first = rw c0 r.first; second = rw c1 r.second }

  -- a block whose START, RESTART, pointers and GATE were written or kept
  pub block-with : (s : Stage) (f : Fixed) (target : ℕ) → IsStart s (field n f.block Start)
      → (field n f.block Restart ≡ 0x128) ⊎ (field n f.block Restart ≡ 0x278)
      → IsPointer w f.block (way f) (goal f) (field n f.block Lastp) → IsPointer w f.block (way f) (goal f) (field n f.block Savep)
      → (field n f.block Gate ≡ 0x1B0) ⊎ (field n f.block Gate ≡ 0x1C0)
      → Same w n (f.block + 0x18) (f.block + 0x1C) → Same w n (f.block + 0x20) (f.block + 0xE0) → IsBlock w s f target → IsBlock n s f target
  block-with s f target start restart last saved gate o1 o2 h =
      let b = f.block in
      let o : Same w n (b + 0x40) (b + 0xE0) = λ x l u. o2 x (omega arith) u in
      record {
        start = start;
        restart = restart;
        last = pointer-frame b (way f) (goal f) (field n b Lastp) o last;
        saved = pointer-frame b (way f) (goal f) (field n b Savep) o saved;
        begins = λ e. pointer-frame b (way f) (goal f) f.begins o (h.begins e);
        sel = o1 (b + 0x18) (omega arith) (omega arith) ∙ h.sel;
        gate = gate;
        message = (o2 (b + 0x20) (omega arith) (omega arith) ∙ h.message.0, o2 (b + 0x24) (omega arith) (omega arith) ∙ h.message.1);
        command = (subst (λ (i : ℕ). i ≤ 12) (sym (o2 (b + 0x28) (omega arith) (omega arith))) h.command.0, o2 (b + 0x2C) (omega arith) (omega arith) ∙ h.command.1);
        status = (o2 (b + 0x30) (omega arith) (omega arith) ∙ h.status.0, o2 (b + 0x34) (omega arith) (omega arith) ∙ h.status.1);
        returns = returns-frame b o h.returns;
      }

  pub block-frame : (s : Stage) (f : Fixed) (target : ℕ) → Same w n f.block (f.block + 0x10) → Same w n (f.block + 0x18) (f.block + 0xE0) → IsBlock w s f target → IsBlock n s f target
  block-frame s f target o1 o2 h =
      let b = f.block in
      let e0 = o1 (b + 0x00) (omega arith) (omega arith) in
      let e1 = o1 (b + 0x04) (omega arith) (omega arith) in
      let e2 = o1 (b + 0x08) (omega arith) (omega arith) in
      let e3 = o1 (b + 0x0C) (omega arith) (omega arith) in
      let e4 = o2 (b + 0x1C) (omega arith) (omega arith) in
      block-with s f target (subst (IsStart s) (sym e0) h.start)
      (elim h.restart [ inl k ↦ inl (e1 ∙ k) | inr k ↦ inr (e1 ∙ k) ])
      (subst (IsPointer w b (way f) (goal f)) (sym e2) h.last)
      (subst (IsPointer w b (way f) (goal f)) (sym e3) h.saved)
      (elim h.gate [ inl k ↦ inl (e4 ∙ k) | inr k ↦ inr (e4 ∙ k) ])
      (λ x l u. o2 x l (omega arith)) (λ x l u. o2 x (omega arith) u) h

module _ (w n : ℕ → ℕ) (ts : Tickets) where
  -- STATE of a ticket's block is as before
  abbrev pub SameState : ℕ → Type 0
  SameState t = field n (block_of ts t) State ≡ field w (block_of ts t) State

  pub waits-frame : (t : ℕ) → SameState t → Waits w ts t → Waits n ts t
  waits-frame t e h = record { stage = h.stage; live = e ∙ h.live }

  pub begun-frame : (t : ℕ) → SameState t → IsBegun w ts t → IsBegun n ts t
  begun-frame t e h = record { stage = h.stage; live = e ∙ h.live }

  pub over-frame : (t : ℕ) → SameState t → IsOver w ts t → IsOver n ts t
  over-frame t e h = record { stage = h.stage; some = subst (λ (i : ℕ). 1 ≤ i) (sym e) h.some; most = subst (λ (i : ℕ). i ≤ 3) (sym e) h.most }

  pub start-frame : (s q : ℕ) → Same w n 0x2000 0x3000 → ((t i : ℕ) → Waits w ts t → s ≤ i → i < q → w (start_slot i) ≡ block_of ts t → SameState t) → StartRing w ts s q → StartRing n ts s q
  start-frame s q o p r = record {
    order = r.order;
    entry = λ i l u. let e = r.entry i l u in (e.0, o (start_slot i) (omega arith) (omega arith) ∙ e.1, waits-frame e.0 (p e.0 i e.2 l u e.1) e.2);
    once = λ i j l d u e. r.once i j l d u (sym (o (start_slot i) (omega arith) (omega arith)) ∙ e ∙ o (start_slot j) (omega arith) (omega arith));
    idle = o (start_slot q) (omega arith) (omega arith) ∙ r.idle;
    next = λ i. o (start_slot i + 4) (omega arith) (omega arith) ∙ r.next i;
  }

  pub done-frame : (t e : ℕ) → Same w n 0x3000 0x4000 → ((u i : ℕ) → IsOver w ts u → t ≤ i → i < e → w (done_slot i) ≡ block_of ts u → SameState u) → DoneRing w ts t e → DoneRing n ts t e
  done-frame t e o p r = record {
    order = r.order;
    entry = λ i l u. let x = r.entry i l u in (x.0, o (done_slot i) (omega arith) (omega arith) ∙ x.1, over-frame x.0 (p x.0 i x.2 l u x.1) x.2);
    once = λ i j l d u h. r.once i j l d u (sym (o (done_slot i) (omega arith) (omega arith)) ∙ h ∙ o (done_slot j) (omega arith) (omega arith));
    idle = λ i l u. o (done_slot i) (omega arith) (omega arith) ∙ r.idle i l u;
    next = λ i. o (done_slot i + 4) (omega arith) (omega arith) ∙ r.next i;
  }

  pub entry-frame : (unit tag : ℕ) → n (tag_entry unit tag) ≡ w (tag_entry unit tag) → IsEntry w ts unit tag → IsEntry n ts unit tag
  entry-frame unit tag e (inl k) = inl (e ∙ k)
  entry-frame unit tag e (inr k) = inr (k.0, record { bound = k.1.bound; unit_is = k.1.unit_is; tag_is = k.1.tag_is; block_is = e ∙ k.1.block_is })

  pub front-frame : n FRONT ≡ w FRONT → ((t : ℕ) → Asks w ts t → SameState t) → IsFront w ts → IsFront n ts
  front-frame e p (inl h) = inl (e ∙ h)
  front-frame e p (inr (inl h)) = inr (inl (e ∙ h))
  front-frame e p (inr (inr h)) = inr (inr (h.0, record { is = e ∙ h.1.is; stage = h.1.stage; live = p h.0 h.1 ∙ h.1.live }))

module _ (w n : ℕ → ℕ) (c : Counts) where
  pub not_starting-frame : (b : ℕ) → Same w n 0x2000 0x3000 → n FRONT ≡ w FRONT → NotStarting w c b → NotStarting n c b
  not_starting-frame b o f h = record {
    ring = λ i l u e. h.ring i l u (sym (o (start_slot i) (omega arith) (omega arith)) ∙ e);
    front = λ e. h.front (sym f ∙ e);
  }

  pub not_entered-frame : (b : ℕ) → Same w n 0x3000 0x4000 → NotEntered w c b → NotEntered n c b
  not_entered-frame b o h i l u f = h i l u (sym (o (done_slot i) (omega arith) (omega arith)) ∙ f)
