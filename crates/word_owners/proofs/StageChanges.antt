-- One ticket comes to another stage: what that leaves of each part, where the ticket stands in neither ring, not at FRONT, and not at work.
use Rattle.std.proofs.Common.{◌≡◌, ◌≢◌, ◌⊎◌, inl, inr, ℕ, ◌<◌, ◌≤◌, true, refl, sym, ap, subst, ◌∙◌, Option, Some}
use Rattle.host_map.specs.Places.{start_slot}
use Rattle.cmd_block.specs.declared.Field.TheVariants.{Start, State, Gate}
use Rattle.phase_fix.specs.Remain.{field}
use Rattle.desk_law.specs.declared.stage.Stage.{Stage}
use Rattle.desk_law.specs.declared.stage.Stage.TheVariants.{Check, Sensing}
use Rattle.word_owners.specs.Tickets.{Tickets, block_of, target_of, IsLive, IsActive, IsBound, IsTurned, AreTickets}
use Rattle.word_owners.specs.Points.{Work, Entering, Selected, Ending, Carrying, Moving, Behind, Returning, Naming, ChoosingTarget, Finding, Listed, Tagged, InTable, Offset, Candidate, Saved}
use Rattle.word_owners.specs.Parts.{Counts, Parts, Waits, IsBegun, IsOver, IsThere, StartRing, DoneRing, NotEntered, Asks, IsFront, IsEntry, TagTables, IsStart, IsBlock, MayWork, HasAnswered, IsFresh}
use Rattle.word_owners.specs.Works.{Role, Nothing, First, Asked, Working, Closing, Done, role, worker, Plays, Extra, Works}
use Rattle.word_owners.proofs.Frames.{same_or, active-live}

-- the tickets with these stages
abbrev pub staged : Tickets → (ℕ → Stage) → Tickets
staged ts stages = record ts { stage = stages }

-- one ticket has another stage
pub record Turns (old new : ℕ → Stage) (t : ℕ) (s : Stage) : Type 0 where
  pub here : new t ≡ s
  pub other : (u : ℕ) → u ≢ t → new u ≡ old u

-- a ticket stands in neither ring, and FRONT doesn't ask for it
pub record Aside (w : ℕ → ℕ) (ts : Tickets) (c : Counts) (t : ℕ) : Type 0 where
  pub start : (i : ℕ) → c.started ≤ i → i < c.queued → w (start_slot i) ≢ block_of ts t
  pub done : NotEntered w c (block_of ts t)
  pub front : Asks w ts t → ⊥

-- so it is where it isn't active
pub aside : (version : ℕ) (w : ℕ → ℕ) (ts : Tickets) (c : Counts) (o : Option ℕ) (t : ℕ) → AreTickets ts → IsLive (ts.stage t) → (IsActive (ts.stage t) → ⊥) → Parts version w ts c o → Aside w ts c t
aside version w ts c o t d l a p = record {
  start = λ i f g e.
      let x = p.start.entry i f g in
      meets x.0 (inl x.2.stage) (sym x.1 ∙ e) (same_or x.0 t);
  done = λ i f g e.
      let x = p.done.entry i f g in
      meets x.0 x.2.stage (sym x.1 ∙ e) (same_or x.0 t);
  front = λ h. a (inr h.stage);
}
  where
    meets : (u : ℕ) → IsActive (ts.stage u) → block_of ts u ≡ block_of ts t → (u ≡ t) ⊎ (u ≢ t) → ⊥
    meets u k e (inl q) = a (subst (λ (i : ℕ). IsActive (ts.stage i)) q k)
    meets u k e (inr q) = d.blocks u t (active-live (ts.stage u) k) l q e

module _ (w : ℕ → ℕ) (ts : Tickets) (new : ℕ → Stage) (t : ℕ) (s : Stage) (turns : Turns ts.stage new t s) where
  -- what holds of the stage of another ticket, and of this one
  pub to-other : (P : Stage → Type 0) (u : ℕ) → u ≢ t → P (ts.stage u) → P (new u)
  to-other P u ne h = subst P (sym (turns.other u ne)) h

  pub live-before : IsLive (ts.stage t) → (u : ℕ) → IsLive (new u) → IsLive (ts.stage u)
  live-before l u h = elim (same_or u t) [
    | inl z ↦ subst (λ (i : ℕ). IsLive (ts.stage i)) (sym z) l
    | inr z ↦ subst IsLive (turns.other u z) h
  ]

  pub live-after : IsLive s → (u : ℕ) → IsLive (ts.stage u) → IsLive (new u)
  live-after l u h = elim (same_or u t) [
    | inl z ↦ subst (λ (i : ℕ). IsLive (new i)) (sym z) (subst IsLive (sym turns.here) l)
    | inr z ↦ to-other IsLive u z h
  ]

  pub tickets-turned : IsLive (ts.stage t) → ((ts.fixed t).turned ≡ true → IsTurned s) → AreTickets ts → AreTickets (staged ts new)
  tickets-turned l k d =
      let b = live-before l in
      record {
        block = λ u h. d.block u (b u h);
        unit = λ u h. d.unit u (b u h);
        tag = λ u h. d.tag u (b u h);
        blocks = λ u v h i. d.blocks u v (b u h) (b v i);
        tags = λ u v h i. d.tags u v (b u h) (b v i);
        turned = λ u e. elim (same_or u t) [
          | inl z ↦ subst IsTurned (sym (ap new z ∙ turns.here)) (k (subst (λ (i : ℕ). (ts.fixed i).turned ≡ true) z e))
          | inr z ↦ to-other IsTurned u z (d.turned u e)
        ];
        within = λ u i h. d.within u i (b u h);
        apart = λ u v i j h x. d.apart u v i j (b u h) (b v x);
      }

  waits-turned : (u : ℕ) → u ≢ t → Waits w ts u → Waits w (staged ts new) u
  waits-turned u ne h = record { stage = turns.other u ne ∙ h.stage; live = h.live }

  begun-turned : (u : ℕ) → u ≢ t → IsBegun w ts u → IsBegun w (staged ts new) u
  begun-turned u ne h = record { stage = to-other IsActive u ne h.stage; live = h.live }

  over-turned : (u : ℕ) → u ≢ t → IsOver w ts u → IsOver w (staged ts new) u
  over-turned u ne h = record { stage = to-other IsActive u ne h.stage; some = h.some; most = h.most }

  asks-turned : (u : ℕ) → u ≢ t → Asks w ts u → Asks w (staged ts new) u
  asks-turned u ne h = record { is = h.is; stage = turns.other u ne ∙ h.stage; live = h.live }

  pub works-turned : (c : Counts) (u : ℕ) → u ≢ t → MayWork w ts c u → MayWork w (staged ts new) c u
  works-turned c u ne h = record { begun = begun-turned u ne h.begun; out = h.out; there = h.there }

  -- a ticket whose block is another than that of t
  differs : (u : ℕ) → (block_of ts u ≢ block_of ts t) → u ≢ t
  differs u ne e = ne (ap (block_of ts) e)

  pub start-turned : (c : Counts) → Aside w ts c t → StartRing w ts c.started c.queued → StartRing w (staged ts new) c.started c.queued
  start-turned c a r = record {
    order = r.order;
    entry = λ i l u.
        let x = r.entry i l u in
        (x.0, x.1, waits-turned x.0 (differs x.0 (λ e. a.start i l u (x.1 ∙ e))) x.2);
    once = r.once;
    idle = r.idle;
    next = r.next;
  }

  pub done-turned : (c : Counts) → Aside w ts c t → DoneRing w ts c.taken c.entered → DoneRing w (staged ts new) c.taken c.entered
  done-turned c a r = record {
    order = r.order;
    entry = λ i l u.
        let x = r.entry i l u in
        (x.0, x.1, over-turned x.0 (differs x.0 (λ e. a.done i l u (x.1 ∙ e))) x.2);
    once = r.once;
    idle = r.idle;
    next = r.next;
  }

  pub front-turned : (c : Counts) → Aside w ts c t → IsFront w ts → IsFront w (staged ts new)
  front-turned c a (inl h) = inl h
  front-turned c a (inr (inl h)) = inr (inl h)
  front-turned c a (inr (inr h)) =
      let ne : h.0 ≢ t = λ e. a.front (subst (λ (i : ℕ). Asks w ts i) e h.1) in
      inr (inr (h.0, asks-turned h.0 ne h.1))

  -- what is asked of the new stage
  pub record Fits (c : Counts) : Type 0 where
    pub live : IsLive (ts.stage t)
    pub stays : IsLive s
    pub aside : Aside w ts c t
    pub start : IsStart (ts.stage t) (field w (block_of ts t) Start) → IsStart s (field w (block_of ts t) Start)
    pub fresh : IsFresh s → field w (block_of ts t) State ≡ 0
    pub there : (s ≡ Check) ⊎ (s ≡ Sensing) → IsThere ts t
    pub gate : field w (block_of ts t) Gate ≢ 0x1B0

  block-turned : (target : ℕ) → (IsStart (ts.stage t) (field w (block_of ts t) Start) → IsStart s (field w (block_of ts t) Start)) → IsBlock w (ts.stage t) (ts.fixed t) target → IsBlock w s (ts.fixed t) target
  block-turned target f h = record {
    start = f h.start;
    restart = h.restart;
    last = h.last;
    saved = h.saved;
    begins = h.begins;
    sel = h.sel;
    gate = h.gate;
    message = h.message;
    command = h.command;
    status = h.status;
    returns = h.returns;
  }

  fresh-turned : (c : Counts) → Fits c → ((u : ℕ) → IsFresh (ts.stage u) → field w (block_of ts u) State ≡ 0) → (u : ℕ) → IsFresh (new u) → field w (block_of ts u) State ≡ 0
  fresh-turned c f h u k = elim (same_or u t) [
    | inl z ↦ subst (λ (i : ℕ). field w (block_of ts i) State ≡ 0) (sym z) (f.fresh (subst IsFresh (ap new z ∙ turns.here) k))
    | inr z ↦ h u (subst IsFresh (turns.other u z) k)
  ]

  pub answered-turned : (u : ℕ) → u ≢ t → HasAnswered w (staged ts new) u → HasAnswered w ts u
  answered-turned u ne (inl e) = inl (sym (turns.other u ne) ∙ e)
  answered-turned u ne (inr (inl e)) = inr (inl (sym (turns.other u ne) ∙ e))
  answered-turned u ne (inr (inr e)) = inr (inr e)

  there-here : (c : Counts) → Fits c → ((u : ℕ) → IsLive (ts.stage u) → HasAnswered w ts u → IsThere ts u) → HasAnswered w (staged ts new) t → IsThere ts t
  there-here c f h (inl e) = f.there (inl (sym turns.here ∙ e))
  there-here c f h (inr (inl e)) = f.there (inr (sym turns.here ∙ e))
  there-here c f h (inr (inr e)) = h t f.live (inr (inr e))

  there-turned : (c : Counts) → Fits c → ((u : ℕ) → IsLive (ts.stage u) → HasAnswered w ts u → IsThere ts u) → (u : ℕ) → IsLive (new u) → HasAnswered w (staged ts new) u → IsThere ts u
  there-turned c f h u l k = elim (same_or u t) [
    | inl z ↦ subst (IsThere ts) (sym z) (there-here c f h (subst (HasAnswered w (staged ts new)) z k))
    | inr z ↦ h u (live-before f.live u l) (answered-turned u z k)
  ]

  -- the parts beside the tag tables
  pub parts-turned : (version : ℕ) (c : Counts) (o : Option ℕ) → Fits c → Parts version w ts c o → Parts version w (staged ts new) c o
  parts-turned version c o f p = record {
    loaded = p.loaded;
    chains = p.chains;
    constants = p.constants;
    fixed = p.fixed;
    front = front-turned c f.aside p.front;
    ringp = p.ringp;
    start = start-turned c f.aside p.start;
    done = done-turned c f.aside p.done;
    blocks = λ u l. elim (same_or u t) [
      | inl z ↦ subst (λ (i : ℕ). IsBlock w (new i) (ts.fixed i) (target_of ts i)) (sym z)
          (subst (λ (i : Stage). IsBlock w i (ts.fixed t) (target_of ts t)) (sym turns.here) (block-turned (target_of ts t) f.start (p.blocks t f.live)))
      | inr z ↦ subst (λ (i : Stage). IsBlock w i (ts.fixed u) (target_of ts u)) (sym (turns.other u z)) (p.blocks u (live-before f.live u l))
    ];
    fresh = fresh-turned c f p.fresh;
    there = there-turned c f p.there;
    gates = λ u l k e. elim (same_or u t) [
      | inl z ↦ absurd (f.gate (subst (λ (i : ℕ). field w (block_of ts i) Gate ≡ 0x1B0) z e))
      | inr z ↦ works-turned c u z (p.gates u (live-before f.live u l) k e)
    ];
  }

  -- the entries of a ticket that was bound and is bound
  entry-turned : IsBound s → (unit tag : ℕ) → IsEntry w ts unit tag → IsEntry w (staged ts new) unit tag
  entry-turned b unit tag (inl e) = inl e
  entry-turned b unit tag (inr k) = inr (
    k.0,
    record {
      bound = elim (same_or k.0 t) [
        | inl z ↦ subst IsBound (sym (ap new z ∙ turns.here)) b
        | inr z ↦ to-other IsBound k.0 z k.1.bound
      ];
      unit_is = k.1.unit_is;
      tag_is = k.1.tag_is;
      block_is = k.1.block_is;
    },
  )

  pub tags-turned : IsBound (ts.stage t) → IsBound s → TagTables w ts → TagTables w (staged ts new)
  tags-turned b a h = record {
    entries = λ unit tag l m. entry-turned a unit tag (h.entries unit tag l m);
    entered = λ u k. elim (same_or u t) [
      | inl z ↦ h.entered u (subst (λ (i : ℕ). IsBound (ts.stage i)) (sym z) b)
      | inr z ↦ h.entered u (subst IsBound (turns.other u z) k)
    ];
  }

  -- ---- the work of the chip

  pub plays-turned : (r : Role) (c : Counts) → ((u : ℕ) → worker r ≡ Some u → u ≢ t) → Plays r w ts c → Plays r w (staged ts new) c
  plays-turned Nothing c ne h = tt
  plays-turned (First u) c ne h = (h.0, h.1, waits-turned u (ne u refl) h.2)
  plays-turned (Asked u) c ne h = (asks-turned u (ne u refl) h.0, h.1)
  plays-turned (Working u) c ne h = works-turned c u (ne u refl) h
  plays-turned (Closing u) c ne h = (begun-turned u (ne u refl) h.0, h.1)
  plays-turned (Done u) c ne h = (over-turned u (ne u refl) h.0, h.1)

  -- each ticket that lived still lives, or its GATE is BADTASK
  abbrev pub StillLive : Type 0
  StillLive = (u : ℕ) → IsLive (ts.stage u) → IsLive (new u) ⊎ (field w (block_of ts u) Gate ≡ 0x1C0)

  extra-turned : (k : Work) → StillLive → Extra k w ts → Extra k w (staged ts new)
  extra-turned (Candidate b r) l h = (
    h.0,
    elim h.1 [
      | inl e ↦ inl e
      | inr e ↦ elim (l e.0 e.1.live) [
        | inl z ↦ inr (e.0, record { live = z; block_is = e.1.block_is; target_is = e.1.target_is })
        | inr g ↦ inl (ap (λ (i : ℕ). field w i Gate) (sym e.1.block_is) ∙ g)
      ]
    ],
  )
  extra-turned (Entering u a) l h = h
  extra-turned (Selected u) l h = h
  extra-turned (Ending u v) l h = h
  extra-turned (Carrying u p) l h = h
  extra-turned (Moving u x) l h = h
  extra-turned (Behind u phase j) l h = h
  extra-turned (Returning u a) l h = h
  extra-turned (Naming r) l h = h
  extra-turned (ChoosingTarget r j) l h = h
  extra-turned (Finding r j) l h = h
  extra-turned (Listed u r) l h = h
  extra-turned (Tagged u g r) l h = h
  extra-turned (InTable u x g r) l h = h
  extra-turned (Offset u x k r) l h = h
  extra-turned (Saved u) l h = h
  extra-turned _ l h = tt

  pub work-kept : (k : Work) (c : Counts) → StillLive → ((u : ℕ) → worker (role k) ≡ Some u → u ≢ t) → Works k w ts c → Works k w (staged ts new) c
  work-kept k c l ne h = record { plays = plays-turned (role k) c ne h.plays; extra = extra-turned k l h.extra }

  pub work-turned : (k : Work) (c : Counts) → IsLive s → ((u : ℕ) → worker (role k) ≡ Some u → u ≢ t) → Works k w ts c → Works k w (staged ts new) c
  work-turned k c l ne h = work-kept k c (λ u m. inl (live-after l u m)) ne h

-- the ticket at work is active
pub worker-active : (r : Role) (w : ℕ → ℕ) (ts : Tickets) (c : Counts) (u : ℕ) → worker r ≡ Some u → Plays r w ts c → IsActive (ts.stage u)
worker-active Nothing w ts c u e h = absurd cc
worker-active (First v) w ts c u e h = let q : v ≡ u = cc in subst (λ (i : ℕ). IsActive (ts.stage i)) q (inl h.2.stage)
worker-active (Asked v) w ts c u e h = let q : v ≡ u = cc in subst (λ (i : ℕ). IsActive (ts.stage i)) q (inr h.0.stage)
worker-active (Working v) w ts c u e h = let q : v ≡ u = cc in subst (λ (i : ℕ). IsActive (ts.stage i)) q h.begun.stage
worker-active (Closing v) w ts c u e h = let q : v ≡ u = cc in subst (λ (i : ℕ). IsActive (ts.stage i)) q h.0.stage
worker-active (Done v) w ts c u e h = let q : v ≡ u = cc in subst (λ (i : ℕ). IsActive (ts.stage i)) q h.0.stage
