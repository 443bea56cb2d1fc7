-- Queue keeps the invariant: a ticket enters the start ring.
use Rattle.std.proofs.Common.{◌≡◌, ◌≢◌, ◌⊎◌, inl, inr, ℕ, ◌+◌, ◌^◌, ◌<◌, ◌≤◌, List, length, Bool, true, false, refl, sym, ap, subst, ◌∙◌, arith, Option, Some}
use Rattle.std.proofs.Math.Nat.{eq-or-lt_of_le}
use Rattle.bench_words.specs.Memory.{word_at, put_word}
use Rattle.bench_words.specs.Views.{Apart, Outside, Wrote}
use Rattle.bench_words.proofs.Bytes.{bytes-put_word}
use Rattle.bench_words.proofs.MemoryLaws.{length-put_word, wrote-put_word}
use Rattle.rig_types.specs.declared.rig.Unit.{Unit as RigUnit}
use Rattle.host_map.specs.declared.TheConstants.{IDLE, START_RING}
use Rattle.host_map.specs.Places.{start_slot, IsCommandBlock}
use Rattle.job_rings.specs.Rings.{IsSlot, Started, next_slot, started}
use Rattle.job_rings.proofs.RingLaws.{counts_start_slots, started_is}
use Rattle.cmd_block.specs.declared.Field.TheVariants.{Start, State, Gate}
use Rattle.phase_fix.specs.Remain.{field}
use Rattle.desk_law.specs.declared.stage.Stage.{Stage}
use Rattle.desk_law.specs.declared.stage.Stage.TheVariants as stage
use Rattle.desk_law.specs.declared.ticket.Ticket.{Ticket}
use Rattle.desk_law.specs.Desk.{ticket}
use Rattle.scsi_words.specs.declared.phases.kinds.Direction.{Direction}
use Rattle.scsi_words.specs.declared.phases.kinds.Direction.TheVariants as direction
use Rattle.desk_law.specs.Blocks.{beginning, begins_at}
use Rattle.desk_law.specs.Calls.{begun_anew, queues}
use Rattle.world_law.specs.World.{World}
use Rattle.word_owners.specs.Tickets.{Fixed, Tickets, tickets_of, block_of, target_of, goal, way, is_check, IsLive, IsActive, IsBound, IsTurned, AreTickets}
use Rattle.word_owners.specs.Pointers.{IsPointer}
use Rattle.word_owners.specs.Parts.{Counts, Parts, Waits, StartRing, NotStarting, IsStart, IsBlock}
use Rattle.word_owners.specs.Works.{Role, role, worker}
use Rattle.word_owners.specs.Holds.{Spot, Mismatched, ResetAt, Holds, closing_at, work_at}
use Rattle.word_owners.specs.Laws.{QueueHolds}
use Rattle.word_owners.proofs.Frames.{active-live, loaded-frame, chains-frame, constants-frame, fixed-frame, block-frame, block-with, begun-frame, waits-frame, done-frame, front-frame, not_entered-frame}
use Rattle.word_owners.proofs.StageChanges.{Fits, aside, tickets-turned, parts-turned, tags-turned, work-turned, worker-active, staged}
use Rattle.word_owners.proofs.WriteFrames.{BlockChanges, tags-frame, fresh-live}
use Rattle.word_owners.proofs.ChipWork.{Onward, work-onward}
use Rattle.word_owners.proofs.Lists.{desk-turns, desk-staged, desk-checked, same-fixed}
use Rattle.word_owners.proofs.ChipPlace.{SameEntries, Patch, patched, entries-at, unasked-same}
use Rattle.word_owners.proofs.Room.{start-room}
use Rattle.word_owners.proofs.Aborts.{block-patch}
use Rattle.word_owners.proofs.Patches.{few, idle-worker, idle-gate}

-- what starting a block does to the words
pub record Entered (w n : ℕ → ℕ) (q block : ℕ) : Type 0 where
  pub idle : n (start_slot (q + 1)) ≡ IDLE
  pub filled : n (start_slot q) ≡ block
  pub other : (x : ℕ) → Apart (start_slot q) x → Apart (start_slot (q + 1)) x → n x ≡ w x

entered-of : (w n : ℕ → ℕ) (q block : ℕ) → Started w n (start_slot q) block → Entered w n q block
entered-of w n q block m =
    let e = counts_start_slots.next q in
    record {
      idle = ap n (sym e) ∙ m.idle;
      filled = m.filled;
      other = λ x a b. m.other x a (subst (λ (i : ℕ). Apart i x) (sym e) b);
    }

-- t is Queued with STATE 0, and its block isn't in the ring, with its GATE closed
module _ (version : ℕ) (w n : ℕ → ℕ) (ts : Tickets) (c : Counts) (o : Option ℕ) (few_units : length ts.units ≤ 16) (d : AreTickets ts) (t : ℕ) (here : Waits w ts t) (room : c.queued ≤ c.started + 256)
    (out : (i : ℕ) → c.started ≤ i → i < c.queued → w (start_slot i) ≢ block_of ts t) (shut : field w (block_of ts t) Gate ≢ 0x1B0) (m : Entered w n c.queued (block_of ts t)) where
  low : (x : ℕ) → x + 4 ≤ 0x2000 → n x ≡ w x
  low x l = m.other x (omega arith) (omega arith)

  high : (x : ℕ) → 0x3000 ≤ x → n x ≡ w x
  high x l = m.other x (omega arith) (omega arith)

  state-high : (u : ℕ) → IsLive (ts.stage u) → field n (block_of ts u) State ≡ field w (block_of ts u) State
  state-high u l = high (block_of ts u + 0x10) (omega (arith, (d.block u l).from))

  -- the slots before the new one
  before : (i : ℕ) → c.started ≤ i → i < c.queued → n (start_slot i) ≡ w (start_slot i)
  before i l u = m.other (start_slot i) (omega arith) (omega arith)

  live-here : IsLive (ts.stage t)
  live-here = active-live (ts.stage t) (inl here.stage)

  waits-here : Waits n ts t
  waits-here = waits-frame w n ts t (state-high t live-here) here

  queued-entry : StartRing w ts c.started c.queued → (i : ℕ) → c.started ≤ i → (i ≡ c.queued) ⊎ (i < c.queued) → (u : ℕ) × (n (start_slot i) ≡ block_of ts u) × Waits n ts u
  queued-entry r i l (inl e) = (t, ap (λ (j : ℕ). n (start_slot j)) e ∙ m.filled, waits-here)
  queued-entry r i l (inr h) =
      let x = r.entry i l h in
      (x.0, before i l h ∙ x.1, waits-frame w n ts x.0 (state-high x.0 (active-live (ts.stage x.0) (inl x.2.stage))) x.2)

  queued-once : StartRing w ts c.started c.queued → (i j : ℕ) → c.started ≤ i → i < j → (j ≡ c.queued) ⊎ (j < c.queued) → n (start_slot i) ≢ n (start_slot j)
  queued-once r i j l a (inl h) = λ g. out i l (omega arith) (sym (before i l (omega arith)) ∙ g ∙ ap (λ (k : ℕ). n (start_slot k)) h ∙ m.filled)
  queued-once r i j l a (inr h) = λ g. r.once i j l a h (sym (before i l (omega arith)) ∙ g ∙ before j (omega arith) h)

  ring-queued : StartRing w ts c.started c.queued → StartRing n ts c.started (c.queued + 1)
  ring-queued r = record {
    order = omega (arith, r.order);
    entry = λ i l u. queued-entry r i l (eq-or-lt_of_le (omega arith));
    once = λ i j l a u. queued-once r i j l a (eq-or-lt_of_le (omega arith));
    idle = m.idle;
    next = λ i. m.other (start_slot i + 4) (omega arith) (omega arith) ∙ r.next i;
  }

  -- a block that isn't in the ring, and isn't that of t, isn't in the longer ring
  still-out : (u : ℕ) → IsLive (ts.stage u) → u ≢ t → NotStarting w c (block_of ts u) → NotStarting n (record c { queued = c.queued + 1 }) (block_of ts u)
  still-out u l ne h = record {
    ring = λ i k q. by i k (eq-or-lt_of_le (omega arith));
    front = λ e. h.front (sym (low 0x1000 (omega arith)) ∙ e);
  }
    where
      by : (i : ℕ) → c.started ≤ i → (i ≡ c.queued) ⊎ (i < c.queued) → n (start_slot i) ≢ block_of ts u
      by i k (inl e) f = d.blocks u t l live-here ne (sym f ∙ ap (λ (j : ℕ). n (start_slot j)) e ∙ m.filled)
      by i k (inr a) f = h.ring i k a (sym (before i k a) ∙ f)

  pub parts-queued : Parts version w ts c o → Parts version n ts (record c { queued = c.queued + 1 }) o
  parts-queued p = record {
    loaded = loaded-frame w n version (λ x f g. low x (omega arith)) p.loaded;
    chains = chains-frame w n ts.units few_units (λ x f g. high x (omega arith)) p.chains;
    constants = constants-frame w n (λ x f g. low x (omega arith)) p.constants;
    fixed = fixed-frame w n (λ x f g. low x (omega arith)) p.fixed;
    front = front-frame w n ts (low 0x1000 (omega arith)) (λ u h. state-high u (active-live (ts.stage u) (inr h.stage))) p.front;
    ringp = low 0x1004 (omega arith) ∙ p.ringp;
    start = ring-queued p.start;
    done = done-frame w n ts c.taken c.entered (λ x f g. high x (omega arith)) (λ u i h l k e. state-high u (active-live (ts.stage u) h.stage)) p.done;
    blocks = λ u l. block-frame w n (ts.stage u) (ts.fixed u) (target_of ts u) (λ x f g. high x (omega (arith, (d.block u l).from))) (λ x f g. high x (omega (arith, (d.block u l).from))) (p.blocks u l);
    fresh = λ u f. state-high u (fresh-live (ts.stage u) f) ∙ p.fresh u f;
    there = λ u l h. p.there u l (elim h [ inl e ↦ inl e | inr (inl e) ↦ inr (inl e) | inr (inr e) ↦ inr (inr (sym (state-high u l) ∙ e)) ]);
    gates = λ u l k e.
        let gate : field w (block_of ts u) Gate ≡ 0x1B0 = sym (high (block_of ts u + 0x1C) (omega (arith, (d.block u l).from))) ∙ e in
        let ne : u ≢ t = λ z. shut (subst (λ (i : ℕ). field w (block_of ts i) Gate ≡ 0x1B0) z gate) in
        let g = p.gates u l k gate in
        record { begun = begun-frame w n ts u (state-high u l) g.begun; out = still-out u l ne g.out; there = g.there };
  }

  pub onward-queued : (k : Role) → ((u : ℕ) → worker k ≡ Some u → u ≢ t) → StartRing w ts c.started c.queued → Onward w n ts k c (record c { queued = c.queued + 1 })
  onward-queued k idle r = record {
    front = λ u e. low 0x1000 (omega arith);
    blocks = λ b q x f g. high x (omega (arith, q.from));
    cur = low 0x100C (omega arith);
    first = λ l. (omega arith, before c.started (omega arith) l);
    out = λ u e a h. still-out u (active-live (ts.stage u) a) (idle u e) h;
    entered = λ u e h. not_entered-frame w n c (block_of ts u) (λ x f g. high x (omega arith)) h;
  }

-- ---- a ticket that begins anew: four fields of its block are written

module _ (m : List ℕ) (b p : ℕ) (size : length m ≡ 0x400000) (place : IsCommandBlock b) (fits : p < 2 ^ 32) where
  abbrev first : List ℕ
  first = put_word m (b + 0x10) 0

  abbrev second : List ℕ
  second = put_word first (b + 0x14) 0xFF

  abbrev third : List ℕ
  third = put_word second (b + 0x08) p

  abbrev pub fourth : List ℕ
  fourth = put_word third (b + 0x0C) p

  size-first : length first ≡ 0x400000
  size-first = length-put_word m (b + 0x10) 0 ∙ size

  size-second : length second ≡ 0x400000
  size-second = length-put_word first (b + 0x14) 0xFF ∙ size-first

  size-third : length third ≡ 0x400000
  size-third = length-put_word second (b + 0x08) p ∙ size-second

  pub size-fourth : length fourth ≡ 0x400000
  size-fourth = length-put_word third (b + 0x0C) p ∙ size-third

  one : Wrote (word_at m) (word_at first) (b + 0x10) 0
  one = wrote-put_word m (b + 0x10) 0 (omega (arith, size, place.below)) (omega arith)

  two : Wrote (word_at first) (word_at second) (b + 0x14) 0xFF
  two = wrote-put_word first (b + 0x14) 0xFF (omega (arith, size-first, place.below)) (omega arith)

  three : Wrote (word_at second) (word_at third) (b + 0x08) p
  three = wrote-put_word second (b + 0x08) p (omega (arith, size-second, place.below)) fits

  four : Wrote (word_at third) (word_at fourth) (b + 0x0C) p
  four = wrote-put_word third (b + 0x0C) p (omega (arith, size-third, place.below)) fits

  -- what the four writes make of the words
  pub anew-other : (x : ℕ) → Outside x (b + 0x08) (b + 0x18) → word_at fourth x ≡ word_at m x
  anew-other x o = four.other x (omega arith) ∙ three.other x (omega arith) ∙ two.other x (omega arith) ∙ one.other x (omega arith)

  pub anew-state : word_at fourth (b + 0x10) ≡ 0
  anew-state = four.other (b + 0x10) (omega arith) ∙ three.other (b + 0x10) (omega arith) ∙ two.other (b + 0x10) (omega arith) ∙ one.same

  pub anew-last : word_at fourth (b + 0x08) ≡ p
  anew-last = four.other (b + 0x08) (omega arith) ∙ three.same

  pub anew-saved : word_at fourth (b + 0x0C) ≡ p
  anew-saved = four.same

begins-fits : (k : Ticket) → begins_at k < 2 ^ 32
begins-fits k = fits k.direction (length k.pieces)
  where
    fits : (d : Direction) (n : ℕ) → beginning d n < 2 ^ 32
    fits direction.In n = omega arith
    fits direction.Out n = omega arith
    fits direction.None n = omega arith

block-anew : (w n : ℕ → ℕ) (s : Stage) (f : Fixed) (target : ℕ) → f.turned ≡ false → ((x : ℕ) → Outside x (f.block + 0x08) (f.block + 0x18) → n x ≡ w x) → n (f.block + 0x08) ≡ f.begins → n (f.block + 0x0C) ≡ f.begins
    → IsBlock w s f target → IsBlock n s f target
block-anew w n s f target plain o last saved h =
    let b = f.block in
    let e0 = o (b + 0x00) (omega arith) in
    let e1 = o (b + 0x04) (omega arith) in
    let e4 = o (b + 0x1C) (omega arith) in
    block-with w n s f target (subst (IsStart s) (sym e0) h.start) (elim h.restart [ inl k ↦ inl (e1 ∙ k) | inr k ↦ inr (e1 ∙ k) ])
    (subst (IsPointer w b (way f) (goal f)) (sym last) (h.begins plain))
    (subst (IsPointer w b (way f) (goal f)) (sym saved) (h.begins plain))
    (elim h.gate [ inl k ↦ inl (e4 ∙ k) | inr k ↦ inr (e4 ∙ k) ])
    (λ x i j. o x (omega arith)) (λ x i j. o x (omega arith)) h

-- entries that stay twice stay
entries-then : (q : Spot) (u v w : ℕ → ℕ) (ts : Tickets) → SameEntries q u v ts → SameEntries q v w ts → SameEntries q u w ts
entries-then (Mismatched t x left) u v w ts a b = λ i f g. b i f g ∙ a i f g
entries-then (ResetAt p) u v w ts a b = λ e. b (a e)
entries-then _ u v w ts a b = tt

-- ---- Queue

module _ (version : ℕ) (units : List RigUnit) (s : Spot) (c : Counts) (w : World) (t : ℕ) (h : Holds version units s c w) (live : IsLive (ticket w.desk t).stage) (still : IsActive (ticket w.desk t).stage → ⊥) (bound : IsBound (ticket w.desk t).stage)
    (start : (v : ℕ) → IsStart (ticket w.desk t).stage v → IsStart stage.Queued v) (check : is_check stage.Queued ≡ is_check (ticket w.desk t).stage) (plain : ((tickets_of w.desk).fixed t).turned ≡ true → ⊥) where
  -- a block whose STATE is 0 enters the ring
  enter : (m : List ℕ) → Patch version s c c w m w.desk (tickets_of w.desk).stage → field (word_at m) (ticket w.desk t).block State ≡ 0 → field (word_at m) (ticket w.desk t).block Gate ≢ 0x1B0
      → Holds version units s (record c { queued = c.queued + 1 }) (record w { memory = started m w.desk.put (ticket w.desk t).block; desk = queues w.desk t })
  enter m p state shut =
      let d = w.desk in
      let ts = tickets_of d in
      let b = (ticket d t).block in
      let o = closing_at s in
      let v = word_at m in
      let block = h.tickets.block t live in
      let k : Ticket = record (ticket d t) { stage = stage.Queued; tries = (ticket d t).tries + 1 } in
      let turns = desk-turns d t k live in
      let desk = queues d t in
      let new = (tickets_of desk).stage in
      let few_units = few version units s c w t h in
      let away = aside version v ts c o t h.tickets live still p.parts in
      let f : Fits v ts new t stage.Queued turns c = record {
        live = live;
        stays = λ e. absurd cc;
        aside = away;
        start = λ x. start (field v b Start) x;
        fresh = λ x. elim x [ inl i ↦ absurd cc | inr i ↦ absurd cc ];
        there = λ x. elim x [ inl i ↦ absurd cc | inr i ↦ absurd cc ];
        gate = shut;
      } in
      let q = parts-turned v ts new t stage.Queued turns version c o f p.parts in
      let g = tickets-turned v ts new t stage.Queued turns live (λ e. absurd (plain e)) h.tickets in
      let memory = started m d.put b in
      let n = word_at memory in
      let size : length m ≡ 0x400000 = p.size ∙ h.size in
      let slot : IsSlot START_RING d.put = subst (IsSlot START_RING) (sym h.put) (counts_start_slots.is_slot c.queued) in
      let e : Entered v n c.queued b = entered-of v n c.queued b (subst (λ (i : ℕ). Started v n i b) h.put (started_is m d.put b size slot (omega (arith, block.below)))) in
      let here : Waits v (staged ts new) t = record { stage = turns.here; live = state } in
      let room = start-room v ts c h.tickets p.parts.start in
      let idle = idle-worker version units s c w t h still in
      let other : (x : ℕ) → Outside x 0x2000 0x3000 → n x ≡ v x = λ x i. e.other x (omega arith) (omega arith) in
      let ids : IsBound stage.Queued = record { live = λ i. absurd cc; linked = λ i. absurd cc; still = λ i. absurd cc } in
      let works = work-turned v ts new t stage.Queued turns (work_at s) c f.stays idle p.works in
      patched version units s c (c.queued + 1) c.taken w memory desk new h (record {
        size = length-put_word (put_word m (next_slot START_RING d.put) IDLE) d.put b ∙ length-put_word m (next_slot START_RING d.put) IDLE ∙ p.size;
        bytes = bytes-put_word (put_word m (next_slot START_RING d.put) IDLE) d.put b (bytes-put_word m (next_slot START_RING d.put) IDLE p.bytes);
        version_is = h.version_is;
        checked = desk-checked d t k live (λ e. elim e [ inl i ↦ absurd cc | inr i ↦ absurd cc ]) h.checked;
        put = ap (next_slot START_RING) h.put ∙ counts_start_slots.next c.queued;
        take = h.take;
        tickets = g;
        parts = parts-queued version v n (staged ts new) c o few_units g t here room away.start shut e q;
        tags = tags-frame v n (staged ts new) g few_units (λ x i j. other x (omega arith)) (tags-turned v ts new t stage.Queued turns bound ids p.tags);
        donep = other 0x1008 (omega arith) ∙ p.donep;
        works = work-onward v n (staged ts new) c (record c { queued = c.queued + 1 }) g (work_at s) (onward-queued version v n (staged ts new) c o few_units g t here room away.start shut e (role (work_at s)) idle q.start) works;
        entries = entries-then s (word_at w.memory) v n ts p.entries (entries-at s v n ts (unasked-same v n (other 0x1000 (omega arith))) (λ u i x j l.
            other x (omega (arith, (h.tickets.block u (active-live (ts.stage u) (worker-active (role (work_at s)) (word_at w.memory) ts c u i h.works.plays))).from))));
      }) (desk-staged d t k live (same-fixed (ticket d t) stage.Queued check))

not-queued : (x : Stage) → (x ≡ stage.Linked) ⊎ (x ≡ stage.Again) → IsActive x → ⊥
not-queued x (inl e) (inl f) = let z : stage.Linked ≡ stage.Queued = sym e ∙ f in absurd cc
not-queued x (inl e) (inr f) = let z : stage.Linked ≡ stage.Sensing = sym e ∙ f in absurd cc
not-queued x (inr e) (inl f) = let z : stage.Again ≡ stage.Queued = sym e ∙ f in absurd cc
not-queued x (inr e) (inr f) = let z : stage.Again ≡ stage.Sensing = sym e ∙ f in absurd cc

bound-by : (x : Stage) → (x ≡ stage.Linked) ⊎ (x ≡ stage.Again) → IsBound x
bound-by x (inl e) = subst IsBound (sym e) (record { live = λ i. absurd cc; linked = λ i. absurd cc; still = λ i. absurd cc })
bound-by x (inr e) = subst IsBound (sym e) (record { live = λ i. absurd cc; linked = λ i. absurd cc; still = λ i. absurd cc })

start-by : (x : Stage) (v : ℕ) → (x ≡ stage.Linked) ⊎ (x ≡ stage.Again) → IsStart x v → IsStart stage.Queued v
start-by x v (inl e) h = subst (λ (i : Stage). IsStart i v) e h
start-by x v (inr e) h = subst (λ (i : Stage). IsStart i v) e h

check-by : (x : Stage) → (x ≡ stage.Linked) ⊎ (x ≡ stage.Again) → is_check stage.Queued ≡ is_check x
check-by x (inl e) = sym (ap is_check e)
check-by x (inr e) = sym (ap is_check e)

plain-by : (x : Stage) → (x ≡ stage.Linked) ⊎ (x ≡ stage.Again) → IsTurned x → ⊥
plain-by x (inl e) h = subst IsTurned e h
plain-by x (inr e) h = subst IsTurned e h

-- a step that writes nothing
unwritten : (version : ℕ) (units : List RigUnit) (s : Spot) (c : Counts) (w : World) → Holds version units s c w → Patch version s c c w w.memory w.desk (tickets_of w.desk).stage
unwritten version units s c w h = record {
  size = refl;
  bytes = h.bytes;
  version_is = h.version_is;
  checked = h.checked;
  put = h.put;
  take = h.take;
  tickets = h.tickets;
  parts = h.parts;
  tags = h.tags;
  donep = refl;
  works = h.works;
  entries = entries-at s (word_at w.memory) (word_at w.memory) (tickets_of w.desk) (λ e. e) (λ u e x i j. refl);
}

not-turned : (b : Bool) → (b ≡ true → ⊥) → b ≡ false
not-turned true h = absurd (h refl)
not-turned false h = refl

pub queue_holds : QueueHolds
queue_holds version units s c w t h x =
    let d = w.desk in
    let ts = tickets_of d in
    let b = (ticket d t).block in
    let st = (ticket d t).stage in
    let live : IsLive st = (bound-by st x).live in
    let still = not-queued st x in
    let plain : (ts.fixed t).turned ≡ true → ⊥ = λ e. plain-by st x (h.tickets.turned t e) in
    let shut = idle-gate version units s c w t h live still in
    let go = enter version units s c w t h live still (bound-by st x) (λ v. start-by st v x) (check-by st x) plain in
    elim x [
      | inl e ↦
          let m : begun_anew st (ticket d t) w.memory ≡ w.memory = ap (λ (i : Stage). begun_anew i (ticket d t) w.memory) e in
          subst (λ (i : List ℕ). Holds version units s (record c { queued = c.queued + 1 }) (record w { memory = started i d.put b; desk = queues d t })) (sym m)
          (go w.memory (unwritten version units s c w h) (h.parts.fresh t (inr e)) shut)
      | inr e ↦
          let place = h.tickets.block t live in
          let fits = begins-fits (ticket d t) in
          let made = fourth w.memory b (begins_at (ticket d t)) h.size place fits in
          let m : begun_anew st (ticket d t) w.memory ≡ made = ap (λ (i : Stage). begun_anew i (ticket d t) w.memory) e in
          let v = word_at w.memory in
          let n = word_at made in
          let o : (i : ℕ) → Outside i (b + 0x08) (b + 0x18) → n i ≡ v i = anew-other w.memory b (begins_at (ticket d t)) h.size place fits in
          let state : field n b State ≡ 0 = anew-state w.memory b (begins_at (ticket d t)) h.size place fits in
          let few_units = few version units s c w t h in
          let gate : field n b Gate ≡ field v b Gate = o (b + 0x1C) (omega arith) in
          let change : BlockChanges version v n ts c (closing_at s) few_units t = record {
            live = live;
            outside = λ i q. o i (omega arith);
            block = block-anew v n st (ts.fixed t) (target_of ts t) (not-turned (ts.fixed t).turned plain) o (anew-last w.memory b (begins_at (ticket d t)) h.size place fits) (anew-saved w.memory b (begins_at (ticket d t)) h.size place fits) (h.parts.blocks t live);
            state = inr (aside version v ts c (closing_at s) t h.tickets live still h.parts);
            answered = λ q. absurd (omega (arith, state, q));
            fresh = λ q. state;
            gate = λ k q. absurd (shut (sym gate ∙ q));
          } in
          let p = block-patch version units s c w t h few_units made change (λ u q. inl (idle-worker version units s c w t h still u q)) (λ q. gate ∙ q)
          (size-fourth w.memory b (begins_at (ticket d t)) h.size place fits ∙ sym h.size)
          (bytes-put_word _ (b + 0x0C) (begins_at (ticket d t)) (bytes-put_word _ (b + 0x08) (begins_at (ticket d t)) (bytes-put_word _ (b + 0x14) 0xFF (bytes-put_word w.memory (b + 0x10) 0 h.bytes)))) in
          subst (λ (i : List ℕ). Holds version units s (record c { queued = c.queued + 1 }) (record w { memory = started i d.put b; desk = queues d t })) (sym m)
          (go made p state (λ q. shut (sym gate ∙ q)))
    ]
