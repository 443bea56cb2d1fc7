-- TakeDone keeps the invariant: the done slot is idle again, and its ticket comes to its next stage.
use Rattle.std.proofs.Common.{◌≡◌, ◌≢◌, ◌⊎◌, inl, inr, ℕ, ◌+◌, ◌<◌, ◌≤◌, List, length, Bool, true, false, refl, sym, ap, subst, ◌∙◌, arith, Option, Some}
use Rattle.std.specs.Prelude.{◌==◌, ◌&&◌, not, position}
use Rattle.std.proofs.lemmas.List.Quantifiers.{position-Some}
use Rattle.bench_words.specs.Memory.{word_at}
use Rattle.bench_words.specs.Views.{Wrote}
use Rattle.bench_words.proofs.Bytes.{bytes-put_word}
use Rattle.bench_words.proofs.MemoryLaws.{length-put_word}
use Rattle.rig_types.specs.declared.report.Outcome.{Outcome}
use Rattle.rig_types.specs.declared.report.Outcome.TheVariants as outcome
use Rattle.host_map.specs.declared.TheConstants.{IDLE}
use Rattle.host_map.specs.Places.{start_slot, done_slot, IsCommandBlock}
use Rattle.job_rings.specs.Rings.{IsSlot, next_slot}
use Rattle.job_rings.proofs.RingLaws.{counts_done_slots, cleared_wrote}
use Rattle.cmd_block.specs.declared.Field.TheVariants.{Start, State}
use Rattle.cmd_block.specs.declared.TheConstants.{ENDED}
use Rattle.phase_fix.specs.Remain.{field}
use Rattle.desk_law.specs.declared.stage.Stage.{Stage}
use Rattle.desk_law.specs.declared.stage.Stage.TheVariants as stage
use Rattle.desk_law.specs.declared.ticket.Ticket.{Ticket}
use Rattle.desk_law.specs.Desk.{DeskState, ticket, no_ticket, has_block, lives, is_freed, is_sensing, is_rogue}
use Rattle.desk_law.specs.Blocks.{own, begins_at}
use Rattle.desk_law.specs.Taking.{has_status, is_again, is_check as asks_sense, taken_by, taken, takes, take_memory, outcome_by, state_of, status_byte, is_marked}
use Rattle.word_owners.specs.Tickets.{Tickets, tickets_of, fixed_of, block_of, target_of, is_check, IsLive, IsActive, IsBound, IsTurned, AreTickets, IsAskedFor}
use Rattle.word_owners.specs.Parts.{Counts, Parts, DoneRing, IsOver, IsStart, Queues, IsFresh, IsThere}
use Rattle.word_owners.specs.Works.{Role, Nothing, First, Asked, Working, Closing, Done, role, worker, Plays}
use Rattle.word_owners.specs.Holds.{closing_at, work_at}
use Rattle.word_owners.specs.Laws.{TakeHolds}
use Rattle.word_owners.proofs.Frames.{same_or, active-live, loaded-frame, chains-frame, constants-frame, fixed-frame, block-frame, begun-frame, over-frame, start-frame, front-frame, not_starting-frame}
use Rattle.word_owners.proofs.StageChanges.{Fits, tickets-turned, parts-turned, tags-turned, work-turned, worker-active}
use Rattle.word_owners.proofs.WriteFrames.{tags-frame, fresh-live}
use Rattle.word_owners.proofs.ChipWork.{Onward, work-onward}
use Rattle.word_owners.proofs.Lists.{desk-turns, desk-staged, desk-checked, same-fixed}
use Rattle.word_owners.proofs.ChipPlace.{patched, quiet_holds, entries-at, unasked-same, closing-worker}
use Rattle.word_owners.proofs.Room.{done-room}
use Rattle.word_owners.proofs.Sweeps.{equal}
use Rattle.std.proofs.lemmas.Bool.{and_parts}
use Rattle.word_owners.proofs.Patches.{few}

-- ---- the slot is idle again

module _ (version : ℕ) (w n : ℕ → ℕ) (ts : Tickets) (c : Counts) (o : Option ℕ) (few_units : length ts.units ≤ 16) (d : AreTickets ts) (more : c.taken < c.entered) (room : c.entered ≤ c.taken + 256)
    (r : Wrote w n (done_slot c.taken) IDLE) where
  low : (x : ℕ) → x + 4 ≤ 0x3000 → n x ≡ w x
  low x l = r.other x (omega arith)

  high : (x : ℕ) → 0x4000 ≤ x → n x ≡ w x
  high x l = r.other x (omega arith)

  state-high : (t : ℕ) → IsLive (ts.stage t) → field n (block_of ts t) State ≡ field w (block_of ts t) State
  state-high t l = high (block_of ts t + 0x10) (omega (arith, (d.block t l).from))

  later : (i : ℕ) → c.taken < i → i < c.taken + 512 → n (done_slot i) ≡ w (done_slot i)
  later i l u = r.other (done_slot i) (omega arith)

  last-or : (i : ℕ) → i < c.taken + 1 + 512 → (i ≡ c.taken + 512) ⊎ (i < c.taken + 512)
  last-or i h = grind arith

  done-taken : DoneRing w ts c.taken c.entered → DoneRing n ts (c.taken + 1) c.entered
  done-taken p = record {
    order = omega arith;
    entry = λ i l u.
        let x = p.entry i (omega arith) u in
        (x.0, later i (omega arith) (omega arith) ∙ x.1, over-frame w n ts x.0 (state-high x.0 (active-live (ts.stage x.0) x.2.stage)) x.2);
    once = λ i j l a u e. p.once i j (omega arith) a u (sym (later i (omega arith) (omega arith)) ∙ e ∙ later j (omega arith) (omega arith));
    idle = λ i l u. elim (last-or i u) [
      | inl z ↦ let same : done_slot i ≡ done_slot c.taken = omega arith in ap n same ∙ r.same
      | inr z ↦ later i (omega arith) z ∙ p.idle i l z
    ];
    next = λ i. r.other (done_slot i + 4) (omega arith) ∙ p.next i;
  }

  pub parts-taken : Parts version w ts c o → Parts version n ts (record c { taken = c.taken + 1 }) o
  parts-taken p = record {
    loaded = loaded-frame w n version (λ x f g. low x (omega arith)) p.loaded;
    chains = chains-frame w n ts.units few_units (λ x f g. high x (omega arith)) p.chains;
    constants = constants-frame w n (λ x f g. low x (omega arith)) p.constants;
    fixed = fixed-frame w n (λ x f g. low x (omega arith)) p.fixed;
    front = front-frame w n ts (low 0x1000 (omega arith)) (λ t h. state-high t (active-live (ts.stage t) (inr h.stage))) p.front;
    ringp = low 0x1004 (omega arith) ∙ p.ringp;
    start = start-frame w n ts c.started c.queued (λ x f g. low x (omega arith)) (λ t i h l u e. state-high t (active-live (ts.stage t) (inl h.stage))) p.start;
    done = done-taken p.done;
    blocks = λ t l. block-frame w n (ts.stage t) (ts.fixed t) (target_of ts t) (λ x f g. high x (omega (arith, (d.block t l).from))) (λ x f g. high x (omega (arith, (d.block t l).from))) (p.blocks t l);
    fresh = λ t f. state-high t (fresh-live (ts.stage t) f) ∙ p.fresh t f;
    there = λ t l h. p.there t l (elim h [ inl e ↦ inl e | inr (inl e) ↦ inr (inl e) | inr (inr e) ↦ inr (inr (sym (state-high t l) ∙ e)) ]);
    gates = λ t l k e.
        let g = p.gates t l k (sym (high (block_of ts t + 0x1C) (omega (arith, (d.block t l).from))) ∙ e) in
        let s = not_starting-frame w n c (block_of ts t) (λ x f g. low x (omega arith)) (low 0x1000 (omega arith)) g.out in
        record { begun = begun-frame w n ts t (state-high t l) g.begun; out = record { ring = s.ring; front = s.front }; there = g.there };
  }

  pub onward-taken : (k : Role) → Onward w n ts k c (record c { taken = c.taken + 1 })
  onward-taken k = record {
    front = λ t e. low 0x1000 (omega arith);
    blocks = λ b q x f g. high x (omega (arith, q.from));
    cur = low 0x100C (omega arith);
    first = λ l. (l, low (start_slot c.started) (omega arith));
    out = λ t e i h. (let s = not_starting-frame w n c (block_of ts t) (λ x f g. low x (omega arith)) (low 0x1000 (omega arith)) h in record { ring = s.ring; front = s.front });
    entered = λ t e h i l u f. h i (omega arith) u (sym (later i (omega arith) (omega arith)) ∙ f);
  }

-- ---- the ticket's next stage

-- the ticket after it was taken
record TakenSo (w : ℕ → ℕ) (ts : Tickets) (t : ℕ) (k taken : Ticket) : Type 0 where
  fixed : fixed_of taken ≡ fixed_of k
  bound : IsBound taken.stage
  away : IsActive taken.stage → ⊥
  start : (v : ℕ) → IsStart k.stage v → IsStart taken.stage v
  fresh : IsFresh taken.stage → ⊥
  there : (taken.stage ≡ stage.Check) ⊎ (taken.stage ≡ stage.Sensing) → IsThere ts t
  turned : (fixed_of k).turned ≡ true → IsTurned taken.stage
  checked : IsAskedFor taken.stage → taken.checked ≡ true

queued-if : (s : Stage) → is_sensing s ≡ false → IsActive s → s ≡ stage.Queued
queued-if s e (inl q) = q
queued-if s e (inr q) = let z : true ≡ false = sym (ap is_sensing q) ∙ e in absurd cc

queued-start : (s : Stage) (v : ℕ) → s ≡ stage.Queued → IsStart s v → Queues v
queued-start s v e h = subst (λ (i : Stage). IsStart i v) e h

sensing-start : (s : Stage) (o : Outcome) (v : ℕ) → IsActive s → IsStart s v → IsStart (stage.Ended o) v
sensing-start s o v (inl e) h = inl (subst (λ (i : Stage). IsStart i v) e h)
sensing-start s o v (inr e) h = inr (subst (λ (i : Stage). IsStart i v) e h)

active-check : (x : Stage) → IsActive x → is_check x ≡ false
active-check x (inl e) = ap is_check e
active-check x (inr e) = ap is_check e

ended-so : (w : ℕ → ℕ) (ts : Tickets) (t : ℕ) (k taken : Ticket) (o : Outcome) → fixed_of taken ≡ fixed_of (record k { stage = stage.Ended o }) → taken.stage ≡ stage.Ended o → IsActive k.stage → TakenSo w ts t k taken
ended-so w ts t k taken o e f a = record {
  fixed = e ∙ same-fixed k (stage.Ended o) (sym (active-check k.stage a));
  bound = subst IsBound (sym f) (record { live = λ i. absurd cc; linked = λ i. absurd cc; still = λ i. absurd cc });
  away = λ x. elim x [
    | inl i ↦ let z : stage.Ended o ≡ stage.Queued = sym f ∙ i in absurd cc
    | inr i ↦ let z : stage.Ended o ≡ stage.Sensing = sym f ∙ i in absurd cc
  ];
  start = λ v h. subst (λ (i : Stage). IsStart i v) (sym f) (sensing-start k.stage o v a h);
  fresh = λ x. elim x [
    | inl i ↦ let z : stage.Ended o ≡ stage.Built = sym f ∙ i in absurd cc
    | inr i ↦ let z : stage.Ended o ≡ stage.Linked = sym f ∙ i in absurd cc
  ];
  there = λ x. elim x [
    | inl i ↦ let z : stage.Ended o ≡ stage.Check = sym f ∙ i in absurd cc
    | inr i ↦ let z : stage.Ended o ≡ stage.Sensing = sym f ∙ i in absurd cc
  ];
  turned = λ x. subst IsTurned (sym f) tt;
  checked = λ x. elim x [
    | inl i ↦ let z : stage.Ended o ≡ stage.Check = sym f ∙ i in absurd cc
    | inr i ↦ let z : stage.Ended o ≡ stage.Sensing = sym f ∙ i in absurd cc
  ];
}

-- a Queued ticket isn't turned
plain-checked : (k : Ticket) → k.stage ≡ stage.Queued → ((fixed_of k).turned ≡ true → IsTurned k.stage) → k.checked ≡ false
plain-checked k e h = by k.checked refl
  where
    by : (b : Bool) → b ≡ k.checked → b ≡ false
    by false q = refl
    by true q =
        let turned : (fixed_of k).turned ≡ true = ap (λ (x : Bool). x && not (is_check k.stage)) (sym q) ∙ ap not (ap is_check e) in
        absurd (subst IsTurned e (h turned))

taken-so : (again sense sensing : Bool) (m : List ℕ) (w : ℕ → ℕ) (ts : Tickets) (t : ℕ) (k : Ticket) → is_sensing k.stage ≡ sensing → IsActive k.stage → ((fixed_of k).turned ≡ true → IsTurned k.stage)
    → (sense ≡ true → IsThere ts t) → TakenSo w ts t k (taken_by sensing again sense m k)
taken-so again sense true m w ts t k e a h s = ended-so w ts t k (taken_by true again sense m k) outcome.Done refl refl a
taken-so true sense false m w ts t k e a h s =
    let q = queued-if k.stage e a in
    record {
      fixed = same-fixed k stage.Again (sym (active-check k.stage a));
      bound = record { live = λ i. absurd cc; linked = λ i. absurd cc; still = λ i. absurd cc };
      away = λ x. elim x [ inl i ↦ absurd cc | inr i ↦ absurd cc ];
      start = λ v i. queued-start k.stage v q i;
      fresh = λ x. elim x [ inl i ↦ absurd cc | inr i ↦ absurd cc ];
      there = λ x. elim x [ inl i ↦ absurd cc | inr i ↦ absurd cc ];
      turned = λ x. absurd (subst IsTurned q (h x));
      checked = λ x. elim x [ inl i ↦ absurd cc | inr i ↦ absurd cc ];
    }
taken-so false true false m w ts t k e a h s =
    let q = queued-if k.stage e a in
    let plain : k.checked ≡ false = plain-checked k q h in
    record {
      fixed = ap (λ (x : Bool). record {
        block = k.block;
        unit = k.unit;
        tag = k.tag;
        direction = k.direction;
        own = own k;
        begins = begins_at k;
        turned = x;
      }) (sym (ap (λ (x : Bool). x && not (is_check k.stage)) plain));
      bound = record { live = λ i. absurd cc; linked = λ i. absurd cc; still = λ i. absurd cc };
      away = λ x. elim x [ inl i ↦ absurd cc | inr i ↦ absurd cc ];
      start = λ v i. queued-start k.stage v q i;
      fresh = λ x. elim x [ inl i ↦ absurd cc | inr i ↦ absurd cc ];
      there = λ x. s refl;
      turned = λ x. absurd (subst IsTurned q (h x));
      checked = λ x. refl;
    }
taken-so false false false m w ts t k e a h s = ended-so w ts t k (taken_by false false false m k) (outcome_by (state_of m k) (status_byte m k)) refl refl a

-- ---- TakeDone

pub found : (d : DeskState) (block t : ℕ) → position (has_block block) d.tickets ≡ Some t → (lives (ticket d t) ≡ true) × ((ticket d t).block ≡ block)
found d block t e =
    let p = (position-Some (has_block block) d.tickets t no_ticket e).1 in
    let q = and_parts (lives (ticket d t)) ((ticket d t).block == block) p in
    (q.0, equal (ticket d t).block block q.1)

pub lives-live : (s : Stage) → not (is_freed s) ≡ true → s ≢ stage.Freed
lives-live s e f = let z : false ≡ true = sym (ap (λ (x : Stage). not (is_freed x)) f) ∙ e in absurd cc

-- a slot that isn't idle is filled
some-entry : (v : ℕ → ℕ) (ts : Tickets) (c : Counts) → DoneRing v ts c.taken c.entered → (t : ℕ) → v (done_slot c.taken) ≡ block_of ts t → IsCommandBlock (block_of ts t) → (c.taken ≡ c.entered) ⊎ (c.taken ≢ c.entered) → c.taken < c.entered
some-entry v ts c p t e k (inl q) = absurd (omega (arith, p.idle c.taken (omega (arith, q)) (omega arith), e, k.from))
some-entry v ts c p t e k (inr q) = omega (arith, p.order, q)

-- its ticket is over
pub over-at : (v : ℕ → ℕ) (ts : Tickets) (c : Counts) → AreTickets ts → DoneRing v ts c.taken c.entered → (t : ℕ) → IsLive (ts.stage t) → v (done_slot c.taken) ≡ block_of ts t → c.taken < c.entered → IsOver v ts t
over-at v ts c d p t l e more =
    let x = p.entry c.taken (omega arith) more in
    elim (same_or x.0 t) [
      | inl z ↦ subst (IsOver v ts) z x.2
      | inr z ↦ absurd (d.blocks x.0 t (active-live (ts.stage x.0) x.2.stage) l z (sym x.1 ∙ e))
    ]

-- and the chip isn't at work on it
at-work : (r : Role) (v : ℕ → ℕ) (ts : Tickets) (c : Counts) (t u : ℕ) → worker r ≡ Some u → u ≡ t → IsOver v ts t → v (done_slot c.taken) ≡ block_of ts t → c.taken < c.entered → Plays r v ts c → ⊥
at-work Nothing v ts c t u q z over e more h = absurd cc
at-work (First x) v ts c t u q z over e more h = let y : x ≡ t = cc in absurd (omega (arith, over.some, h.2.live, ap (λ (i : ℕ). field v (block_of ts i) State) y))
at-work (Asked x) v ts c t u q z over e more h = let y : x ≡ t = cc in absurd (omega (arith, over.some, h.0.live, ap (λ (i : ℕ). field v (block_of ts i) State) y))
at-work (Working x) v ts c t u q z over e more h = let y : x ≡ t = cc in absurd (omega (arith, over.some, h.begun.live, ap (λ (i : ℕ). field v (block_of ts i) State) y))
at-work (Closing x) v ts c t u q z over e more h = let y : x ≡ t = cc in absurd (omega (arith, over.some, h.0.live, ap (λ (i : ℕ). field v (block_of ts i) State) y))
at-work (Done x) v ts c t u q z over e more h = let y : x ≡ t = cc in h.1 c.taken (omega arith) more (e ∙ ap (block_of ts) (sym y))

bound-active : (x : Stage) → IsActive x → IsBound x
bound-active x (inl e) = subst IsBound (sym e) (record { live = λ i. absurd cc; linked = λ i. absurd cc; still = λ i. absurd cc })
bound-active x (inr e) = subst IsBound (sym e) (record { live = λ i. absurd cc; linked = λ i. absurd cc; still = λ i. absurd cc })

pub take_holds : TakeHolds
take_holds version units s c w t e ended h =
    let d = w.desk in
    let ts = tickets_of d in
    let v = word_at w.memory in
    let place = found d (v d.take) t e in
    let live = lives-live (ticket d t).stage place.0 in
    let block = h.tickets.block t live in
    let slot : v (done_slot c.taken) ≡ block_of ts t = ap v (sym h.take) ∙ sym place.1 in
    let more : c.taken < c.entered = some-entry v ts c h.parts.done t slot block (same_or c.taken c.entered) in
    let room = done-room v ts c h.tickets h.parts.done in
    let over = over-at v ts c h.tickets h.parts.done t live slot more in
    let m = take_memory d w.memory in
    let n = word_at m in
    let r : Wrote v n (done_slot c.taken) IDLE = subst (λ (i : ℕ). Wrote v n i IDLE) h.take (cleared_wrote w.memory d.take h.size (subst (IsSlot 0x3000) (sym h.take) (counts_done_slots.is_slot c.taken))) in
    let few_units = few version units s c w t h in
    let o = closing_at s in
    let k : Ticket = taken d w.memory (ticket d t) in
    let so = taken-so (is_again d w.memory (ticket d t)) (asks_sense d w.memory (ticket d t)) (is_sensing (ticket d t).stage) w.memory v ts t (ticket d t) refl over.stage (h.tickets.turned t)
    (λ q. h.parts.there t live (inr (inr (equal (state_of w.memory (ticket d t)) ENDED (and_parts (state_of w.memory (ticket d t) == ENDED) (status_byte w.memory (ticket d t) == 2) (and_parts (has_status w.memory (ticket d t) 2) (d.autosense && (not (is_rogue d (ticket d t)) && not (is_marked w.memory (ticket d t)))) q).0).0)))) in
    let c' : Counts = record c { taken = c.taken + 1 } in
    let idle : (u : ℕ) → worker (role (work_at s)) ≡ Some u → u ≢ t = λ u q z. at-work (role (work_at s)) v ts c t u q z over slot more h.works.plays in
    let turns = desk-turns d t k live in
    let desk = takes d w.memory t in
    let new = (tickets_of desk).stage in
    let p = parts-taken version v n ts c o few_units h.tickets more room r h.parts in
    let state : field n (block_of ts t) State ≡ field v (block_of ts t) State = r.other (block_of ts t + 0x10) (omega (arith, block.from)) in
    let f : Fits n ts new t k.stage turns c' = record {
      live = live;
      stays = so.bound.live;
      aside = record {
        start = λ i l u q.
            let x = p.start.entry i l u in
            let z : block_of ts x.0 ≡ block_of ts t = sym x.1 ∙ q in
            absurd (omega (arith, x.2.live, ap (λ (b : ℕ). field n b State) z, state, over.some));
        done = λ i l u q. h.parts.done.once c.taken i (omega arith) (omega arith) u (slot ∙ sym q ∙ r.other (done_slot i) (omega arith));
        front = λ q. absurd (omega (arith, q.live, state, over.some));
      };
      start = λ q. so.start (field n (block_of ts t) Start) q;
      fresh = λ q. absurd (so.fresh q);
      there = so.there;
      gate = λ q.
          let g = p.gates t live (λ i. idle t (closing-worker s t i) refl) q in
          absurd (omega (arith, g.begun.live, state, over.some));
    } in
    let active-bound : IsBound (ticket d t).stage = bound-active (ticket d t).stage over.stage in
    let first = patched version units s c c.queued (c.taken + 1) w m desk new h (record {
      size = length-put_word w.memory d.take IDLE;
      bytes = bytes-put_word w.memory d.take IDLE h.bytes;
      version_is = h.version_is;
      checked = desk-checked d t k live so.checked h.checked;
      put = h.put;
      take = ap (next_slot 0x3000) h.take ∙ counts_done_slots.next c.taken;
      tickets = tickets-turned n ts new t k.stage turns live so.turned h.tickets;
      parts = parts-turned n ts new t k.stage turns version c' o f p;
      tags = tags-turned n ts new t k.stage turns active-bound so.bound (tags-frame v n ts h.tickets few_units (λ x i j. r.other x (omega arith)) h.tags);
      donep = r.other 0x1008 (omega arith);
      works = work-turned n ts new t k.stage turns (work_at s) c' f.stays idle (work-onward v n ts c c' h.tickets (work_at s) (onward-taken version v n ts c o few_units h.tickets more room r (role (work_at s))) h.works);
      entries = entries-at s v n ts (unasked-same v n (r.other 0x1000 (omega arith))) (λ u q i j l.
          r.other i (omega (arith, (h.tickets.block u (active-live (ts.stage u) (worker-active (role (work_at s)) v ts c u q h.works.plays))).from)));
    }) (desk-staged d t k live so.fixed) in
    quiet_holds version units s c' (record w { memory = m; desk = desk }) (record w.regs { intf = false }) first (record {
      stopped = refl;
      cause = refl;
      dsp = refl;
      dsa = refl;
      temp = refl;
      scratcha = refl;
      scratchb = refl;
      ssid = refl;
      sfbr = refl;
      dbc = refl;
      con = refl;
    })
