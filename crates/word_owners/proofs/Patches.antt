-- Signal, Link and Unlink keep the invariant.
use Rattle.std.proofs.Common.{◌≡◌, ◌≢◌, ◌⊎◌, inl, inr, ℕ, ◌+◌, ◌<◌, ◌≤◌, List, length, true, refl, sym, ap, subst, ◌∙◌, arith, Some}
use Rattle.bench_words.specs.Memory.{word_at}
use Rattle.bench_words.specs.Bytes.{IsBytes}
use Rattle.bench_words.specs.Views.{Wrote}
use Rattle.bench_words.proofs.Bytes.{bytes-put_word}
use Rattle.bench_words.proofs.MemoryLaws.{length-put_word}
use Rattle.rig_types.specs.declared.rig.Unit.{Unit as RigUnit}
use Rattle.host_map.specs.declared.TheConstants.{NOTASK}
use Rattle.host_map.specs.Places.{tag_entry}
use Rattle.cmd_block.specs.declared.Field.TheVariants.{Start, Gate}
use Rattle.phase_fix.specs.Remain.{field}
use Rattle.tag_tables.proofs.TagLaws.{linked_wrote, unlinked_wrote}
use Rattle.host_map.proofs.MapLaws.{places_apart}
use Rattle.desk_law.specs.declared.stage.Stage.{Stage}
use Rattle.desk_law.specs.declared.stage.Stage.TheVariants as stage
use Rattle.desk_law.specs.declared.ticket.Ticket.{Ticket}
use Rattle.desk_law.specs.Desk.{DeskState, ticket}
use Rattle.desk_law.specs.Calls.{links, link_memory, unlinks, unlink_memory, signalled}
use Rattle.world_law.specs.World.{World}
use Rattle.world_law.specs.Enabling.{IsEnded}
use Rattle.word_owners.specs.Tickets.{Tickets, tickets_of, is_check, block_of, IsLive, IsActive, IsBound, IsTurned, AreTickets, AreChecked}
use Rattle.word_owners.specs.Parts.{Counts, TagTables, IsStart}
use Rattle.word_owners.specs.Works.{Role, role, worker}
use Rattle.word_owners.specs.Holds.{Spot, Holds, closing_at, work_at}
use Rattle.word_owners.specs.Laws.{SignalHolds, LinkHolds, UnlinkHolds}
use Rattle.host_map.specs.Places.{start_slot}
use Rattle.word_owners.proofs.Frames.{same_or, active-live, fixed-frame, not_starting-frame, not_entered-frame}
use Rattle.word_owners.proofs.StageChanges.{Turns, staged, aside, Fits, parts-turned, tickets-turned, work-turned, worker-active}
use Rattle.word_owners.proofs.WriteFrames.{Spares, parts-spared}
use Rattle.word_owners.proofs.ChipWork.{Onward, work-onward}
use Rattle.word_owners.proofs.Lists.{desk-turns, desk-staged, desk-checked, same-fixed}
use Rattle.word_owners.proofs.ChipPlace.{Patch, patched, quiet_holds, entries-at, unasked-same, closing-worker}

-- ---- Signal

pub signal_holds : SignalHolds
signal_holds version units s c w caller h =
    let q = quiet_holds version units s c w (signalled w.regs) h (record {
      stopped = refl;
      cause = refl;
      dsp = refl;
      dsa = refl;
      temp = refl;
      scratcha = refl;
      scratchb = refl;
      ssid = refl;
      sfbr = refl;
      dbc = refl;
      con = refl;
    }) in
    record {
      size = q.size;
      bytes = q.bytes;
      units_are = q.units_are;
      few_units = q.few_units;
      version_is = q.version_is;
      tickets = q.tickets;
      checked = q.checked;
      put = q.put;
      take = q.take;
      parts = q.parts;
      tags = q.tags;
      donep = q.donep;
      works = q.works;
      stays = q.stays;
      linked = q.linked;
    }

-- ---- Link and Unlink

-- a write of a word of the tag tables
module _ (w n : ℕ → ℕ) (ts : Tickets) (unit tag v : ℕ) (few : length ts.units ≤ 16) (d : AreTickets ts) (u : unit < 16) (g : tag < 256) (r : Wrote w n (tag_entry unit tag) v) where
  beside : (x : ℕ) → (x + 4 ≤ 0x4000) ⊎ (0x8000 ≤ x) → n x ≡ w x
  beside x (inl l) = r.other x (omega arith)
  beside x (inr l) = r.other x (omega arith)

  spares : Spares w n ts
  spares = record {
    script = λ x f l. beside x (inl (omega arith));
    front = beside 0x1000 (inl (omega arith));
    ringp = beside 0x1004 (inl (omega arith));
    constants = λ x f l. beside x (inl (omega arith));
    fixed = fixed-frame w n (λ x f l. beside x (inl (omega arith)));
    starts = λ x f l. beside x (inl (omega arith));
    dones = λ x f l. beside x (inl (omega arith));
    chains = λ x f l. beside x (inr (omega arith));
    lower = λ t k x f l. beside x (inr (omega (arith, (d.block t k).from)));
    upper = λ t k x f l. beside x (inr (omega (arith, (d.block t k).from)));
  }

  onward : (k : Role) (c : Counts) → Onward w n ts k c c
  onward k c = record {
    blocks = λ b q x f l. beside x (inr (omega (arith, q.from)));
    cur = beside 0x100C (inl (omega arith));
    first = λ l. (l, beside (start_slot c.started) (inl (omega arith)));
    front = λ t e. beside 0x1000 (inl (omega arith));
    out = λ t e i h. not_starting-frame w n c (block_of ts t) (λ x f l. beside x (inl (omega arith))) (beside 0x1000 (inl (omega arith))) h;
    entered = λ t e h. not_entered-frame w n c (block_of ts t) (λ x f l. beside x (inl (omega arith))) h;
  }

  -- another entry
  entry-other : (x y : ℕ) → y < 256 → (unit ≢ x) ⊎ (tag ≢ y) → n (tag_entry x y) ≡ w (tag_entry x y)
  entry-other x y l ne = r.other (tag_entry x y) (places_apart.tag_entries unit x tag y g l ne)

same-entry : (a b x y : ℕ) → ((a ≡ x) × (b ≡ y)) ⊎ ((a ≢ x) ⊎ (b ≢ y))
same-entry a b x y = elim (same_or a x) [
  | inl e ↦ elim (same_or b y) [ inl f ↦ inl (e, f) | inr f ↦ inr (inr f) ]
  | inr e ↦ inr (inl e)
]

-- a ticket that isn't bound becomes bound, and its entry has its block
tags-linked : (w n : ℕ → ℕ) (ts : Tickets) (new : ℕ → Stage) (t : ℕ) (s : Stage) → AreTickets ts → length ts.units ≤ 16 → IsLive (ts.stage t) → Turns ts.stage new t s → IsBound s
    → Wrote w n (tag_entry (ts.fixed t).unit (ts.fixed t).tag) (block_of ts t) → TagTables w ts → TagTables n (staged ts new)
tags-linked w n ts new t s d few l turns b r h =
    let u : (ts.fixed t).unit < 16 = omega (arith, d.unit t l, few) in
    let g : (ts.fixed t).tag < 256 = d.tag t l in
    let here : IsBound (new t) = subst IsBound (sym turns.here) b in
    let other = entry-other w n ts (ts.fixed t).unit (ts.fixed t).tag (block_of ts t) few d u g r in
    let keep : (v : ℕ) → IsBound (ts.stage v) → IsBound (new v) = λ v k. elim (same_or v t) [ inl z ↦ subst (λ (i : ℕ). IsBound (new i)) (sym z) here | inr z ↦ subst IsBound (sym (turns.other v z)) k ] in
    record {
      entries = λ x y lx ly. elim (same-entry (ts.fixed t).unit (ts.fixed t).tag x y) [
        | inl e ↦ inr (
          t,
          record {
            bound = here;
            unit_is = e.0;
            tag_is = e.1;
            block_is = ap (λ (i : ℕ). n (tag_entry i y)) (sym e.0) ∙ ap (λ (i : ℕ). n (tag_entry (ts.fixed t).unit i)) (sym e.1) ∙ r.same;
          },
        )
        | inr e ↦ elim (h.entries x y lx ly) [
          | inl k ↦ inl (other x y ly e ∙ k)
          | inr k ↦ inr (k.0, record { bound = keep k.0 k.1.bound; unit_is = k.1.unit_is; tag_is = k.1.tag_is; block_is = other x y ly e ∙ k.1.block_is })
        ]
      ];
      entered = λ v k. elim (same_or v t) [
        | inl z ↦ subst (λ (i : ℕ). n (tag_entry (ts.fixed i).unit (ts.fixed i).tag) ≡ block_of ts i) (sym z) r.same
        | inr z ↦
            let before : IsBound (ts.stage v) = subst IsBound (turns.other v z) k in
            let apart : ((ts.fixed t).unit ≢ (ts.fixed v).unit) ⊎ ((ts.fixed t).tag ≢ (ts.fixed v).tag) = two d t v l before.live (λ i. z (sym i)) (same_or (ts.fixed t).unit (ts.fixed v).unit) in
            other (ts.fixed v).unit (ts.fixed v).tag (d.tag v before.live) apart ∙ h.entered v before
      ];
    }
  where
    two : (d : AreTickets ts) (t v : ℕ) → IsLive (ts.stage t) → IsLive (ts.stage v) → t ≢ v → ((ts.fixed t).unit ≡ (ts.fixed v).unit) ⊎ ((ts.fixed t).unit ≢ (ts.fixed v).unit) → ((ts.fixed t).unit ≢ (ts.fixed v).unit) ⊎ ((ts.fixed t).tag ≢ (ts.fixed v).tag)
    two d t v l k ne (inl e) = inr (d.tags t v l k ne e)
    two d t v l k ne (inr e) = inl e

module _ (version : ℕ) (units : List RigUnit) (s : Spot) (c : Counts) (w : World) (t : ℕ) (h : Holds version units s c w) where
  -- a ticket that isn't active isn't at work, and its GATE isn't open
  pub idle-worker : (IsActive (ticket w.desk t).stage → ⊥) → (u : ℕ) → worker (role (work_at s)) ≡ Some u → u ≢ t
  idle-worker a u e z = a (subst (λ (i : ℕ). IsActive ((tickets_of w.desk).stage i)) z (worker-active (role (work_at s)) (word_at w.memory) (tickets_of w.desk) c u e h.works.plays))

  pub idle-gate : IsLive (ticket w.desk t).stage → (IsActive (ticket w.desk t).stage → ⊥) → field (word_at w.memory) (ticket w.desk t).block Gate ≢ 0x1B0
  idle-gate l a e = a ((h.parts.gates t l (λ k. idle-worker a t (closing-worker s t k) refl) e).begun.stage)

  pub few : length (tickets_of w.desk).units ≤ 16
  few = subst (λ (i : List RigUnit). length i ≤ 16) (sym h.units_are) h.few_units

  -- the entry of a ticket's tag is written, as its stage turns
  module _ (v : ℕ) (x : Stage) (m : List ℕ) (desk : DeskState) (new : ℕ → Stage) (turns : Turns (tickets_of w.desk).stage new t x)
      (f : Fits (word_at w.memory) (tickets_of w.desk) new t x turns c) (r : Wrote (word_at w.memory) (word_at m) (tag_entry (ticket w.desk t).unit (ticket w.desk t).tag) v) where
    unit-few : (ticket w.desk t).unit < 16
    unit-few = omega (arith, h.tickets.unit t f.live, few)

    tag-few : (ticket w.desk t).tag < 256
    tag-few = h.tickets.tag t f.live

    tag-patch : length m ≡ length w.memory → IsBytes m → desk.version ≡ w.desk.version → desk.put ≡ w.desk.put → desk.take ≡ w.desk.take → (IsActive (ticket w.desk t).stage → ⊥)
        → (((tickets_of w.desk).fixed t).turned ≡ true → IsTurned x) → TagTables (word_at m) (staged (tickets_of w.desk) new) → AreChecked desk → Patch version s c c w m desk new
    tag-patch size bytes same put take a turned tags checked =
        let ts = tickets_of w.desk in
        let b = word_at w.memory in
        let n = word_at m in
        let d = tickets-turned b ts new t x turns f.live turned h.tickets in
        record {
          size = size;
          bytes = bytes;
          version_is = same ∙ h.version_is;
          checked = checked;
          put = put ∙ h.put;
          take = take ∙ h.take;
          tickets = d;
          parts = parts-spared version b n (staged ts new) c (closing_at s) few (spares b n (staged ts new) (ticket w.desk t).unit (ticket w.desk t).tag v few d unit-few tag-few r)
              (parts-turned b ts new t x turns version c (closing_at s) f h.parts);
          tags = tags;
          donep = r.other 0x1008 (omega (arith, unit-few, tag-few));
          works = work-onward b n (staged ts new) c c d (work_at s) (onward b n (staged ts new) (ticket w.desk t).unit (ticket w.desk t).tag v few d unit-few tag-few r (role (work_at s)) c)
              (work-turned b ts new t x turns (work_at s) c f.stays (idle-worker a) h.works);
          entries = entries-at s b n ts (unasked-same b n (r.other 0x1000 (omega (arith, unit-few, tag-few)))) (λ u e i k l. r.other i (omega (arith, unit-few, tag-few, (h.tickets.block u (active-live (ts.stage u) (worker-active (role (work_at s)) b ts c u e h.works.plays))).from)));
        }

pub link_holds : LinkHolds
link_holds version units s c w t h b =
    let d = w.desk in
    let ts = tickets_of d in
    let k : Ticket = record (ticket d t) { stage = stage.Linked } in
    let live : (ticket d t).stage ≢ stage.Freed = λ e. (let z : stage.Built ≡ stage.Freed = sym b ∙ e in absurd cc) in
    let still : IsActive (ticket d t).stage → ⊥ = λ e. elim e [
      | inl q ↦ let z : stage.Built ≡ stage.Queued = sym b ∙ q in absurd cc
      | inr q ↦ let z : stage.Built ≡ stage.Sensing = sym b ∙ q in absurd cc
    ] in
    let turns = desk-turns d t k live in
    let new = (tickets_of (links d t)).stage in
    let m = link_memory d t w.memory in
    let few_units = few version units s c w t h in
    let block = h.tickets.block t live in
    let u : (ticket d t).unit < 16 = omega (arith, h.tickets.unit t live, few_units) in
    let r = linked_wrote w.memory (ticket d t).unit (ticket d t).tag (ticket d t).block h.size u (h.tickets.tag t live) (omega (arith, block.below)) in
    let bound : IsBound stage.Linked = record { live = λ e. absurd cc; linked = λ e. absurd cc; still = λ e. absurd cc } in
    let f : Fits (word_at w.memory) ts new t stage.Linked turns c = record {
      live = live;
      stays = bound.live;
      aside = aside version (word_at w.memory) ts c (closing_at s) t h.tickets live still h.parts;
      start = λ x. subst (λ (i : Stage). IsStart i (field (word_at w.memory) (ticket d t).block Start)) b x;
      fresh = λ x. h.parts.fresh t (inl b);
      there = λ e. elim e [ inl q ↦ absurd cc | inr q ↦ absurd cc ];
      gate = idle-gate version units s c w t h live still;
    } in
    let p = tag-patch version units s c w t h (ticket d t).block stage.Linked m (links d t) new turns f r (length-put_word w.memory (tag_entry (ticket d t).unit (ticket d t).tag) (ticket d t).block)
    (bytes-put_word w.memory (tag_entry (ticket d t).unit (ticket d t).tag) (ticket d t).block h.bytes) refl refl refl still
    (λ e. absurd (subst IsTurned b (h.tickets.turned t e)))
    (tags-linked (word_at w.memory) (word_at m) ts new t stage.Linked h.tickets few_units live turns bound r h.tags)
    (desk-checked d t k live (λ e. elim e [ inl i ↦ absurd cc | inr i ↦ absurd cc ]) h.checked) in
    patched version units s c c.queued c.taken w m (links d t) new h p (desk-staged d t k live (same-fixed (ticket d t) stage.Linked (ap is_check (sym b))))

-- a ticket that is no longer bound, whose entry has none
tags-unlinked : (w n : ℕ → ℕ) (ts : Tickets) (new : ℕ → Stage) (t : ℕ) (s : Stage) → AreTickets ts → length ts.units ≤ 16 → IsLive (ts.stage t) → Turns ts.stage new t s → (IsBound s → ⊥)
    → Wrote w n (tag_entry (ts.fixed t).unit (ts.fixed t).tag) NOTASK → TagTables w ts → TagTables n (staged ts new)
tags-unlinked w n ts new t s d few l turns b r h =
    let u : (ts.fixed t).unit < 16 = omega (arith, d.unit t l, few) in
    let g : (ts.fixed t).tag < 256 = d.tag t l in
    let other = entry-other w n ts (ts.fixed t).unit (ts.fixed t).tag NOTASK few d u g r in
    record {
      entries = λ x y lx ly. elim (same-entry (ts.fixed t).unit (ts.fixed t).tag x y) [
        | inl e ↦ inl (ap (λ (i : ℕ). n (tag_entry i y)) (sym e.0) ∙ ap (λ (i : ℕ). n (tag_entry (ts.fixed t).unit i)) (sym e.1) ∙ r.same)
        | inr e ↦ elim (h.entries x y lx ly) [
          | inl k ↦ inl (other x y ly e ∙ k)
          | inr k ↦
              let ne : k.0 ≢ t = λ z. elim e [ inl q ↦ q (ap (λ (i : ℕ). (ts.fixed i).unit) (sym z) ∙ k.1.unit_is) | inr q ↦ q (ap (λ (i : ℕ). (ts.fixed i).tag) (sym z) ∙ k.1.tag_is) ] in
              inr (k.0, record { bound = subst IsBound (sym (turns.other k.0 ne)) k.1.bound; unit_is = k.1.unit_is; tag_is = k.1.tag_is; block_is = other x y ly e ∙ k.1.block_is })
        ]
      ];
      entered = λ v k. elim (same_or v t) [
        | inl z ↦ absurd (b (subst IsBound (ap new z ∙ turns.here) k))
        | inr z ↦
            let before : IsBound (ts.stage v) = subst IsBound (turns.other v z) k in
            let apart : ((ts.fixed t).unit ≢ (ts.fixed v).unit) ⊎ ((ts.fixed t).tag ≢ (ts.fixed v).tag) = two d t v l before.live (λ i. z (sym i)) (same_or (ts.fixed t).unit (ts.fixed v).unit) in
            other (ts.fixed v).unit (ts.fixed v).tag (d.tag v before.live) apart ∙ h.entered v before
      ];
    }
  where
    two : (d : AreTickets ts) (t v : ℕ) → IsLive (ts.stage t) → IsLive (ts.stage v) → t ≢ v → ((ts.fixed t).unit ≡ (ts.fixed v).unit) ⊎ ((ts.fixed t).unit ≢ (ts.fixed v).unit) → ((ts.fixed t).unit ≢ (ts.fixed v).unit) ⊎ ((ts.fixed t).tag ≢ (ts.fixed v).tag)
    two d t v l k ne (inl e) = inr (d.tags t v l k ne e)
    two d t v l k ne (inr e) = inl e

-- what IsEnded means of a stage
pub ended-not-active : (x : Stage) → IsEnded x → IsActive x → ⊥
ended-not-active (stage.Ended o) h (inl e) = absurd cc
ended-not-active (stage.Ended o) h (inr e) = absurd cc
ended-not-active stage.Built h e = h
ended-not-active stage.Linked h e = h
ended-not-active stage.Queued h e = h
ended-not-active stage.Again h e = h
ended-not-active stage.Check h e = h
ended-not-active stage.Sensing h e = h
ended-not-active stage.Unlinked h e = h
ended-not-active stage.Freed h e = h

pub ended-live : (x : Stage) → IsEnded x → x ≢ stage.Freed
ended-live (stage.Ended o) h e = absurd cc
ended-live stage.Freed h e = h
ended-live stage.Built h e = h
ended-live stage.Linked h e = h
ended-live stage.Queued h e = h
ended-live stage.Again h e = h
ended-live stage.Check h e = h
ended-live stage.Sensing h e = h
ended-live stage.Unlinked h e = h

ended-start : (x : Stage) (v : ℕ) → IsEnded x → IsStart x v → IsStart stage.Unlinked v
ended-start (stage.Ended o) v h k = k
ended-start stage.Freed v h k = absurd h
ended-start stage.Built v h k = absurd h
ended-start stage.Linked v h k = absurd h
ended-start stage.Queued v h k = absurd h
ended-start stage.Again v h k = absurd h
ended-start stage.Check v h k = absurd h
ended-start stage.Sensing v h k = absurd h
ended-start stage.Unlinked v h k = absurd h

ended-check : (x : Stage) → IsEnded x → is_check stage.Unlinked ≡ is_check x
ended-check (stage.Ended o) h = refl
ended-check stage.Freed h = absurd h
ended-check stage.Built h = absurd h
ended-check stage.Linked h = absurd h
ended-check stage.Queued h = absurd h
ended-check stage.Again h = absurd h
ended-check stage.Check h = absurd h
ended-check stage.Sensing h = absurd h
ended-check stage.Unlinked h = absurd h

pub unlink_holds : UnlinkHolds
unlink_holds version units s c w t h b =
    let d = w.desk in
    let ts = tickets_of d in
    let k : Ticket = record (ticket d t) { stage = stage.Unlinked } in
    let live = ended-live (ticket d t).stage b in
    let still = ended-not-active (ticket d t).stage b in
    let turns = desk-turns d t k live in
    let new = (tickets_of (unlinks d t)).stage in
    let m = unlink_memory d t w.memory in
    let few_units = few version units s c w t h in
    let u : (ticket d t).unit < 16 = omega (arith, h.tickets.unit t live, few_units) in
    let r = unlinked_wrote w.memory (ticket d t).unit (ticket d t).tag h.size u (h.tickets.tag t live) in
    let f : Fits (word_at w.memory) ts new t stage.Unlinked turns c = record {
      live = live;
      stays = λ e. absurd cc;
      aside = aside version (word_at w.memory) ts c (closing_at s) t h.tickets live still h.parts;
      start = λ x. ended-start (ticket d t).stage (field (word_at w.memory) (ticket d t).block Start) b x;
      fresh = λ x. elim x [ inl q ↦ absurd cc | inr q ↦ absurd cc ];
      there = λ e. elim e [ inl q ↦ absurd cc | inr q ↦ absurd cc ];
      gate = idle-gate version units s c w t h live still;
    } in
    let p = tag-patch version units s c w t h NOTASK stage.Unlinked m (unlinks d t) new turns f r (length-put_word w.memory (tag_entry (ticket d t).unit (ticket d t).tag) NOTASK)
    (bytes-put_word w.memory (tag_entry (ticket d t).unit (ticket d t).tag) NOTASK h.bytes) refl refl refl still (λ e. tt)
    (tags-unlinked (word_at w.memory) (word_at m) ts new t stage.Unlinked h.tickets few_units live turns (λ e. e.still refl) r h.tags)
    (desk-checked d t k live (λ e. elim e [ inl i ↦ absurd cc | inr i ↦ absurd cc ]) h.checked) in
    patched version units s c c.queued c.taken w m (unlinks d t) new h p (desk-staged d t k live (same-fixed (ticket d t) stage.Unlinked (ended-check (ticket d t).stage b)))
