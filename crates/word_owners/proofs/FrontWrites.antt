-- A write of FRONT leaves the parts: the reset of the bus, the device reset, and the restarts after a stop.
use Rattle.std.proofs.Common.{◌≡◌, ◌≢◌, ◌⊎◌, inl, inr, ℕ, ◌+◌, ◌<◌, ◌≤◌, List, length, Bool, true, false, refl, sym, ap, subst, ◌∙◌, arith, Option, Some, None}
use Rattle.std.specs.Prelude.{if◌then◌else◌}
use Rattle.std.proofs.lemmas.Bool.{false≢true}
use Rattle.bench_words.specs.Memory.{word_at}
use Rattle.bench_words.specs.Views.{Wrote}
use Rattle.bench_words.proofs.Bytes.{bytes-put_word}
use Rattle.bench_words.proofs.MemoryLaws.{length-put_word}
use Rattle.rig_types.specs.declared.rig.Unit.{Unit as RigUnit}
use Rattle.host_map.specs.declared.TheConstants.{FRONT, FRONT_IDLE, JOB}
use Rattle.host_map.specs.Places.{start_slot, done_slot}
use Rattle.abort_reset.proofs.PatchLaws.{idle_at_front_is}
use Rattle.abort_reset.specs.Patches.{idle_at_front}
use Rattle.chip_regs.specs.Registers.{without_stops, stop_with}
use Rattle.chip_regs.specs.declared.registers.Regs.{Regs}
use Rattle.chip_regs.specs.declared.registers.Cause.TheVariants.{Rst}
use Rattle.world_law.specs.declared.reply.Stop.{Stop}
use Rattle.world_law.specs.declared.reply.Stop.TheVariants as stop
use Rattle.world_law.specs.World.{World}
use Rattle.world_law.specs.Stops.{in_tail}
use Rattle.world_law.specs.Resets.{resets, resume_at}
use Rattle.word_owners.specs.Tickets.{Tickets, tickets_of, block_of, target_of, IsLive, AreTickets}
use Rattle.word_owners.specs.Points.{Point, about, At000, At010Sense, At018Sense, At228, At230, At258, At260, At440, At448, At450}
use Rattle.word_owners.specs.Parts.{Counts, Parts, TagTables, NotStarting}
use Rattle.word_owners.specs.Works.{Role, Asked, role, Works}
use Rattle.word_owners.specs.Holds.{Spot, Holds, Running, Mismatched, NotData, Fixed, TimedOut, JobOver, ResetAt, Broken, StoppedFor, AtPoint, resumed, closing_at, ahead_at}
use Rattle.word_owners.specs.Laws.{ResetHolds, resets_to}
use Rattle.word_owners.proofs.Frames.{active-live, loaded-frame, chains-frame, constants-frame, fixed-frame, block-frame, begun-frame, start-frame, done-frame}
use Rattle.word_owners.proofs.WriteFrames.{tags-frame, fresh-live}
use Rattle.word_owners.proofs.ChipWork.{Onward, work-onward}
use Rattle.word_owners.proofs.Patches.{few}

-- FRONT is written: the idle block or the job
module _ (version : ℕ) (w n : ℕ → ℕ) (ts : Tickets) (c : Counts) (o : Option ℕ) (few_units : length ts.units ≤ 16) (d : AreTickets ts) (v : ℕ) (r : Wrote w n FRONT v) (is : (v ≡ FRONT_IDLE) ⊎ (v ≡ JOB)) where
  above : (x : ℕ) → 0x1004 ≤ x → n x ≡ w x
  above x l = r.other x (omega arith)

  v-below : v < 0x10000
  v-below = elim is [ inl e ↦ omega (arith, e) | inr e ↦ omega (arith, e) ]

  not-front : (t : ℕ) → IsLive (ts.stage t) → n FRONT ≢ block_of ts t
  not-front t l e = let z : v ≡ block_of ts t = sym r.same ∙ e in absurd (omega (arith, z, v-below, (d.block t l).from))

  out-front : (t : ℕ) → IsLive (ts.stage t) → NotStarting w c (block_of ts t) → NotStarting n c (block_of ts t)
  out-front t l h = record {
    ring = λ i f g e. h.ring i f g (sym (above (start_slot i) (omega arith)) ∙ e);
    front = not-front t l;
  }

  pub parts-front : Parts version w ts c o → Parts version n ts c o
  parts-front p = record {
    loaded = loaded-frame w n version (λ x f g. r.other x (omega arith)) p.loaded;
    chains = chains-frame w n ts.units few_units (λ x f g. above x (omega arith)) p.chains;
    constants = constants-frame w n (λ x f g. above x (omega arith)) p.constants;
    fixed = fixed-frame w n (λ x f g. above x (omega arith)) p.fixed;
    front = elim is [ inl e ↦ inl (r.same ∙ e) | inr e ↦ inr (inl (r.same ∙ e)) ];
    ringp = above 0x1004 (omega arith) ∙ p.ringp;
    start = start-frame w n ts c.started c.queued (λ x f g. above x (omega arith)) (λ t i h l u e. above (block_of ts t + 0x10) (omega (arith, (d.block t (active-live (ts.stage t) (inl h.stage))).from))) p.start;
    done = done-frame w n ts c.taken c.entered (λ x f g. above x (omega arith)) (λ t i h l u e. above (block_of ts t + 0x10) (omega (arith, (d.block t (active-live (ts.stage t) h.stage)).from))) p.done;
    blocks = λ t l. block-frame w n (ts.stage t) (ts.fixed t) (target_of ts t) (λ x f g. above x (omega (arith, (d.block t l).from))) (λ x f g. above x (omega (arith, (d.block t l).from))) (p.blocks t l);
    fresh = λ t f. above (block_of ts t + 0x10) (omega (arith, (d.block t (fresh-live (ts.stage t) f)).from)) ∙ p.fresh t f;
    there = λ t l h. p.there t l (elim h [
      | inl e ↦ inl e
      | inr (inl e) ↦ inr (inl e)
      | inr (inr e) ↦ inr (inr (sym (above (block_of ts t + 0x10) (omega (arith, (d.block t l).from))) ∙ e))
    ]);
    gates = λ t l k e.
        let g = p.gates t l k (sym (above (block_of ts t + 0x1C) (omega (arith, (d.block t l).from))) ∙ e) in
        record { begun = begun-frame w n ts t (above (block_of ts t + 0x10) (omega (arith, (d.block t l).from))) g.begun; out = out-front t l g.out; there = g.there };
  }

  pub onward-front : (k : Role) → ((t : ℕ) → k ≡ Asked t → n FRONT ≡ w FRONT) → Onward w n ts k c c
  onward-front k asked = record {
    front = asked;
    blocks = λ b q x f g. above x (omega (arith, q.from));
    cur = above 0x100C (omega arith);
    first = λ l. (l, above (start_slot c.started) (omega arith));
    out = λ t e i h. out-front t (active-live (ts.stage t) i) h;
    entered = λ t j h i f g e. h i f g (sym (above (done_slot i) (omega arith)) ∙ e);
  }

  pub tags-front : TagTables w ts → TagTables n ts
  tags-front h = tags-frame w n ts d few_units (λ x f g. above x (omega arith)) h

-- ---- the tail

-- no point outside the tail closes a ticket or is ahead of DONEP, and in the tail the ticket at FRONT isn't at work
closing-outside : (p : Point) → in_tail (about p).place ≡ false → (about p).closing ≡ None
closing-outside (At228 t) e = absurd cc
closing-outside (At230 t) e = absurd cc
closing-outside _ e = refl

ahead-outside : (p : Point) → in_tail (about p).place ≡ false → (about p).ahead ≡ 0
ahead-outside At258 e = absurd cc
ahead-outside At260 e = absurd cc
ahead-outside _ e = refl

abbrev is_asked : Role → Bool
is_asked (Asked t) = true
is_asked _ = false

not-asked : (r : Role) (t : ℕ) → is_asked r ≡ false → r ≡ Asked t → ⊥
not-asked r t e f = false≢true (sym e ∙ ap is_asked f)

pub asked-outside : (p : Point) (t : ℕ) → in_tail (about p).place ≡ true → role (about p).work ≡ Asked t → ⊥
asked-outside (At010Sense u) t e f = false≢true e
asked-outside (At018Sense u) t e f = false≢true e
asked-outside (At440 u) t e f = false≢true e
asked-outside (At448 u) t e f = false≢true e
asked-outside (At450 u) t e f = false≢true e
asked-outside p t e f = not-asked (role (about p).work) t refl f

-- ---- the reset of the bus

reset-stopped : (r : Regs) → StoppedFor Rst (stop_with Rst (record (without_stops r) { con = false }))
reset-stopped r = record { stopped = refl; is = refl }

reset-point : (p : Point) (ts : Tickets) (c : Counts) (r : Regs) → AtPoint p ts c r → AtPoint p ts c (stop_with Rst (record (without_stops r) { con = false }))
reset-point p ts c r h = record { dsa = h.dsa; temp = h.temp; scratcha = h.scratcha; scratchb = h.scratchb; ssid = h.ssid; sfbr = h.sfbr }

-- so much of the invariant as the point at which the chip goes on asks for
module _ (version : ℕ) (units : List RigUnit) (s : Spot) (c : Counts) (w : World) (h : Holds version units s c w) where
  reset-to : (p : Point) → closing_at s ≡ (about p).closing → ahead_at s ≡ (about p).ahead → (in_tail (about p).place ≡ true) ⊎ (p ≡ At000)
      → resume_at w.stop w.regs.dsp ≡ resumed (about p).place → ((t : ℕ) → role (about p).work ≡ Asked t → ⊥) → Works (about p).work (word_at w.memory) (tickets_of w.desk) c
      → AtPoint p (tickets_of w.desk) c w.regs → Holds version units (ResetAt p) c (resets w)
  reset-to p closing ahead place resume asked works at =
      let ts = tickets_of w.desk in
      let r = idle_at_front_is w.memory h.size in
      let v = word_at w.memory in
      let n = word_at (idle_at_front w.memory) in
      let few_units = few version units s c w 0 h in
      record {
        size = length-put_word w.memory FRONT FRONT_IDLE ∙ h.size;
        bytes = bytes-put_word w.memory FRONT FRONT_IDLE h.bytes;
        units_are = h.units_are;
        few_units = h.few_units;
        version_is = h.version_is;
        tickets = h.tickets;
        checked = h.checked;
        put = h.put;
        take = h.take;
        parts = parts-front version v n ts c (about p).closing few_units h.tickets FRONT_IDLE r (inl refl) (subst (λ (o : Option ℕ). Parts version v ts c o) closing h.parts);
        tags = tags-front version v n ts c None few_units h.tickets FRONT_IDLE r (inl refl) h.tags;
        donep = record { before = h.donep.before; entered = subst (λ (i : ℕ). c.entered ≡ h.donep.before + i) ahead h.donep.entered; is = r.other 0x1008 (omega arith) ∙ h.donep.is };
        works = work-onward v n ts c c h.tickets (about p).work (onward-front version v n ts c None few_units h.tickets FRONT_IDLE r (inl refl) (role (about p).work) (λ t e. absurd (asked t e))) works;
        stays = (refl, resume, reset-stopped w.regs, place, reset-point p ts c w.regs at, inl r.same);
        linked = (refl, refl);
      }

  from-start : closing_at s ≡ None → ahead_at s ≡ 0 → resume_at w.stop w.regs.dsp ≡ None → Holds version units (ResetAt At000) c (resets w)
  from-start closing ahead resume =
      reset-to At000 closing ahead (inr refl) resume (λ t e. absurd cc) (record { plays = tt; extra = tt })
      (record { dsa = tt; temp = tt; scratcha = tt; scratchb = tt; ssid = tt; sfbr = tt })

resume-running : (at : Stop) (b : Bool) (dsp place : ℕ) → at ≡ stop.Run → dsp ≡ place → in_tail place ≡ b → resume_at at dsp ≡ (if b then Some place else None)
resume-running at b dsp place e f g =
    ap (λ (x : Stop). resume_at x dsp) e ∙ ap (λ (x : ℕ). if in_tail x then Some x else None) f ∙ ap (λ (x : Bool). if x then Some place else None) g

resume-stopped : (at : Stop) (dsp : ℕ) → at ≡ stop.MustReset → resume_at at dsp ≡ None
resume-stopped at dsp e = ap (λ (x : Stop). resume_at x dsp) e

reset-running : (version : ℕ) (units : List RigUnit) (p : Point) (c : Counts) (w : World) (b : Bool) → in_tail (about p).place ≡ b → Holds version units (Running p) c w → Holds version units (ResetAt (resets_to b p)) c (resets w)
reset-running version units p c w true e h =
    reset-to version units (Running p) c w h p refl refl (inl e) (resume-running w.stop true w.regs.dsp (about p).place h.stays.0 h.stays.3 e ∙ ap (λ (x : Bool). if x then Some (about p).place else None) (sym e))
    (λ t f. asked-outside p t e f) h.works h.stays.4
reset-running version units p c w false e h =
    from-start version units (Running p) c w h (closing-outside p e) (ahead-outside p e) (resume-running w.stop false w.regs.dsp (about p).place h.stays.0 h.stays.3 e)

clash : {R : Type 0} (at : Stop) → (at ≡ stop.Run) ⊎ (at ≡ stop.MustReset) → (at ≡ stop.Mismatch) ⊎ (at ≡ stop.Clear) → R
clash at (inl e) (inl f) = let z : stop.Run ≡ stop.Mismatch = sym e ∙ f in absurd cc
clash at (inl e) (inr f) = let z : stop.Run ≡ stop.Clear = sym e ∙ f in absurd cc
clash at (inr e) (inl f) = let z : stop.MustReset ≡ stop.Mismatch = sym e ∙ f in absurd cc
clash at (inr e) (inr f) = let z : stop.MustReset ≡ stop.Clear = sym e ∙ f in absurd cc

pub reset_holds : ResetHolds
reset_holds version units (Running p) c w k h = reset-running version units p c w (in_tail (about p).place) refl h
reset_holds version units Broken c w k h = from-start version units Broken c w h refl refl (resume-stopped w.stop w.regs.dsp h.stays.0)
reset_holds version units (Mismatched t x left) c w k h = clash w.stop k (inl h.stays.0)
reset_holds version units NotData c w k h = clash w.stop k (inl h.stays.0)
reset_holds version units (Fixed t) c w k h = clash w.stop k (inr h.stays.0)
reset_holds version units (TimedOut t) c w k h = clash w.stop k (inr h.stays.0)
reset_holds version units JobOver c w k h = clash w.stop k (inr h.stays.0)
reset_holds version units (ResetAt p) c w k h = clash w.stop k (inr h.stays.0)
