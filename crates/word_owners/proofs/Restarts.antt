-- Restart keeps the invariant.
use Rattle.std.proofs.Common.{◌≡◌, ◌⊎◌, inl, inr, ℕ, ◌+◌, ◌≤◌, List, Bool, true, false, refl, sym, ap, subst, ◌∙◌, arith, Option, Some, None}
use Rattle.std.specs.Prelude.{◌*◌, ◌==◌, ◌&&◌, ◌||◌, if◌then◌else◌, nat_eq, nat_le, unwrap_or}
use Rattle.host_map.specs.Places.{target_chain, unit_chain}
use Rattle.phase_fix.specs.Moves.{context_label}
use Rattle.phase_fix.specs.declared.moves.DataPhase.{DataPhase}
use Rattle.phase_fix.specs.declared.moves.DataPhase.TheVariants.{In, Out}
use Rattle.phase_fix.specs.declared.moves.Entry.{Entry}
use Rattle.phase_fix.specs.declared.moves.Entry.TheVariants.{Segment, Context}
use Rattle.word_owners.specs.Pointers.{move_place}
use Rattle.std.proofs.lemmas.Bool.Decides.{nat_tests}
use Rattle.bench_words.specs.Memory.{word_at}
use Rattle.bench_words.proofs.Bytes.{bytes-put_word}
use Rattle.bench_words.proofs.MemoryLaws.{length-put_word}
use Rattle.rig_types.specs.declared.rig.Unit.{Unit as RigUnit}
use Rattle.host_map.specs.declared.TheConstants.{FRONT, FRONT_IDLE, JOB}
use Rattle.abort_reset.proofs.PatchLaws.{idle_at_front_is}
use Rattle.abort_reset.specs.Patches.{idle_at_front}
use Rattle.chip_regs.specs.Registers.{is_stopped, cause_of, without_stops}
use Rattle.chip_regs.specs.declared.registers.Regs.{Regs}
use Rattle.chip_regs.specs.declared.registers.Cause.{Cause}
use Rattle.chip_regs.specs.declared.registers.Cause.TheVariants.{Sir, Iid, Bf, Ma, Udc, Rst, Sto}
use Rattle.world_law.specs.declared.reply.Stop.{Stop}
use Rattle.world_law.specs.declared.reply.Stop.TheVariants as stop
use Rattle.world_law.specs.World.{World}
use Rattle.world_law.specs.Stops.{in_tail}
use Rattle.world_law.specs.Resets.{Restarted, restarted, restarts, goes_on, after_timeout}
use Rattle.word_owners.specs.Tickets.{Tickets, tickets_of}
use Rattle.word_owners.specs.Points.{Point, about, At000, At090, At210, InTargets, InLuns, AtUnit, BehindUnit, Moves, BehindContext, LeavesContext, Link, OfTicket, OfTarget, Nobody, Anyone}
use Rattle.word_owners.specs.Parts.{Counts, Parts}
use Rattle.word_owners.specs.Works.{Works}
use Rattle.word_owners.specs.Holds.{Spot, Holds, Running, Mismatched, NotData, Fixed, TimedOut, JobOver, ResetAt, Broken, StoppedFor, IsJobOver, AtPoint, Linked, closing_at, ahead_at}
use Rattle.word_owners.specs.Laws.{RestartHolds}
use Rattle.word_owners.proofs.Frames.{active-live}
use Rattle.word_owners.proofs.FrontWrites.{parts-front, tags-front}
use Rattle.word_owners.proofs.Patches.{few}

clears-stops : (r : Regs) (dsp : ℕ) → is_stopped (record (without_stops r) { dsp = dsp }) ≡ false
clears-stops r dsp = refl

point-on : (p : Point) (ts : Tickets) (c : Counts) (r : Regs) (dsp : ℕ) → AtPoint p ts c r → AtPoint p ts c (record (without_stops r) { dsp = dsp })
point-on p ts c r dsp h = record { dsa = h.dsa; temp = h.temp; scratcha = h.scratcha; scratchb = h.scratchb; ssid = h.ssid; sfbr = h.sfbr }

linked-on : (l : Link) (ts : Tickets) (w : World) (dsp : ℕ) → Linked l ts w.bus w.regs → Linked l ts w.bus (record (without_stops w.regs) { dsp = dsp })
linked-on (OfTicket t) ts w dsp h = h
linked-on (OfTarget i) ts w dsp h = h
linked-on Nobody ts w dsp h = h
linked-on Anyone ts w dsp h = h

module _ (version : ℕ) (units : List RigUnit) (s : Spot) (c : Counts) (w : World) (h : Holds version units s c w) where
  -- the chip goes on at a point, and FRONT stays
  on-at : (p : Point) (dsp : ℕ) → dsp ≡ (about p).place → closing_at s ≡ (about p).closing → ahead_at s ≡ (about p).ahead → Works (about p).work (word_at w.memory) (tickets_of w.desk) c
      → AtPoint p (tickets_of w.desk) c w.regs → Linked (about p).link (tickets_of w.desk) w.bus w.regs → Holds version units (Running p) c (goes_on w (record { dsp = dsp; front_idle = false }))
  on-at p dsp place closing ahead works at linked = record {
    size = h.size;
    bytes = h.bytes;
    units_are = h.units_are;
    few_units = h.few_units;
    version_is = h.version_is;
    tickets = h.tickets;
    checked = h.checked;
    put = h.put;
    take = h.take;
    parts = subst (λ (o : Option ℕ). Parts version (word_at w.memory) (tickets_of w.desk) c o) closing h.parts;
    tags = h.tags;
    donep = record { before = h.donep.before; entered = subst (λ (i : ℕ). c.entered ≡ h.donep.before + i) ahead h.donep.entered; is = h.donep.is };
    works = works;
    stays = (refl, refl, clears-stops w.regs dsp, place, point-on p (tickets_of w.desk) c w.regs dsp at);
    linked = linked-on (about p).link (tickets_of w.desk) w dsp linked;
  }

  -- it goes on at START, and FRONT is idle
  on-idle : closing_at s ≡ None → ahead_at s ≡ 0 → Linked Nobody (tickets_of w.desk) w.bus w.regs → Holds version units (Running At000) c (goes_on w (record { dsp = 0; front_idle = true }))
  on-idle closing ahead linked =
      let ts = tickets_of w.desk in
      let v = word_at w.memory in
      let n = word_at (idle_at_front w.memory) in
      let r = idle_at_front_is w.memory h.size in
      let few_units = few version units s c w 0 h in
      record {
        size = length-put_word w.memory FRONT FRONT_IDLE ∙ h.size;
        bytes = bytes-put_word w.memory FRONT FRONT_IDLE h.bytes;
        units_are = h.units_are;
        few_units = h.few_units;
        version_is = h.version_is;
        tickets = h.tickets;
        checked = h.checked;
        put = h.put;
        take = h.take;
        parts = parts-front version v n ts c None few_units h.tickets FRONT_IDLE r (inl refl) (subst (λ (o : Option ℕ). Parts version v ts c o) closing h.parts);
        tags = tags-front version v n ts c None few_units h.tickets FRONT_IDLE r (inl refl) h.tags;
        donep = record { before = h.donep.before; entered = subst (λ (i : ℕ). c.entered ≡ h.donep.before + i) ahead h.donep.entered; is = r.other 0x1008 (omega arith) ∙ h.donep.is };
        works = record { plays = tt; extra = tt };
        stays = (refl, refl, clears-stops w.regs 0, refl, record { dsa = tt; temp = tt; scratcha = tt; scratchb = tt; ssid = tt; sfbr = tt });
        linked = linked;
      }

-- where Restart goes on after each cause
by-cause : (w : World) (cause : Cause) (x : Restarted) → cause_of w.regs ≡ Some cause → restarted w (Some cause) ≡ x → restarts w ≡ goes_on w x
by-cause w cause x e f = ap (λ (o : Option Cause). goes_on w (restarted w o)) e ∙ ap (goes_on w) f

timeout-is : (dsa : ℕ) → dsa ≡ JOB → after_timeout (dsa == JOB) ≡ record { dsp = 0; front_idle = true }
timeout-is dsa e = let t : (dsa == JOB) ≡ true = grind (arith, nat_tests, e) in ap after_timeout t

timeout-not : (dsa : ℕ) → 0x10000 ≤ dsa → after_timeout (dsa == JOB) ≡ record { dsp = 0x210; front_idle = false }
timeout-not dsa l = let t : (dsa == JOB) ≡ false = grind (arith, nat_tests) in ap after_timeout t

place-of : (b : Bool) (place : ℕ) → (b ≡ true) ⊎ (place ≡ 0) → in_tail place ≡ b → unwrap_or (if b then Some place else None) 0 ≡ place
place-of true place h e = refl
place-of false place (inl h) e = absurd cc
place-of false place (inr h) e = sym h

tail-place : (p : Point) → (in_tail (about p).place ≡ true) ⊎ (p ≡ At000) → (in_tail (about p).place ≡ true) ⊎ ((about p).place ≡ 0)
tail-place p (inl h) = inl h
tail-place p (inr h) = inr (ap (λ (x : Point). (about x).place) h)

-- in the tail and at START nobody is connected, or anyone may be
abbrev is_loose : Link → Bool
is_loose Nobody = true
is_loose Anyone = true
is_loose _ = false

loose-link : (l : Link) (ts : Tickets) (w : World) → is_loose l ≡ true → Linked Nobody ts w.bus w.regs → Linked l ts w.bus w.regs
loose-link Nobody ts w e k = k
loose-link Anyone ts w e k = tt
loose-link (OfTicket t) ts w e k = absurd cc
loose-link (OfTarget i) ts w e k = absurd cc

far : (a : ℕ) → 0x291 ≤ a → in_tail a ≡ false
far a l =
    let x : nat_le a 0x270 ≡ false = grind (arith, nat_tests) in
    let y : nat_eq a 0x290 ≡ false = grind (arith, nat_tests) in
    rw (x, y) (and-false (nat_le 0x1D0 a))
  where
    and-false : (b : Bool) → ((b && false) || false) ≡ false
    and-false true = refl
    and-false false = refl

pub move-far : (phase : DataPhase) (e : Entry) → 0x291 ≤ move_place phase e
move-far In (Segment j) = omega arith
move-far In (Context k) = omega arith
move-far Out (Segment j) = omega arith
move-far Out (Context k) = omega arith

if-far : (first : Bool) (a b : ℕ) → 0x291 ≤ a → 0x291 ≤ b → 0x291 ≤ (if first then a else b)
if-far true a b l m = l
if-far false a b l m = m

pub context-far : (phase : DataPhase) (k : ℕ) → 0x291 ≤ context_label phase k
context-far In k = if-far (nat_eq k 0) 0x3E0 0x3F8 (omega arith) (omega arith)
context-far Out k = if-far (nat_eq k 0) 0x410 0x428 (omega arith) (omega arith)

pub not-far : {R : Type 0} (a : ℕ) → 0x291 ≤ a → in_tail a ≡ true → R
not-far a l e = let z : true ≡ false = sym e ∙ far a l in absurd cc

tail-loose : (p : Point) → in_tail (about p).place ≡ true → is_loose (about p).link ≡ true
tail-loose (InTargets r j) e = not-far (0x8000 + 8 * j) (omega arith) e
tail-loose (InLuns r j) e = not-far (target_chain r + 8 * j) (omega arith) e
tail-loose (AtUnit u r) e = not-far (unit_chain u) (omega arith) e
tail-loose (BehindUnit u r) e = not-far (unit_chain u + 8) (omega arith) e
tail-loose (Moves t x) e = not-far (move_place x.phase x.entry) (move-far x.phase x.entry) e
tail-loose (BehindContext t phase k) e = let l = move-far phase (Context k) in not-far (move_place phase (Context k) + 8) (omega arith) e
tail-loose (LeavesContext t phase j k) e = let l = context-far phase k in not-far (context_label phase k + 16) (omega arith) e
tail-loose _ e = cc

loose : (p : Point) (ts : Tickets) (w : World) → (in_tail (about p).place ≡ true) ⊎ (p ≡ At000) → Linked Nobody ts w.bus w.regs → Linked (about p).link ts w.bus w.regs
loose p ts w (inr e) k = subst (λ (x : Point). Linked (about x).link ts w.bus w.regs) (sym e) k
loose p ts w (inl e) k = loose-link (about p).link ts w (tail-loose p e) k

not-clear : {R : Type 0} (at other : Stop) → at ≡ stop.Clear → at ≡ other → (other ≡ stop.Clear → ⊥) → R
not-clear at other e f differs = absurd (differs (sym f ∙ e))

pub restart_holds : RestartHolds
restart_holds version units (Fixed t) c w k h =
    subst (Holds version units (Running (At090 t)) c) (sym (by-cause w Ma (record { dsp = 0x90; front_idle = false }) h.stays.2.is refl))
    (on-at version units (Fixed t) c w h (At090 t) 0x90 refl refl refl h.works (record { dsa = h.stays.3; temp = tt; scratcha = tt; scratchb = tt; ssid = tt; sfbr = tt }) h.linked)
restart_holds version units (TimedOut t) c w k h =
    let live = active-live ((tickets_of w.desk).stage t) (inl h.works.plays.2.stage) in
    let far : 0x10000 ≤ w.regs.dsa = subst (λ (i : ℕ). 0x10000 ≤ i) (sym h.stays.3) (h.tickets.block t live).from in
    subst (Holds version units (Running (At210 t)) c) (sym (by-cause w Sto (record { dsp = 0x210; front_idle = false }) h.stays.2.is (timeout-not w.regs.dsa far)))
    (on-at version units (TimedOut t) c w h (At210 t) 0x210 refl refl refl h.works (record { dsa = h.stays.3; temp = tt; scratcha = tt; scratchb = h.stays.4; ssid = tt; sfbr = tt }) h.linked)
restart_holds version units JobOver c w k h = job h.stays.2.0 h.stays.2.1 h.stays.2.2
  where
    job : (cause : Cause) → StoppedFor cause w.regs → IsJobOver cause w.regs → Holds version units (Running At000) c (restarts w)
    job Sto z i = subst (Holds version units (Running At000) c) (sym (by-cause w Sto (record { dsp = 0; front_idle = true }) z.is (timeout-is w.regs.dsa i))) (on-idle version units JobOver c w h refl refl h.linked)
    job (Sir v) z i = subst (Holds version units (Running At000) c) (sym (by-cause w (Sir v) (record { dsp = 0; front_idle = true }) z.is refl)) (on-idle version units JobOver c w h refl refl h.linked)
    job Iid z i = absurd i
    job Bf z i = absurd i
    job Ma z i = absurd i
    job Udc z i = absurd i
    job Rst z i = absurd i
restart_holds version units (ResetAt p) c w k h =
    let place = (about p).place in
    let from : restarted w (Some Rst) ≡ record { dsp = place; front_idle = false } =
    ap (λ (o : Option ℕ). record { dsp = unwrap_or o 0; front_idle = false }) h.stays.1 ∙ ap (λ (i : ℕ). record { dsp = i; front_idle = false }) (place-of (in_tail place) place (tail-place p h.stays.3) refl) in
    subst (Holds version units (Running p) c) (sym (by-cause w Rst (record { dsp = place; front_idle = false }) h.stays.2.is from))
    (on-at version units (ResetAt p) c w h p place refl refl refl h.works h.stays.4 (loose p (tickets_of w.desk) w h.stays.3 h.linked))
restart_holds version units (Running p) c w k h = not-clear w.stop stop.Run k h.stays.0 (λ e. absurd cc)
restart_holds version units (Mismatched t x left) c w k h = not-clear w.stop stop.Mismatch k h.stays.0 (λ e. absurd cc)
restart_holds version units NotData c w k h = not-clear w.stop stop.Mismatch k h.stays.0 (λ e. absurd cc)
restart_holds version units Broken c w k h = not-clear w.stop stop.MustReset k h.stays.0 (λ e. absurd cc)
