-- A sweep keeps the invariant: STATE becomes 4 and GATE becomes BADTASK in the block of a ticket that a reset lost, and the ticket has ended.
use Rattle.std.proofs.Common.{◌≡◌, ◌≢◌, ◌⊎◌, inl, inr, ℕ, zero, suc, ◌+◌, ◌-◌, ◌/◌, ◌%◌, ◌<◌, ◌≤◌, List, map, Bool, true, false, refl, sym, ap, subst, ◌∙◌, arith, Option, Some, None}
use Rattle.std.specs.Prelude.{◌==◌, ◌&&◌, ◌||◌, not, if◌then◌else◌, nat_le, nat_lt}
use Rattle.std.specs.List.{list_any}
use Rattle.std.proofs.lemmas.Bool.{and_parts}
use Rattle.std.proofs.lemmas.Bool.Decides.{nat_tests}
use Rattle.bench_words.specs.Memory.{word_at, put_word}
use Rattle.bench_words.proofs.Bytes.{bytes-put_word}
use Rattle.bench_words.proofs.MemoryLaws.{length-put_word}
use Rattle.rig_types.specs.declared.rig.Unit.{Unit as RigUnit}
use Rattle.rig_types.specs.declared.report.Outcome.{Outcome}
use Rattle.host_map.specs.declared.TheConstants.{START_RING}
use Rattle.host_map.specs.Places.{start_slot, done_slot}
use Rattle.job_rings.specs.Rings.{next_slot}
use Rattle.cmd_block.specs.Block.{offset, field_of}
use Rattle.cmd_block.specs.declared.Field.TheVariants.{Start, State, Gate}
use Rattle.cmd_block.specs.declared.TheConstants.{LIVE, SWEPT}
use Rattle.driver_script.specs.Script.{label_of}
use Rattle.driver_script.specs.declared.labels.Name.TheVariants as label
use Rattle.phase_fix.specs.Moves.{context_label}
use Rattle.phase_fix.specs.Remain.{field}
use Rattle.abort_reset.specs.Patches.{Swept, swept}
use Rattle.abort_reset.proofs.PatchLaws.{swept_is}
use Rattle.chip_regs.specs.Registers.{cause_of}
use Rattle.chip_regs.specs.declared.registers.Cause.{Cause}
use Rattle.chip_regs.specs.declared.registers.Cause.TheVariants.{Sir, Iid, Bf, Ma, Udc, Rst, Sto}
use Rattle.desk_law.specs.declared.stage.Stage.{Stage}
use Rattle.desk_law.specs.declared.stage.Stage.TheVariants as stage
use Rattle.desk_law.specs.declared.ticket.Ticket.{Ticket}
use Rattle.desk_law.specs.Desk.{ticket, unit, is_queued, is_sensing, is_rogue}
use Rattle.desk_law.specs.Rings.{is_start_slot, slots_from, waiting_count, waits, passed}
use Rattle.desk_law.specs.Calls.{ended, ends}
use Rattle.world_law.specs.declared.reply.Stop.TheVariants as stop
use Rattle.world_law.specs.World.{World}
use Rattle.world_law.specs.declared.reply.Stop.{Stop}
use Rattle.world_law.specs.Stops.{to_sweep, loses, is_tails, is_clear, resumes_in_tail, in_tail, job_done, job_target}
use Rattle.world_law.specs.Resets.{sweep_outcome}
use Rattle.word_owners.specs.Tickets.{Fixed, Tickets, tickets_of, block_of, target_of, goal, way, is_check, IsLive, IsActive, IsBound}
use Rattle.word_owners.specs.Pointers.{IsPointer, move_place}
use Rattle.phase_fix.specs.declared.moves.Entry.TheVariants.{Context}
use Rattle.word_owners.specs.Points.{Point, about, At000, Moves, BehindContext, LeavesContext, Value, OwnBlock}
use Rattle.word_owners.specs.Parts.{Counts, IsStart, IsBlock, IsFresh}
use Rattle.word_owners.specs.Works.{Role, Nothing, First, Asked, Working, Closing, Done, role, worker, block_by, own_block, Has, Holding, Plays}
use Rattle.word_owners.specs.Holds.{Spot, Holds, Running, Mismatched, NotData, Fixed as Repaired, TimedOut, JobOver, ResetAt, Broken, StoppedFor, IsJobOver, IsUnasked, resumed, closing_at, work_at}
use Rattle.word_owners.specs.Laws.{SweepHolds}
use Rattle.word_owners.proofs.Frames.{same_or, active-live, block-with}
use Rattle.word_owners.proofs.StageChanges.{Aside, Fits, tickets-turned, parts-turned, tags-turned, work-turned}
use Rattle.word_owners.proofs.WriteFrames.{BlockChanges, Untouched, low-same}
use Rattle.word_owners.proofs.ChipPlace.{patched}
use Rattle.word_owners.proofs.Aborts.{block-patch}
use Rattle.word_owners.proofs.FrontWrites.{asked-outside}
use Rattle.word_owners.proofs.Restarts.{context-far, move-far, not-far}
use Rattle.word_owners.proofs.Lists.{desk-turns, desk-staged, desk-checked, same-fixed}
use Rattle.job_rings.proofs.RingLaws.{counts_start_slots}
use Rattle.word_owners.proofs.Room.{start-room}
use Rattle.word_owners.proofs.Patches.{few}

either : (a b : Bool) → (a || b) ≡ true → (a ≡ true) ⊎ (b ≡ true)
either true b e = inl refl
either false b e = inr e

pub equal : (a b : ℕ) → (a == b) ≡ true → a ≡ b
equal a b e = grind (arith, nat_tests)

or-first : (a b : Bool) → a ≡ true → (a || b) ≡ true
or-first true b e = refl
or-first false b e = absurd cc

or-second : (a b : Bool) → b ≡ true → (a || b) ≡ true
or-second true b e = refl
or-second false b e = e

and-true : (a b : Bool) → a ≡ true → b ≡ true → (a && b) ≡ true
and-true true b e f = f
and-true false b e f = absurd cc

if-true : (b : Bool) (x y : ℕ) → b ≡ true → (if b then x else y) ≡ x
if-true true x y e = refl
if-true false x y e = absurd cc

in-tail : (a : ℕ) → in_tail a ≡ true → resumes_in_tail (resumed a) ≡ true
in-tail a e = ap (λ (b : Bool). resumes_in_tail (if b then Some a else None)) e ∙ e

is-equal : (a b : ℕ) → a ≡ b → (a == b) ≡ true
is-equal a b e = grind (arith, nat_tests)

queued-is : (s : Stage) → is_queued s ≡ true → s ≡ stage.Queued
queued-is stage.Queued e = refl
queued-is stage.Built e = absurd cc
queued-is stage.Linked e = absurd cc
queued-is stage.Again e = absurd cc
queued-is stage.Check e = absurd cc
queued-is stage.Sensing e = absurd cc
queued-is (stage.Ended o) e = absurd cc
queued-is stage.Unlinked e = absurd cc
queued-is stage.Freed e = absurd cc

sensing-is : (s : Stage) → is_sensing s ≡ true → s ≡ stage.Sensing
sensing-is stage.Sensing e = refl
sensing-is stage.Built e = absurd cc
sensing-is stage.Linked e = absurd cc
sensing-is stage.Queued e = absurd cc
sensing-is stage.Again e = absurd cc
sensing-is stage.Check e = absurd cc
sensing-is (stage.Ended o) e = absurd cc
sensing-is stage.Unlinked e = absurd cc
sensing-is stage.Freed e = absurd cc

-- ---- the start ring as the driver reads it

pub slot-next : (n : ℕ) → next_slot START_RING (start_slot n) ≡ start_slot (n + 1)
slot-next n = counts_start_slots.next n

-- a slot that holds a block is met among so many
meets : (m : List ℕ) (block n s i : ℕ) → s ≤ i → i < s + n → word_at m (start_slot i) ≡ block → list_any (λ (b : ℕ). b == block) (map (word_at m) (slots_from n (start_slot s))) ≡ true
meets m block zero s i l u e = absurd (omega arith)
meets m block (suc n) s i l u e =
    let rest : Bool = list_any (λ (b : ℕ). b == block) (map (word_at m) (slots_from n (next_slot START_RING (start_slot s)))) in
    elim (same_or s i) [
      | inl z ↦ or-first (word_at m (start_slot s) == block) rest (is-equal (word_at m (start_slot s)) block (ap (λ (x : ℕ). word_at m (start_slot x)) z ∙ e))
      | inr z ↦
          let r = meets m block n (s + 1) i (omega arith) (omega arith) e in
          or-second (word_at m (start_slot s) == block) rest (subst (λ (x : ℕ). list_any (λ (b : ℕ). b == block) (map (word_at m) (slots_from n x)) ≡ true) (sym (slot-next s)) r)
    ]

-- from the slot at RINGP up to the driver's next one
pub is-start : (s : ℕ) → is_start_slot (start_slot s) ≡ true
is-start s =
    let a : nat_le START_RING (start_slot s) ≡ true = grind (arith, nat_tests) in
    let b : nat_lt (start_slot s) (START_RING + 4096) ≡ true = grind (arith, nat_tests) in
    let c : ((start_slot s - START_RING) % 8 == 0) ≡ true = is-equal ((start_slot s - START_RING) % 8) 0 (omega arith) in
    and-true (nat_le START_RING (start_slot s) && nat_lt (start_slot s) (START_RING + 4096)) ((start_slot s - START_RING) % 8 == 0) (and-true (nat_le START_RING (start_slot s)) (nat_lt (start_slot s) (START_RING + 4096)) a b) c

pub count-is : (s q : ℕ) → s ≤ q → q ≤ s + 256 → waiting_count (start_slot s) (start_slot q) ≡ q - s
count-is s q l u =
    let d : (start_slot q + 4096 - start_slot s) % 4096 / 8 ≡ q - s = omega arith in
    if-true (is_start_slot (start_slot s)) ((start_slot q + 4096 - start_slot s) % 4096 / 8) 0 (is-start s) ∙ d

passed-out : (version : ℕ) (units : List RigUnit) (s : Spot) (c : Counts) (w : World) (t : ℕ) → Holds version units s c w → passed w.memory w.desk (ticket w.desk t) ≡ true → (i : ℕ) → c.started ≤ i → i < c.queued → word_at w.memory (start_slot i) ≢ (ticket w.desk t).block
passed-out version units s c w t h e i l u f =
    let p = and_parts (is_queued (ticket w.desk t).stage) (not (waits w.memory w.desk (ticket w.desk t))) e in
    let room : c.queued ≤ c.started + 256 = start-room (word_at w.memory) (tickets_of w.desk) c h.tickets h.parts.start in
    let n : waiting_count (word_at w.memory 0x1004) w.desk.put ≡ c.queued - c.started =
    ap (λ (x : ℕ). waiting_count x w.desk.put) h.parts.ringp ∙ ap (waiting_count (start_slot c.started)) h.put ∙ count-is c.started c.queued h.parts.start.order room in
    let m = meets w.memory (ticket w.desk t).block (c.queued - c.started) c.started i l (omega arith) f in
    let k : waits w.memory w.desk (ticket w.desk t) ≡ true =
    ap (λ (x : ℕ). list_any (λ (b : ℕ). b == (ticket w.desk t).block) (map (word_at w.memory) (slots_from x (word_at w.memory 0x1004)))) n
    ∙ ap (λ (x : ℕ). list_any (λ (b : ℕ). b == (ticket w.desk t).block) (map (word_at w.memory) (slots_from (c.queued - c.started) x))) h.parts.ringp ∙ m in
    let z : false ≡ true = sym (ap not k) ∙ p.1 in absurd cc

-- ---- which tickets are swept

-- STATE of a ticket that is to be swept is 0, it isn't the tail's, and the reset lost it
pub record ToSweep (w : World) (k : Ticket) : Type 0 where
  pub clear : is_clear w.stop ≡ true
  pub live : field_of w.memory k.block State ≡ 0
  pub tails : is_tails w k ≡ false
  pub lost : loses w k (cause_of w.regs) ≡ true

not-true : (b : Bool) → not b ≡ true → b ≡ false
not-true true e = absurd cc
not-true false e = refl

pub to-sweep : (w : World) (k : Ticket) → to_sweep w k ≡ true → ToSweep w k
to-sweep w k e =
    let a = and_parts (is_clear w.stop) (field_of w.memory k.block State == LIVE && (not (is_tails w k) && loses w k (cause_of w.regs))) e in
    let b = and_parts (field_of w.memory k.block State == LIVE) (not (is_tails w k) && loses w k (cause_of w.regs)) a.1 in
    let c = and_parts (not (is_tails w k)) (loses w k (cause_of w.regs)) b.1 in
    record { clear = a.0; live = equal (field_of w.memory k.block State) LIVE b.0; tails = not-true (is_tails w k) c.0; lost = c.1 }

-- it was passed, or its sense was asked for while FRONT asks for none
abbrev pub IsLost : World → Ticket → Type 0
IsLost w k = (passed w.memory w.desk k ≡ true) ⊎ ((is_sensing k.stage ≡ true) × IsUnasked (word_at w.memory))

-- what a sweep needs to know
pub record Sweepable (s : Spot) (w : World) (t : ℕ) : Type 0 where
  pub lost : IsLost w (ticket w.desk t)
  idle : (u : ℕ) → worker (role (work_at s)) ≡ Some u → u ≢ t

-- in the tail a ticket that is worked on is the one at DSA
tail-block : (p : Point) (u : ℕ) → in_tail (about p).place ≡ true → (role (about p).work ≡ Working u) ⊎ (role (about p).work ≡ Closing u) → (about p).held.dsa ≡ Some OwnBlock
tail-block (Moves t x) u e f = not-far (move_place x.phase x.entry) (move-far x.phase x.entry) e
tail-block (BehindContext t phase k) u e f = let l = move-far phase (Context k) in not-far (move_place phase (Context k) + 8) (omega arith) e
tail-block (LeavesContext t phase j k) u e f = let l = context-far phase k in not-far (context_label phase k + 16) (omega arith) e
tail-block _ u e (inl f) = cc
tail-block _ u e (inr f) = cc

-- in the tail and at START the ticket at work isn't t
reset-idle : (p : Point) (ts : Tickets) (c : Counts) (w : World) (t : ℕ) → (in_tail (about p).place ≡ true) ⊎ (p ≡ At000) → w.resume ≡ resumed (about p).place → Holding (own_block ts (about p).work) c.started c.entered (about p).held w.regs
    → ToSweep w (ticket w.desk t) → ((i : ℕ) → c.started ≤ i → i < c.queued → word_at w.memory (start_slot i) ≢ block_of ts t) ⊎ (ts.stage t ≡ stage.Sensing) → block_of ts t ≡ (ticket w.desk t).block
    → Plays (role (about p).work) (word_at w.memory) ts c → (u : ℕ) → worker (role (about p).work) ≡ Some u → u ≢ t
reset-idle p ts c w t place resume at k out b plays u e z = by-role (role (about p).work) refl plays e
  where
    tails : (in_tail (about p).place ≡ true) → (about p).held.dsa ≡ Some OwnBlock → worker (role (about p).work) ≡ Some u → ⊥
    tails i d f =
        let dsa : w.regs.dsa ≡ own_block ts (about p).work = subst (λ (o : Option Value). Has (own_block ts (about p).work) c.started c.entered o w.regs.dsa) d at.dsa in
        let own : own_block ts (about p).work ≡ block_of ts t = ap (block_by ts) f ∙ ap (block_of ts) z in
        let r : resumes_in_tail w.resume ≡ true = ap resumes_in_tail resume ∙ in-tail (about p).place i in
        let q : (w.regs.dsa == (ticket w.desk t).block) ≡ true = is-equal w.regs.dsa (ticket w.desk t).block (dsa ∙ own ∙ b) in
        let all : is_tails w (ticket w.desk t) ≡ true = and-true (resumes_in_tail w.resume) (w.regs.dsa == (ticket w.desk t).block) r q in
        let no : true ≡ false = sym all ∙ k.tails in absurd cc

    by-place : (in_tail (about p).place ≡ true) ⊎ (p ≡ At000) → (role (about p).work ≡ Working u) ⊎ (role (about p).work ≡ Closing u) → worker (role (about p).work) ≡ Some u → ⊥
    by-place (inl i) f g = tails i (tail-block p u i f) g
    by-place (inr i) f g = let n : worker Nothing ≡ Some u = subst (λ (x : Point). worker (role (about x).work) ≡ Some u) i g in absurd cc

    asked : (in_tail (about p).place ≡ true) ⊎ (p ≡ At000) → (v : ℕ) → role (about p).work ≡ Asked v → ⊥
    asked (inl i) v f = asked-outside p v i f
    asked (inr i) v f = let n : Nothing ≡ Asked v = sym (ap (λ (x : Point). role (about x).work) i) ∙ f in absurd cc

    by-role : (r : Role) → r ≡ role (about p).work → Plays r (word_at w.memory) ts c → worker r ≡ Some u → ⊥
    by-role Nothing q h f = absurd cc
    by-role (First v) q h f =
        let y : v ≡ u = cc in
        elim out [
          | inl o ↦ o c.started (omega arith) h.0 (h.1 ∙ ap (block_of ts) (y ∙ z))
          | inr o ↦ let n : stage.Queued ≡ stage.Sensing = sym h.2.stage ∙ ap ts.stage (y ∙ z) ∙ o in absurd cc
        ]
    by-role (Asked v) q h f = asked place v (sym q)
    by-role (Working v) q h f = let y : v ≡ u = cc in by-place place (inl (sym q ∙ ap (λ (i : ℕ). Working i) y)) (ap worker (sym q) ∙ f)
    by-role (Closing v) q h f = let y : v ≡ u = cc in by-place place (inr (sym q ∙ ap (λ (i : ℕ). Closing i) y)) (ap worker (sym q) ∙ f)
    by-role (Done v) q h f =
        let y : v ≡ u = cc in
        let live : field_of w.memory (block_of ts v) State ≡ 0 = ap (λ (i : ℕ). field_of w.memory (block_of ts i) State) (y ∙ z) ∙ ap (λ (i : ℕ). field_of w.memory i State) b ∙ k.live in
        absurd (omega (arith, h.0.some, live))

-- the cause of the stop says what was lost
cause-lost : (w : World) (k : Ticket) (cause : Cause) → cause_of w.regs ≡ Some cause → loses w k (cause_of w.regs) ≡ true → loses w k (Some cause) ≡ true
cause-lost w k cause e h = ap (loses w k) (sym e) ∙ h

pub sweepable : (version : ℕ) (units : List RigUnit) (s : Spot) (c : Counts) (w : World) (t : ℕ) → Holds version units s c w → ToSweep w (ticket w.desk t) → Sweepable s w t
sweepable version units (Running p) c w t h k = let z : is_clear stop.Run ≡ true = subst (λ (x : Stop). is_clear x ≡ true) h.stays.0 k.clear in absurd cc
sweepable version units (Mismatched u x left) c w t h k = let z : is_clear stop.Mismatch ≡ true = subst (λ (x : Stop). is_clear x ≡ true) h.stays.0 k.clear in absurd cc
sweepable version units NotData c w t h k = let z : is_clear stop.Mismatch ≡ true = subst (λ (x : Stop). is_clear x ≡ true) h.stays.0 k.clear in absurd cc
sweepable version units Broken c w t h k = let z : is_clear stop.MustReset ≡ true = subst (λ (x : Stop). is_clear x ≡ true) h.stays.0 k.clear in absurd cc
sweepable version units (Repaired u) c w t h k = let z = cause-lost w (ticket w.desk t) Ma h.stays.2.is k.lost in let n : false ≡ true = z in absurd cc
sweepable version units (TimedOut u) c w t h k = let z = cause-lost w (ticket w.desk t) Sto h.stays.2.is k.lost in let n : false ≡ true = z in absurd cc
sweepable version units JobOver c w t h k = job h.stays.2.0 h.stays.2.1 h.stays.2.2
  where
    job : (cause : Cause) → StoppedFor cause w.regs → IsJobOver cause w.regs → Sweepable JobOver w t
    job (Sir v) z i = record {
      lost = inl (and_parts (passed w.memory w.desk (ticket w.desk t)) ((unit w.desk (ticket w.desk t).unit).target == job_target w)
          (and_parts (v == job_done) (passed w.memory w.desk (ticket w.desk t) && ((unit w.desk (ticket w.desk t).unit).target == job_target w)) (cause-lost w (ticket w.desk t) (Sir v) z.is k.lost)).1).0;
      idle = λ u e. absurd cc;
    }
    job Sto z i = let y = cause-lost w (ticket w.desk t) Sto z.is k.lost in let n : false ≡ true = y in absurd cc
    job Iid z i = absurd i
    job Bf z i = absurd i
    job Ma z i = absurd i
    job Udc z i = absurd i
    job Rst z i = absurd i
sweepable version units (ResetAt p) c w t h k =
    let ts = tickets_of w.desk in
    let y = either (passed w.memory w.desk (ticket w.desk t)) (is_sensing (ticket w.desk t).stage) (cause-lost w (ticket w.desk t) Rst h.stays.2.is k.lost) in
    elim y [
      | inl q ↦ record { lost = inl q; idle = reset-idle p ts c w t h.stays.3 h.stays.1 h.stays.4 k (inl (passed-out version units (ResetAt p) c w t h q)) refl h.works.plays }
      | inr q ↦ record { lost = inr (q, h.stays.5); idle = reset-idle p ts c w t h.stays.3 h.stays.1 h.stays.4 k (inr (sensing-is (ticket w.desk t).stage q)) refl h.works.plays }
    ]

-- ---- the sweep

block-swept : (w n : ℕ → ℕ) (s : Stage) (f : Fixed) (target : ℕ) → Swept w n f.block → IsBlock w s f target → IsBlock n s f target
block-swept w n s f target m h =
    let b = f.block in
    let e0 = m.other (b + 0x00) (omega arith) (omega arith) in
    let e1 = m.other (b + 0x04) (omega arith) (omega arith) in
    let e2 = m.other (b + 0x08) (omega arith) (omega arith) in
    let e3 = m.other (b + 0x0C) (omega arith) (omega arith) in
    block-with w n s f target (subst (IsStart s) (sym e0) h.start) (elim h.restart [ inl k ↦ inl (e1 ∙ k) | inr k ↦ inr (e1 ∙ k) ])
    (subst (IsPointer w b (way f) (goal f)) (sym e2) h.last)
    (subst (IsPointer w b (way f) (goal f)) (sym e3) h.saved)
    (inr m.gate)
    (λ x i j. m.other x (omega arith) (omega arith)) (λ x i j. m.other x (omega arith) (omega arith)) h

-- the stage of a ticket that is swept
pub lost-active : (w : World) (k : Ticket) → IsLost w k → IsActive k.stage
lost-active w k (inl e) = inl (queued-is k.stage (and_parts (is_queued k.stage) (not (waits w.memory w.desk k)) e).0)
lost-active w k (inr e) = inr (sensing-is k.stage e.0)

active-start : (x : Stage) (o : Outcome) (v : ℕ) → IsActive x → IsStart x v → IsStart (stage.Ended o) v
active-start x o v (inl e) h = inl (subst (λ (i : Stage). IsStart i v) e h)
active-start x o v (inr e) h = inr (subst (λ (i : Stage). IsStart i v) e h)

active-check : (x : Stage) → IsActive x → is_check x ≡ false
active-check x (inl e) = ap is_check e
active-check x (inr e) = ap is_check e

not-fresh : {R : Type 0} (x : Stage) → IsActive x → IsFresh x → R
not-fresh x (inl e) (inl f) = let z : stage.Queued ≡ stage.Built = sym e ∙ f in absurd cc
not-fresh x (inl e) (inr f) = let z : stage.Queued ≡ stage.Linked = sym e ∙ f in absurd cc
not-fresh x (inr e) (inl f) = let z : stage.Sensing ≡ stage.Built = sym e ∙ f in absurd cc
not-fresh x (inr e) (inr f) = let z : stage.Sensing ≡ stage.Linked = sym e ∙ f in absurd cc

active-bound : (x : Stage) → IsActive x → IsBound x
active-bound x (inl e) = subst IsBound (sym e) (record { live = λ i. absurd cc; linked = λ i. absurd cc; still = λ i. absurd cc })
active-bound x (inr e) = subst IsBound (sym e) (record { live = λ i. absurd cc; linked = λ i. absurd cc; still = λ i. absurd cc })

pub lost-aside : (version : ℕ) (units : List RigUnit) (s : Spot) (c : Counts) (w : World) (t : ℕ) → Holds version units s c w → ToSweep w (ticket w.desk t) → IsLost w (ticket w.desk t) → Aside (word_at w.memory) (tickets_of w.desk) c t
lost-aside version units s c w t h k lost = record {
  start = λ i l u e. elim lost [
    | inl q ↦ passed-out version units s c w t h q i l u e
    | inr q ↦
        let x = h.parts.start.entry i l u in
        let live = active-live ((tickets_of w.desk).stage x.0) (inl x.2.stage) in
        let same : block_of (tickets_of w.desk) x.0 ≡ block_of (tickets_of w.desk) t = sym x.1 ∙ e in
        elim (same_or x.0 t) [
          | inl z ↦ let n : stage.Queued ≡ stage.Sensing = sym x.2.stage ∙ ap (tickets_of w.desk).stage z ∙ sensing-is (ticket w.desk t).stage q.0 in absurd cc
          | inr z ↦ absurd (h.tickets.blocks x.0 t live here z same)
        ]
  ];
  done = λ i l u e.
      let x = h.parts.done.entry i l u in
      let z : block_of (tickets_of w.desk) x.0 ≡ (ticket w.desk t).block = sym x.1 ∙ e in
      absurd (omega (arith, x.2.some, ap (λ (b : ℕ). field_of w.memory b State) z, k.live));
  front = λ a. elim lost [
    | inl q ↦ let n : stage.Queued ≡ stage.Sensing = sym (queued-is (ticket w.desk t).stage (and_parts (is_queued (ticket w.desk t).stage) (not (waits w.memory w.desk (ticket w.desk t))) q).0) ∙ a.stage in absurd cc
    | inr q ↦
        let b = (h.tickets.block t (active-live ((tickets_of w.desk).stage t) (inr a.stage))).from in
        elim q.1 [ inl f ↦ absurd (omega (arith, b, sym f ∙ a.is)) | inr f ↦ absurd (omega (arith, b, sym f ∙ a.is)) ]
  ];
}
  where
    here : IsLive ((tickets_of w.desk).stage t)
    here = active-live ((tickets_of w.desk).stage t) (lost-active w (ticket w.desk t) lost)

pub sweep_holds : SweepHolds
sweep_holds version units s c w t h e =
    let d = w.desk in
    let ts = tickets_of d in
    let b = (ticket d t).block in
    let k = to-sweep w (ticket d t) e in
    let x = sweepable version units s c w t h k in
    let active = lost-active w (ticket d t) x.lost in
    let live = active-live (ticket d t).stage active in
    let place = h.tickets.block t live in
    let r = swept_is w.memory b h.size place in
    let m = swept w.memory b in
    let v = word_at w.memory in
    let n = word_at m in
    let first = put_word w.memory (b + offset State) SWEPT in
    let few_units = few version units s c w t h in
    let o = closing_at s in
    let away = lost-aside version units s c w t h k x.lost in
    let change : BlockChanges version v n ts c o few_units t = record {
      live = live;
      outside = λ i q. r.other i (omega arith) (omega arith);
      block = block-swept v n (ticket d t).stage (ts.fixed t) (target_of ts t) r (h.parts.blocks t live);
      state = inr away;
      answered = λ q. absurd (omega (arith, r.state, q));
      fresh = λ f. not-fresh (ticket d t).stage active f;
      gate = λ k q. absurd (omega (arith, r.gate, q));
    } in
    let touched : Untouched version v n ts c o few_units h.tickets t change (work_at s) = λ u q. inl (x.idle u q) in
    let p = block-patch version units s c w t h few_units m change touched (λ q. r.gate)
    (length-put_word first (b + offset Gate) (label_of label.Badtask) ∙ length-put_word w.memory (b + offset State) SWEPT)
    (bytes-put_word first (b + offset Gate) (label_of label.Badtask) (bytes-put_word w.memory (b + offset State) SWEPT h.bytes)) in
    let out = sweep_outcome (is_sensing (ticket d t).stage) (is_rogue d (ticket d t)) in
    let j : Ticket = ended (ticket d t) out in
    let turns = desk-turns d t j live in
    let desk = ends d t out in
    let new = (tickets_of desk).stage in
    let low = low-same version v n ts c o few_units h.tickets t change in
    let f : Fits n ts new t (stage.Ended out) turns c = record {
      live = live;
      stays = λ q. absurd cc;
      aside = record {
        start = λ i l u q. away.start i l u (sym (low (start_slot i) (omega arith)) ∙ q);
        done = λ i l u q. away.done i l u (sym (low (done_slot i) (omega arith)) ∙ q);
        front = λ q. absurd (omega (arith, r.state, q.live));
      };
      start = λ q. active-start (ticket d t).stage out (field n b Start) active q;
      fresh = λ q. elim q [ inl i ↦ absurd cc | inr i ↦ absurd cc ];
      there = λ q. elim q [ inl i ↦ absurd cc | inr i ↦ absurd cc ];
      gate = λ q. absurd (omega (arith, r.gate, q));
    } in
    let bound : IsBound (stage.Ended out) = record { live = λ i. absurd cc; linked = λ i. absurd cc; still = λ i. absurd cc } in
    patched version units s c c.queued c.taken w m desk new h (record {
      size = p.size;
      bytes = p.bytes;
      version_is = h.version_is;
      checked = desk-checked d t j live (λ q. elim q [ inl i ↦ absurd cc | inr i ↦ absurd cc ]) h.checked;
      put = h.put;
      take = h.take;
      tickets = tickets-turned n ts new t (stage.Ended out) turns live (λ q. tt) h.tickets;
      parts = parts-turned n ts new t (stage.Ended out) turns version c o f p.parts;
      tags = tags-turned n ts new t (stage.Ended out) turns (active-bound (ticket d t).stage active) bound p.tags;
      donep = p.donep;
      works = work-turned n ts new t (stage.Ended out) turns (work_at s) c f.stays x.idle p.works;
      entries = p.entries;
    }) (desk-staged d t j live (same-fixed (ticket d t) (stage.Ended out) (sym (active-check (ticket d t).stage active))))
