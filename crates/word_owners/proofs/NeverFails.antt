-- None of the driver's tests fails, and its patches find what they rest on.
use Rattle.std.proofs.Common.{◌≡◌, ◌≢◌, inl, inr, ℕ, zero, suc, ◌+◌, ◌-◌, ◌<◌, ◌≤◌, ◌==◌, ◌||◌, List, map, Bool, true, false, refl, sym, ap, subst, ◌∙◌, arith, Option, Some, None}
use Rattle.std.specs.List.{list_any}
use Rattle.std.specs.Prelude.{is_some}
use Rattle.std.proofs.lemmas.Bool.Decides.{nat_tests}
use Rattle.bench_words.specs.Memory.{word_at}
use Rattle.host_map.specs.declared.TheConstants.{START_RING}
use Rattle.host_map.specs.Places.{start_slot}
use Rattle.job_rings.specs.Rings.{next_slot}
use Rattle.rig_types.specs.declared.rig.Unit.{Unit as RigUnit}
use Rattle.phase_fix.specs.Moves.{move_at}
use Rattle.phase_fix.specs.declared.moves.DataMove.{DataMove}
use Rattle.desk_law.specs.declared.stage.Stage.{Stage}
use Rattle.desk_law.specs.declared.stage.Stage.TheVariants as stage
use Rattle.desk_law.specs.Desk.{ticket}
use Rattle.desk_law.specs.Rings.{is_start_slot, slots_from, waiting_count}
use Rattle.world_law.specs.Enabling.{IsEnded}
use Rattle.world_law.specs.Opening.{opened}
use Rattle.world_law.specs.Repairs.{CanFix}
use Rattle.world_law.specs.Runs.{last}
use Rattle.world_law.specs.World.{World}
use Rattle.world_law.specs.declared.reply.Stop.{Stop}
use Rattle.world_law.specs.declared.reply.Stop.TheVariants as stop
use Rattle.word_owners.specs.Tickets.{tickets_of, IsLive, IsActive, IsBound}
use Rattle.word_owners.specs.Parts.{Counts, Asks}
use Rattle.word_owners.specs.Holds.{Spot, Holds, Running, Mismatched, NotData, Fixed as Repaired, TimedOut, JobOver, ResetAt, Broken, closing_at}
use Rattle.word_owners.specs.NeverFails.{MayBeQueued, IsOut, HasRoom, PatchesFit, NeverFails, TestsNeverFail}
use Rattle.word_owners.proofs.Fixes.{can}
use Rattle.word_owners.proofs.Frames.{active-live, same_or}
use Rattle.word_owners.proofs.Patches.{few}
use Rattle.word_owners.proofs.Readings.{rings_are_read}
use Rattle.word_owners.proofs.Room.{start-room}
use Rattle.word_owners.proofs.StageChanges.{Aside, aside}
use Rattle.word_owners.proofs.Sweeps.{to-sweep, sweepable, lost-aside, lost-active, count-is, is-start, slot-next}
use Rattle.word_owners.proofs.Worlds.{words_are_owned}

-- ---- the start ring as the driver reads it

-- a block that none of so many slots holds isn't met
missed : (m : List ℕ) (block n s : ℕ) → ((i : ℕ) → s ≤ i → i < s + n → word_at m (start_slot i) ≢ block) → list_any (λ (b : ℕ). b == block) (map (word_at m) (slots_from n (start_slot s))) ≡ false
missed m block zero s miss = refl
missed m block (suc n) s miss =
    let here : (word_at m (start_slot s) == block) ≡ false = (let k = miss s (omega arith) (omega arith) in grind (arith, nat_tests, k)) in
    let rest = missed m block n (s + 1) (λ i l u. miss i (omega arith) (omega arith)) in
    ap (λ (b : Bool). b || list_any (λ (x : ℕ). x == block) (map (word_at m) (slots_from n (next_slot START_RING (start_slot s))))) here
    ∙ ap (λ (x : ℕ). list_any (λ (b : ℕ). b == block) (map (word_at m) (slots_from n x))) (slot-next s) ∙ rest

-- ---- stages

not-by : {R : Type 0} (s a b : Stage) → s ≡ a → s ≡ b → (a ≡ b → ⊥) → R
not-by s a b e f miss = absurd (miss (sym e ∙ f))

queueable-live : (s : Stage) → MayBeQueued s → IsLive s
queueable-live s (inl e) f = not-by s stage.Linked stage.Freed e f (λ z. absurd cc)
queueable-live s (inr e) f = not-by s stage.Again stage.Freed e f (λ z. absurd cc)

queueable-idle : (s : Stage) → MayBeQueued s → IsActive s → ⊥
queueable-idle s (inl e) (inl f) = not-by s stage.Linked stage.Queued e f (λ z. absurd cc)
queueable-idle s (inl e) (inr f) = not-by s stage.Linked stage.Sensing e f (λ z. absurd cc)
queueable-idle s (inr e) (inl f) = not-by s stage.Again stage.Queued e f (λ z. absurd cc)
queueable-idle s (inr e) (inr f) = not-by s stage.Again stage.Sensing e f (λ z. absurd cc)

check-idle : (s : Stage) → s ≡ stage.Check → IsActive s → ⊥
check-idle s e (inl f) = not-by s stage.Check stage.Queued e f (λ z. absurd cc)
check-idle s e (inr f) = not-by s stage.Check stage.Sensing e f (λ z. absurd cc)

ended-bound : (s : Stage) → IsEnded s → IsBound s
ended-bound (stage.Ended o) h = record { live = λ e. absurd cc; linked = λ e. absurd cc; still = λ e. absurd cc }
ended-bound stage.Built h = absurd h
ended-bound stage.Linked h = absurd h
ended-bound stage.Queued h = absurd h
ended-bound stage.Again h = absurd h
ended-bound stage.Check h = absurd h
ended-bound stage.Sensing h = absurd h
ended-bound stage.Unlinked h = absurd h
ended-bound stage.Freed h = absurd h

-- ---- the patches

module _ (version : ℕ) (units : List RigUnit) (s : Spot) (c : Counts) (w : World) (h : Holds version units s c w) where
  room : c.queued ≤ c.started + 256
  room = start-room (word_at w.memory) (tickets_of w.desk) c h.tickets h.parts.start

  count : waiting_count (word_at w.memory 0x1004) w.desk.put ≡ c.queued - c.started
  count = ap (λ (x : ℕ). waiting_count x w.desk.put) h.parts.ringp ∙ ap (waiting_count (start_slot c.started)) h.put ∙ count-is c.started c.queued h.parts.start.order room

  has-room : HasRoom w
  has-room = record {
    slot = ap is_start_slot h.put ∙ is-start c.queued;
    idle = ap (word_at w.memory) h.put ∙ h.parts.start.idle;
    few = omega (arith, count, room);
  }

  -- a live ticket that is aside is out
  out : (t : ℕ) → IsLive (ticket w.desk t).stage → Aside (word_at w.memory) (tickets_of w.desk) c t → IsOut w t
  out t live a =
      let ts = tickets_of w.desk in
      let v = word_at w.memory in
      let b : ℕ = (ticket w.desk t).block in
      let from = (h.tickets.block t live).from in
      record {
        ring = ap (λ (x : ℕ). list_any (λ (i : ℕ). i == b) (map v (slots_from x (v 0x1004)))) count
            ∙ ap (λ (x : ℕ). list_any (λ (i : ℕ). i == b) (map v (slots_from (c.queued - c.started) x))) h.parts.ringp
            ∙ missed w.memory b (c.queued - c.started) c.started (λ i l u. a.start i l (omega (arith, u, h.parts.start.order)));
        front = λ e. elim h.parts.front [
          | inl i ↦ omega (arith, i, e, from)
          | inr (inl i) ↦ omega (arith, i, e, from)
          | inr (inr i) ↦ elim (same_or i.0 t) [
            | inl z ↦ a.front (subst (λ (x : ℕ). Asks v ts x) z i.1)
            | inr z ↦ h.tickets.blocks i.0 t (active-live (ts.stage i.0) (inr i.1.stage)) live z (sym i.1.is ∙ e)
          ]
        ];
      }

  idle-out : (t : ℕ) → IsLive (ticket w.desk t).stage → (IsActive (ticket w.desk t).stage → ⊥) → IsOut w t
  idle-out t live still = out t live (aside version (word_at w.memory) (tickets_of w.desk) c (closing_at s) t h.tickets live still h.parts)

  table : (t : ℕ) → IsLive (ticket w.desk t).stage → ((ticket w.desk t).unit < 16) × ((ticket w.desk t).tag < 256)
  table t live = let u : (ticket w.desk t).unit < 16 = omega (arith, h.tickets.unit t live, few version units s c w t h) in (u, h.tickets.tag t live)

  pub patches-fit : PatchesFit w
  patches-fit =
      let ts = tickets_of w.desk in
      let v = word_at w.memory in
      record {
        block = λ t live. h.tickets.block t live;
        table = table;
        link = λ t e.
            let live : IsLive (ticket w.desk t).stage = λ f. not-by (ticket w.desk t).stage stage.Built stage.Freed e f (λ z. absurd cc) in
            let k = table t live in
            elim (h.tags.entries (ticket w.desk t).unit (ticket w.desk t).tag k.0 k.1) [
              | inl x ↦ x
              | inr x ↦
                  let ne : x.0 ≢ t = λ z. x.1.bound.linked (ap (λ (i : ℕ). (ticket w.desk i).stage) z ∙ e) in
                  absurd (h.tickets.tags x.0 t x.1.bound.live live ne x.1.unit_is x.1.tag_is)
            ];
        unlink = λ t e. h.tags.entered t (ended-bound (ticket w.desk t).stage e);
        queue = λ t e. (has-room, idle-out t (queueable-live (ticket w.desk t).stage e) (queueable-idle (ticket w.desk t).stage e));
        sense = λ t e.
            let live : IsLive (ticket w.desk t).stage = λ f. not-by (ticket w.desk t).stage stage.Check stage.Freed e f (λ z. absurd cc) in
            (h.parts.there t live (inl e), idle-out t live (check-idle (ticket w.desk t).stage e));
        sweep = λ t e.
            let k = to-sweep w (ticket w.desk t) e in
            let lost = (sweepable version units s c w t h k).lost in
            (k.live, out t (active-live (ts.stage t) (lost-active w (ticket w.desk t) lost)) (lost-aside version units s c w t h k lost));
        free = λ t u g e lu lg f.
            let live : IsLive (ticket w.desk t).stage = λ z. not-by (ticket w.desk t).stage stage.Unlinked stage.Freed e z (λ y. absurd cc) in
            let from = (h.tickets.block t live).from in
            elim (h.tags.entries u g lu lg) [
              | inl x ↦ omega (arith, x, f, from)
              | inr x ↦
                  let ne : x.0 ≢ t = λ z. x.1.bound.still (ap (λ (i : ℕ). (ticket w.desk i).stage) z ∙ e) in
                  h.tickets.blocks x.0 t x.1.bound.live live ne (sym x.1.block_is ∙ f)
            ];
      }

-- ---- Fix

not-mismatch : {R : Type 0} (w : World) (x : Stop) → w.stop ≡ stop.Mismatch → w.stop ≡ x → (stop.Mismatch ≡ x → ⊥) → R
not-mismatch w x e f miss = absurd (miss (sym e ∙ f))

repairs : (version : ℕ) (units : List RigUnit) (s : Spot) (c : Counts) (w : World) (x : DataMove) → Holds version units s c w → w.stop ≡ stop.Mismatch → move_at (w.regs.dsp - 8) ≡ Some x → CanFix w
repairs version units (Mismatched t y left) c w x h k e = can version units t y left c w h
repairs version units NotData c w x h k e = let z : None ≡ Some x = sym h.stays.3 ∙ e in absurd cc
repairs version units (Running p) c w x h k e = not-mismatch w stop.Run k h.stays.0 (λ z. absurd cc)
repairs version units (Repaired t) c w x h k e = not-mismatch w stop.Clear k h.stays.0 (λ z. absurd cc)
repairs version units (TimedOut t) c w x h k e = not-mismatch w stop.Clear k h.stays.0 (λ z. absurd cc)
repairs version units JobOver c w x h k e = not-mismatch w stop.Clear k h.stays.0 (λ z. absurd cc)
repairs version units (ResetAt p) c w x h k e = not-mismatch w stop.Clear k h.stays.0 (λ z. absurd cc)
repairs version units Broken c w x h k e = not-mismatch w stop.MustReset k h.stays.0 (λ z. absurd cc)

pub never-fails : (version : ℕ) (units : List RigUnit) (s : Spot) (c : Counts) (w : World) → Holds version units s c w → NeverFails w
never-fails version units s c w h =
    let r = rings_are_read version units s c w h in
    record {
      ringp = r.ringp;
      done = r.done;
      repair = λ x k e. repairs version units s c w x h k e;
      no_move = λ k e f. (let z : is_some (move_at (w.regs.dsp - 8)) ≡ true = f.moved in let y : false ≡ true = ap (λ (o : Option DataMove). is_some o) (sym e) ∙ z in absurd cc);
      patches = patches-fit version units s c w h;
    }

pub tests_never_fail : TestsNeverFail
tests_never_fail g setting bytes ms r = let o = words_are_owned g setting bytes ms r in never-fails g.version g.units o.spot o.counts (last (opened g) ms) o.holds
