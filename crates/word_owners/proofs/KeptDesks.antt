-- Each step of the bench but Build keeps how many tickets of a unit live, and what they own of the buffer region.
use Rattle.std.proofs.Common.{arith, ◌≡◌, ◌≢◌, ◌⊎◌, inl, inr, ℕ, ◌+◌, ◌<◌, ◌≤◌, ◌==◌, ◌||◌, Bool, true, false, cond, not, List, length, Option, Some, None, refl, sym, ap, subst, ◌∙◌, get_or, set, get_or-set_same, get_or-set_other}
use Rattle.std.specs.Prelude.{count_by, filter, slice_get}
use Rattle.std.proofs.lemmas.Bool.{and_parts, cases_lt}
use Rattle.std.proofs.lemmas.Bool.Decides.{nat_tests}
use Rattle.std.proofs.lemmas.List.{get_or_past}
use Rattle.std.proofs.lemmas.List.Sums.{sum_by-set, length-filter}
use Rattle.rig_types.specs.declared.rig.Unit.{Unit as RigUnit}
use Rattle.rig_types.specs.declared.acts.Act.{Act}
use Rattle.rig_types.specs.declared.acts.ActKind.{ActKind}
use Rattle.rig_types.specs.declared.acts.ActKind.TheVariants.{Abort, Device, Bus}
use Rattle.rig_types.specs.declared.step.Step.TheVariants as step
use Rattle.host_map.specs.declared.TheConstants.{FRONT_IDLE}
use Rattle.cmd_block.specs.declared.TheConstants.{LIVE}
use Rattle.chip_regs.specs.Registers.{cause_of}
use Rattle.chip_regs.specs.declared.registers.Cause.{Cause}
use Rattle.chip_regs.specs.declared.registers.Cause.TheVariants.{Sir, Iid, Bf, Ma, Udc, Rst, Sto}
use Rattle.desk_law.specs.declared.stage.Stage.{Stage}
use Rattle.desk_law.specs.declared.stage.Stage.TheVariants as stage
use Rattle.desk_law.specs.declared.ticket.Ticket.{Ticket}
use Rattle.desk_law.specs.Desk.{DeskState, ticket, unit, no_ticket, no_unit, is_freed, is_queued, is_sensing, lives, is_of_unit}
use Rattle.desk_law.specs.Rings.{passed, done_ticket}
use Rattle.desk_law.specs.Taking.{taken, taken_by, is_again, is_check, state_of}
use Rattle.world_law.specs.declared.reply.Decided.{Decided}
use Rattle.world_law.specs.declared.reply.Decided.TheVariants as line
use Rattle.world_law.specs.declared.reply.Reply.{Reply}
use Rattle.world_law.specs.declared.reply.Stop.{Stop}
use Rattle.world_law.specs.declared.reply.Stop.TheVariants as stop
use Rattle.world_law.specs.World.{World, front, decided}
use Rattle.world_law.specs.Acts.{ActsOf, acts_by, aborts, marks, device_resets, bus_resets, is_late}
use Rattle.world_law.specs.Enabling.{IsEnded, MayQueue}
use Rattle.world_law.specs.Steps.{TakesOf}
use Rattle.world_law.specs.Stops.{to_sweep, is_clear, is_tails, loses, is_done_by}
use Rattle.word_owners.specs.Spaces.{OwnsSpace}
use Rattle.word_owners.specs.FreePlaces.{HasDepths}
use Rattle.word_owners.specs.KeptDesks.{AreKept, DesksKept}
use Rattle.word_owners.proofs.Spaces.{stays_owned}
use Rattle.word_owners.proofs.FreedSpaces.{free_owns}

-- 1 where it passes
abbrev bit : Bool → ℕ
bit b = cond b 1 0

bit-most : (a b : Bool) → (a ≡ true → b ≡ true) → bit a ≤ bit b
bit-most true true h = omega arith
bit-most true false h = let z : false ≡ true = h refl in absurd cc
bit-most false b h = omega arith

-- ---- one ticket turns

pub is-within : (ts : List Ticket) (t : ℕ) → lives (get_or ts t no_ticket) ≡ true → (t < length ts) ⊎ (length ts ≤ t) → t < length ts
is-within ts t e (inl l) = l
is-within ts t e (inr l) = let z : true ≡ false = sym e ∙ ap lives (get_or_past ts t no_ticket l) in absurd cc

module _ (old new : DeskState) (t : ℕ) (k : Ticket) (tickets : new.tickets ≡ set old.tickets t k) (units : new.units ≡ old.units) (alive : lives (ticket old t) ≡ true) (unit-is : k.unit ≡ (ticket old t).unit) where
  inside : t < length old.tickets
  inside = is-within old.tickets t alive (cases_lt t (length old.tickets))

  here : ticket new t ≡ k
  here = ap (λ (ts : List Ticket). get_or ts t no_ticket) tickets ∙ get_or-set_same old.tickets t k no_ticket inside

  other : (u : ℕ) → u ≢ t → ticket new u ≡ ticket old u
  other u ne = ap (λ (ts : List Ticket). get_or ts u no_ticket) tickets ∙ get_or-set_other old.tickets t u k no_ticket ne

  same_or : (u : ℕ) → (u ≡ t) ⊎ (u ≢ t)
  same_or u = grind arith

  fewer : (u : ℕ) → is_of_unit u k ≡ true → is_of_unit u (ticket old t) ≡ true
  fewer u e =
      let z : k.unit ≡ u = grind (arith, nat_tests, e) in
      grind (arith, nat_tests, alive, z, unit-is)

  depths-turned : HasDepths old → HasDepths new
  depths-turned h = record {
    unit = λ u l. subst (λ (us : List RigUnit). (ticket new u).unit < length us) (sym units) (elim (same_or u) [
      | inl e ↦ (let x = h.unit t alive in omega (arith, x, unit-is, ap (λ (i : ℕ). (ticket new i).unit) e, ap (λ (y : Ticket). y.unit) here))
      | inr e ↦ subst (λ (y : Ticket). y.unit < length old.units) (sym (other u e)) (h.unit u (sym (ap lives (other u e)) ∙ l))
    ]);
    depth = λ u l.
        let low : u < length old.units = subst (λ (us : List RigUnit). u < length us) units l in
        let change : count_by (is_of_unit u) (set old.tickets t k) + bit (is_of_unit u (ticket old t)) ≡ count_by (is_of_unit u) old.tickets + bit (is_of_unit u k) = sum_by-set (λ (x : Ticket). bit (is_of_unit u x)) old.tickets t k no_ticket inside in
        let most = bit-most (is_of_unit u k) (is_of_unit u (ticket old t)) (fewer u) in
        let n : length (filter (is_of_unit u) new.tickets) ≡ count_by (is_of_unit u) (set old.tickets t k) = length-filter (is_of_unit u) new.tickets ∙ ap (count_by (is_of_unit u)) tickets in
        let d : (unit new u).depth ≡ (unit old u).depth = ap (λ (us : List RigUnit). (get_or us u no_unit).depth) units in
        omega (arith, change, most, n, d, length-filter (is_of_unit u) old.tickets, h.depth u low);
  }

  space-turned : new.space ≡ old.space → k.pieces ≡ (ticket old t).pieces → OwnsSpace old → OwnsSpace new
  space-turned e p h = stays_owned old new e
      (λ u l. elim (same_or u) [
        | inl z ↦ (ap (λ (i : ℕ). lives (ticket old i)) z ∙ alive, ap (λ (i : ℕ). (ticket new i).pieces) z ∙ ap (λ (y : Ticket). y.pieces) here ∙ p ∙ ap (λ (i : ℕ). (ticket old i).pieces) (sym z))
        | inr z ↦ (sym (ap lives (other u z)) ∙ l, ap (λ (y : Ticket). y.pieces) (other u z))
      ]) h

  turned : new.space ≡ old.space → k.pieces ≡ (ticket old t).pieces → AreKept old → AreKept new
  turned e p h = record { depths = depths-turned h.depths; space = space-turned e p h.space }

-- no ticket turns
same : (old new : DeskState) → new.tickets ≡ old.tickets → new.units ≡ old.units → new.space ≡ old.space → AreKept old → AreKept new
same old new tickets units space h =
    let at : (u : ℕ) → ticket new u ≡ ticket old u = λ u. ap (λ (ts : List Ticket). get_or ts u no_ticket) tickets in
    record {
      depths = record {
        unit = λ u l. subst (λ (us : List RigUnit). (ticket new u).unit < length us) (sym units) (subst (λ (y : Ticket). y.unit < length old.units) (sym (at u)) (h.depths.unit u (sym (ap lives (at u)) ∙ l)));
        depth = λ u l.
            let low : u < length old.units = subst (λ (us : List RigUnit). u < length us) units l in
            let n : length (filter (is_of_unit u) new.tickets) ≡ length (filter (is_of_unit u) old.tickets) = ap (λ (ts : List Ticket). length (filter (is_of_unit u) ts)) tickets in
            let d : (unit new u).depth ≡ (unit old u).depth = ap (λ (us : List RigUnit). (get_or us u no_unit).depth) units in
            omega (arith, n, d, h.depths.depth u low);
      };
      space = stays_owned old new space (λ u l. (sym (ap lives (at u)) ∙ l, ap (λ (y : Ticket). y.pieces) (at u))) h.space;
    }

-- ---- the ticket of a step lives

pub alive-at : (k : Ticket) (x : Stage) → k.stage ≡ x → is_freed x ≡ false → lives k ≡ true
alive-at k x e f = ap (λ (s : Stage). not (is_freed s)) e ∙ ap not f

pub ended-lives : (k : Ticket) (x : Stage) → k.stage ≡ x → IsEnded x → lives k ≡ true
ended-lives k (stage.Ended o) e i = alive-at k (stage.Ended o) e refl
ended-lives k stage.Built e i = absurd i
ended-lives k stage.Linked e i = absurd i
ended-lives k stage.Queued e i = absurd i
ended-lives k stage.Again e i = absurd i
ended-lives k stage.Check e i = absurd i
ended-lives k stage.Sensing e i = absurd i
ended-lives k stage.Unlinked e i = absurd i
ended-lives k stage.Freed e i = absurd i

pub queue-lives : (w : World) (caller : ℕ) (k : Ticket) (x : Stage) → k.stage ≡ x → MayQueue w caller k x → lives k ≡ true
queue-lives w caller k stage.Linked e m = alive-at k stage.Linked e refl
queue-lives w caller k stage.Again e m = alive-at k stage.Again e refl
queue-lives w caller k stage.Built e m = absurd m
queue-lives w caller k stage.Queued e m = absurd m
queue-lives w caller k stage.Check e m = absurd m
queue-lives w caller k stage.Sensing e m = absurd m
queue-lives w caller k (stage.Ended o) e m = absurd m
queue-lives w caller k stage.Unlinked e m = absurd m
queue-lives w caller k stage.Freed e m = absurd m

pub active-lives : (k : Ticket) (x : Stage) → k.stage ≡ x → (is_queued x || is_sensing x) ≡ true → lives k ≡ true
active-lives k stage.Queued e a = alive-at k stage.Queued e refl
active-lives k stage.Sensing e a = alive-at k stage.Sensing e refl
active-lives k stage.Built e a = absurd cc
active-lives k stage.Linked e a = absurd cc
active-lives k stage.Again e a = absurd cc
active-lives k stage.Check e a = absurd cc
active-lives k (stage.Ended o) e a = absurd cc
active-lives k stage.Unlinked e a = absurd cc
active-lives k stage.Freed e a = absurd cc

left-of : (a b : Bool) → a ≡ true → (a || b) ≡ true
left-of true b e = refl
left-of false b e = absurd cc

-- what a reset loses is Queued or Sensing
lost-active : (w : World) (k : Ticket) (o : Option Cause) → (passed w.memory w.desk k ≡ true → (is_queued k.stage || is_sensing k.stage) ≡ true) → loses w k o ≡ true → (is_queued k.stage || is_sensing k.stage) ≡ true
lost-active w k None p e = absurd cc
lost-active w k (Some Rst) p e = by (passed w.memory w.desk k) (is_sensing k.stage) refl refl e
  where
    by : (a b : Bool) → passed w.memory w.desk k ≡ a → is_sensing k.stage ≡ b → (a || b) ≡ true → (is_queued k.stage || is_sensing k.stage) ≡ true
    by true b f g h = p f
    by false true f g h = either (is_queued k.stage) (is_sensing k.stage) g
      where
        either : (a b : Bool) → b ≡ true → (a || b) ≡ true
        either true b e = refl
        either false b e = e
    by false false f g h = absurd cc
lost-active w k (Some (Sir v)) p e = p (and_parts _ _ (and_parts _ _ e).1).0
lost-active w k (Some Iid) p e = absurd cc
lost-active w k (Some Bf) p e = absurd cc
lost-active w k (Some Ma) p e = absurd cc
lost-active w k (Some Udc) p e = absurd cc
lost-active w k (Some Sto) p e = absurd cc

pub swept-active : (w : World) (k : Ticket) → to_sweep w k ≡ true → (is_queued k.stage || is_sensing k.stage) ≡ true
swept-active w k e =
    let a = and_parts (is_clear w.stop) _ e in
    let b = and_parts (state_of w.memory k == LIVE) _ a.1 in
    let c = and_parts (not (is_tails w k)) (loses w k (cause_of w.regs)) b.1 in
    lost-active w k (cause_of w.regs) (λ p. left-of (is_queued k.stage) (is_sensing k.stage) (and_parts (is_queued k.stage) _ p).0) c.1

pub swept-lives : (w : World) (k : Ticket) → to_sweep w k ≡ true → lives k ≡ true
swept-lives w k e = active-lives k k.stage refl (swept-active w k e)

-- a ticket that is taken keeps its unit and its pieces
taken-unit : (sensing again check : Bool) (m : List ℕ) (k : Ticket) → (taken_by sensing again check m k).unit ≡ k.unit
taken-unit true again check m k = refl
taken-unit false true check m k = refl
taken-unit false false true m k = refl
taken-unit false false false m k = refl

taken-pieces : (sensing again check : Bool) (m : List ℕ) (k : Ticket) → (taken_by sensing again check m k).pieces ≡ k.pieces
taken-pieces true again check m k = refl
taken-pieces false true check m k = refl
taken-pieces false false true m k = refl
taken-pieces false false false m k = refl

-- ---- each step

kept-world : (w new made : World) → new ≡ made → AreKept made.desk → AreKept new.desk
kept-world w new made e h = subst (λ (x : World). AreKept x.desk) (sym e) h

takes-kept : (o : Option ℕ) (w new : World) (answer : Reply) → is_done_by w o ≡ true → TakesOf o w answer new → AreKept w.desk → AreKept new.desk
takes-kept None w new answer e d h = absurd d
takes-kept (Some t) w new answer e d h =
    let k = ticket w.desk t in
    let alive = active-lives k k.stage refl (and_parts (is_queued k.stage || is_sensing k.stage) _ e).0 in
    kept-world w new _ d.1 (turned w.desk _ t (taken w.desk w.memory k) refl refl alive (taken-unit (is_sensing k.stage) (is_again w.desk w.memory k) (is_check w.desk w.memory k) w.memory k) refl
    (taken-pieces (is_sensing k.stage) (is_again w.desk w.memory k) (is_check w.desk w.memory k) w.memory k) h)

marks-kept : (late : Bool) (w : World) (t : ℕ) → AreKept w.desk → AreKept (marks late w t).world.desk
marks-kept true w t h = h
marks-kept false w t h = h

aborts-kept : (x : Decided) (w : World) → AreKept w.desk → AreKept (aborts w x).world.desk
aborts-kept line.Open w h = h
aborts-kept (line.Accepted t) w h = marks-kept (is_late (ticket w.desk t).stage) w t h
aborts-kept (line.Refused r) w h = h

device-kept : (idle : Bool) (w : World) (target : ℕ) → AreKept w.desk → AreKept (device_resets idle w target).world.desk
device-kept true w target h = same w.desk _ refl refl refl h
device-kept false w target h = h

bus-kept : (x : Stop) (w : World) → AreKept w.desk → AreKept (bus_resets x w).world.desk
bus-kept stop.Run w h = h
bus-kept stop.Mismatch w h = h
bus-kept stop.Clear w h = h
bus-kept stop.MustReset w h = h

acts-kept : (k : ActKind) (w : World) → AreKept w.desk → AreKept (acts_by w k).world.desk
acts-kept (Abort l) w h = aborts-kept (decided w l) w h
acts-kept (Device target) w h = device-kept (front w == FRONT_IDLE) w target h
acts-kept Bus w h = bus-kept w.stop w h

act-kept : (o : Option Act) (w new : World) (answer : Reply) → ActsOf o w answer new → AreKept w.desk → AreKept new.desk
act-kept None w new answer d h = absurd d
act-kept (Some a) w new answer d h = kept-world w new _ d.1 (acts-kept a.kind w h)

pub desks_kept : DesksKept
desks_kept g w new caller (step.Build l) answer is may d h = absurd cc
desks_kept g w new caller (step.Chip word) answer is may d h = kept-world w new _ d.world h
desks_kept g w new caller (step.Link t) answer is may d h = kept-world w new _ d.1 (turned w.desk _ t _ refl refl (alive-at (ticket w.desk t) stage.Built may.0 refl) refl refl refl h)
desks_kept g w new caller (step.Queue t) answer is may d h = kept-world w new _ d.1 (turned w.desk _ t _ refl refl (queue-lives w caller (ticket w.desk t) (ticket w.desk t).stage refl may) refl refl refl h)
desks_kept g w new caller step.Signal answer is may d h = kept-world w new _ d.1 (same w.desk _ refl refl refl h)
desks_kept g w new caller step.Fix answer is may d h = elim d.1 [ inl r ↦ kept-world w new _ r.world h | inr r ↦ kept-world w new _ r.1 h ]
desks_kept g w new caller (step.Sweep t) answer is may d h = kept-world w new _ d.1 (turned w.desk _ t _ refl refl (swept-lives w (ticket w.desk t) may.1) refl refl refl h)
desks_kept g w new caller step.Restart answer is may d h = kept-world w new _ d.1 h
desks_kept g w new caller step.TakeDone answer is may d h = takes-kept (done_ticket w.memory w.desk) w new answer may.1 d h
desks_kept g w new caller (step.Unlink t) answer is may d h = kept-world w new _ d.1 (turned w.desk _ t _ refl refl (ended-lives (ticket w.desk t) (ticket w.desk t).stage refl may.1) refl refl refl h)
desks_kept g w new caller (step.Free t) answer is may d h =
    let alive = alive-at (ticket w.desk t) stage.Unlinked may.1 refl in
    record {
      depths = depths-turned w.desk new.desk t (record (ticket w.desk t) { stage = stage.Freed }) (ap (λ (x : DeskState). x.tickets) d.frees.desk) (ap (λ (x : DeskState). x.units) d.frees.desk) alive refl h.depths;
      space = free_owns w.desk new.desk t alive d.frees h.space;
    }
desks_kept g w new caller (step.Act k) answer is may d h = act-kept (slice_get g.acts k) w new answer d h
desks_kept g w new caller step.ResetBus answer is may d h = kept-world w new _ d.1 h
desks_kept g w new caller (step.Sense t) answer is may d h = kept-world w new _ d.1 (turned w.desk _ t _ refl refl (alive-at (ticket w.desk t) stage.Check may.2 refl) refl refl refl h)
