-- Of a submitter's tickets only that of its last decided line is ever one that it has still to enter or to queue: a ticket that is so blocks the
-- submitter's next Build.
use Rattle.std.proofs.Common.{arith, ◌≡◌, ◌≢◌, ◌<◌, ◌≤◌, nat_lt, ◌-◌, ◌+◌, ◌==◌, ◌&&◌, ◌||◌, Bool, true, false, ℕ, zero, suc, List, [], ◌∷◌, ◌++◌, length, slice_set, slice_index_or, Option, Some, None, refl, sym, ap, subst, ◌∙◌, inl, inr}
use Rattle.std.proofs.lemmas.Bool.Decides.{nat_tests}
use Rattle.std.proofs.lemmas.List.{length-set, length-append, length-replicate, get_or_past}
use Rattle.rig_types.specs.declared.commands.Command.{Command}
use Rattle.rig_types.specs.declared.step.Entry.{Entry}
use Rattle.rig_types.specs.declared.step.Line.{Line}
use Rattle.rig_types.specs.declared.step.Step.{Step}
use Rattle.rig_types.specs.declared.step.Step.TheVariants as step
use Rattle.desk_law.specs.declared.ticket.Ticket.{Ticket}
use Rattle.desk_law.specs.declared.stage.Stage.{Stage}
use Rattle.desk_law.specs.declared.stage.Stage.TheVariants as stage
use Rattle.desk_law.specs.Desk.{DeskState, no_ticket, ticket, is_freed}
use Rattle.world_law.specs.declared.reply.Decided.{Decided}
use Rattle.world_law.specs.declared.reply.Decided.TheVariants as line
use Rattle.world_law.specs.declared.reply.Reply.{Reply}
use Rattle.world_law.specs.declared.reply.Reply.TheVariants as reply
use Rattle.world_law.specs.World.{BenchSetting, World, lines_of, decided, command_at}
use Rattle.world_law.specs.Opening.{opened}
use Rattle.world_law.specs.Lines.{is_unqueued, blocks, next_command, waits_of, blocking}
use Rattle.world_law.specs.Enabling.{Enabled}
use Rattle.world_law.specs.Builds.{refuses, is_tried_again, BuildsBy, BuildsOf}
use Rattle.world_law.specs.Steps.{Does}
use Rattle.world_law.specs.Runs.{Moment, Steps, IsRun, last}
use Rattle.world_law.specs.Laws.{IsHeldBy, LeavesSubmitter, IsMatched}
use Rattle.world_law.proofs.Callers.{leaves_submitter}
use Rattle.world_law.proofs.TicketsKept.{lines_match}
use Rattle.world_law.proofs.Effects.{Effect, LinesGo, effect}
use Rattle.bus_law.proofs.OneConnected.{same-or-not}
use Rattle.bench_core.specs.Histories.{IsReplayed, IsBench}
use Rattle.bench_core.proofs.Settled.{lines_of_run}
use Rattle.bench_state.specs.LastLines.{last_line, accepted_as, OnlyLastIsHeld}
use Rattle.bench_state.proofs.LeastPassing.{at, none_passes}
use Rattle.bench_state.proofs.TicketLaws.{is_there}

record HoldsLast (s : ℕ) (w : World) : Type 0 where
  pub below : s < w.desk.submitters
  pub there : s < length w.lines
  pub held : (t : ℕ) → IsHeldBy s (ticket w.desk t) → decided w (last_line w s) ≡ line.Accepted t

-- ---- lists

data IsSet (ks : List Ticket) (t : ℕ) (k : Ticket) (n : ℕ) : Type 0 where
  other : at (slice_set ks t k) n ≡ at ks n → IsSet ks t k n
  this : n ≡ t → at (slice_set ks t k) n ≡ k → IsSet ks t k n

set-further : (x k : Ticket) (ks : List Ticket) (t n : ℕ) → IsSet ks t k n → IsSet (x ∷ ks) (suc t) k (suc n)
set-further x k ks t n (other e) = other e
set-further x k ks t n (this e f) = this (ap suc e) f

set-at : (ks : List Ticket) (t : ℕ) (k : Ticket) (n : ℕ) → IsSet ks t k n
set-at [] t k n = other refl
set-at (x ∷ xs) zero k zero = this refl refl
set-at (x ∷ xs) zero k (suc n) = other refl
set-at (x ∷ xs) (suc t) k zero = other refl
set-at (x ∷ xs) (suc t) k (suc n) = set-further x k xs t n (set-at xs t k n)

data IsMore (ks : List Ticket) (k : Ticket) (n : ℕ) : Type 0 where
  before : at (ks ++ k ∷ []) n ≡ at ks n → IsMore ks k n
  added : n ≡ length ks → IsMore ks k n

more-further : (x k : Ticket) (ks : List Ticket) (n : ℕ) → IsMore ks k n → IsMore (x ∷ ks) k (suc n)
more-further x k ks n (before e) = before e
more-further x k ks n (added e) = added (ap suc e)

more-at : (ks : List Ticket) (k : Ticket) (n : ℕ) → IsMore ks k n
more-at [] k zero = added refl
more-at [] k (suc n) = before refl
more-at (x ∷ xs) k zero = before refl
more-at (x ∷ xs) k (suc n) = more-further x k xs n (more-at xs k n)

set-same : (lss : List (List Decided)) (s : ℕ) (ls : List Decided) → s < length lss → slice_index_or (slice_set lss s ls) s [] ≡ ls
set-same [] s ls h = absurd (omega (arith, h))
set-same (x ∷ xs) zero ls h = refl
set-same (x ∷ xs) (suc s) ls h = set-same xs s ls (omega (arith, h))

last-of : (ls : List Decided) (x : Decided) → slice_index_or (ls ++ x ∷ []) (length (ls ++ x ∷ []) - 1) line.Open ≡ x
last-of ls x = ap (λ (n : ℕ). slice_index_or (ls ++ x ∷ []) n line.Open) (count ls x) ∙ end ls x
  where
    count : (ls : List Decided) (x : Decided) → length (ls ++ x ∷ []) - 1 ≡ length ls
    count ls x = omega (arith, length-append ls (x ∷ []))

    end : (ls : List Decided) (x : Decided) → slice_index_or (ls ++ x ∷ []) (length ls) line.Open ≡ x
    end [] x = refl
    end (y ∷ ys) x = end ys x

-- ---- no ticket blocks

held-blocks : (s : ℕ) (waits : Bool) (k : Ticket) → IsHeldBy s k → blocks s waits k ≡ true
held-blocks s waits k h = both (k.line.submitter == s) (is_unqueued k.stage) _ (equal k.line.submitter s h.0) h.1
  where
    equal : (a b : ℕ) → a ≡ b → a == b ≡ true
    equal a b e = grind (arith, nat_tests, e)

    both : (a b c : Bool) → a ≡ true → b ≡ true → a && (b || c) ≡ true
    both true true c e f = refl
    both true false c e f = absurd cc
    both false b c e f = absurd cc

none-blocks-freed : (s : ℕ) (waits : Bool) → blocks s waits no_ticket ≡ false
none-blocks-freed s waits = never (no_ticket.line.submitter == s) waits
  where
    never : (a b : Bool) → a && (false || (b && false)) ≡ false
    never true true = refl
    never true false = refl
    never false b = refl

none-held : (g : BenchSetting) (w : World) (s t : ℕ) → blocking g w s ≡ None → IsHeldBy s (ticket w.desk t) → ⊥
none-held g w s t e h =
    let waits : Bool = waits_of (next_command g w s) in
    let not : blocks s waits (ticket w.desk t) ≡ false = none_passes (blocks s waits) w.desk.tickets t e (none-blocks-freed s waits) in
    let clash : true ≡ false = sym (held-blocks s waits (ticket w.desk t) h) ∙ not in
    absurd cc

-- ---- the steps of the submitter

abbrev Holds : ℕ → World → Type 0
Holds s w = (t : ℕ) → IsHeldBy s (ticket w.desk t) → decided w (last_line w s) ≡ line.Accepted t

-- where the lines stay, a ticket that is held was held
stays : (s : ℕ) (old new : World) → lines_of new s ≡ lines_of old s → Holds s old → ((t : ℕ) → IsHeldBy s (ticket new.desk t) → IsHeldBy s (ticket old.desk t)) → Holds s new
stays s old new e h was t k =
    ap (λ (ls : List Decided). slice_index_or ls (length ls - 1) line.Open) e ∙ h t (was t k)

same-tickets : (s : ℕ) (old new : World) → lines_of new s ≡ lines_of old s → new.desk.tickets ≡ old.desk.tickets → Holds s old → Holds s new
same-tickets s old new e f h = stays s old new e h (λ t k. subst (λ (ks : List Ticket). IsHeldBy s (at ks t)) f k)

-- one ticket goes on
set-tickets : (s : ℕ) (old new : World) (t : ℕ) (k : Ticket) → lines_of new s ≡ lines_of old s → new.desk.tickets ≡ slice_set old.desk.tickets t k
    → (IsHeldBy s k → IsHeldBy s (ticket old.desk t)) → Holds s old → Holds s new
set-tickets s old new t k e f was h = stays s old new e h (λ n m. by n (subst (λ (ks : List Ticket). IsHeldBy s (at ks n)) f m) (set-at old.desk.tickets t k n))
  where
    by : (n : ℕ) → IsHeldBy s (at (slice_set old.desk.tickets t k) n) → IsSet old.desk.tickets t k n → IsHeldBy s (at old.desk.tickets n)
    by n m (other x) = subst (λ (y : Ticket). IsHeldBy s y) x m
    by n m (this x y) = subst (λ (i : ℕ). IsHeldBy s (at old.desk.tickets i)) (sym x) (was (subst (λ (z : Ticket). IsHeldBy s z) y m))

-- a line is accepted, and its ticket added
builds-one : (s : ℕ) (old new : World) (k : Ticket) → s < length old.lines → new.lines ≡ slice_set old.lines s (lines_of old s ++ line.Accepted (length old.desk.tickets) ∷ [])
    → new.desk.tickets ≡ old.desk.tickets ++ k ∷ [] → ((t : ℕ) → IsHeldBy s (ticket old.desk t) → ⊥) → Holds s new
builds-one s old new k there e f none t m = by t (subst (λ (ks : List Ticket). IsHeldBy s (at ks t)) f m) (more-at old.desk.tickets k t)
  where
    are : lines_of new s ≡ lines_of old s ++ line.Accepted (length old.desk.tickets) ∷ []
    are = ap (λ (lss : List (List Decided)). slice_index_or lss s []) e ∙ set-same old.lines s (lines_of old s ++ line.Accepted (length old.desk.tickets) ∷ []) there

    by : (t : ℕ) → IsHeldBy s (at (old.desk.tickets ++ k ∷ []) t) → IsMore old.desk.tickets k t → decided new (last_line new s) ≡ line.Accepted t
    by t m (before x) = absurd (none t (subst (λ (y : Ticket). IsHeldBy s y) x m))
    by t m (added x) =
        ap (λ (xs : List Decided). slice_index_or xs (length xs - 1) line.Open) are
        ∙ last-of (lines_of old s) (line.Accepted (length old.desk.tickets)) ∙ ap (λ (i : ℕ). line.Accepted i) (sym x)

no-builds : (s : ℕ) (old new : World) → new.desk.tickets ≡ old.desk.tickets → ((t : ℕ) → IsHeldBy s (ticket old.desk t) → ⊥) → Holds s new
no-builds s old new f none t m = absurd (none t (subst (λ (ks : List Ticket). IsHeldBy s (at ks t)) f m))

refused-tickets : (again : Bool) (old : World) (l : Line) (r : _) → (refuses again old l r).desk.tickets ≡ old.desk.tickets
refused-tickets true old l r = refl
refused-tickets false old l r = refl

builds : (g : BenchSetting) (s : ℕ) (c : Command) (old : World) (l : Line) (a : Reply) (new : World) → s ≡ l.submitter → s < length old.lines
    → ((t : ℕ) → IsHeldBy s (ticket old.desk t) → ⊥) → BuildsBy old l c a new → Holds s new
builds g s c old l (reply.Built t) new own there none m = builds-one s old new _ there lines (ap (λ (d : DeskState). d.tickets) m.builds.desk) none
  where
    lines : new.lines ≡ slice_set old.lines s (lines_of old s ++ line.Accepted (length old.desk.tickets) ∷ [])
    lines =
        ap (λ (w : World). w.lines) m.world
        ∙ ap (λ (i : ℕ). slice_set old.lines i (lines_of old i ++ line.Accepted t ∷ [])) (sym own)
        ∙ ap (λ (n : ℕ). slice_set old.lines s (lines_of old s ++ line.Accepted n ∷ [])) m.builds.numbered
builds g s c old l (reply.Refused r) new own there none m =
    no-builds s old new (ap (λ (w : World). w.desk.tickets) m.1 ∙ refused-tickets (is_tried_again c.when_full r) old l r) none
builds g s c old l _ new own there none m = absurd m

builds-of : (g : BenchSetting) (s : ℕ) (o : Option Command) (old : World) (l : Line) (a : Reply) (new : World) → s ≡ l.submitter → s < length old.lines
    → ((t : ℕ) → IsHeldBy s (ticket old.desk t) → ⊥) → BuildsOf o old l a new → Holds s new
builds-of g s None old l a new own there none m = absurd m
builds-of g s (Some c) old l a new own there none m = builds g s c old l a new own there none m

-- the aborter, the reaper and the chip stand behind the submitters
behind : {P : Type 0} (s n k : ℕ) → s < n → s ≡ n + k → P
behind s n k l e = absurd (omega (arith, l, e))

own-step : (g : BenchSetting) (s : ℕ) (old : World) (x : Step) (a : Reply) (new : World) → HoldsLast s old → Enabled g old s x → Does g old s x a new → Holds s new
own-step g s old (step.Build l) a new h e m = builds-of g s (command_at g l) old l a new e.own h.there (λ t. none-held g old s t e.unblocked) m
own-step g s old (step.Link t) a new h e m =
    set-tickets s old new t _ (ap (λ (w : World). lines_of w s) m.1) (ap (λ (w : World). w.desk.tickets) m.1) (λ k. (sym e.1, ap is_unqueued e.0)) h.held
own-step g s old (step.Queue t) a new h e m =
    set-tickets s old new t _ (ap (λ (w : World). lines_of w s) m.1) (ap (λ (w : World). w.desk.tickets) m.1) (λ k. let c : false ≡ true = k.1 in absurd cc) h.held
own-step g s old step.Signal a new h e m = same-tickets s old new (ap (λ (w : World). lines_of w s) m.1) (ap (λ (w : World). w.desk.tickets) m.1) h.held
own-step g s old (step.Chip word) a new h e m = behind s old.desk.submitters 2 h.below e.0
own-step g s old step.Fix a new h e m = behind s old.desk.submitters 1 h.below e.0
own-step g s old (step.Sweep t) a new h e m = behind s old.desk.submitters 1 h.below e.0
own-step g s old step.Restart a new h e m = behind s old.desk.submitters 1 h.below e.0
own-step g s old step.TakeDone a new h e m = behind s old.desk.submitters 1 h.below e.0
own-step g s old (step.Unlink t) a new h e m = behind s old.desk.submitters 1 h.below e.0
own-step g s old (step.Free t) a new h e m = behind s old.desk.submitters 1 h.below e.0
own-step g s old (step.Act k) a new h e m = behind s old.desk.submitters 0 h.below (e.by ∙ plus-none old.desk.submitters)
  where
    plus-none : (n : ℕ) → n ≡ n + 0
    plus-none n = omega arith
own-step g s old step.ResetBus a new h e m = behind s old.desk.submitters 1 h.below e.0
own-step g s old (step.Sense t) a new h e m = behind s old.desk.submitters 1 h.below e.0

-- ---- over runs

other-step : (g : BenchSetting) (s : ℕ) (old : World) (m : Moment) → s ≢ m.entry.caller → Steps g old m → HoldsLast s old → Holds s m.after
other-step g s old m n k h =
    let x : LeavesSubmitter s old m.after = leaves_submitter g old m s h.below n k in
    stays s old m.after x.lines h.held (λ t i. subst (λ (y : Ticket). IsHeldBy s y) (x.no_more t i) i)

held-after : (g : BenchSetting) (s : ℕ) (old : World) (m : Moment) → Steps g old m → HoldsLast s old → Holds s m.after
held-after g s old m k h = elim (same-or-not s m.entry.caller) [
  | inl e ↦ own-step g s old m.entry.step m.reply m.after h (subst (λ (c : ℕ). Enabled g old c m.entry.step) (sym e) k.enabled) (subst (λ (c : ℕ). Does g old c m.entry.step m.reply m.after) (sym e) k.does)
  | inr n ↦ other-step g s old m n k h
]

lines-many : (g : BenchSetting) (caller : ℕ) (old new : World) → LinesGo g caller old new → length new.lines ≡ length old.lines
lines-many g caller old new (inl e) = ap (λ (lss : List (List Decided)). length lss) e
lines-many g caller old new (inr x) = ap (λ (lss : List (List Decided)). length lss) x.are ∙ length-set old.lines caller (lines_of old caller ++ x.decided ∷ [])

holds-after : (g : BenchSetting) (s : ℕ) (old : World) (m : Moment) → Steps g old m → HoldsLast s old → HoldsLast s m.after
holds-after g s old m k h =
    let x : Effect g m.entry.caller old m.reply m.after = effect g old m.entry.caller m.entry.step m.reply m.after k.enabled k.does in
    record {
      below = omega (arith, h.below, x.submitters);
      there = omega (arith, h.there, lines-many g m.entry.caller old m.after x.lines);
      held = held-after g s old m k h;
    }

run-holds : (g : BenchSetting) (s : ℕ) (ms : List Moment) (w : World) → IsRun g w ms → HoldsLast s w → HoldsLast s (last w ms)
run-holds g s [] w r h = h
run-holds g s (m ∷ ms) w r h = run-holds g s ms m.after r.1 (holds-after g s w m r.0 h)

opening-holds : (g : BenchSetting) (s : ℕ) → s < length g.submitters → HoldsLast s (opened g)
opening-holds g s l = record {
  below = l;
  there = omega (arith, l, length-replicate {A = List Decided} (length g.submitters) []);
  held = λ t h. let c : false ≡ true = h.1 in absurd cc;
}

-- a ticket that its submitter has still to enter or to queue is that of its last line
pub last_held : (g : BenchSetting) (es : List Entry) (w : World) (s t : ℕ) → IsReplayed g es w → s < length g.submitters → IsHeldBy s (ticket w.desk t)
    → decided w (last_line w s) ≡ line.Accepted t
last_held g es w s t r l h =
    let x : HoldsLast s w = subst (λ (v : World). HoldsLast s v) r.world (run-holds g s r.moments (opened g) r.run (opening-holds g s l)) in
    x.held t h

-- no ticket is of a number that no submitter has
unfreed : (st : Stage) → is_unqueued st ≡ true → is_freed st ≡ false
unfreed stage.Built e = refl
unfreed stage.Linked e = refl
unfreed _ e = absurd cc

none-behind : (g : BenchSetting) (es : List Entry) (w : World) (s t : ℕ) → IsReplayed g es w → length g.submitters ≤ s → IsHeldBy s (ticket w.desk t) → ⊥
none-behind g es w s t r l h =
    let matched : IsMatched w = subst (λ (v : World). IsMatched v) r.world (lines_match g r.moments r.run) in
    let accepted : decided w (ticket w.desk t).line ≡ line.Accepted t = matched.of_ticket t (is_there w.desk t (unfreed (ticket w.desk t).stage h.1)) in
    let none : lines_of w s ≡ [] = get_or_past w.lines s [] (omega (arith, l, (lines_of_run g es w r).many)) in
    let open-line : decided w (ticket w.desk t).line ≡ line.Open =
    ap (λ (i : ℕ). slice_index_or (lines_of w i) (ticket w.desk t).line.number line.Open) h.0
    ∙ ap (λ (ls : List Decided). slice_index_or ls (ticket w.desk t).line.number line.Open) none in
    let clash : line.Open ≡ line.Accepted t = sym open-line ∙ accepted in
    absurd cc

pub only_last_is_held : (g : BenchSetting) (es : List Entry) (w : World) → IsReplayed g es w → OnlyLastIsHeld w
only_last_is_held g es w r s t h = by (nat_lt s (length g.submitters)) refl
  where
    by : (b : Bool) → nat_lt s (length g.submitters) ≡ b → accepted_as (decided w (last_line w s)) ≡ Some t
    by true e = ap accepted_as (last_held g es w s t r (grind (arith, nat_tests, e)) h)
    by false e = absurd (none-behind g es w s t r (grind (arith, nat_tests, e)) h)

pub bench_held : (g : BenchSetting) (es : List Entry) (w : World) (capacity : ℕ) → IsBench g es w capacity → OnlyLastIsHeld w
bench_held g es w capacity h = only_last_is_held g es w h.replayed
