-- A step makes at most one signal due, at most one ticket, and decides at most one line; so none of these is more than there are entries.
use Rattle.std.proofs.Common.{arith, ◌≡◌, ◌≤◌, Bool, true, false, ℕ, zero, suc, ◌+◌, ◌-◌, List, [], ◌∷◌, ◌++◌, length, replicate, slice_get, slice_set, slice_index_or, Option, Some, None, refl, sym, ap, subst, ◌∙◌, inl, inr}
use Rattle.std.specs.List.{sum}
use Rattle.std.proofs.lemmas.List.{length-append}
use Rattle.std.proofs.lemmas.List.Sums.{sum_by-cons}
use Rattle.rig_types.specs.declared.commands.Command.{Command}
use Rattle.rig_types.specs.declared.acts.Act.{Act}
use Rattle.rig_types.specs.declared.acts.ActKind.{ActKind}
use Rattle.rig_types.specs.declared.acts.ActKind.TheVariants.{Abort, Device, Bus}
use Rattle.rig_types.specs.declared.step.Entry.{Entry}
use Rattle.rig_types.specs.declared.step.Line.{Line}
use Rattle.rig_types.specs.declared.step.Step.{Step}
use Rattle.rig_types.specs.declared.step.Step.TheVariants as step
use Rattle.desk_law.specs.declared.refused.Refused.{Refused}
use Rattle.desk_law.specs.declared.ticket.Ticket.{Ticket}
use Rattle.desk_law.specs.Desk.{DeskState, aborter, reaper, ticket}
use Rattle.desk_law.specs.Rings.{done_ticket}
use Rattle.world_law.specs.declared.reply.Decided.{Decided}
use Rattle.world_law.specs.declared.reply.Decided.TheVariants as line
use Rattle.world_law.specs.declared.reply.Reply.{Reply}
use Rattle.world_law.specs.declared.reply.Reply.TheVariants as reply
use Rattle.world_law.specs.declared.reply.Stop.{Stop}
use Rattle.world_law.specs.declared.reply.Stop.TheVariants as stop
use Rattle.world_law.specs.World.{BenchSetting, World, command_at, decided}
use Rattle.world_law.specs.Opening.{opened}
use Rattle.world_law.specs.Repairs.{Fixes}
use Rattle.world_law.specs.Builds.{refuses, is_tried_again, BuildsBy, BuildsOf}
use Rattle.world_law.specs.Acts.{is_late, marks, aborts, device_resets, bus_resets, acts_by, ActsOf}
use Rattle.world_law.specs.Steps.{TakesOf, Does}
use Rattle.world_law.specs.Runs.{Moment, IsRun, last, entries, built}
use Rattle.world_law.proofs.Effects.{Effect, Counted, LinesGo, effect}
use Rattle.bench_core.specs.Histories.{IsReplayed}
use Rattle.bench_core.specs.Counting.{line_count, HasFew}

-- at most one signal more is due
abbrev OwesOneMore : DeskState → DeskState → Type 0
OwesOneMore old new = sum new.due ≤ sum old.due + 1

same : (old new : DeskState) → new.due ≡ old.due → OwesOneMore old new
same old new e = omega (arith, ap (λ (ns : List ℕ). sum ns) e)

stays : (d : DeskState) → OwesOneMore d d
stays d = omega arith

first-summed : (n : ℕ) (ns : List ℕ) → sum (n ∷ ns) ≡ n + sum ns
first-summed n ns = sum_by-cons (λ (x : ℕ). x) n ns

set-more : (ns : List ℕ) (at : ℕ) → sum (slice_set ns at (slice_index_or ns at 0 + 1)) ≤ sum ns + 1
set-more [] at = omega arith
set-more (n ∷ ns) zero = omega (arith, first-summed n ns, first-summed (n + 1) ns)
set-more (n ∷ ns) (suc at) = omega (arith, first-summed n ns, first-summed n (slice_set ns at (slice_index_or ns at 0 + 1)), set-more ns at)

set-less : (ns : List ℕ) (at : ℕ) → sum (slice_set ns at (slice_index_or ns at 0 - 1)) ≤ sum ns + 1
set-less [] at = omega arith
set-less (n ∷ ns) zero = omega (arith, first-summed n ns, first-summed (n - 1) ns)
set-less (n ∷ ns) (suc at) = omega (arith, first-summed n ns, first-summed n (slice_set ns at (slice_index_or ns at 0 - 1)), set-less ns at)

-- a step that leads to this world
led : (old made new : World) → new ≡ made → OwesOneMore old.desk made.desk → OwesOneMore old.desk new.desk
led old made new e h = subst (λ (w : World). OwesOneMore old.desk w.desk) (sym e) h

refused : (again : Bool) (old : World) (l : Line) (r : Refused) → OwesOneMore old.desk (refuses again old l r).desk
refused true old l r = stays old.desk
refused false old l r = stays old.desk

builds : (c : Command) (old : World) (l : Line) (a : Reply) (new : World) → BuildsBy old l c a new → OwesOneMore old.desk new.desk
builds c old l (reply.Built t) new m = same old.desk new.desk (ap (λ (d : DeskState). d.due) m.builds.desk)
builds c old l (reply.Refused r) new m = led old (refuses (is_tried_again c.when_full r) old l r) new m.1 (refused (is_tried_again c.when_full r) old l r)
builds c old l _ new m = absurd m

builds-of : (o : Option Command) (old : World) (l : Line) (a : Reply) (new : World) → BuildsOf o old l a new → OwesOneMore old.desk new.desk
builds-of None old l a new m = absurd m
builds-of (Some c) old l a new m = builds c old l a new m

fixes : (old new : World) → Fixes old new → OwesOneMore old.desk new.desk
fixes old new h = elim h [
  | inl x ↦ same old.desk new.desk (ap (λ (w : World). w.desk.due) x.world)
  | inr x ↦ same old.desk new.desk (ap (λ (w : World). w.desk.due) x.1)
]

takes : (o : Option ℕ) (old : World) (a : Reply) (new : World) → TakesOf o old a new → OwesOneMore old.desk new.desk
takes None old a new m = absurd m
takes (Some t) old a new m = same old.desk new.desk (ap (λ (w : World). w.desk.due) m.1)

marks-none : (late : Bool) (old : World) (t : ℕ) → OwesOneMore old.desk (marks late old t).world.desk
marks-none true old t = stays old.desk
marks-none false old t = stays old.desk

aborts-none : (d : Decided) (old : World) → OwesOneMore old.desk (aborts old d).world.desk
aborts-none line.Open old = stays old.desk
aborts-none (line.Accepted t) old = marks-none (is_late (ticket old.desk t).stage) old t
aborts-none (line.Refused r) old = stays old.desk

fronts : (idle : Bool) (old : World) (target : ℕ) → OwesOneMore old.desk (device_resets idle old target).world.desk
fronts true old target = set-more old.desk.due (aborter old.desk)
fronts false old target = stays old.desk

bus-none : (s : Stop) (old : World) → OwesOneMore old.desk (bus_resets s old).world.desk
bus-none stop.Run old = stays old.desk
bus-none stop.Mismatch old = stays old.desk
bus-none stop.Clear old = stays old.desk
bus-none stop.MustReset old = stays old.desk

acts : (k : ActKind) (old : World) → OwesOneMore old.desk (acts_by old k).world.desk
acts (Abort l) old = aborts-none (decided old l) old
acts (Device target) old = fronts _ old target
acts Bus old = bus-none old.stop old

acts-of : (o : Option Act) (old : World) (a : Reply) (new : World) → ActsOf o old a new → OwesOneMore old.desk new.desk
acts-of None old a new m = absurd m
acts-of (Some x) old a new m = led old (acts_by old x.kind).world new m.1 (acts x.kind old)

owes-one-more : (g : BenchSetting) (old : World) (caller : ℕ) (s : Step) (a : Reply) (new : World) → Does g old caller s a new → OwesOneMore old.desk new.desk
owes-one-more g old caller (step.Build l) a new m = builds-of (command_at g l) old l a new m
owes-one-more g old caller (step.Link t) a new m = led old _ new m.1 (stays old.desk)
owes-one-more g old caller (step.Queue t) a new m = led old _ new m.1 (set-more old.desk.due _)
owes-one-more g old caller step.Signal a new m = led old _ new m.1 (set-less old.desk.due caller)
owes-one-more g old caller (step.Chip word) a new m = led old _ new m.world (stays old.desk)
owes-one-more g old caller step.Fix a new m = fixes old new m.1
owes-one-more g old caller (step.Sweep t) a new m = led old _ new m.1 (stays old.desk)
owes-one-more g old caller step.Restart a new m = led old _ new m.1 (stays old.desk)
owes-one-more g old caller step.TakeDone a new m = takes (done_ticket old.memory old.desk) old a new m
owes-one-more g old caller (step.Unlink t) a new m = led old _ new m.1 (stays old.desk)
owes-one-more g old caller (step.Free t) a new m = same old.desk new.desk (ap (λ (d : DeskState). d.due) m.frees.desk)
owes-one-more g old caller (step.Act k) a new m = acts-of (slice_get g.acts k) old a new m
owes-one-more g old caller step.ResetBus a new m = led old _ new m.1 (stays old.desk)
owes-one-more g old caller (step.Sense t) a new m = led old _ new m.1 (set-more old.desk.due (reaper old.desk))

-- ---- over runs

one-ticket-more : (old new : List Ticket) (number : Option ℕ) → Counted old number new → length new ≤ length old + 1
one-ticket-more old new number c = elim c [
  | inl x ↦ omega (arith, x.1)
  | inr x ↦ omega (arith, x.1)
]

lined : (ls : List Decided) (lss : List (List Decided)) → line_count (ls ∷ lss) ≡ length ls + line_count lss
lined ls lss = sum_by-cons (λ (xs : List Decided). length xs) ls lss

-- at most one line more is decided
line-more : (lss : List (List Decided)) (s : ℕ) (x : Decided) → line_count (slice_set lss s (slice_index_or lss s [] ++ x ∷ [])) ≤ line_count lss + 1
line-more [] s x = omega arith
line-more (ls ∷ lss) zero x = omega (arith, lined ls lss, lined (ls ++ x ∷ []) lss, length-append ls (x ∷ []))
line-more (ls ∷ lss) (suc s) x =
    omega (arith, lined ls lss, lined ls (slice_set lss s (slice_index_or lss s [] ++ x ∷ [])), line-more lss s x)

one-line-more : (g : BenchSetting) (caller : ℕ) (old new : World) → LinesGo g caller old new → line_count new.lines ≤ line_count old.lines + 1
one-line-more g caller old new c = elim c [
  | inl e ↦ omega (arith, ap (λ (lss : List (List Decided)). line_count lss) e)
  | inr x ↦ omega (arith, ap (λ (lss : List (List Decided)). line_count lss) x.are, line-more old.lines caller x.decided)
]

few-after : (g : BenchSetting) (ms : List Moment) (w : World) (n : ℕ) → IsRun g w ms → HasFew n w → HasFew (n + length ms) (last w ms)
few-after g [] w n r h = record { due = omega (arith, h.due); tickets = omega (arith, h.tickets); lines = omega (arith, h.lines) }
few-after g (m ∷ ms) w n r h =
    let d : OwesOneMore w.desk m.after.desk = owes-one-more g w m.entry.caller m.entry.step m.reply m.after r.0.does in
    let x : Effect g m.entry.caller w m.reply m.after = effect g w m.entry.caller m.entry.step m.reply m.after r.0.enabled r.0.does in
    let t : length m.after.desk.tickets ≤ length w.desk.tickets + 1 = one-ticket-more w.desk.tickets m.after.desk.tickets (built m.reply) x.counted in
    let l : line_count m.after.lines ≤ line_count w.lines + 1 = one-line-more g m.entry.caller w m.after x.lines in
    let next : HasFew (n + 1) m.after = record { due = omega (arith, h.due, d); tickets = omega (arith, h.tickets, t); lines = omega (arith, h.lines, l) } in
    let all : HasFew (n + 1 + length ms) (last m.after ms) = few-after g ms m.after (n + 1) r.1 next in
    record { due = omega (arith, all.due); tickets = omega (arith, all.tickets); lines = omega (arith, all.lines) }

zeros : (n : ℕ) → sum (replicate n 0) ≡ 0
zeros zero = refl
zeros (suc n) = omega (arith, first-summed 0 (replicate n 0), zeros n)

no-lines : (n : ℕ) → line_count (replicate n []) ≡ 0
no-lines zero = refl
no-lines (suc n) = omega (arith, lined [] (replicate n []), no-lines n)

pub entries-length : (ms : List Moment) → length (entries ms) ≡ length ms
entries-length [] = refl
entries-length (m ∷ ms) = omega (arith, entries-length ms)

pub few_of : (g : BenchSetting) (es : List Entry) (w : World) → IsReplayed g es w → HasFew (length es) w
few_of g es w h =
    let start : HasFew 0 (opened g) =
    record { due = omega (arith, zeros (length g.submitters + 3)); tickets = omega arith; lines = omega (arith, no-lines (length g.submitters)) } in
    let all : HasFew (0 + length h.moments) (last (opened g) h.moments) = few-after g h.moments (opened g) 0 h.run start in
    let here : HasFew (0 + length h.moments) w = subst (λ (x : World). HasFew (0 + length h.moments) x) h.world all in
    let count : length es ≡ length h.moments = ap (λ (xs : List Entry). length xs) (sym h.are) ∙ entries-length h.moments in
    record { due = omega (arith, here.due, count); tickets = omega (arith, here.tickets, count); lines = omega (arith, here.lines, count) }
