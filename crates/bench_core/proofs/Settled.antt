-- Every ticket has one line: so the lines that are settled are those that were refused and as many as tickets are freed.
use Rattle.std.proofs.Common.{arith, ◌≡◌, ◌<◌, ◌≤◌, Bool, true, false, cond, ℕ, zero, suc, ◌+◌, List, [], ◌∷◌, ◌++◌, length, replicate, slice_get, slice_set, slice_index_or, Option, Some, None, inl, inr, refl, sym, ap, subst, ◌∙◌}
use Rattle.std.specs.List.{sum_by, count_by, range_with_len}
use Rattle.std.proofs.lemmas.List.{length-set, length-append, length-replicate}
use Rattle.std.proofs.lemmas.List.Sums.{sum_by-set, sum_by-append, sum_by-cons, count_by-le-length}
use Rattle.rig_types.specs.declared.commands.Command.{Command}
use Rattle.rig_types.specs.declared.acts.Act.{Act}
use Rattle.rig_types.specs.declared.acts.ActKind.{ActKind}
use Rattle.rig_types.specs.declared.acts.ActKind.TheVariants.{Abort, Device, Bus}
use Rattle.rig_types.specs.declared.step.Entry.{Entry}
use Rattle.rig_types.specs.declared.step.Line.{Line}
use Rattle.rig_types.specs.declared.step.Step.{Step}
use Rattle.rig_types.specs.declared.step.Step.TheVariants as step
use Rattle.desk_law.specs.declared.refused.Refused.{Refused}
use Rattle.desk_law.specs.declared.ticket.Ticket.{Ticket}
use Rattle.desk_law.specs.Desk.{DeskState, no_ticket, ticket}
use Rattle.desk_law.specs.Rings.{done_ticket}
use Rattle.world_law.specs.declared.reply.Decided.{Decided}
use Rattle.world_law.specs.declared.reply.Decided.TheVariants as line
use Rattle.world_law.specs.declared.reply.Reply.{Reply}
use Rattle.world_law.specs.declared.reply.Reply.TheVariants as reply
use Rattle.world_law.specs.declared.reply.Stop.{Stop}
use Rattle.world_law.specs.declared.reply.Stop.TheVariants as stop
use Rattle.world_law.specs.World.{BenchSetting, World, commands_of, lines_of, command_at, decided}
use Rattle.world_law.specs.Opening.{opened}
use Rattle.world_law.specs.Lines.{is_settled, settled}
use Rattle.world_law.specs.Enabling.{MayBuild, Enabled}
use Rattle.world_law.specs.Repairs.{Fixes}
use Rattle.world_law.specs.Builds.{decides, refuses, is_tried_again, BuildsBy, BuildsOf}
use Rattle.world_law.specs.Acts.{is_late, marks, aborts, device_resets, bus_resets, acts_by, ActsOf}
use Rattle.world_law.specs.Steps.{TakesOf, Does}
use Rattle.world_law.specs.Runs.{Moment, IsRun, last}
use Rattle.bench_core.specs.Histories.{IsReplayed, IsBench}
use Rattle.bench_core.specs.Counting.{line_count}
use Rattle.bench_core.proofs.Growth.{few_of}
use Rattle.bench_state.specs.Counting.{is_refused, refused_count, is_over, freed_count, IsCounted}

-- ---- the lines of tickets that pass a test

abbrev is_accepted : (ℕ → Bool) → Decided → Bool
is_accepted p (line.Accepted t) = p t
is_accepted p _ = false

abbrev accepted_in : (ℕ → Bool) → List Decided → ℕ
accepted_in p ls = count_by (is_accepted p) ls

abbrev accepted_of : (ℕ → Bool) → List (List Decided) → ℕ
accepted_of p lss = sum_by (accepted_in p) lss

abbrev one_if : Bool → ℕ
one_if b = cond b 1 0

first-counted : {X : Type 0} (p : X → Bool) (x : X) (xs : List X) → count_by p (x ∷ xs) ≡ one_if (p x) + count_by p xs
first-counted {X} p x xs = sum_by-cons (λ (y : X). one_if (p y)) x xs

abbrev numbers_below : (ℕ → Bool) → (from n : ℕ) → ℕ
numbers_below p from n = count_by p (range_with_len from n)

one-number : (p : ℕ → Bool) (from n : ℕ) → numbers_below p from (suc n) ≡ numbers_below p from n + one_if (p (from + n))
one-number p from zero = omega (arith, ap (λ (k : ℕ). one_if (p k)) (plus-zero from))
  where
    plus-zero : (k : ℕ) → k + 0 ≡ k
    plus-zero k = omega arith
one-number p from (suc n) =
    omega (arith, first-counted p from (range_with_len (from + 1) (suc n)), first-counted p from (range_with_len (from + 1) n), one-number p (from + 1) n, ap (λ (k : ℕ). one_if (p k)) (moved from n))
  where
    moved : (k m : ℕ) → k + 1 + m ≡ k + suc m
    moved k m = omega arith

-- a line more of a submitter
line-more : (f : List Decided → ℕ) (lss : List (List Decided)) (s n : ℕ) (x : Decided) → s < length lss
    → f (slice_index_or lss s [] ++ x ∷ []) ≡ f (slice_index_or lss s []) + n
    → sum_by f (slice_set lss s (slice_index_or lss s [] ++ x ∷ [])) ≡ sum_by f lss + n
line-more f lss s n x there one = omega (arith, sum_by-set f lss s (slice_index_or lss s [] ++ x ∷ []) [] there, one)

in-more : (p : Decided → Bool) (ls : List Decided) (x : Decided) → count_by p (ls ++ x ∷ []) ≡ count_by p ls + one_if (p x)
in-more p ls x = omega (arith, sum_by-append (λ (y : Decided). one_if (p y)) ls (x ∷ []))

-- ---- what a step makes of lines and tickets

pub record HasLines (g : BenchSetting) (w : World) : Type 0 where
  pub many : length w.lines ≡ length g.submitters
  pub accepted : (p : ℕ → Bool) → accepted_of p w.lines ≡ numbers_below p 0 (length w.desk.tickets)

record Keeps (old new : World) : Type 0 where
  pub lines : new.lines ≡ old.lines
  pub tickets : length new.desk.tickets ≡ length old.desk.tickets

kept : (g : BenchSetting) (old new : World) → Keeps old new → HasLines g old → HasLines g new
kept g old new k h = record {
  many = ap (λ (lss : List (List Decided)). length lss) k.lines ∙ h.many;
  accepted = λ p. ap (λ (lss : List (List Decided)). accepted_of p lss) k.lines ∙ h.accepted p ∙ ap (λ (n : ℕ). numbers_below p 0 n) (sym k.tickets);
}

there-is : (g : BenchSetting) (s n : ℕ) → n < length (commands_of g s) → s < length g.submitters
there-is g s n h = within g.submitters s n h
  where
    within : (css : List (List Command)) (s n : ℕ) → n < length (slice_index_or css s []) → s < length css
    within [] s n h = absurd (omega (arith, h))
    within (cs ∷ css) zero n h = omega arith
    within (cs ∷ css) (suc s) n h = omega (arith, within css s n h)

-- a line is decided
decided-accepted : (g : BenchSetting) (old : World) (l : Line) (x : Decided) → l.number < length (commands_of g l.submitter) → HasLines g old → (p : ℕ → Bool)
    → accepted_of p (decides old l x).lines ≡ accepted_of p old.lines + one_if (is_accepted p x)
decided-accepted g old l x e h p =
    line-more (accepted_in p) old.lines l.submitter (one_if (is_accepted p x)) x (omega (arith, there-is g l.submitter l.number e, h.many))
    (in-more (is_accepted p) (lines_of old l.submitter) x)

refused-keeps : (again : Bool) (g : BenchSetting) (old : World) (l : Line) (r : Refused) → l.number < length (commands_of g l.submitter) → HasLines g old
    → HasLines g (refuses again old l r)
refused-keeps true g old l r e h = h
refused-keeps false g old l r e h = record {
  many = length-set old.lines l.submitter (lines_of old l.submitter ++ line.Refused r ∷ []) ∙ h.many;
  accepted = λ p. omega (arith, decided-accepted g old l (line.Refused r) e h p, h.accepted p);
}

builds : (g : BenchSetting) (caller : ℕ) (c : Command) (old : World) (l : Line) (a : Reply) (new : World) → MayBuild g old caller l → BuildsBy old l c a new → HasLines g old → HasLines g new
builds g caller c old l (reply.Built t) new e m h =
    let longer : length new.desk.tickets ≡ length old.desk.tickets + 1 =
    ap (λ (d : DeskState). length d.tickets) m.builds.desk ∙ length-append old.desk.tickets _ in
    record {
      many = ap (λ (w : World). length w.lines) m.world ∙ length-set old.lines l.submitter (lines_of old l.submitter ++ line.Accepted t ∷ []) ∙ h.many;
      accepted = λ p.
          ap (λ (w : World). accepted_of p w.lines) m.world ∙ decided-accepted g old l (line.Accepted t) e.there h p
          ∙ ap (λ (n : ℕ). n + one_if (p t)) (h.accepted p) ∙ ap (λ (k : ℕ). numbers_below p 0 (length old.desk.tickets) + one_if (p k)) (m.builds.numbered ∙ from-zero (length old.desk.tickets))
          ∙ sym (one-number p 0 (length old.desk.tickets)) ∙ ap (λ (n : ℕ). numbers_below p 0 n) (suc-is (length old.desk.tickets) ∙ sym longer);
    }
  where
    from-zero : (k : ℕ) → k ≡ 0 + k
    from-zero k = omega arith

    suc-is : (k : ℕ) → suc k ≡ k + 1
    suc-is k = omega arith
builds g caller c old l (reply.Refused r) new e m h =
    subst (λ (w : World). HasLines g w) (sym m.1) (refused-keeps (is_tried_again c.when_full r) g old l r e.there h)
builds g caller c old l _ new e m h = absurd m

builds-of : (g : BenchSetting) (caller : ℕ) (o : Option Command) (old : World) (l : Line) (a : Reply) (new : World) → MayBuild g old caller l → BuildsOf o old l a new → HasLines g old → HasLines g new
builds-of g caller None old l a new e m h = absurd m
builds-of g caller (Some c) old l a new e m h = builds g caller c old l a new e m h

same : (old made new : World) → new ≡ made → Keeps old made → Keeps old new
same old made new e k = subst (λ (w : World). Keeps old w) (sym e) k

one-set : (old new : World) (t : ℕ) (k : Ticket) → new.lines ≡ old.lines → new.desk.tickets ≡ slice_set old.desk.tickets t k → Keeps old new
one-set old new t k e s = record { lines = e; tickets = ap (λ (ks : List Ticket). length ks) s ∙ length-set old.desk.tickets t k }

none-set : (old new : World) → new.lines ≡ old.lines → new.desk.tickets ≡ old.desk.tickets → Keeps old new
none-set old new e s = record { lines = e; tickets = ap (λ (ks : List Ticket). length ks) s }

fixes : (old new : World) → Fixes old new → Keeps old new
fixes old new h = elim h [
  | inl x ↦ none-set old new (ap (λ (w : World). w.lines) x.world) (ap (λ (w : World). w.desk.tickets) x.world)
  | inr x ↦ none-set old new (ap (λ (w : World). w.lines) x.1) (ap (λ (w : World). w.desk.tickets) x.1)
]

takes : (o : Option ℕ) (old : World) (a : Reply) (new : World) → TakesOf o old a new → Keeps old new
takes None old a new m = absurd m
takes (Some t) old a new m = same old _ new m.1 (one-set old _ t _ refl refl)

marks-keep : (late : Bool) (old : World) (t : ℕ) → Keeps old (marks late old t).world
marks-keep true old t = none-set old _ refl refl
marks-keep false old t = none-set old _ refl refl

aborts-keep : (d : Decided) (old : World) → Keeps old (aborts old d).world
aborts-keep line.Open old = none-set old _ refl refl
aborts-keep (line.Accepted t) old = marks-keep (is_late (ticket old.desk t).stage) old t
aborts-keep (line.Refused r) old = none-set old _ refl refl

fronts : (idle : Bool) (old : World) (target : ℕ) → Keeps old (device_resets idle old target).world
fronts true old target = none-set old _ refl refl
fronts false old target = none-set old _ refl refl

bus-keeps : (s : Stop) (old : World) → Keeps old (bus_resets s old).world
bus-keeps stop.Run old = none-set old _ refl refl
bus-keeps stop.Mismatch old = none-set old _ refl refl
bus-keeps stop.Clear old = none-set old _ refl refl
bus-keeps stop.MustReset old = none-set old _ refl refl

acts : (k : ActKind) (old : World) → Keeps old (acts_by old k).world
acts (Abort l) old = aborts-keep (decided old l) old
acts (Device target) old = fronts _ old target
acts Bus old = bus-keeps old.stop old

acts-of : (o : Option Act) (old : World) (a : Reply) (new : World) → ActsOf o old a new → Keeps old new
acts-of None old a new m = absurd m
acts-of (Some x) old a new m = same old (acts_by old x.kind).world new m.1 (acts x.kind old)

step-keeps : (g : BenchSetting) (old : World) (caller : ℕ) (s : Step) (a : Reply) (new : World) → Enabled g old caller s → Does g old caller s a new → HasLines g old → HasLines g new
step-keeps g old caller (step.Build l) a new e m h = builds-of g caller (command_at g l) old l a new e m h
step-keeps g old caller (step.Link t) a new e m h = kept g old new (same old _ new m.1 (one-set old _ t _ refl refl)) h
step-keeps g old caller (step.Queue t) a new e m h = kept g old new (same old _ new m.1 (one-set old _ t _ refl refl)) h
step-keeps g old caller step.Signal a new e m h = kept g old new (same old _ new m.1 (none-set old _ refl refl)) h
step-keeps g old caller (step.Chip word) a new e m h = kept g old new (same old _ new m.world (none-set old _ refl refl)) h
step-keeps g old caller step.Fix a new e m h = kept g old new (fixes old new m.1) h
step-keeps g old caller (step.Sweep t) a new e m h = kept g old new (same old _ new m.1 (one-set old _ t _ refl refl)) h
step-keeps g old caller step.Restart a new e m h = kept g old new (same old _ new m.1 (none-set old _ refl refl)) h
step-keeps g old caller step.TakeDone a new e m h = kept g old new (takes (done_ticket old.memory old.desk) old a new m) h
step-keeps g old caller (step.Unlink t) a new e m h = kept g old new (same old _ new m.1 (one-set old _ t _ refl refl)) h
step-keeps g old caller (step.Free t) a new e m h =
    kept g old new (one-set old new t _ (ap (λ (w : World). w.lines) m.world) (ap (λ (d : DeskState). d.tickets) m.frees.desk)) h
step-keeps g old caller (step.Act k) a new e m h = kept g old new (acts-of (slice_get g.acts k) old a new m) h
step-keeps g old caller step.ResetBus a new e m h = kept g old new (same old _ new m.1 (none-set old _ refl refl)) h
step-keeps g old caller (step.Sense t) a new e m h = kept g old new (same old _ new m.1 (one-set old _ t _ refl refl)) h

run-keeps : (g : BenchSetting) (ms : List Moment) (w : World) → IsRun g w ms → HasLines g w → HasLines g (last w ms)
run-keeps g [] w r h = h
run-keeps g (m ∷ ms) w r h =
    run-keeps g ms m.after r.1 (step-keeps g w m.entry.caller m.entry.step m.reply m.after r.0.enabled r.0.does h)

no-lines : (p : ℕ → Bool) (n : ℕ) → accepted_of p (replicate n []) ≡ 0
no-lines p zero = refl
no-lines p (suc n) = omega (arith, no-lines p n)

opening-lines : (g : BenchSetting) → HasLines g (opened g)
opening-lines g = record { many = length-replicate (length g.submitters) []; accepted = λ p. no-lines p (length g.submitters) }

pub lines_of_run : (g : BenchSetting) (es : List Entry) (w : World) → IsReplayed g es w → HasLines g w
lines_of_run g es w h =
    subst (λ (x : World). HasLines g x) h.world (run-keeps g h.moments (opened g) h.run (opening-lines g))

-- ---- the lines that are settled

abbrev freed : DeskState → ℕ → Bool
freed d t = is_over (ticket d t)

settled-one : (d : DeskState) (x : Decided) → one_if (is_settled d x) ≡ one_if (is_refused x) + one_if (is_accepted (freed d) x)
settled-one d line.Open = refl
settled-one d (line.Accepted t) = plus (one_if (is_over (ticket d t)))
  where
    plus : (n : ℕ) → n ≡ 0 + n
    plus n = omega arith
settled-one d (line.Refused r) = refl

settled-in : (d : DeskState) (ls : List Decided) → count_by (is_settled d) ls ≡ count_by is_refused ls + accepted_in (freed d) ls
settled-in d [] = refl
settled-in d (x ∷ xs) =
    omega (arith, first-counted (is_settled d) x xs, first-counted is_refused x xs, first-counted (is_accepted (freed d)) x xs, settled-one d x, settled-in d xs)

settled-all : (d : DeskState) (lss : List (List Decided)) → sum_by (λ (ls : List Decided). count_by (is_settled d) ls) lss ≡ refused_count lss + accepted_of (freed d) lss
settled-all d [] = refl
settled-all d (ls ∷ lss) =
    omega (
      arith,
      sum_by-cons (λ (xs : List Decided). count_by (is_settled d) xs) ls lss,
      sum_by-cons (λ (xs : List Decided). count_by is_refused xs) ls lss,
      sum_by-cons (accepted_in (freed d)) ls lss,
      settled-in d ls,
      settled-all d lss,
    )

-- counting numbers is counting tickets
below-list : (ks : List Ticket) (p : ℕ → Bool) (from : ℕ) → ((t : ℕ) → t < length ks → p (from + t) ≡ is_over (slice_index_or ks t no_ticket))
    → numbers_below p from (length ks) ≡ freed_count ks
below-list [] p from e = refl
below-list (k ∷ ks) p from e =
    let here : p (from + 0) ≡ is_over k = e 0 (omega arith) in
    omega (arith, first-counted p from (range_with_len (from + 1) (length ks)), first-counted is_over k ks, ap (λ (b : Bool). one_if b) (ap p (plus-zero from) ∙ here), below-list ks p (from + 1) (λ t l. ap p (moved from t) ∙ e (suc t) (omega (arith, l))))
  where
    plus-zero : (k : ℕ) → k ≡ k + 0
    plus-zero k = omega arith

    moved : (k m : ℕ) → k + 1 + m ≡ k + suc m
    moved k m = omega arith

pub settled_are : (g : BenchSetting) (w : World) → HasLines g w → settled w ≡ refused_count w.lines + freed_count w.desk.tickets
settled_are g w h =
    settled-all w.desk w.lines
    ∙ ap (λ (n : ℕ). refused_count w.lines + n) (h.accepted (freed w.desk) ∙ below-list w.desk.tickets (freed w.desk) 0 (λ t l. ap (λ (k : ℕ). freed w.desk k) (from-zero t)))
  where
    from-zero : (k : ℕ) → 0 + k ≡ k
    from-zero k = omega arith

-- ---- they are at most as many as the entries

some-of : (p : Decided → Bool) (lss : List (List Decided)) → sum_by (λ (ls : List Decided). count_by p ls) lss ≤ line_count lss
some-of p [] = omega arith
some-of p (ls ∷ lss) =
    omega (
      arith,
      sum_by-cons (λ (xs : List Decided). count_by p xs) ls lss,
      sum_by-cons (λ (xs : List Decided). length xs) ls lss,
      count_by-le-length p ls,
      some-of p lss,
    )

pub counted_of : (g : BenchSetting) (es : List Entry) (w : World) → IsReplayed g es w → length es ≤ 4194304 → IsCounted w
counted_of g es w h few = record {
  are = settled_are g w (lines_of_run g es w h);
  few = omega (arith, some-of (is_settled w.desk) w.lines, (few_of g es w h).lines, few);
}

pub bench_counted : (g : BenchSetting) (es : List Entry) (w : World) (capacity : ℕ) → IsBench g es w capacity → IsCounted w
bench_counted g es w capacity h = counted_of g es w h.replayed (omega (arith, h.within, h.limit))
