-- A trace has one answer: two runs over its lines are one as far as both go, and where a run stops is fixed by its world.
use Rattle.std.proofs.Common.{arith, ◌≡◌, ◌≢◌, ◌<◌, ◌≤◌, ◌+◌, ◌==◌, ◌&&◌, not, ℕ, suc, nat_lt, Bool, true, false, List, [], ◌∷◌, length, map, take, slice_get, Option, Some, None, Result, Ok, Err, refl, sym, ap, subst, ◌∙◌}
use Rattle.std.proofs.lemmas.Bool.Decides.{nat_tests}
use Rattle.std.proofs.lemmas.List.{length-take-le, take_all}
use Rattle.std.proofs.lemmas.Option.{slice_get_past, slice_get_within}
use Rattle.rig_types.specs.declared.step.Entry.{Entry}
use Rattle.rig_types.specs.declared.step.Step.{Step}
use Rattle.rig_types.specs.declared.step.Step.TheVariants as step
use Rattle.trace_text.specs.declared.types.TraceLine.{TraceLine}
use Rattle.trace_text.specs.Grammar.{line_caller, line_of}
use Rattle.refusal_lines.specs.declared.fault.Fault.TheVariants as fault
use Rattle.refusal_lines.specs.declared.refusal.Refusal.{Refusal}
use Rattle.refusal_lines.specs.declared.refusal.Refusal.TheVariants as refusals
use Rattle.world_law.specs.World.{BenchSetting, World, commands_of}
use Rattle.world_law.specs.Opening.{opened}
use Rattle.world_law.specs.Lines.{drained}
use Rattle.world_law.specs.Enabling.{Enabled}
use Rattle.world_law.specs.Runs.{Moment, Steps, IsRun, last, entries}
use Rattle.world_law.specs.Answers.{WithinLimit}
use Rattle.world_law.specs.Traces.{TraceEntry, caller_told, trace_entry, trace}
use Rattle.world_law.proofs.OneRun.{one_run}
use Rattle.replay_run.specs.Replays.{Knows, Makes, MakesFirst, Reaches, IsUnknown, IsRefusedStep, ReachesLimit, StaysUndrained, ReplaysTo, ReplayAnswers}

-- ---- runs over the same lines

-- what a trace tells of the entry that has a line
abbrev told : TraceLine → TraceEntry
told l = record { step = l.step; caller = l.caller }

told-caller : (g : BenchSetting) (w : World) (c : ℕ) (s : Step) → Enabled g w c s → caller_told s c ≡ line_caller s c
told-caller g w c (step.Build l) h = ap (λ (n : ℕ). Some n) h.own
told-caller g w c step.Signal h = refl
told-caller g w c _ h = refl

told-entry : (g : BenchSetting) (w : World) (e : Entry) → Enabled g w e.caller e.step → trace_entry e ≡ told (line_of e)
told-entry g w e h =
    let with_caller : Option ℕ → TraceEntry = λ o. record { step = e.step; caller = o } in
    ap with_caller (told-caller g w e.caller e.step h)

told-entries : (g : BenchSetting) (w : World) (ms : List Moment) → IsRun g w ms → trace (entries ms) ≡ map told (map line_of (entries ms))
told-entries g w [] h = refl
told-entries g w (m ∷ ms) h =
    ap (λ (x : TraceEntry). x ∷ trace (entries ms)) (told-entry g w m.entry h.0.enabled)
    ∙ ap (λ (xs : List TraceEntry). told (line_of m.entry) ∷ xs) (told-entries g m.after ms h.1)

one-made : (g : BenchSetting) (w : World) (ms ns : List Moment) → map line_of (entries ms) ≡ map line_of (entries ns) → IsRun g w ms → IsRun g w ns → ms ≡ ns
one-made g w ms ns e h k =
    one_run g w ms ns (told-entries g w ms h ∙ ap (λ (ls : List TraceLine). map told ls) e ∙ sym (told-entries g w ns k)) h k

first-is : {A : Type 0} (x y : A) (xs ys : List A) → x ∷ xs ≡ y ∷ ys → x ≡ y
first-is x y xs ys e = cc

rest-is : {A : Type 0} (x y : A) (xs ys : List A) → x ∷ xs ≡ y ∷ ys → xs ≡ ys
rest-is x y xs ys e = cc

-- behind the run, a recorded step has the next line
record GoesFurther (g : BenchSetting) (lines : List TraceLine) (w : World) (ms : List Moment) : Type 0 where
  pub moment : Moment
  pub steps : Steps g (last w ms) moment
  pub there : slice_get lines (length ms) ≡ Some (line_of moment.entry)

data Compared (g : BenchSetting) (lines : List TraceLine) (w : World) (ms ns : List Moment) : Type 0 where
  same : ms ≡ ns → Compared g lines w ms ns
  shorter : length ms < length ns → GoesFurther g lines w ms → Compared g lines w ms ns
  longer : length ns < length ms → GoesFurther g lines w ns → Compared g lines w ms ns

behind : (g : BenchSetting) (l : TraceLine) (ls : List TraceLine) (w : World) (m n : Moment) (ms ns : List Moment) → m ≡ n → Compared g ls m.after ms ns
    → Compared g (l ∷ ls) w (m ∷ ms) (n ∷ ns)
behind g l ls w m n ms ns x (same e) = same (ap (λ (y : Moment). y ∷ ms) x ∙ ap (λ (ys : List Moment). n ∷ ys) e)
behind g l ls w m n ms ns x (shorter h f) = shorter (omega (arith, h)) (record { moment = f.moment; steps = f.steps; there = f.there })
behind g l ls w m n ms ns x (longer h f) =
    longer (omega (arith, h)) (record { moment = f.moment; steps = subst (λ (y : Moment). Steps g (last y.after ns) f.moment) x f.steps; there = f.there })

compare : (g : BenchSetting) (w : World) (lines : List TraceLine) (ms ns : List Moment) → IsRun g w ms → IsRun g w ns
    → map line_of (entries ms) ≡ take (length ms) lines → map line_of (entries ns) ≡ take (length ns) lines → Compared g lines w ms ns
compare g w lines [] [] h k e f = same refl
compare g w [] [] (n ∷ ns) h k e f = absurd cc
compare g w (l ∷ ls) [] (n ∷ ns) h k e f =
    shorter (omega arith) (record { moment = n; steps = k.0; there = ap (λ (x : TraceLine). Some x) (sym (first-is (line_of n.entry) l (map line_of (entries ns)) (take (length ns) ls) f)) })
compare g w [] (m ∷ ms) ns h k e f = absurd cc
compare g w (l ∷ ls) (m ∷ ms) [] h k e f =
    longer (omega arith) (record { moment = m; steps = h.0; there = ap (λ (x : TraceLine). Some x) (sym (first-is (line_of m.entry) l (map line_of (entries ms)) (take (length ms) ls) e)) })
compare g w (l ∷ ls) (m ∷ ms) (n ∷ ns) h k e f =
    let a : line_of m.entry ≡ l = first-is (line_of m.entry) l (map line_of (entries ms)) (take (length ms) ls) e in
    let b : line_of n.entry ≡ l = first-is (line_of n.entry) l (map line_of (entries ns)) (take (length ns) ls) f in
    let one : m ∷ [] ≡ n ∷ [] = one-made g w (m ∷ []) (n ∷ []) (ap (λ (x : TraceLine). x ∷ []) (a ∙ sym b)) (h.0, tt) (k.0, tt) in
    let x : m ≡ n = first-is m n [] [] one in
    let later : IsRun g m.after ns = subst (λ (y : Moment). IsRun g y.after ns) (sym x) k.1 in
    behind g l ls w m n ms ns x
    (compare g m.after ls ms ns h.1 later (rest-is (line_of m.entry) l (map line_of (entries ms)) (take (length ms) ls) e)
    (rest-is (line_of n.entry) l (map line_of (entries ns)) (take (length ns) ls) f))

-- ---- what is answered where a run stops

knows : BenchSetting → Step → Bool
knows g (step.Build l) = nat_lt l.number (length (commands_of g l.submitter))
knows g (step.Act k) = nat_lt k (length g.acts)
knows g _ = true

below : (a b : ℕ) → a < b → nat_lt a b ≡ true
below a b h = grind (arith, nat_tests, h)

not-below : (a b : ℕ) → (a < b → ⊥) → nat_lt a b ≡ false
not-below a b n = grind (arith, nat_tests, n)

known : (g : BenchSetting) (s : Step) → Knows g s → knows g s ≡ true
unfolding knows
known g (step.Build l) h = below l.number (length (commands_of g l.submitter)) h
known g (step.Act k) h = below k (length g.acts) h
known g _ h = refl

unknown : (g : BenchSetting) (s : Step) → (Knows g s → ⊥) → knows g s ≡ false
unfolding knows
unknown g (step.Build l) n = not-below l.number (length (commands_of g l.submitter)) n
unknown g (step.Act k) n = not-below k (length g.acts) n
unknown g _ n = absurd (n tt)

abbrev at_line : (known : Bool) → (number : ℕ) → Result World Refusal
at_line true number = Err (refusals.Bad (fault.TraceStep number))
at_line false number = Err (refusals.Bad (fault.UnknownStep number))

abbrev at_end : (done : Bool) → World → Result World Refusal
at_end true w = Ok w
at_end false w = Err (refusals.Bad fault.NotDrained)

abbrev next : BenchSetting → Option TraceLine → (number : ℕ) → World → Result World Refusal
next g (Some l) number w = at_line (knows g l.step) number
next g None number w = at_end (drained g w) w

abbrev verdict : (stuck : Bool) → BenchSetting → Option TraceLine → (number : ℕ) → World → Result World Refusal
verdict true g o number w = Err refusals.StepLimit
verdict false g o number w = next g o number w

abbrev is_stuck : BenchSetting → (count : ℕ) → World → Bool
is_stuck g count w = count == g.step_limit && not (drained g w)

verdict-at : BenchSetting → List TraceLine → List Moment → Result World Refusal
verdict-at g lines ms = verdict (is_stuck g (length ms) (last (opened g) ms)) g (slice_get lines (length ms)) (length ms + 1) (last (opened g) ms)

judged : (g : BenchSetting) (lines : List TraceLine) (ms : List Moment) (s : Bool) (o : Option TraceLine) → is_stuck g (length ms) (last (opened g) ms) ≡ s
    → slice_get lines (length ms) ≡ o → verdict-at g lines ms ≡ verdict s g o (length ms + 1) (last (opened g) ms)
unfolding verdict-at
judged g lines ms s o e f =
    ap (λ (b : Bool). verdict b g (slice_get lines (length ms)) (length ms + 1) (last (opened g) ms)) e
    ∙ ap (λ (x : Option TraceLine). verdict s g x (length ms + 1) (last (opened g) ms)) f

stuck : (g : BenchSetting) (count : ℕ) (w : World) → count ≡ g.step_limit → drained g w ≡ false → is_stuck g count w ≡ true
stuck g count w e f = both (count == g.step_limit) (drained g w) (equal count g.step_limit e) f
  where
    equal : (a b : ℕ) → a ≡ b → a == b ≡ true
    equal a b e = grind (arith, nat_tests, e)

    both : (a b : Bool) → a ≡ true → b ≡ false → a && not b ≡ true
    both true false e f = refl
    both true true e f = absurd cc
    both false b e f = absurd cc

not-stuck : (g : BenchSetting) (count : ℕ) (w : World) → WithinLimit g count w → is_stuck g count w ≡ false
not-stuck g count w free = by (drained g w) refl
  where
    unequal : (a b : ℕ) → a ≢ b → a == b ≡ false
    unequal a b n = grind (arith, nat_tests, n)

    never : (a b : Bool) → b ≡ true → a && not b ≡ false
    never true true e = refl
    never false true e = refl
    never a false e = absurd cc

    less : (a b : Bool) → a ≡ false → a && not b ≡ false
    less false b e = refl
    less true b e = absurd cc

    by : (b : Bool) → drained g w ≡ b → is_stuck g count w ≡ false
    by true d = never (count == g.step_limit) (drained g w) d
    by false d =
        less (count == g.step_limit) (drained g w) (unequal count g.step_limit (λ e. let c : true ≡ false = sym (free e) ∙ d in absurd cc))

-- a run over the lines that is answered so where it stops
record EndsAt (g : BenchSetting) (lines : List TraceLine) (a : Result World Refusal) : Type 0 where
  pub moments : List Moment
  pub run : IsRun g (opened g) moments
  pub are : map line_of (entries moments) ≡ take (length moments) lines
  pub within : length moments ≤ g.step_limit
  pub stops : GoesFurther g lines (opened g) moments → length moments ≡ g.step_limit
  pub answer : a ≡ verdict-at g lines moments

one-end : (g : BenchSetting) (lines : List TraceLine) (a b : Result World Refusal) → EndsAt g lines a → EndsAt g lines b → a ≡ b
one-end g lines a b x y = by (compare g (opened g) lines x.moments y.moments x.run y.run x.are y.are)
  where
    by : Compared g lines (opened g) x.moments y.moments → a ≡ b
    by (same e) = x.answer ∙ ap (λ (ms : List Moment). verdict-at g lines ms) e ∙ sym y.answer
    by (shorter l f) = let full : length x.moments ≡ g.step_limit = x.stops f in absurd (omega (arith, l, full, y.within))
    by (longer l f) = let full : length y.moments ≡ g.step_limit = y.stops f in absurd (omega (arith, l, full, x.within))

-- ---- each answer

count-of : (ms : List Moment) → length (map line_of (entries ms)) ≡ length ms
count-of [] = refl
count-of (m ∷ ms) = ap suc (count-of ms)

count-first : (g : BenchSetting) (lines : List TraceLine) (count : ℕ) (ms : List Moment) → MakesFirst g lines count ms → count ≡ length ms
count-first g lines count ms h =
    sym (length-take-le count lines h.few) ∙ ap (λ (ls : List TraceLine). length ls) (sym h.first.are) ∙ count-of ms

first-are : (g : BenchSetting) (lines : List TraceLine) (count : ℕ) (ms : List Moment) → MakesFirst g lines count ms
    → map line_of (entries ms) ≡ take (length ms) lines
first-are g lines count ms h = h.first.are ∙ ap (λ (n : ℕ). take n lines) (count-first g lines count ms h)

count-all : (g : BenchSetting) (lines : List TraceLine) (ms : List Moment) → Makes g lines ms → length ms ≡ length lines
count-all g lines ms h = sym (count-of ms) ∙ ap (λ (ls : List TraceLine). length ls) h.are

all-are : (g : BenchSetting) (lines : List TraceLine) (ms : List Moment) → Makes g lines ms → map line_of (entries ms) ≡ take (length ms) lines
all-are g lines ms h = h.are ∙ sym (take_all (length ms) lines (omega (arith, count-all g lines ms h)))

none-left : (g : BenchSetting) (lines : List TraceLine) (ms : List Moment) → Makes g lines ms → GoesFurther g lines (opened g) ms → ⊥
none-left g lines ms h f = omega (arith, slice_get_within lines (length ms) (line_of f.moment.entry) f.there, count-all g lines ms h)

past : (g : BenchSetting) (lines : List TraceLine) (ms : List Moment) → Makes g lines ms → slice_get lines (length ms) ≡ None
past g lines ms h = slice_get_past lines (length ms) (omega (arith, count-all g lines ms h))

there-at : (g : BenchSetting) (lines : List TraceLine) (n : ℕ) (ms : List Moment) (l : TraceLine) (r : Reaches g lines n ms l) → slice_get lines (length ms) ≡ Some l
there-at g lines n ms l r = subst (λ (k : ℕ). slice_get lines k ≡ Some l) (count-first g lines r.count ms r.before) r.there

number-at : (g : BenchSetting) (lines : List TraceLine) (n : ℕ) (ms : List Moment) (l : TraceLine) (r : Reaches g lines n ms l) → n ≡ length ms + 1
number-at g lines n ms l r = r.number_is ∙ ap (λ (k : ℕ). k + 1) (count-first g lines r.count ms r.before)

next-is : (g : BenchSetting) (lines : List TraceLine) (n : ℕ) (ms : List Moment) (l : TraceLine) (r : Reaches g lines n ms l) (f : GoesFurther g lines (opened g) ms)
    → line_of f.moment.entry ≡ l
next-is g lines n ms l r f = some-is (line_of f.moment.entry) l (sym f.there ∙ there-at g lines n ms l r)
  where
    some-is : {A : Type 0} (x y : A) → Some x ≡ Some y → x ≡ y
    some-is x y e = cc

-- at a line that is reached
at-reached : (g : BenchSetting) (lines : List TraceLine) (n : ℕ) (ms : List Moment) (l : TraceLine) (b : Bool) (r : Reaches g lines n ms l)
    → (GoesFurther g lines (opened g) ms → ⊥) → knows g l.step ≡ b → EndsAt g lines (at_line b n)
at-reached g lines n ms l b r stays k = record {
  moments = ms;
  run = r.before.first.run;
  are = first-are g lines r.count ms r.before;
  within = r.before.within;
  stops = λ f. absurd (stays f);
  answer =
      ap (λ (x : ℕ). at_line b x) (number-at g lines n ms l r)
      ∙ ap (λ (x : Bool). at_line x (length ms + 1)) (sym k)
      ∙ sym (judged g lines ms false (Some l) (not-stuck g (length ms) (last (opened g) ms) r.free) (there-at g lines n ms l r));
}

-- a step that may be made is known
knows-enabled : (g : BenchSetting) (w : World) (c : ℕ) (s : Step) → Enabled g w c s → Knows g s
knows-enabled g w c (step.Build l) h = h.there
knows-enabled g w c (step.Act k) h = slice_get_within g.acts k h.act h.is
knows-enabled g w c _ h = tt

at-unknown : (g : BenchSetting) (lines : List TraceLine) (n : ℕ) → IsUnknown g lines n → EndsAt g lines (Err (refusals.Bad (fault.UnknownStep n)))
at-unknown g lines n h =
    at-reached g lines n h.moments h.line false h.reached no (unknown g h.line.step h.unknown)
  where
    no : GoesFurther g lines (opened g) h.moments → ⊥
    no f =
        let e : line_of f.moment.entry ≡ h.line = next-is g lines n h.moments h.line h.reached f in
        let may : Knows g f.moment.entry.step = knows-enabled g (last (opened g) h.moments) f.moment.entry.caller f.moment.entry.step f.steps.enabled in
        h.unknown (subst (λ (l : TraceLine). Knows g l.step) e may)

at-refused : (g : BenchSetting) (lines : List TraceLine) (n : ℕ) → IsRefusedStep g lines n → EndsAt g lines (Err (refusals.Bad (fault.TraceStep n)))
at-refused g lines n h =
    at-reached g lines n h.moments h.line true h.reached (λ f. h.none f.moment f.steps (next-is g lines n h.moments h.line h.reached f)) (known g h.line.step h.known)

at-limit : (g : BenchSetting) (lines : List TraceLine) → ReachesLimit g lines → EndsAt g lines (Err refusals.StepLimit)
at-limit g lines h = record {
  moments = h.moments;
  run = h.made.first.run;
  are = first-are g lines h.count h.moments h.made;
  within = h.made.within;
  stops = λ f. h.full;
  answer = sym (judged g lines h.moments true (slice_get lines (length h.moments)) (stuck g (length h.moments) (last (opened g) h.moments) h.full h.left) refl);
}

at-all : (g : BenchSetting) (lines : List TraceLine) (ms : List Moment) (b : Bool) → Makes g lines ms → length ms ≤ g.step_limit → WithinLimit g (length ms) (last (opened g) ms)
    → drained g (last (opened g) ms) ≡ b → EndsAt g lines (at_end b (last (opened g) ms))
at-all g lines ms b h most free d = record {
  moments = ms;
  run = h.run;
  are = all-are g lines ms h;
  within = most;
  stops = λ f. absurd (none-left g lines ms h f);
  answer =
      ap (λ (x : Bool). at_end x (last (opened g) ms)) (sym d)
      ∙ sym (judged g lines ms false None (not-stuck g (length ms) (last (opened g) ms) free) (past g lines ms h));
}

at-undrained : (g : BenchSetting) (lines : List TraceLine) → StaysUndrained g lines → EndsAt g lines (Err (refusals.Bad fault.NotDrained))
at-undrained g lines h =
    at-all g lines h.moments false h.made (omega (arith, h.free)) (λ e. absurd (omega (arith, e, h.free))) h.left

at-drained : (g : BenchSetting) (lines : List TraceLine) (w : World) → ReplaysTo g lines w → EndsAt g lines (Ok w)
at-drained g lines w h =
    let d : drained g (last (opened g) h.moments) ≡ true = subst (λ (v : World). drained g v ≡ true) (sym h.world) h.drains in
    subst (λ (v : World). EndsAt g lines (Ok v)) h.world (at-all g lines h.moments true h.made h.within (λ e. d) d)

ends-at : (g : BenchSetting) (lines : List TraceLine) (a : Result World Refusal) → ReplayAnswers g lines a → a ≢ Err refusals.OutOfMemory → EndsAt g lines a
ends-at g lines (Ok w) h n = at-drained g lines w h
ends-at g lines (Err (refusals.Bad (fault.UnknownStep k))) h n = at-unknown g lines k h
ends-at g lines (Err (refusals.Bad (fault.TraceStep k))) h n = at-refused g lines k h
ends-at g lines (Err (refusals.Bad fault.NotDrained)) h n = at-undrained g lines h
ends-at g lines (Err (refusals.Bad _)) h n = absurd h
ends-at g lines (Err refusals.StepLimit) h n = at-limit g lines h
ends-at g lines (Err refusals.OutOfMemory) h n = absurd (n refl)
ends-at g lines (Err _) h n = absurd h

pub one_replay : (g : BenchSetting) (lines : List TraceLine) (a b : Result World Refusal) → ReplayAnswers g lines a → ReplayAnswers g lines b
    → a ≢ Err refusals.OutOfMemory → b ≢ Err refusals.OutOfMemory → a ≡ b
one_replay g lines a b h k m n = one-end g lines a b (ends-at g lines a h m) (ends-at g lines b k n)
