-- A run stays a run where a submitter gets one more line.
use Rattle.std.proofs.Common.{arith, ◌≡◌, ◌≢◌, ◌<◌, ◌≤◌, ℕ, zero, suc, ◌+◌, Bool, true, false, List, [], ◌∷◌, ◌++◌, length, position, replicate, slice_get, slice_set, slice_index_or, Option, refl, sym, ap, subst, ◌∙◌, ◌⊎◌, inl, inr}
use Rattle.std.proofs.lemmas.List.{get_or-set_same, get_or-set_other, length-set}
use Rattle.std.proofs.lemmas.Bool.{and_parts}
use Rattle.rig_types.specs.declared.commands.Command.{Command}
use Rattle.rig_types.specs.declared.step.Line.{Line}
use Rattle.rig_types.specs.declared.step.Step.{Step}
use Rattle.rig_types.specs.declared.step.Step.TheVariants as step
use Rattle.world_law.specs.declared.reply.Decided.{Decided}
use Rattle.world_law.specs.declared.reply.Reply.{Reply}
use Rattle.world_law.specs.World.{BenchSetting, World, commands_of, lines_of, command_at}
use Rattle.world_law.specs.Opening.{opened}
use Rattle.world_law.specs.Lines.{next_command, waits_of, blocks, all_decided, drained}
use Rattle.world_law.specs.Enabling.{MayBuild, Enabled}
use Rattle.world_law.specs.Builds.{BuildsOf}
use Rattle.world_law.specs.Steps.{Does}
use Rattle.world_law.specs.Runs.{Moment, decides_line, is_recorded, IsRun}
use Rattle.world_law.specs.Laws.{longer}
use Rattle.world_law.proofs.Effects.{LinesGo, Effect, effect}
use Rattle.world_law.proofs.Drained.{no-line-left}
use Rattle.bus_law.proofs.OneConnected.{same-or-not}

-- ---- lists

get-before : (cs : List Command) (c : Command) (k : ℕ) → k < length cs → slice_get (cs ++ c ∷ []) k ≡ slice_get cs k
get-before [] c k l = absurd (omega (arith, l))
get-before (x ∷ xs) c zero l = refl
get-before (x ∷ xs) c (suc k) l = get-before xs c k (omega (arith, l))

end-length : {A : Type 0} (xs : List A) (x : A) → length (xs ++ x ∷ []) ≡ length xs + 1
end-length [] x = refl
end-length (y ∷ ys) x = omega (arith, end-length ys x)

abbrev empties : ℕ → List (List Decided)
empties n = replicate n []

none-replicated : (n s : ℕ) → slice_index_or (empties n) s [] ≡ []
none-replicated zero s = refl
none-replicated (suc n) zero = refl
none-replicated (suc n) (suc s) = none-replicated n s

-- ---- the lines that are decided stay within the commands

abbrev Within : BenchSetting → World → Type 0
Within g w = (s : ℕ) → length (lines_of w s) ≤ length (commands_of g s)

set-at : (lss : List (List Decided)) (k s : ℕ) (ls : List Decided) → (slice_index_or (slice_set lss k ls) s [] ≡ slice_index_or lss s []) ⊎ ((s ≡ k) × (slice_index_or (slice_set lss k ls) s [] ≡ ls))
set-at [] k s ls = inl refl
set-at (x ∷ xs) zero zero ls = inr (refl, refl)
set-at (x ∷ xs) zero (suc s) ls = inl refl
set-at (x ∷ xs) (suc k) zero ls = inl refl
set-at (x ∷ xs) (suc k) (suc s) ls = elim (set-at xs k s ls) [
  | inl e ↦ inl e
  | inr p ↦ inr (ap (λ (n : ℕ). suc n) p.0, p.1)
]

stay-within : (g : BenchSetting) (caller : ℕ) (old new : World) → LinesGo g caller old new → Within g old → Within g new
stay-within g caller old new (inl e) w = λ s. subst (λ (lss : List (List Decided)). length (slice_index_or lss s []) ≤ length (commands_of g s)) (sym e) (w s)
stay-within g caller old new (inr x) w = λ s.
    let next : List Decided = lines_of old caller ++ x.decided ∷ [] in
    subst (λ (lss : List (List Decided)). length (slice_index_or lss s []) ≤ length (commands_of g s)) (sym x.are)
    (elim (set-at old.lines caller s next) [
      | inl e ↦ subst (λ (ls : List Decided). length ls ≤ length (commands_of g s)) (sym e) (w s)
      | inr p ↦
          subst (λ (ls : List Decided). length ls ≤ length (commands_of g s)) (sym p.1)
          (subst (λ (n : ℕ). length next ≤ length (commands_of g n)) (sym p.0) (omega (arith, end-length (lines_of old caller) x.decided, x.there)))
    ])

-- ---- the longer work

module _ (g : BenchSetting) (s : ℕ) (c : Command) (there : s < length g.submitters) where
  here : commands_of (longer g s c) s ≡ commands_of g s ++ c ∷ []
  here = get_or-set_same g.submitters s (commands_of g s ++ c ∷ []) [] there

  elsewhere : (k : ℕ) → k ≢ s → commands_of (longer g s c) k ≡ commands_of g k
  elsewhere k n = get_or-set_other g.submitters s k (commands_of g s ++ c ∷ []) [] n

  -- a line of the work has its command in the longer one
  keeps-command : (k n : ℕ) → (k ≡ s) ⊎ (k ≢ s) → n < length (commands_of g k) → slice_get (commands_of (longer g s c) k) n ≡ slice_get (commands_of g k) n
  keeps-command k n (inl e) l =
      let l' : n < length (commands_of g s) = subst (λ (x : ℕ). n < length (commands_of g x)) e l in
      ap (λ (x : ℕ). slice_get (commands_of (longer g s c) x) n) e ∙ ap (λ (xs : List Command). slice_get xs n) here ∙ get-before (commands_of g s) c n l'
      ∙ ap (λ (x : ℕ). slice_get (commands_of g x) n) (sym e)
  keeps-command k n (inr m) l = ap (λ (xs : List Command). slice_get xs n) (elsewhere k m)

  more-commands : (k : ℕ) → (k ≡ s) ⊎ (k ≢ s) → length (commands_of g k) ≤ length (commands_of (longer g s c) k)
  more-commands k (inl e) = subst (λ (x : ℕ). length (commands_of g x) ≤ length (commands_of (longer g s c) x)) (sym e) (omega (arith, ap (λ (xs : List Command). length xs) here, end-length (commands_of g s) c))
  more-commands k (inr n) = omega (arith, ap (λ (xs : List Command). length xs) (elsewhere k n))

  -- it isn't drained
  is-false : (b : Bool) → (b ≡ true → ⊥) → b ≡ false
  is-false true h = absurd (h refl)
  is-false false h = refl

  undrained : (w : World) → Within g w → drained (longer g s c) w ≡ false
  undrained w in_work = is-false (drained (longer g s c) w) (λ h.
      let all : all_decided (longer g s c).submitters w.lines ≡ true = (and_parts _ _ h).0 in
      let few : length (commands_of (longer g s c) s) ≤ length (lines_of w s) = no-line-left (longer g s c).submitters w.lines s all in
      absurd (omega (arith, few, in_work s, ap (λ (xs : List Command). length xs) here, end-length (commands_of g s) c)))

  next-same : (w : World) (caller : ℕ) (l : Line) → MayBuild g w caller l → next_command (longer g s c) w caller ≡ next_command g w caller
  next-same w caller l m =
      keeps-command caller (length (lines_of w caller)) (same-or-not caller s)
      (subst (λ (x : ℕ). length (lines_of w x) < length (commands_of g x)) (sym m.own) (omega (arith, m.next, m.there)))

  may-build : (w : World) (caller : ℕ) (l : Line) → MayBuild g w caller l → MayBuild (longer g s c) w caller l
  may-build w caller l m = record {
    own = m.own;
    next = m.next;
    there = omega (arith, m.there, more-commands l.submitter (same-or-not l.submitter s));
    none_due = m.none_due;
    unblocked = ap (λ (o : Option Command). position (blocks caller (waits_of o)) w.desk.tickets) (next-same w caller l m) ∙ m.unblocked;
  }

  enabled : (w : World) (caller : ℕ) (x : Step) → Within g w → Enabled g w caller x → Enabled (longer g s c) w caller x
  enabled w caller (step.Build l) i h = may-build w caller l h
  enabled w caller (step.Chip word) i h = (h.0, h.1, undrained w i)
  enabled w caller (step.Link t) i h = h
  enabled w caller (step.Queue t) i h = h
  enabled w caller step.Signal i h = h
  enabled w caller step.Fix i h = h
  enabled w caller (step.Sweep t) i h = h
  enabled w caller step.Restart i h = h
  enabled w caller step.TakeDone i h = h
  enabled w caller (step.Unlink t) i h = h
  enabled w caller (step.Free t) i h = h
  enabled w caller (step.Act k) i h = record { by = h.by; next = h.next; act = h.act; is = h.is; reached = h.reached; none_due = h.none_due; decided = h.decided }
  enabled w caller step.ResetBus i h = h
  enabled w caller (step.Sense t) i h = h

  same-command : (l : Line) → l.number < length (commands_of g l.submitter) → command_at (longer g s c) l ≡ command_at g l
  same-command l h = keeps-command l.submitter l.number (same-or-not l.submitter s) h

  does : (w : World) (caller : ℕ) (x : Step) (a : Reply) (new : World) → Enabled g w caller x → Does g w caller x a new → Does (longer g s c) w caller x a new
  does w caller (step.Build l) a new e h = subst (λ (o : Option Command). BuildsOf o w l a new) (sym (same-command l e.there)) h
  does w caller (step.Chip word) a new e h = h
  does w caller (step.Link t) a new e h = h
  does w caller (step.Queue t) a new e h = h
  does w caller step.Signal a new e h = h
  does w caller step.Fix a new e h = h
  does w caller (step.Sweep t) a new e h = h
  does w caller step.Restart a new e h = h
  does w caller step.TakeDone a new e h = h
  does w caller (step.Unlink t) a new e h = h
  does w caller (step.Free t) a new e h = h
  does w caller (step.Act k) a new e h = h
  does w caller step.ResetBus a new e h = h
  does w caller (step.Sense t) a new e h = h

  recorded : (w : World) (caller : ℕ) (x : Step) (a : Reply) → Enabled g w caller x → is_recorded g x a ≡ true → is_recorded (longer g s c) x a ≡ true
  recorded w caller (step.Build l) a e h = ap (λ (o : Option Command). decides_line o a) (same-command l e.there) ∙ h
  recorded w caller (step.Chip word) a e h = h
  recorded w caller (step.Link t) a e h = h
  recorded w caller (step.Queue t) a e h = h
  recorded w caller step.Signal a e h = h
  recorded w caller step.Fix a e h = h
  recorded w caller (step.Sweep t) a e h = h
  recorded w caller step.Restart a e h = h
  recorded w caller step.TakeDone a e h = h
  recorded w caller (step.Unlink t) a e h = h
  recorded w caller (step.Free t) a e h = h
  recorded w caller (step.Act k) a e h = h
  recorded w caller step.ResetBus a e h = h
  recorded w caller (step.Sense t) a e h = h

  runs : (w : World) (ms : List Moment) → Within g w → IsRun g w ms → IsRun (longer g s c) w ms
  runs w [] i r = tt
  runs w (m ∷ ms) i r =
      let x : Effect g m.entry.caller w m.reply m.after = effect g w m.entry.caller m.entry.step m.reply m.after r.0.enabled r.0.does in (
        record {
          enabled = enabled w m.entry.caller m.entry.step i r.0.enabled;
          does = does w m.entry.caller m.entry.step m.reply m.after r.0.enabled r.0.does;
          recorded = recorded w m.entry.caller m.entry.step m.reply r.0.enabled r.0.recorded;
        },
        runs m.after ms (stay-within g m.entry.caller w m.after x.lines i) r.1,
      )

-- ---- from the opening

within-at-opening : (g : BenchSetting) → Within g (opened g)
within-at-opening g s = subst (λ (ls : List Decided). length ls ≤ length (commands_of g s)) (sym (none-replicated (length g.submitters) s)) (omega arith)

pub opens_alike : (g : BenchSetting) (s : ℕ) (c : Command) → opened (longer g s c) ≡ opened g
opens_alike g s c =
    let with_count : ℕ → World = λ n. record (opened g) {
      desk = record (opened g).desk { submitters = n; due = replicate (n + 3) 0 };
      lines = replicate n [];
    } in
    ap with_count (length-set g.submitters s (commands_of g s ++ c ∷ []))

pub extends : (g : BenchSetting) (s : ℕ) (c : Command) (ms : List Moment) → s < length g.submitters → IsRun g (opened g) ms → IsRun (longer g s c) (opened (longer g s c)) ms
extends g s c ms there r = subst (λ (w : World). IsRun (longer g s c) w ms) (sym (opens_alike g s c)) (runs g s c there (opened g) ms (within-at-opening g) r)
