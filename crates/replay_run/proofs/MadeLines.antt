-- The lines that are made so far, and what a line that is refused then says of the whole trace.
use Rattle.std.proofs.Common.{arith, ◌≡◌, ◌<◌, ◌≤◌, ◌+◌, ℕ, suc, true, false, List, [], ◌∷◌, ◌++◌, length, map, take, slice_get, get_or, Some, Result, Ok, Err, IfErr, IsErrAnd, refl, sym, ap, subst, ◌∙◌}
use Rattle.std.proofs.Math.Seq.{take-suc, take-length}
use Rattle.std.proofs.lemmas.List.{length-map, length-take-le, map-append}
use Rattle.std.proofs.lemmas.Option.{slice_get-get_or}
use Rattle.trace_text.specs.declared.types.TraceLine.{TraceLine}
use Rattle.trace_text.specs.Grammar.{line_of}
use Rattle.refusal_lines.specs.declared.fault.Fault.{Fault}
use Rattle.refusal_lines.specs.declared.fault.Fault.TheVariants as fault
use Rattle.refusal_lines.specs.declared.refusal.Refusal.{Refusal}
use Rattle.refusal_lines.specs.declared.refusal.Refusal.TheVariants as refusals
use Rattle.world_law.specs.World.{BenchSetting, World}
use Rattle.world_law.specs.Opening.{opened}
use Rattle.world_law.specs.Lines.{drained}
use Rattle.world_law.specs.Runs.{Moment, Steps, last}
use Rattle.world_law.specs.Answers.{WithinLimit}
use Rattle.bench_core.specs.Histories.{History, IsReplayed, opened_history}
use Rattle.replay_run.specs.Making.{MakesLine, LineFaults, RefusesLine, EndFaults, RefusesEnd}
use Rattle.replay_run.specs.Replays.{Makes, MakesFirst, Reaches, ReplayFaults, ReplayRefuses, ReplaysTo}

-- ---- the lines of the list

-- so many lines, from the first on, are those of the list
pub record HasMade (g : BenchSetting) (lines : List TraceLine) (count : ℕ) (h : History) : Type 0 where
  pub setting : h.setting ≡ g
  pub are : map line_of h.entries ≡ take count lines

pub begins : (g : BenchSetting) (lines : List TraceLine) (h : History) → h ≡ opened_history g → HasMade g lines 0 h
begins g lines h e = subst (λ (x : History). HasMade g lines 0 x) (sym e) (record { setting = refl; are = refl })

pub goes_on : (g : BenchSetting) (lines : List TraceLine) (i : ℕ) (x : TraceLine) (old new : History) → HasMade g lines i old → MakesLine x old new → i < length lines
    → x ≡ get_or lines i x → HasMade g lines (suc i) new
goes_on g lines i x old new m made within is = record {
  setting = made.setting ∙ m.setting;
  are =
      ap (map line_of) made.entries
      ∙ map-append line_of old.entries (made.entry ∷ [])
      ∙ ap (λ (ls : List TraceLine). ls ++ line_of made.entry ∷ []) m.are
      ∙ ap (λ (l : TraceLine). take i lines ++ l ∷ []) (made.is ∙ is)
      ∙ sym (take-suc lines i x within);
}

-- ---- the run of the list

-- the list is that of a run within the limit, of so many of the lines
record Stands (lines : List TraceLine) (count : ℕ) (h : History) : Type 0 where
  pub replayed : IsReplayed h.setting h.entries h.world
  pub within : length h.entries ≤ h.setting.step_limit
  pub few : count ≤ length lines
  pub are : map line_of h.entries ≡ take count lines

moment-count : (lines : List TraceLine) (i : ℕ) (h : History) (s : Stands lines i h) → length s.replayed.moments ≡ length h.entries
moment-count lines i h s = sym (length-map s.replayed.moments (λ (m : Moment). m.entry)) ∙ ap length s.replayed.are

entry-count : (lines : List TraceLine) (i : ℕ) (h : History) → Stands lines i h → length h.entries ≡ i
entry-count lines i h s = sym (length-map h.entries line_of) ∙ ap length s.are ∙ length-take-le i lines s.few

makes : (lines : List TraceLine) (i : ℕ) (h : History) (s : Stands lines i h) → Makes h.setting (take i lines) s.replayed.moments
makes lines i h s = record { run = s.replayed.run; are = ap (map line_of) s.replayed.are ∙ s.are }

makes-first : (lines : List TraceLine) (i : ℕ) (h : History) (s : Stands lines i h) → MakesFirst h.setting lines i s.replayed.moments
makes-first lines i h s = record {
  first = makes lines i h s;
  few = s.few;
  within = subst (λ (n : ℕ). n ≤ h.setting.step_limit) (sym (moment-count lines i h s)) s.within;
}

free-there : (lines : List TraceLine) (i : ℕ) (h : History) (s : Stands lines i h) → WithinLimit h.setting (length h.entries) h.world
    → WithinLimit h.setting (length s.replayed.moments) (last (opened h.setting) s.replayed.moments)
free-there lines i h s free full =
    subst (λ (w : World). drained h.setting w ≡ true) (sym s.replayed.world) (free (sym (moment-count lines i h s) ∙ full))

left-there : (lines : List TraceLine) (i : ℕ) (h : History) (s : Stands lines i h) → drained h.setting h.world ≡ false → drained h.setting (last (opened h.setting) s.replayed.moments) ≡ false
left-there lines i h s left = ap (drained h.setting) s.replayed.world ∙ left

reaches : (lines : List TraceLine) (i : ℕ) (x : TraceLine) (h : History) (n : ℕ) (s : Stands lines i h) → slice_get lines i ≡ Some x → n ≡ length h.entries + 1
    → WithinLimit h.setting (length h.entries) h.world → Reaches h.setting lines n s.replayed.moments x
reaches lines i x h n s there number free = record {
  count = i;
  number_is = number ∙ ap (λ (k : ℕ). k + 1) (entry-count lines i h s);
  before = makes-first lines i h s;
  free = free-there lines i h s free;
  there = there;
}

-- ---- a line that is refused

faults : (lines : List TraceLine) (i : ℕ) (x : TraceLine) (h : History) (f : Fault) → Stands lines i h → slice_get lines i ≡ Some x → LineFaults x h f
    → ReplayFaults h.setting lines f
faults lines i x h (fault.UnknownStep n) s there u =
    record { moments = s.replayed.moments; line = x; reached = reaches lines i x h n s there u.number_is u.free; unknown = u.unknown }
faults lines i x h (fault.TraceStep n) s there u =
    record {
      moments = s.replayed.moments;
      line = x;
      reached = reaches lines i x h n s there u.number_is u.free;
      known = u.known;
      none = λ m steps. u.none m (subst (λ (w : World). Steps h.setting w m) s.replayed.world steps);
    }
faults lines i x h (fault.TraceLine n) s there u = absurd u
faults lines i x h fault.NotDrained s there u = absurd u
faults lines i x h (fault.Rig key kind) s there u = absurd u
faults lines i x h (fault.Work key kind) s there u = absurd u
faults lines i x h (fault.Source n k) s there u = absurd u

limit-of : (lines : List TraceLine) (i : ℕ) (h : History) (s : Stands lines i h) → length h.entries ≡ h.setting.step_limit → drained h.setting h.world ≡ false
    → ReplayRefuses h.setting lines refusals.StepLimit
limit-of lines i h s full left = record {
  count = i;
  moments = s.replayed.moments;
  made = makes-first lines i h s;
  full = moment-count lines i h s ∙ full;
  left = left-there lines i h s left;
}

refuses : (lines : List TraceLine) (i : ℕ) (x : TraceLine) (h : History) (r : Refusal) → Stands lines i h → slice_get lines i ≡ Some x → RefusesLine x h r
    → ReplayRefuses h.setting lines r
refuses lines i x h (refusals.Bad f) s there u = faults lines i x h f s there u
refuses lines i x h refusals.StepLimit s there u = limit-of lines i h s u.0 u.1
refuses lines i x h refusals.OutOfMemory s there u = tt
refuses lines i x h refusals.Usage s there u = absurd u
refuses lines i x h refusals.Read s there u = absurd u
refuses lines i x h refusals.Write s there u = absurd u
refuses lines i x h refusals.TooLong s there u = absurd u

pub line_refuses : (g : BenchSetting) (lines : List TraceLine) (i : ℕ) (d : TraceLine) (h : History) (e : Refusal) (r : Result (Unit {0}) Refusal) → HasMade g lines i h
    → IsReplayed h.setting h.entries h.world → length h.entries ≤ h.setting.step_limit → i < length lines → RefusesLine (get_or lines i d) h e → IsErrAnd r (λ x. x ≡ e)
    → IfErr r (ReplayRefuses g lines)
line_refuses g lines i d h e (Ok x) m replayed within there u is = tt
line_refuses g lines i d h e (Err x) m replayed within there u is =
    let s : Stands lines i h = record { replayed = replayed; within = within; few = omega (arith, there); are = m.are } in
    let told : ReplayRefuses h.setting lines e = refuses lines i (get_or lines i d) h e s (slice_get-get_or lines i d there) u in
    subst (λ (k : BenchSetting). ReplayRefuses k lines x) m.setting (subst (λ (y : Refusal). ReplayRefuses h.setting lines y) (sym is) told)

-- ---- after the last line

pub all_made : (g : BenchSetting) (lines : List TraceLine) (i : ℕ) (h : History) → HasMade g lines i h → i ≡ length lines → map line_of h.entries ≡ lines
all_made g lines i h m e = m.are ∙ ap (λ (n : ℕ). take n lines) e ∙ take-length lines

pub replays : (g : BenchSetting) (lines : List TraceLine) (i : ℕ) (h : History) → HasMade g lines i h → i ≡ length lines → IsReplayed h.setting h.entries h.world
    → length h.entries ≤ h.setting.step_limit → drained h.setting h.world ≡ true → ReplaysTo g lines h.world
replays g lines i h m e replayed within is =
    let count : length replayed.moments ≡ length h.entries = sym (length-map replayed.moments (λ (x : Moment). x.entry)) ∙ ap length replayed.are in
    subst (λ (k : BenchSetting). ReplaysTo k lines h.world) m.setting (record {
      moments = replayed.moments;
      made = record { run = replayed.run; are = ap (map line_of) replayed.are ∙ all_made g lines i h m e };
      world = replayed.world;
      within = subst (λ (n : ℕ). n ≤ h.setting.step_limit) (sym count) within;
      drains = is;
    })

stays : (lines : List TraceLine) (i : ℕ) (h : History) (f : Fault) → Stands lines i h → i ≡ length lines → EndFaults h f → ReplayFaults h.setting lines f
stays lines i h fault.NotDrained s e u =
    let all : take i lines ≡ lines = ap (λ (n : ℕ). take n lines) e ∙ take-length lines in
    let count : length s.replayed.moments ≡ length h.entries = moment-count lines i h s in
    record {
      moments = s.replayed.moments;
      made = subst (λ (ls : List TraceLine). Makes h.setting ls s.replayed.moments) all (makes lines i h s);
      free = omega (arith, s.within, u.0, count);
      left = left-there lines i h s u.1;
    }
stays lines i h (fault.UnknownStep n) s e u = absurd u
stays lines i h (fault.TraceStep n) s e u = absurd u
stays lines i h (fault.TraceLine n) s e u = absurd u
stays lines i h (fault.Rig key kind) s e u = absurd u
stays lines i h (fault.Work key kind) s e u = absurd u
stays lines i h (fault.Source n k) s e u = absurd u

end-refuses : (lines : List TraceLine) (i : ℕ) (h : History) (r : Refusal) → Stands lines i h → i ≡ length lines → RefusesEnd h r → ReplayRefuses h.setting lines r
end-refuses lines i h (refusals.Bad f) s e u = stays lines i h f s e u
end-refuses lines i h refusals.StepLimit s e u = limit-of lines i h s u.0 u.1
end-refuses lines i h refusals.OutOfMemory s e u = absurd u
end-refuses lines i h refusals.Usage s e u = absurd u
end-refuses lines i h refusals.Read s e u = absurd u
end-refuses lines i h refusals.Write s e u = absurd u
end-refuses lines i h refusals.TooLong s e u = absurd u

pub end_refused : (g : BenchSetting) (lines : List TraceLine) (i : ℕ) (h : History) (r : Result (Unit {0}) Refusal) → HasMade g lines i h → i ≡ length lines
    → IsReplayed h.setting h.entries h.world → length h.entries ≤ h.setting.step_limit → IfErr r (RefusesEnd h) → IfErr r (ReplayRefuses g lines)
end_refused g lines i h (Ok x) m e replayed within u = tt
end_refused g lines i h (Err r) m e replayed within u =
    let s : Stands lines i h = record { replayed = replayed; within = within; few = omega (arith, e); are = m.are } in
    subst (λ (k : BenchSetting). ReplayRefuses k lines r) m.setting (end-refuses lines i h r s e u)
