-- A command has one answer, but for want of memory: a setting and a seed have one serial run, and a trace one replay.
use Rattle.std.proofs.Common.{◌≡◌, ◌≢◌, ℕ, true, false, List, map, Result, Ok, Err, refl, sym, ap, subst, ◌∙◌}
use Rattle.trace_text.specs.declared.types.TraceLine.{TraceLine}
use Rattle.trace_text.specs.Grammar.{line_of, trace_of}
use Rattle.refusal_lines.specs.declared.refusal.Refusal.{Refusal}
use Rattle.refusal_lines.specs.declared.refusal.Refusal.TheVariants as refusals
use Rattle.world_law.specs.World.{BenchSetting, World}
use Rattle.world_law.specs.Lines.{drained}
use Rattle.world_law.specs.Opening.{opened}
use Rattle.world_law.specs.Runs.{Moment, last, entries}
use Rattle.run_law.specs.Serial.{IsSerial}
use Rattle.run_law.proofs.SerialRuns.{serial_once}
use Rattle.bench_state.specs.States.{setting_of}
use Rattle.report_text.specs.Text.{report_text}
use Rattle.replay_run.specs.Laws.{OneReplay}
use Rattle.bench_jobs.specs.Jobs.{IsDrainedRun, IsFullRun, SerialFills, RunRefuses, RunsAs, Texts, HasTexts, load_text, IsLoad, LoadFills, ReplayRuns}
use Rattle.bench_jobs.specs.Laws.{OneAnswer, OneResult}
use Rattle.bench_jobs.proofs.SameWorks.{same_setting}

-- ---- one result and no refusal, or one refusal

abbrev made : {A : Type 0} → A → Result A Refusal
made x = Ok x

abbrev refused : (A : Type 0) → Refusal → Result A Refusal
refused A r = Err r

refusal-is : {A : Type 0} (r s : Refusal) → refused A r ≡ refused A s → r ≡ s
refusal-is r s e = cc

at-limit : (Fills : Type 0) (r : Refusal) → RunRefuses Fills r → r ≢ refusals.OutOfMemory → (r ≡ refusals.StepLimit) × Fills
at-limit Fills refusals.Usage h n = absurd h
at-limit Fills refusals.Read h n = absurd h
at-limit Fills refusals.Write h n = absurd h
at-limit Fills refusals.OutOfMemory h n = absurd (n refl)
at-limit Fills (refusals.Bad f) h n = absurd h
at-limit Fills refusals.StepLimit h n = (refl, h)
at-limit Fills refusals.TooLong h n = absurd h

no-want : {A : Type 0} (r : Refusal) → refused A r ≢ refused A refusals.OutOfMemory → r ≢ refusals.OutOfMemory
no-want {A} r n e = n (ap (refused A) e)

one-answer : {A : Type 0} (Has : A → Type 0) (Fills : Type 0) → ((a b : A) → Has a → Has b → a ≡ b) → ((a : A) → Has a → Fills → ⊥) → OneAnswer (RunsAs Has Fills)
one-answer {A} Has Fills once either (Ok a) (Ok b) h k m n = ap (λ (x : A). made x) (once a b h k)
one-answer {A} Has Fills once either (Ok a) (Err s) h k m n = absurd (either a h (at-limit Fills s k (no-want s n)).1)
one-answer {A} Has Fills once either (Err r) (Ok b) h k m n = absurd (either b k (at-limit Fills r h (no-want r m)).1)
one-answer {A} Has Fills once either (Err r) (Err s) h k m n =
    ap (refused A) ((at-limit Fills r h (no-want r m)).0 ∙ sym (at-limit Fills s k (no-want s n)).0)

-- ---- one serial run

same-run : (g other : BenchSetting) (seed : ℕ) (ms ns : List Moment) → g ≡ other → IsSerial g seed (opened g) ms → IsSerial other seed (opened other) ns → ms ≡ ns
same-run g other seed ms ns e s t = serial_once g seed (opened g) ms ns s (subst (λ (x : BenchSetting). IsSerial x seed (opened x) ns) (sym e) t)

abbrev end_of : BenchSetting → List Moment → World
end_of g ms = last (opened g) ms

same-end : (g other : BenchSetting) (ms ns : List Moment) → g ≡ other → ms ≡ ns → end_of g ms ≡ end_of other ns
same-end g other ms ns e f = ap (λ (x : BenchSetting). end_of x ms) e ∙ ap (λ (xs : List Moment). end_of other xs) f

not-both : (g other : BenchSetting) (seed : ℕ) (ms ns : List Moment) → g ≡ other → IsDrainedRun g seed ms → IsFullRun other seed ns → ⊥
not-both g other seed ms ns e d f =
    let same : ms ≡ ns = same-run g other seed ms ns e d.serial f.serial in
    let alike : drained g (end_of g ms) ≡ drained other (end_of other ns) =
    ap (λ (x : BenchSetting). drained x (end_of g ms)) e ∙ ap (λ (w : World). drained other w) (same-end g other ms ns e same) in
    let clash : true ≡ false = sym d.drained ∙ alike ∙ f.left in
    absurd cc

-- ---- step

same-texts : (a b : Texts) → a.trace ≡ b.trace → a.report ≡ b.report → a ≡ b
same-texts a b e f =
    let with_trace : List ℕ → Texts = λ t. record { trace = t; report = a.report } in
    let with_report : List ℕ → Texts = λ r. record { trace = b.trace; report = r } in
    ap with_trace e ∙ ap with_report f

texts-once : (g : BenchSetting) (seed : ℕ) (a b : Texts) → HasTexts g seed a → HasTexts g seed b → a ≡ b
texts-once g seed a b h k =
    let same : h.moments ≡ k.moments = same-run g g seed h.moments k.moments refl h.run.serial k.run.serial in
    same-texts a b
    (h.trace.text ∙ ap (λ (ms : List Moment). trace_of g.version (map line_of (entries ms))) same ∙ sym k.trace.text)
    (h.report ∙ ap (λ (ms : List Moment). report_text (end_of g ms)) same ∙ sym k.report)

texts-or-full : (g : BenchSetting) (seed : ℕ) (a : Texts) → HasTexts g seed a → SerialFills g seed → ⊥
texts-or-full g seed a h (ns, f) = not-both g g seed h.moments ns refl h.run f

-- ---- load

load-once : (n seed : ℕ) (a b : List ℕ) → IsLoad n seed a → IsLoad n seed b → a ≡ b
load-once n seed a b h k =
    let e : setting_of h.rig h.work ≡ setting_of k.rig k.work = same_setting n seed h.rig k.rig h.work k.work h.is_rig k.is_rig h.is_work k.is_work in
    let same : h.moments ≡ k.moments = same-run (setting_of h.rig h.work) (setting_of k.rig k.work) seed h.moments k.moments e h.run.serial k.run.serial in
    let end : end_of (setting_of h.rig h.work) h.moments ≡ end_of (setting_of k.rig k.work) k.moments =
    same-end (setting_of h.rig h.work) (setting_of k.rig k.work) h.moments k.moments e same in
    h.is_text
    ∙ ap (λ (w : World). load_text n seed h.moments w) end
    ∙ ap (λ (ms : List Moment). load_text n seed ms (end_of (setting_of k.rig k.work) k.moments)) same
    ∙ sym k.is_text

load-or-full : (n seed : ℕ) (a : List ℕ) → IsLoad n seed a → LoadFills n seed → ⊥
load-or-full n seed a h k =
    let e : setting_of h.rig h.work ≡ setting_of k.rig k.work = same_setting n seed h.rig k.rig h.work k.work h.is_rig k.is_rig h.is_work k.is_work in
    not-both (setting_of h.rig h.work) (setting_of k.rig k.work) seed h.moments k.fills.0 e h.run k.fills.1

-- ---- replay

world-is : (v w : World) → made v ≡ made w → v ≡ w
world-is v w e = cc

not-made : (w : World) (r : Refusal) → made w ≡ refused World r → ⊥
not-made w r e = absurd cc

no-want-of-world : (r : Refusal) → refused (List ℕ) r ≢ refused (List ℕ) refusals.OutOfMemory → refused World r ≢ refused World refusals.OutOfMemory
no-want-of-world r n e = n (ap (refused (List ℕ)) (refusal-is r refusals.OutOfMemory e))

replay-once : OneReplay → (g : BenchSetting) (lines : List TraceLine) → OneAnswer (ReplayRuns g lines)
replay-once one g lines (Ok a) (Ok b) h k m n =
    let same : h.world ≡ k.world = world-is h.world k.world (one g lines (Ok h.world) (Ok k.world) h.replays k.replays (not-made h.world refusals.OutOfMemory) (not-made k.world refusals.OutOfMemory)) in
    ap (λ (text : List ℕ). made text) (h.is_text ∙ ap (λ (w : World). report_text w) same ∙ sym k.is_text)
replay-once one g lines (Ok a) (Err s) h k m n =
    absurd (not-made h.world s (one g lines (Ok h.world) (Err s) h.replays k (not-made h.world refusals.OutOfMemory) (no-want-of-world s n)))
replay-once one g lines (Err r) (Ok b) h k m n =
    absurd (not-made k.world r (sym (one g lines (Err r) (Ok k.world) h k.replays (no-want-of-world r m) (not-made k.world refusals.OutOfMemory))))
replay-once one g lines (Err r) (Err s) h k m n =
    ap (refused (List ℕ)) (refusal-is r s (one g lines (Err r) (Err s) h k (no-want-of-world r m) (no-want-of-world s n)))

-- ---- the law

pub one_result : OneReplay → OneResult
one_result one = record {
  step = λ g seed. one-answer (HasTexts g seed) (SerialFills g seed) (texts-once g seed) (texts-or-full g seed);
  load = λ n seed. one-answer (IsLoad n seed) (LoadFills n seed) (load-once n seed) (load-or-full n seed);
  replay = λ g lines. replay-once one g lines;
}
