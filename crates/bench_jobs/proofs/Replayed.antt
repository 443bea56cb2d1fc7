-- A trace that is replayed, and that the trace of a serial run is replayed to the report text of the run.
use Rattle.std.proofs.Common.{◌≡◌, ℕ, List, map, subst}
use Rattle.trace_text.specs.declared.types.TraceLine.{TraceLine}
use Rattle.trace_text.specs.Grammar.{line_of}
use Rattle.trace_text.proofs.OneReading as text
use Rattle.refusal_lines.specs.declared.refusal.Refusal.{Refusal}
use Rattle.world_law.specs.World.{BenchSetting}
use Rattle.world_law.specs.Opening.{opened}
use Rattle.world_law.specs.Runs.{last, entries}
use Rattle.bench_core.specs.Histories.{History, opened_history}
use Rattle.report_text.specs.Text.{report_text}
use Rattle.replay_run.specs.Replays.{ReplaysTo, ReplayRefuses}
use Rattle.replay_run.specs.Laws.{RunsReplay}
use Rattle.bench_jobs.specs.Jobs.{IsReplay}
use Rattle.bench_jobs.specs.Laws.{StepReplays}

pub is_replay : (g : BenchSetting) (lines : List TraceLine) (old new : History) (text : List ℕ) → old ≡ opened_history g → ReplaysTo old.setting lines new.world
    → text ≡ report_text new.world → IsReplay g lines text
is_replay g lines old new text e r t = record {
  world = new.world;
  replays = subst (λ (h : History). ReplaysTo h.setting lines new.world) e r;
  is_text = t;
}

pub replay_refuses : (g : BenchSetting) (lines : List TraceLine) (old : History) (refusal : Refusal) → old ≡ opened_history g → ReplayRefuses old.setting lines refusal
    → ReplayRefuses g lines refusal
replay_refuses g lines old refusal e r = subst (λ (h : History). ReplayRefuses h.setting lines refusal) e r

pub step_replays : RunsReplay → StepReplays
step_replays replay g seed texts lines h t =
    let same : map line_of (entries h.moments) ≡ lines = (text.one_reading g.version texts.trace).lines (map line_of (entries h.moments)) lines h.trace t in
    record {
      world = last (opened g) h.moments;
      replays = subst (λ (ls : List TraceLine). ReplaysTo g ls (last (opened g) h.moments)) same (replay g h.moments h.run.lawful h.run.within h.run.drained);
      is_text = h.report;
    }
