-- The serial run over histories: what a turn and a round of callers make of the list and the world, and which history is that of a seed (own).
use Rattle.std.specs.Prelude.{◌≡◌, ℕ, List, [], ◌∷◌, ◌++◌, length, Option, Some, None}
use Rattle.rig_types.specs.declared.step.Step.{Step}
use Rattle.rig_types.specs.declared.step.Step.TheVariants as step
use Rattle.world_law.specs.World.{BenchSetting, World, lines_of}
use Rattle.world_law.specs.Opening.{opened}
use Rattle.world_law.specs.Runs.{Moment, last, entries}
use Rattle.run_law.specs.Serial.{step_of, tries_of, is_over, TriesUnless, Round, IsSerial}
use Rattle.bench_state.specs.LastLines.{last_ticket}
use Rattle.bench_core.specs.Histories.{History}

-- the list and the world of the serial run of a rig, a work and a seed
pub record IsSerialHistory (g : BenchSetting) (seed : ℕ) (h : History) : Type 0 where
  pub setting : h.setting ≡ g
  pub moments : List Moment
  pub serial : IsSerial g seed (opened g) moments
  pub entries : entries moments ≡ h.entries
  pub world : last (opened g) moments ≡ h.world

-- a caller has tried one step, unless the run was over
pub record IsTurn (caller word : ℕ) (old new : History) : Type 0 where
  pub setting : new.setting ≡ old.setting
  pub moments : List Moment
  pub tries : TriesUnless (is_over old.setting (length old.entries) old.world) old.setting old.world caller (tries_of old.world caller word) moments new.world
  pub entries : new.entries ≡ old.entries ++ entries moments

-- each caller has tried one step in its turn
pub record IsRound (word : ℕ) (old new : History) : Type 0 where
  pub setting : new.setting ≡ old.setting
  pub moments : List Moment
  pub round : Round old.setting (length old.entries) word old.world moments new.world
  pub entries : new.entries ≡ old.entries ++ entries moments

-- what a submitter tries, where of its tickets only that of its last line may be entered or queued
abbrev pub tries_last : World → (submitter : ℕ) → List Step
tries_last w s =
    step.Signal ∷ step_of step.Link (last_ticket w s) ++ (step_of step.Queue (last_ticket w s)
    ++ step.Build (record { submitter = s; number = length (lines_of w s) }) ∷ [])

-- the steps of those tries that have one, in their order
abbrev pub tried : List (Option Step) → List Step
tried [] = []
tried (None ∷ tries) = tried tries
tried (Some s ∷ tries) = s ∷ tried tries
