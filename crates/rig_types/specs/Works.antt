-- The ranges of a work's commands and acts, and that its acts name what is there. Source: own, as the work file is.
use Rattle.std.specs.Prelude.{◌≡◌, ℕ, ◌≤◌, ◌<◌, ◌++◌, ◌∷◌, [], List, length, map, sum, slice_index, slice_index_or, slice_set}
use Rattle.std.specs.List.{All}
use Rattle.rig_types.specs.declared.step.Line.{Line}
use Rattle.rig_types.specs.declared.commands.Command.{Command}
use Rattle.rig_types.specs.declared.acts.Act.{Act}
use Rattle.rig_types.specs.declared.acts.ActKind.TheVariants.{Abort, Device}

-- a command has a CDB of at most 16 bytes, and at most 64 segments of at most 128 KiB
pub record IsCommand (c : Command) : Type 0 where
  pub cdb : length c.request.cdb ≤ 16
  pub segments : length c.request.segments ≤ 64
  pub each_segment : All (λ n. n ≤ 131072) c.request.segments

-- how many commands each submitter has
abbrev pub counts_of : List (List Command) → List ℕ
counts_of ss = map (λ (s : List Command). length s) ss

-- an act names what is there, where the submitters have so many commands: an abort a line of the work (a
-- submitter that isn't there has none), a device act a target, and `after` at most all lines
pub record IsAct (counts : List ℕ) (a : Act) : Type 0 where
  pub abort : (l : Line) → a.kind ≡ Abort l → l.number < slice_index counts l.submitter
  pub device : (t : ℕ) → a.kind ≡ Device t → t ≤ 6
  pub after : a.after ≤ sum counts

-- what a work keeps: at most 16 submitters, 2^31 commands and 64 acts, each in range
pub record IsWork (ss : List (List Command)) (acts : List Act) : Type 0 where
  pub few_submitters : length ss ≤ 16
  pub few_commands : sum (counts_of ss) ≤ 2147483648
  pub commands : All (All IsCommand) ss
  pub few_acts : length acts ≤ 64
  pub each_act : All (IsAct (counts_of ss)) acts

-- a submitter has one command more
abbrev pub extended : List (List Command) → (submitter : ℕ) → Command → List (List Command)
extended ss s c = slice_set ss s (slice_index_or ss s [] ++ c ∷ [])
