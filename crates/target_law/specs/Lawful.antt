-- The lawful moves of a target that is to choose, and which of them a word names. Source: own.
use Rattle.std.specs.Prelude.{◌≡◌, ℕ, Option, Some, None}
use Rattle.unit_law.specs.Log.{tally}
use Rattle.target_law.specs.declared.moves.Move.{Move}
use Rattle.target_law.specs.declared.moves.Move.TheVariants.{Rogue}
use Rattle.target_law.specs.declared.task_phase.TaskPhase.TheVariants.{ToChoose}
use Rattle.target_law.specs.declared.rogue_phase.RoguePhase.TheVariants as rogue_shows
use Rattle.target_law.specs.Session.{Can}
use Rattle.target_law.specs.Choice.{Names}
use Rattle.target_law.specs.Bytes.{Connection}
use Rattle.target_law.specs.Target.{LogicalUnit, ConnectionState, BusFree, Selected, TakingCommand, TaskConnected, RogueConnected, Target, unit_at, session}

-- there is a unit, and this holds of it
abbrev pub IsThere : Option LogicalUnit → (LogicalUnit → Type 0) → Type 0
IsThere (Some u) P = P u
IsThere None P = ⊥

-- how often the unit refused the ticket so far
abbrev pub refused_so_far : LogicalUnit → ℕ → ℕ
refused_so_far u ticket = (tally ticket u.log).refusals

abbrev pub CanOf : LogicalUnit → Connection → Move → Type 0
CanOf u c m = Can m (session u c) u.rig.refusals (refused_so_far u c.task.ticket)

abbrev pub NamesOf : LogicalUnit → Connection → ℕ → Move → Type 0
NamesOf u c word m = Names (session u c) u.rig.refusals (refused_so_far u c.task.ticket) word m

-- a target that is to choose may make this move; where its units break the rules, any move by a word
abbrev pub MayBy : ConnectionState → Target → Move → Type 0
MayBy (TaskConnected c) t m = (c.shows ≡ ToChoose) × IsThere (unit_at t.units c.lun) (λ u. CanOf u c m)
MayBy (RogueConnected s n) t m = (s ≡ rogue_shows.ToChoose) × ((word : ℕ) × (m ≡ Rogue word))
MayBy _ t m = ⊥

abbrev pub May : Target → Move → Type 0
May t m = MayBy t.link t m

-- the word names this move of a target that is to choose
abbrev pub NamedBy : ConnectionState → Target → ℕ → Move → Type 0
NamedBy (TaskConnected c) t word m = IsThere (unit_at t.units c.lun) (λ u. NamesOf u c word m)
NamedBy (RogueConnected s n) t word m = m ≡ Rogue word
NamedBy _ t word m = ⊥

abbrev pub Named : Target → ℕ → Move → Type 0
Named t word m = NamedBy t.link t word m
