-- Lines that are settled, what blocks a submitter's next Build, and when all is done (own).
use Rattle.std.specs.Prelude.{ℕ, ◌==◌, ◌&&◌, ◌||◌, not, Bool, true, false, List, [], ◌∷◌, length, sum_by, count_by, position, slice_get, Option, Some, None}
use Rattle.std.specs.List.{list_any, list_all}
use Rattle.rig_types.specs.declared.commands.Command.{Command}
use Rattle.host_map.specs.declared.TheConstants.{FRONT_IDLE}
use Rattle.desk_law.specs.declared.stage.Stage.{Stage}
use Rattle.desk_law.specs.declared.stage.Stage.TheVariants as stage
use Rattle.desk_law.specs.declared.ticket.Ticket.{Ticket}
use Rattle.desk_law.specs.Desk.{DeskState, ticket, lives}
use Rattle.world_law.specs.declared.reply.Decided.{Decided}
use Rattle.world_law.specs.declared.reply.Decided.TheVariants as line
use Rattle.world_law.specs.declared.reply.Stop.{Stop}
use Rattle.world_law.specs.declared.reply.Stop.TheVariants.{Run}
use Rattle.world_law.specs.World.{BenchSetting, World, commands_of, lines_of, front}

-- a line is settled where it was refused or its ticket is freed
abbrev pub is_settled : DeskState → Decided → Bool
is_settled d line.Open = false
is_settled d (line.Accepted t) = not (lives (ticket d t))
is_settled d (line.Refused r) = true

abbrev pub settled : World → ℕ
settled w = sum_by (λ (ls : List Decided). count_by (is_settled w.desk) ls) w.lines

-- A ticket that its submitter has still to queue blocks its next Build; so does every live one, where the next command waits for them.
abbrev pub is_unqueued : Stage → Bool
is_unqueued stage.Built = true
is_unqueued stage.Linked = true
is_unqueued _ = false

abbrev pub blocks : (submitter : ℕ) → (waits : Bool) → Ticket → Bool
blocks s waits k = k.line.submitter == s && (is_unqueued k.stage || (waits && lives k))

abbrev pub next_command : BenchSetting → World → ℕ → Option Command
next_command g w s = slice_get (commands_of g s) (length (lines_of w s))

abbrev pub waits_of : Option Command → Bool
waits_of None = false
waits_of (Some c) = c.wait

-- the least ticket that blocks
abbrev pub blocking : BenchSetting → World → ℕ → Option ℕ
blocking g w s = position (blocks s (waits_of (next_command g w s))) w.desk.tickets

-- ---- the end

abbrev pub is_run : Stop → Bool
is_run Run = true
is_run _ = false

abbrev pub all_decided : List (List Command) → List (List Decided) → Bool
all_decided [] lss = true
all_decided (cs ∷ css) [] = length cs == 0 && all_decided css []
all_decided (cs ∷ css) (ls ∷ lss) = length cs == length ls && all_decided css lss

abbrev pub none_due : List ℕ → Bool
none_due due = list_all (λ (n : ℕ). n == 0) due

-- every line and act is decided, every ticket is freed, no signal is due, FRONT is idle and no stop waits
abbrev pub drained : BenchSetting → World → Bool
drained g w =
    all_decided g.submitters w.lines && (length g.acts == length w.acts && (not (list_any lives w.desk.tickets)
    && (none_due w.desk.due && (front w == FRONT_IDLE && is_run w.stop))))
