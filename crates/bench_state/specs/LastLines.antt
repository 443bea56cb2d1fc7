-- The last line of a submitter that is decided, and its ticket (own).
use Rattle.std.specs.Prelude.{◌≡◌, ℕ, ◌-◌, length, Option, Some, None}
use Rattle.rig_types.specs.declared.step.Line.{Line}
use Rattle.desk_law.specs.Desk.{ticket}
use Rattle.world_law.specs.declared.reply.Decided.{Decided}
use Rattle.world_law.specs.declared.reply.Decided.TheVariants as line
use Rattle.world_law.specs.World.{World, lines_of, decided}
use Rattle.world_law.specs.Laws.{IsHeldBy}

-- the first line where none is decided
abbrev pub last_line : World → (submitter : ℕ) → Line
last_line w s = record { submitter = s; number = length (lines_of w s) - 1 }

-- the ticket of a line that was accepted
abbrev pub accepted_as : Decided → Option ℕ
accepted_as line.Open = None
accepted_as (line.Accepted t) = Some t
accepted_as (line.Refused r) = None

abbrev pub last_ticket : World → (submitter : ℕ) → Option ℕ
last_ticket w s = accepted_as (decided w (last_line w s))

-- of a submitter's tickets only that of its last line is ever one that it has still to enter or to queue
abbrev pub OnlyLastIsHeld : World → Type 0
OnlyLastIsHeld w = (s t : ℕ) → IsHeldBy s (ticket w.desk t) → last_ticket w s ≡ Some t
