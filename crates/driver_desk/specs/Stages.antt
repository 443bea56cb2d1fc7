-- The stages in which a ticket waits for the reaper, and the least ticket of each (own).
use Rattle.std.specs.Prelude.{ℕ, Bool, true, false, position, Option}
use Rattle.desk_law.specs.declared.stage.Stage.{Stage}
use Rattle.desk_law.specs.declared.stage.Stage.TheVariants.{Again, Check, Ended, Unlinked}
use Rattle.desk_law.specs.declared.ticket.Ticket.{Ticket}
use Rattle.desk_law.specs.Desk.{DeskState}

abbrev pub is_again : Stage → Bool
is_again Again = true
is_again _ = false

abbrev pub is_check : Stage → Bool
is_check Check = true
is_check _ = false

abbrev pub is_ended : Stage → Bool
is_ended (Ended o) = true
is_ended _ = false

abbrev pub is_unlinked : Stage → Bool
is_unlinked Unlinked = true
is_unlinked _ = false

-- the least ticket in such a stage
abbrev pub least : (Stage → Bool) → DeskState → Option ℕ
least is d = position (λ (k : Ticket). is k.stage) d.tickets

abbrev pub least_again : DeskState → Option ℕ
least_again d = least is_again d

abbrev pub least_check : DeskState → Option ℕ
least_check d = least is_check d

abbrev pub least_ended : DeskState → Option ℕ
least_ended d = least is_ended d

abbrev pub least_unlinked : DeskState → Option ℕ
least_unlinked d = least is_unlinked d
