-- Lines that are settled, counted: they were refused, or their ticket is freed (own).
use Rattle.std.specs.Prelude.{◌≡◌, ℕ, ◌+◌, ◌^◌, ◌<◌, Bool, true, false, not, List, sum_by, count_by}
use Rattle.desk_law.specs.declared.ticket.Ticket.{Ticket}
use Rattle.desk_law.specs.Desk.{lives}
use Rattle.world_law.specs.declared.reply.Decided.{Decided}
use Rattle.world_law.specs.declared.reply.Decided.TheVariants as line
use Rattle.world_law.specs.World.{World}
use Rattle.world_law.specs.Lines.{settled}

abbrev pub is_refused : Decided → Bool
is_refused (line.Refused r) = true
is_refused _ = false

abbrev pub refused_count : List (List Decided) → ℕ
refused_count lss = sum_by (λ (ls : List Decided). count_by is_refused ls) lss

abbrev pub is_over : Ticket → Bool
is_over k = not (lives k)

abbrev pub freed_count : List Ticket → ℕ
freed_count ks = count_by is_over ks

-- each ticket has one line, so that the lines that are settled are those that were refused and as many as tickets are freed
pub record IsCounted (w : World) : Type 0 where
  pub are : settled w ≡ refused_count w.lines + freed_count w.desk.tickets
  pub few : settled w < 2 ^ 32
