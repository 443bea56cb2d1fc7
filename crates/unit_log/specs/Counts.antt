-- The counts of a log: for each ticket with a Refuse or an End how many refusals it has, and whether it ended.
use Rattle.std.specs.Prelude.{◌≡◌, ℕ, ◌+◌, ◌==◌, nat_lt, ◌<◌, ◌≤◌, true, false, List, [], ◌∷◌, length, if◌then◌else◌, slice_index_or}
use Rattle.unit_law.specs.declared.entry.LogEntry.{LogEntry}
use Rattle.unit_law.specs.declared.entry.LogEntry.TheVariants.{Refuse, Look, End, Drop, Clear, Sense}
use Rattle.unit_law.specs.Log.{tally}
use Rattle.unit_log.specs.declared.ticket_counts.TicketCounts.{TicketCounts}

-- nothing is said of the ticket
abbrev pub empty_counts : ℕ → TicketCounts
empty_counts t = record { ticket = t; refusals = 0; ended = false }

-- what a log says of a ticket
abbrev pub counts_of : List LogEntry → ℕ → TicketCounts
counts_of log t = record { ticket = t; refusals = (tally t log).refusals; ended = nat_lt 0 (tally t log).ends }

-- the ticket's first counts in a list, or empty ones
abbrev pub counts_in : List TicketCounts → ℕ → TicketCounts
counts_in [] t = empty_counts t
counts_in (n ∷ counts) t = if n.ticket == t then n else counts_in counts t

-- the counts after one more entry
abbrev pub after : TicketCounts → LogEntry → TicketCounts
after n (Refuse x s) = if x == n.ticket then record { ticket = n.ticket; refusals = n.refusals + 1; ended = n.ended } else n
after n (End x) = if x == n.ticket then record { ticket = n.ticket; refusals = n.refusals; ended = true } else n
after n (Look x) = n
after n (Drop x high) = n
after n Clear = n
after n (Sense x) = n

-- the ticket of the counts at place i
abbrev pub ticket_at : List TicketCounts → ℕ → ℕ
ticket_at counts i = (slice_index_or counts i (empty_counts 0)).ticket

-- the tickets rise, so none comes twice
abbrev pub IsRising : List TicketCounts → Type 0
IsRising counts = (i j : ℕ) → i < j → j < length counts → ticket_at counts i < ticket_at counts j

-- the counts at place i are the ticket's
pub record IsAt (counts : List TicketCounts) (t i : ℕ) : Type 0 where
  pub in_range : i < length counts
  pub has_ticket : ticket_at counts i ≡ t

-- the ticket's counts would go to place i: lower tickets before it, and higher ones from it on
pub record IsGapFor (counts : List TicketCounts) (t i : ℕ) : Type 0 where
  pub in_range : i ≤ length counts
  pub lower_before : (j : ℕ) → j < i → ticket_at counts j < t
  pub higher_after : (j : ℕ) → i ≤ j → j < length counts → t < ticket_at counts j

-- what a log keeps: the counts are those of its entries, and there is room for all that was reserved
pub record IsKept (entries : List LogEntry) (counts : List TicketCounts) (room entries_capacity counts_capacity : ℕ) : Type 0 where
  pub rising : IsRising counts
  pub agrees : (t : ℕ) → counts_in counts t ≡ counts_of entries t
  pub few : length counts ≤ length entries
  pub within : length entries ≤ room
  pub entries_fit : room ≤ entries_capacity
  pub counts_fit : room ≤ counts_capacity
