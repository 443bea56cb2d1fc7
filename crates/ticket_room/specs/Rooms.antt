-- The room of a unit's log, for all that its live tickets may still log. Source: own.
use Rattle.std.specs.Prelude.{◌≡◌, ℕ, ◌+◌, ◌≤◌, ◌==◌, ◌&&◌, Bool, true, List, length, Some}
use Rattle.unit_law.specs.declared.entry.LogEntry.{LogEntry}
use Rattle.unit_law.specs.Log.{tally}
use Rattle.target_law.specs.Target.{LogicalUnit, Target, unit_at}
use Rattle.logs_have_room.specs.Room.{left, total}
use Rattle.ticket_fate.specs.Tickets.{Plan, unit_of, Unbuilt, is_live, Ticket}
use Rattle.ticket_fate.specs.Moves.{Moves}
use Rattle.ticket_fate.specs.Histories.{resets_by, count_if}

-- a ticket lives, and is one of this unit
abbrev pub lives_at : Plan → ℕ → (ℕ → Ticket) → ℕ → Bool
lives_at g n ks x = is_live (ks x).life && (unit_of g x == n)

-- how many of the tickets below `built` live at a unit
abbrev pub live_count : Plan → ℕ → (ℕ → Ticket) → (built : ℕ) → ℕ
live_count g n ks built = total (λ x. count_if (lives_at g n ks x) 1) built

-- only tickets below this number were built
abbrev pub AreBelow : ℕ → (ℕ → Ticket) → Type 0
AreBelow built ks = (x : ℕ) → built ≤ x → (ks x).life ≡ Unbuilt

-- the room of unit n's log suffices for its entries, for all that its live tickets may still add, and for so many more
abbrev pub HasSpare : Plan → (n built : ℕ) → (ℕ → Ticket) → List LogEntry → (room spare : ℕ) → Type 0
HasSpare g n built ks log room spare = length log + total (λ x. left (g.units n).refusals (lives_at g n ks x) (tally x log)) built + spare ≤ room

-- a move logs one Clear in each unit of a target that it resets
abbrev pub clears_in : {g : Plan} {count : ℕ} {ks : ℕ → Ticket} {ts : ℕ → Target} {ns : ℕ → Ticket} {us : ℕ → Target} → (n : ℕ) → Moves g count ks ts ns us → ℕ
clears_in {g = g} n m = count_if (resets_by (λ b. true) (g.units n).target m) 1

-- unit n's log in these targets
abbrev pub HasLog : Plan → ℕ → (ℕ → Target) → LogicalUnit → Type 0
HasLog g n ts u = unit_at (ts (g.units n).target).units (g.units n).lun ≡ Some u
