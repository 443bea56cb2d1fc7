-- The history of a ticket in a list of moves, by differences of what its unit's log says. Source: own.
use Rattle.std.specs.Prelude.{ℕ, ◌+◌, ◌-◌, ◌==◌, ◌&&◌, ◌||◌, nat_lt, not, Bool, true, false}
use Rattle.unit_law.specs.Log.{Tally, tally}
use Rattle.unit_law.specs.Report.{TicketHistory}
use Rattle.target_law.specs.Target.{Target}
use Rattle.logs_have_room.specs.Room.{entries}
use Rattle.ticket_fate.specs.Tickets.{Plan, Life, Unbuilt, Built, Linked, Freed, is_live, Ticket}
use Rattle.ticket_fate.specs.Linked.{ResetCause, ByBus, ByDevice, log_of}
use Rattle.ticket_fate.specs.Moves.{target_of, Moves, marks, resets_idle, resets_work, resets_asking}

-- not yet queued; queued at least once, and not yet reported; reported
pub data Progress : Type 0 where
  NotQueued : Progress
  UnderWay : Progress
  Reported : Progress

abbrev pub progress_of : Life → Progress
progress_of Unbuilt = NotQueued
progress_of Built = NotQueued
progress_of Linked = NotQueued
progress_of (Freed o) = Reported
progress_of _ = UnderWay

abbrev pub is_under_way : Progress → Bool
is_under_way NotQueued = false
is_under_way UnderWay = true
is_under_way Reported = false

-- the move marks the ticket; it resets the target, with the whole bus or by BUS DEVICE RESET
abbrev pub marks_in : {g : Plan} {count : ℕ} {ks : ℕ → Ticket} {ts : ℕ → Target} {ns : ℕ → Ticket} {us : ℕ → Target} → ℕ → Moves g count ks ts ns us → Bool
marks_in x (marks y can) = x == y
marks_in x _ = false

abbrev pub is_bus : ResetCause → Bool
is_bus ByBus = true
is_bus ByDevice = false

abbrev pub is_device : ResetCause → Bool
is_device ByBus = false
is_device ByDevice = true

abbrev pub resets_by : {g : Plan} {count : ℕ} {ks : ℕ → Ticket} {ts : ℕ → Target} {ns : ℕ → Ticket} {us : ℕ → Target} → (ResetCause → Bool) → ℕ → Moves g count ks ts ns us → Bool
resets_by by i (resets_idle j b idle can) = i == j && by b
resets_by by i (resets_work j b c u w plain there can) = i == j && by b
resets_by by i (resets_asking j c u w asks there) = i == j && by ByBus
resets_by by i _ = false

abbrev pub count_if : Bool → ℕ → ℕ
count_if true n = n
count_if false n = 0

-- The history of ticket k, one move on: whether an abort marked it; the Clears of its unit's log while it is under way; whether the bus was reset
-- between its End and its Free; its entries outside its life; and the Clears that came with no reset of its target.
abbrev pub noted_by : (k : Ticket) (before after : Tally) (marked bus device : Bool) → TicketHistory → TicketHistory
noted_by k before after marked bus device h = record {
  marked = h.marked || marked;
  clears = h.clears + count_if (is_under_way (progress_of k.life)) (after.clears - before.clears);
  bus_reset = h.bus_reset || (bus && (nat_lt 0 before.ends && is_live k.life));
  outside = h.outside + count_if (not (is_live k.life)) (entries after - entries before);
  uncaused_clears = h.uncaused_clears + count_if (not (bus || device)) (after.clears - before.clears);
}

abbrev pub tally_in : Plan → (ℕ → Target) → ℕ → Tally
tally_in g ts x = tally x (log_of g (ts (target_of g x)) x)

abbrev pub noted : {g : Plan} {count : ℕ} {ks : ℕ → Ticket} {ts : ℕ → Target} {ns : ℕ → Ticket} {us : ℕ → Target} → ℕ → Moves g count ks ts ns us → TicketHistory → TicketHistory
noted {g = g} {ks = ks} {ts = ts} {us = us} x m h = noted_by (ks x) (tally_in g ts x) (tally_in g us x) (marks_in x m) (resets_by is_bus (target_of g x) m) (resets_by is_device (target_of g x) m) h

abbrev pub no_history : TicketHistory
no_history = record { marked = false; clears = 0; bus_reset = false; outside = 0; uncaused_clears = 0 }

-- a list of moves
pub data Run (g : Plan) (count : ℕ) (ks : ℕ → Ticket) (ts : ℕ → Target) : (ℕ → Ticket) → (ℕ → Target) → Type 0 where
  none : Run g count ks ts ks ts
  more : {ms : ℕ → Ticket} {us : ℕ → Target} {ns : ℕ → Ticket} {vs : ℕ → Target} → Run g count ks ts ms us → Moves g count ms us ns vs → Run g count ks ts ns vs

abbrev pub history : {g : Plan} {count : ℕ} {ks : ℕ → Ticket} {ts : ℕ → Target} → ℕ → {ns : ℕ → Ticket} {us : ℕ → Target} → Run g count ks ts ns us → TicketHistory
history x none = no_history
history x (more r m) = noted x m (history x r)
