-- The history of one ticket in a run, by which its report is judged: a fold over the changes, by differences of what the log says (own).
use Rattle.std.specs.Prelude.{ℕ, ◌+◌, ◌-◌, ◌&&◌, ◌||◌, nat_lt, not, Bool, true, false, List, fold}
use Rattle.unit_law.specs.Log.{Tally, tally}
use Rattle.unit_law.specs.Report.{TicketHistory}
use Rattle.desk_law.specs.Desk.{ticket, unit, lives}
use Rattle.world_law.specs.World.{BenchSetting, World, log_of}
use Rattle.world_law.specs.Runs.{Moment}
use Rattle.run_law.specs.Changes.{Change, changes, marks, resets_bus, resets_device}

-- all entries of a ticket in a log, and what the log of a unit says of it
abbrev pub entries_of : Tally → ℕ
entries_of k = k.refusals + k.looks + k.ends + k.drops + k.senses

abbrev pub tally_in : World → (u t : ℕ) → Tally
tally_in w u t = tally t (log_of w u)

abbrev pub count_if : Bool → ℕ → ℕ
count_if true n = n
count_if false n = 0

abbrev pub is_live : World → ℕ → Bool
is_live w t = lives (ticket w.desk t)

-- queued at least once, and not yet reported
abbrev pub is_under_way : World → ℕ → Bool
is_under_way w t = is_live w t && nat_lt 0 (ticket w.desk t).tries

module _ (g : BenchSetting) where
  -- The history of ticket t of unit u, one change on: whether an abort marked it; the Clears of its unit's log while it is under way; whether
  -- the bus was reset between its End and its Free; its entries outside its life; and the Clears that neither a bus reset nor the
  -- connection of a device reset of the target caused.
  abbrev pub noted_by : (u t : ℕ) → (before after : Tally) → TicketHistory → Change → TicketHistory
  noted_by u t before after h c = record {
    marked = h.marked || marks g t c;
    clears = h.clears + count_if (is_under_way c.before t) (after.clears - before.clears);
    bus_reset = h.bus_reset || (resets_bus g c && (nat_lt 0 before.ends && is_live c.before t));
    outside = h.outside + count_if (not (is_live c.before t)) (entries_of after - entries_of before);
    uncaused_clears = h.uncaused_clears + count_if (not (resets_bus g c || resets_device g (unit c.before.desk u).target c)) (after.clears - before.clears);
  }

  abbrev pub noted : (u t : ℕ) → TicketHistory → Change → TicketHistory
  noted u t h c = noted_by u t (tally_in c.before u t) (tally_in c.moment.after u t) h c

  abbrev pub no_history : TicketHistory
  no_history = record { marked = false; clears = 0; bus_reset = false; outside = 0; uncaused_clears = 0 }

  -- in a run from a world on
  unfoldable pub history : (u t : ℕ) → World → List Moment → TicketHistory
  history u t w ms = fold (noted u t) no_history (changes w ms)
