-- A unit's log as its callers see it.
use Rattle.std.specs.Prelude.{ℕ, List}
use Rattle.unit_law.specs.declared.entry.LogEntry.{LogEntry}

-- the entries in their order, and how many there is room for in all
pub record LogState : Type 0 where
  pub entries : List LogEntry
  pub room : ℕ
