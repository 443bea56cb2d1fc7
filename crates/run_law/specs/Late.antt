-- After an abort of a ticket that answered Marked, all later data moves of the ticket lie in one connection (own). A connection begins where
-- the bus was free and isn't any more. A data move counts where it moved at least one byte.
use Rattle.std.specs.Prelude.{◌≡◌, ℕ, ◌+◌, ◌-◌, ◌==◌, ◌&&◌, ◌||◌, nat_lt, is_some, is_none, Bool, true, false, List, [], ◌∷◌, ◌++◌, fold, Option, Some, None}
use Rattle.std.specs.List.{All}
use Rattle.bench_words.specs.Memory.{word_at}
use Rattle.rig_types.specs.declared.step.Step.{Step}
use Rattle.rig_types.specs.declared.step.Step.TheVariants as step
use Rattle.phase_fix.specs.declared.moves.DataMove.{DataMove}
use Rattle.phase_fix.specs.Moves.{move_at}
use Rattle.phase_fix.specs.Remain.{count_of}
use Rattle.desk_law.specs.Desk.{ticket, lives}
use Rattle.world_law.specs.World.{BenchSetting, World}
use Rattle.world_law.specs.Runs.{Moment}
use Rattle.run_law.specs.Changes.{Change, changes, marks}

-- how many bytes a data move moved that began in this world: its count less what is left in DBC
abbrev pub bytes_moved : Option DataMove → (before after : World) → ℕ
bytes_moved None before after = 0
bytes_moved (Some x) before after = count_of (word_at before.memory) before.regs.dsa x.entry - after.regs.dbc

-- a step of the chip moves data of the ticket
abbrev pub moves_data_by : ℕ → Change → Step → Bool
moves_data_by t c (step.Chip word) =
    lives (ticket c.before.desk t) && (c.before.regs.dsa == (ticket c.before.desk t).block && nat_lt 0 (bytes_moved (move_at c.before.regs.dsp) c.before c.moment.after))
moves_data_by t c _ = false

abbrev pub moves_data : ℕ → Change → Bool
moves_data t c = moves_data_by t c c.moment.entry.step

-- a connection begins
abbrev pub connects : Change → Bool
connects c = is_none c.before.bus.connected && is_some c.moment.after.bus.connected

abbrev pub one_if : Bool → ℕ
one_if true = 1
one_if false = 0

-- whether the ticket is marked, how many connections there were, and in which of them its data moved while it was marked
pub record Watch : Type 0 where
  pub marked : Bool
  pub connections : ℕ
  pub moved_in : List ℕ

abbrev pub added_if : Bool → ℕ → List ℕ → List ℕ
added_if true n ns = ns ++ n ∷ []
added_if false n ns = ns

module _ (g : BenchSetting) where
  abbrev pub watched : ℕ → Watch → Change → Watch
  watched t x c = record {
    marked = x.marked || marks g t c;
    connections = x.connections + one_if (connects c);
    moved_in = added_if (x.marked && moves_data t c) (x.connections + one_if (connects c)) x.moved_in;
  }

  abbrev pub no_watch : Watch
  no_watch = record { marked = false; connections = 0; moved_in = [] }

  unfoldable pub watch : ℕ → World → List Moment → Watch
  watch t w ms = fold (watched t) no_watch (changes w ms)

  abbrev pub MovesInOne : ℕ → World → List Moment → Type 0
  MovesInOne t w ms = All (λ (a : ℕ). All (λ (b : ℕ). a ≡ b) (watch t w ms).moved_in) (watch t w ms).moved_in
