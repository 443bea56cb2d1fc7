-- What is true at all times of the world that the code keeps (own).
use Rattle.std.specs.Prelude.{◌≡◌, ℕ, ◌≤◌, List, [], length, take, count_by, slice_index_or}
use Rattle.desk_law.specs.declared.ticket.Ticket.{Ticket}
use Rattle.desk_law.specs.Desk.{DeskState, lives}
use Rattle.world_law.specs.declared.reply.Decided.{Decided}
use Rattle.world_law.specs.World.{BenchSetting, commands_of}
use Rattle.bench_state.specs.Counting.{refused_count}

-- how many of the first n tickets live
abbrev pub live_before : (n : ℕ) → List Ticket → ℕ
live_before n ks = count_by lives (take n ks)

-- Host memory has 4 MiB, the desk is that of the rig and the work, each submitter has at most its lines, the live tickets and the refused lines
-- are counted, and none of the first tickets lives.
pub record IsHeld (g : BenchSetting) (memory : List ℕ) (desk : DeskState) (decided : List (List Decided)) (live_count refused_total first_live : ℕ) : Type 0 where
  pub size : length memory ≡ 0x400000
  pub units : desk.units ≡ g.units
  pub submitters : desk.submitters ≡ length g.submitters
  pub lines : length decided ≡ length g.submitters
  pub within : (s : ℕ) → length (slice_index_or decided s []) ≤ length (commands_of g s)
  pub live : live_count ≡ count_by lives desk.tickets
  pub refused : refused_total ≡ refused_count decided
  pub first : live_before first_live desk.tickets ≡ 0

-- There is room for every line of each submitter, for the answer to each act, and for so many reports.
pub record HasRooms (g : BenchSetting) (line_rooms : List ℕ) (answer_count answer_room report_count report_room : ℕ) : Type 0 where
  pub lines : (s : ℕ) → length (commands_of g s) ≤ slice_index_or line_rooms s 0
  pub answered : answer_count ≤ length g.acts
  pub answers : length g.acts ≤ answer_room
  pub reports : report_count ≤ report_room
