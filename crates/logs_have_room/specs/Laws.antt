-- Laws of the room of logs.
use Rattle.std.specs.Prelude.{◌≡◌, ℕ, suc, ◌+◌, ◌<◌, Bool, true, false, List, [], ◌∷◌, ◌++◌, length}
use Rattle.unit_law.specs.declared.entry.LogEntry.{LogEntry}
use Rattle.unit_law.specs.declared.entry.LogEntry.TheVariants.{Clear}
use Rattle.unit_law.specs.Log.{tally, with_at}
use Rattle.logs_have_room.specs.Room.{IsFew, MayAdd, IsReserved}

-- an entry of a live ticket: there is room for it, and after it the ticket still has few entries, and room is still reserved
pub record HasRoom (limit : ℕ) (live : ℕ → Bool) (built room x : ℕ) (log : List LogEntry) (e : LogEntry) : Type 0 where
  pub place : length log < room
  pub few : IsFew limit (tally x (log ++ e ∷ []))
  pub reserved : IsReserved limit live built (log ++ e ∷ []) room

abbrev pub TicketsHaveRoom : Type 0
TicketsHaveRoom = (limit : ℕ) (live : ℕ → Bool) (built room : ℕ) (log : List LogEntry) → IsReserved limit live built log room → (x : ℕ) → x < built → live x ≡ true
    → IsFew limit (tally x log) → (e : LogEntry) → MayAdd limit x (tally x log) e → HasRoom limit live built room x log e

-- what a Build and a Clear add to the room, and that neither an opening nor a Free needs any
pub record RoomIsReserved : Type 0 where
  pub opened : (limit : ℕ) (live : ℕ → Bool) → IsReserved limit live 0 [] 0
  pub built : (limit : ℕ) (live : ℕ → Bool) (built room : ℕ) (log : List LogEntry) → IsReserved limit live built log room → IsReserved limit live (suc built) log (room + (limit + 3))
  pub cleared : (limit : ℕ) (live : ℕ → Bool) (built room : ℕ) (log : List LogEntry) → IsReserved limit live built log room → IsReserved limit live built (log ++ Clear ∷ []) (room + 1)
  pub freed : (limit : ℕ) (live : ℕ → Bool) (built room : ℕ) (log : List LogEntry) → IsReserved limit live built log room → (x : ℕ) → x < built → IsReserved limit (with_at live x false) built log room
