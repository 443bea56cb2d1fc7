-- The rings as the driver reads them (own): which blocks wait in the start ring, and which ticket stands in the done slot that is taken next.
use Rattle.std.specs.Prelude.{ℕ, ◌+◌, ◌-◌, ◌/◌, ◌%◌, ◌==◌, ◌&&◌, nat_lt, nat_le, not, zero, suc, if◌then◌else◌, Bool, List, [], ◌∷◌, map, Option}
use Rattle.std.specs.List.{list_any}
use Rattle.bench_words.specs.Memory.{word_at}
use Rattle.host_map.specs.declared.TheConstants.{RINGP, START_RING}
use Rattle.job_rings.specs.Rings.{next_slot}
use Rattle.desk_law.specs.declared.ticket.Ticket.{Ticket}
use Rattle.desk_law.specs.Desk.{DeskState, is_queued, ticket_at}

-- the address of a start slot
abbrev pub is_start_slot : ℕ → Bool
is_start_slot a = (nat_le START_RING a && nat_lt a (START_RING + 4096)) && (a - START_RING) % 8 == 0

-- so many start slots, from one on
abbrev pub slots_from : ℕ → ℕ → List ℕ
slots_from zero slot = []
slots_from (suc n) slot = slot ∷ slots_from n (next_slot START_RING slot)

-- how many slots there are from RINGP up to the driver's next slot; nothing waits where RINGP is no start slot
abbrev pub waiting_count : (ringp put : ℕ) → ℕ
waiting_count ringp put = if is_start_slot ringp then (put + 4096 - ringp) % 4096 / 8 else 0

-- the blocks in these slots
abbrev pub waiting : List ℕ → DeskState → List ℕ
waiting m d = map (word_at m) (slots_from (waiting_count (word_at m RINGP) d.put) (word_at m RINGP))

abbrev pub waits : List ℕ → DeskState → Ticket → Bool
waits m d k = list_any (λ (b : ℕ). b == k.block) (waiting m d)

-- a ticket is passed where it is Queued and its block doesn't wait
abbrev pub passed : List ℕ → DeskState → Ticket → Bool
passed m d k = is_queued k.stage && not (waits m d k)

-- the live ticket whose block stands in the done slot that is taken next
abbrev pub done_ticket : List ℕ → DeskState → Option ℕ
done_ticket m d = ticket_at d (word_at m d.take)
