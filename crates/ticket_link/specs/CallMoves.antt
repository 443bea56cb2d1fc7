-- The moves that are calls of the bus: no step of a ticket alone, no pointers that the chip writes, and no mark. Source: own.
use Rattle.std.specs.Prelude.{◌≡◌, ℕ}
use Rattle.target_law.specs.Target.{Target}
use Rattle.ticket_fate.specs.Tickets.{Plan, Ticket}
use Rattle.ticket_fate.specs.Linked.{ByDevice}
use Rattle.ticket_fate.specs.Moves.{Moves, alone, points, marks, resets_idle, resets_work, resets_asking}

-- a call that resets nothing
abbrev pub IsCall : {g : Plan} {count : ℕ} {ks : ℕ → Ticket} {ts : ℕ → Target} {ns : ℕ → Ticket} {us : ℕ → Target} → Moves g count ks ts ns us → Type 0
IsCall (alone x k u there m) = ⊥
IsCall (points x lastp savep e) = ⊥
IsCall (marks x can) = ⊥
IsCall (resets_idle i b idle can) = ⊥
IsCall (resets_work i b c u w plain there can) = ⊥
IsCall (resets_asking i c u w asks there) = ⊥
IsCall m = Unit {0}

-- BUS DEVICE RESET of target i
abbrev pub IsDeviceReset : {g : Plan} {count : ℕ} {ks : ℕ → Ticket} {ts : ℕ → Target} {ns : ℕ → Ticket} {us : ℕ → Target} → (i : ℕ) → Moves g count ks ts ns us → Type 0
IsDeviceReset i (resets_idle j b idle can) = (j ≡ i) × (b ≡ ByDevice)
IsDeviceReset i (resets_work j b c u w plain there can) = (j ≡ i) × (b ≡ ByDevice)
IsDeviceReset i m = ⊥

-- by one of them
abbrev pub CallMoves : (g : Plan) (count : ℕ) → (ℕ → Ticket) → (ℕ → Target) → (ℕ → Ticket) → (ℕ → Target) → Type 0
CallMoves g count ks ts ns us = (m : Moves g count ks ts ns us) × IsCall m

abbrev pub DeviceResetMoves : (i : ℕ) (g : Plan) (count : ℕ) → (ℕ → Ticket) → (ℕ → Target) → (ℕ → Ticket) → (ℕ → Target) → Type 0
DeviceResetMoves i g count ks ts ns us = (m : Moves g count ks ts ns us) × IsDeviceReset i m
