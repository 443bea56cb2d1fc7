-- A ticket in a stage other than Freed was built, and a caller of whom a signal is due is one of the work.
use Rattle.std.proofs.Common.{arith, ◌≡◌, ◌<◌, ◌≤◌, ◌==◌, ℕ, zero, suc, not, true, false, List, [], ◌∷◌, length, slice_index_or, Some, refl, ap}
use Rattle.desk_law.specs.declared.stage.Stage.TheVariants as stage
use Rattle.desk_law.specs.declared.ticket.Ticket.{Ticket}
use Rattle.std.proofs.lemmas.Bool.{and_parts}
use Rattle.std.proofs.lemmas.List.Quantifiers.{position-Some}
use Rattle.desk_law.specs.Desk.{DeskState, no_ticket, ticket, ticket_at, has_block, lives, is_freed, due}
use Rattle.driver_desk.specs.Conditions.{MayQueue, IsEnded}
use Rattle.driver_desk.proofs.Stages.{queueable_lives, ended_lives}

within : (ks : List Ticket) (t : ℕ) → is_freed (slice_index_or ks t no_ticket).stage ≡ false → t < length ks
within [] t e = absurd cc
within (k ∷ ks) zero e = omega arith
within (k ∷ ks) (suc t) e = omega (arith, within ks t e)

pub is_there : (d : DeskState) (t : ℕ) → is_freed (ticket d t).stage ≡ false → t < length d.tickets
is_there d t e = within d.tickets t e

pub built_is_there : (d : DeskState) (t : ℕ) → (ticket d t).stage ≡ stage.Built → t < length d.tickets
built_is_there d t e = is_there d t (ap is_freed e)

pub checked_is_there : (d : DeskState) (t : ℕ) → (ticket d t).stage ≡ stage.Check → t < length d.tickets
checked_is_there d t e = is_there d t (ap is_freed e)

pub queueable_is_there : (d : DeskState) (t : ℕ) → MayQueue (ticket d t).stage → t < length d.tickets
queueable_is_there d t h = is_there d t (queueable_lives (ticket d t).stage h)

pub ended_is_there : (d : DeskState) (t : ℕ) → IsEnded (ticket d t).stage → t < length d.tickets
ended_is_there d t h = is_there d t (ended_lives (ticket d t).stage h)

owing : (ns : List ℕ) (caller : ℕ) → 0 < slice_index_or ns caller 0 → caller < length ns
owing [] caller h = absurd (omega arith)
owing (n ∷ ns) zero h = omega arith
owing (n ∷ ns) (suc caller) h = omega (arith, owing ns caller h)

pub due_is_there : (d : DeskState) (caller : ℕ) → 0 < due d caller → caller < length d.due
due_is_there d caller h = owing d.due caller h

nothing-there : (ks : List Ticket) (t : ℕ) → length ks ≤ t → slice_index_or ks t no_ticket ≡ no_ticket
nothing-there [] t h = refl
nothing-there (k ∷ ks) zero h = absurd (omega (arith, h))
nothing-there (k ∷ ks) (suc t) h = nothing-there ks t (omega (arith, h))

pub none_there : (d : DeskState) (t : ℕ) → length d.tickets ≤ t → ticket d t ≡ no_ticket
none_there d t h = nothing-there d.tickets t h

-- the live ticket with a block was built
pub done_is_there : (d : DeskState) (block t : ℕ) → ticket_at d block ≡ Some t → t < length d.tickets
done_is_there d block t found = (position-Some (has_block block) d.tickets t no_ticket found).0

past : (ns : List ℕ) (c : ℕ) → length ns ≤ c → slice_index_or ns c 0 ≡ 0
past [] c h = refl
past (n ∷ ns) zero h = absurd (omega (arith, h))
past (n ∷ ns) (suc c) h = past ns c (omega (arith, h))

pub none_due : (d : DeskState) (c : ℕ) → length d.due ≤ c → due d c ≡ 0
none_due d c h = past d.due c h

-- ---- it lives

is-live : (d : DeskState) (t : ℕ) → is_freed (ticket d t).stage ≡ false → lives (ticket d t) ≡ true
is-live d t e = ap not e

pub built_is_live : (d : DeskState) (t : ℕ) → (ticket d t).stage ≡ stage.Built → lives (ticket d t) ≡ true
built_is_live d t e = is-live d t (ap is_freed e)

pub checked_is_live : (d : DeskState) (t : ℕ) → (ticket d t).stage ≡ stage.Check → lives (ticket d t) ≡ true
checked_is_live d t e = is-live d t (ap is_freed e)

pub queueable_is_live : (d : DeskState) (t : ℕ) → MayQueue (ticket d t).stage → lives (ticket d t) ≡ true
queueable_is_live d t h = is-live d t (queueable_lives (ticket d t).stage h)

pub ended_is_live : (d : DeskState) (t : ℕ) → IsEnded (ticket d t).stage → lives (ticket d t) ≡ true
ended_is_live d t h = is-live d t (ended_lives (ticket d t).stage h)

live-of : (block : ℕ) (k : Ticket) → has_block block k ≡ true → lives k ≡ true
live-of block k h = (and_parts (lives k) (k.block == block) h).0

pub done_is_live : (d : DeskState) (block t : ℕ) → ticket_at d block ≡ Some t → lives (ticket d t) ≡ true
done_is_live d block t found = live-of block (ticket d t) (position-Some (has_block block) d.tickets t no_ticket found).1
