-- A freed ticket owns nothing.
use Rattle.std.proofs.Common.{◌≡◌, Bool, true, false, ◌&&◌, ℕ, refl}
use Rattle.desk_law.specs.declared.ticket.Ticket.{Ticket}
use Rattle.desk_law.specs.Desk.{lives}
use Rattle.world_law.specs.Owners.{has_block_at, has_chunk_at}

none : (b c : Bool) → b ≡ false → b && c ≡ false
none true c e = absurd cc
none false c e = refl

pub freed_has_no_block : (a : ℕ) (k : Ticket) → lives k ≡ false → has_block_at a k ≡ false
freed_has_no_block a k e = none (lives k) _ e

pub freed_has_no_chunk : (a : ℕ) (k : Ticket) → lives k ≡ false → has_chunk_at a k ≡ false
freed_has_no_chunk a k e = none (lives k) _ e
