-- Nothing waits in the start ring where RINGP is no slot.
use Rattle.std.proofs.Common.{arith, ◌≡◌, ◌&&◌, ◌==◌, Bool, true, false, not, ℕ, zero, suc, List, map, refl, ap, ◌∙◌}
use Rattle.std.proofs.lemmas.Bool.Decides.{nat_tests}
use Rattle.std.specs.List.{list_any}
use Rattle.bench_words.specs.Memory.{word_at}
use Rattle.host_map.specs.declared.TheConstants.{RINGP, START_RING}
use Rattle.job_rings.specs.Rings.{IsSlot}
use Rattle.desk_law.specs.declared.ticket.Ticket.{Ticket}
use Rattle.desk_law.specs.Desk.{DeskState, is_queued}
use Rattle.desk_law.specs.Rings.{is_start_slot, slots_from, waiting_count, passed}

pub slot_is : (a : ℕ) → is_start_slot a ≡ true → IsSlot START_RING a
slot_is a h = record { from = grind (arith, nat_tests, h); below = grind (arith, nat_tests, h); aligned = grind (arith, nat_tests, h) }

none-counted : (ringp put : ℕ) → is_start_slot ringp ≡ false → waiting_count ringp put ≡ 0
none-counted ringp put h = rw h refl

waits-none : (m : List ℕ) (d : DeskState) (k : Ticket) (n : ℕ) → n ≡ 0
    → list_any (λ (b : ℕ). b == k.block) (map (word_at m) (slots_from n (word_at m RINGP))) ≡ false
waits-none m d k zero e = refl
waits-none m d k (suc n) e = absurd (omega (arith, e))

pub nothing_waits : (m : List ℕ) (d : DeskState) (k : Ticket) → is_start_slot (word_at m RINGP) ≡ false → passed m d k ≡ is_queued k.stage
nothing_waits m d k h =
    ap (λ (b : Bool). is_queued k.stage && not b) (waits-none m d k (waiting_count (word_at m RINGP) d.put) (none-counted (word_at m RINGP) d.put h)) ∙ and-true (is_queued k.stage)
  where
    and-true : (b : Bool) → b && true ≡ b
    and-true true = refl
    and-true false = refl
