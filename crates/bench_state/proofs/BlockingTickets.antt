-- What blocks a submitter's next Build: of its tickets that wait to be entered or queued there is only that of its last line.
use Rattle.std.proofs.Common.{arith, ◌≡◌, ◌≤◌, Bool, true, false, not, ◌&&◌, ◌||◌, ◌==◌, ℕ, length, position, Some, None, refl, sym, ap, ◌∙◌}
use Rattle.std.proofs.lemmas.Bool.{and_right, and_parts}
use Rattle.std.proofs.lemmas.Bool.Decides.{nat_tests}
use Rattle.desk_law.specs.declared.stage.Stage.{Stage}
use Rattle.desk_law.specs.declared.stage.Stage.TheVariants as stage
use Rattle.desk_law.specs.declared.ticket.Ticket.{Ticket}
use Rattle.desk_law.specs.Desk.{DeskState, no_ticket, ticket, lives, is_freed}
use Rattle.world_law.specs.Laws.{IsHeldBy}
use Rattle.world_law.specs.Lines.{is_unqueued, blocks}
use Rattle.world_law.specs.World.{World}
use Rattle.bench_state.specs.LastLines.{last_ticket, OnlyLastIsHeld}
use Rattle.bench_state.proofs.TicketLaws.{none_there}
use Rattle.bench_state.proofs.LeastPassing.{least_at, least_none, passes_within}

-- ---- a freed ticket blocks nothing

freed-stage : (s : Stage) (waits : Bool) → not (is_freed s) ≡ false → is_unqueued s || (waits && not (is_freed s)) ≡ false
freed-stage stage.Freed waits e = and_right waits false refl
freed-stage stage.Built waits e = absurd cc
freed-stage stage.Linked waits e = absurd cc
freed-stage stage.Queued waits e = absurd cc
freed-stage stage.Again waits e = absurd cc
freed-stage stage.Check waits e = absurd cc
freed-stage stage.Sensing waits e = absurd cc
freed-stage (stage.Ended o) waits e = absurd cc
freed-stage stage.Unlinked waits e = absurd cc

pub freed_blocks : (s : ℕ) (waits : Bool) (k : Ticket) → lives k ≡ false → blocks s waits k ≡ false
freed_blocks s waits k e = and_right (k.line.submitter == s) _ (freed-stage k.stage waits e)

pub none_there_blocks : (d : DeskState) (s t : ℕ) (waits : Bool) → length d.tickets ≤ t → blocks s waits (ticket d t) ≡ false
none_there_blocks d s t waits past = ap (blocks s waits) (none_there d t past) ∙ freed_blocks s waits no_ticket refl

-- ---- the ticket of the last line

equal-then : (a b : ℕ) → a == b ≡ true → a ≡ b
equal-then a b e = grind (arith, nat_tests, e)

held-of : (s : ℕ) (k : Ticket) → blocks s false k ≡ true → IsHeldBy s k
held-of s k h =
    let q : (k.line.submitter == s ≡ true) × (is_unqueued k.stage || (false && lives k) ≡ true) = and_parts (k.line.submitter == s) _ h in
    (equal-then k.line.submitter s q.0, unqueued (is_unqueued k.stage) (lives k) q.1)
  where
    unqueued : (a b : Bool) → a || (false && b) ≡ true → a ≡ true
    unqueued true b e = refl
    unqueued false b e = absurd cc

not-true : (b : Bool) → (b ≡ true → ⊥) → b ≡ false
not-true true n = absurd (n refl)
not-true false n = refl

same-ticket : (w : World) (s t k : ℕ) → OnlyLastIsHeld w → last_ticket w s ≡ Some t → blocks s false (ticket w.desk k) ≡ true → t ≡ k
same-ticket w s t k only e b = same t k (sym e ∙ only s k (held-of s (ticket w.desk k) b))
  where
    same : (a b : ℕ) → Some a ≡ Some b → a ≡ b
    same a b e = cc

pub last_held : (w : World) (s t : ℕ) → OnlyLastIsHeld w → last_ticket w s ≡ Some t → blocks s false (ticket w.desk t) ≡ true
    → position (blocks s false) w.desk.tickets ≡ Some t
last_held w s t only e here =
    least_at (blocks s false) w.desk.tickets t (passes_within (blocks s false) w.desk.tickets t here (freed_blocks s false no_ticket refl))
    (λ k l. not-true (blocks s false (ticket w.desk k)) (λ b. absurd (omega (arith, l, same-ticket w s t k only e b)))) here

pub last_not_held : (w : World) (s t : ℕ) → OnlyLastIsHeld w → last_ticket w s ≡ Some t → blocks s false (ticket w.desk t) ≡ false
    → position (blocks s false) w.desk.tickets ≡ None
last_not_held w s t only e here =
    least_none (blocks s false) w.desk.tickets (λ k l. not-true (blocks s false (ticket w.desk k)) (λ b. never k b))
  where
    never : (k : ℕ) → blocks s false (ticket w.desk k) ≡ true → ⊥
    never k b =
        let clash : true ≡ false = sym b ∙ ap (λ (n : ℕ). blocks s false (ticket w.desk n)) (sym (same-ticket w s t k only e b)) ∙ here in
        absurd cc

pub no_last : (w : World) (s : ℕ) → OnlyLastIsHeld w → last_ticket w s ≡ None → position (blocks s false) w.desk.tickets ≡ None
no_last w s only e =
    least_none (blocks s false) w.desk.tickets (λ k l. not-true (blocks s false (ticket w.desk k)) (λ b. never k b))
  where
    never : (k : ℕ) → blocks s false (ticket w.desk k) ≡ true → ⊥
    never k b =
        let clash : None ≡ Some k = sym e ∙ only s k (held-of s (ticket w.desk k) b) in
        absurd cc
