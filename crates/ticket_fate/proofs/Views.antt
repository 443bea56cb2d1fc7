-- What one more entry changes in the view of a ticket, and the frame: an entry of one ticket leaves what holds of every other.
use Rattle.std.proofs.Common.{◌≡◌, ◌≢◌, ℕ, ◌≤◌, List, [], ◌∷◌, ◌++◌, ap, sym, ◌∙◌, subst, Option, ◌⊎◌, inl, inr}
use Rattle.plain_lun.specs.Unit.{UnitState}
use Rattle.plain_lun.specs.Performing.{Answered}
use Rattle.unit_law.specs.declared.entry.LogEntry.{LogEntry}
use Rattle.unit_law.specs.Log.{with_at, Tally, View, view_of}
use Rattle.unit_law.specs.Request.{RequestData}
use Rattle.unit_law.proofs.Views.{IsOf, tally-other, answers-other, senses-other, with_at-same, with_at-other, same_or_not}
use Rattle.ticket_fate.specs.Tickets.{Plan, unit_of, opening, Ticket, view_for}
use Rattle.ticket_fate.specs.Senses.{SenseFate}
use Rattle.ticket_fate.specs.Fates.{Fate, TicketKept}

-- nothing was logged, or one entry of t
abbrev pub Grows : ℕ → List LogEntry → List LogEntry → Type 0
Grows t old new = (new ≡ old) ⊎ ((e : LogEntry) × IsOf t e × (new ≡ old ++ e ∷ []))

pub view-is : (a b : View) → a.tally ≡ b.tally → a.answer ≡ b.answer → a.sense ≡ b.sense → a ≡ b
view-is a b e f g =
    ap (λ (k : Tally). let v : View = record { tally = k; answer = a.answer; sense = a.sense } in v) e
    ∙ ap (λ (o : Option Answered). let v : View = record { tally = b.tally; answer = o; sense = a.sense } in v) f
    ∙ ap (λ (o : Option (List ℕ)). let v : View = record { tally = b.tally; answer = b.answer; sense = o } in v) g

pub view-other : (requests : ℕ → RequestData) (u : UnitState) (x t : ℕ) (log : List LogEntry) (e : LogEntry) → IsOf t e → x ≢ t → view_of requests u (log ++ e ∷ []) x ≡ view_of requests u log x
view-other requests u x t log e i d =
    view-is (view_of requests u (log ++ e ∷ []) x) (view_of requests u log x) (tally-other x t log e i d) (answers-other requests u x t log e i d) (senses-other requests u x t log e i d)

pub grows-view : (g : Plan) (x t : ℕ) (old new : List LogEntry) → Grows t old new → x ≢ t → view_for g x new ≡ view_for g x old
grows-view g x t old new (inl e) d = ap (view_for g x) e
grows-view g x t old new (inr p) d = ap (view_for g x) p.2 ∙ view-other g.requests (opening g (unit_of g x)) x t old p.0 p.1 d

pub view-kept : (g : Plan) (x : ℕ) (k : Ticket) (old new : List LogEntry) → view_for g x new ≡ view_for g x old → TicketKept g x k old → TicketKept g x k new
view-kept g x k old new e s = record {
  fate = subst (Fate g x k.life k) (sym e) s.fate;
  sense = subst (SenseFate g x k.life k) (sym e) s.sense;
  absent = λ a. let h = s.absent a in (ap (λ v. v.tally.refusals) e ∙ h.0, h.1);
  since = subst (λ v. k.since ≤ v.tally.clears) (sym e) s.since;
  before = s.before;
}

-- the tickets of a unit
abbrev pub Each : Plan → ℕ → (ℕ → Ticket) → List LogEntry → Type 0
Each g n tickets log = (t : ℕ) → unit_of g t ≡ n → TicketKept g t (tickets t) log

each_at : (g : Plan) (n : ℕ) (tickets : ℕ → Ticket) (t : ℕ) (k : Ticket) (old new : List LogEntry) → Grows t old new → TicketKept g t k new → (x : ℕ) → TicketKept g x (tickets x) old
    → (x ≡ t) ⊎ (x ≢ t) → TicketKept g x (with_at tickets t k x) new
each_at g n tickets t k old new grows s x h (inl q) = subst (λ y. TicketKept g y (with_at tickets t k y) new) (sym q) (subst (λ z. TicketKept g t z new) (sym (with_at-same tickets t k)) s)
each_at g n tickets t k old new grows s x h (inr d) =
    subst (λ z. TicketKept g x z new) (sym (with_at-other tickets t k x d)) (view-kept g x (tickets x) old new (grows-view g x t old new grows d) h)

pub each-changed : (g : Plan) (n : ℕ) (tickets : ℕ → Ticket) (t : ℕ) (k : Ticket) (old new : List LogEntry) → Grows t old new → Each g n tickets old → TicketKept g t k new
    → Each g n (with_at tickets t k) new
each-changed g n tickets t k old new grows each s = λ x u. each_at g n tickets t k old new grows s x (each x u) (same_or_not x t)

-- a ticket of another unit
pub each-elsewhere : (g : Plan) (n : ℕ) (tickets : ℕ → Ticket) (t : ℕ) (k : Ticket) (log : List LogEntry) → unit_of g t ≢ n → Each g n tickets log → Each g n (with_at tickets t k) log
each-elsewhere g n tickets t k log d each = λ x u.
    let e : x ≢ t = λ q. d (ap (unit_of g) (sym q) ∙ u) in
    subst (λ z. TicketKept g x z log) (sym (with_at-other tickets t k x e)) (each x u)
