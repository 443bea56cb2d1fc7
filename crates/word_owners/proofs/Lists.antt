-- A desk with one ticket changed, as ownership reads it.
use Rattle.std.proofs.Common.{◌≡◌, ◌≢◌, inl, inr, ℕ, zero, suc, ◌<◌, List, [], ◌∷◌, length, slice_set, slice_index_or, refl, sym, ap, subst, ◌∙◌, arith, Bool, true}
use Rattle.std.specs.Prelude.{◌&&◌, not}
use Rattle.std.proofs.lemmas.List.{get_or-set_same, get_or-set_other}
use Rattle.desk_law.specs.declared.stage.Stage.{Stage}
use Rattle.desk_law.specs.declared.stage.Stage.TheVariants.{Freed}
use Rattle.desk_law.specs.declared.ticket.Ticket.{Ticket}
use Rattle.desk_law.specs.Desk.{DeskState, ticket, with_ticket, no_ticket}
use Rattle.desk_law.specs.Blocks.{own, begins_at}
use Rattle.word_owners.specs.Tickets.{Fixed, is_check, fixed_of, tickets_of, IsAskedFor, AreChecked}
use Rattle.word_owners.proofs.Frames.{same_or}
use Rattle.word_owners.proofs.StageChanges.{Turns, staged}

abbrev at : List Ticket → ℕ → Ticket
at ks t = slice_index_or ks t no_ticket

pub live-within : (ks : List Ticket) (t : ℕ) → (slice_index_or ks t no_ticket).stage ≢ Freed → t < length ks
live-within [] t h = absurd (h refl)
live-within (k ∷ ks) zero h = omega arith
live-within (k ∷ ks) (suc t) h = let l : t < length ks = live-within ks t h in omega arith

module _ (ks : List Ticket) (t : ℕ) (k : Ticket) (l : t < length ks) where
  set-here : at (slice_set ks t k) t ≡ k
  set-here = get_or-set_same ks t k no_ticket l

  set-other : (u : ℕ) → u ≢ t → at (slice_set ks t k) u ≡ at ks u
  set-other u ne = get_or-set_other ks t u k no_ticket ne

  pub set-turns : Turns (λ (u : ℕ). (at ks u).stage) (λ (u : ℕ). (at (slice_set ks t k) u).stage) t k.stage
  set-turns = record { here = ap (λ (x : Ticket). x.stage) set-here; other = λ u ne. ap (λ (x : Ticket). x.stage) (set-other u ne) }

  pub set-fixed : fixed_of k ≡ fixed_of (at ks t) → (u : ℕ) → fixed_of (at (slice_set ks t k) u) ≡ fixed_of (at ks u)
  set-fixed e u = elim (same_or u t) [
    | inl z ↦ ap (λ (i : ℕ). fixed_of (at (slice_set ks t k) i)) z ∙ ap fixed_of set-here ∙ e ∙ ap (λ (i : ℕ). fixed_of (at ks i)) (sym z)
    | inr z ↦ ap fixed_of (set-other u z)
  ]

-- the tickets of a desk in which ticket t has another stage and the same fixed part
pub desk-turns : (d : DeskState) (t : ℕ) (k : Ticket) → (ticket d t).stage ≢ Freed → Turns (tickets_of d).stage (tickets_of (with_ticket d t k)).stage t k.stage
desk-turns d t k live = set-turns d.tickets t k (live-within d.tickets t live)

pub desk-staged : (d : DeskState) (t : ℕ) (k : Ticket) → (ticket d t).stage ≢ Freed → fixed_of k ≡ fixed_of (ticket d t)
    → tickets_of (with_ticket d t k) ≡ staged (tickets_of d) (tickets_of (with_ticket d t k)).stage
desk-staged d t k live e =
    let each = set-fixed d.tickets t k (live-within d.tickets t live) e in
    let path : (tickets_of (with_ticket d t k)).fixed ≡ (tickets_of d).fixed = λ i u. each u i in
    ap (λ (f : ℕ → Fixed). record { units = d.units; fixed = f; stage = (tickets_of (with_ticket d t k)).stage }) path

-- a stage that is Check as little as the one before changes nothing of the fixed part
pub same-fixed : (k : Ticket) (s : Stage) → is_check s ≡ is_check k.stage → fixed_of (record k { stage = s }) ≡ fixed_of k
same-fixed k s e = ap (λ (x : Bool). record {
  block = k.block;
  unit = k.unit;
  tag = k.tag;
  direction = k.direction;
  own = own k;
  begins = begins_at k;
  turned = k.checked && not x;
}) e

-- one ticket was changed, and is checked if its sense is asked for
pub desk-checked : (d : DeskState) (t : ℕ) (k : Ticket) → (ticket d t).stage ≢ Freed → (IsAskedFor k.stage → k.checked ≡ true) → AreChecked d → AreChecked (with_ticket d t k)
desk-checked d t k live f h u e =
    let l = live-within d.tickets t live in
    elim (same_or u t) [
      | inl z ↦ subst (λ (x : Ticket). IsAskedFor x.stage → x.checked ≡ true) (sym (ap (λ (i : ℕ). at (slice_set d.tickets t k) i) z ∙ set-here d.tickets t k l)) f e
      | inr z ↦ subst (λ (x : Ticket). IsAskedFor x.stage → x.checked ≡ true) (sym (set-other d.tickets t k l u z)) (h u) e
    ]
