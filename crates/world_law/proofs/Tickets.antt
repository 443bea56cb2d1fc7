-- What the changes of a step mean for each ticket.
use Rattle.std.proofs.Common.{arith, ◌≡◌, ◌≢◌, ◌<◌, ◌≤◌, ℕ, zero, suc, ◌+◌, Bool, true, false, List, [], ◌∷◌, ◌++◌, length, slice_set, slice_index_or, Option, refl, sym, ap, subst, ◌∙◌, ◌⊎◌, inl, inr}
use Rattle.std.proofs.lemmas.List.{get_or-set_same, get_or-set_other, length-set, length-append}
use Rattle.rig_types.specs.declared.report.Report.{Report}
use Rattle.bus_law.proofs.OneConnected.{same-or-not}
use Rattle.desk_law.specs.declared.ticket.Ticket.{Ticket}
use Rattle.desk_law.specs.Desk.{no_ticket, is_freed}
use Rattle.world_law.specs.Lines.{is_unqueued}
use Rattle.world_law.specs.Laws.{IsHeldBy}
use Rattle.world_law.proofs.Effects.{IsTold, GoesOn, OneChanges, OneMore, Changes, Counted, not-freed-within}

abbrev at : List Ticket → ℕ → Ticket
at ks t = slice_index_or ks t no_ticket

-- a place of a longer list is one of the list, or that of the new one
more-at : (ks : List Ticket) (k : Ticket) (t : ℕ) → ((at (ks ++ k ∷ []) t ≡ at ks t) × (t ≢ length ks)) ⊎ ((at (ks ++ k ∷ []) t ≡ k) × (length ks ≤ t))
more-at [] k zero = inr (refl, omega arith)
more-at [] k (suc t) = inl (refl, λ e. absurd (omega (arith, e)))
more-at (x ∷ xs) k zero = inl (refl, λ e. absurd (omega (arith, e)))
more-at (x ∷ xs) k (suc t) = elim (more-at xs k t) [
  | inl e ↦ inl (e.0, λ h. e.1 (omega (arith, h)))
  | inr p ↦ inr (p.0, omega (arith, p.1))
]

clash : {R : Type 0} (b : Bool) → b ≡ true → b ≡ false → R
clash b p q = let e : true ≡ false = sym p ∙ q in absurd cc

-- a freed ticket stays freed
changed-freed : (caller : ℕ) (old new : List Ticket) (told : List Report) (x : OneChanges told caller old new) (t : ℕ) → (t ≡ x.number) ⊎ (t ≢ x.number) → is_freed (at old t).stage ≡ true → is_freed (at new t).stage ≡ true
changed-freed caller old new told x t (inl e) f = clash (is_freed (at old t).stage) f (ap (λ (n : ℕ). is_freed (at old n).stage) e ∙ x.goes_on.live)
changed-freed caller old new told x t (inr n) f =
    ap (λ (ks : List Ticket). is_freed (at ks t).stage) x.are ∙ ap (λ (k : Ticket). is_freed k.stage) (get_or-set_other old x.number t x.ticket no_ticket n) ∙ f

added-freed : (caller : ℕ) (old new : List Ticket) (x : OneMore caller old new) (t : ℕ) → t < length old → is_freed (at old t).stage ≡ true → is_freed (at new t).stage ≡ true
added-freed caller old new x t l f = elim (more-at old x.ticket t) [
  | inl e ↦ ap (λ (ks : List Ticket). is_freed (at ks t).stage) x.are ∙ ap (λ (k : Ticket). is_freed k.stage) e.0 ∙ f
  | inr p ↦ absurd (omega (arith, l, p.1))
]

pub freed_stays : (caller : ℕ) (old new : List Ticket) (told : List Report) → Changes told caller old new → (t : ℕ) → t < length old → is_freed (at old t).stage ≡ true → is_freed (at new t).stage ≡ true
freed_stays caller old new told (inl e) t l f = ap (λ (ks : List Ticket). is_freed (at ks t).stage) e ∙ f
freed_stays caller old new told (inr (inl x)) t l f = changed-freed caller old new told x t (same-or-not t x.number) f
freed_stays caller old new told (inr (inr x)) t l f = added-freed caller old new x t l f

-- a ticket that is freed was so before, or is told of
abbrev pub WasFreed : List Report → List Ticket → ℕ → Type 0
WasFreed told old t = ((t < length old) × (is_freed (at old t).stage ≡ true)) ⊎ IsTold told t

changed-was : (caller : ℕ) (old new : List Ticket) (told : List Report) (x : OneChanges told caller old new) (t : ℕ) → (t ≡ x.number) ⊎ (t ≢ x.number) → t < length new → is_freed (at new t).stage ≡ true → WasFreed told old t
changed-was caller old new told x t (inl e) l f = elim x.freed [
  | inl u ↦
      let here : at new t ≡ x.ticket =
      ap (λ (ks : List Ticket). at ks t) x.are ∙ ap (λ (n : ℕ). at (slice_set old x.number x.ticket) n) e
      ∙ get_or-set_same old x.number x.ticket no_ticket (not-freed-within old x.number x.goes_on.live) in
      clash (is_freed (at new t).stage) f (ap (λ (k : Ticket). is_freed k.stage) here ∙ u)
  | inr y ↦ inr (subst (λ (n : ℕ). IsTold told n) (sym e) y)
]
changed-was caller old new told x t (inr n) l f =
    let there : at new t ≡ at old t = ap (λ (ks : List Ticket). at ks t) x.are ∙ get_or-set_other old x.number t x.ticket no_ticket n in
    inl (omega (arith, l, ap (λ (ks : List Ticket). length ks) x.are, length-set old x.number x.ticket), sym (ap (λ (k : Ticket). is_freed k.stage) there) ∙ f)

below-end : (t n : ℕ) → t < n + 1 → t ≢ n → t < n
below-end zero zero l m = absurd (m refl)
below-end zero (suc n) l m = omega arith
below-end (suc t) zero l m = absurd (omega (arith, l))
below-end (suc t) (suc n) l m = omega (arith, below-end t n (omega (arith, l)) (λ e. m (ap (λ (x : ℕ). suc x) e)))

added-was : (caller : ℕ) (old new : List Ticket) (told : List Report) (x : OneMore caller old new) (t : ℕ) → t < length new → is_freed (at new t).stage ≡ true → WasFreed told old t
added-was caller old new told x t l f = elim (more-at old x.ticket t) [
  | inl e ↦
      inl (below-end t (length old) (omega (arith, l, ap (λ (ks : List Ticket). length ks) x.are, length-append old (x.ticket ∷ []))) e.1, sym (ap (λ (ks : List Ticket). is_freed (at ks t).stage) x.are ∙ ap (λ (k : Ticket). is_freed k.stage) e.0) ∙ f)
  | inr p ↦ clash (is_freed (at new t).stage) f (ap (λ (ks : List Ticket). is_freed (at ks t).stage) x.are ∙ ap (λ (k : Ticket). is_freed k.stage) p.0 ∙ x.live)
]

pub was_freed : (caller : ℕ) (old new : List Ticket) (told : List Report) → Changes told caller old new → (t : ℕ) → t < length new → is_freed (at new t).stage ≡ true → WasFreed told old t
was_freed caller old new told (inl e) t l f =
    inl (omega (arith, l, ap (λ (ks : List Ticket). length ks) e), sym (ap (λ (ks : List Ticket). is_freed (at ks t).stage) e) ∙ f)
was_freed caller old new told (inr (inl x)) t l f = changed-was caller old new told x t (same-or-not t x.number) l f
was_freed caller old new told (inr (inr x)) t l f = added-was caller old new told x t l f

pub grown : (old new : List Ticket) (number : Option ℕ) → Counted old number new → length old ≤ length new
grown old new number c = elim c [
  | inl x ↦ omega (arith, x.1)
  | inr x ↦ omega (arith, x.1)
]

-- ---- a ticket that another submitter has still to queue

not-held : {R : Type 0} (caller s : ℕ) (old new : Ticket) → s ≢ caller → GoesOn caller old new → IsHeldBy s old → R
not-held caller s old new n g h = elim g.whose [
  | inl e ↦ absurd (n (sym h.0 ∙ sym e))
  | inr u ↦ clash (is_unqueued old.stage) h.1 u.0
]

not-held-then : {R : Type 0} (caller s : ℕ) (old new : Ticket) → s ≢ caller → GoesOn caller old new → IsHeldBy s new → R
not-held-then caller s old new n g h = elim g.whose [
  | inl e ↦ absurd (n (sym h.0 ∙ ap (λ l. l.submitter) g.line ∙ sym e))
  | inr u ↦ clash (is_unqueued new.stage) h.1 u.1
]

changed-held : (caller s : ℕ) (old new : List Ticket) (told : List Report) (x : OneChanges told caller old new) (t : ℕ) → (t ≡ x.number) ⊎ (t ≢ x.number) → s ≢ caller → IsHeldBy s (at old t) ⊎ IsHeldBy s (at new t) → at new t ≡ at old t
changed-held caller s old new told x t (inr n) other h = ap (λ (ks : List Ticket). at ks t) x.are ∙ get_or-set_other old x.number t x.ticket no_ticket n
changed-held caller s old new told x t (inl e) other h =
    let here : at new t ≡ x.ticket =
    ap (λ (ks : List Ticket). at ks t) x.are ∙ ap (λ (n : ℕ). at (slice_set old x.number x.ticket) n) e
    ∙ get_or-set_same old x.number x.ticket no_ticket (not-freed-within old x.number x.goes_on.live) in
    elim h [
      | inl k ↦ not-held caller s (at old x.number) x.ticket other x.goes_on (subst (λ (n : ℕ). IsHeldBy s (at old n)) e k)
      | inr k ↦ not-held-then caller s (at old x.number) x.ticket other x.goes_on (subst (λ (y : Ticket). IsHeldBy s y) here k)
    ]

past : (ks : List Ticket) (t : ℕ) → length ks ≤ t → is_unqueued (at ks t).stage ≡ false
past [] t h = refl
past (k ∷ ks) zero h = absurd (omega (arith, h))
past (k ∷ ks) (suc t) h = past ks t (omega (arith, h))

added-held : (caller s : ℕ) (old new : List Ticket) (x : OneMore caller old new) (t : ℕ) → s ≢ caller → IsHeldBy s (at old t) ⊎ IsHeldBy s (at new t) → at new t ≡ at old t
added-held caller s old new x t other h = elim (more-at old x.ticket t) [
  | inl e ↦ ap (λ (ks : List Ticket). at ks t) x.are ∙ e.0
  | inr p ↦ elim h [
    | inl k ↦ clash (is_unqueued (at old t).stage) k.1 (past old t p.1)
    | inr k ↦
        let m : IsHeldBy s x.ticket = subst (λ (y : Ticket). IsHeldBy s y) (ap (λ (ks : List Ticket). at ks t) x.are ∙ p.0) k in
        absurd (other (sym m.0 ∙ x.by))
  ]
]

pub held_stays : (caller s : ℕ) (old new : List Ticket) (told : List Report) → Changes told caller old new → s ≢ caller → (t : ℕ) → IsHeldBy s (at old t) ⊎ IsHeldBy s (at new t) → at new t ≡ at old t
held_stays caller s old new told (inl e) other t h = ap (λ (ks : List Ticket). at ks t) e
held_stays caller s old new told (inr (inl x)) other t h = changed-held caller s old new told x t (same-or-not t x.number) other h
held_stays caller s old new told (inr (inr x)) other t h = added-held caller s old new x t other h
