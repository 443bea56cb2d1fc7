-- Sets of tickets by stage follow the tickets, and the least number of a set is the least ticket of its stage.
use Rattle.std.proofs.Common.{arith, ◌≡◌, ◌≢◌, ℕ, ◌+◌, ◌<◌, ◌≤◌, Bool, true, false, List, [], ◌∷◌, ◌++◌, length, Option, Some, None, refl, sym, ap, subst, ◌∙◌, get_or, set, ⊎_elim, length-set, get_or-set_same, get_or-set_other}
use Rattle.std.specs.Prelude.{position, MatchOption}
use Rattle.std.proofs.lemmas.Bool.{cases_eq, cases_lt}
use Rattle.std.proofs.lemmas.List.{get_or_past, get_or_default, length_push}
use Rattle.std.proofs.lemmas.List.Quantifiers.{position-Some}
use Rattle.desk_law.specs.declared.stage.Stage.{Stage}
use Rattle.desk_law.specs.declared.stage.Stage.TheVariants.{Built, Linked, Freed}
use Rattle.desk_law.specs.declared.ticket.Ticket.{Ticket}
use Rattle.desk_law.specs.Desk.{no_ticket}
use Rattle.driver_desk.specs.declared.stage_sets.StageSets.{StageSets}
use Rattle.driver_desk.specs.Held.{at}
use Rattle.driver_desk.specs.Stages.{is_again, is_check, is_ended, is_unlinked}
use Rattle.driver_desk.specs.StageSets.{HasNumbers, AreFlagged, IsFlagged, Marks, IsOf, AreOf}
use Rattle.driver_desk.proofs.Keys.{not-both, same-some, none-passes, at-left, at-last}

-- ---- one set

of-none : (is : Stage → Bool) → is Freed ≡ false → IsOf is [] []
of-none is dead = record { room = omega arith; same = λ i. get_or_past [] i false (omega arith) ∙ sym (ap (λ (k : Ticket). is k.stage) (get_or_past [] i no_ticket (omega arith)) ∙ dead) }

of-more : (is : Stage → Bool) (old new : List Bool) (xs : List Ticket) → IsOf is old xs → IsFlagged old new → IsOf is new xs
of-more is old new xs h k = record { room = omega (arith, h.room, k.longer); same = λ i. k.same i ∙ h.same i }

of-set : (is : Stage → Bool) (flags flags' : List Bool) (xs : List Ticket) (t : ℕ) (k : Ticket) → IsOf is flags xs → t < length xs → flags' ≡ set flags t (is k.stage)
    → IsOf is flags' (set xs t k)
of-set is flags flags' xs t k h there e =
    let low : t < length flags = omega (arith, there, h.room) in
    subst (λ (fs : List Bool). IsOf is fs (set xs t k)) (sym e)
    (record {
      room = omega (arith, h.room, length-set flags t (is k.stage), length-set xs t k);
      same = λ i. ⊎_elim
          (λ (same : i ≡ t).
          subst (λ (j : ℕ). get_or (set flags t (is k.stage)) j false ≡ is (at (set xs t k) j).stage) (sym same)
          (get_or-set_same flags t (is k.stage) false low ∙ sym (ap (λ (x : Ticket). is x.stage) (get_or-set_same xs t k no_ticket there))))
          (λ (other : i ≢ t).
          get_or-set_other flags t i (is k.stage) false other ∙ h.same i ∙ sym (ap (λ (x : Ticket). is x.stage) (get_or-set_other xs t i k no_ticket other)))
          (cases_eq i t);
    })

-- a stage of the same kind
of-same : (is : Stage → Bool) (flags : List Bool) (xs : List Ticket) (t : ℕ) (k : Ticket) → IsOf is flags xs → t < length xs → is k.stage ≡ is (at xs t).stage
    → IsOf is flags (set xs t k)
of-same is flags xs t k h there e = record {
  room = omega (arith, h.room, length-set xs t k);
  same = λ i. ⊎_elim
      (λ (same : i ≡ t).
      subst (λ (j : ℕ). get_or flags j false ≡ is (at (set xs t k) j).stage) (sym same)
      (h.same t ∙ sym e ∙ sym (ap (λ (x : Ticket). is x.stage) (get_or-set_same xs t k no_ticket there))))
      (λ (other : i ≢ t). h.same i ∙ sym (ap (λ (x : Ticket). is x.stage) (get_or-set_other xs t i k no_ticket other)))
      (cases_eq i t);
}

of-built : (is : Stage → Bool) (flags : List Bool) (xs : List Ticket) (k : Ticket) → is Freed ≡ false → IsOf is flags xs → length xs < length flags → is k.stage ≡ false
    → IsOf is flags (xs ++ k ∷ [])
of-built is flags xs k dead h room none =
    let past : (ys : List Ticket) (i : ℕ) → length ys ≤ i → is (at ys i).stage ≡ false =
    λ ys i high. ap (λ (x : Ticket). is x.stage) (get_or_past ys i no_ticket high) ∙ dead in
    record {
      room = omega (arith, room, length_push xs k);
      same = λ i. ⊎_elim
          (λ (low : i < length xs). h.same i ∙ sym (ap (λ (x : Ticket). is x.stage) (at-left xs k i low)))
          (λ (high : length xs ≤ i).
          h.same i ∙ past xs i high
          ∙ sym (⊎_elim
          (λ (last : i ≡ length xs). ap (λ (x : Ticket). is x.stage) (at-last xs k i (sym last)) ∙ none)
          (λ (further : i ≢ length xs). past (xs ++ k ∷ []) i (omega (arith, high, further, length_push xs k)))
          (cases_eq i (length xs))))
          (cases_lt i (length xs));
    }

-- ---- the least

by-least : (p : Ticket → Bool) (xs : List Ticket) (o s : Option ℕ) → s ≡ position p xs → (o ≡ None → (i : ℕ) → p (at xs i) ≡ false)
    → ((i : ℕ) → o ≡ Some i → (i < length xs) × (p (at xs i) ≡ true) × ((j : ℕ) → j < i → p (at xs j) ≡ false)) → o ≡ s
by-least p xs None None e none some = refl
by-least p xs None (Some j) e none some = not-both (p (at xs j)) (position-Some p xs j no_ticket (sym e)).1 (none refl j)
by-least p xs (Some i) None e none some = let q = some i refl in absurd (none-passes p xs i (sym e) q.0 q.1)
by-least p xs (Some i) (Some j) e none some =
    let q = some i refl in
    let r = position-Some p xs j no_ticket (sym e) in
    ⊎_elim
    (λ (low : i < j). not-both (p (at xs i)) q.1 (r.2 i low))
    (λ (high : j ≤ i).
    ⊎_elim
    (λ (same : i ≡ j). ap (λ (n : ℕ). Some n) same)
    (λ (other : i ≢ j). not-both (p (at xs j)) r.1 (q.2 j (omega (arith, high, other))))
    (cases_eq i j))
    (cases_lt i j)

below : (is : Stage → Bool) (xs : List Ticket) (i : ℕ) → is Freed ≡ false → is (at xs i).stage ≡ true → i < length xs
below is xs i dead so =
    ⊎_elim
    (λ (low : i < length xs). low)
    (λ (high : length xs ≤ i). not-both (is (at xs i).stage) so (ap (λ (x : Ticket). is x.stage) (get_or_past xs i no_ticket high) ∙ dead))
    (cases_lt i (length xs))

-- what the set answers
abbrev pub IsLeastOf : List Bool → Option ℕ → Type 0
IsLeastOf flags o =
    MatchOption o ((i : ℕ) → get_or flags i false ≡ false) (λ (i : ℕ). (get_or flags i false ≡ true) × ((j : ℕ) → j < i → get_or flags j false ≡ false))

pub least_is : (is : Stage → Bool) (flags : List Bool) (xs : List Ticket) (o : Option ℕ) → is Freed ≡ false → IsOf is flags xs → IsLeastOf flags o
    → o ≡ position (λ (k : Ticket). is k.stage) xs
least_is is flags xs None dead h least =
    by-least (λ (k : Ticket). is k.stage) xs None (position (λ (k : Ticket). is k.stage) xs) refl (λ e i. sym (h.same i) ∙ least i) (λ i e. absurd cc)
least_is is flags xs (Some n) dead h least =
    let so : is (at xs n).stage ≡ true = sym (h.same n) ∙ least.0 in
    let all : (n < length xs) × (is (at xs n).stage ≡ true) × ((j : ℕ) → j < n → is (at xs j).stage ≡ false) =
    (below is xs n dead so, so, λ j low. sym (h.same j) ∙ least.1 j low) in
    by-least (λ (k : Ticket). is k.stage) xs (Some n) (position (λ (k : Ticket). is k.stage) xs) refl (λ e. absurd cc)
    (λ i e. subst (λ (m : ℕ). (m < length xs) × (is (at xs m).stage ≡ true) × ((j : ℕ) → j < m → is (at xs j).stage ≡ false)) (same-some n i e) all)

-- ---- the four sets

pub sets_of_none : (s : StageSets) → s.again ≡ [] → s.check ≡ [] → s.ended ≡ [] → s.unlinked ≡ [] → AreOf s []
sets_of_none s again check ended unlinked = record {
  again = subst (λ (fs : List Bool). IsOf is_again fs []) (sym again) (of-none is_again refl);
  check = subst (λ (fs : List Bool). IsOf is_check fs []) (sym check) (of-none is_check refl);
  ended = subst (λ (fs : List Bool). IsOf is_ended fs []) (sym ended) (of-none is_ended refl);
  unlinked = subst (λ (fs : List Bool). IsOf is_unlinked fs []) (sym unlinked) (of-none is_unlinked refl);
}

pub sets_more : (old new : StageSets) (xs : List Ticket) → AreOf old xs → AreFlagged old new → AreOf new xs
sets_more old new xs h k = record {
  again = of-more is_again old.again new.again xs h.again k.again;
  check = of-more is_check old.check new.check xs h.check k.check;
  ended = of-more is_ended old.ended new.ended xs h.ended k.ended;
  unlinked = of-more is_unlinked old.unlinked new.unlinked xs h.unlinked k.unlinked;
}

pub sets_marked : (old new : StageSets) (xs : List Ticket) (t : ℕ) (k : Ticket) → AreOf old xs → t < length xs → Marks old t k.stage new → AreOf new (set xs t k)
sets_marked old new xs t k h there m = record {
  again = of-set is_again old.again new.again xs t k h.again there m.again;
  check = of-set is_check old.check new.check xs t k h.check there m.check;
  ended = of-set is_ended old.ended new.ended xs t k h.ended there m.ended;
  unlinked = of-set is_unlinked old.unlinked new.unlinked xs t k h.unlinked there m.unlinked;
}

-- a stage that is in none of the sets becomes another one
pub record IsApart (s : Stage) : Type 0 where
  pub again : is_again s ≡ false
  pub check : is_check s ≡ false
  pub ended : is_ended s ≡ false
  pub unlinked : is_unlinked s ≡ false

pub sets_stay : (s : StageSets) (xs : List Ticket) (t : ℕ) (k : Ticket) → AreOf s xs → t < length xs → IsApart k.stage → IsApart (at xs t).stage → AreOf s (set xs t k)
sets_stay s xs t k h there new old = record {
  again = of-same is_again s.again xs t k h.again there (new.again ∙ sym old.again);
  check = of-same is_check s.check xs t k h.check there (new.check ∙ sym old.check);
  ended = of-same is_ended s.ended xs t k h.ended there (new.ended ∙ sym old.ended);
  unlinked = of-same is_unlinked s.unlinked xs t k h.unlinked there (new.unlinked ∙ sym old.unlinked);
}

pub sets_built : (s : StageSets) (xs : List Ticket) (k : Ticket) → AreOf s xs → HasNumbers (length xs + 1) s → IsApart k.stage → AreOf s (xs ++ k ∷ [])
sets_built s xs k h r a = record {
  again = of-built is_again s.again xs k refl h.again (omega (arith, r.again)) a.again;
  check = of-built is_check s.check xs k refl h.check (omega (arith, r.check)) a.check;
  ended = of-built is_ended s.ended xs k refl h.ended (omega (arith, r.ended)) a.ended;
  unlinked = of-built is_unlinked s.unlinked xs k refl h.unlinked (omega (arith, r.unlinked)) a.unlinked;
}

-- the numbers of tickets have room
pub numbers_of : (s : StageSets) (xs : List Ticket) (n : ℕ) → AreOf s xs → n ≤ length xs → HasNumbers n s
numbers_of s xs n h low = record {
  again = omega (arith, low, h.again.room);
  check = omega (arith, low, h.check.room);
  ended = omega (arith, low, h.ended.room);
  unlinked = omega (arith, low, h.unlinked.room);
}

pub built_apart : IsApart Built
built_apart = record { again = refl; check = refl; ended = refl; unlinked = refl }

pub linked_apart : IsApart Linked
linked_apart = record { again = refl; check = refl; ended = refl; unlinked = refl }

-- the stage of a built ticket
pub apart_at : (xs : List Ticket) (t : ℕ) (k : Ticket) → t < length xs → k ≡ get_or xs t k → k.stage ≡ Built → IsApart (at xs t).stage
apart_at xs t k there e built =
    subst (λ (s : Stage). IsApart s) (sym (ap (λ (x : Ticket). x.stage) (get_or_default xs t no_ticket k there ∙ sym e) ∙ built)) built_apart
