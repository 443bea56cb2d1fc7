-- The last ticket of each submitter, as tickets are built and changed.
use Rattle.std.proofs.Common.{arith, ◌≡◌, ◌≢◌, ℕ, zero, suc, ◌<◌, ◌≤◌, List, [], ◌∷◌, ◌++◌, length, map, replicate, Option, Some, None, refl, sym, ap, subst, ◌∙◌, get_or, set, ⊎_elim, length-set, get_or-set_same, get_or-set_other}
use Rattle.std.proofs.lemmas.Bool.{cases_eq, cases_lt}
use Rattle.std.proofs.lemmas.List.{length-map, length-replicate, get_or-replicate, get_or-map, get_or_append_left, get_or_default, get_or_push, length_push, map-append}
use Rattle.rig_types.specs.declared.step.Line.{Line}
use Rattle.desk_law.specs.declared.ticket.Ticket.{Ticket}
use Rattle.desk_law.specs.Desk.{DeskState, no_ticket, ticket}
use Rattle.driver_desk.specs.LastTickets.{IsLastOf, submitter_of, IsLastAmong, AreLast}

pub last_of_none : (submitters : ℕ) → AreLast submitters (replicate submitters None) []
last_of_none n = record {
  count = length-replicate {A = Option ℕ} n None;
  last = λ s low. subst (λ (o : Option ℕ). IsLastAmong [] s o) (sym (get_or-replicate n s None None low)) (λ i small. absurd (omega (arith, small)));
}

-- ---- a ticket keeps its line

same-submitters : (xs : List Ticket) (t : ℕ) (k d : Ticket) → k.line ≡ (get_or xs t d).line → map submitter_of (set xs t k) ≡ map submitter_of xs
same-submitters [] zero k d e = refl
same-submitters [] (suc t) k d e = refl
same-submitters (x ∷ xs) zero k d e = ap (λ (l : Line). l.submitter ∷ map submitter_of xs) e
same-submitters (x ∷ xs) (suc t) k d e = ap (λ (ss : List ℕ). submitter_of x ∷ ss) (same-submitters xs t k d e)

pub last_stays : (submitters : ℕ) (lasts : List (Option ℕ)) (xs : List Ticket) (t : ℕ) (k d : Ticket) → AreLast submitters lasts xs → k.line ≡ (get_or xs t d).line
    → AreLast submitters lasts (set xs t k)
last_stays n lasts xs t k d h e = record {
  count = h.count;
  last = λ s low. subst (λ (ss : List ℕ). IsLastAmong ss s (get_or lasts s None)) (sym (same-submitters xs t k d e)) (h.last s low);
}

-- ---- a ticket more

more-by : (ss : List ℕ) (s new : ℕ) (o : Option ℕ) → ((i : ℕ) → i < length (ss ++ new ∷ []) → (i < length ss → get_or ss i 0 ≢ s) → get_or (ss ++ new ∷ []) i 0 ≢ s)
    → IsLastAmong ss s o → IsLastAmong (ss ++ new ∷ []) s o
more-by ss s new None apart h = λ i low. apart i low (λ l. h i l)
more-by ss s new (Some t) apart h =
    (omega (arith, h.0, length_push ss new), get_or_append_left ss (new ∷ []) 0 t h.0 ∙ h.1, λ i above low. apart i low (λ l. h.2 i above l))

more : (ss : List ℕ) (s new : ℕ) (o : Option ℕ) → new ≢ s → IsLastAmong ss s o → IsLastAmong (ss ++ new ∷ []) s o
more ss s new o other h =
    let apart : (i : ℕ) → i < length (ss ++ new ∷ []) → (i < length ss → get_or ss i 0 ≢ s) → get_or (ss ++ new ∷ []) i 0 ≢ s =
    λ i low before. ⊎_elim
    (λ (l : i < length ss). subst (λ (x : ℕ). x ≢ s) (sym (get_or_append_left ss (new ∷ []) 0 i l)) (before l))
    (λ (g : length ss ≤ i). let e : length ss ≡ i = omega (arith, g, low, length_push ss new) in subst (λ (x : ℕ). x ≢ s) (sym (get_or_push ss new 0 i e)) other)
    (cases_lt i (length ss)) in
    more-by ss s new o apart h

newest : (ss : List ℕ) (s n : ℕ) → length ss ≡ n → IsLastAmong (ss ++ s ∷ []) s (Some n)
newest ss s n e = (omega (arith, e, length_push ss s), get_or_push ss s 0 n e, λ i above low. absurd (omega (arith, above, low, e, length_push ss s)))

pub last_added : (submitters : ℕ) (lasts : List (Option ℕ)) (xs : List Ticket) (k : Ticket) (n : ℕ) → AreLast submitters lasts xs → k.line.submitter < submitters → n ≡ length xs
    → AreLast submitters (set lasts k.line.submitter (Some n)) (xs ++ k ∷ [])
last_added submitters lasts xs k n h low e =
    let u = k.line.submitter in
    let ss = map submitter_of xs in
    let long : length ss ≡ n = length-map xs submitter_of ∙ sym e in
    record {
      count = length-set lasts u (Some n) ∙ h.count;
      last = λ s small. subst (λ (zs : List ℕ). IsLastAmong zs s (get_or (set lasts u (Some n)) s None)) (sym (map-append submitter_of xs (k ∷ [])))
          (⊎_elim
          (λ (same : s ≡ u).
          subst (λ (v : ℕ). IsLastAmong (ss ++ u ∷ []) v (get_or (set lasts u (Some n)) v None)) (sym same)
          (subst (λ (o : Option ℕ). IsLastAmong (ss ++ u ∷ []) u o) (sym (get_or-set_same lasts u (Some n) None (omega (arith, low, h.count)))) (newest ss u n long)))
          (λ (other : s ≢ u).
          subst (λ (o : Option ℕ). IsLastAmong (ss ++ u ∷ []) s o) (sym (get_or-set_other lasts u s (Some n) None other))
          (more ss s u (get_or lasts s None) (λ f. other (sym f)) (h.last s small)))
          (cases_eq s u));
    }

-- ---- look-up

at-ticket : (d : DeskState) (xs : List Ticket) (i : ℕ) → xs ≡ d.tickets → i < length xs → get_or (map submitter_of xs) i 0 ≡ (ticket d i).line.submitter
at-ticket d xs i e low = get_or-map submitter_of xs i no_ticket 0 low ∙ ap (λ (ys : List Ticket). submitter_of (get_or ys i no_ticket)) e

pub last_found : (xs : List Ticket) (s : ℕ) (o : Option ℕ) (d : DeskState) → xs ≡ d.tickets → IsLastAmong (map submitter_of xs) s o → IsLastOf d s o
last_found xs s None d e h = λ i low.
    let there : i < length xs = omega (arith, low, ap length e) in
    subst (λ (x : ℕ). x ≢ s) (at-ticket d xs i e there) (h i (omega (arith, there, length-map xs submitter_of)))
last_found xs s (Some t) d e h =
    let there : t < length xs = omega (arith, h.0, length-map xs submitter_of) in (
      omega (arith, there, ap length e),
      sym (at-ticket d xs t e there) ∙ h.1,
      λ i above low. let below : i < length xs = omega (arith, low, ap length e) in
          subst (λ (x : ℕ). x ≢ s) (at-ticket d xs i e below) (h.2 i above (omega (arith, below, length-map xs submitter_of))),
    )

pub last_at : (submitters : ℕ) (lasts : List (Option ℕ)) (xs : List Ticket) (s : ℕ) (o : Option ℕ) (d : DeskState) → xs ≡ d.tickets → AreLast submitters lasts xs → s < submitters
    → o ≡ get_or lasts s o → IsLastOf d s o
last_at n lasts xs s o d e h low at =
    last_found xs s o d e
    (subst (λ (p : Option ℕ). IsLastAmong (map submitter_of xs) s p) (get_or_default lasts s None o (omega (arith, low, h.count)) ∙ sym at) (h.last s low))
