-- Each step keeps the rule, seat by seat.
use Rattle.std.proofs.Common.{◌≡◌, ◌≢◌, ℕ, ◌+◌, ◌-◌, ◌%◌, ◌^◌, ◌<◌, ◌≤◌, eqb, List, [], ◌∷◌, ◌++◌, length, set, slice_index, sym, refl, ap, ◌∙◌, subst, ⊎_elim, inl, inr, arith, Bool, true, false, cond, ltb, ◌||◌, Some, drop, length-set, length-append, eq-eqb, ne_eqb, eqb-true, ltb-true, ltb-false, append-nil, append_assoc, get_or}
use Rattle.std.proofs.lemmas.List.{drop-append-le}
use Rattle.std.proofs.lemmas.List.Elements.{filter-append}
use Rattle.std.proofs.Math.Seq.{drop-append_seam}
use mathlib.Core.Option.{some, none, some-injective, some-ne-none}
use mathlib.Core.Option as maybe
use mathlib.Core.Logic.{dite}
use native.Mathlib.Decide.{ℕ_discrete}
use lib.ListN.{get_elem?}
use Rattle.atomic_table.specs.Table.{State, Me, step, Act, keeps, takes, gives, Valid, stepped, homes_after, carried_after, Allows, Splits, Joins, Final, Seen, rest}
use Rattle.atomic_table.specs.Table as Table
use Rattle.atomic_table.proofs.Lists.{set_here, set_else, set_again, at_longer}
use Rattle.bench_lock.specs.declared.view.View.{View}
use Rattle.bench_lock.specs.Log.{entries_of, Begins, has, entry, added}
use Rattle.bench_lock.specs.Rule.{ticket_count, spare_count}
use Rattle.bench_lock.proofs.Seatwise.{SeatOk, Homed, Kept}
use Rattle.bench_lock.specs.Views.{IsOwn, Rests, with_ticket, with_turn, with_list, without_ticket, left_view, right_view, merged_view, spent_view, longer, shorter, compared_view, first_view, Compares, Knows, Draws, Takes, Looks, Counts, Passes}
use Rattle.bench_lock.specs.Stepped.{Stepped}
use Rattle.bench_lock.proofs.Own.{own_to, others_since, own_longer, none_before}
use Rattle.bench_lock.proofs.Numbers.{draw_mod, pass_mod, first_place, dec_zero, total_set, total_le, inside, one_view, seats_set, prefix_of, total-append, at_end, true_false, has-append, has_one, has_without, without_less, not_retired, not_retired', or_cases, has_below, length-numbers_from, drop_all}

module _ {M O T : Type 0} (opening : M → O) (list : M → List (ℕ × T)) (o : O) (base callers : ℕ) where
  abbrev V : Type 0
  V = View O T

  abbrev St : Type 0
  St = State M V

  abbrev Sat : Type 0
  Sat = Me M V

  abbrev K : St → Type 0
  K = Kept opening list o base callers

  -- what a step on the word i has to give, of the words, the slots and the views
  abbrev Goal : ℕ → Sat → ℕ → (ℕ → ℕ) → (ℕ → Sat → Type 0) → List V → List ℕ → List (maybe.Option M) → Type 0
  Goal id me i f then views ws hs = (w : V) × (a : Act M) × Valid hs me.1 a × K record { words = set ws i (f (slice_index ws i)); homes = homes_after hs me.1 a; views = set views id w } × then (slice_index ws i) (w, carried_after me.1 a)

  shaped : (id : ℕ) (me : Sat) (i : ℕ) (f : ℕ → ℕ) (then : ℕ → Sat → Type 0) (views : List V) (ws ws' : List ℕ) (hs hs' : List (maybe.Option M)) → ws ≡ ws' → hs ≡ hs'
      → Goal id me i f then views ws' hs' → Goal id me i f then views ws hs
  shaped id me i f then views ws ws' hs hs' e h g = subst (λ (z : List ℕ × List (maybe.Option M)). Goal id me i f then views z.0 z.1) (λ k. (sym e k, sym h k)) g

  homed_stays : (home : maybe.Option M) (log : List (ℕ × T)) (views : List V) (id : ℕ) (v w : V) → get_elem? views id ≡ some v → v.turn ≡ false
      → Homed opening list o log views home → Homed opening list o log (set views id w) home
  homed_stays (some m) log views id v w at off h = h
  homed_stays none log views id v w at off h = let ne : h.0 ≢ id = λ e. let same : h.1.turn ≡ v.turn = ap (λ (u : V). u.turn) (one_view views id h.0 v h.1 at h.2 e) in cc (sym h.3 ∙ (same ∙ off)) in
      (h.0, h.1, set_else views id h.0 w ne ∙ h.2, h.3)

  -- the holders after the seat `id` has drawn the ticket at the place `out`
  abbrev queued : ℕ → (ℕ → ℕ) → ℕ → ℕ → ℕ
  queued out holder id k = cond (eqb k out) id (holder k)

  queued_last : (out : ℕ) (holder : ℕ → ℕ) (id : ℕ) → queued out holder id out ≡ id
  queued_last out holder id = ap (λ (b : Bool). cond b id (holder out)) (eq-eqb out out refl)

  queued_before : (out : ℕ) (holder : ℕ → ℕ) (id k : ℕ) → k < out → queued out holder id k ≡ holder k
  queued_before out holder id k lt = let ne : k ≢ out = λ e. omega arith in ap (λ (b : Bool). cond b id (holder k)) (ne_eqb k out ne)

  pub draws : (slots id : ℕ) (v : Sat) → Rests v.0 → Allows K slots id v 0 (λ n. (n + 1) % 2 ^ 64) (Draws (step slots 0 1 0 none) v)
  draws slots id v rests s r one at small =
      let me = r.seats id v.0 at in
      let w : V = with_ticket r.next v.0 in
      let new : K record { words = ((r.next + 1) % 2 ^ 64) ∷ r.serving ∷ length r.log ∷ []; homes = r.home ∷ []; views = set s.views id w } = record {
        next = (r.next + 1) % 2 ^ 64;
        serving = r.serving;
        log = r.log;
        out = r.out + 1;
        home = r.home;
        holder = queued r.out r.holder id;
        owner = r.owner;
        words = refl;
        homes = refl;
        numbered = (ap (λ (n : ℕ). (n + 1) % 2 ^ 64) r.numbered.0 ∙ draw_mod r.serving r.out, r.numbered.1);
        few = (
          let t = total_set ticket_count s.views id v.0 w at in let off : ticket_count v.0 ≡ 0 = ap (λ (b : Bool). cond b 1 0) rests.1 in let h = r.few.0 in omega arith,
          (let t = total_set spare_count s.views id v.0 w at in let l = length-set s.views id w in let h = r.few.1 in omega arith),
          r.few.2,
        );
        begun = r.begun;
        homed = homed_stays r.home r.log s.views id v.0 w at rests.2 r.homed;
        seats = seats_set (SeatOk r.home r.serving (r.out + 1) r.log o base callers (queued r.out r.holder id) r.owner) s.views id w
            (record {
              place = λ _. (r.out, omega arith, queued_last r.out r.holder id, r.numbered.0);
              live = λ _. rests.0;
              turn = λ on. absurd (cc (sym on ∙ rests.2));
              seen = me.seen;
              told = me.told;
              fixed = me.fixed;
              caller = me.caller;
              spare = me.spare;
              retired = me.retired;
              apart = me.apart;
              known = me.known;
            })
            (λ j u ne there. let ok = r.seats j u there in record {
              place = λ on. let p = ok.place on in (p.0, (let lt = p.1 in omega arith), queued_before r.out r.holder id p.0 p.1 ∙ p.2, p.3);
              live = ok.live;
              turn = ok.turn;
              seen = ok.seen;
              told = ok.told;
              fixed = ok.fixed;
              caller = ok.caller;
              spare = ok.spare;
              retired = ok.retired;
              apart = ok.apart;
              known = ok.known;
            });
      } in
      shaped id v 0 (λ n. (n + 1) % 2 ^ 64) (Draws (step slots 0 1 0 none) v) s.views s.words (r.next ∷ r.serving ∷ length r.log ∷ []) s.homes (r.home ∷ []) r.words r.homes
      (w, keeps, tt, new, refl)

  ticket_le : (w : V) → ticket_count w ≤ 1
  ticket_le w = elim w.has_ticket as (λ b. cond b 1 0 ≤ 1) [ true ↦ omega arith | false ↦ omega arith ]

  few_out : (s : St) (r : K s) → r.out < 2 ^ 32
  few_out s r = let l = total_le ticket_count ticket_le s.views in let a = r.few.0 in let b = r.few.1 in let c = r.few.2 in omega arith

  -- the same where the seat keeps its turn
  homed_same : (home : maybe.Option M) (log : List (ℕ × T)) (views : List V) (id : ℕ) (v w : V) → get_elem? views id ≡ some v → w.turn ≡ v.turn → Homed opening list o log views home → Homed opening list o log (set views id w) home
  homed_same (some m) log views id v w at same h = h
  homed_same none log views id v w at same h = dite (ℕ_discrete h.0 id)
      (λ e. (id, w, set_here views id w (inside views id v at), same ∙ (ap (λ (u : V). u.turn) (sym (one_view views id h.0 v h.1 at h.2 e)) ∙ h.3)))
      (λ ne. (h.0, h.1, set_else views id h.0 w ne ∙ h.2, h.3))

  homed_longer : (home : maybe.Option M) (log : List (ℕ × T)) (views : List V) (w : V) → Homed opening list o log views home → Homed opening list o log (views ++ w ∷ []) home
  homed_longer (some m) log views w h = h
  homed_longer none log views w h = (h.0, h.1, at_longer views (w ∷ []) h.0 h.1 h.2, h.3)

  -- the slot is at home while the seat's ticket is with_turn and it has not taken the turn
  taken : (s : St) (r : K s) (id : ℕ) (v : V) → get_elem? s.views id ≡ some v → v.has_ticket ≡ true → v.turn ≡ false → r.serving ≡ v.ticket
      → (home : maybe.Option M) → home ≡ r.home → Homed opening list o r.log s.views home → (y : M) × (home ≡ some y) × (opening y ≡ o) × (list y ≡ r.log)
  taken s r id v at on off is (some y) e h = (y, refl, h.0, h.1)
  taken s r id v at on off is none e h =
      let j : ℕ = h.0 in let u : V = h.1 in
      let mine = (r.seats id v at).place on in
      let ok = r.seats j u h.2 in
      let theirs = ok.place (ok.turn h.3).0 in
      let few : r.out < 2 ^ 32 = few_out s r in
      let a : mine.0 ≡ 0 = first_place r.serving mine.0 r.numbered.1 (let lt = mine.1 in omega arith) (is ∙ mine.3) in
      let b : theirs.0 ≡ 0 = first_place r.serving theirs.0 r.numbered.1 (let lt = theirs.1 in omega arith) (sym (ok.turn h.3).1 ∙ theirs.3) in
      let same : j ≡ id = sym theirs.2 ∙ (ap r.holder (b ∙ sym a) ∙ mine.2) in
      let view : u ≡ v = one_view s.views id j v u at h.2 same in
      absurd (cc (sym h.3 ∙ (ap (λ (z : V). z.turn) view ∙ off)))

  -- one seat at most has the turn
  alone : (s : St) (r : K s) (i j : ℕ) (v u : V) → get_elem? s.views i ≡ some v → get_elem? s.views j ≡ some u → v.turn ≡ true → u.turn ≡ true → j ≡ i
  alone s r i j v u at there on turn =
      let few : r.out < 2 ^ 32 = few_out s r in
      let a = r.seats i v at in let mine = a.place (a.turn on).0 in
      let b = r.seats j u there in let theirs = b.place (b.turn turn).0 in
      let p : mine.0 ≡ 0 = first_place r.serving mine.0 r.numbered.1 (let lt = mine.1 in omega arith) (sym (a.turn on).1 ∙ mine.3) in
      let q : theirs.0 ≡ 0 = first_place r.serving theirs.0 r.numbered.1 (let lt = theirs.1 in omega arith) (sym (b.turn turn).1 ∙ theirs.3) in
      sym theirs.2 ∙ (ap r.holder (q ∙ sym p) ∙ mine.2)

  -- the rule where the seat only reads a word
  unchanged : (s : St) (r : K s) (id : ℕ) (v : V) → get_elem? s.views id ≡ some v → K record { words = r.next ∷ r.serving ∷ length r.log ∷ []; homes = r.home ∷ []; views = set s.views id v }
  unchanged s r id v at =
      let same : set s.views id v ≡ s.views = set_again s.views id v at in
      subst (λ (vs : List V). K record { words = r.next ∷ r.serving ∷ length r.log ∷ []; homes = r.home ∷ []; views = vs }) (sym same) record {
        next = r.next;
        serving = r.serving;
        log = r.log;
        out = r.out;
        home = r.home;
        holder = r.holder;
        owner = r.owner;
        words = refl;
        homes = refl;
        numbered = r.numbered;
        few = r.few;
        begun = r.begun;
        homed = r.homed;
        seats = r.seats;
      }

  looks_on : (slots id : ℕ) (v : Sat) → v.0.has_ticket ≡ true → v.0.turn ≡ false → (s : St) → (r : K s) → get_elem? s.views id ≡ some v.0
      → (b : Bool) → (eqb r.serving v.0.ticket) ≡ b
      → Goal id v 1 (λ n. n) (Looks opening list (step slots 1 0 0 none) v) s.views (r.next ∷ r.serving ∷ length r.log ∷ []) (r.home ∷ [])
  looks_on slots id v on off s r at false is =
      (v.0, keeps, tt, unchanged s r id v.0 at, rw is refl)
  looks_on slots id v on off s r at true is =
      let served_now : r.serving ≡ v.0.ticket = eqb-true r.serving v.0.ticket is in
      let t = taken s r id v.0 at on off served_now r.home refl r.homed in
      let y : M = t.0 in
      let here : r.home ≡ some y = t.1 in
      let me = r.seats id v.0 at in
      let live : v.0.live ≡ true = me.live on in
      let w : V = with_turn (list y) v.0 in
      let own : IsOwn v.0 (list y) = subst (λ (es : List (ℕ × T)). IsOwn v.0 es) (sym t.3) (own_to v.0 base r.log (me.fixed live).1 r.begun (me.caller live).2) in
      let new : K record { words = r.next ∷ r.serving ∷ length r.log ∷ []; homes = none ∷ []; views = set s.views id w } = record {
        next = r.next;
        serving = r.serving;
        log = r.log;
        out = r.out;
        home = none;
        holder = r.holder;
        owner = r.owner;
        words = refl;
        homes = refl;
        numbered = r.numbered;
        few = (
          let t = total_set ticket_count s.views id v.0 w at in let h = r.few.0 in omega arith,
          (let t = total_set spare_count s.views id v.0 w at in let l = length-set s.views id w in let h = r.few.1 in omega arith),
          r.few.2,
        );
        begun = r.begun;
        homed = (id, w, set_here s.views id w (inside s.views id v.0 at), refl);
        seats = seats_set (SeatOk {M = M} none r.serving r.out r.log o base callers r.holder r.owner) s.views id w
            (record { place = me.place; live = me.live; turn = λ _. (on, sym served_now, t.3, refl); seen = ([], sym t.3 ∙ sym (append-nil (list y))); told = me.told; fixed = me.fixed; caller = me.caller; spare = me.spare; retired = me.retired; apart = me.apart; known = λ _. own })
            (λ j u ne there. let ok = r.seats j u there in record { place = ok.place; live = ok.live; turn = λ turn. absurd (some-ne-none y (sym here ∙ (ok.turn turn).3)); seen = ok.seen; told = ok.told; fixed = ok.fixed; caller = ok.caller; spare = ok.spare; retired = ok.retired; apart = ok.apart; known = ok.known });
      } in (
        w,
        takes 0 y,
        ap some here,
        new,
        rw is (
          y,
          (
            refl,
            others_since v.0 (list y) (me.known live) own (subst (λ (es : List (ℕ × T)). Begins v.0.seen es) (sym t.3) me.seen),
            (me.fixed live).0 ∙ ap (λ (p : O). Some p) (sym t.2),
            own,
          ),
        ),
      )

  pub looks : (slots id : ℕ) (v : Sat) → v.0.has_ticket ≡ true → v.0.turn ≡ false → Allows K slots id v 1 (λ n. n) (Looks opening list (step slots 1 0 0 none) v)
  looks slots id v on off s r one at small =
      shaped id v 1 (λ n. n) (Looks opening list (step slots 1 0 0 none) v) s.views s.words (r.next ∷ r.serving ∷ length r.log ∷ []) s.homes (r.home ∷ []) r.words r.homes
      (looks_on slots id v on off s r at (eqb r.serving v.0.ticket) refl)

  -- entries that others did not make
  more : (log es : List (ℕ × T)) (x : ℕ) → base ≤ length log → entries_of x es ≡ [] → entries_of x (drop base (log ++ es)) ≡ entries_of x (drop base log)
  more log es x le theirs = ap (entries_of x) (drop-append-le base log es le) ∙ (filter-append (λ (e : ℕ × T). eqb e.0 x) (drop base log) es ∙ (ap (λ l. entries_of x (drop base log) ++ l) theirs ∙ append-nil (entries_of x (drop base log))))

  same_held : (y z : M) → let l : List (ℕ × M) = (0, y) ∷ [] in let m : List (ℕ × M) = (0, z) ∷ [] in l ≡ m → y ≡ z
  same_held y z e = ap (λ (l : List (ℕ × M)). (get_or l 0 (0, y)).1) e

  counts_held : (slots id : ℕ) (v : V) (y : M) (es : List (ℕ × T)) (k : ℕ) → v.live ≡ true → v.turn ≡ true → length (list y) < 2 ^ 32 → list y ≡ v.seen ++ es → k ≡ length es
      → entries_of v.caller es ≡ es → ((x : ℕ) → x ≢ v.caller → entries_of x es ≡ []) → Allows K slots id (v, (0, y) ∷ []) 2 (λ n. (n + k) % 2 ^ 64) (Counts opening list (step slots 2 k 0 none) (v, (0, y) ∷ []))
  counts_held slots id v y es k live on short adds many own others s r one at small =
      let me = r.seats id v at in let turn = me.turn on in
      let longer : list y ≡ r.log ++ es = adds ∙ ap (λ (l : List (ℕ × T)). l ++ es) turn.2 in
      let w : V = with_list (list y) v in
      let c : ℕ = (length r.log + k) % 2 ^ 64 in
      let count : c ≡ length (list y) = (let l = ap length longer ∙ length-append r.log es in omega arith) in
      let added_is : drop (length v.seen) (list y) ≡ es = ap (drop (length v.seen)) adds ∙ drop-append_seam v.seen es in
      let keep : (x : ℕ) → x ≢ v.caller → entries_of x (drop base (list y)) ≡ entries_of x (drop base r.log) = λ x ne. ap (λ (l : List (ℕ × T)). entries_of x (drop base l)) longer ∙ more r.log es x r.begun (others x ne) in
      let all : v.own ++ drop (length v.seen) (list y) ≡ entries_of v.caller (drop base (list y)) =
      ap (λ (l : List (ℕ × T)). v.own ++ l) added_is ∙ ((λ i. (me.caller live).2 i ++ sym own i)
      ∙ (sym (filter-append (λ (e : ℕ × T). eqb e.0 v.caller) (drop base r.log) es) ∙ (ap (entries_of v.caller) (sym (drop-append-le base r.log es r.begun)) ∙ ap (λ (l : List (ℕ × T)). entries_of v.caller (drop base l)) (sym longer)))) in
      let begins : (seen : List (ℕ × T)) → Begins seen r.log → Begins seen (list y) = λ seen b. (b.0 ++ es, longer ∙ (ap (λ (l : List (ℕ × T)). l ++ es) b.1 ∙ append_assoc seen b.0 es)) in
      let begun : base ≤ length (list y) = (let b = r.begun in let l = ap length longer ∙ length-append r.log es in omega arith) in
      let new : K record { words = r.next ∷ r.serving ∷ c ∷ []; homes = none ∷ []; views = set s.views id w } = record {
        next = r.next;
        serving = r.serving;
        log = list y;
        out = r.out;
        home = none;
        holder = r.holder;
        owner = r.owner;
        words = ap (λ (n : ℕ). r.next ∷ r.serving ∷ n ∷ []) count;
        homes = refl;
        numbered = r.numbered;
        few = (
          let t = total_set ticket_count s.views id v w at in let h = r.few.0 in omega arith,
          (let t = total_set spare_count s.views id v w at in let l = length-set s.views id w in let h = r.few.1 in omega arith),
          r.few.2,
        );
        begun = begun;
        homed = (id, w, set_here s.views id w (inside s.views id v at), on);
        seats = seats_set (SeatOk {M = M} none r.serving r.out (list y) o base callers r.holder r.owner) s.views id w
            (record {
              place = me.place;
              live = me.live;
              turn = λ _. (turn.0, turn.1, refl, refl);
              seen = ([], sym (append-nil (list y)));
              told = begins v.told me.told;
              fixed = me.fixed;
              caller = λ l. ((me.caller l).0, (me.caller l).1, all);
              spare = λ x h. let a = me.spare x h in (a.0, a.1, a.2, keep x a.2 ∙ a.3, a.4);
              retired = me.retired;
              apart = me.apart;
              known = λ l. own_to w base (list y) (me.fixed l).1 begun all;
            })
            (λ j u ne there. let ok = r.seats j u there in
            let apart : (x : ℕ) → r.owner x ≡ j → x ≢ v.caller = λ x e is. ne (sym e ∙ (ap r.owner is ∙ (me.caller live).1)) in record {
              place = ok.place;
              live = ok.live;
              turn = λ t. absurd (ne (alone s r id j v u at there on t));
              seen = begins u.seen ok.seen;
              told = begins u.told ok.told;
              fixed = ok.fixed;
              caller = λ l. let a = ok.caller l in (a.0, a.1, a.2 ∙ sym (keep u.caller (apart u.caller a.1)));
              spare = λ x h. let a = ok.spare x h in (a.0, a.1, a.2, keep x (apart x a.1) ∙ a.3, a.4);
              retired = ok.retired;
              apart = ok.apart;
              known = ok.known;
            });
      } in
      shaped id (v, (0, y) ∷ []) 2 (λ n. (n + k) % 2 ^ 64) (Counts opening list (step slots 2 k 0 none) (v, (0, y) ∷ [])) s.views s.words (r.next ∷ r.serving ∷ length r.log ∷ []) s.homes (none ∷ []) r.words (r.homes ∙ ap (λ (h : maybe.Option M). h ∷ []) turn.3)
      (w, keeps, tt, new, λ z e. ap (λ (x : M). let u : V = with_list (list x) v in (u, (0, y) ∷ [])) (same_held y z e))

  pub counts : (slots id : ℕ) (v : Sat) (y : M) (es : List (ℕ × T)) (k : ℕ) → v.0.live ≡ true → v.0.turn ≡ true → v.1 ≡ (0, y) ∷ [] → length (list y) < 2 ^ 32 → list y ≡ v.0.seen ++ es → k ≡ length es
      → entries_of v.0.caller es ≡ es → ((x : ℕ) → x ≢ v.0.caller → entries_of x es ≡ []) → Allows K slots id v 2 (λ n. (n + k) % 2 ^ 64) (Counts opening list (step slots 2 k 0 none) v)
  counts slots id v y es k live on held short adds many own others =
      subst (λ (l : List (ℕ × M)). Allows K slots id (v.0, l) 2 (λ n. (n + k) % 2 ^ 64) (Counts opening list (step slots 2 k 0 none) (v.0, l))) (sym held) (counts_held slots id v.0 y es k live on short adds many own others)

  passes_held : (slots id : ℕ) (v : V) (y : M) → v.turn ≡ true → list y ≡ v.seen → v.opening ≡ Some (opening y)
      → Allows K slots id (v, (0, y) ∷ []) 1 (λ n. (n + 1) % 2 ^ 64) (Passes (step slots 1 1 0 none) (v, (0, y) ∷ []))
  passes_held slots id v y on lists opens s r one at small =
      let me = r.seats id v at in let turn = me.turn on in
      let few : r.out < 2 ^ 32 = few_out s r in
      let mine = me.place turn.0 in
      let first : mine.0 ≡ 0 = first_place r.serving mine.0 r.numbered.1 (let lt = mine.1 in omega arith) (sym turn.1 ∙ mine.3) in
      let some_out : 0 < r.out = (let lt = mine.1 in omega arith) in
      let w : V = without_ticket v in
      let with_turn' : ℕ = (r.serving + 1) % 2 ^ 64 in
      let onward : ℕ → ℕ = λ k. r.holder (k + 1) in
      let same : opening y ≡ o = (let h : Some (opening y) ≡ Some o = sym opens ∙ (me.fixed (me.live turn.0)).0 in cc) in
      let new : K record { words = r.next ∷ with_turn' ∷ length r.log ∷ []; homes = some y ∷ []; views = set s.views id w } = record {
        next = r.next;
        serving = with_turn';
        log = r.log;
        out = r.out - 1;
        home = some y;
        holder = onward;
        owner = r.owner;
        words = refl;
        homes = refl;
        numbered = (r.numbered.0 ∙ pass_mod r.serving r.out (r.out - 1) (omega arith), omega arith);
        few = (
          let t = total_set ticket_count s.views id v w at in let one : ticket_count v ≡ 1 = ap (λ (b : Bool). cond b 1 0) turn.0 in let h = r.few.0 in omega arith,
          (let t = total_set spare_count s.views id v w at in let l = length-set s.views id w in let h = r.few.1 in omega arith),
          r.few.2,
        );
        begun = r.begun;
        homed = (same, lists ∙ turn.2);
        seats = seats_set (SeatOk {M = M} (some y) with_turn' (r.out - 1) r.log o base callers onward r.owner) s.views id w
            (record { place = λ no. absurd (cc no); live = λ no. absurd (cc no); turn = λ no. absurd (cc no); seen = me.seen; told = me.told; fixed = me.fixed; caller = me.caller; spare = me.spare; retired = me.retired; apart = me.apart; known = me.known })
            (λ j u ne there. let ok = r.seats j u there in record {
              place = λ on. let p = ok.place on in
                  let later : 0 < p.0 = elim (dec_zero p.0) [ inl z ↦ absurd (ne (sym p.2 ∙ (ap r.holder (z ∙ sym first) ∙ mine.2))) | inr lt ↦ lt ] in
                  let back : p.0 ≡ (p.0 - 1) + 1 = omega arith in
                  (p.0 - 1, (let lt = p.1 in omega arith), ap r.holder (sym back) ∙ p.2, p.3 ∙ pass_mod r.serving p.0 (p.0 - 1) back);
              live = ok.live;
              turn = λ t. absurd (ne (alone s r id j v u at there on t));
              seen = ok.seen;
              told = ok.told;
              fixed = ok.fixed;
              caller = ok.caller;
              spare = ok.spare;
              retired = ok.retired;
              apart = ok.apart;
              known = ok.known;
            });
      } in
      shaped id (v, (0, y) ∷ []) 1 (λ n. (n + 1) % 2 ^ 64) (Passes (step slots 1 1 0 none) (v, (0, y) ∷ [])) s.views s.words (r.next ∷ r.serving ∷ length r.log ∷ []) s.homes (none ∷ []) r.words (r.homes ∙ ap (λ (h : maybe.Option M). h ∷ []) turn.3)
      (w, gives, tt, new, refl)

  pub passes : (slots id : ℕ) (v : Sat) (y : M) → v.0.turn ≡ true → v.1 ≡ (0, y) ∷ [] → list y ≡ v.0.seen → v.0.opening ≡ Some (opening y)
      → Allows K slots id v 1 (λ n. (n + 1) % 2 ^ 64) (Passes (step slots 1 1 0 none) v)
  passes slots id v y on held lists opens =
      subst (λ (l : List (ℕ × M)). Allows K slots id (v.0, l) 1 (λ n. (n + 1) % 2 ^ 64) (Passes (step slots 1 1 0 none) (v.0, l))) (sym held) (passes_held slots id v.0 y on lists opens)

  -- the numbers x belong to the seat n
  abbrev given : ℕ → ℕ → (ℕ → ℕ) → ℕ → ℕ
  given x n owner y = cond (eqb y x) n (owner y)

  given_here : (x n : ℕ) (owner : ℕ → ℕ) → given x n owner x ≡ n
  given_here x n owner = ap (λ (b : Bool). cond b n (owner x)) (eq-eqb x x refl)

  given_else : (x n : ℕ) (owner : ℕ → ℕ) (y : ℕ) → y ≢ x → given x n owner y ≡ owner y
  given_else x n owner y ne = ap (λ (b : Bool). cond b n (owner y)) (ne_eqb y x ne)

  pub splits : (x id : ℕ) (v : V) → Rests v → has x v.spare ≡ true → Splits K id v (left_view x v) (right_view x v)
  splits x id v rests mine s r at =
      let n : ℕ = length s.views in
      let left : V = left_view x v in let right : V = right_view x v in
      let me = r.seats id v at in
      let gift = me.spare x mine in
      let known = me.known rests.0 in
      let owner' : ℕ → ℕ = given x n r.owner in
      let others : List V = set s.views id left in
      let after : List V = others ++ right ∷ [] in
      let long : length others ≡ n = length-set s.views id left in
      let apart : (j : ℕ) → j ≢ id → (y : ℕ) → r.owner y ≡ j → owner' y ≡ j = λ j ne y e. given_else x n r.owner y (λ is. ne (sym e ∙ (ap r.owner is ∙ gift.1))) ∙ e in
      let ok_after : (j : ℕ) (u : V) → get_elem? others j ≡ some u → SeatOk r.home r.serving r.out r.log o base callers r.holder owner' j u =
      seats_set (SeatOk r.home r.serving r.out r.log o base callers r.holder owner') s.views id left
      (record {
        place = me.place;
        live = me.live;
        turn = me.turn;
        seen = me.seen;
        told = me.told;
        fixed = me.fixed;
        caller = λ l. let a = me.caller l in (a.0, given_else x n r.owner v.caller (λ is. gift.2 (sym is)) ∙ a.1, a.2);
        spare = λ y h. let t = has_without x y v.spare h in let a = me.spare y t.0 in (a.0, given_else x n r.owner y t.1 ∙ a.1, a.2, a.3, a.4);
        retired = λ y h. let a = me.retired y h in (a.0, given_else x n r.owner y (λ is. true_false (sym h ∙ (ap (λ (z : ℕ). has z v.retired) is ∙ gift.4))) ∙ a.1);
        apart = me.apart;
        known = me.known;
      })
      (λ j u ne there. let ok = r.seats j u there in record {
        place = ok.place;
        live = ok.live;
        turn = ok.turn;
        seen = ok.seen;
        told = ok.told;
        fixed = ok.fixed;
        caller = λ l. let a = ok.caller l in (a.0, apart j ne u.caller a.1, a.2);
        spare = λ y h. let a = ok.spare y h in (a.0, apart j ne y a.1, a.2, a.3, a.4);
        retired = λ y h. let a = ok.retired y h in (a.0, apart j ne y a.1);
        apart = ok.apart;
        known = ok.known;
      }) in
      record {
        next = r.next;
        serving = r.serving;
        log = r.log;
        out = r.out;
        home = r.home;
        holder = r.holder;
        owner = owner';
        words = r.words;
        homes = r.homes;
        numbered = r.numbered;
        few = (
          let a = total-append ticket_count others (right ∷ []) in let t = total_set ticket_count s.views id v left at in let h = r.few.0 in omega arith,
          (let a = total-append spare_count others (right ∷ []) in let t = total_set spare_count s.views id v left at in let l = length-append others (right ∷ []) in let h = r.few.1 in let less = without_less x v.spare mine in omega arith),
          r.few.2,
        );
        begun = r.begun;
        homed = homed_longer r.home r.log others right (homed_stays r.home r.log s.views id v left at rests.2 r.homed);
        seats = λ j u there. ⊎_elim (λ e. ok_after j u e)
            (λ (t : (j ≡ length others) × (right ≡ u)). subst (λ (z : ℕ × V). SeatOk r.home r.serving r.out r.log o base callers r.holder owner' z.0 z.1) (λ k. (sym (t.0 ∙ long) k, t.1 k))
            (record {
              place = λ on. absurd (true_false (sym on ∙ rests.1));
              live = λ on. absurd (true_false (sym on ∙ rests.1));
              turn = λ on. absurd (true_false (sym on ∙ rests.2));
              seen = me.seen;
              told = me.told;
              fixed = me.fixed;
              caller = λ l. (gift.0, given_here x n r.owner, sym gift.3);
              spare = λ y no. absurd (cc no);
              retired = λ y no. absurd (cc no);
              apart = λ _. refl;
              known = λ l. (known.0, sym (none_before x v.base v.seen r.log known.0 me.seen (ap (λ (k : ℕ). entries_of x (drop k r.log)) (me.fixed l).1 ∙ gift.3)));
            }))
            (at_end others j right u there);
      }

  -- the numbers of the seat `other` are those of the seat id
  abbrev moved : ℕ → ℕ → (ℕ → ℕ) → ℕ → ℕ
  moved other id owner y = cond (eqb (owner y) other) id (owner y)

  moved_here : (other id : ℕ) (owner : ℕ → ℕ) (y : ℕ) → owner y ≡ other → moved other id owner y ≡ id
  moved_here other id owner y e = ap (λ (b : Bool). cond b id (owner y)) (eq-eqb (owner y) other e)

  moved_else : (other id : ℕ) (owner : ℕ → ℕ) (y j : ℕ) → j ≢ other → owner y ≡ j → moved other id owner y ≡ j
  moved_else other id owner y j ne e = ap (λ (b : Bool). cond b id (owner y)) (ne_eqb (owner y) other (λ is. ne (sym e ∙ is))) ∙ e

  begins_longer : (xs ys log : List (ℕ × T)) → Begins xs log → Begins ys log → Begins (longer xs ys) log
  begins_longer xs ys log a b = elim (ltb (length xs) (length ys)) as (λ t. Begins (cond t ys xs) log) [ true ↦ b | false ↦ a ]

  begins_shorter : (xs ys log : List (ℕ × T)) → Begins xs log → Begins ys log → Begins (shorter xs ys) log
  begins_shorter xs ys log a b = elim (ltb (length xs) (length ys)) as (λ t. Begins (cond t xs ys) log) [ true ↦ a | false ↦ b ]

  -- of what a seat was told and what it sees, the shorter begins the longer
  pub compares : (slots id : ℕ) (v : Sat) → Allows K slots id v 0 (λ n. n) (Compares (step slots 0 0 0 none) v)
  compares slots id v s r one at small =
      let me = r.seats id v.0 at in
      let w : V = compared_view v.0 in
      let new : K record { words = r.next ∷ r.serving ∷ length r.log ∷ []; homes = r.home ∷ []; views = set s.views id w } = record {
        next = r.next;
        serving = r.serving;
        log = r.log;
        out = r.out;
        home = r.home;
        holder = r.holder;
        owner = r.owner;
        words = refl;
        homes = refl;
        numbered = r.numbered;
        few = (
          let t = total_set ticket_count s.views id v.0 w at in let h = r.few.0 in omega arith,
          (let t = total_set spare_count s.views id v.0 w at in let l = length-set s.views id w in let h = r.few.1 in omega arith),
          r.few.2,
        );
        begun = r.begun;
        homed = homed_same r.home r.log s.views id v.0 w at refl r.homed;
        seats = seats_set (SeatOk r.home r.serving r.out r.log o base callers r.holder r.owner) s.views id w
            (record { place = me.place; live = me.live; turn = me.turn; seen = me.seen; told = (r.log, refl); fixed = me.fixed; caller = me.caller; spare = me.spare; retired = me.retired; apart = me.apart; known = me.known })
            (λ j u ne there. r.seats j u there);
      } in
      shaped id v 0 (λ n. n) (Compares (step slots 0 0 0 none) v) s.views s.words (r.next ∷ r.serving ∷ length r.log ∷ []) s.homes (r.home ∷ []) r.words r.homes
      (w, keeps, tt, new, (refl, (λ le. prefix_of v.0.told v.0.seen me.told.0 me.seen.0 (sym me.told.1 ∙ me.seen.1) le), me.known))

  -- what a seat has seen has all entries of its own
  pub knows : (slots id : ℕ) (v : Sat) → Allows K slots id v 0 (λ n. n) (Knows (step slots 0 0 0 none) v)
  knows slots id v s r one at small =
      shaped id v 0 (λ n. n) (Knows (step slots 0 0 0 none) v) s.views s.words (r.next ∷ r.serving ∷ length r.log ∷ []) s.homes (r.home ∷ []) r.words r.homes
      (v.0, keeps, tt, unchanged s r id v.0 at, (refl, (r.seats id v.0 at).known))

  pub joins : (id : ℕ) (v : V) (other : ℕ) (w : V) → Rests v → Rests w → Joins K id v other w (merged_view v w) spent_view
  joins id v other w rests theirs s r at apart there' =
      let there : get_elem? s.views other ≡ some w = sym (set_else s.views id other (merged_view v w) apart) ∙ there' in
      let both : V = merged_view v w in let g : V = spent_view in
      let me = r.seats id v at in let it = r.seats other w there in
      let owner' : ℕ → ℕ = moved other id r.owner in
      let ne : id ≢ other = λ e. apart (sym e) in
      let mine : (y : ℕ) → r.owner y ≡ id → owner' y ≡ id = λ y e. moved_else other id r.owner y id ne e in
      let its : (y : ℕ) → r.owner y ≡ other → owner' y ≡ id = λ y e. moved_here other id r.owner y e in
      let first : (j : ℕ) (u : V) → j ≢ other → get_elem? (set s.views id both) j ≡ some u → SeatOk r.home r.serving r.out r.log o base callers r.holder owner' j u =
      λ j u away e. seats_set (λ i z. i ≢ other → SeatOk r.home r.serving r.out r.log o base callers r.holder owner' i z) s.views id both
      (λ _. record {
        place = me.place;
        live = me.live;
        turn = λ on. absurd (true_false (sym on ∙ rests.2));
        seen = begins_longer v.seen w.seen r.log me.seen it.seen;
        told = begins_shorter v.seen w.seen r.log me.seen it.seen;
        fixed = me.fixed;
        caller = λ l. let a = me.caller l in (a.0, mine v.caller a.1, a.2);
        spare = λ y h. ⊎_elim
            (λ f. let a = me.spare y f in (a.0, mine y a.1, a.2, a.3, not_retired v w y a.4 (λ is. ne (sym a.1 ∙ (ap r.owner is ∙ (it.caller theirs.0).1))) (λ ret. ne (sym a.1 ∙ (it.retired y ret).1))))
            (λ f. let a = it.spare y f in (a.0, its y a.1, (λ is. ne (sym ((ap r.owner is ∙ (me.caller rests.0).1)) ∙ a.1)), a.3, not_retired' v w y (λ ret. ne (sym (me.retired y ret).1 ∙ a.1)) a.2 a.4))
            (has-append y v.spare w.spare h);
        retired = λ y h. ⊎_elim
            (λ f. ⊎_elim (λ k. let a = me.retired y k in (a.0, mine y a.1))
            (λ k. let is = has_one y w.caller k in let a = it.caller theirs.0 in (subst (λ (z : ℕ). z < callers) (sym is) a.0, its y (ap r.owner is ∙ a.1))) (has-append y v.retired (w.caller ∷ []) f))
            (λ f. let a = it.retired y f in (a.0, its y a.1))
            (has-append y (v.retired ++ w.caller ∷ []) w.retired h);
        apart = λ l. let a = me.caller l in not_retired v w v.caller (me.apart l) (λ is. ne (sym a.1 ∙ (ap r.owner is ∙ (it.caller theirs.0).1))) (λ ret. ne (sym a.1 ∙ (it.retired v.caller ret).1));
        known = λ l. own_longer v w.seen r.log (me.known l) (own_to v base r.log (me.fixed l).1 r.begun (me.caller l).2) me.seen it.seen;
      })
      (λ i z off at' away'. let ok = r.seats i z at' in record {
        place = ok.place;
        live = ok.live;
        turn = ok.turn;
        seen = ok.seen;
        told = ok.told;
        fixed = ok.fixed;
        caller = λ l. let a = ok.caller l in (a.0, moved_else other id r.owner z.caller i away' a.1, a.2);
        spare = λ y h. let a = ok.spare y h in (a.0, moved_else other id r.owner y i away' a.1, a.2, a.3, a.4);
        retired = λ y h. let a = ok.retired y h in (a.0, moved_else other id r.owner y i away' a.1);
        apart = ok.apart;
        known = ok.known;
      })
      j u e away in
      record {
        next = r.next;
        serving = r.serving;
        log = r.log;
        out = r.out;
        home = r.home;
        holder = r.holder;
        owner = owner';
        words = r.words;
        homes = r.homes;
        numbered = r.numbered;
        few = (
          let a = total_set ticket_count s.views id v both at in let b = total_set ticket_count (set s.views id both) other w g there' in let off : ticket_count w ≡ 0 = ap (λ (t : Bool). cond t 1 0) theirs.1 in let h = r.few.0 in omega arith,
          (let a = total_set spare_count s.views id v both at in let b = total_set spare_count (set s.views id both) other w g there' in let l = length-set s.views id both in let m = length-set (set s.views id both) other g in
              let n = length-append v.spare w.spare in let h = r.few.1 in omega arith),
          r.few.2,
        );
        begun = r.begun;
        homed = homed_stays r.home r.log (set s.views id both) other w g there' theirs.2 (homed_stays r.home r.log s.views id v both at rests.2 r.homed);
        seats = seats_set (SeatOk r.home r.serving r.out r.log o base callers r.holder owner') (set s.views id both) other g
            (record { place = λ no. absurd (cc no); live = λ no. absurd (cc no); turn = λ no. absurd (cc no); seen = (r.log, refl); told = (r.log, refl); fixed = λ no. absurd (cc no); caller = λ no. absurd (cc no); spare = λ y no. absurd (cc no); retired = λ y no. absurd (cc no); apart = λ no. absurd (cc no); known = λ no. absurd (cc no) })
            (λ j u off e. first j u off e);
      }

  elim_home : (s : St) (r : K s) (id : ℕ) (v : V) → get_elem? s.views id ≡ some v → Rests v → ((x : ℕ) → x < callers → r.owner x ≡ id) → (y : M) (xs : List M) → get_elem? xs 0 ≡ some y
      → ((k : ℕ) (z : M) → get_elem? s.homes k ≡ some (some z) → get_elem? xs k ≡ some z) → (home : maybe.Option M) → home ≡ r.home → Homed opening list o r.log s.views home → (opening y ≡ o) × (list y ≡ r.log)
  elim_home s r id v at rests owned y xs there homes (some m) is h =
      let same : m ≡ y = some-injective m y (sym (homes 0 m (ap (λ (hs : List (maybe.Option M)). get_elem? hs 0) r.homes ∙ ap some (sym is))) ∙ there) in
      (ap opening (sym same) ∙ h.0, ap list (sym same) ∙ h.1)
  elim_home s r id v at rests owned y xs there homes none is h =
      let ok = r.seats h.0 h.1 h.2 in let a = ok.caller (ok.live (ok.turn h.3).0) in
      let same : h.0 ≡ id = sym a.1 ∙ owned h.1.caller a.0 in
      absurd (true_false (sym h.3 ∙ (ap (λ (u : V). u.turn) (one_view s.views id h.0 v h.1 at h.2 same) ∙ rests.2)))

  -- what the last seat knows of the machine that comes back
  pub closes : (id : ℕ) (v : V) (ws : List ℕ) (xs : List M) → Rests v → ((x : ℕ) → x < v.callers → (eqb x v.caller || (has x v.spare || has x v.retired)) ≡ true) → Final (Seen K id v) ws xs → (y : M) → get_elem? xs 0 ≡ some y
      → (v.opening ≡ Some (opening y)) × Begins v.seen (list y) × IsOwn v (list y)
  closes id v ws xs rests all last y there =
      let s : St = last.0 in let r : K s = last.1.0 in let at : get_elem? s.views id ≡ some v = last.1.1 in
      let me = r.seats id v at in let fixed = me.fixed rests.0 in
      let owned : (x : ℕ) → x < callers → r.owner x ≡ id = λ x lt. ⊎_elim (λ e. ap r.owner (eqb-true x v.caller e) ∙ (me.caller rests.0).1)
      (λ e. ⊎_elim (λ f. (me.spare x f).1) (λ f. (me.retired x f).1) (or_cases (has x v.spare) (has x v.retired) e))
      (or_cases (eqb x v.caller) (has x v.spare || has x v.retired) (all x (subst (λ (n : ℕ). x < n) (sym fixed.2) lt))) in
      let here : (home : maybe.Option M) → home ≡ r.home → Homed opening list o r.log s.views home → (opening y ≡ o) × (list y ≡ r.log) = elim_home s r id v at rests owned y xs there last.4 in
      let h = here r.home refl r.homed in
      ((fixed.0 ∙ ap (λ (p : O). Some p) (sym h.0)), subst (λ (es : List (ℕ × T)). Begins v.seen es) (sym h.1) me.seen, subst (λ (es : List (ℕ × T)). IsOwn v es) (sym h.1) (own_to v base r.log fixed.1 r.begun (me.caller rests.0).2))

begins_both : {E : Type 0} → (xs ys : List E) (b : Bool) → ltb (length xs) (length ys) ≡ b → (length (cond b xs ys) ≤ length (cond b ys xs) → Begins (cond b xs ys) (cond b ys xs)) → Begins xs (cond b ys xs) × Begins ys (cond b ys xs)
begins_both {E} xs ys true is f = let lt = ltb-true (length xs) (length ys) is in (f (omega arith), ([], sym (append-nil ys)))
begins_both {E} xs ys false is f = let le = ltb-false (length xs) (length ys) is in (([], sym (append-nil xs)), f le)

-- what a join tells of the seat that goes on
module _ {O T : Type 0} where
  pub joins_both : (v w a b : View O T) → a ≡ merged_view v w → b ≡ compared_view a → (length a.told ≤ length a.seen → Begins a.told a.seen) → Begins v.seen b.seen × Begins w.seen b.seen
  joins_both v w a b is then learnt =
      let learnt' : length (shorter v.seen w.seen) ≤ length (longer v.seen w.seen) → Begins (shorter v.seen w.seen) (longer v.seen w.seen) =
      subst (λ (u : View O T). length u.told ≤ length u.seen → Begins u.told u.seen) is learnt in
      subst (λ (es : List (ℕ × T)). Begins v.seen es × Begins w.seen es) (sym (ap (λ (u : View O T). u.seen) (then ∙ ap (λ (u : View O T). compared_view u) is)))
      (begins_both v.seen w.seen (ltb (length v.seen) (length w.seen)) refl learnt')

  pub joins_own : (v w a b : View O T) → a ≡ merged_view v w → b ≡ compared_view a → v.live ≡ true → (a.live ≡ true → IsOwn a a.seen) → IsOwn b b.seen
  joins_own v w a b is then live learnt = subst (λ (u : View O T). IsOwn u u.seen) (sym then) (learnt (ap (λ (u : View O T). u.live) is ∙ live))

module _ {M O T : Type 0} (opening : M → O) (list : M → List (ℕ × T)) where
  pub opens : (m : M) (callers c : ℕ) → 1 ≤ callers → callers < 2 ^ 32 → c ≡ length (list m) → Kept opening list (opening m) (length (list m)) callers (Table.opening (0 ∷ 0 ∷ c ∷ []) (m ∷ []) (first_view (opening m) (list m) callers))
  opens m callers c some_caller few count =
      let v : View O T = first_view (opening m) (list m) callers in
      record {
        next = 0;
        serving = 0;
        log = list m;
        out = 0;
        home = some m;
        holder = λ _. 0;
        owner = λ _. 0;
        words = ap (λ (n : ℕ). 0 ∷ 0 ∷ n ∷ []) count;
        homes = refl;
        numbered = (refl, omega arith);
        few = (omega arith, (let l = length-numbers_from 1 (callers - 1) in omega arith), few);
        begun = omega arith;
        homed = (refl, refl);
        seats = λ j w e. ⊎_elim (λ no. absurd (some-ne-none w (sym no))) (λ (t : (j ≡ 0) × (v ≡ w)). subst (λ (z : ℕ × View O T). SeatOk (some m) 0 0 (list m) (opening m) (length (list m)) callers (λ _. 0) (λ _. 0) z.0 z.1) (λ k. (sym t.0 k, t.1 k))
            (record {
              place = λ no. absurd (cc no);
              live = λ no. absurd (cc no);
              turn = λ no. absurd (cc no);
              seen = ([], sym (append-nil (list m)));
              told = (list m, refl);
              fixed = λ _. (refl, refl, refl);
              caller = λ _. (omega arith, refl, sym (ap (entries_of 0) (drop_all (list m))));
              spare = λ x h. let t = has_below x 1 (callers - 1) h in let p = t.0 in let q = t.1 in (omega arith, refl, (λ z. omega arith), ap (entries_of x) (drop_all (list m)), refl);
              retired = λ x no. absurd (cc no);
              apart = λ _. refl;
              known = λ _. (omega arith, sym (ap (entries_of 0) (drop_all (list m))));
            }))
            (at_end [] j v w e);
      }

-- a list with one entry more, or none
module _ {T : Type 0} where
  own_added : (xs own zs : List (ℕ × T)) (b : Bool) (e : ℕ × T) → zs ≡ added xs b e → own ++ drop (length xs) zs ≡ added own b e
  own_added xs own zs true e is = ap (λ (l : List (ℕ × T)). own ++ drop (length xs) l) is ∙ ap (λ (l : List (ℕ × T)). own ++ l) (drop-append_seam xs (e ∷ []))
  own_added xs own zs false e is = ap (λ (l : List (ℕ × T)). own ++ drop (length xs) l) is ∙ (ap (λ (l : List (ℕ × T)). own ++ l) (drop_all xs) ∙ append-nil own)

  all_added : (xs own zs : List (ℕ × T)) (b : Bool) (by base : ℕ) (x : T) → base ≤ length xs → own ≡ entries_of by (drop base xs) → zs ≡ added xs b (entry by x) → added own b (entry by x) ≡ entries_of by (drop base zs)
  all_added xs own zs true by base x le all is =
      let e : ℕ × T = entry by x in
      let one : entries_of by (e ∷ []) ≡ e ∷ [] = ap (λ (b : Bool). cond b (e ∷ []) []) (eq-eqb by by refl) in
      (λ i. all i ++ sym one i) ∙ (sym (filter-append (λ (f : ℕ × T). eqb f.0 by) (drop base xs) (e ∷ [])) ∙ (ap (entries_of by) (sym (drop-append-le base xs (e ∷ []) le)) ∙ ap (λ (l : List (ℕ × T)). entries_of by (drop base l)) (sym is)))
  all_added xs own zs false by base x le all is = all ∙ ap (λ (l : List (ℕ × T)). entries_of by (drop base l)) (sym is)

  added_le : (base : ℕ) (xs zs : List (ℕ × T)) (b : Bool) (e : ℕ × T) → base ≤ length xs → zs ≡ added xs b e → base ≤ length zs
  added_le base xs zs true e le is = let l = ap length is ∙ length-append xs (e ∷ []) in omega arith
  added_le base xs zs false e le is = let l = ap length is in omega arith

  added_tail : (xs : List (ℕ × T)) (b : Bool) (e : ℕ × T) → added xs b e ≡ xs ++ added [] b e
  added_tail xs true e = refl
  added_tail xs false e = sym (append-nil xs)

  calls_tail : (b : Bool) (by : ℕ) (x : T) → entries_of by (added [] b (entry by x)) ≡ added [] b (entry by x)
  calls_tail true by x = let e : ℕ × T = entry by x in ap (λ (t : Bool). cond t (e ∷ []) []) (eq-eqb by by refl)
  calls_tail false by x = refl

  calls_other : (b : Bool) (n by : ℕ) (x : T) → n ≢ by → entries_of n (added [] b (entry by x)) ≡ []
  calls_other true n by x ne = let e : ℕ × T = entry by x in ap (λ (t : Bool). cond t (e ∷ []) []) (ne_eqb by n (λ is. ne (sym is)))
  calls_other false n by x ne = refl

-- what a whole call tells
module _ {M O T : Type 0} (opening : M → O) (list : M → List (ℕ × T)) where
  abbrev Sit : Type 0
  Sit = Me M (View O T)

  pub tells : {Y : Type 0} → (allows : O → List (ℕ × T) → ℕ → T → Y → Type 0) (records : O → T → Y → Bool) → (v : View O T) (d t s n p : Sit) (ticket : ℕ) (y y' z : M) (by : ℕ) (x : T) (reply : Y) (front : ℕ) → Rests v → v.caller ≡ by → d ≡ (with_ticket ticket v, []) → Takes opening list d y t → t.1 ≡ (0, y') ∷ [] → s.0 ≡ t.0
      → allows (opening y') (list y') by x reply → list z ≡ added (list y') (records (opening y') x reply) (entry by x) → front ≡ length (list z) → n.0 ≡ with_list (list z) s.0 → p.0 ≡ without_ticket n.0
      → Stepped allows records (opening y) v p.0 x reply front
  tells allows records v d t s n p ticket y y' z by x reply front rests named drawn took held kept answer grew long counted_is passed_is =
      let T' : Takes opening list (with_ticket ticket v, []) y t = subst (λ (m : Sit). Takes opening list m y t) drawn took in
      let same : y' ≡ y = ap (λ (l : List (ℕ × M)). (get_or l 0 (0, y)).1) (sym held ∙ ap (λ (m : Sit). m.1) T'.0) in
      let w : View O T = without_ticket (with_list (list z) (with_turn (list y) (with_ticket ticket v))) in
      let is : p.0 ≡ w = passed_is ∙ (ap (λ (u : View O T). without_ticket u) counted_is ∙ ap (λ (u : View O T). without_ticket (with_list (list z) u)) (kept ∙ ap (λ (m : Sit). m.0) T'.0)) in
      let b : Bool = records (opening y) x reply in
      let answer' : allows (opening y) (list y) v.caller x reply = subst (λ (q : M × ℕ). allows (opening q.0) (list q.0) q.1 x reply) (λ i. (same i, sym named i)) answer in
      let grew' : list z ≡ added (list y) b (entry v.caller x) = grew ∙ (λ i. added (list (same i)) (records (opening (same i)) x reply) (entry (sym named i) x)) in
      let own : w.own ≡ added v.own b (entry v.caller x) = own_added (list y) v.own (list z) b (entry v.caller x) grew' in
      subst (λ (u : View O T). Stepped allows records (opening y) v u x reply front) (sym is) (record {
        before = list y;
        others = T'.1;
        own_before = T'.3;
        opening_is = T'.2;
        allowed = answer';
        seen_is = grew';
        front_is = long;
        own_is = own;
        each_once = (added_le v.base (list y) (list z) b (entry v.caller x) T'.3.0 grew', own ∙ all_added (list y) v.own (list z) b v.caller v.base x T'.3.0 T'.3.1 grew');
        else_same = λ i. record w { has_ticket = sym rests.1 i; turn = sym rests.2 i; ticket = sym rests.3 i };
      })

module _ {M O T : Type 0} (list : M → List (ℕ × T)) where
  pub adds_up : (v : View O T) (d t s : Me M (View O T)) (ticket : ℕ) (y y' z : M) (by : ℕ) (x : T) (b : Bool) (before after : ℕ) → v.caller ≡ by → d ≡ (with_ticket ticket v, []) → t ≡ (with_turn (list y) d.0, (0, y) ∷ d.1) → t.1 ≡ (0, y') ∷ [] → s.0 ≡ t.0
      → list z ≡ added (list y') b (entry by x) → before ≡ length (list y') → after ≡ length (list z)
      → (es : List (ℕ × T)) × (list z ≡ s.0.seen ++ es) × (after - before ≡ length es) × (entries_of s.0.caller es ≡ es) × ((n : ℕ) → n ≢ s.0.caller → entries_of n es ≡ [])
  adds_up v d t s ticket y y' z by x b before after named drawn took held kept grew short long =
      let es : List (ℕ × T) = added [] b (entry by x) in
      let t_is : t ≡ (with_turn (list y) (with_ticket ticket v), (0, y) ∷ []) = took ∙ ap (λ (m : Me M (View O T)). let u : Me M (View O T) = (with_turn (list y) m.0, (0, y) ∷ m.1) in u) drawn in
      let same : y' ≡ y = ap (λ (l : List (ℕ × M)). (get_or l 0 (0, y)).1) (sym held ∙ ap (λ (m : Me M (View O T)). m.1) t_is) in
      let seen : s.0.seen ≡ list y' = ap (λ (u : View O T). u.seen) (kept ∙ ap (λ (m : Me M (View O T)). m.0) t_is) ∙ ap list (sym same) in
      let caller : s.0.caller ≡ by = ap (λ (u : View O T). u.caller) (kept ∙ ap (λ (m : Me M (View O T)). m.0) t_is) ∙ named in
      let grown : list z ≡ list y' ++ es = grew ∙ added_tail (list y') b (entry by x) in (
        es,
        grown ∙ ap (λ (l : List (ℕ × T)). l ++ es) (sym seen),
        (let l = ap length grown ∙ length-append (list y') es in omega arith),
        ap (λ (n : ℕ). entries_of n es) caller ∙ calls_tail b by x,
        (λ n ne. calls_other b n by x (λ is. ne (is ∙ sym caller))),
      )
