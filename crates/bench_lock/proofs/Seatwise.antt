-- The rule told seat by seat, in which form each step is proved, and that it is the same rule.
use Rattle.std.proofs.Common.{◌≡◌, ◌≢◌, ℕ, ◌+◌, ◌%◌, ◌^◌, ◌<◌, ◌≤◌, true, false, List, [], ◌∷◌, length, drop, Some, refl, sym, ap, ◌∙◌}
use mathlib.Core.Option.{some, none, some-injective, some-ne-none}
use mathlib.Core.Option as maybe
use lib.ListN.{get_elem?}
use Rattle.atomic_table.specs.Table.{State, Me, Allows, Splits, Joins, Final, Seen}
use Rattle.bench_lock.specs.declared.view.View.{View}
use Rattle.bench_lock.specs.Log.{entries_of, Begins, has}
use Rattle.bench_lock.specs.Rule.{total, ticket_count, spare_count, SomeHasTurn, Rule}
use Rattle.bench_lock.specs.Views.{IsOwn}
use Rattle.bench_lock.proofs.Own.{own_from, own_to}

module _ {M O T : Type 0} where
  pub record SeatOk (home : maybe.Option M) (serving out : ℕ) (log : List (ℕ × T)) (opening : O) (base callers : ℕ) (holder owner : ℕ → ℕ) (j : ℕ) (w : View O T) : Type 0 where
    pub place : w.has_ticket ≡ true → (k : ℕ) × (k < out) × (holder k ≡ j) × (w.ticket ≡ (serving + k) % 2 ^ 64)
    pub live : w.has_ticket ≡ true → w.live ≡ true
    pub turn : w.turn ≡ true → (w.has_ticket ≡ true) × (w.ticket ≡ serving) × (w.seen ≡ log) × (home ≡ none)
    pub seen : Begins w.seen log
    pub told : Begins w.told log
    pub fixed : w.live ≡ true → (w.opening ≡ Some opening) × (w.base ≡ base) × (w.callers ≡ callers)
    pub caller : w.live ≡ true → (w.caller < callers) × (owner w.caller ≡ j) × (w.own ≡ entries_of w.caller (drop base log))
    pub spare : (x : ℕ) → has x w.spare ≡ true → (x < callers) × (owner x ≡ j) × (x ≢ w.caller) × (entries_of x (drop base log) ≡ []) × (has x w.retired ≡ false)
    pub retired : (x : ℕ) → has x w.retired ≡ true → (x < callers) × (owner x ≡ j)
    pub apart : w.live ≡ true → has w.caller w.retired ≡ false
    pub known : w.live ≡ true → IsOwn w w.seen

module _ {M O T : Type 0} (opening : M → O) (list : M → List (ℕ × T)) where
  -- the machine at home has the list, or else a seat has the turn
  abbrev pub Homed : O → List (ℕ × T) → List (View O T) → maybe.Option M → Type 0
  Homed o log views (some m) = (opening m ≡ o) × (list m ≡ log)
  Homed o log views none = SomeHasTurn views

  pub record Kept (o : O) (base callers : ℕ) (s : State M (View O T)) : Type 0 where
    pub next : ℕ
    pub serving : ℕ
    pub log : List (ℕ × T)
    pub out : ℕ
    pub home : maybe.Option M
    pub holder : ℕ → ℕ
    pub owner : ℕ → ℕ
    pub words : s.words ≡ next ∷ serving ∷ length log ∷ []
    pub homes : s.homes ≡ home ∷ []
    pub numbered : (next ≡ (serving + out) % 2 ^ 64) × (serving < 2 ^ 64)
    pub few : (out ≤ total ticket_count s.views) × (length s.views + total spare_count s.views ≤ callers) × (callers < 2 ^ 32)
    pub begun : base ≤ length log
    pub homed : Homed o log s.views home
    pub seats : (j : ℕ) (w : View O T) → get_elem? s.views j ≡ some w → SeatOk home serving out log o base callers holder owner j w

  homed_of : (o : O) (log : List (ℕ × T)) (views : List (View O T)) (home : maybe.Option M) → ((m : M) → home ≡ some m → (opening m ≡ o) × (list m ≡ log)) → (home ≡ none → SomeHasTurn views) → Homed o log views home
  homed_of o log views (some m) there away = there m refl
  homed_of o log views none there away = away refl

  machine_of : (o : O) (log : List (ℕ × T)) (views : List (View O T)) (home : maybe.Option M) → Homed o log views home → (m : M) → home ≡ some m → (opening m ≡ o) × (list m ≡ log)
  machine_of o log views (some y) h m is = let same : y ≡ m = some-injective y m is in (ap opening (sym same) ∙ h.0, ap list (sym same) ∙ h.1)
  machine_of o log views none h m is = absurd (some-ne-none m (sym is))

  turn_of : (o : O) (log : List (ℕ × T)) (views : List (View O T)) (home : maybe.Option M) → Homed o log views home → home ≡ none → SomeHasTurn views
  turn_of o log views (some y) h is = absurd (some-ne-none y is)
  turn_of o log views none h is = h

  pub by_seats : (o : O) (base callers : ℕ) (s : State M (View O T)) → Rule opening list o base callers s → Kept o base callers s
  by_seats o base callers s r = record {
    next = r.next;
    serving = r.serving;
    log = r.log;
    out = r.out;
    home = r.home;
    holder = r.holder;
    owner = r.owner;
    words = r.words;
    homes = r.slot;
    numbered = r.tickets.drawn;
    few = (r.tickets.all, r.tickets.few.0, r.tickets.few.1);
    begun = r.one_list.since_open;
    homed = homed_of o r.log s.views r.home r.one_list.at_home r.away.1;
    seats = λ j w at. record {
      place = r.tickets.held j w at;
      live = r.numbers.live j w at;
      turn = λ on. let t = r.turn j w at on in (t.0, t.1, r.one_list.in_turn j w at on, r.away.0 (j, w, at, on));
      seen = (r.one_list.seen j w at).0;
      told = (r.one_list.seen j w at).1;
      fixed = r.one_list.fixed j w at;
      caller = λ l. let a = r.numbers.caller j w at l in (a.0, a.1, own_from w base r.log (r.one_list.fixed j w at l).1 (r.numbers.own j w at l).0);
      spare = r.numbers.spare j w at;
      retired = r.numbers.retired j w at;
      apart = λ l. (r.numbers.caller j w at l).2;
      known = λ l. (r.numbers.own j w at l).1;
    };
  }

  pub by_parts : (o : O) (base callers : ℕ) (s : State M (View O T)) → Kept o base callers s → Rule opening list o base callers s
  by_parts o base callers s r = record {
    next = r.next;
    serving = r.serving;
    log = r.log;
    home = r.home;
    out = r.out;
    holder = r.holder;
    owner = r.owner;
    words = r.words;
    slot = r.homes;
    tickets = record { drawn = r.numbered; held = λ j w at. (r.seats j w at).place; all = r.few.0; few = (r.few.1, r.few.2) };
    turn = λ j w at on. let t = (r.seats j w at).turn on in (t.0, t.1);
    away = ((λ t. ((r.seats t.0 t.1 t.2).turn t.3).3), turn_of o r.log s.views r.home r.homed);
    one_list = record {
      at_home = machine_of o r.log s.views r.home r.homed;
      in_turn = λ j w at on. ((r.seats j w at).turn on).2;
      seen = λ j w at. ((r.seats j w at).seen, (r.seats j w at).told);
      fixed = λ j w at. (r.seats j w at).fixed;
      since_open = r.begun;
    };
    numbers = record {
      live = λ j w at. (r.seats j w at).live;
      caller = λ j w at l. let ok = r.seats j w at in let a = ok.caller l in (a.0, a.1, ok.apart l);
      own = λ j w at l. let ok = r.seats j w at in (own_to w base r.log (ok.fixed l).1 r.begun (ok.caller l).2, ok.known l);
      spare = λ j w at. (r.seats j w at).spare;
      retired = λ j w at. (r.seats j w at).retired;
    };
  }

-- what a step is allowed under a rule it is allowed under any rule that says the same
module _ {S V : Type 0} (P Q : State S V → Type 0) (to : (s : State S V) → P s → Q s) (from : (s : State S V) → Q s → P s) where
  pub allows_as : (slots id : ℕ) (me : Me S V) (i : ℕ) (f : ℕ → ℕ) (then : ℕ → Me S V → Type 0) → Allows P slots id me i f then → Allows Q slots id me i f then
  allows_as slots id me i f then a s q one at small = let t = a s (from s q) one at small in (t.0, t.1, t.2, to _ t.3, t.4)

  pub splits_as : (id : ℕ) (v left right : V) → Splits P id v left right → Splits Q id v left right
  splits_as id v left right a s q at = to _ (a s (from s q) at)

  pub joins_as : (id : ℕ) (v : V) (other : ℕ) (w both spent : V) → Joins P id v other w both spent → Joins Q id v other w both spent
  joins_as id v other w both spent a s q at ne there = to _ (a s (from s q) at ne there)

  pub final_as : (id : ℕ) (v : V) (ws : List ℕ) (xs : List S) → Final (Seen Q id v) ws xs → Final (Seen P id v) ws xs
  final_as id v ws xs f = (f.0, (from f.0 f.1.0, f.1.1), f.2, f.3, f.4)
