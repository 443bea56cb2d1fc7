-- What holds of the table between any two atomic steps, in five parts. Source: own.
use Rattle.std.specs.Prelude.{◌≡◌, ◌≢◌, ℕ, ◌+◌, ◌%◌, ◌^◌, ◌<◌, ◌≤◌, true, false, List, [], ◌∷◌, length, drop, cond, Some}
use mathlib.Core.Option.{some, none}
use mathlib.Core.Option as maybe
use lib.ListN.{get_elem?}
use Rattle.atomic_table.specs.Table.{State}
use Rattle.bench_lock.specs.declared.view.View.{View}
use Rattle.bench_lock.specs.Log.{entries_of, Begins, has}
use Rattle.bench_lock.specs.Views.{IsOwn}

-- the numbers f of the elements, added up
abbrev pub total : {A : Type 0} → (A → ℕ) → List A → ℕ
total f [] = 0
total f (x ∷ xs) = f x + total f xs

module _ {O T : Type 0} where
  -- P of each view and its place among the views
  abbrev pub Each : (ℕ → View O T → Type 0) → List (View O T) → Type 0
  Each P views = (j : ℕ) (w : View O T) → get_elem? views j ≡ some w → P j w

  abbrev pub ticket_count : View O T → ℕ
  ticket_count w = cond w.has_ticket 1 0

  abbrev pub spare_count : View O T → ℕ
  spare_count w = length w.spare

  -- 1. The views with a ticket hold the numbers serving, serving + 1 and so on up to next, next left out, each once, modulo 2^64.
  -- The seat `holder k` has the number serving + k, so no number is held twice; there are `out` numbers and as many views with a ticket, so none is left out.
  -- There are fewer than 2^32 seats: each view, a joined one too, has used up a caller, and each spare caller is still to be used.
  pub record TicketsInOrder (next serving out callers : ℕ) (holder : ℕ → ℕ) (views : List (View O T)) : Type 0 where
    pub drawn : (next ≡ (serving + out) % 2 ^ 64) × (serving < 2 ^ 64)
    pub held : Each (λ j w. w.has_ticket ≡ true → (k : ℕ) × (k < out) × (holder k ≡ j) × (w.ticket ≡ (serving + k) % 2 ^ 64)) views
    pub all : out ≤ total ticket_count views
    pub few : (length views + total spare_count views ≤ callers) × (callers < 2 ^ 32)

  -- 2. A view with the turn has the ticket that is served.
  abbrev pub TurnIsServed : ℕ → List (View O T) → Type 0
  TurnIsServed serving views = Each (λ j w. w.turn ≡ true → (w.has_ticket ≡ true) × (w.ticket ≡ serving)) views

  abbrev pub SomeHasTurn : List (View O T) → Type 0
  SomeHasTurn views = (j : ℕ) × (w : View O T) × (get_elem? views j ≡ some w) × (w.turn ≡ true)

  -- 3. The slot is away exactly while a view has the turn.
  abbrev pub AwayInTurn : {M : Type 0} → maybe.Option M → List (View O T) → Type 0
  AwayInTurn home views = (SomeHasTurn views → home ≡ none) × (home ≡ none → SomeHasTurn views)

  -- 4. There is one list, `log`, whose length is the count. It is the machine's where the slot is at home, else the seen list of the view with the turn.
  -- Every view's seen list is a prefix of it, and the machine at home has the opening that the views hold.
  pub record OneList {M : Type 0} (opening : M → O) (list : M → List (ℕ × T)) (o : O) (base callers : ℕ) (log : List (ℕ × T)) (home : maybe.Option M) (views : List (View O T)) : Type 0 where
    pub at_home : (m : M) → home ≡ some m → (opening m ≡ o) × (list m ≡ log)
    pub in_turn : Each (λ j w. w.turn ≡ true → w.seen ≡ log) views
    pub seen : Each (λ j w. Begins w.seen log × Begins w.told log) views
    pub fixed : Each (λ j w. w.live ≡ true → (w.opening ≡ Some o) × (w.base ≡ base) × (w.callers ≡ callers)) views
    pub since_open : base ≤ length log

  -- 5. The callers, spare callers and retired callers of all views are distinct and below the number of callers: the number x belongs to the seat `owner x` alone, and is one of the three there.
  -- A spare caller has no entry in the list from the length at opening on. A view's own entries are those of its caller from there on, and it has seen them all.
  -- The fixed view of a joined seat is excepted: it is not live, and has no numbers and no ticket.
  pub record OwnCallers (base callers : ℕ) (log : List (ℕ × T)) (owner : ℕ → ℕ) (views : List (View O T)) : Type 0 where
    pub live : Each (λ j w. w.has_ticket ≡ true → w.live ≡ true) views
    pub caller : Each (λ j w. w.live ≡ true → (w.caller < callers) × (owner w.caller ≡ j) × (has w.caller w.retired ≡ false)) views
    pub own : Each (λ j w. w.live ≡ true → IsOwn w log × IsOwn w w.seen) views
    pub spare : Each (λ j w. (x : ℕ) → has x w.spare ≡ true → (x < callers) × (owner x ≡ j) × (x ≢ w.caller) × (entries_of x (drop base log) ≡ []) × (has x w.retired ≡ false)) views
    pub retired : Each (λ j w. (x : ℕ) → has x w.retired ≡ true → (x < callers) × (owner x ≡ j)) views

-- The table has the words TICKET, SERVING and COUNT and one slot. The machine was opened with o and a list of `base` entries, for so many callers
pub record Rule {M O T : Type 0} (opening : M → O) (list : M → List (ℕ × T)) (o : O) (base callers : ℕ) (s : State M (View O T)) : Type 0 where
  pub next : ℕ
  pub serving : ℕ
  pub log : List (ℕ × T)
  pub home : maybe.Option M
  pub out : ℕ
  pub holder : ℕ → ℕ
  pub owner : ℕ → ℕ
  pub words : s.words ≡ next ∷ serving ∷ length log ∷ []
  pub slot : s.homes ≡ home ∷ []
  pub tickets : TicketsInOrder next serving out callers holder s.views
  pub turn : TurnIsServed serving s.views
  pub away : AwayInTurn home s.views
  pub one_list : OneList opening list o base callers log home s.views
  pub numbers : OwnCallers base callers log owner s.views
