-- Build enters a ticket whose block, tag and buffer are its own, and no unit has more live tickets than its depth.
use Rattle.std.proofs.Common.{arith, ◌≡◌, ◌≢◌, inl, inr, ⊎_elim, ℕ, ◌+◌, ◌<◌, ◌≤◌, ◌&&◌, Bool, true, false, cond, not, List, [], ◌∷◌, ◌++◌, length, None, nat_le, refl, sym, ap, subst, ◌∙◌, get_or}
use Rattle.std.specs.Prelude.{count_by, filter}
use Rattle.std.proofs.lemmas.Bool.{cases_eq}
use Rattle.std.proofs.lemmas.Bool.Decides.{nat_tests}
use Rattle.std.proofs.lemmas.List.Sums.{sum_by_push, length-filter}
use Rattle.rig_types.specs.declared.rig.Unit.{Unit as RigUnit}
use Rattle.rig_types.specs.Ranges.{IsRig}
use Rattle.host_map.specs.Places.{IsCommandBlock}
use Rattle.unit_law.specs.Request.{RequestData}
use Rattle.desk_law.specs.declared.stage.Stage.{Stage}
use Rattle.desk_law.specs.declared.stage.Stage.TheVariants as stage
use Rattle.desk_law.specs.declared.ticket.Ticket.{Ticket}
use Rattle.desk_law.specs.Desk.{DeskState, ticket, unit, no_ticket, no_unit, is_freed, lives, is_of_unit}
use Rattle.desk_law.specs.Refusals.{kind_of, is_full}
use Rattle.desk_law.specs.Building.{new_ticket, free_block, free_tag}
use Rattle.word_owners.specs.Tickets.{tickets_of, is_check, IsLive, IsTurned, AreTickets}
use Rattle.word_owners.specs.Spaces.{OwnsSpace}
use Rattle.word_owners.specs.FreePlaces.{HasDepths, IsFreePlace}
use Rattle.word_owners.specs.BuiltTickets.{AreBuilt, TicketsBuilt}
use Rattle.word_owners.proofs.Spaces.{ticket-built, build_owns, buffers_owned}
use Rattle.word_owners.proofs.FreePlaces.{places_free}

-- a stage that isn't Freed is one of a live ticket
living : (s : Stage) → IsLive s → not (is_freed s) ≡ true
living stage.Freed h = absurd (h refl)
living stage.Built h = refl
living stage.Linked h = refl
living stage.Queued h = refl
living stage.Again h = refl
living stage.Check h = refl
living stage.Sensing h = refl
living (stage.Ended o) h = refl
living stage.Unlinked h = refl

is-live : (k : Ticket) → lives k ≡ true → IsLive k.stage
is-live k e f = let z : true ≡ false = sym e ∙ ap (λ (s : Stage). not (is_freed s)) f in absurd cc

-- an accepted request is for a unit of the rig
pub has-unit : (d : DeskState) (r : RequestData) → kind_of d.units r ≡ None → r.unit < length d.units
has-unit d r e = by (nat_le (length d.units) r.unit) refl
  where
    by : (b : Bool) → nat_le (length d.units) r.unit ≡ b → r.unit < length d.units
    by false f = grind (arith, nat_tests, f)
    by true f = let z : kind_of d.units r ≢ None = rw f (λ g. cc) in absurd (z e)

-- 1 where it passes
abbrev bit : Bool → ℕ
bit b = cond b 1 0

module _ (retries step_limit : ℕ) (old new : DeskState) (r : RequestData) (k : Ticket) (rig : IsRig old.version old.units retries step_limit) (h : AreBuilt old) (tickets : new.tickets ≡ old.tickets ++ k ∷ []) (units : new.units ≡ old.units) (space : OwnsSpace new) (inside : r.unit < length old.units)
    (room : is_full old r.unit ≡ false) (alive : lives k ≡ true) (unchecked : k.checked ≡ false) (unit-is : k.unit ≡ r.unit) (f : IsFreePlace old r.unit) (block-is : k.block ≡ free_block old) (tag-is : k.tag ≡ free_tag old r.unit) where
  data Which (t : ℕ) : Type 0 where
    old-one : t < length old.tickets → ticket new t ≡ ticket old t → Which t
    new-one : t ≡ length old.tickets → ticket new t ≡ k → Which t
    no-one : ticket new t ≡ no_ticket → Which t

  which : (t : ℕ) → Which t
  which t =
      let e : ticket new t ≡ get_or (old.tickets ++ k ∷ []) t no_ticket = ap (λ (ts : List Ticket). get_or ts t no_ticket) tickets in
      elim (ticket-built old.tickets k t) [
        | inl l ↦ old-one l.0 (e ∙ l.1)
        | inr (inl l) ↦ new-one l.0 (e ∙ l.1)
        | inr (inr l) ↦ no-one (e ∙ l)
      ]

  was-live : (t : ℕ) → ticket new t ≡ ticket old t → IsLive (ticket new t).stage → IsLive (ticket old t).stage
  was-live t e l = subst (λ (x : Ticket). IsLive x.stage) e l

  not-none : (t : ℕ) → ticket new t ≡ no_ticket → IsLive (ticket new t).stage → ⊥
  not-none t e l = l (ap (λ (x : Ticket). x.stage) e)

  -- a property of every live ticket
  each : (P : Ticket → Type 0) → ((t : ℕ) → IsLive (ticket old t).stage → P (ticket old t)) → P k → (t : ℕ) → IsLive (ticket new t).stage → P (ticket new t)
  each P o n t l = elim (which t) [
    | old-one a e ↦ subst P (sym e) (o t (was-live t e l))
    | new-one a e ↦ subst P (sym e) n
    | no-one e ↦ absurd (not-none t e l)
  ]

  -- and of two
  pair : (P : Ticket → Ticket → Type 0) → ((t u : ℕ) → IsLive (ticket old t).stage → IsLive (ticket old u).stage → t ≢ u → P (ticket old t) (ticket old u))
      → ((t : ℕ) → IsLive (ticket old t).stage → P (ticket old t) k × P k (ticket old t)) → (t u : ℕ) → IsLive (ticket new t).stage → IsLive (ticket new u).stage → t ≢ u → P (ticket new t) (ticket new u)
  pair P o n t u l m ne = elim (which t) [
    | old-one a e ↦ elim (which u) [
      | old-one b g ↦ subst (λ (x : Ticket). P x (ticket new u)) (sym e) (subst (P (ticket old t)) (sym g) (o t u (was-live t e l) (was-live u g m) ne))
      | new-one b g ↦ subst (λ (x : Ticket). P x (ticket new u)) (sym e) (subst (P (ticket old t)) (sym g) (n t (was-live t e l)).0)
      | no-one g ↦ absurd (not-none u g m)
    ]
    | new-one a e ↦ elim (which u) [
      | old-one b g ↦ subst (λ (x : Ticket). P x (ticket new u)) (sym e) (subst (P k) (sym g) (n u (was-live u g m)).1)
      | new-one b g ↦ absurd (ne (a ∙ sym b))
      | no-one g ↦ absurd (not-none u g m)
    ]
    | no-one e ↦ absurd (not-none t e l)
  ]

  living-at : (t : ℕ) → IsLive (ticket old t).stage → lives (ticket old t) ≡ true
  living-at t l = living (ticket old t).stage l

  are-tickets : AreTickets (tickets_of new)
  are-tickets =
      let o = h.tickets in
      let b = buffers_owned new space in
      record {
        block = each (λ (x : Ticket). IsCommandBlock x.block) o.block (subst IsCommandBlock (sym block-is) f.block);
        unit = λ t l. subst (λ (us : List RigUnit). (ticket new t).unit < length us) (sym units) (each (λ (x : Ticket). x.unit < length old.units) o.unit (omega (arith, unit-is, inside)) t l);
        tag = each (λ (x : Ticket). x.tag < 256) o.tag (omega (arith, tag-is, f.tag));
        blocks = pair (λ (x y : Ticket). x.block ≢ y.block) o.blocks (λ t l. (λ e. f.unused t (living-at t l) (e ∙ block-is), λ e. f.unused t (living-at t l) (sym e ∙ block-is)));
        tags = pair (λ (x y : Ticket). x.unit ≡ y.unit → x.tag ≢ y.tag) o.tags
            (λ t l. (λ s e. f.untagged t (living-at t l) (s ∙ unit-is) (e ∙ tag-is), λ s e. f.untagged t (living-at t l) (sym s ∙ unit-is) (sym e ∙ tag-is)));
        turned = λ t e. elim (which t) [
          | old-one a g ↦ subst (λ (x : Ticket). IsTurned x.stage) (sym g) (o.turned t (ap (λ (x : Ticket). x.checked && not (is_check x.stage)) (sym g) ∙ e))
          | new-one a g ↦ (let z : true ≡ false = sym e ∙ ap (λ (x : Ticket). x.checked && not (is_check x.stage)) g ∙ ap (λ (y : Bool). y && not (is_check k.stage)) unchecked in absurd cc)
          | no-one g ↦ (let z : true ≡ false = sym e ∙ ap (λ (x : Ticket). x.checked && not (is_check x.stage)) g in absurd cc)
        ];
        within = λ t i l. b.within t i (living (ticket new t).stage l);
        apart = λ t u i j l m. b.apart t u i j (living (ticket new t).stage l) (living (ticket new u).stage m);
      }

  -- ---- how many live

  fewer : count_by (is_of_unit r.unit) old.tickets < (unit old r.unit).depth
  fewer =
      let less : length (filter (is_of_unit r.unit) old.tickets) < (unit old r.unit).depth = grind (arith, nat_tests, room) in
      omega (arith, less, length-filter (is_of_unit r.unit) old.tickets)

  other-unit : (u : ℕ) → u ≢ r.unit → is_of_unit u k ≡ false
  other-unit u ne = grind (arith, nat_tests, unit-is, ne)

  bit-most : (b : Bool) → bit b ≤ 1
  bit-most true = omega arith
  bit-most false = omega arith

  has-depths : HasDepths new
  has-depths = record {
    unit = λ t l. are-tickets.unit t (is-live (ticket new t) l);
    depth = λ u l.
        let low : u < length old.units = subst (λ (us : List RigUnit). u < length us) units l in
        let n : length (filter (is_of_unit u) new.tickets) ≡ count_by (is_of_unit u) new.tickets = length-filter (is_of_unit u) new.tickets in
        let m : count_by (is_of_unit u) new.tickets ≡ count_by (is_of_unit u) old.tickets + bit (is_of_unit u k) = ap (count_by (is_of_unit u)) tickets ∙ sum_by_push (λ (x : Ticket). bit (is_of_unit u x)) old.tickets k in
        let d : (unit new u).depth ≡ (unit old u).depth = ap (λ (us : List RigUnit). (get_or us u no_unit).depth) units in
        ⊎_elim
        (λ (e : u ≡ r.unit).
        let x : count_by (is_of_unit u) old.tickets < (unit old u).depth = subst (λ (v : ℕ). count_by (is_of_unit v) old.tickets < (unit old v).depth) (sym e) fewer in
        omega (arith, n, m, d, x, bit-most (is_of_unit u k)))
        (λ (e : u ≢ r.unit).
        let z : bit (is_of_unit u k) ≡ 0 = ap bit (other-unit u e) in
        omega (arith, n, m, d, z, h.depths.depth u low, length-filter (is_of_unit u) old.tickets))
        (cases_eq u r.unit);
  }

pub tickets_built : TicketsBuilt
tickets_built retries step_limit old new memory memory' l r t rig b h =
    let k = new_ticket old l r b.chunks in
    let inside = has-unit old r b.sound in
    let space = build_owns old new memory memory' l r t b h.space in
    let f = places_free retries step_limit old r.unit rig h.depths inside b.not_full in
    let tickets = ap (λ (d : DeskState). d.tickets) b.desk in
    let units = ap (λ (d : DeskState). d.units) b.desk in
    record {
      tickets = are-tickets retries step_limit old new r k rig h tickets units space inside b.not_full refl refl refl f refl refl;
      depths = has-depths retries step_limit old new r k rig h tickets units space inside b.not_full refl refl refl f refl refl;
      space = space;
    }
