-- The turn of a target with one unit, that is to choose.
use Rattle.std.proofs.Common.{◌≡◌, ℕ, Bool, true, false, List, [], length, refl, ap, sym, ◌∙◌, subst, Some, slice_get}
use Rattle.target_law.specs.declared.moves.Move.{Move}
use Rattle.target_law.specs.declared.moves.Move.TheVariants.{Go}
use Rattle.target_law.specs.declared.task_phase.TaskPhase.{TaskPhase}
use Rattle.target_law.specs.declared.task_phase.TaskPhase.TheVariants.{ToChoose}
use Rattle.target_law.specs.Session.{Task, Session, acted}
use Rattle.target_law.specs.Choice.{offers, index, can_go, can_refuse, can_spend, go_bytes, Names}
use Rattle.target_law.specs.Bytes.{Connection}
use Rattle.target_law.specs.Target.{LogicalUnit, TaskConnected, Target, session, unit_after}
use Rattle.target_law.specs.Calls.{is_free, target_acted}
use Rattle.target_law.specs.Lawful.{NamesOf}
use Rattle.one_target.specs.Bus.{BusState, if_fits, with_room, becomes, is_to_choose, Settles, Acts, Chooses, ChoosesWhere, GoesOn, Turns}
use Rattle.target_law.specs.Devices.{lie_within}
use Rattle.one_target.proofs.Slots.{slots, unit_at-slots, with_unit-slots}

-- a task of LUN 0 that a selection connected
abbrev pub connected : Task → TaskPhase → Connection
connected k shows = record { lun = 0; reselected = false; heard = []; task = k; shows = shows }

abbrev pub working : LogicalUnit → Task → TaskPhase → Target
working u k shows = record { units = slots u; link = TaskConnected (connected k shows) }

-- a Go is the one move that is offered
by_offers : (go refuse spend : Bool) (n k : ℕ) (m : Move) → go ≡ true → refuse ≡ false → spend ≡ false → n ≡ k →
    slice_get (offers go refuse spend n) (index 0 (length (offers go refuse spend n))) ≡ Some m → m ≡ Go k
by_offers true false false n k m e f g h i = let j : Some (Go n) ≡ Some m = i in let l : Go n ≡ m = cc in sym l ∙ ap (λ (x : ℕ). Go x) h
by_offers true false true n k m e f g h i = absurd cc
by_offers true true spend n k m e f g h i = absurd cc
by_offers false refuse spend n k m e f g h i = absurd cc

pub only_go : (s : Session) (limit refused n : ℕ) (m : Move) → can_go s ≡ true → can_refuse s limit refused ≡ false → can_spend s ≡ false → go_bytes s 0 ≡ n → Names s limit refused 0 m → m ≡ Go n
only_go s limit refused n m e f g h i = by_offers (can_go s) (can_refuse s limit refused) (can_spend s) (go_bytes s 0) n m e f g h i

-- the target after a move of its task
pub acted-working : (u : LogicalUnit) (k : Task) (m : Move) (s : Session) → acted m (session u (connected k ToChoose)) ≡ s → target_acted (working u k ToChoose) m ≡ working (unit_after u s) s.task s.shows
unfolding target_acted
acted-working u k m s e = rw (unit_at-slots u, e, with_unit-slots u (unit_after u s)) refl

-- what its choice comes to
pub record Goes (u : LogicalUnit) (k : Task) (n : ℕ) (s : Session) (rooms : List ℕ) : Type 0 where
  pub only : (m : Move) → NamesOf u (connected k ToChoose) 0 m → m ≡ Go n
  pub acted_is : acted (Go n) (session u (connected k ToChoose)) ≡ s
  pub fits : lie_within (slots (unit_after u s)) rooms ≡ true
  pub shown : is_to_choose (TaskConnected (connected s.task s.shows)) ≡ false

acts-is : (u : LogicalUnit) (k : Task) (n : ℕ) (s : Session) (rooms : List ℕ) (t' : Target) → Goes u k n s rooms → Acts rooms 0 (working u k ToChoose) (connected k ToChoose) t' → t' ≡ working (unit_after u s) s.task s.shows
acts-is u k n s rooms t' g a =
    let t : Target = working u k ToChoose in
    let after : Target = working (unit_after u s) s.task s.shows in
    let same : Some a.unit ≡ Some u = sym a.unit_is ∙ unit_at-slots u in
    let unit_is : a.unit ≡ u = cc in
    let named : NamesOf u (connected k ToChoose) 0 a.move = rw unit_is at a.named in
    let move_is : a.move ≡ Go n = g.only a.move named in
    let acted_is : target_acted t a.move ≡ after = ap (λ (m : Move). target_acted t m) move_is ∙ acted-working u k (Go n) s g.acted_is in
    let e : with_room rooms t (target_acted t a.move) ≡ after = ap (λ (x : Target). with_room rooms t x) acted_is ∙ ap (λ (x : Bool). if_fits x t after) g.fits in
    let settled : Settles after t' = subst (λ (x : Target). Settles x t') e a.after in
    rw g.shown at settled

acts_where : (atn : Bool) (rooms : List ℕ) (t t' : Target) (c : Connection) → atn ≡ false → Chooses (TaskConnected c) atn rooms 0 t t' → Acts rooms 0 t c t'
acts_where true rooms t t' c e m = absurd cc
acts_where false rooms t t' c e m = m

pub turns-go : (b mid : BusState) (u : LogicalUnit) (k : Task) (n : ℕ) (s : Session) → is_free b.target.link ≡ false → b.atn ≡ false → b.target ≡ working u k ToChoose → Goes u k n s b.rooms →
    Turns 0 b mid → mid ≡ record b { target = working (unit_after u s) s.task s.shows }
turns-go b mid u k n s bound off begun g t =
    let o : GoesOn 0 b mid = rw bound at t in
    let d : ChoosesWhere true b.atn b.rooms 0 (working u k ToChoose) o.target = subst (λ (x : Target). ChoosesWhere (is_to_choose x.link) b.atn b.rooms 0 x o.target) begun o.chooses in
    let a : Acts b.rooms 0 (working u k ToChoose) (connected k ToChoose) o.target = acts_where b.atn b.rooms (working u k ToChoose) o.target (connected k ToChoose) off d in
    let e : o.target ≡ working (unit_after u s) s.task s.shows = acts-is u k n s b.rooms o.target g a in
    o.becomes_it ∙ ap (λ (x : Target). becomes b x) e
