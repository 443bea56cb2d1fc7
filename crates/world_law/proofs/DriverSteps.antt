-- A step of the driver has one answer and leaves one world.
use Rattle.std.proofs.Common.{◌≡◌, ℕ, ◌-◌, List, [], ◌∷◌, ◌++◌, Option, Some, None, slice_get, sym, ap, ◌∙◌, inl, inr}
use Rattle.rig_types.specs.declared.commands.Command.{Command}
use Rattle.rig_types.specs.declared.acts.Act.{Act}
use Rattle.rig_types.specs.declared.step.Line.{Line}
use Rattle.rig_types.specs.declared.step.Step.{Step}
use Rattle.rig_types.specs.declared.step.Step.TheVariants as step
use Rattle.unit_law.specs.Request.{RequestData, plain}
use Rattle.phase_fix.specs.declared.moves.DataMove.{DataMove}
use Rattle.phase_fix.specs.Moves.{move_at}
use Rattle.desk_law.specs.declared.refused.Refused.{Refused}
use Rattle.desk_law.specs.Desk.{DeskState, unit}
use Rattle.desk_law.specs.Rings.{done_ticket}
use Rattle.desk_law.specs.Reporting.{report_at}
use Rattle.desk_law.proofs.Builds.{refuses_for_one, refuses_or_builds, builds_once, frees_once}
use Rattle.world_law.specs.declared.reply.Decided.TheVariants as line
use Rattle.world_law.specs.declared.reply.Reply.{Reply}
use Rattle.world_law.specs.declared.reply.Reply.TheVariants as reply
use Rattle.world_law.specs.World.{BenchSetting, World, command_at}
use Rattle.bus_law.specs.Rooms.{with_room_at}
use Rattle.world_law.specs.Repairs.{fixed, Fixes}
use Rattle.world_law.specs.Builds.{decides, refuses, is_tried_again, Accepts, BuildsBy, BuildsOf}
use Rattle.world_law.specs.Acts.{ActsOf}
use Rattle.world_law.specs.Steps.{TakesOf, FreesTicket, Does}

-- ---- Build

accepts-once : (old : World) (l : Line) (r : RequestData) (t u : ℕ) (new other : World) → Accepts old l r t new → Accepts old l r u other → (reply.Built t ≡ reply.Built u) × (new ≡ other)
accepts-once old l r t u new other m n =
    let e : (t ≡ u) × (new.desk ≡ other.desk) × (new.memory ≡ other.memory) = builds_once old.desk old.memory l r t u new.desk other.desk new.memory other.memory m.builds n.builds in
    let made : ℕ → DeskState → List ℕ → World = λ k d x. record (decides old l (line.Accepted k)) {
      memory = x;
      desk = d;
      bus = with_room_at old.bus (unit old.desk r.unit).target;
    } in (
      ap (λ (k : ℕ). reply.Built k) e.0,
      m.world ∙ ap (λ (k : ℕ). made k new.desk new.memory) e.0 ∙ ap (λ (d : DeskState). made u d new.memory) e.1 ∙ ap (λ (x : List ℕ). made u other.desk x) e.2 ∙ sym n.world,
    )

refuses-once : (old : World) (l : Line) (c : Command) (r s : Refused) (new other : World) → BuildsBy old l c (reply.Refused r) new → BuildsBy old l c (reply.Refused s) other
    → (reply.Refused r ≡ reply.Refused s) × (new ≡ other)
refuses-once old l c r s new other m n =
    let e : r ≡ s = refuses_for_one old.desk (plain c.request) r s m.0 n.0 in
    (ap (λ (x : Refused). reply.Refused x) e, m.1 ∙ ap (λ (x : Refused). refuses (is_tried_again c.when_full x) old l x) e ∙ sym n.1)

builds-by : (old : World) (l : Line) (c : Command) (a b : Reply) (new other : World) → BuildsBy old l c a new → BuildsBy old l c b other → (a ≡ b) × (new ≡ other)
builds-by old l c (reply.Built t) (reply.Built u) new other m n = accepts-once old l (plain c.request) t u new other m n
builds-by old l c (reply.Built t) (reply.Refused s) new other m n = absurd (refuses_or_builds old.desk old.memory l (plain c.request) s t new.desk new.memory n.0 m.builds)
builds-by old l c (reply.Refused r) (reply.Built u) new other m n = absurd (refuses_or_builds old.desk old.memory l (plain c.request) r u other.desk other.memory m.0 n.builds)
builds-by old l c (reply.Refused r) (reply.Refused s) new other m n = refuses-once old l c r s new other m n
builds-by old l c (reply.Built t) _ new other m n = absurd n
builds-by old l c (reply.Refused r) _ new other m n = absurd n
builds-by old l c _ b new other m n = absurd m

builds-of : (o : Option Command) (old : World) (l : Line) (a b : Reply) (new other : World) → BuildsOf o old l a new → BuildsOf o old l b other → (a ≡ b) × (new ≡ other)
builds-of None old l a b new other m n = absurd m
builds-of (Some c) old l a b new other m n = builds-by old l c a b new other m n

-- ---- the others

one-move : (o : Option DataMove) (x y : DataMove) → o ≡ Some x → o ≡ Some y → x ≡ y
one-move None x y h k = absurd cc
one-move (Some z) x y h k = let e : z ≡ x = cc in let f : z ≡ y = cc in sym e ∙ f

fixes-once : (old new other : World) → Fixes old new → Fixes old other → new ≡ other
fixes-once old new other h k = elim h [
  | inl x ↦ elim k [
    | inl y ↦ x.world ∙ ap (fixed old) (one-move (move_at (old.regs.dsp - 8)) x.move y.move x.is y.is) ∙ sym y.world
    | inr y ↦ absurd (y.0 x.can_fix)
  ]
  | inr x ↦ elim k [
    | inl y ↦ absurd (x.0 y.can_fix)
    | inr y ↦ x.1 ∙ sym y.1
  ]
]

takes-once : (o : Option ℕ) (old : World) (a b : Reply) (new other : World) → TakesOf o old a new → TakesOf o old b other → (a ≡ b) × (new ≡ other)
takes-once None old a b new other m n = absurd m
takes-once (Some t) old a b new other m n = (m.0 ∙ sym n.0, m.1 ∙ sym n.1)

acts-once : (o : Option Act) (old : World) (a b : Reply) (new other : World) → ActsOf o old a new → ActsOf o old b other → (a ≡ b) × (new ≡ other)
acts-once None old a b new other m n = absurd m
acts-once (Some x) old a b new other m n = (m.0 ∙ sym n.0, m.1 ∙ sym n.1)

frees-ticket : (old : World) (t : ℕ) (a b : Reply) (new other : World) → FreesTicket old t a new → FreesTicket old t b other → (a ≡ b) × (new ≡ other)
frees-ticket old t a b new other m n =
    let e : new.desk ≡ other.desk = frees_once old.desk t new.desk other.desk m.frees n.frees in
    let made : DeskState → World = λ d. record old { desk = d; reports = old.reports ++ report_at old.desk old.memory t ∷ [] } in
    (m.answer_is ∙ sym n.answer_is, m.world ∙ ap made e ∙ sym n.world)

-- every step but the chip's
abbrev pub IsPatch : Step → Type 0
IsPatch (step.Chip word) = ⊥
IsPatch _ = Unit {0}

pub once : (g : BenchSetting) (old : World) (caller : ℕ) (s : Step) (a b : Reply) (new other : World) → IsPatch s → Does g old caller s a new → Does g old caller s b other → (a ≡ b) × (new ≡ other)
once g old caller (step.Build l) a b new other p m n = builds-of (command_at g l) old l a b new other m n
once g old caller (step.Link t) a b new other p m n = (m.0 ∙ sym n.0, m.1 ∙ sym n.1)
once g old caller (step.Queue t) a b new other p m n = (m.0 ∙ sym n.0, m.1 ∙ sym n.1)
once g old caller step.Signal a b new other p m n = (m.0 ∙ sym n.0, m.1 ∙ sym n.1)
once g old caller (step.Chip word) a b new other p m n = absurd p
once g old caller step.Fix a b new other p m n = (m.0 ∙ sym n.0, fixes-once old new other m.1 n.1)
once g old caller (step.Sweep t) a b new other p m n = (m.0 ∙ sym n.0, m.1 ∙ sym n.1)
once g old caller step.Restart a b new other p m n = (m.0 ∙ sym n.0, m.1 ∙ sym n.1)
once g old caller step.TakeDone a b new other p m n = takes-once (done_ticket old.memory old.desk) old a b new other m n
once g old caller (step.Unlink t) a b new other p m n = (m.0 ∙ sym n.0, m.1 ∙ sym n.1)
once g old caller (step.Free t) a b new other p m n = frees-ticket old t a b new other m n
once g old caller (step.Act k) a b new other p m n = acts-once (slice_get g.acts k) old a b new other m n
once g old caller step.ResetBus a b new other p m n = (m.0 ∙ sym n.0, m.1 ∙ sym n.1)
once g old caller (step.Sense t) a b new other p m n = (m.0 ∙ sym n.0, m.1 ∙ sym n.1)
