-- Every run has a plan.
use Rattle.std.proofs.Common.{arith, ◌≡◌, ◌≢◌, ◌⊎◌, inl, inr, ℕ, zero, suc, ◌+◌, ◌<◌, ◌≤◌, nat_lt, Bool, true, false, List, [], ◌∷◌, ◌++◌, length, length-append, slice_get, slice_index_or, Option, Some, None, refl, sym, ap, subst, ◌∙◌}
use Rattle.std.specs.Prelude.{option_map, sum}
use Rattle.std.proofs.lemmas.Bool.Decides.{nat_tests}
use Rattle.std.proofs.lemmas.List.Elements.{All-get_or}
use Rattle.std.proofs.lemmas.Option.{slice_get_within, get_or_from_slice_get, slice_get-get_or}
use Rattle.std.proofs.Math.Seq.{get_or-append_seam}
use Rattle.scsi_words.specs.declared.phases.kinds.Direction.TheVariants.{None as NoData}
use Rattle.rig_types.specs.Ranges.{IsRig, IsUnit, Agree}
use Rattle.rig_types.specs.declared.commands.Command.{Command}
use Rattle.rig_types.specs.declared.rig.Unit.{Unit as RigUnit}
use Rattle.rig_types.specs.declared.step.Line.{Line}
use Rattle.rig_types.specs.declared.step.Step.{Step}
use Rattle.rig_types.specs.declared.step.Step.TheVariants as step
use Rattle.unit_law.specs.Request.{RequestData, plain}
use Rattle.desk_law.specs.declared.refused.Refused.{Refused}
use Rattle.desk_law.specs.declared.ticket.Ticket.{Ticket}
use Rattle.desk_law.specs.Building.{new_ticket}
use Rattle.desk_law.specs.Desk.{DeskState, ticket, no_ticket, no_unit}
use Rattle.ticket_fate.specs.Tickets.{Plan, IsAccepted}
use Rattle.ticket_fate.specs.Linked.{IsPlan}
use Rattle.world_law.specs.declared.reply.Reply.{Reply}
use Rattle.world_law.specs.declared.reply.Reply.TheVariants as reply
use Rattle.world_law.specs.World.{BenchSetting, IsBenchSetting, World, command_at, request_at}
use Rattle.world_law.specs.Opening.{opened}
use Rattle.world_law.specs.Enabling.{Enabled}
use Rattle.world_law.specs.Builds.{refuses, is_tried_again, BuildsBy, BuildsOf}
use Rattle.world_law.specs.Laws.{KeepsTicket}
use Rattle.world_law.specs.Runs.{Moment, Steps, IsRun, last, built}
use Rattle.world_law.specs.Steps.{Does}
use Rattle.world_law.proofs.Effects.{Counted, effect}
use Rattle.world_law.proofs.TicketsKept.{keeps_tickets}
use Rattle.word_owners.specs.BenchSteps.{is_build}
use Rattle.word_owners.specs.Worlds.{HasBytes}
use Rattle.run_joined.specs.Joined.{IsDeskOf}
use Rattle.run_joined.specs.Plans.{IsPlanOf, PlansExist, PlansStay}
use Rattle.run_joined.proofs.Requests.{accepted, in-rig}
use Rattle.run_joined.proofs.Rigs.{rig-stays, desk-stays, none-built}

below-or : (x n : ℕ) → (x < n) ⊎ (n ≤ x)
below-or x n = by (nat_lt x n) refl
  where
    by : (b : Bool) → nat_lt x n ≡ b → (x < n) ⊎ (n ≤ x)
    by true e = inl (grind (arith, nat_tests))
    by false e = inr (grind (arith, nat_tests))

-- ---- the command of a ticket's line is one that the driver accepts
record HasCommand (g : BenchSetting) (l : Line) : Type 0 where
  pub command : Command
  pub is : command_at g l ≡ Some command
  pub accepted : IsAccepted (plain command.request)
  pub unit : (plain command.request).unit < length g.units

abbrev HaveCommands : BenchSetting → World → Type 0
HaveCommands g w = (t : ℕ) → t < length w.desk.tickets → HasCommand g (ticket w.desk t).line

-- as many tickets as before
no-more : (number : Option ℕ) (old new : List Ticket) → number ≡ None → Counted old number new → length new ≡ length old
no-more number old new e (inl h) = h.1
no-more number old new e (inr h) = let z : None ≡ Some (length old) = sym e ∙ h.0 in absurd cc

module _ (g : BenchSetting) (bytes : HasBytes g) where
  -- the ticket that Build adds
  added : (old : World) (l : Line) (c : Command) (t : ℕ) (new : World) → command_at g l ≡ Some c → IsDeskOf g old.desk → BuildsBy old l c (reply.Built t) new → (i : ℕ) → i < length new.desk.tickets → length old.desk.tickets ≤ i
      → HasCommand g (ticket new.desk i).line
  added old l c t new e d m i low high =
      let k = new_ticket old.desk l (plain c.request) m.builds.chunks in
      let tickets : new.desk.tickets ≡ old.desk.tickets ++ k ∷ [] = ap (λ (x : DeskState). x.tickets) m.builds.desk in
      let size = length-append old.desk.tickets (k ∷ []) in
      let at : i ≡ length old.desk.tickets = omega (arith, low, high, ap length tickets, size) in
      let is : ticket new.desk i ≡ k =
      ap (λ ks. slice_index_or ks i no_ticket) tickets ∙ ap (λ n. slice_index_or (old.desk.tickets ++ k ∷ []) n no_ticket) at ∙ get_or-append_seam old.desk.tickets k [] no_ticket in
      let b = bytes l c e in
      subst (λ (x : Ticket). HasCommand g x.line) (sym is) (record {
        command = c;
        is = e;
        accepted = accepted old.desk.units (plain c.request) m.builds.sound b.cdb c.request.whole;
        unit = omega (arith, in-rig old.desk.units (plain c.request) m.builds.sound, ap length d.units);
      })

  refused-same : (again : Bool) (old : World) (l : Line) (r : Refused) → length (refuses again old l r).desk.tickets ≡ length old.desk.tickets
  refused-same true old l r = refl
  refused-same false old l r = refl

  added-by : (k : Option Command) (old : World) (l : Line) (a : Reply) (new : World) → command_at g l ≡ k → IsDeskOf g old.desk → BuildsOf k old l a new → (i : ℕ) → i < length new.desk.tickets → length old.desk.tickets ≤ i
      → HasCommand g (ticket new.desk i).line
  added-by None old l a new e d m i low high = absurd m
  added-by (Some c) old l (reply.Built t) new e d m i low high = added old l c t new e d m i low high
  added-by (Some c) old l (reply.Refused r) new e d m i low high =
      absurd (omega (arith, low, high, ap (λ (w : World). length w.desk.tickets) m.1, refused-same (is_tried_again c.when_full r) old l r))
  added-by (Some c) old l _ new e d m i low high = absurd m

  new-command : (old : World) (caller : ℕ) (s : Step) (a : Reply) (new : World) → Enabled g old caller s → Does g old caller s a new → IsDeskOf g old.desk → (i : ℕ) → i < length new.desk.tickets → length old.desk.tickets ≤ i
      → HasCommand g (ticket new.desk i).line
  new-command old caller (step.Build l) a new may m d i low high = added-by (command_at g l) old l a new refl d m i low high
  new-command old caller s a new may m d i low high =
      let x = effect g old caller s a new may m in
      absurd (omega (arith, low, high, no-more (built a) old.desk.tickets new.desk.tickets (none-built g old caller s a new refl m) x.counted))

  commands-on : (old : World) (m : Moment) → Steps g old m → IsDeskOf g old.desk → HaveCommands g old → HaveCommands g m.after
  commands-on old m s d h t l = by (below-or t (length old.desk.tickets))
    where
      by : (t < length old.desk.tickets) ⊎ (length old.desk.tickets ≤ t) → HasCommand g (ticket m.after.desk t).line
      by (inl a) = subst (HasCommand g) (sym (keeps_tickets g old m t s a).line) (h t a)
      by (inr a) = new-command old m.entry.caller m.entry.step m.reply m.after s.enabled s.does d t l a

  run-commands : (w : World) (ms : List Moment) → IsRun g w ms → IsDeskOf g w.desk → HaveCommands g w → HaveCommands g (last w ms) × IsDeskOf g (last w ms).desk
  run-commands w [] r d h = (h, d)
  run-commands w (m ∷ ms) r d h =
      run-commands m.after ms r.1 (desk-stays g w.desk m.after.desk (rig-stays g w m.entry.caller m.entry.step m.reply m.after r.0.does) d) (commands-on w m r.0 d h)

-- ---- the plan
-- the request of a number that no ticket has: TEST UNIT READY of the first unit
abbrev no_data_request : RequestData
no_data_request = record { unit = 0; cdb = 0 ∷ 0 ∷ 0 ∷ 0 ∷ 0 ∷ 0 ∷ []; segments = []; direction = NoData; bytes = [] }

abbrev plain_or : Option Command → RequestData
plain_or None = no_data_request
plain_or (Some c) = plain c.request

abbrev planned : BenchSetting → World → (built : Bool) → ℕ → RequestData
planned g w true t = plain_or (command_at g (ticket w.desk t).line)
planned g w false t = no_data_request

-- a unit that no unit of the rig has for its place
abbrev unit_or : Option RigUnit → ℕ → RigUnit
unit_or None n = record no_unit { target = n + 8 }
unit_or (Some u) n = u

abbrev plan_at : BenchSetting → World → Plan
plan_at g w = record {
  requests = λ t. planned g w (nat_lt t (length w.desk.tickets)) t;
  units = λ n. unit_or (slice_get g.units n) n;
  retries = g.retries;
  autosense = g.autosense;
}

module _ (version retries step_limit : ℕ) (units : List RigUnit) (rig : IsRig version units retries step_limit) where
  in-range : (n : ℕ) (u : RigUnit) → slice_get units n ≡ Some u → u.target ≤ 6
  in-range n u e =
      let l = slice_get_within units n u e in
      subst (λ (x : RigUnit). x.target ≤ 6) (get_or_from_slice_get units n u no_unit e) (All-get_or (IsUnit version) units n no_unit l rig.in_range).in_range.target

  agree : (m n : ℕ) (a b : RigUnit) → slice_get units m ≡ Some a → slice_get units n ≡ Some b → m < n → Agree a b
  agree m n a b e f l =
      subst (λ (x : RigUnit). Agree x b) (get_or_from_slice_get units m a no_unit e)
      (subst (Agree (slice_index_or units m no_unit)) (get_or_from_slice_get units n b no_unit f) (rig.agree m n no_unit l (slice_get_within units n b f)))

  which : (m n : ℕ) → (m < n) ⊎ ((n < m) ⊎ (m ≡ n))
  which m n = by (below-or m n) (below-or n m)
    where
      by : (m < n) ⊎ (n ≤ m) → (n < m) ⊎ (m ≤ n) → (m < n) ⊎ ((n < m) ⊎ (m ≡ n))
      by (inl a) b = inl a
      by (inr a) (inl b) = inr (inl b)
      by (inr a) (inr b) = inr (inr (omega (arith, a, b)))

  two-places : (m n : ℕ) (a b : RigUnit) → slice_get units m ≡ Some a → slice_get units n ≡ Some b → a.target ≡ b.target → a.lun ≡ b.lun → m ≡ n
  two-places m n a b e f t l = by (which m n)
    where
      by : (m < n) ⊎ ((n < m) ⊎ (m ≡ n)) → m ≡ n
      by (inl o) = absurd ((agree m n a b e f o).lun t l)
      by (inr (inl o)) = absurd ((agree n m b a f e o).lun (sym t) (sym l))
      by (inr (inr o)) = o

  apart-by : (m n : ℕ) (x y : Option RigUnit) → slice_get units m ≡ x → slice_get units n ≡ y → (unit_or x m).target ≡ (unit_or y n).target → (unit_or x m).lun ≡ (unit_or y n).lun → m ≡ n
  apart-by m n (Some a) (Some b) e f t l = two-places m n a b e f t l
  apart-by m n (Some a) None e f t l = let k = in-range m a e in absurd (omega (arith, k, t))
  apart-by m n None (Some b) e f t l = let k = in-range n b f in absurd (omega (arith, k, t))
  apart-by m n None None e f t l = omega (arith, t)

no-data-accepted : IsAccepted no_data_request
no-data-accepted = record { form = tt; way = λ l. absurd (omega (arith, l)); enough = omega arith; small = omega arith }

module _ (g : BenchSetting) (setting : IsBenchSetting g) (w : World) (h : HaveCommands g w) where
  command-accepted : (o : Option Command) (c : Command) → o ≡ Some c → IsAccepted (plain c.request) → IsAccepted (plain_or o)
  command-accepted o c e a = subst (λ (x : Option Command). IsAccepted (plain_or x)) (sym e) a

  planned-accepted : (t : ℕ) (b : Bool) → nat_lt t (length w.desk.tickets) ≡ b → IsAccepted (planned g w b t)
  planned-accepted t true e = let c = h t (grind (arith, nat_tests)) in command-accepted _ c.command c.is c.accepted
  planned-accepted t false e = no-data-accepted

  planned-known : (t : ℕ) (b : Bool) → nat_lt t (length w.desk.tickets) ≡ b → (planned g w b t).unit < length g.units
  planned-known t true e =
      let c = h t (grind (arith, nat_tests)) in subst (λ (x : Option Command). (plain_or x).unit < length g.units) (sym c.is) c.unit
  planned-known t false e = let s = setting.rig.some_units in omega (arith, s)

  is-plan : IsPlan (plan_at g w) (length g.units)
  is-plan = record {
    accepted = λ t. planned-accepted t (nat_lt t (length w.desk.tickets)) refl;
    known = λ t. planned-known t (nat_lt t (length w.desk.tickets)) refl;
    apart = λ m n t l. apart-by g.version g.retries g.step_limit g.units setting.rig m n (slice_get g.units m) (slice_get g.units n) refl refl t l;
  }

  planned-request : (t : ℕ) → t < length w.desk.tickets → request_at g (ticket w.desk t).line ≡ Some ((plan_at g w).requests t)
  planned-request t l =
      let c = h t l in
      let is : nat_lt t (length w.desk.tickets) ≡ true = grind (arith, nat_tests) in
      let a : request_at g (ticket w.desk t).line ≡ Some (plain c.command.request) = ap (option_map (λ (x : Command). plain x.request)) c.is in
      let b : (plan_at g w).requests t ≡ plain c.command.request = ap (λ (z : Bool). planned g w z t) is ∙ ap plain_or c.is in
      a ∙ ap Some (sym b)

  unit-here : (n : ℕ) → n < length g.units → slice_get g.units n ≡ Some ((plan_at g w).units n)
  unit-here n l =
      let e : slice_get g.units n ≡ Some (slice_index_or g.units n no_unit) = slice_get-get_or g.units n no_unit l in
      e ∙ ap Some (sym (ap (λ (o : Option RigUnit). unit_or o n) e))

  is-plan-of : IsPlanOf g w (plan_at g w)
  is-plan-of = record { requests = planned-request; units = unit-here; retries = refl; autosense = refl }

pub plans-exist : PlansExist
plans-exist g setting bytes ms r =
    let d : IsDeskOf g (opened g).desk = record { version = refl; units = refl; retries = refl; autosense = refl } in
    let x = run-commands g bytes (opened g) ms r d (λ t l. absurd (omega (arith, l))) in
    (plan_at g (last (opened g) ms), is-plan g setting (last (opened g) ms) x.0, is-plan-of g setting (last (opened g) ms) x.0)

-- ---- the plan before a step
pub plans-stay : PlansStay
plans-stay g old m p s h = record {
  requests = λ t l.
      let more : t < length m.after.desk.tickets = grown l (effect g old m.entry.caller m.entry.step m.reply m.after s.enabled s.does).counted in
      ap (request_at g) (sym (keeps_tickets g old m t s l).line) ∙ h.requests t more;
  units = h.units;
  retries = h.retries;
  autosense = h.autosense;
}
  where
    grown : {t : ℕ} → t < length old.desk.tickets → Counted old.desk.tickets (built m.reply) m.after.desk.tickets → t < length m.after.desk.tickets
    grown l (inl x) = omega (arith, l, x.1)
    grown l (inr x) = omega (arith, l, x.1)
