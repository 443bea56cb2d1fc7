-- What holds at the opening and is kept by each step of a run holds in every run; and what a step makes of the tickets that live.
use Rattle.std.proofs.Common.{arith, ◌≡◌, ◌⊎◌, inl, inr, ℕ, ◌<◌, ◌≤◌, nat_lt, Bool, true, false, List, [], ◌∷◌, ◌++◌, length, length-append, Option, Some, None, refl, sym, ap, subst, ◌∙◌}
use Rattle.std.specs.Prelude.{not}
use Rattle.std.proofs.lemmas.Bool.{false≢true}
use Rattle.std.proofs.lemmas.Bool.Decides.{nat_tests}
use Rattle.rig_types.specs.declared.commands.Command.{Command}
use Rattle.rig_types.specs.declared.step.Line.{Line}
use Rattle.rig_types.specs.declared.step.Step.{Step}
use Rattle.rig_types.specs.declared.step.Step.TheVariants as step
use Rattle.unit_law.specs.Request.{plain}
use Rattle.desk_law.specs.declared.refused.Refused.{Refused}
use Rattle.desk_law.specs.declared.ticket.Ticket.{Ticket}
use Rattle.desk_law.specs.declared.stage.Stage.{Stage}
use Rattle.desk_law.specs.Building.{new_ticket}
use Rattle.desk_law.specs.Desk.{DeskState, ticket, lives, is_freed}
use Rattle.world_law.specs.Builds.{Accepts, BuildsOf, refuses, is_tried_again}
use Rattle.world_law.specs.Opening.{opened}
use Rattle.world_law.specs.Runs.{Moment, Steps, IsRun, last, built}
use Rattle.world_law.specs.Steps.{Does}
use Rattle.world_law.specs.World.{BenchSetting, World, command_at}
use Rattle.world_law.specs.declared.reply.Reply.{Reply}
use Rattle.world_law.specs.declared.reply.Reply.TheVariants as reply
use Rattle.world_law.proofs.Effects.{Counted, effect, not-freed-within}
use Rattle.world_law.proofs.RunLaws.{goes_on, ends_after}
use Rattle.world_law.proofs.TicketNumbers.{freed_stays_so}
use Rattle.word_owners.specs.BenchSteps.{is_build}
use Rattle.word_owners.specs.Tickets.{IsLive}
use Rattle.run_joined.proofs.Rigs.{none-built}

pub append-one : (ns : List Moment) (m : Moment) (ms : List Moment) → (ns ++ m ∷ []) ++ ms ≡ ns ++ m ∷ ms
append-one [] m ms = refl
append-one (n ∷ ns) m ms = ap (λ (z : List Moment). n ∷ z) (append-one ns m ms)

pub append-none : (ns : List Moment) → ns ++ [] ≡ ns
append-none [] = refl
append-none (n ∷ ns) = ap (λ (z : List Moment). n ∷ z) (append-none ns)

module _ (g : BenchSetting) (P : List Moment → Type 0) (start : P []) (keeps : (ms : List Moment) (m : Moment) → IsRun g (opened g) ms → Steps g (last (opened g) ms) m → P ms → P (ms ++ m ∷ [])) where
  all-steps : (ns ms : List Moment) → IsRun g (opened g) ns → IsRun g (last (opened g) ns) ms → P ns → P (ns ++ ms)
  all-steps ns [] r s x = subst P (sym (append-none ns)) x
  all-steps ns (m ∷ ms) r s x =
      subst P (append-one ns m ms)
      (all-steps (ns ++ m ∷ []) ms (goes_on g (opened g) ns m r s.0) (subst (λ (w : World). IsRun g w ms) (sym (ends_after (opened g) ns m)) s.1) (keeps ns m r s.0 x))

  pub by-steps : (ms : List Moment) → IsRun g (opened g) ms → P ms
  by-steps ms r = all-steps [] ms tt r start

-- ---- who lives after a step

not-not : (x : Bool) → not x ≡ true → x ≡ false
not-not true e = absurd cc
not-not false e = refl

pub below-or : (x n : ℕ) → (x < n) ⊎ (n ≤ x)
below-or x n = by (nat_lt x n) refl
  where
    by : (b : Bool) → nat_lt x n ≡ b → (x < n) ⊎ (n ≤ x)
    by true e = inl (grind (arith, nat_tests))
    by false e = inr (grind (arith, nat_tests))

pub within : (d : DeskState) (t : ℕ) → lives (ticket d t) ≡ true → t < length d.tickets
within d t e = not-freed-within d.tickets t (not-not (is_freed (ticket d t).stage) e)

pub stage-lives : (d : DeskState) (t : ℕ) → lives (ticket d t) ≡ true → IsLive (ticket d t).stage
stage-lives d t e f = false≢true (sym (ap (λ (x : Stage). not (is_freed x)) f) ∙ e)

-- an accepted line, as its step made it
pub record IsAccepted (g : BenchSetting) (old new : World) (l : Line) (t : ℕ) : Type 0 where
  pub command : Command
  pub is : command_at g l ≡ Some command
  pub accepts : Accepts old l (plain command.request) t new

-- a ticket lived before the step, or the step built it
abbrev pub LivedOrBuilt : BenchSetting → World → Moment → ℕ → Type 0
LivedOrBuilt g old m t =
    ((t < length old.desk.tickets) × (lives (ticket old.desk t) ≡ true)) ⊎ ((l : Line) × (m.entry.step ≡ step.Build l) × (t ≡ length old.desk.tickets) × IsAccepted g old m.after l t)

module _ (g : BenchSetting) (old : World) (m : Moment) (s : Steps g old m) (t : ℕ) (e : lives (ticket m.after.desk t) ≡ true) where
  no-more : (number : Option ℕ) (o n : List Ticket) → number ≡ None → Counted o number n → length n ≡ length o
  no-more number o n q (inl h) = h.1
  no-more number o n q (inr h) = let z : None ≡ Some (length o) = sym q ∙ h.0 in absurd cc

  abbrev Built : Step → Type 0
  Built x = (l : Line) × (x ≡ step.Build l) × (t ≡ length old.desk.tickets) × IsAccepted g old m.after l t

  refused-same : (again : Bool) (l : Line) (r : Refused) → length (refuses again old l r).desk.tickets ≡ length old.desk.tickets
  refused-same true l r = refl
  refused-same false l r = refl

  there : t < length m.after.desk.tickets
  there = within m.after.desk t e

  by-line : (l : Line) (k : Option Command) (a : Reply) → command_at g l ≡ k → BuildsOf k old l a m.after → length old.desk.tickets ≤ t → Built (step.Build l)
  by-line l None a q d high = absurd d
  by-line l (Some c) (reply.Built u) q d high =
      let size = ap (λ (x : DeskState). length x.tickets) d.builds.desk in
      let n = length-append old.desk.tickets (new_ticket old.desk l (plain c.request) d.builds.chunks ∷ []) in
      let at : t ≡ length old.desk.tickets = omega (arith, there, high, size, n) in
      (l, refl, at, record { command = c; is = q; accepts = subst (λ (i : ℕ). Accepts old l (plain c.request) i m.after) (d.builds.numbered ∙ sym at) d })
  by-line l (Some c) (reply.Refused r) q d high = absurd (omega (arith, there, high, ap (λ (w : World). length w.desk.tickets) d.1, refused-same (is_tried_again c.when_full r) l r))
  by-line l (Some c) _ q d high = absurd d

  by-step : (x : Step) → m.entry.step ≡ x → length old.desk.tickets ≤ t → Built x
  by-step (step.Build l) q high = by-line l (command_at g l) m.reply refl (subst (λ (y : Step). Does g old m.entry.caller y m.reply m.after) q s.does) high
  by-step x q high =
      let z = effect g old m.entry.caller m.entry.step m.reply m.after s.enabled s.does in
      let none : is_build m.entry.step ≡ false = ap is_build q in
      absurd (omega (arith, there, high, no-more (built m.reply) old.desk.tickets m.after.desk.tickets (none-built g old m.entry.caller m.entry.step m.reply m.after none s.does) z.counted))

  pub lived-or-built : LivedOrBuilt g old m t
  lived-or-built = elim (below-or t (length old.desk.tickets)) [
    | inl l ↦ inl (l, by (lives (ticket old.desk t)) refl l)
    | inr l ↦ inr (by-step m.entry.step refl l)
  ]
    where
      by : (x : Bool) → lives (ticket old.desk t) ≡ x → t < length old.desk.tickets → lives (ticket old.desk t) ≡ true
      by true q l = q
      by false q l = absurd (false≢true (sym (freed_stays_so g old m t s l q) ∙ e))

-- no step takes a ticket away
pub tickets-grow : (g : BenchSetting) (old : World) (m : Moment) → Steps g old m → length old.desk.tickets ≤ length m.after.desk.tickets
tickets-grow g old m s = by (built m.reply) (effect g old m.entry.caller m.entry.step m.reply m.after s.enabled s.does).counted
  where
    by : (x : Option ℕ) → Counted old.desk.tickets x m.after.desk.tickets → length old.desk.tickets ≤ length m.after.desk.tickets
    by x (inl h) = omega (arith, h.1)
    by x (inr h) = omega (arith, h.1)
