-- The reports of tickets that have their outcome, in joined runs. Source: own.
use Rattle.std.specs.Prelude.{◌≡◌, ℕ, List}
use Rattle.rig_types.specs.declared.report.Outcome.{Outcome}
use Rattle.target_law.specs.Target.{Target}
use Rattle.desk_law.specs.Desk.{ticket}
use Rattle.ticket_fate.specs.Tickets.{Plan, Life, Ended, Unlinked, Freed, Ticket}
use Rattle.ticket_fate.specs.Laws.{Reached}
use Rattle.ticket_fate.specs.Moves.{Moves}
use Rattle.world_law.specs.Opening.{opened}
use Rattle.world_law.specs.Runs.{Moment, Steps, IsRun, last}
use Rattle.world_law.specs.World.{BenchSetting, IsBenchSetting}
use Rattle.word_owners.specs.Worlds.{HasBytes}
use Rattle.run_joined.specs.Joined.{IsJoined, StepJoins}
use Rattle.run_joined.specs.Reports.{ReportAgrees}

-- a ticket has come to this outcome and isn't freed yet
abbrev pub HasOutcome : Outcome → Life → Type 0
HasOutcome o (Ended q) = q ≡ o
HasOutcome o (Unlinked q) = q ≡ o
HasOutcome o l = ⊥

-- or it is freed with it
abbrev pub HasCome : Outcome → Life → Type 0
HasCome o (Freed q) = q ≡ o
HasCome o l = HasOutcome o l

-- a ticket with an outcome keeps it and all that its report says, and stays freed
pub record KeepsReport (o : Outcome) (k j : Ticket) : Type 0 where
  pub come : HasCome o j.life
  pub freed : k.life ≡ Freed o → j.life ≡ Freed o
  pub status : j.status ≡ k.status
  pub lastp : j.lastp ≡ k.lastp
  pub tries : j.tries ≡ k.tries
  pub buffer : j.buffer ≡ k.buffer
  pub sense : j.sense ≡ k.sense

-- over every move
abbrev pub EndedTicketsStay : Type 0
EndedTicketsStay =
    (p : Plan) (count : ℕ) (ks : ℕ → Ticket) (ts : ℕ → Target) (ns : ℕ → Ticket) (us : ℕ → Target) → Reached p count ks ts → Moves p count ks ts ns us → (x : ℕ) (o : Outcome) → HasCome o (ks x).life → KeepsReport o (ks x) (ns x)

-- so where its block, its sense area and its buffer agree with such a ticket in a joined world, they do after each step that is joined, up to its Free
abbrev pub AgreementsStay : Type 0
AgreementsStay =
    (g : BenchSetting) (p : Plan) (ms : List Moment) (m : Moment) (ks : ℕ → Ticket) (spare : ℕ → ℕ) → IsBenchSetting g → HasBytes g → IsRun g (opened g) ms → Steps g (last (opened g) ms) m
    → IsJoined g p (last (opened g) ms) ks spare → (s : StepJoins g p (last (opened g) ms) m ks) → (t : ℕ) (o : Outcome) → HasOutcome o (ks t).life → ReportAgrees (last (opened g) ms).memory (ticket (last (opened g) ms).desk t) (ks t) o
    → ReportAgrees m.after.memory (ticket m.after.desk t) (s.tickets t) o
