-- The step of the chip that sends the command behind a message. Source: own.
use Rattle.std.specs.Prelude.{◌≡◌, ℕ, Bool, true, false, List, [], ◌∷◌, ◌++◌}
use Rattle.rig_types.specs.declared.step.Step.TheVariants as step
use Rattle.desk_law.specs.Desk.{ticket, lives}
use Rattle.ticket_fate.specs.Tickets.{Plan, unit_of, Life, Waits, Selected, Asks, AskStarts, Ticket}
use Rattle.world_law.specs.Opening.{opened}
use Rattle.world_law.specs.Runs.{Moment, Steps, IsRun, last}
use Rattle.world_law.specs.World.{BenchSetting, IsBenchSetting}
use Rattle.word_owners.specs.Worlds.{HasBytes}
use Rattle.run_joined.specs.JoinedRuns.{RunJoins, IsJoinedRun}
use Rattle.run_joined.specs.Plans.{IsPlanOf}

-- a ticket is selected, for its command or for REQUEST SENSE
abbrev pub IsToStart : Life → Type 0
IsToStart Selected = Unit {0}
IsToStart AskStarts = Unit {0}
IsToStart l = ⊥

-- or it waits to be selected; one of a unit that keeps the rules, where it is for its command
abbrev pub IsToSelect : Life → (rogue : Bool) → Type 0
IsToSelect Waits rogue = rogue ≡ false
IsToSelect Asks rogue = Unit {0}
IsToSelect l rogue = IsToStart l

-- where the ticket whose block is at DSA is selected or waits for it, the step leaves the run joined, whatever is connected
abbrev pub CommandStepsJoin : Type 0
CommandStepsJoin =
    (g : BenchSetting) → IsBenchSetting g → HasBytes g → (p : Plan) (ms : List Moment) (m : Moment) (word : ℕ) → IsRun g (opened g) ms → Steps g (last (opened g) ms) m → m.entry.step ≡ step.Chip word
    → (last (opened g) ms).regs.dsp ≡ 0x088 → IsPlanOf g (last (opened g) ms) p → (ks : ℕ → Ticket) → RunJoins g p ms ks → (t : ℕ) → lives (ticket (last (opened g) ms).desk t) ≡ true
    → (last (opened g) ms).regs.dsa ≡ (ticket (last (opened g) ms).desk t).block → IsToSelect (ks t).life (p.units (unit_of p t)).rogue → IsJoinedRun g p (ms ++ m ∷ [])
