-- What the words of a block say of its ticket's life in a joined run, without STATE and STATUS. Source: own.
use Rattle.std.specs.Prelude.{◌≡◌, ℕ, true, false, List}
use Rattle.rig_types.specs.declared.report.Outcome.TheVariants.{Done}
use Rattle.target_law.specs.Target.{Target}
use Rattle.desk_law.specs.Desk.{ticket, lives}
use Rattle.desk_law.specs.Taking.{state_of, status_byte, is_marked}
use Rattle.ticket_fate.specs.Tickets.{Plan, unit_of, Life, Selected, Connected, Away, Rejected, Finished, Checked, Asks, AskStarts, AskConnected, AskLost, Asked, Ticket}
use Rattle.ticket_fate.specs.Laws.{Reached}
use Rattle.world_law.specs.Opening.{opened}
use Rattle.world_law.specs.Runs.{Moment, IsRun, last}
use Rattle.world_law.specs.World.{BenchSetting, IsBenchSetting}
use Rattle.word_owners.specs.Worlds.{HasBytes}
use Rattle.run_joined.specs.BlockWords.{StateAgrees, StatusAgrees}
use Rattle.run_joined.specs.DeskLives.{WordsAgree}
use Rattle.run_joined.specs.JoinedRuns.{RunJoins}
use Rattle.run_joined.specs.Plans.{IsPlanOf}

-- RESTART of a live ticket's block is ABORT exactly where the ticket is marked
abbrev pub MarksAgree : Type 0
MarksAgree =
    (g : BenchSetting) (p : Plan) (ms : List Moment) (ks : ℕ → Ticket) → IsBenchSetting g → HasBytes g → IsRun g (opened g) ms → RunJoins g p ms ks → (t : ℕ) → lives (ticket (last (opened g) ms).desk t) ≡ true
    → is_marked (last (opened g) ms).memory (ticket (last (opened g) ms).desk t) ≡ (ks t).marked

-- lives that no ticket of a unit that breaks the rules comes to: it was selected, had a task, was refused or answered, or is asked for its sense
abbrev pub IsOfRules : Life → Type 0
IsOfRules Selected = Unit {0}
IsOfRules Connected = Unit {0}
IsOfRules Away = Unit {0}
IsOfRules (Rejected st) = Unit {0}
IsOfRules (Finished Done) = Unit {0}
IsOfRules Checked = Unit {0}
IsOfRules Asks = Unit {0}
IsOfRules AskStarts = Unit {0}
IsOfRules AskConnected = Unit {0}
IsOfRules AskLost = Unit {0}
IsOfRules Asked = Unit {0}
IsOfRules l = ⊥

-- after every list of moves
abbrev pub LivesOfRules : Type 0
LivesOfRules = (p : Plan) (count : ℕ) (ks : ℕ → Ticket) (ts : ℕ → Target) → Reached p count ks ts → (x : ℕ) → IsOfRules (ks x).life → (p.units (unit_of p x)).rogue ≡ false

-- So in a joined run TakeDone finds what the life of a ticket says, where STATE and STATUS of its block agree with it: RESTART does, and only a
-- unit that keeps the rules answers.
abbrev pub StateAndStatusTell : Type 0
StateAndStatusTell =
    (g : BenchSetting) (p : Plan) (ms : List Moment) (ks : ℕ → Ticket) → IsBenchSetting g → HasBytes g → IsRun g (opened g) ms → RunJoins g p ms ks → IsPlanOf g (last (opened g) ms) p → (t : ℕ)
    → lives (ticket (last (opened g) ms).desk t) ≡ true → StateAgrees (ks t).life (state_of (last (opened g) ms).memory (ticket (last (opened g) ms).desk t))
    → StatusAgrees (ks t).life (status_byte (last (opened g) ms).memory (ticket (last (opened g) ms).desk t)) (ks t).status
    → WordsAgree p (last (opened g) ms).desk (last (opened g) ms).memory t (ticket (last (opened g) ms).desk t) (ks t) (ks t).life
