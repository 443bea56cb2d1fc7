-- The serial run: rounds in which each caller tries one step, the chip by the words of a generator (own; the generator's constants are those of
-- Numerical Recipes).
use Rattle.std.specs.Prelude.{◌≡◌, ℕ, zero, suc, ◌+◌, ◌*◌, ◌%◌, ◌^◌, ◌==◌, ◌&&◌, ◌⊎◌, nat_lt, if◌then◌else◌, Bool, true, false, List, [], ◌∷◌, ◌++◌, length, position, Option, Some, None}
use Rattle.std.specs.List.{range_with_len}
use Rattle.rig_types.specs.declared.step.Step.{Step}
use Rattle.rig_types.specs.declared.step.Step.TheVariants as step
use Rattle.desk_law.specs.declared.stage.Stage.{Stage}
use Rattle.desk_law.specs.declared.stage.Stage.TheVariants as stage
use Rattle.desk_law.specs.declared.ticket.Ticket.{Ticket}
use Rattle.desk_law.specs.Desk.{aborter, reaper}
use Rattle.world_law.specs.World.{BenchSetting, World, lines_of}
use Rattle.world_law.specs.Lines.{drained}
use Rattle.world_law.specs.Stops.{sweep}
use Rattle.world_law.specs.Enabling.{Enabled}
use Rattle.world_law.specs.Runs.{Moment, Steps}

-- ---- the words

abbrev pub next_word : ℕ → ℕ
next_word x = (1664525 * x + 1013904223) % 2 ^ 32

-- with bit 31 set: a reselection comes where there is a candidate
abbrev pub eager : ℕ → ℕ
eager x = if nat_lt x 2147483648 then x + 2147483648 else x

-- ---- what each caller tries

abbrev pub is_built : Stage → Bool
is_built stage.Built = true
is_built _ = false

abbrev pub is_linked : Stage → Bool
is_linked stage.Linked = true
is_linked _ = false

abbrev pub is_again : Stage → Bool
is_again stage.Again = true
is_again _ = false

abbrev pub is_check : Stage → Bool
is_check stage.Check = true
is_check _ = false

abbrev pub is_ended : Stage → Bool
is_ended (stage.Ended o) = true
is_ended _ = false

abbrev pub is_unlinked : Stage → Bool
is_unlinked stage.Unlinked = true
is_unlinked _ = false

-- the least ticket of a stage, of all and of a submitter's
abbrev pub least : (Stage → Bool) → World → Option ℕ
least is w = position (λ (k : Ticket). is k.stage) w.desk.tickets

abbrev pub own_least : (Stage → Bool) → (submitter : ℕ) → World → Option ℕ
own_least is s w = position (λ (k : Ticket). k.line.submitter == s && is k.stage) w.desk.tickets

abbrev pub step_of : (ℕ → Step) → Option ℕ → List Step
step_of make None = []
step_of make (Some t) = make t ∷ []

abbrev pub tries_submitter : World → ℕ → List Step
tries_submitter w s =
    step.Signal ∷ step_of step.Link (own_least is_built s w) ++ (step_of step.Queue (own_least is_linked s w)
    ++ step.Build (record { submitter = s; number = length (lines_of w s) }) ∷ [])

abbrev pub tries_aborter : World → List Step
tries_aborter w = step.Signal ∷ step.Act (length w.acts) ∷ []

abbrev pub tries_reaper : World → List Step
tries_reaper w =
    step.Fix ∷ step_of step.Sweep (sweep w) ++ (step.ResetBus ∷ step.Restart ∷ step.Signal ∷ step_of step.Queue (least is_again w)
    ++ (step_of step.Sense (least is_check w) ++ (step_of step.Free (least is_unlinked w) ++ (step_of step.Unlink (least is_ended w) ++ step.TakeDone ∷ []))))

-- by number: the submitters, the aborter, the reaper, the chip
abbrev pub tries_of : World → (caller word : ℕ) → List Step
tries_of w caller word =
    if nat_lt caller (aborter w.desk) then tries_submitter w caller else
    (if caller == aborter w.desk then tries_aborter w else
    (if caller == reaper w.desk then tries_reaper w else step.Chip word ∷ []))

-- ---- one try

-- the first of the steps that is enabled, if one is
abbrev pub IsFirst : BenchSetting → World → (caller : ℕ) → List Step → Option Step → Type 0
IsFirst g w caller [] first = first ≡ None
IsFirst g w caller (s ∷ ss) first = (Enabled g w caller s × (first ≡ Some s)) ⊎ ((Enabled g w caller s → ⊥) × IsFirst g w caller ss first)

-- a recorded step of a caller
pub record IsMade (g : BenchSetting) (w : World) (caller : ℕ) (s : Step) (m : Moment) : Type 0 where
  pub entry : m.entry ≡ record { caller = caller; step = s }
  pub steps : Steps g w m

-- that step is made; or its reply isn't recorded, or none is enabled, and the caller is passed over
pub data Tries (g : BenchSetting) (old : World) (caller : ℕ) (ss : List Step) : List Moment → World → Type 0 where
  made : (s : Step) → IsFirst g old caller ss (Some s) → (m : Moment) → IsMade g old caller s m → Tries g old caller ss (m ∷ []) m.after
  unrecorded : (s : Step) → IsFirst g old caller ss (Some s) → ((m : Moment) → IsMade g old caller s m → ⊥) → Tries g old caller ss [] old
  none : IsFirst g old caller ss None → Tries g old caller ss [] old

-- the run is over once the world is drained or the list full; nothing is tried then
abbrev pub is_over : BenchSetting → (count : ℕ) → World → Bool
is_over g count w = if drained g w then true else count == g.step_limit

abbrev pub TriesUnless : (over : Bool) → BenchSetting → World → (caller : ℕ) → List Step → List Moment → World → Type 0
TriesUnless true g old caller ss ms new = (ms ≡ []) × (new ≡ old)
TriesUnless false g old caller ss ms new = Tries g old caller ss ms new

-- ---- rounds

-- the moments and the world after callers in turn, each of which tries in the world that it finds
abbrev pub Turns : BenchSetting → (count word : ℕ) → World → List ℕ → List Moment → World → Type 0
Turns g count word old [] ms new = (ms ≡ []) × (new ≡ old)
Turns g count word old (caller ∷ callers) ms new =
    (first : List Moment) × (rest : List Moment) × (mid : World)
    × TriesUnless (is_over g count old) g old caller (tries_of old caller word) first mid
    × Turns g (count + length first) word mid callers rest new × (ms ≡ first ++ rest)

abbrev pub Round : BenchSetting → (count word : ℕ) → World → List Moment → World → Type 0
Round g count word old ms new = Turns g count word old (range_with_len 0 (length g.submitters + 3)) ms new

-- so many rounds until the run is over, from the generator's state x on; each round takes the next word
abbrev pub Rounds : ℕ → BenchSetting → (count x : ℕ) → World → List Moment → World → Type 0
Rounds zero g count x old ms new = (is_over g count old ≡ true) × (ms ≡ []) × (new ≡ old)
Rounds (suc n) g count x old ms new =
    (is_over g count old ≡ false)
    × ((first : List Moment) × (rest : List Moment) × (mid : World)
    × Round g count (eager (next_word x)) old first mid × Rounds n g (count + length first) (next_word x) mid rest new × (ms ≡ first ++ rest))

-- the moments of the serial run of a seed, from an opening on
abbrev pub IsSerial : BenchSetting → (seed : ℕ) → (opening : World) → List Moment → Type 0
IsSerial g seed opening ms = (n : ℕ) × (new : World) × Rounds n g 0 seed opening ms new
