-- Laws of the desk.
use Rattle.std.specs.Prelude.{◌≡◌, ℕ, List}
use Rattle.rig_types.specs.declared.step.Line.{Line}
use Rattle.unit_law.specs.Request.{RequestData}
use Rattle.desk_law.specs.declared.refused.Refused.{Refused}
use Rattle.desk_law.specs.Desk.{DeskState}
use Rattle.desk_law.specs.Refusals.{Refuses}
use Rattle.desk_law.specs.Building.{Builds}
use Rattle.desk_law.specs.Calls.{Frees}

-- a request is refused for one reason
abbrev pub RefusesOnce : Type 0
RefusesOnce = (d : DeskState) (r : RequestData) (a b : Refused) → Refuses d r a → Refuses d r b → a ≡ b

-- a request that is refused isn't built
abbrev pub RefusesOrBuilds : Type 0
RefusesOrBuilds = (d : DeskState) (m : List ℕ) (l : Line) (r : RequestData) (a : Refused) (t : ℕ) (new : DeskState) (m' : List ℕ) → Refuses d r a
    → Builds d m l r t new m' → ⊥

-- an accepted request makes one ticket, one desk and one memory
abbrev pub BuildsOnce : Type 0
BuildsOnce = (d : DeskState) (m : List ℕ) (l : Line) (r : RequestData) (t u : ℕ) (new other : DeskState) (m' m'' : List ℕ) → Builds d m l r t new m'
    → Builds d m l r u other m'' → (t ≡ u) × (new ≡ other) × (m' ≡ m'')

-- a ticket that is freed leaves one desk
abbrev pub FreesOnce : Type 0
FreesOnce = (d : DeskState) (t : ℕ) (new other : DeskState) → Frees d t new → Frees d t other → new ≡ other
