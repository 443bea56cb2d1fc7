-- The tags of live tickets. Source: own.
use Rattle.std.specs.Prelude.{◌≡◌, ℕ, true, List, slice_get, Some, ◌⊎◌}
use Rattle.target_law.specs.Session.{Task}
use Rattle.target_law.specs.Bytes.{Connection}
use Rattle.target_law.specs.Target.{Target}
use Rattle.ticket_fate.specs.Tickets.{Plan, unit_of, Unbuilt, Connected, Away, AskConnected, is_live, Ticket}
use Rattle.ticket_fate.specs.Moves.{target_of, Moves, alone}
use Rattle.ticket_fate.specs.Histories.{Run, none, more}

-- a tag of a unit names at most one live ticket
abbrev pub TagsApart : Plan → (ℕ → Ticket) → Type 0
TagsApart g ks = (x y : ℕ) → unit_of g x ≡ unit_of g y → is_live (ks x).life ≡ true → is_live (ks y).life ≡ true → (ks x).tag ≡ (ks y).tag → x ≡ y

-- a ticket is built
abbrev pub IsBuild : {g : Plan} {count : ℕ} {ks : ℕ → Ticket} {ts : ℕ → Target} {ns : ℕ → Ticket} {us : ℕ → Target} → Moves g count ks ts ns us → Type 0
IsBuild {ks = ks} (alone x k u there m) = (ks x).life ≡ Unbuilt
IsBuild _ = ⊥

-- a Build takes a tag that no live ticket of the unit has
abbrev pub TakesFreeTag : {g : Plan} {count : ℕ} {ks : ℕ → Ticket} {ts : ℕ → Target} {ns : ℕ → Ticket} {us : ℕ → Target} → Moves g count ks ts ns us → Type 0
TakesFreeTag {g = g} {ks = ks} (alone x k u there m) = (ks x).life ≡ Unbuilt → (y : ℕ) → unit_of g y ≡ unit_of g x → is_live (ks y).life ≡ true → (ks y).tag ≡ k.tag → ⊥
TakesFreeTag _ = Unit {0}

abbrev pub TakeFreeTags : {g : Plan} {count : ℕ} {ks : ℕ → Ticket} {ts : ℕ → Target} {ns : ℕ → Ticket} {us : ℕ → Target} → Run g count ks ts ns us → Type 0
TakeFreeTags none = Unit {0}
TakeFreeTags (more r m) = TakeFreeTags r × TakesFreeTag m

-- the task of a connection is that of its ticket: a live one of a unit of this target with this LUN, which has the tag
pub record IsItsTicket (g : Plan) (i : ℕ) (ks : ℕ → Ticket) (c : Connection) : Type 0 where
  pub target : target_of g c.task.ticket ≡ i
  pub lun : (g.units (unit_of g c.task.ticket)).lun ≡ c.lun
  pub life : ((ks c.task.ticket).life ≡ Connected) ⊎ ((ks c.task.ticket).life ≡ AskConnected)
  pub tag : (ks c.task.ticket).tag ≡ c.task.tag

-- the tasks that wait at a unit: each is that of a ticket of the unit that is away, and has its tag; and each such ticket has one
pub record AreTheirTickets (g : Plan) (n : ℕ) (ks : ℕ → Ticket) (tasks : List Task) : Type 0 where
  pub each : (m : ℕ) (k : Task) → slice_get tasks m ≡ Some k → (unit_of g k.ticket ≡ n) × ((ks k.ticket).life ≡ Away) × ((ks k.ticket).task ≡ k) × ((ks k.ticket).tag ≡ k.tag)
  pub once : (l m : ℕ) (j k : Task) → slice_get tasks l ≡ Some j → slice_get tasks m ≡ Some k → j.ticket ≡ k.ticket → l ≡ m
  pub all : (x : ℕ) → unit_of g x ≡ n → (ks x).life ≡ Away → (m : ℕ) × (slice_get tasks m ≡ Some (ks x).task)
