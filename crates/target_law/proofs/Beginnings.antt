-- A task begins with the last byte of its command descriptor block.
use Rattle.std.proofs.Common.{◌≡◌, ℕ, Bool, true, false, ◌||◌, List, [], ◌∷◌, ◌++◌, refl, ap, sym, subst, ◌∙◌, Option, Some, None, not, nat_lt, if◌then◌else◌}
use Rattle.scsi_words.specs.declared.phases.kinds.Phase.{Phase as BusPhase}
use Rattle.cdb_codec.specs.declared.commands.Cdb.{Cdb}
use Rattle.cdb_codec.specs.Blocks.{cdb_of}
use Rattle.target_law.specs.declared.nexus.Nexus.{Nexus}
use Rattle.target_law.specs.declared.task_phase.TaskPhase.{TaskPhase}
use Rattle.target_law.specs.declared.task_phase.TaskPhase.TheVariants.{ToChoose, MessageOut, DataIn, DataOut, Status, MessageIn}
use Rattle.target_law.specs.Bytes.{Connection, took_by}
use Rattle.target_law.specs.Target.{LogicalUnit, ConnectionState, BusFree, Selected, TakingCommand, TaskConnected, RogueConnected, Target, unit_at, on_unit, at_lun, linked}
use Rattle.target_law.specs.Calls.{is_whole, whole_by, nexus_of, link_phase, link_takes, link_took, took_if, begun, begun_with, begun_by, target_begun}
use Rattle.target_law.specs.Beginning.{has_place, where_placed, ticket_for, begins_if, begins, took_where, target_took}

-- a task was made, or the bus is free
pub record Begun (t : Target) : Type 0 where
  pub none_whole : whole_by t.link ≡ false
  pub shows_none : link_phase t.link ≡ None

begun-either : (b : Bool) (t : Target) (l : ConnectionState) → whole_by l ≡ false → link_phase l ≡ None → Begun (if b then linked t BusFree else linked t l)
begun-either true t l e h = record { none_whole = refl; shows_none = refl }
begun-either false t l e h = record { none_whole = e; shows_none = h }

-- at a unit that has a place, which is there
begun-there : (o : Option LogicalUnit) (t : Target) (n : Nexus) (c : Cdb) (ticket : ℕ) → has_place o n.tag ≡ true → Begun (on_unit o (λ u. begun t n c u ticket) t)
begun-there (Some u) t n c ticket e = begun-either _ t _ refl refl
begun-there None t n c ticket e = cc

begun-placed : (place : Bool) (live : Option ℕ) (t : Target) (n : Nexus) (c : Cdb) → has_place (unit_at t.units n.lun) n.tag ≡ place → Begun (begun_with t n c (where_placed place live))
begun-placed true (Some ticket) t n c e = begun-there (unit_at t.units n.lun) t n c ticket e
begun-placed true None t n c e = record { none_whole = refl; shows_none = refl }
begun-placed false live t n c e = record { none_whole = refl; shows_none = refl }

begun-whole : (live : Nexus → Option ℕ) (t : Target) (l : ConnectionState) → t.link ≡ l → whole_by l ≡ true → Begun (begun_by l t (ticket_for live t (nexus_of l)))
begun-whole live t (TakingCommand n taken) e h = begun-placed (has_place (unit_at t.units n.lun) n.tag) (live n) t n (cdb_of taken) refl
begun-whole live t BusFree e h = cc
begun-whole live t (Selected heard) e h = cc
begun-whole live t (TaskConnected c) e h = cc
begun-whole live t (RogueConnected s n) e h = cc

pub begins-begun : (live : Nexus → Option ℕ) (t : Target) → whole_by t.link ≡ true → Begun (target_begun t (ticket_for live t (nexus_of t.link)))
unfolding target_begun
begins-begun live t h = begun-whole live t t.link refl h

begins_if-none : (live : Nexus → Option ℕ) (whole : Bool) (t : Target) → whole_by t.link ≡ whole → whole_by (begins_if live whole t).link ≡ false
begins_if-none live true t e = (begins-begun live t e).none_whole
begins_if-none live false t e = e

took_where-none : (live : Nexus → Option ℕ) (takes : Bool) (t : Target) (b : ℕ) → whole_by t.link ≡ false → whole_by (took_where live takes t b).link ≡ false
took_where-none live true t b e = let l : ConnectionState = link_took t.link b in begins_if-none live (whole_by l) (linked t l) refl
took_where-none live false t b e = e

pub none_waits : (live : Nexus → Option ℕ) (t : Target) (b : ℕ) → whole_by t.link ≡ false → whole_by (target_took live t b).link ≡ false
unfolding target_took
none_waits live t b e = took_where-none live (link_takes t.link) t b e

-- the last byte
begins-whole : (live : Nexus → Option ℕ) (whole : Bool) (t : Target) → whole ≡ true → whole_by t.link ≡ true → link_phase (begins_if live whole t).link ≡ None
begins-whole live true t e h = (begins-begun live t h).shows_none
begins-whole live false t e h = cc

last-if : (live : Nexus → Option ℕ) (units : List (Option LogicalUnit)) (n : Nexus) (taken : List ℕ) (b : ℕ) (whole : Bool) → whole ≡ false → is_whole (taken ++ b ∷ []) ≡ true
    → link_phase (took_where live (not whole) (record { units = units; link = TakingCommand n taken }) b).link ≡ None
last-if live units n taken b true e h = cc
last-if live units n taken b false e h = begins-whole live (is_whole (taken ++ b ∷ [])) (record { units = units; link = TakingCommand n (taken ++ b ∷ []) }) h h

last-byte : (live : Nexus → Option ℕ) (units : List (Option LogicalUnit)) (n : Nexus) (taken : List ℕ) (b : ℕ) → is_whole taken ≡ false → is_whole (taken ++ b ∷ []) ≡ true
    → link_phase (target_took live (record { units = units; link = TakingCommand n taken }) b).link ≡ None
unfolding target_took
last-byte live units n taken b e h = last-if live units n taken b (is_whole taken) e h

pub shows_none : (live : Nexus → Option ℕ) (t : Target) (b : ℕ) (n : Nexus) (taken : List ℕ) → t.link ≡ TakingCommand n taken → is_whole taken ≡ false → is_whole (taken ++ b ∷ []) ≡ true
    → link_phase (target_took live t b).link ≡ None
shows_none live t b n taken e f h =
    let same : record { units = t.units; link = TakingCommand n taken } ≡ t = ap (λ (l : ConnectionState). record { units = t.units; link = l }) (sym e) in
    subst (λ (x : Target). link_phase (target_took live x b).link ≡ None) same (last-byte live t.units n taken b f h)

-- a byte changes no nexus
nexus-shows : (s : TaskPhase) (c : Connection) (b : ℕ) → nexus_of (TaskConnected (took_by s c b)) ≡ nexus_of (TaskConnected c)
nexus-shows ToChoose c b = refl
nexus-shows MessageOut c b = refl
nexus-shows (DataIn n) c b = refl
nexus-shows (DataOut n) c b = refl
nexus-shows (Status v) c b = refl
nexus-shows (MessageIn n sent) c b = refl

nexus-took : (l : ConnectionState) (b : ℕ) → nexus_of (link_took l b) ≡ nexus_of l
nexus-took BusFree b = refl
nexus-took (Selected heard) b = refl
nexus-took (TakingCommand n taken) b = refl
nexus-took (TaskConnected c) b = nexus-shows c.shows c b
nexus-took (RogueConnected s n) b = refl

-- of the live tickets that of the connection's nexus alone matters
ticket-same : (live other : Nexus → Option ℕ) (t : Target) (o : Option Nexus) → ((n : Nexus) → o ≡ Some n → live n ≡ other n) → ticket_for live t o ≡ ticket_for other t o
ticket-same live other t None f = refl
ticket-same live other t (Some n) f = ap (where_placed (has_place (unit_at t.units n.lun) n.tag)) (f n refl)

begins_if-same : (live other : Nexus → Option ℕ) (whole : Bool) (t : Target) → ((n : Nexus) → nexus_of t.link ≡ Some n → live n ≡ other n) → begins_if live whole t ≡ begins_if other whole t
begins_if-same live other true t f = ap (target_begun t) (ticket-same live other t (nexus_of t.link) f)
begins_if-same live other false t f = refl

took_where-same : (live other : Nexus → Option ℕ) (takes : Bool) (t : Target) (b : ℕ) → ((n : Nexus) → nexus_of t.link ≡ Some n → live n ≡ other n) → took_where live takes t b ≡ took_where other takes t b
took_where-same live other true t b f =
    let l : ConnectionState = link_took t.link b in
    begins_if-same live other (whole_by l) (linked t l) (λ n e. f n (sym (nexus-took t.link b) ∙ e))
took_where-same live other false t b f = refl

pub target_took-same : (live other : Nexus → Option ℕ) (t : Target) (b : ℕ) → ((n : Nexus) → nexus_of t.link ≡ Some n → live n ≡ other n) → target_took live t b ≡ target_took other t b
unfolding target_took
target_took-same live other t b f = took_where-same live other (link_takes t.link) t b f

-- no command is whole
begins-else : (whole : Bool) (t : Target) (live : Nexus → Option ℕ) → whole ≡ false → begins_if live whole t ≡ t
begins-else true t live e = cc
begins-else false t live e = refl

pub begins-none : (t : Target) (live : Nexus → Option ℕ) → whole_by t.link ≡ false → t ≡ begins live t
begins-none t live e = sym (begins-else (whole_by t.link) t live e)

-- a byte that is taken, or isn't
took-takes : (takes : Bool) (live : Nexus → Option ℕ) (t : Target) (b : ℕ) → takes ≡ true → took_where live takes t b ≡ begins live (linked t (took_if takes t.link b))
took-takes true live t b e = refl
took-takes false live t b e = cc

pub target_took-takes : (live : Nexus → Option ℕ) (t : Target) (b : ℕ) → link_takes t.link ≡ true → target_took live t b ≡ begins live (linked t (took_if (link_takes t.link) t.link b))
unfolding target_took
target_took-takes live t b e = took-takes (link_takes t.link) live t b e

took-stays : (takes : Bool) (live : Nexus → Option ℕ) (t : Target) (b : ℕ) → takes ≡ false → took_where live takes t b ≡ linked t (took_if takes t.link b)
took-stays true live t b e = cc
took-stays false live t b e = refl

pub target_took-stays : (live : Nexus → Option ℕ) (t : Target) (b : ℕ) → link_takes t.link ≡ false → target_took live t b ≡ linked t (took_if (link_takes t.link) t.link b)
unfolding target_took
target_took-stays live t b e = took-stays (link_takes t.link) live t b e
