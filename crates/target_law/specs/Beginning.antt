-- A byte from the initiator, and the task that begins with the last byte of its command descriptor block. Sources: SCSI-2 6.1.6 command phase;
-- own are the live ticket of a nexus, the places of a unit, and that the bus goes free where no task begins.
use Rattle.std.specs.Prelude.{ℕ, ◌||◌, nat_lt, Bool, true, false, length, Option, Some, None}
use Rattle.target_law.specs.declared.nexus.Nexus.{Nexus}
use Rattle.target_law.specs.Target.{LogicalUnit, Target, unit_at, linked}
use Rattle.target_law.specs.Calls.{nexus_of, whole_by, has_tag, link_takes, link_took, target_begun}

-- a unit has a place for a task of a tag: one more than it has is within its depth; where it has one of the tag already, none begins
abbrev pub has_place : Option LogicalUnit → (tag : ℕ) → Bool
has_place None tag = false
has_place (Some u) tag = has_tag u.tasks tag || nat_lt (length u.tasks) u.rig.depth

abbrev pub where_placed : Bool → Option ℕ → Option ℕ
where_placed true ticket = ticket
where_placed false ticket = None

-- for the live ticket of each nexus
module _ (live : Nexus → Option ℕ) where
  abbrev pub ticket_for : Target → Option Nexus → Option ℕ
  ticket_for t None = None
  ticket_for t (Some n) = where_placed (has_place (unit_at t.units n.lun) n.tag) (live n)

  -- A command that is whole begins its task. Where its nexus has no live ticket, or its unit no place, the bus is free.
  abbrev pub begins_if : Bool → Target → Target
  begins_if true t = target_begun t (ticket_for t (nexus_of t.link))
  begins_if false t = t

  abbrev pub begins : Target → Target
  begins t = begins_if (whole_by t.link) t

  -- the target after a byte, with which a task begins where it is the last one of its descriptor block; as before where it takes none
  abbrev pub took_where : Bool → Target → (b : ℕ) → Target
  took_where true t b = begins (linked t (link_took t.link b))
  took_where false t b = t

  unfoldable pub target_took : Target → (b : ℕ) → Target
  target_took t b = took_where (link_takes t.link) t b
