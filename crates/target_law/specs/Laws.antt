-- Laws of targets.
use Rattle.std.specs.Prelude.{◌≡◌, ℕ, ◌+◌, ◌≤◌, false, true, List, [], ◌∷◌, ◌++◌, length, Option, Some, None}
use Rattle.target_law.specs.declared.moves.Move.{Move}
use Rattle.target_law.specs.declared.nexus.Nexus.{Nexus}
use Rattle.rig_types.specs.declared.rig.Unit.{Unit as RigUnit}
use Rattle.target_law.specs.Sound.{HaveDistinctTags, HaveFewTasks}
use Rattle.target_law.specs.Target.{LogicalUnit, TakingCommand, Target, unit_at, linked, target_opened, target_reset}
use Rattle.target_law.specs.Calls.{link_phase, is_whole, whole_by, asked_by, link_byte, sent_if, link_takes, took_if, target_selected, target_reselected, target_acted, target_messaged, target_acked, target_begun}
use Rattle.target_law.specs.Beginning.{target_took}
use Rattle.target_law.specs.Devices.{DeviceState, room_at, lie_within, where_room}
use Rattle.target_law.specs.Rigs.{rigs}

-- no call changes what the rig says of the units
abbrev pub KeepsRigs : (Target → Target) → Type 0
KeepsRigs call = (t : Target) → rigs (call t).units ≡ rigs t.units

pub record RigsStay : Type 0 where
  pub selected : KeepsRigs target_selected
  pub reselected : (lun n tag : ℕ) → KeepsRigs (λ t. target_reselected t lun n tag)
  pub acted : (m : Move) → KeepsRigs (λ t. target_acted t m)
  pub asked : KeepsRigs (λ t. linked t (asked_by t.link))
  pub sent : KeepsRigs (λ t. linked t (sent_if (link_byte t.link) t.link))
  pub taken : (b : ℕ) → KeepsRigs (λ t. linked t (took_if (link_takes t.link) t.link b))
  pub messaged : KeepsRigs target_messaged
  pub acked : KeepsRigs target_acked
  pub reset : KeepsRigs target_reset
  pub begun : (ticket : Option ℕ) → KeepsRigs (λ t. target_begun t ticket)
  pub took : (live : Nexus → Option ℕ) (b : ℕ) → KeepsRigs (λ t. target_took live t b)
  pub with_room : (d : DeviceState) (t : Target) → rigs t.units ≡ rigs d.target.units → rigs (where_room d t).target.units ≡ rigs d.target.units

-- no call gives a unit two tasks of one tag
abbrev pub KeepsTags : (Target → Target) → Type 0
KeepsTags call = (t : Target) → HaveDistinctTags t → HaveDistinctTags (call t)

pub record TagsStayDistinct : Type 0 where
  pub opened : (units : List RigUnit) → HaveDistinctTags (target_opened units)
  pub selected : KeepsTags target_selected
  pub reselected : (lun n tag : ℕ) → KeepsTags (λ t. target_reselected t lun n tag)
  pub acted : (m : Move) → KeepsTags (λ t. target_acted t m)
  pub asked : KeepsTags (λ t. linked t (asked_by t.link))
  pub sent : KeepsTags (λ t. linked t (sent_if (link_byte t.link) t.link))
  pub taken : (b : ℕ) → KeepsTags (λ t. linked t (took_if (link_takes t.link) t.link b))
  pub messaged : KeepsTags target_messaged
  pub acked : KeepsTags target_acked
  pub reset : KeepsTags target_reset
  pub begun : (ticket : Option ℕ) → KeepsTags (λ t. target_begun t ticket)
  pub took : (live : Nexus → Option ℕ) (b : ℕ) → KeepsTags (λ t. target_took live t b)
  pub with_room : (d : DeviceState) (t : Target) → HaveDistinctTags d.target → HaveDistinctTags t → HaveDistinctTags (where_room d t).target

-- no command waits for its task: after the call that took its last byte none is whole, and no phase is shown
pub record BeginsAtOnce : Type 0 where
  pub begun : (live : Nexus → Option ℕ) (t : Target) (b : ℕ) → whole_by t.link ≡ false → whole_by (target_took live t b).link ≡ false
  pub shows_none : (live : Nexus → Option ℕ) (t : Target) (b : ℕ) (n : Nexus) (taken : List ℕ) → t.link ≡ TakingCommand n taken → is_whole taken ≡ false → is_whole (taken ++ b ∷ []) ≡ true
      → link_phase (target_took live t b).link ≡ None

-- the logs of these units lie within their rooms exactly where each is no longer than the room of its LUN
pub record LiesByRooms : Type 0 where
  pub each : (d : DeviceState) (units : List (Option LogicalUnit)) → lie_within units d.rooms ≡ true → (lun : ℕ) (u : LogicalUnit) → unit_at units lun ≡ Some u → length u.log ≤ room_at d lun
  pub all : (d : DeviceState) (units : List (Option LogicalUnit)) → ((lun : ℕ) (u : LogicalUnit) → unit_at units lun ≡ Some u → length u.log ≤ room_at d lun) → lie_within units d.rooms ≡ true

-- where no unit has more tasks than its depth, a reset logs no more than an entry for each task of the depth and one more
abbrev pub ResetsHaveRoom : Type 0
ResetsHaveRoom = (d : DeviceState) → HaveFewTasks d.target → ((lun : ℕ) (u : LogicalUnit) → unit_at d.target.units lun ≡ Some u → length u.log + (u.rig.depth + 1) ≤ room_at d lun)
    → lie_within (target_reset d.target).units d.rooms ≡ true
