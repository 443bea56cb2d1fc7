-- What may reselect, as the code keeps it.
use Rattle.std.specs.Prelude.{◌≡◌, ◌<◌, None}
use Rattle.target_law.specs.Target.{unit_at}
use Rattle.bus_law.specs.Bus.{BusState, device_at}
use Rattle.bus_law.specs.Reselections as law
use Rattle.bus_law.specs.Reselections.{candidate_count}
use Rattle.target_bus.specs.declared.candidates.Candidate.{Candidate}

abbrev pub candidate_of : Candidate → law.Candidate
candidate_of c = record { target = c.target; lun = c.lun; number = c.number }

-- it is one of its unit's
abbrev pub IsOfUnit : BusState → law.Candidate → Type 0
IsOfUnit b c = c.number < candidate_count (unit_at (device_at b c.target).target.units c.lun)

-- it is so on a free bus
pub record CanReselect (b : BusState) (c : law.Candidate) : Type 0 where
  pub free : b.connected ≡ None
  pub unit : IsOfUnit b c
