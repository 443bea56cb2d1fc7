-- Which requests Build refuses, and why (own).
use Rattle.std.specs.Prelude.{◌≡◌, ℕ, ◌==◌, ◌&&◌, ◌||◌, nat_lt, nat_le, not, Bool, true, false, List, [], ◌∷◌, length, sum, find, Option, Some, None, option_map}
use Rattle.std.specs.List.{list_any}
use Rattle.scsi_words.specs.declared.phases.kinds.Direction.{Direction}
use Rattle.scsi_words.specs.declared.phases.kinds.Direction.TheVariants.{In, Out, None as NoData}
use Rattle.cdb_codec.specs.declared.Need.{Need}
use Rattle.cdb_codec.specs.Forms.{need_of}
use Rattle.rig_types.specs.declared.rig.Unit.{Unit as RigUnit}
use Rattle.unit_law.specs.Request.{RequestData, command}
use Rattle.target_law.specs.Calls.{is_whole}
use Rattle.dma_buddy.specs.Regions.{RefusesAt}
use Rattle.desk_law.specs.declared.refused.Kind.{Kind}
use Rattle.desk_law.specs.declared.refused.Kind.TheVariants.{NoUnit, CdbLength, TooManySegments, NoSegment, ZeroSegment, TooLarge, Direction as OtherDirection, TooShort}
use Rattle.desk_law.specs.declared.refused.Refused.{Refused}
use Rattle.desk_law.specs.declared.refused.Refused.TheVariants.{LunFull, RegionFull, BadRequest}
use Rattle.desk_law.specs.Desk.{DeskState, unit, live_count}

abbrev pub has_no_data : Direction → Bool
has_no_data NoData = true
has_no_data _ = false

abbrev pub is_same_direction : Direction → Direction → Bool
is_same_direction In In = true
is_same_direction Out Out = true
is_same_direction NoData NoData = true
is_same_direction _ _ = false

abbrev pub need : RequestData → Need
need r = need_of (command r)

-- the command needs bytes and goes another way, or there are segments without data
abbrev pub goes_elsewhere : RequestData → Bool
goes_elsewhere r =
    (nat_lt 0 (need r).bytes && not (is_same_direction (need r).direction r.direction)) || (has_no_data r.direction && nat_lt 0 (length r.segments))

-- what may be wrong with a request, in the order of the tests
abbrev pub faults : List RigUnit → RequestData → List (Bool × Kind)
faults units r =
    (nat_le (length units) r.unit, NoUnit) ∷ (not (is_whole r.cdb), CdbLength) ∷ (nat_lt 16 (length r.segments), TooManySegments) ∷
    (not (has_no_data r.direction) && length r.segments == 0, NoSegment) ∷ (list_any (λ (n : ℕ). n == 0) r.segments, ZeroSegment) ∷
    (nat_lt 65536 (sum r.segments), TooLarge) ∷ (goes_elsewhere r, OtherDirection) ∷
    (nat_lt (sum r.segments) (need r).bytes, TooShort (need r).bytes (sum r.segments)) ∷ []

-- the first of them that is
abbrev pub kind_of : List RigUnit → RequestData → Option Kind
kind_of units r = option_map (λ (f : Bool × Kind). f.1) (find (λ (f : Bool × Kind). f.0) (faults units r))

-- as many tickets of the unit live as its depth
abbrev pub is_full : DeskState → ℕ → Bool
is_full d u = nat_le (unit d u).depth (live_count d u)

-- A refusal comes exactly so: a bad request first, then a full unit, then a length for which no chunk is free at its turn.
abbrev pub Refuses : DeskState → RequestData → Refused → Type 0
Refuses d r (BadRequest k) = kind_of d.units r ≡ Some k
Refuses d r (LunFull depth) = (kind_of d.units r ≡ None) × (is_full d r.unit ≡ true) × (depth ≡ (unit d r.unit).depth)
Refuses d r (RegionFull len) = (kind_of d.units r ≡ None) × (is_full d r.unit ≡ false) × RefusesAt d.space r.segments len
