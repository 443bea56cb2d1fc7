-- The report text: what became of the lines and acts of a work, the reports in their order, the blocks that differ from their opening, and the
-- totals. Numbers are decimal without leading zeros; every line ends with a line feed. The format is this project's own.
use Rattle.std.specs.Prelude.{ℕ, zero, suc, ◌+◌, ◌==◌, not, Bool, true, false, List, [], ◌∷◌, ◌++◌, length, take, drop, flat_map, count_by, slice_index_or, codes, decimal, Option, Some, None}
use Rattle.std.specs.List.{range_with_len, list_any}
use Rattle.rig_types.specs.declared.rig.Pattern.{Pattern}
use Rattle.rig_types.specs.declared.rig.Unit.{Unit as RigUnit}
use Rattle.rig_types.specs.declared.report.Report.{Report}
use Rattle.rig_types.specs.declared.report.Outcome.{Outcome}
use Rattle.rig_types.specs.declared.report.Outcome.TheVariants.{Done, Cut, Reset, NoTarget, Broken}
use Rattle.plain_lun.specs.Unit.{pattern_byte}
use Rattle.target_law.specs.Target.{LogicalUnit, unit_at}
use Rattle.bus_law.specs.Bus.{device_at}
use Rattle.desk_law.specs.declared.refused.Kind.{Kind}
use Rattle.desk_law.specs.declared.refused.Kind.TheVariants.{NoUnit, CdbLength, TooManySegments, NoSegment, ZeroSegment, TooLarge, Direction, TooShort}
use Rattle.desk_law.specs.declared.refused.Refused.{Refused as Refusal}
use Rattle.desk_law.specs.declared.refused.Refused.TheVariants.{LunFull, RegionFull, BadRequest}
use Rattle.desk_law.specs.Desk.{unit, ticket}
use Rattle.world_law.specs.declared.reply.Decided.{Decided}
use Rattle.world_law.specs.declared.reply.Decided.TheVariants.{Open, Accepted, Refused}
use Rattle.world_law.specs.declared.reply.Reply.{Reply}
use Rattle.world_law.specs.declared.reply.Reply.TheVariants.{Marked, TooLate, NeverAccepted, Started}
use Rattle.world_law.specs.World.{World}
use Rattle.report_lines.specs.Lines.{data_text, report_part}

-- ---- lines of the work

abbrev pub kind_word : Kind → List ℕ
kind_word NoUnit = codes "nounit"
kind_word CdbLength = codes "cdblength"
kind_word TooManySegments = codes "manysegments"
kind_word NoSegment = codes "nosegment"
kind_word ZeroSegment = codes "zerosegment"
kind_word TooLarge = codes "toolarge"
kind_word Direction = codes "direction"
kind_word (TooShort need has) = codes "tooshort"

-- the bytes that the command needs, and those of its segments
abbrev pub kind_numbers : Kind → List ℕ
kind_numbers (TooShort need has) = codes " " ++ decimal need ++ codes " " ++ decimal has
kind_numbers _ = []

abbrev pub refusal_text : Refusal → List ℕ
refusal_text (LunFull depth) = codes "lunfull " ++ decimal depth
refusal_text (RegionFull len) = codes "regionfull " ++ decimal len
refusal_text (BadRequest kind) = codes "bad " ++ kind_word kind ++ kind_numbers kind

abbrev pub line_name : (submitter number : ℕ) → List ℕ
line_name s n = codes "line " ++ decimal s ++ codes "." ++ decimal n

-- a line that is open isn't shown
abbrev pub line_text : (submitter number : ℕ) → Decided → List ℕ
line_text s n Open = []
line_text s n (Accepted t) = line_name s n ++ codes " ticket " ++ decimal t ++ codes "\n"
line_text s n (Refused r) = line_name s n ++ codes " refused " ++ refusal_text r ++ codes "\n"

-- the lines of a submitter from this number on, and of all submitters from this one on
abbrev pub lines_from : (submitter number : ℕ) → List Decided → List ℕ
lines_from s n [] = []
lines_from s n (d ∷ ds) = line_text s n d ++ lines_from s (n + 1) ds

abbrev pub work_from : (submitter : ℕ) → List (List Decided) → List ℕ
work_from s [] = []
work_from s (ds ∷ rest) = lines_from s 0 ds ++ work_from (s + 1) rest

-- ---- acts

abbrev pub act_line : (number : ℕ) → List ℕ → List ℕ
act_line k word = codes "act " ++ decimal k ++ codes " " ++ word ++ codes "\n"

-- an act has one of four answers
abbrev pub act_text : (number : ℕ) → Reply → List ℕ
act_text k Marked = act_line k (codes "marked")
act_text k TooLate = act_line k (codes "toolate")
act_text k NeverAccepted = act_line k (codes "never")
act_text k Started = act_line k (codes "started")
act_text k _ = []

abbrev pub acts_from : (number : ℕ) → List Reply → List ℕ
acts_from k [] = []
acts_from k (r ∷ rs) = act_text k r ++ acts_from (k + 1) rs

-- ---- reports

abbrev pub report_at : World → Report → List ℕ
report_at w r = report_part (unit w.desk r.unit).target (unit w.desk r.unit).lun (ticket w.desk r.ticket).direction r

-- ---- images

-- whether a block isn't as at the opening of its unit
abbrev pub is_changed : Pattern → (block : ℕ) → (bytes : List ℕ) → Bool
is_changed pattern b bytes = list_any (λ (i : ℕ). not (slice_index_or bytes i 0 == pattern_byte pattern b i)) (range_with_len 0 512)

-- the name of a block of a unit
abbrev pub image_name : (target lun block : ℕ) → List ℕ
image_name target lun b = codes "image " ++ decimal target ++ codes "." ++ decimal lun ++ codes " block " ++ decimal b ++ codes "\n"

abbrev pub image_text : (target lun block : ℕ) → (bytes : List ℕ) → List ℕ
image_text target lun b bytes = image_name target lun b ++ data_text bytes

abbrev pub image_if : (changed : Bool) → (target lun block : ℕ) → (bytes : List ℕ) → List ℕ
image_if true target lun b bytes = image_text target lun b bytes
image_if false target lun b bytes = []

-- so many blocks of a disk, from this one on
abbrev pub images_from : RigUnit → (count block : ℕ) → (disk : List ℕ) → List ℕ
images_from u zero b disk = []
images_from u (suc n) b disk = image_if (is_changed u.pattern b (take 512 disk)) u.target u.lun b (take 512 disk) ++ images_from u n (b + 1) (drop 512 disk)

abbrev pub disk_of : Option LogicalUnit → List ℕ
disk_of None = []
disk_of (Some u) = u.plain.disk

abbrev pub unit_images : World → RigUnit → List ℕ
unit_images w u = images_from u u.blocks 0 (disk_of (unit_at (device_at w.bus u.target).target.units u.lun))

-- ---- totals

abbrev pub is_done : Outcome → Bool
is_done Done = true
is_done _ = false

abbrev pub is_cut : Outcome → Bool
is_cut Cut = true
is_cut _ = false

abbrev pub is_reset : Outcome → Bool
is_reset Reset = true
is_reset _ = false

abbrev pub is_no_target : Outcome → Bool
is_no_target NoTarget = true
is_no_target _ = false

abbrev pub is_broken : Outcome → Bool
is_broken Broken = true
is_broken _ = false

-- one more, where this counts
abbrev pub plus : Bool → ℕ → ℕ
plus true n = n + 1
plus false n = n

-- how many reports have such an outcome
abbrev pub count_of : (Outcome → Bool) → List Report → ℕ
count_of is rs = count_by (λ (r : Report). is r.outcome) rs

abbrev pub totals_line : (reports done cut reset no_target broken : ℕ) → List ℕ
totals_line reports done cut reset no_target broken =
    codes "total reports " ++ decimal reports ++ codes " done " ++ decimal done ++ codes " cut " ++ decimal cut ++ codes " reset " ++ decimal reset
    ++ codes " notarget " ++ decimal no_target ++ codes " broken " ++ decimal broken ++ codes "\n"

abbrev pub totals_text : List Report → List ℕ
totals_text rs = totals_line (length rs) (count_of is_done rs) (count_of is_cut rs) (count_of is_reset rs) (count_of is_no_target rs) (count_of is_broken rs)

-- ---- the text

abbrev pub report_text : World → List ℕ
report_text w =
    work_from 0 w.lines ++ acts_from 0 w.acts ++ flat_map (report_at w) w.reports ++ flat_map (unit_images w) w.desk.units ++ totals_text w.reports
