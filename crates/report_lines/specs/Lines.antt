-- The lines of one report. Numbers are decimal without leading zeros; bytes are two lower-case hexadecimal digits each.
-- Every line ends with a line feed. The format is this project's own.
use Rattle.std.specs.Prelude.{ℕ, zero, suc, ◌+◌, ◌/◌, ◌%◌, List, [], ◌∷◌, ◌++◌, length, take, drop, false, codes, decimal}
use Rattle.std.specs.Fmt.{digit_glyph}
use Rattle.scsi_words.specs.declared.phases.kinds.Direction.{Direction}
use Rattle.scsi_words.specs.declared.phases.kinds.Direction.TheVariants as direction
use Rattle.rig_types.specs.declared.report.Report.{Report}
use Rattle.rig_types.specs.declared.report.Outcome.{Outcome}
use Rattle.rig_types.specs.declared.report.Outcome.TheVariants.{Done, Cut, Reset, NoTarget, Broken}

abbrev pub hex_bytes : List ℕ → List ℕ
hex_bytes [] = []
hex_bytes (b ∷ bs) = digit_glyph false (b / 16) ∷ digit_glyph false (b % 16) ∷ hex_bytes bs

abbrev pub outcome_word : Outcome → List ℕ
outcome_word Done = codes "done"
outcome_word Cut = codes "cut"
outcome_word Reset = codes "reset"
outcome_word NoTarget = codes "notarget"
outcome_word Broken = codes "broken"

-- the status byte of a command that is done; any other has none
abbrev pub status_text : Outcome → ℕ → List ℕ
status_text Done status = hex_bytes (status ∷ [])
status_text _ status = codes "--"

abbrev pub line_front : ℕ → ℕ → ℕ → List ℕ → List ℕ
line_front ticket target lun word = codes "report " ++ decimal ticket ++ codes " unit " ++ decimal target ++ codes "." ++ decimal lun ++ codes " " ++ word ++ codes " status "

abbrev pub line_back : ℕ → ℕ → List ℕ
line_back residual tries = codes " residual " ++ decimal residual ++ codes " tries " ++ decimal tries ++ codes "\n"

abbrev pub report_line : ℕ → ℕ → Report → List ℕ
report_line target lun r = line_front r.ticket target lun (outcome_word r.outcome) ++ status_text r.outcome r.status ++ line_back r.residual r.tries

-- no line for an empty sense
abbrev pub sense_line : List ℕ → List ℕ
sense_line [] = []
sense_line (b ∷ bs) = codes "sense " ++ hex_bytes (b ∷ bs) ++ codes "\n"

-- one row, after its offset in six hexadecimal digits
unfoldable pub data_line : ℕ → List ℕ → List ℕ
data_line offset row =
    codes "data " ++ hex_bytes (offset / 65536 % 256 ∷ offset / 256 % 256 ∷ offset % 256 ∷ []) ++ codes " " ++ hex_bytes row ++ codes "\n"

-- so many rows of 32 bytes, of which the last may be shorter
abbrev pub data_rows : ℕ → ℕ → List ℕ → List ℕ
data_rows zero offset bytes = []
data_rows (suc more) offset bytes = data_line offset (take 32 bytes) ++ data_rows more (offset + 32) (drop 32 bytes)

abbrev pub row_count : ℕ → ℕ
row_count count = (count + 31) / 32

abbrev pub data_text : List ℕ → List ℕ
data_text bytes = data_rows (row_count (length bytes)) 0 bytes

-- only a command that reads shows its buffer
abbrev pub buffer_text : Direction → List ℕ → List ℕ
buffer_text direction.In bytes = data_text bytes
buffer_text _ bytes = []

abbrev pub report_part : ℕ → ℕ → Direction → Report → List ℕ
report_part target lun direction r = report_line target lun r ++ sense_line r.sense ++ buffer_text direction r.bytes
