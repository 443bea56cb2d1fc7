-- The line on standard error for a fault of a file. The words are this project's own.
use Rattle.std.specs.Prelude.{ℕ, List, [], ◌∷◌, ◌++◌, codes}
use Rattle.std.specs.Fmt.{decimal}
use Rattle.rig_types.specs.declared.fault.BadKind.{BadKind}
use Rattle.rig_types.specs.declared.fault.BadKind.TheVariants as kinds
use Rattle.refusal_lines.specs.declared.fault.Fault.{Fault}
use Rattle.refusal_lines.specs.declared.fault.Fault.TheVariants as faults

abbrev pub kind_word : BadKind → List ℕ
kind_word kinds.NotToml = codes "nottoml"
kind_word kinds.Missing = codes "missing"
kind_word kinds.WrongType = codes "wrongtype"
kind_word kinds.OutOfRange = codes "range"
kind_word kinds.Clash = codes "clash"
kind_word kinds.Unknown = codes "unknown"

abbrev pub file_line : (file word : List ℕ) → List ℕ
file_line file word = codes "bad " ++ file ++ codes " " ++ word ++ codes "\n"

abbrev pub line_at : (file key word : List ℕ) → List ℕ
line_at file key word = codes "bad " ++ file ++ codes " " ++ key ++ codes " " ++ word ++ codes "\n"

-- the empty key is left out
abbrev pub key_line : (file key : List ℕ) → BadKind → List ℕ
key_line file [] kind = file_line file (kind_word kind)
key_line file (c ∷ cs) kind = line_at file (c ∷ cs) (kind_word kind)

abbrev pub source_line : (line fault : ℕ) → List ℕ
source_line line fault = codes "bad source line " ++ decimal line ++ codes " fault " ++ decimal fault ++ codes "\n"

abbrev pub trace_line : ℕ → List ℕ
trace_line line = codes "bad trace line " ++ decimal line ++ codes "\n"

abbrev pub unknown_step : ℕ → List ℕ
unknown_step step = codes "bad trace step " ++ decimal step ++ codes " unknown\n"

abbrev pub trace_step : ℕ → List ℕ
trace_step step = codes "bad trace step " ++ decimal step ++ codes "\n"

abbrev pub fault_line : Fault → List ℕ
fault_line (faults.Rig key kind) = key_line (codes "rig") key kind
fault_line (faults.Work key kind) = key_line (codes "work") key kind
fault_line (faults.Source line fault) = source_line line fault
fault_line (faults.TraceLine line) = trace_line line
fault_line (faults.UnknownStep step) = unknown_step step
fault_line (faults.TraceStep step) = trace_step step
fault_line faults.NotDrained = codes "bad trace not drained\n"
