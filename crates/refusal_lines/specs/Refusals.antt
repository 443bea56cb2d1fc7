-- What comes of a refusal: the status, and the line on standard error.
use Rattle.std.specs.Prelude.{◌≡◌, ◌⊎◌, ℕ, Option, List, take, codes}
use Rattle.std.specs.Io.KnownBytes.{Appends}
use Rattle.sym_io.specs.Causes.{Rose}
use Rattle.refusal_lines.specs.Lines.{fault_line}
use Rattle.refusal_lines.specs.declared.exit.Exit.{Exit}
use Rattle.refusal_lines.specs.declared.exit.Exit.TheVariants as exits
use Rattle.refusal_lines.specs.declared.fault.Fault.{Fault}
use Rattle.refusal_lines.specs.declared.fault.Fault.TheVariants as faults
use Rattle.refusal_lines.specs.declared.refusal.Refusal.{Refusal}
use Rattle.refusal_lines.specs.declared.refusal.Refusal.TheVariants as refusals

abbrev pub exit_of_fault : Fault → Exit
exit_of_fault (faults.Rig key kind) = exits.BadRig
exit_of_fault (faults.Work key kind) = exits.BadWork
exit_of_fault (faults.Source line fault) = exits.BadSource
exit_of_fault (faults.TraceLine line) = exits.BadTrace
exit_of_fault (faults.UnknownStep step) = exits.BadTrace
exit_of_fault (faults.TraceStep step) = exits.BadTrace
exit_of_fault faults.NotDrained = exits.BadTrace

abbrev pub exit_of : Refusal → Exit
exit_of refusals.Usage = exits.Usage
exit_of refusals.Read = exits.ReadFault
exit_of refusals.Write = exits.WriteFault
exit_of refusals.OutOfMemory = exits.OutOfMemory
exit_of (refusals.Bad fault) = exit_of_fault fault
exit_of refusals.StepLimit = exits.StepLimit
exit_of refusals.TooLong = exits.TooLong

abbrev pub line_of : Refusal → List ℕ
line_of refusals.Usage = codes "usage\n"
line_of refusals.Read = codes "read fault\n"
line_of refusals.Write = codes "write fault\n"
line_of refusals.OutOfMemory = codes "out of memory\n"
line_of (refusals.Bad fault) = fault_line fault
line_of refusals.StepLimit = codes "step limit\n"
line_of refusals.TooLong = codes "too long\n"

-- the refusal tells a fault of a file
abbrev pub TellsFault : Refusal → Type 0
TellsFault (refusals.Bad fault) = Unit {0}
TellsFault _ = ⊥

-- the refusal that is answered in the end: the same, or want of memory where the line of a file's fault couldn't be made
abbrev pub Stands : Refusal → Refusal → Type 0
Stands refusal answered = (answered ≡ refusal) ⊎ (TellsFault refusal × (answered ≡ refusals.OutOfMemory))

-- A line is printed: all of it, or where the sink's count of faults rose its first bytes.
abbrev pub Prints : List ℕ → Option (List ℕ) → ℕ → Option (List ℕ) → ℕ → Type 0
Prints line written faults written' faults' =
    Appends written written' line ⊎ (Rose faults faults' × ((count : ℕ) × Appends written written' (take count line)))

-- the line of a refusal is printed
abbrev pub Says : Refusal → Option (List ℕ) → ℕ → Option (List ℕ) → ℕ → Type 0
Says refusal written faults written' faults' = Prints (line_of refusal) written faults written' faults'
