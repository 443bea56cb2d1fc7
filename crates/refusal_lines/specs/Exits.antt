-- The statuses of the process.
use Rattle.std.specs.Prelude.{ℕ}
use Rattle.refusal_lines.specs.declared.exit.Exit.{Exit}
use Rattle.refusal_lines.specs.declared.exit.Exit.TheVariants as exits

abbrev pub number_of : Exit → ℕ
number_of exits.Ok = 0
number_of exits.Usage = 2
number_of exits.ReadFault = 3
number_of exits.WriteFault = 4
number_of exits.OutOfMemory = 5
number_of exits.BadRig = 6
number_of exits.BadWork = 7
number_of exits.BadSource = 8
number_of exits.BadTrace = 9
number_of exits.StepLimit = 10
number_of exits.TooLong = 11
