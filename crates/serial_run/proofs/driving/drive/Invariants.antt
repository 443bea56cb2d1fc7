use Rattle.std.proofs.Common.{◌-◌, ◌^◌, length}
use Rattle.serial_run.proofs.Rounds.{IsUnderWay}
use Rattle.serial_run.proofs.driving.drive.Given as goal

abbrev pub invariant-loop-bench : goal.invariant-loop-bench
invariant-loop-bench l = IsUnderWay l.fn.bench.setting l.seed l.word l.bench

-- the list grows in every round, and its length is a u32
abbrev pub decreases-loop-bench : goal.decreases-loop-bench
decreases-loop-bench l = 2 ^ 32 - length l.bench.entries
