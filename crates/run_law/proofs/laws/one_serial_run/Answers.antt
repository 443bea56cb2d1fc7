use Rattle.run_law.proofs.SerialRuns.{serial_runs, serial_once}
use Rattle.run_law.proofs.laws.one_serial_run.Goals as goal

pub returns : goal.returns
returns c = record { run = serial_runs; once = serial_once }
