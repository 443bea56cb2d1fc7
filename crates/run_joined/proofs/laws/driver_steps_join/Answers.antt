use Rattle.run_joined.proofs.DriverSteps.{driver-steps-join}
use Rattle.run_joined.proofs.laws.driver_steps_join.Goals as goal

pub returns : goal.returns
returns c = driver-steps-join
