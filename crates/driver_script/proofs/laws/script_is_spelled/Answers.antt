use Rattle.driver_script.proofs.ScriptLaws.{loaded_spelled, keeps_script}
use Rattle.driver_script.proofs.laws.script_is_spelled.Goals as goal

pub returns : goal.returns
returns c = record { spells = loaded_spelled; keeps = keeps_script }
