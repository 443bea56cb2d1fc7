use Rattle.std.proofs.Common.{drop, Option}
use Rattle.rig_types.specs.declared.step.Step.{Step}
use Rattle.run_law.specs.Serial.{IsFirst}
use Rattle.serial_run.specs.Histories.{tried}
use Rattle.serial_run.proofs.choices.first_enabled.Given as goal

-- what is first of the tries from here on is first of all
abbrev pub invariant-loop-held : goal.invariant-loop-held
invariant-loop-held l =
    (first : Option Step) → IsFirst l.bench.setting l.bench.world l.caller (tried (drop l.held-index l.tries)) first
    → IsFirst l.bench.setting l.bench.world l.caller (tried l.tries) first
