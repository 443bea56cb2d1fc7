-- The program's command `run`, as the definitions' one. No public contract rests on it.
use Rattle.sym_top.specs.Running.{RunWords}
use Rattle.sym_top.specs.declared.run_command.RunCommand.{RunCommand}

abbrev pub run_asked : RunCommand → RunWords
run_asked c = record { rig = c.rig.now; work = c.work.now; seed = c.seed; trace = c.trace.now }
