-- The program's command, as the definitions' one. No public contract rests on these.
use Rattle.sym_top.specs.CommandLine.{Command, one, asm, list, step, replay, load}
use Rattle.sym_top.specs.declared.commands.Command.{Command as Read}
use Rattle.sym_top.specs.declared.commands.Command.TheVariants.{One, Asm, List, Step, Replay, Load}

abbrev pub asked : Read → Command
asked (One lba) = one lba
asked (Asm file out) = asm file.now out.now
asked (List file) = list file.now
asked (Step rig work seed trace) = step rig.now work.now seed trace.now
asked (Replay rig work trace) = replay rig.now work.now trace.now
asked (Load numbers) = load numbers.count numbers.seed
