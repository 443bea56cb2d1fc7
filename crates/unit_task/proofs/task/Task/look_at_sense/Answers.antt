use Rattle.unit_task.proofs.SoundTasks.{looked-sound, sends-unreceived}
use Rattle.unit_task.proofs.task.Task.look_at_sense.Goals as goal

pub keep_sense-requires-clause-nothing : goal.keep_sense-requires-clause-nothing
keep_sense-requires-clause-nothing c = sends-unreceived _ _ c.requires.sends c.requires.sound

pub returns-clause-sound : goal.returns-clause-sound
returns-clause-sound c = rw c.keep_sense.ensures (looked-sound _ _ _ _ c.requires.sends c.requires.first c.requires.sound)
