use Rattle.unit_task.proofs.SoundTasks.{looked-sound, sends-unreceived}
use Rattle.unit_task.proofs.Ends.{others-looked}
use Rattle.unit_task.proofs.task.Task.look.Goals as goal

pub keep_answer-requires-clause-nothing : goal.keep_answer-requires-clause-nothing
keep_answer-requires-clause-nothing c = sends-unreceived _ _ c.requires.sends c.requires.sound

pub returns-clause-sound : goal.returns-clause-sound
returns-clause-sound c = rw c.keep_answer.ensures.task (looked-sound _ _ _ _ c.requires.sends c.requires.first c.requires.sound)

pub returns-clause-others : goal.returns-clause-others
returns-clause-others c = λ k w. rw c.keep_answer.ensures.unit (others-looked c.args.unit.now c.args.self.now c.requires.sends k w)
