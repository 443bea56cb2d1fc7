use Rattle.target_session.proofs.Acts.{acted-sound, acted-others}
use Rattle.target_session.proofs.connection.Connection.act.Goals as goal

pub returns-clause-sound : goal.returns-clause-sound
returns-clause-sound c =
    rw (c.act_by_kind.ensures.core, c.act_by_kind.ensures.connection) (acted-sound c.args.m _ _ _ c.requires.sound c.requires.lawful.1.1)

pub returns-clause-others : goal.returns-clause-others
returns-clause-others c = λ k w. rw c.act_by_kind.ensures.core (acted-others c.args.m _ k w)
