use Rattle.std.proofs.Common.{refl}
use Rattle.target_law.proofs.Rigs.{rigs-reselected, rigs-acted, rigs-messaged, rigs-acked, rigs-reset, rigs-begun, rigs-took, rigs-where_room}
use Rattle.target_law.proofs.laws.rigs_stay.Goals as goal

pub returns : goal.returns
returns c = record {
  selected = λ t. refl;
  reselected = λ lun n tag t. rigs-reselected t lun n tag;
  acted = λ m t. rigs-acted t m;
  asked = λ t. refl;
  sent = λ t. refl;
  taken = λ b t. refl;
  messaged = rigs-messaged;
  acked = rigs-acked;
  reset = rigs-reset;
  begun = λ ticket t. rigs-begun t ticket;
  took = λ live b t. rigs-took live t b;
  with_room = rigs-where_room;
}
