use Rattle.word_owners.proofs.FreedSpaces.{free_owns}
use Rattle.word_owners.proofs.Spaces.{opening_owns, build_owns, stays_owned, buffers_owned}
use Rattle.word_owners.proofs.space_laws.space_is_owned.Goals as goal

pub returns : goal.returns
returns c = record { opening = opening_owns; build = build_owns; free = free_owns; others = stays_owned; buffers = buffers_owned }
