-- The worked rows, computed.
use Rattle.std.proofs.Common.{refl}
use Rattle.bench_words.specs.Memory.{word_at, put_word, put_bytes, bytes_at}
use Rattle.unit_law.specs.Log.{tally}
use Rattle.phase_fix.specs.Moves.{move_at}
use Rattle.target_law.specs.Target.{unit_at}
use Rattle.target_law.specs.Calls.{target_reselected, answers}
use Rattle.run_law.specs.Rows.{RequestRows, TagRows, BlockRows, TakingRows, ResidualRows, RingRows, TailRows, OwnerRows, WordRows, ReaperRow, BoundRows, HistoryRows, CandidateRows}

pub requests : RequestRows
requests = refl

pub tags : TagRows
tags = (refl, refl, refl, refl, refl, refl)

pub blocks : BlockRows
unfolding word_at put_word put_bytes bytes_at
blocks = (refl, refl, refl)

pub taking : TakingRows
unfolding word_at put_word put_bytes
taking = (refl, refl, refl, refl, refl, refl, refl, refl, refl, refl)

pub residuals : ResidualRows
unfolding word_at put_word put_bytes move_at
residuals = (refl, refl, refl, refl)

pub rings : RingRows
rings = (refl, refl, refl, refl, refl, refl, refl)

pub tails : TailRows
tails = (refl, refl, refl, refl)

pub owners : OwnerRows
owners = refl

pub words : WordRows
words = (refl, refl, refl, refl)

pub reaper : ReaperRow
unfolding word_at
reaper = refl

pub bounds : BoundRows
bounds c = (refl, refl, refl)

pub histories : HistoryRows
unfolding tally
histories = (refl, refl, refl, refl, refl, refl, refl, refl, refl, refl)

pub candidates : CandidateRows
unfolding unit_at target_reselected answers
candidates = (refl, refl, refl, refl, refl, refl, refl, refl)
