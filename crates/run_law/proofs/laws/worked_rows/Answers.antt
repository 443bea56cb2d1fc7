use Rattle.run_law.proofs.Rows.{requests, tags, blocks, taking, residuals, rings, tails, owners, words, reaper, bounds, histories, candidates}
use Rattle.run_law.proofs.laws.worked_rows.Goals as goal

pub returns : goal.returns
returns c = record {
  requests = requests;
  tags = tags;
  blocks = blocks;
  taking = taking;
  residuals = residuals;
  rings = rings;
  tails = tails;
  owners = owners;
  words = words;
  reaper = reaper;
  bounds = bounds;
  histories = histories;
  candidates = candidates;
}
