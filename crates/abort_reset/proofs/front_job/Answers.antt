use Rattle.std.proofs.Common.{◌≡◌, arith}
use Rattle.abort_reset.specs.Patches.{job_at_front}
use Rattle.abort_reset.proofs.PatchLaws.{job_at_front_is}
use Rattle.abort_reset.proofs.front_job.Goals as goal

pub returns-clause-words : goal.returns-clause-words
returns-clause-words c =
    let e : c.set.new.self ≡ job_at_front c.args.words.now c.args.target = cc in
    rw e (job_at_front_is c.args.words.now c.args.target c.requires (omega arith))
