use Rattle.run_joined.proofs.Buffers.{buffers-fit}
use Rattle.run_joined.proofs.report_laws.buffers_fit_requests.Goals as goal

pub returns : goal.returns
returns c = buffers-fit
