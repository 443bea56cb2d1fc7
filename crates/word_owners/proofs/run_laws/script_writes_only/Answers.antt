use Rattle.word_owners.proofs.BufferWrites.{script_writes_only}
use Rattle.word_owners.proofs.run_laws.script_writes_only.Goals as goal

abbrev pub returns : goal.returns
returns c = script_writes_only
