use Rattle.bench_words.proofs.Bytes as law
use Rattle.bench_words.proofs.laws.bytes_stay_bytes.Goals as goal

pub returns : goal.returns
returns c = record { writes = law.writes_keep_bytes; reads = law.reads_bytes }
