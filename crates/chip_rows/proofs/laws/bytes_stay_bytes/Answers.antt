use Rattle.chip_rows.proofs.Bytes.{steps_keep_bytes, lawful-fit}
use Rattle.chip_rows.proofs.laws.bytes_stay_bytes.Goals as goal

pub returns : goal.returns
returns g c = steps_keep_bytes g.B.Bus.moves (lawful-fit g.B.Bus.moves g.B.Bus.signals g.met.B.Bus.lawful)
