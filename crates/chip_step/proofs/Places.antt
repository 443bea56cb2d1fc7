-- The places that instructions name are places of the register file.
use Rattle.std.proofs.Common.{ℕ, ◌+◌, ◌<◌, IsTrue, arith}
use Rattle.std.proofs.lemmas.Bool.Decides.{nat_tests}
use Rattle.scripts_ops.specs.Table.{is_written, is_read, IsPart}
use Rattle.chip_regs.specs.Registers.{is_place}

pub written_place : (r : ℕ) → IsTrue (is_written r) → IsTrue (is_place r)
written_place r h = grind (arith, nat_tests)

pub read_place : (r : ℕ) → IsTrue (is_read r) → IsTrue (is_place r)
read_place r h = grind (arith, nat_tests)

pub part_place : (r n i : ℕ) → IsPart r n → i < n → IsTrue (is_place (r + i))
part_place r n i p h = grind (arith, nat_tests)
