use Rattle.std.proofs.Common.{◌≡◌, ◌∷◌, [], ℕ, List, length, refl, sym, ap, ◌∙◌, arith}
use Rattle.std.specs.Prelude.{sum}
use Rattle.std.proofs.lemmas.Grind.{common_steps}
use Rattle.cdb_codec.specs.Forms.{cdb_bytes}
use Rattle.serial_run.specs.Generated.{address_of, cdb_by, direction_by, filled, is_write}
use Rattle.serial_run.proofs.commands.request_by.Goals as goal

pub returns-clause-request : goal.returns-clause-request
returns-clause-request c =
    let cdb : c.in_ok-cdb.cdb ≡ cdb_bytes (cdb_by (is_write c.args.word) (address_of c.args.word)) = c.in_ok-cdb.ensures.bytes in
    let segments : c.of.result ≡ 4096 ∷ [] = grind (arith, common_steps) in
    let bytes : c.of-2.result ≡ filled c.args.number 4096 = c.of-2.ensures ∙ c.in_ok-bytes.ensures.bytes in
    let direction : c.direction_by.result ≡ direction_by (is_write c.args.word) = c.direction_by.ensures in
    rw (cdb, segments, direction, bytes) refl

pub invariant_of-result : goal.invariant_of-result
invariant_of-result c =
    let segments : c.of.result ≡ 4096 ∷ [] = grind (arith, common_steps) in
    let count : length c.of-2.result ≡ 4096 = ap (λ (bytes : List ℕ). length bytes) c.of-2.ensures ∙ c.in_ok-bytes.ensures.count in
    record { whole = count ∙ sym (ap (λ (ns : List ℕ). sum ns) segments) }
