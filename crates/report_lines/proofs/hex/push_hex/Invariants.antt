use Rattle.std.proofs.Common.{◌≡◌, ◌++◌, drop}
use Rattle.report_lines.specs.Lines.{hex_bytes}
use Rattle.report_lines.proofs.hex.push_hex.Given as goal

abbrev pub invariant-loop-byte : goal.invariant-loop-byte
invariant-loop-byte l = l.text.items ++ hex_bytes (drop l.byte-index l.bytes) ≡ l.initial.text.items ++ hex_bytes l.bytes
