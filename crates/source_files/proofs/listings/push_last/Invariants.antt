use Rattle.std.proofs.Common.{◌≡◌, ◌+◌, ◌<◌, ◌++◌, length}
use Rattle.source_files.specs.FileListing.{byte_lines}
use Rattle.source_files.proofs.listings.push_last.Given as goal

abbrev pub invariant-loop-bytes : goal.invariant-loop-bytes
invariant-loop-bytes l = record {
  within : l.address + length l.bytes < 4294967296;
  goes_on : l.out.items ++ byte_lines l.address l.bytes ≡ l.initial.out.items ++ byte_lines l.initial.address l.initial.bytes;
}

abbrev pub decreases-loop-bytes : goal.decreases-loop-bytes
decreases-loop-bytes l = length l.bytes
