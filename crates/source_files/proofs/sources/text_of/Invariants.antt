use Rattle.std.proofs.Common.{◌≡◌, map, take, string_bytes}
use Rattle.source_files.specs.Sources.{read_as}
use Rattle.source_files.proofs.sources.text_of.Given as goal

abbrev pub invariant-loop-byte : goal.invariant-loop-byte
invariant-loop-byte l = string_bytes l.text ≡ map read_as (take l.byte-index l.source)
