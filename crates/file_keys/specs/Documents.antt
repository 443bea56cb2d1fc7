-- The table that a file is, as the crate `toml` reads a text.
use Rattle.std.specs.Prelude.{◌≡◌, ℕ, List, [], Some, IsUtf8}
use Rattle.rig_types.specs.declared.fault.BadKind.TheVariants.{NotToml}
use Rattle.rig_types.specs.declared.fault.ReadFault.{ReadFault}
use Rattle.rig_types.specs.declared.fault.ReadFault.TheVariants.{Bad, OutOfMemory}
use Rattle.toml.specs.Data.{Members}
use Rattle.toml.specs.Parse.{parse_document}
use Rattle.file_keys.specs.Faults.{Fault, Fails}
use Rattle.std.specs.Prelude.{Option, None, Result, Ok, Err, ◌⊎◌}

-- the bytes are a text that TOML reads as this table
pub record IsDocument (bytes : List ℕ) (ms : Members) : Type 0 where
  pub utf8 : IsUtf8 bytes
  pub table : parse_document bytes ≡ Some ms

-- the bytes are no table
abbrev pub IsNoDocument : List ℕ → Type 0
IsNoDocument bytes = (ms : Members) → IsDocument bytes ms → ⊥

-- the answer is NotToml at the empty key, of bytes that are no table, or want of memory
abbrev pub RefusesText : ReadFault → List ℕ → Type 0
RefusesText (Bad key kind) bytes = (key ≡ []) × (kind ≡ NotToml) × IsNoDocument bytes
RefusesText OutOfMemory bytes = Unit {0}

-- What a file reads as, by the first fault of its table: NotToml at the empty key where it is no table,
-- else the table's first fault, else the value of the table.
abbrev pub ReadsFile : {A : Type 0} → Result A ReadFault → List ℕ → (Members → Option Fault) → (Members → A → Type 0) → Type 0
ReadsFile (Ok x) bytes fault P = (ms : Members) × IsDocument bytes ms × (fault ms ≡ None) × P ms x
ReadsFile (Err e) bytes fault P = RefusesText e bytes ⊎ ((ms : Members) × IsDocument bytes ms × Fails e (fault ms))
