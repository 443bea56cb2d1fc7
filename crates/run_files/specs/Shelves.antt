-- A shelf before and after, by what it tells.
use Rattle.std.specs.Prelude.{◌≡◌, ◌<◌, ◌≤◌, ℕ, List, length, Option, IfSome}
use Rattle.sym_io.specs.ByName.{FilesByName, whole_file}
use Rattle.sym_io.specs.Causes.{Rose}

-- a shelf, by the files that it tells and its counts of loads and stores that failed
pub record Shelved : Type 0 where
  pub files : Option FilesByName
  pub loads : ℕ
  pub stores : ℕ

abbrev pub shelved : Option FilesByName → ℕ → ℕ → Shelved
shelved files loads stores = record { files = files; loads = loads; stores = stores }

-- no file is changed, and no load or store failed
pub record IsKept (s s' : Shelved) : Type 0 where
  pub files : s'.files ≡ s.files
  pub loads : s'.loads ≡ s.loads
  pub stores : s'.stores ≡ s.stores

-- a load failed: no file is changed, and no store failed
pub record FailsLoad (s s' : Shelved) : Type 0 where
  pub rose : Rose s.loads s'.loads
  pub stores : s'.stores ≡ s.stores
  pub files : s'.files ≡ s.files

-- the most bytes that a trace may have, and any other file
abbrev pub trace_limit : ℕ
trace_limit = 67108864

abbrev pub file_limit : ℕ
file_limit = 4194304

-- these are the bytes of a file within a limit, where the shelf tells them
pub record IsFile (limit : ℕ) (files : Option FilesByName) (name bytes : List ℕ) : Type 0 where
  pub within : length bytes ≤ limit
  pub whole : IfSome files (λ held. bytes ≡ whole_file held name)

-- a file exceeds a limit, where the shelf tells it
abbrev pub ExceedsLimit : ℕ → Option FilesByName → List ℕ → Type 0
ExceedsLimit limit files name = IfSome files (λ held. limit < length (whole_file held name))

-- a file is within a limit, where the shelf tells it
abbrev pub FitsLimit : ℕ → Option FilesByName → List ℕ → Type 0
FitsLimit limit files name = IfSome files (λ held. length (whole_file held name) ≤ limit)
