-- Files by name. A name is text, seen as its bytes; so is a file.
use Rattle.std.specs.Prelude.{ℕ, suc, List, [], ◌∷◌, Option, Some, None, if◌then◌else◌, unwrap_or}
use Rattle.std.specs.Str.{bytes_eq}
use Rattle.sym_io.specs.declared.files.File.{File}

-- the bytes of each name that is held
abbrev pub FilesByName : Type 0
FilesByName = List ℕ → Option (List ℕ)

-- the whole file, and no bytes for a name that isn't held
abbrev pub whole_file : FilesByName → List ℕ → List ℕ
whole_file files name = unwrap_or (files name) []

-- the same files, but this one is these bytes
abbrev pub with_file : FilesByName → List ℕ → List ℕ → FilesByName
with_file files name bytes = λ other. if bytes_eq name other then Some bytes else files other

-- the files of a list; of two with one name the first counts
abbrev pub by_name : List File → FilesByName
by_name [] name = None
by_name (f ∷ fs) name = if bytes_eq f.name name then Some f.bytes else by_name fs name

-- the index of the first file of this name, or the number of files where there is none
abbrev pub place_by_name : List File → List ℕ → ℕ
place_by_name [] name = 0
place_by_name (f ∷ fs) name = if bytes_eq f.name name then 0 else suc (place_by_name fs name)
