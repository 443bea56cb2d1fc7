-- The line of a fault at a key, by whether the key is empty.
use Rattle.std.proofs.Common.{◌≡◌, ◌≢◌, ℕ, List, [], ◌∷◌, refl}
use Rattle.rig_types.specs.declared.fault.BadKind.{BadKind}
use Rattle.refusal_lines.specs.Lines.{file_line, key_line, kind_word, line_at}

pub no_key : (file key : List ℕ) (kind : BadKind) → key ≡ [] → file_line file (kind_word kind) ≡ key_line file key kind
no_key file [] kind e = refl
no_key file (c ∷ cs) kind e = absurd cc

pub some_key : (file key : List ℕ) (kind : BadKind) → key ≢ [] → line_at file key (kind_word kind) ≡ key_line file key kind
some_key file [] kind n = absurd (n refl)
some_key file (c ∷ cs) kind n = refl
