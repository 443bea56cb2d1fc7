-- That a file is read in one way.
use Rattle.std.specs.Prelude.{◌≡◌, ℕ, List, Some}
use Rattle.sym_io.specs.ByName.{FilesByName}
use Rattle.refusal_lines.specs.declared.fault.Fault.{Fault}
use Rattle.run_files.specs.Loading.{HasRig, HasTrace, HasWork, RigFails, TraceFails, WorkFails}

-- there is one value at most, one fault at most, and not both
pub record OneOf {A : Type 0} (Has : A → Type 0) (Fails : Fault → Type 0) : Type 0 where
  pub value : (a b : A) → Has a → Has b → a ≡ b
  pub either : (a : A) (f : Fault) → Has a → Fails f → ⊥
  pub fault : (e f : Fault) → Fails e → Fails f → e ≡ f

abbrev pub OneRig : Type 0
OneRig = (held : FilesByName) (name : List ℕ) → OneOf (HasRig (Some held) name) (RigFails (Some held) name)

abbrev pub OneWork : Type 0
OneWork = (held : FilesByName) (name : List ℕ) → OneOf (HasWork (Some held) name) (WorkFails (Some held) name)

abbrev pub OneTrace : Type 0
OneTrace = (version : ℕ) (held : FilesByName) (name : List ℕ) → OneOf (HasTrace version (Some held) name) (TraceFails version (Some held) name)
