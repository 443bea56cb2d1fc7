-- What a reader answers: a value, the first fault, or want of memory. Own.
use Rattle.std.specs.Prelude.{◌≡◌, List, [], ◌∷◌, ℕ, Bool, Option, Some, None, Result, Ok, Err, if◌then◌else◌}
use Rattle.rig_types.specs.declared.fault.BadKind.{BadKind}
use Rattle.rig_types.specs.declared.fault.BadKind.TheVariants.{Clash}
use Rattle.rig_types.specs.declared.fault.ReadFault.{ReadFault}
use Rattle.rig_types.specs.declared.fault.ReadFault.TheVariants.{Bad, OutOfMemory}

-- a fault: the key's text, and what is wrong there
pub record Fault : Type 0 where
  pub key : List ℕ
  pub kind : BadKind

abbrev pub at : List ℕ → BadKind → Fault
at key kind = record { key = key; kind = kind }

-- a clash at a key, where there is one
abbrev pub clash : List ℕ → Bool → Option Fault
clash key b = if b then Some (at key Clash) else None

-- of two faults the earlier one counts
abbrev pub earlier : Option Fault → Option Fault → Option Fault
earlier None g = g
earlier (Some f) g = Some f

-- the first fault of some checks, in their order
abbrev pub first : List (Option Fault) → Option Fault
first [] = None
first (c ∷ []) = c
first (c ∷ d ∷ checks) = earlier c (first (d ∷ checks))

-- the answer is this fault, or memory ran out
abbrev pub IsFault : ReadFault → List ℕ → BadKind → Type 0
IsFault (Bad key kind) k b = (key ≡ k) × (kind ≡ b)
IsFault OutOfMemory k b = Unit {0}

-- the answer is the first fault, or memory ran out
abbrev pub Fails : ReadFault → Option Fault → Type 0
Fails (Bad key kind) found = found ≡ Some (at key kind)
Fails OutOfMemory found = Unit {0}

-- A value comes only where there is no fault, and an error is the first fault, or want of memory.
abbrev pub Reads : {A : Type 0} → Result A ReadFault → Option Fault → (A → Type 0) → Type 0
Reads (Ok x) found P = (found ≡ None) × P x
Reads (Err e) found P = Fails e found
