-- That a text is read in one way. Own.
use Rattle.std.specs.Prelude.{◌≡◌, ◌⊎◌, ℕ, List}
use Rattle.trace_text.specs.declared.types.TraceLine.{TraceLine}
use Rattle.trace_text.specs.Grammar.{IsTrace, IsFirstFault}

-- Bytes are the trace of one list of lines, or have one first fault, and not both.
pub record OneReading (version : ℕ) (bytes : List ℕ) : Type 0 where
  pub some : ((ls : List TraceLine) × IsTrace version bytes ls) ⊎ ((n : ℕ) × IsFirstFault version bytes n)
  pub lines : (ls ms : List TraceLine) → IsTrace version bytes ls → IsTrace version bytes ms → ls ≡ ms
  pub fault : (m n : ℕ) → IsFirstFault version bytes m → IsFirstFault version bytes n → m ≡ n
  pub either : (ls : List TraceLine) (n : ℕ) → IsTrace version bytes ls → IsFirstFault version bytes n → ⊥
