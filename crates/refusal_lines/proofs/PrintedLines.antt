-- A line is printed by `write_all`.
use Rattle.std.proofs.Common.{◌≡◌, ℕ, List, Option, take, Result, Ok, Err, OnOk, OnErr, inl, inr, subst}
use Rattle.std.specs.Io.KnownBytes.{Appends}
use Rattle.sym_io.specs.Causes.{Rose}
use Rattle.refusal_lines.specs.Refusals.{Prints}

pub prints : {E : Type 0} (line : List ℕ) (written : Option (List ℕ)) (faults : ℕ) (written' : Option (List ℕ)) (faults' : ℕ) (r : Result (Unit {0}) E) → OnOk r (Appends written written' line) → OnErr r ((count : ℕ) × Appends written written' (take count line)) → OnErr r (Rose faults faults') → Prints line written faults written' faults'
prints line written faults written' faults' (Ok done) whole part failed = inl whole
prints line written faults written' faults' (Err e) whole part failed = inr (failed, part)

pub prints_as : {E : Type 0} (bytes line : List ℕ) → bytes ≡ line → (written : Option (List ℕ)) (faults : ℕ) (written' : Option (List ℕ)) (faults' : ℕ) (r : Result (Unit {0}) E) → OnOk r (Appends written written' bytes) → OnErr r ((count : ℕ) × Appends written written' (take count bytes)) → OnErr r (Rose faults faults') → Prints line written faults written' faults'
prints_as bytes line e written faults written' faults' r whole part failed =
    subst (λ (l : List ℕ). Prints l written faults written' faults') e (prints bytes written faults written' faults' r whole part failed)
