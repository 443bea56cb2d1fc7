-- The first file of a name: where it stands, and what the files are after it is made other bytes.
use Rattle.std.proofs.Common.{◌≡◌, ℕ, suc, ◌<◌, ◌≤◌, Bool, true, false, cond, List, [], ◌∷◌, ◌++◌, length, get_or, set, refl, sym, ◌∙◌, Option, Some, None, arith, rules}
use Rattle.std.specs.Str.{bytes_eq}
use Rattle.std.proofs.Math.Path.{fun_ext}
use Rattle.std.proofs.lemmas.Slice.Eq.{bytes_eq-Decides}
use Rattle.sym_io.specs.ByName.{by_name, place_by_name, with_file}
use Rattle.sym_io.specs.declared.files.File.{File}

-- a name that is held has the bytes of the file at its place
pub by_name-held : (fs : List File) (name : List ℕ) (f : File) → place_by_name fs name < length fs → by_name fs name ≡ Some (get_or fs (place_by_name fs name) f).bytes
by_name-held [] name f h = absurd (omega (arith, h))
by_name-held (x ∷ fs) name f h =
    elim (bytes_eq x.name name) as (λ b. cond b 0 (suc (place_by_name fs name)) < suc (length fs) → cond b (Some x.bytes) (by_name fs name) ≡ Some (get_or (x ∷ fs) (cond b 0 (suc (place_by_name fs name))) f).bytes) [
      | true ↦ λ _. refl
      | false ↦ λ h. by_name-held fs name f (omega arith)
    ] h

-- a name that has no place isn't held
pub by_name-absent : (fs : List File) (name : List ℕ) → length fs ≤ place_by_name fs name → by_name fs name ≡ None
by_name-absent [] name h = refl
by_name-absent (x ∷ fs) name h =
    elim (bytes_eq x.name name) as (λ b. suc (length fs) ≤ cond b 0 (suc (place_by_name fs name)) → cond b (Some x.bytes) (by_name fs name) ≡ None) [
      | true ↦ λ h. absurd (omega arith)
      | false ↦ λ h. by_name-absent fs name (omega arith)
    ] h

-- two tests in either order, of names that differ
swapped : (a b c : List ℕ) (x y z : Option (List ℕ)) → bytes_eq a b ≡ false → cond (bytes_eq a c) x (cond (bytes_eq b c) y z) ≡ cond (bytes_eq b c) y (cond (bytes_eq a c) x z)
swapped a b c x y z ne =
    elim (bytes_eq a c) as (λ p. bytes_eq a c ≡ p → cond p x (cond (bytes_eq b c) y z) ≡ cond (bytes_eq b c) y (cond p x z)) [
      | true ↦ λ ea. elim (bytes_eq b c) as (λ q. bytes_eq b c ≡ q → x ≡ cond q y x) [
        | true ↦ λ eb.
            let same : a ≡ b = (bytes_eq-Decides a c).0 ea ∙ sym ((bytes_eq-Decides b c).0 eb) in
            let both : true ≡ false = sym ((bytes_eq-Decides a b).1 same) ∙ ne in
            absurd (search rules)
        | false ↦ λ _. refl
      ] refl
      | false ↦ λ _. refl
    ] refl

-- the same test twice
twice : (b : Bool) (x y z : Option (List ℕ)) → cond b x z ≡ cond b x (cond b y z)
twice true x y z = refl
twice false x y z = refl

-- a file at the place of its name
by_name-set : (fs : List File) (g : File) → place_by_name fs g.name < length fs → (other : List ℕ) → by_name (set fs (place_by_name fs g.name) g) other ≡ with_file (by_name fs) g.name g.bytes other
by_name-set [] g h other = absurd (omega (arith, h))
by_name-set (x ∷ fs) g h other =
    elim (bytes_eq x.name g.name) as (λ b. bytes_eq x.name g.name ≡ b → cond b 0 (suc (place_by_name fs g.name)) < suc (length fs) → by_name (set (x ∷ fs) (cond b 0 (suc (place_by_name fs g.name))) g) other ≡ cond (bytes_eq g.name other) (Some g.bytes) (cond (bytes_eq x.name other) (Some x.bytes) (by_name fs other))) [
      | true ↦ λ e h.
          let named : x.name ≡ g.name = (bytes_eq-Decides x.name g.name).0 e in
          rw named (twice (bytes_eq g.name other) (Some g.bytes) (Some x.bytes) (by_name fs other))
      | false ↦ λ e h.
          rw (by_name-set fs g (omega arith) other) (swapped x.name g.name other (Some x.bytes) (Some g.bytes) (by_name fs other) e)
    ] refl h

-- a file of a new name, at the end
by_name-push : (fs : List File) (g : File) → length fs ≤ place_by_name fs g.name → (other : List ℕ) → by_name (fs ++ g ∷ []) other ≡ with_file (by_name fs) g.name g.bytes other
by_name-push [] g h other = refl
by_name-push (x ∷ fs) g h other =
    elim (bytes_eq x.name g.name) as (λ b. bytes_eq x.name g.name ≡ b → suc (length fs) ≤ cond b 0 (suc (place_by_name fs g.name)) → cond (bytes_eq x.name other) (Some x.bytes) (by_name (fs ++ g ∷ []) other) ≡ cond (bytes_eq g.name other) (Some g.bytes) (cond (bytes_eq x.name other) (Some x.bytes) (by_name fs other))) [
      | true ↦ λ e h. absurd (omega arith)
      | false ↦ λ e h.
          rw (by_name-push fs g (omega arith) other) (swapped x.name g.name other (Some x.bytes) (Some g.bytes) (by_name fs other) e)
    ] refl h

-- the same for all names at once
pub set-with_file : (fs : List File) (at : ℕ) (g : File) → at ≡ place_by_name fs g.name → at < length fs → by_name (set fs at g) ≡ with_file (by_name fs) g.name g.bytes
set-with_file fs at g e h = rw e (fun_ext (by_name-set fs g (rw e at h)))

pub push-with_file : (fs : List File) (at : ℕ) (g : File) → at ≡ place_by_name fs g.name → length fs ≤ at → by_name (fs ++ g ∷ []) ≡ with_file (by_name fs) g.name g.bytes
push-with_file fs at g e h = fun_ext (by_name-push fs g (rw e at h))
